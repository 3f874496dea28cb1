use Rattle.std.proofs.Common.{map, ap, subst, sym, ◌∙◌}
use Rattle.asp_rows.specs.declared.row.Row.{Row}
use Rattle.asp_rows.specs.Listed.{AreRows}
use Rattle.asp_core.proofs.CountLaws.{insert-rows, insert-sets}
use Rattle.asp_core.proofs.state.add_row.Goals as goal

pub returns-clause-ok : goal.returns-clause-ok
returns-clause-ok c =
    let atoms = c.args.atoms.now in
    let old = c.args.different.now.keys in
    record {
      rows = subst (AreRows atoms) (sym c.in_ok-insert.ensures.keys) (insert-rows atoms old c.args.row c.requires.rows c.requires.row);
      more = ap (map (λ (x : Row). x.set)) c.in_ok-insert.ensures.keys ∙ insert-sets atoms c.requires.ascending old c.args.row c.requires.rows c.requires.row;
    }
