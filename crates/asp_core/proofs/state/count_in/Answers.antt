use Rattle.std.proofs.Common.{◌<◌, subst, arith}
use Rattle.std.proofs.lemmas.Result.{on_ok_weaker}
use Rattle.asp_model.specs.Sets.{Atoms}
use Rattle.asp_rows.proofs.RowLaws.{row-of}
use Rattle.asp_core.specs.Stored.{Counts}
use Rattle.asp_core.proofs.state.count_in.Goals as goal

pub add_row-requires-clause-rows : goal.add_row-requires-clause-rows
add_row-requires-clause-rows c =
    let some : 0 < c.args.limit = omega (arith, c.if-limit-eq0.false) in
    c.requires.rows some

pub add_row-requires-clause-row : goal.add_row-requires-clause-row
add_row-requires-clause-row c = row-of c.args.atoms.now c.args.set.now c.in_ok-row.row (record { words = c.in_ok-row.ensures.words; set = c.in_ok-row.ensures.set }) c.requires.among

pub returns-clause-ok : goal.returns-clause-ok
returns-clause-ok c =
    on_ok_weaker c.add_row.result
    (λ counts some. subst (λ (S : Atoms). Counts c.args.atoms.now c.args.different.now.keys c.add_row.new.different.keys S) c.in_ok-row.ensures.set counts)
    c.add_row.ensures.ok
