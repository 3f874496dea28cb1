use Rattle.std.proofs.Common.{◌+◌, [], length, ap, ◌∙◌, None}
use Rattle.std.proofs.lemmas.List.{length-replicate}
use Rattle.asp_checker.specs.Blocks.{known_with}
use Rattle.asp_checker.proofs.ChaseLaws.{root_first}
use Rattle.asp_checker.proofs.root.first_root.Goals as goal

pub returns : goal.returns
returns c =
    root_first c.args.compiled.now (known_with c.args.compiled.now [] c.args.rows.now None) (c.vars.result + 1)
    c.in_ok-values.values c.settle.new.values (ap (λ n. n + 1) c.vars.ensures.count) c.in_ok-values.ensures
    (ap length c.in_ok-values.ensures ∙ length-replicate (c.vars.result + 1) None) (rw c.none-listed.ensures at c.in_ok-settle.ensures)
