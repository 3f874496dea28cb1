use Rattle.std.proofs.Common.{sym, ap, subst, ◌∙◌}
use Rattle.std.specs.Prelude.{Contains}
use Rattle.std.specs.List.{AllByRecursion}
use Rattle.asp_model.specs.Sets.{Atoms}
use Rattle.asp_rows.specs.Listed.{AreRows}
use Rattle.asp_checker.specs.Right.{promised}
use Rattle.asp_checker.proofs.promise.is_kept.Goals as goal

pub are_listed-requires-clause-rows : goal.are_listed-requires-clause-rows
are_listed-requires-clause-rows c =
    subst (λ (atoms : Atoms). AreRows atoms c.promised.result.now) c.requires.atoms (c.promised.ensures.rows c.args.found.now.atoms c.rows.ensures.rows)

pub returns-clause-yes : goal.returns-clause-yes
returns-clause-yes c = λ e.
    subst (AllByRecursion (Contains c.args.listed.now.sets)) (c.promised.ensures.sets ∙ ap (promised c.args.sought) c.rows.ensures.sets) (c.are_listed.ensures.yes e)

pub returns-clause-no : goal.returns-clause-no
returns-clause-no c = λ e all. c.are_listed.ensures.no e
    (subst (AllByRecursion (Contains c.args.listed.now.sets)) (sym (c.promised.ensures.sets ∙ ap (promised c.args.sought) c.rows.ensures.sets)) all)
