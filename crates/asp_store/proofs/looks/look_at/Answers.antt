use Rattle.std.proofs.Common.{◌≡◌, List, Option, Bool, true, false, refl, arith, subst}
use Rattle.asp_vars.specs.Literals.{holds_in}
use Rattle.asp_trail.specs.Entries.{assignment}
use Rattle.asp_store.proofs.LookLaws.{all_has, list_all_from}
use Rattle.asp_store.proofs.looks.look_at.Goals as goal

pub first_open-requires : goal.first_open-requires
first_open-requires c = λ k d h. omega (arith, c.requires.small k d h, c.assignment.ensures.len)

pub returns-in-None-clause-found : goal.returns-in-None-clause-found
returns-in-None-clause-found c = (
  refl,
  list_all_from (holds_in (assignment c.args.trail.now.vars c.args.trail.now.entries)) c.args.lits.now (λ k h. subst (λ (a : List (Option Bool)). holds_in a k ≡ true) c.assignment.ensures.values
      (all_has (λ l. holds_in c.assignment.result.now l ≡ true) c.args.lits.now k c.in-None.ensures.none h)),
)

pub look_beside-requires-clause-not_true : goal.look_beside-requires-clause-not_true
look_beside-requires-clause-not_true c = subst (λ (a : List (Option Bool)). holds_in a c.in-Some.first ≡ false) c.assignment.ensures.values c.in-Some.ensures.some.1
