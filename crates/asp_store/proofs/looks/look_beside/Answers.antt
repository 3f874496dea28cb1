use Rattle.std.proofs.Common.{◌≡◌, List, Option, Bool, false, true, arith, subst}
use Rattle.asp_vars.specs.Literals.{holds_in, literal_eq}
use Rattle.asp_trail.specs.Trails.{IsVar}
use Rattle.asp_store.proofs.LookLaws.{all_has}
use Rattle.asp_store.proofs.looks.look_beside.Goals as goal

pub beside-requires : goal.beside-requires
beside-requires c = λ k d h. omega (arith, c.requires.small k d h, c.assignment.ensures.len)

pub watched-requires-clause-first_small : goal.watched-requires-clause-first_small
watched-requires-clause-first_small c = omega (arith, all_has (λ k. IsVar c.args.trail.now.vars k.var) c.args.lits.now c.args.first c.requires.small c.requires.has)

pub watched-requires-clause-second_small : goal.watched-requires-clause-second_small
watched-requires-clause-second_small c = omega (arith, all_has (λ k. IsVar c.args.trail.now.vars k.var) c.args.lits.now c.in-Some.second.lit c.requires.small c.in-Some.ensures.some.0)

pub watched-requires-clause-second_open : goal.watched-requires-clause-second_open
watched-requires-clause-second_open c = subst (λ (a : List (Option Bool)). holds_in a c.in-Some.second.lit ≡ false) c.assignment.ensures.values c.in-Some.ensures.some.2

pub look_at_last-requires-clause-others : goal.look_at_last-requires-clause-others
look_at_last-requires-clause-others c = λ k h ne.
    subst (λ (a : List (Option Bool)). holds_in a k ≡ true) c.assignment.ensures.values
    (all_has (λ l. literal_eq l c.args.first ≡ false → holds_in c.assignment.result.now l ≡ true) c.args.lits.now k c.in-None.ensures.none h ne)
