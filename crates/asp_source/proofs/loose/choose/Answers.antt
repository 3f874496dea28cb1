use Rattle.std.proofs.Common.{◌≡◌, ℕ, ◌+◌, false, List, subst, arith}
use Rattle.std.specs.Prelude.{All, IfNone}
use Rattle.std.proofs.lemmas.List.{take_all}
use Rattle.asp_source.specs.Marks.{is_marked}
use Rattle.asp_source.proofs.loose.choose.Goals as goal

pub overflow_add-var : goal.overflow_add-var
overflow_add-var c = omega (arith, c.requires.few, c.requires.loose c.loop-place.place-index 0 c.loop-place-test.true)

pub returns-clause-none : goal.returns-clause-none
returns-clause-none c =
    subst (λ (ks : List ℕ). IfNone c.loop-place.chosen (All (λ k. is_marked c.args.loose.now (k + 1) ≡ false) ks))
    (take_all c.loop-place.place-index c.args.places.now (omega (arith, c.loop-place-test.false))) c.loop-place.invariant.0
