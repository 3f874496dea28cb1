-- What each output's condition says.
use Rattle.std.proofs.Common.{◌≡◌, ℕ, zero, suc, ◌+◌, ◌<◌, Bool, true, false, List, [], ◌∷◌, ◌++◌, take, length, get_or, refl, sym, ap, ◌∙◌, subst, arith}
use Rattle.std.specs.Prelude.{◌&&◌}
use Rattle.std.proofs.lemmas.List.{take_more}
use Rattle.asp_model.specs.declared.program.Output.{Output}
use Rattle.asp_model.specs.Sets.{Atoms}
use Rattle.asp_model.specs.Holding.{all_hold}
use Rattle.asp_print.specs.Rows.{AreConditionsOf, IsConditionOf, shown_at}
use Rattle.asp_print.specs.declared.outputs.Condition.{Condition}

pub conditions-length : (atoms : Atoms) (os : List Output) (cs : List Condition) → AreConditionsOf atoms os cs → length cs ≡ length os
conditions-length atoms [] [] h = refl
conditions-length atoms [] (c ∷ cs) h = absurd h
conditions-length atoms (o ∷ os) [] h = absurd h
conditions-length atoms (o ∷ os) (c ∷ cs) h = let rest = conditions-length atoms os cs h.1 in omega (arith, rest)

-- one output more
pub conditions_more : (atoms : Atoms) (os : List Output) (i : ℕ) (o : Output) (cs : List Condition) (c : Condition) → i < length os →
    o ≡ get_or os i o → IsConditionOf atoms o.condition c → AreConditionsOf atoms (take i os) cs
    → AreConditionsOf atoms (take (i + 1) os) (cs ++ c ∷ [])
conditions_more atoms os i o cs c lt is one all =
    subst (λ (t : List Output). AreConditionsOf atoms t (cs ++ c ∷ [])) (sym (take_more os i o lt ∙ ap (λ (x : Output). take i os ++ x ∷ []) (sym is))) (pushed (take i os) cs all)
  where
    pushed : (xs : List Output) (ds : List Condition) → AreConditionsOf atoms xs ds → AreConditionsOf atoms (xs ++ o ∷ []) (ds ++ c ∷ [])
    pushed [] [] h = (one, tt)
    pushed [] (d ∷ ds) h = absurd h
    pushed (x ∷ xs) [] h = absurd h
    pushed (x ∷ xs) (d ∷ ds) h = (h.0, pushed xs ds h.1)

-- the output whose condition it is, and that it decides whether the output is shown
pub condition_at : (atoms : Atoms) (os : List Output) (cs : List Condition) (i : ℕ) (c : Condition) → i < length os → AreConditionsOf atoms os cs → c ≡ get_or cs i c
    → (o : Output) × ((S : Atoms) → shown_at S os i ≡ all_hold S o.condition) × IsConditionOf atoms o.condition c
condition_at atoms [] cs i c lt h at = absurd (omega arith)
condition_at atoms (o ∷ os) [] i c lt h at = absurd h
condition_at atoms (o ∷ os) (d ∷ ds) zero c lt h at = (o, λ S. refl, subst (IsConditionOf atoms o.condition) (sym at) h.0)
condition_at atoms (o ∷ os) (d ∷ ds) (suc i) c lt h at = condition_at atoms os ds i c (omega (arith, lt)) h.1 at

and_true : (b : Bool) → (b && true) ≡ b
and_true true = refl
and_true false = refl
