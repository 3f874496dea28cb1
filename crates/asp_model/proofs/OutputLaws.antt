-- Outputs in flat arrays: one more, and the one at a place.
use Rattle.std.proofs.Common.{◌≡◌, ℕ, ℤ, ◌<◌, ◌-◌, List, [], ◌∷◌, ◌++◌, length, get_or, sym, ap, ◌∙◌, subst, arith, length-append}
use Rattle.std.proofs.lemmas.List.{get_or_append_left, get_or-append_right}
use Rattle.asp_model.specs.declared.program.Output.{Output}
use Rattle.asp_model.specs.Stored.{output_of, outputs_of, AreOutputsStored}
use Rattle.asp_model.proofs.ZippedLaws.{zipped-push, AreZipped-push, zipped-same, AreZipped-weaker}

-- a condition more leaves the outputs as they were
kept : (conditions : List (List ℤ)) (condition : List ℤ) (ks : List ℕ) (texts : List (List ℕ)) → AreOutputsStored conditions ks texts →
    AreOutputsStored (conditions ++ condition ∷ []) ks texts × (outputs_of (conditions ++ condition ∷ []) ks texts ≡ outputs_of conditions ks texts)
kept conditions condition ks texts s = (
  AreZipped-weaker (λ k. k < length conditions) (λ k. k < length (conditions ++ condition ∷ [])) ks texts (λ k lt. omega (arith, lt, length-append conditions (condition ∷ []))) s,
  zipped-same (λ k. k < length conditions) (output_of conditions) (output_of (conditions ++ condition ∷ [])) ks texts
      (λ k text lt. ap (λ (c : List ℤ). let o : Output = record { text = text; condition = c } in o) (get_or_append_left conditions (condition ∷ []) [] k lt)) s,
)

pub outputs_kept : (conditions more : List (List ℤ)) (condition : List ℤ) (ks js : List ℕ) (texts others : List (List ℕ)) →
    more ≡ conditions ++ condition ∷ [] → js ≡ ks → others ≡ texts → AreOutputsStored conditions ks texts → AreOutputsStored more js others ×
    (outputs_of more js others ≡ outputs_of conditions ks texts)
outputs_kept conditions more condition ks js texts others conditions_are ks_are texts_are s =
    let both = kept conditions condition ks texts s in (
      subst (λ (c : List (List ℤ)). AreOutputsStored c js others) (sym conditions_are)
          (subst (λ (xs : List ℕ). AreOutputsStored (conditions ++ condition ∷ []) xs others) (sym ks_are)
          (subst (λ (ts : List (List ℕ)). AreOutputsStored (conditions ++ condition ∷ []) ks ts) (sym texts_are) both.0)),
      ap (λ (c : List (List ℤ)). outputs_of c js others) conditions_are
          ∙ ap (λ (xs : List ℕ). outputs_of (conditions ++ condition ∷ []) xs others) ks_are
          ∙ ap (λ (ts : List (List ℕ)). outputs_of (conditions ++ condition ∷ []) ks ts) texts_are
          ∙ both.1,
    )

pub outputs_more : (conditions more : List (List ℤ)) (condition : List ℤ) (ks js : List ℕ) (texts others : List (List ℕ)) (k : ℕ) (text : List ℕ) →
    more ≡ conditions ++ condition ∷ [] → k ≡ length conditions → js ≡ ks ++ k ∷ [] → others ≡ texts ++ text ∷ [] →
    AreOutputsStored conditions ks texts → AreOutputsStored more js others ×
    (outputs_of more js others ≡ outputs_of conditions ks texts ++ record { text = text; condition = condition } ∷ [])
outputs_more conditions more condition ks js texts others k text conditions_are k_is ks_are texts_are s =
    let whole = conditions ++ condition ∷ [] in
    let both = kept conditions condition ks texts s in
    let lt : k < length whole = omega (arith, k_is, length-append conditions (condition ∷ [])) in
    let last : get_or whole k [] ≡ condition =
    get_or-append_right conditions (condition ∷ []) k k [] (sym k_is) (omega arith)
    ∙ ap (λ (n : ℕ). get_or (condition ∷ []) n []) (let none : k - k ≡ 0 = omega arith in none) in (
      subst (λ (c : List (List ℤ)). AreOutputsStored c js others) (sym conditions_are)
          (subst (λ (xs : List ℕ). AreOutputsStored whole xs others) (sym ks_are)
          (subst (λ (ts : List (List ℕ)). AreOutputsStored whole (ks ++ k ∷ []) ts) (sym texts_are)
          (AreZipped-push (λ j. j < length whole) ks texts k text both.0 lt))),
      ap (λ (c : List (List ℤ)). outputs_of c js others) conditions_are
          ∙ ap (λ (xs : List ℕ). outputs_of whole xs others) ks_are
          ∙ ap (λ (ts : List (List ℕ)). outputs_of whole (ks ++ k ∷ []) ts) texts_are
          ∙ zipped-push (λ j. j < length whole) (output_of whole) ks texts k text both.0
          ∙ ap (λ (os : List Output). os ++ output_of whole k text ∷ []) both.1
          ∙ ap (λ (c : List ℤ). outputs_of conditions ks texts ++ record { text = text; condition = c } ∷ []) last,
    )
