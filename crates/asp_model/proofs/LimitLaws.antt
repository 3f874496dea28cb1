-- Steps until one changes nothing.
use Rattle.std.proofs.Common.{◌≡◌, ℕ, suc, ◌+◌, ◌-◌, ◌<◌, false, nat_eq, List, length, All, sym, ap, ◌∙◌, subst, arith, inl, inr}
use Rattle.std.specs.Cmp.Lexicographic.{pointwise, other_text}
use Rattle.asp_model.specs.declared.program.Rule.{Rule}
use Rattle.asp_model.specs.Sets.{Atoms, IsAscending, has, IsSubset}
use Rattle.asp_model.specs.Reduct.{Definite, reduct, steps, IsLimit, IsClosed}
use Rattle.asp_model.specs.Models.{head_atoms}
use Rattle.asp_model.specs.Sound.{HasBody}
use Rattle.asp_model.proofs.SetLaws.{same_from_has}
use Rattle.asp_model.proofs.MemberLaws.{count_in, count_in-new, count_in-le-length, subset_or_new, HasAll-flat_map, heads_of}
use Rattle.asp_model.proofs.StepLaws.{AreMonotone, HeadsAreIn, steps-rise, steps-in, steps-least, steps-closed, closed_from_step}
use Rattle.asp_model.proofs.ReductLaws.{reduct-monotone, reduct-heads, rules-weights}
use Rattle.asp_model.proofs.ModelLaws.{steps-ascend, same_bools}

-- the atoms that are still to come
abbrev pub missing : List Rule → Atoms → ℕ
missing rules T = length (heads_of rules) - count_in (heads_of rules) T

pub missing-falls : (S : Atoms) (rules : List Rule) (T U : Atoms) (n : ℕ) → All HasBody rules → T ≡ steps (reduct S rules) n →
    U ≡ steps (reduct S rules) (suc n) → pointwise nat_eq U T ≡ false → missing rules U < missing rules T
missing-falls S rules T U n sound t u other =
    let definite = reduct S rules in
    let monotone : AreMonotone definite = reduct-monotone S rules (rules-weights rules sound) in
    let heads : HeadsAreIn (heads_of rules) definite = reduct-heads (heads_of rules) S rules (HasAll-flat_map (λ (r : Rule). head_atoms r.head) rules) in
    let rise : IsSubset T U = subst (λ X. IsSubset X U) (sym t) (subst (IsSubset (steps definite n)) (sym u) (steps-rise definite n monotone)) in
    let within : IsSubset U (heads_of rules) = subst (λ X. IsSubset X (heads_of rules)) (sym u) (steps-in (heads_of rules) definite (suc n) heads) in
    let t_up : IsAscending T = subst IsAscending (sym t) (steps-ascend definite n) in
    let u_up : IsAscending U = subst IsAscending (sym u) (steps-ascend definite (suc n)) in
    elim (subset_or_new U T) [
      | inl sub ↦ absurd (other_text U T (sym other) (same_from_has U T u_up t_up (λ a. same_bools (has U a) (has T a) (sub a) (rise a))))
      | inr new ↦ omega (arith, count_in-new (heads_of rules) T U new.0 rise (within new.0 new.1) new.2 new.1, count_in-le-length (heads_of rules) U)
    ]

-- The limit is what one step more than there are atoms leads to.
pub limit-is : (L : List ℕ) (rules : List Definite) (T : Atoms) → AreMonotone rules → HeadsAreIn L rules → IsLimit rules T → T ≡ steps rules (length L + 1)
limit-is L rules T monotone heads limit =
    let last = length L + 1 in
    let closed : IsClosed rules T = closed_from_step rules T (λ a h. sym (ap (λ X. has X a) limit.fixed) ∙ h) in
    let under : IsSubset (steps rules last) T = steps-least rules last T monotone closed in
    let over : IsSubset T (steps rules last) =
    subst (λ X. IsSubset X (steps rules last)) (sym limit.reached)
    (steps-least rules limit.count (steps rules last) monotone (steps-closed L rules monotone heads)) in
    same_from_has T (steps rules last) (subst IsAscending (sym limit.reached) (steps-ascend rules limit.count)) (steps-ascend rules last) (λ a.
    same_bools (has T a) (has (steps rules last) a) (over a) (under a))
