-- Both steps together: rules for atoms that are assumed false as constraints, and then the facts set aside.
use Rattle.std.proofs.Common.{◌≡◌, ℕ, Bool, true, false, not, List, [], ◌∷◌, map, filter, Some, refl, sym, ap, ◌∙◌, ℤ, subst, Contains}
use Rattle.std.specs.List.{AllByRecursion, list_any}
use Rattle.std.specs.Prelude.{option_map}
use Rattle.asp_model.specs.declared.program.Program.{Program}
use Rattle.asp_model.specs.declared.results.Reasoning.{Reasoning}
use Rattle.asp_model.specs.Sets.{Atoms, IsAscending, IsSubset, has}
use Rattle.asp_model.specs.Consequences.{consequences, consequences_of}
use Rattle.asp_model.specs.Costs.{IsOptimum, betters, cost, optima}
use Rattle.asp_model.specs.Models.{answers, atoms_of}
use Rattle.asp_model.specs.Sound.{IsSound}
use Rattle.asp_model.specs.Texts.{shown}
use Rattle.asp_model.proofs.SetLaws.{same_from_has}
use Rattle.asp_model.proofs.MemberLaws.{each-filter, each_weaker, one_passes}
use Rattle.asp_model.proofs.ModelLaws.{answers-are, stable-subset}
use Rattle.asp_settle.specs.Constraints.{constrained, denied_of}
use Rattle.asp_settle.specs.Settled.{facts_of, left_of, united, without}
use Rattle.asp_settle.proofs.LimitLaws.{atoms-constrained, sound-constrained}
use Rattle.asp_settle.proofs.ConstraintLaws.{answers-constrained}
use Rattle.asp_settle.proofs.StableLaws.{each-contained}
use Rattle.asp_settle.proofs.ResultLaws.{consequences-ascend, has-consequences, held-some, held_by, same_both}
use Rattle.asp_settle.proofs.FactLaws as facts
use Rattle.asp_settle.proofs.MentionLaws as mentioned
use Rattle.asp_settle.proofs.ResultLaws as results
use Rattle.asp_settle.proofs.SoundLaws as limits
use Rattle.asp_settle.proofs.TextLaws as texts

pub sound-first : (p : Program) → IsSound p → IsSound (constrained p)
sound-first p sound = sound-constrained (denied_of p) p sound

pub sound-left : (p : Program) → IsSound p → IsSound (left_of p)
sound-left p sound = limits.sound-left (constrained p) (sound-first p sound)

-- ---- facts
pub facts-ascend : (p : Program) → IsAscending (facts_of p)
facts-ascend p = facts.facts-ascend (constrained p)

pub facts-stand : (p : Program) → IsSubset (facts_of p) (atoms_of p)
facts-stand p a h = atoms-constrained (denied_of p) p a (mentioned.facts-stand (constrained p) a h)

pub facts-apart : (p : Program) (a : ℕ) → has (facts_of p) a ≡ true → has (atoms_of (left_of p)) a ≡ false
facts-apart p a fact = mentioned.facts-apart (constrained p) a fact

-- ---- answers
pub same-answers : (p : Program) → IsSound p → answers p ≡ map (united (facts_of p)) (answers (left_of p))
same-answers p sound = answers-constrained p sound ∙ results.same-answers (constrained p) (sound-first p sound)

pub shown-left : (p : Program) (S : Atoms) → shown p (united (facts_of p) S) ≡ shown (left_of p) S
shown-left p S = texts.shown-left (constrained p) S

pub cost-left : (p : Program) (S : Atoms) → cost p (united (facts_of p) S) ≡ cost (left_of p) S
cost-left p S = facts.cost-left (constrained p) S

optima-constrained : (p : Program) → IsSound p → optima p ≡ optima (constrained p)
optima-constrained p sound = ap (λ Ss. filter (λ S. not (list_any (λ T. betters (cost p T) (cost p S)) Ss)) Ss) (answers-constrained p sound)

pub optima-left : (p : Program) → IsSound p → optima p ≡ map (united (facts_of p)) (optima (left_of p))
optima-left p sound = optima-constrained p sound ∙ results.optima-left (constrained p) (sound-first p sound)

pub chosen-left : (p : Program) (chosen : Atoms → Bool) → IsSound p → map (united (facts_of p)) (filter chosen (answers (left_of p))) ≡ filter (λ S. chosen (without (facts_of p) S)) (answers p)
chosen-left p chosen sound = results.chosen-left (constrained p) chosen (sound-first p sound) ∙ ap (filter (λ S. chosen (without (facts_of p) S))) (sym (answers-constrained p sound))

pub optima-chosen : (p : Program) (chosen : Atoms → Bool) → IsSound p → map (united (facts_of p)) (filter chosen (optima (left_of p))) ≡ filter (λ S. chosen (without (facts_of p) S)) (optima p)
optima-chosen p chosen sound = results.optima-chosen (constrained p) chosen (sound-first p sound) ∙ ap (filter (λ S. chosen (without (facts_of p) S))) (sym (optima-constrained p sound))

pub optimum-left : (p : Program) (S : Atoms) (c : List ℤ) → IsSound p → IsOptimum (left_of p) S c → IsOptimum p (united (facts_of p) S) c
optimum-left p S c sound o =
    let best = results.optimum-left (constrained p) S c (sound-first p sound) o in
    record {
      answer = subst (λ Ss. Contains Ss (united (facts_of p) S)) (sym (answers-constrained p sound)) best.answer;
      sums = best.sums;
      least = ap (list_any (λ T. betters (cost p T) c)) (answers-constrained p sound) ∙ best.least;
    }

-- ---- what they have in common
abbrev HasAtoms : Program → Atoms → Type 0
HasAtoms p S = IsSubset S (atoms_of p)

held-stands : (w : Reasoning) (p : Program) (S : Atoms) (K : List Atoms) (a : ℕ) → AllByRecursion (HasAtoms p) (S ∷ K) → held_by w (S ∷ K) a ≡ true → has (atoms_of p) a ≡ true
held-stands w p S K a all h =
    one_passes (has (atoms_of p) a ≡ true) (λ T. has T a) (S ∷ K) (each_weaker (HasAtoms p) (λ T. has T a ≡ true → has (atoms_of p) a ≡ true) (λ T within. within a) (S ∷ K) all) (held-some w S K a h)

common-constrained : (w : Reasoning) (p : Program) (K : List Atoms) → AllByRecursion (HasAtoms (constrained p)) K → consequences_of w p K ≡ consequences_of w (constrained p) K
common-constrained w p [] all = refl
common-constrained w p (S ∷ K) all =
    let c = constrained p in
    ap (λ C. Some C) (same_from_has (consequences w p (S ∷ K)) (consequences w c (S ∷ K)) (consequences-ascend w p (S ∷ K)) (consequences-ascend w c (S ∷ K)) (λ a.
    has-consequences w p (S ∷ K) a
    ∙ same_both (held_by w (S ∷ K) a) (has (atoms_of c) a) (has (atoms_of p) a) (λ h. let there = held-stands w c S K a all h in (there, atoms-constrained (denied_of p) p a there))
    ∙ sym (has-consequences w c (S ∷ K) a)))

answers-within : (p : Program) → AllByRecursion (HasAtoms p) (answers p)
answers-within p = each-contained (HasAtoms p) (answers p) (λ S h. (stable-subset p S ((answers-are p S).0 h).0).1)

pub all-consequences : (p : Program) (w : Reasoning) → IsSound p → consequences_of w p (answers p) ≡ option_map (united (facts_of p)) (consequences_of w (left_of p) (answers (left_of p)))
all-consequences p w sound =
    ap (consequences_of w p) (answers-constrained p sound)
    ∙ common-constrained w p (answers (constrained p)) (answers-within (constrained p))
    ∙ results.all-consequences (constrained p) w (sound-first p sound)

pub consequences-left : (p : Program) (w : Reasoning) (chosen : Atoms → Bool) → IsSound p →
    consequences_of w p (map (united (facts_of p)) (filter chosen (answers (left_of p)))) ≡ option_map (united (facts_of p))
    (consequences_of w (left_of p) (filter chosen (answers (left_of p))))
consequences-left p w chosen sound =
    let c = constrained p in
    common-constrained w p (map (united (facts_of p)) (filter chosen (answers (left_of p))))
    (subst (AllByRecursion (HasAtoms c)) (sym (results.chosen-left c chosen (sound-first p sound)))
    (each-filter (HasAtoms c) (λ S. chosen (without (facts_of p) S)) (answers c) (answers-within c)))
    ∙ results.consequences-left c w chosen (sound-first p sound)
