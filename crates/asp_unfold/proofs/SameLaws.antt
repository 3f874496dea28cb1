-- The answers, what they cost and the optima are the same.
use Rattle.std.proofs.Common.{◌≡◌, ◌+◌, Bool, true, not, cond, ◌&&◌, List, [], ◌∷◌, filter, map, fold, length, get_or, refl, sym, ap, ◌∙◌, subst, ℤ, pos, ◌+ℤ◌, Contains}
use Rattle.std.specs.Prelude.{Some}
use Rattle.std.specs.List.{AllByRecursion, list_all, list_any}
use Rattle.std.specs.Ordering.{int_eq}
use Rattle.std.proofs.lemmas.List.{get_or_default}
use Rattle.std.proofs.lemmas.List.Elements.{recursion_from_All}
use Rattle.asp_model.specs.declared.program.Minimize.{Minimize}
use Rattle.asp_model.specs.declared.program.Rule.{Rule}
use Rattle.asp_model.specs.declared.program.Program.{Program}
use Rattle.asp_model.specs.declared.results.Reasoning.{Reasoning}
use Rattle.asp_model.specs.declared.results.Reasoning.TheVariants.{Brave, Cautious}
use Rattle.asp_model.specs.Sets.{Atoms, has, same_set, subsets}
use Rattle.asp_model.specs.Consequences.{consequences_of}
use Rattle.asp_model.specs.Holding.{all_hold, holds, weight_of}
use Rattle.asp_model.specs.Reduct.{reduct, steps}
use Rattle.asp_model.specs.Models.{answers, is_stable, is_violated, rules_in_force}
use Rattle.asp_model.specs.Costs.{IsOptimum, betters, cost, cost_at, optima, priorities, with_priority}
use Rattle.asp_model.specs.Sound.{IsSound}
use Rattle.asp_model.proofs.MemberLaws.{each_of, each_weaker}
use Rattle.asp_model.proofs.ModelLaws.{answers-are}
use Rattle.asp_unfold.specs.Unfolded.{unfolded, unfolded_literal, unfolded_minimize}
use Rattle.asp_unfold.proofs.ListLaws.{same_any, same_filter, same_map}
use Rattle.asp_unfold.proofs.DefinedLaws.{unfolded-holds}
use Rattle.asp_unfold.proofs.MentionLaws.{same-atoms}

-- ---- answers
abbrev stable_among : Program → Atoms → Atoms → Bool
stable_among p L S = same_set S (steps (reduct S (rules_in_force p)) (length L + 1)) && not (list_any (is_violated S) (rules_in_force p))

pub same-stable : (p : Program) (S : Atoms) → is_stable (unfolded p) S ≡ is_stable p S
same-stable p S = ap (λ (L : Atoms). stable_among p L S) (same-atoms p)

pub same-answers : (p : Program) → answers (unfolded p) ≡ answers p
same-answers p = ap (λ (L : Atoms). filter (λ S. all_hold S p.assumptions) (filter (stable_among p L) (subsets L))) (same-atoms p)

-- ---- what answers have in common
pub same-consequences : (w : Reasoning) (p : Program) (K : List Atoms) → consequences_of w (unfolded p) K ≡ consequences_of w p K
same-consequences w p [] = refl
same-consequences Brave p (S ∷ K) = ap (λ (L : Atoms). Some (filter (λ a. list_any (λ T. has T a) (S ∷ K)) L)) (same-atoms p)
same-consequences Cautious p (S ∷ K) = ap (λ (L : Atoms). Some (filter (λ a. list_all (λ T. has T a) (S ∷ K)) L)) (same-atoms p)

-- ---- costs
same-weight : (p : Program) (S : Atoms) (items : List (ℤ × ℤ)) → IsSound p → is_stable p S ≡ true → weight_of S (map (λ (i : ℤ × ℤ). (unfolded_literal p.rules i.0, i.1)) items) ≡ weight_of S items
same-weight p S [] sound stable = refl
same-weight p S (i ∷ items) sound stable =
    ap (λ (b : Bool). cond b i.1 (pos 0) +ℤ weight_of S (map (λ (i : ℤ × ℤ). (unfolded_literal p.rules i.0, i.1)) items)) (unfolded-holds p S i.0 sound stable)
    ∙ ap (λ (n : ℤ). cond (holds S i.0) i.1 (pos 0) +ℤ n) (same-weight p S items sound stable)

same-sum : (p : Program) (S : Atoms) (ms : List Minimize) (q : ℤ) → IsSound p → is_stable p S ≡ true → cost_at S (map (unfolded_minimize p.rules) ms) q ≡ cost_at S ms q
same-sum p S [] q sound stable = refl
same-sum p S (m ∷ ms) q sound stable =
    ap (λ (n : ℤ). cond (int_eq m.priority q) n (pos 0) +ℤ cost_at S (map (unfolded_minimize p.rules) ms) q) (same-weight p S m.items sound stable)
    ∙ ap (λ (n : ℤ). cond (int_eq m.priority q) (weight_of S m.items) (pos 0) +ℤ n) (same-sum p S ms q sound stable)

same-priorities : (rules : List Rule) (qs : List ℤ) (ms : List Minimize) →
    fold (λ qs (m : Minimize). with_priority m.priority qs) qs (map (unfolded_minimize rules) ms) ≡ fold
    (λ qs (m : Minimize). with_priority m.priority qs) qs ms
same-priorities rules qs [] = refl
same-priorities rules qs (m ∷ ms) = same-priorities rules (with_priority m.priority qs) ms

pub same-cost : (p : Program) (S : Atoms) → IsSound p → is_stable p S ≡ true → cost (unfolded p) S ≡ cost p S
same-cost p S sound stable =
    ap (λ (qs : List ℤ). map (cost_at S (map (unfolded_minimize p.rules) p.minimize)) qs) (same-priorities p.rules [] p.minimize)
    ∙ same_map (cost_at S (map (unfolded_minimize p.rules) p.minimize)) (cost_at S p.minimize) (priorities p.minimize)
    (each_of (λ q. cost_at S (map (unfolded_minimize p.rules) p.minimize) q ≡ cost_at S p.minimize q)
    (λ q. same-sum p S p.minimize q sound stable) (priorities p.minimize))

-- ---- optima
each-contained : (P : Atoms → Type 0) (Ss : List Atoms) → ((S : Atoms) → Contains Ss S → P S) → AllByRecursion P Ss
each-contained P Ss h = recursion_from_All P Ss (λ k d lt. h (get_or Ss k d) (k, lt, get_or_default Ss k (get_or Ss k d) d lt))

answers-cost : (p : Program) → IsSound p → AllByRecursion (λ S. cost (unfolded p) S ≡ cost p S) (answers p)
answers-cost p sound = each-contained (λ S. cost (unfolded p) S ≡ cost p S) (answers p) (λ S h. same-cost p S sound ((answers-are p S).0 h).0)

-- whether an answer betters the cost
bettered : (p : Program) (c : List ℤ) → IsSound p → list_any (λ T. betters (cost (unfolded p) T) c) (answers p) ≡ list_any (λ T. betters (cost p T) c) (answers p)
bettered p c sound = same_any (λ T. betters (cost (unfolded p) T) c) (λ T. betters (cost p T) c) (answers p)
    (each_weaker (λ T. cost (unfolded p) T ≡ cost p T) (λ T. betters (cost (unfolded p) T) c ≡ betters (cost p T) c)
    (λ T e. ap (λ (d : List ℤ). betters d c) e) (answers p) (answers-cost p sound))

pub same-optima : (p : Program) → IsSound p → optima (unfolded p) ≡ optima p
same-optima p sound =
    let q = unfolded p in
    ap (λ (Ss : List Atoms). filter (λ S. not (list_any (λ T. betters (cost q T) (cost q S)) Ss)) Ss) (same-answers p)
    ∙ same_filter (λ S. not (list_any (λ T. betters (cost q T) (cost q S)) (answers p))) (λ S. not (list_any (λ T. betters (cost p T) (cost p S)) (answers p))) (answers p)
    (each_weaker (λ S. cost q S ≡ cost p S) (λ S. not (list_any (λ T. betters (cost q T) (cost q S)) (answers p)) ≡ not (list_any (λ T. betters (cost p T) (cost p S)) (answers p)))
    (λ S e. ap not (ap (λ (c : List ℤ). list_any (λ T. betters (cost q T) c) (answers p)) e ∙ bettered p (cost p S) sound)) (answers p) (answers-cost p sound))

pub same-optimum : (p : Program) (S : Atoms) (c : List ℤ) → IsSound p → IsOptimum (unfolded p) S c → IsOptimum p S c
same-optimum p S c sound o =
    let answer : Contains (answers p) S = subst (λ (Ss : List Atoms). Contains Ss S) (same-answers p) o.answer in
    record {
      answer = answer;
      sums = o.sums ∙ same-cost p S sound ((answers-are p S).0 answer).0;
      least = sym (bettered p c sound) ∙ (sym (ap (list_any (λ T. betters (cost (unfolded p) T) c)) (same-answers p)) ∙ o.least);
    }
