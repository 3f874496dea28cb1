-- Steps of unit propagation, and their end.
use Rattle.std.proofs.Common.{◌≡◌, ℕ, ◌+◌, ◌<◌, Bool, true, false, ◌||◌, List, [], ◌∷◌, length, refl, sym, ap, ◌∙◌, subst, arith, Option, Some, set}
use Rattle.std.specs.List.{list_all, list_any, AllByRecursion}
use Rattle.std.proofs.lemmas.Bool.{false≢true}
use Rattle.std.proofs.lemmas.List.{length-set}
use Rattle.asp_model.specs.declared.program.Program.{Program}
use Rattle.asp_model.specs.Sound.{IsSound}
use Rattle.asp_model.proofs.MemberLaws.{each_weaker}
use Rattle.asp_vars.specs.Literals.{Literal, holds_in}
use Rattle.asp_vars.specs.Numbering.{bodies_of, var_count}
use Rattle.asp_vars.proofs.StandingLaws.{each_both, each_among}
use Rattle.asp_checker.specs.declared.bounds.Bound.{Bound}
use Rattle.asp_checker.specs.declared.nogoods.Visit.{Visit}
use Rattle.asp_checker.specs.declared.nogoods.Visit.TheVariants as visit
use Rattle.asp_checker.specs.Propagation.{Known, is_broken, reaches_bound, has_conflict, IsPropagated}
use Rattle.asp_checker.specs.Lines.{IsOf, AreOf}
use Rattle.asp_checker.specs.Looks.{IsAtFixpoint}
use Rattle.asp_checker.specs.Steps.{AreWithin, Follow, IsKnown}
use Rattle.asp_checker.specs.Sweeps.{AreInRange, open_count, IsNogoodOf, AreNogoodsOf, IsSwept}
use Rattle.asp_checker.specs.Blocks.{is_blocked, known_by, cost_of_bound, Extends, AreRefuted, IsImplied, AreFree, IsFound, IsStep}
use Rattle.asp_checker.proofs.StepLaws.{follow-more}
use Rattle.asp_checker.proofs.WeightLaws.{within-set, within-then}
use Rattle.asp_checker.proofs.BlockLaws.{blocked-forces, blocked-conflicts, open_count-set}

-- ---- one value after another
pub extends_itself : (p : Program) (k : Known) (x : List (Option Bool)) → Extends p k x x
extends_itself p k x = record { size = refl; within = λ v b e. e; follow = λ n f. f }

pub extends_then : (p : Program) (k : Known) (x y z : List (Option Bool)) → Extends p k x y → Extends p k y z → Extends p k x z
extends_then p k x y z a b = record { size = b.size ∙ a.size; within = within-then x y z a.within b.within; follow = λ n f. b.follow n (a.follow n f) }

pub refuted_before : (p : Program) (k : Known) (x y : List (Option Bool)) → Extends p k x y → AreRefuted p k y → AreRefuted p k x
refuted_before p k x y a r = record { conflict = λ n f. r.conflict n (a.follow n f) }

-- ---- weight bodies and the bound
pub found_conflict : (p : Program) (k : Known) (x : List (Option Bool)) → IsSound p → is_blocked p k.bound x ≡ true → AreRefuted p k x
found_conflict p k x sound e = record { conflict = λ n f. blocked-conflicts p k x n sound e f }

pub found_implied : (p : Program) (k : Known) (x y : List (Option Bool)) (l : Literal) → IsSound p → length x ≡ var_count p + 1 →
    IsImplied p k.bound x l → y ≡ set x l.var (Some l.truth) → Extends p k x y × (open_count y < open_count x)
found_implied p k x y l sound size h e =
    let inside : l.var < length x = let a = h.of in omega arith in
    let forced = blocked-forces p k x l sound h.var h.of size h.blocked in
    let count = open_count-set x l.var l.truth inside h.no_value in
    let same : open_count y ≡ open_count (set x l.var (Some l.truth)) = ap open_count e in (
      record {
        size = ap length e ∙ length-set x l.var (Some l.truth);
        within = subst (AreWithin x) (sym e) (within-set x l.var l.truth h.no_value);
        follow = λ n f. subst (Follow p k n) (sym e) (follow-more p k n x l inside f forced);
      },
      omega (arith, count, same),
    )

-- ---- nogoods
pub nogoods_known : (p : Program) (rows : List (List Literal)) (bound : Option Bound) → AllByRecursion (AreOf p) rows → AreNogoodsOf p (known_by rows bound) rows
nogoods_known p rows bound of =
    each_weaker (λ n. IsKnown (known_by rows bound) n × AreOf p n) (IsNogoodOf p (known_by rows bound)) (λ n h. record { known = h.0; of = h.1 }) rows
    (each_both (IsKnown (known_by rows bound)) (AreOf p) rows (each_among rows) of)

none_passes : {X : Type 0} (q : X → Bool) (xs : List X) → AllByRecursion (λ x. q x ≡ false) xs → list_any q xs ≡ false
none_passes q [] h = refl
none_passes q (x ∷ xs) h = both (q x) (list_any q xs) h.0 (none_passes q xs h.1)
  where
    both : (a b : Bool) → a ≡ false → b ≡ false → (a || b) ≡ false
    both false b e f = f
    both true b e f = absurd (false≢true (sym e))

without_conflict : (p : Program) (k : Known) (x : List (Option Bool)) → AllByRecursion (λ n. list_all (holds_in x) n ≡ false) k.nogoods → is_blocked p k.bound x ≡ false → has_conflict p k x ≡ false
without_conflict p k x missed free =
    three (list_any (λ n. list_all (holds_in x) n) k.nogoods) (list_any (is_broken p x) (bodies_of p)) (reaches_bound p k.bound x)
    (none_passes (λ n. list_all (holds_in x) n) k.nogoods missed) free
  where
    three : (a b c : Bool) → a ≡ false → (b || c) ≡ false → (a || b || c) ≡ false
    three false b c e f = f
    three true b c e f = absurd (false≢true (sym e))

pub is_propagated : (p : Program) (k : Known) (x : List (Option Bool)) → length x ≡ var_count p + 1 → AllByRecursion (IsAtFixpoint x) k.nogoods →
    is_blocked p k.bound x ≡ false → AreFree p k.bound x (var_count p) → IsPropagated p k x
is_propagated p k x size fixpoint free more = record {
  size = size;
  now = without_conflict p k x (each_weaker (IsAtFixpoint x) (λ n. list_all (holds_in x) n ≡ false) (λ n h. h.now) k.nogoods fixpoint) free;
  one_more = λ v b i le none. without_conflict p k (set x v (Some b))
      (each_weaker (IsAtFixpoint x) (λ n. list_all (holds_in (set x v (Some b))) n ≡ false) (λ n h. h.one_more v b none) k.nogoods fixpoint)
      (more.free v b i le none);
}

-- ---- what a step came to
pub step_swept : (p : Program) (rows : List (List Literal)) (bound : Option Bound) (x y : List (Option Bool)) (now : Visit) →
    AllByRecursion (AreOf p) rows → (now ≡ visit.Fixpoint → ⊥) → IsSwept x y rows now → IsStep p (known_by rows bound) x y now
step_swept p rows bound x y visit.Conflict of quiet h = record { conflict = λ n f. h p (known_by rows bound) n (nogoods_known p rows bound of) f }
step_swept p rows bound x y visit.Implied of quiet h = (
  record { size = h.1.size; within = h.1.within; follow = λ n f. h.0 p (known_by rows bound) n (nogoods_known p rows bound of) f },
  h.1.fewer,
)
step_swept p rows bound x y visit.Fixpoint of quiet h = absurd (quiet refl)

pub step_further : (p : Program) (rows : List (List Literal)) (bound : Option Bound) (x z y : List (Option Bool)) (now : Visit) →
    length x ≡ var_count p + 1 → IsSwept x z rows visit.Fixpoint → IsFound p (known_by rows bound) z y now → IsStep p (known_by rows bound) x y now
step_further p rows bound x z y visit.Conflict size swept h = subst (AreRefuted p (known_by rows bound)) swept.0 h
step_further p rows bound x z y visit.Implied size swept h = subst (λ w. Extends p (known_by rows bound) w y × (open_count y < open_count w)) swept.0 h
step_further p rows bound x z y visit.Fixpoint size swept h = (
  h.0 ∙ swept.0,
  is_propagated p (known_by rows bound) x size swept.1 (subst (λ w. is_blocked p (cost_of_bound bound) w ≡ false) swept.0 h.1)
      (subst (λ w. AreFree p (cost_of_bound bound) w (var_count p)) swept.0 h.2),
)

-- ---- the range of rows
pub rows_range : (p : Program) (rows : List (List Literal)) (n : ℕ) → n ≡ var_count p + 1 → AllByRecursion (AreOf p) rows → AreInRange n rows
rows_range p rows n size of = each_weaker (AreOf p) (AllByRecursion (λ l. l.var < n)) (λ row h. each_weaker (IsOf p) (λ l. l.var < n) (λ l a. let b = a.1 in omega (arith, b, size)) row h) rows of
