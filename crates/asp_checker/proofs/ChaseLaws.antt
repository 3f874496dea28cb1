-- Values that follow one after another, as hints lead.
use Rattle.std.proofs.Common.{◌≡◌, ◌≢◌, ℕ, zero, suc, ◌+◌, ◌<◌, Bool, true, false, not, ◌||◌, eqb, List, [], ◌∷◌, ◌++◌, length, take, get_or, get_or-set_other, refl, sym, ap, ◌∙◌, subst, Option, Some, None, set, replicate}
use Rattle.std.specs.Prelude.{ℤ}
use Rattle.std.specs.List.{list_all, list_any}
use Rattle.std.proofs.lemmas.Bool.{false≢true, or_parts, eqb-true, eq-eqb}
use Rattle.std.proofs.lemmas.List.{take_more, length-set}
use Rattle.asp_model.specs.declared.program.Program.{Program}
use Rattle.asp_model.proofs.MemberLaws.{each_weaker, each-append}
use Rattle.asp_vars.specs.Literals.{Literal, value_of, holds_in}
use Rattle.asp_vars.specs.Numbering.{bodies_of, var_count}
use Rattle.asp_checker.specs.declared.bounds.Bound.{Bound}
use Rattle.asp_checker.specs.declared.chase.Found.{Found}
use Rattle.asp_checker.specs.declared.chase.Found.TheVariants as found
use Rattle.asp_checker.specs.Propagation.{Known, is_broken, reaches_bound, has_conflict}
use Rattle.asp_checker.specs.Steps.{AreWithin, Follow}
use Rattle.asp_checker.specs.Looks.{IsUnit}
use Rattle.asp_checker.specs.Sweeps.{IsNogoodOf}
use Rattle.asp_checker.specs.Blocks.{is_blocked, known_by, Extends, AreRefuted}
use Rattle.asp_checker.specs.Chasing.{IsFoundBy, IsRoot, trail_with, AreTakenBack, IsTrailed, IsTrailedAlike}
use Rattle.asp_checker.proofs.StepLaws.{violated-conflicts, value-held}
use Rattle.asp_checker.proofs.WeightLaws.{within-then}
use Rattle.asp_checker.proofs.SweepLaws.{visit_follows, visit_grows}
use Rattle.asp_checker.proofs.BlockLaws.{within-value}
use Rattle.asp_checker.proofs.CloseLaws.{extends_then, rows_range}
use Rattle.asp_checker.proofs.AssumeLaws.{empty_follows}

-- ---- one nogood
pub unit_extends : (p : Program) (k : Known) (x y : List (Option Bool)) (n : List Literal) (l : Literal) → IsNogoodOf p k n →
    length x ≡ var_count p + 1 → IsUnit x n l → y ≡ set x l.var (Some (not l.truth)) → Extends p k x y
unit_extends p k x y n l of size unit e =
    let range = (rows_range p (n ∷ []) (length x) size (of.of, tt)).0 in
    let grown = visit_grows x y n range (l, unit, e) in
    record { size = grown.size; within = grown.within; follow = λ m f. visit_follows p k m n x y of range f (l, unit, e) }

pub hit_refutes : (p : Program) (k : Known) (x : List (Option Bool)) (n : List Literal) → IsNogoodOf p k n → list_all (holds_in x) n ≡ true → AreRefuted p k x
hit_refutes p k x n of e = record { conflict = λ m f. violated-conflicts p k x m n of.known f e }

-- ---- a weight body, or the bound
pub blocked_by_body : (p : Program) (bound : Option (List ℤ)) (x : List (Option Bool)) → list_any (is_broken p x) (bodies_of p) ≡ true → is_blocked p bound x ≡ true
blocked_by_body p bound x e = ap (λ b. b || reaches_bound p bound x) e

pub blocked_by_bound : (p : Program) (bound : Option (List ℤ)) (x : List (Option Bool)) → reaches_bound p bound x ≡ true → is_blocked p bound x ≡ true
blocked_by_bound p bound x e = later (list_any (is_broken p x) (bodies_of p)) (reaches_bound p bound x) e
  where
    later : (a b : Bool) → b ≡ true → (a || b) ≡ true
    later true b e = refl
    later false b e = e

-- ---- one after another
pub found_more : (p : Program) (k : Known) (x z y : List (Option Bool)) (f : Found) → (f ≡ found.Conflict → ⊥) → Extends p k x z → IsFoundBy p k z y f → Extends p k x y
found_more p k x z y found.Conflict isnt h s = absurd (isnt refl)
found_more p k x z y (found.Implied l) isnt h s = extends_then p k x z y h s.0
found_more p k x z y found.Nothing isnt h s = subst (Extends p k x) (sym s) h

-- ---- what follows from what is known alone
pub root_first : (p : Program) (k : Known) (m : ℕ) (x y : List (Option Bool)) → m ≡ var_count p + 1 → x ≡ replicate m None → length x ≡ m → Extends p k x y → IsRoot p k y
root_first p k m x y vars is size e = record { size = e.size ∙ size ∙ vars; follow = e.follow [] (empty_follows p k [] m x is) }

pub root_then : (p : Program) (k : Known) (x y : List (Option Bool)) → IsRoot p k x → Extends p k x y → IsRoot p k y
root_then p k x y h e = record { size = e.size ∙ h.size; follow = e.follow [] h.follow }

pub root_follows : (p : Program) (k : Known) (n : List Literal) (x g : List (Option Bool)) → IsRoot p k g → AreWithin x g → Follow p k n x
root_follows p k n x g h within y propagated e = within-then x g y within (h.follow y propagated refl)

pub follows_within : (p : Program) (k : Known) (n : List Literal) (x y : List (Option Bool)) → AreWithin x y → Follow p k n y → Follow p k n x
follows_within p k n x y within f z propagated e = within-then x y z within (f z propagated e)

any_fewer : {X : Type 0} (q : X → Bool) (xs ys : List X) → list_any q (xs ++ ys) ≡ false → list_any q xs ≡ false
any_fewer q [] ys e = refl
any_fewer q (x ∷ xs) ys e =
    let parts = or_parts (q x) (list_any q (xs ++ ys)) e in
    ap (λ b. b || list_any q xs) parts.0 ∙ any_fewer q xs ys parts.1

any_behind : {X : Type 0} (q : X → Bool) (xs ys : List X) → list_any q (xs ++ ys) ≡ false → list_any q ys ≡ false
any_behind q [] ys e = e
any_behind q (x ∷ xs) ys e = any_behind q xs ys (or_parts (q x) (list_any q (xs ++ ys)) e).1

-- fewer nogoods are hit where more aren't
fewer_conflict : (p : Program) (rows all : List (List Literal)) (bound : Option Bound) (y : List (Option Bool)) →
    ((q : List Literal → Bool) → list_any q all ≡ false → list_any q rows ≡ false) → has_conflict p (known_by all bound) y ≡ false →
    has_conflict p (known_by rows bound) y ≡ false
fewer_conflict p rows all bound y fewer e =
    let k = known_by rows bound in
    let hit : List Literal → Bool = λ n. list_all (holds_in y) n in
    let first = or_parts (list_any hit all || list_any (is_broken p y) (bodies_of p)) (reaches_bound p k.bound y) e in
    let second = or_parts (list_any hit all) (list_any (is_broken p y) (bodies_of p)) first.0 in
    three (list_any hit rows) (list_any (is_broken p y) (bodies_of p)) (reaches_bound p k.bound y) (fewer hit second.0) second.1 first.1
  where
    three : (a b c : Bool) → a ≡ false → b ≡ false → c ≡ false → (a || b || c) ≡ false
    three false false c e f g = g
    three true b c e f g = absurd (false≢true (sym e))
    three false true c e f g = absurd (false≢true (sym f))

-- it still does where more is known
root_grows : (p : Program) (rows all : List (List Literal)) (bound : Option Bound) (x : List (Option Bool)) →
    ((q : List Literal → Bool) → list_any q all ≡ false → list_any q rows ≡ false) → IsRoot p (known_by rows bound) x →
    IsRoot p (known_by all bound) x
root_grows p rows all bound x fewer h = record {
  size = h.size;
  follow = λ y propagated e. h.follow y (record {
    size = propagated.size;
    now = fewer_conflict p rows all bound y fewer propagated.now;
    one_more = λ v b i le none. fewer_conflict p rows all bound (set y v (Some b)) fewer (propagated.one_more v b i le none);
  }) e;
}

pub root_more : (p : Program) (rows more : List (List Literal)) (bound : Option Bound) (x : List (Option Bool)) → IsRoot p (known_by rows bound) x → IsRoot p (known_by (rows ++ more) bound) x
root_more p rows more bound x h = root_grows p rows (rows ++ more) bound x (λ q e. any_fewer q rows more e) h

pub root_stocked : (p : Program) (rows placed : List (List Literal)) (bound : Option Bound) (x : List (Option Bool)) → IsRoot p (known_by rows bound) x → IsRoot p (known_by (placed ++ rows) bound) x
root_stocked p rows placed bound x h = root_grows p rows (placed ++ rows) bound x (λ q e. any_behind q placed rows e) h

-- ---- the trail
no_some : (b : Bool) → None ≡ Some b → ⊥
no_some b e = cc

valueless : (m v : ℕ) → value_of (replicate m None) v ≡ None
valueless zero v = refl
valueless (suc m) zero = refl
valueless (suc m) (suc v) = valueless m v

none_within : (y z : List (Option Bool)) (v : ℕ) → AreWithin y z → value_of z v ≡ None → value_of y v ≡ None
none_within y z v within none = cases (value_of y v) refl
  where
    cases : (o : Option Bool) → o ≡ value_of y v → value_of y v ≡ None
    cases None q = sym q
    cases (Some b) q = absurd (no_some b (sym none ∙ within v b (sym q)))

within_taken : (z y : List (Option Bool)) (v : ℕ) (b : Bool) → AreWithin z (set y v (Some b)) → value_of z v ≡ None → AreWithin z y
within_taken z y v b within none u c e = cases (eqb u v) refl
  where
    cases : (t : Bool) → t ≡ eqb u v → value_of y u ≡ Some c
    cases true q = absurd (no_some c (sym none ∙ ap (value_of z) (sym (eqb-true u v (sym q))) ∙ e))
    cases false q =
        let apart : u ≢ v = λ same. false≢true (q ∙ eq-eqb u v same) in
        sym (get_or-set_other y v u (Some b) None apart) ∙ within u c e

taken_parts : (z : List (Option Bool)) (trail : List Literal) (l : Literal) → AreTakenBack z (trail ++ l ∷ []) → AreTakenBack z trail × (value_of z l.var ≡ None)
taken_parts z [] l h = (tt, h.0)
taken_parts z (m ∷ trail) l h = let rest = taken_parts z trail l h.1 in ((h.0, rest.0), rest.1)

pub trailed_itself : (x : List (Option Bool)) (trail : List Literal) → IsTrailedAlike x x trail trail
trailed_itself x trail = record { alike = λ w h. h }

pub trailed_then : (x y z : List (Option Bool)) (a b c : List Literal) → IsTrailedAlike x y a b → IsTrailedAlike y z b c → IsTrailedAlike x z a c
trailed_then x y z a b c first second = record { alike = λ w h. second.alike w (first.alike w h) }

pub trailed_set : (x : List (Option Bool)) (trail : List Literal) (l : Literal) → IsTrailedAlike x (set x l.var (Some l.truth)) trail (trail ++ l ∷ [])
trailed_set x trail l = record {
  alike = λ w h. record {
    size = length-set x l.var (Some l.truth) ∙ h.size;
    kept = λ z within taken. let parts = taken_parts z trail l taken in h.kept z (within_taken z x l.var l.truth within parts.1) parts.0;
  };
}

pub trailed_held : (x : List (Option Bool)) (trail : List Literal) (l : Literal) → l.var < length x → holds_in x l ≡ true → IsTrailedAlike x (set x l.var (Some l.truth)) trail trail
trailed_held x trail l inside held = record {
  alike = λ w h. record {
    size = length-set x l.var (Some l.truth) ∙ h.size;
    kept = λ z within taken. h.kept z (within-then z (set x l.var (Some l.truth)) x within (within-value x x l.var l.truth inside (λ v b e. e) (value-held x l held))) taken;
  };
}

pub trailed_found : (p : Program) (k : Known) (x y : List (Option Bool)) (trail : List Literal) (f : Found) → (f ≡ found.Conflict → ⊥) →
    IsFoundBy p k x y f → IsTrailedAlike x y trail (trail_with trail f)
trailed_found p k x y trail found.Conflict isnt s = absurd (isnt refl)
trailed_found p k x y trail (found.Implied l) isnt s = subst (λ z. IsTrailedAlike x z trail (trail ++ l ∷ [])) (sym s.1) (trailed_set x trail l)
trailed_found p k x y trail found.Nothing isnt s = subst (λ z. IsTrailedAlike x z trail trail) (sym s) (trailed_itself x trail)

pub taken_next : (z y : List (Option Bool)) (trail : List Literal) (i : ℕ) (l : Literal) → i < length trail → l ≡ get_or trail i l → AreWithin y z →
    AreTakenBack z (take i trail) → value_of y l.var ≡ None → AreTakenBack y (take (i + 1) trail)
taken_next z y trail i l lt e within h none =
    let list : take (i + 1) trail ≡ take i trail ++ l ∷ [] = take_more trail i l lt ∙ ap (λ m. take i trail ++ m ∷ []) (sym e) in
    subst (AreTakenBack y) (sym list)
    (each-append (λ m. value_of y m.var ≡ None) (take i trail) (l ∷ [])
    (each_weaker (λ m. value_of z m.var ≡ None) (λ m. value_of y m.var ≡ None) (λ m n. none_within y z m.var within n) (take i trail) h)
    (none, tt))

pub trailed_from : (x y : List (Option Bool)) (a trail : List Literal) → a ≡ [] → IsTrailedAlike x y a trail → IsTrailed x y trail
trailed_from x y a trail empty alike = alike.alike x (subst (IsTrailed x x) (sym empty) (record { size = refl; kept = λ w inside t. inside }))

-- what is taken back leaves what follows from what is known
pub root_undone : (p : Program) (k : Known) (x y z : List (Option Bool)) (a trail : List Literal) → IsRoot p k x → a ≡ [] →
    IsTrailedAlike x y a trail → length z ≡ length y → AreWithin z y → AreTakenBack z trail → IsRoot p k z
root_undone p k x y z a trail h empty alike size within taken =
    let trailed = trailed_from x y a trail empty alike in
    record { size = size ∙ trailed.size ∙ h.size; follow = root_follows p k [] z x h (trailed.kept z within taken) }
