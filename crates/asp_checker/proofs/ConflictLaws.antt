-- Literals from which a conflict follows hit no stable model but those that are excused.
use Rattle.std.proofs.Common.{◌≡◌, ℕ, zero, suc, ◌+◌, ◌≤◌, Bool, true, false, not, cond, ◌&&◌, ◌||◌, List, [], ◌∷◌, ◌++◌, map, length, refl, sym, ap, ◌∙◌, arith, Some, None, get_or, ◌⊎◌, inl, inr, length-append}
use Rattle.std.specs.Prelude.{ℤ, pos, ◌+ℤ◌, int_lt, int_le, ◌==◌}
use Rattle.std.specs.List.{list_all, list_any, AllByRecursion}
use Rattle.std.proofs.lemmas.Bool.{false≢true, and_parts, and_from, or_from}
use Rattle.std.proofs.lemmas.Int.{ints}
use Rattle.std.proofs.lemmas.List.{get_or-map, length-map}
use Rattle.asp_model.specs.declared.program.Body.{Body}
use Rattle.asp_model.specs.declared.program.Body.TheVariants as body
use Rattle.asp_model.specs.declared.program.Program.{Program}
use Rattle.asp_model.specs.Sets.{Atoms, has}
use Rattle.asp_model.specs.Holding.{atom_of, holds, body_holds, weight_of}
use Rattle.asp_model.specs.Models.{atoms_of, is_stable}
use Rattle.asp_model.specs.Costs.{cost}
use Rattle.asp_vars.specs.Literals.{Literal, T, F, complement, is_true, hits, value_of, holds_in, agrees}
use Rattle.asp_vars.specs.Numbering.{bodies_of, apart_bodies, body_eq, var_count, var_of_form, literal_of, values}
use Rattle.asp_vars.specs.Tabled.{Stands}
use Rattle.asp_vars.specs.Unfounded.{assigned}
use Rattle.asp_vars.specs.Entailment.{HitsOnly}
use Rattle.asp_vars.proofs.LiteralLaws.{is_true-complement}
use Rattle.asp_vars.proofs.PlaceLaws.{place_of-within, form-within}
use Rattle.asp_vars.proofs.CompletionLaws.{literal-holds, weight-true}
use Rattle.asp_vars.proofs.StandingLaws.{each_both, bodies_of-stand, bodies_of-themselves}
use Rattle.asp_bound.specs.Optimism.{optimistic}
use Rattle.asp_bound.proofs.CostLaws.{cost_of-values, optimistic-whole}
use Rattle.asp_checker.specs.Propagation.{Known, may_hold, weight_by, is_broken, reaches_bound, IsPropagated, LeadsToConflict}
use Rattle.asp_checker.specs.Lines.{AreOf}

-- ---- values of all variables
pub length-values : (p : Program) (S : Atoms) → length (values p S) ≡ var_count p + 1
length-values p S =
    let a : length (map (has S) (atoms_of p)) ≡ length (atoms_of p) = length-map (atoms_of p) (has S) in
    let b : length (map (body_holds S) (apart_bodies p)) ≡ length (apart_bodies p) = length-map (apart_bodies p) (body_holds S) in
    let c : length (map (has S) (atoms_of p) ++ map (body_holds S) (apart_bodies p)) ≡ length (map (has S) (atoms_of p)) + length
    (map (body_holds S) (apart_bodies p)) = length-append (map (has S) (atoms_of p)) (map (body_holds S) (apart_bodies p)) in
    omega (arith, a, b, c)

value-assigned : (p : Program) (S : Atoms) (v : ℕ) → v ≤ var_count p → value_of (assigned p S) v ≡ Some (get_or (values p S) v false)
value-assigned p S v le = get_or-map (λ b. Some b) (values p S) v false None (let n = length-values p S in omega (arith, n))

pub holds-assigned : (p : Program) (S : Atoms) (l : Literal) → l.var ≤ var_count p → holds_in (assigned p S) l ≡ is_true (values p S) l
holds-assigned p S l le = ap (λ o. agrees o l) (value-assigned p S l.var le)

-- also of what is no variable
value-map : (vs : List Bool) (v : ℕ) → (value_of (map (λ b. Some b) vs) v ≡ Some (get_or vs v false)) ⊎ (value_of (map (λ b. Some b) vs) v ≡ None)
value-map [] v = inr refl
value-map (b ∷ vs) zero = inl refl
value-map (b ∷ vs) (suc v) = value-map vs v

holds-true : (vs : List Bool) (l : Literal) → holds_in (map (λ b. Some b) vs) l ≡ true → is_true vs l ≡ true
holds-true vs l e = elim (value-map vs l.var) [
  | inl q ↦ sym (ap (λ o. agrees o l) q) ∙ e
  | inr q ↦ absurd (false≢true (sym (ap (λ o. agrees o l) q) ∙ e))
]

hits-held : (vs : List Bool) (n : List Literal) → list_all (holds_in (map (λ b. Some b) vs)) n ≡ true → hits vs n ≡ true
hits-held vs [] e = refl
hits-held vs (l ∷ n) e =
    let parts = and_parts (holds_in (map (λ b. Some b) vs) l) (list_all (holds_in (map (λ b. Some b) vs)) n) e in
    and_from (is_true vs l) (hits vs n) (holds-true vs l parts.0) (hits-held vs n parts.1)

pub held-hits : (p : Program) (S : Atoms) (n : List Literal) → AreOf p n → hits (values p S) n ≡ true → list_all (holds_in (assigned p S)) n ≡ true
held-hits p S [] of e = refl
held-hits p S (l ∷ n) of e =
    let parts = and_parts (is_true (values p S) l) (hits (values p S) n) e in
    and_from (holds_in (assigned p S) l) (list_all (holds_in (assigned p S)) n) (holds-assigned p S l of.0.1 ∙ parts.0) (held-hits p S n of.1 parts.1)

-- ---- weight bodies
literal-within : (p : Program) (l : ℤ) → has (atoms_of p) (atom_of l) ≡ true → (literal_of p l).var ≤ var_count p
literal-within p l stands = let h = place_of-within (λ b. b == atom_of l) (atoms_of p) stands in omega (arith, h)

literal-held : (p : Program) (S : Atoms) (l : ℤ) → has (atoms_of p) (atom_of l) ≡ true → holds_in (assigned p S) (literal_of p l) ≡ holds S l
literal-held p S l stands = holds-assigned p S (literal_of p l) (literal-within p l stands) ∙ literal-holds p S l stands

twice : (b : Bool) → not (not b) ≡ b
twice true = refl
twice false = refl

literal-may : (p : Program) (S : Atoms) (l : ℤ) → has (atoms_of p) (atom_of l) ≡ true → may_hold (assigned p S) (literal_of p l) ≡ holds S l
literal-may p S l stands =
    ap not (holds-assigned p S (complement (literal_of p l)) (literal-within p l stands) ∙ is_true-complement (values p S) (literal_of p l) ∙ ap not (literal-holds p S l stands))
    ∙ twice (holds S l)

weight-held : (p : Program) (S : Atoms) (t : Literal → Bool) (items : List (ℤ × ℤ)) → AllByRecursion (λ i. t (literal_of p i.0) ≡ holds S i.0) items → weight_by t p items ≡ weight_of S items
weight-held p S t [] h = refl
weight-held p S t (i ∷ items) h =
    ap (λ b. cond b i.1 (pos 0) +ℤ weight_by t p items) h.0 ∙ ap (λ w. cond (holds S i.0) i.1 (pos 0) +ℤ w) (weight-held p S t items h.1)

each_item : (p : Program) (S : Atoms) (t : Literal → Bool) → ((l : ℤ) → has (atoms_of p) (atom_of l) ≡ true → t (literal_of p l) ≡ holds S l) →
    (items : List (ℤ × ℤ)) → AllByRecursion (λ i. has (atoms_of p) (atom_of i.0) ≡ true) items →
    AllByRecursion (λ i. t (literal_of p i.0) ≡ holds S i.0) items
each_item p S t f [] stands = tt
each_item p S t f (i ∷ items) stands = (f i.0 stands.0, each_item p S t f items stands.1)

not_both : (c w : ℤ) → ((int_le c w && int_lt w c) || (not (int_le c w) && int_le c w)) ≡ false
not_both c w = cases (int_le c w) refl
  where
    cases : (b : Bool) → b ≡ int_le c w → ((b && int_lt w c) || (not b && b)) ≡ false
    cases true q = let n : int_lt w c ≡ false = grind (arith, ints) in or_from (int_lt w c) false n refl
    cases false q = refl

body-kept : (p : Program) (S : Atoms) (b : Body) → list_any (body_eq b) (bodies_of p) ≡ true → Stands (atoms_of p) b → is_broken p (assigned p S) b ≡ false
body-kept p S (body.All literals) listed stands = refl
body-kept p S (body.AtLeast c items) listed stands =
    let b : Body = body.AtLeast c items in
    let y = assigned p S in
    let t : holds_in y (T (var_of_form p b)) ≡ int_le c (weight_of S items) = holds-assigned p S (T (var_of_form p b)) (form-within p b refl listed) ∙ weight-true p S c items listed in
    let f : holds_in y (F (var_of_form p b)) ≡ not (int_le c (weight_of S items)) =
    holds-assigned p S (F (var_of_form p b)) (form-within p b refl listed) ∙ is_true-complement (values p S) (T (var_of_form p b))
    ∙ ap not (weight-true p S c items listed) in
    let high : weight_by (may_hold y) p items ≡ weight_of S items = weight-held p S (may_hold y) items (each_item p S (may_hold y) (literal-may p S) items stands) in
    let low : weight_by (holds_in y) p items ≡ weight_of S items = weight-held p S (holds_in y) items (each_item p S (holds_in y) (literal-held p S) items stands) in
    rw (t, f, high, low) (not_both c (weight_of S items))

none_passes : {X : Type 0} (q : X → Bool) (xs : List X) → AllByRecursion (λ x. q x ≡ false) xs → list_any q xs ≡ false
none_passes q [] h = refl
none_passes q (x ∷ xs) h = or_from (q x) (list_any q xs) h.0 (none_passes q xs h.1)

bodies-kept : (p : Program) (S : Atoms) → list_any (is_broken p (assigned p S)) (bodies_of p) ≡ false
bodies-kept p S = none_passes (is_broken p (assigned p S)) (bodies_of p)
    (each (bodies_of p) (each_both (λ b. list_any (body_eq b) (bodies_of p) ≡ true) (Stands (atoms_of p)) (bodies_of p) (bodies_of-themselves p)
    (bodies_of-stand p)))
  where
    each : (bs : List Body) → AllByRecursion (λ b. (list_any (body_eq b) (bodies_of p) ≡ true) × Stands (atoms_of p) b) bs → AllByRecursion (λ b. is_broken p (assigned p S) b ≡ false) bs
    each [] h = tt
    each (b ∷ bs) h = (body-kept p S b h.0.0 h.0.1, each bs h.1)

-- ---- the bound
pub optimistic-assigned : (p : Program) (S : Atoms) → optimistic p (assigned p S) ≡ cost p S
optimistic-assigned p S = optimistic-whole p (assigned p S) (values p S) (λ v i le. value-assigned p S v le) ∙ cost_of-values p S

-- ---- the values of a set without a conflict are propagated
missed : (p : Program) (S : Atoms) (ns : List (List Literal)) → AllByRecursion (λ n. hits (values p S) n ≡ false) ns → AllByRecursion (λ n. list_all (holds_in (assigned p S)) n ≡ false) ns
missed p S [] h = tt
missed p S (n ∷ ns) h = (cases (list_all (holds_in (assigned p S)) n) refl, missed p S ns h.1)
  where
    cases : (b : Bool) → b ≡ list_all (holds_in (assigned p S)) n → list_all (holds_in (assigned p S)) n ≡ false
    cases false q = sym q
    cases true q = absurd (false≢true (sym h.0 ∙ hits-held (values p S) n (sym q)))

pub propagated-assigned : (p : Program) (k : Known) (S : Atoms) → AllByRecursion (λ n. hits (values p S) n ≡ false) k.nogoods →
    reaches_bound p k.bound (assigned p S) ≡ false → IsPropagated p k (assigned p S)
propagated-assigned p k S miss cheap =
    let y = assigned p S in
    let none : list_any (λ n. list_all (holds_in y) n) k.nogoods ≡ false = none_passes (λ n. list_all (holds_in y) n) k.nogoods (missed p S k.nogoods miss) in
    record {
      size = length-map (values p S) (λ b. Some b) ∙ length-values p S;
      now = or_from (list_any (λ n. list_all (holds_in y) n) k.nogoods || list_any (is_broken p y) (bodies_of p)) (reaches_bound p k.bound y)
          (or_from (list_any (λ n. list_all (holds_in y) n) k.nogoods) (list_any (is_broken p y) (bodies_of p)) none (bodies-kept p S)) cheap;
      one_more = λ v b i le gap. let some = value-assigned p S v le in absurd cc;
    }

-- ---- what a conflict says
-- Each stable model that the excuse doesn't take misses the nogoods, and is cheap enough.
pub record IsKnownFor (p : Program) (excuse : Atoms → Bool) (k : Known) : Type 0 where
  pub nogoods : AllByRecursion (HitsOnly p excuse) k.nogoods
  pub bound : (S : Atoms) → is_stable p S ≡ true → reaches_bound p k.bound (assigned p S) ≡ true → excuse S ≡ true

pub conflict-excused : (p : Program) (excuse : Atoms → Bool) (k : Known) (n : List Literal) → IsKnownFor p excuse k → AreOf p n → LeadsToConflict p k n → HitsOnly p excuse n
conflict-excused p excuse k n known of conflict = record { excused = λ S stable hit. cases S stable hit (excuse S) refl }
  where
    cases : (S : Atoms) → is_stable p S ≡ true → hits (values p S) n ≡ true → (b : Bool) → b ≡ excuse S → excuse S ≡ true
    cases S stable hit true q = sym q
    cases S stable hit false q =
        absurd (false≢true (sym (conflict.none (assigned p S)
        (propagated-assigned p k S (each k.nogoods known.nogoods) (cheap (reaches_bound p k.bound (assigned p S)) refl)))
        ∙ held-hits p S n of hit))
      where
        each : (ns : List (List Literal)) → AllByRecursion (HitsOnly p excuse) ns → AllByRecursion (λ m. hits (values p S) m ≡ false) ns
        each [] h = tt
        each (m ∷ ms) h = (one (hits (values p S) m) refl, each ms h.1)
          where
            one : (b : Bool) → b ≡ hits (values p S) m → hits (values p S) m ≡ false
            one false t = sym t
            one true t = absurd (false≢true (q ∙ h.0.excused S stable (sym t)))

        cheap : (b : Bool) → b ≡ reaches_bound p k.bound (assigned p S) → reaches_bound p k.bound (assigned p S) ≡ false
        cheap false t = sym t
        cheap true t = absurd (false≢true (q ∙ known.bound S stable (sym t)))
