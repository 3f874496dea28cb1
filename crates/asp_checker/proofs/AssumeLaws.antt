-- Literals that are assumed one after another.
use Rattle.std.proofs.Common.{◌≡◌, ◌≢◌, ℕ, zero, suc, ◌+◌, ◌<◌, ◌≤◌, Bool, true, false, not, eqb, List, [], ◌∷◌, ◌++◌, length, take, get_or, refl, sym, ap, ◌∙◌, subst, arith, Option, Some, None, set, replicate, get_or-set_same, get_or-set_other}
use Rattle.std.specs.Prelude.{All}
use Rattle.std.specs.List.{list_all}
use Rattle.std.specs.Bool.{beq}
use Rattle.std.proofs.lemmas.Bool.{false≢true, and_parts, and_from, eqb-true, eq-eqb}
use Rattle.std.proofs.lemmas.List.{take_all, take_more, length-set}
use Rattle.std.proofs.lemmas.List.Elements.{All-from_recursion}
use Rattle.asp_model.specs.declared.program.Program.{Program}
use Rattle.asp_model.proofs.MemberLaws.{each_weaker}
use Rattle.asp_vars.specs.Literals.{Literal, complement, value_of, agrees, holds_in}
use Rattle.asp_vars.specs.Numbering.{var_count}
use Rattle.asp_checker.specs.Propagation.{Known, IsPropagated, LeadsToConflict}
use Rattle.asp_checker.specs.Lines.{IsOf, AreOf}
use Rattle.asp_checker.specs.Steps.{AreWithin, Follow}
use Rattle.asp_checker.specs.Assuming.{IsAssumed, AreHeld, AreAssumed}
use Rattle.asp_checker.proofs.StepLaws.{value-held, held-value, held-within}

at_held : (y : List (Option Bool)) (n : List Literal) (i : ℕ) (l : Literal) → i < length n → l ≡ get_or n i l → list_all (holds_in y) n ≡ true → holds_in y l ≡ true
at_held y [] i l lt e h = absurd (omega arith)
at_held y (m ∷ n) zero l lt e h = ap (holds_in y) e ∙ (and_parts (holds_in y m) (list_all (holds_in y) n) h).0
at_held y (m ∷ n) (suc i) l lt e h = at_held y n i l (omega arith) e (and_parts (holds_in y m) (list_all (holds_in y) n) h).1

not_contrary : (y : List (Option Bool)) (l : Literal) → holds_in y l ≡ true → holds_in y (complement l) ≡ true → ⊥
not_contrary y l a b =
    let first : value_of y l.var ≡ Some l.truth = value-held y l a in
    let second : value_of y l.var ≡ Some (not l.truth) = value-held y (complement l) b in
    differ l.truth (sym first ∙ second)
  where
    differ : (t : Bool) → Some t ≡ Some (not t) → ⊥
    differ true e = cc
    differ false e = cc

-- A literal of the line follows from the line.
assumed_follows : (p : Program) (k : Known) (n : List Literal) (x : List (Option Bool)) (i : ℕ) (l : Literal) → i < length n → l ≡ get_or n i l →
    l.var < length x → Follow p k n x → Follow p k n (set x l.var (Some l.truth))
assumed_follows p k n x i l lt e inside follow y propagated h v b is = cases (eqb v l.var) refl
  where
    cases : (t : Bool) → t ≡ eqb v l.var → value_of y v ≡ Some b
    cases true q =
        let same : v ≡ l.var = eqb-true v l.var (sym q) in
        let now : value_of (set x l.var (Some l.truth)) l.var ≡ Some l.truth = get_or-set_same x l.var (Some l.truth) None inside in
        let in_y : value_of y l.var ≡ Some l.truth = value-held y l (at_held y n i l lt e h) in
        ap (value_of y) same ∙ in_y ∙ sym now ∙ ap (value_of (set x l.var (Some l.truth))) (sym same) ∙ is
    cases false q =
        let apart : v ≢ l.var = λ same. false≢true (q ∙ eq-eqb v l.var same) in
        follow y propagated h v b (sym (get_or-set_other x l.var v (Some l.truth) None apart) ∙ is)

-- Where a literal fails, two of the line's are contrary.
fails_refuted : (p : Program) (k : Known) (n : List Literal) (x : List (Option Bool)) (i : ℕ) (l : Literal) → i < length n → l ≡ get_or n i l →
    holds_in x (complement l) ≡ true → Follow p k n x → LeadsToConflict p k n
fails_refuted p k n x i l lt e fails follow = record { none = λ y propagated. cases y propagated (list_all (holds_in y) n) refl }
  where
    cases : (y : List (Option Bool)) → IsPropagated p k y → (b : Bool) → b ≡ list_all (holds_in y) n → list_all (holds_in y) n ≡ false
    cases y propagated false q = sym q
    cases y propagated true q =
        absurd (not_contrary y l (at_held y n i l lt e (sym q)) (held-within x y (complement l) (follow y propagated (sym q)) fails))

some_false : (b : Bool) (l : Literal) → agrees (Some b) (complement l) ≡ false → b ≡ l.truth
some_false b l e = cases b l.truth e
  where
    cases : (b t : Bool) → beq b (not t) ≡ false → b ≡ t
    cases true true e = refl
    cases false false e = refl
    cases true false e = absurd (false≢true (sym e))
    cases false true e = absurd (false≢true (sym e))

held_more : (x : List (Option Bool)) (l m : Literal) → l.var < length x → holds_in x (complement l) ≡ false → holds_in x m ≡ true → holds_in (set x l.var (Some l.truth)) m ≡ true
held_more x l m inside open_or_held h = cases (eqb m.var l.var) refl
  where
    cases : (t : Bool) → t ≡ eqb m.var l.var → holds_in (set x l.var (Some l.truth)) m ≡ true
    cases true q =
        let same : m.var ≡ l.var = eqb-true m.var l.var (sym q) in
        let was : value_of x l.var ≡ Some m.truth = ap (value_of x) (sym same) ∙ value-held x m h in
        let truth : m.truth ≡ l.truth = some_false m.truth l (ap (λ o. agrees o (complement l)) (sym was) ∙ open_or_held) in
        held-value (set x l.var (Some l.truth)) m
        (ap (value_of (set x l.var (Some l.truth))) same ∙ get_or-set_same x l.var (Some l.truth) None inside
        ∙ ap (λ t. let o : Option Bool = Some t in o) (sym truth))
    cases false q =
        let apart : m.var ≢ l.var = λ same. false≢true (q ∙ eq-eqb m.var l.var same) in
        held-value (set x l.var (Some l.truth)) m (get_or-set_other x l.var m.var (Some l.truth) None apart ∙ value-held x m h)

all_more : (x y : List (Option Bool)) → ((m : Literal) → holds_in x m ≡ true → holds_in y m ≡ true) → (n : List Literal) → list_all (holds_in x) n ≡ true → list_all (holds_in y) n ≡ true
all_more x y w [] h = refl
all_more x y w (m ∷ n) h = let parts = and_parts (holds_in x m) (list_all (holds_in x) n) h in and_from (holds_in y m) (list_all (holds_in y) n) (w m parts.0) (all_more x y w n parts.1)

one_more : (y : List (Option Bool)) (n : List Literal) (l : Literal) → list_all (holds_in y) n ≡ true → holds_in y l ≡ true → list_all (holds_in y) (n ++ l ∷ []) ≡ true
one_more y [] l h e = and_from (holds_in y l) true e refl
one_more y (m ∷ n) l h e = let parts = and_parts (holds_in y m) (list_all (holds_in y) n) h in and_from (holds_in y m) (list_all (holds_in y) (n ++ l ∷ [])) parts.0 (one_more y n l parts.1 e)

-- ---- the turns of the loop
pub none_held : (x : List (Option Bool)) (n : List Literal) → AreHeld x x (take 0 n) n
none_held x n = record { size = refl; hold = refl; follow = λ p k f. f }

pub held_next : (x z y : List (Option Bool)) (n : List Literal) (i : ℕ) (l : Literal) → i < length n → l ≡ get_or n i l → l.var < length z →
    AreHeld x z (take i n) n → IsAssumed z y l true → AreHeld x y (take (i + 1) n) n
held_next x z y n i l lt e inside h assumed =
    let w : List (Option Bool) = set z l.var (Some l.truth) in
    let here : holds_in w l ≡ true = held-value w l (get_or-set_same z l.var (Some l.truth) None inside) in
    let before : list_all (holds_in w) (take i n) ≡ true = all_more z w (λ m held. held_more z l m inside assumed.0 held) (take i n) h.hold in
    let list : take (i + 1) n ≡ take i n ++ l ∷ [] = take_more n i l lt ∙ ap (λ m. take i n ++ m ∷ []) (sym e) in
    subst (λ v. AreHeld x v (take (i + 1) n) n) (sym assumed.1) (record {
      size = length-set z l.var (Some l.truth) ∙ h.size;
      hold = ap (list_all (holds_in w)) list ∙ one_more w (take i n) l before here;
      follow = λ p k f. assumed_follows p k n z i l lt e inside (h.follow p k f);
    })

pub contrary_found : (x z y : List (Option Bool)) (n : List Literal) (i : ℕ) (l : Literal) → i < length n → l ≡ get_or n i l →
    AreHeld x z (take i n) n → IsAssumed z y l false → AreAssumed x y n n false
contrary_found x z y n i l lt e h fails = λ p k f. fails_refuted p k n z i l lt e fails (h.follow p k f)

pub held_whole : (x y : List (Option Bool)) (n : List Literal) (i : ℕ) → length n ≤ i → AreHeld x y (take i n) n → AreAssumed x y n n true
held_whole x y n i le h = subst (λ (m : List Literal). AreHeld x y m n) (take_all i n le) h

-- ---- the start, and the end
pub empty_follows : (p : Program) (k : Known) (n : List Literal) (m : ℕ) (x : List (Option Bool)) → x ≡ replicate m None → Follow p k n x
empty_follows p k n m x e y propagated h v b is =
    let none : value_of x v ≡ None = ap (λ z. value_of z v) e ∙ valueless m v in
    absurd cc
  where
    valueless : (m v : ℕ) → value_of (replicate m None) v ≡ None
    valueless zero v = refl
    valueless (suc m) zero = refl
    valueless (suc m) (suc v) = valueless m v

pub within_range : (p : Program) (n : List Literal) (m : ℕ) → m ≡ var_count p + 1 → AreOf p n → All (λ l. l.var < m) n
within_range p n m size of = All-from_recursion (λ l. l.var < m) n (each_weaker (IsOf p) (λ l. l.var < m) (λ l h. let a = h.1 in omega (arith, a, size)) n of)

pub propagated_holds : (p : Program) (k : Known) (n : List Literal) (x y : List (Option Bool)) → list_all (holds_in x) n ≡ true → AreWithin x y → IsPropagated p k y → LeadsToConflict p k n → ⊥
propagated_holds p k n x y h within propagated conflict =
    false≢true (sym (conflict.none y propagated) ∙ all_more x y (λ m held. held-within x y m within held) n h)
