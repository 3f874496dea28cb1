-- Places in lists in which each element stands once.
use Rattle.std.proofs.Common.{◌≡◌, ℕ, zero, suc, ◌+◌, ◌<◌, ◌≤◌, Bool, true, false, cond, ◌||◌, eqb, List, [], ◌∷◌, ◌++◌, map, filter, fold, length, get_or, Some, None, Result, Ok, Err, refl, sym, ap, ◌∙◌, subst, arith}
use Rattle.std.specs.List.{list_any, AllByRecursion}
use Rattle.std.specs.List.Sorted.{IsBinarySearchResult}
use Rattle.std.specs.Ordering.{nat_cmp}
use Rattle.std.proofs.lemmas.Bool.{false≢true, or_parts, and_from, eq-eqb, ne_eqb}
use Rattle.std.proofs.lemmas.List.Folds.{list_any-append}
use Rattle.std.proofs.lemmas.List.Sorted.{searched}
use Rattle.asp_model.specs.declared.program.Body.{Body}
use Rattle.asp_model.specs.declared.program.Program.{Program}
use Rattle.asp_model.specs.Sets.{Atoms, IsAscending, has}
use Rattle.asp_model.specs.declared.program.Body.TheVariants as body
use Rattle.asp_model.specs.declared.program.Head.TheVariants as head
use Rattle.asp_model.specs.declared.program.Rule.{Rule}
use Rattle.asp_model.specs.Models.{rules_in_force, atoms_of, mentions}
use Rattle.asp_model.proofs.MemberLaws.{each_weaker}
use Rattle.asp_model.proofs.SetLaws.{get_or-ascending, get_or-below, has_at, place_found, IsAscending-set_of}
use Rattle.asp_vars.specs.Numbering.{normal, body_eq, bodies_of, is_wide, is_nameless, is_apart, names, named_or, apart_bodies, place_of, place_of_body, number_of_form, var_count, var_of_atom, var_of_form, nth_body, nth_rule, nth_atom}
use Rattle.asp_vars.specs.Places.{place_in}
use Rattle.asp_vars.proofs.NumberingLaws.{same_body, body_eq-itself, filtered_among, named, own_var}
use Rattle.asp_vars.proofs.StandingLaws.{Among, each_among, rule_has_form}

-- ---- atoms
pub place_of-ascending : (S : Atoms) (a i : ℕ) → IsAscending S → i < length S → get_or S i 0 ≡ a → place_of (λ b. eqb b a) S ≡ i
place_of-ascending [] a i up lt e = absurd (omega arith)
place_of-ascending (b ∷ S) a zero up lt e = ap (λ t. cond t 0 (suc (place_of (λ c. eqb c a) S))) (eq-eqb b a e)
place_of-ascending (b ∷ S) a (suc i) up lt e =
    let below = get_or-below b S i up.0 (omega arith) in
    ap (λ t. cond t 0 (suc (place_of (λ c. eqb c a) S))) (ne_eqb b a (λ same. omega (arith, below, e, same)))
    ∙ ap suc (place_of-ascending S a i up.1 (omega arith) e)

pub searched_place : (S : Atoms) (a : ℕ) (r : Result ℕ ℕ) → IsAscending S → IsBinarySearchResult (λ y. nat_cmp y a) S r → (i : ℕ) → r ≡ Ok i → place_in S a ≡ Some (suc i)
searched_place S a r up found i e =
    let Found : Result ℕ ℕ → Type 0 = λ x. IsBinarySearchResult (λ y. nat_cmp y a) S x in
    let ok : IsBinarySearchResult (λ y. nat_cmp y a) S (Ok i) = subst Found e found in
    let at = searched S a (Ok i) ok (λ i j. get_or-ascending S i j up) in
    ap (λ b. cond b (Some (suc (place_of (λ c. eqb c a) S))) None) (has_at S a i at.0 at.1)
    ∙ ap (λ n. Some (suc n)) (place_of-ascending S a i up at.0 at.1)

pub searched_none : (S : Atoms) (a : ℕ) (r : Result ℕ ℕ) → IsAscending S → IsBinarySearchResult (λ y. nat_cmp y a) S r → (i : ℕ) → r ≡ Err i → place_in S a ≡ None
searched_none S a r up found i e =
    let Found : Result ℕ ℕ → Type 0 = λ x. IsBinarySearchResult (λ y. nat_cmp y a) S x in
    let none = place_found S a (Err i) up (subst Found e found) in
    ap (λ b. cond b (Some (suc (place_of (λ c. eqb c a) S))) None) none.absent

-- ---- bodies
abbrev pub AreDistinct : List Body → Type 0
AreDistinct [] = Unit {0}
AreDistinct (b ∷ bs) = (list_any (body_eq b) bs ≡ false) × AreDistinct bs

-- equality of bodies read the other way
pub turned : (b c : Body) → body_eq b c ≡ false → body_eq c b ≡ false
turned b c e = cases (body_eq c b) refl
  where
    cases : (t : Bool) → t ≡ body_eq c b → body_eq c b ≡ false
    cases false q = sym q
    cases true q = absurd (false≢true (sym e ∙ subst (λ (x : Body). body_eq b x ≡ true) (sym (same_body c b (sym q))) (body_eq-itself b)))

AreDistinct-push : (bs : List Body) (c : Body) → AreDistinct bs → list_any (body_eq c) bs ≡ false → AreDistinct (bs ++ c ∷ [])
AreDistinct-push [] c d e = (refl, tt)
AreDistinct-push (b ∷ bs) c d e =
    let parts = or_parts (body_eq c b) (list_any (body_eq c) bs) e in
    (list_any-append (body_eq b) bs (c ∷ []) ∙ ap (λ t. t || (body_eq b c || false)) d.0 ∙ ap (λ t. t || false) (turned c b parts.0), AreDistinct-push bs c d.1 parts.1)

AreDistinct-fold : (bs cs : List Body) → AreDistinct bs → AreDistinct (fold (λ bs b. cond (list_any (body_eq b) bs) bs (bs ++ b ∷ [])) bs cs)
AreDistinct-fold bs [] d = d
AreDistinct-fold bs (c ∷ cs) d = AreDistinct-fold (cond (list_any (body_eq c) bs) bs (bs ++ c ∷ [])) cs (cases (list_any (body_eq c) bs) refl)
  where
    cases : (t : Bool) → t ≡ list_any (body_eq c) bs → AreDistinct (cond t bs (bs ++ c ∷ []))
    cases true q = d
    cases false q = AreDistinct-push bs c d (sym q)

pub bodies_of-distinct : (p : Program) → AreDistinct (bodies_of p)
bodies_of-distinct p = AreDistinct-fold [] (map (λ r. normal r.body) (rules_in_force p)) tt

none_filter : (q : Body → Bool) (b : Body) (bs : List Body) → list_any (body_eq b) bs ≡ false → list_any (body_eq b) (filter q bs) ≡ false
none_filter q b [] e = refl
none_filter q b (c ∷ bs) e = let parts = or_parts (body_eq b c) (list_any (body_eq b) bs) e in cases (q c) parts.0 (none_filter q b bs parts.1)
  where
    cases : (t : Bool) → body_eq b c ≡ false → list_any (body_eq b) (filter q bs) ≡ false → list_any (body_eq b) (cond t (c ∷ filter q bs) (filter q bs)) ≡ false
    cases true ne rest = ap (λ t. t || list_any (body_eq b) (filter q bs)) ne ∙ rest
    cases false ne rest = rest

AreDistinct-filter : (q : Body → Bool) (bs : List Body) → AreDistinct bs → AreDistinct (filter q bs)
AreDistinct-filter q [] d = tt
AreDistinct-filter q (b ∷ bs) d = cases (q b) (AreDistinct-filter q bs d.1)
  where
    cases : (t : Bool) → AreDistinct (filter q bs) → AreDistinct (cond t (b ∷ filter q bs) (filter q bs))
    cases true rest = (none_filter q b bs d.0, rest)
    cases false rest = rest

pub apart_bodies-distinct : (p : Program) → AreDistinct (apart_bodies p)
apart_bodies-distinct p = AreDistinct-filter (is_apart p) (bodies_of p) (bodies_of-distinct p)

none_at : (q : Body → Bool) (bs : List Body) (j : ℕ) (d : Body) → list_any q bs ≡ false → j < length bs → q (get_or bs j d) ≡ false
none_at q [] j d e lt = absurd (omega arith)
none_at q (b ∷ bs) zero d e lt = (or_parts (q b) (list_any q bs) e).0
none_at q (b ∷ bs) (suc j) d e lt = none_at q bs j d (or_parts (q b) (list_any q bs) e).1 (omega arith)

-- a body stands at its own place
pub place_of-distinct : (bs : List Body) (j : ℕ) (d : Body) → AreDistinct bs → j < length bs → place_of (body_eq (get_or bs j d)) bs ≡ j
place_of-distinct [] j d h lt = absurd (omega arith)
place_of-distinct (b ∷ bs) zero d h lt = ap (λ t. cond t 0 (suc (place_of (body_eq b) bs))) (body_eq-itself b)
place_of-distinct (b ∷ bs) (suc j) d h lt =
    ap (λ t. cond t 0 (suc (place_of (body_eq (get_or bs j d)) bs))) (turned b (get_or bs j d) (none_at (body_eq b) bs j d h.0 (omega arith)))
    ∙ ap suc (place_of-distinct bs j d h.1 (omega arith))

-- ---- numbers
pub place_of-within : {X : Type 0} (test : X → Bool) (xs : List X) → list_any test xs ≡ true → place_of test xs < length xs
place_of-within test [] e = absurd (false≢true e)
place_of-within test (x ∷ xs) e = cases (test x) refl (place_of-within test xs)
  where
    cases : (b : Bool) → b ≡ test x → (list_any test xs ≡ true → place_of test xs < length xs) → cond b 0 (suc (place_of test xs)) < suc (length xs)
    cases true q f = omega arith
    cases false q f = let h = f (ap (λ b. b || list_any test xs) q ∙ e) in omega (arith, h)

pub form-within : (p : Program) (b : Body) → is_wide b ≡ true → list_any (body_eq b) (bodies_of p) ≡ true → var_of_form p b ≤ var_count p
form-within p b w e = cases (names p b) refl
  where
    cases : (more : List ℕ) → more ≡ names p b → named_or (atoms_of p) (suc (length (atoms_of p) + place_of (body_eq b) (apart_bodies p))) more ≤ var_count p
    cases [] q =
        let apart : is_apart p b ≡ true = and_from (is_wide b) (is_nameless (names p b)) w (ap is_nameless (sym q)) in
        let h = place_of-within (body_eq b) (apart_bodies p) (filtered_among (is_apart p) b (bodies_of p) apart e) in
        omega (arith, h)
    cases (a ∷ more) q = let h = place_of-within (λ c. eqb c a) (atoms_of p) (named p b a more q).0 in omega (arith, h)

pub form-positive : (p : Program) (b : Body) → 0 < var_of_form p b
form-positive p b = cases (names p b)
  where
    cases : (more : List ℕ) → 0 < named_or (atoms_of p) (suc (length (atoms_of p) + place_of (body_eq b) (apart_bodies p))) more
    cases [] = omega arith
    cases (a ∷ more) = omega arith

pub atom-within : (p : Program) (a : ℕ) → has (atoms_of p) a ≡ true → var_of_atom p a ≤ var_count p
atom-within p a e = let h = place_of-within (λ b. eqb b a) (atoms_of p) e in omega (arith, h)

pub at_each : {X : Type 0} (P : X → Type 0) (xs : List X) (i : ℕ) (d : X) → AllByRecursion P xs → i < length xs → P (get_or xs i d)
at_each P [] i d h lt = absurd (omega arith)
at_each P (x ∷ xs) zero d h lt = h.0
at_each P (x ∷ xs) (suc i) d h lt = at_each P xs i d h.1 (omega arith)

pub number_of_nth_body : (p : Program) (j : ℕ) → j < length (bodies_of p) → number_of_form p (nth_body p j) ≡ suc (length (atoms_of p) + j)
number_of_nth_body p j lt =
    ap (λ n. suc (length (atoms_of p) + n)) (place_of-distinct (bodies_of p) j (body.All []) (bodies_of-distinct p) lt)

passing : (q : Body → Bool) (bs : List Body) → AllByRecursion (λ b. q b ≡ true) (filter q bs)
passing q [] = tt
passing q (b ∷ bs) = cases (q b) refl (passing q bs)
  where
    cases : (t : Bool) → t ≡ q b → AllByRecursion (λ c. q c ≡ true) (filter q bs) → AllByRecursion (λ c. q c ≡ true) (cond t (b ∷ filter q bs) (filter q bs))
    cases true e rest = (sym e, rest)
    cases false e rest = rest

pub var_of_nth_apart : (p : Program) (j : ℕ) → j < length (apart_bodies p) → var_of_form p (get_or (apart_bodies p) j (body.All [])) ≡ suc (length (atoms_of p) + j)
var_of_nth_apart p j lt =
    let b : Body = get_or (apart_bodies p) j (body.All []) in
    own_var p b (at_each (λ c. is_apart p c ≡ true) (apart_bodies p) j (body.All []) (passing (is_apart p) (bodies_of p)) lt)
    ∙ ap (λ n. suc (length (atoms_of p) + n)) (place_of-distinct (apart_bodies p) j (body.All []) (apart_bodies-distinct p) lt)

pub place_of_nth_rule : (p : Program) (i : ℕ) → i < length (rules_in_force p) → place_of_body p (nth_rule p i).body < length (bodies_of p)
place_of_nth_rule p i lt =
    place_of-within (body_eq (normal (nth_rule p i).body)) (bodies_of p)
    (at_each (λ (r : Rule). list_any (body_eq (normal r.body)) (bodies_of p) ≡ true) (rules_in_force p) i (record { head = head.Never; body = body.All [] })
    (each_weaker (Among (rules_in_force p)) (λ r. list_any (body_eq (normal r.body)) (bodies_of p) ≡ true) (λ r m. rule_has_form p r m) (rules_in_force p) (each_among (rules_in_force p))) lt)

pub var_of_nth_atom : (p : Program) (i : ℕ) → i < length (atoms_of p) → var_of_atom p (nth_atom p i) ≡ suc i
var_of_nth_atom p i lt = ap suc (place_of-ascending (atoms_of p) (nth_atom p i) i (IsAscending-set_of (mentions p)) lt refl)
