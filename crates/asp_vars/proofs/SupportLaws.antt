-- The supports of an atom: its bodies' numbers; and members of lists.
use Rattle.std.proofs.Common.{◌≡◌, ℕ, suc, ◌-◌, ◌<◌, length, Bool, true, false, cond, ◌&&◌, ◌||◌, eqb, List, [], ◌∷◌, map, filter, get_or, refl, sym, ap, ◌∙◌, subst, arith, ◌⊎◌, inl, inr}
use Rattle.std.specs.List.{list_any, AllByRecursion}
use Rattle.std.proofs.lemmas.Bool.{false≢true, eqb-true, eq-eqb}
use Rattle.asp_model.specs.declared.program.Body.{Body}
use Rattle.asp_model.specs.declared.program.Body.TheVariants as body
use Rattle.asp_model.specs.declared.program.Head.TheVariants as head
use Rattle.asp_model.specs.declared.program.Rule.{Rule}
use Rattle.asp_model.specs.declared.program.Program.{Program}
use Rattle.asp_model.specs.Sets.{has}
use Rattle.asp_model.specs.Models.{rules_in_force, atoms_of, head_atoms}
use Rattle.asp_model.proofs.MemberLaws.{each_weaker, HasAll}
use Rattle.asp_vars.specs.Numbering.{normal, body_eq, bodies_of, form_at, nth_body, nth_rule, place_of, place_of_body, var_of_atom, number_of_form}
use Rattle.asp_vars.specs.Completion.{supports, support_bodies}
use Rattle.asp_vars.specs.Tabled.{Stands}
use Rattle.asp_vars.proofs.NumberingLaws.{same_body}
use Rattle.asp_vars.proofs.PlaceLaws.{at_each}
use Rattle.asp_vars.proofs.StandingLaws.{Among, each_among, rule_has_form, bodies_of-stand, bodies_of-themselves}

-- ---- lists
-- an element that passes, with what holds of each
pub some : {X : Type 0} (P : X → Type 0) (q : X → Bool) (xs : List X) → AllByRecursion P xs → list_any q xs ≡ true → (x : X) × P x × (q x ≡ true)
some {X = X} P q [] all e = absurd (false≢true e)
some {X = X} P q (x ∷ xs) all e = cases (q x) refl (some P q xs all.1)
  where
    cases : (b : Bool) → b ≡ q x → (list_any q xs ≡ true → (y : X) × P y × (q y ≡ true)) → (y : X) × P y × (q y ≡ true)
    cases true t later = (x, all.0, sym t)
    cases false t later = later (ap (λ b. b || list_any q xs) t ∙ e)

pub either : (a b : Bool) → (a || b) ≡ true → (a ≡ true) ⊎ (b ≡ true)
either true b e = inl refl
either false b e = inr e

pub or_left : (a b : Bool) → a ≡ true → (a || b) ≡ true
or_left true b e = refl
or_left false b e = absurd (false≢true e)

pub or_right : (a b : Bool) → b ≡ true → (a || b) ≡ true
or_right true b e = refl
or_right false b e = e

pub in_map : {X : Type 0} (P : X → Type 0) (f : X → ℕ) (xs : List X) (v : ℕ) → AllByRecursion P xs → has (map f xs) v ≡ true → (x : X) × P x × (f x ≡ v)
in_map {X = X} P f xs v all e =
    let found = some P (λ x. eqb (f x) v) xs all (mapped xs ∙ e) in (found.0, found.1, eqb-true (f found.0) v found.2)
  where
    mapped : (ys : List X) → list_any (λ x. eqb (f x) v) ys ≡ has (map f ys) v
    mapped [] = refl
    mapped (y ∷ ys) = ap (λ b. eqb (f y) v || b) (mapped ys)

pub map_in : (f : ℕ → ℕ) (xs : List ℕ) (a : ℕ) → has xs a ≡ true → has (map f xs) (f a) ≡ true
map_in f [] a e = absurd (false≢true e)
map_in f (x ∷ xs) a e = elim (either (eqb x a) (has xs a) e) [
  | inl h ↦ or_left (eqb (f x) (f a)) (has (map f xs) (f a)) (eq-eqb (f x) (f a) (ap f (eqb-true x a h)))
  | inr h ↦ or_right (eqb (f x) (f a)) (has (map f xs) (f a)) (map_in f xs a h)
]

pub each-filter : {X : Type 0} (P : X → Type 0) (q : X → Bool) (xs : List X) → AllByRecursion P xs → AllByRecursion (λ x. P x × (q x ≡ true)) (filter q xs)
each-filter P q [] all = tt
each-filter P q (x ∷ xs) all = cases (q x) refl (each-filter P q xs all.1)
  where
    cases : (b : Bool) → b ≡ q x → AllByRecursion (λ y. P y × (q y ≡ true)) (filter q xs) → AllByRecursion (λ y. P y × (q y ≡ true)) (cond (q x) (x ∷ filter q xs) (filter q xs))
    cases true e rest = rw (← e) ((all.0, sym e), rest)
    cases false e rest = rw (← e) rest

pub member : (L xs : List ℕ) (a : ℕ) → HasAll L xs → has xs a ≡ true → has L a ≡ true
member L [] a h e = absurd (false≢true e)
member L (x ∷ xs) a h e = cases (eqb x a) refl (member L xs a h.1)
  where
    cases : (b : Bool) → b ≡ eqb x a → (has xs a ≡ true → has L a ≡ true) → has L a ≡ true
    cases true q later = subst (λ (y : ℕ). has L y ≡ true) (eqb-true x a (sym q)) h.0
    cases false q later = later (ap (λ b. b || has xs a) q ∙ e)

pub at_place : (xs : List ℕ) (a : ℕ) → has xs a ≡ true → get_or xs (place_of (λ b. eqb b a) xs) 0 ≡ a
at_place [] a e = absurd (false≢true e)
at_place (x ∷ xs) a e = cases (eqb x a) refl (at_place xs a)
  where
    cases : (b : Bool) → b ≡ eqb x a → (has xs a ≡ true → get_or xs (place_of (λ b. eqb b a) xs) 0 ≡ a) → get_or (x ∷ xs) (cond (eqb x a) 0 (suc (place_of (λ b. eqb b a) xs))) 0 ≡ a
    cases true q later = rw (← q) (eqb-true x a (sym q))
    cases false q later = rw (← q) (later (ap (λ b. b || has xs a) q ∙ e))

pub same_atom : (p : Program) (a b : ℕ) → has (atoms_of p) a ≡ true → has (atoms_of p) b ≡ true → var_of_atom p a ≡ var_of_atom p b → a ≡ b
same_atom p a b e f same =
    let places : place_of (λ c. eqb c a) (atoms_of p) ≡ place_of (λ c. eqb c b) (atoms_of p) = omega (arith, same) in
    sym (at_place (atoms_of p) a e) ∙ ap (λ i. get_or (atoms_of p) i 0) places ∙ at_place (atoms_of p) b f

-- ---- supports
pub form_in : (p : Program) (q : Body → Bool) (b : Body) (bs : List Body) → list_any (body_eq b) bs ≡ true → q b ≡ true → has (map (number_of_form p) (filter q bs)) (number_of_form p b) ≡ true
form_in p q b [] e t = absurd (false≢true e)
form_in p q b (c ∷ bs) e t = elim (either (body_eq b c) (list_any (body_eq b) bs) e) [
  | inl h ↦
      let same : b ≡ c = same_body b c h in
      let passes : q c ≡ true = ap q (sym same) ∙ t in
      rw passes (or_left (eqb (number_of_form p c) (number_of_form p b)) (has (map (number_of_form p) (filter q bs)) (number_of_form p b))
      (eq-eqb (number_of_form p c) (number_of_form p b) (ap (number_of_form p) (sym same))))
  | inr h ↦ later (q c) (form_in p q b bs h t)
]
  where
    later : (t : Bool) → has (map (number_of_form p) (filter q bs)) (number_of_form p b) ≡ true → has (map (number_of_form p) (cond t (c ∷ filter q bs) (filter q bs))) (number_of_form p b) ≡ true
    later true h = or_right (eqb (number_of_form p c) (number_of_form p b)) (has (map (number_of_form p) (filter q bs)) (number_of_form p b)) h
    later false h = h

pub in_forms : (p : Program) (a v : ℕ) → has (supports p a) v ≡ true → (b : Body) ×
    (((list_any (body_eq b) (bodies_of p) ≡ true) × Stands (atoms_of p) b) ×
    (list_any (λ (r : Rule). has (head_atoms r.head) a && body_eq (normal r.body) b) (rules_in_force p) ≡ true)) × (number_of_form p b ≡ v)
in_forms p a v e =
    let test : Body → Bool = λ c. list_any (λ (r : Rule). has (head_atoms r.head) a && body_eq (normal r.body) c) (rules_in_force p) in
    in_map (λ b. ((list_any (body_eq b) (bodies_of p) ≡ true) × Stands (atoms_of p) b) × (test b ≡ true)) (number_of_form p) (filter test (bodies_of p)) v
    (each-filter (λ b. (list_any (body_eq b) (bodies_of p) ≡ true) × Stands (atoms_of p) b) test (bodies_of p)
    (both (bodies_of p) (bodies_of-themselves p) (bodies_of-stand p))) e
  where
    both : (bs : List Body) → AllByRecursion (λ b. list_any (body_eq b) (bodies_of p) ≡ true) bs → AllByRecursion (Stands (atoms_of p)) bs →
        AllByRecursion (λ b. (list_any (body_eq b) (bodies_of p) ≡ true) × Stands (atoms_of p) b) bs
    both [] h k = tt
    both (b ∷ bs) h k = ((h.0, k.0), both bs h.1 k.1)

-- at its place stands the body
pub at_form : (b : Body) (bs : List Body) (d : Body) → list_any (body_eq b) bs ≡ true → get_or bs (place_of (body_eq b) bs) d ≡ b
at_form b [] d e = absurd (false≢true e)
at_form b (c ∷ bs) d e = cases (body_eq b c) refl (at_form b bs d)
  where
    cases : (t : Bool) → t ≡ body_eq b c → (list_any (body_eq b) bs ≡ true → get_or bs (place_of (body_eq b) bs) d ≡ b) → get_or (c ∷ bs) (cond (body_eq b c) 0 (suc (place_of (body_eq b) bs))) d ≡ b
    cases true q later = rw (← q) (sym (same_body b c (sym q)))
    cases false q later = rw (← q) (later (ap (λ t. t || list_any (body_eq b) bs) q ∙ e))

pub body_of_nth_rule : (p : Program) (i : ℕ) → i < length (rules_in_force p) → nth_body p (place_of_body p (nth_rule p i).body) ≡ normal (nth_rule p i).body
body_of_nth_rule p i lt =
    at_form (normal (nth_rule p i).body) (bodies_of p) (body.All [])
    (at_each (λ (r : Rule). list_any (body_eq (normal r.body)) (bodies_of p) ≡ true) (rules_in_force p) i (record { head = head.Never; body = body.All [] })
    (each_weaker (Among (rules_in_force p)) (λ r. list_any (body_eq (normal r.body)) (bodies_of p) ≡ true) (λ r m. rule_has_form p r m) (rules_in_force p) (each_among (rules_in_force p))) lt)

-- the body with the number of a body is that body
pub form_at-number : (p : Program) (b : Body) → list_any (body_eq b) (bodies_of p) ≡ true → form_at p (number_of_form p b) ≡ b
form_at-number p b listed =
    ap (nth_body p) (let e : number_of_form p b - length (atoms_of p) - 1 ≡ place_of (body_eq b) (bodies_of p) = omega arith in e)
    ∙ at_form b (bodies_of p) (body.All []) listed

-- what is said of an atom's bodies by their numbers
pub of_supports : {X : Type 0} (p : Program) (f : Body → X) (a : ℕ) → map (λ n. f (form_at p n)) (supports p a) ≡ map f (support_bodies p a)
of_supports {X = X} p f a =
    let test : Body → Bool = λ b. list_any (λ (r : Rule). has (head_atoms r.head) a && body_eq (normal r.body) b) (rules_in_force p) in
    alike (filter test (bodies_of p)) (each-filter (λ b. list_any (body_eq b) (bodies_of p) ≡ true) test (bodies_of p) (bodies_of-themselves p))
  where
    alike : (bs : List Body) → AllByRecursion (λ b. (list_any (body_eq b) (bodies_of p) ≡ true) ×
        (list_any (λ (r : Rule). has (head_atoms r.head) a && body_eq (normal r.body) b) (rules_in_force p) ≡ true)) bs →
        map (λ n. f (form_at p n)) (map (number_of_form p) bs) ≡ map f bs
    alike [] h = refl
    alike (b ∷ bs) h =
        ap (λ (x : Body). f x ∷ map (λ n. f (form_at p n)) (map (number_of_form p) bs)) (form_at-number p b h.0.0)
        ∙ ap (λ (xs : List X). f b ∷ xs) (alike bs h.1)
