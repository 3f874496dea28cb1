-- The bodies of the rules in force are among the distinct ones, and their atoms are among the program's.
use Rattle.std.proofs.Common.{◌≡◌, ℕ, Bool, true, false, cond, ◌||◌, List, [], ◌∷◌, ◌++◌, map, fold, refl, sym, ap, ◌∙◌, subst}
use Rattle.std.specs.Prelude.{ℤ, pos, ◌+ℤ◌, int_lt}
use Rattle.std.specs.List.{list_any, flat_map, AllByRecursion}
use Rattle.std.specs.Ordering.{int_eq}
use Rattle.std.proofs.lemmas.Bool.{false≢true}
use Rattle.std.proofs.lemmas.List.Folds.{list_any-append}
use Rattle.asp_model.specs.declared.program.Body.{Body}
use Rattle.asp_model.specs.declared.program.Body.TheVariants as body
use Rattle.asp_model.specs.declared.program.Rule.{Rule}
use Rattle.asp_model.specs.declared.program.Minimize.{Minimize}
use Rattle.asp_model.specs.declared.program.Output.{Output}
use Rattle.asp_model.specs.declared.program.External.{External}
use Rattle.asp_model.specs.declared.program.ExternalValue.{ExternalValue}
use Rattle.asp_model.specs.declared.program.ExternalValue.TheVariants as value
use Rattle.asp_model.specs.declared.program.Program.{Program}
use Rattle.asp_model.specs.Sets.{has}
use Rattle.asp_model.specs.Holding.{atom_of, body_atoms}
use Rattle.asp_model.specs.Models.{rules_in_force, atoms_of, head_atoms, external_rule, last_value, open_atoms}
use Rattle.asp_model.proofs.SetLaws.{has-set_of}
use Rattle.asp_model.proofs.MemberLaws.{each_of, each_weaker, each-append, each-flat_map, one_passes, HasAll, HasAll-left, HasAll-flat_map}
use Rattle.asp_vars.specs.Tabled.{Stands}
use Rattle.asp_vars.specs.Numbering.{with_literal, with_weight, normal, body_eq, bodies_of}
use Rattle.asp_vars.proofs.NumberingLaws.{same_body, body_eq-itself}

-- each element passes where it is tested
abbrev pub Among : {X : Type 0} → List X → X → Type 0
Among {X} xs x = (p : X → Bool) → p x ≡ true → list_any p xs ≡ true

or_left : (a b : Bool) → a ≡ true → (a || b) ≡ true
or_left true b e = refl
or_left false b e = absurd (false≢true e)

or_right : (a b : Bool) → b ≡ true → (a || b) ≡ true
or_right true b e = refl
or_right false b e = e

pub each_among : {X : Type 0} (xs : List X) → AllByRecursion (Among xs) xs
each_among [] = tt
each_among (x ∷ xs) = (
  λ p e. or_left (p x) (list_any p xs) e,
  each_weaker (Among xs) (Among (x ∷ xs)) (λ y m p e. or_right (p x) (list_any p xs) (m p e)) xs (each_among xs),
)

pub each_both : {X : Type 0} (P Q : X → Type 0) (xs : List X) → AllByRecursion P xs → AllByRecursion Q xs → AllByRecursion (λ x. P x × Q x) xs
each_both P Q [] a b = tt
each_both P Q (x ∷ xs) a b = ((a.0, b.0), each_both P Q xs a.1 b.1)

pub each-unmap : {X Y : Type 0} (P : Y → Type 0) (f : X → Y) (xs : List X) → AllByRecursion P (map f xs) → AllByRecursion (λ x. P (f x)) xs
each-unmap P f [] h = tt
each-unmap P f (x ∷ xs) h = (h.0, each-unmap P f xs h.1)

-- ---- bodies among the distinct ones
add_body : List Body → Body → List Body
add_body bs b = cond (list_any (body_eq b) bs) bs (bs ++ b ∷ [])

or_false : (a : Bool) → a ≡ (a || false)
or_false true = refl
or_false false = refl

or_assoc : (a b c : Bool) → ((a || b) || c) ≡ (a || (b || c))
or_assoc true b c = refl
or_assoc false b c = refl

absorbed : (a b : Bool) → (b ≡ true → a ≡ true) → a ≡ (a || b)
absorbed true b f = refl
absorbed false true f = f refl
absorbed false false f = refl

list_any-add_body : (b c : Body) (bs : List Body) → list_any (body_eq b) (cond (list_any (body_eq c) bs) bs (bs ++ c ∷ [])) ≡ (list_any (body_eq b) bs || body_eq b c)
list_any-add_body b c bs = cases (list_any (body_eq c) bs) refl
  where
    cases : (t : Bool) → t ≡ list_any (body_eq c) bs → list_any (body_eq b) (cond t bs (bs ++ c ∷ [])) ≡ (list_any (body_eq b) bs || body_eq b c)
    cases true q =
        absorbed (list_any (body_eq b) bs) (body_eq b c) (λ e. subst (λ (x : Body). list_any (body_eq x) bs ≡ true) (sym (same_body b c e)) (sym q))
    cases false q =
        list_any-append (body_eq b) bs (c ∷ []) ∙ ap (λ x. list_any (body_eq b) bs || x) (sym (or_false (body_eq b c)))

pub list_any-distinct : (b : Body) (bs cs : List Body) →
    list_any (body_eq b) (fold (λ bs b. cond (list_any (body_eq b) bs) bs (bs ++ b ∷ [])) bs cs) ≡
    (list_any (body_eq b) bs || list_any (body_eq b) cs)
list_any-distinct b bs [] = or_false (list_any (body_eq b) bs)
list_any-distinct b bs (c ∷ cs) =
    list_any-distinct b (cond (list_any (body_eq c) bs) bs (bs ++ c ∷ [])) cs
    ∙ ap (λ x. x || list_any (body_eq b) cs) (list_any-add_body b c bs)
    ∙ or_assoc (list_any (body_eq b) bs) (body_eq b c) (list_any (body_eq b) cs)

pub among_forms : (rs : List Rule) (r : Rule) → Among rs r → list_any (body_eq (normal r.body)) (map (λ r. normal r.body) rs) ≡ true
among_forms rs r m = unmapped rs ∙ m (λ s. body_eq (normal r.body) (normal s.body)) (body_eq-itself (normal r.body))
  where
    unmapped : (xs : List Rule) → list_any (body_eq (normal r.body)) (map (λ s. normal s.body) xs) ≡ list_any (λ s. body_eq (normal r.body) (normal s.body)) xs
    unmapped [] = refl
    unmapped (x ∷ xs) = ap (λ t. body_eq (normal r.body) (normal x.body) || t) (unmapped xs)

-- the body of each rule in force, in normal form, is one of them
pub rule_has_form : (p : Program) (r : Rule) → Among (rules_in_force p) r → list_any (body_eq (normal r.body)) (bodies_of p) ≡ true
rule_has_form p r m =
    list_any-distinct (normal r.body) [] (map (λ r. normal r.body) (rules_in_force p)) ∙ among_forms (rules_in_force p) r m

-- ---- atoms
each-with_literal : (P : ℤ → Type 0) (l : ℤ) (ks : List ℤ) → P l → AllByRecursion P ks → AllByRecursion P (with_literal l ks)
each-with_literal P l [] h a = (h, tt)
each-with_literal P l (k ∷ ks) h a = cases (int_lt l k) (int_lt k l) (each-with_literal P l ks h a.1)
  where
    cases : (b c : Bool) → AllByRecursion P (with_literal l ks) → AllByRecursion P (cond b (l ∷ k ∷ ks) (k ∷ cond c (with_literal l ks) ks))
    cases true c rest = (h, (a.0, a.1))
    cases false true rest = (a.0, rest)
    cases false false rest = a

each-fold_literals : (P : ℤ → Type 0) (ks ls : List ℤ) → AllByRecursion P ks → AllByRecursion P ls → AllByRecursion P (fold (λ ks l. with_literal l ks) ks ls)
each-fold_literals P ks [] a b = a
each-fold_literals P ks (l ∷ ls) a b = each-fold_literals P (with_literal l ks) ls (each-with_literal P l ks b.0 a) b.1

each-with_weight : (P : ℤ → Type 0) (i : ℤ × ℤ) (js : List (ℤ × ℤ)) → P i.0 → AllByRecursion (λ j. P j.0) js → AllByRecursion (λ j. P j.0) (with_weight i js)
each-with_weight P i [] h a = (h, tt)
each-with_weight P i (j ∷ js) h a = cases (int_lt i.0 j.0) (int_lt j.0 i.0) (each-with_weight P i js h a.1)
  where
    cases : (b c : Bool) → AllByRecursion (λ j. P j.0) (with_weight i js) → AllByRecursion (λ j. P j.0) (cond b (i ∷ j ∷ js) (cond c (j ∷ with_weight i js) ((j.0, j.1 +ℤ i.1) ∷ js)))
    cases true c rest = (h, (a.0, a.1))
    cases false true rest = (a.0, rest)
    cases false false rest = (a.0, a.1)

each-fold_items : (P : ℤ → Type 0) (js is : List (ℤ × ℤ)) → AllByRecursion (λ j. P j.0) js → AllByRecursion (λ j. P j.0) is →
    AllByRecursion (λ j. P j.0) (fold (λ js i. cond (int_eq i.1 (pos 0)) js (with_weight i js)) js is)
each-fold_items P js [] a b = a
each-fold_items P js (i ∷ is) a b = each-fold_items P (cond (int_eq i.1 (pos 0)) js (with_weight i js)) is (cases (int_eq i.1 (pos 0))) b.1
  where
    cases : (t : Bool) → AllByRecursion (λ j. P j.0) (cond t js (with_weight i js))
    cases true = a
    cases false = each-with_weight P i js b.0 a

pub normal-stands : (L : List ℕ) (b : Body) → HasAll L (body_atoms b) → Stands L (normal b)
normal-stands L (body.All literals) h =
    each-fold_literals (λ l. has L (atom_of l) ≡ true) [] literals tt (each-unmap (λ a. has L a ≡ true) atom_of literals h)
normal-stands L (body.AtLeast bound items) h =
    each-fold_items (λ l. has L (atom_of l) ≡ true) [] items tt (each-unmap (λ a. has L a ≡ true) (λ i. atom_of i.0) items h)

each-distinct : (P : Body → Type 0) (bs cs : List Body) → AllByRecursion P bs → AllByRecursion P cs → AllByRecursion P (fold (λ bs b. cond (list_any (body_eq b) bs) bs (bs ++ b ∷ [])) bs cs)
each-distinct P bs [] a b = a
each-distinct P bs (c ∷ cs) a b = each-distinct P (cond (list_any (body_eq c) bs) bs (bs ++ c ∷ [])) cs (cases (list_any (body_eq c) bs)) b.1
  where
    cases : (t : Bool) → AllByRecursion P (cond t bs (bs ++ c ∷ []))
    cases true = a
    cases false = each-append P bs (c ∷ []) a (b.0, tt)

external_bodies : (L : List ℕ) (a : ℕ) (v : ExternalValue) → AllByRecursion (λ (r : Rule). HasAll L (body_atoms r.body)) (external_rule a v)
external_bodies L a value.Free = (tt, tt)
external_bodies L a value.True = (tt, tt)
external_bodies L a value.False = tt
external_bodies L a value.Release = tt

pub back-append : {X : Type 0} (P : X → Type 0) (xs ys : List X) → AllByRecursion P (xs ++ ys) → AllByRecursion P ys
back-append P [] ys h = h
back-append P (x ∷ xs) ys h = back-append P xs ys h.1

pub rules_in_force-bodies : (p : Program) → AllByRecursion (λ (r : Rule). HasAll (atoms_of p) (body_atoms r.body)) (rules_in_force p)
rules_in_force-bodies p =
    let heads_and_bodies : Rule → List ℕ = λ r. head_atoms r.head ++ body_atoms r.body in
    let A = flat_map heads_and_bodies p.rules in
    let B = flat_map (λ (m : Minimize). map (λ item. atom_of item.0) m.items) p.minimize in
    let C = flat_map (λ (o : Output). map atom_of o.condition) p.outputs in
    let D = map (λ (e : External). e.atom) p.externals in
    let E = map atom_of p.assumptions in
    let standing = A ++ B ++ C ++ D ++ E in
    let of_rules : (xs : List ℕ) → HasAll A xs → HasAll standing xs = λ xs h. HasAll-left (A ++ B ++ C ++ D) E xs (HasAll-left (A ++ B ++ C) D xs (HasAll-left (A ++ B) C xs (HasAll-left A B xs h))) in
    each-append (λ (r : Rule). HasAll (atoms_of p) (body_atoms r.body)) p.rules _
    (each_weaker (λ (r : Rule). HasAll A (heads_and_bodies r)) (λ r. HasAll (atoms_of p) (body_atoms r.body)) (λ r h.
    each_weaker (λ a. has standing a ≡ true) (λ a. has (atoms_of p) a ≡ true) (λ a e. has-set_of standing a ∙ e) (body_atoms r.body)
    (of_rules (body_atoms r.body) (back-append (λ a. has A a ≡ true) (head_atoms r.head) (body_atoms r.body) h))) p.rules (HasAll-flat_map heads_and_bodies p.rules))
    (each-flat_map (λ (r : Rule). HasAll (atoms_of p) (body_atoms r.body)) (λ a. external_rule a (last_value p.externals a)) (open_atoms p)
    (each_of (λ a. AllByRecursion (λ (r : Rule). HasAll (atoms_of p) (body_atoms r.body)) (external_rule a (last_value p.externals a)))
    (λ a. external_bodies (atoms_of p) a (last_value p.externals a)) (open_atoms p)))

-- the atoms of each of them
pub bodies_of-stand : (p : Program) → AllByRecursion (Stands (atoms_of p)) (bodies_of p)
bodies_of-stand p =
    each-distinct (Stands (atoms_of p)) [] (map (λ r. normal r.body) (rules_in_force p)) tt
    (mapped (rules_in_force p) (rules_in_force-bodies p))
  where
    mapped : (rs : List Rule) → AllByRecursion (λ (r : Rule). HasAll (atoms_of p) (body_atoms r.body)) rs → AllByRecursion (Stands (atoms_of p)) (map (λ r. normal r.body) rs)
    mapped [] h = tt
    mapped (r ∷ rs) h = (normal-stands (atoms_of p) r.body h.0, mapped rs h.1)

-- the atoms of a body of the program
pub form-stands : (p : Program) (b : Body) → list_any (body_eq b) (bodies_of p) ≡ true → Stands (atoms_of p) b
form-stands p b =
    one_passes (Stands (atoms_of p) b) (body_eq b) (bodies_of p)
    (each_weaker (Stands (atoms_of p)) (λ c. body_eq b c ≡ true → Stands (atoms_of p) b)
    (λ c s same. subst (λ (x : Body). Stands (atoms_of p) x) (sym (same_body b c same)) s) (bodies_of p) (bodies_of-stand p))

pub bodies_of-themselves : (p : Program) → AllByRecursion (λ b. list_any (body_eq b) (bodies_of p) ≡ true) (bodies_of p)
bodies_of-themselves p =
    each_weaker (Among (bodies_of p)) (λ b. list_any (body_eq b) (bodies_of p) ≡ true) (λ b m. m (body_eq b) (body_eq-itself b)) (bodies_of p) (each_among (bodies_of p))
