-- The completion, part by part.
use Rattle.std.proofs.Common.{◌≡◌, ℕ, ◌+◌, ◌-◌, ◌<◌, ◌≤◌, true, false, List, [], ◌∷◌, ◌++◌, map, length, get_or, take, drop, refl, sym, ap, ◌∙◌, subst, arith, append_assoc, length-append, length-drop}
use Rattle.std.specs.Prelude.{ℤ, is_some}
use Rattle.std.specs.List.{AllByRecursion, flat_map}
use Rattle.std.proofs.lemmas.Bool.{false≢true}
use Rattle.std.proofs.lemmas.List.{take_more, length-map, get_or-map, get_or-drop, get_or_append_left}
use Rattle.std.proofs.lemmas.Grind.{flat_map-append}
use Rattle.std.proofs.Math.Seq.{get_or-append_right, take-add, take-length}
use Rattle.asp_model.specs.declared.program.Body.{Body}
use Rattle.asp_model.specs.declared.program.Body.TheVariants as body
use Rattle.asp_model.specs.declared.program.Head.TheVariants as head
use Rattle.asp_model.specs.declared.program.Program.{Program}
use Rattle.asp_model.specs.Models.{rules_in_force, atoms_of}
use Rattle.asp_vars.specs.declared.nogood.Nogood.{Nogood}
use Rattle.asp_vars.specs.Literals.{Literal, complement}
use Rattle.asp_vars.specs.Numbering.{bodies_of, literal_of, nth_atom, nth_rule, is_wide, literal_of_form}
use Rattle.asp_model.specs.Sound.{IsSound}
use Rattle.asp_model.proofs.MemberLaws.{each-map}
use Rattle.asp_vars.specs.Entailment.{Entailed}
use Rattle.asp_vars.specs.Completion.{is_barred, atom_nogoods, body_nogoods, completion}
use Rattle.asp_vars.proofs.CompletionLaws.{body_nogoods-wide, normal_nogoods-barred, normal_nogoods-defining, completion_entailed}
use Rattle.asp_vars.specs.Tabled.{form_literals, bound_of}
use Rattle.asp_complete.specs.Listed.{groups, nogoods_between, nogoods_of_rule, pure, parts}

same_parts : (p : Program) (b : Literal) (ls : List ℤ) → map pure (map (λ l. b ∷ complement (literal_of p l) ∷ []) ls) ≡ parts b (map (literal_of p) ls)
same_parts p b [] = refl
same_parts p b (l ∷ ls) = ap (λ ns. pure (b ∷ complement (literal_of p l) ∷ []) ∷ ns) (same_parts p b ls)

pub body_listed : (p : Program) (b : Body) → is_some (bound_of b) ≡ false → is_wide b ≡ true → is_barred p b ≡ false →
    map pure (body_nogoods p b) ≡ pure (complement (literal_of_form p b) ∷ form_literals p b) ∷ parts (literal_of_form p b) (form_literals p b)
body_listed p (body.All ls) e wide open_ =
    ap (map pure) (body_nogoods-wide p ls wide ∙ normal_nogoods-defining p ls open_)
    ∙ ap (λ ns. pure (complement (literal_of_form p (body.All ls)) ∷ map (literal_of p) ls) ∷ ns) (same_parts p (literal_of_form p (body.All ls)) ls)
body_listed p (body.AtLeast c items) e wide open_ = absurd (false≢true (sym e))

pub barred_listed : (p : Program) (b : Body) → is_some (bound_of b) ≡ false → is_wide b ≡ true → is_barred p b ≡ true → map pure (body_nogoods p b) ≡ pure (form_literals p b) ∷ []
barred_listed p (body.All ls) e wide barred = ap (map pure) (body_nogoods-wide p ls wide ∙ normal_nogoods-barred p ls barred)
barred_listed p (body.AtLeast c items) e wide barred = absurd (false≢true (sym e))

pub map-append : (ns ms : List (List Literal)) → map pure (ns ++ ms) ≡ map pure ns ++ map pure ms
map-append [] ms = refl
map-append (n ∷ ns) ms = ap (λ xs. pure n ∷ xs) (map-append ns ms)

nothing_more : (ns : List Nogood) → ns ++ [] ≡ ns
nothing_more [] = refl
nothing_more (n ∷ ns) = ap (λ xs. n ∷ xs) (nothing_more ns)

append_again : (a b c : List Nogood) → a ++ (b ++ c) ≡ (a ++ b) ++ c
append_again [] b c = refl
append_again (n ∷ a) b c = ap (λ xs. n ∷ xs) (append_again a b c)

flat_map-push : {X : Type 0} (f : X → List (List Literal)) (xs : List X) (x : X) → map pure (flat_map f (xs ++ x ∷ [])) ≡ map pure (flat_map f xs) ++ map pure (f x)
flat_map-push f [] x = map-append (f x) [] ∙ nothing_more (map pure (f x))
flat_map-push f (y ∷ ys) x =
    map-append (f y) (flat_map f (ys ++ x ∷ []))
    ∙ ap (λ ns. map pure (f y) ++ ns) (flat_map-push f ys x)
    ∙ append_again (map pure (f y)) (map pure (flat_map f ys)) (map pure (f x))
    ∙ ap (λ ns. ns ++ map pure (f x)) (sym (map-append (f y) (flat_map f ys)))

pub listed_more : {X : Type 0} (f : X → List (List Literal)) (xs : List X) (i : ℕ) (d : X) → i < length xs →
    map pure (flat_map f (take (i + 1) xs)) ≡ map pure (flat_map f (take i xs)) ++ map pure (f (get_or xs i d))
listed_more f xs i d lt = ap (λ ys. map pure (flat_map f ys)) (take_more xs i d lt) ∙ flat_map-push f (take i xs) (get_or xs i d)

-- ---- groups

behind_bodies : (p : Program) (i : ℕ) → length (bodies_of p) ≤ i
    → get_or (groups p) i [] ≡ get_or (map (nogoods_of_rule p) (rules_in_force p) ++ map (atom_nogoods p) (atoms_of p)) (i - length (bodies_of p)) []
behind_bodies p i le =
    let same = length-map (bodies_of p) (body_nogoods p) in
    get_or-append_right (map (body_nogoods p) (bodies_of p)) _ i [] (omega (arith, le, same))
    ∙ ap (λ (n : ℕ). get_or (map (nogoods_of_rule p) (rules_in_force p) ++ map (atom_nogoods p) (atoms_of p)) (i - n) []) same

of_rule : (p : Program) (i : ℕ) → length (bodies_of p) ≤ i → i - length (bodies_of p) < length (rules_in_force p) → get_or (groups p) i [] ≡ nogoods_of_rule p (nth_rule p (i - length (bodies_of p)))
of_rule p i le lt =
    let inside : i - length (bodies_of p) < length (map (nogoods_of_rule p) (rules_in_force p)) = omega (arith, lt, length-map (rules_in_force p) (nogoods_of_rule p)) in
    behind_bodies p i le
    ∙ get_or_append_left (map (nogoods_of_rule p) (rules_in_force p)) _ [] (i - length (bodies_of p)) inside
    ∙ get_or-map (nogoods_of_rule p) (rules_in_force p) (i - length (bodies_of p)) (record { head = head.Never; body = body.All [] }) [] lt

of_atom : (p : Program) (i : ℕ) → length (bodies_of p) ≤ i → length (rules_in_force p) ≤ i - length (bodies_of p) → (i - length (bodies_of p)) - length (rules_in_force p) < length (atoms_of p)
    → get_or (groups p) i [] ≡ atom_nogoods p (nth_atom p ((i - length (bodies_of p)) - length (rules_in_force p)))
of_atom p i le behind lt =
    let same = length-map (rules_in_force p) (nogoods_of_rule p) in
    let at : ℕ = (i - length (bodies_of p)) - length (rules_in_force p) in
    behind_bodies p i le
    ∙ get_or-append_right (map (nogoods_of_rule p) (rules_in_force p)) _ (i - length (bodies_of p)) [] (omega (arith, behind, same))
    ∙ ap (λ (n : ℕ). get_or (map (atom_nogoods p) (atoms_of p)) ((i - length (bodies_of p)) - n) []) same
    ∙ get_or-map (atom_nogoods p) (atoms_of p) at 0 [] lt

pub length-groups : (p : Program) → length (groups p) ≡ length (bodies_of p) + (length (rules_in_force p) + length (atoms_of p))
length-groups p =
    simp (length-append, length-map) refl

pub rule_group : (p : Program) (i n m : ℕ) → n ≡ length (bodies_of p) → m ≡ length (rules_in_force p) → n ≤ i → i - n < m → get_or (groups p) i [] ≡ nogoods_of_rule p (nth_rule p (i - n))
rule_group p i n m is are le lt = rw is (of_rule p i (omega (arith, is, le)) (omega (arith, is, are, lt)))

pub atom_group : (p : Program) (i n m : ℕ) → n ≡ length (bodies_of p) → m ≡ length (rules_in_force p) → n ≤ i → m ≤ i - n → i < length (groups p) →
    get_or (groups p) i [] ≡ atom_nogoods p (nth_atom p (i - n - m))
atom_group p i n m is are le behind lt =
    let place : (i - length (bodies_of p)) - length (rules_in_force p) ≡ i - n - m = omega (arith, is, are) in
    of_atom p i (omega (arith, is, le)) (omega (arith, is, are, behind)) (omega (arith, is, are, le, behind, lt, length-groups p))
    ∙ ap (λ (k : ℕ). atom_nogoods p (nth_atom p k)) place

pub group_more : (p : Program) (from i : ℕ) → from ≤ i → i < length (groups p) → map pure (nogoods_between p from (i + 1)) ≡ map pure (nogoods_between p from i) ++ map pure (get_or (groups p) i [])
group_more p from i le lt =
    let gs = drop from (groups p) in
    let inside : i - from < length gs = omega (arith, lt, length-drop from (groups p)) in
    let next : i + 1 - from ≡ (i - from) + 1 = omega arith in
    let back : from + (i - from) ≡ i = omega arith in
    ap (λ (n : ℕ). map pure (flat_map (λ (g : List (List Literal)). g) (take n gs))) next
    ∙ listed_more (λ (g : List (List Literal)). g) gs (i - from) [] inside
    ∙ ap (λ (g : List (List Literal)). map pure (nogoods_between p from i) ++ map pure g) (get_or-drop from (groups p) (i - from) [] ∙ ap (λ (n : ℕ). get_or (groups p) n []) back)

-- ---- all of them

flat-map : {X : Type 0} (f : X → List (List Literal)) (xs : List X) → flat_map (λ (g : List (List Literal)). g) (map f xs) ≡ flat_map f xs
flat-map f [] = refl
flat-map f (x ∷ xs) = ap (λ (t : List (List Literal)). f x ++ t) (flat-map f xs)

pub all_groups : (p : Program) → flat_map (λ (g : List (List Literal)). g) (groups p) ≡ completion p
all_groups p =
    let flat : List (List (List Literal)) → List (List Literal) = flat_map (λ (g : List (List Literal)). g) in
    let bodies : List (List (List Literal)) = map (body_nogoods p) (bodies_of p) in
    let rules : List (List (List Literal)) = map (nogoods_of_rule p) (rules_in_force p) in
    let atoms : List (List (List Literal)) = map (atom_nogoods p) (atoms_of p) in
    flat_map-append (λ (g : List (List Literal)). g) bodies (rules ++ atoms)
    ∙ ap (λ (t : List (List Literal)). flat bodies ++ t) (flat_map-append (λ (g : List (List Literal)). g) rules atoms)
    ∙ sym (append_assoc (flat bodies) (flat rules) (flat atoms))
    ∙ rw (flat-map (body_nogoods p) (bodies_of p), flat-map (nogoods_of_rule p) (rules_in_force p), flat-map (atom_nogoods p) (atoms_of p)) refl

-- those of the first groups, and of some more
pub between_more : (p : Program) (from to : ℕ) → from ≤ to → nogoods_between p 0 to ≡ nogoods_between p 0 from ++ nogoods_between p from to
between_more p from to le =
    let e : to - 0 ≡ (from - 0) + (to - from) = omega arith in
    let f : from - 0 ≡ from = omega arith in
    ap (λ (n : ℕ). flat_map (λ (g : List (List Literal)). g) (take n (groups p))) e
    ∙ ap (flat_map (λ (g : List (List Literal)). g)) (take-add (from - 0) (to - from) (groups p))
    ∙ flat_map-append (λ (g : List (List Literal)). g) (take (from - 0) (groups p)) _
    ∙ ap (λ (n : ℕ). nogoods_between p 0 from ++ flat_map (λ (g : List (List Literal)). g) (take (to - from) (drop n (groups p)))) f

pub between_all : (p : Program) (count : ℕ) → count ≡ length (groups p) → nogoods_between p 0 count ≡ completion p
between_all p count is =
    let e : count - 0 ≡ length (groups p) = omega (arith, is) in
    ap (λ (n : ℕ). flat_map (λ (g : List (List Literal)). g) (take n (groups p))) e
    ∙ ap (flat_map (λ (g : List (List Literal)). g)) (take-length (groups p))
    ∙ all_groups p

each_left : (P : List Literal → Type 0) (xs ys : List (List Literal)) → AllByRecursion P (xs ++ ys) → AllByRecursion P xs
each_left P [] ys a = tt
each_left P (x ∷ xs) ys a = (a.0, each_left P xs ys a.1)

each_right : (P : List Literal → Type 0) (xs ys : List (List Literal)) → AllByRecursion P (xs ++ ys) → AllByRecursion P ys
each_right P [] ys a = a
each_right P (x ∷ xs) ys a = each_right P xs ys a.1

-- what holds of all nogoods holds of those of some groups
pub each_between : (P : List Literal → Type 0) (p : Program) (from to : ℕ) → from ≤ to → to ≤ length (groups p) → AllByRecursion P (completion p) → AllByRecursion P (nogoods_between p from to)
each_between P p from to le within a =
    let whole = sym (between_all p (length (groups p)) refl) ∙ between_more p to (length (groups p)) within in
    let front = each_left P (nogoods_between p 0 to) _ (subst (AllByRecursion P) whole a) in
    each_right P (nogoods_between p 0 from) _ (subst (AllByRecursion P) (between_more p from to le) front)

-- each nogood of the list is entailed
pub listed_entailed : (p : Program) → IsSound p → AllByRecursion (λ n. Entailed p n.lits) (map pure (completion p))
listed_entailed p sound = each-map (λ (n : Nogood). Entailed p n.lits) pure (completion p) (completion_entailed p sound)
