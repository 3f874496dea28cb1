-- What the rows of a program's bodies are, by the program.
use Rattle.std.proofs.Common.{◌≡◌, ℕ, zero, suc, ◌+◌, ◌*◌, ◌<◌, ◌≤◌, ◌^◌, ◌/◌, ◌%◌, Bool, true, false, cond, ◌&&◌, ◌||◌, eqb, List, [], ◌∷◌, ◌++◌, map, filter, flat_map, length, get_or, All, refl, sym, ap, ◌∙◌, subst, arith}
use Rattle.std.specs.List.{list_any, AllByRecursion}
use Rattle.std.specs.Bool.{beq}
use Rattle.std.proofs.lemmas.Bool.{false≢true, eq-eqb, eqb-true}
use Rattle.std.proofs.lemmas.Bool.Decides.{nat_tests}
use Rattle.std.proofs.lemmas.List.{get_or-map, length-map, ext_get_or}
use Rattle.asp_model.specs.declared.program.Body.{Body}
use Rattle.asp_model.specs.declared.program.Body.TheVariants as body
use Rattle.asp_model.specs.declared.program.Rule.{Rule}
use Rattle.asp_model.specs.declared.program.Program.{Program}
use Rattle.asp_model.specs.Sets.{Atoms, IsAscending, has}
use Rattle.asp_model.specs.Models.{rules_in_force, atoms_of, head_atoms, mentions}
use Rattle.asp_model.proofs.MemberLaws.{list_any-map, list_any-flat_map, each_weaker, each-map}
use Rattle.asp_model.proofs.SetLaws.{IsAscending-set_of}
use Rattle.asp_model.proofs.ReductLaws.{rules_in_force-heads}
use Rattle.asp_table.specs.declared.columns.Occurrence.{Occurrence}
use Rattle.asp_table.specs.Columns.{place_of, has_key, cell_of, column, IsRead}
use Rattle.asp_table.proofs.ColumnLaws.{AreBelow, column_below}
use Rattle.asp_vars.specs.Literals.{Literal, literal_eq, has_literal}
use Rattle.asp_vars.specs.Codes as code
use Rattle.asp_vars.specs.Codes.{code_of}
use Rattle.asp_vars.specs.Numbering.{normal, body_eq, bodies_of, var_in, var_of_atom, number_of_form, number_count, var_count, literal_of_form, nth_atom}
use Rattle.asp_vars.specs.Tabled.{form_literals, heads_of, held_row, places_in, IsAtomVar, AreSupports, AreOccurrences, AreShared, Stands}
use Rattle.asp_compile.specs.Headed.{heads_at, AreHeads}
use Rattle.asp_vars.proofs.NumberingLaws.{same_body}
use Rattle.asp_vars.proofs.PlaceLaws.{AreDistinct, bodies_of-distinct, place_of-distinct, place_of-within, place_of-ascending, at_each}
use Rattle.asp_vars.proofs.StandingLaws.{Among, each_among, each-unmap, rule_has_form, bodies_of-stand, bodies_of-themselves}
use Rattle.asp_vars.proofs.RowLaws.{all_of, literal_vars, head_vars, form_literal}
use Rattle.asp_compile.proofs.RuleLaws.{form}

pub map-after : {X Y Z : Type 0} (g : Y → Z) (f : X → Y) (xs : List X) → map g (map f xs) ≡ map (λ x. g (f x)) xs
map-after g f [] = refl
map-after g f (x ∷ xs) = ap (λ ys. g (f x) ∷ ys) (map-after g f xs)

pub map_each : {X Y : Type 0} (P : X → Type 0) (f g : X → Y) → ((x : X) → P x → f x ≡ g x) → (xs : List X) → AllByRecursion P xs → map f xs ≡ map g xs
map_each P f g h [] a = refl
map_each P f g h (x ∷ xs) a = ap (λ y. y ∷ map f xs) (h x a.0) ∙ ap (λ ys. g x ∷ ys) (map_each P f g h xs a.1)

pub filter_each : {X : Type 0} (p q : X → Bool) → ((x : X) → p x ≡ q x) → (xs : List X) → filter p xs ≡ filter q xs
filter_each p q h [] = refl
filter_each p q h (x ∷ xs) = ap (λ t. cond t (x ∷ filter p xs) (filter p xs)) (h x) ∙ ap (λ ys. cond (q x) (x ∷ ys) ys) (filter_each p q h xs)

pub any_each : {X : Type 0} (P : X → Type 0) (p q : X → Bool) → ((x : X) → P x → p x ≡ q x) → (xs : List X) → AllByRecursion P xs → list_any p xs ≡ list_any q xs
any_each P p q h [] a = refl
any_each P p q h (x ∷ xs) a = ap (λ t. t || list_any p xs) (h x a.0) ∙ ap (λ t. q x || t) (any_each P p q h xs a.1)

at_place : {X : Type 0} (p : X → Bool) (xs : List X) (d : X) → list_any p xs ≡ true → p (get_or xs (place_of p xs) d) ≡ true
at_place p [] d e = absurd (false≢true e)
at_place p (x ∷ xs) d e = cases (p x) refl (at_place p xs d)
  where
    cases : (t : Bool) → t ≡ p x → (list_any p xs ≡ true → p (get_or xs (place_of p xs) d) ≡ true) → p (get_or (x ∷ xs) (cond t 0 (suc (place_of p xs))) d) ≡ true
    cases true q f = sym q
    cases false q f = f (ap (λ t. t || list_any p xs) q ∙ e)

both_ways : (a b : Bool) → (a ≡ true → b ≡ true) → (b ≡ true → a ≡ true) → a ≡ b
both_ways true true f g = refl
both_ways false false f g = refl
both_ways true false f g = absurd (false≢true (f refl))
both_ways false true f g = absurd (false≢true (g refl))

-- ---- rules
abbrev pub rule_place : Program → Rule → ℕ
rule_place p r = place_of (body_eq (form r)) (bodies_of p)

pub rules_have_bodies : (p : Program) → AllByRecursion (λ r. list_any (body_eq (form r)) (bodies_of p) ≡ true) (rules_in_force p)
rules_have_bodies p =
    each_weaker (Among (rules_in_force p)) (λ r. list_any (body_eq (form r)) (bodies_of p) ≡ true) (rule_has_form p) (rules_in_force p) (each_among (rules_in_force p))

pub places_within : (p : Program) → All (λ j. j < length (bodies_of p)) (map (rule_place p) (rules_in_force p))
places_within p =
    all_of (λ j. j < length (bodies_of p)) (map (rule_place p) (rules_in_force p))
    (each-map (λ j. j < length (bodies_of p)) (rule_place p) (rules_in_force p)
    (each_weaker (λ r. list_any (body_eq (form r)) (bodies_of p) ≡ true) (λ r. rule_place p r < length (bodies_of p))
    (λ r e. place_of-within (body_eq (form r)) (bodies_of p) e) (rules_in_force p) (rules_have_bodies p)))

-- ---- heads
pub place_test : (bs : List Body) (b : Body) (j : ℕ) (d : Body) → AreDistinct bs → list_any (body_eq b) bs ≡ true → j < length bs → eqb (place_of (body_eq b) bs) j ≡ body_eq b (get_or bs j d)
place_test bs b j d distinct e lt =
    both_ways (eqb (place_of (body_eq b) bs) j) (body_eq b (get_or bs j d))
    (λ t. subst (λ (n : ℕ). body_eq b (get_or bs n d) ≡ true) (eqb-true (place_of (body_eq b) bs) j t) (at_place (body_eq b) bs d e))
    (λ t. eq-eqb (place_of (body_eq b) bs) j (ap (λ (x : Body). place_of (body_eq x) bs) (same_body b (get_or bs j d) t) ∙ place_of-distinct bs j d distinct lt))

heads_flat : (bs : List Body) (j : ℕ) (d : Body) (rs : List Rule) → AreDistinct bs → j < length bs →
    AllByRecursion (λ r. list_any (body_eq (form r)) bs ≡ true) rs →
    heads_at j (map (λ r. place_of (body_eq (form r)) bs) rs) rs ≡ flat_map (λ r. cond (body_eq (form r) (get_or bs j d)) (head_atoms r.head) []) rs
heads_flat bs j d [] distinct lt h = refl
heads_flat bs j d (r ∷ rs) distinct lt h =
    ap (λ t. cond t (head_atoms r.head) [] ++ heads_at j (map (λ s. place_of (body_eq (form s)) bs) rs) rs) (place_test bs (form r) j d distinct h.0 lt)
    ∙ ap (λ xs. cond (body_eq (form r) (get_or bs j d)) (head_atoms r.head) [] ++ xs) (heads_flat bs j d rs distinct lt h.1)

pub heads_are : (p : Program) (rows : List (List ℕ)) →
    AreHeads rows (atoms_of p) (length (bodies_of p)) (map (rule_place p) (rules_in_force p)) (rules_in_force p) →
    rows ≡ map (heads_of p) (bodies_of p)
heads_are p rows h =
    ext_get_or [] rows (map (heads_of p) (bodies_of p)) (h.whole ∙ sym (length-map (bodies_of p) (heads_of p))) (λ j below.
    let lt : j < length (bodies_of p) = subst (λ (n : ℕ). j < n) h.whole below in
    h.rows j lt
    ∙ ap (map (var_of_atom p)) (heads_flat (bodies_of p) j (body.All []) (rules_in_force p) (bodies_of-distinct p) lt (rules_have_bodies p))
    ∙ sym (get_or-map (heads_of p) (bodies_of p) j (body.All []) [] lt))

-- ---- columns
abbrev cell : ℕ → ℕ → Occurrence
cell b n = record { body = b; place = n }

-- the column of a key, where each row is a body's
columns_of : (f : Body → List ℕ) (number : Body → ℕ) (k j : ℕ) (d : Body) (bs : List Body) →
    ((i : ℕ) → i < length bs → number (get_or bs i d) ≡ j + i) →
    column j k (map f bs) ≡ map (λ b. cell (number b) (place_of (λ x. eqb x k) (f b))) (filter (λ b. has_key (f b) k) bs)
columns_of f number k j d [] h = refl
columns_of f number k j d (b ∷ bs) h =
    let first : number b ≡ j = let e = h 0 (omega arith) in omega (arith, e) in
    let rest = columns_of f number k (suc j) d bs (λ i lt. let e = h (suc i) (omega arith) in omega (arith, e)) in
    ap (λ cs. cell_of j k (f b) ++ cs) rest ∙ cases (has_key (f b) k) first
  where
    others : List Occurrence
    others = map (λ c. cell (number c) (place_of (λ x. eqb x k) (f c))) (filter (λ c. has_key (f c) k) bs)

    cases : (t : Bool) → number b ≡ j → cond t (cell j (place_of (λ x. eqb x k) (f b)) ∷ []) []
        ++ map (λ c. cell (number c) (place_of (λ x. eqb x k) (f c))) (filter (λ c. has_key (f c) k) bs) ≡ map
        (λ c. cell (number c) (place_of (λ x. eqb x k) (f c))) (cond t (b ∷ filter (λ c. has_key (f c) k) bs) (filter (λ c. has_key (f c) k) bs))
    cases true e = ap (λ n. cell n (place_of (λ x. eqb x k) (f b)) ∷ map (λ c. cell (number c) (place_of (λ x. eqb x k) (f c))) (filter (λ c. has_key (f c) k) bs)) (sym e)
    cases false e = refl

abbrev body_place : Program → Body → ℕ
body_place p b = place_of (body_eq b) (bodies_of p)

column_of_bodies : (p : Program) (f : Body → List ℕ) (k : ℕ) →
    column 0 k (map f (bodies_of p)) ≡ map (λ b. cell (body_place p b) (place_of (λ x. eqb x k) (f b))) (filter (λ b. has_key (f b) k) (bodies_of p))
column_of_bodies p f k = columns_of f (body_place p) k 0 (body.All []) (bodies_of p) (λ i lt. let e = place_of-distinct (bodies_of p) i (body.All []) (bodies_of-distinct p) lt in omega (arith, e))

-- ---- supports
pub same_var : (L : Atoms) (x i : ℕ) → IsAscending L → has L x ≡ true → i < length L → eqb (var_in L x) (suc i) ≡ eqb x (get_or L i 0)
same_var L x i up e lt =
    both_ways (eqb (var_in L x) (suc i)) (eqb x (get_or L i 0))
    (λ t. let at : place_of (λ b. eqb b x) L ≡ i = omega (arith, eqb-true (var_in L x) (suc i) t) in
    eq-eqb x (get_or L i 0) (sym (eqb-true (get_or L (place_of (λ b. eqb b x) L) 0) x (at_place (λ b. eqb b x) L 0 e)) ∙ ap (λ n. get_or L n 0) at))
    (λ t. eq-eqb (var_in L x) (suc i) (ap suc (place_of-ascending L x i up lt (sym (eqb-true x (get_or L i 0) t)))))

head_test : (p : Program) (b : Body) (i : ℕ) → i < length (atoms_of p) →
    has_key (heads_of p b) (suc i) ≡ list_any (λ r. has (head_atoms r.head) (nth_atom p i) && body_eq (normal r.body) b) (rules_in_force p)
head_test p b i lt =
    list_any-map (λ x. eqb x (suc i)) (var_of_atom p) (flat_map heads (rules_in_force p))
    ∙ list_any-flat_map (λ x. eqb (var_of_atom p x) (suc i)) heads (rules_in_force p)
    ∙ any_each (λ r. AllByRecursion (λ a. has (atoms_of p) a ≡ true) (head_atoms r.head))
    (λ r. list_any (λ x. eqb (var_of_atom p x) (suc i)) (heads r)) (λ r. has (head_atoms r.head) (nth_atom p i) && body_eq (normal r.body) b) one
    (rules_in_force p) (rules_in_force-heads p)
  where
    heads : Rule → List ℕ
    heads r = cond (body_eq (normal r.body) b) (head_atoms r.head) []

    one : (r : Rule) → AllByRecursion (λ a. has (atoms_of p) a ≡ true) (head_atoms r.head) →
        list_any (λ x. eqb (var_of_atom p x) (suc i)) (cond (body_eq (normal r.body) b) (head_atoms r.head) []) ≡
        (has (head_atoms r.head) (nth_atom p i) && body_eq (normal r.body) b)
    one r h = cases (body_eq (normal r.body) b)
      where
        same : list_any (λ x. eqb (var_of_atom p x) (suc i)) (head_atoms r.head) ≡ has (head_atoms r.head) (nth_atom p i)
        same = any_each (λ a. has (atoms_of p) a ≡ true) (λ x. eqb (var_of_atom p x) (suc i)) (λ x. eqb x (nth_atom p i))
            (λ x e. same_var (atoms_of p) x i (IsAscending-set_of (mentions p)) e lt) (head_atoms r.head) h

        cases : (t : Bool) → list_any (λ x. eqb (var_of_atom p x) (suc i)) (cond t (head_atoms r.head) []) ≡ (has (head_atoms r.head) (nth_atom p i) && t)
        cases true = same ∙ and_true (has (head_atoms r.head) (nth_atom p i))
          where
            and_true : (a : Bool) → a ≡ (a && true)
            and_true true = refl
            and_true false = refl
        cases false = and_false (has (head_atoms r.head) (nth_atom p i))
          where
            and_false : (a : Bool) → false ≡ (a && false)
            and_false true = refl
            and_false false = refl

pub supports_are : (p : Program) (first : ℕ) (heads rows : List (List ℕ)) (columns : List (List Occurrence)) → first ≡ length (atoms_of p) + 1 →
    heads ≡ map (heads_of p) (bodies_of p) → IsRead columns (length (atoms_of p) + 1) heads →
    rows ≡ map (λ row. map (λ o. first + o.body) row) columns → AreSupports p rows
supports_are p first heads rows columns e of_heads read is = record {
  count = ap length is ∙ length-map columns (λ row. map (λ o. first + o.body) row) ∙ read.whole;
  row = λ i lt.
      ap (λ (t : List (List ℕ)). get_or t (i + 1) []) is
      ∙ get_or-map (λ row. map (λ o. first + o.body) row) columns (i + 1) [] [] (subst (λ (n : ℕ). i + 1 < n) (sym read.whole) (omega arith))
      ∙ ap (map (λ o. first + o.body)) (read.cells (i + 1) (omega arith) ∙ ap (column 0 (i + 1)) of_heads
      ∙ ap (λ n. column 0 n (map (heads_of p) (bodies_of p))) (next i) ∙ column_of_bodies p (heads_of p) (suc i))
      ∙ map-after (λ o. first + o.body) (λ b. cell (body_place p b) (place_of (λ x. eqb x (suc i)) (heads_of p b))) (filter (λ b. has_key (heads_of p b) (suc i)) (bodies_of p))
      ∙ ap (map (λ b. first + body_place p b))
      (filter_each (λ b. has_key (heads_of p b) (suc i))
      (λ b. list_any (λ r. has (head_atoms r.head) (nth_atom p i) && body_eq (normal r.body) b) (rules_in_force p)) (λ b. head_test p b i lt)
      (bodies_of p))
      ∙ map_all (λ b. first + body_place p b) (number_of_form p) (λ b. omega (arith, e))
      (filter (λ b. list_any (λ r. has (head_atoms r.head) (nth_atom p i) && body_eq (normal r.body) b) (rules_in_force p)) (bodies_of p));
}
  where
    next : (i : ℕ) → i + 1 ≡ suc i
    next i = omega arith

    map_all : (f g : Body → ℕ) → ((b : Body) → f b ≡ g b) → (bs : List Body) → map f bs ≡ map g bs
    map_all f g h [] = refl
    map_all f g h (b ∷ bs) = ap (λ n. n ∷ map f bs) (h b) ∙ ap (λ ns. g b ∷ ns) (map_all f g h bs)

pub supports_small : (p : Program) (first : ℕ) (heads : List (List ℕ)) (columns : List (List Occurrence)) → first ≡ length (atoms_of p) + 1 →
    heads ≡ map (heads_of p) (bodies_of p) → IsRead columns (length (atoms_of p) + 1) heads → number_count p < 2 ^ 31 →
    All (λ row. All (λ o. first + o.body < 2 ^ 31) row) columns
supports_small p first heads columns e of_heads read few = λ k d lt i o within.
    let below : k < length (atoms_of p) + 1 = subst (λ (n : ℕ). k < n) read.whole lt in
    let count : length heads ≡ length (bodies_of p) = ap length of_heads ∙ length-map (bodies_of p) (heads_of p) in
    let row : get_or columns k d ≡ column 0 k heads = get_or_any columns k d [] lt ∙ read.cells k below in
    let all : AreBelow (length heads) (column 0 k heads) = column_below (length heads) 0 k heads (omega arith) in
    let at : (get_or (column 0 k heads) i o).body < length heads =
    at_each (λ (x : Occurrence). x.body < length heads) (column 0 k heads) i o all (subst (λ (r : List Occurrence). i < length r) row within) in
    let same : (get_or (get_or columns k d) i o).body ≡ (get_or (column 0 k heads) i o).body = ap (λ (r : List Occurrence). (get_or r i o).body) row in
    omega (arith, at, same, count, e, few)
  where
    get_or_any : {X : Type 0} (xs : List X) (i : ℕ) (d e : X) → i < length xs → get_or xs i d ≡ get_or xs i e
    get_or_any [] i d e lt = absurd (omega arith)
    get_or_any (x ∷ xs) zero d e lt = refl
    get_or_any (x ∷ xs) (suc i) d e lt = get_or_any xs i d e (omega arith)

each_all : {X : Type 0} (P : X → Type 0) (xs : List X) → ((i : ℕ) (d : X) → i < length xs → P (get_or xs i d)) → AllByRecursion P xs
each_all P [] h = tt
each_all P (x ∷ xs) h = (h 0 x (omega arith), each_all P xs (λ i d lt. h (suc i) d (omega arith)))

pub heads_within : (p : Program) (heads : List (List ℕ)) → heads ≡ map (heads_of p) (bodies_of p) → All (λ row. All (λ k. k < length (atoms_of p) + 1) row) heads
heads_within p heads e =
    subst (λ (t : List (List ℕ)). All (λ row. All (λ k. k < length (atoms_of p) + 1) row) t) (sym e)
    (all_of (λ row. All (λ k. k < length (atoms_of p) + 1) row) (map (heads_of p) (bodies_of p))
    (each-map (λ row. All (λ k. k < length (atoms_of p) + 1) row) (heads_of p) (bodies_of p)
    (each_all (λ b. All (λ k. k < length (atoms_of p) + 1) (heads_of p b)) (bodies_of p) (λ i d lt.
    all_of (λ k. k < length (atoms_of p) + 1) (heads_of p (get_or (bodies_of p) i d))
    (each_weaker (IsAtomVar p) (λ k. k < length (atoms_of p) + 1) (λ k v. omega (arith, v.1)) (heads_of p (get_or (bodies_of p) i d)) (head_vars p (get_or (bodies_of p) i d)))))))

-- ---- occurrences
abbrev pub codes_of : (Body → List Literal) → Body → List ℕ
codes_of row b = map code_of (row b)

code_test : (v : ℕ) (t : Bool) (n : ℕ) → eqb (2 * v + cond t 0 1) n ≡ (eqb v (n / 2) && beq t (eqb (n % 2) 0))
code_test v true n = grind (arith, nat_tests)
code_test v false n = grind (arith, nat_tests)

code_eq : (k : Literal) (n : ℕ) → eqb (code_of k) n ≡ literal_eq k (code.literal_of n)
code_eq k n = code_test k.var k.truth n

place_of-map : (ls : List Literal) (n : ℕ) → place_of (λ x. eqb x n) (map code_of ls) ≡ place_of (λ k. literal_eq k (code.literal_of n)) ls
place_of-map [] n = refl
place_of-map (l ∷ ls) n =
    ap (λ t. cond t 0 (suc (place_of (λ x. eqb x n) (map code_of ls)))) (code_eq l n)
    ∙ ap (λ m. cond (literal_eq l (code.literal_of n)) 0 (suc m)) (place_of-map ls n)

any_code : (ls : List Literal) (n : ℕ) → has_key (map code_of ls) n ≡ has_literal ls (code.literal_of n)
any_code [] n = refl
any_code (l ∷ ls) n = ap (λ t. t || has_key (map code_of ls) n) (code_eq l n) ∙ ap (λ t. literal_eq l (code.literal_of n) || t) (any_code ls n)

-- the column of a literal's code, where each row has a body's literals
literal_column : (p : Program) (row : Body → List Literal) (n : ℕ) → column 0 n (map (codes_of row) (bodies_of p)) ≡ places_in p row (code.literal_of n)
literal_column p row n =
    column_of_bodies p (codes_of row) n
    ∙ map_all (λ b. cell (body_place p b) (place_of (λ x. eqb x n) (codes_of row b)))
    (λ b. cell (body_place p b) (place_of (λ k. literal_eq k (code.literal_of n)) (row b)))
    (λ b. ap (cell (body_place p b)) (place_of-map (row b) n)) (filter (λ b. has_key (codes_of row b) n) (bodies_of p))
    ∙ ap (map (λ b. cell (body_place p b) (place_of (λ k. literal_eq k (code.literal_of n)) (row b))))
    (filter_each (λ b. has_key (codes_of row b) n) (λ b. has_literal (row b) (code.literal_of n)) (λ b. any_code (row b) n) (bodies_of p))
  where
    map_all : (f g : Body → Occurrence) → ((b : Body) → f b ≡ g b) → (bs : List Body) → map f bs ≡ map g bs
    map_all f g h [] = refl
    map_all f g h (b ∷ bs) = ap (λ n. n ∷ map f bs) (h b) ∙ ap (λ ns. g b ∷ ns) (map_all f g h bs)

codes_are : (p : Program) (codes : List (List ℕ)) (literals : List (List Literal)) → codes ≡ map (map code_of) literals →
    literals ≡ map (form_literals p) (bodies_of p) → codes ≡ map (codes_of (form_literals p)) (bodies_of p)
codes_are p codes literals is of_bodies = is ∙ ap (map (map code_of)) of_bodies ∙ map-after (map code_of) (form_literals p) (bodies_of p)

pub occurrences_are : (p : Program) (codes : List (List ℕ)) (literals : List (List Literal)) (rows : List (List Occurrence)) →
    codes ≡ map (map code_of) literals → literals ≡ map (form_literals p) (bodies_of p) → IsRead rows (2 * length (atoms_of p) + 2) codes →
    AreOccurrences p rows
occurrences_are p codes literals rows is of_bodies read = record {
  count = read.whole;
  row = λ n lt. read.cells n lt ∙ ap (column 0 n) (codes_are p codes literals is of_bodies) ∙ literal_column p (form_literals p) n;
}

code_below : (k : Literal) (n : ℕ) → k.var ≤ n → code_of k < 2 * n + 2
code_below k n le = below k.var k.truth le
  where
    below : (v : ℕ) (t : Bool) → v ≤ n → 2 * v + cond t 0 1 < 2 * n + 2
    below v true le = omega arith
    below v false le = omega arith

pub codes_within : (p : Program) (codes : List (List ℕ)) (literals : List (List Literal)) → codes ≡ map (map code_of) literals →
    literals ≡ map (form_literals p) (bodies_of p) → All (λ row. All (λ k. k < 2 * length (atoms_of p) + 2) row) codes
codes_within p codes literals is of_bodies =
    subst (λ (t : List (List ℕ)). All (λ row. All (λ k. k < 2 * length (atoms_of p) + 2) row) t) (sym (codes_are p codes literals is of_bodies))
    (all_of (λ row. All (λ k. k < 2 * length (atoms_of p) + 2) row) (map (codes_of (form_literals p)) (bodies_of p))
    (each-map (λ row. All (λ k. k < 2 * length (atoms_of p) + 2) row) (codes_of (form_literals p)) (bodies_of p)
    (each_all (λ b. All (λ k. k < 2 * length (atoms_of p) + 2) (codes_of (form_literals p) b)) (bodies_of p) (λ i d lt.
    all_of (λ k. k < 2 * length (atoms_of p) + 2) (codes_of (form_literals p) (get_or (bodies_of p) i d))
    (each-map (λ k. k < 2 * length (atoms_of p) + 2) code_of (form_literals p (get_or (bodies_of p) i d))
    (each_weaker (λ (l : Literal). IsAtomVar p l.var) (λ l. code_of l < 2 * length (atoms_of p) + 2) (λ l v. code_below l (length (atoms_of p)) v.1)
    (form_literals p (get_or (bodies_of p) i d)) (vars i d lt)))))))
  where
    vars : (i : ℕ) (d : Body) → i < length (bodies_of p) → AllByRecursion (λ (l : Literal). IsAtomVar p l.var) (form_literals p (get_or (bodies_of p) i d))
    vars i d lt = subst (λ (b : Body). AllByRecursion (λ (l : Literal). IsAtomVar p l.var) (form_literals p b)) (get_or_any (bodies_of p) i (body.All []) d lt) (literal_vars p i lt)
      where
        get_or_any : (xs : List Body) (i : ℕ) (d e : Body) → i < length xs → get_or xs i d ≡ get_or xs i e
        get_or_any [] i d e lt = absurd (omega arith)
        get_or_any (x ∷ xs) zero d e lt = refl
        get_or_any (x ∷ xs) (suc i) d e lt = get_or_any xs i d e (omega arith)

-- ---- the literals of bodies
held_are : (p : Program) (codes : List (List ℕ)) (held : List Literal) → codes ≡ map (λ l. code_of l ∷ []) held →
    held ≡ map (literal_of_form p) (bodies_of p) → codes ≡ map (codes_of (held_row p)) (bodies_of p)
held_are p codes held is of_bodies = is ∙ ap (map (λ l. code_of l ∷ [])) of_bodies ∙ map-after (λ l. code_of l ∷ []) (literal_of_form p) (bodies_of p)

pub shared_are : (p : Program) (codes : List (List ℕ)) (held : List Literal) (rows : List (List Occurrence)) →
    codes ≡ map (λ l. code_of l ∷ []) held → held ≡ map (literal_of_form p) (bodies_of p) → IsRead rows (2 * var_count p + 2) codes → AreShared p rows
shared_are p codes held rows is of_bodies read = record {
  count = read.whole;
  row = λ n lt. read.cells n lt ∙ ap (column 0 n) (held_are p codes held is of_bodies) ∙ literal_column p (held_row p) n;
}

pub held_within : (p : Program) (codes : List (List ℕ)) (held : List Literal) → codes ≡ map (λ l. code_of l ∷ []) held →
    held ≡ map (literal_of_form p) (bodies_of p) → All (λ row. All (λ k. k < 2 * var_count p + 2) row) codes
held_within p codes held is of_bodies =
    subst (λ (t : List (List ℕ)). All (λ row. All (λ k. k < 2 * var_count p + 2) row) t) (sym (held_are p codes held is of_bodies))
    (all_of (λ row. All (λ k. k < 2 * var_count p + 2) row) (map (codes_of (held_row p)) (bodies_of p))
    (each-map (λ row. All (λ k. k < 2 * var_count p + 2) row) (codes_of (held_row p)) (bodies_of p)
    (each_weaker (λ b. list_any (body_eq b) (bodies_of p) ≡ true) (λ b. All (λ k. k < 2 * var_count p + 2) (codes_of (held_row p) b)) (λ b e.
    all_of (λ k. k < 2 * var_count p + 2) (codes_of (held_row p) b) (code_below (literal_of_form p b) (var_count p) (form_literal p b e).1, tt)) (bodies_of p) (bodies_of-themselves p))))

-- ---- forms
pub forms_stand : {X : Type 0} (p : Program) (f : X → Body) (xs : List X) → map f xs ≡ bodies_of p → All (λ x. Stands (atoms_of p) (f x)) xs
forms_stand p f xs e =
    all_of (λ x. Stands (atoms_of p) (f x)) xs
    (each-unmap (Stands (atoms_of p)) f xs (subst (λ (bs : List Body). AllByRecursion (Stands (atoms_of p)) bs) (sym e) (bodies_of-stand p)))

pub of_forms : {X Y : Type 0} (p : Program) (f : X → Body) (g : Body → Y) (xs : List X) → map f xs ≡ bodies_of p → map (λ x. g (f x)) xs ≡ map g (bodies_of p)
of_forms p f g xs e = sym (map-after g f xs) ∙ ap (map g) e
