-- The names of bodies are those that the rules with one head and the supports of the atoms show.
use Rattle.std.proofs.Common.{◌≡◌, ℕ, zero, suc, ◌+◌, ◌<◌, ◌≤◌, Bool, true, false, cond, ◌&&◌, eqb, List, [], ◌∷◌, ◌++◌, map, filter, take, length, get_or, All, refl, sym, ap, ◌∙◌, subst, arith, add-one}
use Rattle.std.specs.List.{list_any, AllByRecursion}
use Rattle.std.proofs.lemmas.Bool.{ne_eqb}
use Rattle.std.proofs.lemmas.Bool.Decides.{nat_tests}
use Rattle.std.proofs.lemmas.List.{get_or-map, length-map, ext_get_or, take_all}
use Rattle.std.proofs.lemmas.List.Elements.{filter_more}
use Rattle.asp_model.specs.declared.program.Body.{Body}
use Rattle.asp_model.specs.declared.program.Body.TheVariants as body
use Rattle.asp_model.specs.declared.program.Head.{Head}
use Rattle.asp_model.specs.declared.program.Head.TheVariants as head
use Rattle.asp_model.specs.declared.program.Program.{Program}
use Rattle.asp_model.specs.declared.program.Rule.{Rule}
use Rattle.asp_model.specs.Sets.{Atoms, IsAscending, has}
use Rattle.asp_model.specs.Models.{rules_in_force, atoms_of, head_atoms, mentions}
use Rattle.asp_model.proofs.MemberLaws.{each_weaker, each-filter}
use Rattle.asp_model.proofs.SetLaws.{IsAscending-set_of}
use Rattle.asp_model.proofs.ReductLaws.{rules_in_force-heads}
use Rattle.asp_vars.specs.Numbering.{normal, body_eq, bodies_of, is_one, is_alone, defines, named_or, place_of, var_in, support_bodies, number_of_form, nth_body, nth_atom}
use Rattle.asp_vars.specs.Completion.{supports}
use Rattle.asp_compile.specs.Named.{is_at, is_only, defines_at, first_below, name_var, AreHeadedAlone, AreNames}
use Rattle.asp_vars.specs.Tabled.{AreSupports, IsBodyNumber}
use Rattle.asp_vars.proofs.PlaceLaws.{bodies_of-distinct, place_of-ascending}
use Rattle.asp_compile.proofs.NumberedLaws.{any_each, place_test, same_var}
use Rattle.asp_vars.proofs.RowLaws.{all_of, support_numbers}
use Rattle.asp_vars.proofs.StandingLaws.{bodies_of-themselves}

-- ---- the first variable that passes
pub first_below-one : (test : ℕ → Bool) → first_below test 1 ≡ 0
first_below-one test = cases (test 0) 0
  where
    cases : (t : Bool) (n : ℕ) → cond t n n ≡ n
    cases true n = refl
    cases false n = refl

-- by the atoms that pass
first_passes : (atoms : Atoms) (q test : ℕ → Bool) (n : ℕ) → IsAscending atoms → ((i : ℕ) → i < length atoms → test (suc i) ≡ q (get_or atoms i 0)) →
    n ≤ length atoms → first_below test (suc n) ≡ named_or atoms 0 (filter q (take n atoms))
first_passes atoms q test zero up same le = first_below-one test ∙ none atoms
  where
    none : (xs : List ℕ) → 0 ≡ named_or atoms 0 (filter q (take 0 xs))
    none [] = refl
    none (x ∷ xs) = refl
first_passes atoms q test (suc n) up same le =
    ap (λ m. cond (eqb m 0 && test (suc n)) (suc n) m) (first_passes atoms q test n up same (omega (arith, le)))
    ∙ ap (λ t. cond (eqb (named_or atoms 0 (filter q (take n atoms))) 0 && t) (suc n) (named_or atoms 0 (filter q (take n atoms)))) (same n (omega (arith, le)))
    ∙ cases (filter q (take n atoms)) (q (get_or atoms n 0))
    ∙ ap (named_or atoms 0) (sym (filter_more q atoms n 0 (omega (arith, le))) ∙ ap (λ k. filter q (take k atoms)) (add-one n))
  where
    here : suc n ≡ var_in atoms (get_or atoms n 0)
    here = ap suc (sym (place_of-ascending atoms (get_or atoms n 0) n up (omega (arith, le)) refl))

    cases : (found : List ℕ) (t : Bool) → cond (eqb (named_or atoms 0 found) 0 && t) (suc n) (named_or atoms 0 found) ≡ named_or atoms 0 (found ++ cond t (get_or atoms n 0 ∷ []) [])
    cases [] true = here
    cases [] false = refl
    cases (a ∷ more) t = ap (λ u. cond (u && t) (suc n) (var_in atoms a)) (ne_eqb (var_in atoms a) 0 (λ e. omega (arith, e)))

-- ---- what the tables show
at_atom : (L : Atoms) (i : ℕ) (h : Head) → IsAscending L → AllByRecursion (λ a. has L a ≡ true) (head_atoms h) → i < length L → is_at L (suc i) h ≡ is_one (get_or L i 0) h
at_atom L i (head.One a) up stand lt = same_var L a i up stand.0 lt
at_atom L i (head.Choice more) up stand lt = refl
at_atom L i head.Never up stand lt = refl

only_alone : (p : Program) (j : ℕ) (bs : List Body) → j < length (bodies_of p) → AllByRecursion (λ b. list_any (body_eq b) (bodies_of p) ≡ true) bs →
    is_only (suc (length (atoms_of p) + j)) (map (number_of_form p) bs) ≡ is_alone (nth_body p j) bs
only_alone p j [] lt listed = refl
only_alone p j (c ∷ []) lt listed =
    shifted (length (atoms_of p)) (place_of (body_eq c) (bodies_of p)) j ∙ place_test (bodies_of p) c j (body.All []) (bodies_of-distinct p) listed.0 lt
  where
    shifted : (n i k : ℕ) → eqb (suc (n + i)) (suc (n + k)) ≡ eqb i k
    shifted n i k = grind (arith, nat_tests)
only_alone p j (c ∷ d ∷ ds) lt listed = refl

supports_listed : (p : Program) (a : ℕ) → AllByRecursion (λ b. list_any (body_eq b) (bodies_of p) ≡ true) (support_bodies p a)
supports_listed p a =
    each-filter (λ b. list_any (body_eq b) (bodies_of p) ≡ true)
    (λ b. list_any (λ (r : Rule). has (head_atoms r.head) a && body_eq (normal r.body) b) (rules_in_force p)) (bodies_of p)
    (bodies_of-themselves p)

pub names_are : (p : Program) (names : List ℕ) (first : ℕ) (headed : List Bool) (rows : List (List ℕ)) → first ≡ length (atoms_of p) + 1 →
    AreHeadedAlone headed (atoms_of p) (rules_in_force p) → AreSupports p rows → AreNames names (length (bodies_of p)) first headed rows →
    names ≡ map (name_var p) (bodies_of p)
names_are p names first headed rows e marks table h =
    ext_get_or 0 names (map (name_var p) (bodies_of p)) (h.whole ∙ sym (length-map (bodies_of p) (name_var p))) (λ j below.
    let lt : j < length (bodies_of p) = subst (λ (n : ℕ). j < n) h.whole below in
    h.each j lt
    ∙ ap (first_below (test j)) (e ∙ add-one (length (atoms_of p)))
    ∙ first_passes (atoms_of p) (defines p (nth_body p j)) (test j) (length (atoms_of p)) (IsAscending-set_of (mentions p)) (same j lt) (omega arith)
    ∙ ap (λ (L : List ℕ). named_or (atoms_of p) 0 (filter (defines p (nth_body p j)) L)) (take_all (length (atoms_of p)) (atoms_of p) (omega arith))
    ∙ sym (get_or-map (name_var p) (bodies_of p) j (body.All []) 0 lt))
  where
    test : ℕ → ℕ → Bool
    test j = defines_at headed rows (first + j)

    ones : ℕ → Bool
    ones i = list_any (λ (r : Rule). is_one (nth_atom p i) r.head) (rules_in_force p)

    marked : (i : ℕ) → i < length (atoms_of p) → get_or headed (suc i) false ≡ ones i
    marked i below =
        marks.each (suc i) (omega (arith, below))
        ∙ any_each (λ (r : Rule). AllByRecursion (λ a. has (atoms_of p) a ≡ true) (head_atoms r.head)) (λ r. is_at (atoms_of p) (suc i) r.head) (λ r. is_one (nth_atom p i) r.head)
        (λ r stand. at_atom (atoms_of p) i r.head (IsAscending-set_of (mentions p)) stand below) (rules_in_force p) (rules_in_force-heads p)

    alone : (j : ℕ) → j < length (bodies_of p) → (i : ℕ) → i < length (atoms_of p) → is_only (first + j) (get_or rows (suc i) []) ≡ is_alone (nth_body p j) (support_bodies p (nth_atom p i))
    alone j lt i below =
        ap (λ (ns : List ℕ). is_only (first + j) ns) (ap (λ k. get_or rows k []) (sym (add-one i)) ∙ table.row i below)
        ∙ ap (λ n. is_only n (supports p (nth_atom p i))) (let at : first + j ≡ suc (length (atoms_of p) + j) = omega (arith, e) in at)
        ∙ only_alone p j (support_bodies p (nth_atom p i)) lt (supports_listed p (nth_atom p i))

    same : (j : ℕ) → j < length (bodies_of p) → (i : ℕ) → i < length (atoms_of p) → test j (suc i) ≡ defines p (nth_body p j) (nth_atom p i)
    same j lt i below =
        ap (λ t. t && is_only (first + j) (get_or rows (suc i) [])) (marked i below) ∙ ap (λ t. ones i && t) (alone j lt i below)

-- the numbers in the rows are those of the bodies
pub rows_within : (p : Program) (first count : ℕ) (rows : List (List ℕ)) → first ≡ length (atoms_of p) + 1 → count ≡ length (bodies_of p) →
    AreSupports p rows → (v : ℕ) → 0 < v → v < first → All (λ n. (first ≤ n) × (n < first + count)) (get_or rows v [])
rows_within p first count rows e f table zero is_var lt = absurd (omega (arith, is_var))
rows_within p first count rows e f table (suc i) is_var lt =
    subst (λ (ns : List ℕ). All (λ n. (first ≤ n) × (n < first + count)) ns) (sym (ap (λ k. get_or rows k []) (sym (add-one i)) ∙ table.row i (omega (arith, lt, e))))
    (all_of (λ n. (first ≤ n) × (n < first + count)) (supports p (nth_atom p i))
    (each_weaker (IsBodyNumber p) (λ n. (first ≤ n) × (n < first + count))
    (λ n within. let low = within.0 in let high = within.1 in (omega (arith, low, e), omega (arith, high, e, f))) (supports p (nth_atom p i))
    (support_numbers p (nth_atom p i))))

-- ---- one variable more
pub name_step : (headed : List Bool) (rows : List (List ℕ)) (n v old new : ℕ) (row : List ℕ) → old ≡ first_below (defines_at headed rows n) v →
    row ≡ get_or rows v [] → new ≡ cond (eqb old 0 && (get_or headed v false && is_only n row)) v old →
    new ≡ first_below (defines_at headed rows n) (v + 1)
name_step headed rows n v old new row so_far is e =
    e
    ∙ ap (λ (ns : List ℕ). cond (eqb old 0 && (get_or headed v false && is_only n ns)) v old) is
    ∙ ap (λ m. cond (eqb m 0 && defines_at headed rows n v) v m) so_far
    ∙ ap (first_below (defines_at headed rows n)) (sym (add-one v))
