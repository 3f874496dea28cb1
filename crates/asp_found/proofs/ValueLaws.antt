-- The values of all variables under a set.
use Rattle.std.proofs.Common.{◌≡◌, ℕ, zero, suc, ◌+◌, ◌<◌, ◌≤◌, Bool, true, false, not, ◌&&◌, ◌||◌, eqb, List, [], ◌∷◌, ◌++◌, map, filter, cond, length, take, refl, sym, ap, ◌∙◌, arith}
use Rattle.std.specs.List.{list_any}
use Rattle.std.proofs.lemmas.Bool.{eqb-true}
use Rattle.std.proofs.lemmas.List.Elements.{filter_more}
use Rattle.std.proofs.lemmas.List.{append_assoc, map-append}
use Rattle.asp_model.specs.declared.program.Body.{Body}
use Rattle.asp_model.specs.declared.program.Body.TheVariants as body
use Rattle.asp_model.specs.declared.program.Program.{Program}
use Rattle.asp_model.specs.Sets.{Atoms, has}
use Rattle.asp_model.specs.Holding.{body_holds}
use Rattle.asp_model.specs.Models.{rules_in_force, atoms_of}
use Rattle.asp_model.proofs.MemberLaws.{HasAll-itself}
use Rattle.asp_model.proofs.ReadingLaws.{same_body}
use Rattle.asp_vars.specs.Literals.{Literal, complement, hits, is_true}
use Rattle.asp_vars.specs.Numbering.{bodies_of, is_apart, apart_bodies, var_of_atom, form_at, literal_of_form, literal_of_body, values, nth_atom, nth_body, nth_rule, IsReadBy}
use Rattle.asp_vars.specs.Completion.{supports, support_bodies}
use Rattle.asp_vars.proofs.NumberingLaws.{get_or-place_of, value-atom}
use Rattle.asp_vars.proofs.LiteralLaws.{is_true-complement}
use Rattle.asp_vars.proofs.CompletionLaws.{rule-true}
use Rattle.asp_vars.proofs.SupportLaws.{of_supports}
use Rattle.asp_vars.proofs.PlaceLaws.{at_each, var_of_nth_atom}
use Rattle.asp_vars.proofs.StandingLaws.{Among, each_among}
use Rattle.asp_loop.proofs.WeightedLaws.{body_stands}
use Rattle.asp_found.specs.Marks.{is_marked, Shows, marks_hold}
use Rattle.asp_found.specs.Verdicts.{is_supported}
use Rattle.asp_found.proofs.LeastLaws.{marks_link}
use Rattle.asp_found.proofs.VerdictLaws.{supports_hit, supports_unhit}

-- ---- how they are gathered
pub begun_shows : (p : Program) (S : Atoms) (V ys : List Bool) → V ≡ (false ∷ map (has S) (atoms_of p)) ++ ys → Shows p S V
begun_shows p S V ys is a stands =
    ap (λ m. is_marked m (var_of_atom p a)) is
    ∙ get_or-place_of (λ b. eqb b a) (has S) (atoms_of p) ys (has S a) (λ x e. ap (has S) (eqb-true x a e)) stands

pub value_more : (p : Program) (S : Atoms) (V W : List Bool) (j : ℕ) → j < length (bodies_of p) →
    V ≡ (false ∷ map (has S) (atoms_of p)) ++ map (body_holds S) (filter (is_apart p) (take j (bodies_of p))) →
    W ≡ V ++ map (marks_hold p V V) (filter (is_apart p) (nth_body p j ∷ [])) →
    W ≡ (false ∷ map (has S) (atoms_of p)) ++ map (body_holds S) (filter (is_apart p) (take (j + 1) (bodies_of p)))
value_more p S V W j lt is new =
    let b : Body = nth_body p j in
    let before : List Body = filter (is_apart p) (take j (bodies_of p)) in
    let shows : Shows p S V = begun_shows p S V (map (body_holds S) before) is in
    let holds : marks_hold p V V b ≡ body_holds S b = marks_link p S S V V b shows shows (body_stands p j lt) ∙ same_body S b in
    let marks : List Bool = false ∷ map (has S) (atoms_of p) in
    new
    ∙ ap (λ ys. V ++ ys) (one (is_apart p b) b holds)
    ∙ ap (λ U. U ++ map (body_holds S) (filter (is_apart p) (b ∷ []))) is
    ∙ append_assoc marks (map (body_holds S) before) (map (body_holds S) (filter (is_apart p) (b ∷ [])))
    ∙ ap (λ ys. marks ++ ys) (sym (map-append (body_holds S) before (filter (is_apart p) (b ∷ []))))
    ∙ ap (λ bs. marks ++ map (body_holds S) bs) (sym (filter_more (is_apart p) (bodies_of p) j (body.All []) lt))
  where
    one : (t : Bool) (b : Body) → marks_hold p V V b ≡ body_holds S b → map (marks_hold p V V) (cond t (b ∷ []) []) ≡ map (body_holds S) (cond t (b ∷ []) [])
    one true b h = ap (λ v. v ∷ []) h
    one false b h = refl

take_whole : {X : Type 0} (xs : List X) (n : ℕ) → length xs ≤ n → take n xs ≡ xs
take_whole [] zero h = refl
take_whole [] (suc n) h = refl
take_whole (x ∷ xs) zero h = absurd (omega arith)
take_whole (x ∷ xs) (suc n) h = ap (λ ys. x ∷ ys) (take_whole xs n (omega arith))

-- ---- what they say
pub values_show : (p : Program) (S : Atoms) (V : List Bool) → V ≡ values p S → Shows p S V
values_show p S V is = begun_shows p S V (map (body_holds S) (apart_bodies p)) is

pub atom_value : (p : Program) (S : Atoms) (V : List Bool) (i : ℕ) → V ≡ values p S → i < length (atoms_of p) → is_marked V (i + 1) ≡ has S (nth_atom p i)
atom_value p S V i is lt =
    ap (λ U. is_marked U (i + 1)) is
    ∙ ap (is_marked (values p S)) (let e = var_of_nth_atom p i lt in let same : i + 1 ≡ var_of_atom p (nth_atom p i) = omega (arith, e) in same)
    ∙ value-atom p S (nth_atom p i) (at_each (λ a. has (atoms_of p) a ≡ true) (atoms_of p) i 0 (HasAll-itself (atoms_of p)) lt)

pub nth_among : (p : Program) (i : ℕ) → i < length (rules_in_force p) → Among (rules_in_force p) (nth_rule p i)
nth_among p i lt = at_each (Among (rules_in_force p)) (rules_in_force p) i _ (each_among (rules_in_force p)) lt

pub rule_value : (p : Program) (S : Atoms) (V : List Bool) (i : ℕ) (l : Literal) → V ≡ values p S → IsReadBy p S → i < length (rules_in_force p) →
    l ≡ literal_of_body p (nth_rule p i).body → is_true V l ≡ body_holds S (nth_rule p i).body
rule_value p S V i l is read lt lit = ap (λ U. is_true U l) is ∙ ap (is_true (values p S)) lit ∙ rule-true p S read (nth_rule p i) (nth_among p i lt)

any_not_hit : (V : List Bool) (f : ℕ → Literal) (ns : List ℕ) → list_any (λ n. is_true V (f n)) ns ≡ not (hits V (map (λ n. complement (f n)) ns))
any_not_hit V f [] = refl
any_not_hit V f (n ∷ ns) =
    ap (λ b. is_true V (f n) || b) (any_not_hit V f ns)
    ∙ turned (is_true V (f n)) (hits V (map (λ m. complement (f m)) ns))
    ∙ ap (λ b. not (b && hits V (map (λ m. complement (f m)) ns))) (sym (is_true-complement V (f n)))
  where
    turned : (a b : Bool) → (a || not b) ≡ not (not a && b)
    turned true b = refl
    turned false b = refl

pub supported_is : (p : Program) (S : Atoms) (V : List Bool) (a : ℕ) (numbers : List ℕ) → V ≡ values p S → IsReadBy p S → numbers ≡ supports p a →
    list_any (λ n. is_true V (literal_of_form p (form_at p n))) numbers ≡ is_supported p S a
supported_is p S V a numbers is read row =
    ap (λ U. list_any (λ n. is_true U (literal_of_form p (form_at p n))) numbers) is
    ∙ ap (list_any (λ n. is_true (values p S) (literal_of_form p (form_at p n)))) row
    ∙ any_not_hit (values p S) (λ n. literal_of_form p (form_at p n)) (supports p a)
    ∙ ap (λ ls. not (hits (values p S) ls)) (of_supports p (λ b. complement (literal_of_form p b)) a)
    ∙ cases (is_supported p S a) (hits (values p S) others) refl refl
  where
    others : List Literal
    others = map (λ b. complement (literal_of_form p b)) (support_bodies p a)

    cases : (s h : Bool) → s ≡ is_supported p S a → h ≡ hits (values p S) others → not (hits (values p S) others) ≡ is_supported p S a
    cases true true q r = absurd (supports_unhit p S a read (sym r) (sym q))
    cases true false q r = ap not (sym r) ∙ q
    cases false h q r = ap not (supports_hit p S a read (sym q)) ∙ q
