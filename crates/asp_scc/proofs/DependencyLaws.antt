-- The graph over variables leads from atom to atom exactly where the one reaches the other.
use Rattle.std.proofs.Common.{◌≡◌, ℕ, suc, ◌+◌, Bool, true, false, cond, ◌&&◌, ◌||◌, eqb, List, [], ◌∷◌, ◌++◌, map, filter, get_or, refl, sym, ap, ◌∙◌}
use Rattle.std.specs.Prelude.{ℤ, pos, negsuc}
use Rattle.std.specs.List.{list_any, AllByRecursion}
use Rattle.std.proofs.lemmas.Bool.{false≢true, eqb-true, eq-eqb, and_parts, and_from}
use Rattle.std.proofs.lemmas.List.{get_or-append-add, length-map}
use Rattle.asp_model.specs.declared.program.Body.{Body}
use Rattle.asp_model.specs.declared.program.Body.TheVariants as body
use Rattle.asp_model.specs.declared.program.Rule.{Rule}
use Rattle.asp_model.specs.declared.program.Program.{Program}
use Rattle.asp_model.specs.Sets.{has}
use Rattle.asp_model.specs.Holding.{atom_of, is_positive}
use Rattle.asp_model.specs.Models.{rules_in_force, atoms_of, head_atoms}
use Rattle.asp_model.proofs.MemberLaws.{HasAll}
use Rattle.asp_vars.specs.Numbering.{normal, body_eq, bodies_of, place_of, var_of_atom, number_of_form, literal_of}
use Rattle.asp_vars.specs.Completion.{supports}
use Rattle.asp_vars.proofs.NumberingLaws.{same_body, body_eq-itself}
use Rattle.asp_vars.proofs.StandingLaws.{Among, each_among, rule_has_form}
use Rattle.asp_vars.specs.Tabled.{Stands}
use Rattle.asp_vars.proofs.SupportLaws.{some, or_left, or_right, in_map, map_in, form_in, in_forms}
use Rattle.asp_scc.specs.Graphs.{edges, is_in}
use Rattle.asp_scc.specs.Dependencies.{positive_atoms, depends, positives, graph_of}

-- ---- the rows of the graph
place_at : {X Y : Type 0} (test : X → Bool) (f : X → Y) (xs : List X) (ys : List Y) (d v : Y) → ((x : X) → test x ≡ true → f x ≡ v) →
    list_any test xs ≡ true → get_or (map f xs ++ ys) (place_of test xs) d ≡ v
place_at test f [] ys d v h e = absurd (false≢true e)
place_at test f (x ∷ xs) ys d v h e = cases (test x) refl (place_at test f xs ys d v h)
  where
    cases : (b : Bool) → b ≡ test x → (list_any test xs ≡ true → get_or (map f xs ++ ys) (place_of test xs) d ≡ v) → get_or (f x ∷ (map f xs ++ ys)) (cond (test x) 0 (suc (place_of test xs))) d ≡ v
    cases true t later = rw (← t) (h x (sym t))
    cases false t later = rw (← t) (later (ap (λ b. b || list_any test xs) t ∙ e))

append_nil : {X : Type 0} (xs : List X) → xs ++ [] ≡ xs
append_nil [] = refl
append_nil (x ∷ xs) = ap (λ ys. x ∷ ys) (append_nil xs)

pub atom_edges : (p : Program) (a : ℕ) → has (atoms_of p) a ≡ true → edges (graph_of p) (var_of_atom p a) ≡ supports p a
atom_edges p a e =
    place_at (λ b. eqb b a) (supports p) (atoms_of p) (map (positives p) (bodies_of p)) [] (supports p a) (λ b h. ap (supports p) (eqb-true b a h)) e

pub body_edges : (p : Program) (b : Body) → list_any (body_eq b) (bodies_of p) ≡ true → edges (graph_of p) (number_of_form p b) ≡ positives p b
body_edges p b e =
    ap (λ n. get_or (map (supports p) (atoms_of p) ++ map (positives p) (bodies_of p)) (n + place_of (body_eq b) (bodies_of p)) []) (sym (length-map (atoms_of p) (supports p)))
    ∙ get_or-append-add (map (supports p) (atoms_of p)) (map (positives p) (bodies_of p)) (place_of (body_eq b) (bodies_of p)) []
    ∙ ap (λ ys. get_or ys (place_of (body_eq b) (bodies_of p)) []) (sym (append_nil (map (positives p) (bodies_of p))))
    ∙ place_at (body_eq b) (positives p) (bodies_of p) [] [] (positives p b) (λ c h. ap (positives p) (sym (same_body b c h))) e

-- ---- a body's positive literals
positive_vars : (p : Program) (b : Body) → positives p b ≡ map (var_of_atom p) (positive_atoms b)
positive_vars p (body.All ls) = along ls
  where
    along : (ls : List ℤ) → map (λ l. l.var) (filter (λ l. l.truth) (map (literal_of p) ls)) ≡ map (var_of_atom p) (map atom_of (filter is_positive ls))
    along [] = refl
    along (pos a ∷ ls) = ap (λ vs. var_of_atom p a ∷ vs) (along ls)
    along (negsuc a ∷ ls) = along ls
positive_vars p (body.AtLeast bound items) = along items
  where
    along : (is : List (ℤ × ℤ)) → map (λ l. l.var) (filter (λ l. l.truth) (map (λ i. literal_of p i.0) is)) ≡ map (var_of_atom p) (map (λ i. atom_of i.0) (filter (λ i. is_positive i.0) is))
    along [] = refl
    along ((pos a, w) ∷ is) = ap (λ vs. var_of_atom p a ∷ vs) (along is)
    along ((negsuc a, w) ∷ is) = along is

positive_stand : (p : Program) (b : Body) → Stands (atoms_of p) b → HasAll (atoms_of p) (positive_atoms b)
positive_stand p (body.All ls) h = along ls h
  where
    along : (ls : List ℤ) → AllByRecursion (λ l. has (atoms_of p) (atom_of l) ≡ true) ls → HasAll (atoms_of p) (map atom_of (filter is_positive ls))
    along [] h = tt
    along (pos a ∷ ls) h = (h.0, along ls h.1)
    along (negsuc a ∷ ls) h = along ls h.1
positive_stand p (body.AtLeast bound items) h = along items h
  where
    along : (is : List (ℤ × ℤ)) → AllByRecursion (λ i. has (atoms_of p) (atom_of i.0) ≡ true) is → HasAll (atoms_of p) (map (λ i. atom_of i.0) (filter (λ i. is_positive i.0) is))
    along [] h = tt
    along ((pos a, w) ∷ is) h = (h.0, along is h.1)
    along ((negsuc a, w) ∷ is) h = along is h.1

-- ---- one dependence is two edges
-- the body between two atoms
pub record Between (p : Program) (a b : ℕ) : Type 0 where
  pub via : ℕ
  pub first : is_in (edges (graph_of p) (var_of_atom p a)) via ≡ true
  pub second : is_in (edges (graph_of p) via) (var_of_atom p b) ≡ true

pub dependence_edges : (p : Program) (a b : ℕ) → has (atoms_of p) a ≡ true → depends p a b ≡ true → Between p a b
dependence_edges p a b stands e =
    let found = some (Among (rules_in_force p)) (λ r. has (head_atoms r.head) a && has (positive_atoms (normal r.body)) b) (rules_in_force p) (each_among (rules_in_force p)) e in
    let form : Body = normal found.0.body in
    let parts = and_parts (has (head_atoms found.0.head) a) (has (positive_atoms form) b) found.2 in
    let listed : list_any (body_eq form) (bodies_of p) ≡ true = rule_has_form p found.0 found.1 in
    let test : Body → Bool = λ c. list_any (λ (r : Rule). has (head_atoms r.head) a && body_eq (normal r.body) c) (rules_in_force p) in
    let passes : test form ≡ true =
    found.1 (λ (r : Rule). has (head_atoms r.head) a && body_eq (normal r.body) form)
    (and_from (has (head_atoms found.0.head) a) (body_eq form form) parts.0 (body_eq-itself form)) in
    record {
      via = number_of_form p form;
      first = ap (λ row. is_in row (number_of_form p form)) (atom_edges p a stands) ∙ form_in p test form (bodies_of p) listed passes;
      second = ap (λ row. is_in row (var_of_atom p b)) (body_edges p form listed ∙ positive_vars p form) ∙ map_in (var_of_atom p) (positive_atoms form) b parts.1;
    }

-- an atom on which another depends
pub record Next (p : Program) (a v : ℕ) : Type 0 where
  pub atom : ℕ
  pub stands : has (atoms_of p) atom ≡ true
  pub var : v ≡ var_of_atom p atom
  pub needed : depends p a atom ≡ true

pub edges_dependence : (p : Program) (a u v : ℕ) → has (atoms_of p) a ≡ true → is_in (edges (graph_of p) (var_of_atom p a)) u ≡ true → is_in (edges (graph_of p) u) v ≡ true → Next p a v
edges_dependence p a u v stands e f =
    let found = in_forms p a u (sym (ap (λ row. is_in row u) (atom_edges p a stands)) ∙ e) in
    let b : Body = found.0 in
    let row : edges (graph_of p) u ≡ map (var_of_atom p) (positive_atoms b) = ap (edges (graph_of p)) (sym found.2) ∙ body_edges p b found.1.0.0 ∙ positive_vars p b in
    let next = in_map (λ c. (has (atoms_of p) c ≡ true) × (has (positive_atoms b) c ≡ true)) (var_of_atom p) (positive_atoms b) v
    (standing (positive_atoms b) (λ c h. h) (positive_stand p b found.1.0.1)) (sym (ap (λ r. is_in r v) row) ∙ f) in
    let rule = some (Among (rules_in_force p)) (λ (r : Rule). has (head_atoms r.head) a && body_eq (normal r.body) b) (rules_in_force p) (each_among (rules_in_force p)) found.1.1 in
    let parts = and_parts (has (head_atoms rule.0.head) a) (body_eq (normal rule.0.body) b) rule.2 in
    record {
      atom = next.0;
      stands = next.1.0;
      var = sym next.2;
      needed = rule.1 (λ r. has (head_atoms r.head) a && has (positive_atoms (normal r.body)) next.0)
          (and_from (has (head_atoms rule.0.head) a) (has (positive_atoms (normal rule.0.body)) next.0) parts.0
          (ap (λ c. has (positive_atoms c) next.0) (same_body (normal rule.0.body) b parts.1) ∙ next.1.1));
    }
  where
    standing : (xs : List ℕ) → ((c : ℕ) → has xs c ≡ true → has xs c ≡ true) → HasAll (atoms_of p) xs → AllByRecursion (λ c. (has (atoms_of p) c ≡ true) × (has xs c ≡ true)) xs
    standing xs f h = sub xs xs h (λ c e. e)
      where
        sub : (ys zs : List ℕ) → HasAll (atoms_of p) zs → ((c : ℕ) → has zs c ≡ true → has ys c ≡ true) → AllByRecursion (λ c. (has (atoms_of p) c ≡ true) × (has ys c ≡ true)) zs
        sub ys [] h g = tt
        sub ys (z ∷ zs) h g =
            ((h.0, g z (or_left (eqb z z) (has zs z) (eq-eqb z z refl))), sub ys zs h.1 (λ c e. g c (or_right (eqb z c) (has zs c) e)))
