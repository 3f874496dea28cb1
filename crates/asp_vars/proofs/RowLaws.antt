-- The variables in the rows of the tables.
use Rattle.std.proofs.Common.{◌≡◌, ℕ, ◌<◌, Bool, true, false, cond, ◌&&◌, eqb, List, [], ◌∷◌, map, refl, filter, flat_map, length, get_or, All, ap, ◌∙◌, arith}
use Rattle.std.specs.Prelude.{ℤ}
use Rattle.std.specs.List.{list_any, AllByRecursion}
use Rattle.std.proofs.lemmas.List.{get_or-map}
use Rattle.asp_model.specs.declared.program.Body.{Body}
use Rattle.asp_model.specs.declared.program.Body.TheVariants as body
use Rattle.asp_model.specs.declared.program.Head.TheVariants as head
use Rattle.asp_model.specs.declared.program.Program.{Program}
use Rattle.asp_model.specs.declared.program.Rule.{Rule}
use Rattle.asp_model.specs.Sets.{has}
use Rattle.asp_model.specs.Holding.{atom_of}
use Rattle.asp_model.specs.Models.{rules_in_force, atoms_of, head_atoms}
use Rattle.asp_model.proofs.MemberLaws.{each_weaker, each-map, each-filter, each-flat_map}
use Rattle.asp_model.proofs.ReductLaws.{rules_in_force-heads}
use Rattle.asp_vars.specs.Literals.{Literal, T}
use Rattle.asp_vars.specs.Numbering.{normal, body_eq, bodies_of, is_wide, var_of_atom, var_of_form, number_of_form, literal_of_form, place_of_body, literal_of, nth_body, nth_rule}
use Rattle.asp_vars.specs.Completion.{supports}
use Rattle.asp_vars.specs.Tabled.{form_literals, heads_of, IsAtomVar, IsBodyNumber, IsLiteral}
use Rattle.asp_vars.proofs.PlaceLaws.{at_each, place_of-within, atom-within, form-within, form-positive}
use Rattle.asp_vars.specs.Tabled.{Stands}
use Rattle.asp_vars.proofs.StandingLaws.{form-stands, bodies_of-stand, bodies_of-themselves}

pub all_of : {X : Type 0} (P : X → Type 0) (xs : List X) → AllByRecursion P xs → All P xs
all_of P xs h = λ k d lt. at_each P xs k d h lt

pub atom_var : (p : Program) (a : ℕ) → has (atoms_of p) a ≡ true → IsAtomVar p (var_of_atom p a)
atom_var p a e = let h = place_of-within (λ b. eqb b a) (atoms_of p) e in (omega arith, omega (arith, h))

pub form_number : (p : Program) (b : Body) → list_any (body_eq b) (bodies_of p) ≡ true → IsBodyNumber p (number_of_form p b)
form_number p b e = let h = place_of-within (body_eq b) (bodies_of p) e in (omega arith, omega (arith, h))

wide_literal : (p : Program) (b : Body) → is_wide b ≡ true → list_any (body_eq b) (bodies_of p) ≡ true → IsLiteral p (T (var_of_form p b))
wide_literal p b w e = (form-positive p b, form-within p b w e)

-- the literal of a body is the program's
pub form_literal : (p : Program) (b : Body) → list_any (body_eq b) (bodies_of p) ≡ true → IsLiteral p (literal_of_form p b)
form_literal p b e = cases b e (form-stands p b e)
  where
    cases : (c : Body) → list_any (body_eq c) (bodies_of p) ≡ true → Stands (atoms_of p) c → IsLiteral p (literal_of_form p c)
    cases (body.All []) h s = wide_literal p (body.All []) refl h
    cases (body.All (l ∷ [])) h s = (omega arith, atom-within p (atom_of l) s.0)
    cases (body.All (l ∷ k ∷ ks)) h s = wide_literal p (body.All (l ∷ k ∷ ks)) refl h
    cases (body.AtLeast c items) h s = wide_literal p (body.AtLeast c items) refl h

standing_literals : (p : Program) (b : Body) → Stands (atoms_of p) b → AllByRecursion (λ l. IsAtomVar p l.var) (form_literals p b)
standing_literals p (body.All ls) h =
    each-map (λ (l : Literal). IsAtomVar p l.var) (literal_of p) ls
    (each_weaker (λ l. has (atoms_of p) (atom_of l) ≡ true) (λ l. IsAtomVar p (var_of_atom p (atom_of l))) (λ l e. atom_var p (atom_of l) e) ls h)
standing_literals p (body.AtLeast c items) h =
    each-map (λ (l : Literal). IsAtomVar p l.var) (λ (i : ℤ × ℤ). literal_of p i.0) items
    (each_weaker (λ (i : ℤ × ℤ). has (atoms_of p) (atom_of i.0) ≡ true) (λ i. IsAtomVar p (var_of_atom p (atom_of i.0))) (λ i e. atom_var p (atom_of i.0) e) items h)

pub literal_vars : (p : Program) (j : ℕ) → j < length (bodies_of p) → AllByRecursion (λ l. IsAtomVar p l.var) (form_literals p (nth_body p j))
literal_vars p j lt = standing_literals p (nth_body p j) (at_each (Stands (atoms_of p)) (bodies_of p) j (body.All []) (bodies_of-stand p) lt)

pub head_vars : (p : Program) (b : Body) → AllByRecursion (IsAtomVar p) (heads_of p b)
head_vars p b =
    let heads : Rule → List ℕ = λ r. cond (body_eq (normal r.body) b) (head_atoms r.head) [] in
    each-map (IsAtomVar p) (var_of_atom p) (flat_map heads (rules_in_force p))
    (each-flat_map (λ a. IsAtomVar p (var_of_atom p a)) heads (rules_in_force p)
    (each_weaker (λ (r : Rule). AllByRecursion (λ a. has (atoms_of p) a ≡ true) (head_atoms r.head)) (λ r. AllByRecursion (λ a. IsAtomVar p (var_of_atom p a)) (heads r)) (λ r h.
    cases r (body_eq (normal r.body) b) (each_weaker (λ a. has (atoms_of p) a ≡ true) (λ a. IsAtomVar p (var_of_atom p a)) (atom_var p)
    (head_atoms r.head) h)) (rules_in_force p) (rules_in_force-heads p)))
  where
    cases : (r : Rule) (t : Bool) → AllByRecursion (λ a. IsAtomVar p (var_of_atom p a)) (head_atoms r.head) → AllByRecursion (λ a. IsAtomVar p (var_of_atom p a)) (cond t (head_atoms r.head) [])
    cases r true h = h
    cases r false h = tt

pub support_numbers : (p : Program) (a : ℕ) → AllByRecursion (IsBodyNumber p) (supports p a)
support_numbers p a =
    let test : Body → Bool = λ b. list_any (λ (r : Rule). has (head_atoms r.head) a && body_eq (normal r.body) b) (rules_in_force p) in
    each-map (IsBodyNumber p) (number_of_form p) (filter test (bodies_of p))
    (each-filter (λ b. IsBodyNumber p (number_of_form p b)) test (bodies_of p)
    (each_weaker (λ b. list_any (body_eq b) (bodies_of p) ≡ true) (λ b. IsBodyNumber p (number_of_form p b)) (form_number p) (bodies_of p) (bodies_of-themselves p)))

pub rule_body_at : (p : Program) (places : List ℕ) (i d : ℕ) → places ≡ map (λ r. place_of_body p r.body) (rules_in_force p) →
    i < length (rules_in_force p) → get_or places i d ≡ place_of_body p (nth_rule p i).body
rule_body_at p places i d e lt =
    ap (λ (xs : List ℕ). get_or xs i d) e ∙ get_or-map (λ (r : Rule). place_of_body p r.body) (rules_in_force p) i (record { head = head.Never; body = body.All [] }) d lt
