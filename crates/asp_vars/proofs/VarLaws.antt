-- The completion's literals are of the program's variables.
use Rattle.std.proofs.Common.{◌≡◌, ℕ, Bool, true, false, not, ◌&&◌, List, [], ◌∷◌, ◌++◌, map, arith}
use Rattle.std.specs.List.{list_any, flat_map, AllByRecursion}
use Rattle.asp_model.specs.declared.program.Body.{Body}
use Rattle.asp_model.specs.declared.program.Body.TheVariants as body
use Rattle.asp_model.specs.declared.program.Head.{Head}
use Rattle.asp_model.specs.declared.program.Head.TheVariants as head
use Rattle.asp_model.specs.declared.program.Rule.{Rule}
use Rattle.asp_model.specs.declared.program.Program.{Program}
use Rattle.asp_model.specs.Sets.{has}
use Rattle.asp_model.specs.Holding.{atom_of, is_positive}
use Rattle.asp_model.specs.Models.{rules_in_force, atoms_of, head_atoms}
use Rattle.asp_model.proofs.MemberLaws.{each_weaker, each-append, each-flat_map, each-map, each-filter, HasAll, HasAll-itself}
use Rattle.asp_model.proofs.ReductLaws.{rules_in_force-heads}
use Rattle.asp_vars.specs.Literals.{Literal, T, F, complement, literal_eq, has_literal}
use Rattle.asp_vars.specs.Numbering.{normal, body_eq, bodies_of, var_of_atom, literal_of_form, literal_of_body, literal_of}
use Rattle.asp_vars.specs.Completion.{support_bodies, body_nogoods, rule_nogoods, atom_nogood, atom_nogoods, completion}
use Rattle.asp_vars.specs.Tabled.{Stands, IsLiteral}
use Rattle.asp_vars.proofs.CompletionLaws.{each_of_body, each_unless}
use Rattle.asp_vars.proofs.PlaceLaws.{atom-within}
use Rattle.asp_vars.proofs.RowLaws.{form_literal}
use Rattle.asp_vars.proofs.StandingLaws.{Among, each_among, each_both, rule_has_form, bodies_of-stand, bodies_of-themselves}

abbrev pub Each : Program → List Literal → Type 0
Each p n = AllByRecursion (IsLiteral p) n

atom_literal : (p : Program) (a : ℕ) (t : Bool) → has (atoms_of p) a ≡ true → IsLiteral p (record { var = var_of_atom p a; truth = t })
atom_literal p a t h = (omega arith, atom-within p a h)

body_vars : (p : Program) (b : Body) → list_any (body_eq b) (bodies_of p) ≡ true → Stands (atoms_of p) b → AllByRecursion (Each p) (body_nogoods p b)
body_vars p (body.All ls) listed stand =
    let b = form_literal p (body.All ls) listed in
    let literals : Each p (map (literal_of p) ls) =
    each-map (IsLiteral p) (literal_of p) ls (each_weaker (λ l. has (atoms_of p) (atom_of l) ≡ true) (λ l. IsLiteral p (literal_of p l))
    (λ l h. atom_literal p (atom_of l) (is_positive l) h) ls stand) in
    each_of_body (Each p) p ls (λ _. literals) (
      (b, literals),
      each-map (Each p) (λ l. literal_of_form p (body.All ls) ∷ complement (literal_of p l) ∷ []) ls
          (each_weaker (λ l. has (atoms_of p) (atom_of l) ≡ true) (λ l. Each p (literal_of_form p (body.All ls) ∷ complement (literal_of p l) ∷ []))
          (λ l h. (b, (atom_literal p (atom_of l) (not (is_positive l)) h, tt))) ls stand),
    )
body_vars p (body.AtLeast bound items) listed stand = tt

rule_vars : (p : Program) (v : Literal) (h : Head) → IsLiteral p v → HasAll (atoms_of p) (head_atoms h) → AllByRecursion (Each p) (rule_nogoods p v h)
rule_vars p v (head.One a) b atoms = each_unless (Each p) (literal_eq v (T (var_of_atom p a))) (v ∷ F (var_of_atom p a) ∷ []) (b, (atom_literal p a false atoms.0, tt))
rule_vars p v (head.Choice xs) b atoms = tt
rule_vars p v head.Never b atoms = ((b, tt), tt)

atom_vars : (p : Program) (a : ℕ) → has (atoms_of p) a ≡ true → Each p (atom_nogood p a)
atom_vars p a h = (
  atom_literal p a true h,
  each-map (IsLiteral p) (λ b. complement (literal_of_form p b)) (support_bodies p a)
      (each-filter (λ b. IsLiteral p (literal_of_form p b)) (λ b. list_any (λ r. has (head_atoms r.head) a && body_eq (normal r.body) b) (rules_in_force p)) (bodies_of p)
      (each_weaker (λ b. list_any (body_eq b) (bodies_of p) ≡ true) (λ b. IsLiteral p (literal_of_form p b)) (form_literal p) (bodies_of p) (bodies_of-themselves p))),
)

pub completion_vars : (p : Program) → AllByRecursion (Each p) (completion p)
completion_vars p =
    let bodies : List (List Literal) = flat_map (body_nogoods p) (bodies_of p) in
    let rules : List (List Literal) = flat_map (λ (r : Rule). rule_nogoods p (literal_of_body p r.body) r.head) (rules_in_force p) in
    let atoms : List (List Literal) = flat_map (atom_nogoods p) (atoms_of p) in
    each-append (Each p) (bodies ++ rules) atoms
    (each-append (Each p) bodies rules
    (each-flat_map (Each p) (body_nogoods p) (bodies_of p)
    (each_weaker (λ b. (list_any (body_eq b) (bodies_of p) ≡ true) × Stands (atoms_of p) b) (λ b. AllByRecursion (Each p) (body_nogoods p b)) (λ b h. body_vars p b h.0 h.1) (bodies_of p)
    (each_both (λ b. list_any (body_eq b) (bodies_of p) ≡ true) (Stands (atoms_of p)) (bodies_of p) (bodies_of-themselves p) (bodies_of-stand p))))
    (each-flat_map (Each p) (λ (r : Rule). rule_nogoods p (literal_of_body p r.body) r.head) (rules_in_force p)
    (each_weaker (λ r. Among (rules_in_force p) r × HasAll (atoms_of p) (head_atoms r.head))
    (λ r. AllByRecursion (Each p) (rule_nogoods p (literal_of_body p r.body) r.head))
    (λ r h. rule_vars p (literal_of_body p r.body) r.head (form_literal p (normal r.body) (rule_has_form p r h.0)) h.1) (rules_in_force p)
    (each_both (Among (rules_in_force p)) (λ r. HasAll (atoms_of p) (head_atoms r.head)) (rules_in_force p) (each_among (rules_in_force p)) (rules_in_force-heads p)))))
    (each-flat_map (Each p) (atom_nogoods p) (atoms_of p)
    (each_weaker (λ a. has (atoms_of p) a ≡ true) (λ a. AllByRecursion (Each p) (atom_nogoods p a))
    (λ a h. each_unless (Each p) (has_literal (atom_nogood p a) (F (var_of_atom p a))) (atom_nogood p a) (atom_vars p a h)) (atoms_of p)
    (HasAll-itself (atoms_of p))))
