-- Which atoms depend on which by positive literals.
use Rattle.std.specs.Prelude.{ℕ, Bool, ◌&&◌, List, [], ◌∷◌, ◌++◌, map, filter, IsTrue}
use Rattle.std.specs.List.{list_any}
use Rattle.asp_model.specs.declared.program.Body.{Body}
use Rattle.asp_model.specs.declared.program.Body.TheVariants as body
use Rattle.asp_model.specs.declared.program.Program.{Program}
use Rattle.asp_model.specs.Sets.{has}
use Rattle.asp_model.specs.Holding.{atom_of, is_positive}
use Rattle.asp_model.specs.Models.{rules_in_force, atoms_of, head_atoms}
use Rattle.asp_vars.specs.Numbering.{normal, bodies_of}
use Rattle.asp_vars.specs.Completion.{supports}
use Rattle.asp_vars.specs.Tabled.{form_literals}
use Rattle.asp_scc.specs.Graphs.{Graph}

-- the atoms of a body's positive literals
abbrev pub positive_atoms : Body → List ℕ
positive_atoms (body.All literals) = map atom_of (filter is_positive literals)
positive_atoms (body.AtLeast bound items) = map (λ i. atom_of i.0) (filter (λ i. is_positive i.0) items)

-- whether a rule with a in its head has b as a positive literal of its body, in normal form
abbrev pub depends : Program → ℕ → ℕ → Bool
depends p a b = list_any (λ r. has (head_atoms r.head) a && has (positive_atoms (normal r.body)) b) (rules_in_force p)

-- By one such dependence or more, a reaches b.
pub data Reaches (p : Program) (a : ℕ) : ℕ → Type 0 where
  one : {b : ℕ} → IsTrue (depends p a b) → Reaches p a b
  more : {b c : ℕ} → Reaches p a b → IsTrue (depends p b c) → Reaches p a c

-- ---- the same as a graph over variables
-- the variables of a body's positive literals
abbrev pub positives : Program → Body → List ℕ
positives p b = map (λ l. l.var) (filter (λ l. l.truth) (form_literals p b))

-- from an atom to the bodies of its rules, and from a body to its positive literals; the number 0 is no variable's
abbrev pub graph_of : Program → Graph
graph_of p = ([] ∷ map (supports p) (atoms_of p)) ++ map (positives p) (bodies_of p)
