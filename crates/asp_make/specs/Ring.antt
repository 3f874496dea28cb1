-- The ring of n nodes, each coloured with one of three colours, neighbours differently, the first colour as rarely as can be.
use Rattle.std.specs.Prelude.{ℕ, zero, suc, ◌+◌, ◌*◌, ◌%◌, List, [], ◌∷◌, ◌++◌, ℤ, pos, neg_ℤ}
use Rattle.asp_model.specs.declared.program.Head.TheVariants.{Choice, Never}
use Rattle.asp_model.specs.declared.program.Body.TheVariants.{All}
use Rattle.asp_model.specs.declared.program.Rule.{Rule}
use Rattle.asp_model.specs.declared.program.Minimize.{Minimize}
use Rattle.asp_model.specs.declared.program.Program.{Program}

-- what each number below n gives, one after another
abbrev pub each_below : {A : Type 0} → (ℕ → List A) → ℕ → List A
each_below give zero = []
each_below give (suc n) = each_below give n ++ give n

-- the atom that says that the node i has the colour c, from 1 to 3
abbrev pub coloured : ℕ → ℕ → ℕ
coloured i c = 3 * i + c

abbrev pub atoms_of_node : ℕ → List ℕ
atoms_of_node i = coloured i 1 ∷ coloured i 2 ∷ coloured i 3 ∷ []

-- the constraint with these literals
abbrev pub never : List ℤ → Rule
never literals = record { head = Never; body = All literals }

abbrev pub not_both : ℕ → ℕ → Rule
not_both a b = never (pos a ∷ pos b ∷ [])

abbrev pub some_of : ℕ → ℕ → ℕ → Rule
some_of a b c = never (neg_ℤ (pos a) ∷ neg_ℤ (pos b) ∷ neg_ℤ (pos c) ∷ [])

-- a node has one colour, and no two
abbrev pub node_rules : ℕ → List Rule
node_rules i = some_of (coloured i 1) (coloured i 2) (coloured i 3)
    ∷ not_both (coloured i 1) (coloured i 2)
    ∷ not_both (coloured i 1) (coloured i 3)
    ∷ not_both (coloured i 2) (coloured i 3)
    ∷ []

-- a node and the next one differ
abbrev pub edge_rules : ℕ → ℕ → List Rule
edge_rules i next = not_both (coloured i 1) (coloured next 1)
    ∷ not_both (coloured i 2) (coloured next 2)
    ∷ not_both (coloured i 3) (coloured next 3)
    ∷ []

abbrev pub any_colours : ℕ → Rule
any_colours n = record { head = Choice (each_below atoms_of_node n); body = All [] }

-- how many nodes have the first colour
abbrev pub first_colours : ℕ → Minimize
first_colours n = record { priority = pos 1; items = each_below (λ i. (pos (coloured i 1), pos 1) ∷ []) n }

abbrev pub ring : ℕ → Program
ring n = record {
  rules = any_colours n ∷ each_below node_rules n ++ each_below (λ i. edge_rules i ((i + 1) % n)) n;
  minimize = first_colours n ∷ [];
  outputs = [];
  externals = [];
  assumptions = [];
}
