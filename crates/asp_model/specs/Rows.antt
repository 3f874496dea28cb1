-- Small programs, and what they have.
use Rattle.std.specs.Prelude.{ℕ, ℤ, List, [], ◌∷◌, pos, negsuc, codes, Option, None}
use Rattle.asp_model.specs.declared.program.External.{External}
use Rattle.asp_model.specs.declared.program.ExternalValue.TheVariants as value
use Rattle.asp_model.specs.declared.program.Body.TheVariants as body
use Rattle.asp_model.specs.declared.program.Head.TheVariants as head
use Rattle.asp_model.specs.declared.program.Rule.{Rule}
use Rattle.asp_model.specs.declared.program.Program.{Program}
use Rattle.asp_model.specs.declared.results.End.{End}
use Rattle.asp_model.specs.declared.results.Mode.TheVariants as mode
use Rattle.asp_model.specs.declared.results.Reasoning.TheVariants as reasoning
use Rattle.asp_model.specs.Found.{Found}
use Rattle.asp_model.specs.Sets.{Atoms}

abbrev pub rules_alone : List Rule → Program
rules_alone rules = record { rules = rules; minimize = []; outputs = []; externals = []; assumptions = [] }

-- a <- not b. b <- not a.
abbrev pub two_ways : Program
two_ways = rules_alone (record { head = head.One 1; body = body.All (negsuc 1 ∷ []) } ∷ record { head = head.One 2; body = body.All (negsuc 0 ∷ []) } ∷ [])

-- a <- not a.
abbrev pub odd_loop : Program
odd_loop = rules_alone (record { head = head.One 1; body = body.All (negsuc 0 ∷ []) } ∷ [])

-- a <- b. b <- a.
abbrev pub positive_loop : Program
positive_loop = rules_alone (record { head = head.One 1; body = body.All (pos 2 ∷ []) } ∷ record { head = head.One 2; body = body.All (pos 1 ∷ []) } ∷ [])

-- a <- 2 { a = 2; b = 1 }. { b }.
abbrev pub weight_loop : Program
weight_loop = rules_alone (record { head = head.One 1; body = body.AtLeast (pos 2) ((pos 1, pos 2) ∷ (pos 2, pos 1) ∷ []) } ∷ record { head = head.Choice (2 ∷ []); body = body.All [] } ∷ [])

-- a <- 3 { not b = 1; not b = 1; c = 1 }. { b; c }.
abbrev pub repeated_literals : Program
repeated_literals = rules_alone (record {
  head = head.One 1;
  body =
      body.AtLeast (pos 3) ((negsuc 1, pos 1) ∷ (negsuc 1, pos 1) ∷ (pos 3, pos 1) ∷ []);
} ∷ record
    { head = head.Choice (2 ∷ 3 ∷ []); body = body.All [] } ∷ [])

-- { a; b }. not both false. At priority 1 a costs 1 and b costs -1, at priority 2 a costs 1 and b costs 2.
abbrev pub two_priorities : Program
two_priorities = record {
  rules = record { head = head.Choice (1 ∷ 2 ∷ []); body = body.All [] } ∷ record { head = head.Never; body = body.All (negsuc 0 ∷ negsuc 1 ∷ []) } ∷ [];
  minimize = record { priority = pos 1; items = (pos 1, pos 1) ∷ (pos 2, negsuc 0) ∷ [] } ∷ record { priority = pos 2; items = (pos 1, pos 1) ∷ (pos 2, pos 2) ∷ [] } ∷ [];
  outputs = [];
  externals = [];
  assumptions = [];
}

-- { a }. At priority 0 a costs 3 twice in one statement and -1 in another, and its absence 4.
abbrev pub repeated_costs : Program
repeated_costs = record {
  rules = record { head = head.Choice (1 ∷ []); body = body.All [] } ∷ [];
  minimize = record { priority = pos 0; items = (pos 1, pos 3) ∷ (pos 1, pos 3) ∷ (negsuc 0, pos 4) ∷ [] } ∷ record { priority = pos 0; items = (pos 1, negsuc 0) ∷ [] } ∷ [];
  outputs = [];
  externals = [];
  assumptions = [];
}

abbrev pub choice : List ℕ → Rule
choice atoms = record { head = head.Choice atoms; body = body.All [] }

abbrev pub constraint : List ℤ → Rule
constraint literals = record { head = head.Never; body = body.All literals }

abbrev pub with_externals : List Rule → List External → Program
with_externals rules externals = record { rules = rules; minimize = []; outputs = []; externals = externals; assumptions = [] }

-- external a free, b true, c false, d released
abbrev pub four_externals : Program
four_externals =
    with_externals [] (record { atom = 1; value = value.Free } ∷ record { atom = 2; value = value.True } ∷ record { atom = 3; value = value.False } ∷ record { atom = 4; value = value.Release } ∷ [])

-- a <- b. External a true, b true and then false.
abbrev pub overruled_external : Program
overruled_external =
    with_externals (record { head = head.One 1; body = body.All (pos 2 ∷ []) } ∷ [])
    (record { atom = 1; value = value.True } ∷ record { atom = 2; value = value.True } ∷ record { atom = 2; value = value.False } ∷ [])

-- { a }, under the assumptions a and not a
abbrev pub contrary_assumptions : Program
contrary_assumptions = record { rules = choice (1 ∷ []) ∷ []; minimize = []; outputs = []; externals = []; assumptions = pos 1 ∷ negsuc 0 ∷ [] }

-- { b } over the greatest atom and atom 5
abbrev pub sparse_atoms : Program
sparse_atoms = rules_alone (choice (2147483647 ∷ 5 ∷ []) ∷ [])

-- { a1; a2; a3; a4; a5; a6 }. not all six.
abbrev pub six_atoms : Program
six_atoms = rules_alone (choice (1 ∷ 2 ∷ 3 ∷ 4 ∷ 5 ∷ 6 ∷ []) ∷ constraint (pos 1 ∷ pos 2 ∷ pos 3 ∷ pos 4 ∷ pos 5 ∷ pos 6 ∷ []) ∷ [])

-- the two ways, where each atom is shown by its letter
abbrev pub two_ways_shown : Program
two_ways_shown = record two_ways { outputs = record { text = codes "a"; condition = pos 1 ∷ [] } ∷ record { text = codes "b"; condition = pos 2 ∷ [] } ∷ [] }

abbrev pub enumerated : End → List Atoms → Found
enumerated e answers = record { mode = mode.Enum; end = e; answers = answers; best = None; known = None }

-- optima that were listed, and the best of the search before
abbrev pub tied : End → List Atoms → Option (Atoms × List ℤ) → Found
tied e answers best = record { mode = mode.Opt; end = e; answers = answers; best = best; known = None }

abbrev pub optimised : End → Option (Atoms × List ℤ) → Found
optimised e best = tied e [] best

-- what holds in some answer
abbrev pub brave : End → Option Atoms → Found
brave e known = record { mode = mode.Consequences reasoning.Brave; end = e; answers = []; best = None; known = known }
