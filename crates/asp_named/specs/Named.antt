-- The program in which an atom of its own says whether an output is shown, where no one atom of the program does.
use Rattle.std.specs.Prelude.{ℕ, ◌+◌, nat_le, Bool, true, false, ◌&&◌, ◌||◌, if◌then◌else◌, List, [], ◌∷◌, ◌++◌, length, ℤ, pos, Option, Some, None}
use Rattle.std.specs.List.{list_all}
use Rattle.asp_model.specs.declared.program.Body.TheVariants as body
use Rattle.asp_model.specs.declared.program.Head.TheVariants as head
use Rattle.asp_model.specs.declared.program.Rule.{Rule}
use Rattle.asp_model.specs.declared.program.Output.{Output}
use Rattle.asp_model.specs.declared.program.Program.{Program}
use Rattle.asp_model.specs.Sets.{Atoms}
use Rattle.asp_model.specs.Holding.{all_hold, is_positive}
use Rattle.asp_model.specs.Models.{atoms_of}

-- whether the output is shown in every set, or exactly in those that have one atom
abbrev pub is_plain : List ℤ → Bool
is_plain [] = true
is_plain (l ∷ []) = is_positive l
is_plain (l ∷ m ∷ ls) = false

abbrev pub are_plain : List Output → Bool
are_plain os = list_all (λ o. is_plain o.condition) os

-- the atom that says whether the output is shown holds exactly where its condition does
abbrev pub naming_rule : ℕ → Output → List Rule
naming_rule a o = if is_plain o.condition then [] else record { head = head.One a; body = body.All o.condition } ∷ []

abbrev pub named_output : ℕ → Output → Output
named_output a o = if is_plain o.condition then o else record { text = o.text; condition = pos a ∷ [] }

-- the same of several outputs: the numbers go up with their places, from a on
abbrev pub naming_rules : ℕ → List Output → List Rule
naming_rules a [] = []
naming_rules a (o ∷ os) = naming_rule a o ++ naming_rules (a + 1) os

abbrev pub named_outputs : ℕ → List Output → List Output
named_outputs a [] = []
named_outputs a (o ∷ os) = named_output a o ∷ named_outputs (a + 1) os

-- the atoms of those outputs that have one, from a on, and pass the test
abbrev pub names_by : ℕ → List Output → (List ℤ → Bool) → List ℕ
names_by a [] test = []
names_by a (o ∷ os) test = (if is_plain o.condition then [] else (if test o.condition then a ∷ [] else [])) ++ names_by (a + 1) os test

-- the last atom of a set, which is the greatest
abbrev pub greatest : Atoms → ℕ
greatest [] = 0
greatest (a ∷ []) = a
greatest (a ∷ b ∷ S) = greatest (b ∷ S)

-- the number from which on no atom stands in the program
abbrev pub first_free : Program → ℕ
first_free p = greatest (atoms_of p) + 1

-- with atoms from a on
abbrev pub named_from : ℕ → Program → Program
named_from a p = record {
  rules = p.rules ++ naming_rules a p.outputs;
  minimize = p.minimize;
  outputs = named_outputs a p.outputs;
  externals = p.externals;
  assumptions = p.assumptions;
}

abbrev pub named : Program → Program
named p = named_from (first_free p) p

-- a set of the program's atoms with those of the outputs whose conditions hold in it
abbrev pub extended_from : ℕ → Program → Atoms → Atoms
extended_from a p S = S ++ names_by a p.outputs (all_hold S)

abbrev pub extended : Program → Atoms → Atoms
extended p S = extended_from (first_free p) p S

-- whether there are so many numbers from a on, and room for so many rules more
abbrev pub fits : ℕ → Program → Bool
fits a p = nat_le (a + length p.outputs) 2147483648 && nat_le (length p.rules + length p.outputs) 268435456

abbrev pub has_numbers : Program → Bool
has_numbers p = are_plain p.outputs || fits (first_free p) p

-- the program where there is one
abbrev pub named_if : Program → Option Program
named_if p = if has_numbers p then Some (named p) else None
