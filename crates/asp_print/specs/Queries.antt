-- The text of a query's results, and of a core: literals that no answer has together.
use Rattle.std.specs.Prelude.{ℕ, Bool, false, if◌then◌else◌, List, [], ◌∷◌, ◌++◌, flat_map, ℤ, pos, Option, None, Some, codes, decimal}
use Rattle.std.specs.Ordering.{int_eq}
use Rattle.std.specs.Fmt.{signed_decimal}
use Rattle.asp_model.specs.declared.program.Output.{Output}
use Rattle.asp_model.specs.declared.program.Program.{Program}
use Rattle.asp_model.specs.Found.{Found}
use Rattle.asp_model.specs.Holding.{atom_of, is_positive}
use Rattle.asp_model.specs.Texts.{ended_line}
use Rattle.asp_print.specs.Named.{printed_text}

-- whether the condition is this one atom
abbrev pub is_alone : ℕ → List ℤ → Bool
is_alone a [] = false
is_alone a (l ∷ []) = int_eq l (pos a)
is_alone a (l ∷ m ∷ ls) = false

-- the text of the first output that is exactly this atom
abbrev pub name_in : ℕ → List Output → Option (List ℕ)
name_in a [] = None
name_in a (o ∷ os) = if is_alone a o.condition then Some o.text else name_in a os

-- the same of a literal's atom, where names are asked for
abbrev pub name_of : Bool → List Output → ℤ → Option (List ℕ)
name_of names os l = if names then name_in (atom_of l) os else None

abbrev pub denial : ℤ → List ℕ
denial l = if is_positive l then [] else codes "not "

-- a literal by its atom's name, if it has one, and else by its number
abbrev pub literal_by : Option (List ℕ) → ℤ → List ℕ
literal_by None l = signed_decimal l
literal_by (Some name) l = denial l ++ name

abbrev pub literal_text : Bool → List Output → ℤ → List ℕ
literal_text names os l = literal_by (name_of names os l) l

-- the literals, each after a blank
abbrev pub literals_text : Bool → List Output → List ℤ → List ℕ
literals_text names os ls = flat_map (λ l. 32 ∷ literal_text names os l) ls

-- A minimal core is one of which no literal may be left out.
abbrev pub core_word : Bool → List ℕ
core_word minimal = if minimal then codes "Minimal core:" else codes "Core:"

-- the line of a core, where there is one
abbrev pub core_line : Bool → List Output → Option (List ℤ) → Bool → List ℕ
core_line names os None minimal = []
core_line names os (Some core) minimal = ended_line (core_word minimal ++ literals_text names os core)

abbrev pub query_line : ℕ → List ℕ
query_line number = ended_line (codes "Query: " ++ decimal number)

-- the text of the results of the query with this number, and of its core: a brief one leaves out the lines of the answers; `names` says
-- whether the core's literals are told by the names that these outputs give their atoms
abbrev pub query_text : Program → List Output → ℕ → Found → Option (List ℤ) → Bool → Bool → Bool → List ℕ
query_text p os number r core minimal brief names = query_line number ++ printed_text p r brief names ++ core_line names os core minimal
