-- The canonical text of a program: one line a statement, one blank between fields, no leading zeros.
use Rattle.std.specs.Prelude.{ℕ, List, [], ◌∷◌, ◌++◌, length, flat_map, ℤ, codes, decimal}
use Rattle.std.specs.Fmt.{signed_decimal}
use Rattle.asp_model.specs.declared.program.Head.{Head}
use Rattle.asp_model.specs.declared.program.Head.TheVariants.{One, Choice, Never}
use Rattle.asp_model.specs.declared.program.Body.{Body}
use Rattle.asp_model.specs.declared.program.Body.TheVariants.{All, AtLeast}
use Rattle.asp_model.specs.declared.program.Rule.{Rule}
use Rattle.asp_model.specs.declared.program.Minimize.{Minimize}
use Rattle.asp_model.specs.declared.program.Output.{Output}
use Rattle.asp_model.specs.declared.program.External.{External}
use Rattle.asp_model.specs.declared.program.ExternalValue.{ExternalValue}
use Rattle.asp_model.specs.declared.program.ExternalValue.TheVariants as value
use Rattle.asp_model.specs.declared.program.Program.{Program}

-- ---- fields, each behind a blank

abbrev pub natural_field : ℕ → List ℕ
natural_field n = 32 ∷ decimal n

abbrev pub integer_field : ℤ → List ℕ
integer_field z = 32 ∷ signed_decimal z

-- a literal and its weight
abbrev pub weighted_fields : ℤ × ℤ → List ℕ
weighted_fields item = integer_field item.0 ++ integer_field item.1

-- how many there are, and each of them
abbrev pub counted_fields : {A : Type 0} → (A → List ℕ) → List A → List ℕ
counted_fields text xs = natural_field (length xs) ++ flat_map text xs

abbrev pub head_fields : Head → List ℕ
head_fields (One atom) = codes " 0 1" ++ natural_field atom
head_fields (Choice atoms) = codes " 1" ++ counted_fields natural_field atoms
head_fields Never = codes " 0 0"

abbrev pub body_fields : Body → List ℕ
body_fields (All literals) = codes " 0" ++ counted_fields integer_field literals
body_fields (AtLeast bound items) = codes " 1" ++ integer_field bound ++ counted_fields weighted_fields items

abbrev pub external_field : ExternalValue → List ℕ
external_field value.Free = codes " 0"
external_field value.True = codes " 1"
external_field value.False = codes " 2"
external_field value.Release = codes " 3"

-- ---- statements

abbrev pub rule_text : Rule → List ℕ
rule_text r = codes "1" ++ head_fields r.head ++ body_fields r.body

abbrev pub minimize_text : Minimize → List ℕ
minimize_text m = codes "2" ++ integer_field m.priority ++ counted_fields weighted_fields m.items

abbrev pub output_text : Output → List ℕ
output_text o = codes "4" ++ natural_field (length o.text) ++ codes " " ++ o.text ++ counted_fields integer_field o.condition

abbrev pub external_text : External → List ℕ
external_text e = codes "5" ++ natural_field e.atom ++ external_field e.value

abbrev pub assumptions_text : List ℤ → List ℕ
assumptions_text literals = codes "6" ++ counted_fields integer_field literals

-- ---- lines

abbrev pub line : List ℕ → List ℕ
line bytes = bytes ++ 10 ∷ []

abbrev pub lines : {A : Type 0} → (A → List ℕ) → List A → List ℕ
lines text statements = flat_map (λ s. line (text s)) statements

-- one statement of all assumptions, where there is any
abbrev pub assumptions_line : List ℤ → List ℕ
assumptions_line [] = []
assumptions_line (l ∷ ls) = line (assumptions_text (l ∷ ls))

abbrev pub text_of : Program → List ℕ
text_of p = codes "asp 1 0 0\n" ++ lines rule_text p.rules ++ lines minimize_text p.minimize ++ lines output_text p.outputs
    ++ lines external_text p.externals ++ assumptions_line p.assumptions ++ codes "0\n"

-- for each cube a statement of these assumptions
abbrev pub parts_text : List (List ℤ) → List ℕ
parts_text cubes = lines assumptions_text cubes
