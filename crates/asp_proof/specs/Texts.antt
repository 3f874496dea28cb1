-- The text of a proof: one line for each part, one blank between fields, no leading zeros.
use Rattle.std.specs.Prelude.{ℕ, List, [], ◌∷◌, ◌++◌, length, flat_map, Bool, if◌then◌else◌, ℤ, codes, decimal}
use Rattle.std.specs.Fmt.{signed_decimal}
use Rattle.asp_model.specs.Sets.{Atoms}
use Rattle.asp_proof.specs.Changes.{changes_of}
use Rattle.asp_proof.specs.declared.proof.Line.{Line}
use Rattle.asp_proof.specs.declared.proof.Line.TheVariants as kind
use Rattle.asp_proof.specs.declared.proof.Proof.{Proof}
use Rattle.asp_proof.specs.declared.proof.Sought.{Sought}
use Rattle.asp_proof.specs.declared.proof.Sought.TheVariants as sought

-- ---- fields, each behind a blank

abbrev pub natural_field : ℕ → List ℕ
natural_field n = 32 ∷ decimal n

abbrev pub integer_field : ℤ → List ℕ
integer_field z = 32 ∷ signed_decimal z

-- how many there are, and each of them
abbrev pub counted_fields : {A : Type 0} → (A → List ℕ) → List A → List ℕ
counted_fields text xs = natural_field (length xs) ++ flat_map text xs

abbrev pub atoms_fields : Atoms → List ℕ
atoms_fields S = counted_fields natural_field S

abbrev pub literals_fields : List ℤ → List ℕ
literals_fields literals = counted_fields integer_field literals

-- one after the other
abbrev pub two_fields : {A B : Type 0} → (A → List ℕ) → (B → List ℕ) → A × B → List ℕ
two_fields first second x = first x.0 ++ second x.1

-- ---- lines

abbrev pub line : List ℕ → List ℕ
line bytes = bytes ++ 10 ∷ []

abbrev pub lines : {A : Type 0} → (A → List ℕ) → List A → List ℕ
lines text xs = flat_map (λ x. line (text x)) xs

-- the atoms in which a listed answer differs from the one before it
abbrev pub answer_text : Atoms → List ℕ
answer_text S = codes "a" ++ atoms_fields S

-- a place, a set and its nogood
abbrev pub loop_fields : ℕ × (Atoms × List ℤ) → List ℕ
loop_fields = two_fields natural_field (two_fields atoms_fields literals_fields)

-- a place, a nogood, and the places that it names
abbrev pub learned_fields : ℕ × (List ℤ × List ℕ) → List ℕ
learned_fields = two_fields natural_field (two_fields literals_fields (counted_fields natural_field))

abbrev pub line_text : Line → List ℕ
line_text (kind.Loop place set nogood) = codes "o" ++ loop_fields (place, (set, nogood))
line_text (kind.Learned place nogood names) = codes "l" ++ learned_fields (place, (nogood, names))
line_text (kind.Cube literals) = codes "c" ++ literals_fields literals
line_text (kind.Found change) = codes "f" ++ atoms_fields change

abbrev pub mode_line : Sought → List ℕ
mode_line sought.All = codes "enum\n"
mode_line sought.Best = codes "opt\n"
mode_line sought.Optima = codes "optima\n"

-- the last line, where the answers are a part of what was sought, and where they are all of it
abbrev pub last_word : Bool → List ℕ
last_word part = if part then codes "p" else codes "0"

-- the first two lines
abbrev pub head_text : Sought → List ℕ
head_text s = codes "proof 3\n" ++ mode_line s

-- the answers and the last line
abbrev pub list_text : List Atoms → Bool → List ℕ
list_text answers part = lines answer_text (changes_of answers) ++ line (last_word part)

abbrev pub text_of : Proof → List ℕ
text_of p = head_text p.sought ++ lines line_text p.lines ++ lines answer_text (changes_of p.answers) ++ line (last_word p.part)
