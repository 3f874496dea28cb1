-- What the notes say of a fault of a text.
use Rattle.std.specs.Prelude.{ℕ, ◌==◌, Bool, true, false, if◌then◌else◌, List, [], ◌++◌, codes, decimal, ℤ, pos, negsuc}
use Rattle.std.specs.Ordering.{int_eq}
use Rattle.std.specs.Fmt.{signed_decimal}
use Rattle.asp_text.specs.declared.numbers.Num.{Num}
use Rattle.asp_text.specs.declared.numbers.Num.TheVariants.{Value, Big, NotNumber}
use Rattle.asp_read.specs.declared.fault.FaultKind.{FaultKind}
use Rattle.asp_read.specs.declared.fault.FaultKind.TheVariants as fault
use Rattle.asp_read.specs.declared.fault.Fault.{Fault}
use Rattle.asp_faults.specs.declared.texts.Wanted.{Wanted}
use Rattle.asp_faults.specs.declared.texts.Wanted.TheVariants.{Natural, Integer, RuleType, Negated, AfterProgram}

-- the name of what is wanted, by its range
abbrev pub natural_noun : ℕ → ℕ → List ℕ
natural_noun low high =
    if low == 1 then (if high == 16777216 then codes "count" else codes "atom") else (
    if high == 0 then codes "zero" else (
    if high == 1 then codes "kind" else (
    if high == 3 then codes "external value" else (
    if high == 5 then codes "modifier" else (
    if high == 10 then codes "statement" else (
    if high == 268435456 then codes "length of a text" else
    codes "count"))))))

abbrev pub integer_noun : ℤ → List ℕ
integer_noun low =
    if int_eq low (negsuc 2147483646) then codes "literal" else (
    if int_eq low (pos 0) then codes "weight" else
    codes "number")

-- a thing by its name, and its range
abbrev pub range_text : List ℕ → List ℕ → List ℕ → List ℕ
range_text noun low high = noun ++ (codes " (" ++ low ++ codes " to ") ++ (high ++ codes ")")

abbrev pub wanted_text : Wanted → List ℕ
wanted_text (Natural low high) = range_text (natural_noun low high) (decimal low) (decimal high)
wanted_text (Integer low high) = range_text (integer_noun low) (signed_decimal low) (signed_decimal high)
wanted_text RuleType = codes "rule type (0, 1, 2, 3, 5 or 6)"
wanted_text AfterProgram = codes "statement after the program (0, 6 or 10)"
wanted_text (Negated most) = range_text (codes "count of negated literals") (codes "0") (decimal most)

-- what stood in its place, and that nothing did
abbrev pub found_text : Num → List ℕ
found_text (Value z) = signed_decimal z ++ codes " is no "
found_text Big = codes "a number beyond 64 bits is no "
found_text NotNumber = []

abbrev pub expected_text : Num → List ℕ
expected_text NotNumber = codes " expected"
expected_text n = []

abbrev pub misfit : Num → List ℕ → List ℕ
misfit n wanted = found_text n ++ wanted ++ expected_text n

-- Where no number stands in the place of a rule's type, the text may be an aspif text.
abbrev pub other_format : Num → List ℕ
other_format NotNumber = codes "; an aspif text needs --format aspif"
other_format n = []

abbrev pub kind_text : FaultKind → List ℕ
kind_text fault.Empty = codes "no program: the input is empty"
kind_text fault.Header = codes "not the header of aspif 1.0, which gringo writes; a smodels text needs --format smodels"
kind_text fault.Incremental = codes "incremental programs not supported"
kind_text fault.Tag = codes "unknown tag"
kind_text (fault.Statement n) = misfit n (wanted_text (Natural 0 10))
kind_text fault.Disjunction = codes "disjunctive head not supported"
kind_text fault.Projection = codes "projection not supported"
kind_text fault.Edge = codes "edge statement not supported"
kind_text fault.Theory = codes "theory statement not supported"
kind_text (fault.Natural low high n) = misfit n (wanted_text (Natural low high))
kind_text (fault.Integer low high n) = misfit n (wanted_text (Integer low high))
kind_text fault.Text = codes "output text does not fit its length"
kind_text fault.ExtraFields = codes "extra field"
kind_text fault.NoEnd = codes "end of program missing"
kind_text fault.AfterEnd = codes "statement after the end"
kind_text fault.Counts = codes "more than 16,777,216 in all counts"
kind_text fault.Priorities = codes "more than 1,000 different priorities"
kind_text fault.Atoms = codes "more than 1,000,000 different atoms"
kind_text (fault.RuleType n) = misfit n (wanted_text RuleType) ++ other_format n
kind_text (fault.Negated most n) = misfit n (wanted_text (Negated most))
kind_text fault.Name = codes "name of an atom missing"
kind_text fault.Section = codes "section line expected"
kind_text fault.Externals = codes "external section not supported"
kind_text fault.Queries = codes "more than 10,000 queries"
kind_text (fault.Query n) = misfit n (wanted_text AfterProgram)

-- whether the field is told
abbrev pub has_field : FaultKind → Bool
has_field (fault.Statement n) = true
has_field (fault.Natural low high n) = true
has_field (fault.Integer low high n) = true
has_field fault.Text = true
has_field fault.ExtraFields = true
has_field (fault.RuleType n) = true
has_field (fault.Negated most n) = true
has_field fault.Name = true
has_field (fault.Query n) = true
has_field kind = false

abbrev pub place_text : Fault → List ℕ
place_text f = if has_field f.kind then codes ", field " ++ decimal f.field else []

abbrev pub fault_text : Fault → List ℕ
fault_text f = place_text f ++ (codes ": " ++ kind_text f.kind)
