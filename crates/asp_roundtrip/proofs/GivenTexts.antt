-- A program that a text gives is readable.
use Rattle.std.proofs.Common.{◌≡◌, ℕ, ◌+◌, true, false, List, [], ◌∷◌, length, take, refl, Result, Ok, Err}
use Rattle.std.specs.Prelude.{if◌then◌else◌, nat_le, ◌==◌, ◌-◌, slice_index}
use Rattle.std.specs.List.{AllByRecursion}
use Rattle.asp_text.specs.Lines.{is_lf, pieces, onto, without_cr, lines_of, whole}
use Rattle.asp_text.specs.Fields.{unblank}
use Rattle.asp_model.specs.Sets.{Atoms}
use Rattle.asp_read.specs.declared.fault.Fault.{Fault}
use Rattle.asp_read.specs.declared.error.FaultAt.{FaultAt}
use Rattle.asp_read.specs.Places.{told_of}
use Rattle.asp_read.specs.declared.fault.ReadError.{ReadError}
use Rattle.asp_model.specs.declared.program.Program.{Program}
use Rattle.asp_model.proofs.MemberLaws.{each-map, each_weaker}
use Rattle.asp_read.specs.declared.reader.Stage.{Stage}
use Rattle.asp_read.specs.declared.reader.Stage.TheVariants.{Start, Within, Ended}
use Rattle.asp_read.specs.Sizes.{program_size}
use Rattle.asp_read.specs.Statements.{header_at, priorities}
use Rattle.asp_read.specs.Seen.{Seen, nothing_seen}
use Rattle.asp_read.specs.Judging.{judge_by, judge_next, judge_all, outcome_from}
use Rattle.asp_read.specs.Outcome.{aspif, judge_line, judge_filled, at_end, outcome, most_bytes}
use Rattle.asp_roundtrip.specs.Readable.{IsReadable}
use Rattle.asp_roundtrip.proofs.Bytes.{IsOneLine, each-take}
use Rattle.asp_roundtrip.proofs.Given.{Given, given, given_none, given_then, given_if, given_after, given_itself}
use Rattle.asp_roundtrip.proofs.GivenStatements.{statement_given}
use Rattle.asp_roundtrip.proofs.Growing.{IsKept, nothing_kept, keeps, readable}

-- ---- lines have no line feeds

one_line_first : (b : ℕ) (lines : List (List ℕ)) → is_lf b ≡ false → AllByRecursion IsOneLine lines → AllByRecursion IsOneLine (onto b lines)
one_line_first b [] e h = ((e, tt), tt)
one_line_first b (line ∷ lines) e h = ((e, h.0), h.1)

pieces_are_lines : (text : List ℕ) → AllByRecursion IsOneLine (pieces text)
pieces_are_lines [] = tt
pieces_are_lines (b ∷ bs) = (elim (is_lf b) as (λ v. is_lf b ≡ v → AllByRecursion IsOneLine (if v then [] ∷ pieces bs else onto b (pieces bs))) [
  | true ↦ λ _. (tt, pieces_are_lines bs)
  | false ↦ λ e. one_line_first b (pieces bs) e (pieces_are_lines bs)
]) refl

one_line_without_cr : (line : List ℕ) → IsOneLine line → IsOneLine (without_cr line)
one_line_without_cr line h = elim (slice_index line (length line - 1) == 13) as (λ b. IsOneLine (if b then take (length line - 1) line else line)) [
  | true ↦ each-take _ (length line - 1) line h
  | false ↦ h
]

pub lines_are_lines : (text : List ℕ) → AllByRecursion IsOneLine (lines_of text)
lines_are_lines text = each-map IsOneLine without_cr (pieces text) (each_weaker IsOneLine (λ line. IsOneLine (without_cr line)) one_line_without_cr (pieces text) (pieces_are_lines text))

-- ---- lines one after another

abbrev pub IsGood : Seen → Type 0
IsGood seen = IsKept seen.known seen.program

filled_given : (stage : Stage) (p : Program) (known : Atoms) (line : List ℕ) → IsOneLine line → IsKept known p → Given (judge_filled stage p known line) IsGood
filled_given Start p known line one kept = given_then _ _ _ _ (given_itself (header_at line)) (λ _ _. given _ _ kept)
filled_given Within p known line one kept =
    given_then _ _ _ _ (statement_given (program_size p) (priorities p) known line kept.few_counted one kept.roomy) (λ s new. given _ _ (keeps known p s kept new))
filled_given Ended p known line one kept = given_none _ _

-- a line that was read is the same with its faults told
pub given_told : {A : Type 0} (line : List ℕ) (read : Result A FaultAt) (P : A → Type 0) → Given read P → Given (told_of line read) P
given_told line (Ok x) P g = given x P (g.each x refl)
given_told line (Err b) P g = given_none _ _

pub judge_given : (seen : Seen) (line : List ℕ) → IsOneLine line → IsGood seen → Given (judge_by aspif seen line) IsGood
judge_given seen line one kept = given_told line (judge_line seen line) _
    (given_if (length (unblank line) == 0) _ _ _ (λ _. given _ _ kept) (λ _. filled_given seen.stage seen.program seen.known line one kept))

next_given : (number : ℕ) (read : Result Seen Fault) (go_on : Seen → Result Seen ReadError) → Given read IsGood →
    ((s : Seen) → IsGood s → Given (go_on s) IsGood) → Given (judge_next number read go_on) IsGood
next_given number (Ok seen) go_on g h = h seen (g.each seen refl)
next_given number (Err f) go_on g h = given_none _ _

pub all_given : (number : ℕ) (seen : Seen) (lines : List (List ℕ)) → AllByRecursion IsOneLine lines → IsGood seen → Given (judge_all aspif number seen lines) IsGood
unfolding judge_all
all_given number seen [] each kept = given _ _ kept
all_given number seen (line ∷ lines) each kept =
    next_given number (judge_by aspif seen line) (λ s. judge_all aspif (number + 1) s lines) (judge_given seen line each.0 kept) (λ s good. all_given (number + 1) s lines each.1 good)

end_given : (number : ℕ) (stage : Stage) (p : Program) → IsReadable p → Given (at_end number stage p) IsReadable
end_given number Start p h = given_none _ _
end_given number Within p h = given_none _ _
end_given number Ended p h = given _ _ h

pub outcome_given : (text : List ℕ) → Given (outcome text) IsReadable
unfolding outcome_from
outcome_given text = given_if (nat_le (length text) most_bytes) _ _ _
    (λ _. given_then _ _ _ _ (all_given 1 nothing_seen (lines_of text) (lines_are_lines text) nothing_kept) (λ end kept. end_given _ end.stage end.program (readable end.known end.program kept)))
    (λ _. given_then _ _ (λ _. Unit {0}) _ (given_after _ _ _ (given_itself (judge_all aspif 1 nothing_seen (lines_of (whole (take most_bytes text))))) (λ _ _. tt)) (λ _ _. given_none _ _))
