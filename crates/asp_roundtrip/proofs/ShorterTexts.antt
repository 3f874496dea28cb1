-- The canonical text of a program is at most one byte longer than the text that it was read from.
use Rattle.std.proofs.Common.{◌≡◌, ℕ, suc, ◌+◌, ◌-◌, ◌*◌, ◌^◌, ◌<◌, ◌≤◌, true, false, List, [], ◌∷◌, ◌++◌, length, map, flat_map, take, refl, ap, ◌∙◌, arith, add-one, pow-suc, Ok, Err, Result, length-append, length-take}
use Rattle.std.specs.Prelude.{ℤ, if◌then◌else◌, nat_le, ◌==◌, codes, decimal, slice_index}
use native.Mathlib.Nat.{pow-le-pow_right}
use Rattle.std.proofs.lemmas.List.Concat.{flat_map-append}
use Rattle.asp_text.specs.Lines.{is_lf, pieces, onto, without_cr, lines_of, whole}
use Rattle.asp_text.specs.Fields.{unblank}
use Rattle.asp_read.specs.declared.fault.Fault.{Fault}
use Rattle.asp_read.specs.declared.fault.ReadError.{ReadError}
use Rattle.asp_model.specs.declared.program.Program.{Program}
use Rattle.asp_read.specs.declared.statement.Statement.{Statement}
use Rattle.asp_read.specs.declared.statement.Statement.TheVariants as say
use Rattle.asp_read.specs.declared.reader.Stage.{Stage}
use Rattle.asp_read.specs.declared.reader.Stage.TheVariants.{Start, Within, Ended}
use Rattle.asp_read.specs.Fields.{most_counted}
use Rattle.asp_read.specs.Seen.{Seen, nothing_seen}
use Rattle.asp_read.specs.Judging.{judge_by, judge_next, judge_all, outcome_from}
use Rattle.asp_read.specs.Outcome.{aspif, adds, stage_after, judge_line, judge_filled, at_end, outcome, most_bytes}
use Rattle.asp_make.specs.Texts.{natural_field, integer_field, line, lines, rule_text, minimize_text, output_text, external_text, assumptions_text, assumptions_line, text_of}
use Rattle.asp_roundtrip.proofs.Given.{Given, given, given_none, given_then, given_if, given_after, given_itself}
use Rattle.std.proofs.lemmas.Fmt.{length-decimal-le}
use Rattle.asp_text.proofs.DigitLaws.{spells}
use Rattle.asp_roundtrip.proofs.Shorter.{digits_below}
use Rattle.asp_roundtrip.proofs.GivenStatements.{statement_given}
use Rattle.asp_roundtrip.proofs.Growing.{IsKept, nothing_kept, keeps}
use Rattle.asp_roundtrip.proofs.GivenTexts.{IsGood, given_told, judge_given, lines_are_lines}
use Rattle.asp_roundtrip.proofs.Bytes.{IsOneLine}
use Rattle.asp_model.specs.Sets.{Atoms}
use Rattle.asp_read.specs.Sizes.{program_size}
use Rattle.asp_read.specs.Statements.{priorities}
use Rattle.std.specs.List.{AllByRecursion}
use Rattle.asp_roundtrip.proofs.ShorterStatements.{given_both, line_length, statement_shorter, header_shorter}

-- ---- lines

-- how long lines are, each with its line feed
abbrev lines_length : List (List ℕ) → ℕ
lines_length [] = 0
lines_length (l ∷ ls) = suc (length l + lines_length ls)

onto_length : (b : ℕ) (ls : List (List ℕ)) (n : ℕ) → lines_length ls ≤ n + 1 → lines_length (onto b ls) ≤ suc n + 1
onto_length b [] n le = omega arith
onto_length b (l ∷ ls) n le = omega arith

pieces_length : (text : List ℕ) → lines_length (pieces text) ≤ length text + 1
pieces_length [] = omega arith
pieces_length (b ∷ bs) = elim (is_lf b) as (λ v. lines_length (if v then [] ∷ pieces bs else onto b (pieces bs)) ≤ suc (length bs) + 1) [
  | true ↦ omega (arith, pieces_length bs)
  | false ↦ onto_length b (pieces bs) (length bs) (pieces_length bs)
]

without_cr_length : (l : List ℕ) → length (without_cr l) ≤ length l
without_cr_length l = elim (slice_index l (length l - 1) == 13) as (λ b. length (if b then take (length l - 1) l else l) ≤ length l) [
  | true ↦ omega (arith, length-take (length l - 1) l)
  | false ↦ omega arith
]

each_without_cr : (ls : List (List ℕ)) → lines_length (map without_cr ls) ≤ lines_length ls
each_without_cr [] = omega arith
each_without_cr (l ∷ ls) = omega (arith, without_cr_length l, each_without_cr ls)

-- ---- one more statement

line_sum : {A : Type 0} (text : A → List ℕ) (xs : List A) (x : A) → length (lines text (xs ++ x ∷ [])) ≡ length (lines text xs) + suc (length (text x))
line_sum text xs x =
    ap length (flat_map-append (λ y. line (text y)) xs (x ∷ []))
    ∙ omega (arith, length-append (lines text xs) (line (text x) ++ []), length-append (line (text x)) [], length-append (text x) (10 ∷ []))

text_length : (p : Program) → length (text_of p) ≡ 12 + length (lines rule_text p.rules) + length (lines minimize_text p.minimize) + length
    (lines output_text p.outputs) + length (lines external_text p.externals) + length (assumptions_line p.assumptions)
text_length p =
    let r = lines rule_text p.rules in
    let m = lines minimize_text p.minimize in
    let o = lines output_text p.outputs in
    let e = lines external_text p.externals in
    let a = assumptions_line p.assumptions in
    omega (arith, length-append (r ++ m ++ o ++ e ++ a) (codes "0\n"), length-append (r ++ m ++ o ++ e) a, length-append (r ++ m ++ o) e, length-append (r ++ m) o, length-append r m)

below_power : (n : ℕ) → n < 2 ^ 64 → n < 10 ^ length (decimal n)
below_power n few = omega (arith, digits_below 0 (decimal n) n (spells n few).value)

decimal_sum : (n m : ℕ) → n + m < 2 ^ 32 → length (decimal (n + m)) ≤ length (decimal n) + length (decimal m) + 1
decimal_sum n m few = within (length (decimal n)) (length (decimal m)) (below_power n (omega arith)) (below_power m (omega arith))
  where
    within : (a b : ℕ) → n < 10 ^ a → m < 10 ^ b → length (decimal (n + m)) ≤ a + b + 1
    within a b n_below m_below =
        let first : 10 ^ a ≤ 10 ^ (a + b) = pow-le-pow_right (omega arith) (omega arith) in
        let second : 10 ^ b ≤ 10 ^ (a + b) = pow-le-pow_right (omega arith) (omega arith) in
        let power : 10 ^ (a + b + 1) ≡ 10 ^ (a + b) * 10 = rw add-one (pow-suc 10 (a + b)) in
        length-decimal-le (a + b + 1) (n + m) (omega arith) (omega (arith, n_below, m_below, first, second, power)) (omega arith)

assumptions_long : (ls : List ℤ) → length (assumptions_text ls) ≡ 2 + length (decimal (length ls)) + length (flat_map integer_field ls)
assumptions_long ls = omega (arith, length-append (natural_field (length ls)) (flat_map integer_field ls))

assumptions_grow : (xs ls : List ℤ) → length xs + length ls < 2 ^ 32 → length (assumptions_line (xs ++ ls)) ≤ length (assumptions_line xs) + suc (length (assumptions_text ls))
assumptions_grow [] [] few = omega arith
assumptions_grow [] (l ∷ ls) few = omega (arith, length-append (assumptions_text (l ∷ ls)) (10 ∷ []))
assumptions_grow (x ∷ xs) ls few =
    let all = (x ∷ xs) ++ ls in
    let fields = ap length (flat_map-append integer_field (x ∷ xs) ls) ∙ length-append (flat_map integer_field (x ∷ xs)) (flat_map integer_field ls) in
    let count : length (decimal (length all)) ≤ length (decimal (length (x ∷ xs))) + length (decimal (length ls)) + 1 =
    rw (length-append (x ∷ xs) ls) (decimal_sum (length (x ∷ xs)) (length ls) few) in
    omega (
      arith,
      assumptions_long all,
      assumptions_long (x ∷ xs),
      assumptions_long ls,
      fields,
      count,
      length-append (assumptions_text all) (10 ∷ []),
      length-append (assumptions_text (x ∷ xs)) (10 ∷ []),
    )

-- how long the statements' lines are
abbrev total : Program → ℕ
total p = length (lines rule_text p.rules) + length (lines minimize_text p.minimize) + length (lines output_text p.outputs) + length
    (lines external_text p.externals) + length (assumptions_line p.assumptions)

total_grows : (p : Program) (s : Statement) → program_size (adds p s) ≤ most_counted → total (adds p s) ≤ total p + suc (line_length s)
total_grows p say.End few = omega arith
total_grows p (say.Rule r) few = omega (arith, line_sum rule_text p.rules r)
total_grows p (say.Minimize m) few = omega (arith, line_sum minimize_text p.minimize m)
total_grows p (say.Output o) few = omega (arith, line_sum output_text p.outputs o)
total_grows p (say.External e) few = omega (arith, line_sum external_text p.externals e)
total_grows p (say.Assume ls) few = omega (arith, assumptions_grow p.assumptions ls (omega (arith, few, length-append p.assumptions ls)))
total_grows p say.Comment few = omega arith

text_grows : (p : Program) (s : Statement) → program_size (adds p s) ≤ most_counted → length (text_of (adds p s)) ≤ length (text_of p) + suc (line_length s)
text_grows p s few = omega (arith, text_length p, text_length (adds p s), total_grows p s few)

-- ---- lines one after another

-- how much of a canonical text the lines so far stand for
abbrev written : Stage → Program → ℕ
written Start p = length (text_of p) - 12
written Within p = length (text_of p) - 2
written Ended p = length (text_of p)

written_after : (p : Program) (s : Statement) → program_size (adds p s) ≤ most_counted → written (stage_after s) (adds p s) ≤ written Within p + suc (line_length s)
written_after p say.End few = omega (arith, text_length p)
written_after p (say.Rule r) few = omega (arith, text_grows p (say.Rule r) few, text_length p)
written_after p (say.Minimize m) few = omega (arith, text_grows p (say.Minimize m) few, text_length p)
written_after p (say.Output o) few = omega (arith, text_grows p (say.Output o) few, text_length p)
written_after p (say.External e) few = omega (arith, text_grows p (say.External e) few, text_length p)
written_after p (say.Assume ls) few = omega (arith, text_grows p (say.Assume ls) few, text_length p)
written_after p say.Comment few = omega arith

abbrev written_of : Seen → ℕ
written_of seen = written seen.stage seen.program

filled_shorter : (stage : Stage) (p : Program) (known : Atoms) (l : List ℕ) → IsOneLine l → IsKept known p → Given (judge_filled stage p known l) (λ s. written_of s ≤ written stage p + suc (length l))
filled_shorter Start p known l one kept = given_then _ _ _ _ (header_shorter l) (λ _ long. given _ _ (omega (arith, text_length p)))
filled_shorter Within p known l one kept =
    given_then _ _ _ _ (given_both _ _ _ (statement_given (program_size p) (priorities p) known l kept.few_counted one kept.roomy) (statement_shorter (program_size p) (priorities p) known l))
    (λ s new. given _ _ (omega (arith, written_after p s (keeps known p s kept new.0).few_counted, new.1)))
filled_shorter Ended p known l one kept = given_none _ _

judge_shorter : (seen : Seen) (l : List ℕ) → IsOneLine l → IsGood seen → Given (judge_by aspif seen l) (λ s. IsGood s × (written_of s ≤ written_of seen + suc (length l)))
judge_shorter seen l one kept = given_both _ _ _ (judge_given seen l one kept)
    (given_told l (judge_line seen l) _ (given_if (length (unblank l) == 0) _ _ _ (λ _. given _ _ (omega arith)) (λ _. filled_shorter seen.stage seen.program seen.known l one kept)))

next_shorter : (number : ℕ) (read : Result Seen Fault) (go_on : Seen → Result Seen ReadError) (P Q : Seen → Type 0) → Given read P →
    ((s : Seen) → P s → Given (go_on s) Q) → Given (judge_next number read go_on) Q
next_shorter number (Ok seen) go_on P Q g h = h seen (g.each seen refl)
next_shorter number (Err f) go_on P Q g h = given_none _ _

all_shorter : (number : ℕ) (seen : Seen) (ls : List (List ℕ)) → AllByRecursion IsOneLine ls → IsGood seen →
    Given (judge_all aspif number seen ls) (λ end. written_of end ≤ written_of seen + lines_length ls)
unfolding judge_all
all_shorter number seen [] each kept = given _ _ (omega arith)
all_shorter number seen (l ∷ ls) each kept =
    next_shorter number (judge_by aspif seen l) (λ s. judge_all aspif (number + 1) s ls) _ _ (judge_shorter seen l each.0 kept)
    (λ s good. given_after _ _ _ (all_shorter (number + 1) s ls each.1 good.0) (λ end le. omega (arith, le, good.1)))

end_shorter : (number n : ℕ) (stage : Stage) (p : Program) → written stage p ≤ n → Given (at_end number stage p) (λ q. length (text_of q) ≤ n)
end_shorter number n Start p le = given_none _ _
end_shorter number n Within p le = given_none _ _
end_shorter number n Ended p le = given _ _ le

pub outcome_shorter : (text : List ℕ) → Given (outcome text) (λ p. length (text_of p) ≤ length text + 1)
unfolding outcome_from
outcome_shorter text = given_if (nat_le (length text) most_bytes) _ _ _
    (λ _. given_then _ _ _ _ (all_shorter 1 nothing_seen (lines_of text) (lines_are_lines text) nothing_kept) (λ end le.
    end_shorter _ (length text + 1) end.stage end.program (omega (arith, le, each_without_cr (pieces text), pieces_length text))))
    (λ _. given_then _ _ (λ _. Unit {0}) _ (given_after _ _ _ (given_itself (judge_all aspif 1 nothing_seen (lines_of (whole (take most_bytes text))))) (λ _ _. tt)) (λ _ _. given_none _ _))
