-- The canonical line of a statement is no longer than the line.
use Rattle.std.proofs.Common.{◌≡◌, ℕ, suc, ◌+◌, ◌<◌, ◌≤◌, true, false, List, [], ◌∷◌, ◌++◌, length, flat_map, take, drop, arith, Ok, Result, length-append, length-drop}
use Rattle.std.specs.Prelude.{ℤ, pos, negsuc, if◌then◌else◌, nat_le, nat_lt, ◌&&◌, ◌==◌, is_some, nat_eq, codes}
use Rattle.std.specs.Cmp.Lexicographic.{as_long}
use Rattle.std.proofs.lemmas.Bool.{and_parts, leb-true, false≢true}
use Rattle.std.proofs.lemmas.List.{length-take-le}
use Rattle.std.proofs.lemmas.Fmt.{decimal_nonempty}
use Rattle.asp_text.specs.Fields.{is_blank, field_of, after_field, integer_of, natural_of}
use Rattle.asp_model.specs.Sets.{Atoms, with_atoms}
use Rattle.asp_model.specs.Models.{head_atoms}
use Rattle.asp_model.specs.declared.program.Head.TheVariants.{One, Choice, Never}
use Rattle.asp_model.specs.declared.program.Body.TheVariants.{All, AtLeast}
use Rattle.asp_model.specs.declared.program.Output.{Output}
use Rattle.asp_model.specs.declared.program.ExternalValue.{ExternalValue}
use Rattle.asp_model.specs.declared.program.ExternalValue.TheVariants as value
use Rattle.asp_read.specs.declared.statement.Statement.{Statement}
use Rattle.asp_read.specs.declared.statement.Statement.TheVariants as say
use Rattle.asp_read.specs.Fields.{◌>>=◌, ends_field, ended, atom_at, text_at, most, most_counted}
use Rattle.asp_read.specs.Sizes.{head_size}
use Rattle.asp_read.specs.Statements.{head_of, head_at, body_at, rule_at, minimize_at, output_at, external_at, heuristic_at, value_of, is_too_many, of_kind, kind_at, kind_in, statement_with, header_at, is_header, is_word, is_number, no_tag}
use Rattle.asp_read.specs.Outcome.{most_bytes}
use Rattle.asp_make.specs.Texts.{natural_field, integer_field, weighted_fields, counted_fields, head_fields, body_fields, external_field, output_text}
use Rattle.asp_roundtrip.proofs.Given.{Given, given, given_none, given_then, given_if, given_after, given_itself, natural_given}
use Rattle.asp_roundtrip.proofs.GivenStatements.{alone_given, one_given}
use Rattle.asp_roundtrip.proofs.Shorter.{Shorter, first_shorter, later_shorter, shorter_both, natural_shorter, integer_shorter_at, atom_shorter, many_shorter, literals_shorter, weights_shorter}
use Rattle.asp_roundtrip.proofs.WrittenStatements.{statement_text}

pub given_both : {A E : Type 0} (read : Result A E) (P Q : A → Type 0) → Given read P → Given read Q → Given read (λ x. P x × Q x)
given_both read P Q g h = record { each = λ x e. (g.each x e, h.each x e) }

shorter_still : (line text shorter after : List ℕ) → Shorter line text after → length shorter ≤ length text → Shorter line shorter after
shorter_still line text shorter after s le = record { fits = omega (arith, s.fits, le); next = s.next }

-- a blank and a digit at least
long_field : (n : ℕ) → n ≤ most → 2 ≤ length (natural_field n)
long_field n le = omega (arith, decimal_nonempty n (omega arith))

-- ---- rules

three_long : (a b c : List ℕ) → length (a ++ b ++ c) ≡ length a + length b + length c
three_long a b c = omega (arith, length-append (a ++ b) c, length-append a b)

head_fits : (kind : ℕ) (atoms : List ℕ) → kind ≤ 1 → length atoms ≤ most
    → length (head_fields (head_of kind atoms)) ≤ length (natural_field kind ++ natural_field (length atoms) ++ flat_map natural_field atoms)
head_fits kind [] le few =
    let total = three_long (natural_field kind) (natural_field 0) [] in
    elim (kind == 0) as (λ b. length (head_fields (if b then Never else Choice [])) ≤ length (natural_field kind ++ natural_field 0 ++ [])) [
      | true ↦ omega (arith, total, long_field kind (omega arith), long_field 0 (omega arith))
      | false ↦ omega (arith, total, long_field kind (omega arith), length-append (natural_field 0) [])
    ]
head_fits kind (a ∷ atoms) le few =
    let count = natural_field (length (a ∷ atoms)) in
    let rest = flat_map natural_field (a ∷ atoms) in
    let total = three_long (natural_field kind) count rest in
    elim (kind == 0) as (λ b. length (head_fields (if b then One a else Choice (a ∷ atoms))) ≤ length (natural_field kind ++ count ++ rest)) [
      | true ↦ omega (arith, total, long_field kind (omega arith), long_field (length (a ∷ atoms)) few, length-append (natural_field a) (flat_map natural_field atoms))
      | false ↦ omega (arith, total, long_field kind (omega arith), length-append count rest)
    ]

head_shorter : (used : ℕ) (known : Atoms) (line : List ℕ) → ends_field line ≡ true → Given (head_at used known line) (λ x. Shorter line (head_fields x.0) x.1)
unfolding head_at
head_shorter used known line e = given_then _ _ _ _ (given_both _ _ _ (natural_given 0 1 line) (natural_shorter 0 1 line (omega arith) e)) (λ kind a.
    given_then _ _ _ _ (given_both _ _ _ (natural_given 0 most kind.1) (natural_shorter 0 most kind.1 (omega arith) a.1.next)) (λ m b.
    given_if (kind.0 == 0 && nat_lt 1 m.0) _ _ _ (λ t. given_none _ _) (λ _. given_if (nat_lt most_counted (used + m.0)) _ _ _ (λ t. given_none _ _) (λ _.
    given_then _ _ _ _ (many_shorter (λ atom. atom) atom_at natural_field atom_shorter m.0 known m.1 b.1.next) (λ atoms c.
    let two = shorter_both line (natural_field kind.0) kind.1 (natural_field m.0) m.1 a.1 b.1 in
    let three = shorter_both line (natural_field kind.0 ++ natural_field m.0) m.1 (flat_map natural_field atoms.0) atoms.1 two c.1 in
    let fits : length (head_fields (head_of kind.0 atoms.0)) ≤ length (natural_field kind.0 ++ natural_field m.0 ++ flat_map natural_field atoms.0) =
    rw (← c.0) (head_fits kind.0 atoms.0 a.0.1 (omega (arith, c.0, b.0.1))) in
    let shorter = shorter_still line (natural_field kind.0 ++ natural_field m.0 ++ flat_map natural_field atoms.0) (head_fields (head_of kind.0 atoms.0)) atoms.1 three fits in
    given _ _ shorter)))))

body_shorter : (used : ℕ) (known : Atoms) (line : List ℕ) → ends_field line ≡ true → Given (body_at used known line) (λ x. Shorter line (body_fields x.0) x.1)
unfolding body_at
body_shorter used known line e = given_then _ _ _ _ (given_both _ _ _ (natural_given 0 1 line) (natural_shorter 0 1 line (omega arith) e)) (λ kind a.
    let first : Shorter line (codes " 0") kind.1 = shorter_still line (natural_field kind.0) (codes " 0") kind.1 a.1 (long_field kind.0 (omega (arith, a.0.1))) in
    let other : Shorter line (codes " 1") kind.1 = shorter_still line (natural_field kind.0) (codes " 1") kind.1 a.1 (long_field kind.0 (omega (arith, a.0.1))) in
    given_if (kind.0 == 0) _ _ _
    (λ t. given_then _ _ _ _ (literals_shorter used known kind.1 a.1.next) (λ ls b.
    let both : Shorter line (body_fields (All ls.0)) ls.1 = shorter_both line (codes " 0") kind.1 (counted_fields integer_field ls.0) ls.1 first b in
    given _ _ both))
    (λ f. given_then _ _ _ _ (integer_shorter_at (negsuc most) kind.1 (omega arith) a.1.next)
    (λ bound b. given_then _ _ _ _ (weights_shorter used (pos 0) (omega arith) known bound.1 b.next) (λ items c.
    let two = shorter_both line (codes " 1") kind.1 (integer_field bound.0) bound.1 other b in
    let three : Shorter line (body_fields (AtLeast bound.0 items.0)) items.1 = shorter_both line (codes " 1" ++ integer_field bound.0) bound.1 (counted_fields weighted_fields items.0) items.1 two c in
    given _ _ three))))

rule_shorter : (used : ℕ) (known : Atoms) (line : List ℕ) → ends_field line ≡ true → Given (rule_at used known line) (λ x. Shorter line (head_fields x.0.head ++ body_fields x.0.body) x.1)
unfolding rule_at
rule_shorter used known line e = given_then _ _ _ _ (head_shorter used known line e) (λ head a.
    given_then _ _ _ _ (body_shorter (used + head_size head.0) (with_atoms known (head_atoms head.0)) head.1 a.next) (λ body b.
    let both = shorter_both line (head_fields head.0) head.1 (body_fields body.0) body.1 a b in
    given _ _ both))

-- ---- other statements

minimize_shorter : (used : ℕ) (seen : List ℤ) (known : Atoms) (line : List ℕ) → ends_field line ≡ true →
    Given (minimize_at used seen known line) (λ x. Shorter line (integer_field x.0.priority ++ counted_fields weighted_fields x.0.items) x.1)
unfolding minimize_at
minimize_shorter used seen known line e =
    given_then _ _ _ _ (integer_shorter_at (negsuc most) line (omega arith) e)
    (λ priority a. given_if (is_too_many priority.0 seen) _ _ _ (λ t. given_none _ _) (λ _.
    given_then _ _ _ _ (weights_shorter used (negsuc most) (omega arith) known priority.1 a.next) (λ items b.
    let both = shorter_both line (integer_field priority.0) priority.1 (counted_fields weighted_fields items.0) items.1 a b in
    given _ _ both)))

text_shorter : (n : ℕ) (line : List ℕ) → Given (text_at n line) (λ x. (length x.0 ≡ n) × Shorter line (32 ∷ x.0) x.1)
text_shorter n [] = given_none _ _
text_shorter n (b ∷ bs) = given_if (is_blank b && (nat_le n (length bs) && ends_field (drop n bs))) _ _ _
    (λ t.
    let parts = and_parts (nat_le n (length bs)) (ends_field (drop n bs)) (and_parts (is_blank b) (nat_le n (length bs) && ends_field (drop n bs)) t).1 in
    let long = length-take-le n bs (leb-true n (length bs) parts.0) in
    let shorter : Shorter (b ∷ bs) (32 ∷ take n bs) (drop n bs) = record { fits = omega (arith, long, length-drop n bs, leb-true n (length bs) parts.0); next = parts.1 } in
    given _ _ (long, shorter))
    (λ f. given_none _ _)

abbrev output_fields : Output → List ℕ
output_fields o = natural_field (length o.text) ++ (32 ∷ o.text) ++ counted_fields integer_field o.condition

output_shorter : (used : ℕ) (known : Atoms) (line : List ℕ) → ends_field line ≡ true → Given (output_at used known line) (λ x. Shorter line (output_fields x.0) x.1)
unfolding output_at
output_shorter used known line e = given_then _ _ _ _ (natural_shorter 0 most_bytes line (omega arith) e) (λ m a. given_then _ _ _ _ (text_shorter m.0 m.1) (λ text b.
    given_then _ _ _ _ (literals_shorter used known text.1 b.1.next) (λ condition c.
    let first : Shorter line (natural_field (length text.0)) m.1 = rw b.0 a in
    let two = shorter_both line (natural_field (length text.0)) m.1 (32 ∷ text.0) text.1 first b.1 in
    let three = shorter_both line (natural_field (length text.0) ++ (32 ∷ text.0)) text.1 (counted_fields integer_field condition.0) condition.1 two c in
    given _ _ three)))

value_short : (v : ExternalValue) → length (external_field v) ≤ 2
value_short value.Free = omega arith
value_short value.True = omega arith
value_short value.False = omega arith
value_short value.Release = omega arith

external_shorter : (known : Atoms) (line : List ℕ) → ends_field line ≡ true → Given (external_at known line) (λ x. Shorter line (natural_field x.0.atom ++ external_field x.0.value) x.1)
unfolding external_at
external_shorter known line e = given_then _ _ _ _ (atom_shorter known line e)
    (λ atom a. given_then _ _ _ _ (given_both _ _ _ (natural_given 0 3 atom.1) (natural_shorter 0 3 atom.1 (omega arith) a.next)) (λ number b.
    let second = shorter_still atom.1 (natural_field number.0) (external_field (value_of number.0)) number.1 b.1
    (omega (arith, value_short (value_of number.0), long_field number.0 (omega (arith, b.0.1)))) in
    let both = shorter_both line (natural_field atom.0) atom.1 (external_field (value_of number.0)) number.1 a second in
    given _ _ both))

-- ---- lines

-- the length of a statement's line in a canonical text, where it has one
abbrev pub line_length : Statement → ℕ
line_length say.Comment = 0
line_length s = length (statement_text s)

output_long : (o : Output) → length (output_text o) ≡ suc (length (output_fields o))
output_long o =
    let n = natural_field (length o.text) in
    let c = counted_fields integer_field o.condition in
    omega (arith, length-append (n ++ (32 ∷ o.text)) c, length-append n (32 ∷ o.text), length-append (n ++ codes " " ++ o.text) c, length-append (n ++ codes " ") o.text, length-append n (codes " "))

of_kind_shorter : (kind used : ℕ) (seen : List ℤ) (known : Atoms) (line : List ℕ) → ends_field line ≡ true → Given (of_kind kind used seen known line) (λ s. line_length s ≤ suc (length line))
unfolding of_kind
of_kind_shorter kind used seen known line e =
    let Q : Statement → Type 0 = λ s. line_length s ≤ suc (length line) in
    given_if (kind == 0) _ _ _ (λ _. alone_given (say.End, line) Q (omega arith)) (λ _.
    given_if (kind == 1) _ _ _ (λ _. one_given _ say.Rule Q (given_after _ _ _ (rule_shorter used known line e) (λ x s. omega (arith, s.fits)))) (λ _.
    given_if (kind == 2) _ _ _ (λ _. one_given _ say.Minimize Q (given_after _ _ _ (minimize_shorter used seen known line e) (λ x s. omega (arith, s.fits)))) (λ _.
    given_if (kind == 3) _ _ _ (λ _. given_none _ _) (λ _.
    given_if (kind == 4) _ _ _ (λ _. one_given _ say.Output Q (given_after _ _ _ (output_shorter used known line e) (λ x s. omega (arith, s.fits, output_long x.0)))) (λ _.
    given_if (kind == 5) _ _ _ (λ _. one_given _ say.External Q (given_after _ _ _ (external_shorter known line e) (λ x s. omega (arith, s.fits)))) (λ _.
    given_if (kind == 6) _ _ _ (λ _. one_given _ say.Assume Q (given_after _ _ _ (literals_shorter used known line e) (λ x s. omega (arith, s.fits)))) (λ _.
    given_if (kind == 7) _ _ _ (λ _. given_then _ _ _ _ (given_itself (heuristic_at line >>= ended)) (λ _ _. given say.Comment _ (omega arith))) (λ _.
    given_if (kind == 8) _ _ _ (λ _. given_none _ _) (λ _.
    given_if (kind == 9) _ _ _ (λ _. given_none _ _) (λ _. given say.Comment _ (omega arith)))))))))))

some_word : (word line : List ℕ) (k : ℕ) → kind_in line (integer_of word) ≡ Ok k → 0 < length word
some_word [] line k e = absurd cc
some_word (b ∷ word) line k e = omega arith

kind_shorter : (line : List ℕ) → Given (kind_at line) (λ x. Shorter line (48 ∷ []) x.1)
kind_shorter line = given_then _ _ _ _ (given_itself (kind_in line (integer_of (field_of line)))) (λ kind is.
    let shorter = first_shorter line (48 ∷ []) (some_word (field_of line) line kind is) in
    given _ _ shorter)

pub statement_shorter : (used : ℕ) (seen : List ℤ) (known : Atoms) (line : List ℕ) → Given (statement_with used seen known line) (λ s. line_length s ≤ length line)
unfolding statement_with
statement_shorter used seen known line = given_then _ _ _ _ (kind_shorter line) (λ kind a.
    given_after _ _ _ (of_kind_shorter kind.0 used seen known kind.1 a.next) (λ s le. omega (arith, le, a.fits)))

-- ---- the header

number_some : (k : ℕ) (word : List ℕ) → is_number k (integer_of word) ≡ true → 0 < length word
number_some k [] e = absurd (false≢true e)
number_some k (b ∷ word) e = omega arith

natural_some : (word : List ℕ) → is_some (natural_of word) ≡ true → 0 < length word
natural_some [] e = absurd (false≢true e)
natural_some (b ∷ word) e = omega arith

record HeaderFields (name version minor revision : List ℕ) : Type 0 where
  named : length name ≡ 3
  some_version : 0 < length version
  some_minor : 0 < length minor
  some_revision : 0 < length revision

header_fields : (name version minor revision : List ℕ) → is_header name version minor revision ≡ true → HeaderFields name version minor revision
header_fields name version minor revision t =
    let three = is_number 0 (integer_of minor) && is_some (natural_of revision) in
    let two = is_number 1 (integer_of version) && three in
    let first = and_parts (is_word name (codes "asp")) two t in
    let second = and_parts (is_number 1 (integer_of version)) three first.1 in
    let third = and_parts (is_number 0 (integer_of minor)) (is_some (natural_of revision)) second.1 in
    record {
      named = as_long nat_eq name (codes "asp") first.0;
      some_version = number_some 1 version second.0;
      some_minor = number_some 0 minor third.0;
      some_revision = natural_some revision third.1;
    }

header_long : (line : List ℕ) →
    is_header (field_of line) (field_of (after_field line)) (field_of (after_field (after_field line)))
    (field_of (after_field (after_field (after_field line)))) ≡ true → 9 ≤ length line
header_long line t =
    let version = after_field line in
    let minor = after_field version in
    let revision = after_field minor in
    let fields = header_fields (field_of line) (field_of version) (field_of minor) (field_of revision) t in
    let name = first_shorter line (codes "asp") (omega (arith, fields.named)) in
    let one = later_shorter version (48 ∷ []) name.next (omega arith) fields.some_version in
    let zero = later_shorter minor (48 ∷ []) one.next (omega arith) fields.some_minor in
    let any = later_shorter revision (48 ∷ []) zero.next (omega arith) fields.some_revision in
    omega (arith, name.fits, one.fits, zero.fits, any.fits)

pub header_shorter : (line : List ℕ) → Given (header_at line) (λ _. 9 ≤ length line)
unfolding header_at
header_shorter line = given_if (is_header (field_of line) (field_of (after_field line)) (field_of (after_field (after_field line))) (field_of (after_field (after_field (after_field line))))) _ _ _
    (λ t. given_after _ (λ _. Unit {0}) _ (given_after _ _ _ (given_itself (no_tag (after_field (after_field (after_field (after_field line)))))) (λ _ _. tt)) (λ _ _. header_long line t))
    (λ _. given_none _ _)
