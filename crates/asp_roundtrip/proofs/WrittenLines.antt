-- The line that is printed of a statement is one line, and judging it adds the statement.
use Rattle.std.proofs.Common.{◌≡◌, ℕ, zero, suc, ◌+◌, ◌-◌, ◌^◌, ◌<◌, ◌≤◌, false, List, [], ◌∷◌, ◌++◌, length, flat_map, get_or, refl, ap, ◌∙◌, arith, length-append, get_or-append-add}
use Rattle.std.specs.Prelude.{ℤ, pos, negsuc, neg_ℤ, ◌==◌, codes}
use Rattle.std.specs.List.{AllByRecursion}
use Rattle.std.proofs.lemmas.Bool.{ne_eqb}
use Rattle.asp_text.specs.Fields.{unblank}
use Rattle.asp_text.specs.Lines.{is_lf, without_cr}
use Rattle.asp_model.specs.declared.program.Head.{Head}
use Rattle.asp_model.specs.declared.program.Head.TheVariants.{One, Choice, Never}
use Rattle.asp_model.specs.declared.program.Body.{Body}
use Rattle.asp_model.specs.declared.program.Body.TheVariants.{All, AtLeast}
use Rattle.asp_model.specs.declared.program.ExternalValue.{ExternalValue}
use Rattle.asp_model.specs.declared.program.ExternalValue.TheVariants as value
use Rattle.asp_model.proofs.MemberLaws.{each-append, each_weaker, each-flat_map}
use Rattle.asp_read.specs.declared.statement.Statement.{Statement}
use Rattle.asp_read.specs.declared.statement.Statement.TheVariants as say
use Rattle.asp_read.specs.Fields.{most, most_counted}
use Rattle.asp_read.specs.Sizes.{head_size, body_size}
use Rattle.asp_make.specs.Texts.{natural_field, integer_field, weighted_fields, counted_fields, head_fields, body_fields, external_field}
use Rattle.asp_roundtrip.specs.Readable.{IsAtom, IsLiteral, IsWeighted, IsBetween, IsHead, IsBody}
use Rattle.asp_roundtrip.proofs.Bytes.{IsOneLine}
use Rattle.asp_text.proofs.DigitLaws.{IsShort, spells_integer}
use Rattle.asp_roundtrip.proofs.Fields.{no_blank}
use Rattle.asp_roundtrip.proofs.GivenStatements.{IsStatement}
use Rattle.asp_roundtrip.proofs.Written.{integer_within, literal_within}
use Rattle.asp_roundtrip.proofs.WrittenStatements.{statement_text, FitsIn}

-- ---- bytes that are no line feeds and no carriage returns

abbrev pub IsPrinted : List ℕ → Type 0
IsPrinted bytes = AllByRecursion (λ b. 31 < b) bytes

both_printed : (xs ys : List ℕ) → IsPrinted xs → IsPrinted ys → IsPrinted (xs ++ ys)
both_printed xs ys = each-append (λ b. 31 < b) xs ys

integer_printed : (z : ℤ) → IsShort z → IsPrinted (integer_field z)
integer_printed z short = let s = spells_integer z short in (omega arith, each_weaker (λ b. 32 < b) (λ b. 31 < b) (λ b lt. omega arith) _ s.bytes)

natural_printed : (n : ℕ) → n < 2 ^ 32 → IsPrinted (natural_field n)
natural_printed n lt = integer_printed (pos n) lt

literal_short : (l : ℤ) → IsLiteral l → IsShort l
literal_short l is = (integer_within (neg_ℤ (pos most)) l (omega arith) (literal_within l is)).short

weight_short : (low z : ℤ) → IsShort low → IsBetween low (pos most) z → IsShort z
weight_short low z short within = (integer_within low z short within).short

weighted_printed : (low : ℤ) → IsShort low → (item : ℤ × ℤ) → IsWeighted low item → IsPrinted (weighted_fields item)
weighted_printed low short item is =
    both_printed (integer_field item.0) (integer_field item.1) (integer_printed item.0 (literal_short item.0 is.0))
    (integer_printed item.1 (weight_short low item.1 short is.1))

counted_printed : {A : Type 0} (text : A → List ℕ) (P : A → Type 0) → ((x : A) → P x → IsPrinted (text x)) → (xs : List A) → length xs < 2 ^ 32 →
    AllByRecursion P xs → IsPrinted (counted_fields text xs)
counted_printed text P each xs few are =
    both_printed (natural_field (length xs)) (flat_map text xs) (natural_printed (length xs) few) (each-flat_map (λ b. 31 < b) text xs (each_weaker P (λ x. IsPrinted (text x)) each xs are))

literals_printed : (used : ℕ) (ls : List ℤ) → used + length ls ≤ most_counted → AllByRecursion IsLiteral ls → IsPrinted (counted_fields integer_field ls)
literals_printed used ls few are = counted_printed integer_field IsLiteral (λ l is. integer_printed l (literal_short l is)) ls (omega arith) are

weights_printed : (used : ℕ) (low : ℤ) → IsShort low → (items : List (ℤ × ℤ)) → used + length items ≤ most_counted →
    AllByRecursion (IsWeighted low) items → IsPrinted (counted_fields weighted_fields items)
weights_printed used low short items few are = counted_printed weighted_fields (IsWeighted low) (weighted_printed low short) items (omega arith) are

atom_printed : (a : ℕ) → IsAtom a → IsPrinted (natural_field a)
atom_printed a is = natural_printed a (omega (arith, is.1))

head_printed : (used : ℕ) (head : Head) → used + head_size head ≤ most_counted → IsHead head → IsPrinted (head_fields head)
head_printed used (One a) few is = both_printed (codes " 0 1") (natural_field a) (omega arith) (atom_printed a is)
head_printed used (Choice atoms) few is = both_printed (codes " 1") (counted_fields natural_field atoms) (omega arith) (counted_printed natural_field IsAtom atom_printed atoms (omega arith) is)
head_printed used Never few is = omega arith

body_printed : (used : ℕ) (body : Body) → used + body_size body ≤ most_counted → IsBody body → IsPrinted (body_fields body)
body_printed used (All literals) few is = both_printed (codes " 0") (counted_fields integer_field literals) (omega arith) (literals_printed used literals few is)
body_printed used (AtLeast bound items) few is =
    both_printed (codes " 1" ++ integer_field bound) (counted_fields weighted_fields items)
    (both_printed (codes " 1") (integer_field bound) (omega arith) (integer_printed bound (weight_short (negsuc most) bound (omega arith) is.0)))
    (weights_printed used (pos 0) (omega arith) items few is.1)

value_printed : (v : ExternalValue) → IsPrinted (external_field v)
value_printed value.Free = omega arith
value_printed value.True = omega arith
value_printed value.False = omega arith
value_printed value.Release = omega arith

-- ---- lines

-- a line that is no blank one, has no line feed, and doesn't end in a carriage return
pub record IsPlain (bytes : List ℕ) : Type 0 where
  pub filled : (length (unblank bytes) == 0) ≡ false
  pub one : IsOneLine bytes
  pub end : without_cr bytes ≡ bytes

printed_is_one : (bytes : List ℕ) → IsPrinted bytes → IsOneLine bytes
printed_is_one bytes h = each_weaker (λ b. 31 < b) (λ b. is_lf b ≡ false) (λ b lt. ne_eqb b 10 (λ e. omega arith)) bytes h

printed_at : (bytes : List ℕ) (i : ℕ) → i < length bytes → IsPrinted bytes → 31 < get_or bytes i 0
printed_at [] i lt h = absurd (omega arith)
printed_at (b ∷ bytes) zero lt h = h.0
printed_at (b ∷ bytes) (suc i) lt h = printed_at bytes i (omega arith) h.1

-- a line that ends in something printed
keeps_end : (front back : List ℕ) → 0 < length back → IsPrinted back → without_cr (front ++ back) ≡ front ++ back
keeps_end front back some h =
    let place : length (front ++ back) - 1 ≡ length front + (length back - 1) = omega (arith, length-append front back) in
    let last : get_or (front ++ back) (length (front ++ back) - 1) 0 ≡ get_or back (length back - 1) 0 =
    ap (λ i. get_or (front ++ back) i 0) place ∙ get_or-append-add front back (length back - 1) 0 in
    let other : (get_or (front ++ back) (length (front ++ back) - 1) 0 == 13) ≡ false = ne_eqb _ 13 (λ e. omega (arith, last, e, printed_at back (length back - 1) (omega arith) h)) in
    rw other refl

-- a first byte that is no blank, and something printed behind it
plain : (b : ℕ) (front back : List ℕ) → 32 < b → 0 < length back → IsOneLine front → IsPrinted back → IsPlain (b ∷ (front ++ back))
plain b front back lt some one h = record {
  filled = rw (no_blank b lt) (ne_eqb (suc (length (front ++ back))) 0 (λ e. omega arith));
  one = (ne_eqb b 10 (λ e. omega arith), each-append (λ b. is_lf b ≡ false) front back one (printed_is_one back h));
  end = keeps_end (b ∷ front) back some h;
}

body_some : (body : Body) → 0 < length (body_fields body)
body_some (All literals) = omega arith
body_some (AtLeast bound items) = omega arith

value_some : (v : ExternalValue) → 0 < length (external_field v)
value_some value.Free = omega arith
value_some value.True = omega arith
value_some value.False = omega arith
value_some value.Release = omega arith

pub statement_plain : (used : ℕ) (s : Statement) → IsStatement s → FitsIn used s → IsPlain (statement_text s)
statement_plain used say.End is few = record { filled = refl; one = (refl, tt); end = refl }
statement_plain used (say.Rule r) is few =
    plain 49 (head_fields r.head) (body_fields r.body) (omega arith) (body_some r.body)
    (printed_is_one (head_fields r.head) (head_printed used r.head (omega arith) is.0)) (body_printed used r.body (omega arith) is.1)
statement_plain used (say.Minimize m) is few =
    plain 50 (integer_field m.priority) (counted_fields weighted_fields m.items) (omega arith) (omega arith)
    (printed_is_one (integer_field m.priority) (integer_printed m.priority (weight_short (negsuc most) m.priority (omega arith) is.0)))
    (weights_printed used (negsuc most) (omega arith) m.items few is.1)
statement_plain used (say.Output o) is few =
    plain 52 (natural_field (length o.text) ++ codes " " ++ o.text) (counted_fields integer_field o.condition) (omega arith) (omega arith)
    (each-append (λ b. is_lf b ≡ false) (natural_field (length o.text) ++ codes " ") o.text
    (printed_is_one (natural_field (length o.text) ++ codes " ") (both_printed (natural_field (length o.text)) (codes " ") (natural_printed (length o.text) (omega (arith, is.0))) (omega arith))) is.1)
    (literals_printed used o.condition few is.2)
statement_plain used (say.External e) is few =
    plain 53 (natural_field e.atom) (external_field e.value) (omega arith) (value_some e.value) (printed_is_one (natural_field e.atom) (atom_printed e.atom is)) (value_printed e.value)
statement_plain used (say.Assume ls) is few = plain 54 [] (counted_fields integer_field ls) (omega arith) (omega arith) tt (literals_printed used ls few is)
statement_plain used say.Comment is few = record { filled = refl; one = (refl, (refl, tt)); end = refl }
