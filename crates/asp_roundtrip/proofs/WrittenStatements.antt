-- The line that was printed of a statement is read as the statement.
use Rattle.std.proofs.Common.{◌≡◌, ℕ, ◌+◌, ◌<◌, ◌≤◌, true, false, List, [], ◌∷◌, ◌++◌, length, map, map-id, flat_map, refl, sym, ap, ◌∙◌, arith, Ok, append_assoc, append-nil, take_at, drop_at, length-append}
use Rattle.std.specs.Prelude.{ℤ, pos, negsuc, nat_lt, nat_le, codes}
use Rattle.std.proofs.lemmas.Bool.{le-ltb, le-leb}
use Rattle.asp_text.specs.Fields.{integer_of}
use Rattle.asp_model.specs.Sets.{Atoms, with_atoms, has}
use Rattle.asp_model.specs.Holding.{body_atoms}
use Rattle.asp_model.specs.Models.{head_atoms}
use Rattle.asp_model.specs.declared.program.Head.{Head}
use Rattle.asp_model.specs.declared.program.Head.TheVariants.{One, Choice, Never}
use Rattle.asp_model.specs.declared.program.Body.{Body}
use Rattle.asp_model.specs.declared.program.Body.TheVariants.{All, AtLeast}
use Rattle.asp_model.specs.declared.program.Rule.{Rule}
use Rattle.asp_model.specs.declared.program.Minimize.{Minimize}
use Rattle.asp_model.specs.declared.program.Output.{Output}
use Rattle.asp_model.specs.declared.program.External.{External}
use Rattle.asp_model.specs.declared.program.ExternalValue.{ExternalValue}
use Rattle.asp_model.specs.declared.program.ExternalValue.TheVariants as value
use Rattle.asp_model.proofs.MemberLaws.{each-front}
use Rattle.asp_read.specs.declared.statement.Statement.{Statement}
use Rattle.asp_read.specs.declared.statement.Statement.TheVariants as say
use Rattle.asp_read.specs.Fields.{Reads, ends_field, natural_at, atom_at, many_at, text_at, literals_at, most, most_counted}
use Rattle.asp_read.specs.Sizes.{head_size, body_size, statement_size, statement_atoms}
use Rattle.asp_read.specs.Statements.{head_of, head_at, body_at, rule_at, minimize_at, output_at, external_at, value_of, is_too_many, of_kind, kind_at, kind_in, statement_with}
use Rattle.asp_read.specs.Outcome.{most_bytes}
use Rattle.asp_make.specs.Texts.{natural_field, integer_field, weighted_fields, counted_fields, head_fields, body_fields, external_field, rule_text, minimize_text, output_text, external_text, assumptions_text}
use Rattle.asp_roundtrip.specs.Readable.{IsAtom, IsHead, IsBody, IsRule, IsMinimize, IsOutput}
use Rattle.asp_roundtrip.proofs.Bytes.{each-back}
use Rattle.asp_roundtrip.proofs.Fields.{first_field, integer_back, natural_back, digit_back}
use Rattle.asp_roundtrip.proofs.Room.{IsRoomy, IsPart, HasEach, part_all}
use Rattle.asp_roundtrip.proofs.GivenStatements.{IsStatement, HasPriorityRoom}
use Rattle.asp_roundtrip.proofs.Written.{integer_within, atom_back, literals_back, weights_back, many_back, all_start}

abbrev pub statement_text : Statement → List ℕ
statement_text say.End = codes "0"
statement_text (say.Rule r) = rule_text r
statement_text (say.Minimize m) = minimize_text m
statement_text (say.Output o) = output_text o
statement_text (say.External e) = external_text e
statement_text (say.Assume ls) = assumptions_text ls
statement_text say.Comment = codes "10"

-- what is read of a line that is printed behind a kind
abbrev pub FitsIn : ℕ → Statement → Type 0
FitsIn used s = used + statement_size s ≤ most_counted

choice_of : (atoms : List ℕ) → head_of 1 atoms ≡ Choice atoms
choice_of [] = refl
choice_of (a ∷ atoms) = refl

few_enough : (n : ℕ) → n ≤ most_counted → nat_lt most_counted n ≡ false
few_enough n le = le-ltb most_counted n le

value_number : ExternalValue → ℕ
value_number value.Free = 0
value_number value.True = 1
value_number value.False = 2
value_number value.Release = 3

value_same : (v : ExternalValue) → value_of (value_number v) ≡ v
unfolding value_number
value_same value.Free = refl
value_same value.True = refl
value_same value.False = refl
value_same value.Release = refl

value_begins : (v : ExternalValue) (rest : List ℕ) → ends_field (external_field v ++ rest) ≡ true
value_begins value.Free rest = refl
value_begins value.True rest = refl
value_begins value.False rest = refl
value_begins value.Release rest = refl

value_back : (v : ExternalValue) (rest : List ℕ) → ends_field rest ≡ true → natural_at 0 3 (external_field v ++ rest) ≡ Ok (value_number v, rest)
unfolding value_number
value_back value.Free rest e = digit_back 3 0 rest (omega arith) (omega arith) (omega arith) e
value_back value.True rest e = digit_back 3 1 rest (omega arith) (omega arith) (omega arith) e
value_back value.False rest e = digit_back 3 2 rest (omega arith) (omega arith) (omega arith) e
value_back value.Release rest e = digit_back 3 3 rest (omega arith) (omega arith) (omega arith) e

body_begins : (body : Body) (rest : List ℕ) → ends_field (body_fields body ++ rest) ≡ true
body_begins (All literals) rest = refl
body_begins (AtLeast bound items) rest = refl

head_begins : (head : Head) (rest : List ℕ) → ends_field (head_fields head ++ rest) ≡ true
head_begins (One a) rest = refl
head_begins (Choice atoms) rest = refl
head_begins Never rest = refl

-- a kind of one digit
kind_back : (b k : ℕ) (rest : List ℕ) → 32 < b → ((line : List ℕ) → kind_in line (integer_of (b ∷ [])) ≡ Ok k) → ends_field rest ≡ true → kind_at (b ∷ rest) ≡ Ok (k, rest)
kind_back b k rest lt is e =
    let f = first_field (b ∷ []) rest (omega arith) (lt, tt) e in
    rw (f.first, f.rest_is, is (b ∷ rest)) refl

module _ (U : Atoms) (roomy : IsRoomy U) where
  head_back : (used : ℕ) (known : Atoms) (head : Head) (rest : List ℕ) → IsHead head → used + head_size head ≤ most_counted → IsPart U known →
      HasEach U (head_atoms head) → ends_field rest ≡ true → head_at used known (head_fields head ++ rest) ≡ Ok (head, rest)
  unfolding head_at many_at
  head_back used known (One a) rest is few part there e = rw (few_enough (used + 1) few, atom_back U roomy known a rest is part there.0 e) refl
  head_back used known (Choice atoms) rest is few part there e =
      let same : map (λ (atom : ℕ). atom) atoms ≡ atoms = map-id atoms in
      let each : HasEach U (map (λ (atom : ℕ). atom) atoms) = rw same there in
      let after = all_start U roomy (λ (a : ℕ). a) atom_at natural_field IsAtom (λ a rest. refl) (λ known a rest. atom_back U roomy known a rest) atoms rest e in
      let read = many_back U roomy (λ (a : ℕ). a) atom_at natural_field IsAtom (λ a rest. refl) (λ known a rest. atom_back U roomy known a rest) known atoms rest is part each e in
      ap (λ fields. head_at used known (32 ∷ 49 ∷ fields)) (append_assoc (natural_field (length atoms)) (flat_map natural_field atoms) rest)
      ∙ rw (
        natural_back 0 most (length atoms) (flat_map natural_field atoms ++ rest) (omega arith) (omega arith) (omega arith) after,
        few_enough (used + length atoms) few,
        read,
        choice_of atoms,
      ) refl
  head_back used known Never rest is few part there e = rw (digit_back most 0 rest (omega arith) (omega arith) (omega arith) e, few_enough (used + 0) few) refl

  body_back : (used : ℕ) (known : Atoms) (body : Body) (rest : List ℕ) → IsBody body → used + body_size body ≤ most_counted → IsPart U known →
      HasEach U (body_atoms body) → ends_field rest ≡ true → body_at used known (body_fields body ++ rest) ≡ Ok (body, rest)
  unfolding body_at
  body_back used known (All literals) rest is few part there e = rw (literals_back U roomy used known literals rest few is part there e) refl
  body_back used known (AtLeast bound items) rest is few part there e =
      let fields = counted_fields weighted_fields items in
      let bound_back = integer_back (negsuc most) (pos most) bound (fields ++ rest) (integer_within (negsuc most) bound (omega arith) is.0) refl in
      ap (λ line. body_at used known (32 ∷ 49 ∷ line)) (append_assoc (integer_field bound) fields rest)
      ∙ rw (bound_back, weights_back U roomy used (pos 0) (omega arith) known items rest few is.1 part there e) refl

  rule_back : (used : ℕ) (known : Atoms) (r : Rule) (rest : List ℕ) → IsRule r → FitsIn used (say.Rule r) → IsPart U known →
      HasEach U (statement_atoms (say.Rule r)) → ends_field rest ≡ true →
      rule_at used known ((head_fields r.head ++ body_fields r.body) ++ rest) ≡ Ok (r, rest)
  unfolding rule_at
  rule_back used known r rest is few part there e =
      let heads = each-front (λ a. has U a ≡ true) (head_atoms r.head) (body_atoms r.body) there in
      let bodies = each-back (λ a. has U a ≡ true) (head_atoms r.head) (body_atoms r.body) there in
      let begins = body_begins r.body rest in
      ap (rule_at used known) (append_assoc (head_fields r.head) (body_fields r.body) rest)
      ∙ rw (
        head_back used known r.head (body_fields r.body ++ rest) is.0 (omega arith) part heads begins,
        body_back (used + head_size r.head) (with_atoms known (head_atoms r.head)) r.body rest is.1 (omega arith) (part_all U known (head_atoms r.head) part heads) bodies e,
      ) refl

  minimize_back : (used : ℕ) (seen : List ℤ) (known : Atoms) (m : Minimize) (rest : List ℕ) → IsMinimize m → FitsIn used (say.Minimize m) →
      is_too_many m.priority seen ≡ false → IsPart U known → HasEach U (statement_atoms (say.Minimize m)) → ends_field rest ≡ true
      → minimize_at used seen known ((integer_field m.priority ++ counted_fields weighted_fields m.items) ++ rest) ≡ Ok (m, rest)
  unfolding minimize_at
  minimize_back used seen known m rest is few again part there e =
      let fields = counted_fields weighted_fields m.items in
      let priority_back = integer_back (negsuc most) (pos most) m.priority (fields ++ rest) (integer_within (negsuc most) m.priority (omega arith) is.0) refl in
      ap (minimize_at used seen known) (append_assoc (integer_field m.priority) fields rest)
      ∙ rw (priority_back, again, weights_back U roomy used (negsuc most) (omega arith) known m.items rest few is.1 part there e) refl

  text_back : (text rest : List ℕ) → ends_field rest ≡ true → text_at (length text) (32 ∷ (text ++ rest)) ≡ Ok (text, rest)
  text_back text rest e =
      let fits : nat_le (length text) (length (text ++ rest)) ≡ true = le-leb (length text) (length (text ++ rest)) (omega (arith, length-append text rest)) in
      rw (fits, take_at text rest (length text) refl, drop_at text rest (length text) refl, e) refl

  output_back : (used : ℕ) (known : Atoms) (o : Output) (rest : List ℕ) → IsOutput o → FitsIn used (say.Output o) → IsPart U known → HasEach U (statement_atoms (say.Output o)) → ends_field rest ≡ true
      → output_at used known (natural_field (length o.text) ++ (32 ∷ (o.text ++ (counted_fields integer_field o.condition ++ rest)))) ≡ Ok (o, rest)
  unfolding output_at
  output_back used known o rest is few part there e =
      let fields = counted_fields integer_field o.condition ++ rest in
      rw (
        natural_back 0 most_bytes (length o.text) (32 ∷ (o.text ++ fields)) (omega arith) is.0 (omega arith) refl,
        text_back o.text fields refl,
        literals_back U roomy used known o.condition rest few is.2 part there e,
      ) refl

  external_back : (known : Atoms) (e : External) (rest : List ℕ) → IsAtom e.atom → IsPart U known → HasEach U (statement_atoms (say.External e)) → ends_field rest ≡ true
      → external_at known ((natural_field e.atom ++ external_field e.value) ++ rest) ≡ Ok (e, rest)
  unfolding external_at
  external_back known e rest is part there after =
      let fields = external_field e.value in
      ap (external_at known) (append_assoc (natural_field e.atom) fields rest)
      ∙ rw (atom_back U roomy known e.atom (fields ++ rest) is part there.0 (value_begins e.value rest), value_back e.value rest after, value_same e.value) refl

  -- ---- the whole line

  without_end : {A : Type 0} (reader : List ℕ → Reads A) (line : List ℕ) (x : A) → reader (line ++ []) ≡ Ok (x, []) → reader line ≡ Ok (x, [])
  without_end reader line x e = ap reader (sym (append-nil line)) ∙ e

  pub statement_back : (used : ℕ) (seen : List ℤ) (known : Atoms) (s : Statement) → IsStatement s → FitsIn used s → HasPriorityRoom seen s →
      IsPart U known → HasEach U (statement_atoms s) → statement_with used seen known (statement_text s) ≡ Ok s
  unfolding statement_with of_kind
  statement_back used seen known say.End is few again part there = refl
  statement_back used seen known (say.Rule r) is few again part there =
      let kind = kind_back 49 1 (head_fields r.head ++ body_fields r.body) (omega arith) (λ line. refl) (head_begins r.head (body_fields r.body)) in
      let read = without_end (rule_at used known) (head_fields r.head ++ body_fields r.body) r (rule_back used known r [] is few part there refl) in
      rw (kind, read) refl
  statement_back used seen known (say.Minimize m) is few again part there =
      let fields = integer_field m.priority ++ counted_fields weighted_fields m.items in
      let read = without_end (minimize_at used seen known) fields m (minimize_back used seen known m [] is few again part there refl) in
      rw read refl
  statement_back used seen known (say.Output o) is few again part there =
      let condition = counted_fields integer_field o.condition in
      let length_field = natural_field (length o.text) in
      let line : length_field ++ codes " " ++ o.text ++ condition ≡ length_field ++ (32 ∷ (o.text ++ (condition ++ []))) =
      append_assoc (length_field ++ codes " ") o.text condition ∙ append_assoc length_field (codes " ") (o.text ++ condition)
      ∙ ap (λ after. length_field ++ (32 ∷ (o.text ++ after))) (sym (append-nil condition)) in
      let read = ap (output_at used known) line ∙ output_back used known o [] is few part there refl in
      rw read refl
  statement_back used seen known (say.External e) is few again part there =
      let fields = natural_field e.atom ++ external_field e.value in
      let read = without_end (external_at known) fields e (external_back known e [] is part there refl) in
      rw read refl
  statement_back used seen known (say.Assume ls) is few again part there =
      let fields = counted_fields integer_field ls in
      let read = without_end (literals_at used known) fields ls (literals_back U roomy used known ls [] few is part there refl) in
      rw read refl
  statement_back used seen known say.Comment is few again part there = refl
