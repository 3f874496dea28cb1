-- Fields are read as what was written.
use Rattle.std.proofs.Common.{◌≡◌, ◌≢◌, ℕ, ◌+◌, ◌<◌, ◌≤◌, ◌^◌, Bool, true, false, eqb, List, [], ◌∷◌, ◌++◌, length, refl, sym, ap, ◌∙◌, arith, Option, Some, None, Result, Ok, Err, append_assoc, append-nil, length-append, subst}
use Rattle.std.specs.Prelude.{not, IfOk, MatchOption, ℤ, pos, negsuc, int_lt, flat_map}
use Rattle.std.specs.Fmt.{signed_decimal}
use Rattle.std.specs.List.{AllByRecursion}
use Rattle.std.specs.Int.Signed.{mag}
use Rattle.std.proofs.Math.IntN.{nat_abs}
use Rattle.std.proofs.lemmas.Fmt.{signed_decimal_injective}
use Rattle.std.proofs.lemmas.Bool.Decides.{nat_tests}
use Rattle.std.proofs.lemmas.Bool.{false≢true}
use mir.Val.{SFits, Fits}
use mir.Syntax.{w32}
use lib.Dec.{T}
use lib.Signed.{non_neg}
use Rattle.std.specs.Cmp.Lexicographic.{pointwise}
use Rattle.std.proofs.lemmas.Grind.{flat_map-append}
use Rattle.asp_model.specs.Sets.{IsAscending}
use Rattle.asp_model.specs.Holding.{atom_of}
use Rattle.asp_model.proofs.MemberLaws.{each_weaker, each-append}
use Rattle.asp_text.specs.Fields.{integer_of, num_of, is_i64}
use Rattle.asp_text.specs.declared.numbers.Num.TheVariants.{Value}
use Rattle.asp_proof.specs.Texts.{natural_field, integer_field, counted_fields, two_fields, atoms_fields, literals_fields, loop_fields, learned_fields}
use Rattle.asp_proof.specs.Grammar.{IsAtom, IsLiteral, AreCounted, ArePlaces, Both, IsNogood, IsSet, IsLoopSet, IsLoop, IsLearned}
use Rattle.asp_proof.specs.Fields.{Stops, IsCut, IsNumber, IsCount, IsAt, IsMissing, IsNone, IsWhole, AreSo}
use Rattle.asp_text.proofs.DigitLaws.{IsShort, SpellsInteger, spells_integer}
use Rattle.asp_proof.proofs.CutLaws.{Lacks, one_cut, list_same}

short : (z : ℤ) → IsNumber z → IsShort z
short (pos n) h = h
short (negsuc n) h = omega arith

small : (z : ℤ) → IsNumber z → mag z < 2 ^ 63
small (pos n) h = omega arith
small (negsuc n) h = omega arith

fits : (z : ℤ) → IsNumber z → is_i64 z ≡ true
fits (pos n) h = grind (arith, nat_tests)
fits (negsuc n) h = grind (arith, nat_tests)

abbrev spelt : (z : ℤ) → IsNumber z → SpellsInteger z (signed_decimal z)
spelt z h = spells_integer z (short z h)

-- what a word is read as, if it is a number's text
pub reads : (z : ℤ) (word : List ℕ) → IsNumber z → signed_decimal z ≡ word → num_of (integer_of word) ≡ Value z
reads z word h e = rw (← e, (spelt z h).value, fits z h) refl

pub no_blank : (z : ℤ) → IsNumber z → Lacks 32 (signed_decimal z)
no_blank z h = each_weaker (λ b. 32 < b) (λ b. b ≢ 32) (λ b lt e. omega arith) (signed_decimal z) (spelt z h).bytes

pub no_feed : (z : ℤ) → IsNumber z → Lacks 10 (signed_decimal z)
no_feed z h = each_weaker (λ b. 32 < b) (λ b. b ≢ 10) (λ b lt e. omega arith) (signed_decimal z) (spelt z h).bytes

-- what stands at the front of a line is one value's text at most
pub record IsClear {A : Type 0} (P : A → Type 0) (text : A → List ℕ) : Type 0 where
  pub one : (x y : A) (r s : List ℕ) → P x → P y → Stops 32 r → Stops 32 s → text x ++ r ≡ text y ++ s → (x ≡ y) × (r ≡ s)
  pub starts : (x : A) (r : List ℕ) → Stops 32 (text x ++ r)

pub clear_weaker : {A : Type 0} (P Q : A → Type 0) (text : A → List ℕ) → IsClear P text → ((x : A) → Q x → P x) → IsClear Q text
clear_weaker P Q text c h = record { one = λ x y r s p q. c.one x y r s (h x p) (h y q); starts = c.starts }

behind_blank : (xs ys : List ℕ) → 32 ∷ xs ≡ 32 ∷ ys → xs ≡ ys
behind_blank xs ys e = cc

pub clear_number : IsClear IsNumber integer_field
clear_number = record {
  one = λ y z r s p q a b e.
      let words = one_cut 32 (signed_decimal y) (signed_decimal z) r s (no_blank y p) (no_blank z q) a b (behind_blank _ _ e) in
      (signed_decimal_injective y z (small y p) (small z q) words.0, words.1);
  starts = λ z r. refl;
}

same_natural : (m n : ℕ) → pos m ≡ pos n → m ≡ n
same_natural m n e = cc

pub clear_count : IsClear IsCount natural_field
clear_count = record {
  one = λ m n r s p q a b e. let h = clear_number.one (pos m) (pos n) r s p q a b e in (same_natural m n h.0, h.1);
  starts = λ z r. refl;
}

pub clear_atom : IsClear IsAtom natural_field
clear_atom = clear_weaker IsCount IsAtom natural_field clear_count (λ a h. omega arith)

pub clear_literal : IsClear IsLiteral integer_field
clear_literal = clear_weaker IsNumber IsLiteral integer_field clear_number (λ z h. omega arith)

-- ---- many fields

pub starts_each : {A : Type 0} (P : A → Type 0) (text : A → List ℕ) (xs : List A) (r : List ℕ) → IsClear P text → Stops 32 r → Stops 32 (flat_map text xs ++ r)
starts_each P text [] r c h = h
starts_each P text (x ∷ xs) r c h = rw append_assoc (c.starts x (flat_map text xs ++ r))

pub one_each : {A : Type 0} (P : A → Type 0) (text : A → List ℕ) (xs ys : List A) (r s : List ℕ) → IsClear P text → AllByRecursion P xs →
    AllByRecursion P ys → length xs ≡ length ys → Stops 32 r → Stops 32 s
    → flat_map text xs ++ r ≡ flat_map text ys ++ s → (xs ≡ ys) × (r ≡ s)
one_each P text [] [] r s c p q n a b e = (refl, e)
one_each P text [] (y ∷ ys) r s c p q n a b e = absurd (omega arith)
one_each P text (x ∷ xs) [] r s c p q n a b e = absurd (omega arith)
one_each P text (x ∷ xs) (y ∷ ys) r s c p q n a b e =
    let same : text x ++ (flat_map text xs ++ r) ≡ text y ++ (flat_map text ys ++ s) = sym (append_assoc (text x) (flat_map text xs) r) ∙ e ∙ append_assoc (text y) (flat_map text ys) s in
    let first = c.one x y _ _ p.0 q.0 (starts_each P text xs r c a) (starts_each P text ys s c b) same in
    let more = one_each P text xs ys r s c p.1 q.1 (omega arith) a b first.1 in
    (cc (first.0, more.0), more.1)

-- one more field stands there
pub ahead : {A : Type 0} (P : A → Type 0) (text : A → List ℕ) (xs ys : List A) (r s : List ℕ) → IsClear P text → AllByRecursion P xs →
    AllByRecursion P ys → length xs < length ys → Stops 32 r → Stops 32 s
    → flat_map text xs ++ r ≡ flat_map text ys ++ s → IsMissing P text r → ⊥
ahead P text xs [] r s c p q n a b e none = omega arith
ahead P text [] (y ∷ ys) r s c p q n a b e none =
    none y (flat_map text ys ++ s) (record { is = q.0; same = sym (append_assoc (text y) (flat_map text ys) s) ∙ sym e; stops = starts_each P text ys s c b })
ahead P text (x ∷ xs) (y ∷ ys) r s c p q n a b e none =
    let same : text x ++ (flat_map text xs ++ r) ≡ text y ++ (flat_map text ys ++ s) = sym (append_assoc (text x) (flat_map text xs) r) ∙ e ∙ append_assoc (text y) (flat_map text ys) s in
    let first = c.one x y _ _ p.0 q.0 (starts_each P text xs r c a) (starts_each P text ys s c b) same in
    ahead P text xs ys r s c p.1 q.1 (omega arith) a b first.1 none

pub more_fields : {A : Type 0} (P : A → Type 0) (text : A → List ℕ) (line rest after : List ℕ) (n : ℕ) (xs : List A) (x : A) → IsAt (AreSo P n) (flat_map text) line xs rest → IsAt P text rest x after
    → IsAt (AreSo P (n + 1)) (flat_map text) line (xs ++ x ∷ []) after
more_fields P text line rest after n xs x h k = record {
  is = record { each = each-append P xs (x ∷ []) h.is.each (k.is, tt); counted = omega (arith, length-append xs (x ∷ []), h.is.counted) };
  same = rw (flat_map-append text xs (x ∷ []), append_assoc, append-nil (text x), k.same) h.same;
  stops = k.stops;
}

pub no_field : {A : Type 0} (P : A → Type 0) (text : A → List ℕ) (line rest : List ℕ) (k n : ℕ) (xs : List A) → IsClear P text →
    IsAt (AreSo P k) (flat_map text) line xs rest → k < n → IsMissing P text rest
    → IsMissing (AreSo P n) (flat_map text) line
no_field P text line rest k n xs c h lt none = λ ys s a. ahead P text xs ys rest s c h.is.each a.is.each (omega (arith, h.is.counted, a.is.counted)) h.stops a.stops (h.same ∙ sym a.same) none

pub no_fields_yet : {A : Type 0} (P : A → Type 0) (text : A → List ℕ) (line : List ℕ) → Stops 32 line → IsAt (AreSo P 0) (flat_map text) line [] line
no_fields_yet P text line h = record { is = record { each = tt; counted = refl }; same = refl; stops = h }

-- ---- a count, and so many fields

regroup : {A : Type 0} (text : A → List ℕ) (xs : List A) (rest line : List ℕ) → counted_fields text xs ++ rest ≡ line → natural_field (length xs) ++ (flat_map text xs ++ rest) ≡ line
regroup text xs rest line e = sym (append_assoc (natural_field (length xs)) (flat_map text xs) rest) ∙ e

pub clear_counted : {A : Type 0} (P : A → Type 0) (text : A → List ℕ) → IsClear P text → IsClear (AreCounted P) (counted_fields text)
clear_counted P text c = record {
  one = λ xs ys r s p q a b e.
      let n = clear_count.one (length xs) (length ys) (flat_map text xs ++ r) (flat_map text ys ++ s) p.few q.few (starts_each P text xs r c a) (starts_each P text ys s c b)
      (regroup text xs r _ e ∙ append_assoc (natural_field (length ys)) (flat_map text ys) s) in
      one_each P text xs ys r s c p.each q.each n.0 a b n.1;
  starts = λ xs r. refl;
}

pub clear_nogood : IsClear IsNogood literals_fields
clear_nogood = clear_counted IsLiteral integer_field clear_literal

pub clear_set : IsClear IsSet atoms_fields
clear_set = clear_weaker (AreCounted IsAtom) IsSet atoms_fields (clear_counted IsAtom natural_field clear_atom) (λ S h. h.atoms)

pub no_count : {A : Type 0} (P : A → Type 0) (text : A → List ℕ) (line : List ℕ) → IsClear P text → IsMissing IsCount natural_field line → IsMissing (AreCounted P) (counted_fields text) line
no_count P text line c none = λ xs s h. none (length xs) (flat_map text xs ++ s) (record {
  is = h.is.few;
  same = regroup text xs s line h.same;
  stops = starts_each P text xs s c h.stops;
})

pub no_counted : {A : Type 0} (P : A → Type 0) (text : A → List ℕ) (line rest : List ℕ) (n : ℕ) → IsClear P text → IsAt IsCount natural_field line n rest → IsMissing (AreSo P n) (flat_map text) rest
    → IsMissing (AreCounted P) (counted_fields text) line
no_counted P text line rest n c at none = λ xs s h.
    let same = clear_count.one (length xs) n (flat_map text xs ++ s) rest h.is.few at.is (starts_each P text xs s c h.stops) at.stops (regroup text xs s line h.same ∙ sym at.same) in
    none xs s (record { is = record { each = h.is.each; counted = same.0 }; same = same.1; stops = h.stops })

pub counted_at : {A : Type 0} (P : A → Type 0) (text : A → List ℕ) (line rest after : List ℕ) (n : ℕ) (xs : List A) →
    IsAt IsCount natural_field line n rest → IsAt (AreSo P n) (flat_map text) rest xs after
    → IsAt (AreCounted P) (counted_fields text) line xs after
counted_at P text line rest after n xs at h = record {
  is = record { each = h.is.each; few = omega (arith, h.is.counted, at.is) };
  same = append_assoc (natural_field (length xs)) (flat_map text xs) after ∙ ap (λ (t : List ℕ). natural_field (length xs) ++ t) h.same ∙ ap (λ m. natural_field m ++ rest) h.is.counted ∙ at.same;
  stops = h.stops;
}

-- ---- one after the other

same_pair : {A B : Type 0} (x y : A × B) → x.0 ≡ y.0 → x.1 ≡ y.1 → x ≡ y
same_pair x y e f = ap (λ a. (a, x.1)) e ∙ ap (λ b. (y.0, b)) f

pub clear_both : {A B : Type 0} (P : A → Type 0) (Q : B → Type 0) (s : A → List ℕ) (t : B → List ℕ) → IsClear P s → IsClear Q t → IsClear (Both P Q) (two_fields s t)
clear_both P Q s t c d = record {
  one = λ x y r u p q a b e.
      let first = c.one x.0 y.0 (t x.1 ++ r) (t y.1 ++ u) p.0 q.0 (d.starts x.1 r) (d.starts y.1 u) (sym (append_assoc (s x.0) (t x.1) r) ∙ e ∙ append_assoc (s y.0) (t y.1) u) in
      let second = d.one x.1 y.1 r u p.1 q.1 a b first.1 in
      (same_pair x y first.0 second.0, second.1);
  starts = λ x r. rw append_assoc (c.starts x.0 (t x.1 ++ r));
}

pub no_first : {A B : Type 0} (P : A → Type 0) (Q : B → Type 0) (s : A → List ℕ) (t : B → List ℕ) (line : List ℕ) → IsClear Q t → IsMissing P s line → IsMissing (Both P Q) (two_fields s t) line
no_first P Q s t line d none = λ x r h. none x.0 (t x.1 ++ r) (record { is = h.is.0; same = sym (append_assoc (s x.0) (t x.1) r) ∙ h.same; stops = d.starts x.1 r })

pub no_second : {A B : Type 0} (P : A → Type 0) (Q : B → Type 0) (s : A → List ℕ) (t : B → List ℕ) (line : List ℕ) (a : A) (rest : List ℕ) →
    IsClear P s → IsClear Q t → IsAt P s line a rest → IsMissing Q t rest
    → IsMissing (Both P Q) (two_fields s t) line
no_second P Q s t line a rest c d at none = λ x r h.
    let first = c.one x.0 a (t x.1 ++ r) rest h.is.0 at.is (d.starts x.1 r) at.stops (sym (append_assoc (s x.0) (t x.1) r) ∙ h.same ∙ sym at.same) in
    none x.1 r (record { is = h.is.1; same = first.1; stops = h.stops })

pub both_at : {A B : Type 0} (P : A → Type 0) (Q : B → Type 0) (s : A → List ℕ) (t : B → List ℕ) (line : List ℕ) (a : A) (b : B) (rest after : List ℕ) → IsAt P s line a rest → IsAt Q t rest b after
    → IsAt (Both P Q) (two_fields s t) line (a, b) after
both_at P Q s t line a b rest after at h = record {
  is = (at.is, h.is);
  same = append_assoc (s a) (t b) after ∙ ap (λ (u : List ℕ). s a ++ u) h.same ∙ at.same;
  stops = h.stops;
}

pub clear_places : IsClear ArePlaces (counted_fields natural_field)
clear_places = clear_counted IsCount natural_field clear_count

pub clear_loop_set : IsClear IsLoopSet atoms_fields
clear_loop_set = clear_weaker IsSet IsLoopSet atoms_fields clear_set (λ S h. h.0)

pub clear_set_and_nogood : IsClear (Both IsLoopSet IsNogood) (two_fields atoms_fields literals_fields)
clear_set_and_nogood = clear_both IsLoopSet IsNogood atoms_fields literals_fields clear_loop_set clear_nogood

pub clear_nogood_and_places : IsClear (Both IsNogood ArePlaces) (two_fields literals_fields (counted_fields natural_field))
clear_nogood_and_places = clear_both IsNogood ArePlaces literals_fields (counted_fields natural_field) clear_nogood clear_places

pub clear_loop : IsClear IsLoop loop_fields
clear_loop = clear_both IsCount (Both IsLoopSet IsNogood) natural_field (two_fields atoms_fields literals_fields) clear_count clear_set_and_nogood

pub clear_learned : IsClear IsLearned learned_fields
clear_learned = clear_both IsCount (Both IsNogood ArePlaces) natural_field (two_fields literals_fields (counted_fields natural_field)) clear_count clear_nogood_and_places

-- a loop's set isn't missing alone, nor empty
pub no_loop_set : (line : List ℕ) → IsMissing IsSet atoms_fields line → IsMissing IsLoopSet atoms_fields line
no_loop_set line none = λ S r h. none S r (record { is = h.is.0; same = h.same; stops = h.stops })

pub empty_loop_set : (line : List ℕ) (S rest : List ℕ) → IsAt IsSet atoms_fields line S rest → length S ≡ 0 → IsMissing IsLoopSet atoms_fields line
empty_loop_set line S rest at e = λ R r h.
    let same = clear_set.one R S r rest h.is.0 at.is h.stops at.stops (h.same ∙ sym at.same) in
    omega (arith, ap length same.0, e, h.is.1)

pub loop_set_at : (line : List ℕ) (S rest : List ℕ) → IsAt IsSet atoms_fields line S rest → 0 < length S → IsAt IsLoopSet atoms_fields line S rest
loop_set_at line S rest at lt = record { is = (at.is, lt); same = at.same; stops = at.stops }

-- ---- sets

pub no_set : (line : List ℕ) → IsMissing (AreCounted IsAtom) atoms_fields line → IsMissing IsSet atoms_fields line
no_set line none = λ S s h. none S s (record { is = h.is.atoms; same = h.same; stops = h.stops })

pub no_order : (line : List ℕ) (xs r : List ℕ) → IsAt (AreCounted IsAtom) atoms_fields line xs r → (IsAscending xs → ⊥) → IsMissing IsSet atoms_fields line
no_order line xs r at none = λ S s h.
    let same = (clear_counted IsAtom natural_field clear_atom).one S xs s r h.is.atoms at.is h.stops at.stops (h.same ∙ sym at.same) in
    none (subst IsAscending same.0 h.is.ascending)

pub set_at : (line xs r : List ℕ) → IsAt (AreCounted IsAtom) atoms_fields line xs r → IsAscending xs → IsAt IsSet atoms_fields line xs r
set_at line xs r at h = record { is = record { ascending = h; atoms = at.is }; same = at.same; stops = at.stops }

pub ascending_first : (S : List ℕ) → AllByRecursion IsAtom S → IsAscending S → IsAscending (0 ∷ S)
ascending_first S each h = (each_weaker IsAtom (λ a. 0 < a) (λ a k. k.0) S each, h)

-- the part behind the atoms that were passed, with the last one of them, is ascending as all are
pub record IsAhead (all : List ℕ) (last : ℕ) (rest : List ℕ) : Type 0 where
  pub to : IsAscending (last ∷ rest) → IsAscending all
  pub from : IsAscending all → IsAscending (last ∷ rest)

pub ahead_at_first : (S : List ℕ) → AllByRecursion IsAtom S → IsAhead S 0 S
ahead_at_first S each = record { to = λ h. h.1; from = λ h. ascending_first S each h }

pub ahead_more : (all : List ℕ) (last a : ℕ) (rest : List ℕ) → last < a → IsAhead all last (a ∷ rest) → IsAhead all a rest
ahead_more all last a rest lt h = record {
  to = λ k. h.to ((lt, each_weaker (λ b. a < b) (λ b. last < b) (λ b more. omega arith) rest k.0), k);
  from = λ k. (h.from k).1;
}

pub ahead_stops : (all : List ℕ) (last a : ℕ) (rest : List ℕ) → a ≤ last → IsAhead all last (a ∷ rest) → IsAscending all → ⊥
ahead_stops all last a rest le h k = omega (arith, (h.from k).0.0)

-- ---- a number

same_value : (n z : ℤ) (word : List ℕ) → Value n ≡ num_of (integer_of word) → IsWhole IsNumber signed_decimal word z → n ≡ z
same_value n z word e w = let h = reads z word w.is w.same in cc (e, h)

abs_is : (z : ℤ) → nat_abs z ≡ atom_of z
abs_is (pos n) = refl
abs_is (negsuc n) = refl

pub too_wide : (n : ℤ) (a : ℕ) (word : List ℕ) → Value n ≡ num_of (integer_of word) → a ≡ nat_abs n → 4294967295 < a → IsNone IsNumber signed_decimal word
too_wide n a word e size lt = λ z w. let same = same_value n z word e w in let wide = ap atom_of same in omega (arith, wide, size, abs_is n, lt, w.is)

pub not_true : (b : Bool) → true ≡ not b → b ≡ false
not_true true e = absurd (false≢true (sym e))
not_true false e = refl

pub other_text : (n : ℤ) (text word : List ℕ) → Value n ≡ num_of (integer_of word) → text ≡ signed_decimal n → pointwise eqb text word ≡ false → IsNone IsNumber signed_decimal word
other_text n text word e is differs = λ z w.
    let same = same_value n z word e w in
    let texts : text ≡ word = is ∙ ap signed_decimal same ∙ w.same in
    false≢true (sym differs ∙ ap (λ (t : List ℕ). pointwise eqb t word) texts ∙ list_same word)

pub no_blank_first : (line : List ℕ) → ((rest : List ℕ) → 32 ∷ rest ≡ line → ⊥) → IsMissing IsNumber integer_field line
no_blank_first line none = λ z rest h. none (signed_decimal z ++ rest) h.same

pub no_word : (line fields word rest : List ℕ) → 32 ∷ fields ≡ line → IsCut 32 fields word rest → IsNone IsNumber signed_decimal word → IsMissing IsNumber integer_field line
no_word line fields word rest e cut none = λ z r h.
    let parts = one_cut 32 word (signed_decimal z) rest r cut.none (no_blank z h.is) cut.at h.stops (cut.whole ∙ behind_blank fields (signed_decimal z ++ r) (e ∙ sym h.same)) in
    none z (record { is = h.is; same = sym parts.0 })

pub word_at : (line fields word rest : List ℕ) (z : ℤ) → 32 ∷ fields ≡ line → IsCut 32 fields word rest → IsWhole IsNumber signed_decimal word z → IsAt IsNumber integer_field line z rest
word_at line fields word rest z e cut w = record {
  is = w.is;
  same = ap (λ (t : List ℕ). 32 ∷ (t ++ rest)) w.same ∙ ap (λ (t : List ℕ). 32 ∷ t) cut.whole ∙ e;
  stops = cut.at;
}

-- ---- literals, counts and atoms

pub no_literal : (line : List ℕ) → IsMissing IsNumber integer_field line → IsMissing IsLiteral integer_field line
no_literal line none = λ z r h. none z r (record { is = omega (arith, h.is); same = h.same; stops = h.stops })

pub other_literal : (line : List ℕ) (n : ℤ) (a : ℕ) (rest : List ℕ) → IsAt IsNumber integer_field line n rest → a ≡ nat_abs n → (IsAtom a → ⊥) → IsMissing IsLiteral integer_field line
other_literal line n a rest at size none = λ z r h.
    let same = clear_number.one z n r rest (omega (arith, h.is)) at.is h.stops at.stops (h.same ∙ sym at.same) in
    let wide = ap atom_of same.0 in
    none (omega (arith, wide, size, abs_is n, h.is.0), omega (arith, wide, size, abs_is n, h.is.1))

pub literal_at : (line : List ℕ) (n : ℤ) (a : ℕ) (rest : List ℕ) → IsAt IsNumber integer_field line n rest → a ≡ nat_abs n → IsAtom a → IsAt IsLiteral integer_field line n rest
literal_at line n a rest at size h = record { is = (omega (arith, size, abs_is n, h.0), omega (arith, size, abs_is n, h.1)); same = at.same; stops = at.stops }

pub no_natural : (line : List ℕ) → IsMissing IsNumber integer_field line → IsMissing IsCount natural_field line
no_natural line none = λ n r h. none (pos n) r (record { is = h.is; same = h.same; stops = h.stops })

pub negative : (line : List ℕ) (z : ℤ) (rest : List ℕ) → IsAt IsNumber integer_field line z rest → int_lt z (pos 0) ≡ true → IsMissing IsCount natural_field line
negative line (pos n) rest at lt = absurd (grind (arith, nat_tests))
negative line (negsuc m) rest at lt = λ n r h. let same = clear_number.one (pos n) (negsuc m) r rest h.is at.is h.stops at.stops (h.same ∙ sym at.same) in let e = same.0 in absurd cc

pub natural_at : (line : List ℕ) (z : ℤ) (rest : List ℕ) → IsAt IsNumber integer_field line z rest → int_lt z (pos 0) ≡ false → IsAt IsCount natural_field line (nat_abs z) rest
natural_at line (pos n) rest at lt = record { is = at.is; same = at.same; stops = at.stops }
natural_at line (negsuc m) rest at lt = absurd (false≢true (sym lt))

pub no_atom : (line : List ℕ) → IsMissing IsCount natural_field line → IsMissing IsAtom natural_field line
no_atom line none = λ a r h. none a r (record { is = omega (arith, h.is); same = h.same; stops = h.stops })

pub other_atom : (line : List ℕ) (n : ℕ) (rest : List ℕ) → IsAt IsCount natural_field line n rest → (IsAtom n → ⊥) → IsMissing IsAtom natural_field line
other_atom line n rest at none = λ a r h.
    let same = clear_count.one a n r rest (omega (arith, h.is)) at.is h.stops at.stops (h.same ∙ sym at.same) in
    none (subst IsAtom same.0 h.is)

pub atom_at : (line : List ℕ) (n : ℕ) (rest : List ℕ) → IsAt IsCount natural_field line n rest → IsAtom n → IsAt IsAtom natural_field line n rest
atom_at line n rest at h = record { is = h; same = at.same; stops = at.stops }

pub counted_from : {V E A : Type 0} (items : V → List A) (rest : V → List ℕ) (r : Result (Option V) E) (P : A → Type 0) (text : A → List ℕ)
    (line behind : List ℕ) (n : ℕ) → IsClear P text → IsAt IsCount natural_field line n behind
    → IfOk r (λ o. MatchOption o (IsMissing (AreSo P n) (flat_map text) behind) (λ x. IsAt (AreSo P n) (flat_map text) behind (items x) (rest x)))
    → IfOk r (λ o. MatchOption o (IsMissing (AreCounted P) (counted_fields text) line) (λ x. IsAt (AreCounted P) (counted_fields text) line (items x) (rest x)))
counted_from items rest (Err e) P text line behind n c at h = tt
counted_from items rest (Ok None) P text line behind n c at h = no_counted P text line behind n c at h
counted_from items rest (Ok (Some x)) P text line behind n c at h = counted_at P text line behind (rest x) n (items x) at h

pub fits_32 : (z : ℤ) (a : ℕ) → a ≡ nat_abs z → a ≤ 2147483647 → SFits w32 z
fits_32 (pos n) a e le = record { sfits = omega arith }
fits_32 (negsuc n) a e le = record { sfits = omega arith }

pub fits_count : (z : ℤ) → IsNumber z → int_lt z (pos 0) ≡ false → T (non_neg z) × Fits w32 (nat_abs z)
fits_count (pos n) h lt = (tt, record { fits = h })
fits_count (negsuc n) h lt = absurd (false≢true (sym lt))
