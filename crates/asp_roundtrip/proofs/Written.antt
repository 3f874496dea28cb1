-- What was printed of a statement's parts is read as them, where their atoms are in a set with room for all of it.
use Rattle.std.proofs.Common.{◌≡◌, ℕ, ◌+◌, ◌-◌, ◌≤◌, true, false, leb→le, le→leb, List, [], ◌∷◌, ◌++◌, length, map, flat_map, refl, arith, Ok, append_assoc}
use Rattle.std.specs.Prelude.{ℤ, pos, negsuc, neg_ℤ, int_lt, ◌≤ℤ◌}
use Rattle.std.specs.List.{AllByRecursion}
use Rattle.std.proofs.lemmas.Bool.{or_from, ne_eqb}
use Rattle.std.proofs.lemmas.Int.{ints}
use Rattle.asp_model.specs.Sets.{Atoms, with_atom, has}
use Rattle.asp_model.specs.Holding.{atom_of}
use Rattle.asp_read.specs.Fields.{◌>>=◌, count_at, Reads, ends_field, room_for, atom_at, literal_at, weighted_at, weighted_atom, many_at, literals_at, weights_at, is_zero, most, most_counted}
use Rattle.asp_make.specs.Texts.{natural_field, integer_field, weighted_fields, counted_fields}
use Rattle.asp_roundtrip.specs.Readable.{IsBetween, IsAtom, IsLiteral, IsWeighted}
use Rattle.asp_text.proofs.DigitLaws.{IsShort}
use Rattle.asp_roundtrip.proofs.Fields.{IsInteger, integer_back, natural_back, count_back}
use Rattle.asp_roundtrip.proofs.Room.{IsRoomy, IsPart, HasEach, part_more, room_within}

-- ---- ranges

pub short_from : (low z : ℤ) → IsShort low → IsBetween low (pos most) z → IsShort z
short_from low (pos n) short within = omega (arith, leb→le n most within.1.le)
short_from (pos l) (negsuc n) short within = absurd within.0.le
short_from (negsuc l) (negsuc n) short within = omega (arith, leb→le n l within.0.le)

not_under : (a b : ℤ) → a ≤ℤ b → int_lt b a ≡ false
not_under a b le = grind (arith, ints)

pub integer_within : (low z : ℤ) → IsShort low → IsBetween low (pos most) z → IsInteger low (pos most) z
integer_within low z short within =
    let inside = or_from (int_lt z low) (int_lt (pos most) z) (not_under low z within.0) (not_under z (pos most) within.1) in
    record { short = short_from low z short within; passes = λ line. rw inside refl }

pub literal_within : (l : ℤ) → IsLiteral l → IsBetween (neg_ℤ (pos most)) (pos most) l
literal_within (pos n) is = (record { le = tt }, record { le = le→leb n most is.1 })
literal_within (negsuc n) is = (record { le = le→leb n (most - 1) (omega arith) }, record { le = tt })

literal_not_zero : (l : ℤ) → IsLiteral l → is_zero l ≡ false
literal_not_zero (pos n) is = ne_eqb n 0 (λ e. omega arith)
literal_not_zero (negsuc n) is = refl

-- ---- what is read again

module _ (U : Atoms) (roomy : IsRoomy U) where
  room : (known : Atoms) (a : ℕ) (line : List ℕ) → IsPart U known → has U a ≡ true → room_for known a line ≡ Ok tt
  room known a line part there = room_within U known a line roomy.ascending roomy.few part there

  pub atom_back : (known : Atoms) (a : ℕ) (rest : List ℕ) → IsAtom a → IsPart U known → has U a ≡ true → ends_field rest ≡ true → atom_at known (natural_field a ++ rest) ≡ Ok (a, rest)
  unfolding atom_at
  atom_back known a rest is part there e = rw (natural_back 1 most a rest is.0 is.1 (omega arith) e, room known a (natural_field a ++ rest) part there) refl

  pub literal_back : (known : Atoms) (l : ℤ) (rest : List ℕ) → IsLiteral l → IsPart U known → has U (atom_of l) ≡ true → ends_field rest ≡ true →
      literal_at known (integer_field l ++ rest) ≡ Ok (l, rest)
  unfolding literal_at
  literal_back known l rest is part there e =
      let within = integer_within (neg_ℤ (pos most)) l (omega arith) (literal_within l is) in
      rw (integer_back (neg_ℤ (pos most)) (pos most) l rest within e, literal_not_zero l is, room known (atom_of l) (integer_field l ++ rest) part there) refl

  pub weighted_back : (low : ℤ) → IsShort low → (known : Atoms) (item : ℤ × ℤ) (rest : List ℕ) → IsWeighted low item → IsPart U known →
      has U (weighted_atom item) ≡ true → ends_field rest ≡ true → weighted_at low known (weighted_fields item ++ rest) ≡ Ok (item, rest)
  unfolding weighted_at
  weighted_back low short known item rest is part there e =
      rw (
        append_assoc (integer_field item.0) (integer_field item.1) rest,
        literal_back known item.0 (integer_field item.1 ++ rest) is.0 part there refl,
        integer_back low (pos most) item.1 rest (integer_within low item.1 short is.1) e,
      ) refl

  module _ {A : Type 0} (atom : A → ℕ) (one : Atoms → List ℕ → Reads A) (text : A → List ℕ) (P : A → Type 0)
      (starts : (x : A) (rest : List ℕ) → ends_field (text x ++ rest) ≡ true)
      (back : (known : Atoms) (x : A) (rest : List ℕ) → P x → IsPart U known → has U (atom x) ≡ true → ends_field rest ≡ true → one known (text x ++ rest) ≡ Ok (x, rest)) where
    pub all_start : (xs : List A) (rest : List ℕ) → ends_field rest ≡ true → ends_field (flat_map text xs ++ rest) ≡ true
    all_start [] rest e = e
    all_start (x ∷ xs) rest e = rw (append_assoc (text x) (flat_map text xs) rest) (starts x (flat_map text xs ++ rest))

    pub many_back : (known : Atoms) (xs : List A) (rest : List ℕ) → AllByRecursion P xs → IsPart U known → HasEach U (map atom xs) →
        ends_field rest ≡ true → many_at atom one (length xs) known (flat_map text xs ++ rest) ≡ Ok (xs, rest)
    unfolding many_at
    many_back known [] rest are part there e = refl
    many_back known (x ∷ xs) rest are part there e =
        rw (
          append_assoc (text x) (flat_map text xs) rest,
          back known x (flat_map text xs ++ rest) are.0 part there.0 (all_start xs rest e),
          many_back (with_atom (atom x) known) xs rest are.1 (part_more U known (atom x) part there.0) there.1 e,
        ) refl

    pub counted_back : (used : ℕ) (known : Atoms) (xs : List A) (rest : List ℕ) → used + length xs ≤ most_counted → AllByRecursion P xs →
        IsPart U known → HasEach U (map atom xs) → ends_field rest ≡ true
        → (count_at used (counted_fields text xs ++ rest) >>= λ n. many_at atom one n.0 known n.1) ≡ Ok (xs, rest)
    counted_back used known xs rest few are part there e =
        rw (
          append_assoc (natural_field (length xs)) (flat_map text xs) rest,
          count_back used (length xs) (flat_map text xs ++ rest) few (all_start xs rest e),
        ) (many_back known xs rest are part there e)

  pub literals_back : (used : ℕ) (known : Atoms) (ls : List ℤ) (rest : List ℕ) → used + length ls ≤ most_counted → AllByRecursion IsLiteral ls →
      IsPart U known → HasEach U (map atom_of ls) → ends_field rest ≡ true
      → literals_at used known (counted_fields integer_field ls ++ rest) ≡ Ok (ls, rest)
  literals_back used known ls rest few are part there e = counted_back atom_of literal_at integer_field IsLiteral (λ l rest. refl) literal_back used known ls rest few are part there e

  pub weights_back : (used : ℕ) (low : ℤ) → IsShort low → (known : Atoms) (items : List (ℤ × ℤ)) (rest : List ℕ) →
      used + length items ≤ most_counted → AllByRecursion (IsWeighted low) items → IsPart U known → HasEach U (map weighted_atom items) →
      ends_field rest ≡ true
      → weights_at used low known (counted_fields weighted_fields items ++ rest) ≡ Ok (items, rest)
  weights_back used low short known items rest few are part there e =
      counted_back weighted_atom (weighted_at low) weighted_fields (IsWeighted low) (λ item rest. refl) (weighted_back low short) used known items
      rest few are part there e
