-- What the readers of fields give, where they give anything.
use Rattle.std.proofs.Common.{◌≡◌, ℕ, suc, ◌+◌, ◌-◌, ◌≤◌, Bool, true, false, leb, leb→le, List, length, refl, ap, subst, zero, map, arith, Option, Some, None, Ok, Err, Result}
use Rattle.std.specs.Prelude.{ℤ, pos, negsuc, neg_ℤ, int_lt, if◌then◌else◌, ◌≤ℤ◌}
use Rattle.std.specs.List.{AllByRecursion}
use Rattle.std.proofs.lemmas.Bool.{ltb-false, eqb-false, leb-true, and_parts, or_parts}
use Rattle.std.proofs.lemmas.Int.{ints}
use Rattle.asp_text.specs.Fields.{field_of, after_field, integer_of}
use Rattle.asp_model.specs.Sets.{Atoms, with_atom, with_atoms}
use Rattle.asp_model.specs.Holding.{atom_of}
use Rattle.asp_read.specs.Fields.{◌>>=◌, Reads, natural_in, integer_in, natural_at, integer_at, count_at, is_one_too_many, room_for, atom_at, any_literal_at, literal_at, weighted_at, weighted_atom, many_at, literals_at, weights_at, is_zero, most, most_counted}
use Rattle.asp_roundtrip.specs.Readable.{IsBetween, IsAtom, IsLiteral, IsWeighted}
use Rattle.asp_roundtrip.proofs.Room.{IsRoomy, roomy_more}

-- what holds of each value that is given
pub record Given {A E : Type 0} (read : Result A E) (P : A → Type 0) : Type 0 where
  pub each : (x : A) → read ≡ Ok x → P x

pub given : {A E : Type 0} (x : A) (P : A → Type 0) → P x → Given {E = E} (Ok x) P
given {A} x P p = record { each = λ y e. let same : x ≡ y = cc in subst P same p }

pub given_none : {A E : Type 0} (f : E) (P : A → Type 0) → Given (Err f) P
given_none f P = record { each = λ y e. absurd cc }

pub given_then : {A B E : Type 0} (read : Result A E) (next : A → Result B E) (P : A → Type 0) (Q : B → Type 0) → Given read P → ((x : A) → P x → Given (next x) Q) → Given (read >>= next) Q
given_then (Ok x) next P Q g h = h x (g.each x refl)
given_then (Err f) next P Q g h = given_none f Q

pub given_if : {A E : Type 0} (b : Bool) (first second : Result A E) (P : A → Type 0) → (b ≡ true → Given first P) → (b ≡ false → Given second P) → Given (if b then first else second) P
given_if true first second P h k = h refl
given_if false first second P h k = k refl

pub given_itself : {A E : Type 0} (read : Result A E) → Given read (λ x. read ≡ Ok x)
given_itself read = record { each = λ x e. e }

pub given_after : {A E : Type 0} (read : Result A E) (P Q : A → Type 0) → Given read P → ((x : A) → P x → Q x) → Given read Q
given_after read P Q g h = record { each = λ x e. h x (g.each x e) }

-- ---- numbers

natural_in_given : (low high : ℕ) (line : List ℕ) (o : Option ℤ) → Given (natural_in low high line o) (λ n. (low ≤ n) × (n ≤ high))
natural_in_given low high line None = given_none _ _
natural_in_given low high line (Some (pos n)) = given_if _ _ _ _
    (λ t. let parts = and_parts (leb low n) (leb n high) t in given n _ (leb-true low n parts.0, leb-true n high parts.1))
    (λ f. given_none _ _)
natural_in_given low high line (Some (negsuc n)) = given_none _ _

pub natural_given : (low high : ℕ) (line : List ℕ) → Given (natural_at low high line) (λ x. (low ≤ x.0) × (x.0 ≤ high) × (x.1 ≡ after_field line))
natural_given low high line = given_then _ _ _ _ (natural_in_given low high line (integer_of (field_of line))) (λ n within. given _ _ (within.0, within.1, refl))

not_below : (low z : ℤ) → int_lt z low ≡ false → low ≤ℤ z
not_below low z e = grind (arith, ints)

pub integer_in_given : (low high : ℤ) (line : List ℕ) (o : Option ℤ) → Given (integer_in low high line o) (IsBetween low high)
integer_in_given low high line None = given_none _ _
integer_in_given low high line (Some z) = given_if _ _ _ _
    (λ t. given_none _ _)
    (λ f. let parts = or_parts (int_lt z low) (int_lt high z) f in given z _ (not_below low z parts.0, not_below z high parts.1))

pub integer_given : (low high : ℤ) (line : List ℕ) → Given (integer_at low high line) (λ x. IsBetween low high x.0)
integer_given low high line = given_then _ _ _ _ (integer_in_given low high line (integer_of (field_of line))) (λ z within. given _ _ within)

pub count_given : (used : ℕ) (line : List ℕ) → Given (count_at used line) (λ x. used + x.0 ≤ most_counted)
unfolding count_at
count_given used line = given_then _ _ _ _ (natural_given 0 most line) (λ n _. given_if _ _ _ _ (λ t. given_none _ _) (λ f. given _ _ (ltb-false most_counted (used + n.0) f)))

-- ---- atoms and literals

-- there was room for the atom
abbrev pub HasRoom : Atoms → ℕ → Type 0
HasRoom known a = is_one_too_many known a ≡ false

room_given : (known : Atoms) (a : ℕ) (line : List ℕ) → Given (room_for known a line) (λ _. HasRoom known a)
room_given known a line = given_if (is_one_too_many known a) _ _ _ (λ t. given_none _ _) (λ f. given tt _ f)

pub atom_given : (known : Atoms) (line : List ℕ) → Given (atom_at known line) (λ x. IsAtom x.0 × HasRoom known x.0)
unfolding atom_at
atom_given known line = given_then _ _ _ _ (natural_given 1 most line) (λ a within. given_then _ _ _ _ (room_given known a.0 line) (λ _ room. given _ _ ((within.0, within.1), room)))

literal_from : (z : ℤ) → IsBetween (neg_ℤ (pos most)) (pos most) z → is_zero z ≡ false → IsLiteral z
literal_from (pos n) within e = (omega (arith, eqb-false n 0 e), leb→le n most within.1.le)
literal_from (negsuc n) within e = (omega arith, omega (arith, leb→le n (most - 1) within.0.le))

any_literal_given : (line : List ℕ) → Given (any_literal_at line) (λ x. IsLiteral x.0)
any_literal_given line = given_then _ _ _ _ (integer_given (neg_ℤ (pos most)) (pos most) line) (λ l within. given_if _ _ _ _ (λ t. given_none _ _) (λ f. given _ _ (literal_from l.0 within f)))

pub literal_given : (known : Atoms) (line : List ℕ) → Given (literal_at known line) (λ x. IsLiteral x.0 × HasRoom known (atom_of x.0))
unfolding literal_at
literal_given known line = given_then _ _ _ _ (any_literal_given line) (λ l is. given_then _ _ _ _ (room_given known (atom_of l.0) line) (λ _ room. given _ _ (is, room)))

pub weighted_given : (low : ℤ) (known : Atoms) (line : List ℕ) → Given (weighted_at low known line) (λ x. IsWeighted low x.0 × HasRoom known (weighted_atom x.0))
unfolding weighted_at
weighted_given low known line = given_then _ _ _ _ (literal_given known line) (λ l is. given_then _ _ _ _ (integer_given low (pos most) l.1) (λ w within. given _ _ ((is.0, within), is.1)))

-- ---- many of them

pub many_given : {A : Type 0} (atom : A → ℕ) (one : Atoms → List ℕ → Reads A) (P : A → Type 0) → ((known : Atoms) (line : List ℕ) → Given (one known line) (λ x. P x.0 × HasRoom known (atom x.0)))
    → (n : ℕ) (known : Atoms) (line : List ℕ) → IsRoomy known → Given (many_at atom one n known line) (λ x. (length x.0 ≡ n) × AllByRecursion P x.0 × IsRoomy (with_atoms known (map atom x.0)))
unfolding many_at
many_given atom one P each zero known line roomy = given _ _ (refl, tt, roomy)
many_given atom one P each (suc n) known line roomy = given_then _ _ _ _ (each known line) (λ first is.
    given_then _ _ _ _ (many_given atom one P each n (with_atom (atom first.0) known) first.1 (roomy_more known (atom first.0) roomy is.1)) (λ others are.
    given _ _ (ap suc are.0, (is.0, are.1), are.2)))

pub literals_given : (used : ℕ) (known : Atoms) (line : List ℕ) → IsRoomy known →
    Given (literals_at used known line) (λ x. (used + length x.0 ≤ most_counted) × AllByRecursion IsLiteral x.0 ×
    IsRoomy (with_atoms known (map atom_of x.0)))
literals_given used known line roomy = given_then _ _ _ _ (count_given used line) (λ n few.
    given_after _ _ _ (many_given atom_of literal_at IsLiteral literal_given n.0 known n.1 roomy) (λ x are. (omega (arith, are.0), are.1, are.2)))

pub weights_given : (used : ℕ) (low : ℤ) (known : Atoms) (line : List ℕ) → IsRoomy known →
    Given (weights_at used low known line) (λ x. (used + length x.0 ≤ most_counted) × AllByRecursion (IsWeighted low) x.0 ×
    IsRoomy (with_atoms known (map weighted_atom x.0)))
weights_given used low known line roomy = given_then _ _ _ _ (count_given used line) (λ n few.
    given_after _ _ _ (many_given weighted_atom (weighted_at low) (IsWeighted low) (weighted_given low) n.0 known n.1 roomy) (λ x are. (omega (arith, are.0), are.1, are.2)))
