-- What is read is within the ranges and limits.
use Rattle.std.proofs.Common.{◌≡◌, ℕ, zero, suc, ◌+◌, ◌^◌, ◌≤◌, Bool, true, false, List, [], ◌∷◌, ◌++◌, length, length-append, take, add-zero, Option, Some, None, Result, Ok, Err, refl, sym, ap, ◌∙◌, arith}
use Rattle.std.specs.Prelude.{ℤ, pos, negsuc, if◌then◌else◌, int_lt, int_le, nat_le, nat_lt, ◌&&◌, ◌||◌, ◌==◌, neg_ℤ}
use Rattle.std.specs.List.{list_all}
use Rattle.std.proofs.lemmas.List.Folds.{list_all-append}
use Rattle.std.proofs.lemmas.List.Sums.{sum_by-append, sum_by-le-sum_by}
use Rattle.std.proofs.lemmas.List.{length-map}
use Rattle.std.proofs.lemmas.Bool.{leb-true, ltb-false, lt-ltb, le-leb, and_parts, and_from, or_parts}
use Rattle.asp_text.specs.Fields.{unblank, field_of, after_field, integer_of}
use Rattle.asp_text.specs.Lines.{is_lf, onto, pieces, lines_of, whole, without_cr}
use Rattle.asp_read.specs.declared.fault.ReadError.{ReadError}
use Rattle.asp_read.specs.declared.fault.ReadError.TheVariants.{TooLong}
use Rattle.asp_model.specs.declared.program.Program.{Program}
use Rattle.asp_text.specs.Fields.{num_of}
use Rattle.asp_text.specs.declared.numbers.Num.TheVariants.{Value}
use Rattle.asp_read.specs.declared.fault.FaultKind.TheVariants as fault
use Rattle.asp_read.specs.declared.error.FaultAt.{FaultAt}
use Rattle.asp_read.specs.Places.{broken}
use Rattle.asp_read.proofs.Places.{told_ok}
use Rattle.asp_model.specs.declared.program.Head.{Head}
use Rattle.asp_model.specs.declared.program.Head.TheVariants.{One, Choice, Never}
use Rattle.asp_model.specs.declared.program.Body.{Body}
use Rattle.asp_model.specs.declared.program.Body.TheVariants.{All, AtLeast}
use Rattle.asp_model.specs.declared.program.Rule.{Rule}
use Rattle.asp_model.specs.declared.program.Minimize.{Minimize}
use Rattle.asp_model.specs.declared.program.Output.{Output}
use Rattle.asp_model.specs.declared.program.External.{External}
use Rattle.asp_model.specs.declared.program.ExternalValue.{ExternalValue}
use Rattle.asp_model.specs.Sets.{Atoms, with_atom, with_atoms}
use Rattle.asp_model.specs.Holding.{atom_of}
use Rattle.asp_model.specs.Models.{head_atoms}
use Rattle.asp_model.specs.Sound.{is_atom, is_literal, is_weighted, is_sound_head, is_sound_body, is_sound_rule, is_sound_minimize, is_sound_output, weighted_count, weighted_total, has_room, IsSound}
use Rattle.asp_read.specs.declared.statement.Statement.{Statement}
use Rattle.asp_read.specs.declared.statement.Statement.TheVariants as say
use Rattle.asp_read.specs.Sizes.{head_size, body_size, rule_size, statement_size, statement_atoms, program_size, empty_program}
use Rattle.asp_read.specs.Fields.{◌>>=◌, Reads, natural_in, integer_in, natural_at, integer_at, signed_at, atom_at, any_literal_at, literal_at, weighted_at, weighted_atom, room_for, is_zero, count_at, many_at, literals_at, weights_at, text_at, alone, ended, most, most_counted}
use Rattle.asp_read.specs.Statements.{head_of, head_at, body_at, rule_at, minimize_at, output_at, value_of, external_at, heuristic_at, of_kind, kind_at, statement_with, statement_at, priorities, header_at, is_too_many}
use Rattle.asp_read.specs.declared.reader.Stage.{Stage}
use Rattle.asp_read.specs.declared.reader.Stage.TheVariants.{Start, Within, Ended}
use Rattle.asp_read.specs.Seen.{Seen}
use Rattle.asp_read.specs.Judging.{Format, judge_by, judge_next, judge_all, most_bytes, outcome_from, outcome_by}
use Rattle.asp_read.specs.Adding.{adds}
use Rattle.asp_read.specs.Outcome.{aspif, stage_after, judge_filled, judge_line, at_end, outcome}

-- ---- what a step that succeeded did

abbrev pub ok : {A : Type 0} → A → Result A FaultAt
ok x = Ok x

pub ok_is : {A : Type 0} (x y : A) → ok x ≡ ok y → x ≡ y
ok_is x y e = cc

pub first_is : {A : Type 0} (x : A) (rest : List ℕ) (y : A × List ℕ) → ok (x, rest) ≡ ok y → x ≡ y.0
first_is {A} x rest y e = ap (λ (z : A × List ℕ). z.0) (ok_is (x, rest) y e)

-- the value of the first step, and what the rest made of it
pub record Step {A B E : Type 0} (first : Result A E) (rest : A → Result B E) (end : B) : Type 0 where
  pub value : A
  pub is : first ≡ Ok value
  pub goes : rest value ≡ Ok end

pub step : {A B E : Type 0} (first : Result A E) (rest : A → Result B E) (end : B) → (first >>= rest) ≡ Ok end → Step first rest end
step (Ok x) rest end e = record { value = x; is = refl; goes = e }
step (Err f) rest end e = absurd cc

pub unless : {A : Type 0} (b : Bool) (f : FaultAt) (r : Result A FaultAt) (x : A) → (if b then Err f else r) ≡ Ok x → (b ≡ false) × (r ≡ Ok x)
unless true f r x e = absurd cc
unless false f r x e = (refl, e)

pub choose : {A : Type 0} (P : Type 0) (b : Bool) (r s : Result A FaultAt) (x : A) → (if b then r else s) ≡ Ok x → (r ≡ Ok x → P) → (s ≡ Ok x → P) → P
choose P true r s x e one other = one e
choose P false r s x e one other = other e

-- ---- numbers

natural_range : (low high : ℕ) (line : List ℕ) (o : Option ℤ) (n : ℕ) → natural_in low high line o ≡ Ok n → (low ≤ n) × (n ≤ high)
natural_range low high line None n e = absurd cc
natural_range low high line (Some (negsuc m)) n e = absurd cc
natural_range low high line (Some (pos m)) n e = (elim (nat_le low m && nat_le m high) as
    (λ v. (nat_le low m && nat_le m high) ≡ v → (if v then ok m else Err (broken (fault.Natural low high (num_of (Some (pos m)))) line)) ≡ ok n →
    (low ≤ n) × (n ≤ high)) [
      | true ↦ λ t h.
          let p = and_parts (nat_le low m) (nat_le m high) t in
          let is : m ≡ n = ok_is m n h in
          (omega (arith, leb-true low m p.0, is), omega (arith, leb-true m high p.1, is))
      | false ↦ λ f h. absurd cc
    ]) refl e

pub natural-range : (low high : ℕ) (line : List ℕ) (x : ℕ × List ℕ) → natural_at low high line ≡ Ok x → (low ≤ x.0) × (x.0 ≤ high)
natural-range low high line x e =
    let s = step (natural_in low high line (integer_of (field_of line))) (λ n. ok (n, after_field line)) x e in
    let r = natural_range low high line (integer_of (field_of line)) s.value s.is in
    let is : s.value ≡ x.0 = ap (λ (y : ℕ × List ℕ). y.0) (ok_is (s.value, after_field line) x s.goes) in
    (omega (arith, r.0, is), omega (arith, r.1, is))

integer_range : (low high : ℤ) (line : List ℕ) (o : Option ℤ) (z : ℤ) → integer_in low high line o ≡ Ok z → (int_lt z low ≡ false) × (int_lt high z ≡ false)
integer_range low high line None z e = absurd cc
integer_range low high line (Some y) z e =
    let u = unless (int_lt y low || int_lt high y) _ (ok y) z e in
    let is : y ≡ z = ok_is y z u.1 in
    rw is at (or_parts (int_lt y low) (int_lt high y) u.0)

pub integer-range : (low high : ℤ) (line : List ℕ) (x : ℤ × List ℕ) → integer_at low high line ≡ Ok x → (int_lt x.0 low ≡ false) × (int_lt high x.0 ≡ false)
integer-range low high line x e =
    let s = step (integer_in low high line (integer_of (field_of line))) (λ z. ok (z, after_field line)) x e in
    let is : s.value ≡ x.0 = ap (λ (y : ℤ × List ℕ). y.0) (ok_is (s.value, after_field line) x s.goes) in
    rw is at (integer_range low high line (integer_of (field_of line)) s.value s.is)

-- ---- atoms, literals and weights

atom_is : (a : ℕ) → 1 ≤ a → a ≤ most → is_atom a ≡ true
atom_is a low high = and_from (nat_lt 0 a) (nat_lt a (2 ^ 31)) (lt-ltb 0 a (omega arith)) (lt-ltb a (2 ^ 31) (omega arith))

one_or_more : (n : ℕ) → (n == 0) ≡ false → 1 ≤ n
one_or_more zero e = absurd cc
one_or_more (suc n) e = omega arith

literal_is : (z : ℤ) → int_lt z (neg_ℤ (pos most)) ≡ false → int_lt (pos most) z ≡ false → is_zero z ≡ false → is_literal z ≡ true
literal_is (pos n) low high other = atom_is n (one_or_more n other) (ltb-false most n high)
literal_is (negsuc n) low high other = atom_is (suc n) (omega arith) (omega (arith, ltb-false 2147483646 n low))

pub weight_is : (w : ℤ) → int_lt w (pos 0) ≡ false → int_le (pos 0) w ≡ true
weight_is (pos n) low = le-leb 0 n (omega arith)
weight_is (negsuc n) low = absurd cc

pub atom-sound : (known : Atoms) (line : List ℕ) (x : ℕ × List ℕ) → atom_at known line ≡ Ok x → is_atom x.0 ≡ true
unfolding atom_at
atom-sound known line x e =
    let s = step (natural_at 1 most line) (λ a. room_for known a.0 line >>= λ _. ok a) x e in
    let t = step (room_for known s.value.0 line) (λ _. ok s.value) x s.goes in
    let r = natural-range 1 most line s.value s.is in
    rw (ok_is s.value x t.goes) at (atom_is s.value.0 r.0 r.1)

any-literal-sound : (line : List ℕ) (x : ℤ × List ℕ) → any_literal_at line ≡ Ok x → is_literal x.0 ≡ true
any-literal-sound line x e =
    let s = step (integer_at (neg_ℤ (pos most)) (pos most) line) (λ z. if is_zero z.0 then Err (broken (fault.Integer (neg_ℤ (pos most)) (pos most) (Value (pos 0))) line) else ok z) x e in
    let u = unless (is_zero s.value.0) _ (ok s.value) x s.goes in
    let r = integer-range (neg_ℤ (pos most)) (pos most) line s.value s.is in
    rw (ok_is s.value x u.1) at (literal_is s.value.0 r.0 r.1 u.0)

literal-sound : (known : Atoms) (line : List ℕ) (x : ℤ × List ℕ) → literal_at known line ≡ Ok x → is_literal x.0 ≡ true
unfolding literal_at
literal-sound known line x e =
    let s = step (any_literal_at line) (λ z. room_for known (atom_of z.0) line >>= λ _. ok z) x e in
    let t = step (room_for known (atom_of s.value.0) line) (λ _. ok s.value) x s.goes in
    rw (ok_is s.value x t.goes) at (any-literal-sound line s.value s.is)

-- the parts of a literal with a weight
record Weighted (low : ℤ) (item : ℤ × ℤ) : Type 0 where
  literal : is_literal item.0 ≡ true
  weight : int_lt item.1 low ≡ false

weighted_parts : (low l w : ℤ) → is_literal l ≡ true → int_lt w low ≡ false → Weighted low (l, w)
weighted_parts low l w h k = record { literal = h; weight = k }

weighted_is : (low : ℤ) (known : Atoms) (line : List ℕ) (x : (ℤ × ℤ) × List ℕ) → weighted_at low known line ≡ Ok x → Weighted low x.0
unfolding weighted_at
weighted_is low known line x e =
    let s = step (literal_at known line) (λ l. integer_at low (pos most) l.1 >>= λ w. ok ((l.0, w.0), w.1)) x e in
    let t = step (integer_at low (pos most) s.value.1) (λ w. ok ((s.value.0, w.0), w.1)) x s.goes in
    let r = integer-range low (pos most) s.value.1 t.value t.is in
    rw (first_is (s.value.0, t.value.0) t.value.1 x t.goes) at (weighted_parts low s.value.0 t.value.0 (literal-sound known line s.value s.is) r.0)

weighted-sound : (known : Atoms) (line : List ℕ) (x : (ℤ × ℤ) × List ℕ) → weighted_at (pos 0) known line ≡ Ok x → is_weighted x.0 ≡ true
weighted-sound known line x e = let w = weighted_is (pos 0) known line x e in and_from (is_literal x.0.0) (int_le (pos 0) x.0.1) w.literal (weight_is x.0.1 w.weight)

minimized-sound : (low : ℤ) (known : Atoms) (line : List ℕ) (x : (ℤ × ℤ) × List ℕ) → weighted_at low known line ≡ Ok x → is_literal x.0.0 ≡ true
minimized-sound low known line x e = (weighted_is low known line x e).literal

-- ---- many

pub record Many {A : Type 0} (p : A → Bool) (count : ℕ) (xs : List A) : Type 0 where
  pub sound : list_all p xs ≡ true
  pub counted : length xs ≡ count

none_are : {A : Type 0} (p : A → Bool) → Many p 0 []
none_are p = record { sound = refl; counted = refl }

more_are : {A : Type 0} (p : A → Bool) (n : ℕ) (x : A) (xs : List A) → p x ≡ true → Many p n xs → Many p (suc n) (x ∷ xs)
more_are p n x xs h m = record { sound = and_from (p x) (list_all p xs) h m.sound; counted = ap suc m.counted }

module _ {A : Type 0} (p : A → Bool) (atom : A → ℕ) (one : Atoms → List ℕ → Reads A) (each : (k : Atoms) (l : List ℕ) (y : A × List ℕ) → one k l ≡ Ok y → p y.0 ≡ true) where
  pub many_are : (n : ℕ) (known : Atoms) (line : List ℕ) (x : List A × List ℕ) → many_at atom one n known line ≡ Ok x → Many p n x.0
  unfolding many_at
  many_are zero known line x e = rw (first_is [] line x e) at (none_are p)
  many_are (suc n) known line x e =
      let s = step (one known line) (λ f. many_at atom one n (with_atom (atom f.0) known) f.1 >>= λ os. ok (f.0 ∷ os.0, os.1)) x e in
      let t = step (many_at atom one n (with_atom (atom s.value.0) known) s.value.1) (λ os. ok (s.value.0 ∷ os.0, os.1)) x s.goes in
      rw (first_is (s.value.0 ∷ t.value.0) t.value.1 x t.goes) at
      (more_are p n s.value.0 t.value.0 (each known line s.value s.is) (many_are n (with_atom (atom s.value.0) known) s.value.1 t.value t.is))

pub count_is : (used : ℕ) (line : List ℕ) (x : ℕ × List ℕ) → count_at used line ≡ Ok x → used + x.0 ≤ most_counted
unfolding count_at
count_is used line x e =
    let s = step (natural_at 0 most line) (λ n. if nat_lt most_counted (used + n.0) then Err (broken fault.Counts line) else ok n) x e in
    let u = unless (nat_lt most_counted (used + s.value.0)) _ (ok s.value) x s.goes in
    rw (ok_is s.value x u.1) at (ltb-false most_counted (used + s.value.0) u.0)

-- a list of so many that pass, where so much was counted before
pub record Listed {A : Type 0} (p : A → Bool) (used : ℕ) (xs : List A) : Type 0 where
  pub sound : list_all p xs ≡ true
  pub fits : used + length xs ≤ most_counted

pub literals-sound : (used : ℕ) (known : Atoms) (line : List ℕ) (x : List ℤ × List ℕ) → literals_at used known line ≡ Ok x → Listed is_literal used x.0
literals-sound used known line x e =
    let s = step (count_at used line) (λ n. many_at atom_of literal_at n.0 known n.1) x e in
    let m = many_are is_literal atom_of literal_at literal-sound s.value.0 known s.value.1 x s.goes in
    record { sound = m.sound; fits = omega (arith, m.counted, count_is used line s.value s.is) }

weights-sound : (p : ℤ × ℤ → Bool) (used : ℕ) (low : ℤ) (known : Atoms) (line : List ℕ) (x : List (ℤ × ℤ) × List ℕ)
    → ((k : Atoms) (l : List ℕ) (y : (ℤ × ℤ) × List ℕ) → weighted_at low k l ≡ Ok y → p y.0 ≡ true) → weights_at used low known line ≡ Ok x → Listed p used x.0
weights-sound p used low known line x each e =
    let s = step (count_at used line) (λ n. many_at weighted_atom (weighted_at low) n.0 known n.1) x e in
    let m = many_are p weighted_atom (weighted_at low) each s.value.0 known s.value.1 x s.goes in
    record { sound = m.sound; fits = omega (arith, m.counted, count_is used line s.value s.is) }

-- ---- statements

abbrev rule : Head → Body → Rule
rule head body = record { head = head; body = body }

abbrev minimize : ℤ → List (ℤ × ℤ) → Minimize
minimize priority items = record { priority = priority; items = items }

abbrev output : List ℕ → List ℤ → Output
output text condition = record { text = text; condition = condition }

abbrev external : ℕ → ExternalValue → External
external atom value = record { atom = atom; value = value }

head_is : (kind : ℕ) (atoms : List ℕ) → list_all is_atom atoms ≡ true → (is_sound_head (head_of kind atoms) ≡ true) × (head_size (head_of kind atoms) ≤ length atoms)
head_is kind [] all = elim (kind == 0) as
    (λ b. (is_sound_head (if b then Never else Choice []) ≡ true) × (head_size (if b then Never else Choice []) ≤ 0))
    [ true ↦ (refl, omega arith) | false ↦ (refl, omega arith) ]
head_is kind (a ∷ atoms) all = elim (kind == 0) as
    (λ b. (is_sound_head (if b then One a else Choice (a ∷ atoms)) ≡ true) ×
    (head_size (if b then One a else Choice (a ∷ atoms)) ≤ suc (length atoms))) [
      | true ↦ ((and_parts (is_atom a) (list_all is_atom atoms) all).0, omega arith)
      | false ↦ (all, omega arith)
    ]

-- a head or a body that is sound, and its size
pub record Part {A : Type 0} (sound : A → Bool) (size : A → ℕ) (used : ℕ) (x : A) : Type 0 where
  pub is_sound : sound x ≡ true
  pub fits : used + size x ≤ most_counted

pub part : {A : Type 0} (sound : A → Bool) (size : A → ℕ) (used : ℕ) (x y : A) → x ≡ y → sound x ≡ true → used + size x ≤ most_counted → Part sound size used y
part sound size used x y e s f = rw (← e) (record { is_sound = s; fits = f })

head-sound : (used : ℕ) (known : Atoms) (line : List ℕ) (x : Head × List ℕ) → head_at used known line ≡ Ok x → Part is_sound_head head_size used x.0
unfolding head_at
head-sound used known line x e =
    let s = step (natural_at 0 1 line) (λ kind. natural_at 0 most kind.1 >>= λ m. if kind.0 == 0 && nat_lt 1 m.0
    then Err (broken fault.Disjunction kind.1) else
    (if nat_lt most_counted (used + m.0) then Err (broken fault.Counts kind.1)
    else (many_at (λ a. a) atom_at m.0 known m.1 >>= λ atoms. ok (head_of kind.0 atoms.0, atoms.1)))) x e in
    let kind = s.value.0 in
    let t = step (natural_at 0 most s.value.1)
    (λ m. if kind == 0 && nat_lt 1 m.0 then Err (broken fault.Disjunction s.value.1)
    else (if nat_lt most_counted (used + m.0) then Err (broken fault.Counts s.value.1)
    else (many_at (λ a. a) atom_at m.0 known m.1 >>= λ atoms. ok (head_of kind atoms.0, atoms.1)))) x s.goes in
    let m = t.value in
    let u = unless (kind == 0 && nat_lt 1 m.0) _
    (if nat_lt most_counted (used + m.0) then Err (broken fault.Counts s.value.1)
    else (many_at (λ a. a) atom_at m.0 known m.1 >>= λ atoms. ok (head_of kind atoms.0, atoms.1))) x t.goes in
    let v = unless (nat_lt most_counted (used + m.0)) _ (many_at (λ a. a) atom_at m.0 known m.1 >>= λ atoms. ok (head_of kind atoms.0, atoms.1)) x u.1 in
    let w = step (many_at (λ a. a) atom_at m.0 known m.1) (λ atoms. ok (head_of kind atoms.0, atoms.1)) x v.1 in
    let l = many_are is_atom (λ a. a) atom_at atom-sound m.0 known m.1 w.value w.is in
    let h = head_is kind w.value.0 l.sound in
    part is_sound_head head_size used (head_of kind w.value.0) x.0 (first_is (head_of kind w.value.0) w.value.1 x w.goes) h.0 (omega (arith, h.1, l.counted, ltb-false most_counted (used + m.0) v.0))

normal_is : (used : ℕ) (known : Atoms) (line : List ℕ) (x : Body × List ℕ) → (literals_at used known line >>= λ ls. ok (All ls.0, ls.1)) ≡ Ok x → Part is_sound_body body_size used x.0
normal_is used known line x e =
    let s = step (literals_at used known line) (λ ls. ok (All ls.0, ls.1)) x e in
    let l = literals-sound used known line s.value s.is in
    part is_sound_body body_size used (All s.value.0) x.0 (first_is (All s.value.0) s.value.1 x s.goes) l.sound l.fits

weight_body_is : (used : ℕ) (known : Atoms) (line : List ℕ) (x : Body × List ℕ) →
    (signed_at line >>= λ b. weights_at used (pos 0) known b.1 >>= λ is. ok (AtLeast b.0 is.0, is.1)) ≡ Ok x → Part is_sound_body body_size used x.0
weight_body_is used known line x e =
    let s = step (signed_at line) (λ b. weights_at used (pos 0) known b.1 >>= λ is. ok (AtLeast b.0 is.0, is.1)) x e in
    let t = step (weights_at used (pos 0) known s.value.1) (λ is. ok (AtLeast s.value.0 is.0, is.1)) x s.goes in
    let l = weights-sound is_weighted used (pos 0) known s.value.1 t.value weighted-sound t.is in
    part is_sound_body body_size used (AtLeast s.value.0 t.value.0) x.0 (first_is (AtLeast s.value.0 t.value.0) t.value.1 x t.goes) l.sound l.fits

body-sound : (used : ℕ) (known : Atoms) (line : List ℕ) (x : Body × List ℕ) → body_at used known line ≡ Ok x → Part is_sound_body body_size used x.0
unfolding body_at
body-sound used known line x e =
    let s = step (natural_at 0 1 line) (λ kind. if kind.0 == 0 then (literals_at used known kind.1 >>= λ ls. ok (All ls.0, ls.1))
    else (signed_at kind.1 >>= λ b. weights_at used (pos 0) known b.1 >>= λ is. ok (AtLeast b.0 is.0, is.1))) x e in
    choose (Part is_sound_body body_size used x.0) (s.value.0 == 0) (literals_at used known s.value.1 >>= λ ls. ok (All ls.0, ls.1))
    (signed_at s.value.1 >>= λ b. weights_at used (pos 0) known b.1 >>= λ is. ok (AtLeast b.0 is.0, is.1)) x s.goes
    (normal_is used known s.value.1 x) (weight_body_is used known s.value.1 x)

rule-sound : (used : ℕ) (known : Atoms) (line : List ℕ) (x : Rule × List ℕ) → rule_at used known line ≡ Ok x → Part is_sound_rule rule_size used x.0
unfolding rule_at
rule-sound used known line x e =
    let s = step (head_at used known line) (λ h. body_at (used + head_size h.0) (with_atoms known (head_atoms h.0)) h.1 >>= λ b. ok (rule h.0 b.0, b.1)) x e in
    let head = s.value.0 in
    let t = step (body_at (used + head_size head) (with_atoms known (head_atoms head)) s.value.1) (λ b. ok (rule head b.0, b.1)) x s.goes in
    let h = head-sound used known line s.value s.is in
    let b = body-sound (used + head_size head) (with_atoms known (head_atoms head)) s.value.1 t.value t.is in
    part is_sound_rule rule_size used (rule head t.value.0) x.0 (first_is (rule head t.value.0) t.value.1 x t.goes)
    (and_from (is_sound_head head) (is_sound_body t.value.0) h.is_sound b.is_sound) (omega (arith, b.fits))

minimize-sound : (used : ℕ) (seen : List ℤ) (known : Atoms) (line : List ℕ) (x : Minimize × List ℕ) → minimize_at used seen known line ≡ Ok x → Part is_sound_minimize (λ m. length m.items) used x.0
unfolding minimize_at
minimize-sound used seen known line x e =
    let s = step (signed_at line) (λ q. if is_too_many q.0 seen then Err (broken fault.Priorities line) else (weights_at used (negsuc most) known q.1 >>= λ is. ok (minimize q.0 is.0, is.1))) x e in
    let u = unless (is_too_many s.value.0 seen) _ (weights_at used (negsuc most) known s.value.1 >>= λ is. ok (minimize s.value.0 is.0, is.1)) x s.goes in
    let t = step (weights_at used (negsuc most) known s.value.1) (λ is. ok (minimize s.value.0 is.0, is.1)) x u.1 in
    let l = weights-sound (λ item. is_literal item.0) used (negsuc most) known s.value.1 t.value (minimized-sound (negsuc most)) t.is in
    part is_sound_minimize (λ m. length m.items) used (minimize s.value.0 t.value.0) x.0 (first_is (minimize s.value.0 t.value.0) t.value.1 x t.goes) l.sound l.fits

output-sound : (used : ℕ) (known : Atoms) (line : List ℕ) (x : Output × List ℕ) → output_at used known line ≡ Ok x → Part is_sound_output (λ o. length o.condition) used x.0
unfolding output_at
output-sound used known line x e =
    let s = step (natural_at 0 268435456 line) (λ m. text_at m.0 m.1 >>= λ t. literals_at used known t.1 >>= λ ls. ok (output t.0 ls.0, ls.1)) x e in
    let t = step (text_at s.value.0 s.value.1) (λ t. literals_at used known t.1 >>= λ ls. ok (output t.0 ls.0, ls.1)) x s.goes in
    let w = step (literals_at used known t.value.1) (λ ls. ok (output t.value.0 ls.0, ls.1)) x t.goes in
    let l = literals-sound used known t.value.1 w.value w.is in
    part is_sound_output (λ o. length o.condition) used (output t.value.0 w.value.0) x.0 (first_is (output t.value.0 w.value.0) w.value.1 x w.goes) l.sound l.fits

external-sound : (known : Atoms) (line : List ℕ) (x : External × List ℕ) → external_at known line ≡ Ok x → is_atom x.0.atom ≡ true
unfolding external_at
external-sound known line x e =
    let s = step (atom_at known line) (λ a. natural_at 0 3 a.1 >>= λ n. ok (external a.0 (value_of n.0), n.1)) x e in
    let t = step (natural_at 0 3 s.value.1) (λ n. ok (external s.value.0 (value_of n.0), n.1)) x s.goes in
    ap (λ (y : External). is_atom y.atom) (sym (first_is (external s.value.0 (value_of t.value.0)) t.value.1 x t.goes)) ∙ atom-sound known line s.value s.is

-- ---- lines

pub alone_is : {A : Type 0} (read : Reads A) (x : A) → (read >>= alone) ≡ Ok x → (y : A × List ℕ) × (read ≡ Ok y) × (y.0 ≡ x)
alone_is read x e =
    let s = step read alone x e in
    let t = step (ended s.value.1) (λ _. ok s.value.0) x s.goes in
    (s.value, s.is, ok_is s.value.0 x t.goes)

abbrev pub is_sound_statement : Statement → Bool
is_sound_statement (say.Rule r) = is_sound_rule r
is_sound_statement (say.Minimize m) = is_sound_minimize m
is_sound_statement (say.Output o) = is_sound_output o
is_sound_statement (say.External x) = is_atom x.atom
is_sound_statement (say.Assume ls) = list_all is_literal ls
is_sound_statement s = true

-- a statement of a part that stands alone on its line
pub stated : {A : Type 0} (sound : A → Bool) (size : A → ℕ) (say_it : A → Statement) (used : ℕ) (read : Reads A) (s : Statement)
    → ((x : A × List ℕ) → read ≡ Ok x → Part sound size used x.0) → ((x : A) → is_sound_statement (say_it x) ≡ sound x) → ((x : A) → statement_size (say_it x) ≡ size x)
    → (read >>= alone >>= λ x. ok (say_it x)) ≡ Ok s → Part is_sound_statement statement_size used s
stated sound size say_it used read s parts sounds sizes e =
    let t = step (read >>= alone) (λ x. ok (say_it x)) s e in
    let a = alone_is read t.value t.is in
    let p = parts a.0 a.1 in
    part is_sound_statement statement_size used (say_it t.value) s (ok_is (say_it t.value) s t.goes)
    (sounds t.value ∙ ap sound (sym a.2) ∙ p.is_sound) (omega (arith, sizes t.value, ap size a.2, p.fits))

pub end_is : (used : ℕ) (line : List ℕ) (s : Statement) → used ≤ most_counted → alone (say.End, line) ≡ Ok s → Part is_sound_statement statement_size used s
end_is used line s room e = let t = step (ended line) (λ _. ok say.End) s e in part is_sound_statement statement_size used say.End s (ok_is say.End s t.goes) refl (omega (arith, room))

comment_is : (used : ℕ) (s : Statement) → used ≤ most_counted → ok say.Comment ≡ ok s → Part is_sound_statement statement_size used s
comment_is used s room e = part is_sound_statement statement_size used say.Comment s (ok_is say.Comment s e) refl (omega (arith, room))

external_is : (known : Atoms) (used : ℕ) (line : List ℕ) → used ≤ most_counted → (x : External × List ℕ) → external_at known line ≡ Ok x → Part (λ y. is_atom y.atom) (λ _. 0) used x.0
external_is known used line room x e = record { is_sound = external-sound known line x e; fits = omega (arith, room) }

assume_is : (used : ℕ) (known : Atoms) (line : List ℕ) (x : List ℤ × List ℕ) → literals_at used known line ≡ Ok x → Part (list_all is_literal) length used x.0
assume_is used known line x e = let l = literals-sound used known line x e in record { is_sound = l.sound; fits = l.fits }

module _ (kind used : ℕ) (seen : List ℤ) (known : Atoms) (line : List ℕ) where
  abbrev from9 : Result Statement FaultAt
  from9 = if kind == 9 then Err (broken fault.Theory line) else ok say.Comment

  abbrev from8 : Result Statement FaultAt
  from8 = if kind == 8 then Err (broken fault.Edge line) else from9

  abbrev from7 : Result Statement FaultAt
  from7 = if kind == 7 then (heuristic_at line >>= ended >>= λ _. ok say.Comment) else from8

  abbrev from6 : Result Statement FaultAt
  from6 = if kind == 6 then (literals_at used known line >>= alone >>= λ x. ok (say.Assume x)) else from7

  abbrev from5 : Result Statement FaultAt
  from5 = if kind == 5 then (external_at known line >>= alone >>= λ x. ok (say.External x)) else from6

  abbrev from4 : Result Statement FaultAt
  from4 = if kind == 4 then (output_at used known line >>= alone >>= λ x. ok (say.Output x)) else from5

  abbrev from3 : Result Statement FaultAt
  from3 = if kind == 3 then Err (broken fault.Projection line) else from4

  abbrev from2 : Result Statement FaultAt
  from2 = if kind == 2 then (minimize_at used seen known line >>= alone >>= λ x. ok (say.Minimize x)) else from3

  abbrev from1 : Result Statement FaultAt
  from1 = if kind == 1 then (rule_at used known line >>= alone >>= λ x. ok (say.Rule x)) else from2

  abbrev IsFit : Statement → Type 0
  IsFit s = Part is_sound_statement statement_size used s

  last_sound : (s : Statement) → used ≤ most_counted → from7 ≡ Ok s → IsFit s
  last_sound s room e7 =
      choose (IsFit s) (kind == 7) (heuristic_at line >>= ended >>= λ _. ok say.Comment) from8 s e7
      (λ e. comment_is used s room (step (heuristic_at line >>= ended) (λ _. ok say.Comment) s e).goes)
      (λ e8. let e9 = (unless (kind == 8) _ from9 s e8).1 in comment_is used s room (unless (kind == 9) _ (ok say.Comment) s e9).1)

  later_sound : (s : Statement) → used ≤ most_counted → from4 ≡ Ok s → IsFit s
  later_sound s room e4 =
      choose (IsFit s) (kind == 4) (output_at used known line >>= alone >>= λ x. ok (say.Output x)) from5 s e4
      (stated is_sound_output (λ o. length o.condition) say.Output used (output_at used known line) s (output-sound used known line) (λ x. refl) (λ x. refl))
      (λ e5. choose (IsFit s) (kind == 5) (external_at known line >>= alone >>= λ x. ok (say.External x)) from6 s e5
      (stated (λ y. is_atom y.atom) (λ _. 0) say.External used (external_at known line) s (external_is known used line room) (λ x. refl) (λ x. refl))
      (λ e6. choose (IsFit s) (kind == 6) (literals_at used known line >>= alone >>= λ x. ok (say.Assume x)) from7 s e6
      (stated (list_all is_literal) length say.Assume used (literals_at used known line) s (assume_is used known line) (λ x. refl) (λ x. refl))
      (last_sound s room)))

  of_kind-sound : (s : Statement) → used ≤ most_counted → of_kind kind used seen known line ≡ Ok s → IsFit s
  unfolding of_kind
  of_kind-sound s room e0 =
      choose (IsFit s) (kind == 0) (alone (say.End, line)) from1 s e0 (end_is used line s room)
      (λ e1. choose (IsFit s) (kind == 1) (rule_at used known line >>= alone >>= λ x. ok (say.Rule x)) from2 s e1
      (stated is_sound_rule rule_size say.Rule used (rule_at used known line) s (rule-sound used known line) (λ x. refl) (λ x. refl))
      (λ e2. choose (IsFit s) (kind == 2) (minimize_at used seen known line >>= alone >>= λ x. ok (say.Minimize x)) from3 s e2
      (stated is_sound_minimize (λ m. length m.items) say.Minimize used (minimize_at used seen known line) s (minimize-sound used seen known line) (λ x. refl) (λ x. refl))
      (λ e3. later_sound s room (unless (kind == 3) _ from4 s e3).1)))

statement-sound : (used : ℕ) (seen : List ℤ) (known : Atoms) (line : List ℕ) (s : Statement) → used ≤ most_counted →
    statement_with used seen known line ≡ Ok s → Part is_sound_statement statement_size used s
unfolding statement_with
statement-sound used seen known line s room e =
    let t = step (kind_at line) (λ kind. of_kind kind.0 used seen known kind.1) s e in
    of_kind-sound t.value.0 used seen known t.value.1 s room t.goes

-- ---- programs

-- a program of so many lines
pub record AreSound (p : Program) (lines : ℕ) : Type 0 where
  pub rules : list_all is_sound_rule p.rules ≡ true
  pub minimize : list_all is_sound_minimize p.minimize ≡ true
  pub outputs : list_all is_sound_output p.outputs ≡ true
  pub externals : list_all (λ (e : External). is_atom e.atom) p.externals ≡ true
  pub assumptions : list_all is_literal p.assumptions ≡ true
  pub size : program_size p ≤ most_counted
  pub few : length p.rules + length p.minimize + length p.outputs + length p.externals ≤ lines

pub all_append : {A : Type 0} (q : A → Bool) (xs ys : List A) → list_all q xs ≡ true → list_all q ys ≡ true → list_all q (xs ++ ys) ≡ true
all_append q xs ys h k = list_all-append q xs ys ∙ and_from (list_all q xs) (list_all q ys) h k

all_push : {A : Type 0} (q : A → Bool) (xs : List A) (x : A) → list_all q xs ≡ true → q x ≡ true → list_all q (xs ++ x ∷ []) ≡ true
all_push q xs x h k = all_append q xs (x ∷ []) h (and_from (q x) true k refl)

pub adds-sound : (p : Program) (s : Statement) (n : ℕ) → AreSound p n → Part is_sound_statement statement_size (program_size p) s → AreSound (adds p s) (suc n)
adds-sound p say.End n h k = record { rules = h.rules; minimize = h.minimize; outputs = h.outputs; externals = h.externals; assumptions = h.assumptions; size = h.size; few = omega (arith, h.few) }
adds-sound p say.Comment n h k = record { rules = h.rules; minimize = h.minimize; outputs = h.outputs; externals = h.externals; assumptions = h.assumptions; size = h.size; few = omega (arith, h.few) }
adds-sound p (say.Rule r) n h k = record {
  rules = all_push is_sound_rule p.rules r h.rules k.is_sound;
  minimize = h.minimize;
  outputs = h.outputs;
  externals = h.externals;
  assumptions = h.assumptions;
  size = omega (arith, k.fits, sum_by-append rule_size p.rules (r ∷ []));
  few = omega (arith, h.few, length-append p.rules (r ∷ []));
}
adds-sound p (say.Minimize m) n h k = record {
  rules = h.rules;
  minimize = all_push is_sound_minimize p.minimize m h.minimize k.is_sound;
  outputs = h.outputs;
  externals = h.externals;
  assumptions = h.assumptions;
  size = omega (arith, k.fits, sum_by-append (λ (x : Minimize). length x.items) p.minimize (m ∷ []));
  few = omega (arith, h.few, length-append p.minimize (m ∷ []));
}
adds-sound p (say.Output o) n h k = record {
  rules = h.rules;
  minimize = h.minimize;
  outputs = all_push is_sound_output p.outputs o h.outputs k.is_sound;
  externals = h.externals;
  assumptions = h.assumptions;
  size = omega (arith, k.fits, sum_by-append (λ (x : Output). length x.condition) p.outputs (o ∷ []));
  few = omega (arith, h.few, length-append p.outputs (o ∷ []));
}
adds-sound p (say.External e) n h k = record {
  rules = h.rules;
  minimize = h.minimize;
  outputs = h.outputs;
  externals = all_push (λ (x : External). is_atom x.atom) p.externals e h.externals k.is_sound;
  assumptions = h.assumptions;
  size = h.size;
  few = omega (arith, h.few, length-append p.externals (e ∷ []));
}
adds-sound p (say.Assume ls) n h k = record {
  rules = h.rules;
  minimize = h.minimize;
  outputs = h.outputs;
  externals = h.externals;
  assumptions = all_append is_literal p.assumptions ls h.assumptions k.is_sound;
  size = omega (arith, k.fits, length-append p.assumptions ls);
  few = omega (arith, h.few);
}

pub more_lines : (p q : Program) (n : ℕ) → p ≡ q → AreSound p n → AreSound q (suc n)
more_lines p q n e h = rw (← e)
    (record {
      rules = h.rules;
      minimize = h.minimize;
      outputs = h.outputs;
      externals = h.externals;
      assumptions = h.assumptions;
      size = h.size;
      few =
          omega (arith, h.few);
    })

abbrev seen_as : Stage → Program → Atoms → Seen
seen_as stage program known = record { stage = stage; program = program; known = known }

filled-sound : (stage : Stage) (p : Program) (known : Atoms) (line : List ℕ) (next : Seen) (n : ℕ) → AreSound p n → judge_filled stage p known line ≡ Ok next → AreSound next.program (suc n)
filled-sound Start p known line next n h e =
    let t = step (header_at line) (λ _. ok (seen_as Within p known)) next e in
    more_lines p next.program n (ap (λ (s : Seen). s.program) (ok_is (seen_as Within p known) next t.goes)) h
filled-sound Within p known line next n h e =
    let t = step (statement_at p known line) (λ s. ok (seen_as (stage_after s) (adds p s) (with_atoms known (statement_atoms s)))) next e in
    let k = statement-sound (program_size p) (priorities p) known line t.value h.size t.is in
    let is : adds p t.value ≡ next.program = ap (λ (s : Seen). s.program) (ok_is (seen_as (stage_after t.value) (adds p t.value) (with_atoms known (statement_atoms t.value))) next t.goes) in
    rw is at (adds-sound p t.value n h k)
filled-sound Ended p known line next n h e = absurd cc

pub judge-sound : (seen : Seen) (line : List ℕ) (next : Seen) (n : ℕ) → AreSound seen.program n → judge_line seen line ≡ Ok next → AreSound next.program (suc n)
judge-sound seen line next n h e =
    choose (AreSound next.program (suc n)) (length (unblank line) == 0) (ok seen) (judge_filled seen.stage seen.program seen.known line) next e
    (λ k. more_lines seen.program next.program n (ap (λ (s : Seen). s.program) (ok_is seen next k)) h)
    (filled-sound seen.stage seen.program seen.known line next n h)

abbrev pub read : {A : Type 0} → A → Result A ReadError
read x = Ok x

pub read_is : {A : Type 0} (x y : A) → read x ≡ read y → x ≡ y
read_is x y e = cc

onto_is : (b : ℕ) (ps : List (List ℕ)) (n : ℕ) → length ps ≤ n → length (onto b ps) ≤ suc n
onto_is b [] n h = omega arith
onto_is b (p ∷ ps) n h = omega (arith, h)

pieces_are : (text : List ℕ) → length (pieces text) ≤ length text
pieces_are [] = omega arith
pieces_are (b ∷ bs) = elim (is_lf b) as (λ v. length (if v then [] ∷ pieces bs else onto b (pieces bs)) ≤ suc (length bs)) [
  | true ↦ omega (arith, pieces_are bs)
  | false ↦ onto_is b (pieces bs) (length bs) (pieces_are bs)
]

lines_are : (text : List ℕ) → length (lines_of text) ≤ length text
lines_are text = omega (arith, pieces_are text, length-map (pieces text) without_cr)

pub nothing_is_sound : AreSound empty_program 0
nothing_is_sound = record { rules = refl; minimize = refl; outputs = refl; externals = refl; assumptions = refl; size = omega arith; few = omega arith }

weighted_is_counted : (r : Rule) → weighted_count r.body ≤ rule_size r
weighted_is_counted r = elim r.body as (λ b. weighted_count b ≤ head_size r.head + body_size b) [ All ls ↦ omega arith | AtLeast bound items ↦ omega arith ]

has_room_is : {A : Type 0} (xs : List A) (n : ℕ) → length xs ≤ n → n ≤ most_bytes → has_room xs ≡ true
has_room_is xs n h k = le-leb (length xs) 268435456 (omega (arith, h, k))

pub sound_from : (p : Program) (n : ℕ) → n ≤ most_bytes → AreSound p n → IsSound p
sound_from p n few h = record {
  rules = h.rules;
  minimize = h.minimize;
  outputs = h.outputs;
  externals = h.externals;
  assumptions = h.assumptions;
  weighted = le-leb (weighted_total p) 16777216 (omega (arith, h.size, sum_by-le-sum_by (λ (r : Rule). weighted_count r.body) rule_size p.rules weighted_is_counted));
  room = and_from _ _ (and_from _ _
      (and_from _ _ (and_from _ _ (has_room_is p.rules n (omega (arith, h.few)) few) (has_room_is p.minimize n (omega (arith, h.few)) few))
      (has_room_is p.outputs n (omega (arith, h.few)) few)) (has_room_is p.externals n (omega (arith, h.few)) few))
      (has_room_is p.assumptions 16777216 (omega (arith, h.size)) (omega arith));
}

-- what was said at the end of an accepted text of so many lines
pub record AtEnd {S A : Type 0} (format : Format S A) (Holds : S → ℕ → Type 0) (x : A) : Type 0 where
  pub number : ℕ
  pub seen : S
  pub lines : ℕ
  pub few : lines ≤ most_bytes
  pub holds : Holds seen lines
  pub says : format.at_end number seen ≡ Ok x

-- what each line keeps holds at the end
module _ {S A : Type 0} (format : Format S A) (Holds : S → ℕ → Type 0) (begins : Holds format.start 0)
    (keeps : (seen : S) (line : List ℕ) (next : S) (n : ℕ) → Holds seen n → format.after_line seen line ≡ Ok next → Holds next (suc n)) where
  all-hold : (number : ℕ) (seen : S) (lines : List (List ℕ)) (end : S) (n : ℕ) → Holds seen n → judge_all format number seen lines ≡ Ok end → Holds end (n + length lines)
  unfolding judge_all
  all-hold number seen [] end n h e = rw (← read_is seen end e, add-zero) h
  all-hold number seen (line ∷ lines) end n h e =
      (elim (judge_by format seen line) as (λ v. judge_by format seen line ≡ v →
      judge_next number v (λ s. judge_all format (number + 1) s lines) ≡ read end → Holds end (n + suc (length lines))) [
        | Ok s ↦ λ is k. let m : n + suc (length lines) ≡ suc n + length lines = omega arith in
            rw m (all-hold (number + 1) s lines end (suc n) (keeps seen line s n h (told_ok line (format.after_line seen line) s is)) k)
        | Err f ↦ λ is k. absurd cc
      ]) refl e

  abbrev too_long : Result A ReadError
  too_long = Err TooLong

  not_read : (x : A) → too_long ≡ read x → ⊥
  not_read x e = cc

  pub accepted : (text : List ℕ) (x : A) → outcome_by format text ≡ Ok x → AtEnd format Holds x
  unfolding outcome_from
  accepted text x e = (elim (nat_le (length text) most_bytes) as (λ v. nat_le (length text) most_bytes ≡ v
      → (if v then (judge_all format 1 format.start (lines_of text) >>= λ end. format.at_end (0 + length (lines_of text) + 1) end)
      else (judge_all format 1 format.start (lines_of (whole (take most_bytes text))) >>= λ _. Err TooLong)) ≡ read x → AtEnd format Holds x) [
        | true ↦ λ short h.
            let t = step (judge_all format 1 format.start (lines_of text)) (λ end. format.at_end (0 + length (lines_of text) + 1) end) x h in
            record {
              number = 0 + length (lines_of text) + 1;
              seen = t.value;
              lines = 0 + length (lines_of text);
              few = omega (arith, lines_are text, leb-true (length text) most_bytes short);
              holds = all-hold 1 format.start (lines_of text) t.value 0 begins t.is;
              says = t.goes;
            }
        | false ↦ λ long h. let t = step (judge_all format 1 format.start (lines_of (whole (take most_bytes text)))) (λ _. too_long) x h in absurd (not_read x t.goes)
      ]) refl e

-- the program of an accepted text is sound, where each line keeps it sound
module _ {S : Type 0} (format : Format S Program) (program : S → Program) (begins : program format.start ≡ empty_program)
    (keeps : (seen : S) (line : List ℕ) (next : S) (n : ℕ) → AreSound (program seen) n → format.after_line seen line ≡ Ok next → AreSound (program next) (suc n))
    (ends : (number : ℕ) (seen : S) (p : Program) → format.at_end number seen ≡ Ok p → program seen ≡ p) where
  pub outcome_by-sound : (text : List ℕ) (p : Program) → outcome_by format text ≡ Ok p → IsSound p
  outcome_by-sound text p e =
      let nothing : AreSound (program format.start) 0 = rw begins nothing_is_sound in
      let t = accepted format (λ seen n. AreSound (program seen) n) nothing keeps text p e in
      let is : program t.seen ≡ p = ends t.number t.seen p t.says in
      rw is at (sound_from (program t.seen) t.lines t.few t.holds)

end_program : (number : ℕ) (stage : Stage) (q p : Program) → at_end number stage q ≡ read p → q ≡ p
end_program number Start q p e = absurd cc
end_program number Within q p e = absurd cc
end_program number Ended q p e = read_is q p e

-- the program of an accepted aspif text is sound
pub outcome-sound : (text : List ℕ) (p : Program) → outcome text ≡ Ok p → IsSound p
outcome-sound = outcome_by-sound aspif (λ seen. seen.program) refl judge-sound (λ number seen p e. end_program number seen.stage seen.program p e)
