-- Where the first line of a text ends.
use Rattle.std.proofs.Common.{◌≡◌, ℕ, zero, suc, ◌+◌, ◌-◌, ◌<◌, ◌≤◌, Bool, true, false, cond, ltb, List, [], ◌∷◌, ◌++◌, length, take, drop, Some, None, refl, sym, ap, ◌∙◌, arith, length-drop, length-append, zero-add, add-zero, inl, inr}
use Rattle.std.specs.Prelude.{not, if◌then◌else◌, ◌||◌, count_by, unwrap_or}
use Rattle.std.specs.declared.option.Option.{Option}
use Rattle.std.specs.List.{position, position_or_len, list_any}
use Rattle.std.specs.Option.{option_map}
use Rattle.std.proofs.lemmas.List.{take_all, drop-append-le}
use Rattle.std.proofs.lemmas.List.Sums.{sum_by-append}
use Rattle.std.proofs.lemmas.Bool.{cases_lt, le-ltb, lt-ltb}
use Rattle.asp_text.specs.Lines.{is_lf, cut, tail, without_cr, first_line, after_line}
use Rattle.asp_text.specs.Held.{IsHeld}
use Rattle.asp_text.specs.Unread.{Unread, most_bytes}

abbrev at : List ℕ → ℕ
at xs = position_or_len is_lf xs

pub at_le : (xs : List ℕ) → position_or_len is_lf xs ≤ length xs
at_le [] = omega arith
at_le (x ∷ xs) = elim (is_lf x) as (λ v. cond (not v) (1 + at xs) 0 ≤ suc (length xs)) [ true ↦ omega arith | false ↦ omega (arith, at_le xs) ]

abbrev onto_cut : ℕ → List ℕ × List ℕ → List ℕ × List ℕ
onto_cut x y = (x ∷ y.0, y.1)

pub cut_none : (xs : List ℕ) → length xs ≤ position_or_len is_lf xs → cut xs ≡ None
cut_none [] le = refl
cut_none (x ∷ xs) le = (elim (is_lf x) as (λ v. suc (length xs) ≤ cond (not v) (1 + at xs) 0 → (if v then Some ([], xs) else option_map (onto_cut x) (cut xs)) ≡ None) [
  | true ↦ λ h. absurd (omega arith)
  | false ↦ λ h. ap (option_map (onto_cut x)) (cut_none xs (omega arith))
]) le

pub cut_some : (xs : List ℕ) → position_or_len is_lf xs < length xs → cut xs ≡ Some (take (position_or_len is_lf xs) xs, drop (position_or_len is_lf xs + 1) xs)
cut_some [] lt = absurd (omega arith)
cut_some (x ∷ xs) lt = (elim (is_lf x) as (λ v. cond (not v) (1 + at xs) 0 < suc (length xs) →
    (if v then Some ([], xs) else option_map (onto_cut x) (cut xs)) ≡ Some
    (take (cond (not v) (1 + at xs) 0) (x ∷ xs), drop (cond (not v) (1 + at xs) 0 + 1) (x ∷ xs))) [
      | true ↦ λ h. refl
      | false ↦ λ h.
          let e : 1 + at xs ≡ suc (at xs) = omega arith in
          let f : suc (at xs) + 1 ≡ suc (at xs + 1) = omega arith in
          rw (e, f) (ap (option_map (onto_cut x)) (cut_some xs (omega arith)))
    ]) lt

pub from : (xs : List ℕ) (n : ℕ) → n ≤ position_or_len is_lf xs → position_or_len is_lf xs ≡ n + position_or_len is_lf (drop n xs)
from xs zero le = sym (zero-add (at xs))
from [] (suc n) le = absurd (omega arith)
from (x ∷ xs) (suc n) le = (elim (is_lf x) as (λ v. suc n ≤ cond (not v) (1 + at xs) 0 → cond (not v) (1 + at xs) 0 ≡ suc n + at (drop n xs)) [
  | true ↦ λ h. absurd (omega arith)
  | false ↦ λ h. omega (arith, from xs n (omega arith))
]) le

unread_is : (text : List ℕ) (clear : ℕ) → take (length text - clear) (drop clear text) ≡ drop clear text
unread_is text clear = take_all (length text - clear) (drop clear text) (omega (arith, length-drop clear text))

none_at : (xs : List ℕ) → None ≡ position is_lf xs → length xs ≤ position_or_len is_lf xs
none_at xs e = elim (cases_lt (at xs) (length xs)) [
  | inl lt ↦ let t : ltb (at xs) (length xs) ≡ true = lt-ltb _ _ lt in let f : position is_lf xs ≡ Some (at xs) = rw t refl in absurd (cc (e, f))
  | inr le ↦ le
]

some_at : (xs : List ℕ) (n : ℕ) → Some n ≡ position is_lf xs → (n ≡ position_or_len is_lf xs) × (position_or_len is_lf xs < length xs)
some_at xs n e = elim (cases_lt (at xs) (length xs)) [
  | inl lt ↦ let t : ltb (at xs) (length xs) ≡ true = lt-ltb _ _ lt in let f : position is_lf xs ≡ Some (at xs) = rw t refl in (cc (e, f), lt)
  | inr le ↦ let t : ltb (at xs) (length xs) ≡ false = le-ltb _ _ le in let f : position is_lf xs ≡ None = rw t refl in absurd (cc (e, f))
]

-- what the search from `clear` on finds
pub found_none : (text : List ℕ) (clear : ℕ) → clear ≤ position_or_len is_lf text → None ≡ position is_lf (take (length text - clear) (drop clear text)) → cut text ≡ None
found_none text clear le e =
    let h = none_at (drop clear text) (e ∙ ap (position is_lf) (unread_is text clear)) in
    cut_none text (omega (arith, h, from text clear le, length-drop clear text))

pub found_some : (text : List ℕ) (clear n : ℕ) → clear ≤ position_or_len is_lf text →
    Some n ≡ position is_lf (take (length text - clear) (drop clear text)) → (clear + n ≡ position_or_len is_lf text) ×
    (position_or_len is_lf text < length text)
found_some text clear n le e =
    let h = some_at (drop clear text) n (e ∙ ap (position is_lf) (unread_is text clear)) in
    (omega (arith, h.0, from text clear le), omega (arith, h.1, from text clear le, length-drop clear text))

pub cut_at : (text : List ℕ) (clear n : ℕ) → clear ≤ position_or_len is_lf text →
    Some n ≡ position is_lf (take (length text - clear) (drop clear text)) → Some (take (clear + n) text, drop (clear + n + 1) text) ≡ cut text
cut_at text clear n le e =
    let h = found_some text clear n le e in
    rw h.0 (sym (cut_some text h.1))

pub none_left : (text : List ℕ) → None ≡ cut text → length text ≤ position_or_len is_lf text
none_left text e = elim (cases_lt (at text) (length text)) [
  | inl lt ↦ let f = cut_some text lt in absurd (cc (e, f))
  | inr le ↦ le
]

-- more text moves no line feed
pub at_append : (xs ys : List ℕ) → position_or_len is_lf xs ≤ position_or_len is_lf (xs ++ ys)
at_append [] ys = omega arith
at_append (x ∷ xs) ys = elim (is_lf x) as (λ v. cond (not v) (1 + at xs) 0 ≤ cond (not v) (1 + at (xs ++ ys)) 0) [ true ↦ omega arith | false ↦ omega (arith, at_append xs ys) ]

pub held_none : (held : List ℕ) (start clear given fed n : ℕ) → IsHeld held start clear given fed → n ≡ length held →
    None ≡ cut (take (length held - start) (drop start held)) → IsHeld held start (n - start) given fed
held_none held start clear given fed n h e none =
    let left = none_left (drop start held) (none ∙ ap cut (unread_is held start)) in
    record { start_in = h.start_in; clear_in = omega (arith, left, length-drop start held); counted = h.counted; bounded = h.bounded }

-- one more piece at the end of what is held
pub held_more : (held piece now : List ℕ) (start clear given fed : ℕ) → IsHeld held start clear given fed → now ≡ held ++ piece →
    fed + length piece ≤ most_bytes → IsHeld now start clear given (fed + length piece)
held_more held piece now start clear given fed h e few =
    let rest : drop start (held ++ piece) ≡ drop start held ++ piece = drop-append-le start held piece h.start_in in
    rw e (record {
      start_in = omega (arith, h.start_in, length-append held piece);
      clear_in = rw rest (omega (arith, h.clear_in, at_append (drop start held) piece));
      counted = rw rest (omega (arith, h.counted, length-append (drop start held) piece));
      bounded = few;
    })

-- ---- what follows the last line feed, and how many there are

from_none : (b : ℕ) (o : Option (List ℕ × List ℕ)) → option_map (onto_cut b) o ≡ None → o ≡ None
from_none b None e = refl
from_none b (Some y) e = absurd cc

abbrev some : List ℕ × List ℕ → Option (List ℕ × List ℕ)
some x = Some x

some_is : (x y : List ℕ × List ℕ) → some x ≡ some y → x ≡ y
some_is x y e = cc

from_some : (b : ℕ) (o : Option (List ℕ × List ℕ)) (x : List ℕ × List ℕ) → option_map (onto_cut b) o ≡ some x → (y : List ℕ × List ℕ) × (o ≡ some y) × (y.1 ≡ x.1)
from_some b None x e = absurd cc
from_some b (Some y) x e = (y, refl, ap (λ (z : List ℕ × List ℕ). z.1) (some_is (onto_cut b y) x e))

count_first : (x : ℕ) (xs : List ℕ) → count_by is_lf (x ∷ xs) ≡ cond (is_lf x) 1 0 + count_by is_lf xs
count_first x xs = omega (arith, sum_by-append (λ (y : ℕ). cond (is_lf y) 1 0) (x ∷ []) xs)

no_lf : (xs : List ℕ) → cut xs ≡ None → (list_any is_lf xs ≡ false) × (count_by is_lf xs ≡ 0)
no_lf [] e = (refl, refl)
no_lf (x ∷ xs) e = rw count_first ((elim (is_lf x) as
    (λ v. (if v then Some ([], xs) else option_map (onto_cut x) (cut xs)) ≡ None → ((v || list_any is_lf xs) ≡ false) ×
    (cond v 1 0 + count_by is_lf xs ≡ 0)) [
      | true ↦ λ h. absurd cc
      | false ↦ λ h. let n = no_lf xs (from_none x (cut xs) h) in (n.0, omega (arith, n.1))
    ]) e)

-- where no line feed is left
pub tail_none : (xs : List ℕ) → cut xs ≡ None → (tail xs ≡ xs) × (count_by is_lf xs ≡ 0)
tail_none [] e = (refl, refl)
tail_none (x ∷ xs) e = let h = no_lf (x ∷ xs) e in (rw h.0 refl, h.1)

-- behind the first one there is one less
pub record Passes (text rest : List ℕ) : Type 0 where
  pub any : list_any is_lf text ≡ true
  pub same : tail text ≡ tail rest
  pub counted : count_by is_lf text ≡ suc (count_by is_lf rest)
  pub shorter : length rest < length text

abbrev PassesAt : (any : Bool) (text later : List ℕ) (count size : ℕ) (rest : List ℕ) → Type 0
PassesAt any text later count size rest = (any ≡ true) × ((if any then later else text) ≡ tail rest) × (count ≡ suc (count_by is_lf rest)) × (length rest < size)

pub tail_some : (xs : List ℕ) (x : List ℕ × List ℕ) → cut xs ≡ some x → Passes xs x.1
tail_some [] x e = absurd cc
tail_some (b ∷ bs) x e =
    let p = (elim (is_lf b) as (λ v. (if v then Some ([], bs) else option_map (onto_cut b) (cut bs)) ≡ some x →
    PassesAt (v || list_any is_lf bs) (b ∷ bs) (tail bs) (cond v 1 0 + count_by is_lf bs) (suc (length bs)) x.1) [
      | true ↦ λ h.
          let q : some ([], bs) ≡ some x = h in
          let p : bs ≡ x.1 = ap (λ (z : List ℕ × List ℕ). z.1) (some_is ([], bs) x q) in
          (refl, ap tail p, omega (arith, ap (count_by is_lf) p), omega (arith, ap length p))
      | false ↦ λ h.
          let m = from_some b (cut bs) x h in
          let t = tail_some bs m.0 m.1 in
          (t.any, rw t.any (t.same ∙ ap tail m.2), omega (arith, t.counted, ap (count_by is_lf) m.2), omega (arith, t.shorter, ap length m.2))
    ]) e in
    record { any = p.0; same = p.1; counted = count_first b bs ∙ p.2; shorter = p.3 }

-- a line that was taken
pub passed : (text line : List ℕ) → Some line ≡ first_line text → Passes text (after_line text)
passed text line e = (elim (cut text) as (λ o. cut text ≡ o → Some line ≡ option_map (λ (x : List ℕ × List ℕ). without_cr x.0) o →
    Passes text (unwrap_or (option_map (λ (x : List ℕ × List ℕ). x.1) o) text)) [
      | None ↦ λ o h. absurd cc
      | Some x ↦ λ o h. tail_some text x o
    ]) refl e

pub none_passed : (text : List ℕ) → None ≡ first_line text → (cut text ≡ None) × (after_line text ≡ text)
none_passed text e = (elim (cut text) as (λ o. None ≡ option_map (λ (x : List ℕ × List ℕ). without_cr x.0) o → (o ≡ None) × (unwrap_or (option_map (λ (x : List ℕ × List ℕ). x.1) o) text ≡ text)) [
  | None ↦ λ h. (refl, refl)
  | Some x ↦ λ h. absurd cc
]) e

pub all_passed : (new old first : Unread) → None ≡ first_line old.bytes → new ≡ record old { bytes = after_line old.bytes } →
    tail old.bytes ≡ tail first.bytes → old.given + count_by is_lf old.bytes ≡ first.given + count_by is_lf first.bytes → old.fed ≡ first.fed
    → new ≡ record { bytes = tail first.bytes; given = first.given + count_by is_lf first.bytes; fed = first.fed }
all_passed new old first none e same counted fed =
    let n = none_passed old.bytes none in
    let t = tail_none old.bytes n.0 in
    rw (e, n.1, ← same, ← counted, ← fed, t.0, t.1, add-zero) refl
