-- The outcome of a text, one line after the other.
use Rattle.std.proofs.Common.{◌≡◌, ℕ, ◌+◌, ◌<◌, Bool, true, false, List, [], ◌∷◌, ◌++◌, length, take, Option, Some, None, Result, Ok, Err, refl, sym, ap, subst, ◌∙◌, append_assoc, arith, add_comm, add-zero, zero-add, length-append}
use Rattle.std.specs.Prelude.{nat_le, if◌then◌else◌, map, ◌||◌, option_to_list}
use Rattle.std.specs.List.{list_any}
use Rattle.std.specs.Option.{option_map}
use Rattle.std.proofs.lemmas.List.{append-nil}
use Rattle.std.proofs.lemmas.Bool.{eqb-true}
use Rattle.std.proofs.lemmas.Bool.Decides.{nat_tests}
use Rattle.std.proofs.Math.Seq.{take-append-add, take-append_seam}
use Rattle.asp_text.specs.Lines.{is_lf, cut, onto, pieces, lines_of, whole, without_cr, first_line, after_line, last_line}
use Rattle.asp_text.specs.Unread.{Unread}
use Rattle.asp_read.specs.declared.fault.Fault.{Fault}
use Rattle.asp_read.specs.declared.fault.ReadError.{ReadError}
use Rattle.asp_read.specs.declared.fault.ReadError.TheVariants as errors
use Rattle.asp_read.specs.declared.fault.ReadError.TheVariants.{TooLong, Refused}
use Rattle.asp_read.specs.Stream.{FailsAs, ReadGives, outcome_on}
use Rattle.asp_read.specs.Fields.{◌>>=◌}
use Rattle.asp_read.specs.Judging.{Format, judge_by, judge_next, judge_all, outcome_from}

-- ---- cutting off a line

-- a text is its first line, a line feed and the rest
pub record Cut (text line rest : List ℕ) : Type 0 where
  pub parts : text ≡ line ++ 10 ∷ rest
  pub clear : list_any is_lf line ≡ false

pub Cut-append : (text line rest more : List ℕ) → Cut text line rest → Cut (text ++ more) line (rest ++ more)
Cut-append text line rest more c = record { parts = ap (λ (t : List ℕ). t ++ more) c.parts ∙ append_assoc line (10 ∷ rest) more; clear = c.clear }

or_false : (a b : Bool) → (a || b) ≡ false → (a ≡ false) × (b ≡ false)
or_false true b e = absurd cc
or_false false b e = (refl, e)

or_true : (a b : Bool) → b ≡ true → (a || b) ≡ true
or_true true b e = refl
or_true false b e = e

abbrev some : List ℕ × List ℕ → Option (List ℕ × List ℕ)
some x = Some x

abbrev onto_cut : ℕ → List ℕ × List ℕ → List ℕ × List ℕ
onto_cut b y = (b ∷ y.0, y.1)

some_pair : (x y : List ℕ × List ℕ) → some x ≡ some y → x ≡ y
some_pair x y e = cc

from_map : (b : ℕ) (o : Option (List ℕ × List ℕ)) (line rest : List ℕ) → Some (line, rest) ≡ option_map (onto_cut b) o → (y : List ℕ × List ℕ) × (Some y ≡ o) × (line ≡ b ∷ y.0) × (rest ≡ y.1)
from_map b None line rest e = absurd cc
from_map b (Some y) line rest e =
    let p = some_pair (line, rest) (onto_cut b y) e in
    (y, refl, ap (λ (x : List ℕ × List ℕ). x.0) p, ap (λ (x : List ℕ × List ℕ). x.1) p)

longer : (b : ℕ) (bs line rest l r : List ℕ) → is_lf b ≡ false → line ≡ b ∷ l → rest ≡ r → Cut bs l r → Cut (b ∷ bs) line rest
longer b bs line rest l r f e d c = rw (e, d) (record { parts = ap (λ (t : List ℕ). b ∷ t) c.parts; clear = rw (f, c.clear) refl })

pub cut_is : (text line rest : List ℕ) → Some (line, rest) ≡ cut text → Cut text line rest
cut_is [] line rest e = absurd cc
cut_is (b ∷ bs) line rest e = (elim (is_lf b) as (λ v. is_lf b ≡ v → Some (line, rest) ≡ (if v then Some ([], bs) else option_map (onto_cut b) (cut bs)) → Cut (b ∷ bs) line rest) [
  | true ↦ λ t h.
      let lf : b ≡ 10 = eqb-true b 10 t in
      let p = some_pair (line, rest) ([], bs) h in
      let none : line ≡ [] = ap (λ (x : List ℕ × List ℕ). x.0) p in
      let same : rest ≡ bs = ap (λ (x : List ℕ × List ℕ). x.1) p in
      rw (none, same, lf) (record { parts = refl; clear = refl })
  | false ↦ λ f h.
      let m = from_map b (cut bs) line rest h in
      longer b bs line rest m.0.0 m.0.1 f m.2 m.3 (cut_is bs m.0.0 m.0.1 m.1)
]) refl e

pub pieces_cut : (line rest : List ℕ) → list_any is_lf line ≡ false → pieces (line ++ 10 ∷ rest) ≡ line ∷ pieces rest
pieces_cut [] rest clear = refl
pieces_cut (b ∷ line) rest clear = let h = or_false (is_lf b) (list_any is_lf line) clear in rw (h.0, pieces_cut line rest h.1) refl

any_lf : (line rest : List ℕ) → list_any is_lf (line ++ 10 ∷ rest) ≡ true
any_lf [] rest = refl
any_lf (b ∷ line) rest = or_true (is_lf b) (list_any is_lf (line ++ 10 ∷ rest)) (any_lf line rest)

pub whole_cut : (line rest : List ℕ) → whole (line ++ 10 ∷ rest) ≡ line ++ 10 ∷ whole rest
whole_cut [] rest = refl
whole_cut (b ∷ line) rest = let t : (is_lf b || list_any is_lf (line ++ 10 ∷ rest)) ≡ true = any_lf (b ∷ line) rest in rw (t, whole_cut line rest) refl

pub lines_cut : (text line rest : List ℕ) → Cut text line rest → lines_of text ≡ without_cr line ∷ lines_of rest
lines_cut text line rest c = ap lines_of c.parts ∙ ap (map without_cr) (pieces_cut line rest c.clear)

pub lines_whole_cut : (text line rest : List ℕ) → Cut text line rest → lines_of (whole text) ≡ without_cr line ∷ lines_of (whole rest)
lines_whole_cut text line rest c = ap (λ (t : List ℕ). lines_of (whole t)) c.parts ∙ ap lines_of (whole_cut line rest) ∙ ap (map without_cr) (pieces_cut line (whole rest) c.clear)

pub length_cut : (text line rest : List ℕ) → Cut text line rest → length text ≡ length line + 1 + length rest
length_cut text line rest c = ap length c.parts ∙ omega (arith, length-append line (10 ∷ rest))

same_test : (a b c d : ℕ) → a + d ≡ c + b → nat_le a b ≡ nat_le c d
same_test a b c d e = grind (arith, nat_tests)

-- the bytes that may come of those behind a line
take_behind : (bytes line rest more : List ℕ) (room : ℕ) → Cut bytes line rest → Cut (take (room + length bytes) (bytes ++ more)) line (take (room + length rest) (rest ++ more))
take_behind bytes line rest more room c =
    let front : take (room + length bytes) (bytes ++ more) ≡ bytes ++ take room more = rw add_comm (take-append-add bytes more room) in
    let behind : take (room + length rest) (rest ++ more) ≡ rest ++ take room more = rw add_comm (take-append-add rest more room) in
    rw (front, behind) (Cut-append bytes line rest (take room more) c)

-- ---- the lines that a reader takes

abbrev some_line : List ℕ → Option (List ℕ)
some_line x = Some x

line_is : (x y : List ℕ) → some_line x ≡ some_line y → x ≡ y
line_is x y e = cc

-- what the first line is cut from
pub record Found (text line : List ℕ) : Type 0 where
  pub raw : List ℕ
  pub rest : List ℕ
  pub cut_off : Cut text raw rest
  pub trimmed : line ≡ without_cr raw
  pub left : after_line text ≡ rest

pub found : (text line : List ℕ) → Some line ≡ first_line text → Found text line
found text line e = (elim (cut text) as (λ o. o ≡ cut text → Some line ≡ option_map (λ (x : List ℕ × List ℕ). without_cr x.0) o → Found text line) [
  | None ↦ λ o h. absurd cc
  | Some x ↦ λ o h. record { raw = x.0; rest = x.1; cut_off = cut_is text x.0 x.1 o; trimmed = line_is line (without_cr x.0) h; left = rw (← o) refl }
]) refl e

pub shorter : (text line : List ℕ) → Some line ≡ first_line text → length (after_line text) < length text
shorter text line e = let f = found text line e in omega (arith, length_cut text f.raw f.rest f.cut_off, ap length f.left)

-- ---- the end, and a piece

from_none : (b : ℕ) (o : Option (List ℕ × List ℕ)) → option_map (onto_cut b) o ≡ None → o ≡ None
from_none b None e = refl
from_none b (Some y) e = absurd cc

clear_none : (b : ℕ) (bs : List ℕ) → cut (b ∷ bs) ≡ None → (is_lf b ≡ false) × (cut bs ≡ None)
clear_none b bs e = (elim (is_lf b) as (λ v. (if v then Some ([], bs) else option_map (onto_cut b) (cut bs)) ≡ None → (v ≡ false) × (cut bs ≡ None)) [
  | true ↦ λ h. absurd cc
  | false ↦ λ h. (refl, from_none b (cut bs) h)
]) e

pieces_none : (b : ℕ) (bs : List ℕ) → cut (b ∷ bs) ≡ None → pieces (b ∷ bs) ≡ (b ∷ bs) ∷ []
pieces_none b [] e = rw (clear_none b [] e).0 refl
pieces_none b (c ∷ bs) e = let h = clear_none b (c ∷ bs) e in rw (h.0) (ap (onto b) (pieces_none c bs h.1))

lines_none : (bytes : List ℕ) → cut bytes ≡ None → lines_of bytes ≡ option_to_list (last_line bytes)
lines_none [] e = refl
lines_none (b ∷ bs) e = ap (map without_cr) (pieces_none b bs e)

any_none : (bytes : List ℕ) → cut bytes ≡ None → list_any is_lf bytes ≡ false
any_none [] e = refl
any_none (b ∷ bs) e = let h = clear_none b bs e in rw (h.0) (any_none bs h.1)

whole_none : (bytes : List ℕ) → cut bytes ≡ None → whole bytes ≡ []
whole_none [] e = refl
whole_none (b ∷ bs) e = rw (any_none (b ∷ bs) e) refl

pub gives_itself : {A : Type 0} (r : Result A ReadError) → ReadGives r r
gives_itself (Ok x) = refl
gives_itself (Err errors.Memory) = tt
gives_itself (Err errors.ReadFault) = refl
gives_itself (Err errors.TooLong) = refl
gives_itself (Err (errors.Refused f n)) = refl

fits : (bytes : List ℕ) (room : ℕ) → nat_le (length (bytes ++ [])) (room + length bytes) ≡ true
fits bytes room = grind (arith, nat_tests, length-append bytes [])

pub beyond : (bytes rest : List ℕ) → 0 < length rest → nat_le (length (bytes ++ rest)) (0 + length bytes) ≡ false
beyond bytes rest lt = grind (arith, nat_tests, length-append bytes rest)

module _ {S R : Type 0} (format : Format S R) where
  -- ---- the outcome behind a line

  step_whole : (number : ℕ) (r : Result S Fault) (lines : List (List ℕ)) → (judge_next number r (λ s. judge_all format (number + 1) s lines) >>= λ e. format.at_end (number + length lines + 1) e)
      ≡ judge_next number r (λ s. judge_all format (number + 1) s lines >>= λ e. format.at_end (number + length lines + 1) e)
  step_whole number (Ok s) lines = refl
  step_whole number (Err f) lines = refl

  step_part : (number : ℕ) (r : Result S Fault) (lines : List (List ℕ)) (after : Result R ReadError) → (judge_next number r (λ s. judge_all format (number + 1) s lines) >>= λ _. after)
      ≡ judge_next number r (λ s. judge_all format (number + 1) s lines >>= λ _. after)
  step_part number (Ok s) lines after = refl
  step_part number (Err f) lines after = refl

  behind : (v : Bool) (n : ℕ) (seen : S) (line : List ℕ) (lines some_lines : List (List ℕ))
      → (if v then (judge_all format (n + 1) seen (line ∷ lines) >>= λ e. format.at_end (n + length (line ∷ lines) + 1) e)
      else (judge_all format (n + 1) seen (line ∷ some_lines) >>= λ _. Err TooLong))
      ≡ judge_next (n + 1) (judge_by format seen line) (λ s. if v
      then (judge_all format (n + 1 + 1) s lines >>= λ e. format.at_end (n + 1 + length lines + 1) e)
      else (judge_all format (n + 1 + 1) s some_lines >>= λ _. Err TooLong))
  unfolding judge_all
  behind true n seen line lines some_lines =
      let k : n + length (line ∷ lines) + 1 ≡ n + 1 + length lines + 1 = omega arith in
      rw k (step_whole (n + 1) (judge_by format seen line) lines)
  behind false n seen line lines some_lines = step_part (n + 1) (judge_by format seen line) some_lines (Err TooLong)

  -- the outcome is that of what follows the first line, after that line
  pub one_line : (bytes line rest more : List ℕ) (room number : ℕ) (seen : S) → Cut bytes line rest
      → outcome_from format (room + length bytes) number seen (bytes ++ more) ≡ judge_next (number + 1) (judge_by format seen (without_cr line))
      (λ s. outcome_from format (room + length rest) (number + 1) s (rest ++ more))
  unfolding outcome_from
  one_line bytes line rest more room number seen c =
      let t : nat_le (length (bytes ++ more)) (room + length bytes) ≡ nat_le (length (rest ++ more)) (room + length rest) =
      same_test _ _ _ _ (omega (arith, length-append bytes more, length-append rest more)) in
      let l : lines_of (bytes ++ more) ≡ without_cr line ∷ lines_of (rest ++ more) = lines_cut (bytes ++ more) line (rest ++ more) (Cut-append bytes line rest more c) in
      let w : lines_of (whole (take (room + length bytes) (bytes ++ more))) ≡ without_cr line ∷ lines_of
      (whole (take (room + length rest) (rest ++ more))) = lines_whole_cut _ line _ (take_behind bytes line rest more room c) in
      rw (t, l, w) (behind (nat_le (length (rest ++ more)) (room + length rest)) number seen (without_cr line) (lines_of (rest ++ more)) (lines_of (whole (take (room + length rest) (rest ++ more)))))

  abbrev failed : ReadError → Result S ReadError
  failed e = Err e

  refusal_is : (d e : ReadError) → failed d ≡ failed e → d ≡ e
  refusal_is d e h = cc

  fails_on : {A : Type 0} (e : ReadError) (n : ℕ) (r : Result S Fault) (go : S → Result A ReadError) → FailsAs e (judge_next n r (λ s. Ok s)) → FailsAs e (judge_next n r go)
  fails_on errors.Memory n r go h = tt
  fails_on errors.ReadFault n (Ok s) go h = absurd cc
  fails_on errors.ReadFault n (Err f) go h = absurd cc
  fails_on errors.TooLong n (Ok s) go h = absurd cc
  fails_on errors.TooLong n (Err f) go h = absurd cc
  fails_on (errors.Refused f n') n (Ok s) go h = absurd cc
  fails_on (errors.Refused f n') n (Err g) go h = ap Err (refusal_is (Refused g n) (Refused f n') h)

  goes : {A : Type 0} (n : ℕ) (r : Result S Fault) (s : S) (go : S → Result A ReadError) → judge_next n r (λ s. Ok s) ≡ Ok s → judge_next n r go ≡ go s
  goes n (Ok s') s go e = ap go cc
  goes n (Err f) s go e = absurd cc

  at_cut : (old : Unread) (reader : S) (n : ℕ) (line raw rest left : List ℕ) (room : ℕ) (more : List ℕ) → Cut old.bytes raw rest → n ≡ old.given + 1 → line ≡ without_cr raw → left ≡ rest
      → outcome_on format old reader room more ≡ judge_next n (judge_by format reader line) (λ s. outcome_from format (room + length left) n s (left ++ more))
  at_cut old reader n line raw rest left room more c n-is line-is left-is = rw (n-is, line-is, left-is) (one_line old.bytes raw rest more room old.given reader c)

  -- the line's outcome, at the values that the reader has
  pub at_line : (old : Unread) (reader : S) (n : ℕ) (line : List ℕ) (room : ℕ) (more : List ℕ) → Some line ≡ first_line old.bytes → n ≡ old.given + 1
      → outcome_on format old reader room more ≡ judge_next n (judge_by format reader line) (λ s. outcome_from format (room + length (after_line old.bytes)) n s (after_line old.bytes ++ more))
  at_line old reader n line room more e n-is =
      let f = found old.bytes line e in
      at_cut old reader n line f.raw f.rest (after_line old.bytes) room more f.cut_off n-is f.trimmed f.left

  pub line_step : (old new : Unread) (reader r : S) (n : ℕ) (line : List ℕ) → Some line ≡ first_line old.bytes →
      new ≡ record old { bytes = after_line old.bytes; given = old.given + 1 } → n ≡ old.given + 1
      → judge_next n (judge_by format reader line) (λ s. Ok s) ≡ Ok r → (room : ℕ) (more : List ℕ) → outcome_on format new r room more ≡ outcome_on format old reader room more
  line_step old new reader r n line e new-is n-is judged room more =
      sym (at_line old reader n line room more e n-is ∙ goes n (judge_by format reader line) r _ judged ∙ rw (new-is, n-is) refl)

  pub line_fails : (old : Unread) (reader : S) (e : ReadError) (n : ℕ) (line : List ℕ) → Some line ≡ first_line old.bytes → n ≡ old.given + 1
      → FailsAs e (judge_next n (judge_by format reader line) (λ s. Ok s)) → (room : ℕ) (more : List ℕ) → FailsAs e (outcome_on format old reader room more)
  line_fails old reader e n line h n-is fails room more =
      subst (λ (o : Result R ReadError). FailsAs e o) (sym (at_line old reader n line room more h n-is)) (fails_on e n (judge_by format reader line) _ fails)

  pub fed : (bytes piece rest : List ℕ) (room number : ℕ) (seen : S) →
      outcome_from format (room + length (bytes ++ piece)) number seen ((bytes ++ piece) ++ rest) ≡ outcome_from format
      (room + length piece + length bytes) number seen (bytes ++ (piece ++ rest))
  fed bytes piece rest room number seen =
      let k : room + length (bytes ++ piece) ≡ room + length piece + length bytes = omega (arith, length-append bytes piece) in
      rw (k, append_assoc bytes piece rest) refl

  pub fed_on : (old new : Unread) (piece : List ℕ) (more : ℕ) (reader : S) → new ≡ record old { bytes = old.bytes ++ piece; fed = more } → (room : ℕ) (rest : List ℕ)
      → outcome_on format new reader room rest ≡ outcome_on format old reader (room + length piece) (piece ++ rest)
  fed_on old new piece more reader e room rest = rw e (fed old.bytes piece rest room old.given reader)

  at_last : (bytes : List ℕ) (room number : ℕ) (seen : S) → cut bytes ≡ None
      → outcome_from format (room + length bytes) number seen (bytes ++ []) ≡
      (judge_all format (number + 1) seen (option_to_list (last_line bytes)) >>= λ e. format.at_end
      (number + length (option_to_list (last_line bytes)) + 1) e)
  unfolding outcome_from
  at_last bytes room number seen none = rw (fits bytes room, append-nil bytes, lines_none bytes none) refl

  last_is : (o : Option (List ℕ)) (line : List ℕ) (number n : ℕ) (seen : S) → Some line ≡ o → n ≡ number + 1
      → (judge_all format (number + 1) seen (option_to_list o) >>= λ e. format.at_end (number + length (option_to_list o) + 1) e) ≡ judge_next n
      (judge_by format seen line) (λ s. format.at_end (n + 1) s)
  unfolding judge_all
  last_is o line number n seen e n-is = rw (← e, n-is) (simp add-zero at (step_whole (number + 1) (judge_by format seen line) []))

  no_last : (o : Option (List ℕ)) (number : ℕ) (seen : S) → None ≡ o
      → (judge_all format (number + 1) seen (option_to_list o) >>= λ e. format.at_end (number + length (option_to_list o) + 1) e) ≡ format.at_end (number + 1) seen
  unfolding judge_all
  no_last o number seen e = rw (← e, add-zero) refl

  pub last_line_ends : (old : Unread) (reader r : S) (n room : ℕ) (line : List ℕ) → cut old.bytes ≡ None → Some line ≡ last_line old.bytes →
      n ≡ old.given + 1 → judge_next n (judge_by format reader line) (λ s. Ok s) ≡ Ok r
      → outcome_on format old reader room [] ≡ format.at_end (n + 1) r
  last_line_ends old reader r n room line none e n-is judged =
      at_last old.bytes room old.given reader none ∙ last_is (last_line old.bytes) line old.given n reader e n-is
      ∙ goes n (judge_by format reader line) r _ judged

  pub last_line_fails : (old : Unread) (reader : S) (e : ReadError) (n room : ℕ) (line : List ℕ) → cut old.bytes ≡ None →
      Some line ≡ last_line old.bytes → n ≡ old.given + 1 → FailsAs e (judge_next n (judge_by format reader line) (λ s. Ok s))
      → FailsAs e (outcome_on format old reader room [])
  last_line_fails old reader e n room line none h n-is fails =
      subst (λ (o : Result R ReadError). FailsAs e o)
      (sym (at_last old.bytes room old.given reader none ∙ last_is (last_line old.bytes) line old.given n reader h n-is))
      (fails_on e n (judge_by format reader line) _ fails)

  pub no_last_line : (old : Unread) (reader : S) (room : ℕ) → cut old.bytes ≡ None → None ≡ last_line old.bytes → outcome_on format old reader room [] ≡ format.at_end (old.given + 1) reader
  no_last_line old reader room none e = at_last old.bytes room old.given reader none ∙ no_last (last_line old.bytes) old.given reader e

  pub too_long : (old : Unread) (reader : S) (rest : List ℕ) → cut old.bytes ≡ None → 0 < length rest → outcome_on format old reader 0 rest ≡ Err TooLong
  unfolding outcome_from judge_all
  too_long old reader rest none lt =
      let front : take (0 + length old.bytes) (old.bytes ++ rest) ≡ old.bytes = rw zero-add (take-append_seam old.bytes rest) in
      rw (beyond old.bytes rest lt, front, whole_none old.bytes none) refl
