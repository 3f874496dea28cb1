-- The program of a text with queries is sound, and is with each of them.
use Rattle.std.proofs.Common.{◌≡◌, ℕ, suc, ◌+◌, ◌≤◌, true, false, List, [], ◌∷◌, ◌++◌, length, length-append, Result, Ok, Err, refl, sym, ap, subst, ◌∙◌, arith}
use Rattle.std.specs.Prelude.{ℤ, if◌then◌else◌, nat_le, ◌==◌, IfOk}
use Rattle.std.specs.List.{list_all, AllByRecursion}
use Rattle.std.proofs.lemmas.Bool.{le-leb}
use Rattle.std.proofs.lemmas.Bool.Decides.{nat_tests}
use Rattle.asp_text.specs.Fields.{unblank, field_of, after_field, integer_of, num_of}
use Rattle.asp_model.specs.declared.program.Program.{Program}
use Rattle.asp_model.specs.Sets.{Atoms}
use Rattle.asp_model.specs.Sound.{is_literal, IsSound}
use Rattle.asp_read.specs.declared.fault.FaultKind.TheVariants as fault
use Rattle.asp_read.specs.declared.fault.ReadError.{ReadError}
use Rattle.asp_read.specs.declared.series.Series.{Series}
use Rattle.asp_read.specs.declared.statement.Statement.{Statement}
use Rattle.asp_read.specs.declared.statement.Statement.TheVariants as say
use Rattle.asp_read.specs.Fields.{◌>>=◌, literals_at, alone, ended, most_counted}
use Rattle.asp_read.specs.Judging.{most_bytes}
use Rattle.asp_read.specs.Outcome.{judge_line}
use Rattle.asp_read.specs.Places.{broken}
use Rattle.asp_read.specs.Queries.{Asked, asking, asks, end_of_queries, is_ended, IsSoundSeries, judge_asked, judge_program, judge_query, knows, most_queries, queries_size, query_at, query_line, series_outcome, unfinished, with_query}
use Rattle.asp_read.specs.Seen.{Seen}
use Rattle.asp_read.specs.Sizes.{program_size}
use Rattle.asp_read.specs.Statements.{is_number}
use Rattle.asp_read.specs.Stream.{ReadsText}
use Rattle.asp_read.proofs.Soundness.{accepted, all_append, alone_is, AreSound, choose, judge-sound, Listed, literals-sound, more_lines, nothing_is_sound, ok, ok_is, read, read_is, sound_from, step, unless}

-- ---- one line

-- what a line after the end says, after so many queries, where so much was counted
abbrev IsAsked : ℕ → ℕ → Statement → Type 0
IsAsked count used (say.Assume literals) = Listed is_literal used literals × (suc count ≤ most_queries)
IsAsked count used s = Unit {0}

one_more : (count : ℕ) → nat_le most_queries count ≡ false → suc count ≤ most_queries
one_more count e = grind (arith, nat_tests)

query-asked : (count used : ℕ) (known : Atoms) (line rest : List ℕ) (s : Statement) → query_at count used known line rest ≡ Ok s → IsAsked count used s
unfolding query_at
query-asked count used known line rest s e =
    let u = unless (nat_le most_queries count) (broken fault.Queries line) (literals_at used known rest >>= alone >>= λ literals. ok (say.Assume literals)) s e in
    let t = step (literals_at used known rest >>= alone) (λ literals. ok (say.Assume literals)) s u.1 in
    let a = alone_is (literals_at used known rest) t.value t.is in
    let l = literals-sound used known rest a.0 a.1 in
    let said : say.Assume a.0.0 ≡ s = ap say.Assume a.2 ∙ ok_is (say.Assume t.value) s t.goes in
    subst (IsAsked count used) said (l, one_more count u.0)

line-asked : (count used : ℕ) (known : Atoms) (line : List ℕ) (s : Statement) → query_line count used known line ≡ Ok s → IsAsked count used s
unfolding query_line
line-asked count used known line s e =
    let first = integer_of (field_of line) in
    let other = Err (broken (fault.Query (num_of first)) line) in
    let comment = if is_number 10 first then ok say.Comment else other in
    let query = if is_number 6 first then query_at count used known line (after_field line) else comment in
    choose (IsAsked count used s) (is_number 0 first) (alone (say.End, after_field line)) query s e
    (λ k. let t = step (ended (after_field line)) (λ _. ok say.End) s k in subst (IsAsked count used) (ok_is say.End s t.goes) tt)
    (λ k. choose (IsAsked count used s) (is_number 6 first) (query_at count used known line (after_field line)) comment s k
    (λ q. query-asked count used known line (after_field line) s q)
    (λ q. choose (IsAsked count used s) (is_number 10 first) (ok say.Comment) other s q (λ c. subst (IsAsked count used) (ok_is say.Comment s c) tt) (λ c. absurd cc)))

-- ---- all lines

all_weaker : {A : Type 0} (P Q : A → Type 0) (xs : List A) → ((x : A) → P x → Q x) → AllByRecursion P xs → AllByRecursion Q xs
all_weaker P Q [] f h = tt
all_weaker P Q (x ∷ xs) f h = (f x h.0, all_weaker P Q xs f h.1)

all_more : {A : Type 0} (P : A → Type 0) (xs : List A) (x : A) → AllByRecursion P xs → P x → AllByRecursion P (xs ++ x ∷ [])
all_more P [] x h k = (k, tt)
all_more P (y ∷ ys) x h k = (h.0, all_more P ys x h.1 k)

-- the program so far is sound with each query, after so many lines
record AreAsked (a : Asked) (lines : ℕ) : Type 0 where
  program : AreSound a.seen.program lines
  queries : AllByRecursion (λ query. AreSound (with_query a.seen.program query) lines) a.queries
  few : length a.queries ≤ most_queries
  before : is_ended a.seen.stage ≡ false → a.queries ≡ []

with-query-sound : (p : Program) (query : List ℤ) (n : ℕ) → AreSound p n → list_all is_literal query ≡ true → program_size p + length query ≤ most_counted → AreSound (with_query p query) n
with-query-sound p query n h k fits = record {
  rules = h.rules;
  minimize = h.minimize;
  outputs = h.outputs;
  externals = h.externals;
  assumptions = all_append is_literal p.assumptions query h.assumptions k;
  size = omega (arith, fits, length-append p.assumptions query);
  few = h.few;
}

later : (p : Program) (n : ℕ) (queries : List (List ℤ)) → AllByRecursion (λ query. AreSound (with_query p query) n) queries → AllByRecursion (λ query. AreSound (with_query p query) (suc n)) queries
later p n queries h = all_weaker (λ query. AreSound (with_query p query) n) (λ query. AreSound (with_query p query) (suc n)) queries
    (λ query k. more_lines (with_query p query) (with_query p query) n refl k) h

-- a line that says nothing more of program and queries
still : (a : Asked) (n : ℕ) → AreAsked a n → AreAsked a (suc n)
still a n h = record { program = more_lines a.seen.program a.seen.program n refl h.program; queries = later a.seen.program n a.queries h.queries; few = h.few; before = h.before }

abbrev counted : Asked → ℕ
counted a = program_size a.seen.program + queries_size a.queries

-- a line after the end
taken : (a : Asked) (s : Statement) (n : ℕ) → AreAsked a n → is_ended a.seen.stage ≡ true → IsAsked (length a.queries) (counted a) s → AreAsked (asks (knows a s) s) (suc n)
taken a (say.Assume literals) n h e k =
    let sound = with-query-sound a.seen.program literals n h.program k.0.sound (omega (arith, k.0.fits)) in
    record {
      program = more_lines a.seen.program a.seen.program n refl h.program;
      queries = all_more (λ query. AreSound (with_query a.seen.program query) (suc n)) a.queries literals (later a.seen.program n a.queries h.queries)
          (more_lines (with_query a.seen.program literals) (with_query a.seen.program literals) n refl sound);
      few = omega (arith, k.1, length-append a.queries (literals ∷ []));
      before = λ f. let both : true ≡ false = sym e ∙ f in absurd cc;
    }
taken a s n h e k = record { program = more_lines a.seen.program a.seen.program n refl h.program; queries = later a.seen.program n a.queries h.queries; few = h.few; before = h.before }

abbrev with_seen : Asked → Seen → Asked
with_seen a seen = record a { seen = seen }

-- a line of the program
grown : (a : Asked) (seen : Seen) (n : ℕ) → AreAsked a n → is_ended a.seen.stage ≡ false → AreSound seen.program (suc n) → AreAsked (with_seen a seen) (suc n)
grown a seen n h f k = record {
  program = k;
  queries = subst (AllByRecursion (λ query. AreSound (with_query seen.program query) (suc n))) (sym (h.before f)) tt;
  few = h.few;
  before = λ _. h.before f;
}

judged : (a : Asked) (line : List ℕ) (next : Asked) (n : ℕ) → AreAsked a n → judge_asked a line ≡ Ok next → AreAsked next (suc n)
judged a line next n h e =
    choose (AreAsked next (suc n)) (length (unblank line) == 0) (ok a) (if is_ended a.seen.stage then judge_query a line else judge_program a line) next e
    (λ k. subst (λ x. AreAsked x (suc n)) (ok_is a next k) (still a n h))
    (λ k. (elim (is_ended a.seen.stage) as (λ v. is_ended a.seen.stage ≡ v → (if v then judge_query a line else judge_program a line) ≡ ok next → AreAsked next (suc n)) [
      | true ↦ λ over j.
          let u = unless a.ended (broken fault.AfterEnd line) (query_line (length a.queries) (counted a) a.seen.known line >>= λ s. ok (asks (knows a s) s)) next j in
          let t = step (query_line (length a.queries) (counted a) a.seen.known line) (λ s. ok (asks (knows a s) s)) next u.1 in
          let k = line-asked (length a.queries) (counted a) a.seen.known line t.value t.is in
          subst (λ x. AreAsked x (suc n)) (ok_is (asks (knows a t.value) t.value) next t.goes) (taken a t.value n h over k)
      | false ↦ λ before j.
          let t = step (judge_line a.seen line) (λ seen. ok (with_seen a seen)) next j in
          let k = judge-sound a.seen line t.value n h.program t.is in
          subst (λ x. AreAsked x (suc n)) (ok_is (with_seen a t.value) next t.goes) (grown a t.value n h before k)
    ]) refl k)

-- ---- the end

abbrev series_of : Asked → Series
series_of a = record { program = a.seen.program; queries = a.queries }

end_is : (number : ℕ) (a : Asked) (s : Series) → end_of_queries number a ≡ Ok s → series_of a ≡ s
end_is number a s e = (elim a.ended as (λ v. (if v then read (series_of a) else Err (unfinished number a.seen.stage)) ≡ read s → series_of a ≡ s) [
  | true ↦ λ h. read_is (series_of a) s h
  | false ↦ λ h. absurd cc
]) e

sound_as : (a : Asked) (n : ℕ) → n ≤ most_bytes → AreAsked a n → IsSoundSeries (series_of a)
sound_as a n few h = record {
  program = sound_from a.seen.program n few h.program;
  queries = all_weaker (λ query. AreSound (with_query a.seen.program query) n) (λ query. IsSound (with_query a.seen.program query)) a.queries
      (λ query k. sound_from (with_query a.seen.program query) n few k) h.queries;
  few = le-leb (length a.queries) most_queries h.few;
}

-- the series of an accepted text is sound
pub series-sound : (text : List ℕ) (s : Series) → series_outcome text ≡ Ok s → IsSoundSeries s
series-sound text s e =
    let nothing : AreAsked asking.start 0 = record { program = nothing_is_sound; queries = tt; few = omega arith; before = λ _. refl } in
    let t = accepted asking AreAsked nothing judged text s e in
    subst IsSoundSeries (end_is t.number t.seen s t.says) (sound_as t.seen t.lines t.few t.holds)

pub sound_series : (result : Result Series ReadError) → (text : List ℕ) × ReadsText result (series_outcome text) → IfOk result IsSoundSeries
sound_series (Ok s) t = series-sound t.0 s t.1
sound_series (Err e) t = tt
