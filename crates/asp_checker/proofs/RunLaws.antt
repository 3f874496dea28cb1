-- What is said of texts, step by step.
use Rattle.std.proofs.Common.{◌≡◌, ℕ, suc, ◌+◌, ◌<◌, ◌≤◌, Bool, true, false, cond, ◌&&◌, ◌==◌, List, [], ◌∷◌, ◌++◌, codes, length, take, drop, inl, inr, refl, sym, ap, ◌∙◌, subst, arith, append_assoc, length-append, Option, Some, None, Result, Ok, Err}
use Rattle.std.specs.Prelude.{OnOk, OnErr}
use Rattle.std.specs.Io.KnownBytes.{Appends, Keeps}
use Rattle.std.proofs.lemmas.List.{length-take-le, take-append-drop, take_all}
use Rattle.std.proofs.Math.Seq.{take-append_seam, drop-append_seam}
use Rattle.std.proofs.lemmas.Bool.{ne_eqb}
use Rattle.std.proofs.lemmas.Bool.Decides.{Decides-eqb}
use Rattle.std.proofs.lemmas.Slice.Eq.{starts_is}
use Rattle.asp_model.specs.declared.program.Program.{Program}
use Rattle.asp_read.specs.declared.fault.ReadError.{ReadError}
use Rattle.asp_read.specs.declared.fault.ReadError.TheVariants as read
use Rattle.asp_io.specs.Causes.{Rose, AppendsFront, HasCause}
use Rattle.asp_read.specs.Stream.{ReadsText}
use Rattle.asp_proof.specs.declared.error.ProofError.TheVariants as proof
use Rattle.asp_proof.specs.Grammar.{IsUnbroken, most_bytes}
use Rattle.asp_proof.specs.Reading.{Comes, HasLongLine, IsNextLine, Moves, Window, held}
use Rattle.asp_proof.proofs.WalkLaws.{first_line, head_unbroken, left_lacks}
use Rattle.asp_proof.proofs.ReaderLaws.{moves_as, moves_then}
use Rattle.asp_proof.proofs.StreamLaws.{comes_any, comes_back, comes_end, comes_front, comes_so, long_behind, moves_more}
use Rattle.asp_checker.specs.declared.judge.Judgement.{Judgement}
use Rattle.asp_checker.specs.declared.judge.Judgement.TheVariants as judgement
use Rattle.asp_checker.specs.declared.error.CheckError.{CheckError}
use Rattle.asp_checker.specs.declared.error.CheckError.TheVariants as error
use Rattle.asp_checker.specs.declared.run.CheckStatus.{CheckStatus}
use Rattle.asp_checker.specs.declared.run.CheckStatus.TheVariants as status
use Rattle.asp_checker.specs.declared.run.Format.{Format}
use Rattle.asp_checker.specs.Errors.{program_error, read_fault}
use Rattle.asp_checker.specs.Formats.{outcome_for}
use Rattle.asp_checker.specs.Streams.{FailsOn, Judges, StepsTo}
use Rattle.asp_checker.specs.Runs.{AddsLine, FindsProof, InputSays, IsSentOn, RunSays, TextSays, TextsSay, Writes, is_proof_line, place_from, program_part, proof_part, proof_place, said, status_of, status_said}

-- ---- the program and the proof
pub program_judged : (format : Format) (program text : List ℕ) (p : Program) (r : Result Judgement CheckError) → outcome_for format program ≡ Ok p → Judges p text r → TextsSay format program text r
program_judged format program text p (Ok j) reads h = (p, reads, h)
program_judged format program text p (Err error.Memory) reads h = tt
program_judged format program text p (Err error.NoProof) reads h = absurd h
program_judged format program text p (Err (error.Program e)) reads h = absurd h
program_judged format program text p (Err (error.Proof proof.Memory)) reads h = absurd h
program_judged format program text p (Err (error.Proof proof.ReadFault)) reads h = tt
program_judged format program text p (Err (error.Proof proof.TooLong)) reads h = h
program_judged format program text p (Err (error.Proof (proof.Refused number))) reads h = (p, reads, h)

pub program_refused : (format : Format) (program text : List ℕ) (e : ReadError) → (e ≡ read.ReadFault → ⊥) →
    ReadsText (Err e) (outcome_for format program) → TextsSay format program text (Err (program_error e))
program_refused format program text read.Memory never h = tt
program_refused format program text read.ReadFault never h = absurd (never refl)
program_refused format program text read.TooLong never h = h
program_refused format program text (read.Refused f n) never h = h

pub never_rose : Rose 0 0 → ⊥
never_rose h = omega arith

-- ---- the place of the proof
place_here : (s : Bool) (xs : List ℕ) → (s && is_proof_line xs) ≡ true → place_from s xs ≡ 0
place_here s [] e = refl
place_here s (b ∷ xs) e = ap (λ t. cond t 0 (suc (place_from (b == 10) xs))) e

next_place : (s : Bool) (b : ℕ) (xs : List ℕ) → (s && is_proof_line (b ∷ xs)) ≡ false → place_from s (b ∷ xs) ≡ suc (place_from (b == 10) xs)
next_place s b xs e = ap (λ t. cond t 0 (suc (place_from (b == 10) xs))) e

proof_line_rest : (text : List ℕ) → is_proof_line text ≡ true → (rest : List ℕ) × (codes "proof 3\n" ++ rest ≡ text)
proof_line_rest text e = (drop 8 text, sym ((starts_is Decides-eqb text (codes "proof 3\n") (is_proof_line text) refl).0 e))

line_is_head : (bytes rest more : List ℕ) → IsUnbroken bytes → codes "proof 3\n" ++ more ≡ bytes ++ 10 ∷ rest → bytes ≡ codes "proof 3"
line_is_head bytes rest more u e = sym (first_line (codes "proof 3") bytes more rest head_unbroken u e).0

no_head : (bytes rest : List ℕ) → IsUnbroken bytes → (bytes ≡ codes "proof 3" → ⊥) → (b : Bool) → is_proof_line (bytes ++ 10 ∷ rest) ≡ b → b ≡ false
no_head bytes rest u never true e = let h = proof_line_rest (bytes ++ 10 ∷ rest) e in absurd (never (line_is_head bytes rest h.0 u h.1))
no_head bytes rest u never false e = refl

no_head_left : (bytes : List ℕ) → IsUnbroken bytes → (b : Bool) → is_proof_line bytes ≡ b → b ≡ false
no_head_left bytes u true e = let h = proof_line_rest bytes e in absurd ((left_lacks (codes "proof 3") (10 ∷ h.0) (subst IsUnbroken (sym h.1) u)).0 refl)
no_head_left bytes u false e = refl

not_both : (s b : Bool) → b ≡ false → (s && b) ≡ false
not_both true b e = e
not_both false b e = refl

place_within : (s : Bool) (xs : List ℕ) → place_from s xs ≤ length xs
place_within s [] = omega arith
place_within s (b ∷ xs) = (elim (s && is_proof_line (b ∷ xs)) as (λ v. cond v 0 (suc (place_from (b == 10) xs)) ≤ length (b ∷ xs)) [
  | true ↦ omega arith
  | false ↦ omega (arith, place_within (b == 10) xs)
])

-- a line that isn't looked at from its start
within_line : (bytes rest : List ℕ) → IsUnbroken bytes → place_from false (bytes ++ 10 ∷ rest) ≡ length bytes + 1 + place_from true rest
within_line [] rest u = omega (arith, next_place false 10 rest refl)
within_line (b ∷ bytes) rest u = omega (arith, next_place false b (bytes ++ 10 ∷ rest) refl, ap (λ t. place_from t (bytes ++ 10 ∷ rest)) (ne_eqb b 10 u.0), within_line bytes rest u.1)

whole_line : (bytes rest : List ℕ) → IsUnbroken bytes → is_proof_line (bytes ++ 10 ∷ rest) ≡ false → place_from true (bytes ++ 10 ∷ rest) ≡ length bytes + 1 + place_from true rest
whole_line [] rest u e = omega (arith, next_place true 10 rest e)
whole_line (b ∷ bytes) rest u e = omega (arith, next_place true b (bytes ++ 10 ∷ rest) e, ap (λ t. place_from t (bytes ++ 10 ∷ rest)) (ne_eqb b 10 u.0), within_line bytes rest u.1)

broken_from : (s : Bool) (bytes : List ℕ) → IsUnbroken bytes → place_from s bytes ≡ length bytes
broken_from s [] u = refl
broken_from s (b ∷ bytes) u = omega (arith, next_place s b bytes (not_both s _ (no_head_left (b ∷ bytes) u _ refl)), ap (λ t. place_from t bytes) (ne_eqb b 10 u.0), broken_from false bytes u.1)

-- what was read of the program: lines of which none is the first of a proof
pub record AreNone (program : List ℕ) : Type 0 where
  pub place : (rest : List ℕ) → proof_place (program ++ rest) ≡ length program + proof_place rest

pub none_first : AreNone []
none_first = record { place = λ rest. omega arith }

pub none_next : (program bytes : List ℕ) → AreNone program → IsUnbroken bytes → (bytes ≡ codes "proof 3" → ⊥) → AreNone (program ++ (bytes ++ 10 ∷ []))
none_next program bytes h u never = record {
  place = λ rest.
      let e : (program ++ (bytes ++ 10 ∷ [])) ++ rest ≡ program ++ (bytes ++ 10 ∷ rest) =
      append_assoc program (bytes ++ 10 ∷ []) rest ∙ ap (λ (t : List ℕ). program ++ t) (append_assoc bytes (10 ∷ []) rest) in
      omega (
        arith,
        ap proof_place e,
        h.place (bytes ++ 10 ∷ rest),
        whole_line bytes rest u (no_head bytes rest u never _ refl),
        length-append program (bytes ++ 10 ∷ []),
        length-append bytes (10 ∷ []),
      );
}

pub none_here : (program rest : List ℕ) → AreNone program → proof_place (program ++ (codes "proof 3" ++ 10 ∷ rest)) ≡ length program
none_here program rest h = omega (arith, h.place (codes "proof 3" ++ 10 ∷ rest), place_here true (codes "proof 3" ++ 10 ∷ rest) refl)

pub none_at_end : (format : Format) (program bytes : List ℕ) → AreNone program → IsUnbroken bytes → InputSays format (program ++ bytes) (Err error.NoProof)
none_at_end format program bytes h u = omega (arith, h.place bytes, broken_from true bytes u, length-append program bytes)

-- the text of the program and that of the proof
pub parts_say : (format : Format) (program after text : List ℕ) (r : Result Judgement CheckError) → proof_place text ≡ length program →
    text ≡ program ++ after → TextsSay format program after r → InputSays format text r
parts_say format program after text r place e h =
    let a : program ≡ program_part text = sym (ap (λ n. take n text) place ∙ ap (take (length program)) e ∙ take-append_seam program after) in
    let b : after ≡ proof_part text = sym (ap (λ n. drop n text) place ∙ ap (drop (length program)) e ∙ drop-append_seam program after) in
    as_input r (subst (λ (t : List ℕ). TextsSay format t (proof_part text) r) a (subst (λ (t : List ℕ). TextsSay format program t r) b h))
  where
    as_input : (r : Result Judgement CheckError) → TextsSay format (program_part text) (proof_part text) r → InputSays format text r
    as_input (Ok j) k = k
    as_input (Err error.Memory) k = tt
    as_input (Err error.NoProof) k = absurd k
    as_input (Err (error.Program e)) k = k
    as_input (Err (error.Proof proof.Memory)) k = k
    as_input (Err (error.Proof proof.ReadFault)) k = tt
    as_input (Err (error.Proof proof.TooLong)) k = inl (subst HasLongLine (take-append-drop (proof_place text) text) (long_behind (program_part text) (proof_part text) k))
    as_input (Err (error.Proof (proof.Refused number))) k = k

-- a step of the reader fails before the proof
pub input_failed : (format : Format) (front text : List ℕ) (e : CheckError) → FailsOn text e → InputSays format (front ++ text) (Err e)
input_failed format front text error.Memory h = tt
input_failed format front text error.NoProof h = absurd h
input_failed format front text (error.Program e) h = absurd h
input_failed format front text (error.Proof proof.Memory) h = absurd h
input_failed format front text (error.Proof proof.ReadFault) h = tt
input_failed format front text (error.Proof proof.TooLong) h = inl (long_behind front text h)
input_failed format front text (error.Proof (proof.Refused number)) h = absurd h

-- ---- the program's text
pub text_failed : (source now first : Option (List ℕ)) (program : List ℕ) (old new : Window) (e : CheckError) →
    Moves first source [] (program ++ old.behind) → StepsTo source now old new (Err e) →
    Comes first [] (λ text. (format : Format) → InputSays format text (Err e))
text_failed source now first program old new e m h =
    comes_back first source [] (program ++ old.behind) _ m (comes_front source program old.behind _ (comes_so source old.behind _ _ (λ text k format. input_failed format program text e k) h))

text_moves : (source now first : Option (List ℕ)) (program : List ℕ) (old : Window) (after : List ℕ) → Moves first source [] (program ++ old.behind) →
    Moves source now old.behind after → Moves first now [] (program ++ after)
text_moves source now first program old after m n = moves_then first source now [] (program ++ old.behind) (program ++ after) m (moves_more source now old.behind after program n)

pub text_ended : (source now first : Option (List ℕ)) (program : List ℕ) (old new : Window) → AreNone program →
    Moves first source [] (program ++ old.behind) → IsNextLine source now old new (Ok false) →
    Comes first [] (λ text. (format : Format) → InputSays format text (Err error.NoProof))
text_ended source now first program old new none m n =
    comes_back first now [] (program ++ new.line) _ (text_moves source now first program old new.line m n.1) (comes_end now _ _ n.2 (λ format. none_at_end format program new.line none n.0))

pub text_found : (source now first : Option (List ℕ)) (program : List ℕ) (old new : Window) → AreNone program →
    Moves first source [] (program ++ old.behind) → IsNextLine source now old new (Ok true) → new.line ≡ codes "proof 3" →
    FindsProof first now new (Ok (Some program))
text_found source now first program old new none m n e = (e, text_moves source now first program old (held new) m n.1, λ rest. none_here program rest none)

-- one line more
pub text_next : (source now first : Option (List ℕ)) (program more : List ℕ) (old new : Window) → Moves first source [] (program ++ old.behind) →
    IsNextLine source now old new (Ok true) → more ≡ program ++ (new.line ++ 10 ∷ []) → Moves first now [] (more ++ new.behind)
text_next source now first program more old new m n e =
    moves_as first now [] _ _
    (ap (λ (t : List ℕ). program ++ t) (sym (append_assoc new.line (10 ∷ []) new.behind)) ∙ sym (append_assoc program (new.line ++ 10 ∷ []) new.behind) ∙ ap (λ (t : List ℕ). t ++ new.behind) (sym e))
    (text_moves source now first program old (held new) m n.1)

-- a line for which there is no room
pub text_too_long : (source now first : Option (List ℕ)) (program : List ℕ) (old new : Window) (e : CheckError) (U : Type 0) (after : List ℕ) →
    AreNone program → Moves first source [] (program ++ old.behind) → IsNextLine source now old new (Ok true) → (new.line ≡ codes "proof 3" → ⊥)
    → AddsLine {U = U} program after new.line (Err e) → Comes first [] (λ text. (format : Format) → InputSays format text (Err e))
text_too_long source now first program old new e U after none m n never h =
    comes_back first now [] (program ++ held new) _ (text_moves source now first program old (held new) m n.1) (comes_any now _ _ (λ rest format. too_long rest format e h))
  where
    place : (rest : List ℕ) → most_bytes < length program + length new.line + 1 → most_bytes < length (program_part ((program ++ held new) ++ rest))
    place rest lt =
        let text = (program ++ held new) ++ rest in
        let e : text ≡ (program ++ (new.line ++ 10 ∷ [])) ++ (new.behind ++ rest) = simp append_assoc in
        let after = none_next program new.line none n.0 never in
        omega (
          arith,
          lt,
          ap proof_place e,
          after.place (new.behind ++ rest),
          length-append program (new.line ++ 10 ∷ []),
          length-append new.line (10 ∷ []),
          length-take-le (proof_place text) text (place_within true text),
        )

    too_long : (rest : List ℕ) (format : Format) (e : CheckError) → AddsLine {U = U} program after new.line (Err e) → InputSays format ((program ++ held new) ++ rest) (Err e)
    too_long rest format error.Memory h = tt
    too_long rest format error.NoProof h = absurd h
    too_long rest format (error.Program e) h = absurd h
    too_long rest format (error.Proof proof.Memory) h = let f = h.0 in absurd cc
    too_long rest format (error.Proof proof.ReadFault) h = let f = h.0 in absurd cc
    too_long rest format (error.Proof proof.TooLong) h = inr (place rest h.1)
    too_long rest format (error.Proof (proof.Refused number)) h = let f = h.0 in absurd cc

pub text_judged_behind : (source first : Option (List ℕ)) (w : Window) (program : List ℕ) (format : Format) (r : Result Judgement CheckError) →
    FindsProof first source w (Ok (Some program)) → Comes source (held w) (λ text. TextsSay format program text r) →
    Comes first [] (λ text. InputSays format text r)
text_judged_behind source first w program format r finds c =
    comes_back first source [] (program ++ held w) _ finds.1 (comes_front source program (held w) _ (comes_with c))
  where
    text_is : (rest : List ℕ) → held w ++ rest ≡ codes "proof 3" ++ 10 ∷ (w.behind ++ rest)
    text_is rest = append_assoc w.line (10 ∷ w.behind) rest ∙ ap (λ (t : List ℕ). t ++ 10 ∷ (w.behind ++ rest)) finds.0

    comes_with : Comes source (held w) (λ text. TextsSay format program text r) → Comes source (held w) (λ text. InputSays format (program ++ text) r)
    comes_with c = record {
      rest = c.rest;
      told = c.told;
      is = parts_say format program (held w ++ c.rest) (program ++ (held w ++ c.rest)) r (ap (λ (t : List ℕ). proof_place (program ++ t)) (text_is c.rest) ∙ finds.2 (w.behind ++ c.rest)) refl c.is;
    }

-- ---- what is written
pub keeps_itself : (held : Option (List ℕ)) → Keeps held held
keeps_itself None = tt
keeps_itself (Some xs) = refl

appended_kept : (a b c : Option (List ℕ)) (text : List ℕ) → Appends a b text → Keeps b c → Appends a c text
appended_kept None b c text h k = tt
appended_kept (Some xs) None c text h k = absurd h
appended_kept (Some xs) (Some ys) None text h k = absurd k
appended_kept (Some xs) (Some ys) (Some zs) text h k = k ∙ h

-- a flush after all was written
pub flushed_all : {T E : Type 0} (a b c : Option (List ℕ)) (text : List ℕ) (r : Result T E) → Appends a b text → Keeps b c → OnOk r (Appends a c text)
flushed_all a b c text (Ok v) h k = appended_kept a b c text h k
flushed_all a b c text (Err e) h k = tt

pub flushed_front : {T E : Type 0} (a b c : Option (List ℕ)) (text : List ℕ) (r : Result T E) → Appends a b text → Keeps b c → OnErr r (AppendsFront a c text)
flushed_front a b c text (Ok v) h k = tt
flushed_front a b c text (Err e) h k = record { count = length text; front = subst (Appends a c) (sym (take_all (length text) text (omega arith))) (appended_kept a b c text h k) }

pub flushed_cause : {T E : Type 0} (f g h : ℕ) (r : Result T E) → f ≤ g → HasCause g h r → OnErr r (Rose f h)
flushed_cause f g h (Ok v) later c = tt
flushed_cause f g h (Err e) later c = omega (arith, later, c.failed)

pub flushed_quiet : {T E : Type 0} (f g h : ℕ) (r : Result T E) → g ≡ f → OnOk r (h ≡ g) → OnOk r (h ≡ f)
flushed_quiet f g h (Ok v) first then = then ∙ first
flushed_quiet f g h (Err e) first then = tt

pub not_written : (held : Option (List ℕ)) (j : Judgement) → Writes held held j status.Memory
not_written held j = keeps_itself held

pub written : (old new : Option (List ℕ)) (text : List ℕ) (j : Judgement) → text ≡ said j → Appends old new text → Writes old new j (status_said j)
written old new text judgement.Yes e h = (refl, subst (Appends old new) e h)
written old new text (judgement.Part n) e h = (refl, subst (Appends old new) e h)
written old new text (judgement.No w n) e h = (refl, subst (Appends old new) e h)

pub half_written : (old new : Option (List ℕ)) (text : List ℕ) (j : Judgement) → text ≡ said j → AppendsFront old new text → Writes old new j status.WriteFault
half_written old new text j e h = subst (AppendsFront old new) e h

pub said_sent : (sent : Bool) (j : Judgement) → sent ≡ true → IsSentOn sent (status_said j)
said_sent sent judgement.Yes h = h
said_sent sent (judgement.Part n) h = h
said_sent sent (judgement.No w n) h = h

pub text_judged : (format : Format) (text : List ℕ) (old new : Option (List ℕ)) (j : Judgement) (s : CheckStatus) → InputSays format text (Ok j) → Writes old new j s → TextSays format text old new s
text_judged format text old new j status.Yes checked h = (subst (λ (i : Judgement). InputSays format text (Ok i)) h.0 checked, subst (λ i. Appends old new (said i)) h.0 h.1)
text_judged format text old new j (status.Part n) checked h = (subst (λ (i : Judgement). InputSays format text (Ok i)) h.0 checked, subst (λ i. Appends old new (said i)) h.0 h.1)
text_judged format text old new j (status.No w n) checked h = (subst (λ (i : Judgement). InputSays format text (Ok i)) h.0 checked, subst (λ i. Appends old new (said i)) h.0 h.1)
text_judged format text old new j status.Memory checked h = h
text_judged format text old new j status.WriteFault checked h = (j, checked, h)
text_judged format text old new j (status.Program e) checked h = absurd h
text_judged format text old new j status.ReadFault checked h = absurd h
text_judged format text old new j status.TooLong checked h = absurd h
text_judged format text old new j status.NoProof checked h = absurd h
text_judged format text old new j (status.Proof e) checked h = absurd h

pub text_refused : (format : Format) (text : List ℕ) (held : Option (List ℕ)) (e : CheckError) → InputSays format text (Err e) → TextSays format text held held (status_of e)
text_refused format text held error.Memory h = keeps_itself held
text_refused format text held error.NoProof h = (h, keeps_itself held)
text_refused format text held (error.Program e) h = (h, keeps_itself held)
text_refused format text held (error.Proof proof.Memory) h = absurd h
text_refused format text held (error.Proof proof.ReadFault) h = keeps_itself held
text_refused format text held (error.Proof proof.TooLong) h = (h, keeps_itself held)
text_refused format text held (error.Proof (proof.Refused number)) h = (h, keeps_itself held)

pub status_sent : (sent : Bool) (e : CheckError) → IsSentOn sent (status_of e)
status_sent sent error.Memory = tt
status_sent sent error.NoProof = tt
status_sent sent (error.Program e) = tt
status_sent sent (error.Proof proof.Memory) = tt
status_sent sent (error.Proof proof.ReadFault) = tt
status_sent sent (error.Proof proof.TooLong) = tt
status_sent sent (error.Proof (proof.Refused number)) = tt

pub never_read : (old new : Option (List ℕ)) (j : Judgement) (s : CheckStatus) → Writes old new j s → s ≡ status.ReadFault → ⊥
never_read old new j s h e = subst (Writes old new j) e h

-- what comes of the source's text
pub run_says : (format : Format) (source old new : Option (List ℕ)) (s : CheckStatus) → Comes source [] (λ text. TextSays format text old new s) → RunSays format source old new s
run_says format source old new s c = record { text = c.rest; told = c.told; says = c.is }

pub status_reads : (e : CheckError) → status_of e ≡ status.ReadFault → e ≡ read_fault
status_reads error.Memory is = absurd (let f : ⊥ = cc in f)
status_reads error.NoProof is = absurd (let f : ⊥ = cc in f)
status_reads (error.Program e) is = absurd (let f : ⊥ = cc in f)
status_reads (error.Proof proof.Memory) is = absurd (let f : ⊥ = cc in f)
status_reads (error.Proof proof.ReadFault) is = refl
status_reads (error.Proof proof.TooLong) is = absurd (let f : ⊥ = cc in f)
status_reads (error.Proof (proof.Refused number)) is = absurd (let f : ⊥ = cc in f)

pub status_writes : (e : CheckError) → status_of e ≡ status.WriteFault → ⊥
status_writes error.Memory is = cc
status_writes error.NoProof is = cc
status_writes (error.Program e) is = cc
status_writes (error.Proof proof.Memory) is = cc
status_writes (error.Proof proof.ReadFault) is = cc
status_writes (error.Proof proof.TooLong) is = cc
status_writes (error.Proof (proof.Refused number)) is = cc

pub said_writes : (j : Judgement) → status_said j ≡ status.WriteFault → ⊥
said_writes judgement.Yes is = cc
said_writes (judgement.Part n) is = cc
said_writes (judgement.No w n) is = cc

pub ok_no_fault : {T : Type 0} (x : T) (e : CheckError) → (let r : Result T CheckError = Ok x in r) ≡ Err e → ⊥
ok_no_fault x e is = cc
