-- A proof that is judged as its text is read.
use Rattle.std.proofs.Common.{◌≡◌, ◌≢◌, ℕ, ◌+◌, Bool, true, false, ◌||◌, List, [], ◌∷◌, ◌++◌, codes, length, Option, None, Some, Result, Ok, Err, inl, inr, refl, sym, ap, subst, ◌∙◌, arith, append_assoc, append-nil}
use Rattle.std.proofs.lemmas.List.{length_push}
use Rattle.asp_model.specs.Sets.{Atoms}
use Rattle.asp_model.specs.Models.{atoms_of}
use Rattle.std.specs.Prelude.{Contains}
use Rattle.std.specs.List.{list_any, AllByRecursion}
use Rattle.std.proofs.lemmas.Bool.{false≢true}
use Rattle.asp_model.specs.Sound.{IsSound}
use Rattle.asp_model.specs.declared.program.Program.{Program}
use Rattle.asp_proof.specs.declared.proof.Line.{Line}
use Rattle.asp_proof.specs.declared.proof.Proof.{Proof}
use Rattle.asp_proof.specs.declared.proof.Sought.{Sought}
use Rattle.asp_proof.specs.declared.error.ProofError.{ProofError}
use Rattle.asp_proof.specs.declared.error.ProofError.TheVariants as proof
use Rattle.asp_proof.specs.Texts.{answer_text, line_text, mode_line, last_word, text_of, line}
use Rattle.asp_proof.specs.Grammar.{IsProof, IsSet, IsLine, IsUnbroken, IsFirstFault}
use Rattle.asp_proof.specs.Fields.{IsNone, IsWhole}
use Rattle.asp_proof.specs.Walk.{IsBegun, IsNextAnswer, Takes, ended, front_of, proof_of}
use Rattle.asp_proof.specs.Reading.{HasLongLine, HasMore, IsNextLine, Moves, Comes, Window, held}
use Rattle.asp_proof.proofs.WalkLaws.{head, ended_is}
use Rattle.asp_proof.proofs.ReaderLaws.{moves_none, moves_as, moves_then}
use Rattle.asp_proof.proofs.StreamLaws.{begun_next, front_next, line_refused, line_broken, last_followed, last_whole, begun_mode, front_mode, mode_refused, mode_broken, long_behind, long_before, comes_any, comes_end, comes_back, comes_as, comes_so, comes_front, moves_more}
use Rattle.asp_checker.specs.declared.judge.Why.{Why}
use Rattle.asp_checker.specs.declared.judge.Why.TheVariants as why
use Rattle.asp_checker.specs.declared.judge.Judgement.{Judgement}
use Rattle.asp_checker.specs.declared.judge.Judgement.TheVariants as judgement
use Rattle.asp_checker.specs.declared.error.CheckError.{CheckError}
use Rattle.asp_checker.specs.declared.error.CheckError.TheVariants as error
use Rattle.asp_checker.specs.declared.propagator.Propagator.{Propagator}
use Rattle.asp_checker.specs.declared.stream.Tally.{Tally}
use Rattle.asp_checker.specs.Lines.{AreConfirmed, IsConfirmed, Gathered, first_gathered, with_line, gathered_after}
use Rattle.asp_checker.specs.Right.{closes, promised, found_of, IsRight}
use Rattle.asp_checker.specs.Errors.{proof_error, read_fault}
use Rattle.asp_checker.specs.Judging.{AreRightAnswers, IsRightAnswer, HasAnswerFault, HasLineFault, HasLastFault, gathered_by, IsGatheredNow}
use Rattle.asp_checker.specs.Streams.{is_last_fault, IsRightBefore, IsFaultAt, right_judgement, Judges, FailsOn, StepsTo, AreLinesBefore, AreSoFar, AreLinesOf, AreAllRead, AreListed, AreAtEnd, AreAllListed, IsRightFront, IsComplete, IsEndJudged}
use Rattle.asp_checker.proofs.JudgeLaws.{none_alike, answers_push, wrong_pushed, pushed_line_wrong, gathered_push, confirmed_push, closes_push}
use Rattle.asp_checker.proofs.RightLaws.{right-shows}

-- ---- steps of the reader
pub steps_fail : (source now : Option (List ℕ)) (old new : Window) (e : ProofError) → IsNextLine source now old new (Err e) → StepsTo source now old new (Err (proof_error e))
steps_fail source now old new proof.Memory h = comes_any source old.behind _ (λ rest. tt)
steps_fail source now old new proof.ReadFault h = comes_any source old.behind _ (λ rest. tt)
steps_fail source now old new proof.TooLong h = comes_back source now old.behind h.0 HasLongLine h.2 (comes_any now h.0 HasLongLine (λ rest. long_before h.0 rest h.1))
steps_fail source now old new (proof.Refused n) h = absurd h

fails_judged : (p : Program) (front text : List ℕ) (e : CheckError) → FailsOn text e → Judges p (front ++ text) (Err e)
fails_judged p front text error.Memory h = tt
fails_judged p front text error.NoProof h = absurd h
fails_judged p front text (error.Program e) h = absurd h
fails_judged p front text (error.Proof proof.Memory) h = absurd h
fails_judged p front text (error.Proof proof.ReadFault) h = tt
fails_judged p front text (error.Proof proof.TooLong) h = long_behind front text h
fails_judged p front text (error.Proof (proof.Refused number)) h = absurd h

-- what was said behind some bytes is said of the whole
pub step_failed : (p : Program) (first source now : Option (List ℕ)) (bytes front : List ℕ) (old new : Window) (e : CheckError) →
    Moves first source bytes (front ++ old.behind) → StepsTo source now old new (Err e) → Comes first bytes (λ text. Judges p text (Err e))
step_failed p first source now bytes front old new e m h =
    comes_back first source bytes (front ++ old.behind) _ m (comes_front source front old.behind _ (comes_so source old.behind _ _ (λ text k. fails_judged p front text e k) h))

step_moves : (first source now : Option (List ℕ)) (bytes front : List ℕ) (old : Window) (after : List ℕ) →
    Moves first source bytes (front ++ old.behind) → Moves source now old.behind after → Moves first now bytes (front ++ after)
step_moves first source now bytes front old after m n = moves_then first source now bytes (front ++ old.behind) (front ++ after) m (moves_more source now old.behind after front n)

held_more : (front bytes behind rest : List ℕ) → front ++ (bytes ++ 10 ∷ (behind ++ rest)) ≡ (front ++ (bytes ++ 10 ∷ behind)) ++ rest
held_more front bytes behind rest = ap (λ (t : List ℕ). front ++ t) (sym (append_assoc bytes (10 ∷ behind) rest)) ∙ sym (append_assoc front (bytes ++ 10 ∷ behind) rest)

pub fault_is : {T : Type 0} (e : ProofError) → (let r : Result T CheckError = Err (proof_error e) in r) ≡ Err read_fault → e ≡ proof.ReadFault
fault_is proof.Memory is = absurd cc
fault_is proof.ReadFault is = refl
fault_is proof.TooLong is = absurd cc
fault_is (proof.Refused n) is = absurd cc

pub is_fault : {T : Type 0} (e : ProofError) → (let r : Result T ProofError = Err e in r) ≡ Err proof.ReadFault → proof_error e ≡ read_fault
is_fault proof.Memory is = absurd cc
is_fault proof.ReadFault is = refl
is_fault proof.TooLong is = absurd cc
is_fault (proof.Refused n) is = absurd cc

pub err_of : {T : Type 0} (e f : CheckError) → (let r : Result T CheckError = Err e in r) ≡ Err f → e ≡ f
err_of e f is = cc

pub no_fault : {T : Type 0} (x : T) (e : CheckError) → (let r : Result T CheckError = Ok x in r) ≡ Err e → ⊥
no_fault x e is = cc

-- ---- what is said of a text that begins so
right_before : (p : Program) (q : Proof) (rest : List ℕ) (number : ℕ) → IsProof q → AreConfirmed p q.sought (first_gathered p) q.lines →
    AreRightAnswers p q.sought q.answers → number ≡ length q.lines + length q.answers + 3 → IsRightBefore p (front_of q ++ rest) number
right_before p q rest number is lines answers e = record { proof = q; is = is; rest = rest; begins = refl; lines = lines; answers = answers; next = inl e }

first_as : (text : List ℕ) (n number : ℕ) → IsFirstFault text n → n ≡ number → IsFirstFault text number
first_as text n number f e = subst (IsFirstFault text) e f

-- no line feed comes after the lines so far
broken : (p : Program) (q : Proof) (rest : List ℕ) (number : ℕ) → IsBegun (length q.lines + length q.answers + 2) q →
    AreConfirmed p q.sought (first_gathered p) q.lines → AreRightAnswers p q.sought q.answers → IsUnbroken rest → number ≡ length q.lines + length q.answers + 3
    → IsFaultAt p (front_of q ++ rest) number
broken p q rest number begun lines answers u e = record {
  first = first_as _ _ number (line_broken (length q.lines + length q.answers + 2) q rest begun u) (omega (arith, e));
  right = inr (right_before p q rest number begun.is lines answers e);
}

begun_as : (n m : ℕ) (q : Proof) → n ≡ m → IsBegun n q → IsBegun m q
begun_as n m q e b = subst (λ i. IsBegun i q) e b

pub no_answers_yet : (p : Program) (o : Sought) → AreRightAnswers p o []
no_answers_yet p o = record { members = tt; order = λ i j d lt within. absurd (omega arith); single = λ b. omega arith; alike = none_alike p o }

-- ---- lines
pub so_far_first : (p : Program) (o : Sought) (h : Propagator) (t : Tally) (source : Option (List ℕ)) (behind : List ℕ) →
    gathered_by h ≡ first_gathered p → t.count ≡ 0 → t.whole ≡ false → AreSoFar p o h t source source (front_of (proof_of o [] []) ++ behind) behind
so_far_first p o h t source behind e none unclosed = record {
  entries = [];
  right = record { begun = begun_mode o; confirmed = tt; counted = none; whole_is = unclosed; found_is = ap (λ (g : Gathered). g.found) e };
  gathered = e;
  moved = moves_none source (front_of (proof_of o [] []) ++ behind);
}

pub so_far_at : (p : Program) (o : Sought) (h : Propagator) (t : Tally) (first source now : Option (List ℕ)) (bytes : List ℕ) (old new : Window) →
    AreSoFar p o h t first source bytes old.behind → IsNextLine source now old new (Ok true) → AreSoFar p o h t first now bytes (held new)
so_far_at p o h t first source now bytes old new s n = record {
  entries = s.entries;
  right = s.right;
  gathered = s.gathered;
  moved = step_moves first source now bytes (front_of (proof_of o s.entries [])) old (held new) s.moved n.1;
}

takes_line : (entries : List Line) (l : Line) (bytes : List ℕ) → IsWhole IsLine line_text bytes l → Takes bytes entries [] (entries ++ l ∷ []) []
takes_line entries l bytes w = inl (l, refl, refl, refl, w)

begun_more : (o : Sought) (entries : List Line) (l : Line) (bytes : List ℕ) → IsBegun (length entries + 2) (proof_of o entries []) → IsUnbroken bytes →
    IsWhole IsLine line_text bytes l → IsBegun (length (entries ++ l ∷ []) + 2) (proof_of o (entries ++ l ∷ []) [])
begun_more o entries l bytes b u w =
    let n : length entries + 2 + 1 ≡ length (entries ++ l ∷ []) + 2 = omega (arith, length_push entries l) in
    begun_as _ _ (proof_of o (entries ++ l ∷ []) []) n (begun_next (length entries + 2) o entries (entries ++ l ∷ []) [] [] bytes b u (takes_line entries l bytes w))

front_more : (o : Sought) (entries : List Line) (l : Line) (bytes after : List ℕ) → IsBegun (length entries + 2) (proof_of o entries []) → IsUnbroken bytes →
    IsWhole IsLine line_text bytes l → front_of (proof_of o (entries ++ l ∷ []) []) ++ after ≡ front_of (proof_of o entries []) ++ (bytes ++ 10 ∷ after)
front_more o entries l bytes after b u w = front_next (length entries + 2) o entries (entries ++ l ∷ []) [] [] bytes after b u (takes_line entries l bytes w)

gathered_then : (p : Program) (h new : Propagator) (entries : List Line) (l : Line) → gathered_by h ≡ gathered_after (first_gathered p) entries →
    gathered_by new ≡ with_line (gathered_by h) l → gathered_by new ≡ gathered_after (first_gathered p) (entries ++ l ∷ [])
gathered_then p h new entries l e f = f ∙ ap (λ (g : Gathered). with_line g l) e ∙ sym (gathered_push (first_gathered p) entries l)

pub so_far_next : (p : Program) (o : Sought) (h new : Propagator) (t now_t : Tally) (closing : Bool) (first now : Option (List ℕ)) (bytes : List ℕ) (w : Window) (l : Line) →
    AreSoFar p o h t first now bytes (held w) → IsUnbroken w.line → IsWhole IsLine line_text w.line l → IsGatheredNow p o h new l closing →
    now_t.count ≡ t.count + 1 → now_t.whole ≡ (t.whole || closing) → AreSoFar p o new now_t first now bytes w.behind
so_far_next p o h new t now_t closing first now bytes w l s u line_is g more both =
    let r = s.right in
    let at = gathered_then p h new s.entries l s.gathered g.now in
    record {
      entries = s.entries ++ l ∷ [];
      right = record {
        begun = begun_more o s.entries l w.line r.begun u line_is;
        confirmed = confirmed_push p o (first_gathered p) s.entries l r.confirmed (subst (λ (a : Gathered). IsConfirmed p o a l) s.gathered g.confirmed);
        counted = omega (arith, more, r.counted, length_push s.entries l);
        whole_is = closes_push p s.entries l t.whole closing now_t.whole r.whole_is g.closing_is both;
        found_is = ap (λ (a : Gathered). a.found) at;
      };
      gathered = at;
      moved = moves_as first now bytes _ _ (sym (front_more o s.entries l w.line w.behind r.begun u line_is)) s.moved;
    }

not_last : (p : Program) (o : Sought) (g : Gathered) (l : Line) (w : Why) → HasLineFault p o g l w → is_last_fault w ≡ true → ⊥
not_last p o g l why.NotWhole h e = h
not_last p o g l why.NotListed h e = h
not_last p o g l why.Member h e = false≢true e
not_last p o g l why.Order h e = false≢true e
not_last p o g l why.Literal h e = false≢true e
not_last p o g l why.Loop h e = false≢true e
not_last p o g l why.NotImplied h e = false≢true e
not_last p o g l why.Cost h e = false≢true e

pub so_far_wrong : (p : Program) (o : Sought) (h : Propagator) (t : Tally) (first now : Option (List ℕ)) (bytes : List ℕ) (w : Window) (l : Line) (reason : Why) →
    AreSoFar p o h t first now bytes (held w) → IsUnbroken w.line → IsWhole IsLine line_text w.line l → HasLineFault p o (gathered_by h) l reason →
    Comes first bytes (λ text. Judges p text (Ok (judgement.No reason (t.count + 3))))
so_far_wrong p o h t first now bytes w l reason s u line_is fault =
    let r = s.right in
    let here = subst (λ (a : Gathered). HasLineFault p o a l reason) s.gathered fault in
    comes_back first now bytes _ _ s.moved (comes_any now _ _ (λ rest. record {
      proof = proof_of o (s.entries ++ l ∷ []) [];
      is = (begun_more o s.entries l w.line r.begun u line_is).is;
      rest = w.behind ++ rest;
      begins = front_more o s.entries l w.line (w.behind ++ rest) r.begun u line_is ∙ held_more (front_of (proof_of o s.entries [])) w.line w.behind rest;
      wrong = inl (record { place = length s.entries; wrong = pushed_line_wrong p o s.entries l reason r.confirmed here; is = omega (arith, r.counted) });
      last = λ k. absurd (not_last p o (gathered_by h) l reason fault k);
    }))

pub so_far_broken : (p : Program) (o : Sought) (h : Propagator) (t : Tally) (first source now : Option (List ℕ)) (bytes : List ℕ) (old new : Window) →
    AreSoFar p o h t first source bytes old.behind → IsNextLine source now old new (Ok false) →
    Comes first bytes (λ text. Judges p text (Err (error.Proof (proof.Refused (t.count + 3)))))
so_far_broken p o h t first source now bytes old new s n =
    let r = s.right in
    let q = proof_of o s.entries [] in
    comes_back first now bytes (front_of q ++ new.line) _ (step_moves first source now bytes (front_of q) old new.line s.moved n.1)
    (comes_end now (front_of q ++ new.line) _ n.2
    (broken p q new.line (t.count + 3) (begun_as _ _ q (omega arith) r.begun) r.confirmed (no_answers_yet p o) n.0 (omega (arith, r.counted))))

pub all_read : (p : Program) (o : Sought) (h new : Propagator) (t : Tally) (first now : Option (List ℕ)) (bytes : List ℕ) (w : Window) →
    h.found.atoms ≡ atoms_of p → AreSoFar p o h t first now bytes (held w) → IsUnbroken w.line → IsNone IsLine line_text w.line → new ≡ h →
    AreAllRead p o new t first now bytes w
all_read p o h new t first now bytes w atoms s u none e = rw e (record { atoms = atoms; entries = s.entries; lines = record { right = s.right; unbroken = u; no_line = none }; moved = s.moved })

-- ---- answers
pub listed_first : (p : Program) (o : Sought) (entries : List Line) (count : ℕ) (whole : Bool) (found : List Atoms) (source : Option (List ℕ)) (w : Window) →
    AreLinesOf p o entries count whole found w → AreListed p o entries [] source source (front_of (proof_of o entries []) ++ held w) w
listed_first p o entries count whole found source w h =
    let r = h.right in
    record {
      before = record {
        right = no_answers_yet p o;
        begun = begun_as _ _ (proof_of o entries []) (omega arith) r.begun;
        unbroken = h.unbroken;
        no_line = λ e. h.no_line;
      };
      moved = moves_none source (front_of (proof_of o entries []) ++ held w);
    }

takes_answer : (entries : List Line) (answers : List Atoms) (S : Atoms) (bytes : List ℕ) → IsNextAnswer answers bytes S → Takes bytes entries answers entries (answers ++ S ∷ [])
takes_answer entries answers S bytes w = inr (S, refl, refl, w)

begun_listed : (o : Sought) (entries : List Line) (answers : List Atoms) (S : Atoms) (bytes : List ℕ) →
    IsBegun (length entries + length answers + 2) (proof_of o entries answers) → IsUnbroken bytes → IsNextAnswer answers bytes S
    → IsBegun (length entries + length (answers ++ S ∷ []) + 2) (proof_of o entries (answers ++ S ∷ []))
begun_listed o entries answers S bytes b u w =
    let n : length entries + length answers + 2 + 1 ≡ length entries + length (answers ++ S ∷ []) + 2 = omega (arith, length_push answers S) in
    begun_as _ _ (proof_of o entries (answers ++ S ∷ [])) n
    (begun_next (length entries + length answers + 2) o entries entries answers (answers ++ S ∷ []) bytes b u (takes_answer entries answers S bytes w))

front_listed : (o : Sought) (entries : List Line) (answers : List Atoms) (S : Atoms) (bytes after : List ℕ) →
    IsBegun (length entries + length answers + 2) (proof_of o entries answers) → IsUnbroken bytes → IsNextAnswer answers bytes S
    → front_of (proof_of o entries (answers ++ S ∷ [])) ++ after ≡ front_of (proof_of o entries answers) ++ (bytes ++ 10 ∷ after)
front_listed o entries answers S bytes after b u w =
    front_next (length entries + length answers + 2) o entries entries answers (answers ++ S ∷ []) bytes after b u (takes_answer entries answers S bytes w)

not_nil : {X : Type 0} (xs : List X) (x : X) → xs ++ x ∷ [] ≡ [] → ⊥
not_nil [] x e = absurd cc
not_nil (y ∷ xs) x e = absurd cc

-- one answer more was taken
moved_listed : (o : Sought) (entries : List Line) (answers : List Atoms) (S : Atoms) (first now : Option (List ℕ)) (bytes : List ℕ) (w : Window) →
    IsBegun (length entries + length answers + 2) (proof_of o entries answers) → IsUnbroken w.line → IsNextAnswer answers w.line S →
    Moves first now bytes (front_of (proof_of o entries answers) ++ held w) → Moves first now bytes (front_of (proof_of o entries (answers ++ S ∷ [])) ++ w.behind)
moved_listed o entries answers S first now bytes w b u is m = moves_as first now bytes _ _ (sym (front_listed o entries answers S w.line w.behind b u is)) m

pub listed_next : (p : Program) (o : Sought) (entries : List Line) (answers now_answers : List Atoms) (S : Atoms) (first source now : Option (List ℕ)) (bytes : List ℕ)
    (w new : Window) → AreListed p o entries answers first source bytes w → IsNextAnswer answers w.line S → IsRightAnswer p o answers S →
    now_answers ≡ answers ++ S ∷ [] → IsNextLine source now w new (Ok true)
    → AreListed p o entries now_answers first now bytes new
listed_next p o entries answers now_answers S first source now bytes w new h is right e n =
    let b = h.before in
    rw e (record {
      before = record {
        right = answers_push p o answers S b.right right;
        begun = begun_listed o entries answers S w.line b.begun b.unbroken is;
        unbroken = n.0;
        no_line = λ nil. absurd (not_nil answers S nil);
      };
      moved = step_moves first source now bytes (front_of (proof_of o entries (answers ++ S ∷ []))) w (held new)
          (moved_listed o entries answers S first source bytes w b.begun b.unbroken is h.moved) n.1;
    })

not_last_answer : (p : Program) (o : Sought) (answers : List Atoms) (S : Atoms) (w : Why) → HasAnswerFault p o answers S w → is_last_fault w ≡ true → ⊥
not_last_answer p o answers S why.NotWhole h e = h
not_last_answer p o answers S why.NotListed h e = h
not_last_answer p o answers S why.Member h e = false≢true e
not_last_answer p o answers S why.Order h e = false≢true e
not_last_answer p o answers S why.Literal h e = false≢true e
not_last_answer p o answers S why.Loop h e = false≢true e
not_last_answer p o answers S why.NotImplied h e = false≢true e
not_last_answer p o answers S why.Cost h e = false≢true e

pub listed_wrong : (p : Program) (o : Sought) (entries : List Line) (count : ℕ) (answers now_answers : List Atoms) (S : Atoms) (reason : Why) (first now : Option (List ℕ))
    (bytes : List ℕ) (w : Window) → AreConfirmed p o (first_gathered p) entries → count ≡ length entries → AreListed p o entries answers first now bytes w →
    IsNextAnswer answers w.line S → HasAnswerFault p o answers S reason → now_answers ≡ answers
    → Comes first bytes (λ text. Judges p text (Ok (judgement.No reason (count + length now_answers + 3))))
listed_wrong p o entries count answers now_answers S reason first now bytes w lines counted h is fault e =
    let b = h.before in
    rw e (comes_back first now bytes _ _ h.moved (comes_any now _ _ (λ rest. record {
      proof = proof_of o entries (answers ++ S ∷ []);
      is = (begun_listed o entries answers S w.line b.begun b.unbroken is).is;
      rest = w.behind ++ rest;
      begins = front_listed o entries answers S w.line (w.behind ++ rest) b.begun b.unbroken is ∙ held_more (front_of (proof_of o entries answers)) w.line w.behind rest;
      wrong = inr (inl (record { lines = lines; place = length answers; wrong = wrong_pushed p o answers S reason b.right fault; is = omega (arith, counted) }));
      last = λ k. absurd (not_last_answer p o answers S reason fault k);
    })))

-- the step after a right answer of which no line feed comes
pub listed_broken : (p : Program) (o : Sought) (entries : List Line) (count : ℕ) (answers now_answers : List Atoms) (S : Atoms) (first source now : Option (List ℕ))
    (bytes : List ℕ) (w new : Window) → AreConfirmed p o (first_gathered p) entries → count ≡ length entries → AreListed p o entries answers first source bytes w →
    IsNextAnswer answers w.line S → IsRightAnswer p o answers S → now_answers ≡ answers ++ S ∷ [] → IsNextLine source now w new (Ok false)
    → Comes first bytes (λ text. Judges p text (Err (error.Proof (proof.Refused (count + length now_answers + 3)))))
listed_broken p o entries count answers now_answers S first source now bytes w new lines counted h is right e n =
    let b = h.before in
    let q = proof_of o entries (answers ++ S ∷ []) in
    rw e (comes_back first now bytes (front_of q ++ new.line) _
    (step_moves first source now bytes (front_of q) w new.line (moved_listed o entries answers S first source bytes w b.begun b.unbroken is h.moved) n.1)
    (comes_end now (front_of q ++ new.line) _ n.2
    (broken p q new.line (count + length (answers ++ S ∷ []) + 3) (begun_listed o entries answers S w.line b.begun b.unbroken is) lines
    (answers_push p o answers S b.right right) n.0 (omega (arith, counted)))))

-- the step after a right answer that fails
pub listed_failed : (p : Program) (o : Sought) (entries : List Line) (answers : List Atoms) (S : Atoms) (first source now : Option (List ℕ)) (bytes : List ℕ) (w new : Window)
    (e : CheckError) → AreListed p o entries answers first source bytes w → IsNextAnswer answers w.line S → StepsTo source now w new (Err e) →
    Comes first bytes (λ text. Judges p text (Err e))
listed_failed p o entries answers S first source now bytes w new e h is s =
    let b = h.before in
    step_failed p first source now bytes (front_of (proof_of o entries (answers ++ S ∷ []))) w new e (moved_listed o entries answers S first source bytes w b.begun b.unbroken is h.moved) s

pub all_listed : (p : Program) (o : Sought) (entries : List Line) (answers now_answers : List Atoms) (first now : Option (List ℕ)) (bytes : List ℕ) (w : Window) →
    AreListed p o entries answers first now bytes w → IsNone IsSet answer_text w.line → now_answers ≡ answers → AreAllListed p o entries now_answers first now bytes w
all_listed p o entries answers now_answers first now bytes w h none e = rw e (record { at_end = record { before = h.before; no_answer = none }; moved = h.moved })

-- ---- behind the answers
pub end_front : (p : Program) (o : Sought) (entries : List Line) (count number : ℕ) (whole : Bool) (found answers : List Atoms) (w : Window) → IsSound p →
    AreLinesBefore p o entries count whole found → AreAtEnd p o entries answers w → number ≡ count + length answers + 3 → IsRightFront p (proof_of o entries answers) number
end_front p o entries count number whole found answers w sound l a e =
    let b = a.before in
    record { sound = sound; begun = b.begun; lines = l.confirmed; answers = b.right; counted = omega (arith, e, l.counted) }

pub end_refused : (p : Program) (o : Sought) (entries : List Line) (count number : ℕ) (whole : Bool) (found answers : List Atoms) (source : Option (List ℕ)) (w : Window) →
    AreLinesBefore p o entries count whole found → AreAtEnd p o entries answers w → number ≡ count + length answers + 3 → ((part : Bool) → w.line ≡ last_word part → ⊥) →
    Comes source (front_of (proof_of o entries answers) ++ held w) (λ text. Judges p text (Err (error.Proof (proof.Refused number))))
end_refused p o entries count number whole found answers source w l a e last =
    let b = a.before in
    let q = proof_of o entries answers in
    comes_any source _ _ (λ rest. subst (λ (t : List ℕ). IsFaultAt p t number) (held_more (front_of q) w.line w.behind rest) (record {
      first = first_as _ _ number (line_refused (length entries + length answers + 2) q w.line (w.behind ++ rest) b.begun b.unbroken last
          (record { no_answer = a.no_answer; no_line = b.no_line })) (omega (arith, e, l.counted));
      right = inr (right_before p q (w.line ++ 10 ∷ (w.behind ++ rest)) number (b.begun).is l.confirmed b.right (omega (arith, e, l.counted)));
    }))

-- ---- the last line
last_feed : (part : Bool) (bytes after : List ℕ) → bytes ≡ last_word part → part ≡ false → codes "0\n" ++ after ≡ bytes ++ 10 ∷ after
last_feed true bytes after e f = absurd (false≢true (sym f))
last_feed false bytes after e f = ap (λ (t : List ℕ). t ++ 10 ∷ after) (sym e)

fault_ended : (p : Program) (q : Proof) (part : Bool) (w : Why) → HasLastFault p q w → HasLastFault p (ended q part) w
fault_ended p q part why.NotWhole h = h
fault_ended p q part why.NotListed h = h
fault_ended p q part why.Member h = h
fault_ended p q part why.Order h = h
fault_ended p q part why.Literal h = h
fault_ended p q part why.Loop h = h
fault_ended p q part why.NotImplied h = h
fault_ended p q part why.Cost h = h

-- the lines and the answers are right, but not what the last line says
pub last_wrong : (p : Program) (q : Proof) (part : Bool) (reason : Why) (number : ℕ) (source : Option (List ℕ)) (w : Window) → w.line ≡ last_word part →
    IsRightFront p q number → IsEndJudged p q part (Some reason) → Comes source (front_of q ++ held w) (λ text. Judges p text (Ok (judgement.No reason number)))
last_wrong p q part reason number source w z h judged =
    let begun = h.begun in
    comes_any source _ _ (λ rest. record {
      proof = ended q false;
      is = ended_is q false begun.is;
      rest = w.line ++ 10 ∷ (w.behind ++ rest);
      begins = held_more (front_of q) w.line w.behind rest;
      wrong = inr (inr (record { lines = h.lines; answers = h.answers; ends = refl; is = h.counted }, fault_ended p q false reason judged.1));
      last = λ e. (w.behind ++ rest, last_feed part w.line (w.behind ++ rest) z judged.0);
    })

more_left : (xs rest : List ℕ) → xs ≢ [] → xs ++ rest ≢ []
more_left [] rest n e = n refl
more_left (x ∷ xs) rest n e = absurd cc

-- the whole proof is right
right_ended : (p : Program) (q : Proof) (part : Bool) (number : ℕ) → IsRightFront p q number → IsEndJudged p q part None → IsRight p (ended q part)
right_ended p q part number h judged =
    let a = h.answers in
    record {
      lines = h.lines;
      members = a.members;
      order = a.order;
      single = a.single;
      alike = a.alike;
      whole = λ e. whole_of (judged e);
      kept = λ e. kept_of (judged e);
    }
  where
    whole_of : IsComplete p q → list_any (closes p) q.lines ≡ true
    whole_of w = w.whole

    kept_of : IsComplete p q → AllByRecursion (Contains q.answers) (promised q.sought (found_of p q.lines))
    kept_of w = w.kept

pub last_more : (p : Program) (q : Proof) (part : Bool) (number : ℕ) (source now : Option (List ℕ)) (w new : Window) → w.line ≡ last_word part →
    IsRightFront p q number → IsEndJudged p q part None → HasMore source now w new (Ok true)
    → Comes source (front_of q ++ held w) (λ text. Judges p text (Err (error.Proof (proof.Refused (number + 1)))))
last_more p q part number source now w new z h judged more =
    let begun = h.begun in
    let m = moves_more source now (w.line ++ 10 ∷ w.behind) (w.line ++ 10 ∷ more.0) (front_of q) (feed_moved more.2) in
    comes_back source now (front_of q ++ held w) (front_of q ++ (w.line ++ 10 ∷ more.0)) _ m
    (comes_any now _ _ (λ rest. subst (λ (t : List ℕ). IsFaultAt p t (number + 1)) (held_more (front_of q) w.line more.0 rest) (record {
      first = first_as _ _ (number + 1) (last_followed (length q.lines + length q.answers + 2) q part w.line (more.0 ++ rest) begun z (more_left more.0 rest more.1)) (omega (arith, h.counted));
      right = inr (record {
        proof = ended q part;
        is = ended_is q part begun.is;
        rest = w.line ++ 10 ∷ (more.0 ++ rest);
        begins = refl;
        lines = h.lines;
        answers = h.answers;
        next = inr (omega (arith, h.counted), right_ended p q part number h judged);
      });
    })))
  where
    feed_moved : Moves source now w.behind more.0 → Moves source now (w.line ++ 10 ∷ w.behind) (w.line ++ 10 ∷ more.0)
    feed_moved m = moves_more source now (10 ∷ w.behind) (10 ∷ more.0) w.line (moves_more source now w.behind more.0 (10 ∷ []) m)

-- all of a text is a right proof's
shown : (p : Program) (q : Proof) (part : Bool) (count : ℕ) (text : List ℕ) → IsSound p → IsProof q → text_of (ended q part) ≡ text → IsRight p (ended q part) →
    length q.answers ≡ count → Judges p text (Ok (right_judgement part count))
shown p q true count text sound is same right counted = record {
  shown = record { proof = ended q true; is = ended_is q true is; same = same; right = right; ends = refl; shows = right-shows p (ended q true) sound right };
  counted = counted;
}
shown p q false count text sound is same right counted =
    record { proof = ended q false; is = ended_is q false is; same = same; right = right; ends = refl; shows = right-shows p (ended q false) sound right }

pub last_end : (p : Program) (q : Proof) (part : Bool) (number count : ℕ) (source now : Option (List ℕ)) (w new : Window) → w.line ≡ last_word part →
    IsRightFront p q number → length q.answers ≡ count → IsEndJudged p q part None → HasMore source now w new (Ok false)
    → Comes source (front_of q ++ held w) (λ text. Judges p text (Ok (right_judgement part count)))
last_end p q part number count source now w new z h counted judged none =
    let begun = h.begun in
    let text : text_of (ended q part) ≡ front_of q ++ held w = sym (last_whole q part w.line z) ∙ ap (λ (t : List ℕ). front_of q ++ (w.line ++ 10 ∷ t)) (sym none.0) in
    comes_back source now _ _ _ (stays none.1) (comes_end now _ _ none.2 (shown p q part count _ h.sound begun.is text (right_ended p q part number h judged) counted))
  where
    stays : Moves source now [] [] → Moves source now (front_of q ++ held w) (front_of q ++ held w)
    stays m = moves_as source now (front_of q ++ held w) ((front_of q ++ held w) ++ []) (front_of q ++ held w) (append-nil (front_of q ++ held w))
        (record { bytes = m.bytes; read = m.read; same = ap (λ (t : List ℕ). (front_of q ++ held w) ++ t) m.same })

pub last_failed : (p : Program) (source now : Option (List ℕ)) (bytes : List ℕ) (w new : Window) (e : ProofError) → HasMore source now w new (Err e) →
    Comes source bytes (λ text. Judges p text (Err (proof_error e)))
last_failed p source now bytes w new e h = rw h (comes_any source bytes _ (λ rest. tt))

-- ---- the first two lines
head_held : (w : Window) → w.line ≡ codes "proof 3" → head ++ w.behind ≡ held w
head_held w e = ap (λ (t : List ℕ). t ++ 10 ∷ w.behind) (sym e)

head_moves : (source now : Option (List ℕ)) (old : Window) (after : List ℕ) → old.line ≡ codes "proof 3" → Moves source now old.behind after → Moves source now (held old) (head ++ after)
head_moves source now old after e m = subst (λ (t : List ℕ). Moves source now t (head ++ after)) (head_held old e) (moves_more source now old.behind after head m)

pub head_failed : (p : Program) (source now : Option (List ℕ)) (old new : Window) (e : CheckError) → old.line ≡ codes "proof 3" →
    StepsTo source now old new (Err e) → Comes source (held old) (λ text. Judges p text (Err e))
head_failed p source now old new e z s = step_failed p source source now (held old) head old new e (moves_as source source (held old) _ _ (sym (head_held old z)) (moves_none source (held old))) s

pub head_broken : (p : Program) (source now : Option (List ℕ)) (old new : Window) → old.line ≡ codes "proof 3" →
    IsNextLine source now old new (Ok false) → Comes source (held old) (λ text. Judges p text (Err (error.Proof (proof.Refused 2))))
head_broken p source now old new z n =
    comes_back source now (held old) (head ++ new.line) _ (head_moves source now old new.line z n.1)
    (comes_end now _ _ n.2 (record { first = mode_broken new.line n.0; right = inl refl }))

pub head_refused : (p : Program) (source now : Option (List ℕ)) (old new : Window) → old.line ≡ codes "proof 3" →
    IsNextLine source now old new (Ok true) → ((sought : Sought) → mode_line sought ≡ line new.line → ⊥) →
    Comes source (held old) (λ text. Judges p text (Err (error.Proof (proof.Refused 2))))
head_refused p source now old new z n none = comes_back source now (held old) (head ++ held new) _ (head_moves source now old (held new) z n.1)
    (comes_any now _ _ (λ rest. record {
      first =
          subst (λ (t : List ℕ). IsFirstFault t 2) (held_more head new.line new.behind rest)
          (mode_refused new.line (new.behind ++ rest) n.0 none);
      right = inl refl;
    }))

pub head_goes : (p : Program) (source now : Option (List ℕ)) (old new : Window) (sought : Sought) (r : Result Judgement CheckError) →
    old.line ≡ codes "proof 3" → IsNextLine source now old new (Ok true) → mode_line sought ≡ line new.line
    → Comes now (front_of (proof_of sought [] []) ++ new.behind) (λ text. Judges p text r) → Comes source (held old) (λ text. Judges p text r)
head_goes p source now old new sought r z n mode_is c =
    comes_back source now (held old) (head ++ held new) _ (head_moves source now old (held new) z n.1) (comes_as now _ _ _ (front_mode sought new.line new.behind mode_is) c)

-- out of memory, or a failed read, may be answered of any text
pub no_memory : (p : Program) (source : Option (List ℕ)) (bytes : List ℕ) → Comes source bytes (λ text. Judges p text (Err error.Memory))
no_memory p source bytes = comes_any source bytes _ (λ rest. tt)
