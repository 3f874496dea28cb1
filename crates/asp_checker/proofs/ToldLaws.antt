-- What is told of a text holds of the proof whose text it is.
use Rattle.std.proofs.Common.{◌≡◌, ℕ, Bool, true, List, [], ◌++◌, length, take, get_or, inl, inr, refl, sym, ap, ◌∙◌, subst, arith, append-nil, length-append}
use Rattle.std.proofs.lemmas.List.{take-append-le, get_or_append_left}
use Rattle.asp_model.specs.declared.program.Program.{Program}
use Rattle.asp_proof.specs.declared.proof.Proof.{Proof}
use Rattle.asp_proof.specs.Texts.{line, last_word, text_of}
use Rattle.asp_proof.specs.Grammar.{IsProof}
use Rattle.asp_proof.specs.Walk.{IsStart, front_of}
use Rattle.asp_proof.proofs.TextLaws.{one_whole, start_of}
use Rattle.asp_checker.specs.declared.judge.Why.{Why}
use Rattle.asp_checker.specs.declared.judge.Why.TheVariants as why
use Rattle.asp_checker.specs.Lines.{AreConfirmed, first_gathered, gathered_after}
use Rattle.asp_checker.specs.Right.{IsRight}
use Rattle.asp_checker.specs.Judging.{AreRightAnswers, HasAnswerFault, HasLineFault, IsAnswerFault, ClaimsAll, HasLastFault, IsWrongAnswer, IsWrongLine, no_line}
use Rattle.asp_checker.specs.Streams.{is_last_fault, IsWrongAt}
use Rattle.asp_checker.proofs.WrongLaws.{refused-not_right}

-- what is wrong with a set stays so where more sets follow
answers_of : (p : Program) (q other : Proof) (w : Why) (place : ℕ) → IsStart q other → IsWrongAnswer p q.sought q.answers w place → IsWrongAnswer p other.sought other.answers w place
answers_of p q other w place s h =
    let front : take place other.answers ≡ take place q.answers = ap (take place) s.answers ∙ take-append-le place q.answers s.more_answers (omega (arith, h.within)) in
    let at : get_or other.answers place [] ≡ get_or q.answers place [] = ap (λ Ss. get_or Ss place []) s.answers ∙ get_or_append_left q.answers s.more_answers [] place h.within in
    record {
      within = omega (arith, ap length s.answers, length-append q.answers s.more_answers, h.within);
      before = subst (λ o. AreRightAnswers p o (take place other.answers)) s.mode (subst (AreRightAnswers p q.sought) (sym front) h.before);
      fault = subst (λ o. HasAnswerFault p o (take place other.answers) (get_or other.answers place []) w) s.mode
          (subst (λ Ss. HasAnswerFault p q.sought Ss (get_or other.answers place []) w) (sym front) (subst (λ S. HasAnswerFault p q.sought (take place q.answers) S w) (sym at) h.fault));
    }

-- the same of a line
lines_of : (p : Program) (q other : Proof) (w : Why) (place : ℕ) → IsStart q other → IsWrongLine p q.sought q.lines w place → IsWrongLine p other.sought other.lines w place
lines_of p q other w place s h =
    let g = first_gathered p in
    let front : take place other.lines ≡ take place q.lines = ap (take place) s.lines ∙ take-append-le place q.lines s.more_lines (omega (arith, h.within)) in
    let at : get_or other.lines place no_line ≡ get_or q.lines place no_line = ap (λ ls. get_or ls place no_line) s.lines ∙ get_or_append_left q.lines s.more_lines no_line place h.within in
    record {
      within = omega (arith, ap length s.lines, length-append q.lines s.more_lines, h.within);
      before = subst (λ o. AreConfirmed p o g (take place other.lines)) s.mode (subst (AreConfirmed p q.sought g) (sym front) h.before);
      fault = subst (λ o. HasLineFault p o (gathered_after g (take place other.lines)) (get_or other.lines place no_line) w) s.mode
          (subst (λ ls. HasLineFault p q.sought (gathered_after g ls) (get_or other.lines place no_line) w) (sym front)
          (subst (λ l. HasLineFault p q.sought (gathered_after g (take place q.lines)) l w) (sym at) h.fault));
    }

-- a fault of the last line is one
last_one : (p : Program) (proof : Proof) (w : Why) → HasLastFault p proof w → is_last_fault w ≡ true
last_one p proof why.NotWhole h = refl
last_one p proof why.NotListed h = refl
last_one p proof why.Member h = absurd h
last_one p proof why.Order h = absurd h
last_one p proof why.Literal h = absurd h
last_one p proof why.Loop h = absurd h
last_one p proof why.NotImplied h = absurd h
last_one p proof why.Cost h = absurd h

pub told-not_right : (p : Program) (proof : Proof) (w : Why) (number : ℕ) → IsProof proof → IsRight p proof → IsWrongAt p (text_of proof) w number → ⊥
told-not_right p proof w number is right h = refused-not_right p proof w number right (elim h.wrong [
  | inl l ↦ inl (record { place = l.place; wrong = lines_of p h.proof proof w l.place start l.wrong; is = l.is })
  | inr others ↦ elim others [
    | inl a ↦ inr (inl (of_answer a))
    | inr n ↦ inr (inr (of_whole n))
  ]
])
  where
    start : IsStart h.proof proof
    start = start_of proof h.proof h.rest is h.is h.begins

    of_answer : IsAnswerFault p h.proof w number → IsAnswerFault p proof w number
    of_answer a =
        let b = a.wrong in
        let none = start.all_lines (omega (arith, b.within)) in
        let same : h.proof.lines ≡ proof.lines = sym (start.lines ∙ ap (λ ls. h.proof.lines ++ ls) none ∙ append-nil h.proof.lines) in
        record {
          lines = subst (AreConfirmed p proof.sought (first_gathered p)) same (subst (λ o. AreConfirmed p o (first_gathered p) h.proof.lines) start.mode a.lines);
          place = a.place;
          wrong = answers_of p h.proof proof w a.place start b;
          is = omega (arith, a.is, ap length same);
        }

    of_whole : ClaimsAll p h.proof number × HasLastFault p h.proof w → ClaimsAll p proof number × HasLastFault p proof w
    of_whole n =
        let claims = n.0 in
        let last = h.last (last_one p h.proof w n.1) in
        let ends = ap (λ (b : Bool). line (last_word b) ++ last.0) claims.ends in
        let same : h.proof ≡ proof = one_whole h.proof proof last.0 h.is is (ap (λ (t : List ℕ). front_of h.proof ++ t) (ends ∙ last.1) ∙ h.begins) in
        subst (λ q. ClaimsAll p q number × HasLastFault p q w) same n
