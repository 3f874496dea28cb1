use Rattle.std.proofs.Common.{drop}
use Rattle.asp_model.specs.Sets.{IsAscending}
use Rattle.asp_buffer.specs.Out.{out}
use Rattle.asp_proof.specs.Texts.{lines}
use Rattle.asp_proof.specs.Texts.{answer_text}
use Rattle.asp_proof.specs.Changes.{changes_from, changes_of}
use Rattle.asp_buffer.proofs.OutLaws.{Midway}
use Rattle.asp_proof.proofs.write.put_answers.Given as goal

abbrev pub invariant-loop-answer : goal.invariant-loop-answer
invariant-loop-answer g l = record {
  ascending : IsAscending l.last;
  midway : Midway (out (g.K.Sink.held l.initial.sink) (g.K.Sink.faults l.initial.sink) l.initial.waiting)
      (out (g.K.Sink.held l.sink) (g.K.Sink.faults l.sink) l.waiting)
      (lines answer_text (changes_of l.answers)) (lines answer_text (changes_from l.last (drop l.answer-index l.answers)));
}
