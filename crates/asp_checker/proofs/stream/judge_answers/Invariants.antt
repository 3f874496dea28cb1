use Rattle.std.proofs.Common.{◌≡◌, Bool, List, [], ◌++◌}
use Rattle.asp_model.specs.Sets.{Atoms}
use Rattle.asp_proof.specs.declared.proof.Line.{Line}
use Rattle.asp_proof.specs.Walk.{front_of, proof_of}
use Rattle.asp_proof.specs.Reading.{held}
use Rattle.asp_checker.specs.Judging.{AreRightAnswers}
use Rattle.asp_checker.specs.Streams.{AreLinesOf, AreListed}
use Rattle.asp_checker.proofs.stream.judge_answers.Given as goal

abbrev pub invariant-answers : goal.invariant-answers
invariant-answers g l = record {
  atoms : l.answers.atoms ≡ l.initial.answers.atoms;
  right : AreRightAnswers l.compiled l.sought l.answers.sets;
  listed : (entries : List Line) (whole : Bool) (found : List Atoms) → AreLinesOf l.compiled l.sought entries l.count whole found l.initial.reader →
      AreListed l.compiled l.sought entries l.answers.sets (g.S.Source.left l.initial.source) (g.S.Source.left l.source)
      (front_of (proof_of l.sought entries []) ++ held l.initial.reader) l.reader;
  quiet : g.S.Source.faults l.source ≡ g.S.Source.faults l.initial.source;
}
