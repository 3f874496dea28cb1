use Rattle.std.proofs.Common.{◌≡◌, [], ◌++◌}
use Rattle.asp_proof.specs.Walk.{front_of, proof_of}
use Rattle.asp_checker.specs.Judging.{IsReady}
use Rattle.asp_checker.specs.Streams.{AreSoFar}
use Rattle.asp_checker.proofs.stream.judge_lines.Given as goal

abbrev pub invariant-lines : goal.invariant-lines
invariant-lines g l = record {
  ready : IsReady l.compiled l.sought l.known;
  so_far : AreSoFar l.compiled l.sought l.known l.tally (g.S.Source.left l.initial.source) (g.S.Source.left l.source) (front_of (proof_of l.sought [] []) ++ l.initial.reader.behind) l.reader.behind;
  count : l.tally.count ≡ l.at;
  quiet : g.S.Source.faults l.source ≡ g.S.Source.faults l.initial.source;
}
