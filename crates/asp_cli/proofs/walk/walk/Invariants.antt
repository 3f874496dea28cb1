use Rattle.std.proofs.Common.{◌≡◌, drop, map}
use Rattle.std.specs.Prelude.{IfSome, string_bytes}
use Rattle.asp_cli.specs.Found.{AreApart, AreAsking, start}
use Rattle.asp_cli.specs.Given.{walked}
use Rattle.asp_cli.specs.Values.{IsCrew, IsPartCount, IsRing}
use Rattle.asp_cli.proofs.walk.walk.Given as goal

abbrev pub invariant-loop-word : goal.invariant-loop-word
invariant-loop-word l = record {
  same : walked l.state (map string_bytes (drop l.word-index l.words)) ≡ walked start (map string_bytes l.words);
  ring : IsRing l.state.found.make;
  crew : IfSome l.state.found.workers IsCrew;
  parts : IsPartCount l.state.found.split;
  apart : AreApart l.state.found;
  asking : AreAsking l.state.found;
}
