use Rattle.std.proofs.Common.{◌≡◌, drop, map}
use Rattle.std.specs.Prelude.{string_bytes}
use Rattle.asp_checkrun.specs.Given.{start, walked}
use Rattle.asp_checkrun.proofs.words.walk.Given as goal

abbrev pub invariant-loop-word : goal.invariant-loop-word
invariant-loop-word l = walked l.state (map string_bytes (drop l.word-index l.words)) ≡ walked start (map string_bytes l.words)
