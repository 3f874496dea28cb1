use Rattle.std.proofs.Common.{◌≡◌, ◌+◌, true, false, take}
use Rattle.std.specs.Prelude.{All, IfNone, IfSome}
use Rattle.asp_source.specs.Marks.{is_marked}
use Rattle.asp_source.proofs.loose.choose.Given as goal

abbrev pub invariant-loop-place : goal.invariant-loop-place
invariant-loop-place l =
    IfNone l.chosen (All (λ k. is_marked l.loose (k + 1) ≡ false) (take l.place-index l.places)) × IfSome l.chosen (λ v. is_marked l.loose v ≡ true)
