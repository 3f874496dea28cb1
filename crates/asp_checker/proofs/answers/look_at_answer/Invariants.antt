use Rattle.std.proofs.Common.{[], get_or, take}
use Rattle.asp_checker.specs.Lines.{nogood_of_answer}
use Rattle.asp_checker.specs.Looks.{IsSeen}
use Rattle.asp_checker.proofs.answers.look_at_answer.Given as goal

abbrev pub invariant-loop-at : goal.invariant-loop-at
invariant-loop-at l = IsSeen l.values (take l.at (nogood_of_answer l.compiled (get_or l.listed l.place []))) l.look
