use Rattle.std.proofs.Common.{◌≡◌, length, map, take}
use Rattle.asp_checker.specs.Lines.{nogood_of_answer}
use Rattle.asp_checker.specs.Sweeps.{IsSweptSoFar}
use Rattle.asp_checker.proofs.answers.sweep_answers.Given as goal

abbrev pub invariant-loop-place : goal.invariant-loop-place
invariant-loop-place l =
    let nogoods = map (nogood_of_answer l.compiled) l.listed in
    record {
      size : length l.values ≡ length l.initial.values;
      so_far : IsSweptSoFar l.initial.values l.values nogoods (take l.place nogoods) l.came_to;
    }
