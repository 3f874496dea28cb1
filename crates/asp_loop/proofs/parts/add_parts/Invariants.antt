use Rattle.std.proofs.Common.{map, take}
use Rattle.asp_model.specs.Sets.{Atoms}
use Rattle.asp_loop.specs.Weighing.{AreVarsOf}
use Rattle.asp_loop.specs.Parts.{AddsAll, form_of}
use Rattle.asp_loop.proofs.parts.add_parts.Given as goal

abbrev pub invariant-loop-body : goal.invariant-loop-body
invariant-loop-body l =
    (U : Atoms) → AreVarsOf l.compiled U l.vars → AddsAll l.compiled l.assign U (map (form_of l.compiled) (take l.body-index l.bodies)) l.initial.lits l.lits
