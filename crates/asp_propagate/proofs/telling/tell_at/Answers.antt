use Rattle.std.proofs.Common.{ℕ, ◌+◌, sym, ap, subst}
use Rattle.asp_trail.specs.Told.{Told}
use Rattle.asp_trail.specs.Trails.{IsVar}
use Rattle.asp_propagate.specs.Propagating.{WasTold}
use Rattle.asp_propagate.proofs.TellLaws.{not_told, told_more}
use Rattle.asp_propagate.proofs.telling.tell_at.Goals as goal

pub assign-requires-clause-var : goal.assign-requires-clause-var
assign-requires-clause-var g c = subst (λ (n : ℕ). IsVar n c.lit.result.var) c.requires.told.vars c.lit.ensures.var

pub assign-requires-clause-none : goal.assign-requires-clause-none
assign-requires-clause-none g c =
    not_told (g.P.Propagator.told c.args.propagator.now) c.args.trail.now c.args.i c.lit.result c.lit.ensures.lit c.len-len.ensures.ordered c.requires.within c.requires.told

pub returns-clause-told : goal.returns-clause-told
returns-clause-told g c =
    subst (λ (t : Told). WasTold t c.args.trail.now (c.args.i + 1)) (sym c.assign.ensures.value)
    (told_more (g.P.Propagator.told c.args.propagator.now) c.args.trail.now c.args.i c.lit.result c.lit.ensures.lit c.requires.within c.requires.told)

pub returns-clause-program : goal.returns-clause-program
returns-clause-program g c = ap (λ (t : Told). t.program) c.assign.ensures.value
