use Rattle.std.proofs.Common.{ℕ, sym, ap, subst}
use Rattle.asp_trail.specs.Told.{Told}
use Rattle.asp_trail.specs.Trails.{IsVar}
use Rattle.asp_propagate.specs.Propagating.{WasTold}
use Rattle.asp_propagate.proofs.TellLaws.{told_holds, told_fewer}
use Rattle.asp_propagate.proofs.telling.untell_at.Goals as goal

pub undo-requires-clause-var : goal.undo-requires-clause-var
undo-requires-clause-var g c = subst (λ (n : ℕ). IsVar n c.lit.result.var) c.requires.vars c.lit.ensures.var

pub undo-requires-clause-holds : goal.undo-requires-clause-holds
undo-requires-clause-holds g c =
    told_holds (g.P.Propagator.told c.args.propagator.now) c.args.trail.now c.args.i c.lit.result c.lit.ensures.lit c.len-len.ensures.ordered c.requires

pub returns-clause-told : goal.returns-clause-told
returns-clause-told g c =
    subst (λ (t : Told). WasTold t c.args.trail.now c.args.i) (sym c.undo.ensures.value)
    (told_fewer (g.P.Propagator.told c.args.propagator.now) c.args.trail.now c.args.i c.lit.result c.lit.ensures.lit c.len-len.ensures.ordered c.requires)

pub returns-clause-program : goal.returns-clause-program
returns-clause-program g c = ap (λ (t : Told). t.program) c.undo.ensures.value
