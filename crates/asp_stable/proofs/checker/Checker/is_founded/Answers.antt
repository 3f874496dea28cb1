use Rattle.std.proofs.Common.{sym, ◌∙◌, subst}
use Rattle.asp_model.specs.declared.program.Program.{Program}
use Rattle.asp_stable.specs.Founding.{IsDerived}
use Rattle.asp_stable.proofs.FoundingLaws.{empty_derived}
use Rattle.asp_stable.proofs.checker.Checker.is_founded.Goals as goal

pub returns-then-is_empty-clause-founded : goal.returns-then-is_empty-clause-founded
returns-then-is_empty-clause-founded c = λ e.
    subst (λ (q : Program). IsDerived q c.args.assign.now) c.self.view_is
    (empty_derived c.self.inside.compiled.now c.args.assign.now c.self.inside.flat.items c.self.inside.loops.items c.as_slice.result.now
    c.self.invariant.size c.self.invariant.loopless c.self.invariant.listed
    c.as_slice.ensures.value (sym c.is_empty.ensures ∙ c.if-is_empty.true))

pub returns-clause-founded : goal.returns-clause-founded
returns-clause-founded c = λ e. subst (λ (q : Program). IsDerived q c.args.assign.now) c.self.view_is (c.derives.ensures e)
