use Rattle.std.proofs.Common.{◌++◌, Bool, false, subst, sym, true}
use Rattle.std.specs.Prelude.{Some}
use Rattle.asp_series.specs.Asking.{IsEnough, IsReason}
use Rattle.asp_series.proofs.ShrinkLaws.{whole-reason}
use Rattle.asp_series.proofs.cores.reason.Goals as goal

pub least_reason-requires-clause-enough : goal.least_reason-requires-clause-enough
least_reason-requires-clause-enough g c =
    let p = c.args.asking.now.program.now in
    subst (IsEnough p (p.assumptions ++ c.args.asking.now.literals.now)) (sym c.as_slice.ensures.value) c.in_ok-literals.ensures

pub returns-else-asking-clause-reason : goal.returns-else-asking-clause-reason
returns-else-asking-clause-reason g c =
    let p = c.args.asking.now.program.now in
    let all = p.assumptions ++ c.args.asking.now.literals.now in
    subst (λ (b : Bool). IsReason b p all true c.args.asking.now.units (Some (record { literals = c.from_vec.result; minimal = false; spent = 0 }))) (sym c.if-asking.false)
    (whole-reason p all c.from_vec.result c.args.asking.now.units (subst (IsEnough p all) (sym c.from_vec.ensures) c.in_ok-literals.ensures))
