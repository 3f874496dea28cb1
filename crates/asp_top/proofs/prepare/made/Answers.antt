use Rattle.std.proofs.Common.{refl, arith}
use Rattle.asp_top.proofs.RunLaws.{over-memory, prepares, ready-ring}
use Rattle.asp_top.proofs.prepare.made.Goals as goal

pub returns-in-Ok : goal.returns-in-Ok
returns-in-Ok c = λ left reads make.
    prepares c.args.options.now left left reads reads c.in-Ok.program _
    (ready-ring c.args.options.now left reads c.args.nodes c.in-Ok.program make c.in-Ok.ensures.sound c.in-Ok.ensures.program)
    c.ready.ensures.same c.ready.ensures.numbers c.ready.ensures.wanting

pub returns-in-Err : goal.returns-in-Err
returns-in-Err c = λ left reads make. over-memory c.args.options.now left left reads reads _ refl (omega arith) refl
