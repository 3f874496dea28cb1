use Rattle.std.proofs.Common.{arith}
use Rattle.asp_trail.specs.Entries.{assignment}
use Rattle.asp_split.proofs.OpenLaws.{least_open-is}
use Rattle.asp_split.proofs.open.least_open.Goals as goal

pub returns-in-Some : goal.returns-in-Some
returns-in-Some c =
    let w = c.in-Some.ensures.within in
    let a = assignment c.args.trail.now.vars c.args.trail.now.entries in
    least_open-is c.args.compiled.now a c.in-Some.var c.atom.result c.program-program.ensures.sound w.0 (omega (arith, w.1, c.atom_count.ensures.count)) c.in-Some.ensures.decided c.atom.ensures
