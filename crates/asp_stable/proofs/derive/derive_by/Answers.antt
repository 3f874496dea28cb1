use Rattle.std.proofs.Common.{sym, ◌∙◌}
use Rattle.asp_stable.proofs.FoundingLaws.{looks}
use Rattle.asp_stable.proofs.derive.derive_by.Goals as goal

pub returns : goal.returns
returns c =
    looks c.args.compiled.now c.args.assign.now c.args.marks.now c.derive_all.new.marks c.heads.result.now c.args.body c.heads.ensures.heads c.program-program.ensures.sound c.requires.body
    (sym c.holds-holds.ensures ∙ c.if-not-holds.false) c.derive_all.ensures c.requires.derived
