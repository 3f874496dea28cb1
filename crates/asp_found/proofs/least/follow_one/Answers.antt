use Rattle.std.proofs.lemmas.Result.{on_ok_weaker}
use Rattle.asp_found.proofs.LeastLaws.{looks}
use Rattle.asp_found.proofs.least.follow_one.Goals as goal

pub returns-clause-sound : goal.returns-clause-sound
returns-clause-sound c =
    on_ok_weaker c.derive_by.result (λ is.
    (looks c.args.compiled.now c.args.set.now c.args.marks.now c.derive_by.new.marks c.args.found.now.items c.derive_by.new.found.items
    c.args.occurrence.body c.program-program.ensures.sound (c.count_off-lacks_nothing.ensures c.if-not-lacks_nothing.false) c.requires.set
    c.requires.sound is).deriving_) c.derive_by.ensures

pub returns-clause-grows : goal.returns-clause-grows
returns-clause-grows c =
    on_ok_weaker c.derive_by.result (λ is.
    (looks c.args.compiled.now c.args.set.now c.args.marks.now c.derive_by.new.marks c.args.found.now.items c.derive_by.new.found.items
    c.args.occurrence.body c.program-program.ensures.sound (c.count_off-lacks_nothing.ensures c.if-not-lacks_nothing.false) c.requires.set
    c.requires.sound is).grows) c.derive_by.ensures
