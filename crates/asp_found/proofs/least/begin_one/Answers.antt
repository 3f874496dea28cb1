use Rattle.std.proofs.lemmas.Result.{on_ok_weaker}
use Rattle.asp_found.proofs.LeastLaws.{looks}
use Rattle.asp_found.proofs.least.begin_one.Goals as goal

pub returns : goal.returns
returns c =
    on_ok_weaker c.derive_by.result (λ is.
    (looks c.args.compiled.now c.args.set.now c.args.marks.now c.derive_by.new.marks c.args.found.now.items c.derive_by.new.found.items
    c.args.body c.program-program.ensures.sound c.requires.body c.requires.set c.requires.sound is).deriving_) c.derive_by.ensures
