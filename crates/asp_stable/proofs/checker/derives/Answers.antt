use Rattle.asp_stable.proofs.FoundingLaws.{all_derived}
use Rattle.asp_stable.proofs.checker.derives.Goals as goal

pub returns : goal.returns
returns c = λ e.
    all_derived c.args.by.now.compiled.now c.args.by.now.assign.now c.args.by.now.flat.now c.propagate.new.marks c.args.loops.now
    c.requires.checker.size c.requires.checker.loopless c.requires.checker.listed
    c.propagate.ensures (c.are_marked.ensures e)
