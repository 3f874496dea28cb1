use Rattle.asp_loop.proofs.LoopLaws.{supports_more}
use Rattle.asp_loop.proofs.loops.support_numbers.Goals as goal

pub loop-atom-preserved : goal.loop-atom-preserved
loop-atom-preserved c =
    supports_more c.args.compiled.now c.args.atoms.now c.loop-atom.atom-index c.atom_var.result c.loop-atom.numbers.items
    c.extend_from_slice.new.self.items c.supports.result.now c.loop-atom-test.true (c.requires c.loop-atom.atom-index 0 c.loop-atom-test.true)
    c.atom_var.ensures.var c.supports.ensures.supports c.loop-atom.invariant c.in_ok-extend_from_slice.ensures.items
