use Rattle.std.proofs.Common.{◌∙◌}
use Rattle.asp_model.specs.Models.{atoms_of}
use Rattle.asp_found.proofs.MergeLaws.{marks_more}
use Rattle.asp_found.proofs.marks.marks_of.Goals as goal

pub loop-atom-preserved : goal.loop-atom-preserved
loop-atom-preserved c =
    marks_more (atoms_of c.args.compiled.now) c.args.interp.now c.as_slice-set.result.now c.as_slice-atom-items.result.now c.loop-atom.atom-index
    c.skip-place.result c.loop-atom.marks.items c.push-in-loop-atom.new.self.items c.stands_at.result
    c.as_slice-set.ensures.value (c.as_slice-atom-items.ensures.value ∙ c.atoms.ensures) c.as_slice-atom-items.ensures.ascending c.loop-atom-test.true
    c.skip-place.ensures c.stands_at.ensures.has c.in_ok-push-2.ensures.items c.loop-atom.invariant.0
