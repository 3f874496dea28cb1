use Rattle.std.proofs.Common.{not, ◌∙◌}
use Rattle.asp_model.specs.Sets.{has}
use Rattle.asp_model.specs.Models.{atoms_of}
use Rattle.asp_found.specs.Marks.{shown}
use Rattle.asp_found.proofs.MergeLaws.{rest_more}
use Rattle.asp_found.proofs.marks.underived.Goals as goal

pub loop-atom-preserved : goal.loop-atom-preserved
loop-atom-preserved c =
    rest_more (λ a. not (has (shown c.args.compiled.now c.args.derived.now) a)) (atoms_of c.args.compiled.now) c.args.interp.now
    c.as_slice-atom-items.result.now c.as_slice-atoms.result.now c.loop-atom.atom-index c.skip-place.result c.loop-atom.rest.items
    c.push_underived.new.rest.items
    c.as_slice-atom-items.ensures.value (c.as_slice-atoms.ensures.value ∙ c.atoms.ensures) c.as_slice-atom-items.ensures.ascending
    c.loop-atom-test.true c.skip-place.ensures c.in_ok-push_underived.ensures c.loop-atom.invariant.0
