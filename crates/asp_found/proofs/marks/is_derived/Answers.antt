use Rattle.std.proofs.Common.{◌∙◌, sym}
use Rattle.asp_found.proofs.LeftLaws.{derived_here, derived_nowhere}
use Rattle.asp_found.proofs.marks.is_derived.Goals as goal

pub returns-then-stands_at : goal.returns-then-stands_at
returns-then-stands_at c =
    let at = c.stands_at.ensures.here c.if-stands_at.true in
    derived_here c.args.compiled.now c.args.derived.now c.as_slice.result.now c.args.atom c.args.place (c.as_slice.ensures.value ∙ c.atoms.ensures) at.0 at.1

pub returns-else-stands_at : goal.returns-else-stands_at
returns-else-stands_at c =
    c.if-stands_at.false ∙ derived_nowhere c.args.compiled.now c.args.derived.now c.as_slice.result.now c.args.atom
    (c.as_slice.ensures.value ∙ c.atoms.ensures) (sym c.stands_at.ensures.has ∙ c.if-stands_at.false)
