use Rattle.std.proofs.Common.{None, sym, ap, ◌∙◌, arith}
use Rattle.std.proofs.lemmas.List.{get_or_past}
use Rattle.asp_trail.proofs.EntryLaws.{same_default}
use Rattle.asp_store.specs.Keeping.{is_from_propagator}
use Rattle.asp_store.proofs.given.is_from_propagator_at.Goals as goal

pub returns-then-id-slots : goal.returns-then-id-slots
returns-then-id-slots c = sym (ap is_from_propagator (get_or_past c.args.slots.now c.args.id None (omega arith)))

pub returns-in-None : goal.returns-in-None
returns-in-None c = sym (ap is_from_propagator (same_default c.args.slots.now c.args.id None c.index-slots-id.result (omega arith) ∙ (sym c.index-slots-id.is ∙ c.in-None.is)))

pub returns-in-Some : goal.returns-in-Some
returns-in-Some c =
    c.is_from_propagator.ensures
    ∙ sym (ap is_from_propagator (same_default c.args.slots.now c.args.id None c.index-slots-id.result (omega arith) ∙ (sym c.index-slots-id.is ∙ c.in-Some.is)))
