use Rattle.std.proofs.Common.{None, sym, ap, ◌∙◌, arith}
use Rattle.std.specs.Option.{option_map}
use Rattle.std.proofs.lemmas.List.{get_or_past}
use Rattle.asp_trail.proofs.EntryLaws.{same_default}
use Rattle.asp_store.specs.declared.stored_nogood.StoredNogood.{StoredNogood}
use Rattle.asp_store.proofs.visits.lits_at.Goals as goal

pub returns-then-id-slots : goal.returns-then-id-slots
returns-then-id-slots c = ap (option_map (λ (x : StoredNogood). x.nogood)) (get_or_past c.args.slots.now c.args.id None (omega arith))

pub returns-in-None : goal.returns-in-None
returns-in-None c = ap (option_map (λ (x : StoredNogood). x.nogood)) (same_default c.args.slots.now c.args.id None c.index-slots-id.result (omega arith) ∙ (sym c.index-slots-id.is ∙ c.in-None.is))

pub returns-in-Some : goal.returns-in-Some
returns-in-Some c = (
  c.in-Some.kept.nogood,
  ap (option_map (λ (x : StoredNogood). x.nogood)) (same_default c.args.slots.now c.args.id None c.index-slots-id.result (omega arith) ∙ (sym c.index-slots-id.is ∙ c.in-Some.is)),
  sym c.as_slice.ensures.value,
)
