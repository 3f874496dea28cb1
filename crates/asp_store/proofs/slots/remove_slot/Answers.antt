use Rattle.std.proofs.Common.{◌≡◌, List, Option, None, cond, sym, ap, arith, ◌∙◌}
use Rattle.std.specs.List.{count_by}
use Rattle.asp_store.specs.declared.stored_nogood.StoredNogood.{StoredNogood}
use Rattle.asp_store.specs.Keeping.{is_extra, kept_at}
use Rattle.asp_trail.proofs.EntryLaws.{same_default}
use Rattle.asp_store.proofs.StoreLaws.{removed_count}
use Rattle.asp_store.proofs.slots.remove_slot.Goals as goal

pub returns-clause-count : goal.returns-clause-count
returns-clause-count c =
    let xs : List (Option StoredNogood) = c.args.slots.now in
    let one : cond (is_extra (kept_at xs c.args.id)) 1 0 ≡ c.count_extra-count.result =
    ap (λ (o : Option StoredNogood). cond (is_extra o) 1 0) (same_default xs c.args.id None c.index-slots-id.result c.requires) ∙ sym c.count_extra-count.ensures in
    omega (arith, one, removed_count xs c.args.id, ap (count_by is_extra) c.drop_slot.ensures)
