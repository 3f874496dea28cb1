use Rattle.std.proofs.Common.{◌∷◌, ◌++◌, [], append_assoc, arith}
use Rattle.std.proofs.lemmas.List.{length_push}
use Rattle.std.proofs.lemmas.List.Elements.{All-push}
use Rattle.asp_log.specs.Entries.{IsEntry}
use Rattle.asp_slots.proofs.calls.add_copies.Goals as goal

pub loop-at-preserved : goal.loop-at-preserved
loop-at-preserved g c =
    let so_far = c.loop-at.invariant in
    let entry = c.in_ok-wait_for.field-0 in (
      so_far.0 ++ entry ∷ [],
      rw (c.in_ok-push.ensures.items, so_far.1) (simp append_assoc),
      omega (arith, length_push so_far.0 entry, so_far.2, c.loop-at.auto.at),
      All-push (IsEntry c.args.row.now.program.value) so_far.0 entry so_far.3 c.in_ok-wait_for.ensures,
    )
