use Rattle.std.specs.Option.{option_copied}
use Rattle.asp_buffer.proofs.OutLaws.{midway_more, midway_fails}
use Rattle.asp_scribe.specs.Lists.{differs, set_of}
use Rattle.asp_scribe.proofs.ListLaws.{changed-turn}
use Rattle.asp_scribe.proofs.list.put_each_changed.Goals as goal

pub returns-in_err-put_if_changed : goal.returns-in_err-put_if_changed
returns-in_err-put_if_changed g c =
    midway_fails _ _ _ _ _ _ _ _ _ _ c.loop-place.invariant c.in_err-put_if_changed.ensures
    (changed-turn (differs (set_of (option_copied c.args.last)) c.args.row.now.set) c.args.atoms.now c.loop-place.place c.loop-place-test.true) c.from_residual.ensures.1

pub loop-place-preserved : goal.loop-place-preserved
loop-place-preserved g c =
    midway_more _ _ _ _ _ _ _ _ c.loop-place.invariant c.in_ok-put_if_changed.ensures
    (changed-turn (differs (set_of (option_copied c.args.last)) c.args.row.now.set) c.args.atoms.now c.loop-place.place c.loop-place-test.true)
