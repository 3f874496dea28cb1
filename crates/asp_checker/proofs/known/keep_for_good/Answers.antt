use Rattle.std.proofs.Common.{◌∙◌}
use Rattle.asp_checker.specs.Lines.{avoided}
use Rattle.asp_checker.proofs.TightLaws.{root_kept}
use Rattle.asp_checker.proofs.known.keep_for_good.Goals as goal

pub learn-requires-clause-root : goal.learn-requires-clause-root
learn-requires-clause-root c =
    let h = c.args.known.now in
    root_kept c.args.compiled.now c.avoided-listed.result (avoided c.args.sought h.found.sets) h.rows.kept.items c.as_slice-rows.result.now c.args.lits
    h.bound h.values c.avoided-listed.ensures
    (c.as_slice-rows.ensures.value ∙ c.in_ok-push.ensures.items) c.requires.ready.root
