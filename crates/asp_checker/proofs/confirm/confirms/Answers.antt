use Rattle.std.proofs.Common.{◌+◌, ◌++◌, map, sym, ap, subst, ◌∙◌}
use Rattle.asp_checker.specs.Lines.{nogood_of_answer}
use Rattle.asp_checker.specs.Rows.{known_before}
use Rattle.asp_checker.specs.Chasing.{AreTakenBack}
use Rattle.asp_checker.proofs.ChaseLaws.{trailed_from, root_undone, root_stocked}
use Rattle.asp_checker.proofs.confirm.confirms.Goals as goal

pub confirms_by-requires-clause-root : goal.confirms_by-requires-clause-root
confirms_by-requires-clause-root c =
    root_stocked c.args.compiled.now (map (nogood_of_answer c.args.compiled.now) c.args.known.now.listed.now ++ c.args.known.now.kept.now)
    c.args.known.now.placed.now c.args.known.now.bound.now c.args.values.now c.requires.root

pub undo-requires : goal.undo-requires
undo-requires c =
    let trailed = trailed_from c.args.values.now c.confirms_by.new.values c.new-trail.result.items c.confirms_by.new.trail.items c.new-trail.ensures.items c.in_ok-confirmed.ensures.trailed in
    trailed.size ∙ c.requires.root.size ∙ ap (λ n. n + 1) (sym c.vars.ensures.count)

pub returns-clause-root : goal.returns-clause-root
returns-clause-root c =
    root_undone c.args.compiled.now (known_before c.args.compiled.now c.args.known.now) c.args.values.now c.confirms_by.new.values c.undo.new.values
    c.new-trail.result.items c.confirms_by.new.trail.items c.requires.root c.new-trail.ensures.items
    c.in_ok-confirmed.ensures.trailed c.undo.ensures.size c.undo.ensures.within (subst (AreTakenBack c.undo.new.values) c.as_slice.ensures.value c.undo.ensures.none)
