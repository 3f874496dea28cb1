use Rattle.std.proofs.Common.{[], ◌∷◌, ◌++◌, sym, ap, ◌∙◌}
use Rattle.asp_rows.specs.Listed.{Listed}
use Rattle.asp_checker.specs.Lines.{avoided}
use Rattle.asp_checker.proofs.SetListLaws.{among_found}
use Rattle.asp_checker.proofs.TightLaws.{root_as, root_found}
use Rattle.asp_checker.proofs.found.keep_found.Goals as goal

pub push-requires : goal.push-requires
push-requires c =
    let h = c.args.known.now in
    among_found c.args.compiled.now c.args.sought h.found.sets h.found.atoms c.args.set c.requires.ready.atoms c.requires.may

pub learn_bound-requires-clause-root : goal.learn_bound-requires-clause-root
learn_bound-requires-clause-root c =
    let p = c.args.compiled.now in
    let h = c.args.known.now in
    let ready = c.requires.ready in
    let o = c.args.sought in
    root_as p (avoided o (h.found.sets ++ c.args.set ∷ [])) c.avoided-listed.result h.rows.kept.items c.as_slice-rows.result.now c.tighten.new.bound h.values
    (sym (c.avoided-listed.ensures ∙ ap (λ (l : Listed). avoided o l.sets) c.in_ok-push.ensures.ok)) (sym c.as_slice-rows.ensures.value)
    (root_found p o h.found.sets c.args.set h.rows.kept.items h.bound c.tighten.new.bound h.values c.requires.may ready.bound
    c.in_ok-tighten.ensures.cost ready.root)
