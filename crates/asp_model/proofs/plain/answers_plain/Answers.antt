use Rattle.std.proofs.Common.{◌∙◌, ap, ◌++◌, filter, sym}
use Rattle.asp_model.specs.Sets.{subsets}
use Rattle.asp_model.specs.Walks.{is_answer}
use Rattle.asp_model.proofs.BestLaws.{answers-filtered, filter_first}
use Rattle.asp_model.proofs.plain.answers_plain.Goals as goal

pub sets-init : goal.sets-init
sets-init c =
    let p = c.args.program.now in
    ap (λ found. found ++ filter (is_answer p) c.in_ok-subsets.subsets) c.new-found.ensures.items
    ∙ ap (filter (is_answer p)) (c.in_ok-subsets.ensures ∙ ap subsets c.in_ok-atoms.ensures)
    ∙ answers-filtered p

pub sets-preserved : goal.sets-preserved
sets-preserved c =
    let p = c.args.program.now in
    let left = rw c.in-Some.is at c.in_ok-interp.ensures.ok in
    ap (λ found. found ++ filter (is_answer p) c.next.new.self) c.in_ok-keep_answer.ensures
    ∙ filter_first (is_answer p c.in-Some.interp) c.in-Some.interp c.sets.found.items (filter (is_answer p) c.next.new.self)
    ∙ ap (λ Ss. c.sets.found.items ++ filter (is_answer p) Ss) (sym left)
    ∙ c.sets.invariant
