use Rattle.std.proofs.Common.{[], get_or, ◌∙◌, length, map, take, arith}
use Rattle.std.proofs.lemmas.List.{get_or_default}
use Rattle.asp_checker.specs.Lines.{nogood_of_answer}
use Rattle.asp_checker.proofs.SweepLaws.{swept_more, swept_conflict, swept_whole, same_size}
use Rattle.asp_checker.proofs.AnswerLaws.{answer_at, answer_count, answers_range}
use Rattle.asp_checker.proofs.answers.sweep_answers.Goals as goal

pub loop-place-preserved : goal.loop-place-preserved
loop-place-preserved c =
    let p = c.args.compiled.now in
    let x = c.loop-place.values in
    let i = c.loop-place.place in
    let S = get_or c.args.listed.now i [] in
    let n = nogood_of_answer p S in
    let count = answer_count p c.args.listed.now in
    record {
      size = same_size x c.visit_answer-visit.new.values n c.visit_answer-visit.result c.visit_answer-visit.ensures ∙ c.loop-place.invariant.size;
      so_far = rw c.later-came_to.ensures
          (swept_more c.args.values.now x c.visit_answer-visit.new.values (map (nogood_of_answer p) c.args.listed.now) i n
          c.loop-place.came_to c.visit_answer-visit.result (omega (arith, count, c.loop-place-test.true))
          (answer_at p c.args.listed.now i S (omega arith) (get_or_default c.args.listed.now i [] S (omega arith)))
          (answers_range p c.args.listed.now (length x) (c.loop-place.invariant.size ∙ c.requires)) c.in_default.not-Conflict
          c.loop-place.invariant.so_far c.visit_answer-visit.ensures);
    }

pub returns-in-Conflict : goal.returns-in-Conflict
returns-in-Conflict c =
    let p = c.args.compiled.now in
    let nogoods = map (nogood_of_answer p) c.args.listed.now in
    let i = c.loop-place.place in
    let S = get_or c.args.listed.now i [] in
    let count = answer_count p c.args.listed.now in
    swept_conflict c.args.values.now c.loop-place.values c.visit_answer-visit.new.values nogoods (take i nogoods)
    i (nogood_of_answer p S) c.loop-place.came_to (omega (arith, count, c.loop-place-test.true))
    (answer_at p c.args.listed.now i S (omega arith) (get_or_default c.args.listed.now i [] S (omega arith))) c.loop-place.invariant.so_far c.in-Conflict.ensures

pub returns : goal.returns
returns c =
    let p = c.args.compiled.now in
    let count = answer_count p c.args.listed.now in
    swept_whole c.args.values.now c.loop-place.values (map (nogood_of_answer p) c.args.listed.now) c.loop-place.place c.loop-place.came_to
    (omega (arith, count, c.loop-place-test.false)) c.loop-place.invariant.so_far
