use Rattle.std.proofs.Common.{[], get_or, length, map, arith, subst}
use Rattle.std.proofs.lemmas.List.{get_or_default}
use Rattle.asp_checker.specs.Lines.{nogood_of_answer}
use Rattle.asp_checker.specs.Looks.{IsSeen}
use Rattle.asp_checker.specs.Sweeps.{IsNogoodOf}
use Rattle.asp_checker.proofs.SweepLaws.{row_of}
use Rattle.asp_checker.proofs.LookLaws.{among_range}
use Rattle.asp_checker.proofs.AnswerLaws.{answer_at, answer_count, answer_range}
use Rattle.asp_checker.proofs.chase.look_at_listed.Goals as goal

pub set_implied-requires-clause-within : goal.set_implied-requires-clause-within
set_implied-requires-clause-within c = λ l is.
    let n = length c.args.values.now in
    let S = get_or c.args.listed.now c.args.place [] in
    let nogood = nogood_of_answer c.args.compiled.now S in
    among_range n nogood l (answer_range c.args.compiled.now S n c.requires) (subst (IsSeen c.args.values.now nogood) is c.look_at_answer.ensures).among

pub returns : goal.returns
returns c = λ k known.
    let p = c.args.compiled.now in
    let S = get_or c.args.listed.now c.args.place [] in
    let count = answer_count p c.args.listed.now in
    c.set_implied.ensures k (nogood_of_answer p S)
    (row_of (IsNogoodOf p k) (map (nogood_of_answer p) c.args.listed.now) c.args.place (nogood_of_answer p S) (omega (arith, count))
    (answer_at p c.args.listed.now c.args.place S (omega arith) (get_or_default c.args.listed.now c.args.place [] S (omega arith))) known) c.look_at_answer.ensures
