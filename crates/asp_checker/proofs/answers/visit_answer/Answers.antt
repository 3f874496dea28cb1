use Rattle.std.proofs.Common.{[], get_or, length}
use Rattle.asp_checker.specs.Lines.{nogood_of_answer}
use Rattle.asp_checker.proofs.LookLaws.{among_range}
use Rattle.asp_checker.proofs.AnswerLaws.{answer_range}
use Rattle.asp_checker.proofs.answers.visit_answer.Goals as goal

pub set-requires : goal.set-requires
set-requires c =
    let n = length c.args.values.now in
    let S = get_or c.args.listed.now c.args.place [] in
    rw c.complement.ensures (among_range n (nogood_of_answer c.args.compiled.now S) c.in-Unit.lit (answer_range c.args.compiled.now S n c.requires.size) c.in-Unit.ensures.among)
