use Rattle.std.proofs.Common.{◌++◌, length, map, ap, ◌∙◌}
use Rattle.asp_checker.specs.declared.nogoods.Visit.TheVariants as visit
use Rattle.asp_checker.specs.Lines.{nogood_of_answer}
use Rattle.asp_checker.proofs.CloseLaws.{step_swept, step_further}
use Rattle.asp_checker.proofs.AnswerLaws.{all_of_program}
use Rattle.asp_checker.proofs.close.step.Goals as goal

pub look_further-requires-clause-size : goal.look_further-requires-clause-size
look_further-requires-clause-size c = ap length c.in-Fixpoint.ensures.0 ∙ c.requires.size

pub returns-in-Conflict : goal.returns-in-Conflict
returns-in-Conflict c =
    step_swept c.args.compiled.now (c.args.placed.now ++ (map (nogood_of_answer c.args.compiled.now) c.args.listed.now ++ c.args.rows.now))
    c.args.bound.now c.args.values.now c.sweep_known.new.values visit.Conflict
    (all_of_program c.args.compiled.now c.args.listed.now c.args.rows.now c.args.placed.now c.requires.of c.requires.placed) (λ e. cc)
    c.in-Conflict.ensures

pub returns-in-Implied : goal.returns-in-Implied
returns-in-Implied c =
    step_swept c.args.compiled.now (c.args.placed.now ++ (map (nogood_of_answer c.args.compiled.now) c.args.listed.now ++ c.args.rows.now))
    c.args.bound.now c.args.values.now c.sweep_known.new.values visit.Implied
    (all_of_program c.args.compiled.now c.args.listed.now c.args.rows.now c.args.placed.now c.requires.of c.requires.placed) (λ e. cc)
    c.in-Implied.ensures

pub returns-in-Fixpoint : goal.returns-in-Fixpoint
returns-in-Fixpoint c =
    let nogoods = c.args.placed.now ++ (map (nogood_of_answer c.args.compiled.now) c.args.listed.now ++ c.args.rows.now) in
    step_further c.args.compiled.now nogoods c.args.bound.now c.args.values.now c.sweep_known.new.values c.look_further.new.values
    c.look_further.result c.requires.size c.in-Fixpoint.ensures (c.look_further.ensures nogoods)
