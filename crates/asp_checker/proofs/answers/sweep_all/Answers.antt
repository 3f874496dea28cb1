use Rattle.std.proofs.Common.{length, map, ap, ◌∙◌}
use Rattle.asp_checker.specs.declared.nogoods.Visit.TheVariants as visit
use Rattle.asp_checker.specs.Lines.{nogood_of_answer}
use Rattle.asp_checker.proofs.CloseLaws.{rows_range}
use Rattle.asp_checker.proofs.AnswerLaws.{others_swept, answers_swept}
use Rattle.asp_checker.proofs.answers.sweep_all.Goals as goal

pub sweep-requires : goal.sweep-requires
sweep-requires c = rows_range c.args.compiled.now c.args.rows.now (length c.args.values.now) c.requires.size c.requires.of

pub sweep_answers-requires : goal.sweep_answers-requires
sweep_answers-requires c = ap length c.in-Fixpoint.ensures.0 ∙ c.requires.size

pub returns-in-Conflict : goal.returns-in-Conflict
returns-in-Conflict c = others_swept c.args.values.now c.sweep.new.values (map (nogood_of_answer c.args.compiled.now) c.args.listed.now) c.args.rows.now visit.Conflict (λ e. cc) c.in-Conflict.ensures

pub returns-in-Implied : goal.returns-in-Implied
returns-in-Implied c = others_swept c.args.values.now c.sweep.new.values (map (nogood_of_answer c.args.compiled.now) c.args.listed.now) c.args.rows.now visit.Implied (λ e. cc) c.in-Implied.ensures

pub returns-in-Fixpoint : goal.returns-in-Fixpoint
returns-in-Fixpoint c =
    answers_swept c.args.values.now c.sweep.new.values c.sweep_answers.new.values (map (nogood_of_answer c.args.compiled.now) c.args.listed.now)
    c.args.rows.now c.sweep_answers.result c.in-Fixpoint.ensures c.sweep_answers.ensures
