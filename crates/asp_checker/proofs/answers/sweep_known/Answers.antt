use Rattle.std.proofs.Common.{◌++◌, length, map, ap, ◌∙◌}
use Rattle.asp_checker.specs.declared.nogoods.Visit.TheVariants as visit
use Rattle.asp_checker.specs.Lines.{nogood_of_answer}
use Rattle.asp_checker.proofs.CloseLaws.{rows_range}
use Rattle.asp_checker.proofs.AnswerLaws.{others_swept, answers_swept}
use Rattle.asp_checker.proofs.answers.sweep_known.Goals as goal

pub sweep-requires : goal.sweep-requires
sweep-requires c = rows_range c.args.compiled.now c.args.placed.now (length c.sweep_all.new.values) (ap length c.in-Fixpoint.ensures.0 ∙ c.requires.size) c.requires.placed

pub returns-in-Conflict : goal.returns-in-Conflict
returns-in-Conflict c =
    others_swept c.args.values.now c.sweep_all.new.values c.args.placed.now
    (map (nogood_of_answer c.args.compiled.now) c.args.listed.now ++ c.args.rows.now) visit.Conflict (λ e. cc) c.in-Conflict.ensures

pub returns-in-Implied : goal.returns-in-Implied
returns-in-Implied c =
    others_swept c.args.values.now c.sweep_all.new.values c.args.placed.now
    (map (nogood_of_answer c.args.compiled.now) c.args.listed.now ++ c.args.rows.now) visit.Implied (λ e. cc) c.in-Implied.ensures

pub returns-in-Fixpoint : goal.returns-in-Fixpoint
returns-in-Fixpoint c =
    answers_swept c.args.values.now c.sweep_all.new.values c.sweep.new.values c.args.placed.now
    (map (nogood_of_answer c.args.compiled.now) c.args.listed.now ++ c.args.rows.now) c.sweep.result c.in-Fixpoint.ensures c.sweep.ensures
