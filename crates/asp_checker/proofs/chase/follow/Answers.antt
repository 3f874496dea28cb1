use Rattle.std.proofs.Common.{◌++◌, map}
use Rattle.asp_checker.specs.Lines.{nogood_of_answer, stock, all_of}
use Rattle.asp_checker.specs.Blocks.{known_with}
use Rattle.asp_checker.proofs.AnswerLaws.{rows_stocked, answers_stocked, placed_stocked}
use Rattle.asp_checker.proofs.chase.follow.Goals as goal

pub returns-in-Nogood : goal.returns-in-Nogood
returns-in-Nogood c =
    c.look.ensures (all_of (stock (known_with c.args.compiled.now c.args.listed.now c.args.rows.now c.args.bound.now) c.args.placed.now))
    (rows_stocked c.args.compiled.now c.args.listed.now c.args.rows.now c.args.placed.now c.args.bound.now c.requires.of c.requires.placed)

pub returns-in-Placed : goal.returns-in-Placed
returns-in-Placed c =
    c.look-in-Placed.ensures (all_of (stock (known_with c.args.compiled.now c.args.listed.now c.args.rows.now c.args.bound.now) c.args.placed.now))
    (placed_stocked c.args.compiled.now c.args.listed.now c.args.rows.now c.args.placed.now c.args.bound.now c.requires.of c.requires.placed)

pub returns-in-Answer : goal.returns-in-Answer
returns-in-Answer c =
    c.look_at_listed.ensures (all_of (stock (known_with c.args.compiled.now c.args.listed.now c.args.rows.now c.args.bound.now) c.args.placed.now))
    (answers_stocked c.args.compiled.now c.args.listed.now c.args.rows.now c.args.placed.now c.args.bound.now c.requires.of c.requires.placed)

pub returns-in-Body : goal.returns-in-Body
returns-in-Body c = c.force.ensures (c.args.placed.now ++ (map (nogood_of_answer c.args.compiled.now) c.args.listed.now ++ c.args.rows.now))

pub returns-in-Bound : goal.returns-in-Bound
returns-in-Bound c = c.force-in-Bound.ensures (c.args.placed.now ++ (map (nogood_of_answer c.args.compiled.now) c.args.listed.now ++ c.args.rows.now))
