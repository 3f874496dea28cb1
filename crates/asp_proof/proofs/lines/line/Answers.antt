use Rattle.asp_proof.specs.Texts.{atoms_fields, loop_fields, learned_fields, literals_fields, line_text}
use Rattle.asp_proof.specs.Grammar.{IsSet, IsLoop, IsLearned, IsNogood, IsLine}
use Rattle.asp_proof.proofs.LineLaws.{line_from, no_loop_line, no_learned_line, no_cube_line, no_found_line, no_line}
use Rattle.asp_proof.proofs.lines.line.Goals as goal

pub returns-in-Some : goal.returns-in-Some
returns-in-Some c = line_from c.loop_line.result IsLoop loop_fields IsLine line_text 111 c.in-Some.fields.now c.args.line.now c.in-Some.ensures (no_loop_line c.in-Some.fields.now) c.loop_line.ensures

pub returns-in-Some-after : goal.returns-in-Some-after
returns-in-Some-after c = line_from c.learned_line.result IsLearned learned_fields IsLine line_text 108 c.in-Some-after.fields.now c.args.line.now
    c.in-Some-after.ensures (no_learned_line c.in-Some-after.fields.now) c.learned_line.ensures

pub returns-in-Some-after-2 : goal.returns-in-Some-after-2
returns-in-Some-after-2 c = line_from c.cube_line.result IsNogood literals_fields IsLine line_text 99 c.in-Some-after-2.fields.now c.args.line.now
    c.in-Some-after-2.ensures (no_cube_line c.in-Some-after-2.fields.now) c.cube_line.ensures

pub returns-in-Some-after-3 : goal.returns-in-Some-after-3
returns-in-Some-after-3 c = line_from c.found_line.result IsSet atoms_fields IsLine line_text 102 c.in-Some-after-3.fields.now c.args.line.now
    c.in-Some-after-3.ensures (no_found_line c.in-Some-after-3.fields.now) c.found_line.ensures

pub returns : goal.returns
returns c = no_line c.args.line.now c.in_default.ensures c.in_default-after.ensures c.in_default-after-2.ensures c.in_default-after-3.ensures
