use Rattle.std.proofs.Common.{w64, rules}
use Rattle.std.proofs.lemmas.Int.{to_z-of_z}
use Rattle.asp_proof.proofs.FieldLaws.{no_blank_first, no_word, word_at}
use Rattle.asp_proof.proofs.fields.field.Goals as goal

pub returns-in_default : goal.returns-in_default
returns-in_default c = no_blank_first c.args.line.now c.in_default.ensures

pub returns-in_default-number : goal.returns-in_default-number
returns-in_default-number c = no_word c.args.line.now c.in-Some.fields.now c.cut.result.0.now c.cut.result.1.now c.in-Some.ensures c.cut.ensures c.in_default-number.ensures

pub returns : goal.returns
returns c = rw (to_z-of_z w64 c.in-Some-number.number (search rules))
    (word_at c.args.line.now c.in-Some.fields.now c.cut.result.0.now c.cut.result.1.now c.in-Some-number.number c.in-Some.ensures c.cut.ensures
    c.in-Some-number.ensures)
