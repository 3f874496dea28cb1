use Rattle.std.proofs.Common.{w64, rules, sym, ◌∙◌}
use Rattle.std.proofs.lemmas.Int.{to_z-of_z}
use Rattle.asp_proof.proofs.FieldLaws.{reads, too_wide, other_text, not_true}
use Rattle.asp_proof.proofs.fields.number.Goals as goal

pub returns-in_default : goal.returns-in_default
returns-in_default c = λ z w. c.in_default.not-Value z (c.read_int.ensures ∙ reads z c.args.word.now w.is w.same)

pub returns-then-unsigned_abs : goal.returns-then-unsigned_abs
returns-then-unsigned_abs c =
    let plain = to_z-of_z w64 c.in-Value.n (search rules) in
    let value = sym c.in-Value.is ∙ c.read_int.ensures in
    too_wide c.in-Value.n c.unsigned_abs.result c.args.word.now value (rw plain at c.unsigned_abs.ensures.value) c.if-unsigned_abs.true

pub returns-then-ne : goal.returns-then-ne
returns-then-ne c =
    let plain = to_z-of_z w64 c.in-Value.n (search rules) in
    let value = sym c.in-Value.is ∙ c.read_int.ensures in
    other_text c.in-Value.n c.as_bytes.result.now c.args.word.now value (c.as_bytes.ensures.value ∙ (rw plain at c.format.ensures.text)) (not_true _ c.if-ne.ensures)
