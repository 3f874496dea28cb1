use Rattle.std.proofs.Common.{w64, w32, rules, arith}
use Rattle.std.proofs.lemmas.Int.{to_z-of_z}
use Rattle.asp_proof.proofs.FieldLaws.{no_literal, other_literal, literal_at, fits_32}
use Rattle.asp_proof.proofs.fields.literal.Goals as goal

pub returns-in_default : goal.returns-in_default
returns-in_default c = no_literal c.args.line.now c.in_default.ensures

pub returns-then-variable-eq0 : goal.returns-then-variable-eq0
returns-then-variable-eq0 c =
    let plain = to_z-of_z w64 c.in-Some.n (search rules) in
    other_literal c.args.line.now c.in-Some.n c.unsigned_abs-variable.result c.in-Some.rest.now c.in-Some.ensures
    (rw plain at c.unsigned_abs-variable.ensures.value) (λ h. omega (arith, h.0, c.if-variable-eq0.true))

pub returns-then-variable : goal.returns-then-variable
returns-then-variable c =
    let plain = to_z-of_z w64 c.in-Some.n (search rules) in
    other_literal c.args.line.now c.in-Some.n c.unsigned_abs-variable.result c.in-Some.rest.now c.in-Some.ensures
    (rw plain at c.unsigned_abs-variable.ensures.value) (λ h. omega (arith, h.1, c.if-variable.true))

pub overflow_cast-result : goal.overflow_cast-result
overflow_cast-result c =
    let plain = to_z-of_z w64 c.in-Some.n (search rules) in
    rw plain (fits_32 c.in-Some.n c.unsigned_abs-variable.result (rw plain at c.unsigned_abs-variable.ensures.value) c.if-variable.false)

pub returns : goal.returns
returns c =
    let plain = to_z-of_z w64 c.in-Some.n (search rules) in
    let size = rw plain at c.unsigned_abs-variable.ensures.value in
    rw (plain, to_z-of_z w32 c.in-Some.n (fits_32 c.in-Some.n c.unsigned_abs-variable.result size c.if-variable.false))
    (literal_at c.args.line.now c.in-Some.n c.unsigned_abs-variable.result c.in-Some.rest.now c.in-Some.ensures size
    (omega (arith, c.if-variable-eq0.false), c.if-variable.false))
