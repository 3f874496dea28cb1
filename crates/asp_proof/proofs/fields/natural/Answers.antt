use Rattle.std.proofs.Common.{w64, rules}
use Rattle.std.proofs.lemmas.Int.{to_z-of_z}
use Rattle.asp_proof.proofs.FieldLaws.{no_natural, negative, natural_at, fits_count}
use Rattle.asp_proof.proofs.fields.natural.Goals as goal

pub returns-in_default : goal.returns-in_default
returns-in_default c = no_natural c.args.line.now c.in_default.ensures

pub returns-then-n-lt0 : goal.returns-then-n-lt0
returns-then-n-lt0 c = negative c.args.line.now c.in-Some.n c.in-Some.rest.now c.in-Some.ensures (rw (to_z-of_z w64 c.in-Some.n (search rules)) at c.if-n-lt0.true)

pub returns : goal.returns
returns c =
    let plain = to_z-of_z w64 c.in-Some.n (search rules) in
    rw plain (natural_at c.args.line.now c.in-Some.n c.in-Some.rest.now c.in-Some.ensures (rw plain at c.if-n-lt0.false))

pub overflow_cast-result : goal.overflow_cast-result
overflow_cast-result c =
    let plain = to_z-of_z w64 c.in-Some.n (search rules) in
    rw plain (fits_count c.in-Some.n (c.in-Some.ensures).is (rw plain at c.if-n-lt0.false))
