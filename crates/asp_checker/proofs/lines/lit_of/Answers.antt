use Rattle.std.proofs.Common.{w32, rules, arith, refl}
use Rattle.std.proofs.lemmas.Int.{to_z-of_z}
use Rattle.asp_checker.proofs.LiteralLaws.{signed_is, signed_var}
use Rattle.asp_checker.proofs.lines.lit_of.Goals as goal

pub returns-then-var-eq0 : goal.returns-then-var-eq0
returns-then-var-eq0 c =
    let plain = to_z-of_z w32 c.args.literal.now (search rules) in
    let size = rw plain at c.unsigned_abs-var.ensures.value in
    λ h. omega (arith, h.0, signed_var c.args.literal.now, size, c.if-var-eq0.true)

pub returns-then-var-vars : goal.returns-then-var-vars
returns-then-var-vars c =
    let plain = to_z-of_z w32 c.args.literal.now (search rules) in
    let size = rw plain at c.unsigned_abs-var.ensures.value in
    λ h. omega (arith, h.1, signed_var c.args.literal.now, size, c.if-var-vars.true, c.vars.ensures.count)

pub returns : goal.returns
returns c =
    let plain = to_z-of_z w32 c.args.literal.now (search rules) in
    let size = rw plain at c.unsigned_abs-var.ensures.value in
    rw (c.new.ensures, plain) (
      signed_is c.args.literal.now c.unsigned_abs-var.result _ size (omega (arith, c.if-var-eq0.false)) refl,
      (omega (arith, c.if-var-eq0.false), omega (arith, c.if-var-vars.false, c.vars.ensures.count)),
    )
