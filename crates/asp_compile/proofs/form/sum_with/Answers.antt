use Rattle.std.proofs.Common.{sym, subst, arith}
use Rattle.std.specs.Prelude.{ℤ}
use Rattle.std.proofs.lemmas.Int.{ints}
use Rattle.asp_compile.specs.Forms.{IsSmall}
use Rattle.asp_compile.proofs.form.sum_with.Goals as goal

pub returns-in-Some-clause-small : goal.returns-in-Some-clause-small
returns-in-Some-clause-small c =
    let at = c.in-Some.ensures.member in
    let h : IsSmall c.args.count c.in-Some.sum.now = subst (λ (v : ℤ). IsSmall c.args.count v) (sym at.1.1) (c.requires.small at.0 c.in-Some.sum.now at.1.0) in
    (omega (arith, ints, h), omega (arith, ints, h))
