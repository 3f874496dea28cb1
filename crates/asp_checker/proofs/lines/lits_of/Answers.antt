use Rattle.std.proofs.Common.{◌∷◌, []}
use Rattle.asp_model.proofs.MemberLaws.{each-append}
use Rattle.asp_checker.specs.Lines.{IsOf}
use Rattle.asp_checker.proofs.LiteralLaws.{are_at, literals_more, literals_all}
use Rattle.asp_checker.proofs.lines.lits_of.Goals as goal

pub loop-literal-init : goal.loop-literal-init
loop-literal-init c = record { so_far = c.in_ok-lits.ensures.items; are = rw c.in_ok-lits.ensures.items tt }

pub returns-in_default : goal.returns-in_default
returns-in_default c = λ h. c.in_default.ensures (are_at c.args.compiled.now c.args.literals.now c.loop-literal.literal-index c.loop-literal-test.true h)

pub loop-literal-preserved : goal.loop-literal-preserved
loop-literal-preserved c = record {
  so_far =
      literals_more c.args.literals.now c.loop-literal.literal-index c.loop-literal.lits.items c.push.new.self.items c.in-Some.lit
      c.loop-literal-test.true c.loop-literal.invariant.so_far c.in_ok-push.ensures.items (c.in-Some.ensures).0;
  are = rw c.in_ok-push.ensures.items (each-append (IsOf c.args.compiled.now) c.loop-literal.lits.items (c.in-Some.lit ∷ []) c.loop-literal.invariant.are ((c.in-Some.ensures).1, tt));
}

pub returns : goal.returns
returns c = (literals_all c.args.literals.now c.loop-literal.literal-index c.loop-literal.lits.items c.loop-literal-test.false c.loop-literal.invariant.so_far, c.loop-literal.invariant.are)
