use Rattle.std.proofs.Common.{Bool, refl, sym, subst}
use Rattle.asp_checker.specs.Judging.{IsInOrder}
use Rattle.asp_checker.proofs.judge.fault_of_answer.Goals as goal

pub is_in_order-requires : goal.is_in_order-requires
is_in_order-requires c = c.requires.order

pub returns-then-not-is_in_order : goal.returns-then-not-is_in_order
returns-then-not-is_in_order c = λ h. c.if-not-is_in_order.ensures.no refl (subst (λ (o : Bool). IsInOrder o c.args.before.now.sets c.args.set.now) (sym c.is_best.ensures) h)

pub returns-then-not-are_atoms : goal.returns-then-not-are_atoms
returns-then-not-are_atoms c = (
  subst (λ (o : Bool). IsInOrder o c.args.before.now.sets c.args.set.now) c.is_best.ensures (c.if-not-is_in_order.ensures.yes refl),
  sym c.if-not-are_atoms.ensures,
)

pub returns-then-not-member : goal.returns-then-not-member
returns-then-not-member c = (
  subst (λ (o : Bool). IsInOrder o c.args.before.now.sets c.args.set.now) c.is_best.ensures (c.if-not-is_in_order.ensures.yes refl),
  sym c.if-not-are_atoms.ensures,
  c.in_ok-member.ensures.no c.if-not-member.true,
)

pub returns-then-not-alike : goal.returns-then-not-alike
returns-then-not-alike c = (
  subst (λ (o : Bool). IsInOrder o c.args.before.now.sets c.args.set.now) c.is_best.ensures (c.if-not-is_in_order.ensures.yes refl),
  c.in_ok-member.ensures.yes c.if-not-member.false,
  c.in_ok-alike.ensures.no c.if-not-alike.true,
)

pub returns : goal.returns
returns c = record {
  order = subst (λ (o : Bool). IsInOrder o c.args.before.now.sets c.args.set.now) c.is_best.ensures (c.if-not-is_in_order.ensures.yes refl);
  member = c.in_ok-member.ensures.yes c.if-not-member.false;
  alike = c.in_ok-alike.ensures.yes c.if-not-alike.false;
}
