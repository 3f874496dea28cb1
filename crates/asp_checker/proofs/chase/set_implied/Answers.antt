use Rattle.std.proofs.Common.{refl}
use Rattle.asp_checker.proofs.ChaseLaws.{unit_extends, hit_refutes}
use Rattle.asp_checker.proofs.chase.set_implied.Goals as goal

pub set-requires : goal.set-requires
set-requires c = rw c.complement-held.ensures (c.requires.within c.in-Unit.lit c.in-Unit.is)

pub returns-in-Violated : goal.returns-in-Violated
returns-in-Violated c = λ k n of seen. (hit_refutes c.args.compiled.now k c.args.values.now n of (rw c.in-Violated.is at seen), refl)

pub returns-in-Unit : goal.returns-in-Unit
returns-in-Unit c = λ k n of seen. (
  unit_extends c.args.compiled.now k c.args.values.now c.set.new.self n c.in-Unit.lit of c.requires.size (rw c.in-Unit.is at seen) (rw c.complement-held.ensures at c.set.ensures),
  c.set.ensures,
)
