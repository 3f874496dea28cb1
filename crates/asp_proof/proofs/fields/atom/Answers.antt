use Rattle.std.proofs.Common.{arith}
use Rattle.asp_proof.proofs.FieldLaws.{no_atom, other_atom, atom_at}
use Rattle.asp_proof.proofs.fields.atom.Goals as goal

pub returns-in_default : goal.returns-in_default
returns-in_default c = no_atom c.args.line.now c.in_default.ensures

pub returns-then-n-eq0 : goal.returns-then-n-eq0
returns-then-n-eq0 c = other_atom c.args.line.now c.in-Some.n c.in-Some.rest.now c.in-Some.ensures (λ h. omega (arith, h.0, c.if-n-eq0.true))

pub returns-then-n : goal.returns-then-n
returns-then-n c = other_atom c.args.line.now c.in-Some.n c.in-Some.rest.now c.in-Some.ensures (λ h. omega (arith, h.1, c.if-n.true))

pub returns : goal.returns
returns c = atom_at c.args.line.now c.in-Some.n c.in-Some.rest.now c.in-Some.ensures (omega (arith, c.if-n-eq0.false), omega (arith, c.if-n.false))
