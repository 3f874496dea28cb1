use mir.Syntax.{w32}
use Rattle.std.proofs.Common.{◌≡◌, true, [], ◌∷◌, ◌++◌, nat_lt, arith, rules}
use Rattle.std.proofs.lemmas.Int.{to_z-of_z}
use Rattle.std.proofs.lemmas.Result.{err_from_is_err_and}
use Rattle.asp_model.specs.Sets.{with_atom}
use Rattle.asp_model.specs.Holding.{atom_of}
use Rattle.asp_read.proofs.Loop.{known_more}
use Rattle.asp_smodels.specs.Parts.{literal_of, literal_at}
use Rattle.asp_smodels.proofs.Signs.{atom_is, goes_on, ends, is_done}
use Rattle.asp_smodels.proofs.parts.signed.Goals as goal

pub returns-in_err-atom-clause-literals : goal.returns-in_err-atom-clause-literals
returns-in_err-atom-clause-literals c =
    let p = err_from_is_err_and c.from_residual-in_err-atom.result c.from_residual-in_err-atom.ensures.1 in
    rw (p.1, p.2) (ends c.in_err-atom.field-0.0 c.loop-i.items.items c.args.count c.args.negated c.loop-i.i c.loop-i.known c.loop-i.rest.now _
    c.loop-i-test.true c.in_err-atom.ensures.atom c.loop-i.invariant.read)

pub loop-i-preserved : goal.loop-i-preserved
loop-i-preserved c =
    let sign = nat_lt c.loop-i.i c.args.negated in
    let same = to_z-of_z w32 c.literal_of.result (search rules) in
    let pushed : c.push.new.self.items ≡ c.loop-i.items.items ++ literal_of sign c.in_ok-atom.atom ∷ [] = rw (same, c.literal_of.ensures) at c.in_ok-push.ensures.items in
    let taken : c.atom.new.known ≡ with_atom (atom_of (literal_of sign c.in_ok-atom.atom)) c.loop-i.known = rw (atom_is sign c.in_ok-atom.atom) c.in_ok-atom.ensures.known in
    record {
      read = rw pushed
          (rw c.in_ok-atom.ensures.known (goes_on c.loop-i.items.items c.args.count c.args.negated c.loop-i.i c.loop-i.known c.loop-i.rest.now
          c.in_ok-atom.atom c.in_ok-atom.after.now _ c.loop-i-test.true c.in_ok-atom.ensures.atom c.loop-i.invariant.read));
      len = omega (arith, c.in_ok-push.ensures.len, c.loop-i.invariant.len);
      known = known_more atom_of (literal_at true) _ c.loop-i.known _ c.loop-i.items.items _ (literal_of sign c.in_ok-atom.atom) c.loop-i.invariant.known taken pushed;
    }

pub returns-clause-literals : goal.returns-clause-literals
returns-clause-literals c =
    rw c.from_vec.ensures (is_done c.loop-i.items.items c.args.count c.args.negated c.loop-i.i c.loop-i.known c.loop-i.rest.now _ c.loop-i-test.false
    c.requires c.loop-i.invariant.read)
