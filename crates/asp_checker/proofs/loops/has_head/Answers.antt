use Rattle.std.proofs.Common.{◌≡◌, true, false, get_or, sym, ap, ◌∙◌}
use Rattle.asp_vars.specs.Literals.{T, has_literal}
use Rattle.asp_checker.specs.Loops.{has_head}
use Rattle.asp_checker.proofs.BodyLaws.{any_at, any_none, none_whole}
use Rattle.asp_checker.proofs.loops.has_head.Goals as goal

pub atom_var-requires : goal.atom_var-requires
atom_var-requires c = c.requires c.loop-atom.atom-index 0 c.loop-atom-test.true

pub returns-then-stands : goal.returns-then-stands
returns-then-stands c =
    let is : has_head c.args.compiled.now c.args.nogood.now (get_or c.args.atoms.now c.loop-atom.atom-index 0) ≡ true =
    ap (has_literal c.args.nogood.now) (ap T (sym c.atom_var.ensures.var) ∙ sym c.new.ensures) ∙ sym c.if-stands.ensures in
    sym (any_at (has_head c.args.compiled.now c.args.nogood.now) c.args.atoms.now c.loop-atom.atom-index 0 c.loop-atom-test.true is)

pub loop-atom-preserved : goal.loop-atom-preserved
loop-atom-preserved c =
    let is : has_head c.args.compiled.now c.args.nogood.now (get_or c.args.atoms.now c.loop-atom.atom-index 0) ≡ false =
    ap (has_literal c.args.nogood.now) (ap T (sym c.atom_var.ensures.var) ∙ sym c.new.ensures) ∙ sym c.if-stands.ensures in
    any_none (has_head c.args.compiled.now c.args.nogood.now) c.args.atoms.now c.loop-atom.atom-index 0 c.loop-atom-test.true c.loop-atom.invariant is

pub returns : goal.returns
returns c = none_whole (has_head c.args.compiled.now c.args.nogood.now) c.args.atoms.now c.loop-atom.atom-index c.loop-atom-test.false c.loop-atom.invariant
