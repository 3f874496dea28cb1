use Rattle.std.proofs.Common.{◌≡◌, not, get_or, ap, ◌∙◌, arith, ◌-◌, ◌<◌, length}
use Rattle.asp_model.specs.Models.{atoms_of}
use Rattle.asp_vars.specs.Literals.{Literal, holds_in}
use Rattle.asp_checker.proofs.MemberLaws.{in_by_value}
use Rattle.asp_checker.proofs.members.is_in.Goals as goal

pub returns : goal.returns
returns c =
    let p = c.args.compiled.now in
    let a = c.args.atom in
    let same = c.as_slice-atoms.ensures.value ∙ c.atoms.ensures in
    let first = c.if-number-eq0.false in
    let within : a - 1 < length (atoms_of p) = omega (arith, first, c.if-number-atom_count.false, c.atom_count.ensures.count) in
    let at : get_or (atoms_of p) (a - 1) 0 ≡ a = rw same at c.if-atoms-number.false in
    ap not (c.holds.ensures ∙ ap (λ (l : Literal). holds_in c.args.values.now l) c.new.ensures)
    ∙ in_by_value p c.args.set.now c.args.values.now (a - 1) a c.requires.founded within at (omega (arith, first))
