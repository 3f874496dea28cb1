use Rattle.std.proofs.Common.{◌∙◌, sym, subst, arith}
use Rattle.asp_model.specs.declared.program.Program.{Program}
use Rattle.asp_model.specs.Models.{atoms_of}
use Rattle.asp_vars.specs.Literals.{Literal}
use Rattle.asp_vars.specs.Numbering.{IsVar, var_count}
use Rattle.asp_stream.proofs.LowLaws.{atom-is-var, has-at}
use Rattle.asp_stream.proofs.stream.cut.Goals as goal

pub atom_var-requires : goal.atom_var-requires
atom_var-requires g c =
    has-at c.as_slice-atoms.result.now (atoms_of c.args.stream.now.compiled.now) c.loop-atom.atom-index (c.as_slice-atoms.ensures.value ∙ c.atoms.ensures) c.loop-atom-test.true

pub new-lit-requires : goal.new-lit-requires
new-lit-requires g c =
    let is = atom-is-var c.args.stream.now.compiled.now c.atom_var.result c.atom_var.ensures.atom in
    omega (arith, is.1, c.atom_var.ensures.few)

pub splits-requires : goal.splits-requires
splits-requires g c =
    subst (λ (p : Program). IsVar (var_count p) c.new-lit.result.var) (sym c.requires)
    (subst (λ (l : Literal). IsVar (var_count c.args.stream.now.compiled.now) l.var) (sym c.new-lit.ensures)
    (atom-is-var c.args.stream.now.compiled.now c.atom_var.result c.atom_var.ensures.atom))

pub returns-then-splits-clause-open : goal.returns-then-splits-clause-open
returns-then-splits-clause-open g c = λ q entered. c.splits.ensures q entered c.if-splits.true

pub returns-then-splits-clause-room : goal.returns-then-splits-clause-room
returns-then-splits-clause-room g c = λ some. c.room.ensures.0 c.if-not-room.false
