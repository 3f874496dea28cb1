use Rattle.std.proofs.Common.{◌≡◌, ℕ, true, get_or, refl, sym, ap, ◌∙◌, subst}
use Rattle.asp_model.specs.declared.program.Program.{Program}
use Rattle.asp_model.specs.Models.{atoms_of}
use Rattle.asp_model.specs.Sets.{Atoms, has}
use Rattle.asp_vars.specs.Numbering.{IsVar, var_count, var_of_atom}
use Rattle.asp_rows.specs.Bits.{IsAmong}
use Rattle.asp_stream.specs.Lows.{IsSure}
use Rattle.asp_stream.proofs.LowLaws.{Gathers, IsSureAtom, atom-is-var, gathers-among, gathers-next, gathers-none, has-at, row-if, sure-atom, sure-if, sure-set}
use Rattle.asp_stream.proofs.low.low.Goals as goal

pub loop-atom-init : goal.loop-atom-init
loop-atom-init g c =
    subst (Gathers (IsSureAtom c.args.search.now c.args.more.now) c.as_slice-atoms.result.now 0) (sym c.new-set.ensures.items)
    (gathers-none (IsSureAtom c.args.search.now c.args.more.now) c.as_slice-atoms.result.now)

pub atom_var-requires : goal.atom_var-requires
atom_var-requires g c = has-at c.as_slice-atoms.result.now (atoms_of c.args.compiled.now) c.loop-atom.atom-index (c.as_slice-atoms.ensures.value ∙ c.atoms.ensures) c.loop-atom-test.true

pub is_sure-sure-requires : goal.is_sure-sure-requires
is_sure-sure-requires g c =
    subst (λ (p : Program). IsVar (var_count p) c.atom_var.result) (sym c.requires) (atom-is-var c.args.compiled.now c.atom_var.result c.atom_var.ensures.atom)

pub loop-atom-preserved : goal.loop-atom-preserved
loop-atom-preserved g c =
    let atoms : Atoms = c.as_slice-atoms.result.now in
    let a : ℕ = get_or atoms c.loop-atom.atom-index 0 in
    let stands : has (atoms_of c.args.compiled.now) a ≡ true =
    has-at atoms (atoms_of c.args.compiled.now) c.loop-atom.atom-index (c.as_slice-atoms.ensures.value ∙ c.atoms.ensures) c.loop-atom-test.true in
    gathers-next (IsSureAtom c.args.search.now c.args.more.now) atoms c.loop-atom.atom-index c.loop-atom.set.items c.push_if.new.set.items a c.is_sure-sure.result
    c.as_slice-atoms.ensures.ascending c.loop-atom-test.true refl
    (λ told.
    sure-atom c.args.search.now c.args.more.now a c.atom_var.result (subst (λ (p : Program). has (atoms_of p) a ≡ true) (sym c.requires) stands)
    (c.atom_var.ensures.var ∙ ap (λ (p : Program). var_of_atom p a) (sym c.requires)) (c.is_sure-sure.ensures told))
    c.in_ok-push_if.ensures c.loop-atom.invariant

pub from_ascending-requires : goal.from_ascending-requires
from_ascending-requires g c = c.loop-atom.invariant.rising

pub returns-clause-row : goal.returns-clause-row
returns-clause-row g c =
    let same = c.as_slice-atoms.ensures.value ∙ c.atoms.ensures in
    row-if c.of-2.result c.as_slice-atoms.result.now (atoms_of c.args.compiled.now) c.from_ascending.result same
    (subst (λ (A : Atoms). IsAmong A c.from_ascending.result) same (subst (IsAmong c.as_slice-atoms.result.now) (sym c.from_ascending.ensures)
    (gathers-among (IsSureAtom c.args.search.now c.args.more.now) c.as_slice-atoms.result.now c.loop-atom.atom-index c.loop-atom.set.items c.loop-atom.invariant)))
    c.of-2.ensures.words c.of-2.ensures.set

pub returns-clause-low : goal.returns-clause-low
returns-clause-low g c =
    sure-if c.of-2.result c.args.search.now c.args.more.now c.from_ascending.result
    (subst (IsSure c.args.search.now c.args.more.now) (sym c.from_ascending.ensures)
    (sure-set c.args.search.now c.args.more.now c.as_slice-atoms.result.now c.loop-atom.atom-index c.loop-atom.set.items c.loop-atom.invariant))
    c.of-2.ensures.set
