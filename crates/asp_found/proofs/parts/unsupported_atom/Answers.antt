use Rattle.std.proofs.Common.{◌≡◌, ℕ, ◌<◌, true, length, sym, ◌∙◌, subst, arith}
use Rattle.asp_model.specs.declared.program.Program.{Program}
use Rattle.asp_model.specs.Sets.{Atoms, has}
use Rattle.asp_model.specs.Models.{atoms_of}
use Rattle.asp_model.proofs.MemberLaws.{HasAll-itself}
use Rattle.asp_vars.specs.declared.nogood.Nogood.{Nogood}
use Rattle.asp_vars.specs.Numbering.{nth_atom}
use Rattle.asp_vars.proofs.PlaceLaws.{at_each}
use Rattle.asp_vars.proofs.StandingLaws.{Among, each_among}
use Rattle.asp_found.specs.Verdicts.{IsBroken, is_supported}
use Rattle.asp_found.proofs.VerdictLaws.{atom_broken, and_parts'}
use Rattle.asp_found.proofs.parts.unsupported_atom.Goals as goal

pub returns-then-not-reasoned : goal.returns-then-not-reasoned
returns-then-not-reasoned c =
    let p : Program = c.args.compiled.now in
    let S : Atoms = c.args.interp.now in
    let i : ℕ = c.loop-i.i in
    let count = c.atom_count-i-end.ensures.count in
    let lt : i < length (atoms_of p) = omega (arith, count, c.loop-i-test.true) in
    let parts = and_parts' (has S (nth_atom p i)) (is_supported p S (nth_atom p i)) (sym c.is_reasoned-reasoned.ensures ∙ c.if-not-reasoned.true) in
    subst (λ (n : Nogood). IsBroken p S n) (sym c.in_ok-nogood.ensures)
    (atom_broken p S (nth_atom p i) c.program-program.ensures.sound c.requires.read
    (at_each (Among (atoms_of p)) (atoms_of p) i 0 (each_among (atoms_of p)) lt)
    (at_each (λ a. has (atoms_of p) a ≡ true) (atoms_of p) i 0 (HasAll-itself (atoms_of p)) lt)
    parts.0 parts.1)
