use Rattle.std.proofs.Common.{◌≡◌, ℕ, ◌+◌, ◌-◌, Bool, true, not, ◌||◌, sym, ap, ◌∙◌, arith}
use Rattle.asp_model.specs.declared.program.Program.{Program}
use Rattle.asp_model.specs.Sets.{Atoms, has}
use Rattle.asp_vars.specs.Numbering.{nth_atom}
use Rattle.asp_vars.specs.Completion.{supports}
use Rattle.asp_found.specs.Verdicts.{is_supported}
use Rattle.asp_found.proofs.ValueLaws.{atom_value, supported_is}
use Rattle.asp_found.proofs.parts.is_reasoned.Goals as goal

pub returns-else-not-stands : goal.returns-else-not-stands
returns-else-not-stands c =
    let p : Program = c.args.compiled.now in
    let S : Atoms = c.args.interp.now in
    let i : ℕ = c.args.place in
    let back : i + 1 - 1 ≡ i = omega arith in
    let row : c.supports.result.now ≡ supports p (nth_atom p i) = c.supports.ensures.supports ∙ ap (λ n. supports p (nth_atom p n)) back in
    let stands : has S (nth_atom p i) ≡ true = sym (atom_value p S c.args.truths.now i c.requires.truths c.requires.place) ∙ c.if-not-stands.false in
    c.any_holds.ensures ∙ supported_is p S c.args.truths.now (nth_atom p i) c.supports.result.now c.requires.truths c.requires.read row
    ∙ sym (ap (λ (b : Bool). not b || is_supported p S (nth_atom p i)) stands)
