use Rattle.std.proofs.Common.{◌≡◌, ℕ, ◌+◌, ◌-◌, List, ap, ◌∙◌, arith}
use Rattle.asp_model.specs.declared.program.Program.{Program}
use Rattle.asp_vars.specs.declared.nogood.Nogood.{Nogood}
use Rattle.asp_vars.specs.declared.nogood.Base.TheVariants as base
use Rattle.asp_vars.specs.Literals.{Literal}
use Rattle.asp_vars.specs.Numbering.{nth_atom}
use Rattle.asp_vars.specs.Completion.{atom_nogood}
use Rattle.asp_found.proofs.parts.unsupported.Goals as goal

pub returns : goal.returns
returns c =
    let p : Program = c.args.compiled.now in
    let back : c.args.atom + 1 - 1 ≡ c.args.atom = omega arith in
    ap (λ (ls : List Literal). let n : Nogood = record { lits = ls; base = base.Pure } in n) (c.in_ok-lits.ensures ∙ ap (λ (i : ℕ). atom_nogood p (nth_atom p i)) back)
