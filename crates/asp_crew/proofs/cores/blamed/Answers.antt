use Rattle.std.proofs.Common.{◌≡◌, true, sym, ap, ◌∙◌, subst}
use Rattle.std.specs.List.{AllByRecursion}
use Rattle.asp_model.specs.declared.program.Program.{Program}
use Rattle.asp_model.specs.Holding.{atom_of}
use Rattle.asp_model.specs.Models.{atoms_of}
use Rattle.asp_model.specs.Sets.{has}
use Rattle.asp_crew.proofs.CoreLaws.{assumptions-stand}
use Rattle.asp_crew.proofs.cores.blamed.Goals as goal

pub add_blamed-requires : goal.add_blamed-requires
add_blamed-requires c =
    subst (AllByRecursion (λ l. has (atoms_of c.args.compiled.now) (atom_of l) ≡ true))
    (sym (c.as_slice-assumptions.ensures.value ∙ ap (λ (p : Program). p.assumptions) c.program.ensures.program))
    (assumptions-stand c.args.compiled.now)
