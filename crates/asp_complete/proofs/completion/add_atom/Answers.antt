use Rattle.std.proofs.Common.{◌≡◌, ◌-◌, ◌+◌, ◌++◌, ℕ, List, map, ap, ◌∙◌, subst, arith}
use Rattle.std.specs.Result.{OnOk}
use Rattle.asp_model.specs.declared.program.Program.{Program}
use Rattle.asp_vars.specs.Literals.{Literal, F}
use Rattle.asp_vars.specs.Numbering.{nth_atom, var_of_atom}
use Rattle.asp_vars.specs.Completion.{atom_nogood}
use Rattle.asp_vars.proofs.PlaceLaws.{var_of_nth_atom}
use Rattle.asp_complete.specs.Listed.{pure, unless_it_has}
use Rattle.asp_complete.proofs.completion.add_atom.Goals as goal

pub returns : goal.returns
returns c =
    let p : Program = c.args.compiled.now in
    let lits : c.in_ok-lits.lits ≡ atom_nogood p (nth_atom p c.args.atom) =
    c.in_ok-lits.ensures ∙ ap (λ (i : ℕ). atom_nogood p (nth_atom p i)) (let place : c.args.atom + 1 - 1 ≡ c.args.atom = omega arith in place) in
    let lit : c.new.result ≡ F (var_of_atom p (nth_atom p c.args.atom)) =
    c.new.ensures ∙ ap F (let number : c.args.atom + 1 ≡ var_of_atom p (nth_atom p c.args.atom) =
    omega (arith, var_of_nth_atom p c.args.atom c.requires) in number) in
    subst (λ (ns : List (List Literal)). OnOk c.add_unless_it_has.result (c.add_unless_it_has.new.nogoods.items ≡ c.args.nogoods.now.items ++ map pure ns))
    (ap (λ (l : Literal). unless_it_has l c.in_ok-lits.lits) lit ∙ ap (unless_it_has (F (var_of_atom p (nth_atom p c.args.atom)))) lits)
    c.add_unless_it_has.ensures
