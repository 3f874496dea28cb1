use Rattle.std.proofs.Common.{◌≡◌, true, List, ℕ, map, sym, ap, ◌∙◌, subst}
use Rattle.std.specs.Prelude.{All}
use Rattle.std.specs.List.{list_any}
use Rattle.asp_model.specs.declared.program.Program.{Program}
use Rattle.asp_model.specs.Sets.{has, set_of}
use Rattle.asp_model.specs.Models.{atoms_of}
use Rattle.asp_vars.specs.Numbering.{var_of_atom}
use Rattle.asp_checker.specs.Loops.{has_head}
use Rattle.asp_checker.proofs.FoundLaws.{all_stand, vars_stand, loop_yes, loop_headless, loop_unanswered}
use Rattle.asp_checker.proofs.loops.is_loop.Goals as goal

pub has_head-headed-requires : goal.has_head-headed-requires
has_head-headed-requires c =
    let p : Program = c.args.compiled.now in
    subst (λ (U : List ℕ). All (λ a. has (atoms_of p) a ≡ true) U) (sym c.as_slice-atoms.ensures.value) (all_stand p c.args.set.now c.requires)

pub vars_of-requires : goal.vars_of-requires
vars_of-requires c =
    let p : Program = c.args.compiled.now in
    subst (λ (U : List ℕ). All (λ a. has (atoms_of p) a ≡ true) U) (sym c.as_slice-atoms.ensures.value) (all_stand p c.args.set.now c.requires)

pub are_answered-answered-requires : goal.are_answered-answered-requires
are_answered-answered-requires c =
    let p : Program = c.args.compiled.now in
    vars_stand p c.args.set.now c.in_ok-vars.vars c.requires (c.in_ok-vars.ensures ∙ ap (λ (U : List ℕ). set_of (map (var_of_atom p) U)) c.as_slice-atoms.ensures.value)

pub returns-then-not-headed-clause-no : goal.returns-then-not-headed-clause-no
returns-then-not-headed-clause-no c = λ e.
    let p : Program = c.args.compiled.now in
    loop_headless p c.args.set.now c.args.nogood.now (ap (λ (U : List ℕ). list_any (has_head p c.args.nogood.now) U)
    (sym c.as_slice-atoms.ensures.value) ∙ sym c.has_head-headed.ensures ∙ c.if-not-headed.true)

pub returns-clause-yes : goal.returns-clause-yes
returns-clause-yes c = λ e.
    let p : Program = c.args.compiled.now in
    loop_yes p c.args.set.now c.args.nogood.now c.requires
    (ap (λ (U : List ℕ). list_any (has_head p c.args.nogood.now) U) (sym c.as_slice-atoms.ensures.value) ∙ sym c.has_head-headed.ensures
    ∙ c.if-not-headed.false) (sym c.are_answered-answered.ensures ∙ e)

pub returns-clause-no : goal.returns-clause-no
returns-clause-no c = λ e. loop_unanswered c.args.compiled.now c.args.set.now c.args.nogood.now (sym c.are_answered-answered.ensures ∙ e)
