use Rattle.std.proofs.Common.{◌≡◌, ℕ, true, false, not, ◌||◌, eqb, List, length, Option, MatchOption, refl, sym, ap, ◌∙◌, subst}
use Rattle.std.specs.List.{list_all}
use Rattle.asp_model.specs.declared.program.Program.{Program}
use Rattle.asp_model.specs.Sets.{Atoms, IsAscending, has}
use Rattle.asp_model.specs.Models.{rules_in_force, atoms_of, is_stable, least_model}
use Rattle.asp_vars.specs.declared.nogood.Nogood.{Nogood}
use Rattle.asp_found.specs.Verdicts.{keeps, is_supported, IsBroken, HasUnfounded}
use Rattle.asp_found.proofs.CheckLaws.{check_stable, check_unfounded}
use Rattle.asp_found.proofs.found.check.Goals as goal

pub rest-requires-clause-kept : goal.rest-requires-clause-kept
rest-requires-clause-kept c =
    let p : Program = c.args.compiled.now in
    let S : Atoms = c.args.interp.now in
    subst (λ (o : Option Nogood). MatchOption o (list_all (keeps S) (rules_in_force p) ≡ true) (IsBroken p S)) c.in_default-2.is c.in_ok-nogood-2.ensures

pub returns-then-is_stable : goal.returns-then-is_stable
returns-then-is_stable c =
    let p : Program = c.args.compiled.now in
    let S : Atoms = c.args.interp.now in
    let kept : list_all (keeps S) (rules_in_force p) ≡ true =
    subst (λ (o : Option Nogood). MatchOption o (list_all (keeps S) (rules_in_force p) ≡ true) (IsBroken p S)) c.in_default-2.is c.in_ok-nogood-2.ensures in
    let reasoned : list_all (λ a. not (has S a) || is_supported p S a) (atoms_of p) ≡ true =
    subst (λ (o : Option Nogood). MatchOption o (list_all (λ a. not (has S a) || is_supported p S a) (atoms_of p) ≡ true) (IsBroken p S)) c.in_default-3.is c.in_ok-nogood-3.ensures in
    let empty : eqb (length c.in_ok-others.others.items) 0 ≡ true = ap (λ (xs : List ℕ). eqb (length xs) 0) (sym c.as_slice-5.ensures.value) ∙ sym c.is_empty-is_stable.ensures ∙ c.if-is_stable.true in
    check_stable p S (least_model p S) c.in_ok-others.others.items c.program-program.ensures.sound
    (subst IsAscending c.as_slice-atoms.ensures.value c.as_slice-atoms.ensures.ascending) kept reasoned refl c.in_ok-others.ensures empty

pub returns : goal.returns
returns c =
    let p : Program = c.args.compiled.now in
    let S : Atoms = c.args.interp.now in
    let kept : list_all (keeps S) (rules_in_force p) ≡ true =
    subst (λ (o : Option Nogood). MatchOption o (list_all (keeps S) (rules_in_force p) ≡ true) (IsBroken p S)) c.in_default-2.is c.in_ok-nogood-2.ensures in
    let reasoned : list_all (λ a. not (has S a) || is_supported p S a) (atoms_of p) ≡ true =
    subst (λ (o : Option Nogood). MatchOption o (list_all (λ a. not (has S a) || is_supported p S a) (atoms_of p) ≡ true) (IsBroken p S)) c.in_default-3.is c.in_ok-nogood-3.ensures in
    let some : eqb (length c.in_ok-others.others.items) 0 ≡ false =
    ap (λ (xs : List ℕ). eqb (length xs) 0) (sym c.as_slice-5.ensures.value) ∙ sym c.is_empty-is_stable.ensures ∙ c.if-is_stable.false in
    let found = check_unfounded p S (least_model p S) c.in_ok-others.others.items c.program-program.ensures.sound
    (subst IsAscending c.as_slice-atoms.ensures.value c.as_slice-atoms.ensures.ascending) kept reasoned refl c.in_ok-others.ensures some in
    subst (λ (U : Atoms). HasUnfounded p S U × (is_stable p S ≡ false)) (sym c.from_vec.ensures) found
