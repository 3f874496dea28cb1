use Rattle.std.proofs.Common.{◌≡◌, ◌+◌, ◌++◌, ℕ, List, length, sym, ap, ◌∙◌, subst}
use Rattle.std.specs.Prelude.{Bool}
use Rattle.std.proofs.lemmas.List.{length-map}
use Rattle.asp_model.specs.declared.program.Program.{Program}
use Rattle.asp_model.specs.declared.program.Rule.{Rule}
use Rattle.asp_model.specs.Models.{rules_in_force, atoms_of}
use Rattle.asp_model.proofs.ReductLaws.{rules_in_force-heads}
use Rattle.asp_vars.specs.Numbering.{bodies_of}
use Rattle.asp_compile.specs.Forms.{body_of}
use Rattle.asp_compile.specs.Headed.{HeadsStand}
use Rattle.asp_compile.specs.Named.{AreHeadedAlone, AreNames}
use Rattle.asp_compile.proofs.NameLaws.{names_are, rows_within}
use Rattle.asp_compile.proofs.numbered.Numbered.names.Goals as goal

pub headed_alone-requires-clause-stand : goal.headed_alone-requires-clause-stand
headed_alone-requires-clause-stand c =
    let p : Program = c.self.inside.program in
    let all : p.rules ++ c.as_slice-opened.result.now ≡ rules_in_force p =
    ap (λ (rs : List Rule). p.rules ++ rs) (c.as_slice-opened.ensures.value ∙ c.self.invariant.opened) in
    let atoms : c.as_slice-atoms.result.now ≡ atoms_of p = c.as_slice-atoms.ensures.value ∙ c.self.invariant.atoms in
    subst (λ (L : List ℕ). HeadsStand L (p.rules ++ c.as_slice-opened.result.now)) (sym atoms)
    (subst (λ (rs : List Rule). HeadsStand (atoms_of p) rs) (sym all) (rules_in_force-heads p))

pub names-requires-clause-numbers : goal.names-requires-clause-numbers
names-requires-clause-numbers c =
    let p : Program = c.args.self.now in
    let first : length c.as_slice-atoms.result.now + 1 ≡ length (atoms_of p) + 1 =
    ap (λ (L : List ℕ). length L + 1) (c.as_slice-atoms.ensures.value ∙ c.self.invariant.atoms ∙ ap atoms_of c.self.view_is) in
    let count : length c.forms-count.result.now ≡ length (bodies_of p) =
    sym (length-map c.forms-count.result.now body_of) ∙ ap length (c.forms-count.ensures ∙ c.self.invariant.bodies ∙ ap bodies_of c.self.view_is) in
    rows_within p (length c.as_slice-atoms.result.now + 1) (length c.forms-count.result.now) c.args.supports.now first count c.requires

pub returns : goal.returns
returns c =
    let p : Program = c.args.self.now in
    let L : List ℕ = c.as_slice-atoms.result.now in
    let headed : List Bool = c.in_ok-headed.headed.items in
    let names : List ℕ = c.in_ok-names.names.items in
    let first : ℕ = length L + 1 in
    let atoms : L ≡ atoms_of p = c.as_slice-atoms.ensures.value ∙ c.self.invariant.atoms ∙ ap atoms_of c.self.view_is in
    let all : c.self.inside.program.rules ++ c.as_slice-opened.result.now ≡ rules_in_force p =
    ap (λ (rs : List Rule). c.self.inside.program.rules ++ rs) (c.as_slice-opened.ensures.value ∙ c.self.invariant.opened) ∙ ap rules_in_force c.self.view_is in
    let count : length c.forms-count.result.now ≡ length (bodies_of p) =
    sym (length-map c.forms-count.result.now body_of) ∙ ap length (c.forms-count.ensures ∙ c.self.invariant.bodies ∙ ap bodies_of c.self.view_is) in
    let marks : AreHeadedAlone headed (atoms_of p) (rules_in_force p) =
    subst (λ (rs : List Rule). AreHeadedAlone headed (atoms_of p) rs) all
    (subst (λ (K : List ℕ). AreHeadedAlone headed K (c.self.inside.program.rules ++ c.as_slice-opened.result.now)) atoms c.in_ok-headed.ensures) in
    let rows : AreNames names (length (bodies_of p)) first headed c.args.supports.now =
    subst (λ (hs : List Bool). AreNames names (length (bodies_of p)) first hs c.args.supports.now) c.as_slice.ensures.value
    (subst (λ (n : ℕ). AreNames names n first c.as_slice.result.now c.args.supports.now) count c.in_ok-names.ensures) in
    names_are p names first headed c.args.supports.now (ap (λ (K : List ℕ). length K + 1) atoms) marks c.requires rows
