use Rattle.std.proofs.Common.{◌≡◌, ◌<◌, ◌++◌, ℕ, List, All, map, length, sym, ap, ◌∙◌, subst}
use Rattle.asp_model.specs.declared.program.Program.{Program}
use Rattle.asp_model.specs.declared.program.Rule.{Rule}
use Rattle.asp_model.specs.Models.{rules_in_force, atoms_of}
use Rattle.asp_model.proofs.ReductLaws.{rules_in_force-heads}
use Rattle.asp_vars.specs.Numbering.{bodies_of}
use Rattle.asp_vars.specs.Tabled.{heads_of}
use Rattle.asp_compile.specs.Forms.{body_of}
use Rattle.asp_compile.specs.Headed.{HeadsStand, AreHeads}
use Rattle.std.proofs.lemmas.List.{length-map}
use Rattle.asp_compile.proofs.NumberedLaws.{heads_are, places_within, rule_place}
use Rattle.asp_compile.proofs.numbered.Numbered.heads.Goals as goal

pub head_rows-requires-clause-within : goal.head_rows-requires-clause-within
head_rows-requires-clause-within c =
    let p : Program = c.self.inside.program in
    let places : c.as_slice-places.result.now ≡ map (rule_place p) (rules_in_force p) = c.as_slice-places.ensures.value ∙ c.self.invariant.places in
    let count : length c.forms-count.result.now ≡ length (bodies_of p) = sym (length-map c.forms-count.result.now body_of) ∙ ap length (c.forms-count.ensures ∙ c.self.invariant.bodies) in
    subst (λ (n : ℕ). All (λ j. j < n) c.as_slice-places.result.now) (sym count)
    (subst (λ (js : List ℕ). All (λ j. j < length (bodies_of p)) js) (sym places) (places_within p))

pub head_rows-requires-clause-stand : goal.head_rows-requires-clause-stand
head_rows-requires-clause-stand c =
    let p : Program = c.self.inside.program in
    let all : p.rules ++ c.as_slice-opened.result.now ≡ rules_in_force p =
    ap (λ (rs : List Rule). p.rules ++ rs) (c.as_slice-opened.ensures.value ∙ c.self.invariant.opened) in
    let atoms : c.as_slice-atoms.result.now ≡ atoms_of p = c.as_slice-atoms.ensures.value ∙ c.self.invariant.atoms in
    subst (λ (L : List ℕ). HeadsStand L (p.rules ++ c.as_slice-opened.result.now)) (sym atoms)
    (subst (λ (rs : List Rule). HeadsStand (atoms_of p) rs) (sym all) (rules_in_force-heads p))

pub returns : goal.returns
returns c =
    let p : Program = c.self.inside.program in
    let rows : List (List ℕ) = c.in_ok-rows.rows in
    let all : p.rules ++ c.as_slice-opened.result.now ≡ rules_in_force p =
    ap (λ (rs : List Rule). p.rules ++ rs) (c.as_slice-opened.ensures.value ∙ c.self.invariant.opened) in
    let atoms : c.as_slice-atoms.result.now ≡ atoms_of p = c.as_slice-atoms.ensures.value ∙ c.self.invariant.atoms in
    let places : c.as_slice-places.result.now ≡ map (rule_place p) (rules_in_force p) = c.as_slice-places.ensures.value ∙ c.self.invariant.places in
    let count : length c.forms-count.result.now ≡ length (bodies_of p) = sym (length-map c.forms-count.result.now body_of) ∙ ap length (c.forms-count.ensures ∙ c.self.invariant.bodies) in
    let first : AreHeads rows (atoms_of p) (length c.forms-count.result.now) c.as_slice-places.result.now (p.rules ++ c.as_slice-opened.result.now) =
    subst (λ (L : List ℕ). AreHeads rows L (length c.forms-count.result.now) c.as_slice-places.result.now (p.rules ++ c.as_slice-opened.result.now)) atoms c.in_ok-rows.ensures in
    let second : AreHeads rows (atoms_of p) (length (bodies_of p)) c.as_slice-places.result.now (p.rules ++ c.as_slice-opened.result.now) =
    subst (λ (n : ℕ). AreHeads rows (atoms_of p) n c.as_slice-places.result.now (p.rules ++ c.as_slice-opened.result.now)) count first in
    let third : AreHeads rows (atoms_of p) (length (bodies_of p)) (map (rule_place p) (rules_in_force p)) (p.rules ++ c.as_slice-opened.result.now) =
    subst (λ (js : List ℕ). AreHeads rows (atoms_of p) (length (bodies_of p)) js (p.rules ++ c.as_slice-opened.result.now)) places second in
    heads_are p rows (subst (λ (rs : List Rule). AreHeads rows (atoms_of p) (length (bodies_of p)) (map (rule_place p) (rules_in_force p)) rs) all third)
    ∙ ap (λ (q : Program). map (heads_of q) (bodies_of q)) c.self.view_is
