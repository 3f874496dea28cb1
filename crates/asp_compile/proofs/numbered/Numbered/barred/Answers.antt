use Rattle.std.proofs.Common.{◌≡◌, ◌<◌, ◌++◌, ℕ, List, All, map, length, sym, ap, ◌∙◌, subst}
use Rattle.std.specs.Prelude.{Bool}
use Rattle.std.proofs.lemmas.List.{length-map}
use Rattle.asp_model.specs.declared.program.Program.{Program}
use Rattle.asp_model.specs.declared.program.Rule.{Rule}
use Rattle.asp_model.specs.Models.{rules_in_force}
use Rattle.asp_vars.specs.Numbering.{bodies_of}
use Rattle.asp_vars.specs.Completion.{is_barred}
use Rattle.asp_compile.specs.Forms.{body_of}
use Rattle.asp_compile.specs.Headed.{AreBarred}
use Rattle.asp_compile.proofs.NumberedLaws.{places_within, rule_place}
use Rattle.asp_compile.proofs.BarredLaws.{barred_are}
use Rattle.asp_compile.proofs.numbered.Numbered.barred.Goals as goal

pub barred_bodies-requires-clause-within : goal.barred_bodies-requires-clause-within
barred_bodies-requires-clause-within c =
    let p : Program = c.self.inside.program in
    let places : c.as_slice-places.result.now ≡ map (rule_place p) (rules_in_force p) = c.as_slice-places.ensures.value ∙ c.self.invariant.places in
    let count : length c.forms-count.result.now ≡ length (bodies_of p) = sym (length-map c.forms-count.result.now body_of) ∙ ap length (c.forms-count.ensures ∙ c.self.invariant.bodies) in
    subst (λ (n : ℕ). All (λ j. j < n) c.as_slice-places.result.now) (sym count)
    (subst (λ (js : List ℕ). All (λ j. j < length (bodies_of p)) js) (sym places) (places_within p))

pub returns : goal.returns
returns c =
    let p : Program = c.self.inside.program in
    let marks : List Bool = c.in_ok-list.list.items in
    let all : p.rules ++ c.as_slice-opened.result.now ≡ rules_in_force p =
    ap (λ (rs : List Rule). p.rules ++ rs) (c.as_slice-opened.ensures.value ∙ c.self.invariant.opened) in
    let places : c.as_slice-places.result.now ≡ map (rule_place p) (rules_in_force p) = c.as_slice-places.ensures.value ∙ c.self.invariant.places in
    let count : length c.forms-count.result.now ≡ length (bodies_of p) = sym (length-map c.forms-count.result.now body_of) ∙ ap length (c.forms-count.ensures ∙ c.self.invariant.bodies) in
    let first : AreBarred marks (length (bodies_of p)) c.as_slice-places.result.now (p.rules ++ c.as_slice-opened.result.now) =
    subst (λ (n : ℕ). AreBarred marks n c.as_slice-places.result.now (p.rules ++ c.as_slice-opened.result.now)) count c.in_ok-list.ensures in
    let second : AreBarred marks (length (bodies_of p)) (map (rule_place p) (rules_in_force p)) (p.rules ++ c.as_slice-opened.result.now) =
    subst (λ (js : List ℕ). AreBarred marks (length (bodies_of p)) js (p.rules ++ c.as_slice-opened.result.now)) places first in
    barred_are p marks (subst (λ (rs : List Rule). AreBarred marks (length (bodies_of p)) (map (rule_place p) (rules_in_force p)) rs) all second)
    ∙ ap (λ (q : Program). map (is_barred q) (bodies_of q)) c.self.view_is
