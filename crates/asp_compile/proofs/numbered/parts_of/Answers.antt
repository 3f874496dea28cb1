use Rattle.std.proofs.Common.{◌≡◌, ◌++◌, List, All, map, length, sym, ap, ◌∙◌, subst, arith}
use Rattle.asp_model.specs.declared.program.Program.{Program}
use Rattle.asp_model.specs.declared.program.Rule.{Rule}
use Rattle.asp_model.specs.declared.program.Body.{Body}
use Rattle.asp_vars.specs.Numbering.{normal, body_eq, bodies_of, distinct, place_of}
use Rattle.asp_model.specs.Models.{rules_in_force}
use Rattle.asp_model.specs.Sound.{HasFewItems}
use Rattle.asp_model.proofs.SoundLaws.{rules_in_force-few}
use Rattle.asp_compile.proofs.numbered.parts_of.Goals as goal

pub numbers-requires : goal.numbers-requires
numbers-requires c =
    let p : Program = c.args.program.now in
    let all : p.rules ++ c.as_slice.result.now ≡ rules_in_force p =
    ap (λ (rs : List Rule). p.rules ++ rs) (c.as_slice.ensures.value ∙ c.in_ok-opened.ensures) in
    subst (λ (rs : List Rule). All HasFewItems rs) (sym all) (rules_in_force-few p c.requires)

pub returns-clause-few : goal.returns-clause-few
returns-clause-few c =
    let p : Program = c.args.program.now in
    let all : p.rules ++ c.as_slice.result.now ≡ rules_in_force p =
    ap (λ (rs : List Rule). p.rules ++ rs) (c.as_slice.ensures.value ∙ c.in_ok-opened.ensures) in
    let bodies : c.in_ok-bodies.bodies ≡ bodies_of p = c.in_ok-bodies.ensures.bodies ∙ ap (λ (rs : List Rule). distinct (map (λ x. normal x.body) rs)) all in
    omega (arith, c.in_ok-bodies.ensures.few, ap length c.in_ok-atoms.ensures, ap length bodies)

pub returns-clause-bodies : goal.returns-clause-bodies
returns-clause-bodies c =
    let p : Program = c.args.program.now in
    let all : p.rules ++ c.as_slice.result.now ≡ rules_in_force p =
    ap (λ (rs : List Rule). p.rules ++ rs) (c.as_slice.ensures.value ∙ c.in_ok-opened.ensures) in
    c.in_ok-bodies.ensures.bodies ∙ ap (λ (rs : List Rule). distinct (map (λ x. normal x.body) rs)) all

pub returns-clause-places : goal.returns-clause-places
returns-clause-places c =
    let p : Program = c.args.program.now in
    let all : p.rules ++ c.as_slice.result.now ≡ rules_in_force p =
    ap (λ (rs : List Rule). p.rules ++ rs) (c.as_slice.ensures.value ∙ c.in_ok-opened.ensures) in
    let bodies : c.in_ok-bodies.bodies ≡ bodies_of p = c.in_ok-bodies.ensures.bodies ∙ ap (λ (rs : List Rule). distinct (map (λ x. normal x.body) rs)) all in
    c.in_ok-bodies.ensures.places
    ∙ ap (λ (rs : List Rule). map (λ x. place_of (body_eq (normal x.body)) c.in_ok-bodies.bodies) rs) all
    ∙ ap (λ (bs : List Body). map (λ x. place_of (body_eq (normal x.body)) bs) (rules_in_force p)) bodies
