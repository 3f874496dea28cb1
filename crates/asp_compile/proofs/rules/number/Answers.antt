use Rattle.std.proofs.Common.{◌≡◌, ◌<◌, ◌++◌, ◌+◌, ◌∷◌, [], ℕ, List, map, length, get_or, take, ap, ◌∙◌, sym, arith, length-append}
use Rattle.asp_model.specs.declared.program.Body.{Body}
use Rattle.asp_model.specs.declared.program.Rule.{Rule}
use Rattle.asp_model.specs.Views.{rule_seen}
use Rattle.asp_compile.specs.Forms.{body_of}
use Rattle.asp_vars.specs.Numbering.{body_eq, with_body, place_of}
use Rattle.asp_compile.proofs.RuleLaws.{form, place_in, length_distinct, distinct_more, places_more}
use Rattle.asp_compile.proofs.rules.number.Goals as goal

pub with-requires : goal.with-requires
with-requires c =
    let all : List Rule = c.args.rules.now ++ c.args.opened.now in
    let bound = length_distinct all c.loop-i.i in
    let count = ap length c.loop-i.invariant.bodies in
    let total = length-append c.args.rules.now c.args.opened.now in
    omega (arith, bound, count, total, c.requires.few)

pub loop-i-preserved : goal.loop-i-preserved
loop-i-preserved c =
    let all : List Rule = c.args.rules.now ++ c.args.opened.now in
    let i : ℕ = c.loop-i.i in
    let r : Rule = rule_seen c.rule_at-rule.result in
    let total = length-append c.args.rules.now c.args.opened.now in
    let lt : i < length all = omega (arith, total, c.loop-i-test.true) in
    let b : Body = form (get_or all i r) in
    let bs : List Body = c.loop-i.bodies in
    let body_is : body_of c.in_ok-form.form ≡ b = c.in_ok-form.ensures ∙ ap form c.rule_at-rule.ensures in
    let bodies_are : c.in_ok-more.more ≡ with_body bs b = c.in_ok-more.ensures.bodies ∙ ap (with_body bs) body_is in
    let place_is : c.in_ok-more.place ≡ place_of (body_eq b) (with_body bs b) =
    c.in_ok-more.ensures.place ∙ ap (λ (x : Body). place_of (body_eq x) c.in_ok-more.more) body_is ∙ ap (place_of (body_eq b)) bodies_are in
    record {
      bodies = bodies_are ∙ ap (λ (xs : List Body). with_body xs b) c.loop-i.invariant.bodies ∙ sym (distinct_more all i r lt);
      places =
          c.in_ok-push.ensures.items
          ∙ ap (λ (n : ℕ). c.loop-i.places.items ++ n ∷ []) place_is
          ∙ ap (λ (ns : List ℕ). ns ++ place_of (body_eq b) (with_body bs b) ∷ []) c.loop-i.invariant.places
          ∙ sym (places_more bs all i r lt c.loop-i.invariant.bodies)
          ∙ ap (λ (xs : List Body). map (place_in xs) (take (i + 1) all)) (sym bodies_are);
    }
