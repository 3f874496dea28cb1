use Rattle.std.proofs.Common.{◌≡◌, ◌∙◌, ◌^◌, ◌<◌, ◌≤◌, ℤ, List, [], get_or, drop, pos, w32, w64, to_z, of_z, sym, ap, subst, arith, rules}
use Rattle.std.specs.Prelude.{◌+ℤ◌}
use Rattle.std.specs.Int.{w128}
use Rattle.std.proofs.lemmas.Int.{ints, to_z-of_z}
use Rattle.std.proofs.lemmas.List.{drop_all}
use Rattle.asp_vars.specs.Literals.{Literal}
use Rattle.asp_vars.specs.Numbering.{literal_of, var_count}
use Rattle.asp_bound.specs.declared.place.Addition.{Addition}
use Rattle.asp_bound.proofs.TakenLaws.{IsTaken, abs-high, abs-low, taken-none, taken-more, taken-permuted, taken-least}
use Rattle.asp_bound.proofs.levels.take_additions.Goals as goal

pub loop-literal-init : goal.loop-literal-init
loop-literal-init c = record {
  taken = subst (λ (xs : List Addition). IsTaken c.args.compiled.now c.args.items.now c.args.weights.now xs c.args.weights.now (pos 0))
      (sym c.new-additions.ensures.items) (taken-none c.args.compiled.now c.args.items.now c.args.weights.now c.requires.sums c.requires.small);
  low = omega (arith, ints);
  high = omega (arith, ints);
}

pub loop-literal-preserved : goal.loop-literal-preserved
loop-literal-preserved c =
    let p = c.args.compiled.now in
    let i = c.loop-literal.literal-index in
    let x : ℤ × ℤ = (pos 0, pos 0) in
    let literal = to_z-of_z w32 (get_or c.args.items.now i x).0 (search rules) in
    let is : c.var.result ≡ (literal_of p (get_or c.args.items.now i x).0).var = c.var.ensures ∙ ap (λ (l : Literal). l.var) (c.lit_of.ensures.lit ∙ ap (literal_of p) literal) in
    let up : 0 < c.var.result = omega (arith, c.var.ensures, c.lit_of.ensures.positive) in
    let le : c.var.result ≤ var_count p = omega (arith, c.var.ensures, c.lit_of.ensures.within) in
    let back = to_z-of_z w128 c.add-least.result (search rules) in
    let made : c.add-least.result ≡ c.loop-literal.least +ℤ c.in_ok-more.more =
    c.add-least.ensures ∙ ap (λ (a : ℤ). a +ℤ to_z w64 (of_z w64 c.in_ok-more.more)) c.loop-literal.least-is
    ∙ ap (λ (b : ℤ). c.loop-literal.least +ℤ b) (to_z-of_z w64 c.in_ok-more.more (search rules)) in
    let low = abs-low c.in_ok-more.more (2 ^ 56) c.in_ok-more.ensures.small in
    let high = abs-high c.in_ok-more.more (2 ^ 56) c.in_ok-more.ensures.small in
    record {
      taken = taken-more p c.args.items.now i x c.args.weights.now c.loop-literal.additions.items c.take_addition.new.additions.items
          c.loop-literal.weights c.take_addition.new.weights c.loop-literal.least c.in_ok-more.more _ c.var.result
          (omega arith) (subst
          (IsTaken p (drop c.loop-literal.literal-index c.args.items.now) c.args.weights.now c.loop-literal.additions.items
          c.loop-literal.weights) c.loop-literal.least-is c.loop-literal.invariant.taken) is up le c.in_ok-more.ensures.additions
          c.in_ok-more.ensures.weights c.in_ok-more.ensures.least (back ∙ made);
      low = omega (arith, ints, back, made, c.loop-literal.least-is, c.loop-literal.invariant.low, low);
      high = omega (arith, ints, back, made, c.loop-literal.least-is, c.loop-literal.invariant.high, high);
    }

pub narrowed-least-requires-clause-low : goal.narrowed-least-requires-clause-low
narrowed-least-requires-clause-low c =
    let p = c.args.compiled.now in
    let done : drop c.loop-literal.literal-index c.args.items.now ≡ [] = drop_all c.loop-literal.literal-index c.args.items.now (omega arith) in
    let sum = taken-least p c.args.weights.now c.loop-literal.additions.items c.loop-literal.weights c.loop-literal.least
    (subst (λ (xs : List (ℤ × ℤ)). IsTaken p xs c.args.weights.now c.loop-literal.additions.items c.loop-literal.weights c.loop-literal.least) done
    (subst (IsTaken p (drop c.loop-literal.literal-index c.args.items.now) c.args.weights.now c.loop-literal.additions.items
    c.loop-literal.weights) c.loop-literal.least-is c.loop-literal.invariant.taken)) in
    omega (arith, ints, c.loop-literal.least-is, sum, c.requires.low)

pub narrowed-least-requires-clause-high : goal.narrowed-least-requires-clause-high
narrowed-least-requires-clause-high c =
    let p = c.args.compiled.now in
    let done : drop c.loop-literal.literal-index c.args.items.now ≡ [] = drop_all c.loop-literal.literal-index c.args.items.now (omega arith) in
    let sum = taken-least p c.args.weights.now c.loop-literal.additions.items c.loop-literal.weights c.loop-literal.least
    (subst (λ (xs : List (ℤ × ℤ)). IsTaken p xs c.args.weights.now c.loop-literal.additions.items c.loop-literal.weights c.loop-literal.least) done
    (subst (IsTaken p (drop c.loop-literal.literal-index c.args.items.now) c.args.weights.now c.loop-literal.additions.items
    c.loop-literal.weights) c.loop-literal.least-is c.loop-literal.invariant.taken)) in
    omega (arith, ints, c.loop-literal.least-is, sum, c.requires.high)

pub returns-clause-additions : goal.returns-clause-additions
returns-clause-additions c =
    let p = c.args.compiled.now in
    let done : drop c.loop-literal.literal-index c.args.items.now ≡ [] = drop_all c.loop-literal.literal-index c.args.items.now (omega arith) in
    taken-permuted p c.args.weights.now c.loop-literal.additions.items c.loop-literal.weights c.loop-literal.least
    (subst (λ (xs : List (ℤ × ℤ)). IsTaken p xs c.args.weights.now c.loop-literal.additions.items c.loop-literal.weights c.loop-literal.least) done
    (subst (IsTaken p (drop c.loop-literal.literal-index c.args.items.now) c.args.weights.now c.loop-literal.additions.items
    c.loop-literal.weights) c.loop-literal.least-is c.loop-literal.invariant.taken))

pub returns-clause-least : goal.returns-clause-least
returns-clause-least c =
    let p = c.args.compiled.now in
    let done : drop c.loop-literal.literal-index c.args.items.now ≡ [] = drop_all c.loop-literal.literal-index c.args.items.now (omega arith) in
    let sum = taken-least p c.args.weights.now c.loop-literal.additions.items c.loop-literal.weights c.loop-literal.least
    (subst (λ (xs : List (ℤ × ℤ)). IsTaken p xs c.args.weights.now c.loop-literal.additions.items c.loop-literal.weights c.loop-literal.least) done
    (subst (IsTaken p (drop c.loop-literal.literal-index c.args.items.now) c.args.weights.now c.loop-literal.additions.items
    c.loop-literal.weights) c.loop-literal.least-is c.loop-literal.invariant.taken)) in
    to_z-of_z w64 c.narrowed-least.result (search rules) ∙ (c.narrowed-least.ensures ∙ (c.loop-literal.least-is ∙ sum))
