use Rattle.std.proofs.Common.{◌≡◌, ◌≤◌, ◌+◌, ◌*◌, ℕ, List, not, map, length, Option, sym, ap, ◌∙◌, subst, arith}
use Rattle.std.specs.Prelude.{ℤ}
use Rattle.std.specs.List.{AllByRecursion}
use Rattle.asp_model.specs.declared.program.Program.{Program}
use Rattle.asp_model.specs.Costs.{priorities, betters}
use Rattle.asp_vars.specs.Numbering.{var_count}
use Rattle.asp_checker.specs.declared.bounds.Bound.{Bound}
use Rattle.asp_checker.specs.Propagation.{reaches_bound}
use Rattle.asp_checker.specs.Blocks.{priced_to, sum_over, cost_of_bound}
use Rattle.asp_checker.proofs.BoundLaws.{levels-long, priced-within, priced-few, all_below, wide_all, reached-by}
use Rattle.asp_checker.proofs.bounds.reaches_bound.Goals as goal

-- each of the bound's variables is one of the program's
within : (p : Program) (levels : List (List ℤ)) (list vars : List ℕ) → list ≡ vars → vars ≡ priced_to levels (var_count p) → AllByRecursion (λ v. v ≤ var_count p) list
within p levels list vars e is = subst (AllByRecursion (λ v. v ≤ var_count p)) (sym (e ∙ is)) (priced-within levels (var_count p))

pub reaches-requires-clause-values : goal.reaches-requires-clause-values
reaches-requires-clause-values c =
    let p : Program = c.args.compiled.now in
    let h = rw c.in-Some.is at c.requires.levels in
    all_below c.args.values.now c.as_slice-in-Some-2.result.now (var_count p) c.requires.size
    (within p c.in-Some.b.levels c.as_slice-in-Some-2.result.now c.in-Some.b.priced c.as_slice-in-Some-2.ensures.value h.1.1)

pub reaches-requires-clause-levels : goal.reaches-requires-clause-levels
reaches-requires-clause-levels c =
    let h = rw c.in-Some.is at c.requires.levels in
    ap (λ (k : List ℤ). length k) c.as_slice-in-Some.ensures.value ∙ h.1.0 ∙ ap (λ (ls : List (List ℤ)). length ls) (sym c.as_slice.ensures.value)

pub reaches-requires-clause-weights : goal.reaches-requires-clause-weights
reaches-requires-clause-weights c =
    let p : Program = c.args.compiled.now in
    let h = rw c.in-Some.is at c.requires.levels in
    wide_all c.as_slice.result.now (var_count p) c.as_slice-in-Some-2.result.now
    (within p c.in-Some.b.levels c.as_slice-in-Some-2.result.now c.in-Some.b.priced c.as_slice-in-Some-2.ensures.value h.1.1)
    (subst (λ (ls : List (List ℤ)). AllByRecursion (λ (w : List ℤ). length w ≡ 2 * var_count p + 2) ls) (sym c.as_slice.ensures.value)
    (levels-long p (priorities p.minimize) c.in-Some.b.levels h.0))

pub reaches-requires-clause-few : goal.reaches-requires-clause-few
reaches-requires-clause-few c =
    let p : Program = c.args.compiled.now in
    let h = rw c.in-Some.is at c.requires.levels in
    let long = ap (λ (vs : List ℕ). length vs) (c.as_slice-in-Some-2.ensures.value ∙ h.1.1) in
    omega (arith, long, priced-few c.in-Some.b.levels (var_count p), c.vars-vars.ensures.few)

pub returns-in-Some : goal.returns-in-Some
returns-in-Some c =
    let h = rw c.in-Some.is at c.requires.levels in
    let x = c.args.values.now in
    c.reaches.ensures
    ∙ ap (λ (vs : List ℕ). not (betters (map (λ w. sum_over x w vs) c.as_slice.result.now) c.as_slice-in-Some.result.now)) c.as_slice-in-Some-2.ensures.value
    ∙ ap (λ (ls : List (List ℤ)). not (betters (map (λ w. sum_over x w c.in-Some.b.priced) ls) c.as_slice-in-Some.result.now)) c.as_slice.ensures.value
    ∙ ap (λ (k : List ℤ). not (betters (map (λ w. sum_over x w c.in-Some.b.priced) c.in-Some.b.levels) k)) c.as_slice-in-Some.ensures.value
    ∙ reached-by c.args.compiled.now c.in-Some.b x h.0 h.1.1
    ∙ ap (λ (o : Option Bound). reaches_bound c.args.compiled.now (cost_of_bound o) x) (sym c.in-Some.is)
