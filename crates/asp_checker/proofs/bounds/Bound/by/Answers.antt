use Rattle.std.proofs.Common.{◌≡◌, sym, ap, ◌∙◌, subst, length, List, ℤ}
use Rattle.std.specs.Prelude.{◌+◌, ◌*◌, ℕ}
use Rattle.std.specs.List.{AllByRecursion}
use Rattle.asp_model.specs.declared.program.Program.{Program}
use Rattle.asp_model.specs.Costs.{priorities}
use Rattle.asp_vars.specs.Numbering.{var_count}
use Rattle.asp_checker.specs.Blocks.{AreLevels, priced_to}
use Rattle.asp_checker.proofs.BoundLaws.{levels-count, levels-long}
use Rattle.asp_checker.proofs.bounds.Bound.by.Goals as goal

pub priced-requires-clause-weights : goal.priced-requires-clause-weights
priced-requires-clause-weights c =
    let p : Program = c.args.compiled.now in
    let list = c.as_slice.ensures.value in
    subst (λ (n : ℕ). AllByRecursion (λ (w : List ℤ). length w ≡ 2 * n + 2) c.as_slice.result.now) (sym c.vars.ensures.count)
    (subst (λ (ls : List (List ℤ)). AllByRecursion (λ (w : List ℤ). length w ≡ 2 * var_count p + 2) ls) (sym list)
    (levels-long p (priorities p.minimize) c.in_ok-levels.levels.items c.in_ok-levels.ensures))

pub returns-clause-levels : goal.returns-clause-levels
returns-clause-levels c =
    let p : Program = c.args.compiled.now in
    let same = c.from_vec.ensures in
    let are : AreLevels p (priorities p.minimize) c.from_vec.result = subst (AreLevels p (priorities p.minimize)) (sym same) c.in_ok-levels.ensures in
    let is : c.from_vec-2.result ≡ c.args.cost.now = c.from_vec-2.ensures ∙ c.in_ok-from_slice.ensures.items ∙ c.as_slice-2.ensures in
    let long = ap (λ (sums : List ℤ). length sums) is ∙ c.requires ∙ sym (levels-count p (priorities p.minimize) c.from_vec.result are) in
    let list = c.from_vec-3.ensures ∙ c.in_ok-priced.ensures ∙ ap (λ (ls : List (List ℤ)). priced_to ls c.vars.result) (c.as_slice.ensures.value ∙ sym same)
    ∙ ap (λ (n : ℕ). priced_to c.from_vec.result n) c.vars.ensures.count in
    (are, (long, list))
