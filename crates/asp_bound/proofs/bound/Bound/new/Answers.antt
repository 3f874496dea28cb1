use Rattle.std.proofs.Common.{◌≡◌, ◌+◌, ℕ, ℤ, Bool, List, Option, None, replicate, length, refl, sym, ap, ◌∙◌, subst, arith}
use Rattle.asp_model.specs.Costs.{priorities}
use Rattle.asp_vars.specs.Numbering.{var_count}
use Rattle.asp_bound.specs.Gathered.{valueless, AreGathered}
use Rattle.asp_bound.proofs.KeptLaws.{begun_as}
use Rattle.asp_bound.proofs.RaiserLaws.{begun_as as raisers_begun}
use Rattle.asp_bound.proofs.StartLaws.{starts-new}
use Rattle.asp_bound.proofs.bound.Bound.new.Goals as goal

pub lists_of-requires : goal.lists_of-requires
lists_of-requires c = omega (arith, c.in_ok-tables.ensures.count, c.vars-count.ensures.few)

pub invariant_of-result : goal.invariant_of-result
invariant_of-result c =
    let tables = c.in_ok-tables.tables in
    let lists = c.in_ok-lists.lists in
    let are = c.in_ok-lists.ensures in
    let least : List ℤ = c.in_ok-least.least.items in
    let copied : least ≡ tables.sums.items = c.in_ok-least.ensures.items_if_clones_equal (λ x y q. q) ∙ c.as_slice.ensures.value in
    let same = c.of.ensures ∙ c.program.ensures.program in
    let none = ap (λ (n : ℕ). let z : List (Option Bool) = replicate (n + 1) None in z) (ap var_count same ∙ sym c.vars-count.ensures.count) in
    let gathered = subst (AreGathered c.args.compiled.now (priorities c.args.compiled.now.minimize) tables.rows tables.columns) (sym copied) c.in_ok-tables.ensures in
    let raisers = raisers_begun c.none.result (c.vars-count.result + 1) tables.rows lists.vars.items lists.raisers (length lists.vars.items) c.none.ensures are.none refl in (
      begun_as c.args.compiled.now c.of.result.value c.none.result c.vars-count.result tables.rows tables.rows tables.columns lists.vars.items tables.sums.items
          (c.of.ensures ∙ c.program.ensures.program) c.vars-count.ensures.count c.vars-count.ensures.few c.none.ensures refl c.program.ensures.sound
          c.in_ok-tables.ensures are.within are.whole are.once,
      starts-new c.none.result tables.columns lists.starts.items c.len.result c.len.ensures are.begun,
      raisers.0,
      raisers.1,
      begun_as c.args.compiled.now c.of.result.value (valueless c.of.result.value) c.vars-count.result tables.rows tables.rows tables.columns lists.vars.items least
          same c.vars-count.ensures.count c.vars-count.ensures.few none refl c.program.ensures.sound gathered are.within are.whole are.once,
    )
