-- The keys rise, so the weights fall.
use Rattle.std.proofs.Common.{rules, arith, ◌≡◌, ℕ, ◌≤◌, false}
use Rattle.std.specs.Cmp.{nat_cmp_total}
use Rattle.std.specs.Ordering.{nat_cmp, is_lt}
use Rattle.std.specs.List.Sorted.{IsSortedBy}
use Rattle.std.proofs.lemmas.Bool.Decides.{nat_tests}
use Rattle.std.proofs.lemmas.List.Sorted.{sorted_far, ranks_by, IsStrictWeakOrder-flip, answers_always}
use Rattle.asp_bound.specs.declared.place.Addition.{Addition}
use Rattle.asp_bound.proofs.levels.sort.Goals as goal

not_below : (a b : ℕ) → is_lt (nat_cmp a b) ≡ false → b ≤ a
not_below a b h = grind (arith, nat_tests)

pub returns-clause-falling : goal.returns-clause-falling
returns-clause-falling c = λ i j d l h.
    let up : IsSortedBy (λ x y. is_lt (nat_cmp y.most x.most)) c.sort_unstable_by_key.new.self =
    c.sort_unstable_by_key.ensures.sorted (λ (x : Addition). record { 0 = x.most }) (answers_always _ _ _ (λ f a r g k. search rules)) in
    not_below _ _ (sorted_far (λ (x y : Addition). is_lt (nat_cmp y.most x.most))
    (IsStrictWeakOrder-flip (λ (x y : Addition). is_lt (nat_cmp x.most y.most)) (ranks_by nat_cmp_total (λ (x : Addition). x.most)))
    c.sort_unstable_by_key.new.self up i j d (omega arith) h)
