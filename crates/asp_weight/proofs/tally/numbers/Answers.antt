use Rattle.std.proofs.Common.{◌≡◌, ℕ, suc, zero, ◌+◌, ◌∷◌, [], ◌++◌, ap, ◌∙◌, arith}
use Rattle.std.specs.List.{range_with_len}
use Rattle.asp_weight.proofs.tally.numbers.Goals as goal

range_more : (n a b : ℕ) → b ≡ a + n → range_with_len a n ++ b ∷ [] ≡ range_with_len a (suc n)
range_more zero a b e = ap (λ x. x ∷ []) (e ∙ omega arith)
range_more (suc n) a b e = ap (λ xs. a ∷ xs) (range_more n (a + 1) b (omega (arith, e)))

pub loop-number-preserved : goal.loop-number-preserved
loop-number-preserved c =
    let e : suc c.loop-number.number ≡ c.loop-number.number + 1 = omega arith in
    c.in_ok-push.ensures.items
    ∙ (ap (λ xs. xs ++ c.loop-number.number ∷ []) c.loop-number.invariant
    ∙ (range_more c.loop-number.number 0 c.loop-number.number (omega arith) ∙ ap (range_with_len 0) e))
