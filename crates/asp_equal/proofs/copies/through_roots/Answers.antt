use Rattle.std.proofs.Common.{◌≡◌, ℕ, ◌+◌, ◌<◌, List, length, get_or, ap, ◌∙◌, sym, subst, arith}
use Rattle.std.proofs.lemmas.List.{length_push}
use Rattle.asp_equal.specs.Tables.{root_in, sent}
use Rattle.asp_equal.proofs.PlaceLaws.{table_push}
use Rattle.asp_equal.proofs.copies.through_roots.Goals as goal

pub loop-place-preserved : goal.loop-place-preserved
loop-place-preserved c =
    let f : ℕ → ℕ = λ a. sent c.args.least.now (root_in c.args.known.now c.args.named.now a) in
    let place = c.loop-place.place in
    let items = c.loop-place.table.items in
    let pushed = c.in_ok-push.ensures.items in
    let is : c.at.result ≡ f place = c.at.ensures ∙ ap (sent c.args.least.now) c.root.ensures in (
      ap (λ (xs : List ℕ). length xs) pushed ∙ omega (arith, length_push items c.at.result, c.loop-place.invariant.0),
      subst (λ (xs : List ℕ). (a : ℕ) → a < place + 1 → get_or xs a 0 ≡ f a) (sym pushed) (table_push f items c.at.result place c.loop-place.invariant.0 c.loop-place.invariant.1 is),
    )
