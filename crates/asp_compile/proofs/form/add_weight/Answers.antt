use Rattle.std.proofs.Common.{◌≡◌, ℕ, ◌+◌, Bool, List, All, false, cond, arith, ap, sym, ◌∙◌, subst, FitsSigned, w32, w64, rules}
use Rattle.std.specs.Prelude.{ℤ, pos}
use Rattle.std.specs.Ordering.{int_cmp, int_eq}
use Rattle.std.specs.BTreeMap.{insert_entry}
use Rattle.std.specs.Map.{values_of}
use Rattle.std.proofs.lemmas.Int.{ints, to_z-of_z}
use Rattle.std.proofs.lemmas.Map.Views.{All-values-insert_entry}
use Rattle.asp_compile.specs.Forms.{IsSmall}
use Rattle.asp_vars.specs.Numbering.{with_weight}
use Rattle.asp_compile.proofs.FormLaws.{insert_entry-sum}
use Rattle.asp_compile.proofs.form.add_weight.Goals as goal

pub returns-clause-sums : goal.returns-clause-sums
returns-clause-sums c =
    let l : ℤ = c.args.literal in
    let w : ℤ = c.args.weight in
    let es : List (ℤ × ℤ) = c.args.sums.now.entries in
    let fits : FitsSigned w32 l = c.ranges.literal in
    let weight_fits : FitsSigned w32 w = c.ranges.weight in
    let sum_fits : FitsSigned w64 c.sum_with-sum.result = search rules in
    let entries = simp to_z-of_z at c.in_ok-insert.ensures.entries in
    let sum = simp to_z-of_z at c.sum_with-sum.ensures.sum in
    let apart = c.if-weight-eq0.false in
    let some : int_eq w (pos 0) ≡ false = grind (arith, ints, apart) in
    entries
    ∙ ap (λ (v : ℤ). insert_entry int_cmp es l v) sum
    ∙ insert_entry-sum es (l, w) c.in_ok-insert.ensures.was_ordered
    ∙ ap (λ (b : Bool). cond b es (with_weight (l, w) es)) (sym some)

pub returns-clause-small : goal.returns-clause-small
returns-clause-small c =
    let l : ℤ = c.args.literal in
    let es : List (ℤ × ℤ) = c.args.sums.now.entries in
    let fits : FitsSigned w32 l = c.ranges.literal in
    let sum_fits : FitsSigned w64 c.sum_with-sum.result = search rules in
    let entries = simp to_z-of_z at c.in_ok-insert.ensures.entries in
    let n : ℕ = c.args.count in
    let before : All (IsSmall (n + 1)) (values_of es) = λ k d lt. more n _ (c.requires.small k d lt) in
    subst (λ (xs : List (ℤ × ℤ)). All (IsSmall (n + 1)) (values_of xs)) (sym entries)
    (All-values-insert_entry int_cmp l c.sum_with-sum.result (IsSmall (n + 1)) es before (c.sum_with-sum.ensures.small))
  where
    more : (n : ℕ) (v : ℤ) → IsSmall n v → IsSmall (n + 1) v
    more n v h = (omega (arith, ints, h.0), omega (arith, ints, h.1))
