use mir.Val.{of_z, to_z}
use Rattle.std.proofs.Common.{◌≡◌, ℕ, ◌-◌, ◌<◌, length, get_or, set, ℤ, pos, ◌+ℤ◌, ◌≤ℤ◌, FitsSigned, Some, w64, sym, ap, ◌∙◌, arith, rules}
use Rattle.std.proofs.lemmas.Int.{ints}
use Rattle.std.proofs.lemmas.List.{get_or_read}
use Rattle.asp_model.proofs.AboveLaws.{just_above-set}
use Rattle.asp_model.proofs.cost.raised.Goals as goal

pub returns : goal.returns
returns c =
    let sums = c.args.sums.items in
    let last : ℕ = c.len-len.result - 1 in
    let within : last < length sums = omega (arith, c.len-len.ensures, c.if-len-eq0.false) in
    let is : c.index_mut.result.now ≡ get_or sums last (pos 0) = get_or_read sums last c.index_mut.result.now within c.index_mut.ensures.value (pos 0) in
    let few : get_or sums last (pos 0) ≤ℤ pos 36028797018963968 = c.requires last (pos 0) within in
    let fits : FitsSigned w64 c.index_mut.result.now = search rules in
    let more : to_z w64 (of_z w64 (to_z w64 (of_z w64 c.index_mut.result.now) +ℤ pos 1)) ≡ get_or sums last (pos 0) +ℤ pos 1 = omega (arith, ints, is, few, fits) in
    ap (λ (q : ℤ). Some (set sums last q)) more ∙ sym (just_above-set sums last (pos 0) (omega (arith, c.len-len.ensures, c.if-len-eq0.false)))
