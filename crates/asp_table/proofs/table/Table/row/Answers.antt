use Rattle.std.proofs.Common.{◌+◌, ◌-◌, ◌<◌, ◌≤◌, ℕ, List, [], length, get_or, take, drop, sym, ap, ◌∙◌, subst, arith}
use Rattle.asp_table.proofs.TableLaws.{length-rows_from, get_or-rows_from, starts_rise}
use Rattle.asp_table.proofs.table.Table.row.Goals as goal

pub row_of-requires-clause-i : goal.row_of-requires-clause-i
row_of-requires-clause-i g c =
    let starts : List ℕ = c.self.inside.starts.items in
    let rows = length-rows_from starts c.self.inside.items.items c.self.invariant in
    let seen = ap length c.self.view_is in
    let same = ap length c.as_slice.ensures.value in
    omega (arith, rows, seen, same, c.requires)

pub row_of-requires-clause-rise : goal.row_of-requires-clause-rise
row_of-requires-clause-rise g c =
    let starts : List ℕ = c.self.inside.starts.items in
    let rows = length-rows_from starts c.self.inside.items.items c.self.invariant in
    let seen = ap length c.self.view_is in
    let lt : c.args.i + 1 < length starts = omega (arith, rows, seen, c.requires) in
    subst (λ (xs : List ℕ). get_or xs c.args.i 0 ≤ get_or xs (c.args.i + 1) 0) (sym c.as_slice.ensures.value) (starts_rise starts c.self.inside.items.items c.args.i c.self.invariant lt).0

pub row_of-requires-clause-within : goal.row_of-requires-clause-within
row_of-requires-clause-within g c =
    let starts : List ℕ = c.self.inside.starts.items in
    let rows = length-rows_from starts c.self.inside.items.items c.self.invariant in
    let seen = ap length c.self.view_is in
    let lt : c.args.i + 1 < length starts = omega (arith, rows, seen, c.requires) in
    let within = (starts_rise starts c.self.inside.items.items c.args.i c.self.invariant lt).1 in
    let same = ap length c.as_slice-2.ensures.value in
    let at = ap (λ (xs : List ℕ). get_or xs (c.args.i + 1) 0) c.as_slice.ensures.value in
    omega (arith, within, same, at)

pub returns : goal.returns
returns g c =
    let starts : List ℕ = c.self.inside.starts.items in
    let rows = length-rows_from starts c.self.inside.items.items c.self.invariant in
    let seen = ap length c.self.view_is in
    let lt : c.args.i + 1 < length starts = omega (arith, rows, seen, c.requires) in
    c.row_of.ensures
    ∙ ap (λ (xs : List ℕ). take (get_or xs (c.args.i + 1) 0 - get_or xs c.args.i 0) (drop (get_or xs c.args.i 0) c.as_slice-2.result.now)) c.as_slice.ensures.value
    ∙ ap (λ ys. take (get_or starts (c.args.i + 1) 0 - get_or starts c.args.i 0) (drop (get_or starts c.args.i 0) ys)) c.as_slice-2.ensures.value
    ∙ sym (get_or-rows_from starts c.self.inside.items.items c.args.i c.self.invariant lt)
    ∙ ap (λ rs. get_or rs c.args.i []) c.self.view_is
