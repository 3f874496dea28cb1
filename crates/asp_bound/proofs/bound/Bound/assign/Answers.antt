use Rattle.std.proofs.Common.{◌≡◌, eqb, ◌∙◌, ◌<◌, ℕ, ◌+ℤ◌, List, ℤ, length, get_or, drop, pos, refl, sym, ap, arith}
use Rattle.std.proofs.lemmas.Int.{ints}
use Rattle.std.proofs.lemmas.List.{take_at}
use Rattle.asp_bound.specs.Rises.{raised, row_at}
use Rattle.asp_bound.proofs.KeptLaws.{raised-small, raise-room, raised_as, kept-told, kept_as, bare_row, bare-told}
use Rattle.asp_bound.proofs.RaiserLaws.{room_as, told_as, bare_told_as}
use Rattle.asp_bound.proofs.StartLaws.{starts-told}
use Rattle.asp_bound.proofs.bound.Bound.assign.Goals as goal

pub raise-requires-clause-small : goal.raise-requires-clause-small
raise-requires-clause-small c = λ j lt.
    let v = rw (← c.self.view_is) at c.requires.var in
    let at = raised_as c.self.inside.priced.rows c.args.lit.var c.args.lit.truth c.row-row.result.now c.var.result c.truth.result c.row-row.ensures c.var.ensures c.truth.ensures j in
    let within : j < length c.self.inside.sums.items = omega (arith, lt, ap length c.as_mut_slice.ensures.value) in
    omega (
      arith,
      at,
      raised-small c.self.inside.priced.origin.value c.self.inside.values c.self.inside.priced.rows c.self.inside.priced.columns
          c.self.inside.priced.vars.items c.self.inside.sums.items c.self.invariant.0 c.args.lit.var j c.args.lit.truth v.0 v.1 within,
    )

pub raise-requires-clause-room : goal.raise-requires-clause-room
raise-requires-clause-room c = λ j lt.
    let v = rw (← c.self.view_is) at c.requires.var in
    let at = raised_as c.self.inside.priced.rows c.args.lit.var c.args.lit.truth c.row-row.result.now c.var.result c.truth.result c.row-row.ensures c.var.ensures c.truth.ensures j in
    let within : j < length c.self.inside.sums.items = omega (arith, lt, ap length c.as_mut_slice.ensures.value) in
    omega (
      arith,
      ints,
      at,
      ap (λ (s : List ℤ). get_or s j (pos 0)) c.as_mut_slice.ensures.value,
      raise-room c.self.inside.priced.origin.value c.self.inside.values c.self.inside.priced.rows c.self.inside.priced.columns
          c.self.inside.priced.vars.items c.self.inside.sums.items c.self.invariant.0 c.args.lit.var c.args.lit.truth v.0 v.1 j within,
    )

pub invariant_of-self-2 : goal.invariant_of-self-2
invariant_of-self-2 c =
    let v = rw (← c.self.view_is) at c.requires.var in
    let held = rw (← c.self.view_is) at c.requires.none in
    let new = c.raise.new.sums in
    let long : length new ≡ length c.self.inside.sums.items = c.raise.auto.sums ∙ ap length c.as_mut_slice.ensures.value in
    let each = λ (j : ℕ) (within : j < length c.self.inside.sums.items).
    let at = raised_as c.self.inside.priced.rows c.args.lit.var c.args.lit.truth c.row-row.result.now c.var.result c.truth.result c.row-row.ensures c.var.ensures c.truth.ensures j in
    let lt : j < length c.as_mut_slice.result.now = omega (arith, within, ap length c.as_mut_slice.ensures.value) in
    let step : get_or new j (pos 0) ≡ get_or c.self.inside.sums.items j (pos 0) +ℤ pos (raised (row_at c.self.inside.priced.rows c.args.lit.var) j c.args.lit.truth) =
    omega (arith, ints, c.raise.ensures j lt, at, ap (λ (s : List ℤ). get_or s j (pos 0)) c.as_mut_slice.ensures.value) in
    step in
    let kept =
    kept-told c.self.inside.priced.origin.value c.self.inside.values c.self.inside.priced.rows c.self.inside.priced.columns
    c.self.inside.priced.vars.items c.self.inside.sums.items new c.self.invariant.0 c.args.lit.var c.args.lit.truth v.0 v.1 held long each in
    let within : c.args.lit.var < length c.self.inside.values = omega (arith, c.self.invariant.0.sized, v.1) in
    let starts = starts-told c.self.inside.values c.set-2.new.self c.self.inside.priced.columns c.self.inside.starts.items c.args.lit.var c.args.lit.truth c.self.invariant.1 within c.set-2.ensures in
    let raisers =
    told_as c.self.inside.values c.set-2.new.self c.self.inside.priced.rows c.self.inside.priced.vars.items c.self.inside.raisers c.join.new.self
    c.row-row.result.now c.var.result c.args.lit c.self.invariant.2 c.self.invariant.3 v.0 within held c.set-2.ensures c.row-row.ensures
    c.var.ensures c.join.ensures in (
      kept_as c.self.inside.priced.origin.value _ c.set-2.new.self c.self.inside.priced.rows c.self.inside.priced.columns
          c.self.inside.priced.vars.items new _ c.set-2.ensures
          (take_at new (drop (length new) c.self.inside.sums.items) c.self.inside.sums.len (c.raise.auto.sums ∙ c.as_mut_slice.ensures.len)) kept,
      starts,
      raisers.0,
      raisers.1,
      c.self.invariant.4,
    )

pub invariant_of-self : goal.invariant_of-self
invariant_of-self c =
    let v = rw (← c.self.view_is) at c.requires.var in
    let held = rw (← c.self.view_is) at c.requires.none in
    let bare = ap (λ (n : ℕ). eqb n 0) (sym c.self.inside.priced.vars.ok.0) ∙ (sym c.is_empty.ensures ∙ c.if-is_empty.true) in
    let kept =
    bare-told c.self.inside.priced.origin.value c.self.inside.values c.self.inside.priced.rows c.self.inside.priced.columns
    c.self.inside.priced.vars.items c.self.inside.sums.items c.self.invariant.0 bare c.args.lit.var c.args.lit.truth v.0 v.1 held in
    let within : c.args.lit.var < length c.self.inside.values = omega (arith, c.self.invariant.0.sized, v.1) in
    let starts = starts-told c.self.inside.values c.set.new.self c.self.inside.priced.columns c.self.inside.starts.items c.args.lit.var c.args.lit.truth c.self.invariant.1 within c.set.ensures in
    let row = bare_row c.self.inside.priced.origin.value c.self.inside.priced.rows c.self.inside.priced.vars.items c.self.invariant.0.listed bare c.args.lit.var v.0 v.1 in
    let raisers =
    bare_told_as c.self.inside.values c.set.new.self c.self.inside.priced.rows c.self.inside.priced.vars.items c.self.inside.raisers c.args.lit
    c.self.invariant.2 c.self.invariant.3 v.0 within held row c.set.ensures in (
      kept_as c.self.inside.priced.origin.value _ c.set.new.self c.self.inside.priced.rows c.self.inside.priced.columns
          c.self.inside.priced.vars.items c.self.inside.sums.items _ c.set.ensures refl kept,
      starts,
      raisers.0,
      raisers.1,
      c.self.invariant.4,
    )

pub join-requires : goal.join-requires
join-requires c = λ up.
    let v = rw (← c.self.view_is) at c.requires.var in
    let held = rw (← c.self.view_is) at c.requires.none in
    let within : c.args.lit.var < length c.self.inside.values = omega (arith, c.self.invariant.0.sized, v.1) in
    room_as c.self.inside.priced.origin.value c.self.inside.values c.self.inside.priced.rows c.self.inside.priced.vars.items c.self.inside.raisers
    c.row-row.result.now c.var.result c.args.lit c.self.invariant.0.sized c.self.invariant.0.listed c.self.invariant.2 c.self.invariant.3 v.0
    within held c.row-row.ensures c.var.ensures up
