use Rattle.std.proofs.Common.{◌≡◌, eqb, ◌∙◌, ◌<◌, ◌≤◌, ℕ, ◌+ℤ◌, List, ℤ, None, length, get_or, set, drop, pos, refl, sym, ap, subst, arith}
use Rattle.std.specs.List.{All}
use Rattle.std.proofs.lemmas.Int.{ints}
use Rattle.std.proofs.lemmas.List.{take_at}
use Rattle.asp_bound.specs.declared.place.Place.{Place}
use Rattle.asp_bound.specs.Rises.{raised, row_at}
use Rattle.asp_bound.proofs.KeptLaws.{raised-small, lower-room, raised_as, kept-untold, kept_as, held-value, bare_row, bare-untold}
use Rattle.asp_bound.proofs.RaiserLaws.{untold_as, bare_untold_as}
use Rattle.asp_bound.proofs.StartLaws.{starts-untold, starts_as}
use Rattle.asp_bound.proofs.bound.Bound.undo.Goals as goal

pub lower-requires-clause-small : goal.lower-requires-clause-small
lower-requires-clause-small c = λ j lt.
    let v = rw (← c.self.view_is) at c.requires.var in
    let at = raised_as c.self.inside.priced.rows c.args.lit.var c.args.lit.truth c.row-row.result.now c.var-2.result c.truth.result c.row-row.ensures c.var-2.ensures c.truth.ensures j in
    let within : j < length c.self.inside.sums.items = omega (arith, lt, ap length c.as_mut_slice.ensures.value) in
    omega (
      arith,
      at,
      raised-small c.self.inside.priced.origin.value c.self.inside.values c.self.inside.priced.rows c.self.inside.priced.columns
          c.self.inside.priced.vars.items c.self.inside.sums.items c.self.invariant.0 c.args.lit.var j c.args.lit.truth v.0 v.1 within,
    )

pub lower-requires-clause-room : goal.lower-requires-clause-room
lower-requires-clause-room c = λ j lt.
    let v = rw (← c.self.view_is) at c.requires.var in
    let at = raised_as c.self.inside.priced.rows c.args.lit.var c.args.lit.truth c.row-row.result.now c.var-2.result c.truth.result c.row-row.ensures c.var-2.ensures c.truth.ensures j in
    let within : j < length c.self.inside.sums.items = omega (arith, lt, ap length c.as_mut_slice.ensures.value) in
    omega (
      arith,
      ints,
      at,
      ap (λ (s : List ℤ). get_or s j (pos 0)) c.as_mut_slice.ensures.value,
      lower-room c.self.inside.priced.origin.value c.self.inside.values c.self.inside.priced.rows c.self.inside.priced.columns
          c.self.inside.priced.vars.items c.self.inside.sums.items c.self.invariant.0 c.args.lit.var c.args.lit.truth v.0 v.1 j within,
    )

pub invariant_of-self-2 : goal.invariant_of-self-2
invariant_of-self-2 c =
    let v = rw (← c.self.view_is) at c.requires.var in
    let held = held-value c.self.inside.values c.args.lit (rw (← c.self.view_is) at c.requires.holds) in
    let new = c.lower.new.sums in
    let long : length new ≡ length c.self.inside.sums.items = c.lower.auto.sums ∙ ap length c.as_mut_slice.ensures.value in
    let each = λ (j : ℕ) (within : j < length c.self.inside.sums.items).
    let at = raised_as c.self.inside.priced.rows c.args.lit.var c.args.lit.truth c.row-row.result.now c.var-2.result c.truth.result c.row-row.ensures c.var-2.ensures c.truth.ensures j in
    let lt : j < length c.as_mut_slice.result.now = omega (arith, within, ap length c.as_mut_slice.ensures.value) in
    let step : get_or new j (pos 0) +ℤ pos (raised (row_at c.self.inside.priced.rows c.args.lit.var) j c.args.lit.truth) ≡ get_or c.self.inside.sums.items j (pos 0) =
    omega (arith, ints, c.lower.ensures j lt, at, ap (λ (s : List ℤ). get_or s j (pos 0)) c.as_mut_slice.ensures.value) in
    step in
    let kept =
    kept-untold c.self.inside.priced.origin.value c.self.inside.values c.self.inside.priced.rows c.self.inside.priced.columns
    c.self.inside.priced.vars.items c.self.inside.sums.items new c.self.invariant.0 c.args.lit.var c.args.lit.truth v.0 v.1 held long each in
    let values = c.unset-2.ensures ∙ ap (λ (u : ℕ). set c.self.inside.values u None) c.var-3.ensures in
    let back = c.take_back.new.starts in
    let many : length back ≡ length c.self.inside.starts.items = c.take_back.auto.starts ∙ ap length c.as_mut_slice-2.ensures.value in
    let fewer = λ (j : ℕ).
    let step : get_or back j 0 ≤ get_or c.self.inside.starts.items j 0 = omega (arith, c.take_back.ensures.lower j, ap (λ (s : List ℕ). get_or s j 0) c.as_mut_slice-2.ensures.value) in
    step in
    let taken = subst (λ (r : List Place). All (λ (o : Place). get_or back o.level 0 ≤ o.index) r)
    (c.row-row.ensures ∙ ap (row_at c.self.inside.priced.rows) c.var-2.ensures) c.take_back.ensures.taken in
    let starts =
    starts-untold c.self.inside.values c.self.inside.priced.rows c.self.inside.priced.columns c.self.inside.starts.items back c.args.lit.var
    c.self.invariant.1 c.self.invariant.0.linked many fewer taken in
    let within : c.args.lit.var < length c.self.inside.values = omega (arith, c.self.invariant.0.sized, v.1) in
    let raisers =
    untold_as c.self.inside.values c.unset-2.new.self c.self.inside.priced.rows c.self.inside.priced.vars.items c.self.inside.raisers
    c.leave.new.self c.row-row.result.now c.var-2.result c.args.lit c.self.invariant.2 c.self.invariant.3 within held values c.row-row.ensures
    c.var-2.ensures c.leave.ensures in (
      kept_as c.self.inside.priced.origin.value _ c.unset-2.new.self c.self.inside.priced.rows c.self.inside.priced.columns
          c.self.inside.priced.vars.items new _ values
          (take_at new (drop (length new) c.self.inside.sums.items) c.self.inside.sums.len (c.lower.auto.sums ∙ c.as_mut_slice.ensures.len)) kept,
      starts_as (set c.self.inside.values c.args.lit.var None) c.unset-2.new.self c.self.inside.priced.columns back _ values
          (take_at back (drop (length back) c.self.inside.starts.items) c.self.inside.starts.len
          (c.take_back.auto.starts ∙ c.as_mut_slice-2.ensures.len)) starts,
      raisers.0,
      raisers.1,
      c.self.invariant.4,
    )

pub invariant_of-self : goal.invariant_of-self
invariant_of-self c =
    let v = rw (← c.self.view_is) at c.requires.var in
    let held = held-value c.self.inside.values c.args.lit (rw (← c.self.view_is) at c.requires.holds) in
    let empty = ap (λ (n : ℕ). eqb n 0) (sym c.self.inside.priced.vars.ok.0) ∙ (sym c.is_empty.ensures ∙ c.if-is_empty.true) in
    let row = bare_row c.self.inside.priced.origin.value c.self.inside.priced.rows c.self.inside.priced.vars.items c.self.invariant.0.listed empty c.args.lit.var v.0 v.1 in
    let kept =
    bare-untold c.self.inside.priced.origin.value c.self.inside.values c.self.inside.priced.rows c.self.inside.priced.columns
    c.self.inside.priced.vars.items c.self.inside.sums.items c.self.invariant.0 empty c.args.lit.var c.args.lit.truth v.0 v.1 held in
    let values = c.unset.ensures ∙ ap (λ (u : ℕ). set c.self.inside.values u None) c.var.ensures in
    let P : Place → Type 0 = λ (o : Place). get_or c.self.inside.starts.items o.level 0 ≤ o.index in
    let starts =
    starts-untold c.self.inside.values c.self.inside.priced.rows c.self.inside.priced.columns c.self.inside.starts.items
    c.self.inside.starts.items c.args.lit.var c.self.invariant.1 c.self.invariant.0.linked refl (λ j. omega arith)
    (subst (λ (r : List Place). All P r) (sym row) (λ k d lt. absurd (omega (arith, lt)))) in
    let within : c.args.lit.var < length c.self.inside.values = omega (arith, c.self.invariant.0.sized, v.1) in
    let raisers =
    bare_untold_as c.self.inside.values c.unset.new.self c.self.inside.priced.rows c.self.inside.priced.vars.items c.self.inside.raisers
    c.args.lit c.self.invariant.2 c.self.invariant.3 within held row values in (
      kept_as c.self.inside.priced.origin.value _ c.unset.new.self c.self.inside.priced.rows c.self.inside.priced.columns c.self.inside.priced.vars.items c.self.inside.sums.items _ values refl kept,
      starts_as (set c.self.inside.values c.args.lit.var None) c.unset.new.self c.self.inside.priced.columns c.self.inside.starts.items _ values refl starts,
      raisers.0,
      raisers.1,
      c.self.invariant.4,
    )

pub leave-requires : goal.leave-requires
leave-requires c = c.self.invariant.2.once
