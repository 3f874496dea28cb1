use Rattle.std.proofs.Common.{◌<◌, ◌≤◌, List, Some, length, set, drop, refl, sym, ap, ◌∙◌, subst, arith}
use Rattle.std.specs.List.{All}
use Rattle.std.proofs.lemmas.Int.{ints}
use Rattle.std.proofs.lemmas.List.{take_at}
use Rattle.std.proofs.lemmas.List.Elements.{All-weaker}
use Rattle.asp_bound.specs.declared.place.Place.{Place}
use Rattle.asp_bound.specs.declared.priced.Priced.{Priced}
use Rattle.asp_bound.specs.Reasons.{before}
use Rattle.asp_bound.specs.Rises.{row_at}
use Rattle.asp_bound.proofs.KeptLaws.{raised_as, raised-small, raise-room, kept_as}
use Rattle.asp_bound.proofs.NogoodLaws.{left-within, kept_raised}
use Rattle.asp_bound.proofs.LateLaws.{copied_before}
use Rattle.asp_bound.proofs.late.all_with.Goals as goal

pub row-row-requires : goal.row-row-requires
row-row-requires c = omega (arith, c.var.ensures, c.requires.var.1, c.requires.tables.rowed.count)

pub all_before-requires-clause-raisers : goal.all_before-requires-clause-raisers
all_before-requires-clause-raisers c =
    let told = c.requires.raisers in
    record {
      within = All-weaker (λ v. (0 < v) × (v < length told.0)) (λ v. (0 < v) × (v ≤ c.args.trail.now.vars)) (λ v h. (h.0, omega (arith, h.1, told.2))) c.args.raisers.now told.1.within;
      once = told.1.once;
    }

pub raise-requires-clause-within : goal.raise-requires-clause-within
raise-requires-clause-within c =
    let q : Priced = c.args.priced.now in
    let kept =
    copied_before q c.args.trail.now c.args.place c.in_ok-sums.sums.items c.as_mut_slice.result.now c.args.raisers.now c.requires.vars
    c.len-len.ensures.ordered c.requires.raisers c.in_ok-sums.ensures.kept c.as_mut_slice.ensures.value in
    subst (λ (o : List Place). All (λ (k : Place). k.level < length c.as_mut_slice.result.now) o) (sym (c.row-row.ensures ∙ ap (row_at q.rows) c.var.ensures))
    (left-within q.origin.value (before c.args.trail.now c.args.place) q.rows q.columns q.vars.items c.as_mut_slice.result.now kept c.args.lit.var)

pub raise-requires-clause-small : goal.raise-requires-clause-small
raise-requires-clause-small c = λ j lt.
    let q : Priced = c.args.priced.now in
    let kept =
    copied_before q c.args.trail.now c.args.place c.in_ok-sums.sums.items c.as_mut_slice.result.now c.args.raisers.now c.requires.vars
    c.len-len.ensures.ordered c.requires.raisers c.in_ok-sums.ensures.kept c.as_mut_slice.ensures.value in
    let x = c.args.lit in
    omega (
      arith,
      raised_as q.rows x.var x.truth c.row-row.result.now c.var.result c.truth.result c.row-row.ensures c.var.ensures c.truth.ensures j,
      raised-small q.origin.value (before c.args.trail.now c.args.place) q.rows q.columns q.vars.items c.as_mut_slice.result.now kept x.var j x.truth c.requires.var.0 c.requires.var.1 lt,
    )

pub raise-requires-clause-room : goal.raise-requires-clause-room
raise-requires-clause-room c = λ j lt.
    let q : Priced = c.args.priced.now in
    let kept =
    copied_before q c.args.trail.now c.args.place c.in_ok-sums.sums.items c.as_mut_slice.result.now c.args.raisers.now c.requires.vars
    c.len-len.ensures.ordered c.requires.raisers c.in_ok-sums.ensures.kept c.as_mut_slice.ensures.value in
    let x = c.args.lit in
    omega (
      arith,
      ints,
      raised_as q.rows x.var x.truth c.row-row.result.now c.var.result c.truth.result c.row-row.ensures c.var.ensures c.truth.ensures j,
      raise-room q.origin.value (before c.args.trail.now c.args.place) q.rows q.columns q.vars.items c.as_mut_slice.result.now kept x.var x.truth c.requires.var.0 c.requires.var.1 j lt,
    )

pub returns-clause-kept : goal.returns-clause-kept
returns-clause-kept c =
    let q : Priced = c.args.priced.now in
    let kept =
    copied_before q c.args.trail.now c.args.place c.in_ok-sums.sums.items c.as_mut_slice.result.now c.args.raisers.now c.requires.vars
    c.len-len.ensures.ordered c.requires.raisers c.in_ok-sums.ensures.kept c.as_mut_slice.ensures.value in
    let x = c.args.lit in
    let left = c.as_mut_slice.result.now in
    let more = kept_raised q.origin.value (before c.args.trail.now c.args.place) q.rows q.columns q.vars.items left kept x.var x.truth
    (row_at q.rows x.var) left c.raise.new.sums c.requires.var.0 c.requires.var.1 c.requires.none refl refl c.raise.auto.sums (λ j lt.
    omega (arith, ints, c.raise.ensures j lt, raised_as q.rows x.var x.truth c.row-row.result.now c.var.result c.truth.result c.row-row.ensures c.var.ensures c.truth.ensures j)) in
    kept_as q.origin.value _ (set (before c.args.trail.now c.args.place) x.var (Some x.truth)) q.rows q.columns q.vars.items c.raise.new.sums _ refl
    (take_at c.raise.new.sums (drop (length c.raise.new.sums) c.in_ok-sums.sums.items) c.in_ok-sums.sums.len (c.raise.auto.sums ∙ c.as_mut_slice.ensures.len)) more
