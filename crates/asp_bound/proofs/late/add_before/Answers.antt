use Rattle.std.proofs.Common.{ℕ, ◌<◌, ◌≤◌, List, length, get_or, take, refl, sym, subst, arith}
use Rattle.std.specs.List.{All}
use Rattle.std.proofs.lemmas.Int.{ints}
use Rattle.asp_bound.specs.declared.place.Place.{Place}
use Rattle.asp_bound.specs.Late.{only}
use Rattle.asp_bound.specs.Reasons.{before}
use Rattle.asp_bound.proofs.KeptLaws.{raised-small, raise-room, raised_as}
use Rattle.asp_bound.proofs.NogoodLaws.{left-within}
use Rattle.asp_bound.proofs.LateLaws.{kept_more, kept_same}
use Rattle.asp_bound.proofs.late.add_before.Goals as goal

pub value_before-requires-clause-few : goal.value_before-requires-clause-few
value_before-requires-clause-few c = omega (arith, (c.requires.raisers.within c.args.i 0 c.requires.within).1, c.requires.vars, c.requires.kept.few)

pub value_before-requires-clause-var : goal.value_before-requires-clause-var
value_before-requires-clause-var c = (c.requires.raisers.within c.args.i 0 c.requires.within).1

pub row-row-requires : goal.row-row-requires
row-row-requires c = omega (arith, (c.requires.raisers.within c.args.i 0 c.requires.within).1, c.requires.vars, c.requires.kept.rowed.count)

pub raise-requires-clause-within : goal.raise-requires-clause-within
raise-requires-clause-within c =
    subst (λ (r : List Place). All (λ (o : Place). o.level < length c.args.sums.now) r) (sym c.row-row.ensures)
    (left-within c.args.priced.now.origin.value (only (before c.args.trail.now c.args.place) (take c.args.i c.args.raisers.now))
    c.args.priced.now.rows c.args.priced.now.columns c.args.priced.now.vars.items c.args.sums.now c.requires.kept
    (get_or c.args.raisers.now c.args.i 0))

pub raise-requires-clause-small : goal.raise-requires-clause-small
raise-requires-clause-small c = λ j lt.
    let v : ℕ = get_or c.args.raisers.now c.args.i 0 in
    let var = c.requires.raisers.within c.args.i 0 c.requires.within in
    let high : v ≤ c.args.trail.now.vars = var.1 in
    omega (
      arith,
      raised_as c.args.priced.now.rows v c.in-Some.truth c.row-row.result.now v c.in-Some.truth c.row-row.ensures refl refl j,
      raised-small c.args.priced.now.origin.value (only (before c.args.trail.now c.args.place) (take c.args.i c.args.raisers.now))
          c.args.priced.now.rows c.args.priced.now.columns c.args.priced.now.vars.items c.args.sums.now c.requires.kept v j c.in-Some.truth var.0
          (omega (arith, high, c.requires.vars)) lt,
    )

pub raise-requires-clause-room : goal.raise-requires-clause-room
raise-requires-clause-room c = λ j lt.
    let v : ℕ = get_or c.args.raisers.now c.args.i 0 in
    let var = c.requires.raisers.within c.args.i 0 c.requires.within in
    let high : v ≤ c.args.trail.now.vars = var.1 in
    omega (
      arith,
      ints,
      raised_as c.args.priced.now.rows v c.in-Some.truth c.row-row.result.now v c.in-Some.truth c.row-row.ensures refl refl j,
      raise-room c.args.priced.now.origin.value (only (before c.args.trail.now c.args.place) (take c.args.i c.args.raisers.now))
          c.args.priced.now.rows c.args.priced.now.columns c.args.priced.now.vars.items c.args.sums.now c.requires.kept v c.in-Some.truth var.0
          (omega (arith, high, c.requires.vars)) j lt,
    )

pub returns-in_ok-push-clause-kept : goal.returns-in_ok-push-clause-kept
returns-in_ok-push-clause-kept c =
    let v : ℕ = get_or c.args.raisers.now c.args.i 0 in
    let var = c.requires.raisers.within c.args.i 0 c.requires.within in
    let high : v ≤ c.args.trail.now.vars = var.1 in
    kept_more c.args.priced.now.origin.value (before c.args.trail.now c.args.place) c.args.priced.now.rows c.args.priced.now.columns
    c.args.priced.now.vars.items c.args.sums.now c.raise.new.sums c.args.raisers.now c.args.i v c.in-Some.truth c.requires.raisers.once
    c.requires.within refl
    var.0 (omega (arith, high, c.requires.vars)) (sym c.in-Some.ensures) c.requires.kept c.raise.auto.sums (λ j lt.
    omega (arith, ints, c.raise.ensures j lt, raised_as c.args.priced.now.rows v c.in-Some.truth c.row-row.result.now v c.in-Some.truth c.row-row.ensures refl refl j))

pub returns-in_default-clause-kept : goal.returns-in_default-clause-kept
returns-in_default-clause-kept c =
    kept_same c.args.priced.now.origin.value (before c.args.trail.now c.args.place) c.args.priced.now.rows c.args.priced.now.columns
    c.args.priced.now.vars.items c.args.sums.now c.args.raisers.now c.args.i (get_or c.args.raisers.now c.args.i 0) c.requires.within refl
    (sym c.in_default.ensures) c.requires.kept
