use Rattle.std.proofs.Common.{◌≡◌, Some, sym, ap, ◌∙◌, arith}
use Rattle.std.proofs.lemmas.Option.{none-some}
use Rattle.asp_store.specs.declared.watch.Pair.{Pair}
use Rattle.asp_store.specs.Pairs.{pair_of, pair_at}
use Rattle.asp_store.proofs.RowLaws.{pair_none, pair_some}
use Rattle.asp_store.proofs.StepLaws.{none_beside, some_beside}
use Rattle.asp_store.proofs.rows.watched_beside.Goals as goal

pub returns-then-row-lt2-clause-none : goal.returns-then-row-lt2-clause-none
returns-then-row-lt2-clause-none c = λ p q o. none-some p (sym (ap pair_of (sym c.row-row.ensures) ∙ pair_none c.row-row.result.now (omega arith)) ∙ q)

pub returns-clause-none : goal.returns-clause-none
returns-clause-none c =
    let p : Pair = record { first = c.index-row-0.result; second = c.index-row-1.result } in
    let is : Some p ≡ pair_at c.args.rows.now c.args.id = pair_some c.row-row.result.now p.first p.second (omega arith) c.index-row-0.is c.index-row-1.is ∙ ap pair_of c.row-row.ensures in
    none_beside c.args.rows.now c.args.id c.args.lit p c.other_of.result is c.other_of.ensures

pub returns-clause-some : goal.returns-clause-some
returns-clause-some c =
    let p : Pair = record { first = c.index-row-0.result; second = c.index-row-1.result } in
    let is : Some p ≡ pair_at c.args.rows.now c.args.id = pair_some c.row-row.result.now p.first p.second (omega arith) c.index-row-0.is c.index-row-1.is ∙ ap pair_of c.row-row.ensures in
    some_beside c.args.rows.now c.args.id c.args.lit p c.other_of.result is c.other_of.ensures
