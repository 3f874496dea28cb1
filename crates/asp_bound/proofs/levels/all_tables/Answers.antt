use Rattle.std.proofs.Common.{List, sym, subst}
use Rattle.asp_model.specs.Costs.{priorities}
use Rattle.asp_bound.specs.declared.place.Place.{Place}
use Rattle.asp_bound.specs.Gathered.{AreGathered}
use Rattle.asp_bound.proofs.levels.all_tables.Goals as goal

pub returns : goal.returns
returns c = subst (λ (rows : List (List Place)). AreGathered c.args.compiled.now (priorities c.args.compiled.now.minimize) rows
    c.in_ok-levels.levels.columns c.in_ok-levels.levels.sums.items) (sym c.in_ok-table.ensures) c.in_ok-levels.ensures
