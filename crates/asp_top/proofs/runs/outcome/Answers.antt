use Rattle.std.proofs.Common.{inl, refl}
use Rattle.std.specs.Prelude.{None}
use Rattle.asp_top.proofs.SeriesLaws.{runs-program, runs-queries}
use Rattle.asp_top.proofs.runs.outcome.Goals as goal

pub run_series-outcome-requires-clause-plain : goal.run_series-outcome-requires-clause-plain
run_series-outcome-requires-clause-plain g c = (c.requires.asking c.if-options.true).7

pub returns-then-options-clause-runs : goal.returns-then-options-clause-runs
returns-then-options-clause-runs g c = runs-queries c.args.options.now.queries c.args.options.now _ _ c.if-options.true c.run_series-outcome.ensures.runs

pub returns-then-options-clause-counted : goal.returns-then-options-clause-counted
returns-then-options-clause-counted g c = rw c.run_series-outcome.ensures.runs.none tt

pub returns-else-options-clause-runs : goal.returns-else-options-clause-runs
returns-else-options-clause-runs g c = runs-program c.args.options.now.queries c.args.options.now _ _ c.if-options.false c.outcome_alone.ensures.runs

pub returns-then-options-clause-heard : goal.returns-then-options-clause-heard
returns-then-options-clause-heard g c = (c.args.progress.row, None, inl (c.requires.row, refl), c.run_series-outcome.ensures.heard.4)
