use Rattle.std.proofs.Common.{◌≡◌, ◌∙◌, ◌==◌, ◌||◌, false, sym}
use Rattle.std.specs.Prelude.{is_some}
use Rattle.asp_cli.specs.declared.Options.{Options}
use Rattle.asp_top.proofs.RunLaws.{first-false, second-false, unsplit}
use Rattle.asp_top.proofs.SeriesLaws.{runs-program}
use Rattle.asp_top.specs.Runs.{is_alone}
use Rattle.asp_top.proofs.runs.run_given.Goals as goal

-- where workers search the program it is solved at once, and there are no queries
no-stream : (o : Options) → is_alone o ≡ false → o.stream ≡ false
no-stream o e = second-false ((o.workers == 1) || is_some o.split || o.queries) o.stream e

no-queries : (o : Options) → is_alone o ≡ false → o.queries ≡ false
no-queries o e = second-false ((o.workers == 1) || is_some o.split) o.queries (first-false ((o.workers == 1) || is_some o.split || o.queries) o.stream e)

no-parts : (o : Options) → is_alone o ≡ false → is_some o.split ≡ false
no-parts o e =
    second-false (o.workers == 1) (is_some o.split)
    (first-false ((o.workers == 1) || is_some o.split) o.queries (first-false ((o.workers == 1) || is_some o.split || o.queries) o.stream e))

pub run_by_crew-requires-clause-whole : goal.run_by_crew-requires-clause-whole
run_by_crew-requires-clause-whole g c = λ _ _. unsplit c.args.options.now.split (no-parts c.args.options.now (sym c.is_alone.ensures ∙ c.if-is_alone.false))

pub run_by_crew-requires-clause-at_once : goal.run_by_crew-requires-clause-at_once
run_by_crew-requires-clause-at_once g c = λ _ _. no-stream c.args.options.now (sym c.is_alone.ensures ∙ c.if-is_alone.false)

pub returns-then-is_alone-clause-notes : goal.returns-then-is_alone-clause-notes
returns-then-is_alone-clause-notes g c = rw (sym c.is_alone.ensures ∙ c.if-is_alone.true) c.run_in_turn.ensures.notes

pub returns-else-is_alone-clause-runs : goal.returns-else-is_alone-clause-runs
returns-else-is_alone-clause-runs g c =
    runs-program c.args.options.now.queries c.args.options.now _ _ (no-queries c.args.options.now (sym c.is_alone.ensures ∙ c.if-is_alone.false)) c.run_by_crew.ensures.runs

pub returns-else-is_alone-clause-notes : goal.returns-else-is_alone-clause-notes
returns-else-is_alone-clause-notes g c = rw (sym c.is_alone.ensures ∙ c.if-is_alone.false) c.run_by_crew.ensures.notes
