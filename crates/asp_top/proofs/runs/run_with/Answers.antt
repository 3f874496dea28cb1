use Rattle.std.proofs.Common.{refl, rules}
use Rattle.asp_top.specs.Progress.{tells_parts}
use Rattle.asp_top.specs.Telling.{point}
use Rattle.asp_top.proofs.TellLaws.{moved, told_in_all}
use Rattle.asp_top.proofs.runs.run_with.Goals as goal

pub returns-clause-notes : goal.returns-clause-notes
returns-clause-notes g c =
    let x = c.new-progress.result in
    let y = c.outcome-outcome.result.1 in record {
      tally = c.outcome-outcome.new.tally;
      counted = c.outcome-outcome.ensures.counted;
      row = c.outcome-outcome.ensures.heard.0;
      sought = c.outcome-outcome.ensures.heard.1;
      scope_is = c.outcome-outcome.ensures.heard.2;
      told = moved g.N.Sink.held g.N.Sink.faults _ _ _ _ c.end.new.notes _
          (search (rules, c.outcome-outcome.ensures.same, c.new-progress.ensures.same))
          (told_in_all c.args.options.now.progress (tells_parts c.args.options.now) x.on x.parts c.outcome-outcome.ensures.heard.0 c.outcome-outcome.ensures.heard.1
          (g.N.Sink.held c.args.notes.now) (g.N.Sink.faults c.args.notes.now)
          (point (g.N.Sink.held x.notes.now) (g.N.Sink.faults x.notes.now) x.state x.last x.before x.warned)
          (point (g.N.Sink.held y.notes.now) (g.N.Sink.faults y.notes.now) y.state y.last y.before y.warned)
          _ _ _ c.new-progress.ensures.on c.new-progress.ensures.parts
          (rw (c.new-progress.ensures.now, c.new-progress.ensures.state, c.new-progress.ensures.last, c.new-progress.ensures.before, c.new-progress.ensures.warned) refl)
          c.outcome-outcome.ensures.heard.3 c.end.ensures);
    }
