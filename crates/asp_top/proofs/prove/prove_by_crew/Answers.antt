use Rattle.std.proofs.Common.{rules, subst, sym}
use Rattle.std.specs.Prelude.{OnOk}
use Rattle.asp_counts.specs.Telling.{AreNumbered}
use Rattle.asp_buffer.specs.Out.{out}
use Rattle.asp_scribe.specs.Proofs.{sought_of}
use Rattle.asp_top.specs.Runs.{Proves, TellsFaults}
use Rattle.asp_top.proofs.ProveLaws.{counted-run, moved-to, proves-run, told-run}
use Rattle.asp_top.proofs.prove.prove_by_crew.Goals as goal

pub returns-clause-proves : goal.returns-clause-proves
returns-clause-proves g c = λ p is.
    let ask = c.ask_of-ask.result in
    let h = g.K.Sink.held c.args.sink.now in
    let w = g.K.Sink.faults c.args.sink.now in
    let start = out h w c.new-waiting.result in
    let begun = rw c.sought_of-sought.ensures at c.new-scribe.ensures.begun in
    let ends = c.conclude-outcome.ensures.ends ask start c.new-waiting.ensures (c.solve-solved.ensures.heard.4 (sought_of ask) start begun) in
    let o = c.conclude-outcome.result in
    let there = proves-run c.args.options.now p c.args.prepared.now c.program.result.now ask c.solve-solved.result.0 h (g.K.Sink.held c.conclude-outcome.new.scribe.sink.now) w
    (g.K.Sink.faults c.conclude-outcome.new.scribe.sink.now) o is c.program.ensures.program c.ask_of-ask.ensures (rw c.plan_of-plan.ensures at c.solve-solved.ensures.report) ends in
    moved-to (λ k. Proves c.args.options.now p h (g.K.Sink.held k) w (g.K.Sink.faults k) o) _ c.hand_back.new._sink
    (search (rules, c.conclude-outcome.ensures.same.0, c.solve-solved.ensures.heard.0, c.new-scribe.ensures.sink))
    (moved-to (λ k. Proves c.args.options.now p h (g.K.Sink.held k) w (g.K.Sink.faults k) o) c.hand_back.new._sink c.conclude-outcome.new.scribe.sink.now c.hand_back.ensures.sink there)

pub returns-clause-flushed : goal.returns-clause-flushed
returns-clause-flushed g c =
    let ask = c.ask_of-ask.result in
    let h = g.K.Sink.held c.args.sink.now in
    let w = g.K.Sink.faults c.args.sink.now in
    let start = out h w c.new-waiting.result in
    let begun = rw c.sought_of-sought.ensures at c.new-scribe.ensures.begun in
    let ends = c.conclude-outcome.ensures.ends ask start c.new-waiting.ensures (c.solve-solved.ensures.heard.4 (sought_of ask) start begun) in
    let o = c.conclude-outcome.result in
    let there = told-run ask c.args.prepared.now.aside c.solve-solved.result.0 h (g.K.Sink.held c.conclude-outcome.new.scribe.sink.now) w
    (g.K.Sink.faults c.conclude-outcome.new.scribe.sink.now) o ends in
    moved-to (λ k. TellsFaults w (g.K.Sink.faults k) o.status) _ c.hand_back.new._sink
    (search (rules, c.conclude-outcome.ensures.same.0, c.solve-solved.ensures.heard.0, c.new-scribe.ensures.sink))
    (moved-to (λ k. TellsFaults w (g.K.Sink.faults k) o.status) c.hand_back.new._sink c.conclude-outcome.new.scribe.sink.now c.hand_back.ensures.sink there)

pub returns-clause-counted : goal.returns-clause-counted
returns-clause-counted g c =
    let ask = c.ask_of-ask.result in
    let h = g.K.Sink.held c.args.sink.now in
    let w = g.K.Sink.faults c.args.sink.now in
    let start = out h w c.new-waiting.result in
    let begun = rw c.sought_of-sought.ensures at c.new-scribe.ensures.begun in
    let ends = c.conclude-outcome.ensures.ends ask start c.new-waiting.ensures (c.solve-solved.ensures.heard.4 (sought_of ask) start begun) in
    counted-run c.args.options.now.workers ask c.args.prepared.now.aside c.args.prepared.now.compiled c.args.options.now.budget c.solve-solved.result.0 c.of.result _ _ _ _ c.conclude-outcome.result
    (rw c.plan_of-plan.ensures at c.solve-solved.ensures.report) ends c.of.ensures.atoms c.of.ensures.bodies (rw c.of.ensures.loops c.loops-loops.ensures)
    (subst (λ all. OnOk c.solve-solved.result.0 (AreNumbered c.args.options.now.workers all)) (sym c.of.ensures.workers) (rw c.plan_of-plan.ensures at c.solve-solved.ensures.workers))
