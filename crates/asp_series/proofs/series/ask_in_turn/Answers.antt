use Rattle.std.proofs.Common.{◌+◌, List, ap, arith, drop, length}
use Rattle.std.specs.Prelude.{ℤ}
use Rattle.asp_series.proofs.SeriesLaws.{at-end, at-more, at-next, at-open, at-stops, few-at, next-query, sound-query}
use Rattle.asp_series.proofs.series.ask_in_turn.Goals as goal

pub step-requires-clause-askable : goal.step-requires-clause-askable
step-requires-clause-askable g c =
    let sound =
    sound-query c.args.series.now.program c.args.series.now.queries c.as_slice-queries.result.now c.loop-i.i c.index-queries-i.result
    c.as_slice.result.now c.as_slice-queries.ensures.value c.loop-i-test.true c.index-queries-i.is
    c.as_slice.ensures.value c.requires.sound.queries in
    record { plain = c.requires.plain; itself = c.requires.sound.program; sound = sound }

pub step-requires-clause-few : goal.step-requires-clause-few
step-requires-clause-few g c = few-at _ _ _ c.loop-i.invariant.at.at.few c.loop-i.invariant.at.count_is

pub loop-i-preserved : goal.loop-i-preserved
loop-i-preserved g c =
    let next =
    next-query c.args.series.now.queries c.as_slice-queries.result.now c.loop-i.i c.index-queries-i.result c.as_slice.result.now
    c.as_slice-queries.ensures.value c.loop-i-test.true c.index-queries-i.is c.as_slice.ensures.value in
    let more =
    at-more c.args.options.now c.args.series.now c.loop-i.i c.as_slice.result.now (drop (c.loop-i.i + 1) c.args.series.now.queries) _ _ _ _ _ _
    c.loop-i.course c.in-Ok.next c.loop-i.invariant.at next c.in-Ok.ensures.means c.in-Ok.ensures.few in
    record {
      at = at-next c.args.options.now c.args.series.now c.loop-i.i _ _ _ _ c.in-Ok.next more c.if-next.true;
      kept = c.step.ensures.kept;
      heard = g.met.W.Watch.goes_on c.args.watch.now c.loop-i.watch c.step.new.watch c.loop-i.invariant.heard c.step.ensures.heard;
    }

pub returns-else-next-clause-asks : goal.returns-else-next-clause-asks
returns-else-next-clause-asks g c =
    let next =
    next-query c.args.series.now.queries c.as_slice-queries.result.now c.loop-i.i c.index-queries-i.result c.as_slice.result.now
    c.as_slice-queries.ensures.value c.loop-i-test.true c.index-queries-i.is c.as_slice.ensures.value in
    let more =
    at-more c.args.options.now c.args.series.now c.loop-i.i c.as_slice.result.now (drop (c.loop-i.i + 1) c.args.series.now.queries) _ _ _ _ _ _
    c.loop-i.course c.in-Ok.next c.loop-i.invariant.at next c.in-Ok.ensures.means c.in-Ok.ensures.few in
    at-open c.args.options.now c.args.series.now c.loop-i.i _ _ _ _ c.in-Ok.next more c.if-next.false

pub returns-else-next-clause-heard : goal.returns-else-next-clause-heard
returns-else-next-clause-heard g c = g.met.W.Watch.goes_on c.args.watch.now c.loop-i.watch c.step.new.watch c.loop-i.invariant.heard c.step.ensures.heard

pub returns-in-Err-clause-asks : goal.returns-in-Err-clause-asks
returns-in-Err-clause-asks g c =
    let next =
    next-query c.args.series.now.queries c.as_slice-queries.result.now c.loop-i.i c.index-queries-i.result c.as_slice.result.now
    c.as_slice-queries.ensures.value c.loop-i-test.true c.index-queries-i.is c.as_slice.ensures.value in (
      at-stops c.args.options.now c.args.series.now c.loop-i.i c.as_slice.result.now (drop (c.loop-i.i + 1) c.args.series.now.queries) _ _ _ _ _ _
          c.loop-i.course c.in-Err.end c.loop-i.invariant.at next c.in-Err.ensures.means,
      c.in-Err.ensures.closed,
    )

pub returns-in-Err-clause-heard : goal.returns-in-Err-clause-heard
returns-in-Err-clause-heard g c = g.met.W.Watch.goes_on c.args.watch.now c.loop-i.watch c.step.new.watch c.loop-i.invariant.heard c.step.ensures.heard

pub returns-clause-asks : goal.returns-clause-asks
returns-clause-asks g c =
    let same = ap (λ (qs : List (List ℤ)). length qs) c.as_slice-queries.ensures.value in
    at-end c.args.options.now c.args.series.now _ _ _ _ c.loop-i.i c.loop-i.course c.loop-i.invariant.at (omega (arith, same))
