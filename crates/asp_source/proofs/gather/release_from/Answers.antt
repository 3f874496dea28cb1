use Rattle.std.proofs.Common.{ap, ◌∙◌, length, arith}
use Rattle.asp_table.specs.declared.columns.Occurrence.{Occurrence}
use Rattle.asp_vars.specs.Literals.{T}
use Rattle.asp_vars.specs.Tabled.{occurrences_of}
use Rattle.asp_source.proofs.GatherLaws.{gathers_same, gathers_then, released_more, looked_through}
use Rattle.asp_source.proofs.LoseLaws.{item_at}
use Rattle.asp_source.proofs.gather.release_from.Goals as goal

pub loop-occurrence-init : goal.loop-occurrence-init
loop-occurrence-init c = record {
  gathering = c.requires.gathering;
  gathers = gathers_same c.args.region.now.values.now c.args.sources.now c.args.loose.now c.args.waiting.now;
  released = λ i d lt. absurd (omega (arith, lt));
}

pub loop-occurrence-preserved : goal.loop-occurrence-preserved
loop-occurrence-preserved c =
    let listed = c.occurrences-occurrence-items.ensures.occurrences ∙ ap (occurrences_of c.args.region.now.compiled.now) c.new.ensures in
    record {
      gathering = c.release_heads.ensures.steps.gathering;
      gathers =
          gathers_then c.args.region.now.values.now c.args.sources.now c.args.loose.now c.args.waiting.now c.loop-occurrence.sources
          c.loop-occurrence.loose c.loop-occurrence.waiting c.release_heads.new.sources c.release_heads.new.loose c.release_heads.new.waiting
          c.loop-occurrence.invariant.gathers c.release_heads.ensures.steps.gathers;
      released =
          released_more c.args.region.now.compiled.now c.args.region.now.components.now c.args.region.now.values.now c.args.region.now.component
          c.args.region.now.ranks.now.ranks c.loop-occurrence.sources c.loop-occurrence.loose c.loop-occurrence.waiting c.release_heads.new.sources
          c.release_heads.new.loose c.release_heads.new.waiting (occurrences_of c.args.region.now.compiled.now (T c.args.var))
          c.loop-occurrence.occurrence-index _ c.release_heads.ensures.steps.keeps c.loop-occurrence.invariant.released
          c.release_heads.ensures.released
          (λ d lt. ap (λ (o : Occurrence). o.body)
          (item_at c.occurrences-occurrence-items.result.now (occurrences_of c.args.region.now.compiled.now (T c.args.var))
          c.loop-occurrence.occurrence-index d (record { body = 0; place = 0 }) listed lt));
    }

pub returns-clause-gathering : goal.returns-clause-gathering
returns-clause-gathering c =
    let listed = c.occurrences-occurrence-items.ensures.occurrences ∙ ap (occurrences_of c.args.region.now.compiled.now) c.new.ensures in
    looked_through c.args.region.now.compiled.now c.args.region.now.components.now c.args.region.now.values.now c.args.region.now.component
    c.args.region.now.ranks.now.ranks c.args.var c.loop-occurrence.sources c.loop-occurrence.loose c.loop-occurrence.waiting
    c.loop-occurrence.joined c.program-program.ensures.sound
    (λ i d lt. c.loop-occurrence.invariant.released i d (omega (arith, c.loop-occurrence-test.false, ap length listed, lt)) lt)
    c.loop-occurrence.invariant.gathering
