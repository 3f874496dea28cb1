use Rattle.std.proofs.Common.{◌<◌, ◌^◌, length, pos, neg_ℤ, arith, rules}
use Rattle.asp_bound.proofs.NeededLaws.{needed-next, needed-last, room-first, room-next, high-next}
use Rattle.asp_bound.proofs.needed.needed.Goals as goal

pub loop-lit-init : goal.loop-lit-init
loop-lit-init c = record { rest = search rules; low = c.requires.low; high = c.requires.high }

pub add_needed-requires-clause-low : goal.add_needed-requires-clause-low
add_needed-requires-clause-low c = room-first c.args.rows.now c.args.raising.now c.loop-lit.lit-index c.lit-item.result (neg_ℤ (pos (2 ^ 60)))
    c.loop-lit.sums (omega arith) c.lit-item.is c.loop-lit.invariant.low

pub add_needed-requires-clause-high : goal.add_needed-requires-clause-high
add_needed-requires-clause-high c = c.loop-lit.invariant.high

pub loop-lit-preserved : goal.loop-lit-preserved
loop-lit-preserved c =
    let within : c.loop-lit.lit-index < length c.args.raising.now = omega arith in
    record {
      rest = needed-next c.args.rows.now c.args.bound.now c.args.depth c.args.raising.now c.loop-lit.lit-index c.lit-item.result c.loop-lit.lits.items
          c.add_needed.new.lits.items _ c.loop-lit.sums c.add_needed.new.sums within c.lit-item.is c.in_ok-add_needed.ensures.needed
          c.loop-lit.invariant.rest;
      low = room-next c.args.rows.now c.args.raising.now c.loop-lit.lit-index c.lit-item.result (neg_ℤ (pos (2 ^ 60))) c.loop-lit.sums
          c.add_needed.new.sums within c.lit-item.is c.add_needed.auto.sums c.loop-lit.invariant.low c.in_ok-add_needed.ensures.least;
      high = high-next (pos (2 ^ 60)) c.loop-lit.sums c.add_needed.new.sums c.add_needed.auto.sums c.loop-lit.invariant.high c.in_ok-add_needed.ensures.fallen;
    }

pub returns : goal.returns
returns c = needed-last c.args.rows.now c.args.bound.now c.args.depth c.args.raising.now c.loop-lit.lit-index c.loop-lit.lits.items _ c.loop-lit.sums (omega arith) c.loop-lit.invariant.rest
