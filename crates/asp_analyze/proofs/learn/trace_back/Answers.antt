use Rattle.std.proofs.Common.{ℕ, refl}
use Rattle.asp_vars.specs.declared.nogood.Nogood.{Nogood}
use Rattle.asp_analyze.specs.Way.{IsOnTheWay}
use Rattle.asp_analyze.proofs.EndLaws.{all_on, all_small, all_stay, marked_begins, way_begins, down_begins, ready}
use Rattle.asp_analyze.proofs.learn.trace_back.Goals as goal

pub greatest_level-top-requires : goal.greatest_level-top-requires
greatest_level-top-requires g c = all_on c.args.trail.now.vars c.args.trail.now.entries c.args.lits.now c.len-len.ensures.ordered c.requires.contained

pub note_all-requires-clause-small : goal.note_all-requires-clause-small
note_all-requires-clause-small g c =
    let es = c.args.trail.now.entries in
    let o = c.len-len.ensures.ordered in
    all_small c.args.trail.now.vars c.requires.marks.0 es c.args.marks.now c.args.lits.now o c.requires.marks.2 c.requires.marks.1
    (all_on c.args.trail.now.vars es c.args.lits.now o c.requires.contained)

pub note_all-requires-clause-stays : goal.note_all-requires-clause-stays
note_all-requires-clause-stays g c =
    let es = c.args.trail.now.entries in
    all_stay es c.greatest_level-top.result c.args.marks.now c.args.lits.now
    (all_on c.args.trail.now.vars es c.args.lits.now c.len-len.ensures.ordered c.requires.contained) c.greatest_level-top.ensures.below

pub note_all-requires-clause-marked : goal.note_all-requires-clause-marked
note_all-requires-clause-marked g c =
    marked_begins c.args.trail.now.vars c.requires.marks.0 c.args.trail.now.entries c.greatest_level-top.result c.args.marks.now c.len-len.ensures.ordered c.requires.marks.2 c.requires.marks.1

pub find_point-requires-clause-way : goal.find_point-requires-clause-way
find_point-requires-clause-way g c =
    let from : Nogood = record { lits = c.args.lits.now; base = c.args.base.now } in
    let says = g.R.Reasons.says c.args.reasons.now in (
      from,
      way_begins c.args.trail.now.vars c.requires.marks.0 c.args.trail.now.entries says from c.greatest_level-top.result c.args.marks.now
          c.note_all.new.marks c.args.base.now c.len-len.ensures.ordered c.requires.marks.1 refl c.note_all.ensures.marked c.note_all.ensures.noted,
    )

pub find_point-requires-clause-down : goal.find_point-requires-clause-down
find_point-requires-clause-down g c =
    let es = c.args.trail.now.entries in
    let on = all_on c.args.trail.now.vars es c.args.lits.now c.len-len.ensures.ordered c.requires.contained in
    down_begins c.args.trail.now.vars c.requires.marks.0 es c.args.lits.now c.greatest_level-top.result c.args.marks.now c.note_all.new.marks
    c.requires.marks.1 on c.note_all.ensures.marked c.note_all.ensures.noted c.greatest_level-top.ensures.attained

pub settle-requires-clause-way : goal.settle-requires-clause-way
settle-requires-clause-way g c =
    let from : Nogood = record { lits = c.args.lits.now; base = c.args.base.now } in
    let says = g.R.Reasons.says c.args.reasons.now in
    let begun =
    way_begins c.args.trail.now.vars c.requires.marks.0 c.args.trail.now.entries says from c.greatest_level-top.result c.args.marks.now
    c.note_all.new.marks c.args.base.now c.len-len.ensures.ordered c.requires.marks.1 refl c.note_all.ensures.marked c.note_all.ensures.noted in
    (from, c.in_ok-point.ensures.way from begun)

pub returns-clause-traced : goal.returns-clause-traced
returns-clause-traced g c =
    let es = c.args.trail.now.entries in
    let from : Nogood = record { lits = c.args.lits.now; base = c.args.base.now } in
    let says = g.R.Reasons.says c.args.reasons.now in
    let top : ℕ = c.greatest_level-top.result in
    let begun = way_begins c.args.trail.now.vars c.requires.marks.0 es says from top c.args.marks.now c.note_all.new.marks c.args.base.now
    c.len-len.ensures.ordered c.requires.marks.1 refl c.note_all.ensures.marked c.note_all.ensures.noted in
    let way : IsOnTheWay es says from top c.settle.new.marks c.settle.new.base = c.in_ok-settle.ensures.way from (c.in_ok-point.ensures.way from begun) in
    record {
      top = top;
      way = way;
      settled = c.in_ok-settle.ensures.settled;
      ready = ready es from.lits top c.find_point.new.marks c.settle.new.marks way.marked c.in_ok-settle.ensures.settled c.in_ok-settle.ensures.goes
          c.greatest_level-top.ensures.below c.greatest_level-top.ensures.attained c.in_ok-point.point c.in_ok-point.ensures.found
          c.in_ok-point.ensures.none;
    }
