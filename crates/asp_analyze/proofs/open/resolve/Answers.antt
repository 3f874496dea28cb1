use Rattle.std.proofs.Common.{◌≡◌, ◌<◌, ◌∙◌, List, length, set, ap, sym, subst, true, false}
use Rattle.std.specs.List.{All}
use Rattle.asp_vars.specs.Literals.{Literal}
use Rattle.asp_vars.specs.declared.nogood.Nogood.{Nogood}
use Rattle.asp_analyze.specs.declared.marks.Mark.TheVariants as mark
use Rattle.asp_analyze.specs.Marks.{Marked, mark_of, is_met}
use Rattle.asp_analyze.specs.Way.{CanStay, Noted}
use Rattle.asp_analyze.proofs.MarkLaws.{mark_set_same}
use Rattle.asp_analyze.proofs.OpenLaws.{reason_small, reason_stays, opened_marked, opened_marks, way_opened}
use Rattle.asp_analyze.proofs.open.resolve.Goals as goal

pub note_all-requires-clause-small : goal.note_all-requires-clause-small
note_all-requires-clause-small g c =
    let es = c.args.trail.now.entries in
    let says = g.R.Reasons.says c.args.reasons.now in
    let a = c.requires.way.1.marked in
    let old : Marked = c.args.marks.now in
    let mid : Marked = c.change.new.self in
    let made : mid ≡ record old { marks = set old.marks c.args.lit.var mark.Resolved } = rw c.var.ensures at c.change.ensures in
    let n : Nogood = c.args.reason.now in
    let k = c.requires.said in
    subst (λ (ls : List Literal). All (λ l. l.var < length mid.marks) ls) (sym c.as_slice.ensures.value)
    (reason_small a.ordered.0 es says c.args.top mid c.args.lit c.args.id n a.ordered.1 c.requires.reasons (opened_marked es c.args.top old mid c.args.lit a c.requires.on c.requires.marked made)
    c.requires.on c.requires.reason k)

pub note_all-requires-clause-stays : goal.note_all-requires-clause-stays
note_all-requires-clause-stays g c =
    let es = c.args.trail.now.entries in
    let says = g.R.Reasons.says c.args.reasons.now in
    let a = c.requires.way.1.marked in
    let old : Marked = c.args.marks.now in
    let mid : Marked = c.change.new.self in
    let made : mid ≡ record old { marks = set old.marks c.args.lit.var mark.Resolved } = rw c.var.ensures at c.change.ensures in
    let n : Nogood = c.args.reason.now in
    let k = c.requires.said in
    let met : is_met (mark_of mid.marks c.args.lit.var) ≡ true =
    ap (λ (m : Marked). is_met (mark_of m.marks c.args.lit.var)) made ∙ ap is_met (mark_set_same old.marks c.args.lit.var mark.Resolved (a.small c.args.lit c.requires.on)) in
    subst (λ (ls : List Literal). All (λ l. is_met (mark_of mid.marks l.var) ≡ false → CanStay es c.args.top l) ls) (sym c.as_slice.ensures.value)
    (reason_stays a.ordered.0 es says c.args.top mid.marks c.args.lit c.args.id n a.ordered.1 c.requires.reasons c.requires.on c.requires.level c.requires.reason k met)

pub note_all-requires-clause-marked : goal.note_all-requires-clause-marked
note_all-requires-clause-marked g c =
    let es = c.args.trail.now.entries in
    let a = c.requires.way.1.marked in
    let old : Marked = c.args.marks.now in
    let mid : Marked = c.change.new.self in
    let made : mid ≡ record old { marks = set old.marks c.args.lit.var mark.Resolved } = rw c.var.ensures at c.change.ensures in
    opened_marked es c.args.top old mid c.args.lit a c.requires.on c.requires.marked made

pub returns-clause-way : goal.returns-clause-way
returns-clause-way g c = λ from w.
    let es = c.args.trail.now.entries in
    let says = g.R.Reasons.says c.args.reasons.now in
    let old : Marked = c.args.marks.now in
    let mid : Marked = c.change.new.self in
    let made : mid ≡ record old { marks = set old.marks c.args.lit.var mark.Resolved } = rw c.var.ensures at c.change.ensures in
    let n : Nogood = c.args.reason.now in
    let k = c.requires.said in
    way_opened es says from c.args.top old mid c.note_all.new.marks c.args.base.now c.join.new.base c.args.lit c.args.id n c.requires.reasons c.requires.on c.requires.reason k
    made c.note_all.ensures.marked (subst (λ (ls : List Literal). Noted es mid c.note_all.new.marks ls) c.as_slice.ensures.value c.note_all.ensures.noted) c.in_ok-join.ensures.ok w

pub returns-clause-opened : goal.returns-clause-opened
returns-clause-opened g c =
    let es = c.args.trail.now.entries in
    let says = g.R.Reasons.says c.args.reasons.now in
    let a = c.requires.way.1.marked in
    let old : Marked = c.args.marks.now in
    let mid : Marked = c.change.new.self in
    let made : mid ≡ record old { marks = set old.marks c.args.lit.var mark.Resolved } = rw c.var.ensures at c.change.ensures in
    let n : Nogood = c.args.reason.now in
    let k = c.requires.said in
    opened_marks a.ordered.0 es says c.args.top old mid c.note_all.new.marks c.args.lit c.args.id n a.ordered.1 c.requires.reasons a c.requires.on
    c.requires.reason k made (subst (λ (ls : List Literal). Noted es mid c.note_all.new.marks ls) c.as_slice.ensures.value
    c.note_all.ensures.noted)
