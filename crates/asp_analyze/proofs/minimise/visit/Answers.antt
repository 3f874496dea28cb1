use Rattle.std.proofs.Common.{◌≡◌, ◌∙◌, ◌≢◌, ◌<◌, List, Some, true, false, ap, length, sym, subst}
use Rattle.std.specs.List.{All}
use Rattle.std.proofs.lemmas.List.Elements.{All-push}
use Rattle.asp_vars.specs.Literals.{Literal, has_literal}
use Rattle.asp_trail.specs.Entries.{level_in, reason_in}
use Rattle.asp_vars.specs.declared.nogood.Nogood.{Nogood}
use Rattle.asp_analyze.specs.declared.minimise.Look.{Look}
use Rattle.asp_analyze.specs.declared.marks.Mark.TheVariants as mark
use Rattle.asp_analyze.specs.Marks.{Marked, mark_of, is_clean}
use Rattle.asp_analyze.specs.Way.{IsOn, Opened, IsOnTheWay, Goes, CanGo}
use Rattle.asp_analyze.proofs.MarkLaws.{mark_set_same}
use Rattle.asp_analyze.proofs.OpenLaws.{reason_asked, reason_small}
use Rattle.asp_analyze.proofs.GoesLaws.{way_needed, goes_needed, on_ok_both}
use Rattle.asp_analyze.proofs.MinimiseLaws.{can_last, can_front, can_later, others_on, other_high, goes_looked}
use Rattle.asp_analyze.proofs.minimise.visit.Goals as goal

pub kept-requires : goal.kept-requires
kept-requires g c =
    let es = c.args.trail.now.entries in
    let top = c.args.top in
    let m : Marked = c.args.marks.now in
    let a = c.requires.way.1.marked in
    let last : Look = c.in-Some.last in
    let can = can_last es top m c.args.path.now.items c.pop.new.self.items last c.in-Some.ensures.items c.requires.path in
    let id = c.in-Some-reason_of.id in
    let reason : reason_in es last.lit.var ≡ Some id = sym c.reason_of.ensures ∙ c.in-Some-reason_of.is in
    reason_asked a.ordered.0 es (g.R.Reasons.asks c.args.reasons.now) last.lit id a.ordered.1 c.requires.asked can.on reason

pub find_other-requires-clause-small : goal.find_other-requires-clause-small
find_other-requires-clause-small g c =
    let es = c.args.trail.now.entries in
    let says = g.R.Reasons.says c.args.reasons.now in
    let top = c.args.top in
    let m : Marked = c.args.marks.now in
    let a = c.requires.way.1.marked in
    let last : Look = c.in-Some.last in
    let can = can_last es top m c.args.path.now.items c.pop.new.self.items last c.in-Some.ensures.items c.requires.path in
    let id = c.in-Some-reason_of.id in
    let reason : reason_in es last.lit.var ≡ Some id = sym c.reason_of.ensures ∙ c.in-Some-reason_of.is in
    let n : Nogood = c.in-Some-kept.reason.now in
    let k : says last.lit id n = c.in-Some-kept.ensures in
    let same : c.as_slice.result.now ≡ n.lits = c.as_slice.ensures.value in
    subst (λ (ls : List Literal). All (λ l. l.var < length m.marks) ls) (sym same)
    (reason_small a.ordered.0 es says top m last.lit id n a.ordered.1 c.requires.reasons a can.on reason k)

pub find_other-requires-clause-on : goal.find_other-requires-clause-on
find_other-requires-clause-on g c =
    let es = c.args.trail.now.entries in
    let says = g.R.Reasons.says c.args.reasons.now in
    let top = c.args.top in
    let m : Marked = c.args.marks.now in
    let a = c.requires.way.1.marked in
    let last : Look = c.in-Some.last in
    let can = can_last es top m c.args.path.now.items c.pop.new.self.items last c.in-Some.ensures.items c.requires.path in
    let id = c.in-Some-reason_of.id in
    let reason : reason_in es last.lit.var ≡ Some id = sym c.reason_of.ensures ∙ c.in-Some-reason_of.is in
    let n : Nogood = c.in-Some-kept.reason.now in
    let k : says last.lit id n = c.in-Some-kept.ensures in
    let same : c.as_slice.result.now ≡ n.lits = c.as_slice.ensures.value in
    subst (λ (ls : List Literal). All (λ l. l.var ≢ c.var.result → IsOn es l) ls) (sym same)
    (others_on a.ordered.0 es says last.lit id c.var.result n a.ordered.1 c.requires.reasons can.on reason k c.var.ensures)

pub may_follow-requires-clause-small : goal.may_follow-requires-clause-small
may_follow-requires-clause-small g c = c.requires.way.1.marked.small c.in-Some-find_other.other.lit c.in-Some-find_other.ensures.1.on

pub returns-in-None-clause-path : goal.returns-in-None-clause-path
returns-in-None-clause-path g c =
    let es = c.args.trail.now.entries in
    let says = g.R.Reasons.says c.args.reasons.now in
    let top = c.args.top in
    let m : Marked = c.args.marks.now in
    let a = c.requires.way.1.marked in
    let last : Look = c.in-Some.last in
    let can = can_last es top m c.args.path.now.items c.pop.new.self.items last c.in-Some.ensures.items c.requires.path in
    on_ok_both c.open.result (Opened es last.lit m c.open.new.marks) (IsOnTheWay es says c.requires.way.0 top c.open.new.marks c.open.new.base)
    (All (λ (f : Look). CanGo es top c.open.new.marks f.lit) c.pop.new.self.items)
    (λ t w i d h. can_later es top m c.open.new.marks _ (goes_looked es top m c.open.new.marks last.lit a w.marked can t)
    (can_front es top m c.args.path.now.items c.pop.new.self.items last c.in-Some.ensures.items c.requires.path i d h))
    c.open.ensures.opened (c.open.ensures.way c.requires.way.0 c.requires.way.1)

pub returns-in-None-clause-goes : goal.returns-in-None-clause-goes
returns-in-None-clause-goes g c =
    let es = c.args.trail.now.entries in
    let says = g.R.Reasons.says c.args.reasons.now in
    let top = c.args.top in
    let m : Marked = c.args.marks.now in
    let a = c.requires.way.1.marked in
    let last : Look = c.in-Some.last in
    let can = can_last es top m c.args.path.now.items c.pop.new.self.items last c.in-Some.ensures.items c.requires.path in
    on_ok_both c.open.result (Opened es last.lit m c.open.new.marks) (IsOnTheWay es says c.requires.way.0 top c.open.new.marks c.open.new.base)
    (Goes es m c.open.new.marks)
    (λ t w. goes_looked es top m c.open.new.marks last.lit a w.marked can t)
    c.open.ensures.opened (c.open.ensures.way c.requires.way.0 c.requires.way.1)

pub returns-in_ok-push-in-Some-find_other-2-clause-way :
    goal.returns-in_ok-push-in-Some-find_other-2-clause-way
returns-in_ok-push-in-Some-find_other-2-clause-way g c = λ from w.
    let es = c.args.trail.now.entries in
    let says = g.R.Reasons.says c.args.reasons.now in
    let top = c.args.top in
    let m : Marked = c.args.marks.now in
    let a = c.requires.way.1.marked in
    let last : Look = c.in-Some.last in
    let can = can_last es top m c.args.path.now.items c.pop.new.self.items last c.in-Some.ensures.items c.requires.path in
    let id = c.in-Some-reason_of.id in
    let reason : reason_in es last.lit.var ≡ Some id = sym c.reason_of.ensures ∙ c.in-Some-reason_of.is in
    let n : Nogood = c.in-Some-kept.reason.now in
    let k : says last.lit id n = c.in-Some-kept.ensures in
    let same : c.as_slice.result.now ≡ n.lits = c.as_slice.ensures.value in
    let other : Look = c.in-Some-find_other.other in
    let is = c.in-Some-find_other.ensures.1 in
    let has : has_literal n.lits other.lit ≡ true = subst (λ (ls : List Literal). has_literal ls other.lit ≡ true) same c.in-Some-find_other.ensures.0 in
    let high : level_in es other.lit.var < top =
    other_high a.ordered.0 es says top m last.lit other.lit id c.var.result n a.ordered.1 c.requires.reasons can reason k c.var.ensures has is in
    let clean : is_clean (mark_of m.marks other.lit.var) ≡ true = c.may_follow.ensures c.if-may_follow.true in
    way_needed es says from top m c.add.new.self c.args.base.now other.lit is.on clean is.low high c.add.ensures w

pub returns-in_ok-push-in-Some-find_other-2-clause-path :
    goal.returns-in_ok-push-in-Some-find_other-2-clause-path
returns-in_ok-push-in-Some-find_other-2-clause-path g c =
    let es = c.args.trail.now.entries in
    let says = g.R.Reasons.says c.args.reasons.now in
    let top = c.args.top in
    let m : Marked = c.args.marks.now in
    let a = c.requires.way.1.marked in
    let last : Look = c.in-Some.last in
    let can = can_last es top m c.args.path.now.items c.pop.new.self.items last c.in-Some.ensures.items c.requires.path in
    let id = c.in-Some-reason_of.id in
    let reason : reason_in es last.lit.var ≡ Some id = sym c.reason_of.ensures ∙ c.in-Some-reason_of.is in
    let n : Nogood = c.in-Some-kept.reason.now in
    let k : says last.lit id n = c.in-Some-kept.ensures in
    let same : c.as_slice.result.now ≡ n.lits = c.as_slice.ensures.value in
    let other : Look = c.in-Some-find_other.other in
    let is = c.in-Some-find_other.ensures.1 in
    let has : has_literal n.lits other.lit ≡ true = subst (λ (ls : List Literal). has_literal ls other.lit ≡ true) same c.in-Some-find_other.ensures.0 in
    let high : level_in es other.lit.var < top =
    other_high a.ordered.0 es says top m last.lit other.lit id c.var.result n a.ordered.1 c.requires.reasons can reason k c.var.ensures has is in
    let clean : is_clean (mark_of m.marks other.lit.var) ≡ true = c.may_follow.ensures c.if-may_follow.true in
    let goes : Goes es m c.add.new.self = goes_needed es top m c.add.new.self other.lit a is.on clean c.add.ensures in
    let P : Look → Type 0 = λ f. CanGo es top c.add.new.self f.lit in
    let front : All P c.pop.new.self.items =
    λ i d h. can_later es top m c.add.new.self _ goes
    (can_front es top m c.args.path.now.items c.pop.new.self.items last c.in-Some.ensures.items c.requires.path i d h) in
    let first : Look = record { lit = last.lit; next = other.next } in
    let second : Look = record { lit = other.lit; next = 0 } in
    let marked : is_clean (mark_of c.add.new.self.marks other.lit.var) ≡ false =
    ap (λ (x : Marked). is_clean (mark_of x.marks other.lit.var)) c.add.ensures ∙ ap is_clean (mark_set_same m.marks other.lit.var mark.Needed (a.small other.lit is.on)) in
    subst (λ (xs : List Look). All P xs) (sym {A = List Look} c.in_ok-push-in-Some-find_other-2.ensures.items)
    (All-push P c.push.new.self.items second
    (subst (λ (xs : List Look). All P xs) (sym {A = List Look} c.in_ok-push-in-Some-find_other.ensures.items)
    (All-push P c.pop.new.self.items first front (can_later es top m c.add.new.self last.lit goes can)))
    record { on = is.on; low = is.low; high = high; marked = marked })

pub returns-in_ok-push-in-Some-find_other-2-clause-goes :
    goal.returns-in_ok-push-in-Some-find_other-2-clause-goes
returns-in_ok-push-in-Some-find_other-2-clause-goes g c =
    let es = c.args.trail.now.entries in
    let top = c.args.top in
    let m : Marked = c.args.marks.now in
    let a = c.requires.way.1.marked in
    let other : Look = c.in-Some-find_other.other in
    let is = c.in-Some-find_other.ensures.1 in
    let clean : is_clean (mark_of m.marks other.lit.var) ≡ true = c.may_follow.ensures c.if-may_follow.true in
    goes_needed es top m c.add.new.self other.lit a is.on clean c.add.ensures
