use Rattle.std.proofs.Common.{◌≡◌, ◌∙◌, set, sym, subst, arith}
use Rattle.asp_trail.specs.Entries.{level_in, reason_in}
use Rattle.asp_analyze.specs.declared.marks.Mark.{Mark}
use Rattle.asp_analyze.specs.declared.marks.Mark.TheVariants as mark
use Rattle.asp_analyze.specs.Marks.{Marked}
use Rattle.asp_analyze.specs.Way.{Fits, Opened, IsOnTheWay, Goes}
use Rattle.asp_analyze.proofs.GoesLaws.{way_kept, goes_opened, on_ok_both}
use Rattle.asp_analyze.proofs.settle.settle_zero.Goals as goal

pub returns-in-None-clause-way : goal.returns-in-None-clause-way
returns-in-None-clause-way g c = λ from w.
    let old : Marked = c.args.marks.now in
    let made : c.change.new.self ≡ record old { marks = set old.marks c.args.lit.var mark.Kept } = rw c.var.ensures at c.change.ensures in
    way_kept c.args.trail.now.entries (g.R.Reasons.says c.args.reasons.now) from c.args.top old c.change.new.self c.args.base.now c.args.lit c.requires.on c.requires.zero
    (sym c.reason_of.ensures ∙ c.in-None.is) made w

pub returns-in-Some-clause-goes : goal.returns-in-Some-clause-goes
returns-in-Some-clause-goes g c =
    let es = c.args.trail.now.entries in
    let says = g.R.Reasons.says c.args.reasons.now in
    let a = c.requires.way.1.marked in
    let level : level_in es c.args.lit.var ≡ 0 =
    subst (λ (x : Mark). Fits c.args.top (level_in es c.args.lit.var) (reason_in es c.args.lit.var) x) c.requires.zero (a.fits c.args.lit c.requires.on) in
    on_ok_both c.open.result (Opened es c.args.lit c.args.marks.now c.open.new.marks) (IsOnTheWay es says c.requires.way.0 c.args.top c.open.new.marks c.open.new.base)
    (Goes es c.args.marks.now c.open.new.marks)
    (λ t w. goes_opened es c.args.top c.args.marks.now c.open.new.marks c.args.lit a w.marked c.requires.on (λ p. omega (arith, p, level)) t)
    c.open.ensures.opened (c.open.ensures.way c.requires.way.0 c.requires.way.1)
