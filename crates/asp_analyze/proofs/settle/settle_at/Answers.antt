use Rattle.std.proofs.Common.{◌≡◌, ◌∙◌, ◌+◌, ◌<◌, ℕ, List, true, None, get_or, ap, sym, subst, arith}
use Rattle.asp_vars.specs.Literals.{Literal}
use Rattle.asp_trail.specs.Entries.{level_in, reason_in}
use Rattle.asp_analyze.specs.declared.marks.Mark.{Mark}
use Rattle.asp_analyze.specs.declared.marks.Mark.TheVariants as mark
use Rattle.asp_analyze.specs.Marks.{Marked, mark_of, is_settled}
use Rattle.asp_analyze.specs.Way.{Fits, AreSettled, Goes}
use Rattle.asp_analyze.proofs.GoesLaws.{listed_on, settled_more, on_ok, on_ok_both}
use Rattle.asp_analyze.proofs.settle.settle_at.Goals as goal

pub settle_zero-requires-clause-on : goal.settle_zero-requires-clause-on
settle_zero-requires-clause-on g c =
    let es = c.args.trail.now.entries in
    let top = c.args.top in
    let i = c.args.i in
    let m : Marked = c.args.marks.now in
    let a = c.requires.way.1.marked in
    let lit : Literal = c.index-lits-i.result in
    let q : lit ≡ get_or m.lits i lit = c.index-lits-i.is ∙ ap (λ (xs : List Literal). get_or xs i lit) c.lits.ensures.value in
    let on = listed_on es top i m lit a c.requires.i q in
    on.0

pub level_of-requires : goal.level_of-requires
level_of-requires g c =
    let es = c.args.trail.now.entries in
    let top = c.args.top in
    let i = c.args.i in
    let m : Marked = c.args.marks.now in
    let a = c.requires.way.1.marked in
    let lit : Literal = c.index-lits-i.result in
    let q : lit ≡ get_or m.lits i lit = c.index-lits-i.is ∙ ap (λ (xs : List Literal). get_or xs i lit) c.lits.ensures.value in
    let on = listed_on es top i m lit a c.requires.i q in
    on.0

pub minimise-requires-clause-lit : goal.minimise-requires-clause-lit
minimise-requires-clause-lit g c =
    let es = c.args.trail.now.entries in
    let top = c.args.top in
    let i = c.args.i in
    let m : Marked = c.args.marks.now in
    let a = c.requires.way.1.marked in
    let lit : Literal = c.index-lits-i.result in
    let q : lit ≡ get_or m.lits i lit = c.index-lits-i.is ∙ ap (λ (xs : List Literal). get_or xs i lit) c.lits.ensures.value in
    let on = listed_on es top i m lit a c.requires.i q in
    let kept : mark_of m.marks lit.var ≡ mark.Kept = sym (c.get.ensures ∙ ap (λ (v : ℕ). mark_of m.marks v) c.var.ensures) ∙ c.in-Kept.is in
    let fit : (level_in es lit.var ≡ 0 → reason_in es lit.var ≡ None) × (0 < level_in es lit.var → level_in es lit.var < top) =
    subst (λ (x : Mark). Fits top (level_in es lit.var) (reason_in es lit.var) x) kept (a.fits lit on.0) in
    let low : 0 < level_in es lit.var = omega (arith, c.if-level_of-gt0.true, c.level_of.ensures) in
    record { on = on.0; low = low; high = fit.1 low; marked = on.1 }

pub returns-in-Zero-clause-settled : goal.returns-in-Zero-clause-settled
returns-in-Zero-clause-settled g c = λ s.
    let es = c.args.trail.now.entries in
    let top = c.args.top in
    let i = c.args.i in
    let m : Marked = c.args.marks.now in
    let a = c.requires.way.1.marked in
    let lit : Literal = c.index-lits-i.result in
    let q : lit ≡ get_or m.lits i lit = c.index-lits-i.is ∙ ap (λ (xs : List Literal). get_or xs i lit) c.lits.ensures.value in
    on_ok_both c.settle_zero.result (Goes es m c.settle_zero.new.marks) (is_settled (mark_of c.settle_zero.new.marks.marks lit.var) ≡ true) (AreSettled (i + 1) c.settle_zero.new.marks)
    (λ t now. settled_more es top m c.settle_zero.new.marks i lit lit a t c.requires.i q now s)
    c.settle_zero.ensures.goes c.settle_zero.ensures.settled

pub returns-then-level_of-gt0-clause-settled : goal.returns-then-level_of-gt0-clause-settled
returns-then-level_of-gt0-clause-settled g c = λ s.
    let es = c.args.trail.now.entries in
    let top = c.args.top in
    let i = c.args.i in
    let m : Marked = c.args.marks.now in
    let a = c.requires.way.1.marked in
    let lit : Literal = c.index-lits-i.result in
    let q : lit ≡ get_or m.lits i lit = c.index-lits-i.is ∙ ap (λ (xs : List Literal). get_or xs i lit) c.lits.ensures.value in
    let on = listed_on es top i m lit a c.requires.i q in
    let kept : mark_of m.marks lit.var ≡ mark.Kept = sym (c.get.ensures ∙ ap (λ (v : ℕ). mark_of m.marks v) c.var.ensures) ∙ c.in-Kept.is in
    on_ok c.minimise.result (Goes es m c.minimise.new.marks) (AreSettled (i + 1) c.minimise.new.marks)
    (λ t. settled_more es top m c.minimise.new.marks i lit lit a t c.requires.i q (t.settled lit on.0 (ap is_settled kept)) s)
    c.minimise.ensures.goes
