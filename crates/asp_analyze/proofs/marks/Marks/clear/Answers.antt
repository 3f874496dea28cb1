use Rattle.std.proofs.Common.{◌≡◌, ◌∙◌, ℕ, List, [], length, replicate, drop, ap, sym, subst, arith}
use Rattle.std.specs.Vec.{vec_capacity}
use Rattle.std.proofs.lemmas.List.{take_at}
use Rattle.asp_vars.specs.Literals.{Literal}
use Rattle.asp_analyze.specs.declared.marks.Mark.{Mark}
use Rattle.asp_analyze.specs.declared.marks.Mark.TheVariants as mark
use Rattle.asp_analyze.specs.Marks.{Marked, AreMarks, Cleaned}
use Rattle.asp_analyze.proofs.MarkLaws.{marks_cleaned, marks_none}
use Rattle.asp_analyze.proofs.marks.Marks.clear.Goals as goal

pub invariant_of-self : goal.invariant_of-self
invariant_of-self c =
    let s = c.self.inside in
    let done : Cleaned s.marks.items c.clean.new.marks s.lits.items =
    subst (λ (xs : List Mark). Cleaned xs c.clean.new.marks s.lits.items) c.as_mut_slice.ensures.value
    (subst (λ (ls : List Literal). Cleaned c.as_mut_slice.result.now c.clean.new.marks ls) c.as_slice.ensures.value c.clean.ensures.cleaned) in
    let all = marks_cleaned s.marks.items c.clean.new.marks s.lits.items s.pending (vec_capacity s.lits) c.self.invariant done in
    let len : length c.clean.new.marks ≡ s.marks.len = omega (arith, c.clean.auto.marks, ap (length {A = Mark}) c.as_mut_slice.ensures.value, s.marks.ok.0) in
    rw (take_at c.clean.new.marks, c.clear.ensures.items)
    (subst (λ (xs : List Mark). AreMarks xs [] 0 (vec_capacity c.clear.new.self)) (sym all)
    (marks_none (length c.clean.new.marks) (vec_capacity c.clear.new.self) (omega (arith, len, s.marks.ok.0, c.self.invariant.roomy, c.clear.ensures.capacity))))

pub returns : goal.returns
returns c =
    let s = c.self.inside in
    let done : Cleaned s.marks.items c.clean.new.marks s.lits.items =
    subst (λ (xs : List Mark). Cleaned xs c.clean.new.marks s.lits.items) c.as_mut_slice.ensures.value
    (subst (λ (ls : List Literal). Cleaned c.as_mut_slice.result.now c.clean.new.marks ls) c.as_slice.ensures.value c.clean.ensures.cleaned) in
    let all = marks_cleaned s.marks.items c.clean.new.marks s.lits.items s.pending (vec_capacity s.lits) c.self.invariant done in
    let len : length c.clean.new.marks ≡ length c.args.self.now.marks =
    c.clean.auto.marks ∙ (ap (length {A = Mark}) c.as_mut_slice.ensures.value ∙ ap (λ (m : Marked). length m.marks) c.self.view_is) in
    let marks : c.clean.new.marks ≡ replicate (length c.args.self.now.marks) mark.Clean = all ∙ ap (λ (n : ℕ). replicate n mark.Clean) len in
    let full : length c.clean.new.marks ≡ s.marks.len = omega (arith, c.clean.auto.marks, ap (length {A = Mark}) c.as_mut_slice.ensures.value, s.marks.ok.0) in
    λ i. record { marks = (take_at c.clean.new.marks (drop (length c.clean.new.marks) s.marks.items) s.marks.len full ∙ marks) i; lits = c.clear.ensures.items i }
