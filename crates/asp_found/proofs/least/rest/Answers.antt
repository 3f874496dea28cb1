use Rattle.std.proofs.Common.{◌≡◌, Bool, true, not, eqb, List, length, filter, sym, ap, ◌∙◌, arith}
use Rattle.std.proofs.lemmas.Result.{IfOk-weaker}
use Rattle.asp_model.specs.declared.program.Program.{Program}
use Rattle.asp_model.specs.Sets.{Atoms, has}
use Rattle.asp_found.specs.Marks.{shown}
use Rattle.asp_found.proofs.LeastLaws.{written_back}
use Rattle.asp_found.proofs.LeftLaws.{whole_rest, closed_rest}
use Rattle.asp_found.proofs.ValueLaws.{values_show}
use Rattle.asp_found.proofs.least.rest.Goals as goal

pub returns-then-is_whole : goal.returns-then-is_whole
returns-then-is_whole c =
    let p : Program = c.args.compiled.now in
    let S : Atoms = c.args.interp.now in
    let empty : eqb (length c.in_ok-others.others.items) 0 ≡ true = ap (λ (xs : Atoms). eqb (length xs) 0) (sym c.as_slice-2.ensures.value) ∙ sym c.is_empty-is_whole.ensures ∙ c.if-is_whole.true in
    whole_rest p S c.args.truths.now c.in_ok-marks.marks.items c.first_marks.new.found.items c.in_ok-others.others.items (values_show p S c.args.truths.now c.requires.truths) c.in_ok-marks.ensures
    (c.in_ok-others.ensures ∙ ap (λ (m : List Bool). filter (λ a. not (has (shown p m) a)) S) c.as_slice.ensures.value) empty

pub returns : goal.returns
returns c =
    let p : Program = c.args.compiled.now in
    let S : Atoms = c.args.interp.now in
    let marks : List Bool = c.close.new.marks in
    let h = c.in_ok-close.ensures.sound in
    let len : c.in_ok-marks.marks.len ≡ length c.in_ok-marks.marks.items = omega (arith, c.in_ok-marks.marks.ok.0) in
    let before = c.in_ok-marks.ensures in
    let written = written_back marks c.in_ok-marks.marks.items c.in_ok-marks.marks.len len (h.size ∙ sym before.size) in
    IfOk-weaker c.underived-2.result _ _
    (λ others is. closed_rest p S c.args.truths.now marks c.close.new.found.items others.items c.program-program.ensures.sound c.requires.kept
    (values_show p S c.args.truths.now c.requires.truths) h c.in_ok-close.ensures.closed
    (is ∙ ap (λ (m : List Bool). filter (λ a. not (has (shown p m) a)) S) (c.as_slice-3.ensures.value ∙ written))) c.underived-2.ensures
