use Rattle.std.proofs.Common.{◌≡◌, length, sym, ap, ◌∙◌, arith}
use Rattle.std.proofs.lemmas.List.{length-map}
use Rattle.asp_compile.specs.Forms.{body_of}
use Rattle.asp_compile.proofs.numbered.numbers.Goals as goal

pub returns-clause-few : goal.returns-clause-few
returns-clause-few c =
    let forms : length c.forms.result.now ≡ length c.in_ok-bodies.bodies = sym (length-map c.forms.result.now body_of) ∙ ap length c.forms.ensures in
    let atoms : length c.as_slice.result.now ≡ length c.args.atoms.now = ap length c.as_slice.ensures.value in
    omega (arith, c.if-as_slice-forms-ge-LIMIT.false, forms, atoms)
