use Rattle.std.proofs.Common.{ℕ, List, get_or, ap, ◌∙◌, w32, rules}
use Rattle.std.specs.Prelude.{ℤ, pos}
use Rattle.std.proofs.lemmas.Int.{to_z-of_z}
use Rattle.asp_vars.specs.Literals.{Literal}
use Rattle.asp_vars.specs.Numbering.{literal_in}
use Rattle.asp_vars.proofs.PushLaws.{more_behind, whole_behind}
use Rattle.asp_compile.proofs.tables.add_items.Goals as goal

pub loop-literal-preserved : goal.loop-literal-preserved
loop-literal-preserved c =
    let f : ℤ × ℤ → Literal = λ i. literal_in c.args.atoms.now i.0 in
    let items : List (ℤ × ℤ) = c.args.items.now in
    let i : ℕ = c.loop-literal.literal-index in
    let plain = to_z-of_z w32 (get_or items i (pos 0, pos 0)).0 (search rules) in
    more_behind f items i (pos 0, pos 0) c.lit.result c.args.row.now.items c.loop-literal.row.items c.push.new.self.items c.loop-literal-test.true
    c.loop-literal.invariant c.in_ok-push.ensures.items (c.lit.ensures ∙ ap (literal_in c.args.atoms.now) plain)

pub returns : goal.returns
returns c =
    let f : ℤ × ℤ → Literal = λ i. literal_in c.args.atoms.now i.0 in
    whole_behind f c.args.items.now c.loop-literal.literal-index c.args.row.now.items c.loop-literal.row.items c.loop-literal-test.false c.loop-literal.invariant
