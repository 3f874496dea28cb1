use Rattle.std.proofs.Common.{◌≡◌, [], ◌∷◌, ◌++◌, ℕ, List, get_or, ap, ◌∙◌, w32, w64, rules}
use Rattle.std.specs.Prelude.{ℤ, pos}
use Rattle.std.proofs.lemmas.Int.{to_z-of_z}
use Rattle.asp_vars.proofs.PushLaws.{item_behind, items_behind}
use Rattle.asp_compile.proofs.form.add_literals.Goals as goal

pub loop-literal-preserved : goal.loop-literal-preserved
loop-literal-preserved c =
    let ls : List ℤ = c.args.literals.now in
    let i : ℕ = c.loop-literal.literal-index in
    let old : List ℤ = c.loop-literal.key.items in
    let plain = to_z-of_z w32 (get_or ls i (pos 0)) (search rules) in
    let wide = to_z-of_z w64 c.from.result (search rules) in
    let is : c.from.result ≡ get_or ls i (pos 0) = cc (c.from.ensures, plain) in
    item_behind ls i (pos 0) c.from.result c.args.key.now.items old c.push.new.self.items c.loop-literal-test.true c.loop-literal.invariant
    (c.in_ok-push.ensures.items ∙ ap (λ (v : ℤ). old ++ v ∷ []) wide) is

pub returns : goal.returns
returns c = items_behind c.args.literals.now c.loop-literal.literal-index c.args.key.now.items c.loop-literal.key.items c.loop-literal-test.false c.loop-literal.invariant
