use Rattle.std.proofs.Common.{◌≡◌, ℕ, List, [], ◌∷◌, ◌++◌, get_or, append_assoc, refl, ap, ◌∙◌, w32, w64, rules}
use Rattle.std.specs.Prelude.{ℤ, pos}
use Rattle.std.proofs.lemmas.Int.{to_z-of_z}
use Rattle.asp_vars.proofs.PushLaws.{lists_behind, all_lists_behind}
use Rattle.asp_compile.proofs.form.add_items.Goals as goal

abbrev words : ℤ × ℤ → List ℤ
words i = i.0 ∷ i.1 ∷ []

pub loop-literal-preserved : goal.loop-literal-preserved
loop-literal-preserved c =
    let items : List (ℤ × ℤ) = c.args.items.now in
    let i : ℕ = c.loop-literal.literal-index in
    let old : List ℤ = c.loop-literal.key.items in
    let l : ℤ = (get_or items i (pos 0, pos 0)).0 in
    let w : ℤ = (get_or items i (pos 0, pos 0)).1 in
    let plain = to_z-of_z w32 l (search rules) in
    let wide = to_z-of_z w64 c.from.result (search rules) in
    let weight = to_z-of_z w64 w (search rules) in
    let is : c.from.result ≡ l = cc (c.from.ensures, plain) in
    let one : c.push.new.self.items ≡ old ++ l ∷ [] = c.in_ok-push.ensures.items ∙ ap (λ (v : ℤ). old ++ v ∷ []) (wide ∙ is) in
    let two : c.push-in-loop-literal.new.self.items ≡ c.push.new.self.items ++ w ∷ [] = c.in_ok-push-2.ensures.items ∙ ap (λ (v : ℤ). c.push.new.self.items ++ v ∷ []) weight in
    lists_behind words items i (pos 0, pos 0) (l ∷ w ∷ []) c.args.key.now.items old c.push-in-loop-literal.new.self.items c.loop-literal-test.true c.loop-literal.invariant
    (two ∙ ap (λ (ys : List ℤ). ys ++ w ∷ []) one ∙ append_assoc old (l ∷ []) (w ∷ []))
    refl

pub returns : goal.returns
returns c = all_lists_behind words c.args.items.now c.loop-literal.literal-index c.args.key.now.items c.loop-literal.key.items c.loop-literal-test.false c.loop-literal.invariant
