use Rattle.std.proofs.Common.{◌≡◌, ◌++◌, ◌∷◌, [], ℤ, List, get_or, pos, sym, ap, ◌∙◌, rules}
use Rattle.std.proofs.lemmas.List.{map_more}
use Rattle.asp_equal.specs.Merged.{renamed}
use Rattle.asp_equal.specs.Tables.{sent}
use Rattle.asp_equal.proofs.rename.renamed_literals.Goals as goal

pub loop-literal-preserved : goal.loop-literal-preserved
loop-literal-preserved c =
    let f : ℤ → ℤ = renamed (sent c.args.table.now) in
    let literals : List ℤ = c.args.literals.now in
    let i = c.loop-literal.literal-index in
    let new : c.push.new.self.items ≡ c.loop-literal.others.items ++ f (get_or literals i (pos 0)) ∷ [] = search rules in
    new ∙ ap (λ (ls : List ℤ). ls ++ f (get_or literals i (pos 0)) ∷ []) c.loop-literal.invariant ∙ sym (map_more f literals i (pos 0) c.loop-literal-test.true)
