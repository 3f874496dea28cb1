use Rattle.std.proofs.Common.{ℕ, List, [], take, get_or, fold, ap, sym, ◌∙◌, FitsSigned, w32, rules}
use Rattle.std.specs.Prelude.{ℤ, pos}
use Rattle.std.specs.Ordering.{int_cmp}
use Rattle.std.specs.BTreeSet.{insert_key}
use Rattle.std.proofs.lemmas.Int.{to_z-of_z}
use Rattle.asp_vars.specs.Numbering.{with_literal}
use Rattle.asp_compile.proofs.FormLaws.{insert_key-int, fold_more}
use Rattle.asp_compile.proofs.form.literal_set.Goals as goal

pub loop-literal-preserved : goal.loop-literal-preserved
loop-literal-preserved c =
    let ls : List ℤ = c.args.literals.now in
    let i : ℕ = c.loop-literal.literal-index in
    let fits : FitsSigned w32 (get_or ls i (pos 0)) = search rules in
    let keys = simp to_z-of_z at c.in_ok-insert.ensures.keys in
    keys
    ∙ ap (λ (ks : List ℤ). insert_key int_cmp ks (get_or ls i (pos 0))) c.loop-literal.invariant
    ∙ insert_key-int (fold (λ ks l. with_literal l ks) [] (take i ls)) (get_or ls i (pos 0))
    ∙ sym (fold_more (λ ks l. with_literal l ks) [] ls i (pos 0) c.loop-literal-test.true)
