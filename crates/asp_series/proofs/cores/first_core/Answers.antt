use Rattle.std.proofs.Common.{◌++◌, List, subst, sym}
use Rattle.std.specs.Prelude.{ℤ, Option, IfSome}
use Rattle.std.proofs.lemmas.Result.{IfOk-weaker}
use Rattle.asp_series.specs.Asking.{AreSame, IsEnough}
use Rattle.asp_series.proofs.ShrinkLaws.{enough-same, same-enough}
use Rattle.asp_series.proofs.cores.first_core.Goals as goal

pub returns-in-Some : goal.returns-in-Some
returns-in-Some g c =
    let p = c.args.asking.now.program.now in
    let all = p.assumptions ++ c.args.asking.now.literals.now in
    let kept : IsEnough p all c.in-Some.core.now = subst (λ (o : Option (List ℤ)). IfSome o (IsEnough p all)) (sym c.in-Some.ensures) c.requires.kept in
    IfOk-weaker c.in_order.result (λ ls. AreSame c.in-Some.core.now ls.items) (λ ls. IsEnough p all ls.items) (λ ls same. enough-same p all c.in-Some.core.now ls.items kept same) c.in_order.ensures

pub returns-in-None : goal.returns-in-None
returns-in-None g c =
    let p = c.args.asking.now.program.now in
    let query = c.args.asking.now.literals.now in
    let all = p.assumptions ++ query in
    IfOk-weaker c.all_assumed.result (λ ls. AreSame (c.as_slice.result.now ++ query) ls.items) (λ ls. IsEnough p all ls.items)
    (λ ls same. same-enough p all ls.items (subst (λ (xs : List ℤ). AreSame (xs ++ query) ls.items) c.as_slice.ensures.value same) c.requires.none) c.all_assumed.ensures
