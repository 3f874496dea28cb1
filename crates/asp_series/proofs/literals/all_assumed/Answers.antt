use Rattle.std.proofs.Common.{◌∙◌, ◌++◌, List, ap, subst}
use Rattle.std.specs.Prelude.{ℤ}
use Rattle.asp_series.specs.Asking.{AreSame}
use Rattle.asp_series.proofs.literals.all_assumed.Goals as goal

pub returns : goal.returns
returns c = subst (λ (ls : List ℤ). AreSame ls c.put_in_order.new.literals.items)
    (c.in_ok-extend_from_slice.ensures.items ∙ ap (λ (ls : List ℤ). ls ++ c.args.query.now) c.in_ok-all.ensures.items) c.put_in_order.ensures
