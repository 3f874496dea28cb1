use Rattle.std.proofs.Common.{List, ◌++◌, ℤ, Option, ap, ◌∙◌}
use Rattle.std.proofs.lemmas.Result.{IfOk-weaker}
use Rattle.std.specs.Option.{option_to_list}
use Rattle.asp_vars.specs.Literals.{Literal}
use Rattle.asp_vars.specs.declared.nogood.Base.TheVariants as base
use Rattle.asp_vars.specs.declared.nogood.Nogood.{Nogood}
use Rattle.asp_bound.specs.Needed.{needed}
use Rattle.asp_bound.proofs.given.nogood_by.Goals as goal

abbrev nogood_of : List ℤ → Option Literal → List Literal → Nogood
nogood_of cost more lits = record { lits = lits ++ option_to_list more; base = base.Below cost }

pub needed-requires : goal.needed-requires
needed-requires c =
    let fall = c.requires in
    record { vars = fall.vars; within = fall.within; small = fall.small; low = fall.low; high = fall.high }

pub returns : goal.returns
returns c =
    let is = c.in_ok-lits.ensures ∙ ap (λ (l : List ℤ). needed c.args.rows.now l c.args.depth c.args.sums.now c.args.found.now) c.as_slice-limits.ensures in
    IfOk-weaker c.below.result _ _ (λ n made. made ∙ ap (nogood_of c.args.cost.now c.args.more) is) c.below.ensures
