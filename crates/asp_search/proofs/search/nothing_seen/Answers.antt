use Rattle.std.proofs.Common.{Option, None, Some, sym, ap, ◌∙◌, subst}
use Rattle.asp_model.specs.declared.results.Reasoning.{Reasoning}
use Rattle.asp_vars.specs.Knowing.{Knowing}
use Rattle.asp_search.specs.Invariants.{IsSeen}
use Rattle.asp_search.proofs.search.nothing_seen.Goals as goal

pub returns-in-None-clause-seen : goal.returns-in-None-clause-seen
returns-in-None-clause-seen c = subst (λ (k : Option Reasoning). IsSeen k c.args.compiled.now None) (sym c.in-None.is ∙ c.reasoning.ensures) tt

pub returns-in_ok-known-in-Some-clause-seen : goal.returns-in_ok-known-in-Some-clause-seen
returns-in_ok-known-in-Some-clause-seen c =
    let e = c.in_ok-known-in-Some.ensures in
    subst (λ (k : Option Reasoning). IsSeen k c.args.compiled.now (Some c.in_ok-known-in-Some.known)) (sym c.in-Some.is ∙ c.reasoning.ensures)
    (ap (λ (x : Knowing). x.program) e, ap (λ (x : Knowing). x.reasoning) e)
