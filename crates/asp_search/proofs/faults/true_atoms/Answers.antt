use Rattle.std.proofs.Common.{Bool, List, Option, ap, sym, subst, ◌∙◌}
use Rattle.asp_model.specs.Sets.{IsAscending}
use Rattle.asp_found.specs.Valuations.{true_atoms}
use Rattle.asp_trail_laws.specs.Whole.{truths}
use Rattle.asp_search.proofs.TrueLaws.{held_ascends}
use Rattle.asp_search.proofs.faults.true_atoms.Goals as goal

pub from_ascending-requires : goal.from_ascending-requires
from_ascending-requires c = subst IsAscending (sym c.in_ok-atoms.ensures) (held_ascends c.args.compiled.now c.assignment.result.now)

pub returns : goal.returns
returns c =
    c.from_ascending.ensures ∙ c.in_ok-atoms.ensures ∙ ap (λ (a : List (Option Bool)). true_atoms c.args.compiled.now (truths a)) c.assignment.ensures.values
