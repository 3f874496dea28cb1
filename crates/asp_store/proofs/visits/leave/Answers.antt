use Rattle.std.proofs.Common.{List, sym, subst}
use Rattle.std.proofs.lemmas.Option.{slice_get_within}
use Rattle.asp_vars.specs.Codes.{code_of}
use Rattle.asp_store.specs.Marks.{Watch}
use Rattle.asp_store.specs.declared.front.Step.TheVariants as step
use Rattle.asp_store.specs.Lists.{list_at}
use Rattle.asp_store.specs.Walking.{Steps}
use Rattle.asp_store.proofs.StepLaws.{step_leave}
use Rattle.asp_store.proofs.visits.leave.Goals as goal

pub take-requires : goal.take-requires
take-requires c = slice_get_within (list_at c.args.watches.now.lists (code_of c.args.front.now.lit)) c.args.i c.requires.at.0 c.requires.at.1

pub returns : goal.returns
returns c =
    subst (λ (ls : List (List Watch)). Steps c.args.slots.now c.args.watches.now (record c.args.watches.now { lists = ls }) c.args.trail.now c.args.front.now c.args.i step.Goes)
    (sym c.take.ensures.1)
    (step_leave c.args.slots.now c.args.watches.now c.args.trail.now c.args.front.now c.args.i c.args.id c.requires.at.0 c.take.ensures.0 c.requires.at.1 c.requires.at.2 c.requires.gone
    c.requires.walking)
