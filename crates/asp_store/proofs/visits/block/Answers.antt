use Rattle.std.proofs.Common.{List, set, sym, ap, ◌∙◌, subst}
use Rattle.asp_vars.specs.Codes.{code_of}
use Rattle.asp_store.specs.Lists.{list_at}
use Rattle.asp_store.specs.Marks.{Watch}
use Rattle.asp_store.specs.declared.front.Step.TheVariants as step
use Rattle.asp_store.specs.Walking.{Steps}
use Rattle.asp_store.proofs.StepLaws.{visit_few, visit_within, step_block}
use Rattle.asp_store.proofs.visits.block.Goals as goal

pub set_watch-requires : goal.set_watch-requires
set_watch-requires c = visit_within c.args.slots.now c.args.watches.now c.args.trail.now c.args.front.now c.args.i c.args.id c.args.other c.requires.visit

pub new-requires : goal.new-requires
new-requires c = visit_few c.args.slots.now c.args.watches.now c.args.trail.now c.args.front.now c.args.i c.args.id c.args.other c.requires.visit

pub returns : goal.returns
returns c =
    subst (λ (ls : List (List Watch)). Steps c.args.slots.now c.args.watches.now (record c.args.watches.now { lists = ls }) c.args.trail.now c.args.front.now c.args.i step.Stays)
    (sym (c.set_watch.ensures ∙ ap (λ (x : Watch). set c.args.watches.now.lists (code_of c.args.front.now.lit)
    (set (list_at c.args.watches.now.lists (code_of c.args.front.now.lit)) c.args.i x)) c.new.ensures))
    (step_block c.args.slots.now c.args.watches.now c.args.trail.now c.args.front.now c.args.i c.args.id c.args.other c.requires.visit c.requires.is_false)
