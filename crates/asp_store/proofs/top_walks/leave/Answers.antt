use Rattle.std.proofs.Common.{List, sym, subst}
use Rattle.asp_store.specs.Marks.{Watch}
use Rattle.asp_store.specs.declared.top_walks.Pass.TheVariants as pass
use Rattle.asp_store.specs.Walking.{Passes}
use Rattle.asp_store.proofs.BackLaws.{pass_leave}
use Rattle.asp_store.proofs.top_walks.leave.Goals as goal

pub returns : goal.returns
returns c =
    subst (λ (m : List Watch). Passes c.args.slots.now c.args.watches.now c.args.list.now.items m c.args.trail.now c.args.front.now c.args.i pass.Goes) (sym c.swap_remove.ensures.items)
    (pass_leave c.args.slots.now c.args.watches.now c.args.trail.now c.args.front.now c.args.list.now.items c.args.i c.args.id c.requires.at.0
    c.swap_remove.result c.len-len.ensures.ordered c.requires.at.1 c.requires.at.2 c.requires.gone
    c.requires.walking)
