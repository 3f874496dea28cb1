use Rattle.std.proofs.Common.{set, sym, subst, arith}
use Rattle.std.proofs.lemmas.Option.{slice_get_within}
use Rattle.asp_store.specs.Marks.{Watch}
use Rattle.asp_store.specs.declared.top_walks.Pass.TheVariants as pass
use Rattle.asp_store.specs.Walking.{Passes}
use Rattle.asp_store.proofs.BackLaws.{back_at, pass_block}
use Rattle.asp_store.proofs.top_walks.block.Goals as goal

pub index_mut-requires : goal.index_mut-requires
index_mut-requires c =
    let g = back_at c.args.slots.now c.args.watches.now c.args.trail.now c.args.front.now c.args.list.now.items c.args.i c.args.id c.args.other c.len-len.ensures.ordered c.requires.visit in
    omega (arith, slice_get_within c.args.list.now.items c.args.i c.requires.visit.watch g, c.args.list.now.ok.0)

pub returns : goal.returns
returns c =
    subst (λ (x : Watch). Passes c.args.slots.now c.args.watches.now c.args.list.now.items (set c.args.list.now.items c.args.i x) c.args.trail.now
    c.args.front.now c.args.i pass.Stays) (sym c.new.ensures)
    (pass_block c.args.slots.now c.args.watches.now c.args.trail.now c.args.front.now c.args.list.now.items c.args.i c.args.id c.args.other
    c.len-len.ensures.ordered c.requires.visit c.requires.is_false)
