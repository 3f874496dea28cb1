use Rattle.std.proofs.Common.{sym, ap, ◌∙◌}
use Rattle.std.proofs.lemmas.Option.{same_Some, none-some}
use Rattle.asp_store.specs.Keeping.{nogood_at}
use Rattle.asp_store.specs.Pairs.{pair_at}
use Rattle.asp_store.proofs.GrowLaws.{extends_none}
use Rattle.asp_store.proofs.PendingLaws.{none_from, none_when}
use Rattle.asp_store.proofs.pending.look_at_place.Goals as goal

pub leave-requires-clause-none : goal.leave-requires-clause-none
leave-requires-clause-none c = λ j m at g q.
    none_when (pair_at c.args.watches.now.rows c.id-id.result) (sym c.is_watched.ensures ∙ c.if-is_watched.true)
    (ap (pair_at c.args.watches.now.rows) (same_Some c.id-id.result j (sym c.id-id.ensures ∙ at)) ∙ q)

pub leave-requires-in-None-clause-none : goal.leave-requires-in-None-clause-none
leave-requires-in-None-clause-none c = λ j m at g q.
    none-some m (sym c.in-None.ensures ∙ (ap (nogood_at c.args.slots.now) (same_Some c.id-id.result j (sym c.id-id.ensures ∙ at)) ∙ g))

pub look_at_nogood-requires-clause-waiting : goal.look_at_nogood-requires-clause-waiting
look_at_nogood-requires-clause-waiting c = record {
  looking = c.requires.looking;
  within = c.requires.within;
  at = c.id-id.ensures;
  pair = none_from (pair_at c.args.watches.now.rows c.id-id.result) (sym c.is_watched.ensures ∙ c.if-is_watched.false);
  kept = (c.in-Some.ensures.0, c.in-Some.ensures.1);
}

pub returns-then-is_watched-clause-extends : goal.returns-then-is_watched-clause-extends
returns-then-is_watched-clause-extends c = extends_none c.args.slots.now c.args.trail.now.entries

pub returns-in-None-clause-extends : goal.returns-in-None-clause-extends
returns-in-None-clause-extends c = extends_none c.args.slots.now c.args.trail.now.entries
