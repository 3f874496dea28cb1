use Rattle.asp_store.proofs.StoreLaws.{lose_more, thins_more}
use Rattle.asp_store.proofs.store.Store.reduce.Goals as goal

pub loop-i-preserved : goal.loop-i-preserved
loop-i-preserved c = record {
  loses = lose_more c.args.self.now c.loop-i.self c.drop_chosen.new.self c.loop-i.invariant.loses c.drop_chosen.ensures.loses;
  thins = thins_more c.args.self.now.slots c.loop-i.self.slots c.drop_chosen.new.self.slots c.loop-i.invariant.thins c.drop_chosen.ensures.thins;
}
