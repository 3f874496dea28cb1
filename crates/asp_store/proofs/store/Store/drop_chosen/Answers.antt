use Rattle.std.proofs.Common.{refl}
use Rattle.asp_store.proofs.StoreLaws.{lose_none, thins_none}
use Rattle.asp_store.proofs.store.Store.drop_chosen.Goals as goal

pub returns-in_default-clause-loses : goal.returns-in_default-clause-loses
returns-in_default-clause-loses c = lose_none c.args.self.now c.args.self.now refl

pub returns-in_default-clause-thins : goal.returns-in_default-clause-thins
returns-in_default-clause-thins c = thins_none c.args.self.now.slots c.args.self.now.slots refl
