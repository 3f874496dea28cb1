use Rattle.asp_model.proofs.StoredLaws.{keeps-further}
use Rattle.asp_model.proofs.extras.store.Goals as goal

pub returns-in_err-place-in-AtLeast-clause-kept : goal.returns-in_err-place-in-AtLeast-clause-kept
returns-in_err-place-in-AtLeast-clause-kept c = keeps-further c.args.extras.now c.store_head.new.extras c.store_weighted.new.extras c.store_head.ensures.kept c.store_weighted.ensures.kept

pub returns-in_ok-place-in-AtLeast-clause-kept : goal.returns-in_ok-place-in-AtLeast-clause-kept
returns-in_ok-place-in-AtLeast-clause-kept c = keeps-further c.args.extras.now c.store_head.new.extras c.store_weighted.new.extras c.store_head.ensures.kept c.store_weighted.ensures.kept
