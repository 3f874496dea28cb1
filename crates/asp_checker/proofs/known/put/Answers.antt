use Rattle.std.proofs.Common.{◌∙◌, arith}
use Rattle.asp_checker.proofs.StockLaws.{put_within, put_behind}
use Rattle.asp_checker.proofs.known.put.Goals as goal

pub returns-then-at-len : goal.returns-then-at-len
returns-then-at-len c = put_within c.args.placed.now.items c.args.at c.args.lits (omega arith)

pub returns : goal.returns
returns c = c.in_ok-push.ensures.items ∙ put_behind c.args.placed.now.items c.args.at c.args.lits (omega arith)
