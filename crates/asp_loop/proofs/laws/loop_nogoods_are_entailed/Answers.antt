use Rattle.asp_loop.proofs.EntailedLaws.{loop_entailed}
use Rattle.asp_loop.proofs.laws.loop_nogoods_are_entailed.Goals as goal

pub returns : goal.returns
returns c = loop_entailed
