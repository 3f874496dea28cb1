use Rattle.asp_cli.specs.Texts.{page_back}
use Rattle.asp_cli.proofs.texts.page_back.Goals as goal

pub returns : goal.returns
unfolding page_back
returns c = c.as_bytes.ensures.value
