use Rattle.asp_cli.specs.Texts.{usage_lines}
use Rattle.asp_cli.proofs.texts.usage.Goals as goal

pub returns : goal.returns
unfolding usage_lines
returns c = c.as_bytes.ensures.value
