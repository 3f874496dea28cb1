use Rattle.asp_checkrun.specs.Texts.{help_page}
use Rattle.asp_checkrun.proofs.texts.page.Goals as goal

pub returns : goal.returns
unfolding help_page
returns c = c.as_bytes.ensures.value
