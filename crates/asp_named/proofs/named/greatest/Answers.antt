use Rattle.std.proofs.Common.{sym, ap, ◌∙◌}
use Rattle.asp_named.specs.Named.{greatest}
use Rattle.asp_named.proofs.NameLaws.{greatest-last}
use Rattle.asp_named.proofs.named.greatest.Goals as goal

pub returns : goal.returns
returns c = sym (greatest-last c.as_slice-atoms.result.now) ∙ ap greatest c.as_slice-atoms.ensures.value
