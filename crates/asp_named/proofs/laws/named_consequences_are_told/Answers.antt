use Rattle.asp_named.specs.Named.{first_free}
use Rattle.asp_named.proofs.AnswerLaws.{split-named, told-named}
use Rattle.asp_named.proofs.laws.named_consequences_are_told.Goals as goal

pub returns : goal.returns
returns c = λ p w sound numbers some. told-named w (first_free p) p (split-named p sound numbers) some
