use Rattle.std.proofs.Common.{ℕ, ap, ◌∙◌}
use Rattle.asp_vars.specs.Codes.{code_of}
use Rattle.asp_vars.specs.Literals.{Literal}
use Rattle.asp_unsat.specs.Blaming.{has_code}
use Rattle.asp_unsat.proofs.blamed.is_coded.Goals as goal

pub returns : goal.returns
returns c = c.contains.ensures ∙ ap (λ (n : ℕ). has_code c.args.codes.now.keys n) (c.code.ensures.code ∙ ap (λ (l : Literal). code_of l) c.lit_of.ensures)
