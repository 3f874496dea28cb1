-- What a mode asks for.
use Rattle.std.specs.Prelude.{ℕ, Option, None, Some}
use Rattle.asp_model.specs.declared.results.Mode.{Mode}
use Rattle.asp_model.specs.declared.results.Mode.TheVariants.{Enum, Opt, Consequences}
use Rattle.asp_model.specs.declared.results.Reasoning.{Reasoning}

-- which consequences are asked for, if any are
abbrev pub reasoning_of : Mode → Option Reasoning
reasoning_of Enum = None
reasoning_of Opt = None
reasoning_of (Consequences r) = Some r

-- how many answers are enough; there is no limit where what they have in common is sought
abbrev pub limit_of : Mode → ℕ → ℕ
limit_of Enum n = n
limit_of Opt n = n
limit_of (Consequences r) n = 0
