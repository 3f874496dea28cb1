-- A text in its canonical form.
use Rattle.std.specs.Prelude.{ℕ, List}
use Rattle.std.specs.declared.result.Result.{Result}
use Rattle.std.specs.declared.result.Result.TheVariants.{Ok}
use Rattle.asp_read.specs.declared.fault.ReadError.{ReadError}
use Rattle.asp_read.specs.Fields.{◌>>=◌}
use Rattle.asp_read.specs.Outcome.{outcome}
use Rattle.asp_make.specs.Texts.{text_of}

-- the canonical text of the program that a text says, or why it says none
abbrev pub rewritten : List ℕ → Result (List ℕ) ReadError
rewritten text = outcome text >>= λ p. Ok (text_of p)
