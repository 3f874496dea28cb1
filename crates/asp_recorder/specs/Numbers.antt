-- How a proof's text writes literals.
use Rattle.std.specs.Prelude.{ℤ, pos, neg_ℤ, if◌then◌else◌}
use Rattle.asp_vars.specs.Literals.{Literal}

-- the variable, with a sign where it is false
abbrev pub number_of : Literal → ℤ
number_of l = if l.truth then pos l.var else neg_ℤ (pos l.var)
