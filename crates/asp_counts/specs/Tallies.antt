-- How many workers the tallies are of.
use Rattle.std.specs.Prelude.{ℕ, length}
use Rattle.asp_counts.specs.declared.tallies.Tallies.{Tallies}

abbrev pub count_of : Tallies → ℕ
count_of t = length t.told.items
