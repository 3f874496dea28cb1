use Rattle.std.proofs.Common.{List, Option, sym, ap, ◌∙◌, subst}
use Rattle.std.specs.Prelude.{ℤ}
use Rattle.asp_propagate.specs.Useful.{IsSmaller}
use Rattle.asp_search_laws.specs.Searching.{Searching}
use Rattle.asp_stream.proofs.run.set_bound.Goals as goal

abbrev below : Searching → Option (List ℤ) → Searching
below s bound = record s { bound = bound }

pub set_bound-requires : goal.set_bound-requires
set_bound-requires g c = subst (IsSmaller c.in-Some.bound) (sym c.requires) tt

pub returns-in-None : goal.returns-in-None
returns-in-None g c = ap (below c.args.search.now) (c.requires ∙ sym c.in-None.is)
