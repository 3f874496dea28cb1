-- Graphs with their edges turned round.
use Rattle.std.specs.Prelude.{◌≡◌, ◌≤◌, ◌^◌, length}
use Rattle.asp_scc.specs.Graphs.{Graph, IsGraph, IsReverse}
use Rattle.asp_scc.specs.declared.two_way.TwoWay.TheInside.{Inside}

-- The second list of rows is the reverse of the first.
pub record AreTurned (g b : Graph) : Type 0 where
  pub graph : IsGraph g
  pub reverse : IsGraph b
  pub turned : IsReverse g b
  pub size : length b ≡ length g
  pub few : length g ≤ 2 ^ 31

abbrev pub IsTwoWay : Inside → Type 0
IsTwoWay g = AreTurned g.forward g.backward
