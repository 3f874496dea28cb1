-- How a reader's entries are stored: blocks and a tail, of which some at the front aren't meant.
use Rattle.std.specs.Prelude.{◌^◌, ◌<◌, ◌≤◌, List, length, drop}
use Rattle.asp_vars.specs.declared.nogood.Nogood.{Nogood}
use Rattle.asp_log.specs.declared.shown.View.TheInside.{Inside}
use Rattle.asp_log.specs.Blocks.{stored}

abbrev pub shown_by : Inside → List Nogood
shown_by v = drop v.skipped (stored v.blocks.items v.tail.items)

pub record IsShown (v : Inside) : Type 0 where
  pub skipped : v.skipped ≤ length (stored v.blocks.items v.tail.items)
  pub few : length (stored v.blocks.items v.tail.items) < 2 ^ 32
