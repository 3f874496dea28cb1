-- How a log is stored.
use Rattle.std.specs.Prelude.{◌<◌, ◌^◌, length}
use Rattle.asp_log.specs.declared.log.Log.TheInside as log
use Rattle.asp_log.specs.Blocks.{stored}
use Rattle.asp_log.specs.Entries.{IsLogFor, Contents}

abbrev pub contents_of : log.Inside → Contents
contents_of l = record { scope = record { program = l.program.value; limit = l.limit }; entries = stored l.blocks.items l.tail.items }

pub record IsStored (l : log.Inside) : Type 0 where
  pub keeps : IsLogFor (record { program = l.program.value; limit = l.limit }) (stored l.blocks.items l.tail.items)
  pub tail : length l.tail.items < 64
  pub fits : l.limit < 2 ^ 32
