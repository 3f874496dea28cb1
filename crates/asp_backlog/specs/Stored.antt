-- How a backlog is stored.
use Rattle.asp_rows.specs.Listed.{AreRows, IsRowOf}
use Rattle.asp_backlog.specs.Backlogs.{Pending, sets_of}
use Rattle.asp_backlog.specs.declared.backlog.Backlog.TheInside.{Inside}

abbrev pub pending_of : Inside → Pending
pending_of b = record { atoms = b.atoms; floor = b.floor.set; sets = sets_of b.rows.keys }

pub record IsBacklog (b : Inside) : Type 0 where
  pub rows : AreRows b.atoms b.rows.keys
  pub floor : IsRowOf b.atoms b.floor
