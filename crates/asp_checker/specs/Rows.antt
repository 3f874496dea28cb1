-- What is known before a line.
use Rattle.asp_model.specs.declared.program.Program.{Program}
use Rattle.asp_checker.specs.declared.rows.Before.{Before}
use Rattle.asp_checker.specs.Propagation.{Known}
use Rattle.asp_checker.specs.Lines.{Stock, stock}
use Rattle.asp_checker.specs.Blocks.{known_with}

-- for good
abbrev pub known_before : Program → Before → Known
known_before p b = known_with p b.listed.now b.kept.now b.bound.now

-- with what is in places
abbrev pub stock_before : Program → Before → Stock
stock_before p b = stock (known_before p b) b.placed.now
