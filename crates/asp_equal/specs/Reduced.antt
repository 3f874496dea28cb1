-- What is searched of a program: its facts are set aside, and then atoms that copy another one give way.
use Rattle.std.specs.Prelude.{[]}
use Rattle.asp_model.specs.declared.program.Program.{Program}
use Rattle.asp_model.specs.Sets.{Atoms}
use Rattle.asp_settle.specs.Settled.{facts_of, left_of, united, without}
use Rattle.asp_equal.specs.declared.reduce.Aside.{Aside}
use Rattle.asp_equal.specs.Merged.{copies_of, extended, merged_of, staying}

-- the program without its facts and copies
abbrev pub reduced : Program → Program
reduced p = merged_of (left_of p)

-- what is set aside of it
abbrev pub aside_of : Program → Aside
aside_of p = record { facts = facts_of p; copies = copies_of (left_of p) }

-- nothing
abbrev pub none_aside : Aside
none_aside = record { facts = []; copies = [] }

-- a set of what is left with the atoms that went, and the facts
abbrev pub restored : Aside → Atoms → Atoms
restored A S = united A.facts (extended A.copies S)

abbrev pub whole : Program → Atoms → Atoms
whole p S = restored (aside_of p) S

-- a set without the facts and the atoms that go
abbrev pub reduced_set : Program → Atoms → Atoms
reduced_set p S = staying (left_of p) (without (facts_of p) S)
