use Rattle.std.proofs.Common.{◌≡◌, false, take, map}
use Rattle.asp_model.specs.Holding.{atom_of}
use Rattle.asp_settle.specs.Tables.{with_flags}
use Rattle.asp_settle.proofs.facts.lower_items.Given as goal

abbrev pub invariant-loop-literal : goal.invariant-loop-literal
invariant-loop-literal l = l.flags ≡ with_flags false l.initial.flags (map (λ item. atom_of item.0) (take l.literal-index l.items))
