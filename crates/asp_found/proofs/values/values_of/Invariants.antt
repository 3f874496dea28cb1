use Rattle.std.proofs.Common.{◌≡◌, ◌∷◌, ◌++◌, false, map, filter, take}
use Rattle.asp_model.specs.Sets.{has}
use Rattle.asp_model.specs.Holding.{body_holds}
use Rattle.asp_model.specs.Models.{atoms_of}
use Rattle.asp_vars.specs.Numbering.{bodies_of, is_apart}
use Rattle.asp_found.proofs.values.values_of.Given as goal

abbrev pub invariant-loop-body : goal.invariant-loop-body
invariant-loop-body l =
    l.values.items ≡ (false ∷ map (has l.interp) (atoms_of l.compiled)) ++ map (body_holds l.interp) (filter (is_apart l.compiled) (take l.body (bodies_of l.compiled)))
