-- The numbers of a program's atoms and bodies.
use Rattle.std.specs.Prelude.{◌≡◌, ◌<◌, ◌^◌, map}
use Rattle.asp_model.specs.Models.{rules_in_force, atoms_of}
use Rattle.asp_model.specs.Opening.{opened_rules}
use Rattle.asp_model.specs.Sound.{IsSound}
use Rattle.asp_compile.specs.declared.numbered.Numbered.TheInside.{Inside}
use Rattle.asp_vars.specs.Numbering.{normal, body_eq, bodies_of, place_of, number_count}

-- The numbers are the program's.
pub record IsNumbered (n : Inside) : Type 0 where
  pub sound : IsSound n.program
  pub few : number_count n.program < 2 ^ 31
  pub opened : n.opened.items ≡ opened_rules n.program
  pub atoms : n.atoms ≡ atoms_of n.program
  pub bodies : n.bodies ≡ bodies_of n.program
  pub places : n.places.items ≡ map (λ r. place_of (body_eq (normal r.body)) (bodies_of n.program)) (rules_in_force n.program)
