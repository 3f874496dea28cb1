-- Searches of two numbers over two free atoms, within three units.
use Rattle.std.specs.Prelude.{ℕ, List, [], ◌∷◌}
use Rattle.asp_model.specs.declared.program.Body.TheVariants as body
use Rattle.asp_model.specs.declared.program.Head.TheVariants as head
use Rattle.asp_model.specs.declared.program.Program.{Program}
use Rattle.asp_model.specs.Rows.{rules_alone}
use Rattle.asp_vars.specs.Literals.{T, F}
use Rattle.asp_core.specs.declared.event.Event.{Event}
use Rattle.asp_core.specs.declared.event.Event.TheVariants as event
use Rattle.asp_core.specs.declared.goal.Goal.{Goal}
use Rattle.asp_core.specs.declared.goal.Goal.TheVariants as goal
use Rattle.asp_core.specs.declared.task.Task.{Task}

-- { a; b }.
abbrev pub two_atoms : Program
two_atoms = rules_alone (record { head = head.Choice (1 ∷ 2 ∷ []); body = body.All [] } ∷ [])

-- a goal over them, within three units, with a limit
abbrev pub over_two_atoms : Goal → ℕ → Task
over_two_atoms g limit = record { program = two_atoms; goal = g; budget = 3; limit = limit; query = [] }

abbrev pub two_atoms_listed : Task
two_atoms_listed = over_two_atoms goal.Enum 0

abbrev pub two_paths : List Event
two_paths =
    event.Take 1 0 ∷ event.Split 1 0 (F 1) ∷ event.Take 2 2 ∷ event.Deliver 2 (1 ∷ []) ∷ event.Deliver 2 (1 ∷ 2 ∷ []) ∷ event.Close 2 2 (T 1 ∷ [])
    ∷ event.Deliver 1 [] ∷ event.Deliver 1 (2 ∷ []) ∷ event.Deliver 1 (2 ∷ []) ∷ event.Close 1 1 (F 1 ∷ []) ∷ []

-- two leases and their returns, with what the last return gives back
abbrev pub two_leases : ℕ → ℕ → List Event
two_leases left burnt =
    event.Take 1 0 ∷ event.Lease 1 2 ∷ event.Lease 2 1 ∷ event.Back 2 1 0 ∷ event.Lease 1 1 ∷ event.Back 1 left burnt ∷ []
