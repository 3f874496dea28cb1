-- The events of a board: when each may happen, and what it changes. All that an event doesn't name stays.
use Rattle.std.specs.Prelude.{◌≡◌, ℕ, ◌+◌, ◌-◌, ◌<◌, ◌≤◌, ◌==◌, Bool, true, false, List, [], ◌∷◌, ◌++◌, Some, count_by, length, IsTrue}
use Rattle.std.specs.List.{list_any}
use Rattle.asp_model.specs.declared.program.Program.{Program}
use Rattle.asp_vars.specs.Literals.{Literal}
use Rattle.asp_vars.specs.Numbering.{IsVar, var_count}
use Rattle.asp_vars.specs.Entailment.{HitsOnly}
use Rattle.asp_vars.specs.Conflicts.{has_all}
use Rattle.asp_path.specs.declared.status.Status.TheVariants as status
use Rattle.asp_path.specs.Trees.{Node, is_held_by, cube_of, status_of, with_status, split}
use Rattle.asp_core.specs.declared.event.Event.{Event}
use Rattle.asp_core.specs.declared.event.Event.TheVariants as event
use Rattle.asp_core.specs.Units.{out_of, leased, returned}
use Rattle.asp_core.specs.declared.task.Task.{Task}
use Rattle.asp_core.specs.Boards.{Board, is_answer, start, lists, optimises, is_excused, is_enough}

-- how many leaves s holds
abbrev pub held_by : ℕ → List Node → ℕ
held_by s nodes = count_by (λ n. is_held_by s n.status) nodes

abbrev pub IsVariable : Program → ℕ → Type 0
IsVariable p v = IsVar (var_count p) v

-- whether a literal of the variable stands in the cube
abbrev pub has_var : List Literal → ℕ → Bool
has_var cube v = list_any (λ l. l.var == v) cube

abbrev pub Guard : Board → Event → Type 0
Guard b (event.Take s leaf) = (status_of b.nodes leaf ≡ status.Open) × (held_by s b.nodes ≡ 0)
Guard b (event.Split s leaf l) =
    (status_of b.nodes leaf ≡ status.Held s) × (length b.nodes < 4194304) × IsVariable b.task.program l.var × (has_var (cube_of b.nodes leaf) l.var ≡ false)
Guard b (event.Deliver s S) = IsTrue (lists b.task S) × IsTrue (is_answer b.task S) × (is_enough b ≡ false)
Guard b (event.Improve s S) = IsTrue (optimises b.task.goal) × IsTrue (is_answer b.task S) × (is_excused b S ≡ false)
Guard b (event.Close s leaf n) = (status_of b.nodes leaf ≡ status.Held s) × IsTrue (has_all (cube_of b.nodes leaf) n) × HitsOnly b.task.program (is_excused b) n
Guard b (event.Release s leaf) = status_of b.nodes leaf ≡ status.Held s
Guard b (event.Lease s n) = n ≤ b.pool
Guard b (event.Back s left burnt) = left + burnt ≡ out_of b.out s

abbrev pub happens : Board → Event → Board
happens b (event.Take s leaf) = record b { nodes = with_status b.nodes leaf (status.Held s) }
happens b (event.Split s leaf l) = record b { nodes = split b.nodes leaf l }
happens b (event.Deliver s S) = record b { answers = b.answers ++ S ∷ [] }
happens b (event.Improve s S) = record b { best = Some S }
happens b (event.Close s leaf n) = record b { nodes = with_status b.nodes leaf status.Closed; reasons = b.reasons ++ record { leaf = leaf; nogood = n } ∷ [] }
happens b (event.Release s leaf) = record b { nodes = with_status b.nodes leaf status.Open }
happens b (event.Lease s n) = record b { pool = b.pool - n; out = leased s n b.out }
happens b (event.Back s left burnt) = record b { pool = b.pool + left; out = returned s b.out; burnt = b.burnt + burnt }

-- the number of the event's maker
abbrev pub maker : Event → ℕ
maker (event.Take s leaf) = s
maker (event.Split s leaf l) = s
maker (event.Deliver s S) = s
maker (event.Improve s S) = s
maker (event.Close s leaf n) = s
maker (event.Release s leaf) = s
maker (event.Lease s n) = s
maker (event.Back s left burnt) = s

-- ---- lists of events
abbrev pub run : Board → List Event → Board
run b [] = b
run b (e ∷ journal) = run (happens b e) journal

-- Each guard holds in turn.
abbrev pub IsLawful : Board → List Event → Type 0
IsLawful b [] = Unit {0}
IsLawful b (e ∷ journal) = Guard b e × IsLawful (happens b e) journal

abbrev pub replay : Task → List Event → Board
replay t journal = run (start t) journal

-- Whether recording the event may want memory. A take keeps the place in which its leaf's reason will stand.
abbrev pub wants_memory : Event → Bool
wants_memory (event.Take s leaf) = true
wants_memory (event.Split s leaf l) = true
wants_memory (event.Deliver s S) = true
wants_memory (event.Improve s S) = true
wants_memory (event.Close s leaf n) = false
wants_memory (event.Release s leaf) = false
wants_memory (event.Lease s n) = true
wants_memory (event.Back s left burnt) = false
