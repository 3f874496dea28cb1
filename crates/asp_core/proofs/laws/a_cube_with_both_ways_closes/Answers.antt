use Rattle.std.proofs.Common.{◌≡◌, Bool, true, false, ◌&&◌}
use Rattle.std.specs.Prelude.{slice_index_or}
use Rattle.std.specs.Bool.{beq}
use Rattle.std.proofs.lemmas.Bool.{false≢true}
use Rattle.asp_vars.specs.Numbering.{values}
use Rattle.asp_core.proofs.laws.a_cube_with_both_ways_closes.Goals as goal

neither : (x : Bool) → (beq x true && (beq x false && true)) ≡ true → ⊥
neither true h = false≢true h
neither false h = false≢true h

pub returns : goal.returns
returns c b s leaf v held within = (held, within, record { excused = λ S stable hit. absurd (neither (slice_index_or (values b.task.program S) v false) hit) })
