use Rattle.std.proofs.Common.{ℕ, List, Ok, Err, Result}
use Rattle.std.specs.Prelude.{IfOk}
use Rattle.std.proofs.lemmas.Result.{err_from_is_err_and}
use Rattle.asp_model.specs.declared.program.Program.{Program}
use Rattle.asp_model.specs.Sound.{IsSound}
use Rattle.asp_read.specs.declared.fault.ReadError.{ReadError}
use Rattle.asp_read.specs.Judging.{most_bytes}
use Rattle.asp_read.specs.Stream.{ReadsText}
use Rattle.asp_read.proofs.Supply.{stops_unread}
use Rattle.asp_smodels.specs.Outcome.{smodels, smodels_outcome}
use Rattle.asp_smodels.proofs.Soundness.{outcome-sound}
use Rattle.asp_smodels.proofs.reader.read_smodels.Goals as goal

sound_text : (result : Result Program ReadError) → (text : List ℕ) × ReadsText result (smodels_outcome text) → IfOk result IsSound
sound_text (Ok p) t = outcome-sound t.0 p t.1
sound_text (Err e) t = tt

pub returns-clause-sound : goal.returns-clause-sound
returns-clause-sound g c = sound_text c.read_by.result c.read_by.ensures.some_text

pub returns-in_err-reader-clause-stops : goal.returns-in_err-reader-clause-stops
returns-in_err-reader-clause-stops g c =
    let p = err_from_is_err_and c.from_residual.result c.from_residual.ensures.1 in
    rw (p.1, p.2) (stops_unread smodels most_bytes (g.S.Source.left c.args.source.now))
