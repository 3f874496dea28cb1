use Rattle.std.proofs.Common.{sym, subst}
use Rattle.std.proofs.lemmas.Result.{err_from_is_err_and}
use Rattle.asp_model.specs.Sound.{IsSound}
use Rattle.asp_model.specs.declared.program.Program.{Program}
use Rattle.asp_proof.specs.Reading.{Comes, held}
use Rattle.asp_checker.specs.Streams.{Judges}
use Rattle.asp_checker.proofs.StreamLaws.{no_memory}
use Rattle.asp_checker.proofs.run.judge_by.Goals as goal

pub judge-judged-requires-clause-sound : goal.judge-judged-requires-clause-sound
judge-judged-requires-clause-sound g c = subst IsSound (sym c.in_ok-compiled.ensures) c.requires.sound

pub returns-clause-says : goal.returns-clause-says
returns-clause-says g c = subst (λ (p : Program). Comes (g.S.Source.left c.args.source.now) (held c.args.reader.now)
    (λ text. Judges p text c.judge-judged.result)) c.in_ok-compiled.ensures c.judge-judged.ensures.says

pub returns-in_err-compiled-clause-says : goal.returns-in_err-compiled-clause-says
returns-in_err-compiled-clause-says g c =
    let p = err_from_is_err_and c.from_residual.result c.from_residual.ensures.1 in
    rw (p.1, p.2) (no_memory c.args.program (g.S.Source.left c.args.source.now) (held c.args.reader.now))
