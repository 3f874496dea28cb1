use Rattle.std.proofs.Common.{◌∙◌}
use Rattle.asp_checker.proofs.RunLaws.{not_written}
use Rattle.asp_checker.proofs.run.write_judgement.Goals as goal

pub write_text-requires : goal.write_text-requires
write_text-requires g c = c.as_slice.ensures.value ∙ c.in-Ok.ensures

pub returns-in-Err-clause-says : goal.returns-in-Err-clause-says
returns-in-Err-clause-says g c = not_written _ c.args.judgement
