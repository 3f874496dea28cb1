use Rattle.std.proofs.Common.{refl}
use Rattle.asp_parts.proofs.RunLaws.{run-begun}
use Rattle.asp_parts.proofs.run.begin.Goals as goal

pub returns-in-Ok : goal.returns-in-Ok
returns-in-Ok c = run-begun c.args.compiled.now _ c.in-Ok.ensures c.new.ensures.items refl c.in_ok-parts.ensures
