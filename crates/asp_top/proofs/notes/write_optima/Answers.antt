use Rattle.std.proofs.Common.{sym, ◌∙◌}
use Rattle.asp_top.proofs.notes.write_optima.Goals as goal

pub returns-then-is_idle_request : goal.returns-then-is_idle_request
returns-then-is_idle_request g c = rw (sym c.is_idle_request.ensures ∙ c.if-is_idle_request.true) c.write.ensures
