use Rattle.std.proofs.Common.{refl}
use Rattle.asp_top.proofs.ProveLaws.{end-cut, end-written}
use Rattle.asp_top.proofs.prove.write_end.Goals as goal

pub returns-in-Ok-clause-wrote : goal.returns-in-Ok-clause-wrote
returns-in-Ok-clause-wrote g c = λ s start none begun. end-written s start _ _ _ c.end.result _ _ _ none (c.end.ensures.ended s start begun) c.in-Ok.is c.status_for.ensures

pub returns-in-Err-clause-wrote : goal.returns-in-Err-clause-wrote
returns-in-Err-clause-wrote g c = λ s start none begun. end-cut s start _ _ _ c.end.result _ c.is_closed.result _ _ none (c.end.ensures.ended s start begun) c.in-Err.is refl
