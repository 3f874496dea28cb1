use Rattle.std.proofs.Common.{inl, refl}
use Rattle.asp_scribe.specs.Proofs.{sought_of}
use Rattle.asp_top.proofs.ProveLaws.{proof-ends}
use Rattle.asp_top.proofs.prove.deliver.Goals as goal

pub returns-in-Ok-clause-ends : goal.returns-in-Ok-clause-ends
returns-in-Ok-clause-ends g c = λ ask start none begun.
    proof-ends ask c.args.aside.now c.args.report c.in-Ok.report _ _ _ _ _ c.in-Ok.ensures refl (c.write_end-status.ensures.wrote (sought_of ask) start none begun)

pub returns-in-Err-clause-ends : goal.returns-in-Err-clause-ends
returns-in-Err-clause-ends g c = λ ask start none begun. inl (c.cut_short.ensures.stopped (sought_of ask) start none begun)
