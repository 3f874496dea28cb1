use Rattle.std.proofs.Common.{◌≡◌, false, take, map}
use Rattle.asp_settle.specs.Tables.{with_flags}
use Rattle.asp_settle.proofs.denied.lower_externals.Given as goal

abbrev pub invariant-loop-external : goal.invariant-loop-external
invariant-loop-external l = l.flags ≡ with_flags false l.initial.flags (map (λ e. e.atom) (take l.external-index l.externals))
