use Rattle.std.proofs.Common.{sym, ap, ◌∙◌, subst}
use Rattle.asp_model.specs.Sound.{IsSound}
use Rattle.asp_settle.specs.Settled.{left_by, left_in}
use Rattle.asp_settle.proofs.SettledLaws.{sound-first}
use Rattle.asp_settle.proofs.settle.settle.Goals as goal

pub fact_table-requires : goal.fact_table-requires
fact_table-requires c = subst IsSound (sym c.in_ok-program.ensures) (sound-first c.args.program c.requires)

pub leave-requires : goal.leave-requires
leave-requires c = subst IsSound (sym c.in_ok-program.ensures) (sound-first c.args.program c.requires)

pub returns-clause-left : goal.returns-clause-left
returns-clause-left c = c.in_ok-left.ensures ∙ ap (λ F. left_by F c.in_ok-program.program) c.in_ok-facts.ensures ∙ ap left_in c.in_ok-program.ensures
