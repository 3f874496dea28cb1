use Rattle.std.proofs.Common.{subst, sym, ap, ◌∙◌}
use Rattle.asp_model.specs.Sound.{IsSound}
use Rattle.asp_settle.proofs.SettledLaws.{sound-left}
use Rattle.asp_equal.specs.Merged.{merged_of}
use Rattle.asp_equal.proofs.reduce.reduce.Goals as goal

pub merge-requires : goal.merge-requires
merge-requires c = subst IsSound (sym c.in_ok-facts.ensures.left) (sound-left c.args.program c.requires)

pub returns-clause-left : goal.returns-clause-left
returns-clause-left c = c.in_ok-copies.ensures.left ∙ ap merged_of c.in_ok-facts.ensures.left
