use Rattle.std.proofs.Common.{◌∙◌, ap, subst, sym}
use Rattle.asp_model.specs.Sound.{IsSound}
use Rattle.asp_equal.specs.Reduced.{reduced}
use Rattle.asp_equal.proofs.ReducedLaws.{sound-reduced}
use Rattle.asp_unfold.specs.Unfolded.{unfolded}
use Rattle.asp_unfold.proofs.SoundLaws.{sound-unfolded}
use Rattle.asp_prepare.proofs.prepared.without_aside.Goals as goal

pub unfold-requires : goal.unfold-requires
unfold-requires c = subst IsSound (sym c.in_ok-reduced.ensures.left) (sound-reduced c.args.program c.requires)

pub compile-requires : goal.compile-requires
compile-requires c = subst IsSound (sym (c.in_ok-unfolded.ensures ∙ ap unfolded c.in_ok-reduced.ensures.left)) (sound-unfolded (reduced c.args.program) (sound-reduced c.args.program c.requires))
