use Rattle.std.proofs.Common.{false, replicate, length, ap, ◌∙◌}
use Rattle.asp_model.specs.Walks.{subsets_from}
use Rattle.asp_model.proofs.WalkLaws.{subsets_from-first}
use Rattle.asp_model.proofs.subsets.Subsets.new.Goals as goal

pub returns : goal.returns
returns c =
    ap (subsets_from c.args.atoms) (c.in_ok-marks.ensures.items_if_clones_equal (λ y same. same) ∙ ap (λ S. replicate (length S) false) c.as_slice.ensures.value)
    ∙ subsets_from-first c.args.atoms
