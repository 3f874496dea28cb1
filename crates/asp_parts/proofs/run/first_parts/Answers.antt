use Rattle.std.proofs.Common.{◌≡◌, subst}
use Rattle.asp_model.specs.declared.program.Program.{Program}
use Rattle.asp_model.specs.Models.{answers}
use Rattle.asp_split.specs.Dividing.{AreLeaves, sets_of}
use Rattle.asp_parts.proofs.CourseLaws.{first-telling}
use Rattle.asp_parts.proofs.run.first_parts.Goals as goal

pub put_all-requires : goal.put_all-requires
put_all-requires c = subst (λ (q : Program). AreLeaves q c.in_ok-leaves.leaves.items) c.in_ok-divider.ensures c.in_ok-leaves.ensures.leaves

pub returns : goal.returns
returns c =
    first-telling c.args.compiled.now _ c.put_all.new.parts.items (sets_of c.args.compiled.now c.in_ok-leaves.leaves.items) c.new-parts.ensures.items c.in_ok-put_all.ensures
    (subst (λ (q : Program). sets_of q c.in_ok-leaves.leaves.items ≡ answers q) c.in_ok-divider.ensures c.in_ok-leaves.ensures.sets)
