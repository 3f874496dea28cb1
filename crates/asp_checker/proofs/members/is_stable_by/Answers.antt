use Rattle.std.proofs.Common.{refl, subst, ◌∙◌}
use Rattle.asp_model.specs.declared.program.Program.{Program}
use Rattle.asp_model.specs.Sets.{Atoms, IsAscending}
use Rattle.asp_member.proofs.StableLaws.{all_within, whole_decides}
use Rattle.asp_checker.proofs.members.is_stable_by.Goals as goal

pub returns-then-is_whole : goal.returns-then-is_whole
returns-then-is_whole c =
    let p : Program = c.args.compiled.now in
    let S : Atoms = c.args.set.now in
    c.are_kept.ensures
    ∙ whole_decides p S c.derive_by.new.values c.program-program.ensures.sound (subst IsAscending c.as_slice-atoms.ensures.value c.as_slice-atoms.ensures.ascending) (all_within p S c.requires)
    (c.in_ok-derive_by.ensures.founded S c.in_ok-values.ensures.founded) (c.if-is_whole.ensures.yes refl)
