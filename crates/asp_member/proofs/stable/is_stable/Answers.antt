use Rattle.std.proofs.Common.{refl, sym, subst, ◌∙◌}
use Rattle.asp_model.specs.declared.program.Program.{Program}
use Rattle.asp_model.specs.Sets.{Atoms, IsAscending}
use Rattle.asp_member.proofs.StableLaws.{all_within, whole_decides, closed_unstable}
use Rattle.asp_member.proofs.stable.is_stable.Goals as goal

pub is_whole-requires : goal.is_whole-requires
is_whole-requires c = c.look_at_all.ensures.size ∙ c.in_ok-values.ensures.size

pub are_kept-requires : goal.are_kept-requires
are_kept-requires c = c.look_at_all.ensures.size ∙ c.in_ok-values.ensures.size

pub is_closed-requires : goal.is_closed-requires
is_closed-requires c = c.look_at_all.ensures.size ∙ c.in_ok-values.ensures.size

pub returns-then-is_whole : goal.returns-then-is_whole
returns-then-is_whole c =
    let p : Program = c.args.compiled.now in
    let S : Atoms = c.args.set.now in
    c.are_kept.ensures
    ∙ whole_decides p S c.look_at_all.new.values c.program-program.ensures.sound (subst IsAscending c.as_slice-atoms.ensures.value c.as_slice-atoms.ensures.ascending) (all_within p S c.requires)
    (c.look_at_all.ensures.founded S c.in_ok-values.ensures.founded) (c.if-is_whole.ensures.yes refl)

pub returns-then-is_closed : goal.returns-then-is_closed
returns-then-is_closed c =
    let p : Program = c.args.compiled.now in
    let S : Atoms = c.args.set.now in
    sym (closed_unstable p S c.look_at_all.new.values c.program-program.ensures.sound (c.look_at_all.ensures.founded S c.in_ok-values.ensures.founded)
    (sym c.if-is_closed.ensures) (c.if-is_whole.ensures.no refl))
