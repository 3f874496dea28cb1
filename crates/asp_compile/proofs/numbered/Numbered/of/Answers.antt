use Rattle.asp_compile.proofs.numbered.Numbered.of.Goals as goal

pub invariant_of-result : goal.invariant_of-result
invariant_of-result c = record {
  sound = c.requires;
  few = c.in-Ok.ensures.few;
  opened = c.in-Ok.ensures.opened;
  atoms = c.in-Ok.ensures.atoms;
  bodies = c.in-Ok.ensures.bodies;
  places = c.in-Ok.ensures.places;
}
