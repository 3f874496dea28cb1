use Rattle.std.proofs.Common.{map, sym, ap, ◌∙◌, subst}
use Rattle.asp_model.specs.declared.program.Program.{Program}
use Rattle.asp_vars.specs.Numbering.{bodies_of, var_count, literal_of_form}
use Rattle.asp_vars.specs.Completion.{is_barred}
use Rattle.asp_vars.specs.Tabled.{bound_of, form_literals, form_weights, heads_of, AreSupports, AreShared, AreOccurrences}
use Rattle.asp_compile.proofs.HeldLaws.{few_vars}
use Rattle.asp_compile.proofs.compile.together.Goals as goal

pub of-requires : goal.of-requires
of-requires c =
    let same = sym c.numbered.view_is in
    record {
      sound = c.numbered.invariant.sound;
      few = few_vars c.numbered.inside.program c.numbered.invariant.few;
      numbers = c.numbered.invariant.few;
      opened = c.numbered.invariant.opened;
      atoms = c.numbered.invariant.atoms;
      rule_bodies = c.numbered.invariant.places;
      counted = c.requires.vars ∙ ap var_count same;
      held = c.requires.held ∙ ap (λ (q : Program). map (literal_of_form q) (bodies_of q)) same;
      barred = c.requires.barred ∙ ap (λ (q : Program). map (is_barred q) (bodies_of q)) same;
      bounds = c.requires.bounds ∙ ap (λ (q : Program). map bound_of (bodies_of q)) same;
      literals = c.requires.literals ∙ ap (λ (q : Program). map (form_literals q) (bodies_of q)) same;
      weights = c.requires.weights ∙ ap (λ (q : Program). map form_weights (bodies_of q)) same;
      heads = c.requires.heads ∙ ap (λ (q : Program). map (heads_of q) (bodies_of q)) same;
      supports = subst (λ (q : Program). AreSupports q c.args.places.supports) same c.requires.supports;
      shared = subst (λ (q : Program). AreShared q c.args.places.shared) same c.requires.shared;
      occurrences = subst (λ (q : Program). AreOccurrences q c.args.places.occurrences) same c.requires.occurrences;
    }
