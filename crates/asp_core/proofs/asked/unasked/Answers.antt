use Rattle.std.proofs.Common.{◌≡◌, [], ◌∷◌, ◌++◌, map, flat_map, ap, ◌∙◌, subst, sym}
use Rattle.asp_model.specs.declared.program.Output.{Output}
use Rattle.asp_model.specs.declared.program.Program.{Program}
use Rattle.asp_model.specs.declared.results.Reasoning.{Reasoning}
use Rattle.asp_model.specs.Consequences.{common_sets, unshown}
use Rattle.asp_model.specs.Holding.{atom_of}
use Rattle.asp_model.specs.Sets.{Atoms, has, set_of, IsAscending}
use Rattle.asp_model.proofs.ConsequenceLaws.{unshown-ascends, unshown-common}
use Rattle.asp_vars.specs.Knowing.{Knowing}
use Rattle.asp_core.proofs.AskedLaws.{outputs-have, unshown-asked}
use Rattle.asp_core.proofs.asked.unasked.Goals as goal

pub from_ascending-requires : goal.from_ascending-requires
from_ascending-requires c =
    let k : Knowing = c.in_ok-known.known in
    subst IsAscending (sym (c.in_ok-atoms.ensures.items ∙ c.unshown.ensures)) (unshown-ascends k.reasoning k.program k.sets)

pub returns : goal.returns
returns c =
    let p : Program = c.args.compiled.now in
    let r : Reasoning = c.args.reasoning in
    let S : Atoms = c.from_atoms-asked.result in
    let asked : S ≡ set_of (flat_map (λ (o : Output). map atom_of o.condition) p.outputs) =
    c.from_atoms-asked.ensures.value
    ∙ ap set_of (c.in_ok-push_conditions.ensures ∙ ap (λ (xs : Atoms). xs ++ flat_map (λ (o : Output). map atom_of o.condition) c.program.result.now.outputs) c.new-asked.ensures.items)
    ∙ ap (λ (x : Program). set_of (flat_map (λ (o : Output). map atom_of o.condition) x.outputs)) c.program.ensures.program in
    c.from_ascending.ensures ∙ c.in_ok-atoms.ensures.items ∙ c.unshown.ensures
    ∙ ap (λ (k : Knowing). unshown k.reasoning k.program k.sets)
    (c.in_ok-known.ensures ∙ ap (λ (k : Knowing). let m : Knowing = record k { sets = common_sets k.reasoning k.program (k.sets ++ S ∷ []) } in m)
    c.in_ok-none.ensures)
    ∙ unshown-common r p (S ∷ [])
    ∙ unshown-asked r p S (λ a. ap (λ (X : Atoms). has X a) asked ∙ outputs-have p.outputs a)
