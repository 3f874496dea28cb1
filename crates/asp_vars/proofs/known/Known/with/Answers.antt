use Rattle.std.proofs.Common.{◌≡◌, not, List, [], ◌∷◌, ◌++◌, filter, sym, ap, ◌∙◌, subst}
use Rattle.asp_model.specs.declared.program.Program.{Program}
use Rattle.asp_model.specs.Consequences.{common_sets, shows, told_set, unshown}
use Rattle.asp_model.specs.Sets.{Atoms}
use Rattle.asp_model.proofs.ConsequenceLaws.{told-common, unshown-more, unshown-told}
use Rattle.asp_vars.specs.Knowing.{Knowing}
use Rattle.asp_vars.specs.Stored.{sets_by}
use Rattle.asp_vars.proofs.known.Known.with.Goals as goal

pub invariant_of-result : goal.invariant_of-result
invariant_of-result c =
    let i = c.self.inside in
    let r = i.reasoning in
    let p = i.program.value in
    let S : Atoms = c.args.set.now in
    let K : List Atoms = sets_by i.some r p i.unshown.items in
    let L : Atoms = c.in_ok-unshown.unshown.items in
    let left : L ≡ unshown r p (K ++ S ∷ []) = c.in_ok-unshown.ensures ∙ ap (filter (λ a. not (shows r S a))) (c.as_slice.ensures.value ∙ c.self.invariant) ∙ unshown-more r p K S in
    subst (λ (x : Program). L ≡ unshown r x (told_set r x L ∷ [])) (sym c.again.ensures) (unshown-told r p K S L left)

pub returns : goal.returns
returns c =
    let i = c.self.inside in
    let r = i.reasoning in
    let p = i.program.value in
    let S : Atoms = c.args.set.now in
    let K : List Atoms = sets_by i.some r p i.unshown.items in
    let L : Atoms = c.in_ok-unshown.unshown.items in
    let left : L ≡ unshown r p (K ++ S ∷ []) = c.in_ok-unshown.ensures ∙ ap (filter (λ a. not (shows r S a))) (c.as_slice.ensures.value ∙ c.self.invariant) ∙ unshown-more r p K S in
    ap (λ (x : Program). let k : Knowing = record { program = x; reasoning = r; sets = told_set r x L ∷ [] } in k) c.again.ensures
    ∙ ap (λ (ss : List Atoms). let k : Knowing = record { program = p; reasoning = r; sets = ss } in k) (told-common r p K S L left)
    ∙ ap (λ (k : Knowing). let m : Knowing = record k { sets = common_sets k.reasoning k.program (k.sets ++ S ∷ []) } in m) c.self.view_is
