use Rattle.std.proofs.Common.{length, ap, ◌∙◌, sym, subst}
use Rattle.std.specs.Prelude.{IfOk, IfNone, IfSome}
use Rattle.asp_model.specs.Sets.{Atoms}
use Rattle.asp_trail.specs.Told.{Told}
use Rattle.asp_source.specs.Loops.{IsUnfoundedLoop, IsFound}
use Rattle.asp_source.proofs.KeptLaws.{tight_none}
use Rattle.asp_source.proofs.ShownLaws.{kept_after, told_shown}
use Rattle.asp_source.proofs.sources.Sources.unfounded.Goals as goal

pub returns-then-self-clause-none : goal.returns-then-self-clause-none
returns-then-self-clause-none c =
    subst (λ (t : Told). (U : Atoms) → IsUnfoundedLoop t.program t.values U → ⊥) c.self.view_is
    (tight_none c.self.inside.compiled.now c.self.inside.components c.self.inside.values c.self.inside.sources.items c.self.inside.ranks.ranks
    c.self.inside.queue c.self.inside.tight c.self.inside.weighted c.self.inside.loose.items c.self.inside.waiting c.self.inside.joined
    c.self.inside.found c.self.invariant c.if-self.true)

pub invariant_of-self : goal.invariant_of-self
invariant_of-self c =
    let t = c.first_unfounded.new.sources in
    let m = c.first_unfounded.new.loose in
    kept_after c.self.inside.compiled.now c.self.inside.components c.self.inside.values c.args.values.now c.self.inside.sources.items
    c.self.inside.ranks.ranks c.self.inside.queue c.self.inside.tight c.self.inside.weighted c.self.inside.loose.items c.self.inside.waiting
    c.self.inside.joined c.self.inside.found c.self.inside.sources.len c.self.inside.loose.len t c.first_unfounded.new.ranks.ranks
    c.first_unfounded.new.queue m c.first_unfounded.new.waiting c.first_unfounded.new.joined
    (sym c.requires ∙ ap (λ (t : Told). t.values) (sym c.self.view_is)) c.self.invariant c.if-self.false
    (c.first_unfounded.auto.sources ∙ c.refresh.auto.sources ∙ c.as_mut_slice-sources.ensures.len)
    (c.first_unfounded.auto.loose ∙ c.as_mut_slice-loose.ensures.len)
    (c.first_unfounded.auto.loose ∙ ap length c.as_mut_slice-loose.ensures.value)
    c.first_unfounded.ensures.pointers c.first_unfounded.ensures.blank c.first_unfounded.ensures.room c.first_unfounded.ensures.seats

pub returns-clause-none : goal.returns-clause-none
returns-clause-none c =
    subst (λ (t : Told). IfOk c.first_unfounded.result (λ o. IfNone o ((U : Atoms) → IsUnfoundedLoop t.program t.values U → ⊥)))
    (told_shown c.self.inside.compiled.now c.self.inside.values c.args.values.now _ (sym c.requires ∙ ap (λ (t : Told). t.values) (sym c.self.view_is)) c.self.view_is) c.first_unfounded.ensures.none

pub returns-clause-some : goal.returns-clause-some
returns-clause-some c =
    subst (λ (t : Told). IfOk c.first_unfounded.result (λ o. IfSome o (λ f. IsFound t.program t.values f.atoms.items f.atom)))
    (told_shown c.self.inside.compiled.now c.self.inside.values c.args.values.now _ (sym c.requires ∙ ap (λ (t : Told). t.values) (sym c.self.view_is)) c.self.view_is) c.first_unfounded.ensures.some
