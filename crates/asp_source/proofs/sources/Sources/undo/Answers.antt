use Rattle.std.proofs.Common.{◌∙◌, ℕ, List, None, length, set, ap}
use Rattle.asp_source.specs.Pointers.{regain}
use Rattle.asp_source.proofs.KeptLaws.{kept_back, kept_tight}
use Rattle.asp_source.proofs.sources.Sources.undo.Goals as goal

pub regain-requires-clause-components : goal.regain-requires-clause-components
regain-requires-clause-components c = c.self.invariant.components

pub regain-requires-clause-queue : goal.regain-requires-clause-queue
regain-requires-clause-queue c = c.self.invariant.pointers.room

pub regain-requires-clause-sources : goal.regain-requires-clause-sources
regain-requires-clause-sources c = ap length c.as_slice.ensures.value ∙ c.self.invariant.pointers.size

pub regain-requires-clause-var : goal.regain-requires-clause-var
regain-requires-clause-var c = let v = rw (← c.self.view_is) at c.requires.var in v

pub invariant_of-self : goal.invariant_of-self
invariant_of-self c =
    let v = rw (← c.self.view_is) at c.requires.var in
    kept_tight _ c.self.inside.components c.self.inside.values _ c.self.inside.sources.items c.self.inside.ranks.ranks c.self.inside.queue
    c.self.inside.tight c.self.inside.weighted c.self.inside.loose.items c.self.inside.waiting c.self.inside.joined c.self.inside.found
    c.args.lit.var None c.self.invariant c.if-self.true v
    (c.unset.ensures ∙ ap (λ (u : ℕ). set c.self.inside.values u None) c.var.ensures)

pub invariant_of-self-2 : goal.invariant_of-self-2
invariant_of-self-2 c =
    let v = rw (← c.self.view_is) at c.requires.var in
    let h = rw (← c.self.view_is) at c.requires.holds in
    kept_back _ c.self.inside.components c.self.inside.values _ c.self.inside.sources.items c.self.inside.ranks.ranks c.self.inside.queue _
    c.self.inside.tight c.self.inside.weighted c.self.inside.loose.items c.self.inside.waiting c.self.inside.joined c.self.inside.found c.args.lit
    c.program-program.ensures.sound c.self.invariant v h
    (c.unset.ensures ∙ ap (λ (u : ℕ). set c.self.inside.values u None) c.var.ensures)
    (c.regain.ensures ∙ ap (λ (s : List ℕ). regain c.self.inside.compiled.now c.self.inside.components s c.self.inside.queue c.args.lit) c.as_slice.ensures.value)
