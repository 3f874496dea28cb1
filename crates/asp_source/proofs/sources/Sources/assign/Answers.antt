use Rattle.std.proofs.Common.{◌∙◌, ℕ, List, Some, length, drop, ap, subst, arith}
use Rattle.std.proofs.lemmas.List.{take_at}
use Rattle.asp_source.specs.Pointers.{Loses}
use Rattle.asp_source.proofs.KeptLaws.{kept_by, kept_tight, kept_as}
use Rattle.asp_source.proofs.sources.Sources.assign.Goals as goal

pub set-requires : goal.set-requires
set-requires c = let v = rw (← c.self.view_is) at c.requires.var in omega (arith, v.1, c.self.invariant.sized)

pub invariant_of-self : goal.invariant_of-self
invariant_of-self c =
    let v = rw (← c.self.view_is) at c.requires.var in
    kept_tight _ c.self.inside.components c.self.inside.values _ c.self.inside.sources.items c.self.inside.ranks.ranks c.self.inside.queue
    c.self.inside.tight c.self.inside.weighted c.self.inside.loose.items c.self.inside.waiting c.self.inside.joined c.self.inside.found
    c.args.lit.var (Some c.args.lit.truth) c.self.invariant c.if-self.true v c.set.ensures

pub lose_by-requires-clause-queue : goal.lose_by-requires-clause-queue
lose_by-requires-clause-queue c = c.self.invariant.pointers.room

pub lose_by-requires-clause-sources : goal.lose_by-requires-clause-sources
lose_by-requires-clause-sources c = ap length c.as_mut_slice.ensures.value ∙ c.self.invariant.pointers.size

pub lose_by-requires-clause-var : goal.lose_by-requires-clause-var
lose_by-requires-clause-var c = let v = rw (← c.self.view_is) at c.requires.var in v

pub lose_by-requires-clause-weighted : goal.lose_by-requires-clause-weighted
lose_by-requires-clause-weighted c = c.self.invariant.plain

pub invariant_of-self-2 : goal.invariant_of-self-2
invariant_of-self-2 c =
    let v = rw (← c.self.view_is) at c.requires.var in
    let n = rw (← c.self.view_is) at c.requires.none in
    let new = c.lose_by.new.sources in
    let loses = subst (λ (xs : List ℕ). Loses xs c.self.inside.queue new c.lose_by.new.queue) c.as_mut_slice.ensures.value c.lose_by.ensures.loses in
    kept_as _ c.self.inside.components _ new _ c.self.inside.ranks.ranks c.lose_by.new.queue c.self.inside.tight c.self.inside.weighted
    c.self.inside.loose.items c.self.inside.waiting c.self.inside.joined c.self.inside.found
    (take_at new (drop (length new) c.self.inside.sources.items) c.self.inside.sources.len (c.lose_by.auto.sources ∙ c.as_mut_slice.ensures.len))
    (kept_by _ c.self.inside.components c.self.inside.values _ c.self.inside.sources.items c.self.inside.ranks.ranks c.self.inside.queue new
    c.lose_by.new.queue c.self.inside.tight c.self.inside.weighted c.self.inside.loose.items c.self.inside.waiting c.self.inside.joined
    c.self.inside.found c.args.lit c.program-program.ensures.sound c.self.invariant c.if-self.false v n c.set.ensures loses
    c.lose_by.ensures.body c.lose_by.ensures.atom)
