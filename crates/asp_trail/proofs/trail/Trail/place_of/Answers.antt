use Rattle.std.proofs.Common.{◌≡◌, ℕ, ◌<◌, length, get_or, sym, ◌∙◌, subst, arith}
use Rattle.asp_trail.proofs.EntryLaws.{same_default}
use Rattle.asp_trail.proofs.HeldLaws.{place_found}
use Rattle.asp_trail.specs.Trails.{Trailed}
use Rattle.asp_trail.proofs.trail.Trail.place_of.Goals as goal

pub returns-clause-within : goal.returns-clause-within
returns-clause-within c =
    let has = rw (← c.self.view_is) at c.requires.has in
    let small = rw (← c.self.view_is) at c.requires.small in
    let f = place_found c.self.inside.vars c.self.inside.entries.items c.self.inside.values c.self.inside.places.items c.self.inside.levels.items c.self.inside.seen c.args.var c.self.invariant has in
    let at : c.index.result.now ≡ get_or c.self.inside.places.items c.args.var 0 =
    c.index.ensures ∙ same_default c.self.inside.places.items c.args.var c.index.result.now 0 (omega (arith, small, c.self.invariant.placed)) in
    subst (λ (t : Trailed). c.index.result.now < length t.entries) c.self.view_is (subst (λ (k : ℕ). k < length c.self.inside.entries.items) (sym at) f.0)

pub returns-clause-var : goal.returns-clause-var
returns-clause-var c d =
    let has = rw (← c.self.view_is) at c.requires.has in
    let small = rw (← c.self.view_is) at c.requires.small in
    let f = place_found c.self.inside.vars c.self.inside.entries.items c.self.inside.values c.self.inside.places.items c.self.inside.levels.items c.self.inside.seen c.args.var c.self.invariant has in
    let at : c.index.result.now ≡ get_or c.self.inside.places.items c.args.var 0 =
    c.index.ensures ∙ same_default c.self.inside.places.items c.args.var c.index.result.now 0 (omega (arith, small, c.self.invariant.placed)) in
    subst (λ (t : Trailed). (get_or t.entries c.index.result.now d).lit.var ≡ c.args.var) c.self.view_is
    (subst (λ (k : ℕ). (get_or c.self.inside.entries.items k d).lit.var ≡ c.args.var) (sym at) (f.1 d))
