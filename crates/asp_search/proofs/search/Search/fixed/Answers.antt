use Rattle.std.proofs.Common.{◌≡◌, false, sym, ap, ◌∙◌, subst}
use Rattle.asp_model.specs.Asked.{reasoning_of}
use Rattle.asp_model.specs.Consequences.{used_up}
use Rattle.asp_vars.specs.Literals.{Literal}
use Rattle.asp_search_laws.specs.Searching.{Searching}
use Rattle.asp_search.specs.Invariants.{answers_known}
use Rattle.asp_search.specs.Sure.{IsFixed}
use Rattle.asp_search.proofs.MeetLaws.{settled_reasons}
use Rattle.asp_search.proofs.SureLaws.{fixed_in}
use Rattle.asp_search.proofs.search.Search.fixed.Goals as goal

pub returns : goal.returns
returns g c =
    let i = c.self.inside in
    let t = i.state in
    let K = answers_known i.known.items i.seen in
    let clear : t.clashing ≡ false = sym c.is_clashing.ensures.same ∙ c.if-is_clashing.false in
    let reasons = settled_reasons i.compiled.now t i.mode K (g.P.Propagator.gives t.program t.bound) (g.P.Propagator.late t.program t.bound) c.self.invariant.0.program
    c.program-program.ensures.sound (g.met.P.Propagator.sound t.program t.bound) (g.met.P.Propagator.given t.program t.bound) c.self.invariant.0.useful c.store-store.ensures.implied in
    subst (λ (s : Searching). IsFixed s c.args.var c.truth.result) c.self.view_is
    (λ q S cube stable hit fresh.
    fixed_in t.program (used_up (reasoning_of i.mode) t.program K) t.bound q t.decisions t.entries c.trail-trail.result.now.entries c.args.var c.place_of-place.result c.truth.result
    c.trail-trail.ensures.entries c.trail-trail.ensures.ordered reasons (c.trail-trail.ensures.begun q (record { cube_is = cube; fixpoint = clear })).starts
    c.place_of-place.ensures.within (λ d. sym (c.level_at.ensures d) ∙ c.if-level_at-ne0.false) c.place_of-place.ensures.var
    (λ d. sym (ap (λ (l : Literal). l.truth) (c.lit-lit.ensures.lit d)) ∙ sym c.truth.ensures) S stable hit fresh)
