use Rattle.std.proofs.Common.{◌≡◌, false, take, get_or, ltb, sym, ap, ◌∙◌, subst}
use Rattle.asp_vars.specs.Literals.{holds_in}
use Rattle.asp_trail.specs.Entries.{assignment}
use Rattle.asp_trail.specs.Trails.{Trailed}
use Rattle.asp_trail.proofs.HeldLaws.{held_is, held_not}
use Rattle.asp_trail.proofs.trail.Trail.held_before.Goals as goal

pub returns-then-holds : goal.returns-then-holds
returns-then-holds c =
    let within = rw (← c.self.view_is) at c.place_of.ensures.within in
    let i = c.self.inside in
    subst (λ (t : Trailed). ltb c.place_of.result c.args.place ≡ holds_in (assignment t.vars (take c.args.place t.entries)) c.args.lit) c.self.view_is
    (held_is i.vars i.entries.items i.values i.places.items i.levels.items i.seen c.args.place c.place_of.result c.args.lit c.self.invariant
    (sym (ap (λ a. holds_in a c.args.lit) c.self.invariant.values_are) ∙ (sym c.holds.ensures ∙ c.if-holds.true)) within
    (λ d. subst (λ (t : Trailed). (get_or t.entries c.place_of.result d).lit.var ≡ c.args.lit.var) (sym c.self.view_is) (c.place_of.ensures.var d ∙ c.var.ensures)))

pub returns-else-holds : goal.returns-else-holds
returns-else-holds c =
    let i = c.self.inside in
    subst (λ (t : Trailed). false ≡ holds_in (assignment t.vars (take c.args.place t.entries)) c.args.lit) c.self.view_is
    (held_not i.vars i.entries.items i.values i.places.items i.levels.items i.seen c.args.place c.args.lit c.self.invariant
    (sym (ap (λ a. holds_in a c.args.lit) c.self.invariant.values_are) ∙ (sym c.holds.ensures ∙ c.if-holds.false)))
