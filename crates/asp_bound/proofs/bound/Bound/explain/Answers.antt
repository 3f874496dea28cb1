use Rattle.std.proofs.Common.{Bool, true, List, Option, None, ℤ, take, get_or, sym, ap, ◌∙◌, subst, arith}
use Rattle.std.specs.Result.{IfOk}
use Rattle.std.proofs.lemmas.Option.{none-some}
use Rattle.std.proofs.lemmas.Result.{IfOk-weaker}
use Rattle.asp_vars.specs.Numbering.{var_count}
use Rattle.asp_trail.specs.declared.trail.Entry.{Entry}
use Rattle.asp_trail.specs.Reasons.{IsReason}
use Rattle.asp_bound.specs.Bounded.{Bounded}
use Rattle.asp_bound.specs.Explained.{IsExplained, IsTooDear, AreTold}
use Rattle.asp_bound.specs.Raisers.{AreRaisers}
use Rattle.asp_bound.proofs.bound.Bound.explain.Goals as goal

pub unreachable-requires : goal.unreachable-requires
unreachable-requires c =
    let d : Entry = record { lit = record { var = 0; truth = true }; level = 0; reason = None } in
    let x = c.requires.explained d in
    none-some x.cost (sym c.in_default.is ∙ (ap (λ (b : Bounded). b.bound) c.self.view_is ∙ x.stands))

pub explained-requires-clause-vars : goal.explained-requires-clause-vars
explained-requires-clause-vars c = c.requires.vars ∙ ap (λ (b : Bounded). var_count b.told.program) (sym c.self.view_is)

pub explained-requires-clause-raisers : goal.explained-requires-clause-raisers
explained-requires-clause-raisers c =
    let same = ap (λ (b : Bounded). b.told.values) (sym c.self.view_is) in
    let vars = c.requires.vars ∙ ap (λ (b : Bounded). var_count b.told.program) (sym c.self.view_is) in (
      c.self.inside.values,
      subst (AreRaisers c.self.inside.values c.self.inside.priced.rows) (sym c.as_slice-raisers.ensures) c.self.invariant.2,
      omega (arith, c.self.invariant.0.sized, vars),
      subst (λ (a : List (Option Bool)). AreTold a c.args.place c.args.trail.now.entries) same c.requires.told,
    )

pub explained-requires-clause-explained : goal.explained-requires-clause-explained
explained-requires-clause-explained c d =
    let es = c.args.trail.now.entries in
    subst (λ (bound : Option (List ℤ)). IsExplained c.self.inside.priced.origin.value bound (take c.args.place es) (get_or es c.args.place d).lit) c.in-Some.is
    (subst (λ (b : Bounded). IsExplained b.told.program b.bound (take c.args.place es) (get_or es c.args.place d).lit) (sym c.self.view_is) (c.requires.explained d))

-- what is said of the nogood, by the program and bound that are seen
said : (c : goal.After-explained) →
    IfOk c.explained.result (λ n. IsTooDear c.args.self.now.told.program c.args.self.now.bound n ×
    ((d : Entry) → IsReason c.args.trail.now.entries c.args.place (get_or c.args.trail.now.entries c.args.place d).lit n.lits))
said c =
    subst (λ (b : Bounded). IfOk c.explained.result
    (λ n. IsTooDear b.told.program b.bound n ×
    ((d : Entry) → IsReason c.args.trail.now.entries c.args.place (get_or c.args.trail.now.entries c.args.place d).lit n.lits)))
    c.self.view_is
    (subst (λ (bound : Option (List ℤ)). IfOk c.explained.result
    (λ n. IsTooDear c.self.inside.priced.origin.value bound n ×
    ((d : Entry) → IsReason c.args.trail.now.entries c.args.place (get_or c.args.trail.now.entries c.args.place d).lit n.lits)))
    (sym c.in-Some.is) c.explained.ensures)

pub returns-clause-dear : goal.returns-clause-dear
returns-clause-dear c = IfOk-weaker c.explained.result _ _ (λ n both. both.0) (said c)

pub returns-clause-reason : goal.returns-clause-reason
returns-clause-reason c = IfOk-weaker c.explained.result _ _ (λ n both. both.1) (said c)
