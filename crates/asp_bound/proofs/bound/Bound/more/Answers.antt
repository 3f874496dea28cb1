use Rattle.std.proofs.Common.{◌≡◌, ◌+◌, ◌^◌, Bool, List, Option, ℤ, sym, ◌∙◌, ap, subst}
use Rattle.std.specs.Prelude.{IfSome}
use Rattle.asp_model.specs.declared.program.Program.{Program}
use Rattle.asp_vars.specs.Numbering.{var_count}
use Rattle.asp_bound.specs.Bounded.{Bounded}
use Rattle.asp_bound.specs.Explained.{IsExplained}
use Rattle.asp_bound.specs.Priced.{IsPriced}
use Rattle.asp_bound.specs.Starts.{AreStarts}
use Rattle.asp_bound.proofs.ShownLaws.{kept_shown}
use Rattle.asp_bound.proofs.bound.Bound.more.Goals as goal

pub following-requires-clause-vars : goal.following-requires-clause-vars
following-requires-clause-vars c = c.requires.vars ∙ ap (λ (b : Bounded). var_count b.told.program) (sym c.self.view_is)

pub following-requires-clause-kept : goal.following-requires-clause-kept
following-requires-clause-kept c =
    let p : Program = c.self.inside.priced.origin.value in
    let a : List (Option Bool) = c.assignment-values.result.now in
    let e = c.assignment-values.ensures.values ∙ (sym c.requires.values ∙ ap (λ (b : Bounded). b.told.values) (sym c.self.view_is)) in
    let all =
    kept_shown p c.self.inside.values a c.self.inside.priced.rows c.self.inside.priced.columns c.self.inside.priced.vars.items
    c.self.inside.sums.items c.self.inside.starts.items c.self.inside.raisers e
    (c.self.invariant.0, c.self.invariant.1, c.self.invariant.2, c.self.invariant.3) in
    subst (IsPriced c.self.inside.priced a) (sym c.as_slice-sums.ensures.value) all.0

pub following-requires-clause-starts : goal.following-requires-clause-starts
following-requires-clause-starts c =
    let p : Program = c.self.inside.priced.origin.value in
    let a : List (Option Bool) = c.assignment-values.result.now in
    let e = c.assignment-values.ensures.values ∙ (sym c.requires.values ∙ ap (λ (b : Bounded). b.told.values) (sym c.self.view_is)) in
    let all =
    kept_shown p c.self.inside.values a c.self.inside.priced.rows c.self.inside.priced.columns c.self.inside.priced.vars.items
    c.self.inside.sums.items c.self.inside.starts.items c.self.inside.raisers e
    (c.self.invariant.0, c.self.invariant.1, c.self.invariant.2, c.self.invariant.3) in
    subst (AreStarts a c.self.inside.priced.columns) (sym c.as_mut_slice-starts.ensures.value) all.1

pub returns-clause-follows : goal.returns-clause-follows
returns-clause-follows c =
    subst (λ (b : Bounded). IfSome c.following.result (λ i. IsExplained b.told.program b.bound c.args.trail.now.entries i.lit × (i.name + 1 ≡ 2 ^ 31))) c.self.view_is
    (subst (λ (bound : Option (List ℤ)). IfSome c.following.result
    (λ i. IsExplained c.self.inside.priced.origin.value bound c.args.trail.now.entries i.lit × (i.name + 1 ≡ 2 ^ 31))) (sym c.in-Some.is)
    c.following.ensures.follows)
