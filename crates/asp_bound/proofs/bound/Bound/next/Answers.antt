use Rattle.std.proofs.Common.{◌≡◌, Bool, List, Option, ℤ, sym, ◌∙◌, ap, subst}
use Rattle.std.specs.Prelude.{IfOk, IfSome}
use Rattle.std.specs.Option.{is_none}
use Rattle.asp_model.specs.declared.program.Program.{Program}
use Rattle.asp_vars.specs.Numbering.{var_count}
use Rattle.asp_bound.specs.Bounded.{Bounded}
use Rattle.asp_bound.specs.Explained.{IsSaid}
use Rattle.asp_bound.specs.Priced.{IsPriced}
use Rattle.asp_bound.specs.Raisers.{AreRaisers}
use Rattle.asp_bound.specs.Silence.{is_silent}
use Rattle.asp_bound.specs.Starts.{AreStarts}
use Rattle.asp_bound.proofs.ShownLaws.{kept_shown, told_shown}
use Rattle.asp_bound.proofs.bound.Bound.next.Goals as goal

pub given-requires-clause-kept : goal.given-requires-clause-kept
given-requires-clause-kept c =
    let p : Program = c.self.inside.priced.origin.value in
    let a : List (Option Bool) = c.assignment-values.result.now in
    let e = c.assignment-values.ensures.values ∙ (sym c.requires.values ∙ ap (λ (b : Bounded). b.told.values) (sym c.self.view_is)) in
    let all =
    kept_shown p c.self.inside.values a c.self.inside.priced.rows c.self.inside.priced.columns c.self.inside.priced.vars.items
    c.self.inside.sums.items c.self.inside.starts.items c.self.inside.raisers e
    (c.self.invariant.0, c.self.invariant.1, c.self.invariant.2, c.self.invariant.3) in
    subst (IsPriced c.self.inside.priced a) (sym c.as_slice-sums.ensures.value) all.0

pub given-requires-clause-starts : goal.given-requires-clause-starts
given-requires-clause-starts c =
    let a : List (Option Bool) = c.assignment-values.result.now in
    let e = c.assignment-values.ensures.values ∙ (sym c.requires.values ∙ ap (λ (b : Bounded). b.told.values) (sym c.self.view_is)) in
    let all =
    kept_shown c.self.inside.priced.origin.value c.self.inside.values a c.self.inside.priced.rows c.self.inside.priced.columns
    c.self.inside.priced.vars.items c.self.inside.sums.items c.self.inside.starts.items c.self.inside.raisers e
    (c.self.invariant.0, c.self.invariant.1, c.self.invariant.2, c.self.invariant.3) in
    subst (AreStarts a c.self.inside.priced.columns) (sym c.as_mut_slice-starts.ensures.value) all.1

pub given-requires-clause-raisers : goal.given-requires-clause-raisers
given-requires-clause-raisers c =
    let a : List (Option Bool) = c.assignment-values.result.now in
    let e = c.assignment-values.ensures.values ∙ (sym c.requires.values ∙ ap (λ (b : Bounded). b.told.values) (sym c.self.view_is)) in
    let all =
    kept_shown c.self.inside.priced.origin.value c.self.inside.values a c.self.inside.priced.rows c.self.inside.priced.columns
    c.self.inside.priced.vars.items c.self.inside.sums.items c.self.inside.starts.items c.self.inside.raisers e
    (c.self.invariant.0, c.self.invariant.1, c.self.invariant.2, c.self.invariant.3) in
    subst (AreRaisers a c.self.inside.priced.rows) (sym c.as_slice-raisers.ensures) all.2

pub returns-clause-silent : goal.returns-clause-silent
returns-clause-silent c =
    let a : List (Option Bool) = c.assignment-values.result.now in
    let e = c.assignment-values.ensures.values ∙ (sym c.requires.values ∙ ap (λ (b : Bounded). b.told.values) (sym c.self.view_is)) in
    let is = told_shown c.self.inside.priced.origin.value c.self.inside.values a c.self.inside.bound _ e c.self.view_is in
    subst (λ (b : Bounded). IfOk c.given.result (λ n. is_none n ≡ is_silent b.told.program b.bound b.told.values)) is
    (subst (λ (bound : Option (List ℤ)). IfOk c.given.result (λ n. is_none n ≡ is_silent c.self.inside.priced.origin.value bound a)) (sym c.in-Some.is) c.given.ensures.silent)

pub given-requires-clause-vars : goal.given-requires-clause-vars
given-requires-clause-vars c = c.requires.vars ∙ ap (λ (b : Bounded). var_count b.told.program) (sym c.self.view_is)

pub returns-clause-said : goal.returns-clause-said
returns-clause-said c =
    let p : Program = c.self.inside.priced.origin.value in
    let a : List (Option Bool) = c.assignment-values.result.now in
    let e = c.assignment-values.ensures.values ∙ (sym c.requires.values ∙ ap (λ (b : Bounded). b.told.values) (sym c.self.view_is)) in
    let is = told_shown p c.self.inside.values a c.self.inside.bound _ e c.self.view_is in
    subst (λ (b : Bounded). IfOk c.given.result (λ n. IfSome n (IsSaid b c.args.trail.now.entries))) is
    (subst (λ (bound : Option (List ℤ)). IfOk c.given.result (λ n. IfSome n
    (IsSaid (record { told = record { program = p; values = a }; bound = bound }) c.args.trail.now.entries))) (sym c.in-Some.is)
    c.given.ensures.said)
