use Rattle.std.proofs.Common.{◌≡◌, [], ◌∷◌, pos, ◌≤ℤ◌, sym, ◌∙◌, subst, arith}
use Rattle.std.proofs.lemmas.Int.{ints}
use Rattle.asp_model.specs.declared.view.BodyView.{BodyView}
use Rattle.asp_model.specs.Views.{body_seen}
use Rattle.asp_settle.specs.Settled.{settled_body}
use Rattle.asp_settle.proofs.StayLaws.{all-stays, weighted-stays}
use Rattle.asp_settle.proofs.bodies.body_stays.Goals as goal

pub returns-in-All : goal.returns-in-All
returns-in-All c =
    let F = c.args.facts.now in
    λ e. subst (λ (v : BodyView). settled_body F (body_seen v) ≡ body_seen v ∷ []) (sym c.in-All.is) (all-stays F c.in-All.literals.now (sym c.literals_stay.ensures ∙ e))

pub returns-then-bound-ge0 : goal.returns-then-bound-ge0
returns-then-bound-ge0 c =
    let F = c.args.facts.now in
    let low : pos 0 ≤ℤ c.in-AtLeast.bound = omega (arith, ints) in
    λ e. subst (λ (v : BodyView). settled_body F (body_seen v) ≡ body_seen v ∷ []) (sym c.in-AtLeast.is) (weighted-stays F c.in-AtLeast.bound c.in-AtLeast.items.now low (sym c.items_stay.ensures ∙ e))
