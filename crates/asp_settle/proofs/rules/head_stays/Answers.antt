use Rattle.std.proofs.Common.{◌≡◌, [], ◌∷◌, sym, ◌∙◌, subst}
use Rattle.asp_model.specs.declared.view.HeadView.{HeadView}
use Rattle.asp_model.specs.Views.{head_seen}
use Rattle.asp_settle.specs.Settled.{settled_head}
use Rattle.asp_settle.proofs.StayLaws.{choice-stays}
use Rattle.asp_settle.proofs.rules.head_stays.Goals as goal

pub returns-in-Choice : goal.returns-in-Choice
returns-in-Choice c =
    let F = c.args.facts.now in
    λ e. subst (λ (v : HeadView). settled_head F (head_seen v) ≡ head_seen v ∷ []) (sym c.in-Choice.is) (choice-stays F c.in-Choice.atoms.now (sym c.atoms_stay.ensures ∙ e))
