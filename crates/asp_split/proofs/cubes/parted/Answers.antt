use Rattle.std.proofs.Common.{◌≡◌, ◌<◌, ◌≤◌, length, List, sym, ◌∙◌, subst}
use Rattle.std.specs.Prelude.{ℤ}
use Rattle.std.specs.List.{AllByRecursion}
use Rattle.std.proofs.lemmas.Result.{IfOk-weaker}
use Rattle.asp_model.specs.Models.{answers}
use Rattle.asp_split.specs.Parts.{AreStanding, answers_of_parts}
use Rattle.asp_split.proofs.CubeLaws.{cubes_of-answers, cubes_of-few, cubes_of-some, cubes_of-stand}
use Rattle.asp_split.proofs.cubes.parted.Goals as goal

pub returns-clause-answers : goal.returns-clause-answers
returns-clause-answers g c =
    let p = c.args.compiled.now in
    let d = c.in_ok-leaves.ensures.parted in
    let is = cubes_of-answers p c.in_ok-leaves.leaves.items d.leaves (d.sets ∙ c.in_ok-first.ensures.first.sets) in
    IfOk-weaker c.cubes_of.result _ _ (λ cubes e. subst (λ (qs : List (List ℤ)). answers_of_parts p qs ≡ answers p) (sym e) is) c.cubes_of.ensures

pub returns-clause-stand : goal.returns-clause-stand
returns-clause-stand g c =
    let p = c.args.compiled.now in
    let d = c.in_ok-leaves.ensures.parted in
    IfOk-weaker c.cubes_of.result _ _
    (λ cubes e. subst (λ (qs : List (List ℤ)). AllByRecursion (AreStanding p) qs) (sym e) (cubes_of-stand p c.in_ok-leaves.leaves.items d.leaves)) c.cubes_of.ensures

pub returns-clause-some : goal.returns-clause-some
returns-clause-some g c =
    IfOk-weaker c.cubes_of.result _ _ (λ cubes e. subst (λ (qs : List (List ℤ)). 0 < length qs) (sym e) (cubes_of-some c.in_ok-leaves.leaves.items)) c.cubes_of.ensures

pub returns-clause-few : goal.returns-clause-few
returns-clause-few g c =
    let d = c.in_ok-leaves.ensures.parted in
    IfOk-weaker c.cubes_of.result _ _
    (λ cubes e. subst (λ (qs : List (List ℤ)). length qs ≤ c.args.parts) (sym e) (cubes_of-few c.in_ok-leaves.leaves.items c.args.parts c.requires.some d.few)) c.cubes_of.ensures
