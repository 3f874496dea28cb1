use Rattle.std.proofs.Common.{◌≡◌, ◌∙◌, IfSome, map, sym, ap, subst}
use Rattle.asp_model.specs.Models.{answers}
use Rattle.asp_model.specs.Sound.{IsSound}
use Rattle.asp_equal.specs.declared.reduce.Aside.{Aside}
use Rattle.asp_equal.specs.Reduced.{reduced, restored}
use Rattle.asp_equal.proofs.ReducedLaws.{same-answers, sound-reduced}
use Rattle.asp_answers.proofs.answers_of.Goals as goal

pub answers_left-requires : goal.answers_left-requires
answers_left-requires c = subst IsSound (sym c.in_ok-aside.ensures.left) (sound-reduced c.args.program c.requires)

-- the answers of what is left, each with what was set aside, are those of the program
pub returns-in-Some : goal.returns-in-Some
returns-in-Some c =
    let p = c.args.program in
    let left : c.in-Some.sets.items ≡ answers c.in_ok-aside.field-0.left = subst (λ found. IfSome found (λ them. them.items ≡ answers c.in_ok-aside.field-0.left)) c.in-Some.is c.in_ok-sets.ensures in
    let sets : c.in-Some.sets.items ≡ answers (reduced p) = left ∙ ap answers c.in_ok-aside.ensures.left in
    let whole : c.in_ok-whole-in-Some.whole.items ≡ map (restored c.in_ok-aside.field-0.aside) c.as_slice.result.now = c.in_ok-whole-in-Some.ensures in
    whole ∙ ap (map (restored c.in_ok-aside.field-0.aside)) (c.as_slice.ensures.value ∙ sets)
    ∙ ap (λ (A : Aside). map (restored A) (answers (reduced p))) c.in_ok-aside.ensures.aside ∙ sym (same-answers p c.requires)
