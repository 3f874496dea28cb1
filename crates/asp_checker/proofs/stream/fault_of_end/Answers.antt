use Rattle.std.proofs.Common.{◌≡◌, true, false, List, refl, sym, ◌∙◌, subst}
use Rattle.std.proofs.lemmas.Bool.{false≢true}
use Rattle.std.specs.Prelude.{Contains}
use Rattle.std.specs.List.{AllByRecursion}
use Rattle.asp_model.specs.Sets.{Atoms}
use Rattle.asp_proof.specs.declared.proof.Sought.{Sought}
use Rattle.asp_checker.specs.Right.{promised}
use Rattle.asp_checker.proofs.stream.fault_of_end.Goals as goal

-- what is promised and listed, in other words
kept_as : (o p : Sought) (F G K L : List Atoms) → p ≡ o → F ≡ G → L ≡ K → AllByRecursion (Contains K) (promised o F) → AllByRecursion (Contains L) (promised p G)
kept_as o p F G K L e f k h = subst (λ (q : Sought). AllByRecursion (Contains L) (promised q G)) (sym e)
    (subst (λ (H : List Atoms). AllByRecursion (Contains L) (promised o H)) f (subst (λ (M : List Atoms). AllByRecursion (Contains M) (promised o F)) (sym k) h))

pub returns-then-part : goal.returns-then-part
returns-then-part c = λ p q o a w f e. absurd (false≢true (sym e ∙ c.if-part.true))

pub returns-then-not-whole : goal.returns-then-not-whole
returns-then-not-whole c = λ p q o a w f. (c.if-part.false, sym w ∙ c.if-not-whole.true)

pub returns-then-is_kept : goal.returns-then-is_kept
returns-then-is_kept c = λ p q o a w f e. record {
  whole = sym w ∙ c.if-not-whole.false;
  kept = kept_as c.args.sought q.sought c.args.found.now.sets _ c.args.answers.now.sets q.answers o f a (c.if-is_kept.ensures.yes refl);
}

pub returns : goal.returns
returns c = λ p q o a w f. (
  c.if-part.false,
  (
    sym w ∙ c.if-not-whole.false,
    λ h. c.if-is_kept.ensures.no refl (kept_as q.sought c.args.sought _ c.args.found.now.sets q.answers c.args.answers.now.sets (sym o) (sym f) (sym a) h),
  ),
)
