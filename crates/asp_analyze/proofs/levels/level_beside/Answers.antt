use Rattle.std.proofs.Common.{◌≡◌, ◌∙◌, ◌≤◌, ℕ, true, List, sym, subst, arith}
use Rattle.std.specs.List.{All}
use Rattle.std.proofs.lemmas.List.{take_all}
use Rattle.asp_vars.specs.Literals.{Literal, has_literal}
use Rattle.asp_analyze.specs.Way.{level_unless}
use Rattle.asp_analyze.proofs.LitLaws.{has_at, below_push}
use Rattle.asp_analyze.proofs.levels.level_beside.Goals as goal
use Rattle.asp_analyze.proofs.levels.level_beside.Goals.{then-other-level, else-other-level}

pub loop-k-preserved : goal.loop-k-preserved
loop-k-preserved c =
    let f : Literal → ℕ = λ k. level_unless c.args.trail.now.entries c.args.lit k in
    let n = c.args.lits.now in
    let i = c.loop-k.k-index in
    elim c.if-other-level.branch [
      | then-other-level w ↦ record {
        below = below_push f n i c.k-item.result c.loop-k.level c.if-other-level.level (omega arith) c.k-item.is c.loop-k.invariant.below
            (omega (arith, w.level-is, w.if-other-level.true)) (omega (arith, w.level-is, c.level_unless-other.ensures));
        attained = λ p. (
          c.k-item.result,
          subst (λ (l : Literal). has_literal n l ≡ true) (sym c.k-item.is) (has_at n i c.k-item.result (omega arith)),
          sym c.level_unless-other.ensures ∙ sym w.level-is,
        );
      }
      | else-other-level w ↦ record {
        below = below_push f n i c.k-item.result c.loop-k.level c.if-other-level.level (omega arith) c.k-item.is c.loop-k.invariant.below
            (omega (arith, w.level-is)) (omega (arith, w.level-is, w.if-other-level.false, c.level_unless-other.ensures));
        attained = λ p. let a = c.loop-k.invariant.attained (omega (arith, p, w.level-is)) in (a.0, a.1, a.2 ∙ sym w.level-is);
      }
    ]

pub returns-clause-below : goal.returns-clause-below
returns-clause-below c =
    subst (λ (n : List Literal). All (λ k. level_unless c.args.trail.now.entries c.args.lit k ≤ c.loop-k.level) n)
    (take_all c.loop-k.k-index c.args.lits.now (omega arith)) c.loop-k.invariant.below
