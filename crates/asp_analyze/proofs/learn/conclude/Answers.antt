use Rattle.std.proofs.Common.{◌≡◌, ◌≤◌, ◌<◌, ℕ, List, Option, true, sym, subst}
use Rattle.std.specs.List.{All}
use Rattle.asp_vars.specs.Literals.{Literal, has_literal}
use Rattle.asp_analyze.specs.Learning.{IsJump}
use Rattle.asp_analyze.specs.Way.{level_unless, IsTop, IsReady}
use Rattle.asp_analyze.proofs.EndLaws.{jump_learned}
use Rattle.asp_analyze.proofs.learn.conclude.Goals as goal

pub returns-in-Some-clause-learned : goal.returns-in-Some-clause-learned
returns-in-Some-clause-learned c = λ from r.
    let es = c.args.trail.now.entries in
    let n : List Literal = c.args.nogood.lits in
    let point : Literal = c.in-Some.lit in
    let level : ℕ = c.level_beside-level.result in
    let t : IsTop es from n point = subst (λ (o : Option Literal). IsReady es from n o) c.in-Some.is r in
    subst (λ (l : Literal). IsJump es from n level l) (sym c.complement.ensures)
    (jump_learned es from n point level t
    (subst (λ (ls : List Literal). All (λ k. level_unless es point k ≤ level) ls) c.as_slice.ensures.value c.level_beside-level.ensures.below)
    (subst (λ (ls : List Literal). 0 < level → (k : Literal) × (has_literal ls k ≡ true) × (level_unless es point k ≡ level)) c.as_slice.ensures.value c.level_beside-level.ensures.attained))
