use Rattle.std.proofs.Common.{◌≡◌, ℕ, suc, ◌+◌, true, List, [], ◌∷◌, ◌++◌, take, sym, ap, ◌∙◌, subst, arith}
use Rattle.std.proofs.Math.Seq.{take-suc}
use Rattle.asp_vars.specs.Literals.{Literal, has_literal}
use Rattle.asp_propagate.specs.Propagating.{Propagating}
use Rattle.asp_trail_laws.specs.Starts.{AreAtZero}
use Rattle.asp_trail_laws.proofs.LitLaws.{has_at}
use Rattle.asp_state.proofs.assume.assume_all.Goals as goal

pub returns-then-not-assume-clause-assumed : goal.returns-then-not-assume-clause-assumed
returns-then-not-assume-clause-assumed g c =
    let n = c.args.cube.now in
    let here = subst (λ (k : Literal). has_literal n k ≡ true) (sym c.lit-item.is) (has_at n c.loop-lit.lit-index c.lit-item.result c.loop-lit-test.true) in
    c.assume.ensures.assumed n here c.loop-lit.invariant.1

pub loop-lit-preserved : goal.loop-lit-preserved
loop-lit-preserved g c =
    let n = c.args.cube.now in
    let i = c.loop-lit.lit-index in
    let v = c.loop-lit.invariant in
    let here = subst (λ (k : Literal). has_literal n k ≡ true) (sym c.lit-item.is) (has_at n i c.lit-item.result c.loop-lit-test.true) in
    let next : suc i ≡ i + 1 = omega arith in
    let grow : take (i + 1) n ≡ take i n ++ c.lit-item.result ∷ [] =
    ap (λ (k : ℕ). take k n) (sym next) ∙ (take-suc n i c.lit-item.result c.loop-lit-test.true ∙ ap (λ (k : Literal). take i n ++ k ∷ []) (sym c.lit-item.is)) in (
      c.assume.ensures.same ∙ ap (λ (f : Propagating). record f { entries = c.assume.new.engine.entries }) v.0,
      c.assume.ensures.assumed n here v.1,
      subst (λ (xs : List Literal). AreAtZero xs c.assume.new.engine.entries) (sym grow) (c.assume.ensures.stands c.if-not-assume.false n (take i n) v.1 v.2),
    )
