use Rattle.std.proofs.Common.{◌∙◌, ◌++◌, List, [], ◌∷◌, ap, arith, get_or, pos, rules, subst, sym, take, w32}
use Rattle.std.specs.Prelude.{ℤ}
use Rattle.std.proofs.lemmas.Int.{to_z-of_z}
use Rattle.std.proofs.lemmas.List.{take_more}
use Rattle.asp_series.specs.Asking.{IsShrunk}
use Rattle.asp_series.proofs.CoreLaws.{sound-shrunk}
use Rattle.asp_series.proofs.ShrinkLaws.{shrunk-all, shrunk-more}
use Rattle.asp_series.proofs.cores.shrink_all.Goals as goal

pub shrink-requires-clause-sound : goal.shrink-requires-clause-sound
shrink-requires-clause-sound g c =
    let was = c.loop-literal.invariant.shrunk in
    sound-shrunk c.args.asking.now.program.now c.args.asking.now.literals.now c.loop-literal.state.core c.requires.sound was.among was.few

pub loop-literal-preserved : goal.loop-literal-preserved
loop-literal-preserved g c =
    let p = c.args.asking.now.program.now in
    let xs = c.args.asking.now.literals.now in
    let left = c.args.state.now.left in
    let i = c.loop-literal.literal-index in
    let back = to_z-of_z w32 (get_or xs i (pos 0)) (search rules) in
    record {
      shrunk = subst (λ (ls : List ℤ). IsShrunk p xs left ls c.shrink.new.state)
          (ap (λ (y : ℤ). take i xs ++ y ∷ []) back ∙ sym (take_more xs i (pos 0) (omega arith)))
          (shrunk-more p xs left (take i xs) _ c.loop-literal.state c.shrink.new.state c.loop-literal.invariant.shrunk c.in_ok-shrink.ensures.shrinks);
      heard = g.met.W.Watch.goes_on c.args.watch.now c.loop-literal.watch c.shrink.new.watch c.loop-literal.invariant.heard c.in_ok-shrink.ensures.heard;
    }

pub returns-clause-shrunk : goal.returns-clause-shrunk
returns-clause-shrunk g c =
    shrunk-all c.args.asking.now.program.now c.args.asking.now.literals.now c.args.state.now.left c.loop-literal.literal-index c.loop-literal.state (omega arith) c.loop-literal.invariant.shrunk
