use Rattle.std.proofs.Common.{◌≡◌, ◌∙◌, [], length, get_or, drop, pos, w32, w64, sym, subst, arith, rules}
use Rattle.std.proofs.lemmas.Int.{to_z-of_z}
use Rattle.std.proofs.lemmas.List.{take_at}
use Rattle.asp_bound.specs.Weights.{AreWeights}
use Rattle.asp_bound.proofs.LevelLaws.{gathered_step}
use Rattle.asp_bound.proofs.levels.levels_of.Goals as goal

pub add_level-requires-clause-blank : goal.add_level-requires-clause-blank
add_level-requires-clause-blank c = subst (AreWeights c.args.compiled.now []) (sym c.as_mut_slice.ensures.value) c.loop-level.invariant.1

pub loop-level-preserved : goal.loop-level-preserved
loop-level-preserved c =
    let plain = to_z-of_z w32 (get_or c.args.priorities.now c.loop-level.level (pos 0)) (search rules) in
    let gathered = c.in_ok-added.ensures.gathered in
    let long : length c.add_level.new.weights ≡ c.loop-level.weights.len = c.add_level.auto.weights ∙ c.as_mut_slice.ensures.len in (
      gathered_step c.args.compiled.now c.args.priorities.now c.loop-level.level _ (pos 0) c.loop-level.rows c.add_level.new.rows c.loop-level.columns
          c.in_ok-columns-2.columns c.loop-level.sums.items c.push.new.self.items
          c.in_ok-added.added.column.items c.as_slice.result.now c.in_ok-added.added.least _ (omega arith) plain c.loop-level.invariant.0 gathered
          c.in_ok-columns-2.ensures c.as_slice.ensures.value c.in_ok-push.ensures.items (to_z-of_z w64 c.in_ok-added.added.least (search rules)),
      subst (AreWeights c.args.compiled.now [])
          (sym (take_at c.add_level.new.weights (drop (length c.add_level.new.weights) c.loop-level.weights.items) c.loop-level.weights.len long))
          c.in_ok-added.ensures.blank,
    )
