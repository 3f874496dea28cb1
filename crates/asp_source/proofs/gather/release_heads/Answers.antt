use Rattle.std.proofs.Common.{◌≡◌, ℕ, ◌+◌, length, get_or, refl, ap, subst, arith}
use Rattle.asp_model.specs.Models.{atoms_of}
use Rattle.asp_vars.specs.Numbering.{nth_body}
use Rattle.asp_vars.specs.Tabled.{heads_of, IsAtomVar}
use Rattle.asp_vars.proofs.RowLaws.{all_of, head_vars}
use Rattle.asp_source.specs.Gathering.{IsReleased}
use Rattle.asp_source.proofs.GatherLaws.{steps_same, steps_then, head_more}
use Rattle.asp_source.proofs.LoseLaws.{item_at}
use Rattle.asp_source.proofs.gather.release_heads.Goals as goal

pub loop-var-init : goal.loop-var-init
loop-var-init c = record {
  steps =
      steps_same c.args.region.now.compiled.now c.args.region.now.components.now c.args.region.now.values.now c.args.region.now.component
      c.args.region.now.ranks.now.ranks c.args.busy c.args.sources.now c.args.loose.now c.args.waiting.now c.args.joined.now c.args.sources.now refl
      c.requires.gathering;
  released = λ i d lt. absurd (omega (arith, lt));
}

pub loop-var-preserved : goal.loop-var-preserved
loop-var-preserved c = record {
  steps =
      steps_then c.args.region.now.compiled.now c.args.region.now.components.now c.args.region.now.values.now c.args.region.now.component
      c.args.region.now.ranks.now.ranks c.args.busy c.args.sources.now c.args.loose.now c.args.waiting.now c.loop-var.sources c.loop-var.loose
      c.loop-var.waiting c.loop-var.joined c.release.new.sources c.release.new.loose c.release.new.waiting c.release.new.joined
      c.loop-var.invariant.steps c.release.ensures.steps;
  released =
      head_more c.args.region.now.compiled.now c.args.region.now.components.now c.args.region.now.values.now c.args.region.now.component
      c.args.region.now.ranks.now.ranks c.loop-var.sources c.loop-var.loose c.loop-var.waiting c.release.new.sources c.release.new.loose
      c.release.new.waiting (heads_of c.args.region.now.compiled.now (nth_body c.args.region.now.compiled.now c.args.body)) c.loop-var.var-index
      c.body_number-number.result _ (omega (arith, c.body_number-number.ensures.sum))
      (all_of (IsAtomVar c.args.region.now.compiled.now)
      (heads_of c.args.region.now.compiled.now (nth_body c.args.region.now.compiled.now c.args.body))
      (head_vars c.args.region.now.compiled.now (nth_body c.args.region.now.compiled.now c.args.body))) c.release.ensures.steps.keeps
      c.loop-var.invariant.released c.release.ensures.released
      (λ d lt. item_at c.heads-var-items.result.now (heads_of c.args.region.now.compiled.now (nth_body c.args.region.now.compiled.now c.args.body))
      c.loop-var.var-index d 0 c.heads-var-items.ensures.heads lt);
}

pub release-requires-clause-gathering : goal.release-requires-clause-gathering
release-requires-clause-gathering c = c.loop-var.invariant.steps.gathering

pub returns-clause-steps : goal.returns-clause-steps
returns-clause-steps c = c.loop-var.invariant.steps

pub returns-clause-released : goal.returns-clause-released
returns-clause-released c i d lt =
    let number : c.body_number-number.result ≡ length (atoms_of c.args.region.now.compiled.now) + 1 + c.args.body = omega (arith, c.body_number-number.ensures.sum) in
    subst (λ (n : ℕ). IsReleased c.args.region.now.compiled.now c.args.region.now.components.now c.args.region.now.values.now
    c.args.region.now.component c.args.region.now.ranks.now.ranks c.loop-var.sources c.loop-var.loose c.loop-var.waiting n
    (get_or (heads_of c.args.region.now.compiled.now (nth_body c.args.region.now.compiled.now c.args.body)) i d)) number
    (c.loop-var.invariant.released i d (omega (arith, c.loop-var-test.false, ap length c.heads-var-items.ensures.heads, lt)) lt)
