use Rattle.std.proofs.Common.{◌≡◌, ◌-◌, ◌+◌, ℕ, length, subst, arith}
use Rattle.asp_analyze.specs.Way.{IsDown}
use Rattle.asp_analyze.proofs.PointLaws.{down_ends}
use Rattle.asp_analyze.proofs.point.find_point.Goals as goal

pub returns-in-Some-clause-way : goal.returns-in-Some-clause-way
returns-in-Some-clause-way g c = λ from w. c.in_ok-found.ensures.way from (c.loop-back.invariant.way from w)

pub loop-back-preserved : goal.loop-back-preserved
loop-back-preserved g c =
    let es = c.args.trail.now.entries in
    let n : ℕ = length es - (c.loop-back.back + 1) in
    let same : c.len.result - 1 - c.loop-back.back ≡ n = omega (arith, c.len.ensures.len) in
    let down : IsDown es (c.len.result - 1 - c.loop-back.back) c.step.new.marks.marks = rw c.in-None.is at c.in_ok-found.ensures.down in record {
      some = (c.loop-back.invariant.some.0, c.in_ok-found.ensures.way c.loop-back.invariant.some.0 c.loop-back.invariant.some.1);
      way = λ from w. c.in_ok-found.ensures.way from (c.loop-back.invariant.way from w);
      down = subst (λ (k : ℕ). IsDown es k c.step.new.marks.marks) same down;
      size = grind arith;
    }

pub returns-clause-none : goal.returns-clause-none
returns-clause-none g c =
    let es = c.args.trail.now.entries in
    let same : length es - c.loop-back.back ≡ 0 = omega (arith, c.len-back-end.ensures.len, c.loop-back-test.false) in
    absurd (down_ends es c.loop-back.marks.marks (subst (λ (k : ℕ). IsDown es k c.loop-back.marks.marks) same c.loop-back.invariant.down))
