use Rattle.std.proofs.Common.{◌+◌, [], ◌++◌, refl, ap, ◌∙◌, sym}
use Rattle.std.proofs.lemmas.Result.{err_from_is_err_and}
use Rattle.asp_proof.specs.Walk.{front_of, proof_of}
use Rattle.asp_checker.proofs.StreamLaws.{step_failed, so_far_first, so_far_at, so_far_next, so_far_wrong, so_far_broken, all_read, no_memory, no_fault}
use Rattle.asp_checker.proofs.stream.judge_lines.Goals as goal

pub lines-init : goal.lines-init
lines-init g c = record {
  ready = c.requires.ready;
  so_far = so_far_first c.args.compiled.now c.args.sought c.args.known.now c.args.tally.now (g.S.Source.left c.args.source.now) c.args.reader.now.behind
      c.requires.first c.requires.count c.requires.whole;
  count = c.requires.count;
  quiet = refl;
}

pub returns-in_err-next-clause-says : goal.returns-in_err-next-clause-says
returns-in_err-next-clause-says g c =
    let p = err_from_is_err_and c.from_residual.result c.from_residual.ensures.1 in
    let so_far = c.lines.invariant.so_far in
    rw (p.1, p.2)
    (step_failed c.args.compiled.now (g.S.Source.left c.args.source.now) (g.S.Source.left c.lines.source)
    (g.S.Source.left c.next_line.new.source) _ (front_of (proof_of c.args.sought so_far.entries [])) c.lines.reader
    c.next_line.new.reader c.in_err-next.field-0.0 so_far.moved c.in_err-next.ensures.next)

pub returns-then-not-next-clause-says : goal.returns-then-not-next-clause-says
returns-then-not-next-clause-says g c =
    rw c.refused.ensures
    (so_far_broken c.args.compiled.now c.args.sought c.lines.known c.lines.tally (g.S.Source.left c.args.source.now) (g.S.Source.left c.lines.source)
    (g.S.Source.left c.next_line.new.source) _ c.lines.reader c.next_line.new.reader c.lines.invariant.so_far
    (rw c.if-not-next.true at c.in_ok-next.ensures.next))

pub returns-in_err-came_to-clause-says : goal.returns-in_err-came_to-clause-says
returns-in_err-came_to-clause-says g c =
    let p = err_from_is_err_and c.from_residual-in_err-came_to.result c.from_residual-in_err-came_to.ensures.1 in
    rw (p.1, p.2) (no_memory c.args.compiled.now (g.S.Source.left c.args.source.now) (front_of (proof_of c.args.sought [] []) ++ c.args.reader.now.behind))

pub returns-in-Wrong-clause-says : goal.returns-in-Wrong-clause-says
returns-in-Wrong-clause-says g c =
    let n = rw c.if-not-next.false at c.in_ok-next.ensures.next in
    let h = rw (c.in-Wrong.is, c.line.ensures) at c.in_ok-came_to.ensures in
    let at =
    so_far_at c.args.compiled.now c.args.sought c.lines.known c.lines.tally (g.S.Source.left c.args.source.now) (g.S.Source.left c.lines.source)
    (g.S.Source.left c.next_line.new.source) _ c.lines.reader c.next_line.new.reader c.lines.invariant.so_far n in
    so_far_wrong c.args.compiled.now c.args.sought c.lines.known c.lines.tally (g.S.Source.left c.args.source.now)
    (g.S.Source.left c.next_line.new.source) _ c.next_line.new.reader h.0 c.in-Wrong.why at n.0 h.1 h.2

pub returns-in-Other-clause-says : goal.returns-in-Other-clause-says
returns-in-Other-clause-says g c =
    let n = rw c.if-not-next.false at c.in_ok-next.ensures.next in
    let h = rw (c.in-Other.is, c.line.ensures) at c.in_ok-came_to.ensures in
    let at =
    so_far_at c.args.compiled.now c.args.sought c.lines.known c.lines.tally (g.S.Source.left c.args.source.now) (g.S.Source.left c.lines.source)
    (g.S.Source.left c.next_line.new.source) _ c.lines.reader c.next_line.new.reader c.lines.invariant.so_far n in
    all_read c.args.compiled.now c.args.sought c.lines.known c.read_line.new.known c.lines.tally (g.S.Source.left c.args.source.now)
    (g.S.Source.left c.next_line.new.source) _ c.next_line.new.reader c.lines.invariant.ready.atoms at n.0 h.0 h.1

pub lines-preserved : goal.lines-preserved
lines-preserved g c =
    let n = rw c.if-not-next.false at c.in_ok-next.ensures.next in
    let h = rw (c.in-Right.is, c.line.ensures) at c.in_ok-came_to.ensures in
    let gathered = h.2 in
    let at =
    so_far_at c.args.compiled.now c.args.sought c.lines.known c.lines.tally (g.S.Source.left c.args.source.now) (g.S.Source.left c.lines.source)
    (g.S.Source.left c.next_line.new.source) _ c.lines.reader c.next_line.new.reader c.lines.invariant.so_far n in
    record {
      ready = gathered.ready;
      so_far = so_far_next c.args.compiled.now c.args.sought c.lines.known c.read_line.new.known c.lines.tally _ c.in-Right.closing
          (g.S.Source.left c.args.source.now) (g.S.Source.left c.next_line.new.source) _ c.next_line.new.reader h.0 at n.0 h.1 gathered
          (ap (λ i. i + 1) (sym c.lines.invariant.count)) c.either-tally.ensures;
      count = refl;
      quiet = c.in_ok-next.ensures.quiet (no_fault c.in_ok-next.next _) ∙ c.lines.invariant.quiet;
    }

pub returns-clause-says : goal.returns-clause-says
returns-clause-says g c = no_memory c.args.compiled.now (g.S.Source.left c.args.source.now) (front_of (proof_of c.args.sought [] []) ++ c.args.reader.now.behind)
