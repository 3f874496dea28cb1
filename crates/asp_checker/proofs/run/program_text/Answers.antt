use Rattle.std.proofs.Common.{ℕ, List, [], Err, refl, sym, subst, ◌∙◌, arith}
use Rattle.std.proofs.lemmas.Result.{err_from_is_err_and}
use Rattle.asp_proof.proofs.ReaderLaws.{moves_none}
use Rattle.asp_proof.proofs.StreamLaws.{comes_any}
use Rattle.asp_checker.specs.Runs.{AddsLine}
use Rattle.asp_checker.proofs.StreamLaws.{no_fault}
use Rattle.asp_checker.proofs.RunLaws.{none_first, none_next, text_failed, text_ended, text_found, text_next, text_too_long}
use Rattle.asp_checker.proofs.run.program_text.Goals as goal

pub returns-in_err-next-clause-finds : goal.returns-in_err-next-clause-finds
returns-in_err-next-clause-finds g c =
    let p = err_from_is_err_and c.from_residual.result c.from_residual.ensures.1 in
    rw (p.1, p.2)
    (text_failed (g.S.Source.left c.lines.source) (g.S.Source.left c.next_line.new.source) (g.S.Source.left c.args.source.now) c.lines.text.items
    c.lines.reader c.next_line.new.reader c.in_err-next.field-0.0 c.lines.invariant.moved c.in_err-next.ensures.next)

pub returns-then-not-next-clause-finds : goal.returns-then-not-next-clause-finds
returns-then-not-next-clause-finds g c =
    text_ended (g.S.Source.left c.lines.source) (g.S.Source.left c.next_line.new.source) (g.S.Source.left c.args.source.now) c.lines.text.items
    c.lines.reader c.next_line.new.reader c.lines.invariant.none c.lines.invariant.moved (rw c.if-not-next.true at c.in_ok-next.ensures.next)

pub returns-then-is_head-clause-finds : goal.returns-then-is_head-clause-finds
returns-then-is_head-clause-finds g c =
    text_found (g.S.Source.left c.lines.source) (g.S.Source.left c.next_line.new.source) (g.S.Source.left c.args.source.now) c.lines.text.items
    c.lines.reader c.next_line.new.reader c.lines.invariant.none c.lines.invariant.moved (rw c.if-not-next.false at c.in_ok-next.ensures.next)
    (sym c.line.ensures ∙ c.if-is_head.ensures)

pub lines-init : goal.lines-init
lines-init g c = record {
  none = rw c.new-text.ensures.items none_first;
  short = rw c.new-text.ensures.items (omega arith);
  moved = rw (c.new-text.ensures.items, c.requires) (moves_none (g.S.Source.left c.args.source.now) []);
  quiet = refl;
}

pub returns-in_err-add_line-clause-finds : goal.returns-in_err-add_line-clause-finds
returns-in_err-add_line-clause-finds g c =
    let p = err_from_is_err_and c.from_residual-in_err-add_line.result c.from_residual-in_err-add_line.ensures.1 in
    rw (p.1, p.2)
    (text_too_long (g.S.Source.left c.lines.source) (g.S.Source.left c.next_line.new.source) (g.S.Source.left c.args.source.now)
    c.lines.text.items c.lines.reader c.next_line.new.reader c.in_err-add_line.field-0.0 (Unit {0}) c.add_line.new.text.items
    c.lines.invariant.none c.lines.invariant.moved (rw c.if-not-next.false at c.in_ok-next.ensures.next)
    (λ e. c.if-is_head.ensures (c.line.ensures ∙ e))
    (subst (λ (t : List ℕ). AddsLine {U = Unit {0}} c.lines.text.items c.add_line.new.text.items t (Err c.in_err-add_line.field-0.0))
    c.line-line.ensures c.in_err-add_line.ensures))

pub lines-preserved : goal.lines-preserved
lines-preserved g c =
    let n = rw c.if-not-next.false at c.in_ok-next.ensures.next in
    let h = rw c.line-line.ensures at c.in_ok-add_line.ensures in
    record {
      none = rw h.0 (none_next c.lines.text.items c.next_line.new.reader.line c.lines.invariant.none n.0 (λ e. c.if-is_head.ensures (c.line.ensures ∙ e)));
      short = h.1;
      moved = text_next (g.S.Source.left c.lines.source) (g.S.Source.left c.next_line.new.source) (g.S.Source.left c.args.source.now)
          c.lines.text.items c.add_line.new.text.items c.lines.reader c.next_line.new.reader c.lines.invariant.moved n h.0;
      quiet = c.in_ok-next.ensures.quiet (no_fault c.in_ok-next.next _) ∙ c.lines.invariant.quiet;
    }

pub returns-clause-finds : goal.returns-clause-finds
returns-clause-finds g c = comes_any (g.S.Source.left c.args.source.now) [] _ (λ rest format. tt)
