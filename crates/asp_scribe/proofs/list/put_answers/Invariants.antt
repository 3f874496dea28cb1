use Rattle.std.proofs.Common.{drop, map}
use Rattle.std.specs.Option.{ForSome, option_copied}
use Rattle.asp_buffer.specs.Out.{out}
use Rattle.asp_buffer.proofs.OutLaws.{Midway}
use Rattle.asp_proof.specs.Changes.{changes_from, changes_of}
use Rattle.asp_proof.specs.Texts.{answer_text, lines}
use Rattle.asp_rows.specs.Listed.{IsRowOf}
use Rattle.asp_rows.specs.declared.row.Row.{Row}
use Rattle.asp_scribe.specs.Lists.{set_of}
use Rattle.asp_scribe.proofs.list.put_answers.Given as goal

abbrev pub invariant-loop-row : goal.invariant-loop-row
invariant-loop-row g l = record {
  last : ForSome l.last (λ row. IsRowOf l.atoms row.now);
  midway : Midway (out (g.K.Sink.held l.initial.sink) (g.K.Sink.faults l.initial.sink) l.initial.waiting)
      (out (g.K.Sink.held l.sink) (g.K.Sink.faults l.sink) l.waiting)
      (lines answer_text (changes_of (map (λ (x : Row). x.set) l.rows)))
      (lines answer_text (changes_from (set_of (option_copied l.last)) (map (λ (x : Row). x.set) (drop l.row-index l.rows))));
}
