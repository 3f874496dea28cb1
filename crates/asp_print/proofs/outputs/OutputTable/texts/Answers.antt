use Rattle.std.proofs.Common.{◌≡◌, ◌∙◌, Bool, ap, length, refl, sym, arith, take}
use Rattle.std.specs.Prelude.{if◌then◌else◌}
use Rattle.asp_print.specs.Rows.{row}
use Rattle.asp_print.proofs.RowLaws.{IsRun, run_bounds, run_part, same_at}
use Rattle.asp_print.proofs.outputs.OutputTable.texts.Goals as goal
use Rattle.asp_print.proofs.outputs.OutputTable.texts.Goals.{then-any, else-any}

pub overflow_add-start : goal.overflow_add-start
overflow_add-start c =
    let t = c.requires.table in
    let os = c.args.outputs.now in
    let low : c.index.result.now ≡ length (row c.args.self.now.between (take c.args.from os)) =
    c.index.ensures ∙ same_at c.args.self.now.starts.items c.args.from c.index.result.now 0
    (omega (arith, t.count, c.requires.some, c.requires.within)) ∙ t.starts c.args.from (omega (arith, c.requires.some, c.requires.within)) in
    let b = run_bounds c.args.self.now.between os c.args.from c.args.to c.index.result.now _ c.args.self.now.texts.items
    (record { low = low; high = refl; some = c.requires.some; within = c.requires.within }) t.texts in
    elim c.if-any.branch [ then-any w ↦ omega (arith, b.0, b.1, w.skipped-is) | else-any w ↦ omega (arith, b.0, b.1, w.skipped-is) ]

pub part-requires-clause-from : goal.part-requires-clause-from
part-requires-clause-from c =
    let t = c.requires.table in
    let os = c.args.outputs.now in
    let low : c.index.result.now ≡ length (row c.args.self.now.between (take c.args.from os)) =
    c.index.ensures ∙ same_at c.args.self.now.starts.items c.args.from c.index.result.now 0
    (omega (arith, t.count, c.requires.some, c.requires.within)) ∙ t.starts c.args.from (omega (arith, c.requires.some, c.requires.within)) in
    let high : c.index-2.result.now ≡ length (row c.args.self.now.between (take c.args.to os)) =
    c.index-2.ensures ∙ same_at c.args.self.now.starts.items c.args.to c.index-2.result.now 0 (omega (arith, t.count, c.requires.within)) ∙ t.starts c.args.to c.requires.within in
    let b = run_bounds c.args.self.now.between os c.args.from c.args.to c.index.result.now c.index-2.result.now c.args.self.now.texts.items
    (record { low = low; high = high; some = c.requires.some; within = c.requires.within }) t.texts in
    elim c.if-any.branch [ then-any w ↦ omega (arith, b.0, w.skipped-is) | else-any w ↦ omega (arith, b.0, w.skipped-is) ]

pub part-requires-clause-to : goal.part-requires-clause-to
part-requires-clause-to c =
    let t = c.requires.table in
    let os = c.args.outputs.now in
    let low : c.index.result.now ≡ length (row c.args.self.now.between (take c.args.from os)) =
    c.index.ensures ∙ same_at c.args.self.now.starts.items c.args.from c.index.result.now 0
    (omega (arith, t.count, c.requires.some, c.requires.within)) ∙ t.starts c.args.from (omega (arith, c.requires.some, c.requires.within)) in
    let high : c.index-2.result.now ≡ length (row c.args.self.now.between (take c.args.to os)) =
    c.index-2.ensures ∙ same_at c.args.self.now.starts.items c.args.to c.index-2.result.now 0 (omega (arith, t.count, c.requires.within)) ∙ t.starts c.args.to c.requires.within in
    let b = run_bounds c.args.self.now.between os c.args.from c.args.to c.index.result.now c.index-2.result.now c.args.self.now.texts.items
    (record { low = low; high = high; some = c.requires.some; within = c.requires.within }) t.texts in
    omega (arith, b.1)

pub returns : goal.returns
returns c =
    let t = c.requires.table in
    let os = c.args.outputs.now in
    let low : c.index.result.now ≡ length (row c.args.self.now.between (take c.args.from os)) =
    c.index.ensures ∙ same_at c.args.self.now.starts.items c.args.from c.index.result.now 0
    (omega (arith, t.count, c.requires.some, c.requires.within)) ∙ t.starts c.args.from (omega (arith, c.requires.some, c.requires.within)) in
    let high : c.index-2.result.now ≡ length (row c.args.self.now.between (take c.args.to os)) =
    c.index-2.ensures ∙ same_at c.args.self.now.starts.items c.args.to c.index-2.result.now 0 (omega (arith, t.count, c.requires.within)) ∙ t.starts c.args.to c.requires.within in
    let run : IsRun c.args.self.now.between os c.args.from c.args.to c.index.result.now c.index-2.result.now = record { low = low; high = high; some = c.requires.some; within = c.requires.within } in
    let blank : c.if-any.skipped ≡ (if c.args.any then 0 else 1) =
    elim c.if-any.branch [
      | then-any w ↦ w.skipped-is ∙ ap (λ (b : Bool). if b then 0 else 1) (sym w.if-any.true)
      | else-any w ↦ w.skipped-is ∙ ap (λ (b : Bool). if b then 0 else 1) (sym w.if-any.false)
    ] in
    c.part.ensures ∙ run_part c.args.self.now.between c.args.any os c.args.from c.args.to c.index.result.now c.index-2.result.now c.if-any.skipped
    c.as_slice.result.now run (c.as_slice.ensures.value ∙ t.texts) blank
