use Rattle.std.proofs.Common.{List, ℕ, [], ◌∷◌, ◌++◌}
use Rattle.asp_buffer.proofs.OutLaws.{puts_then, puts_fails}
use Rattle.asp_top.specs.Counts.{report_items, search_items}
use Rattle.asp_top.specs.Notes.{items_text, program_text, workers_text}
use Rattle.asp_top.specs.declared.counts.Tally.{Tally}
use Rattle.asp_top.proofs.notes.put_counts.Goals as goal

-- what stands behind the report's counts, behind those of all searches, and behind those of each worker
abbrev ends : Tally → List ℕ
ends t = program_text t ++ 10 ∷ []

abbrev more : Tally → List ℕ
more t = workers_text t.workers ++ ends t

abbrev rest : Tally → List ℕ
rest t = items_text (search_items t.search) ++ more t

pub returns-in_err-put_report : goal.returns-in_err-put_report
returns-in_err-put_report g c = puts_fails _ _ _ _ _ (items_text (report_items c.args.report.now c.args.tally.now.search)) (rest c.args.tally.now) c.in_err-put_report.ensures c.from_residual.ensures.1

pub returns-in_err-put_search : goal.returns-in_err-put_search
returns-in_err-put_search g c =
    let t : Tally = c.args.tally.now in
    puts_then _ _ _ _ _ (items_text (report_items c.args.report.now t.search)) (rest t) c.in_ok-put_report.ensures
    (puts_fails _ _ _ _ _ (items_text (search_items t.search)) (more t) c.in_err-put_search.ensures c.from_residual-in_err-put_search.ensures.1)

pub returns-in_err-put_workers : goal.returns-in_err-put_workers
returns-in_err-put_workers g c =
    let t : Tally = c.args.tally.now in
    puts_then _ _ _ _ _ (items_text (report_items c.args.report.now t.search)) (rest t) c.in_ok-put_report.ensures
    (puts_then _ _ _ _ _ (items_text (search_items t.search)) (more t) c.in_ok-put_search.ensures
    (puts_fails _ _ _ _ _ (workers_text t.workers) (ends t) (rw c.as_slice.ensures.value at c.in_err-put_workers.ensures) c.from_residual-in_err-put_workers.ensures.1))

pub returns-in_err-put_program : goal.returns-in_err-put_program
returns-in_err-put_program g c =
    let t : Tally = c.args.tally.now in
    puts_then _ _ _ _ _ (items_text (report_items c.args.report.now t.search)) (rest t) c.in_ok-put_report.ensures
    (puts_then _ _ _ _ _ (items_text (search_items t.search)) (more t) c.in_ok-put_search.ensures
    (puts_then _ _ _ _ _ (workers_text t.workers) (ends t) (rw c.as_slice.ensures.value at c.in_ok-put_workers.ensures)
    (puts_fails _ _ _ _ _ (program_text t) (10 ∷ []) c.in_err-put_program.ensures c.from_residual-in_err-put_program.ensures.1)))

pub returns : goal.returns
returns g c =
    let t : Tally = c.args.tally.now in
    puts_then _ _ _ _ _ (items_text (report_items c.args.report.now t.search)) (rest t) c.in_ok-put_report.ensures
    (puts_then _ _ _ _ _ (items_text (search_items t.search)) (more t) c.in_ok-put_search.ensures
    (puts_then _ _ _ _ _ (workers_text t.workers) (ends t) (rw c.as_slice.ensures.value at c.in_ok-put_workers.ensures)
    (puts_then _ _ _ _ _ (program_text t) (10 ∷ []) c.in_ok-put_program.ensures c.put.ensures)))
