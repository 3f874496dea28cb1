use Rattle.std.proofs.Common.{refl, sym, ap, ◌∙◌}
use Rattle.std.proofs.lemmas.Result.{IfOk-weaker}
use Rattle.asp_search_laws.specs.Searching.{Searching}
use Rattle.asp_crew.proofs.FinishLaws.{ready-begins}
use Rattle.asp_crew.proofs.finish.search_all.Goals as goal

pub work_off_below-unpaid-requires-clause-ready : goal.work_off_below-unpaid-requires-clause-ready
work_off_below-unpaid-requires-clause-ready g c =
    let s : Searching = c.note_uses.new.search in
    let same = c.note_uses.ensures ∙ c.in_ok-search.ensures.same in
    ready-begins c.args.aim.mode c.args.aim.bound c.args.book.now (record s { bound = c.args.aim.bound }) c.args.fuel.now c.requires.task c.requires.work
    (ap (λ (s : Searching). s.program) same ∙ sym c.requires.of) (ap (λ (s : Searching). s.mode) same) (ap (λ (s : Searching). s.known) same) refl

pub work_off_below-unpaid-requires-clause-unbounded : goal.work_off_below-unpaid-requires-clause-unbounded
work_off_below-unpaid-requires-clause-unbounded g c = ap (λ (s : Searching). s.bound) (c.note_uses.ensures ∙ c.in_ok-search.ensures.same)

pub returns-clause-leaves : goal.returns-clause-leaves
returns-clause-leaves g c = IfOk-weaker c.work_off_below-unpaid.result _ _ (λ o left. (c.work_off_below-unpaid.new.search, left)) c.work_off_below-unpaid.ensures.leaves

pub returns-in_err-search-clause-heard : goal.returns-in_err-search-clause-heard
returns-in_err-search-clause-heard g c = g.met.W.Watch.begins c.args.watch.now
