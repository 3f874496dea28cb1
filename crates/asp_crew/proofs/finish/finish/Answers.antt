use Rattle.std.proofs.Common.{sym, subst, ap, ◌∙◌}
use Rattle.asp_vars.specs.Paid.{Units}
use Rattle.asp_core.specs.declared.task.Task.{Task}
use Rattle.asp_book.specs.Books.{with_events}
use Rattle.asp_book.specs.Replies.{leased_out}
use Rattle.asp_crew.specs.Running.{QueryStands}
use Rattle.asp_crew.proofs.AddLaws.{adds-trans}
use Rattle.asp_crew.proofs.BookLaws.{pool-fits}
use Rattle.asp_crew.proofs.FinishLaws.{IsLeased, leased-is, leased-works, idle-after, task-after, adds-after, finished}
use Rattle.asp_crew.proofs.finish.finish.Goals as goal

pub search_all-requires-clause-task : goal.search_all-requires-clause-task
search_all-requires-clause-task g c =
    let leased : IsLeased c.args.book.now c.lease.new.self =
    leased-is c.args.book.now c.lease.new.self c.requires.idle (pool-fits c.args.book.now c.requires.task c.journal-lawful.ensures.lawful c.requires.fits)
    (c.in_ok-fuel.ensures.journal ∙ ap (λ (u : Units). with_events c.args.book.now (leased_out 0 u)) c.in_ok-fuel.ensures.fuel) in
    subst (λ (t : Task). QueryStands t) (sym leased.task) c.requires.task

pub search_all-requires-clause-of : goal.search_all-requires-clause-of
search_all-requires-clause-of g c =
    let leased : IsLeased c.args.book.now c.lease.new.self =
    leased-is c.args.book.now c.lease.new.self c.requires.idle (pool-fits c.args.book.now c.requires.task c.journal-lawful.ensures.lawful c.requires.fits)
    (c.in_ok-fuel.ensures.journal ∙ ap (λ (u : Units). with_events c.args.book.now (leased_out 0 u)) c.in_ok-fuel.ensures.fuel) in
    ap (λ (t : Task). t.program) leased.task ∙ c.requires.of

pub search_all-requires-clause-work : goal.search_all-requires-clause-work
search_all-requires-clause-work g c =
    let leased : IsLeased c.args.book.now c.lease.new.self =
    leased-is c.args.book.now c.lease.new.self c.requires.idle (pool-fits c.args.book.now c.requires.task c.journal-lawful.ensures.lawful c.requires.fits)
    (c.in_ok-fuel.ensures.journal ∙ ap (λ (u : Units). with_events c.args.book.now (leased_out 0 u)) c.in_ok-fuel.ensures.fuel) in
    leased-works c.args.aim.mode c.args.aim.bound c.args.book.now c.lease.new.self c.in_ok-fuel.fuel c.requires.goal leased c.in_ok-fuel.ensures.fuel

pub search_all-requires-clause-alone : goal.search_all-requires-clause-alone
search_all-requires-clause-alone g c =
    let leased : IsLeased c.args.book.now c.lease.new.self =
    leased-is c.args.book.now c.lease.new.self c.requires.idle (pool-fits c.args.book.now c.requires.task c.journal-lawful.ensures.lawful c.requires.fits)
    (c.in_ok-fuel.ensures.journal ∙ ap (λ (u : Units). with_events c.args.book.now (leased_out 0 u)) c.in_ok-fuel.ensures.fuel) in
    leased.alone

pub returns-clause-finishes : goal.returns-clause-finishes
returns-clause-finishes g c =
    let leased : IsLeased c.args.book.now c.lease.new.self =
    leased-is c.args.book.now c.lease.new.self c.requires.idle (pool-fits c.args.book.now c.requires.task c.journal-lawful.ensures.lawful c.requires.fits)
    (c.in_ok-fuel.ensures.journal ∙ ap (λ (u : Units). with_events c.args.book.now (leased_out 0 u)) c.in_ok-fuel.ensures.fuel) in
    record {
      task = task-after c.args.aim.mode c.lease.new.self c.search_all.new.book c.back.new.self c.in_ok-unpaid.ensures.leaves.0 c.search_all.new.fuel
          c.in_ok-unpaid.unpaid c.in_ok-unpaid.ensures.leaves.1 leased.pool c.back.ensures ∙ leased.task;
      adds = adds-trans c.args.book.now c.lease.new.self c.back.new.self leased.adds
          (adds-after c.args.aim.mode c.lease.new.self c.search_all.new.book c.back.new.self c.in_ok-unpaid.ensures.leaves.0 c.search_all.new.fuel
          c.in_ok-unpaid.unpaid c.in_ok-unpaid.ensures.leaves.1 leased.pool c.back.ensures);
      idle = idle-after c.args.aim.mode c.lease.new.self c.search_all.new.book c.back.new.self c.in_ok-unpaid.ensures.leaves.0 c.search_all.new.fuel
          c.in_ok-unpaid.unpaid c.in_ok-unpaid.ensures.leaves.1 leased.pool c.back.ensures;
      over = finished c.args.aim.mode c.lease.new.self c.search_all.new.book c.back.new.self c.in_ok-unpaid.ensures.leaves.0 c.search_all.new.fuel
          c.in_ok-unpaid.unpaid c.in_ok-unpaid.ensures.leaves.1 leased.pool c.back.ensures;
    }

pub returns-in_err-fuel-clause-heard : goal.returns-in_err-fuel-clause-heard
returns-in_err-fuel-clause-heard g c = g.met.W.Watch.begins c.args.watch.now
