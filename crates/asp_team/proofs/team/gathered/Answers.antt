use Rattle.std.proofs.Common.{refl, ◌∙◌, sym, arith}
use Rattle.asp_vault.specs.Seats.{view}
use Rattle.asp_team.proofs.TeamLaws.{host-begun, opened-begun}
use Rattle.asp_team.proofs.team.gathered.Goals as goal

pub workers-requires-clause-host : goal.workers-requires-clause-host
workers-requires-clause-host c = host-begun c.args.compiled.now c.args.ask c.args.budget _ _ refl c.in_ok-book.ensures.of c.in_ok-log.ensures.at
    (opened-begun c.args.compiled.now c.args.ask c.args.budget (view c.in_ok-book.seat) (omega (arith, c.ranges.budget)) c.in_ok-book.ensures.view)
    c.in_ok-log.ensures.program c.in_ok-log.ensures.first.0

pub workers-requires-clause-none_out : goal.workers-requires-clause-none_out
workers-requires-clause-none_out c = (
  (opened-begun c.args.compiled.now c.args.ask c.args.budget (view c.in_ok-book.seat) (omega (arith, c.ranges.budget))
      c.in_ok-book.ensures.view).out,
  c.in_ok-log.ensures.first.1,
)

pub workers-requires-clause-few : goal.workers-requires-clause-few
workers-requires-clause-few c = omega (arith, c.in_ok-pool.ensures.lanes.0, c.requires.1)

pub workers-requires-clause-even : goal.workers-requires-clause-even
workers-requires-clause-even c = c.in_ok-pool.ensures.passes.0 ∙ sym c.in_ok-pool.ensures.lanes.0

pub workers-requires-clause-passes : goal.workers-requires-clause-passes
workers-requires-clause-passes c = λ k x at. (c.in_ok-pool.ensures.passes.1 k x at).0

pub returns-in-Ok-clause-team : goal.returns-in-Ok-clause-team
returns-in-Ok-clause-team c = record {
  lead = c.in-Ok.ensures.host.lead;
  about = c.in-Ok.ensures.about ∙ (opened-begun c.args.compiled.now c.args.ask c.args.budget (view c.in_ok-book.seat) (omega (arith, c.ranges.budget)) c.in_ok-book.ensures.view).about;
  idle = c.in-Ok.ensures.host.idle;
  forks = c.in-Ok.ensures.host.forks;
  ready = c.in-Ok.ensures.ready;
}
