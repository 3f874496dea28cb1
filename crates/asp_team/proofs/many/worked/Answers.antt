use Rattle.std.proofs.Common.{◌∙◌, sym, arith}
use Rattle.asp_vault.specs.Seats.{view}
use Rattle.asp_slots.proofs.ShelfLaws.{back-all}
use Rattle.asp_team.proofs.JoinLaws.{still-idle}
use Rattle.asp_team.proofs.TeamLaws.{all-may}
use Rattle.asp_team.proofs.RunLaws.{all-back, all-home}
use Rattle.std.proofs.lemmas.Result.{IfOk-weaker}
use Rattle.asp_team.proofs.RunLaws.{have-left}
use Rattle.asp_team.proofs.many.worked.Goals as goal

pub crew-lead-requires-clause-workers : goal.crew-lead-requires-clause-workers
crew-lead-requires-clause-workers g c κs w =
    all-may c.args.compiled.now c.args.plan.ask c.args.plan.budget c.args.team.shared c.args.team.lead c.args.team.workers.items c.requires.team.about
    c.requires.team.ready

pub finished-report-requires-clause-all : goal.finished-report-requires-clause-all
finished-report-requires-clause-all g c = (
  all-back (view c.args.team.lead.seat) (view c.crew-lead.result.seat) _ c.requires.team.ready.out c.crew-lead.ensures.joins,
  back-all c.args.team.lead.pages c.crew-lead.result.pages _ c.requires.team.ready.pages_out c.crew-lead.ensures.pages_join,
)

pub finished-report-requires-clause-idle : goal.finished-report-requires-clause-idle
finished-report-requires-clause-idle g c =
    let l = c.requires.team.lead in let k = c.crew-lead.ensures.lead in
    still-idle (view c.args.team.lead.seat) (view c.crew-lead.result.seat) _ c.requires.team.idle c.crew-lead.ensures.joins (k.first ∙ sym l.first)
    k.rests k.lawful c.args.team.lead.seat.own_seen c.crew-lead.result.seat.own_seen

pub finished-report-requires-clause-home : goal.finished-report-requires-clause-home
finished-report-requires-clause-home g c =
    all-home c.args.team.shared c.args.team.lead c.crew-lead.result c.args.team.workers.items c.requires.team.ready c.crew-lead.ensures.joins
    (λ k d lt. (c.crew-lead.ensures.came k d lt).home)

pub finished-report-requires-clause-about : goal.finished-report-requires-clause-about
finished-report-requires-clause-about g c = c.crew-lead.ensures.joins.about ∙ c.requires.team.about

pub returns-clause-heard : goal.returns-clause-heard
returns-clause-heard g c = g.met.W.Watch.goes_on c.args.watch c.crew-lead.new.watch c.finished-report.new.watch c.crew-lead.ensures.heard c.finished-report.ensures.heard

pub finished-report-requires-clause-some : goal.finished-report-requires-clause-some
finished-report-requires-clause-some g c = omega (arith, c.requires.some, c.requires.team.ready.out.splits, c.crew-lead.ensures.joins.splits)

pub returns-clause-shared : goal.returns-clause-shared
returns-clause-shared g c =
    IfOk-weaker c.finished-report.result _ _
    (λ r shared never h. shared never (view c.args.team.lead.seat).seen
    (have-left (g.H.Halt.never c.args.halt.now → ⊥) never (λ e s. s (h e)) c.args.team.shared c.args.team.lead c.crew-lead.result
    c.args.team.workers.items c.requires.team.forks c.requires.team.ready c.crew-lead.ensures.joins
    c.requires.team.lead.first c.crew-lead.ensures.lead.first c.args.team.lead.seat.own_seen c.crew-lead.result.seat.own_seen c.crew-lead.ensures.came)) c.finished-report.ensures.shared
