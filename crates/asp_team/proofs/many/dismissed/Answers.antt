use Rattle.asp_vault.specs.Seats.{view}
use Rattle.asp_team.proofs.IdleLaws.{crew-closed, idle-closed, task-closed}
use Rattle.asp_team.proofs.many.dismissed.Goals as goal

pub returns-clause-task : goal.returns-clause-task
returns-clause-task c =
    task-closed (view c.args.lead.seat) (view c.look.new.seat) c.close.result c.requires.idle c.requires.lead.first c.args.lead.seat.own_seen c.requires.home c.look.ensures.view c.look.ensures.learnt
    c.close.ensures.continues c.close.ensures.named c.close.ensures.guests c.close.ensures.about c.close.ensures.sound

pub returns-clause-idle : goal.returns-clause-idle
returns-clause-idle c =
    idle-closed (view c.args.lead.seat) (view c.look.new.seat) c.close.result c.requires.idle c.requires.lead.first c.args.lead.seat.own_seen c.requires.home c.look.ensures.view c.look.ensures.learnt
    c.close.ensures.continues c.close.ensures.named c.close.ensures.guests c.close.ensures.about c.close.ensures.sound

pub returns-clause-crew : goal.returns-clause-crew
returns-clause-crew c = λ never begun left.
    crew-closed (view c.args.lead.seat) (view c.look.new.seat) c.close.result c.requires.idle c.requires.lead.first c.args.lead.seat.own_seen c.requires.home c.look.ensures.view c.look.ensures.learnt
    c.close.ensures.continues c.close.ensures.named c.close.ensures.guests c.close.ensures.about c.close.ensures.sound c.args.lead.short never begun left.rest left.seen left.forks left.since left.gone
