use Rattle.std.proofs.Common.{◌∙◌}
use Rattle.std.proofs.lemmas.Bool.{or_left, or_right}
use Rattle.asp_vault.specs.Seats.{view}
use Rattle.asp_book.specs.Books.{IsJournalOf}
use Rattle.asp_book.specs.Calls.{Knows, task_of}
use Rattle.asp_team.proofs.JoinLaws.{merged-joins, joined-lawful, lead-joined, still-home, still-gone, came-home, came-gone}
use Rattle.asp_team.proofs.crew.joined.Goals as goal

pub returns-clause-lead : goal.returns-clause-lead
returns-clause-lead c =
    let v : Knows = view c.args.lead.seat in let u : Knows = view c.args.worker.seat in let w : Knows = view c.join.new.seat in
    let lawful : IsJournalOf (task_of w) w.seen =
    joined-lawful v u w c.requires.back.about_is c.join.ensures.view c.join.ensures.begins c.join.ensures.guests c.requires.lead.lawful
    c.requires.back.idle.settled.seated.lawful in
    lead-joined c.args.shared.now c.args.lead _ u c.requires.lead c.join.ensures.of c.join-2.ensures.at c.join-2.ensures.first c.join.ensures.view lawful

pub returns-clause-joins : goal.returns-clause-joins
returns-clause-joins c = merged-joins (view c.args.lead.seat) (view c.args.worker.seat) (view c.join.new.seat) c.join.ensures.view c.join.ensures.begins.0

pub returns-clause-stay : goal.returns-clause-stay
returns-clause-stay c =
    let v : Knows = view c.args.lead.seat in let u : Knows = view c.args.worker.seat in let w : Knows = view c.join.new.seat in
    λ n h. (
      still-home v u w c.requires.back.about_is c.join.ensures.view c.join.ensures.begins c.join.ensures.guests c.requires.lead.lawful c.requires.back.idle.settled.seated.lawful n h,
      still-gone v u w c.requires.back.about_is c.join.ensures.view c.join.ensures.begins c.join.ensures.guests c.requires.lead.lawful
          c.requires.back.idle.settled.seated.lawful n h c.args.lead.short c.either-short.result
          (λ e. c.either-short.ensures ∙ or_left c.args.lead.short c.args.worker.short e),
    )

pub returns-clause-came : goal.returns-clause-came
returns-clause-came c =
    let v : Knows = view c.args.lead.seat in let u : Knows = view c.args.worker.seat in let w : Knows = view c.join.new.seat in
    let b = c.requires.back in
    record {
      home = came-home v u w b.about_is c.join.ensures.view c.join.ensures.begins c.join.ensures.guests c.requires.lead.lawful
          b.idle.settled.seated.lawful c.args.worker.seat.own_seen b.idle.free b.idle.home;
      gone = came-gone v u w b.about_is c.join.ensures.view c.join.ensures.begins c.join.ensures.guests c.requires.lead.lawful
          b.idle.settled.seated.lawful c.args.worker.seat.own_seen c.args.worker.short c.either-short.result
          (λ e. c.either-short.ensures ∙ or_right c.args.lead.short c.args.worker.short e);
    }
