-- Number 0 adds events to a book's journal.
use Rattle.std.proofs.Common.{◌≡◌, List, [], ◌++◌, append_assoc, sym, ap, ◌∙◌, subst}
use Rattle.std.specs.List.{AllByRecursion}
use Rattle.std.proofs.lemmas.List.{append-nil}
use Rattle.asp_model.proofs.MemberLaws.{each-append}
use Rattle.asp_core.specs.declared.event.Event.{Event}
use Rattle.asp_core.specs.Events.{maker}
use Rattle.asp_book.specs.Books.{Booked, with_events}
use Rattle.asp_book.proofs.CallLaws.{journal-with}
use Rattle.asp_crew.specs.Running.{Adds}

pub adds-self : (v : Booked) → Adds v v
adds-self v = record { more = []; journal = sym (append-nil v.journal); main = tt }

pub adds-none : (v w : Booked) → w ≡ v → Adds v w
adds-none v w now = subst (Adds v) (sym now) (adds-self v)

pub adds-events : (v w : Booked) (events : List Event) → w ≡ with_events v events → AllByRecursion (λ e. maker e ≡ 0) events → Adds v w
adds-events v w events now main = record { more = events; journal = ap (λ (x : Booked). x.journal) now ∙ journal-with v events; main = main }

pub adds-trans : (u v w : Booked) → Adds u v → Adds v w → Adds u w
adds-trans u v w a b = record {
  more = a.more ++ b.more;
  journal = b.journal ∙ ap (λ (l : List Event). l ++ b.more) a.journal ∙ append_assoc u.journal a.more b.more;
  main = each-append (λ e. maker e ≡ 0) a.more b.more a.main b.main;
}
