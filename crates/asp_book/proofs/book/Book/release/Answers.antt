use Rattle.std.proofs.Common.{◌≡◌, ◌-◌, [], ◌∷◌, length, refl, sym, ap, subst, arith}
use Rattle.std.proofs.lemmas.List.{length-append}
use Rattle.asp_path.specs.declared.status.Status.TheVariants as status
use Rattle.asp_path.specs.Trees.{status_of}
use Rattle.asp_core.specs.declared.event.Event.{Event}
use Rattle.asp_core.specs.declared.event.Event.TheVariants as event
use Rattle.asp_core.specs.Boards.{Board}
use Rattle.asp_core.specs.Events.{Guard}
use Rattle.asp_book.specs.declared.book.Book.TheInside.{Inside}
use Rattle.asp_book.specs.Books.{board}
use Rattle.asp_book.specs.Fuels.{places_of}
use Rattle.asp_book.proofs.BookLaws.{IsOwnFuel-happens, IsStored-happens, state-is}
use Rattle.asp_core.proofs.PlaceLaws.{held_count-changed}
use Rattle.asp_book.proofs.book.Book.release.Goals as goal

pub invariant_of-self : goal.invariant_of-self
invariant_of-self c =
    let i : Inside = c.self.inside in
    let I = c.self.invariant in
    let e : Event = event.Release c.args.by c.args.leaf in
    let at : i.state.value ≡ board c.args.self.now = state-is i c.args.self.now I c.self.view_is in
    let guard : Guard i.state.value e = subst (λ (b : Board). status_of b.nodes c.args.leaf ≡ status.Held c.args.by) (sym at) c.requires in
    let was = held_count-changed i.state.value.nodes c.args.leaf (status.Held c.args.by) status.Open guard refl in
    IsStored-happens i (record i { state = c.write-written.new.state; journal = c.write-written.new.journal; places = i.places - 1 }) e I guard c.in-Ok.ensures.state
    c.in-Ok.ensures.journal (IsOwnFuel-happens i.state.value c.write-written.new.state.value e i.fuel guard c.in-Ok.ensures.state refl refl I.fuel)
    (omega (arith, I.places, ap places_of c.in-Ok.ensures.state, was))
    (omega (arith, I.places, I.room, ap places_of c.in-Ok.ensures.state, was, ap length c.in-Ok.ensures.journal, length-append i.journal.items (e ∷ []), c.write-written.ensures.capacity))
