use Rattle.std.proofs.Common.{◌≡◌, ◌+◌, List, [], ◌∷◌, ◌++◌, length, refl, sym, ap, ◌∙◌, subst, arith}
use Rattle.std.proofs.lemmas.List.{length-append}
use Rattle.asp_path.specs.declared.status.Status.TheVariants as status
use Rattle.asp_core.specs.declared.event.Event.{Event}
use Rattle.asp_core.specs.declared.event.Event.TheVariants as event
use Rattle.asp_core.specs.Boards.{Board}
use Rattle.asp_core.specs.Events.{Guard}
use Rattle.asp_book.specs.declared.book.Book.TheInside.{Inside}
use Rattle.asp_book.specs.Fuels.{places_of}
use Rattle.asp_book.proofs.BookLaws.{IsOwnFuel-happens, IsStored-happens, state-is}
use Rattle.asp_core.proofs.PlaceLaws.{held_count-changed}
use Rattle.asp_book.proofs.book.Book.hold.Goals as goal

pub invariant_of-self-2 : goal.invariant_of-self-2
invariant_of-self-2 c =
    let i : Inside = c.self.inside in
    let I = c.self.invariant in
    let e : Event = event.Take c.args.by c.args.leaf in
    let guard : Guard i.state.value e = subst (λ (b : Board). Guard b e) (sym (state-is i c.args.self.now I c.self.view_is)) c.requires in
    let places : i.places + 1 ≡ places_of c.write.new.state.value =
    omega (
      arith,
      I.places,
      ap places_of c.in_ok-write.ensures.state,
      held_count-changed i.state.value.nodes c.args.leaf status.Open (status.Held c.args.by) guard.0 refl,
    ) in
    IsStored-happens i (record i { state = c.write.new.state; journal = c.write.new.journal; places = i.places + 1 }) e I guard
    c.in_ok-write.ensures.state (c.in_ok-write.ensures.journal ∙ ap (λ (l : List Event). l ++ e ∷ []) c.in_ok-make_room.ensures.items)
    (IsOwnFuel-happens i.state.value c.write.new.state.value e i.fuel guard c.in_ok-write.ensures.state refl refl I.fuel) places
    (omega (
      arith,
      ap length c.in_ok-write.ensures.journal,
      ap length c.in_ok-make_room.ensures.items,
      length-append c.make_room.new.journal.items (e ∷ []),
      c.write.ensures.capacity,
      c.in_ok-make_room.ensures.ok,
      c.write.new.journal.ok.0,
    ))
