use Rattle.std.proofs.Common.{◌≡◌, false, List, [], ◌∷◌, ◌++◌, length, refl, sym, ap, ◌∙◌, subst, arith}
use Rattle.std.specs.Prelude.{IsTrue}
use Rattle.std.proofs.lemmas.List.{length-append}
use Rattle.asp_core.specs.declared.event.Event.{Event}
use Rattle.asp_core.specs.declared.event.Event.TheVariants as event
use Rattle.asp_core.specs.Boards.{Board, is_answer, is_excused, optimises}
use Rattle.asp_core.specs.Events.{Guard}
use Rattle.asp_book.specs.declared.book.Book.TheInside.{Inside}
use Rattle.asp_book.specs.Books.{board}
use Rattle.asp_book.specs.Fuels.{places_of}
use Rattle.asp_book.proofs.BookLaws.{IsOwnFuel-happens, IsStored-happens, state-is}
use Rattle.asp_book.proofs.book.Book.improve.Goals as goal

pub invariant_of-self-2 : goal.invariant_of-self-2
invariant_of-self-2 c =
    let i : Inside = c.self.inside in
    let I = c.self.invariant in
    let e : Event = event.Improve c.args.by c.args.set in
    let at : i.state.value ≡ board c.args.self.now = state-is i c.args.self.now I c.self.view_is in
    let guard : Guard i.state.value e = (
      subst (λ (b : Board). IsTrue (optimises b.task.goal)) (sym at) c.requires.goal,
      subst (λ (b : Board). IsTrue (is_answer b.task c.args.set)) (sym at) c.requires.answer,
      subst (λ (b : Board). is_excused b c.args.set ≡ false) c.deref.ensures (c.in_ok-best.ensures.none c.in_default.is),
    ) in
    let places : i.places ≡ places_of c.write.new.state.value = I.places ∙ sym (ap places_of c.in_ok-write.ensures.state) in
    IsStored-happens i (record i { state = c.write.new.state; journal = c.write.new.journal }) e I guard c.in_ok-write.ensures.state
    (c.in_ok-write.ensures.journal ∙ ap (λ (l : List Event). l ++ e ∷ []) c.in_ok-make_room.ensures.items)
    (IsOwnFuel-happens i.state.value c.write.new.state.value e i.fuel guard c.in_ok-write.ensures.state refl refl I.fuel) places
    (omega (
      arith,
      ap length c.in_ok-write.ensures.journal,
      ap length c.in_ok-make_room.ensures.items,
      length-append c.make_room.new.journal.items (e ∷ []),
      c.write.ensures.capacity,
      c.in_ok-make_room.ensures.ok,
      c.write.new.journal.ok.0,
    ))
