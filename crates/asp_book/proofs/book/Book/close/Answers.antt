use Rattle.std.proofs.Common.{◌≡◌, ◌-◌, List, [], ◌∷◌, length, refl, sym, ap, subst, arith}
use Rattle.std.specs.Prelude.{IsTrue}
use Rattle.std.proofs.lemmas.List.{length-append}
use Rattle.asp_vars.specs.Literals.{Literal}
use Rattle.asp_vars.specs.Conflicts.{has_all}
use Rattle.asp_vars.specs.Entailment.{HitsOnly}
use Rattle.asp_path.specs.declared.status.Status.TheVariants as status
use Rattle.asp_path.specs.Trees.{cube_of, status_of}
use Rattle.asp_core.specs.declared.event.Event.{Event}
use Rattle.asp_core.specs.declared.event.Event.TheVariants as event
use Rattle.asp_core.specs.Boards.{Board, is_excused}
use Rattle.asp_core.specs.Events.{Guard}
use Rattle.asp_book.specs.declared.book.Book.TheInside.{Inside}
use Rattle.asp_book.specs.Books.{board}
use Rattle.asp_book.specs.Fuels.{places_of}
use Rattle.asp_book.proofs.BookLaws.{IsOwnFuel-happens, IsStored-happens, state-is}
use Rattle.asp_core.proofs.PlaceLaws.{held_count-changed}
use Rattle.asp_book.proofs.book.Book.close.Goals as goal

pub invariant_of-self-2 : goal.invariant_of-self-2
invariant_of-self-2 c =
    let i : Inside = c.self.inside in
    let I = c.self.invariant in
    let n : List Literal = c.in_ok-first.first in
    let e : Event = event.Close c.args.by c.args.leaf n in
    let at : i.state.value ≡ board c.args.self.now = state-is i c.args.self.now I c.self.view_is in
    let same : c.args.nogood.now ≡ n = sym c.in_ok-first.ensures in
    let guard : Guard i.state.value e = (
      subst (λ (b : Board). status_of b.nodes c.args.leaf ≡ status.Held c.args.by) (sym at) c.requires.held,
      subst (λ (b : Board). IsTrue (has_all (cube_of b.nodes c.args.leaf) n)) (sym at)
          (subst (λ (l : List Literal). IsTrue (has_all (cube_of (board c.args.self.now).nodes c.args.leaf) l)) same c.requires.within),
      subst (λ (b : Board). HitsOnly b.task.program (is_excused b) n) (sym at)
          (subst (λ (l : List Literal). HitsOnly (board c.args.self.now).task.program (is_excused (board c.args.self.now)) l) same
          c.requires.settled),
    ) in
    IsStored-happens i (record i { state = c.write.new.state; journal = c.write.new.journal; places = i.places - 1 }) e I guard c.in_ok-write.ensures.state
    c.in_ok-write.ensures.journal (IsOwnFuel-happens i.state.value c.write.new.state.value e i.fuel guard c.in_ok-write.ensures.state refl refl I.fuel)
    (omega (arith, I.places, ap places_of c.in_ok-write.ensures.state, held_count-changed i.state.value.nodes c.args.leaf (status.Held c.args.by) status.Closed guard.0 refl))
    (omega (
      arith,
      I.places,
      I.room,
      ap places_of c.in_ok-write.ensures.state,
      held_count-changed i.state.value.nodes c.args.leaf (status.Held c.args.by) status.Closed guard.0 refl,
      ap length c.in_ok-write.ensures.journal,
      length-append i.journal.items (e ∷ []),
      c.write.ensures.capacity,
    ))
