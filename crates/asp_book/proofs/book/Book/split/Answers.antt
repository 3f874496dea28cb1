use Rattle.std.proofs.Common.{rules, ◌≡◌, false, List, [], ◌∷◌, ◌++◌, length, refl, sym, ap, ◌∙◌, subst, arith}
use Rattle.std.proofs.lemmas.List.{length-append}
use Rattle.asp_path.specs.declared.status.Status.TheVariants as status
use Rattle.asp_path.specs.Trees.{cube_of, status_of}
use Rattle.asp_core.specs.declared.event.Event.{Event}
use Rattle.asp_core.specs.declared.event.Event.TheVariants as event
use Rattle.asp_core.specs.Boards.{Board}
use Rattle.asp_core.specs.Events.{Guard, has_var, IsVariable}
use Rattle.asp_book.specs.declared.book.Book.TheInside.{Inside}
use Rattle.asp_book.specs.Books.{board}
use Rattle.asp_book.specs.Fuels.{places_of}
use Rattle.asp_book.proofs.BookLaws.{IsOwnFuel-happens, IsStored-happens, state-is}
use Rattle.asp_core.proofs.PlaceLaws.{held_count-split}
use Rattle.asp_book.proofs.book.Book.split.Goals as goal

pub invariant_of-self-2 : goal.invariant_of-self-2
invariant_of-self-2 c =
    let i : Inside = c.self.inside in
    let I = c.self.invariant in
    let e : Event = event.Split c.args.by c.args.leaf c.args.lit in
    let at : i.state.value ≡ board c.args.self.now = state-is i c.args.self.now I c.self.view_is in
    let guard : Guard i.state.value e = (
      subst (λ (b : Board). status_of b.nodes c.args.leaf ≡ status.Held c.args.by) (sym at) c.requires.held,
      search rules,
      subst (λ (b : Board). IsVariable b.task.program c.args.lit.var) (sym at) c.requires.variable,
      subst (λ (b : Board). has_var (cube_of b.nodes c.args.leaf) c.args.lit.var ≡ false) (sym at) c.requires.new,
    ) in
    let places : i.places ≡ places_of c.write.new.state.value =
    omega (
      arith,
      I.places,
      ap places_of c.in_ok-write.ensures.state,
      held_count-split i.state.value.nodes c.args.leaf c.args.by c.args.lit guard.0,
    ) in
    IsStored-happens i (record i { state = c.write.new.state; journal = c.write.new.journal }) e I guard c.in_ok-write.ensures.state
    (c.in_ok-write.ensures.journal ∙ ap (λ (l : List Event). l ++ e ∷ []) c.in_ok-make_room.ensures.items)
    (IsOwnFuel-happens i.state.value c.write.new.state.value e i.fuel guard c.in_ok-write.ensures.state refl refl I.fuel) places
    (omega (
      arith,
      ap length c.in_ok-write.ensures.journal,
      ap length c.in_ok-make_room.ensures.items,
      length-append c.make_room.new.journal.items (e ∷ []),
      c.write.ensures.capacity,
      c.in_ok-make_room.ensures.ok,
      c.write.new.journal.ok.0,
    ))
