use Rattle.std.proofs.Common.{◌≡◌, ◌+◌, ◌-◌, [], ◌∷◌, length, sym, ap, ◌∙◌, subst, arith}
use Rattle.std.proofs.lemmas.List.{length-append}
use Rattle.asp_core.specs.declared.event.Event.{Event}
use Rattle.asp_core.specs.declared.event.Event.TheVariants as event
use Rattle.asp_core.specs.Boards.{Board}
use Rattle.asp_core.specs.Invariant.{IsBoard}
use Rattle.asp_core.specs.Units.{out_of}
use Rattle.asp_book.specs.declared.book.Book.TheInside.{Inside}
use Rattle.asp_book.specs.Books.{board}
use Rattle.asp_book.specs.Fuels.{Fits, places_of}
use Rattle.asp_book.proofs.BookLaws.{IsOwnFuel-back, IsStored-happens, state-is, units-fit}
use Rattle.asp_book.proofs.PlaceLaws.{lessees-less}
use Rattle.asp_book.proofs.book.Book.back.Goals as goal

pub write-written-requires-clause-room : goal.write-written-requires-clause-room
write-written-requires-clause-room c =
    let i : Inside = c.self.inside in
    let I = c.self.invariant in
    let at : i.state.value ≡ board c.args.self.now = state-is i c.args.self.now I c.self.view_is in
    let units : c.left-left.result + c.burnt-burnt.result ≡ out_of i.state.value.out c.args.by =
    omega (arith, c.left-left.ensures.left, c.burnt-burnt.ensures.burnt, c.requires.1, ap (λ (b : Board). out_of b.out c.args.by) at) in
    omega (arith, I.places, I.room, lessees-less i.state.value.out c.args.by _ units c.if-left-burnt-eq0.false)

pub merge-requires-clause-fits : goal.merge-requires-clause-fits
merge-requires-clause-fits c =
    let i : Inside = c.self.inside in
    let I = c.self.invariant in
    let at : i.state.value ≡ board c.args.self.now = state-is i c.args.self.now I c.self.view_is in
    let units : c.args.fuel.left + c.args.fuel.burnt ≡ out_of i.state.value.out c.args.by = c.requires.1 ∙ ap (λ (b : Board). out_of b.out c.args.by) (sym at) in
    let board-is : IsBoard i.state.value = subst IsBoard c.deref.ensures c.budget-budget.ensures.board in
    omega (
      arith,
      units-fit i.state.value c.args.by i.fuel c.args.fuel board-is I.fuel units,
      c.budget-budget.ensures.budget,
      c.budget-budget.ensures.fits,
      ap (λ (b : Board). b.task.budget) c.deref.ensures,
    )

pub overflow_sub-self : goal.overflow_sub-self
overflow_sub-self c =
    let i : Inside = c.self.inside in
    let I = c.self.invariant in
    let at : i.state.value ≡ board c.args.self.now = state-is i c.args.self.now I c.self.view_is in
    let units : c.left-left.result + c.burnt-burnt.result ≡ out_of i.state.value.out c.args.by =
    omega (arith, c.left-left.ensures.left, c.burnt-burnt.ensures.burnt, c.requires.1, ap (λ (b : Board). out_of b.out c.args.by) at) in
    omega (arith, I.places, lessees-less i.state.value.out c.args.by _ units c.if-left-burnt-eq0.false)

pub invariant_of-self : goal.invariant_of-self
invariant_of-self c =
    let i : Inside = c.self.inside in
    let I = c.self.invariant in
    let e : Event = event.Back c.args.by c.left-left.result c.burnt-burnt.result in
    let at : i.state.value ≡ board c.args.self.now = state-is i c.args.self.now I c.self.view_is in
    let units : c.left-left.result + c.burnt-burnt.result ≡ out_of i.state.value.out c.args.by =
    omega (arith, c.left-left.ensures.left, c.burnt-burnt.ensures.burnt, c.requires.1, ap (λ (b : Board). out_of b.out c.args.by) at) in
    let fits : Fits i.state.value c.args.fuel = subst (λ (b : Board). Fits b c.args.fuel) (sym at) c.requires.0 in
    let less = lessees-less i.state.value.out c.args.by _ units c.if-left-burnt-eq0.false in
    IsStored-happens i (record i { state = c.write-written.new.state; journal = c.write-written.new.journal; fuel = c.merge.new.self; places = i.places - 1 }) e I units c.in-Ok.ensures.state
    c.in-Ok.ensures.journal
    (IsOwnFuel-back i.state.value c.write-written.new.state.value c.args.by c.left-left.result c.burnt-burnt.result i.fuel c.args.fuel
    c.merge.new.self c.in-Ok.ensures.state c.left-left.ensures.left c.burnt-burnt.ensures.burnt c.merge.ensures fits I.fuel)
    (omega (arith, I.places, ap places_of c.in-Ok.ensures.state, less))
    (omega (arith, I.places, I.room, ap places_of c.in-Ok.ensures.state, less, ap length c.in-Ok.ensures.journal, length-append i.journal.items (e ∷ []), c.write-written.ensures.capacity))
