use Rattle.std.proofs.Common.{◌≡◌, ℕ, ◌+◌, ◌<◌, cond, eqb, List, [], ◌∷◌, ◌++◌, length, ap, ◌∙◌, arith}
use Rattle.std.proofs.lemmas.List.{length-append}
use Rattle.asp_core.specs.declared.event.Event.{Event}
use Rattle.asp_core.specs.declared.event.Event.TheVariants as event
use Rattle.asp_core.specs.Units.{out_of}
use Rattle.asp_core.specs.Boards.{Board}
use Rattle.asp_core.specs.Events.{Guard}
use Rattle.asp_book.specs.declared.book.Book.TheInside.{Inside}
use Rattle.asp_book.specs.Fuels.{places_of}
use Rattle.asp_book.proofs.BookLaws.{IsOwnFuel-lease, IsStored-happens}
use Rattle.asp_book.proofs.PlaceLaws.{lessees-leased, one-at-most}
use Rattle.asp_book.proofs.book.Book.lease.Goals as goal

pub invariant_of-self-2 : goal.invariant_of-self-2
invariant_of-self-2 c =
    let i : Inside = c.self.inside in
    let I = c.self.invariant in
    let n : ℕ = c.min-n.result in
    let e : Event = event.Lease c.args.by n in
    let guard : Guard i.state.value e = omega (arith, c.min-n.ensures, c.pool.ensures, ap (λ (b : Board). b.pool) c.deref.ensures) in
    let some : 0 < n = omega (arith, c.if-n-eq0.false) in
    let more : c.one_if_zero-more.result ≡ cond (eqb (out_of i.state.value.out c.args.by) 0) 1 0 =
    c.one_if_zero-more.ensures ∙ ap (λ k. let m : ℕ = cond (eqb k 0) 1 0 in m)
    (c.units_out.ensures ∙ ap (λ (b : Board). out_of b.out c.args.by) c.deref-2.ensures) in
    let places : i.places + c.one_if_zero-more.result ≡ places_of c.write.new.state.value =
    omega (arith, I.places, more, lessees-leased i.state.value.out c.args.by n some, ap places_of c.in_ok-write.ensures.state) in
    IsStored-happens i (record i {
      state = c.write.new.state;
      journal = c.write.new.journal;
      fuel = c.part-2.new.self;
      places =
          i.places + c.one_if_zero-more.result;
    }) e I guard c.in_ok-write.ensures.state
    (c.in_ok-write.ensures.journal ∙ ap (λ (l : List Event). l ++ e ∷ []) c.in_ok-make_room.ensures.items)
    (IsOwnFuel-lease i.state.value c.write.new.state.value c.args.by n i.fuel c.part-2.new.self c.in_ok-write.ensures.state c.part-2.ensures.rest
    I.fuel) places
    (omega (
      arith,
      more,
      one-at-most (eqb (out_of i.state.value.out c.args.by) 0),
      ap length c.in_ok-write.ensures.journal,
      ap length c.in_ok-make_room.ensures.items,
      length-append c.make_room.new.journal.items (e ∷ []),
      c.write.ensures.capacity,
      c.in_ok-make_room.ensures.ok,
      c.write.new.journal.ok.0,
    ))
