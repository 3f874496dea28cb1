use Rattle.std.proofs.Common.{List, [], ◌∷◌, refl, sym, ap, ◌∙◌, subst, true, ◌≡◌}
use Rattle.asp_vars.specs.Conflicts.{has_all}
use Rattle.asp_vars.specs.Literals.{Literal}
use Rattle.asp_path.specs.Trees.{cube_of}
use Rattle.asp_core.specs.declared.event.Event.TheVariants as event
use Rattle.asp_book.specs.Books.{board, with_events}
use Rattle.asp_query.specs.declared.leaf.Left.{Left}
use Rattle.asp_query.specs.declared.leaf.Left.TheVariants as left
use Rattle.asp_query.specs.Turns.{IsThrough, Leaves}
use Rattle.asp_query.proofs.CloseLaws.{closes-by, same_cube}
use Rattle.asp_query.proofs.leaf.work_off.Goals as goal

pub returns-in-Exhausted-clause-leaves : goal.returns-in-Exhausted-clause-leaves
returns-in-Exhausted-clause-leaves g c = λ e.
    let through : IsThrough c.args.book.now c.run.new.book c.run.new.search c.run.new.fuel [] =
    subst (λ (how : Left). Leaves c.args.book.now c.run.new.book c.run.new.search c.run.new.fuel c.as_slice-2.result.now how) c.in-Exhausted.is c.in_ok-run.ensures.leaves in
    closes-by c.args.book.now c.run.new.book c.close.new.self c.args.leaf c.in_ok-cube.cube.items [] c.run.new.search c.run.new.fuel through
    c.requires.held c.in_ok-cube.ensures refl c.in_ok-close-in-Exhausted.ensures.ok

pub close-requires-in-Refuted-clause-within : goal.close-requires-in-Refuted-clause-within
close-requires-in-Refuted-clause-within g c =
    let leaves : Leaves c.args.book.now c.run.new.book c.run.new.search c.run.new.fuel c.as_slice-2.result.now (left.Refuted c.in-Refuted.refutation) =
    subst (λ (how : Left). Leaves c.args.book.now c.run.new.book c.run.new.search c.run.new.fuel c.as_slice-2.result.now how) c.in-Refuted.is c.in_ok-run.ensures.leaves in
    let within : has_all c.in_ok-cube.cube.items c.in-Refuted.refutation.items ≡ true =
    subst (λ (q : List Literal). has_all q c.in-Refuted.refutation.items ≡ true) c.as_slice-2.ensures.value leaves.1 in
    subst (λ (n : List Literal). has_all (cube_of (board c.run.new.book).nodes c.args.leaf) n ≡ true) (sym c.as_slice-in-Refuted.ensures.value)
    (ap (λ (x : List Literal). has_all x c.in-Refuted.refutation.items)
    (same_cube c.args.book.now c.run.new.book c.args.leaf c.in_ok-cube.cube.items leaves.0.only c.in_ok-cube.ensures) ∙ within)

pub returns-in-Refuted-clause-leaves : goal.returns-in-Refuted-clause-leaves
returns-in-Refuted-clause-leaves g c = λ e.
    let n : List Literal = c.in-Refuted.refutation.items in
    let leaves : Leaves c.args.book.now c.run.new.book c.run.new.search c.run.new.fuel c.as_slice-2.result.now (left.Refuted c.in-Refuted.refutation) =
    subst (λ (how : Left). Leaves c.args.book.now c.run.new.book c.run.new.search c.run.new.fuel c.as_slice-2.result.now how) c.in-Refuted.is c.in_ok-run.ensures.leaves in
    closes-by c.args.book.now c.run.new.book c.close-in-Refuted.new.self c.args.leaf c.in_ok-cube.cube.items n c.run.new.search c.run.new.fuel leaves.0
    c.requires.held c.in_ok-cube.ensures (subst (λ (q : List Literal). has_all q n ≡ true) c.as_slice-2.ensures.value leaves.1)
    (c.in_ok-close-in-Refuted.ensures.ok ∙ ap (λ (k : List Literal). with_events c.run.new.book (event.Close 0 c.args.leaf k ∷ [])) c.as_slice-in-Refuted.ensures.value)
