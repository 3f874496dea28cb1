use Rattle.std.proofs.Common.{◌<◌, ℕ, List, [], length, get_or, ap, ◌∙◌, subst, sym}
use Rattle.std.proofs.lemmas.List.{length-set}
use Rattle.asp_table.specs.declared.columns.Occurrence.{Occurrence}
use Rattle.asp_table.proofs.ColumnLaws.{add_step}
use Rattle.asp_table.proofs.columns.add_row.Goals as goal

pub loop-place-preserved : goal.loop-place-preserved
loop-place-preserved c =
    let base : List (List Occurrence) = c.args.columns.now in
    let columns : List (List Occurrence) = c.loop-place.columns in
    let i : ℕ = c.loop-place.place in
    let keys : List ℕ = c.args.keys.now in
    let within : get_or keys i 0 < length columns = subst (λ (n : ℕ). get_or keys i 0 < n) (sym c.loop-place.invariant.count) (c.requires.within i 0 c.loop-place-test.true) in
    record {
      count = ap length c.in_ok-add.ensures ∙ simp length-set c.loop-place.invariant.count;
      cells = λ k lt.
          ap (λ (t : List (List Occurrence)). get_or t k []) c.in_ok-add.ensures
          ∙ add_step base columns c.args.body i k keys c.loop-place-test.true within (c.requires.new k lt) (c.loop-place.invariant.cells k lt);
    }
