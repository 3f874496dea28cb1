use Rattle.std.proofs.Common.{◌≡◌, ◌+◌, ◌*◌, ◌<◌, ℕ, IfOk, List, length, map, min, ℤ, ap, sym, subst, arith}
use Rattle.std.specs.List.{All}
use Rattle.asp_model.specs.declared.program.Minimize.{Minimize}
use Rattle.asp_model.specs.Holding.{atom_of}
use Rattle.asp_unfold.specs.declared.table.Definition.{Definition}
use Rattle.asp_unfold.specs.Tables.{AreDefinitions, table_minimize}
use Rattle.asp_unfold.specs.Unfolded.{unfolded_minimize}
use Rattle.asp_unfold.proofs.TableLaws.{statements-are}
use Rattle.asp_unfold.proofs.unfold.unfolded_statements.Goals as goal

abbrev are_low : ℕ → List Minimize → Type 0
are_low n ms = All (λ (m : Minimize). All (λ (i : ℤ × ℤ). atom_of i.0 < n) m.items) ms

pub returns : goal.returns
returns c =
    let rules = c.args.rules.now in
    let table = c.as_slice-2.result.now in
    let are : AreDefinitions rules table = subst (AreDefinitions rules) (sym c.as_slice-2.ensures.value) c.in_ok-table.ensures.each in
    let len : length table ≡ min c.above.result (16 * (length rules + 1)) =
    omega (
      arith,
      ap (λ (t : List Definition). length t) c.as_slice-2.ensures.value,
      c.in_ok-table.ensures.len,
      c.min-places.ensures,
      c.len.ensures,
    ) in
    let low : are_low c.above.result c.args.statements = subst (are_low c.above.result) c.as_slice.ensures.value c.above.ensures.above in
    let is : map (table_minimize table) c.args.statements ≡ map (unfolded_minimize rules) c.args.statements = statements-are rules table c.above.result c.args.statements are len low in
    subst (λ (ms : List Minimize). IfOk c.replaced_statements.result (λ new. new ≡ ms)) is c.replaced_statements.ensures
