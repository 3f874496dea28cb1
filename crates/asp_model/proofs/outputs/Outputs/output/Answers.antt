use Rattle.std.proofs.Common.{◌<◌, ℕ, ℤ, List, [], length, get_or, sym, ap, ◌∙◌, subst, arith}
use Rattle.asp_model.specs.declared.program.Output.{Output}
use Rattle.asp_model.specs.Stored.{output_of}
use Rattle.asp_model.proofs.ZippedLaws.{length-zipped, length-second, first_at, zipped-at}
use Rattle.asp_model.proofs.outputs.Outputs.output.Goals as goal

pub index-row-requires : goal.index-row-requires
index-row-requires c = omega (
  arith,
  c.requires,
  length-zipped (λ k. k < length c.self.inside.conditions) (output_of c.self.inside.conditions) c.self.inside.rows.items c.self.inside.texts
      c.self.invariant,
  ap length c.self.view_is,
)

pub row-requires : goal.row-requires
row-requires c =
    let rows = length-zipped (λ k. k < length c.self.inside.conditions) (output_of c.self.inside.conditions) c.self.inside.rows.items c.self.inside.texts c.self.invariant in
    omega (arith, c.requires, rows, length-second (λ k. k < length c.self.inside.conditions) c.self.inside.rows.items c.self.inside.texts c.self.invariant, ap length c.self.view_is)

pub row-requires-2 : goal.row-requires-2
row-requires-2 c =
    let ks : List ℕ = c.self.inside.rows.items in
    let rows = length-zipped (λ k. k < length c.self.inside.conditions) (output_of c.self.inside.conditions) ks c.self.inside.texts c.self.invariant in
    let lt : c.args.output < length ks = omega (arith, c.requires, rows, ap length c.self.view_is) in
    subst (λ (k : ℕ). k < length c.self.inside.conditions) (sym c.index-row.ensures)
    (first_at (λ k. k < length c.self.inside.conditions) ks c.self.inside.texts c.args.output c.index-row.result.now c.self.invariant lt)

pub returns : goal.returns
returns c =
    let conditions : List (List ℤ) = c.self.inside.conditions in
    let ks : List ℕ = c.self.inside.rows.items in
    let texts : List (List ℕ) = c.self.inside.texts in
    let rows = length-zipped (λ k. k < length conditions) (output_of conditions) ks texts c.self.invariant in
    let lt : c.args.output < length ks = omega (arith, c.requires, rows, ap length c.self.view_is) in
    let seen : Output = record { text = c.row.result.now; condition = c.row-2.result.now } in
    let condition = c.row-2.ensures ∙ ap (λ (k : ℕ). get_or conditions k []) c.index-row.ensures in
    let text = c.row.ensures in
    (λ i. let o : Output = record { text = text i; condition = condition i } in o)
    ∙ sym (zipped-at (λ k. k < length conditions) (output_of conditions) ks texts c.args.output c.index-row.result.now [] seen c.self.invariant lt)
    ∙ ap (λ (os : List Output). get_or os c.args.output seen) c.self.view_is
