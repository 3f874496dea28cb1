use Rattle.std.proofs.Common.{◌≡◌, ◌<◌, ◌+◌, ◌*◌, ℕ, All, length, sym, ap, ◌∙◌, subst}
use Rattle.asp_model.specs.declared.program.Program.{Program}
use Rattle.asp_model.specs.Models.{atoms_of}
use Rattle.asp_table.specs.Columns.{IsRead}
use Rattle.asp_compile.proofs.NumberedLaws.{occurrences_are, codes_within}
use Rattle.asp_compile.proofs.numbered.Numbered.occurrences.Goals as goal

pub columns-requires-clause-within : goal.columns-requires-clause-within
columns-requires-clause-within c =
    let p : Program = c.args.self.now in
    let atoms : length c.as_slice.result.now ≡ length (atoms_of p) = ap length (c.as_slice.ensures.value ∙ c.self.invariant.atoms ∙ ap atoms_of c.self.view_is) in
    subst (λ (n : ℕ). All (λ row. All (λ k. k < 2 * n + 2) row) c.in_ok-codes.codes) (sym atoms) (codes_within p c.in_ok-codes.codes c.args.literals.now c.in_ok-codes.ensures c.requires)

pub returns : goal.returns
returns c =
    let p : Program = c.args.self.now in
    let atoms : length c.as_slice.result.now ≡ length (atoms_of p) = ap length (c.as_slice.ensures.value ∙ c.self.invariant.atoms ∙ ap atoms_of c.self.view_is) in
    occurrences_are p c.in_ok-codes.codes c.args.literals.now c.in_ok-rows.rows c.in_ok-codes.ensures c.requires
    (subst (λ (n : ℕ). IsRead c.in_ok-rows.rows (2 * n + 2) c.in_ok-codes.codes) atoms c.in_ok-rows.ensures)
