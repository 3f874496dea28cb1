use Rattle.std.proofs.Common.{◌≡◌, ◌<◌, ◌+◌, ◌^◌, ℕ, All, length, sym, ap, ◌∙◌, subst}
use Rattle.asp_model.specs.declared.program.Program.{Program}
use Rattle.asp_model.specs.Models.{atoms_of}
use Rattle.asp_table.specs.Columns.{IsRead}
use Rattle.asp_vars.specs.Numbering.{number_count}
use Rattle.asp_compile.proofs.NumberedLaws.{supports_are, supports_small, heads_within}
use Rattle.asp_compile.proofs.numbered.Numbered.supports.Goals as goal

pub columns-requires-clause-within : goal.columns-requires-clause-within
columns-requires-clause-within c =
    let p : Program = c.args.self.now in
    let atoms : length c.as_slice-count.result.now ≡ length (atoms_of p) = ap length (c.as_slice-count.ensures.value ∙ c.self.invariant.atoms ∙ ap atoms_of c.self.view_is) in
    subst (λ (n : ℕ). All (λ row. All (λ k. k < n + 1) row) c.args.heads.now) (sym atoms) (heads_within p c.args.heads.now c.requires)

pub support_rows-requires : goal.support_rows-requires
support_rows-requires c =
    let p : Program = c.args.self.now in
    let atoms : length c.as_slice-count.result.now ≡ length (atoms_of p) = ap length (c.as_slice-count.ensures.value ∙ c.self.invariant.atoms ∙ ap atoms_of c.self.view_is) in
    let few : number_count p < 2 ^ 31 = subst (λ (q : Program). number_count q < 2 ^ 31) c.self.view_is c.self.invariant.few in
    let read : IsRead c.in_ok-rows.rows (length (atoms_of p) + 1) c.args.heads.now = subst (λ (n : ℕ). IsRead c.in_ok-rows.rows (n + 1) c.args.heads.now) atoms c.in_ok-rows.ensures in
    supports_small p (length c.as_slice-count.result.now + 1) c.args.heads.now c.in_ok-rows.rows (ap (λ (n : ℕ). n + 1) atoms) c.requires read few

pub returns : goal.returns
returns c =
    let p : Program = c.args.self.now in
    let atoms : length c.as_slice-count.result.now ≡ length (atoms_of p) = ap length (c.as_slice-count.ensures.value ∙ c.self.invariant.atoms ∙ ap atoms_of c.self.view_is) in
    let read : IsRead c.in_ok-rows.rows (length (atoms_of p) + 1) c.args.heads.now = subst (λ (n : ℕ). IsRead c.in_ok-rows.rows (n + 1) c.args.heads.now) atoms c.in_ok-rows.ensures in
    supports_are p (length c.as_slice-count.result.now + 1) c.args.heads.now c.in_ok-supports.supports c.in_ok-rows.rows (ap (λ (n : ℕ). n + 1) atoms) c.requires read c.in_ok-supports.ensures
