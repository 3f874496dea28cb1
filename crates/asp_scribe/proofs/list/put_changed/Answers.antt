use Rattle.std.proofs.Common.{List, ℕ, ap, filter, flat_map, length}
use Rattle.std.specs.Option.{option_copied}
use Rattle.asp_buffer.proofs.OutLaws.{puts_fails, puts_same, puts_then}
use Rattle.asp_proof.specs.Texts.{atoms_fields, natural_field}
use Rattle.asp_scribe.specs.Lists.{differs, set_of}
use Rattle.asp_scribe.proofs.ListLaws.{changed-row}
use Rattle.asp_scribe.proofs.list.put_changed.Goals as goal

pub returns-in_err-put_field : goal.returns-in_err-put_field
returns-in_err-put_field g c =
    let D = filter (differs (set_of (option_copied c.args.last)) c.args.row.now.set) c.args.atoms.now in
    puts_same _ _ _ (atoms_fields D) _
    (puts_fails _ _ _ _ _ (natural_field (length D)) (flat_map natural_field D) (rw c.count_changed.ensures at c.in_err-put_field.ensures) c.from_residual.ensures.1)
    (ap (λ (S : List ℕ). atoms_fields S) (changed-row c.args.atoms.now c.args.last c.args.row.now c.requires.ascending c.requires.last c.requires.row))

pub returns : goal.returns
returns g c =
    let D = filter (differs (set_of (option_copied c.args.last)) c.args.row.now.set) c.args.atoms.now in
    puts_same _ _ _ (atoms_fields D) _
    (puts_then _ _ _ _ _ (natural_field (length D)) (flat_map natural_field D) (rw c.count_changed.ensures at c.in_ok-put_field.ensures) c.put_each_changed.ensures)
    (ap (λ (S : List ℕ). atoms_fields S) (changed-row c.args.atoms.now c.args.last c.args.row.now c.requires.ascending c.requires.last c.requires.row))
