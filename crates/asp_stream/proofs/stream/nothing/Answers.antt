use Rattle.std.proofs.Common.{[], sym, ◌∙◌, subst}
use Rattle.std.proofs.lemmas.Bool.{false≢true}
use Rattle.asp_model.specs.Models.{atoms_of}
use Rattle.asp_rows.specs.Bits.{IsAmong}
use Rattle.asp_stream.proofs.LowLaws.{row-if}
use Rattle.asp_stream.proofs.stream.nothing.Goals as goal

pub returns-clause-row : goal.returns-clause-row
returns-clause-row c =
    let none : IsAmong (atoms_of c.args.compiled.now) [] = record { rising = tt; stand = λ a h. absurd (false≢true h) } in
    row-if c.of-2.result c.as_slice.result.now (atoms_of c.args.compiled.now) c.new.result (c.as_slice.ensures.value ∙ c.atoms.ensures)
    (subst (IsAmong (atoms_of c.args.compiled.now)) (sym c.new.ensures) none) c.of-2.ensures.words c.of-2.ensures.set
