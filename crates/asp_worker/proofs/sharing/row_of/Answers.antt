use Rattle.std.proofs.Common.{ap, ◌∙◌}
use Rattle.asp_model.specs.Sets.{Atoms}
use Rattle.asp_rows.specs.Bits.{encode}
use Rattle.asp_worker.proofs.sharing.row_of.Goals as goal

pub returns : goal.returns
returns g c = record {
  words = c.in_ok-row.ensures.words ∙ ap (λ (L : Atoms). encode L c.args.set.now) (c.as_slice-atoms.ensures.value ∙ c.atoms.ensures);
  set = c.in_ok-row.ensures.set;
}
