use Rattle.std.proofs.Common.{[], refl, ap, ◌∙◌}
use Rattle.asp_model.specs.Sets.{Atoms}
use Rattle.asp_rows.specs.Listed.{Listed}
use Rattle.asp_parts.proofs.EndLaws.{journal-is, telling-over}
use Rattle.asp_parts.proofs.end.told.Goals as goal

pub returns : goal.returns
returns c = λ heard wants is few over.
    telling-over c.args.compiled.now c.args.budget heard wants _ c.args.all over few c.end_of.ensures
    (c.new-rest.ensures ∙ ap (λ (A : Atoms). let l : Listed = record { atoms = A; sets = [] } in l) (c.in_ok-copy.ensures ∙ c.atoms.ensures))
    (c.from_vec.ensures
    ∙ journal-is c.args.compiled.now c.args.budget heard c.args.journal.items c.push.new.self.items c.push-2.new.self.items c.of.result c.of-2.result c.in_ok-root.root is
    c.in_ok-push.ensures.items c.of.ensures c.in_ok-push-2.ensures.items c.of-2.ensures c.in_ok-root.ensures)
    refl c.of-3.ensures
