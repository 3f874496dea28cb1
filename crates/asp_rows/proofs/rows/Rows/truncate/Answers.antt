use Rattle.std.proofs.Common.{List, map, take, sym, ap, ◌∙◌}
use Rattle.std.proofs.lemmas.List.{take-map}
use Rattle.asp_model.specs.Sets.{Atoms}
use Rattle.asp_rows.specs.declared.row.Row.{Row}
use Rattle.asp_rows.specs.Listed.{Listed}
use Rattle.asp_rows.proofs.rows.Rows.truncate.Goals as goal

abbrev listed : Atoms → List Atoms → Listed
listed atoms sets = record { atoms = atoms; sets = sets }

pub returns : goal.returns
returns c =
    ap (λ (t : List Row). listed c.self.inside.atoms (map (λ (x : Row). x.set) t)) c.truncate.ensures.items
    ∙ ap (listed c.self.inside.atoms) (sym (take-map (λ (x : Row). x.set) c.args.len c.self.inside.rows.items))
    ∙ ap (λ (l : Listed). listed l.atoms (take c.args.len l.sets)) c.self.view_is
