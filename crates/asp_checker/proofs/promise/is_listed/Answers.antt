use Rattle.std.proofs.Common.{List, sym, subst, ◌∙◌}
use Rattle.std.specs.Prelude.{Contains}
use Rattle.asp_model.specs.Sets.{Atoms, IsAscending}
use Rattle.asp_checker.specs.Judging.{AreSorted}
use Rattle.asp_checker.proofs.PromiseLaws.{listed_at, not_listed}
use Rattle.asp_checker.proofs.promise.is_listed.Goals as goal

pub returns-in-Ok-clause-yes : goal.returns-in-Ok-clause-yes
returns-in-Ok-clause-yes c = λ e.
    let up = subst IsAscending (c.as_slice-atoms.ensures.value ∙ c.atoms.ensures) c.as_slice-atoms.ensures.ascending in
    subst (λ (L : List Atoms). Contains L c.args.row.now.set) c.rows.ensures.sets
    (listed_at c.args.listed.now.atoms c.rows.result.now c.args.row.now c.in-Ok.field-0 up c.rows.ensures.rows c.requires.row c.in-Ok.ensures.bound c.in-Ok.ensures.ok)

pub returns-in-Err-clause-no : goal.returns-in-Err-clause-no
returns-in-Err-clause-no c = λ e.
    let up = subst IsAscending (c.as_slice-atoms.ensures.value ∙ c.atoms.ensures) c.as_slice-atoms.ensures.ascending in
    λ h. not_listed c.args.listed.now.atoms c.rows.result.now c.args.row.now c.in-Err.field-0 up c.rows.ensures.rows c.requires.row
    (subst AreSorted (sym c.rows.ensures.sets) c.requires.order) c.in-Err.ensures.position
    (subst (λ (L : List Atoms). Contains L c.args.row.now.set) (sym c.rows.ensures.sets) h)
