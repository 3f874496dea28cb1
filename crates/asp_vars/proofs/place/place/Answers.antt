use Rattle.std.proofs.Common.{ℕ, Some, sym, ap, ◌∙◌, add-one}
use Rattle.asp_vars.proofs.PlaceLaws.{searched_place, searched_none}
use Rattle.asp_vars.proofs.place.place.Goals as goal

pub returns-in-Ok-clause-place : goal.returns-in-Ok-clause-place
returns-in-Ok-clause-place c =
    ap (λ (n : ℕ). Some n) (add-one c.in-Ok.place)
    ∙ sym (searched_place c.args.atoms.now c.args.atom c.binary_search.result c.requires.up c.binary_search.ensures.position c.in-Ok.place c.in-Ok.is)

pub returns-in-Err-clause-place : goal.returns-in-Err-clause-place
returns-in-Err-clause-place c =
    sym (searched_none c.args.atoms.now c.args.atom c.binary_search.result c.requires.up c.binary_search.ensures.position c.in-Err.field-0 c.in-Err.is)
