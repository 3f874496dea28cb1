use Rattle.std.proofs.Common.{ap, ◌∙◌}
use Rattle.asp_model.specs.Models.{atoms_of}
use Rattle.asp_search_laws.specs.Searching.{Searching}
use Rattle.asp_search.proofs.search.Search.atoms.Goals as goal

pub returns : goal.returns
returns g c = c.atoms.ensures ∙ ap atoms_of (c.self.invariant.0.program ∙ ap (λ (s : Searching). s.program) c.self.view_is)
