use Rattle.std.proofs.Common.{◌+◌, [], ◌∷◌, Some, None, refl}
use Rattle.asp_trail.specs.Entries.{level}
use Rattle.asp_trail_laws.proofs.StartLaws.{starts_imply, starts_decide, starts_cut}
use Rattle.asp_trail_laws.proofs.AssumeLaws.{implied_one}
use Rattle.asp_trail_laws.proofs.trails.starts_stay.Goals as goal

pub returns : goal.returns
returns c = record {
  imply = starts_imply;
  imply_one = λ cube decisions es l id s. starts_imply cube decisions es (record { lit = l; level = level es; reason = Some id } ∷ []) (implied_one (level es) l id) s;
  decide = λ vars cube decisions es l o s. starts_decide vars cube decisions es l (record { lit = l; level = level es + 1; reason = None }) refl refl refl o s;
  cut = starts_cut;
}
