use Rattle.std.proofs.Common.{refl}
use Rattle.std.specs.Fmt.{digits}
use Rattle.asp_model.proofs.rows.results_are_written.Goals as goal

pub returns : goal.returns
unfolding digits
returns c = record {
  all = refl;
  brief = refl;
  both_shown = refl;
  enough = refl;
  none = refl;
  best = refl;
  best_brief = refl;
  optima = refl;
  optima_brief = refl;
  no_best = refl;
  known = refl;
  known_part = refl;
  nothing_known = refl;
}
