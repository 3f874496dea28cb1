use Rattle.std.proofs.Common.{[], ◌∷◌, Some, None, arith}
use Rattle.asp_trail_laws.proofs.AssumeLaws.{implied_one}
use Rattle.asp_trail_laws.proofs.FixpointLaws.{fixpoint_imply, fixpoint_push, fixpoint_cut}
use Rattle.asp_trail_laws.proofs.trails.fixpoint_stays.Goals as goal

pub returns : goal.returns
returns c = record {
  none = λ vars ns i d h. absurd (omega (arith, h));
  imply = fixpoint_imply;
  imply_one = λ vars ns es l b id w. fixpoint_imply vars ns es (record { lit = l; level = b; reason = Some id } ∷ []) b (implied_one b l id) w;
  assume = λ vars ns es l w. fixpoint_push vars ns es (record { lit = l; level = 0; reason = None }) (λ q high. absurd (omega (arith, high))) w;
  decide = λ vars ns es l b fixpoint w. fixpoint_push vars ns es (record { lit = l; level = b; reason = None }) (λ q high. fixpoint) w;
  cut = fixpoint_cut;
}
