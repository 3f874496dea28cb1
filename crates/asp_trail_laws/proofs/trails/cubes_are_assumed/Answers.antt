use Rattle.std.proofs.Common.{None, refl, arith}
use Rattle.std.proofs.lemmas.Bool.{false≢true}
use Rattle.asp_trail_laws.proofs.AssumeLaws.{assume_one, stand_one, held, clash, assumed_level, assumed_starts, assumed_fixpoint}
use Rattle.asp_trail_laws.proofs.trails.cubes_are_assumed.Goals as goal

pub returns : goal.returns
returns c = record {
  none = λ cube i d h. absurd (omega (arith, h));
  none_stand = λ es l h. absurd (false≢true h);
  assume = λ cube es l a h. assume_one cube es (record { lit = l; level = 0; reason = None }) a (record { lit = h; level = refl; reason = refl });
  stand = λ part es l z. stand_one part es l (record { lit = l; level = 0; reason = None }) refl refl z;
  held = held;
  clash = clash;
  level = assumed_level;
  starts = assumed_starts;
  fixpoint = assumed_fixpoint;
}
