use Rattle.asp_trail_laws.proofs.WholeLaws.{whole_same, whole_lit, whole_nogood, whole_way}
use Rattle.asp_trail_laws.proofs.laws.whole_trails_are_values.Goals as goal

pub returns : goal.returns
returns c = record {
  same = whole_same;
  literals = λ p vars es l w v. whole_lit p vars es w l v;
  nogoods = λ p vars es n w a. whole_nogood p vars es w n a;
  way = λ p vars cube decisions es w s. whole_way p vars es w cube decisions s;
}
