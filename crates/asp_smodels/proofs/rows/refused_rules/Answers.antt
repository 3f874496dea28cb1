use Rattle.std.proofs.Common.{refl}
use Rattle.asp_read.specs.Fields.{atom_at, count_at, many_at}
use Rattle.asp_read.specs.Judging.{judge_all, outcome_from}
use Rattle.asp_smodels.specs.Parts.{one_more_at, heads_at, literal_at, signed_at, literals_at, weights_at, weighted_at}
use Rattle.asp_smodels.specs.Lines.{basic_at, cardinality_at, choice_at, weight_rule_at, minimize_at, of_type, rule_line, symbol_at, symbol_line, word_line, assumed_line, number_line}
use Rattle.asp_smodels.proofs.rows.refused_rules.Goals as goal

pub returns : goal.returns
unfolding atom_at count_at many_at judge_all outcome_from one_more_at heads_at literal_at signed_at literals_at weights_at weighted_at basic_at
    cardinality_at choice_at weight_rule_at minimize_at of_type rule_line symbol_at symbol_line word_line assumed_line number_line
returns c = record {
  disjunction = refl;
  external = refl;
  no_such_type = refl;
  negated = refl;
  short = refl;
  extra = refl;
  no_heads = refl;
  size = refl;
  negative_bound = refl;
  negative_weight = refl;
}
