use Rattle.std.proofs.Common.{refl}
use Rattle.asp_read.specs.Fields.{atom_at, count_at, many_at}
use Rattle.asp_read.specs.Judging.{judge_all, outcome_from}
use Rattle.asp_smodels.specs.Parts.{one_more_at, heads_at, literal_at, signed_at, literals_at, weights_at, weighted_at}
use Rattle.asp_smodels.specs.Lines.{basic_at, cardinality_at, choice_at, weight_rule_at, minimize_at, of_type, rule_line, symbol_at, symbol_line, word_line, assumed_line, number_line}
use Rattle.asp_smodels.proofs.rows.symbols.Goals as goal

pub returns : goal.returns
unfolding atom_at count_at many_at judge_all outcome_from one_more_at heads_at literal_at signed_at literals_at weights_at weighted_at basic_at
    cardinality_at choice_at weight_rule_at minimize_at of_type rule_line symbol_at symbol_line word_line assumed_line number_line
returns c = record {
  name = refl;
  blanks = refl;
  no_name = refl;
  no_blank = refl;
  no_atom = refl;
}
