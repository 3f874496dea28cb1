use Rattle.std.proofs.Common.{refl}
use Rattle.asp_read.specs.Fields.{atom_at, count_at, many_at}
use Rattle.asp_read.specs.Judging.{judge_all, outcome_from}
use Rattle.asp_smodels.specs.Parts.{one_more_at, heads_at, literal_at, signed_at, literals_at, weights_at, weighted_at}
use Rattle.asp_smodels.specs.Lines.{basic_at, cardinality_at, choice_at, weight_rule_at, minimize_at, of_type, rule_line, symbol_at, symbol_line, word_line, assumed_line, number_line}
use Rattle.asp_smodels.proofs.rows.whole_texts.Goals as goal

pub returns : goal.returns
unfolding atom_at count_at many_at judge_all outcome_from one_more_at heads_at literal_at signed_at literals_at weights_at weighted_at basic_at
    cardinality_at choice_at weight_rule_at minimize_at of_type rule_line symbol_at symbol_line word_line assumed_line number_line
returns c = record {
  empty = refl;
  least = refl;
  no_line_feed = refl;
  blank_lines = refl;
  no_number = refl;
  great_number = refl;
  after_end = refl;
  section = refl;
  other_section = refl;
  externals = refl;
  extra = refl;
  aspif = refl;
  assumed = refl;
  assumptions = refl;
}
