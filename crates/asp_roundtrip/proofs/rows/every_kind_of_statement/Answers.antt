use Rattle.std.proofs.Common.{refl}
use Rattle.std.specs.Fmt.{digits}
use Rattle.asp_read.specs.Fields.{atom_at, literal_at, weighted_at, count_at, many_at}
use Rattle.asp_read.specs.Statements.{head_at, body_at, rule_at, minimize_at, output_at, external_at, of_kind, statement_with, header_at}
use Rattle.asp_read.specs.Judging.{judge_all, outcome_from}
use Rattle.asp_roundtrip.proofs.rows.every_kind_of_statement.Goals as goal

pub returns : goal.returns
unfolding digits atom_at literal_at weighted_at count_at many_at head_at body_at rule_at minimize_at output_at external_at of_kind statement_with header_at judge_all outcome_from
returns c = record { free = refl; canonical = refl; nothing = refl; longer = refl }
