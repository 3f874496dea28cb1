use Rattle.asp_checker.proofs.ConflictLaws.{conflict-excused}
use Rattle.asp_checker.proofs.LoopLaws.{line-entailed}
use Rattle.asp_checker.proofs.laws.confirmed_lines_hit_excused_models_alone.Goals as goal

pub returns : goal.returns
returns c = record {
  lines = λ p excuse k n nogoods reached. conflict-excused p excuse k n (record { nogoods = nogoods; bound = λ S stable. reached S });
  loops = line-entailed;
}
