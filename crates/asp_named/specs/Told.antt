-- The texts of the outputs that some answer shows, or every one.
use Rattle.std.specs.Prelude.{ℕ, Bool, List, map, filter}
use Rattle.std.specs.List.{list_any, list_all}
use Rattle.asp_model.specs.declared.program.Output.{Output}
use Rattle.asp_model.specs.declared.program.Program.{Program}
use Rattle.asp_model.specs.declared.results.Reasoning.{Reasoning}
use Rattle.asp_model.specs.declared.results.Reasoning.TheVariants.{Brave, Cautious}
use Rattle.asp_model.specs.Sets.{Atoms}
use Rattle.asp_model.specs.Holding.{all_hold}
use Rattle.asp_model.specs.Models.{answers}

-- whether some of the sets shows the output, or each does
abbrev pub is_told : Reasoning → List Atoms → Output → Bool
is_told Brave K o = list_any (λ S. all_hold S o.condition) K
is_told Cautious K o = list_all (λ S. all_hold S o.condition) K

-- the texts of the outputs that some answer shows, or every one, in the order of the statements
abbrev pub told_texts : Reasoning → Program → List (List ℕ)
told_texts w p = map (λ o. o.text) (filter (is_told w (answers p)) p.outputs)
