-- Lists of sets, sorted and made single.
use Rattle.std.specs.Prelude.{List, [], ◌∷◌, fold, filter}
use Rattle.std.specs.Ordering.{match_ordering}
use Rattle.asp_model.specs.Sets.{Atoms, set_cmp}
use Rattle.asp_model.specs.Holding.{all_hold}
use Rattle.asp_model.specs.Models.{models}
use Rattle.asp_core.specs.declared.task.Task.{Task}
use Rattle.asp_core.specs.Boards.{wanted}

abbrev pub with_set : Atoms → List Atoms → List Atoms
with_set S [] = S ∷ []
with_set S (T ∷ Ts) = match_ordering (set_cmp S T) (S ∷ T ∷ Ts) (T ∷ Ts) (T ∷ with_set S Ts)

abbrev pub sorted_once : List Atoms → List Atoms
sorted_once sets = fold (λ Ts S. with_set S Ts) [] sets

-- the task's answers, in order
abbrev pub answers_of : Task → List Atoms
answers_of t = filter (λ S. all_hold S (wanted t)) (models t.program)
