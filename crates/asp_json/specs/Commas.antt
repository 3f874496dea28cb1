-- Texts with a comma between two.
use Rattle.std.specs.Prelude.{ℕ, Bool, true, List, [], ◌∷◌, ◌++◌}
use Rattle.asp_print.specs.Shown.{separator}

-- the texts one after another; `any` says whether one stands before them
abbrev pub commas : Bool → List (List ℕ) → List ℕ
commas any [] = []
commas any (t ∷ ts) = separator 44 any ++ t ++ commas true ts
