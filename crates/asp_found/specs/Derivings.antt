-- What the derivation of a least model keeps true.
use Rattle.std.specs.Prelude.{◌≡◌, ℕ, ◌+◌, ◌<◌, Bool, true, not, List, IsTrue, length}
use Rattle.std.specs.List.{count_by}
use Rattle.asp_model.specs.declared.program.Program.{Program}
use Rattle.asp_model.specs.Sets.{Atoms, has}
use Rattle.asp_model.specs.Models.{atoms_of, least_model}
use Rattle.asp_vars.specs.Numbering.{var_of_atom, nth_body}
use Rattle.asp_vars.specs.Tabled.{heads_of}
use Rattle.asp_found.specs.Marks.{is_marked, Shows, marks_hold}

-- Marked atoms are in the set and in the least model of its reduct. Each place that is found takes a mark.
pub record IsDeriving (p : Program) (set marks : List Bool) (found : List ℕ) : Type 0 where
  pub size : length marks ≡ length set
  pub within : (v : ℕ) → is_marked marks v ≡ true → is_marked set v ≡ true
  pub sound : (S : Atoms) → Shows p S set → (a : ℕ) → IsTrue (has (atoms_of p) a) → is_marked marks (var_of_atom p a) ≡ true → has (least_model p S) a ≡ true
  pub room : count_by not marks + length found ≡ length set

-- Of the first n bodies, those that hold have their heads of the set marked.
abbrev pub AreDerived : Program → List Bool → List Bool → ℕ → Type 0
AreDerived p set marks n =
    (j : ℕ) → j < n → marks_hold p set marks (nth_body p j) ≡ true → (v : ℕ) → has (heads_of p (nth_body p j)) v ≡ true → is_marked set v ≡ true → is_marked marks v ≡ true
