-- Ranks of atoms: a source rests on atoms of lower ranks alone, as far as its component goes.
use Rattle.std.specs.Prelude.{◌≡◌, ◌≢◌, ℕ, ◌+◌, ◌<◌, ◌==◌, ◌&&◌, ◌||◌, Bool, false, List, Option, nat_le, slice_index, slice_set}
use Rattle.asp_model.specs.declared.program.Program.{Program}
use Rattle.asp_model.specs.Sets.{Atoms}
use Rattle.asp_vars.specs.Numbering.{var_of_atom}
use Rattle.asp_vars.specs.Unfounded.{is_excused}
use Rattle.asp_scc.specs.Components.{Parts, component_of, Stands}
use Rattle.asp_loop.specs.Parts.{form_of}
use Rattle.asp_source.specs.Marks.{shown}

-- ranks by variable, and a number above all of them
pub record Ranking : Type 0 where
  pub ranks : List ℕ
  pub clock : ℕ

abbrev pub IsRanking : List ℕ → ℕ → Type 0
IsRanking ranks clock = (v : ℕ) → slice_index ranks v < clock

-- the variable's atom gets a rank above all others
abbrev pub raised : Ranking → ℕ → Ranking
raised r v = record { ranks = slice_set r.ranks v r.clock; clock = r.clock + 1 }

-- whether the variable's atom is one of the component that passes, or has this rank or a greater one
abbrev pub is_above : Parts → List ℕ → (ℕ → Bool) → ℕ → ℕ → ℕ → Bool
is_above c ranks q k rank v = (slice_index c.numbers v == k) && (q v || nat_le rank (slice_index ranks v))

-- what the atom's source mustn't rest on
abbrev pub above : Program → Parts → List ℕ → (ℕ → Bool) → ℕ → Atoms
above p c ranks q a = shown p (is_above c ranks q (component_of p c a) (slice_index ranks (var_of_atom p a)))

-- the atom's source, a body's variable; 0 where it has none
abbrev pub source_of : Program → List ℕ → ℕ → ℕ
source_of p sources a = slice_index sources (var_of_atom p a)

-- Each source founds its atom from outside of the atoms of its component that pass, and of those that aren't lower.
abbrev pub AreRanked : Program → Parts → List (Option Bool) → List ℕ → (ℕ → Bool) → List ℕ → Type 0
AreRanked p c x ranks q sources =
    (a : ℕ) → Stands p a → source_of p sources a ≢ 0 → is_excused p x (above p c ranks q a) (form_of p (source_of p sources a)) ≡ false
