-- How candidates get sources.
use Rattle.std.specs.Prelude.{◌≡◌, ℕ, ◌+◌, ◌-◌, ◌<◌, ◌≤◌, ◌^◌, Bool, true, false, List, Option, length, count_by, slice_set, IsTrue}
use Rattle.asp_model.specs.declared.program.Program.{Program}
use Rattle.asp_model.specs.Sets.{has}
use Rattle.asp_model.specs.Models.{atoms_of}
use Rattle.asp_vars.specs.Completion.{supports}
use Rattle.asp_vars.specs.Numbering.{nth_atom, var_count}
use Rattle.asp_vars.specs.Tabled.{IsAtomVar}
use Rattle.asp_vars.specs.Unfounded.{is_excused}
use Rattle.asp_loop.specs.Parts.{form_of}
use Rattle.std.specs.List.{All}
use Rattle.asp_source.specs.Marks.{is_marked, shown, is_dropped}
use Rattle.asp_source.specs.Ranks.{Ranking, IsRanking, raised}

-- The body, of a rule for the variable's atom, isn't excused for the atoms that pass.
pub record IsFoundBy (p : Program) (x : List (Option Bool)) (q : ℕ → Bool) (v b : ℕ) : Type 0 where
  pub support : IsTrue (has (supports p (nth_atom p (v - 1))) b)
  pub firm : is_excused p x (shown p q) (form_of p b) ≡ false

-- There is a place for each atom, and the clock can tick for each candidate.
pub record HaveRoom (p : Program) (x : List (Option Bool)) (sources : List ℕ) (ranks : Ranking) (loose waiting : List Bool) : Type 0 where
  pub values : length x ≡ var_count p + 1
  pub size : length sources ≡ length (atoms_of p) + 1
  pub marks : length loose ≡ length (atoms_of p) + 1
  pub waits : length waiting ≡ length (atoms_of p)
  pub rank_room : length ranks.ranks ≡ length (atoms_of p) + 1
  pub time : ranks.clock + count_by (λ b. b) loose < 2 ^ 64

-- Candidates get sources, one after another, each a body that isn't excused for those that are candidates then.
pub data GetSources (p : Program) (x : List (Option Bool)) (sources : List ℕ) (ranks : Ranking) (loose : List Bool) : List ℕ → Ranking → List Bool → Type 0 where
  gets_none : GetSources p x sources ranks loose sources ranks loose
  gets_one : {s : List ℕ} {r : Ranking} {l : List Bool} {v b : ℕ} → GetSources p x sources ranks loose s r l → IsAtomVar p v → is_marked l v ≡ true →
      IsFoundBy p x (is_marked l) v b → IsRanking r.ranks r.clock →
      GetSources p x sources ranks loose (slice_set s v b) (raised r v) (slice_set l v false)

-- They do so, and wait for it, no more than get one. The clock ticks no more than that either.
pub record Founds (p : Program) (x : List (Option Bool)) (sources : List ℕ) (ranks : Ranking) (loose waiting : List Bool) (sources_then : List ℕ)
    (ranks_then : Ranking) (loose_then waiting_then : List Bool) : Type 0 where
  pub gets : GetSources p x sources ranks loose sources_then ranks_then loose_then
  pub size : length sources_then ≡ length sources
  pub rank_room : length ranks_then.ranks ≡ length ranks.ranks
  pub marks : length loose_then ≡ length loose
  pub room : length waiting_then ≡ length waiting
  pub fewer : count_by (λ b. b) loose_then ≤ count_by (λ b. b) loose
  pub ticks : ranks_then.clock + count_by (λ b. b) loose_then ≤ ranks.clock + count_by (λ b. b) loose
  pub paid : count_by (λ b. b) waiting_then + count_by (λ b. b) loose_then ≤ count_by (λ b. b) waiting + count_by (λ b. b) loose

-- Of the atoms of these places none is a candidate that a body founds.
abbrev pub AreStuck : Program → List (Option Bool) → List Bool → List ℕ → Type 0
AreStuck p x loose places = All (λ k. is_dropped p x loose (k + 1) ≡ false) places
