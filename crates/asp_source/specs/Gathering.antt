-- How candidates for an unfounded set are gathered.
use Rattle.std.specs.Prelude.{◌≡◌, ℕ, ◌+◌, ◌-◌, ◌<◌, ◌≤◌, ◌==◌, ◌⊎◌, ◌&&◌, ◌||◌, not, Bool, true, false, List, Option, if◌then◌else◌, length, count_by, slice_index, slice_set}
use Rattle.std.specs.List.{All}
use Rattle.asp_model.specs.declared.program.Program.{Program}
use Rattle.asp_model.specs.Models.{atoms_of}
use Rattle.asp_vars.specs.Literals.{F, holds_in}
use Rattle.asp_vars.specs.Numbering.{nth_body, var_count}
use Rattle.asp_vars.specs.Tabled.{heads_of, IsAtomVar}
use Rattle.asp_vars.specs.Unfounded.{is_excused}
use Rattle.asp_scc.specs.Components.{Parts, AreComponents}
use Rattle.asp_loop.specs.Parts.{form_of}
use Rattle.asp_source.specs.Marks.{is_marked, shown}
use Rattle.asp_source.specs.Founding.{IsFoundBy}
use Rattle.asp_source.specs.Ranks.{is_above, AreRanked}
use Rattle.asp_source.specs.Pointers.{AreSupports, AreCandidates}

-- whether the variable's atom is a candidate that neither waits nor is looked at just now
abbrev pub is_done : List Bool → List Bool → ℕ → ℕ → Bool
is_done loose waiting busy v = (is_marked loose v && not (is_marked waiting (v - 1))) && not (v == busy)

-- The components are the program's, and the values have a place for each variable.
pub record IsSetting (p : Program) (c : Parts) (x : List (Option Bool)) : Type 0 where
  pub components : AreComponents p c
  pub values : length x ≡ var_count p + 1

-- Candidates are gathered: no source rests on those that are done. All of them have joined.
pub record IsGathering (p : Program) (c : Parts) (x : List (Option Bool)) (k : ℕ) (ranks : List ℕ) (busy : ℕ) (sources : List ℕ) (loose waiting joined : List Bool) : Type 0 where
  pub setting : IsSetting p c x
  pub size : length sources ≡ length (atoms_of p) + 1
  pub rank_room : length ranks ≡ length (atoms_of p) + 1
  pub waits : length waiting ≡ length (atoms_of p)
  pub joins : length joined ≡ length (atoms_of p)
  pub supports : AreSupports p sources
  pub ranked : AreRanked p c x ranks (is_done loose waiting busy) sources
  pub candidates : AreCandidates p c x k sources loose
  pub listed : (v : ℕ) → is_marked loose v ≡ true → is_marked joined (v - 1) ≡ true

-- Candidates come: each atom of which the source goes, unless it is false. No more atoms wait than candidates came.
pub record Gathers (x : List (Option Bool)) (sources : List ℕ) (loose waiting : List Bool) (sources_then : List ℕ) (loose_then waiting_then : List Bool) : Type 0 where
  pub size : length sources_then ≡ length sources
  pub marks : length loose_then ≡ length loose
  pub room : length waiting_then ≡ length waiting
  pub more : (v : ℕ) → is_marked loose v ≡ true → is_marked loose_then v ≡ true
  pub left : (v : ℕ) → slice_index sources_then v ≡ 0 → holds_in x (F v) ≡ false → (slice_index sources v ≡ 0) ⊎ (is_marked loose_then v ≡ true)
  pub paid : count_by (λ b. b) waiting_then + count_by (λ b. b) loose ≤ count_by (λ b. b) waiting + count_by (λ b. b) loose_then

-- The body founds the variable's atom from outside of all that is done, and of what isn't lower.
abbrev pub IsClear : Program → Parts → List (Option Bool) → ℕ → List ℕ → List Bool → List Bool → ℕ → ℕ → Type 0
IsClear p c x k ranks loose waiting b v =
    is_excused p x (shown p (is_above c ranks (is_done loose waiting 0) k (slice_index ranks v))) (form_of p b) ≡ false

-- Where the variable's atom is in the component, and has this body as its source, that founds it.
abbrev pub IsReleased : Program → Parts → List (Option Bool) → ℕ → List ℕ → List ℕ → List Bool → List Bool → ℕ → ℕ → Type 0
IsReleased p c x k ranks sources loose waiting b v =
    slice_index c.numbers v ≡ k → slice_index sources v ≡ b → IsClear p c x k ranks loose waiting b v

-- What is so stays so.
abbrev pub Keeps : Program → Parts → List (Option Bool) → ℕ → List ℕ → List ℕ → List Bool → List Bool → List ℕ → List Bool → List Bool → Type 0
Keeps p c x k ranks sources loose waiting sources_then loose_then waiting_then =
    (b v : ℕ) → 0 < b → IsAtomVar p v → IsReleased p c x k ranks sources loose waiting b v → IsReleased p c x k ranks sources_then loose_then waiting_then b v

abbrev pub AreReleased : Program → Parts → List (Option Bool) → ℕ → List ℕ → List ℕ → List Bool → List Bool → ℕ → Type 0
AreReleased p c x k ranks sources loose waiting j =
    All (IsReleased p c x k ranks sources loose waiting (length (atoms_of p) + 1 + j)) (heads_of p (nth_body p j))

-- Some sources go or change, and candidates come: what was so of the gathering is so still.
pub record Steps (p : Program) (c : Parts) (x : List (Option Bool)) (k : ℕ) (ranks : List ℕ) (busy : ℕ) (sources : List ℕ) (loose waiting : List Bool)
    (sources_then : List ℕ) (loose_then waiting_then joined_then : List Bool) : Type 0 where
  pub gathering : IsGathering p c x k ranks busy sources_then loose_then waiting_then joined_then
  pub gathers : Gathers x sources loose waiting sources_then loose_then waiting_then
  pub keeps : Keeps p c x k ranks sources loose waiting sources_then loose_then waiting_then

-- An atom without source has one again, or is a candidate, or is false.
pub record Admits (p : Program) (c : Parts) (x : List (Option Bool)) (k : ℕ) (ranks : List ℕ) (busy v : ℕ) (sources : List ℕ)
    (loose waiting : List Bool) (sources_then : List ℕ) (loose_then waiting_then joined_then : List Bool) : Type 0 where
  pub steps : Steps p c x k ranks busy sources loose waiting sources_then loose_then waiting_then joined_then
  pub clear : (b : ℕ) → 0 < b → IsReleased p c x k ranks sources_then loose_then waiting_then b v
  pub admitted : slice_index sources_then v ≡ 0 → holds_in x (F v) ≡ false → is_marked loose_then v ≡ true

-- The atom gets a source that is founded from outside of the candidates, and of what isn't lower.
pub record IsReseated (p : Program) (c : Parts) (x : List (Option Bool)) (k : ℕ) (ranks : List ℕ) (loose : List Bool) (v : ℕ) (sources sources_then : List ℕ) : Type 0 where
  pub body : ℕ
  pub by : IsFoundBy p x (is_above c ranks (is_marked loose) k (slice_index ranks v)) v body
  pub is : sources_then ≡ slice_set sources v body

-- the atom is false, or a candidate already
abbrev pub stays : List (Option Bool) → List Bool → ℕ → Bool
stays x loose v = holds_in x (F v) || is_marked loose v

abbrev pub join_loose : List (Option Bool) → List Bool → ℕ → List Bool
join_loose x loose v = if stays x loose v then loose else slice_set loose v true

-- its place among those that wait, or that joined
abbrev pub join_places : List (Option Bool) → List Bool → List Bool → ℕ → List Bool
join_places x loose places v = if stays x loose v then places else slice_set places (v - 1) true
