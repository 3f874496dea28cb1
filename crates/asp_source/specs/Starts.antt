-- What is kept at the start.
use Rattle.std.specs.Prelude.{◌≡◌, ℕ, ◌+◌, Bool, false, List, length, replicate}
use Rattle.asp_model.specs.declared.program.Program.{Program}
use Rattle.asp_model.specs.Models.{atoms_of}
use Rattle.asp_scc.specs.Components.{Parts}
use Rattle.asp_source.specs.Pointers.{AreMarked}
use Rattle.asp_source.specs.Ranks.{Ranking}

-- no atom has a source, and all are queued that need one
pub record IsBare (p : Program) (c : Parts) (sources : List ℕ) (ranks : Ranking) (queue : List Bool) : Type 0 where
  pub bare : sources ≡ replicate (length (atoms_of p) + 1) 0
  pub ranked : length ranks.ranks ≡ length (atoms_of p) + 1
  pub clock : ranks.clock ≡ 1
  pub room : length queue ≡ length (atoms_of p)
  pub queued : AreMarked c (length (atoms_of p)) queue

-- no atom is a candidate
pub record IsBlank (p : Program) (loose waiting joined : List Bool) : Type 0 where
  pub marks : loose ≡ replicate (length (atoms_of p) + 1) false
  pub free : waiting ≡ replicate (length (atoms_of p)) false
  pub seated : joined ≡ replicate (length (atoms_of p)) false
