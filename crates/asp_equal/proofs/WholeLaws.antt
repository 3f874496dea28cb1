-- What the laws say of any merged program, said of the one that is made.
use Rattle.std.proofs.Common.{◌≡◌, ℕ, sym, ap, ◌∙◌}
use Rattle.asp_model.specs.declared.program.Program.{Program}
use Rattle.asp_model.specs.Sets.{Atoms, has}
use Rattle.asp_model.specs.Costs.{cost}
use Rattle.asp_model.specs.Sound.{IsSound}
use Rattle.asp_model.specs.Texts.{shown}
use Rattle.asp_equal.specs.Copies.{places, same}
use Rattle.asp_equal.specs.Merged.{copies_of, extended, merged_of}
use Rattle.asp_equal.proofs.ReadLaws.{Reads}
use Rattle.asp_equal.proofs.SameLaws.{named-same, same-alike, same-far, same-low, same-named, same-proper, same-twice}
use Rattle.asp_equal.proofs.StableLaws.{IsMerged}
use Rattle.asp_equal.proofs.OpenLaws.{force-merged}
use Rattle.asp_equal.proofs.CopyLaws.{extended-ascends, extended-reads}
use Rattle.asp_equal.proofs.SoundLaws.{sound-merged}
use Rattle.asp_equal.proofs.ShownLaws.{assumed-read, cost-read, shown-read}
use Rattle.asp_equal.proofs.ResultLaws.{HasResultsOf}

-- the atom by which an atom of the program goes
abbrev pub goes_by : Program → ℕ → ℕ
goes_by p = same (places p) p

pub sound-whole : (p : Program) → IsSound p → IsSound (merged_of p)
sound-whole p sound = sound-merged (goes_by p) p (same-low (places p) p) (same-proper (places p) p) sound

pub is-merged : (p : Program) → IsSound p → IsMerged (goes_by p) (extended (copies_of p)) p (merged_of p)
is-merged p sound = record {
  low = same-low (places p) p;
  twice = same-twice (places p) p;
  proper = same-proper (places p) p;
  reads = extended-reads (goes_by p) (places p) (same-far (places p) p);
  ascends = extended-ascends (copies_of p);
  rules = force-merged (goes_by p) p (λ a there. (same-named (places p) p a there, named-same (places p) p a there));
  alike = λ S a. same-alike (places p) p S a sound;
  whole = sound;
  sound = sound-whole p sound;
}

pub has-results : (p : Program) → IsSound p → HasResultsOf (goes_by p) (extended (copies_of p)) p (merged_of p)
has-results p sound = record {
  is = is-merged p sound;
  assumed = λ X S r. assumed-read (goes_by p) p X S (same-proper (places p) p) r;
  costs = λ X S r. cost-read (goes_by p) p X S (same-proper (places p) p) r;
}

pub reads-whole : (p : Program) (S : Atoms) → Reads (goes_by p) (extended (copies_of p) S) S
reads-whole p S = extended-reads (goes_by p) (places p) (same-far (places p) p) S

pub shown-whole : (p : Program) (S : Atoms) → shown p (extended (copies_of p) S) ≡ shown (merged_of p) S
shown-whole p S = sym (shown-read (goes_by p) p (extended (copies_of p) S) S (same-proper (places p) p) (reads-whole p S))

pub cost-whole : (p : Program) (S : Atoms) → cost p (extended (copies_of p) S) ≡ cost (merged_of p) S
cost-whole p S = sym (cost-read (goes_by p) p (extended (copies_of p) S) S (same-proper (places p) p) (reads-whole p S))

-- What is shown hangs on the atoms that stay.
pub shown-again : (p : Program) (S : Atoms) → shown (merged_of p) (extended (copies_of p) S) ≡ shown (merged_of p) S
shown-again p S =
    let x = extended (copies_of p) in
    shown-read (goes_by p) p (x S) (x S) (same-proper (places p) p) (λ a. reads-whole p S a ∙ ap (has S) (sym (same-twice (places p) p a)) ∙ sym (reads-whole p S (goes_by p a))) ∙ shown-whole p S
