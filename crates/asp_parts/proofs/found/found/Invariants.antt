use Rattle.std.proofs.Common.{◌≡◌, take}
use Rattle.asp_parts.specs.Parts.{deliveries}
use Rattle.asp_parts.proofs.found.found.Given as goal

abbrev pub invariant-loop-place : goal.invariant-loop-place
invariant-loop-place l = record {
  rows : l.rows ≡ record { atoms = l.atoms; sets = take l.place l.sets.sets };
  entries : l.entries.items ≡ deliveries (take l.place l.sets.sets);
}
