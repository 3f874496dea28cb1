use Rattle.std.proofs.Common.{◌≡◌, ◌-◌, vec_len}
use Rattle.std.specs.Prelude.{map}
use Rattle.asp_model.specs.Sets.{with_atoms}
use Rattle.asp_read.specs.Fields.{many_at}
use Rattle.asp_read.proofs.Loop.{with_front}
use Rattle.asp_read.proofs.many.many.Given as goal

abbrev pub invariant-loop : goal.invariant-loop
invariant-loop g l = record {
  read : with_front l.items.items (many_at (g.E.Entry.entry_atom l.entry) (g.E.Entry.entry_at l.entry) (l.count - l.counter) l.known l.rest) ≡ many_at
      (g.E.Entry.entry_atom l.entry) (g.E.Entry.entry_at l.entry) l.count l.initial.known l.line;
  len : vec_len l.items ≡ l.counter;
  known : l.known ≡ with_atoms l.initial.known (map (g.E.Entry.entry_atom l.entry) l.items.items);
}
