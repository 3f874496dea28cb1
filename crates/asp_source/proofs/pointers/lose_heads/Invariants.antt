use Rattle.std.proofs.Common.{ℕ, ◌<◌, get_or, length}
use Rattle.asp_vars.specs.Numbering.{nth_body}
use Rattle.asp_vars.specs.Tabled.{heads_of}
use Rattle.asp_source.specs.Pointers.{Loses, IsGone}
use Rattle.asp_source.proofs.pointers.lose_heads.Given as goal

abbrev pub invariant-loop-var : goal.invariant-loop-var
invariant-loop-var l = record {
  loses : Loses l.initial.sources l.initial.queue l.sources l.queue;
  gone : (i d : ℕ) → i < l.var-index → i < length (heads_of l.compiled (nth_body l.compiled l.body)) → IsGone l.sources l.number (get_or (heads_of l.compiled (nth_body l.compiled l.body)) i d);
}
