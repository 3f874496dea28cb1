use Rattle.std.proofs.Common.{ℕ, ◌<◌, get_or, length}
use Rattle.asp_vars.specs.Numbering.{nth_body}
use Rattle.asp_vars.specs.Tabled.{heads_of}
use Rattle.asp_source.specs.Gathering.{Steps, IsReleased}
use Rattle.asp_source.proofs.gather.release_heads.Given as goal

abbrev pub invariant-loop-var : goal.invariant-loop-var
invariant-loop-var l = record {
  steps : Steps l.region.compiled.now l.region.components.now l.region.values.now l.region.component l.region.ranks.now.ranks l.busy l.initial.sources
      l.initial.loose l.initial.waiting l.sources l.loose l.waiting l.joined;
  released : (i d : ℕ) → i < l.var-index → i < length (heads_of l.region.compiled.now (nth_body l.region.compiled.now l.body)) →
      IsReleased l.region.compiled.now l.region.components.now l.region.values.now l.region.component l.region.ranks.now.ranks l.sources l.loose
      l.waiting l.number (get_or (heads_of l.region.compiled.now (nth_body l.region.compiled.now l.body)) i d);
}
