use Rattle.std.proofs.Common.{[], refl}
use Rattle.asp_core.proofs.SortingLaws.{sorted-rise}
use Rattle.asp_core.specs.Sorting.{sorted_once}
use Rattle.asp_watermark.proofs.BelowLaws.{goes-on, no_higher, sorted-filter}
use Rattle.asp_watermark.proofs.laws.fronts_go_on.Goals as goal

pub returns : goal.returns
returns c = record {
  front = λ b low high more. goes-on low high more (sorted_once b.answers) (sorted-rise [] b.answers tt);
  kept = λ sets q. sorted-filter q sets;
  higher = no_higher;
  none = λ low S h. refl;
}
