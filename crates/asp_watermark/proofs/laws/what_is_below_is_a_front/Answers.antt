use Rattle.std.proofs.Common.{[], None, ◌∙◌}
use Rattle.asp_core.specs.Sorting.{sorted_once}
use Rattle.asp_core.proofs.SortingLaws.{sorted-rise}
use Rattle.asp_watermark.specs.Floors.{listed}
use Rattle.asp_watermark.proofs.BelowLaws.{all-below, front-below}
use Rattle.asp_watermark.proofs.FloorLaws.{IsFloor-closed, passed-listed}
use Rattle.asp_watermark.proofs.PartLaws.{passed-front}
use Rattle.asp_watermark.proofs.laws.what_is_below_is_a_front.Goals as goal

pub returns : goal.returns
returns c = record {
  front = passed-front;
  delivered = λ sets floor. front-below floor (sorted_once sets) (sorted-rise [] sets tt);
  whole = λ b is none closed. (closed, passed-listed b None is none closed ∙ all-below (listed b.task));
  sets = IsFloor-closed;
}
