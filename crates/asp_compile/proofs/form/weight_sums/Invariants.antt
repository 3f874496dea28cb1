use Rattle.std.proofs.Common.{◌≡◌, [], fold, take, All, cond}
use Rattle.std.specs.Prelude.{pos}
use Rattle.std.specs.Ordering.{int_eq}
use Rattle.std.specs.BTreeMap.{values}
use Rattle.asp_compile.specs.Forms.{IsSmall}
use Rattle.asp_vars.specs.Numbering.{with_weight}
use Rattle.asp_compile.proofs.form.weight_sums.Given as goal

abbrev pub invariant-loop-i : goal.invariant-loop-i
invariant-loop-i l = record {
  sums : l.sums.entries ≡ fold (λ js i. cond (int_eq i.1 (pos 0)) js (with_weight i js)) [] (take l.i l.items);
  small : All (IsSmall l.i) (values l.sums);
}
