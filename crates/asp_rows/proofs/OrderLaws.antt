-- Rows stand in the order of their sets.
use Rattle.std.proofs.Common.{◌≡◌, nat_eq, sym, ap, ◌∙◌}
use Rattle.std.specs.Ordering.{nat_cmp, is_eq}
use Rattle.std.specs.Cmp.{unsigned_ties}
use Rattle.std.specs.Cmp.Lexicographic.{pointwise, slice_cmp, lists_ties}
use Rattle.asp_model.specs.Orders.{sets_tie}
use Rattle.asp_model.specs.Sets.{Atoms, IsAscending, same_set, set_cmp}
use Rattle.asp_rows.specs.declared.row.Row.{Row}
use Rattle.asp_rows.specs.Bits.{encode}
use Rattle.asp_rows.specs.Listed.{IsRowOf}
use Rattle.asp_rows.proofs.BitLaws.{rows_cmp}

pub row_cmp_is : (atoms : Atoms) → IsAscending atoms → (x y : Row) → IsRowOf atoms x → IsRowOf atoms y → slice_cmp nat_cmp x.words.items y.words.items ≡ set_cmp x.set y.set
row_cmp_is atoms up x y h k =
    ap (λ t. slice_cmp nat_cmp t y.words.items) h.words
    ∙ ap (slice_cmp nat_cmp (encode atoms x.set)) k.words
    ∙ rows_cmp atoms x.set y.set up h.among k.among

pub row_eq_is : (atoms : Atoms) → IsAscending atoms → (x y : Row) → IsRowOf atoms x → IsRowOf atoms y → pointwise nat_eq x.words.items y.words.items ≡ same_set x.set y.set
row_eq_is atoms up x y h k =
    lists_ties nat_cmp unsigned_ties x.words.items y.words.items
    ∙ ap is_eq (row_cmp_is atoms up x y h k)
    ∙ sym (sets_tie x.set y.set)
