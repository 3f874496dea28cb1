-- Rows that wait, and which of them come before a floor.
use Rattle.std.proofs.Common.{◌≡◌, Bool, true, false, not, cond, List, [], ◌∷◌, ◌++◌, filter, Some, append_assoc, refl, sym, ap, ◌∙◌, subst}
use Rattle.std.specs.Prelude.{slice_get}
use Rattle.std.specs.List.{AllByRecursion}
use Rattle.std.specs.Ordering.{is_gt}
use Rattle.std.specs.declared.cmp.Ordering.{Ordering}
use Rattle.std.specs.declared.cmp.Ordering.TheVariants.{Less, Equal, Greater}
use Rattle.std.proofs.lemmas.Bool.{false≢true}
use Rattle.asp_model.specs.Sets.{Atoms, IsAscending, set_cmp}
use Rattle.asp_rows.specs.declared.row.Row.{Row}
use Rattle.asp_rows.specs.Listed.{AreRows, IsRowOf}
use Rattle.asp_rows.proofs.OrderLaws.{row_cmp_is}
use Rattle.asp_core.specs.Sorting.{with_set, sorted_once}
use Rattle.asp_core.proofs.CountLaws.{row_cmp, sorted_once-push}
use Rattle.asp_core.proofs.SortingLaws.{tied}
use Rattle.asp_watermark.specs.Floors.{is_below}
use Rattle.asp_watermark.proofs.BelowLaws.{below-earlier}
use Rattle.asp_backlog.specs.Backlogs.{BeginsBelow, Pending, sets_of, with_waiting}
use Rattle.asp_backlog.proofs.FilterLaws.{filter-append, filter-nothing}

-- ---- the first of them
-- What comes no earlier than a set that isn't below x isn't either.
above-later : (x S T : Atoms) → is_below (Some x) S ≡ false → is_gt (set_cmp S T) ≡ false → is_below (Some x) T ≡ false
above-later x S T above no_later = here (set_cmp S T) refl (is_below (Some x) T) refl
  where
    here : (o : Ordering) → o ≡ set_cmp S T → (b : Bool) → b ≡ is_below (Some x) T → is_below (Some x) T ≡ false
    here o q false e = sym e
    here Less q true e = absurd (false≢true (sym above ∙ below-earlier (Some x) S T (sym q) (sym e)))
    here Equal q true e = absurd (false≢true (sym above ∙ ap (is_below (Some x)) (tied S T (sym q)) ∙ sym e))
    here Greater q true e = absurd (false≢true (sym no_later ∙ ap is_gt (sym q)))

none-from : (atoms : Atoms) → IsAscending atoms → (x : Atoms) (first : Row) (rows : List Row) → IsRowOf atoms first → AreRows atoms rows →
    AllByRecursion (λ r. is_gt (row_cmp first r) ≡ false) rows → is_below (Some x) first.set ≡ false →
    AllByRecursion (λ S. is_below (Some x) S ≡ false) (sets_of rows)
none-from atoms up x first [] row rows order above = tt
none-from atoms up x first (r ∷ rows) row are order above = (
  above-later x first.set r.set above (ap is_gt (sym (row_cmp_is atoms up first r row are.0)) ∙ order.0),
  none-from atoms up x first rows row are.1 order.1 above,
)

pub begins : (atoms : Atoms) → IsAscending atoms → (x : Atoms) (first : Row) (rows : List Row) → AreRows atoms rows → slice_get rows 0 ≡ Some first →
    AllByRecursion (λ r. is_gt (row_cmp first r) ≡ false) rows → (b : Bool) → b ≡ is_below (Some x) first.set → BeginsBelow x rows b
begins atoms up x first [] are at order b e = absurd (let f : ⊥ = cc in f)
begins atoms up x first (r ∷ rows) are at order true e =
    let same : r ≡ first = cc in
    ap (λ (y : Row). is_below (Some x) y.set) same ∙ sym e
begins atoms up x first (r ∷ rows) are at order false e =
    let same : r ≡ first = cc in
    filter-nothing (is_below (Some x)) (sets_of (r ∷ rows)) (none-from atoms up x first (r ∷ rows) (subst (IsRowOf atoms) same are.0) are order (sym e))

-- ---- one answer more
pub waiting-delivered : (floor : Atoms) (A : List Atoms) (S : Atoms) →
    with_waiting floor S (sorted_once (filter (λ T. not (is_below (Some floor) T)) A)) ≡ sorted_once (filter (λ T. not (is_below (Some floor) T)) (A ++ S ∷ []))
waiting-delivered floor A S =
    here (is_below (Some floor) S) ∙ sym (ap sorted_once (filter-append q A (S ∷ [])))
  where
    q : Atoms → Bool
    q T = not (is_below (Some floor) T)

    nothing-more : (L : List Atoms) → L ≡ L ++ []
    nothing-more [] = refl
    nothing-more (T ∷ L) = ap (λ (X : List Atoms). T ∷ X) (nothing-more L)

    here : (b : Bool) → cond b (sorted_once (filter q A)) (with_set S (sorted_once (filter q A))) ≡ sorted_once (filter q A ++ cond (not b) (S ∷ []) [])
    here true = ap sorted_once (nothing-more (filter q A))
    here false = sym (sorted_once-push (filter q A) S)

-- ---- rows that are taken out
pub popped-all : (initial now left : List Row) (taken more : List Atoms) (row : Row) → sets_of initial ≡ taken ++ sets_of now → now ≡ row ∷ left → more ≡ taken ++ row.set ∷ [] →
    sets_of initial ≡ more ++ sets_of left
popped-all initial now left taken more row all popped pushed =
    all ∙ ap (λ (K : List Row). taken ++ sets_of K) popped ∙ sym (append_assoc taken (row.set ∷ []) (sets_of left)) ∙ ap (λ (X : List Atoms). X ++ sets_of left) (sym pushed)

pub popped-below : (x : Atoms) (initial now left : List Row) (taken more : List Atoms) (row : Row) → filter (is_below (Some x)) (sets_of initial) ≡ taken ++ filter (is_below (Some x)) (sets_of now) →
    now ≡ row ∷ left → is_below (Some x) row.set ≡ true → more ≡ taken ++ row.set ∷ [] →
    filter (is_below (Some x)) (sets_of initial) ≡ more ++ filter (is_below (Some x)) (sets_of left)
popped-below x initial now left taken more row all popped below pushed =
    let q : Atoms → Bool = is_below (Some x) in
    all ∙ ap (λ (K : List Row). taken ++ filter q (sets_of K)) popped ∙ ap (λ b. taken ++ cond b (row.set ∷ filter q (sets_of left)) (filter q (sets_of left))) below
    ∙ sym (append_assoc taken (row.set ∷ []) (filter q (sets_of left))) ∙ ap (λ (X : List Atoms). X ++ filter q (sets_of left)) (sym pushed)

pub popped-rest : (x : Atoms) (initial now left : List Row) (row : Row) →
    filter (λ S. not (is_below (Some x) S)) (sets_of initial) ≡ filter (λ S. not (is_below (Some x) S)) (sets_of now) → now ≡ row ∷ left → is_below (Some x) row.set ≡ true →
    filter (λ S. not (is_below (Some x) S)) (sets_of initial) ≡ filter (λ S. not (is_below (Some x) S)) (sets_of left)
popped-rest x initial now left row rest popped below =
    let q : Atoms → Bool = λ S. not (is_below (Some x) S) in
    rest ∙ ap (λ (K : List Row). filter q (sets_of K)) popped ∙ ap (λ b. cond (not b) (row.set ∷ filter q (sets_of left)) (filter q (sets_of left))) below

pub first-row : (atoms : Atoms) (now left : List Row) (row : Row) → AreRows atoms now → now ≡ row ∷ left → IsRowOf atoms row × AreRows atoms left
first-row atoms now left row are popped = subst (AreRows atoms) popped are

-- one row more, where its set doesn't come before the floor
abbrev pending : Atoms → Atoms → List Atoms → Pending
pending atoms floor sets = record { atoms = atoms; floor = floor; sets = sets }

pub waits-more : (w : Pending) (i : Pending) (S : Atoms) (sets : List Atoms) → i ≡ w → is_below (Some i.floor) S ≡ false → sets ≡ with_set S i.sets →
    pending i.atoms i.floor sets ≡ pending w.atoms w.floor (with_waiting w.floor S w.sets)
waits-more w i S sets view above more =
    ap (pending i.atoms i.floor) (more ∙ ap (λ b. cond b i.sets (with_set S i.sets)) (sym above))
    ∙ ap (λ (u : Pending). pending u.atoms u.floor (with_waiting u.floor S u.sets)) view
