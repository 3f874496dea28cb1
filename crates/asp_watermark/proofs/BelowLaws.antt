-- What comes before a floor, in a rising list.
use Rattle.std.proofs.Common.{◌≡◌, Bool, true, false, not, cond, ◌&&◌, List, [], ◌∷◌, ◌++◌, filter, Option, None, Some, refl, sym, ap, ◌∙◌, subst, ◌⊎◌, inl, inr}
use Rattle.std.specs.List.{AllByRecursion}
use Rattle.std.specs.Ordering.{match_ordering}
use Rattle.std.specs.declared.cmp.Ordering.{Ordering}
use Rattle.std.specs.declared.cmp.Ordering.TheVariants.{Less, Equal, Greater}
use Rattle.std.proofs.lemmas.Bool.{false≢true}
use mathlib.Core.List.{IsPrefix}
use Rattle.asp_model.specs.Sets.{Atoms, IsAscending, IsBefore, IsSubset, set_cmp}
use Rattle.asp_model.specs.Orders.{sets_total}
use Rattle.asp_model.proofs.OrderLaws.{before_from_cmp, cmp_from_before, one_of_three}
use Rattle.asp_core.specs.Sorting.{sorted_once}
use Rattle.asp_core.proofs.SortingLaws.{Rise, has-filter, rise-filter, rise-same, sorted-has, sorted-rise}
use Rattle.asp_watermark.specs.Floors.{is_below, is_between, IsNoHigher}

-- ---- one set
less-first : (o : Ordering) → match_ordering o true false false ≡ true → o ≡ Less
less-first Less h = refl
less-first Equal h = absurd (false≢true h)
less-first Greater h = absurd (false≢true h)

pub less-below : (x S : Atoms) → set_cmp S x ≡ Less → is_below (Some x) S ≡ true
less-below x S e = ap (λ (o : Ordering). match_ordering o true false false) e

pub below-less : (x S : Atoms) → is_below (Some x) S ≡ true → set_cmp S x ≡ Less
below-less x S h = less-first (set_cmp S x) h

pub below-earlier : (floor : Option Atoms) (S T : Atoms) → set_cmp S T ≡ Less → is_below floor T ≡ true → is_below floor S ≡ true
below-earlier None S T e h = refl
below-earlier (Some x) S T e h = less-below x S (sets_total.trans S T x e (below-less x T h))

-- a set doesn't come before a part of it
not-before-part : (L S : Atoms) → IsSubset L S → IsBefore S L → ⊥
not-before-part L S part before = false≢true (sym before.2 ∙ part before.0 before.1)

-- so where it comes before x, each part of it does
pub part-before : (L S x : Atoms) → IsAscending L → IsAscending S → IsAscending x → IsSubset L S → is_below (Some x) S ≡ true → IsBefore L x
part-before L S x l s up part below = here (one_of_three L x l up)
  where
    less : set_cmp S x ≡ Less
    less = below-less x S below

    here : (IsBefore L x ⊎ ((L ≡ x) ⊎ IsBefore x L)) → IsBefore L x
    here (inl before) = before
    here (inr (inl same)) = absurd (not-before-part L S part (subst (IsBefore S) (sym same) (before_from_cmp S x s up less)))
    here (inr (inr after)) = absurd (not-before-part L S part (before_from_cmp S L s l (sets_total.trans S x L less (cmp_from_before x L up l after))))

-- ---- a rising list
none-below : (floor : Option Atoms) (T : Atoms) (L : List Atoms) → is_below floor T ≡ false → AllByRecursion (λ R. set_cmp T R ≡ Less) L → filter (is_below floor) L ≡ []
none-below floor T [] h up = refl
none-below floor T (R ∷ L) h up = here (is_below floor R) refl (none-below floor T L h up.1)
  where
    here : (y : Bool) → y ≡ is_below floor R → filter (is_below floor) L ≡ [] → cond y (R ∷ filter (is_below floor) L) (filter (is_below floor) L) ≡ []
    here true q rest = absurd (false≢true (sym h ∙ below-earlier floor T R up.0 (sym q)))
    here false q rest = rest

pub front-below : (floor : Option Atoms) (L : List Atoms) → Rise L → IsPrefix (filter (is_below floor) L) L
front-below floor [] up = ([], refl)
front-below floor (T ∷ L) up = here (is_below floor T) refl (front-below floor L up.1)
  where
    here : (y : Bool) → y ≡ is_below floor T → IsPrefix (filter (is_below floor) L) L → IsPrefix (cond y (T ∷ filter (is_below floor) L) (filter (is_below floor) L)) (T ∷ L)
    here true q rest = (rest.0, ap (λ (X : List Atoms). T ∷ X) rest.1)
    here false q rest = (T ∷ L, ap (λ (X : List Atoms). X ++ T ∷ L) (none-below floor T L (sym q) up.0))

pub goes-on : (low high : Option Atoms) → IsNoHigher low high → (L : List Atoms) → Rise L → filter (is_below high) L ≡ filter (is_below low) L ++ filter (is_between low high) L
goes-on low high more [] up = refl
goes-on low high more (T ∷ L) up = here (is_below low T) refl (is_below high T) refl (goes-on low high more L up.1)
  where
    here : (y : Bool) → y ≡ is_below low T → (z : Bool) → z ≡ is_below high T → filter (is_below high) L ≡ filter (is_below low) L ++ filter (is_between low high) L →
        cond z (T ∷ filter (is_below high) L) (filter (is_below high) L)
        ≡ cond y (T ∷ filter (is_below low) L) (filter (is_below low) L) ++ cond (not y && z) (T ∷ filter (is_between low high) L) (filter (is_between low high) L)
    here true q true r rest = ap (λ (X : List Atoms). T ∷ X) rest
    here true q false r rest = absurd (false≢true (r ∙ more T (sym q)))
    here false q true r rest =
        let none : filter (is_below low) L ≡ [] = none-below low T L (sym q) up.0 in
        ap (λ (X : List Atoms). T ∷ X) (rest ∙ ap (λ (X : List Atoms). X ++ filter (is_between low high) L) none) ∙ sym (ap (λ (X : List Atoms). X ++ T ∷ filter (is_between low high) L) none)
    here false q false r rest = rest

-- where there is no floor, all comes before it
pub all-below : (L : List Atoms) → filter (is_below None) L ≡ L
all-below [] = refl
all-below (S ∷ L) = ap (λ (X : List Atoms). S ∷ X) (all-below L)

-- ---- sorted sets
pub sorted-filter : (q : Atoms → Bool) (A : List Atoms) → sorted_once (filter q A) ≡ filter q (sorted_once A)
sorted-filter q A =
    rise-same (sorted_once (filter q A)) (filter q (sorted_once A)) (sorted-rise [] (filter q A) tt) (rise-filter q (sorted_once A) (sorted-rise [] A tt))
    (λ R. sorted-has [] (filter q A) R ∙ has-filter q A R ∙ sym (ap (λ x. q R && x) (sorted-has [] A R)) ∙ sym (has-filter q (sorted_once A) R))

-- floors compared by their sets
pub no_higher : (x y : Atoms) → IsAscending x → IsAscending y → (IsBefore y x → ⊥) → IsNoHigher (Some x) (Some y)
no_higher x y up high not_before S h = here (one_of_three x y up high)
  where
    less : set_cmp S x ≡ Less
    less = below-less x S h

    here : (IsBefore x y ⊎ ((x ≡ y) ⊎ IsBefore y x)) → is_below (Some y) S ≡ true
    here (inl before) = less-below y S (sets_total.trans S x y less (cmp_from_before x y up high before))
    here (inr (inl same)) = ap (λ (z : Atoms). is_below (Some z) S) (sym same) ∙ h
    here (inr (inr before)) = absurd (not_before before)
