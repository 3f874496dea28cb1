-- Which variables reach the bound, item by item.
use Rattle.std.proofs.Common.{◌≡◌, ℕ, ◌+◌, ◌<◌, ◌≤◌, Bool, true, false, List, length, get_or, Option, ℤ, sym, ap, ◌∙◌, subst, inl, inr, arith}
use Rattle.std.specs.List.{AllPairs}
use Rattle.std.proofs.lemmas.Int.{ints}
use Rattle.std.proofs.lemmas.Bool.{cases_eq, cases_lt, false≢true}
use Rattle.std.proofs.lemmas.List.{get_or_default}
use Rattle.asp_bound.specs.declared.place.Place.{Place}
use Rattle.asp_bound.specs.declared.place.Item.{Item}
use Rattle.asp_bound.specs.Rises.{raised, row_at}
use Rattle.asp_bound.specs.Reach.{reach, lifted}
use Rattle.asp_bound.specs.Found.{reach_at, IsNear, Passes}

-- what the row of a variable reaches
pub reached_by : (rows : List (List Place)) (sums bound : List ℤ) (v : ℕ) (b : Bool) (row : List Place) (r : Option ℕ) → row ≡ row_at rows v →
    r ≡ reach (lifted (λ j. raised row j b) sums) bound → reach_at rows sums bound v b ≡ r
reached_by rows sums bound v b row r e h = sym (h ∙ ap (λ (o : List Place). reach (lifted (λ j. raised o j b) sums) bound) e)

-- An item from a place on is no nearer than the one at that place.
pub nearer : (column : List Item) (i k : ℕ) (x d : Item) (s l : ℤ) → AllPairs (λ a b. b.most ≤ a.most) column → get_or column i x ≡ x → i ≤ k →
    k < length column → IsNear s l (get_or column k d).most → IsNear s l x.most
nearer column i k x d s l falling is le lt near = elim (cases_eq i k) [
  | inl e ↦ subst (λ (y : Item). IsNear s l y.most) (get_or_default column k d x lt ∙ subst (λ (m : ℕ). get_or column m x ≡ x) e is) near
  | inr ne ↦ (
      let low : (get_or column k d).most ≤ (get_or column i d).most = falling i k d (omega arith) lt in
      let here : get_or column i d ≡ x = get_or_default column i d x (omega arith) ∙ is in
      let most : (get_or column k d).most ≤ x.most = subst (λ (y : Item). (get_or column k d).most ≤ y.most) here low in
      (omega (arith, near.0, most), omega (arith, ints, near.1, most)))
]

pub near_as : (s z l k : ℤ) (m : ℕ) → z ≡ s → k ≡ l → IsNear s l m → IsNear z k m
near_as s z l k m e f h = subst (λ (y : ℤ). IsNear z y m) (sym f) (subst (λ (y : ℤ). IsNear y l m) (sym e) h)

-- Each item that is near passes.
abbrev pub NearPass : List (Option Bool) → List (List Place) → List ℤ → List ℤ → List Item → ℤ → ℤ → Type 0
NearPass a rows sums bound column s l = (i : ℕ) (d : Item) → i < length column → IsNear s l (get_or column i d).most → Passes a rows sums bound (get_or column i d).var

-- the items before a place pass
abbrev pub FirstPass : List (Option Bool) → List (List Place) → List ℤ → List ℤ → List Item → ℕ → Type 0
FirstPass a rows sums bound column n = (i : ℕ) (d : Item) → i < n → Passes a rows sums bound (get_or column i d).var

pub near-far : (a : List (Option Bool)) (rows : List (List Place)) (sums bound : List ℤ) (column : List Item) (n : ℕ) (x : Item) (s l : ℤ) (r : Bool)
    → AllPairs (λ a b. b.most ≤ a.most) column → get_or column n x ≡ x →
    FirstPass a rows sums bound column n → (IsNear s l x.most → r ≡ true) → r ≡ false → NearPass a rows sums bound column s l
near-far a rows sums bound column n x s l r falling is first near fails = λ i d lt h. elim (cases_lt i n) [
  | inl low ↦ first i d low
  | inr out ↦ absurd (false≢true (sym fails ∙ near (nearer column n i x d s l falling is out lt h)))
]

pub first-more : (a : List (Option Bool)) (rows : List (List Place)) (sums bound : List ℤ) (column : List Item) (n : ℕ) (x : Item) →
    n < length column → get_or column n x ≡ x → FirstPass a rows sums bound column n → Passes a rows sums bound x.var →
    FirstPass a rows sums bound column (n + 1)
first-more a rows sums bound column n x lt is first here = λ i d low. elim (cases_lt i n) [
  | inl before ↦ first i d before
  | inr out ↦ (
      let e : n ≡ i = omega arith in
      let same : get_or column n d ≡ x = get_or_default column n d x lt ∙ is in
      let passes : Passes a rows sums bound (get_or column n d).var = subst (λ (y : Item). Passes a rows sums bound y.var) (sym same) here in
      subst (λ (m : ℕ). Passes a rows sums bound (get_or column m d).var) e passes)
]
