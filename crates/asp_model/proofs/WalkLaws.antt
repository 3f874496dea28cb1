-- The walk over the subsets goes through them all, in their order.
use Rattle.std.proofs.Common.{◌≡◌, ℕ, suc, ◌+◌, ◌-◌, ◌<◌, Bool, replicate, true, false, cond, List, [], ◌∷◌, ◌++◌, length, map, take, get_or, set, refl, sym, ap, ◌∙◌, subst, arith}
use Rattle.std.specs.List.{AllByRecursion}
use Rattle.std.proofs.lemmas.List.{take_more, take_all, length-take-le, append-nil, append_assoc, get_or_append_left, set_at, nil_from_length, length-replicate, length-append}
use Rattle.asp_model.specs.Sets.{Atoms, IsAscending, subsets}
use Rattle.asp_model.specs.Walks.{picked, subsets_from}

-- from the empty set on
pub subsets_from-first : (L : Atoms) → subsets_from L (replicate (length L) false) ≡ subsets L
subsets_from-first [] = refl
subsets_from-first (a ∷ L) = ap (λ Ss. Ss ++ map (λ S. a ∷ S) (subsets L)) (subsets_from-first L)

-- from the set of all atoms on
pub subsets_from-last : (L : Atoms) → subsets_from L (replicate (length L) true) ≡ picked L (replicate (length L) true) ∷ []
subsets_from-last [] = refl
subsets_from-last (a ∷ L) = ap (map (λ S. a ∷ S)) (subsets_from-last L)

-- The last mark that isn't set is set, and those behind it are cleared.
pub subsets_from-next : (L : Atoms) (marks : List Bool) (n : ℕ) → length L ≡ length marks + suc n →
    subsets_from L (marks ++ false ∷ replicate n true) ≡ picked L (marks ++ false ∷ replicate n true) ∷ subsets_from L
    (marks ++ true ∷ replicate n false)
subsets_from-next [] marks n len = absurd (omega arith)
subsets_from-next (a ∷ L) [] n len =
    let count : n ≡ length L = omega arith in
    let Next : ℕ → Type 0 = λ m. subsets_from L (replicate m true) ++ map (λ S. a ∷ S) (subsets L) ≡ picked L (replicate m true) ∷ map (λ S. a ∷ S) (subsets_from L (replicate m false)) in
    subst Next (sym count) (rw (subsets_from-last L, subsets_from-first L) refl)
subsets_from-next (a ∷ L) (true ∷ marks) n len = ap (map (λ S. a ∷ S)) (subsets_from-next L marks n (omega arith))
subsets_from-next (a ∷ L) (false ∷ marks) n len = ap (λ Ss. Ss ++ map (λ S. a ∷ S) (subsets L)) (subsets_from-next L marks n (omega arith))

below-picked : (a : ℕ) (L : Atoms) (marks : List Bool) → AllByRecursion (λ b. a < b) L → AllByRecursion (λ b. a < b) (picked L marks)
below-picked a [] marks h = tt
below-picked a (b ∷ L) [] h = tt
below-picked a (b ∷ L) (true ∷ marks) h = (h.0, below-picked a L marks h.1)
below-picked a (b ∷ L) (false ∷ marks) h = below-picked a L marks h.1

pub IsAscending-picked : (L : Atoms) (marks : List Bool) → IsAscending L → IsAscending (picked L marks)
IsAscending-picked [] marks up = tt
IsAscending-picked (a ∷ L) [] up = tt
IsAscending-picked (a ∷ L) (true ∷ marks) up = (below-picked a L marks up.0, IsAscending-picked L marks up.1)
IsAscending-picked (a ∷ L) (false ∷ marks) up = IsAscending-picked L marks up.1

picked-push : (L : Atoms) (marks : List Bool) (a : ℕ) (mark : Bool) → length marks ≡ length L → picked (L ++ a ∷ []) (marks ++ mark ∷ []) ≡ picked L marks ++ cond mark (a ∷ []) []
picked-push [] [] a true len = refl
picked-push [] [] a false len = refl
picked-push [] (m ∷ marks) a mark len = absurd (omega arith)
picked-push (b ∷ L) [] a mark len = absurd (omega arith)
picked-push (b ∷ L) (true ∷ marks) a mark len = ap (λ S. b ∷ S) (picked-push L marks a mark (omega arith))
picked-push (b ∷ L) (false ∷ marks) a mark len = picked-push L marks a mark (omega arith)

-- one place more
pub picked_more : (L : Atoms) (marks : List Bool) (i : ℕ) → length marks ≡ length L → i < length L →
    picked (take (i + 1) L) (take (i + 1) marks) ≡ picked (take i L) (take i marks) ++ cond (get_or marks i false) (get_or L i 0 ∷ []) []
picked_more L marks i len lt =
    let fewer : length (take i marks) ≡ length (take i L) = omega (arith, length-take-le i L (omega arith), length-take-le i marks (omega arith)) in
    let marks_in : i < length marks = omega arith in
    ap (λ S. picked S (take (i + 1) marks)) (take_more L i 0 lt)
    ∙ ap (picked (take i L ++ get_or L i 0 ∷ [])) (take_more marks i false marks_in)
    ∙ picked-push (take i L) (take i marks) (get_or L i 0) (get_or marks i false) fewer

-- ---- the marks along a count
-- The marks from the place on were all set, and are cleared.
pub record IsCleared (old new : List Bool) (place : ℕ) : Type 0 where
  pub front : List Bool
  pub count : ℕ
  pub here : length front ≡ place
  pub was : old ≡ front ++ replicate count true
  pub is : new ≡ front ++ replicate count false

-- the mark at the place, where those behind it are cleared
record IsMarked (old new : List Bool) (place : ℕ) (mark : Bool) : Type 0 where
  pub front : List Bool
  pub count : ℕ
  pub here : length front ≡ place
  pub was : old ≡ front ++ mark ∷ replicate count true
  pub is : new ≡ front ++ mark ∷ replicate count false

pub cleared-first : (marks : List Bool) → IsCleared marks marks (length marks)
cleared-first marks = record { front = marks; count = 0; here = refl; was = sym (append-nil marks); is = sym (append-nil marks) }

marked : (old new : List Bool) (place : ℕ) (mark : Bool) → 0 < place → IsCleared old new place → get_or new (place - 1) false ≡ mark → IsMarked old new (place - 1) mark
marked old new place mark above cleared read =
    let low = place - 1 in
    let front = take low cleared.front in
    let lt : low < length cleared.front = omega (arith, cleared.here) in
    let parts : cleared.front ≡ front ++ get_or cleared.front low false ∷ [] = sym (take_all (low + 1) cleared.front (omega (arith, cleared.here))) ∙ take_more cleared.front low false lt in
    let same : get_or cleared.front low false ≡ mark =
    sym (get_or_append_left cleared.front (replicate cleared.count false) false low lt) ∙ ap (λ marks. get_or marks low false) (sym cleared.is) ∙ read in
    let whole : cleared.front ≡ front ++ mark ∷ [] = parts ∙ ap (λ m. front ++ m ∷ []) same in
    record {
      front = front;
      count = cleared.count;
      here = length-take-le low cleared.front (omega (arith, lt));
      was = cleared.was ∙ ap (λ marks. marks ++ replicate cleared.count true) whole ∙ append_assoc front (mark ∷ []) (replicate cleared.count true);
      is = cleared.is ∙ ap (λ marks. marks ++ replicate cleared.count false) whole ∙ append_assoc front (mark ∷ []) (replicate cleared.count false);
    }

marked-set : (old new : List Bool) (place : ℕ) (mark other : Bool) (at : IsMarked old new place mark) → set new place other ≡ at.front ++ other ∷ replicate at.count false
marked-set old new place mark other at = ap (λ marks. set marks place other) at.is ∙ set_at at.front mark (replicate at.count false) other place at.here

-- a mark that was set is cleared
pub cleared-more : (old new : List Bool) (place : ℕ) → 0 < place → IsCleared old new place → get_or new (place - 1) false ≡ true → IsCleared old (set new (place - 1) false) (place - 1)
cleared-more old new place above cleared read =
    let at = marked old new place true above cleared read in
    record { front = at.front; count = suc at.count; here = at.here; was = at.was; is = marked-set old new (place - 1) true false at }

-- The mark that wasn't set is set, and the next subset is the next in the order.
pub advanced : (L : Atoms) (old new : List Bool) (place : ℕ) → 0 < place → IsCleared old new place → get_or new (place - 1) false ≡ false →
    length L ≡ length old → subsets_from L old ≡ picked L old ∷ subsets_from L (set new (place - 1) true)
advanced L old new place above cleared read len =
    let at = marked old new place false above cleared read in
    let count : length old ≡ length at.front + suc at.count =
    ap length at.was ∙ length-append at.front (false ∷ replicate at.count true)
    ∙ ap (λ n. length at.front + suc n) (length-replicate at.count true) in
    let Next : List Bool → List Bool → Type 0 = λ marks next. subsets_from L marks ≡ picked L marks ∷ subsets_from L next in
    let set_there = marked-set old new (place - 1) false true at in
    subst (λ marks. Next marks (set new (place - 1) true)) (sym at.was)
    (subst (Next (at.front ++ false ∷ replicate at.count true)) (sym set_there) (subsets_from-next L at.front at.count (len ∙ count)))

pub advanced-none : (L : Atoms) (old new : List Bool) → IsCleared old new 0 → length L ≡ length old → subsets_from L old ≡ picked L old ∷ []
advanced-none L old new cleared len =
    let all : old ≡ replicate cleared.count true = cleared.was ∙ ap (λ front. front ++ replicate cleared.count true) (nil_from_length cleared.front cleared.here) in
    let count : length L ≡ cleared.count = len ∙ ap length all ∙ length-replicate cleared.count true in
    let Last : List Bool → Type 0 = λ marks. subsets_from L marks ≡ picked L marks ∷ [] in
    subst Last (sym all) (subst (λ n. Last (replicate n true)) count (subsets_from-last L))
