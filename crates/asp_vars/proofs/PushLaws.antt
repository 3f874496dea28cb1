-- A loop that pushes one value for each item, behind what was there.
use Rattle.std.proofs.Common.{◌≡◌, ℕ, ◌+◌, ◌<◌, ◌≤◌, List, [], ◌∷◌, ◌++◌, map, flat_map, take, get_or, length, append_assoc, sym, ap, ◌∙◌}
use Rattle.std.proofs.lemmas.List.{map_more, flat_map_more, take_more, take_all}

pub more_behind : {X Y : Type 0} (f : X → Y) (xs : List X) (i : ℕ) (d : X) (y : Y) (first old new : List Y) → i < length xs →
    old ≡ first ++ map f (take i xs) → new ≡ old ++ y ∷ [] → y ≡ f (get_or xs i d) → new ≡ first ++ map f (take (i + 1) xs)
more_behind f xs i d y first old new lt e made is =
    made
    ∙ ap (λ ys. ys ++ y ∷ []) e
    ∙ append_assoc first (map f (take i xs)) (y ∷ [])
    ∙ ap (λ z. first ++ (map f (take i xs) ++ z ∷ [])) is
    ∙ ap (λ ys. first ++ ys) (sym (map_more f xs i d lt))

pub whole_behind : {X Y : Type 0} (f : X → Y) (xs : List X) (i : ℕ) (first made : List Y) → length xs ≤ i → made ≡ first ++ map f (take i xs) → made ≡ first ++ map f xs
whole_behind f xs i first made le e = e ∙ ap (λ zs. first ++ map f zs) (take_all i xs le)

-- each item itself
pub item_behind : {X : Type 0} (xs : List X) (i : ℕ) (d y : X) (first old new : List X) → i < length xs → old ≡ first ++ take i xs →
    new ≡ old ++ y ∷ [] → y ≡ get_or xs i d → new ≡ first ++ take (i + 1) xs
item_behind xs i d y first old new lt e made is =
    made
    ∙ ap (λ ys. ys ++ y ∷ []) e
    ∙ append_assoc first (take i xs) (y ∷ [])
    ∙ ap (λ z. first ++ (take i xs ++ z ∷ [])) is
    ∙ ap (λ ys. first ++ ys) (sym (take_more xs i d lt))

pub items_behind : {X : Type 0} (xs : List X) (i : ℕ) (first made : List X) → length xs ≤ i → made ≡ first ++ take i xs → made ≡ first ++ xs
items_behind xs i first made le e = e ∙ ap (λ zs. first ++ zs) (take_all i xs le)

-- a list for each item
pub lists_behind : {X Y : Type 0} (f : X → List Y) (xs : List X) (i : ℕ) (d : X) (ys first old new : List Y) → i < length xs →
    old ≡ first ++ flat_map f (take i xs) → new ≡ old ++ ys → ys ≡ f (get_or xs i d) → new ≡ first ++ flat_map f (take (i + 1) xs)
lists_behind f xs i d ys first old new lt e made is =
    made
    ∙ ap (λ zs. zs ++ ys) e
    ∙ ap (λ zs. (first ++ flat_map f (take i xs)) ++ zs) is
    ∙ flat_map_more f first (take i xs) (get_or xs i d)
    ∙ ap (λ zs. first ++ flat_map f zs) (sym (take_more xs i d lt))

pub all_lists_behind : {X Y : Type 0} (f : X → List Y) (xs : List X) (i : ℕ) (first made : List Y) → length xs ≤ i → made ≡ first ++ flat_map f (take i xs) → made ≡ first ++ flat_map f xs
all_lists_behind f xs i first made le e = e ∙ ap (λ zs. first ++ flat_map f zs) (take_all i xs le)
