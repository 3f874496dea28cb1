-- What was asked of all holds of the one that was popped.
use Rattle.std.proofs.Common.{◌≡◌, ℕ, zero, suc, ◌-◌, ◌<◌, List, [], ◌∷◌, ◌++◌, length, ap, sym, ◌∙◌, subst, arith, Option, Some, None, length-append}
use Rattle.std.specs.Prelude.{slice_index_or, option_to_list}
use Rattle.std.specs.List.{All}
use Rattle.std.proofs.lemmas.List.{get_or_append_left}
use Rattle.std.proofs.lemmas.List.Elements.{All-append}

abbrev value_or : {X : Type 0} → X → Option X → X
value_or d (Some x) = x
value_or d None = d

pub popped : {X : Type 0} (P : X → Type 0) (xs : List X) (n : ℕ) (o : Option X) (x : X) → All P xs → n ≡ length xs → 0 < n →
    ((d : X) → 0 < n → o ≡ Some (slice_index_or xs (n - 1) d)) → o ≡ Some x → P x
popped P xs n o x all len some value is = subst P (ap (value_or x) (sym (value x some) ∙ is)) (all (n - 1) x (omega (arith, len, some)))

-- What was asked of all holds of those that are left.
pub all-left : {X : Type 0} (P : X → Type 0) (xs ys : List X) (o : Option X) → xs ≡ ys ++ option_to_list o → All P xs → All P ys
all-left {X = X} P xs ys o is all k d lt =
    subst P (ap (λ (l : List X). slice_index_or l k d) is ∙ get_or_append_left ys (option_to_list o) d k lt) (all k d (omega (arith, lt, ap length is, length-append ys (option_to_list o))))

pub all-pushed : {X : Type 0} (P : X → Type 0) (xs ys : List X) (o : Option X) (x : X) → xs ≡ ys ++ option_to_list o → o ≡ Some x → All P ys → P x → All P xs
all-pushed {X = X} P xs ys o x is at all here =
    subst (All P) (sym (is ∙ ap (λ p. ys ++ option_to_list p) at)) (All-append P ys (x ∷ []) all (one x here))
  where
    one : (y : X) → P y → All P (y ∷ [])
    one y h zero d lt = h
    one y h (suc k) d lt = absurd (omega arith)
