-- The reason that is gathered from the literals that hold.
use Rattle.std.proofs.Common.{◌≡◌, ℕ, suc, zero, ◌+◌, ◌<◌, ◌≤◌, Bool, true, false, not, cond, ◌&&◌, List, [], ◌∷◌, ◌++◌, length, take, get_or, sum_by, Option, Some, None, refl, sym, ap, ◌∙◌, arith}
use Rattle.std.specs.Prelude.{Result, Ok, Err, IfSome}
use Rattle.std.specs.Result.{IfOk}
use Rattle.std.specs.List.{list_all}
use Rattle.std.proofs.lemmas.List.{append_assoc, get_or_read}
use Rattle.std.proofs.lemmas.List.Sums.{sum_by-cons, sum_by_more, sum_by-take-le}
use Rattle.asp_vars.specs.Literals.{Literal, complement, holds_in, is_true, hits}
use Rattle.asp_vars.proofs.LiteralLaws.{and_left, and_right, and_both, hits-append}
use Rattle.asp_weight.specs.declared.item.Item.{Item}
use Rattle.asp_weight.specs.declared.item.Shape.{Shape}
use Rattle.asp_weight.specs.Rows.{on, weight_if, need_of, total_of}
use Rattle.asp_weight.specs.Spoken.{held, head_of, item_at}
use Rattle.asp_weight.specs.Brief.{counted, IsGathered, IsEnough, IsBy, IsBrief}
use Rattle.asp_weight.proofs.SumLaws.{sum_le, sum_le_but}
use Rattle.asp_weight.proofs.SpeechLaws.{list_all-append-both, held_holds, counted-le}
use Rattle.asp_weight.proofs.GatherLaws.{weight_if-le}

-- fewer items weigh no more
sum_take-le : {X : Type 0} → (f : X → ℕ) (xs : List X) (m n : ℕ) → m ≤ n → sum_by f (take m xs) ≤ sum_by f (take n xs)
sum_take-le f [] m n h = omega (arith, sum_by-take-le f [] m)
sum_take-le f (x ∷ xs) zero n h = omega arith
sum_take-le f (x ∷ xs) (suc m) zero h = absurd (omega (arith, h))
sum_take-le f (x ∷ xs) (suc m) (suc n) h = omega (arith, sum_by-cons f x (take m xs), sum_by-cons f x (take n xs), sum_take-le f xs m n (omega (arith, h)))

-- ---- the loop
held_weighs : (side : Bool) (a : List (Option Bool)) (v : List Bool) (i : Item) → hits v (held side a i) ≡ true → weight_if (holds_in a) side i ≡ counted side a v i
held_weighs side a v i h = cases (holds_in a (on side i.lit)) h
  where
    cases : (b : Bool) → hits v (cond b (on side i.lit ∷ []) []) ≡ true → cond b i.weight 0 ≡ cond b (weight_if (is_true v) side i) 0
    cases true f = sym (ap (λ c. cond c i.weight 0) (and_left (is_true v (on side i.lit)) true f))
    cases false f = refl

pub gathered_more : (side : Bool) (a : List (Option Bool)) (start sum n at w : ℕ) (row : List Item) (x : Item) (first all more : List Literal) → IsGathered side a start sum n row first all →
    n ≤ at → at < length row → x ≡ get_or row at x → more ≡ all ++ held side a x → w ≡ weight_if (holds_in a) side x → IsGathered side a start (sum + w) (at + 1) row first more
gathered_more side a start sum n at w row x first all more g from within is added weight = record {
  rest = g.rest ++ held side a x;
  whole = added ∙ (ap (λ (ls : List Literal). ls ++ held side a x) g.whole ∙ append_assoc first g.rest (held side a x));
  hold = list_all-append-both (holds_in a) g.rest (held side a x) g.hold (held_holds side a x);
  weighs = λ v h.
      let split = sym (hits-append v g.rest (held side a x)) ∙ h in
      omega (
        arith,
        g.weighs v (and_left (hits v g.rest) (hits v (held side a x)) split),
        sum_take-le (counted side a v) row n at from,
        sum_by_more (counted side a v) row at x within,
        ap (counted side a v) is,
        held_weighs side a v x (and_right (hits v g.rest) (hits v (held side a x)) split),
        weight,
      );
}

pub gathered_small : (side : Bool) (a : List (Option Bool)) (start sum n at w : ℕ) (row : List Item) (x : Item) → n ≤ at → at < length row → x ≡ get_or row at x → w ≡ weight_if (holds_in a) side x →
    sum ≤ start + total_of (take n row) → sum + w ≤ start + total_of (take (at + 1) row)
gathered_small side a start sum n at w row x from within is weight small =
    omega (
      arith,
      small,
      weight,
      weight_if-le (holds_in a) side x,
      sum_take-le (λ (y : Item). y.weight) row n at from,
      sum_by_more (λ (y : Item). y.weight) row at x within,
      ap (λ (y : Item). y.weight) is,
    )

-- ---- what is gathered says
pub brief_variable : (a : List (Option Bool)) (s : Shape) (row : List Item) (l : Literal) (side : Bool) (need : ℕ) (first all : List Literal) →
    l.var ≡ s.var → side ≡ l.truth → need ≡ need_of side s → first ≡ complement l ∷ [] →
    IsEnough side a need 0 row first all → IsBrief a s row l all
brief_variable a s row l side need first all var truth much one e = record {
  rest = e.rest;
  whole = whole;
  hold = e.hold;
  side = side;
  settles = λ v h.
      let split : (is_true v (complement l) && hits v e.rest) ≡ true = sym (ap (hits v) whole) ∙ h in (
        ap (λ (u : ℕ). is_true v (record { var = u; truth = not side })) (sym var)
            ∙ (ap (λ (b : Bool). is_true v (record { var = l.var; truth = not b })) truth ∙ and_left (is_true v (complement l)) (hits v e.rest) split),
        omega (
          arith,
          much,
          e.enough v (and_right (is_true v (complement l)) (hits v e.rest) split),
          sum_le (counted side a v) (weight_if (is_true v) side) row (counted-le side a v),
        ),
      );
}
  where
    whole : all ≡ complement l ∷ e.rest
    whole = e.whole ∙ ap (λ (ls : List Literal). ls ++ e.rest) one

pub brief_item : (a : List (Option Bool)) (s : Shape) (row : List Item) (l : Literal) (side : Bool) (at need start : ℕ) (k head : Literal)
    (first all : List Literal) → at < length row → start ≡ (item_at row at).weight →
    head ≡ head_of side s → k ≡ complement l → need ≡ need_of side s → first ≡ k ∷ head ∷ [] → IsBy side a s l (item_at row at) → IsEnough side a need start row first all → IsBrief a s row l all
brief_item a s row l side at need start k head first all within begin the_head ruled much two by e = record {
  rest = head_of side s ∷ e.rest;
  whole = whole;
  hold = and_both (holds_in a (head_of side s)) (list_all (holds_in a) e.rest) by.valued e.hold;
  side = side;
  settles = λ v h.
      let split : (is_true v (complement l) && hits v (head_of side s ∷ e.rest)) ≡ true = sym (ap (hits v) whole) ∙ h in
      let later = and_right (is_true v (complement l)) (hits v (head_of side s ∷ e.rest)) split in
      let left_out : counted side a v (item_at row at) ≡ 0 = ap (λ b. cond b (weight_if (is_true v) side (item_at row at)) 0) (ap (holds_in a) by.ruled_out ∙ by.none) in
      let weighs : weight_if (is_true v) side (item_at row at) ≡ (item_at row at).weight =
      ap (λ b. cond b (item_at row at).weight 0) (ap (is_true v) by.ruled_out ∙ and_left (is_true v (complement l)) (hits v (head_of side s ∷ e.rest)) split) in (
        and_left (is_true v (head_of side s)) (hits v e.rest) later,
        omega (
          arith,
          much,
          begin,
          e.enough v (and_right (is_true v (head_of side s)) (hits v e.rest) later),
          weighs,
          sum_le_but (counted side a v) (weight_if (is_true v) side) row at (record { weight = 0; lit = record { var = 0; truth = false } }) (counted-le side a v) within left_out,
        ),
      );
}
  where
    whole : all ≡ complement l ∷ head_of side s ∷ e.rest
    whole = e.whole ∙ (ap (λ (ls : List Literal). ls ++ e.rest) two ∙ (ap (λ (m : Literal). m ∷ head ∷ e.rest) ruled ∙ ap (λ (m : Literal). complement l ∷ m ∷ e.rest) the_head))

pub weight_read : (row : List Item) (at : ℕ) (x : Item) → at < length row → x ≡ get_or row at x → x.weight ≡ (item_at row at).weight
weight_read row at x h is = ap (λ (i : Item). i.weight) (get_or_read row at x h is (record { weight = 0; lit = record { var = 0; truth = false } }))

-- what holds of what may be answered is weakened
pub weaker : {X E : Type 0} (P Q : X → Type 0) (r : Result (Option X) E) → IfOk r (λ o. IfSome o P) → ((x : X) → P x → Q x) → IfOk r (λ o. IfSome o Q)
weaker P Q (Err e) h f = tt
weaker P Q (Ok None) h f = tt
weaker P Q (Ok (Some x)) h f = f x h
