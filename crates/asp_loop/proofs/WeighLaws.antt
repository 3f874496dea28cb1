-- Sums of weights, place by place.
use Rattle.std.proofs.Common.{◌≡◌, ℕ, zero, suc, ◌+◌, ◌<◌, ◌≤◌, Bool, true, false, not, cond, ◌&&◌, ◌||◌, eqb, List, [], ◌∷◌, ◌++◌, length, get_or, take, Option, Some, None, refl, sym, ap, ◌∙◌, subst, arith, inl, inr, append_assoc}
use Rattle.std.specs.Prelude.{All, ℤ, pos, ◌+ℤ◌, ◌-ℤ◌, ◌≤ℤ◌}
use Rattle.std.specs.List.{list_any, AllByRecursion}
use Rattle.std.proofs.lemmas.Bool.{false≢true, and_from, eq-eqb}
use Rattle.std.specs.Bool.{beq}
use Rattle.std.proofs.lemmas.Int.{ints}
use Rattle.std.proofs.lemmas.List.Elements.{All-head, All-tail}
use Rattle.std.proofs.lemmas.List.Folds.{list_any_at, list_any-append}
use Rattle.asp_vars.specs.Literals.{Literal, complement, literal_eq, has_literal, holds_in}
use Rattle.asp_model.specs.Sets.{Atoms}
use Rattle.asp_loop.specs.Weighing.{is_within, counts, weigh, IsSlack, is_choice, is_kept, ChoosesOne, Chooses}

-- no weight is negative
abbrev pub AreWeights : List ℤ → Type 0
AreWeights weights = All (λ w. pos 0 ≤ℤ w) weights

taken : (b : Bool) (w : ℤ) → pos 0 ≤ℤ w → pos 0 ≤ℤ cond b w (pos 0)
taken true w h = h
taken false w h = omega (arith, ints)

pub weigh_more : (q : Literal → Bool) (lits : List Literal) (weights : List ℤ) (i : ℕ) (d : Literal) (e : ℤ) → i < length lits →
    length weights ≡ length lits → weigh q (take (i + 1) lits) (take (i + 1) weights) ≡
    (weigh q (take i lits) (take i weights) +ℤ cond (q (get_or lits i d)) (get_or weights i e) (pos 0))
weigh_more q lits weights i d e lt same = subst
    (λ (n : ℕ). weigh q (take n lits) (take n weights) ≡
    (weigh q (take i lits) (take i weights) +ℤ cond (q (get_or lits i d)) (get_or weights i e) (pos 0)))
    (let k : suc i ≡ i + 1 = omega arith in k) (along lits weights i lt same)
  where
    along : (ls : List Literal) (ws : List ℤ) (k : ℕ) → k < length ls → length ws ≡ length ls →
        weigh q (take (suc k) ls) (take (suc k) ws) ≡ (weigh q (take k ls) (take k ws) +ℤ cond (q (get_or ls k d)) (get_or ws k e) (pos 0))
    along [] ws k lt same = absurd (omega arith)
    along (l ∷ ls) [] k lt same = absurd (omega arith)
    along (l ∷ ls) (w ∷ ws) zero lt same = omega (arith, ints)
    along (l ∷ ls) (w ∷ ws) (suc k) lt same = let h = along ls ws k (omega arith) (omega arith) in omega (arith, ints, h)

pub weigh-positive : (q : Literal → Bool) (lits : List Literal) (weights : List ℤ) → AreWeights weights → pos 0 ≤ℤ weigh q lits weights
weigh-positive q [] weights h = omega (arith, ints)
weigh-positive q (l ∷ lits) [] h = omega (arith, ints)
weigh-positive q (l ∷ lits) (w ∷ weights) h =
    let a = taken (q l) w (All-head (λ v. pos 0 ≤ℤ v) w weights h) in
    let b = weigh-positive q lits weights (All-tail (λ v. pos 0 ≤ℤ v) w weights h) in
    omega (arith, ints, a, b)

pub weigh_front : (q : Literal → Bool) (lits : List Literal) (weights : List ℤ) (i : ℕ) → AreWeights weights → weigh q (take i lits) (take i weights) ≤ℤ weigh q lits weights
weigh_front q lits weights zero h = weigh-positive q lits weights h
weigh_front q [] weights (suc i) h = omega (arith, ints)
weigh_front q (l ∷ lits) [] (suc i) h = omega (arith, ints)
weigh_front q (l ∷ lits) (w ∷ weights) (suc i) h = let a = weigh_front q lits weights i (All-tail (λ v. pos 0 ≤ℤ v) w weights h) in omega (arith, ints, a)

pub take_whole : {X : Type 0} (xs : List X) (n : ℕ) → length xs ≤ n → take n xs ≡ xs
take_whole [] zero h = refl
take_whole [] (suc n) h = refl
take_whole (x ∷ xs) zero h = absurd (omega arith)
take_whole (x ∷ xs) (suc n) h = ap (λ ys. x ∷ ys) (take_whole xs n (omega arith))

-- ---- what is left of a bound
pub slack_more : (q : Literal → Bool) (lits : List Literal) (weights : List ℤ) (i : ℕ) (d : Literal) (e bound : ℤ) (left left' : ℕ) →
    i < length lits → length weights ≡ length lits → pos left ≡ (bound -ℤ weigh q (take i lits) (take i weights)) →
    IsSlack (pos left) (cond (q (get_or lits i d)) (get_or weights i e) (pos 0)) (Some left') → (0 < left') ×
    (pos left' ≡ (bound -ℤ weigh q (take (i + 1) lits) (take (i + 1) weights)))
slack_more q lits weights i d e bound left left' lt same before step =
    let more = weigh_more q lits weights i d e lt same in (step.1, (let s = step.0 in omega (arith, ints, more, before, s)))

pub slack_none : (q : Literal → Bool) (lits : List Literal) (weights : List ℤ) (i : ℕ) (d : Literal) (e bound : ℤ) (left : ℕ) → i < length lits →
    length weights ≡ length lits → AreWeights weights → pos left ≡ (bound -ℤ weigh q (take i lits) (take i weights)) →
    IsSlack (pos left) (cond (q (get_or lits i d)) (get_or weights i e) (pos 0)) None → bound ≤ℤ weigh q lits weights
slack_none q lits weights i d e bound left lt same positive before step =
    let more = weigh_more q lits weights i d e lt same in
    let front = weigh_front q lits weights (i + 1) positive in
    omega (arith, ints, more, front, before, step)

pub slack_whole : (q : Literal → Bool) (lits : List Literal) (weights : List ℤ) (i : ℕ) (bound : ℤ) (left : ℕ) → length lits ≤ i →
    length weights ≡ length lits → 0 < left → pos left ≡ (bound -ℤ weigh q (take i lits) (take i weights)) →
    IsSlack bound (weigh q lits weights) (Some left)
slack_whole q lits weights i bound left end same positive is =
    (is ∙ ap (λ ls. bound -ℤ weigh q ls (take i weights)) (take_whole lits i end) ∙ ap (λ ws. bound -ℤ weigh q lits ws) (take_whole weights i (omega arith)), positive)

-- ---- choices
pub record Choosing (x : List (Option Bool)) (vars : Atoms) (lits : List Literal) (weights : List ℤ) (slack : ℕ) (old now : List Literal) (left i : ℕ) : Type 0 where
  pub part : List Literal
  pub is : now ≡ old ++ part
  pub positive : 0 < left
  pub chosen : AllByRecursion (λ l. list_any (λ k. is_choice x vars k && literal_eq (complement k) l) lits ≡ true) part
  pub enough : (n : List Literal) → ((l : Literal) → has_literal part l ≡ true → has_literal n l ≡ true) →
      (weigh (is_kept vars n) (take i lits) (take i weights) +ℤ pos left) ≤ℤ (weigh (counts x vars true) (take i lits) (take i weights) +ℤ pos slack)

append_nil : {X : Type 0} (xs : List X) → xs ++ [] ≡ xs
append_nil [] = refl
append_nil (x ∷ xs) = ap (λ ys. x ∷ ys) (append_nil xs)

-- how a literal that isn't a choice counts
kept_counts : (w h k : Bool) (v : ℤ) → pos 0 ≤ℤ v → (not w && h) ≡ false → cond (not w && not k) v (pos 0) ≤ℤ cond (not w && (not true || not h)) v (pos 0)
kept_counts true h k v p e = omega (arith, ints)
kept_counts false true k v p e = absurd (false≢true (sym e))
kept_counts false false true v p e = p
kept_counts false false false v p e = omega (arith, ints)

choice_counts : (w h k : Bool) (v : ℤ) → pos 0 ≤ℤ v → (not w && h) ≡ true → (cond (not w && not k) v (pos 0) ≤ℤ v) × (cond (not w && (not true || not h)) v (pos 0) ≡ pos 0)
choice_counts true h k v p e = absurd (false≢true e)
choice_counts false true true v p e = (p, refl)
choice_counts false true false v p e = (omega (arith, ints), refl)
choice_counts false false k v p e = absurd (false≢true e)

chosen_kept : (w k : Bool) (v : ℤ) → k ≡ true → cond (not w && not k) v (pos 0) ≡ pos 0
chosen_kept true k v e = refl
chosen_kept false true v e = refl
chosen_kept false false v e = absurd (false≢true e)

or_right : (a b : Bool) → b ≡ true → (a || b) ≡ true
or_right true b e = refl
or_right false b e = e

or_left : (a b : Bool) → a ≡ true → (a || b) ≡ true
or_left true b e = refl
or_left false b e = absurd (false≢true e)

each-append : {X : Type 0} (P : X → Type 0) (xs ys : List X) → AllByRecursion P xs → AllByRecursion P ys → AllByRecursion P (xs ++ ys)
each-append P [] ys h k = k
each-append P (x ∷ xs) ys h k = (h.0, each-append P xs ys h.1 k)

pub literal_eq-itself : (l : Literal) → literal_eq l l ≡ true
literal_eq-itself l = and_from (eqb l.var l.var) (beq l.truth l.truth) (eq-eqb l.var l.var refl) (same l.truth)
  where
    same : (b : Bool) → beq b b ≡ true
    same true = refl
    same false = refl

pub choose_more : (x : List (Option Bool)) (vars : Atoms) (lits : List Literal) (weights : List ℤ) (slack : ℕ) (old now now' : List Literal)
    (left rest i : ℕ) (d : Literal) (e : ℤ) → i < length lits → length weights ≡ length lits → AreWeights weights →
    ChoosesOne x vars (get_or lits i d) (get_or weights i e) left rest now now' → Choosing x vars lits weights slack old now left i →
    Choosing x vars lits weights slack old now' rest (i + 1)
choose_more x vars lits weights slack old now now' left rest i d e lt same weighted step h = elim step.1 [
  | inl kept ↦ record {
    part = h.part;
    is = kept.2 ∙ h.is;
    positive = step.0;
    chosen = h.chosen;
    enough = λ n inside.
        let a = weigh_more (is_kept vars n) lits weights i d e lt same in
        let b = weigh_more (counts x vars true) lits weights i d e lt same in
        let c = kept_counts (is_within vars (get_or lits i d)) (holds_in x (complement (get_or lits i d))) (has_literal n (complement (get_or lits i d))) (get_or weights i e) positive kept.0 in
        let before = h.enough n inside in
        let r = kept.1 in
        omega (arith, ints, a, b, c, before, r);
  }
  | inr s ↦ elim s [
    | inl used ↦ record {
      part = h.part;
      is = used.2 ∙ h.is;
      positive = step.0;
      chosen = h.chosen;
      enough = λ n inside.
          let a = weigh_more (is_kept vars n) lits weights i d e lt same in
          let b = weigh_more (counts x vars true) lits weights i d e lt same in
          let c = choice_counts (is_within vars (get_or lits i d)) (holds_in x (complement (get_or lits i d))) (has_literal n (complement (get_or lits i d))) (get_or weights i e) positive used.0 in
          let before = h.enough n inside in
          let c0 = c.0 in let c1 = c.1 in let r = used.1 in
          omega (arith, ints, a, b, c0, c1, before, r);
    }
    | inr added ↦
        let one : Literal = complement (get_or lits i d) in
        record {
          part = h.part ++ one ∷ [];
          is = added.2 ∙ ap (λ ls. ls ++ one ∷ []) h.is ∙ append_assoc old h.part (one ∷ []);
          positive = step.0;
          chosen = each-append (λ l. list_any (λ k. is_choice x vars k && literal_eq (complement k) l) lits ≡ true) h.part (one ∷ []) h.chosen (
            list_any_at (λ k. is_choice x vars k && literal_eq (complement k) one) lits i d lt
                (and_from (is_choice x vars (get_or lits i d)) (literal_eq one one) added.0 (literal_eq-itself one)),
            tt,
          );
          enough = λ n inside.
              let a = weigh_more (is_kept vars n) lits weights i d e lt same in
              let b = weigh_more (counts x vars true) lits weights i d e lt same in
              let last : has_literal n one ≡ true =
              inside one (list_any-append (λ k. literal_eq k one) h.part (one ∷ [])
              ∙ or_right (has_literal h.part one) (literal_eq one one || false) (or_left (literal_eq one one) false (literal_eq-itself one)))
              in
              let c = choice_counts (is_within vars (get_or lits i d)) (holds_in x one) (has_literal n one) (get_or weights i e) positive added.0 in
              let c1 = c.1 in
              let none = chosen_kept (is_within vars (get_or lits i d)) (has_literal n one) (get_or weights i e) last in
              let before = h.enough n (λ l f. inside l (list_any-append (λ k. literal_eq k l) h.part (one ∷ []) ∙ or_left (has_literal h.part l) (has_literal (one ∷ []) l) f)) in
              let r = added.1 in
              omega (arith, ints, a, b, c1, none, before, r);
        }
  ]
]
  where
    positive : pos 0 ≤ℤ get_or weights i e
    positive = weighted i e (omega arith)

pub choices : (x : List (Option Bool)) (vars : Atoms) (lits : List Literal) (weights : List ℤ) (slack : ℕ) (old now : List Literal) (left i : ℕ) →
    length lits ≤ i → length weights ≡ length lits → Choosing x vars lits weights slack old now left i → Chooses x vars lits weights slack old now
choices x vars lits weights slack old now left i end same h = record {
  part = h.part;
  is = h.is;
  chosen = h.chosen;
  enough =
      let ls = take_whole lits i end in
      let ws = take_whole weights i (omega arith) in
      let a = h.enough h.part (λ l f. f) in
      let b : weigh (is_kept vars h.part) (take i lits) (take i weights) ≡ weigh (is_kept vars h.part) lits weights =
      ap (λ xs. weigh (is_kept vars h.part) xs (take i weights)) ls ∙ ap (λ xs. weigh (is_kept vars h.part) lits xs) ws in
      let c : weigh (counts x vars true) (take i lits) (take i weights) ≡ weigh (counts x vars true) lits weights =
      ap (λ xs. weigh (counts x vars true) xs (take i weights)) ls ∙ ap (λ xs. weigh (counts x vars true) lits xs) ws in
      let left_positive = h.positive in
      omega (arith, ints, a, b, c, left_positive);
}
