-- A text is cut before the first of a byte in one way.
use Rattle.std.proofs.Common.{◌≡◌, ◌≢◌, ℕ, suc, ◌+◌, Bool, true, false, cond, eqb, List, [], ◌∷◌, ◌++◌, length, take, drop, refl, sym, ap, ◌∙◌, arith, Option, Some, None, take_at}
use Rattle.std.specs.Prelude.{not}
use Rattle.std.specs.List.{AllByRecursion, position_or_len}
use Rattle.std.specs.Prelude.{MatchOption, MatchBool}
use Rattle.std.specs.Cmp.Lexicographic.{pointwise}
use Rattle.std.proofs.lemmas.Bool.{eqb-true, eq-eqb, false≢true, and_parts}
use Rattle.std.proofs.lemmas.List.{take-append-drop}
use Rattle.asp_proof.specs.Fields.{Stops, IsCut}

abbrev pub Lacks : ℕ → List ℕ → Type 0
Lacks byte = AllByRecursion (λ b. b ≢ byte)

pub one_cut : (byte : ℕ) (xs ys r s : List ℕ) → Lacks byte xs → Lacks byte ys → Stops byte r → Stops byte s → xs ++ r ≡ ys ++ s → (xs ≡ ys) × (r ≡ s)
one_cut byte [] [] r s a b c d e = (refl, e)
one_cut byte [] (y ∷ ys) [] s a b c d e = absurd cc
one_cut byte [] (y ∷ ys) (z ∷ r) s a b c d e = let same : y ≡ z = cc in absurd (b.0 (same ∙ c))
one_cut byte (x ∷ xs) [] r [] a b c d e = absurd cc
one_cut byte (x ∷ xs) [] r (z ∷ s) a b c d e = let same : x ≡ z = cc in absurd (a.0 (same ∙ d))
one_cut byte (x ∷ xs) (y ∷ ys) r s a b c d e =
    let first : x ≡ y = cc in
    let others : xs ++ r ≡ ys ++ s = cc in
    let more = one_cut byte xs ys r s a.1 b.1 c d others in
    (cc (first, more.0), more.1)

abbrev at : ℕ → List ℕ → ℕ
at byte text = position_or_len (λ b. eqb b byte) text

pub cut_at : (byte : ℕ) (text : List ℕ) → IsCut byte text (take (position_or_len (λ b. eqb b byte) text) text) (drop (position_or_len (λ b. eqb b byte) text) text)
cut_at byte [] = record { whole = refl; none = tt; at = tt }
cut_at byte (b ∷ bs) = (elim (eqb b byte) as (λ v. eqb b byte ≡ v → IsCut byte (b ∷ bs) (take (cond (not v) (1 + at byte bs) 0) (b ∷ bs)) (drop (cond (not v) (1 + at byte bs) 0) (b ∷ bs))) [
  | true ↦ λ e. record { whole = refl; none = tt; at = eqb-true b byte e }
  | false ↦ λ e.
      let n : 1 + at byte bs ≡ suc (at byte bs) = omega arith in
      let h = cut_at byte bs in
      let other : b ≢ byte = λ same. false≢true (sym e ∙ eq-eqb b byte same) in
      rw n (record { whole = ap (λ (t : List ℕ). b ∷ t) h.whole; none = (other, h.none); at = h.at })
]) refl

-- ---- a front

pub same_lists : (xs ys : List ℕ) → pointwise eqb xs ys ≡ true → xs ≡ ys
same_lists [] [] e = refl
same_lists [] (y ∷ ys) e = absurd (false≢true e)
same_lists (x ∷ xs) [] e = absurd (false≢true e)
same_lists (x ∷ xs) (y ∷ ys) e =
    let p = and_parts (eqb x y) (pointwise eqb xs ys) e in
    let first = eqb-true x y p.0 in
    let others = same_lists xs ys p.1 in
    cc (first, others)

pub list_same : (xs : List ℕ) → pointwise eqb xs xs ≡ true
list_same [] = refl
list_same (x ∷ xs) = rw (eq-eqb x x refl, list_same xs) refl

pub front_missing : (text front : List ℕ) → pointwise eqb (take (length front) text) front ≡ false → (rest : List ℕ) → front ++ rest ≡ text → ⊥
front_missing text front differs rest e =
    let same : take (length front) text ≡ front = ap (take (length front)) (sym e) ∙ take_at front rest (length front) refl in
    false≢true (sym differs ∙ ap (λ (t : List ℕ). pointwise eqb t front) same ∙ list_same front)

pub front_found : (text front rest : List ℕ) → pointwise eqb (take (length front) text) front ≡ true → rest ≡ drop (length front) text → front ++ rest ≡ text
front_found text front rest equal e =
    ap (λ (t : List ℕ). front ++ t) e ∙ ap (λ (t : List ℕ). t ++ drop (length front) text) (sym (same_lists _ front equal)) ∙ take-append-drop (length front) text

pub after_front : {V : Type 0} (bytes : V → List ℕ) (r : Option V) (text front : List ℕ)
    → MatchOption r (pointwise eqb (take (length front) text) front ≡ false)
    (λ x. (pointwise eqb (take (length front) text) front ≡ true) × (bytes x ≡ drop (length front) text) ×
    (length (bytes x) + length front ≡ length text))
    → MatchOption r ((rest : List ℕ) → front ++ rest ≡ text → ⊥) (λ x. front ++ bytes x ≡ text)
after_front bytes None text front h = front_missing text front h
after_front bytes (Some x) text front h = front_found text front (bytes x) h.0 h.1

pub different : (b : Bool) (xs ys : List ℕ) → b ≡ pointwise eqb xs ys → b ≡ false → xs ≢ ys
different b xs ys e f same = false≢true (sym f ∙ e ∙ ap (λ (t : List ℕ). pointwise eqb t ys) same ∙ list_same ys)

pub equal : (b : Bool) (xs ys : List ℕ) → b ≡ pointwise eqb xs ys → b ≡ true → xs ≡ ys
equal b xs ys e t = same_lists xs ys (sym e ∙ t)

pub last_or_not : (b : Bool) (xs ys zs : List ℕ) → b ≡ pointwise eqb xs ys → ys ≡ zs → MatchBool b (xs ≡ zs) (xs ≡ zs → ⊥)
last_or_not true xs ys zs e same = equal true xs ys e refl ∙ same
last_or_not false xs ys zs e same = λ k. different false xs ys e refl (k ∙ sym same)
