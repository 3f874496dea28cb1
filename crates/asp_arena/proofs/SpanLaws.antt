-- Spans within the cells, of which no two have a cell together, through each change.
use Rattle.std.proofs.Common.{◌≡◌, ◌≢◌, ℕ, ◌+◌, ◌<◌, ◌≤◌, Bool, true, false, eqb, List, [], ◌∷◌, ◌++◌, length, get_or, set, inl, inr, ◌⊎◌, refl, sym, ap, ◌∙◌, subst, arith}
use Rattle.std.proofs.lemmas.Bool.{eqb-true}
use Rattle.std.proofs.lemmas.Bool.Decides.{nat_tests}
use Rattle.std.proofs.lemmas.Grind.{get_or-set_at}
use Rattle.std.proofs.lemmas.List.{length-append, length-set, get_or-set_other, get_or_append_left, get_or_default, get_or_push}
use Rattle.asp_vars.specs.Literals.{Literal}
use Rattle.asp_arena.specs.declared.span.Span.{Span}
use Rattle.asp_arena.specs.Rows.{AreApart, AreSpans}

is_or_not : (i j : ℕ) → (i ≡ j) ⊎ (i ≢ j)
is_or_not i j = cases (eqb i j) refl
  where
    cases : (b : Bool) → b ≡ eqb i j → (i ≡ j) ⊎ (i ≢ j)
    cases true q = inl (eqb-true i j (sym q))
    cases false q = inr (let ne : i ≢ j = grind (arith, nat_tests) in ne)

apart_back : (s t : Span) → AreApart s t → AreApart t s
apart_back s t a = elim a [ inl h ↦ inr h | inr h ↦ inl h ]

-- two different ones, in any order
pub apart_at : (spans : List Span) (cells : List Literal) (j k : ℕ) (d : Span) → AreSpans spans cells → j < length spans → k < length spans → j ≢ k → AreApart (get_or spans j d) (get_or spans k d)
apart_at spans cells j k d h l m ne = cases (below j k ne)
  where
    below : (a b : ℕ) → a ≢ b → (a < b) ⊎ (b < a)
    below a b n = grind arith

    cases : (j < k) ⊎ (k < j) → AreApart (get_or spans j d) (get_or spans k d)
    cases (inl lt) = h.apart j k d lt m
    cases (inr gt) = apart_back (get_or spans k d) (get_or spans j d) (h.apart k j d gt l)

-- more cells
spans_append : (spans : List Span) (cells lits : List Literal) → AreSpans spans cells → AreSpans spans (cells ++ lits)
spans_append spans cells lits h = record {
  within = λ k d lt. omega (arith, h.within k d lt, length-append cells lits);
  apart = h.apart;
}

-- one span changes
spans_set : (spans : List Span) (cells : List Literal) (id : ℕ) (s : Span) → AreSpans spans cells → id < length spans → s.start + s.len ≤ length cells →
    ((k : ℕ) (d : Span) → k < length spans → k ≢ id → AreApart (get_or spans k d) s) → AreSpans (set spans id s) cells
spans_set spans cells id s h lt w a = record {
  within = λ k d l. within k d (omega (arith, l, length-set spans id s)) (is_or_not k id);
  apart = λ j k d l m. apart j k d l (omega (arith, m, length-set spans id s)) (is_or_not j id) (is_or_not k id);
}
  where
    here : (k : ℕ) (d : Span) → k ≡ id → get_or (set spans id s) k d ≡ s
    here k d e = get_or-set_at spans id k s d e lt

    there : (k : ℕ) (d : Span) → k ≢ id → get_or (set spans id s) k d ≡ get_or spans k d
    there k d ne = get_or-set_other spans id k s d ne

    within : (k : ℕ) (d : Span) → k < length spans → (k ≡ id) ⊎ (k ≢ id) → (get_or (set spans id s) k d).start + (get_or (set spans id s) k d).len ≤ length cells
    within k d l (inl e) = subst (λ (x : Span). x.start + x.len ≤ length cells) (sym (here k d e)) w
    within k d l (inr ne) = subst (λ (x : Span). x.start + x.len ≤ length cells) (sym (there k d ne)) (h.within k d l)

    both : (j k : ℕ) (d x y : Span) → get_or (set spans id s) j d ≡ x → get_or (set spans id s) k d ≡ y → AreApart x y → AreApart (get_or (set spans id s) j d) (get_or (set spans id s) k d)
    both j k d x y p q r = subst (λ (z : Span). AreApart z (get_or (set spans id s) k d)) (sym p) (subst (λ (z : Span). AreApart x z) (sym q) r)

    apart : (j k : ℕ) (d : Span) → j < k → k < length spans → (j ≡ id) ⊎ (j ≢ id) → (k ≡ id) ⊎ (k ≢ id) → AreApart (get_or (set spans id s) j d) (get_or (set spans id s) k d)
    apart j k d l m (inl e) (inl f) = absurd (omega (arith, e, f, l))
    apart j k d l m (inl e) (inr n) = both j k d s (get_or spans k d) (here j d e) (there k d n) (apart_back (get_or spans k d) s (a k d m n))
    apart j k d l m (inr n) (inl f) = both j k d (get_or spans j d) s (there j d n) (here k d f) (a j d (omega (arith, l, m)) n)
    apart j k d l m (inr n) (inr o) = both j k d (get_or spans j d) (get_or spans k d) (there j d n) (there k d o) (h.apart j k d l m)

-- a span behind all cells, with more of them
pub spans_put : (spans : List Span) (cells lits : List Literal) (id : ℕ) (s : Span) → AreSpans spans cells → id < length spans →
    s.start ≡ length cells → s.len ≡ length lits → AreSpans (set spans id s) (cells ++ lits)
spans_put spans cells lits id s h lt a b =
    spans_set spans (cells ++ lits) id s (spans_append spans cells lits h) lt (omega (arith, a, b, length-append cells lits)) (λ k d l ne. inl (omega (arith, h.within k d l, a)))

-- a span that changes no place
pub spans_stay : (spans : List Span) (cells : List Literal) (id : ℕ) (s t : Span) → AreSpans spans cells → id < length spans → s ≡ get_or spans id s →
    t.start ≡ s.start → t.len ≡ s.len → AreSpans (set spans id t) cells
spans_stay spans cells id s t h lt e a b =
    spans_set spans cells id t h lt (omega (arith, a, b, h.within id s lt, ap (λ (x : Span). x.start) e, ap (λ (x : Span). x.len) e))
    (λ k d l ne. moved (get_or spans k d) (subst (λ (x : Span). AreApart (get_or spans k d) x) (get_or_default spans id d s lt ∙ sym e) (apart_at spans cells k id d h l lt ne)))
  where
    moved : (x : Span) → AreApart x s → AreApart x t
    moved x (inl le) = inl (omega (arith, le, a))
    moved x (inr le) = inr (omega (arith, le, a, b))

-- one span more, behind all cells
pub spans_more : (spans : List Span) (cells lits : List Literal) (s : Span) → AreSpans spans cells → s.start ≡ length cells → s.len ≡ length lits → AreSpans (spans ++ s ∷ []) (cells ++ lits)
spans_more spans cells lits s h a b = record {
  within = λ k d l. within k d (omega (arith, l, length-append spans (s ∷ []))) (is_or_not k (length spans));
  apart = λ j k d l m. apart j k d l (omega (arith, m, length-append spans (s ∷ []))) (is_or_not k (length spans));
}
  where
    here : (k : ℕ) (d : Span) → k ≡ length spans → get_or (spans ++ s ∷ []) k d ≡ s
    here k d e = get_or_push spans s d k (sym e)

    there : (k : ℕ) (d : Span) → k < length spans → get_or (spans ++ s ∷ []) k d ≡ get_or spans k d
    there k d lt = get_or_append_left spans (s ∷ []) d k lt

    within : (k : ℕ) (d : Span) → k < length spans + 1 → (k ≡ length spans) ⊎ (k ≢ length spans) → (get_or (spans ++ s ∷ []) k d).start + (get_or (spans ++ s ∷ []) k d).len ≤ length (cells ++ lits)
    within k d l (inl e) = subst (λ (x : Span). x.start + x.len ≤ length (cells ++ lits)) (sym (here k d e)) (omega (arith, a, b, length-append cells lits))
    within k d l (inr ne) =
        let lt : k < length spans = omega (arith, l, ne) in
        subst (λ (x : Span). x.start + x.len ≤ length (cells ++ lits)) (sym (there k d lt)) (omega (arith, h.within k d lt, length-append cells lits))

    both : (j k : ℕ) (d x y : Span) → get_or (spans ++ s ∷ []) j d ≡ x → get_or (spans ++ s ∷ []) k d ≡ y → AreApart x y → AreApart (get_or (spans ++ s ∷ []) j d) (get_or (spans ++ s ∷ []) k d)
    both j k d x y p q r = subst (λ (z : Span). AreApart z (get_or (spans ++ s ∷ []) k d)) (sym p) (subst (λ (z : Span). AreApart x z) (sym q) r)

    apart : (j k : ℕ) (d : Span) → j < k → k < length spans + 1 → (k ≡ length spans) ⊎ (k ≢ length spans) → AreApart (get_or (spans ++ s ∷ []) j d) (get_or (spans ++ s ∷ []) k d)
    apart j k d l m (inl e) =
        let lt : j < length spans = omega (arith, e, l) in
        both j k d (get_or spans j d) s (there j d lt) (here k d e) (inl (omega (arith, h.within j d lt, a)))
    apart j k d l m (inr ne) =
        let lt : k < length spans = omega (arith, m, ne) in
        both j k d (get_or spans j d) (get_or spans k d) (there j d (omega (arith, l, lt))) (there k d lt) (h.apart j k d l lt)

-- the last span goes
pub spans_pop : (spans : List Span) (cells : List Literal) (s : Span) → AreSpans (spans ++ s ∷ []) cells → AreSpans spans cells
spans_pop spans cells s h = record {
  within = λ k d lt. subst (λ (x : Span). x.start + x.len ≤ length cells) (same k d lt) (h.within k d (omega (arith, lt, length-append spans (s ∷ []))));
  apart = λ j k d l lt.
      subst (λ (x : Span). AreApart x (get_or spans k d)) (same j d (omega (arith, l, lt)))
      (subst (λ (x : Span). AreApart (get_or (spans ++ s ∷ []) j d) x) (same k d lt) (h.apart j k d l (omega (arith, lt, length-append spans (s ∷ [])))));
}
  where
    same : (k : ℕ) (d : Span) → k < length spans → get_or (spans ++ s ∷ []) k d ≡ get_or spans k d
    same k d lt = get_or_append_left spans (s ∷ []) d k lt
