-- Each step keeps the rule.
use Rattle.std.proofs.Common.{◌≡◌, ◌≢◌, ℕ, zero, suc, ◌+◌, ◌<◌, ◌≤◌, nat_le, cond, Bool, true, false, List, [], ◌∷◌, ◌++◌, get_or, set, refl, sym, ap, ◌∙◌, subst, ⊎_elim, arith, length-set, get_or-set_same, eqb}
use mathlib.Core.Option.{some, some-injective, some-ne-none}
use mathlib.Core.Option as maybe
use lib.ListN.{get_elem?}
use lib.Seq.{set-get_or}
use prog.Atomic.{either}
use Rattle.atomic_table.specs.Table.{State, Me, step, keeps, Allows, Splits, Joins, opening}
use Rattle.atomic_table.proofs.Lists.{at_set, at_snoc, set_again, set_else, exchanged}
use Rattle.asp_slots.specs.declared.view.View.{View}
use Rattle.asp_slots.specs.Rules.{SLOT_COUNT, NotIn, Distinct, Within, Apart, larger, opened, seeing, drawing, fresh, merged, Member, Numbered, looks, raises, compares}

-- ---- lists of numbers
within_more : (m n : ℕ) (xs : List ℕ) → m ≤ n → Within m xs → Within n xs
within_more m n [] le h = tt
within_more m n (x ∷ xs) le h = (omega (arith, h.0), within_more m n xs le h.1)

not_within : (n : ℕ) (xs : List ℕ) → Within n xs → NotIn n xs
not_within n [] h = tt
not_within n (x ∷ xs) h = (λ e. let less = h.0 in omega arith, not_within n xs h.1)

apart_nil : (xs : List ℕ) → Apart xs []
apart_nil [] = tt
apart_nil (x ∷ xs) = (tt, apart_nil xs)

apart_one : (n : ℕ) (xs ys : List ℕ) → NotIn n xs → Apart xs ys → Apart xs (n ∷ ys)
apart_one n [] ys h a = tt
apart_one n (x ∷ xs) ys h a = ((λ e. h.0 (sym e), a.0), apart_one n xs ys h.1 a.1)

not_in_both : (n : ℕ) (xs ys : List ℕ) → NotIn n xs → NotIn n ys → NotIn n (xs ++ ys)
not_in_both n [] ys h k = k
not_in_both n (x ∷ xs) ys h k = (h.0, not_in_both n xs ys h.1 k)

distinct_both : (xs ys : List ℕ) → Distinct xs → Distinct ys → Apart xs ys → Distinct (xs ++ ys)
distinct_both [] ys h k a = k
distinct_both (x ∷ xs) ys h k a = (not_in_both x xs ys h.0 a.0, distinct_both xs ys h.1 k a.1)

within_both : (n : ℕ) (xs ys : List ℕ) → Within n xs → Within n ys → Within n (xs ++ ys)
within_both n [] ys h k = k
within_both n (x ∷ xs) ys h k = (h.0, within_both n xs ys h.1 k)

apart_left : (xs ys zs : List ℕ) → Apart xs zs → Apart ys zs → Apart (xs ++ ys) zs
apart_left [] ys zs a b = b
apart_left (x ∷ xs) ys zs a b = (a.0, apart_left xs ys zs a.1 b)

apart_right : (xs ys zs : List ℕ) → Apart zs xs → Apart zs ys → Apart zs (xs ++ ys)
apart_right xs ys [] a b = tt
apart_right xs ys (z ∷ zs) a b = (not_in_both z xs ys a.0 b.0, apart_right xs ys zs a.1 b.1)

left_larger : (a b : ℕ) (c : Bool) → nat_le b a ≡ c → (a ≤ cond c a b) × (b ≤ cond c a b)
left_larger a b true e = (omega arith, grind arith)
left_larger a b false e = (grind arith, omega arith)

either_less : (a b n : ℕ) (c : Bool) → a ≤ n → b ≤ n → cond c a b ≤ n
either_less a b n true h k = h
either_less a b n false h k = k

-- ---- views
set_two : (vs : List View) (i j : ℕ) (v w : View) → i ≢ j → set (set vs i v) j w ≡ set (set vs j w) i v
set_two [] i j v w ne = refl
set_two (x ∷ xs) zero zero v w ne = absurd (ne refl)
set_two (x ∷ xs) zero (suc j) v w ne = refl
set_two (x ∷ xs) (suc i) zero v w ne = refl
set_two (x ∷ xs) (suc i) (suc j) v w ne = ap (λ (l : List View). x ∷ l) (set_two xs i j v w (λ e. ne (ap suc e)))

module _ {S : Type 0} where
  Rule : State S View → Type 0
  Rule s = Numbered s

  -- A view was changed, and the count may have risen.
  pub changed : (s : State S View) (r : Numbered s) (id : ℕ) (v w : View) (n : ℕ) (homes : List (maybe.Option S)) → get_elem? s.views id ≡ some v
      → get_or s.words 0 0 ≤ n → n ≤ SLOT_COUNT → Member n w
      → ((j : ℕ) (u : View) → j ≢ id → get_elem? s.views j ≡ some u → Apart w.own u.own × Apart u.own w.own)
      → Numbered (record { words = set s.words 0 n; homes = homes; views = set s.views id w })
  changed s r id v w n homes at more few mine others = record {
    one_word = length-set s.words 0 n ∙ r.one_word;
    few = subst (λ (k : ℕ). k ≤ SLOT_COUNT) (sym word) few;
    each = λ j u e. subst (λ (k : ℕ). Member k u) (sym word) (⊎_elim
        (λ (t : (j ≡ id) × (w ≡ u)). subst (Member n) t.1 mine)
        (λ (t : (j ≢ id) × (get_elem? s.views j ≡ some u)). let was = r.each j u t.1 in record { seen = omega (arith, was.seen, more); own = was.own; distinct = was.distinct })
        (at_set s.views id j w u e));
    apart = λ i j x y ne ei ej. ⊎_elim
        (λ (t : (i ≡ id) × (w ≡ x)). ⊎_elim
        (λ (q : (j ≡ id) × (w ≡ y)). absurd (ne (t.0 ∙ sym q.0)))
        (λ (q : (j ≢ id) × (get_elem? s.views j ≡ some y)). subst (λ (u : View). Apart u.own y.own) t.1 (others j y q.0 q.1).0)
        (at_set s.views id j w y ej))
        (λ (t : (i ≢ id) × (get_elem? s.views i ≡ some x)). ⊎_elim
        (λ (q : (j ≡ id) × (w ≡ y)). subst (λ (u : View). Apart x.own u.own) q.1 (others i x t.0 t.1).1)
        (λ (q : (j ≢ id) × (get_elem? s.views j ≡ some y)). r.apart i j x y ne t.1 q.1)
        (at_set s.views id j w y ej))
        (at_set s.views id i w x ei);
  }
    where
      word : get_or (set s.words 0 n) 0 0 ≡ n
      word = get_or-set_same s.words 0 n 0 (omega (arith, r.one_word))

  same_others : (s : State S View) (r : Numbered s) (id : ℕ) (v : View) → get_elem? s.views id ≡ some v → (j : ℕ) (u : View) → j ≢ id →
      get_elem? s.views j ≡ some u → Apart v.own u.own × Apart u.own v.own
  same_others s r id v at j u ne e = (r.apart id j v u (λ h. ne (sym h)) at e, r.apart j id u v ne e at)

  pub opens : Numbered {S = S} (opening (0 ∷ []) [] opened)
  opens = record {
    one_word = refl;
    few = omega arith;
    each = λ j u e. one j u e;
    apart = two;
  }
    where
      one : (j : ℕ) (u : View) → get_elem? (opened ∷ []) j ≡ some u → Member 0 u
      one zero u e = subst (Member 0) (some-injective opened u e) (record { seen = omega arith; own = tt; distinct = tt })
      one (suc j) u e = absurd (some-ne-none u (sym e))

      two : (i j : ℕ) (v w : View) → i ≢ j → get_elem? (opened ∷ []) i ≡ some v → get_elem? (opened ∷ []) j ≡ some w → Apart v.own w.own
      two zero zero v w ne a b = absurd (ne refl)
      two zero (suc j) v w ne a b = absurd (some-ne-none w (sym b))
      two (suc i) j v w ne a b = absurd (some-ne-none v (sym a))

  module _ (s : State S View) (r : Numbered s) (id : ℕ) (v : View) (at : get_elem? s.views id ≡ some v) where
    abbrev pub now : ℕ
    now = get_or s.words 0 0

    pub was : Member now v
    was = r.each id v at

    pub sees : Numbered (record { words = set s.words 0 now; homes = s.homes; views = set s.views id (seeing now v) })
    sees = changed s r id v (seeing now v) now s.homes at (omega arith) r.few
        (record { seen = omega arith; own = within_more v.seen now v.own was.seen was.own; distinct = was.distinct }) (same_others s r id v at)

    pub stands : Numbered (record { words = set s.words 0 now; homes = s.homes; views = set s.views id v })
    stands = changed s r id v v now s.homes at (omega arith) r.few was (same_others s r id v at)

    pub fresh_number : NotIn now v.own
    fresh_number = not_within now v.own (within_more v.seen now v.own was.seen was.own)

    pub draws : now < SLOT_COUNT → Numbered (record { words = set s.words 0 (now + 1); homes = s.homes; views = set s.views id (drawing now v) })
    draws room = changed s r id v (drawing now v) (now + 1) s.homes at (omega arith) (omega (arith, room)) (record {
      seen = omega arith;
      own = (omega arith, within_more v.seen (now + 1) v.own (omega (arith, was.seen)) was.own);
      distinct = (fresh_number, was.distinct);
    }) (λ j u ne e. let its = r.each j u e in let none = not_within now u.own (within_more u.seen now u.own its.seen its.own) in let both = same_others s r id v at j u ne e in
        ((none, both.0), apart_one now u.own v.own none both.1))

  pub look_step : (slots id : ℕ) (me : Me S View) → Allows Numbered slots id me 0 (λ n. n) (looks (step slots 0 0 0 maybe.none) me)
  look_step slots id me s r wide at small = (
    seeing (get_or s.words 0 0) me.0,
    keeps,
    tt,
    sees s r id me.0 at,
    (refl, refl, (r.each id me.0 at).seen, r.few),
  )

  pub compare_step : (slots id : ℕ) (me : Me S View) → Allows Numbered slots id me 0 (λ n. n) (compares (step slots 0 0 0 maybe.none) me)
  compare_step slots id me s r wide at small = (
    me.0,
    keeps,
    tt,
    stands s r id me.0 at,
    (refl, refl, (r.each id me.0 at).seen, r.few, record { seen = omega arith; own = (r.each id me.0 at).own; distinct = (r.each id me.0 at).distinct }),
  )

  module _ (slots id old : ℕ) (me : Me S View) (room : old < SLOT_COUNT) (s : State S View) (r : Numbered s) (at : get_elem? s.views id ≡ some me.0) where
    abbrev pub found : ℕ
    found = get_or s.words 0 0

    raise_hit : found ≡ old → (w : View) × Numbered (record { words = set s.words 0 (old + 1); homes = s.homes; views = set s.views id w }) ×
        raises (step slots 0 old (old + 1) maybe.none) me found (w, me.1)
    raise_hit is = (
      drawing found me.0,
      subst (λ (k : ℕ). Numbered (record { words = set s.words 0 (k + 1); homes = s.homes; views = set s.views id (drawing found me.0) })) is (draws s r id me.0 at (omega (arith, is, room))),
      (refl, (r.each id me.0 at).seen, r.few, (λ _. (refl, fresh_number s r id me.0 at)), (λ ne. absurd (ne is))),
    )

    raise_miss : found ≢ old → (w : View) × Numbered (record { words = set s.words 0 found; homes = s.homes; views = set s.views id w }) ×
        raises (step slots 0 old (old + 1) maybe.none) me found (w, me.1)
    raise_miss not = (
      seeing found me.0,
      sees s r id me.0 at,
      (refl, (r.each id me.0 at).seen, r.few, (λ is. absurd (not is)), (λ _. refl)),
    )

    raised : (w : View) × Numbered (record {
      words = set s.words 0 (either (eqb found old) (old + 1) found);
      homes = s.homes;
      views =
          set s.views id w;
    }) × raises (step slots 0 old (old + 1) maybe.none) me found (w, me.1)
    raised = exchanged found old (old + 1) (λ n. (w : View) ×
        Numbered (record { words = set s.words 0 n; homes = s.homes; views = set s.views id w }) ×
        raises (step slots 0 old (old + 1) maybe.none) me found (w, me.1)) raise_hit raise_miss

  pub raise_step : (slots id old : ℕ) (me : Me S View) → old < SLOT_COUNT → Allows Numbered slots id me 0 (λ n. either (eqb n old) (old + 1) n) (raises (step slots 0 old (old + 1) maybe.none) me)
  raise_step slots id old me room s r wide at small = let x = raised slots id old me room s r at in (x.0, keeps, tt, x.1, x.2)

  pub split_step : (id : ℕ) (v : View) → Splits (Numbered {S = S}) id v v (fresh v)
  split_step id v s r at = record {
    one_word = r.one_word;
    few = r.few;
    each = λ j u e. ⊎_elim (each_old j u) (λ (t : fresh v ≡ u). subst (Member (get_or s.words 0 0)) t
        (record { seen = (r.each id v at).seen; own = tt; distinct = tt })) (at_snoc (set s.views id v) (fresh v) u j e);
    apart = λ i j x y ne ei ej. ⊎_elim
        (λ (p : get_elem? (set s.views id v) i ≡ some x). ⊎_elim
        (λ (q : get_elem? (set s.views id v) j ≡ some y). r.apart i j x y ne (old i x p) (old j y q))
        (λ (q : fresh v ≡ y). subst (λ (u : View). Apart x.own u.own) q (apart_nil x.own))
        (at_snoc (set s.views id v) (fresh v) y j ej))
        (λ (p : fresh v ≡ x). subst (λ (u : View). Apart u.own y.own) p tt)
        (at_snoc (set s.views id v) (fresh v) x i ei);
  }
    where
      old : (j : ℕ) (u : View) → get_elem? (set s.views id v) j ≡ some u → get_elem? s.views j ≡ some u
      old j u e = ap (λ (l : List View). get_elem? l j) (sym (set_again s.views id v at)) ∙ e

      each_old : (j : ℕ) (u : View) → get_elem? (set s.views id v) j ≡ some u → Member (get_or s.words 0 0) u
      each_old j u e = r.each j u (old j u e)

  same_words : (s : State S View) (vs : List View) → Numbered (record { words = set s.words 0 (get_or s.words 0 0); homes = s.homes; views = vs }) →
      Numbered (record { words = s.words; homes = s.homes; views = vs })
  same_words s vs r = subst (λ (ws : List ℕ). Numbered (record { words = ws; homes = s.homes; views = vs })) (set-get_or s.words 0 0) r

  pub join_step : (id other : ℕ) (v w : View) → Joins (Numbered {S = S}) id v other w (merged v w) opened
  join_step id other v w s r at ne there' =
      subst (λ (vs : List View). Numbered (record { words = s.words; homes = s.homes; views = vs }))
      (sym (set_two s.views id other (merged v w) opened (λ e. ne (sym e)))) both
    where
      count : ℕ
      count = get_or s.words 0 0

      there : get_elem? s.views other ≡ some w
      there = sym (set_else s.views id other (merged v w) ne) ∙ there'

      none : State S View
      none = record { words = s.words; homes = s.homes; views = set s.views other opened }

      first : Numbered none
      first = same_words s (set s.views other opened)
          (changed s r other w opened count s.homes there (omega arith) r.few (record { seen = omega arith; own = tt; distinct = tt })
          (λ j u n e. (tt, apart_nil u.own)))

      here : get_elem? none.views id ≡ some v
      here = set_else s.views other id opened (λ e. ne (sym e)) ∙ at

      mine : Member count v
      mine = r.each id v at

      its : Member count w
      its = r.each other w there

      joined : Member count (merged v w)
      joined = record {
        seen = either_less v.seen w.seen count (nat_le w.seen v.seen) mine.seen its.seen;
        own = within_both (larger v.seen w.seen) v.own w.own
            (within_more v.seen (larger v.seen w.seen) v.own (left_larger v.seen w.seen (nat_le w.seen v.seen) refl).0 mine.own)
            (within_more w.seen (larger v.seen w.seen) w.own (left_larger v.seen w.seen (nat_le w.seen v.seen) refl).1 its.own);
        distinct = distinct_both v.own w.own mine.distinct its.distinct (r.apart id other v w (λ e. ne (sym e)) at there);
      }

      others : (j : ℕ) (u : View) → j ≢ id → get_elem? none.views j ≡ some u → Apart (v.own ++ w.own) u.own × Apart u.own (v.own ++ w.own)
      others j u n e = ⊎_elim
          (λ (t : (j ≡ other) × (opened ≡ u)). subst (λ (x : View). Apart (v.own ++ w.own) x.own × Apart x.own (v.own ++ w.own)) t.1 (apart_nil (v.own ++ w.own), tt))
          (λ (t : (j ≢ other) × (get_elem? s.views j ≡ some u)). let a = same_others s r id v at j u n t.1 in let b = same_others s r other w there j u t.0 t.1 in
          (apart_left v.own w.own u.own a.0 b.0, apart_right v.own w.own u.own a.1 b.1))
          (at_set s.views other j opened u e)

      both : Numbered (record { words = s.words; homes = s.homes; views = set (set s.views other opened) id (merged v w) })
      both = same_words none (set none.views id (merged v w)) (changed none first id v (merged v w) count s.homes here (omega arith) r.few joined others)
