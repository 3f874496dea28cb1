-- The reason of a literal that followed by the bound.
use Rattle.std.proofs.Common.{◌≡◌, ◌≢◌, ◌⊎◌, ℕ, zero, suc, cond, ◌+◌, ◌<◌, ◌≤◌, Bool, true, false, not, eqb, ◌||◌, List, [], ◌∷◌, ◌++◌, length, fold, map, get_or, set, take, replicate, Option, Some, None, ℤ, pos, ◌+ℤ◌, refl, sym, ap, ◌∙◌, subst, inl, inr, arith, get_or-set_other, get_or-set_same}
use Rattle.std.specs.List.{list_any}
use Rattle.std.specs.Ordering.{int_cmp, is_lt, ordering_reverse}
use Rattle.std.specs.declared.cmp.Ordering.{Ordering}
use Rattle.std.specs.declared.cmp.Ordering.TheVariants.{Less, Equal, Greater}
use Rattle.std.specs.Cmp.Lexicographic.{slice_cmp}
use Rattle.std.specs.List.Sorted.{IsPermutation}
use Rattle.std.specs.Option.{is_none}
use Rattle.std.proofs.lemmas.Int.{ints}
use Rattle.std.proofs.lemmas.Bool.{false≢true, cases_eq, cases_lt, eq-eqb, ne_eqb, or_left, or_right}
use Rattle.std.proofs.lemmas.Option.{none-some, same_Some}
use Rattle.std.proofs.lemmas.List.{length-take, length-set, length-replicate, get_or-take, take_all}
use Rattle.std.proofs.lemmas.List.Elements.{All-weaker}
use Rattle.std.proofs.lemmas.List.Folds.{list_any-append}
use Rattle.std.proofs.lemmas.List.Sums.{fold_more, count_by_more_yes, sum_by-take-le}
use Rattle.asp_model.specs.declared.program.Program.{Program}
use Rattle.asp_model.specs.Costs.{priorities, betters}
use Rattle.asp_model.specs.Orders.{costs_total}
use Rattle.asp_vars.specs.Literals.{Literal, T, F, complement, literal_eq, has_literal, value_of, holds_in, agrees, hits}
use Rattle.asp_vars.specs.Numbering.{var_count}
use Rattle.asp_vars.specs.declared.nogood.Base.TheVariants as base
use Rattle.asp_vars.specs.declared.nogood.Nogood.{Nogood}
use Rattle.asp_vars.proofs.LiteralLaws.{beq_same, same_literal, hits-has}
use Rattle.asp_vars.proofs.ResolutionLaws.{betters_trans}
use Rattle.asp_trail.specs.declared.trail.Entry.{Entry}
use Rattle.asp_trail.specs.Entries.{assignment}
use Rattle.asp_trail.specs.Trails.{Trailed, IsVar, IsOrdered}
use Rattle.asp_trail.specs.Reasons.{Stands, IsReason}
use Rattle.asp_trail.proofs.EntryLaws.{same_default, none_at}
use Rattle.asp_trail.proofs.HeldLaws.{ordered_take, length_assigned}
use Rattle.asp_trail.proofs.HoldLaws.{holds_at, holds_found}
use Rattle.asp_bound.specs.declared.place.Place.{Place}
use Rattle.asp_bound.specs.declared.place.Item.{Item}
use Rattle.asp_bound.specs.Optimism.{least, least_at, weight_at, optimistic}
use Rattle.asp_bound.specs.Rises.{rise, rise_at, raised, row_at, nth_priority}
use Rattle.asp_bound.specs.Reach.{reach, lifted}
use Rattle.asp_bound.specs.Found.{Reaches}
use Rattle.asp_bound.specs.declared.find.Implied.{Implied}
use Rattle.asp_bound.specs.Silence.{is_below}
use Rattle.asp_bound.specs.Definition.{ExcludesBelow, cost_of}
use Rattle.asp_bound.specs.Bounded.{IsSmaller}
use Rattle.asp_bound.specs.Raisers.{is_raising, is_raising_by, is_raiser, AreRaisers}
use Rattle.asp_bound.specs.Kept.{IsKept, IsOnce}
use Rattle.asp_bound.specs.Reasons.{before}
use Rattle.asp_bound.specs.Needed.{needed}
use Rattle.asp_bound.specs.Explained.{IsExplained, IsTooDear, AreTold}
use Rattle.asp_bound.specs.declared.priced.Priced.{Priced}
use Rattle.asp_bound.specs.Priced.{IsPriced}
use Rattle.asp_bound.specs.Late.{with_value, only, HaveRaisers, HaveTold}
use Rattle.asp_bound.proofs.CostLaws.{least-rise}
use Rattle.asp_bound.proofs.SumLaws.{sum_to-same}
use Rattle.asp_bound.proofs.ReachLaws.{betters-reach, reached_now}
use Rattle.asp_bound.proofs.SilentLaws.{reach_at-set}
use Rattle.asp_bound.proofs.KeptLaws.{held-value, summed_from, sums-count, sums-at, kept-told}
use Rattle.asp_bound.proofs.NeededLaws.{excluded_at, needed-among, beq-itself, itself}
use Rattle.asp_bound.proofs.NogoodLaws.{excludes_below, raised-raises, raises-raising, raising_of, held_of, all-held, all-whole, given_with_as}
use Rattle.asp_bound.proofs.RaiserLaws.{counts-none}

abbrev is : ℕ → ℕ → Bool
is v x = eqb x v

abbrev lit_of : ℕ → Bool → Literal
lit_of v b = record { var = v; truth = b }

same_some : (b t : Bool) → Some b ≡ Some t → b ≡ t
same_some b t e = cc

-- ---- the values before a place
-- they are the values still
pub later : (vars : ℕ) (es : List Entry) (n v : ℕ) (b : Bool) → IsOrdered vars es → value_of (assignment vars (take n es)) v ≡ Some b → value_of (assignment vars es) v ≡ Some b
later vars es n v b o e =
    let d : Entry = record { lit = lit_of v b; level = 0; reason = None } in
    let f = holds_found vars (take n es) (lit_of v b) (ordered_take vars es n o) (ap (λ w. agrees w (lit_of v b)) e ∙ beq-itself b) in
    let w : (f.0 < n) × (f.0 < length es) = (omega (arith, f.1, length-take n es), omega (arith, f.1, length-take n es)) in
    held-value (assignment vars es) (lit_of v b) (holds_at vars es f.0 d (lit_of v b) o w.1 (ap (λ (x : Entry). x.lit) (sym (get_or-take n es f.0 d w.0)) ∙ f.2 d))

pub none_before : (t : Trailed) (place v : ℕ) → IsOrdered t.vars t.entries → value_of (assignment t.vars t.entries) v ≡ None → value_of (before t place) v ≡ None
none_before t place v o none = cases (value_of (before t place) v) refl
  where
    cases : (w : Option Bool) → value_of (before t place) v ≡ w → value_of (before t place) v ≡ None
    cases None e = e
    cases (Some b) e = absurd (none-some b (sym none ∙ later t.vars t.entries place v b o e))

pub some_before : (t : Trailed) (place v : ℕ) (b : Bool) → holds_in (before t place) (lit_of v b) ≡ true → value_of (before t place) v ≡ Some b
some_before t place v b h = held-value (before t place) (lit_of v b) h

pub not_before : (t : Trailed) (place v : ℕ) (b : Bool) → IsOrdered t.vars t.entries → value_of (assignment t.vars t.entries) v ≡ Some b →
    holds_in (before t place) (lit_of v b) ≡ false → value_of (before t place) v ≡ None
not_before t place v b o some h = cases (value_of (before t place) v) refl
  where
    cases : (w : Option Bool) → value_of (before t place) v ≡ w → value_of (before t place) v ≡ None
    cases None e = e
    cases (Some c) e =
        let same : c ≡ b = same_some c b (sym (later t.vars t.entries place v c o e) ∙ some) in
        absurd (false≢true (sym h ∙ (ap (λ w. agrees w (lit_of v b)) (e ∙ ap (λ (x : Bool). let y : Option Bool = Some x in y) same) ∙ beq-itself b)))

-- each of them stands before the place
pub stands_before : (t : Trailed) (place : ℕ) (k : Literal) → IsOrdered t.vars t.entries → value_of (before t place) k.var ≡ Some k.truth → (j : ℕ) × (b : ℕ) × (j < place) × Stands t.entries k j b
stands_before t place k o e =
    let es : List Entry = t.entries in
    let d : Entry = record { lit = k; level = 0; reason = None } in
    let f = holds_found t.vars (take place es) k (ordered_take t.vars es place o) (ap (λ w. agrees w k) e ∙ beq-itself k.truth) in
    let w : (f.0 < place) × (f.0 < length es) = (omega (arith, f.1, length-take place es), omega (arith, f.1, length-take place es)) in (
      f.0,
      (get_or es f.0 d).level,
      w.0,
      record {
        within = w.1;
        lit = λ x. ap (λ (y : Entry). y.lit) (sym (get_or-take place es f.0 x w.0)) ∙ f.2 x;
        level = λ x. ap (λ (y : Entry). y.level) (same_default es f.0 x d w.1);
      },
    )

-- before the end they are all values
pub shown_before : (t : Trailed) (n : ℕ) (a : List (Option Bool)) → n ≡ length t.entries → a ≡ assignment t.vars t.entries → before t n ≡ a
shown_before t n a e shown = ap (assignment t.vars) (take_all n t.entries (omega (arith, e))) ∙ sym shown

-- what raised the cost before the end of the entries does so now
pub found_now : (t : Trailed) (n : ℕ) (a : List (Option Bool)) (rows : List (List Place)) (depth : ℕ) (raisers : List ℕ) (found copied : List Literal)
    → n ≡ length t.entries → a ≡ assignment t.vars t.entries →
    IsPermutation (raising_of (before t n) rows depth raisers) found → copied ≡ found → IsPermutation (raising_of a rows depth raisers) copied
found_now t n a rows depth raisers found copied e shown moved is =
    subst (λ (z : List (Option Bool)). IsPermutation (raising_of z rows depth raisers) copied) (shown_before t n a e shown)
    (subst (IsPermutation (raising_of (before t n) rows depth raisers)) (sym is) moved)

-- those that were gathered, the last first
pub turned_round : (held start all round found : List Literal) → start ≡ [] → all ≡ start ++ held → IsPermutation all round → found ≡ round → IsPermutation held found
turned_round held start all round found none gathered moved is =
    subst (λ (n : List Literal). IsPermutation n found) (gathered ∙ ap (λ (n : List Literal). n ++ held) none) (subst (IsPermutation all) (sym is) moved)

-- what was told has them
pub told_before : (t : Trailed) (place : ℕ) (a : List (Option Bool)) (v : ℕ) (b : Bool) → IsOrdered t.vars t.entries → AreTold a place t.entries →
    value_of (before t place) v ≡ Some b → value_of a v ≡ Some b
told_before t place a v b o told e =
    let s = stands_before t place (lit_of v b) o e in
    let d : Entry = record { lit = lit_of v b; level = 0; reason = None } in
    held-value a (lit_of v b) (ap (holds_in a) (sym (s.3.lit d)) ∙ told s.0 d s.2 s.3.within)

-- ---- only some of the values
abbrev gain : List (Option Bool) → List (Option Bool) → ℕ → List (Option Bool)
gain a z x = with_value z x (value_of a x)

length_with : (z : List (Option Bool)) (x : ℕ) (o : Option Bool) → length (with_value z x o) ≡ length z
length_with z x None = refl
length_with z x (Some b) = length-set z x (Some b)

other_with : (z : List (Option Bool)) (x v : ℕ) (o : Option Bool) → v ≢ x → value_of (with_value z x o) v ≡ value_of z v
other_with z x v None ne = refl
other_with z x v (Some b) ne = get_or-set_other z x v (Some b) None ne

-- one that isn't among them keeps what it has
aside_from : (a z : List (Option Bool)) (vs : List ℕ) (v : ℕ) → list_any (is v) vs ≡ false → value_of (fold (gain a) z vs) v ≡ value_of z v
aside_from a z [] v e = refl
aside_from a z (x ∷ vs) v e = cases (aside_from a (gain a z x) vs v) (eqb x v) refl
  where
    or_false : (b c : Bool) → (b || c) ≡ false → (b ≡ false) × (c ≡ false)
    or_false true c q = absurd (false≢true (sym q))
    or_false false c q = (refl, q)

    cases : (list_any (is v) vs ≡ false → value_of (fold (gain a) (gain a z x) vs) v ≡ value_of (gain a z x) v) → (b : Bool) → eqb x v ≡ b → value_of (fold (gain a) (gain a z x) vs) v ≡ value_of z v
    cases rest true q = absurd (false≢true (sym (or_false (eqb x v) (list_any (is v) vs) e).0 ∙ q))
    cases rest false q =
        rest (or_false (eqb x v) (list_any (is v) vs) e).1
        ∙ other_with z x v (value_of a x) (λ s. false≢true (sym q ∙ eq-eqb x v (sym s)))

-- one without a value gets none
none_from : (a z : List (Option Bool)) (vs : List ℕ) (v : ℕ) → value_of a v ≡ None → value_of z v ≡ None → value_of (fold (gain a) z vs) v ≡ None
none_from a z [] v e f = f
none_from a z (x ∷ vs) v e f = none_from a (gain a z x) vs v e (here (cases_eq v x))
  where
    here : (v ≡ x) ⊎ (v ≢ x) → value_of (gain a z x) v ≡ None
    here (inl s) = ap (λ o. value_of (with_value z x o) v) (ap (value_of a) (sym s) ∙ e) ∙ f
    here (inr ne) = other_with z x v (value_of a x) ne ∙ f

-- one that has the value keeps it, and one among them gets it
some_from : (a z : List (Option Bool)) (vs : List ℕ) (v : ℕ) (b : Bool) → v < length z → value_of a v ≡ Some b → value_of z v ≡ Some b ⊎
    list_any (is v) vs ≡ true → value_of (fold (gain a) z vs) v ≡ Some b
some_from a z [] v b lt e (inl f) = f
some_from a z [] v b lt e (inr g) = absurd (false≢true g)
some_from a z (x ∷ vs) v b lt e h = cases (some_from a (gain a z x) vs v b long e) (cases_eq v x)
  where
    long : v < length (gain a z x)
    long = omega (arith, lt, length_with z x (value_of a x))

    later_on : (t : Bool) → (t || list_any (is v) vs) ≡ true → t ≡ false → list_any (is v) vs ≡ true
    later_on true q s = absurd (false≢true (sym s))
    later_on false q s = q

    rest : v ≢ x → (value_of z v ≡ Some b) ⊎ (list_any (is v) (x ∷ vs) ≡ true) → (value_of (gain a z x) v ≡ Some b) ⊎ (list_any (is v) vs ≡ true)
    rest ne (inl f) = inl (other_with z x v (value_of a x) ne ∙ f)
    rest ne (inr g) = inr (later_on (eqb x v) g (ne_eqb x v (λ s. ne (sym s))))

    cases : ((value_of (gain a z x) v ≡ Some b) ⊎ (list_any (is v) vs ≡ true) → value_of (fold (gain a) (gain a z x) vs) v ≡ Some b) → (v ≡ x) ⊎
        (v ≢ x) → value_of (fold (gain a) (gain a z x) vs) v ≡ Some b
    cases more (inl s) =
        more
        (inl (ap (λ o. value_of (with_value z x o) v) (ap (value_of a) (sym s) ∙ e) ∙ (ap (λ (w : ℕ). value_of (set z w (Some b)) v) (sym s) ∙ get_or-set_same z v (Some b) None lt)))
    cases more (inr ne) = more (rest ne h)

-- one more of them
pub only_more : (a : List (Option Bool)) (vs : List ℕ) (i v : ℕ) → i < length vs → v ≡ get_or vs i 0 → only a (take (i + 1) vs) ≡ with_value (only a (take i vs)) v (value_of a v)
only_more a vs i v lt e =
    fold_more (gain a) (replicate (length a) None) vs i 0 lt ∙ ap (λ (w : ℕ). with_value (only a (take i vs)) w (value_of a w)) (sym e)

-- none of the first has the variable that stands behind them
once_before : (vs : List ℕ) (i : ℕ) → IsOnce vs → i < length vs → list_any (is (get_or vs i 0)) (take i vs) ≡ false
once_before vs i once lt =
    let v : ℕ = get_or vs i 0 in
    counts-none v (take i vs) (omega (arith, once v, count_by_more_yes (is v) vs i 0 lt (eq-eqb v v refl), sum_by-take-le (λ (x : ℕ). cond (is v x) 1 0) vs (i + 1)))

pub only_open : (a : List (Option Bool)) (vs : List ℕ) (i v : ℕ) → IsOnce vs → i < length vs → v ≡ get_or vs i 0 → value_of (only a (take i vs)) v ≡ None
only_open a vs i v once lt e =
    aside_from a (replicate (length a) None) (take i vs) v (ap (λ (w : ℕ). list_any (is w) (take i vs)) e ∙ once_before vs i once lt) ∙ none_at (length a) v

-- ---- where all that adds something is among them, they cost what all cost
pub raisers_have : (a : List (Option Bool)) (rows : List (List Place)) (vs : List ℕ) → AreRaisers a rows vs → HaveRaisers a rows vs
raisers_have a rows vs are = record { within = are.within; once = are.once; whole = are.whole }

pub have_before : (a b : List (Option Bool)) (rows : List (List Place)) (vs : List ℕ) → AreRaisers a rows vs → length b ≡ length a →
    ((v : ℕ) (t : Bool) → value_of b v ≡ Some t → value_of a v ≡ Some t) → HaveRaisers b rows vs
have_before a b rows vs are long told = record {
  within = All-weaker (λ v. (0 < v) × (v < length a)) (λ v. (0 < v) × (v < length b)) (λ v h. (h.0, omega (arith, h.1, long))) vs are.within;
  once = are.once;
  whole = λ v h. are.whole v (cases v (value_of b v) refl h);
}
  where
    cases : (v : ℕ) (o : Option Bool) → value_of b v ≡ o → is_raising_by (row_at rows v) (value_of b v) ≡ true → is_raiser a rows v ≡ true
    cases v None e h = absurd (false≢true (sym (ap (is_raising_by (row_at rows v)) e) ∙ h))
    cases v (Some t) e h = ap (is_raising_by (row_at rows v)) (told v t e) ∙ (sym (ap (is_raising_by (row_at rows v)) e) ∙ h)

flat_row : (row : List Place) (j : ℕ) (b : Bool) → is_raising row b ≡ false → raised row j b ≡ 0
flat_row row j b h = elim (cases_lt 0 (raised row j b)) [
  | inl up ↦ absurd (false≢true (sym h ∙ raises-raising row (j + 1) b (raised-raises row j (j + 1) b (omega arith) up)))
  | inr flat ↦ omega (arith, flat)
]

-- a value that adds nothing costs what none does
flat_least : (o : Option Bool) (b : Bool) (t f : ℤ) → o ≡ None → rise b t f ≡ 0 → least o t f ≡ least (Some b) t f
flat_least o b t f none flat =
    let same : least None t f ≡ least (Some b) t f = omega (arith, ints, least-rise b t f, flat) in
    ap (λ w. least w t f) none ∙ same

module _ (p : Program) (a : List (Option Bool)) (rows : List (List Place)) (columns : List (List Item)) (vars : List ℕ) (sums : List ℤ) (vs : List ℕ)
    (kept : IsKept p (only a vs) rows columns vars sums) (sized : length a ≡ var_count p + 1) (are : HaveRaisers a rows vs) where
  same_least : (j v : ℕ) → j < length (priorities p.minimize) → 0 < v → v ≤ var_count p → least_at p (only a vs) (nth_priority p j) v ≡ least_at p a (nth_priority p j) v
  same_least j v low i k = by_value (value_of a v) refl
    where
      t : ℤ
      t = weight_at p (nth_priority p j) (T v)

      f : ℤ
      f = weight_at p (nth_priority p j) (F v)

      inside : v < length (let o : Option Bool = None in replicate (length a) o)
      inside = omega (arith, k, sized, length-replicate {A = Option Bool} (length a) None)

      by_place : (b : Bool) → value_of a v ≡ Some b → (c : Bool) → list_any (is v) vs ≡ c → least (value_of (only a vs) v) t f ≡ least (value_of a v) t f
      by_place b e true q = ap (λ o. least o t f) (some_from a (replicate (length a) None) vs v b inside e (inr q) ∙ sym e)
      by_place b e false q =
          let none : value_of (only a vs) v ≡ None = aside_from a (replicate (length a) None) vs v q ∙ none_at (length a) v in
          let flat : is_raising (row_at rows v) b ≡ false = not_raising (is_raising (row_at rows v) b) refl in
          let zero_rise : rise_at p (nth_priority p j) v b ≡ 0 = sym (kept.rowed.sums j v b low i k) ∙ flat_row (row_at rows v) j b flat in
          flat_least (value_of (only a vs) v) b t f none zero_rise ∙ ap (λ o. least o t f) (sym e)
        where
          not_raising : (r : Bool) → is_raising (row_at rows v) b ≡ r → r ≡ false
          not_raising true g = absurd (false≢true (sym q ∙ are.whole v (ap (is_raising_by (row_at rows v)) e ∙ g)))
          not_raising false g = refl

      by_value : (o : Option Bool) → value_of a v ≡ o → least (value_of (only a vs) v) t f ≡ least (value_of a v) t f
      by_value None e = ap (λ o. least o t f) (none_from a (replicate (length a) None) vs v e (none_at (length a) v) ∙ sym e)
      by_value (Some b) e = by_place b e (list_any (is v) vs) refl

  pub kept_whole : IsKept p a rows columns vars sums
  kept_whole = record {
    sound = kept.sound;
    few = kept.few;
    small = kept.small;
    rowed = kept.rowed;
    columned = kept.columned;
    listed = kept.listed;
    linked = kept.linked;
    sized = sized;
    summed = summed_from p a sums (sums-count p (only a vs) rows columns vars sums kept) (λ j low.
        sums-at p (only a vs) rows columns vars sums kept j (omega (arith, low, sums-count p (only a vs) rows columns vars sums kept))
        ∙ sum_to-same (least_at p (only a vs) (nth_priority p j)) (least_at p a (nth_priority p j)) (var_count p) (λ v i k. same_least j v low i k));
  }

-- ---- the sums step by step
pub kept_more : (p : Program) (a : List (Option Bool)) (rows : List (List Place)) (columns : List (List Item)) (vars : List ℕ) (sums new : List ℤ)
    (vs : List ℕ) (i v : ℕ) (b : Bool) → IsOnce vs → i < length vs → v ≡ get_or vs i 0 → 0 < v → v ≤ var_count p →
    value_of a v ≡ Some b → IsKept p (only a (take i vs)) rows columns vars sums → length new ≡ length sums →
    ((j : ℕ) → j < length sums → get_or new j (pos 0) ≡ get_or sums j (pos 0) +ℤ pos (raised (row_at rows v) j b)) → IsKept p (only a (take (i + 1) vs)) rows columns vars new
kept_more p a rows columns vars sums new vs i v b once lt e low high some kept long each =
    subst (λ (z : List (Option Bool)). IsKept p z rows columns vars new) (sym (only_more a vs i v lt e ∙ ap (with_value (only a (take i vs)) v) some))
    (kept-told p (only a (take i vs)) rows columns vars sums new kept v b low high (only_open a vs i v once lt e) long each)

pub kept_same : (p : Program) (a : List (Option Bool)) (rows : List (List Place)) (columns : List (List Item)) (vars : List ℕ) (sums : List ℤ)
    (vs : List ℕ) (i v : ℕ) → i < length vs → v ≡ get_or vs i 0 → value_of a v ≡ None →
    IsKept p (only a (take i vs)) rows columns vars sums → IsKept p (only a (take (i + 1) vs)) rows columns vars sums
kept_same p a rows columns vars sums vs i v lt e none kept =
    subst (λ (z : List (Option Bool)). IsKept p z rows columns vars sums) (sym (only_more a vs i v lt e ∙ ap (with_value (only a (take i vs)) v) none)) kept

pub kept_first : (p : Program) (a : List (Option Bool)) (rows : List (List Place)) (columns : List (List Item)) (vars : List ℕ) (sums : List ℤ)
    (vs : List ℕ) → length a ≡ var_count p + 1 → IsKept p (replicate (var_count p + 1) None) rows columns vars sums →
    IsKept p (only a (take 0 vs)) rows columns vars sums
kept_first p a rows columns vars sums vs sized kept = subst (λ (n : ℕ). IsKept p (replicate n None) rows columns vars sums) (sym sized) kept

-- ---- what follows
-- its complement's value reaches the bound
pub follows_reached : (p : Program) (a : List (Option Bool)) (l : Literal) (c : List ℤ) → is_below p (set a l.var (Some l.truth)) c ≡ false →
    reach (optimistic p (set a l.var (Some l.truth))) c ≡ None → ⊥
follows_reached p a l c dear none = false≢true (sym dear ∙ (betters-reach (optimistic p (set a l.var (Some l.truth))) c ∙ ap is_none none))

turned : (o : Ordering) → is_lt o ≡ true → is_lt (ordering_reverse o) ≡ false
turned Less e = refl
turned Equal e = refl
turned Greater e = absurd (false≢true e)

one_way : (c d : List ℤ) → betters c d ≡ true → betters d c ≡ false
one_way c d e = ap is_lt (costs_total.antisymm d c) ∙ turned (slice_cmp int_cmp c d) e

not_not : (b : Bool) → not (not b) ≡ b
not_not true = refl
not_not false = refl

pub implied_explained : (p : Program) (a : List (Option Bool)) (rows : List (List Place)) (columns : List (List Item)) (vars : List ℕ) (sums : List ℤ) → IsKept p a rows columns vars sums →
    (es : List Entry) (c : List ℤ) (x : Implied) (l : Literal) → a ≡ assignment (var_count p) es → Reaches a rows sums c x → (0 < x.lit.var) ×
    (x.lit.var < length a) → l ≡ complement x.lit → IsExplained p (Some c) es l
implied_explained p a rows columns vars sums kept es c x l shown r within is_it =
    subst (IsExplained p (Some c) es) (sym is_it) (record {
      cost = c;
      stands = refl;
      var = (within.0, high);
      none = ap (λ (z : List (Option Bool)). value_of z x.lit.var) (sym shown) ∙ r.no_value;
      dear = ap (λ (z : List (Option Bool)). is_below p (set z x.lit.var (Some (not (not x.lit.truth)))) c) (sym shown)
          ∙ (ap (λ (b : Bool). is_below p (set a x.lit.var (Some b)) c) (not_not x.lit.truth)
          ∙ (betters-reach (optimistic p (set a x.lit.var (Some x.lit.truth))) c ∙ ap is_none reached));
    })
  where
    high : x.lit.var ≤ var_count p
    high = omega (arith, within.1, kept.sized)

    reached : reach (optimistic p (set a x.lit.var (Some x.lit.truth))) c ≡ Some x.depth
    reached = sym (reach_at-set p a rows columns vars sums kept c x.lit.var x.lit.truth within.0 high r.no_value) ∙ r.reached

-- a smaller bound is reached too
pub explained_lower : (p : Program) (bound : Option (List ℤ)) (c : List ℤ) (es : List Entry) (l : Literal) → IsSmaller c bound → IsExplained p bound es l → IsExplained p (Some c) es l
explained_lower p bound c es l smaller x = record {
  cost = c;
  stands = refl;
  var = x.var;
  none = x.none;
  dear = below (subst (IsSmaller c) x.stands smaller);
}
  where
    z : List ℤ
    z = optimistic p (set (assignment (var_count p) es) l.var (Some (complement l).truth))

    below : betters c x.cost ≡ true → betters z c ≡ false
    below h = betters_trans z x.cost c x.dear (one_way c x.cost h)

-- ---- every literal that follows has a reason: all entries
entry_has : (es : List Entry) (i : ℕ) (d : Entry) (k : Literal) → i < length es → (get_or es i d).lit ≡ k → has_literal (map (λ e. e.lit) es) k ≡ true
entry_has [] i d k lt e = absurd (omega (arith, lt))
entry_has (x ∷ es) zero d k lt e = or_left (literal_eq x.lit k) (has_literal (map (λ e. e.lit) es) k) (ap (literal_eq x.lit) (sym e) ∙ itself x.lit.var x.lit.truth)
entry_has (x ∷ es) (suc i) d k lt e = or_right (literal_eq x.lit k) (has_literal (map (λ e. e.lit) es) k) (entry_has es i d k (omega (arith, lt)) e)

has_entry : (es : List Entry) (k : Literal) → has_literal (map (λ e. e.lit) es) k ≡ true → (i : ℕ) × (i < length es) × ((d : Entry) → (get_or es i d).lit ≡ k)
has_entry [] k h = absurd (false≢true h)
has_entry (x ∷ es) k h = cases (literal_eq x.lit k) refl h (has_entry es k)
  where
    cases : (b : Bool) → literal_eq x.lit k ≡ b → (b || has_literal (map (λ e. e.lit) es) k) ≡ true →
        (has_literal (map (λ e. e.lit) es) k ≡ true → (i : ℕ) × (i < length es) × ((d : Entry) → (get_or es i d).lit ≡ k)) →
        (i : ℕ) × (i < length (x ∷ es)) × ((d : Entry) → (get_or (x ∷ es) i d).lit ≡ k)
    cases true q g rest = (zero, omega arith, λ d. same_literal x.lit k q)
    cases false q g rest = let r = rest g in (suc r.0, omega (arith, r.1), λ d. r.2 d)

module _ (p : Program) (bound : Option (List ℤ)) (es : List Entry) (l : Literal) (o : IsOrdered (var_count p) es) (x : IsExplained p bound es l) where
  a : List (Option Bool)
  a = assignment (var_count p) es

  told : List (Option Bool)
  told = set a l.var (Some (complement l).truth)

  lits : List Literal
  lits = map (λ e. e.lit) es ++ complement l ∷ []

  last_has : has_literal lits (complement l) ≡ true
  unfolding lits
  last_has =
      list_any-append (λ k. literal_eq k (complement l)) (map (λ e. e.lit) es) (complement l ∷ [])
      ∙ or_right (has_literal (map (λ e. e.lit) es) (complement l)) (has_literal (complement l ∷ []) (complement l))
      (or_left (literal_eq (complement l) (complement l)) false (itself l.var (complement l).truth))

  first_has : (k : Literal) → has_literal (map (λ e. e.lit) es) k ≡ true → has_literal lits k ≡ true
  unfolding lits
  first_has k h = list_any-append (λ m. literal_eq m k) (map (λ e. e.lit) es) (complement l ∷ []) ∙ or_left (has_literal (map (λ e. e.lit) es) k) (has_literal (complement l ∷ []) k) h

  told_has : (v : ℕ) (b : Bool) → value_of told v ≡ Some b → has_literal lits (lit_of v b) ≡ true
  unfolding a told
  told_has v b e = elim (cases_eq v l.var) [
    | inl is_it ↦ (
        let within : l.var < length a = omega (arith, x.var.1, length_assigned (var_count p) es) in
        let same : (complement l).truth ≡ b = same_some (complement l).truth b (sym (get_or-set_same a l.var (Some (complement l).truth) None within) ∙ (ap (value_of told) (sym is_it) ∙ e)) in
        subst (λ (k : Literal). has_literal lits k ≡ true) (λ i. record { var = sym is_it i; truth = same i }) last_has)
    | inr ne ↦ (
        let was : value_of a v ≡ Some b = sym (get_or-set_other a l.var v (Some (complement l).truth) None ne) ∙ e in
        let f = holds_found (var_count p) es (lit_of v b) o (ap (λ w. agrees w (lit_of v b)) was ∙ beq-itself b) in
        let d : Entry = record { lit = lit_of v b; level = 0; reason = None } in
        first_has (lit_of v b) (entry_has es f.0 d (lit_of v b) f.1 (f.2 d)))
  ]

  excluded : ExcludesBelow p x.cost lits
  unfolding a told
  excluded = record { excluded = λ v hit. by_reach v hit (reach (optimistic p told) x.cost) refl }
    where
      by_reach : (v : List Bool) → hits v lits ≡ true → (r : Option ℕ) → reach (optimistic p told) x.cost ≡ r → betters (cost_of p v) x.cost ≡ false
      by_reach v hit None r = absurd (follows_reached p a (complement l) x.cost x.dear r)
      by_reach v hit (Some d) r = excluded_at p told x.cost d v r (λ j w b lt low i k e up. beq_same (get_or v w false) b (hits-has v lits (lit_of w b) hit (told_has w b e)))

  reason : IsReason es (length es) l lits
  unfolding lits
  reason = record {
    has = last_has;
    others = λ k h ne. by_part k ne (has_literal (map (λ e. e.lit) es) k) refl (sym (list_any-append (λ m. literal_eq m k) (map (λ e. e.lit) es) (complement l ∷ [])) ∙ h);
  }
    where
      stands : (k : Literal) → has_literal (map (λ e. e.lit) es) k ≡ true → (j : ℕ) × (b : ℕ) × (j < length es) × Stands es k j b
      stands k h =
          let f = has_entry es k h in
          let d : Entry = record { lit = k; level = 0; reason = None } in
          (f.0, (get_or es f.0 d).level, f.1, record { within = f.1; lit = f.2; level = λ y. ap (λ (e : Entry). e.level) (same_default es f.0 y d f.1) })

      by_part : (k : Literal) → k ≢ complement l → (b : Bool) → has_literal (map (λ e. e.lit) es) k ≡ b →
          (b || has_literal (complement l ∷ []) k) ≡ true → (j : ℕ) × (i : ℕ) × (j < length es) × Stands es k j i
      by_part k ne true q h = stands k q
      by_part k ne false q h = absurd (ne (sym (same_literal (complement l) k (one_has (literal_eq (complement l) k) h))))
        where
          one_has : (b : Bool) → (b || false) ≡ true → b ≡ true
          one_has true g = refl
          one_has false g = g

  pub reasoned : (n : Nogood) × IsTooDear p bound n × IsReason es (length es) l n.lits
  reasoned = (
    record { lits = lits; base = base.Below x.cost },
    record { cost = x.cost; stands = x.stands; excluded = excluded; base = refl; below = excludes_below p x.cost lits excluded },
    reason,
  )

-- ---- what is written is the reason
-- what follows says of the values before its place
pub explained_open : (p : Program) (t : Trailed) (place : ℕ) (c : List ℤ) (l : Literal) → t.vars ≡ var_count p → IsExplained p (Some c) (take place t.entries) l →
    (value_of (before t place) l.var ≡ None) × (is_below p (set (before t place) l.var (Some (complement l).truth)) c ≡ false) × IsVar (var_count p) l.var
explained_open p t place c l same x =
    let is : x.cost ≡ c = same_Some x.cost c (sym x.stands) in (
      ap (λ (n : ℕ). value_of (assignment n (take place t.entries)) l.var) same ∙ x.none,
      ap (λ (n : ℕ). is_below p (set (assignment n (take place t.entries)) l.var (Some (complement l).truth)) c) same
          ∙ subst (λ (k : List ℤ). is_below p (set (assignment (var_count p) (take place t.entries)) l.var (Some (complement l).truth)) k ≡ false) is x.dear,
      x.var,
    )

-- the raisers of what was told have those of the values before the place
pub raisers_before : (t : Trailed) (place : ℕ) (rows : List (List Place)) (raisers : List ℕ) → IsOrdered t.vars t.entries → HaveTold t place rows raisers → HaveRaisers (before t place) rows raisers
raisers_before t place rows raisers o told =
    have_before told.0 (before t place) rows raisers told.1 (length_assigned t.vars (take place t.entries) ∙ sym told.2) (λ v x e. told_before t place told.0 v x o told.3 e)

-- the sums of those that add something are those of all values before the place
pub kept_before : (p : Program) (t : Trailed) (place : ℕ) (rows : List (List Place)) (columns : List (List Item)) (vars : List ℕ) (sums : List ℤ)
    (raisers : List ℕ) → t.vars ≡ var_count p → HaveRaisers (before t place) rows raisers →
    IsKept p (only (before t place) raisers) rows columns vars sums → IsKept p (before t place) rows columns vars sums
kept_before p t place rows columns vars sums raisers same are kept =
    kept_whole p (before t place) rows columns vars sums raisers kept (length_assigned t.vars (take place t.entries) ∙ ap (λ (n : ℕ). n + 1) same) are

-- the same of sums that are copied
pub copied_before : (q : Priced) (t : Trailed) (place : ℕ) (sums left : List ℤ) (raisers : List ℕ) → t.vars ≡ var_count q.origin.value →
    IsOrdered t.vars t.entries → HaveTold t place q.rows raisers → IsPriced q (only (before t place) raisers) sums → left ≡ sums →
    IsPriced q (before t place) left
copied_before q t place sums left raisers same o told kept e =
    subst (IsPriced q (before t place)) (sym e)
    (kept_before q.origin.value t place q.rows q.columns q.vars.items sums raisers same (raisers_before t place q.rows raisers o told) kept)

-- the tables are the program's whatever the values are
pub kept_at : (p : Program) (a : List (Option Bool)) (t : Trailed) (place : ℕ) (rows : List (List Place)) (columns : List (List Item)) (vars : List ℕ)
    (sums : List ℤ) → t.vars ≡ var_count p → IsKept p a rows columns vars sums →
    IsKept p (before t place) rows columns vars (optimistic p (before t place))
kept_at p a t place rows columns vars sums same kept = record {
  sound = kept.sound;
  few = kept.few;
  small = kept.small;
  sized = length_assigned t.vars (take place t.entries) ∙ ap (λ (n : ℕ). n + 1) same;
  rowed = kept.rowed;
  columned = kept.columned;
  listed = kept.listed;
  linked = kept.linked;
  summed = refl;
}

pub reaches_by : (p : Program) (b : List (Option Bool)) (rows : List (List Place)) (columns : List (List Item)) (vars : List ℕ) (sums : List ℤ) → IsKept p b rows columns vars sums →
    (c : List ℤ) (x : Implied) (left limits : List ℤ) → IsKept p (set b x.lit.var (Some x.lit.truth)) rows columns vars left → limits ≡ c →
    IsVar (var_count p) x.lit.var → value_of b x.lit.var ≡ None →
    Some x.depth ≡ reach (lifted (λ j. 0) left) limits → Reaches b rows sums c x
reaches_by p b rows columns vars sums kept c x left limits more el var none e = record {
  no_value = none;
  reached =
      reach_at-set p b rows columns vars sums kept c x.lit.var x.lit.truth var.0 var.1 none
      ∙ (ap (λ (z : List ℤ). reach z c) (sym more.summed) ∙ reached_now left c left limits (Some x.depth) refl el e);
}

-- with the literal's complement, literals from before the place
pub written_reason : (t : Trailed) (place : ℕ) (l lit : Literal) (n : List Literal) → IsOrdered t.vars t.entries → lit ≡ complement l →
    ((k : Literal) → has_literal n k ≡ true → value_of (before t place) k.var ≡ Some k.truth) →
    IsReason t.entries place l (n ++ lit ∷ [])
written_reason t place l lit n o is_lit held = subst (λ (k : Literal). IsReason t.entries place l (n ++ k ∷ [])) (sym is_lit) (record {
  has = list_any-append (λ k. literal_eq k (complement l)) n (complement l ∷ [])
      ∙ or_right (has_literal n (complement l)) (has_literal (complement l ∷ []) (complement l)) (or_left (literal_eq (complement l) (complement l)) false (itself l.var (complement l).truth));
  others = λ k h ne. stands_before t place k o (held k (by_part k ne (has_literal n k) refl (sym (list_any-append (λ m. literal_eq m k) n (complement l ∷ [])) ∙ h)));
})
  where
    by_part : (k : Literal) → k ≢ complement l → (b : Bool) → has_literal n k ≡ b → (b || has_literal (complement l ∷ []) k) ≡ true → has_literal n k ≡ true
    by_part k ne true q h = q
    by_part k ne false q h = absurd (ne (sym (same_literal (complement l) k (one_has (literal_eq (complement l) k) h))))
      where
        one_has : (b : Bool) → (b || false) ≡ true → b ≡ true
        one_has true g = refl
        one_has false g = g

pub written : (p : Program) (t : Trailed) (place : ℕ) (rows : List (List Place)) (columns : List (List Item)) (vars : List ℕ) (sums : List ℤ)
    (raisers : List ℕ) → IsOrdered t.vars t.entries → IsKept p (before t place) rows columns vars sums →
    HaveRaisers (before t place) rows raisers → (c : List ℤ) (l : Literal) (x : Implied) (n : Nogood) (found : List Literal) (left : List ℤ) →
    x.lit ≡ complement l → Reaches (before t place) rows sums c x → IsVar (var_count p) x.lit.var →
    IsPermutation (held_of (before t place) raisers) found →
    IsKept p (set (before t place) x.lit.var (Some x.lit.truth)) rows columns vars left →
    n ≡ record { lits = needed rows c x.depth left found ++ x.lit ∷ []; base = base.Below c } →
    IsTooDear p (Some c) n × IsReason t.entries place l n.lits
written p t place rows columns vars sums raisers o kept are c l x n found left is_lit reaches var moved more e =
    let b : List (Option Bool) = before t place in
    let held = all-held p b rows columns vars sums raisers found kept are moved in
    let whole = all-whole p b rows columns vars sums raisers x.depth found kept are moved in
    let given = given_with_as p b rows columns vars sums kept c sums c x n (needed rows c x.depth left found) found left refl refl reaches
    (var.0, omega (arith, var.1, kept.sized)) held whole more refl e in (
      record { cost = c; stands = refl; excluded = given.excluded; base = given.base; below = given.below },
      subst (λ (m : Nogood). IsReason t.entries place l m.lits) (sym e)
          (written_reason t place l x.lit (needed rows c x.depth left found) o is_lit
          (λ k h. held.held k (needed-among rows c x.depth found left k h))),
    )

-- the complement of a literal that followed, before its place
pub record IsFree (p : Program) (t : Trailed) (place : ℕ) (c : List ℤ) (lit : Literal) : Type 0 where
  pub none : value_of (before t place) lit.var ≡ None
  pub dear : is_below p (set (before t place) lit.var (Some lit.truth)) c ≡ false
  pub var : IsVar (var_count p) lit.var

pub free : (p : Program) (t : Trailed) (place : ℕ) (c : List ℤ) (l lit : Literal) → t.vars ≡ var_count p →
    ((d : Entry) → IsExplained p (Some c) (take place t.entries) (get_or t.entries place d).lit) →
    ((d : Entry) → l ≡ (get_or t.entries place d).lit) →
    lit ≡ complement l → IsFree p t place c lit
free p t place c l lit same explained is_l is_lit =
    let d : Entry = record { lit = l; level = 0; reason = None } in
    let here = explained_open p t place c l same (subst (IsExplained p (Some c) (take place t.entries)) (sym (is_l d)) (explained d)) in
    subst (IsFree p t place c) (sym is_lit) (record { none = here.0; dear = here.1; var = here.2 })
