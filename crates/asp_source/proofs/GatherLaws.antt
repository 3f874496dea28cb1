-- How candidates are gathered.
use Rattle.std.proofs.Common.{◌≡◌, ◌≢◌, ℕ, zero, suc, ◌+◌, ◌-◌, ◌<◌, Bool, true, false, not, cond, ◌&&◌, ◌||◌, eqb, List, [], ◌∷◌, map, filter, length, set, get_or, count_by, Option, refl, sym, ap, ◌∙◌, subst, arith, ◌⊎◌, inl, inr, get_or-set_other, get_or-set_same}
use Rattle.std.specs.List.{All, list_any, AllByRecursion}
use Rattle.std.proofs.lemmas.Bool.{false≢true, and_parts, and_from, eqb-true, eq-eqb}
use Rattle.std.proofs.lemmas.List.{length-set}
use Rattle.std.proofs.lemmas.List.Sums.{sum_by-set}
use Rattle.asp_table.specs.declared.columns.Occurrence.{Occurrence}
use Rattle.asp_model.specs.declared.program.Body.{Body}
use Rattle.asp_model.specs.declared.program.Body.TheVariants as body
use Rattle.asp_model.specs.declared.program.Program.{Program}
use Rattle.asp_model.specs.Sets.{has}
use Rattle.asp_model.specs.Models.{atoms_of}
use Rattle.asp_model.specs.Sound.{IsSound}
use Rattle.asp_vars.specs.Literals.{Literal, T, F, literal_eq, has_literal, holds_in}
use Rattle.asp_vars.specs.Completion.{supports}
use Rattle.asp_vars.specs.Numbering.{body_eq, bodies_of, place_of, var_of_atom, nth_atom, nth_body}
use Rattle.asp_vars.specs.Tabled.{form_literals, heads_of, occurrences_of, IsAtomVar}
use Rattle.asp_vars.specs.Unfounded.{is_excused}
use Rattle.asp_vars.proofs.NumberingLaws.{same_body}
use Rattle.asp_vars.proofs.RowLaws.{all_of, head_vars}
use Rattle.asp_vars.proofs.SupportLaws.{either}
use Rattle.asp_scc.specs.Components.{Parts, Stands}
use Rattle.asp_loop.specs.Parts.{form_of}
use Rattle.asp_vars.proofs.SupportLaws.{at_form}
use Rattle.asp_loop.proofs.WeightedLaws.{by_recursion}
use Rattle.asp_source.specs.Marks.{is_marked, shown}
use Rattle.asp_source.specs.Ranks.{is_above, above, source_of, AreRanked}
use Rattle.asp_source.specs.Pointers.{AreSupports, AreCandidates}
use Rattle.asp_source.specs.Gathering.{is_done, IsGathering, Gathers, IsClear, IsReleased, Keeps, AreReleased, Steps, Admits, IsReseated, stays, join_loose, join_places}
use Rattle.asp_source.proofs.QueueLaws.{one_more}
use Rattle.asp_source.proofs.LookLaws.{at_member}
use Rattle.asp_source.proofs.ChangeLaws.{set_marked}
use Rattle.asp_source.proofs.WithinLaws.{excused_within}
use Rattle.asp_source.proofs.PointerLaws.{IsLess, false_from, source_weighted, support_at, source_is, support_positive, supports_less, supports_set, firm_fewer, shown_parts, shown_from, shown_more, above_parts, above_from, above_more, ranked_less, ranked_fewer, ranked_set}

pub gathers_then : (x : List (Option Bool)) (s : List ℕ) (l w : List Bool) (t : List ℕ) (m y : List Bool) (u : List ℕ) (n z : List Bool) →
    Gathers x s l w t m y → Gathers x t m y u n z → Gathers x s l w u n z
gathers_then x s l w t m y u n z h k = record {
  size = k.size ∙ h.size;
  marks = k.marks ∙ h.marks;
  room = k.room ∙ h.room;
  more = λ v e. k.more v (h.more v e);
  left = λ v e o. elim (k.left v e o) [
    | inl f ↦ elim (h.left v f o) [
      | inl i ↦ inl i
      | inr i ↦ inr (k.more v i)
    ]
    | inr f ↦ inr f
  ];
  paid = let a = h.paid in let b = k.paid in omega (arith, a, b);
}

pub gathers_less : (x : List (Option Bool)) (s : List ℕ) (l w less : List Bool) (k : ℕ) → less ≡ set w k false → count_by (λ b. b) less < count_by (λ b. b) w → Gathers x s l w s l less
gathers_less x s l w less k is fewer = record { size = refl; marks = refl; room = ap length is ∙ length-set w k false; more = λ v e. e; left = λ v z o. inl z; paid = omega (arith, fewer) }

-- ---- sources that go
zero_less : (s t : List ℕ) (v : ℕ) → IsLess s t → get_or s v 0 ≡ 0 → get_or t v 0 ≡ 0
zero_less s t v less z = elim (less v) [
  | inl e ↦ e ∙ z
  | inr e ↦ e
]

unset_source : (s : List ℕ) (v : ℕ) → get_or (set s v 0) v 0 ≡ 0
unset_source [] v = refl
unset_source (x ∷ s) zero = refl
unset_source (x ∷ s) (suc v) = unset_source s v

pub less_set : (s : List ℕ) (v : ℕ) → IsLess s (set s v 0)
less_set s v u = cases (eqb u v) refl
  where
    cases : (b : Bool) → b ≡ eqb u v → (get_or (set s v 0) u 0 ≡ get_or s u 0) ⊎ (get_or (set s v 0) u 0 ≡ 0)
    cases true q = inr (ap (λ w. get_or (set s v 0) w 0) (eqb-true u v (sym q)) ∙ unset_source s v)
    cases false q = inl (get_or-set_other s v u 0 0 (λ e. false≢true (q ∙ eq-eqb u v e)))

candidates_less : (p : Program) (c : Parts) (x : List (Option Bool)) (k : ℕ) (s t : List ℕ) (l : List Bool) → IsLess s t → AreCandidates p c x k s l → AreCandidates p c x k t l
candidates_less p c x k s t l less h = record { size = h.size; atoms = h.atoms; at = h.at; not_false = h.not_false; bare = λ v e. zero_less s t v less (h.bare v e) }

-- ---- an atom without source joins
or_false : (a b : Bool) → (a || b) ≡ false → (a ≡ false) × (b ≡ false)
or_false true b e = absurd (false≢true (sym e))
or_false false b e = (refl, e)

-- What happens to the sources where an atom of the component comes to have none.
pub record Drops (s t : List ℕ) (v : ℕ) : Type 0 where
  pub less : IsLess s t
  pub size : length t ≡ length s
  pub none : get_or t v 0 ≡ 0
  pub others : (u : ℕ) → u ≢ v → get_or t u 0 ≡ get_or s u 0

pub drops_none : (s : List ℕ) (v : ℕ) → get_or s v 0 ≡ 0 → Drops s s v
drops_none s v e = record { less = λ u. inl refl; size = refl; none = e; others = λ u n. refl }

pub drops_one : (s : List ℕ) (v : ℕ) → Drops s (set s v 0) v
drops_one s v = record { less = less_set s v; size = length-set s v 0; none = unset_source s v; others = λ u n. get_or-set_other s v u 0 0 n }

-- what is done, by its parts
pub done_parts : (l w : List Bool) (busy u : ℕ) → is_done l w busy u ≡ true → (is_marked l u ≡ true) × (is_marked w (u - 1) ≡ false) × (u ≢ busy)
done_parts l w busy u e =
    let outer = and_parts (is_marked l u && not (is_marked w (u - 1))) (not (eqb u busy)) e in
    let inner = and_parts (is_marked l u) (not (is_marked w (u - 1))) outer.0 in
    (inner.0, not_true (is_marked w (u - 1)) inner.1, λ z. false≢true (sym (ap not (eq-eqb u busy z)) ∙ outer.1))
  where
    not_true : (b : Bool) → not b ≡ true → b ≡ false
    not_true true e = absurd (false≢true e)
    not_true false e = refl

pub done_from : (l w : List Bool) (busy u : ℕ) → is_marked l u ≡ true → is_marked w (u - 1) ≡ false → u ≢ busy → is_done l w busy u ≡ true
done_from l w busy u e f n =
    and_from (is_marked l u && not (is_marked w (u - 1))) (not (eqb u busy)) (and_from (is_marked l u) (not (is_marked w (u - 1))) e (ap not f)) (differ (eqb u busy) refl)
  where
    differ : (t : Bool) → t ≡ eqb u busy → not (eqb u busy) ≡ true
    differ true q = absurd (n (eqb-true u busy (sym q)))
    differ false q = ap not (sym q)

unmarked : (marks : List Bool) (a b : ℕ) → is_marked (set marks a true) b ≡ false → is_marked marks b ≡ false
unmarked marks a b e = split (is_marked marks b) refl
  where
    split : (r : Bool) → r ≡ is_marked marks b → is_marked marks b ≡ false
    split false i = sym i
    split true i = absurd (false≢true (sym e ∙ set_marked marks a b (sym i)))

-- where an atom joins nothing more is done
done_joined : (x : List (Option Bool)) (l w : List Bool) (busy v u : ℕ) → v - 1 < length w → is_done (join_loose x l v) (join_places x l w v) busy u ≡ true → is_done l w busy u ≡ true
done_joined x l w busy v u lt = cases (stays x l v)
  where
    by_var : (t : Bool) → t ≡ eqb u v → is_done (set l v true) (set w (v - 1) true) busy u ≡ true → is_done l w busy u ≡ true
    by_var true q e = absurd (false≢true (sym (done_parts (set l v true) (set w (v - 1) true) busy u e).1
        ∙ (ap (λ i. is_marked (set w (v - 1) true) (i - 1)) (eqb-true u v (sym q)) ∙ get_or-set_same w (v - 1) true false lt)))
    by_var false q e =
        let parts = done_parts (set l v true) (set w (v - 1) true) busy u e in
        done_from l w busy u (sym (get_or-set_other l v u true false (λ i. false≢true (q ∙ eq-eqb u v i))) ∙ parts.0) (unmarked w (v - 1) (u - 1) parts.1) parts.2

    cases : (b : Bool) → is_done (cond b l (set l v true)) (cond b w (set w (v - 1) true)) busy u ≡ true → is_done l w busy u ≡ true
    cases true e = e
    cases false e = by_var (eqb u v) refl e

pub gather_one : (p : Program) (c : Parts) (x : List (Option Bool)) (k : ℕ) (ranks : List ℕ) (busy : ℕ) (s : List ℕ) (l w j : List Bool) (t : List ℕ)
    (v : ℕ) → IsSound p → IsAtomVar p v → get_or c.numbers v 0 ≡ k → Drops s t v → IsGathering p c x k ranks busy s l w j →
    IsGathering p c x k ranks busy t (join_loose x l v) (join_places x l w v) (join_places x l j v)
gather_one p c x k ranks busy s l w j t v sound is at drops h = cases (stays x l v) refl
  where
    kept : AreRanked p c x ranks (is_done l w busy) t
    kept = ranked_less p c x ranks (is_done l w busy) s t drops.less h.ranked

    supported : AreSupports p t
    supported = supports_less p s t drops.less h.supports

    ranked : AreRanked p c x ranks (is_done (join_loose x l v) (join_places x l w v) busy) t
    ranked = ranked_fewer p c x ranks (is_done l w busy) (is_done (join_loose x l v) (join_places x l w v) busy) t sound supported
        (λ u e. done_joined x l w busy v u (let small = is.1 in let some_ = is.0 in let size = h.waits in omega (arith, small, some_, size)) e) kept

    cases : (b : Bool) → b ≡ stays x l v → IsGathering p c x k ranks busy t (join_loose x l v) (join_places x l w v) (join_places x l j v)
    cases true q = subst (λ (b : Bool). IsGathering p c x k ranks busy t (cond b l (set l v true)) (cond b w (set w (v - 1) true)) (cond b j (set j (v - 1) true))) q (record {
      setting = h.setting;
      size = drops.size ∙ h.size;
      rank_room = h.rank_room;
      waits = h.waits;
      joins = h.joins;
      supports = supported;
      ranked = kept;
      candidates = candidates_less p c x k s t l drops.less h.candidates;
      listed = h.listed;
    })
    cases false q =
        let new = or_false (holds_in x (F v)) (is_marked l v) (sym q) in
        let before : (u : ℕ) → u ≢ v → is_marked (set l v true) u ≡ true → is_marked l u ≡ true = λ u n m. sym (get_or-set_other l v u true false n) ∙ m in
        subst (λ (b : Bool). IsGathering p c x k ranks busy t (cond b l (set l v true)) (cond b w (set w (v - 1) true)) (cond b j (set j (v - 1) true))) q (record {
          setting = h.setting;
          size = drops.size ∙ h.size;
          rank_room = h.rank_room;
          waits = length-set w (v - 1) true ∙ h.waits;
          joins = length-set j (v - 1) true ∙ h.joins;
          supports = supported;
          ranked = subst (λ (b : Bool). AreRanked p c x ranks (is_done (cond b l (set l v true)) (cond b w (set w (v - 1) true)) busy) t) (sym q) ranked;
          candidates = record {
            size = length-set l v true ∙ h.candidates.size;
            atoms = λ u m. by u (λ u. IsAtomVar p u) is (λ n. h.candidates.atoms u (before u n m)) (eqb u v) refl;
            at = λ u m. by u (λ u. get_or c.numbers u 0 ≡ k) at (λ n. h.candidates.at u (before u n m)) (eqb u v) refl;
            not_false = λ u m. by u (λ u. holds_in x (F u) ≡ false) new.0 (λ n. h.candidates.not_false u (before u n m)) (eqb u v) refl;
            bare = λ u m. by u (λ u. get_or t u 0 ≡ 0) drops.none (λ n. zero_less s t u drops.less (h.candidates.bare u (before u n m))) (eqb u v) refl;
          };
          listed = λ u m. by u (λ u. is_marked (set j (v - 1) true) (u - 1) ≡ true)
              (get_or-set_same j (v - 1) true false (let small = is.1 in let some_ = is.0 in let size = h.joins in omega (arith, small, some_, size)))
              (λ ne. set_marked j (v - 1) (u - 1) (h.listed u (before u ne m))) (eqb u v) refl;
        })
      where
        by : (u : ℕ) (P : ℕ → Type 0) → P v → (u ≢ v → P u) → (b : Bool) → b ≡ eqb u v → P u
        by u P here there true e = subst P (sym (eqb-true u v (sym e))) here
        by u P here there false e = there (λ i. false≢true (e ∙ eq-eqb u v i))

abbrev one_if : Bool → ℕ
one_if b = cond b 1 0

pub gathers_one : (x : List (Option Bool)) (s : List ℕ) (l w : List Bool) (t : List ℕ) (v : ℕ) → v < length l → v - 1 < length w → Drops s t v →
    Gathers x s l w t (join_loose x l v) (join_places x l w v)
gathers_one x s l w t v lt within drops = cases (stays x l v) refl
  where
    left : (n : List Bool) → (holds_in x (F v) ≡ false → is_marked n v ≡ true) → (u : ℕ) → get_or t u 0 ≡ 0 → holds_in x (F u) ≡ false → (b : Bool) →
        b ≡ eqb u v → (get_or s u 0 ≡ 0) ⊎ (is_marked n u ≡ true)
    left n here u z o true q =
        let e : u ≡ v = eqb-true u v (sym q) in
        inr (ap (is_marked n) e ∙ here (ap (λ w. holds_in x (F w)) (sym e) ∙ o))
    left n here u z o false q = inl (sym (drops.others u (λ i. false≢true (q ∙ eq-eqb u v i))) ∙ z)

    cases : (b : Bool) → b ≡ stays x l v → Gathers x s l w t (cond b l (set l v true)) (cond b w (set w (v - 1) true))
    cases true q = record {
      size = drops.size;
      marks = refl;
      room = refl;
      more = λ u e. e;
      left = λ u z o. left l (λ f. ap (λ b. b || is_marked l v) (sym f) ∙ sym q) u z o (eqb u v) refl;
      paid = omega arith;
    }
    cases false q =
        let new = or_false (holds_in x (F v)) (is_marked l v) (sym q) in
        let more = one_more w (v - 1) within in
        let come = sum_by-set one_if l v true false lt in
        let was = ap one_if new.1 in
        record {
          size = drops.size;
          marks = length-set l v true;
          room = length-set w (v - 1) true;
          more = λ u e. set_marked l v u e;
          left = λ u z o. left (set l v true) (λ f. get_or-set_same l v true false lt) u z o (eqb u v) refl;
          paid = omega (arith, more, come, was);
        }

-- ---- nothing rests on the atom any more
pub each_occurrence : (p : Program) (row : Body → List Literal) (P : ℕ → Type 0) (m : Literal) (d : Body) (bs : List Body) →
    AllByRecursion (λ (o : Occurrence). P o.body) (map
    (λ (e : Body). record { body = place_of (body_eq e) (bodies_of p); place = place_of (λ k. literal_eq k m) (row e) })
    (filter (λ e. has_literal (row e) m) bs)) → list_any (body_eq d) bs ≡ true → has_literal (row d) m ≡ true →
    P (place_of (body_eq d) (bodies_of p))
each_occurrence p row P m d [] h listed inside = absurd (false≢true listed)
each_occurrence p row P m d (e ∷ bs) h listed inside = cases (has_literal (row e) m) refl h (either (body_eq d e) (list_any (body_eq d) bs) listed) (λ g i. each_occurrence p row P m d bs g i inside)
  where
    cases : (t : Bool) → t ≡ has_literal (row e) m →
        AllByRecursion (λ (o : Occurrence). P o.body) (map
        (λ (e : Body). record { body = place_of (body_eq e) (bodies_of p); place = place_of (λ k. literal_eq k m) (row e) })
        (cond t (e ∷ filter (λ e. has_literal (row e) m) bs) (filter (λ e. has_literal (row e) m) bs))) → (body_eq d e ≡ true) ⊎
        (list_any (body_eq d) bs ≡ true) → (AllByRecursion (λ (o : Occurrence). P o.body)
        (map (λ (e : Body). record { body = place_of (body_eq e) (bodies_of p); place = place_of (λ k. literal_eq k m) (row e) })
        (filter (λ e. has_literal (row e) m) bs)) → list_any (body_eq d) bs ≡ true → P (place_of (body_eq d) (bodies_of p))) →
        P (place_of (body_eq d) (bodies_of p))
    cases true q h (inl i) later = subst (λ (b : Body). P (place_of (body_eq b) (bodies_of p))) (sym (same_body d e i)) h.0
    cases true q h (inr i) later = later h.1 i
    cases false q h (inl i) later = absurd (false≢true (q ∙ (ap (λ b. has_literal (row b) m) (sym (same_body d e i)) ∙ inside)))
    cases false q h (inr i) later = later h i

-- the body that is a source stands where its head is listed
source_released : (p : Program) (c : Parts) (x : List (Option Bool)) (k : ℕ) (ranks s : List ℕ) (l w : List Bool) (v a : ℕ) → AreSupports p s →
    Stands p a → source_of p s a ≢ 0 → has_literal (form_literals p (form_of p (source_of p s a))) (T v) ≡ true →
    All (λ (o : Occurrence). AreReleased p c x k ranks s l w o.body) (occurrences_of p (T v)) →
    IsReleased p c x k ranks s l w (source_of p s a) (var_of_atom p a)
source_released p c x k ranks s l w v a supported stands nz inside all =
    let b : ℕ = source_of p s a in
    let source = source_is p a b (support_at p s a supported stands nz) in
    let d : Body = source.0 in
    let there : has_literal (form_literals p d) (T v) ≡ true = ap (λ e. has_literal (form_literals p e) (T v)) (sym source.1.form) ∙ inside in
    let released = each_occurrence p (form_literals p) (λ j. AreReleased p c x k ranks s l w j) (T v) d (bodies_of p)
    (by_recursion (λ (o : Occurrence). AreReleased p c x k ranks s l w o.body) (occurrences_of p (T v)) all) source.1.listed there in
    let head : has (heads_of p (nth_body p (place_of (body_eq d) (bodies_of p)))) (var_of_atom p a) ≡ true =
    ap (λ e. has (heads_of p e) (var_of_atom p a)) (at_form d (bodies_of p) (body.All []) source.1.listed) ∙ source.1.head in
    let at : length (atoms_of p) + 1 + place_of (body_eq d) (bodies_of p) ≡ b = let e = source.1.number in omega (arith, e) in
    subst (λ (n : ℕ). IsReleased p c x k ranks s l w n (var_of_atom p a)) at
    (at_member (IsReleased p c x k ranks s l w (length (atoms_of p) + 1 + place_of (body_eq d) (bodies_of p)))
    (heads_of p (nth_body p (place_of (body_eq d) (bodies_of p)))) (var_of_atom p a) released head)

-- where what rests on an atom was released the atom is done
pub ranked_released : (p : Program) (c : Parts) (x : List (Option Bool)) (k : ℕ) (ranks s : List ℕ) (l w : List Bool) (v : ℕ) → IsSound p →
    AreSupports p s → AreCandidates p c x k s l → AreRanked p c x ranks (is_done l w v) s →
    All (λ (o : Occurrence). AreReleased p c x k ranks s l w o.body) (occurrences_of p (T v)) → AreRanked p c x ranks (is_done l w 0) s
ranked_released p c x k ranks s l w v sound supported candidates g all a stands nz = at_component (eqb (get_or c.numbers (var_of_atom p a) 0) k) refl
  where
    b : ℕ
    b = source_of p s a

    K : ℕ
    K = get_or c.numbers (var_of_atom p a) 0

    R : ℕ
    R = get_or ranks (var_of_atom p a) 0

    support : has (supports p a) b ≡ true
    support = support_at p s a supported stands nz

    -- an atom of another variable that is above was above
    other : (u : ℕ) → u ≢ v → is_above c ranks (is_done l w 0) K R u ≡ true → is_above c ranks (is_done l w v) K R u ≡ true
    other u ne e =
        let parts = above_parts c ranks (is_done l w 0) K R u e in
        above_from c ranks (is_done l w v) K R u parts.0 (elim parts.1 [
          | inl m ↦ let done = done_parts l w 0 u m in inl (done_from l w v u done.0 done.1 ne)
          | inr m ↦ inr m
        ])

    outside : K ≢ k → (u : ℕ) → get_or c.numbers u 0 ≡ K → is_done l w 0 u ≡ true → is_done l w v u ≡ true
    outside differ u at e =
        let done = done_parts l w 0 u e in
        done_from l w v u done.0 done.1 (λ i. differ (sym at ∙ candidates.at u done.0))

    at_literal : K ≡ k → (t : Bool) → t ≡ has_literal (form_literals p (form_of p b)) (T v) → is_excused p x (above p c ranks (is_done l w 0) a) (form_of p b) ≡ false
    at_literal same true q =
        subst (λ (n : ℕ). is_excused p x (shown p (is_above c ranks (is_done l w 0) n R)) (form_of p b) ≡ false) (sym same)
        (source_released p c x k ranks s l w v a supported stands nz (sym q) all same refl)
    at_literal same false q =
        false_from (is_excused p x (above p c ranks (is_done l w v) a) (form_of p b)) (is_excused p x (above p c ranks (is_done l w 0) a) (form_of p b))
        (excused_within p x (above p c ranks (is_done l w 0) a) (above p c ranks (is_done l w v) a) (form_of p b)
        (λ u there e.
        let parts = shown_parts p (is_above c ranks (is_done l w 0) K R) u e in
        shown_from p (is_above c ranks (is_done l w v) K R) u
        (other (var_of_atom p u) (λ i. false≢true (q ∙ (ap (λ n. has_literal (form_literals p (form_of p b)) (T n)) (sym i) ∙ there))) parts.0)
        parts.1)
        (source_weighted p a b sound support)) (g a stands nz)

    at_component : (t : Bool) → t ≡ eqb K k → is_excused p x (above p c ranks (is_done l w 0) a) (form_of p b) ≡ false
    at_component true q = at_literal (eqb-true K k (sym q)) (has_literal (form_literals p (form_of p b)) (T v)) refl
    at_component false q =
        firm_fewer p x (above p c ranks (is_done l w 0) a) (above p c ranks (is_done l w v) a) a b sound support
        (shown_more p (is_above c ranks (is_done l w 0) K R) (is_above c ranks (is_done l w v) K R)
        (above_more c ranks (is_done l w 0) (is_done l w v) K R (outside (λ e. false≢true (q ∙ eq-eqb K k e))))) (g a stands nz)

-- ---- which candidate is looked at
pub looked_at : (p : Program) (c : Parts) (x : List (Option Bool)) (k : ℕ) (ranks s : List ℕ) (l w j less : List Bool) (n : ℕ) → IsSound p →
    less ≡ set w n false → IsGathering p c x k ranks 0 s l w j → IsGathering p c x k ranks (n + 1) s l less j
looked_at p c x k ranks s l w j less n sound is h = record {
  setting = h.setting;
  size = h.size;
  rank_room = h.rank_room;
  waits = ap length is ∙ length-set w n false ∙ h.waits;
  joins = h.joins;
  supports = h.supports;
  ranked = ranked_fewer p c x ranks (is_done l w 0) (is_done l less (n + 1)) s sound h.supports (λ u e.
      let parts = done_parts l less (n + 1) u e in
      let at = h.candidates.atoms u parts.0 in
      done_from l w 0 u parts.0 (sym (get_or-set_other w n (u - 1) false false (λ i. parts.2 (let some_ = at.0 in omega (arith, i, some_))))
      ∙ (ap (λ (y : List Bool). is_marked y (u - 1)) (sym is) ∙ parts.1)) (λ z. let some_ = at.0 in absurd (omega (arith, z, some_))))
      h.ranked;
  candidates = h.candidates;
  listed = h.listed;
}

pub looked_through : (p : Program) (c : Parts) (x : List (Option Bool)) (k : ℕ) (ranks : List ℕ) (v : ℕ) (s : List ℕ) (l w j : List Bool) →
    IsSound p → All (λ (o : Occurrence). AreReleased p c x k ranks s l w o.body) (occurrences_of p (T v)) → IsGathering p c x k ranks v s l w j →
    IsGathering p c x k ranks 0 s l w j
looked_through p c x k ranks v s l w j sound all h = record {
  setting = h.setting;
  size = h.size;
  rank_room = h.rank_room;
  waits = h.waits;
  joins = h.joins;
  supports = h.supports;
  ranked = ranked_released p c x k ranks s l w v sound h.supports h.candidates h.ranked all;
  candidates = h.candidates;
  listed = h.listed;
}

-- ---- an atom gets a source again
pub gather_seated : (p : Program) (c : Parts) (x : List (Option Bool)) (k : ℕ) (ranks : List ℕ) (busy : ℕ) (s : List ℕ) (l w j : List Bool)
    (t : List ℕ) (v : ℕ) → IsSound p → IsAtomVar p v → get_or c.numbers v 0 ≡ k → is_marked l v ≡ false → IsReseated p c x k ranks l v s t →
    IsGathering p c x k ranks busy s l w j → IsGathering p c x k ranks busy t l w j
gather_seated p c x k ranks busy s l w j t v sound is at bare seat h =
    subst (λ (u : List ℕ). IsGathering p c x k ranks busy u l w j) (sym seat.is) (record {
      setting = h.setting;
      size = length-set s v seat.body ∙ h.size;
      rank_room = h.rank_room;
      waits = h.waits;
      joins = h.joins;
      supports = supports_set p s v seat.body lt seat.by.support h.supports;
      ranked = ranked_set p c x ranks (is_done l w busy) s v seat.body lt
          (firm_fewer p x (shown p (is_above c ranks (is_done l w busy) (get_or c.numbers v 0) (get_or ranks v 0)))
          (shown p (is_above c ranks (is_marked l) k (get_or ranks v 0))) (nth_atom p (v - 1)) seat.body sound seat.by.support
          (shown_more p (is_above c ranks (is_done l w busy) (get_or c.numbers v 0) (get_or ranks v 0)) (is_above c ranks (is_marked l) k (get_or ranks v 0)) (λ u e.
          let parts = above_parts c ranks (is_done l w busy) (get_or c.numbers v 0) (get_or ranks v 0) u e in
          above_from c ranks (is_marked l) k (get_or ranks v 0) u (parts.0 ∙ at) (elim parts.1 [
            | inl m ↦ inl (done_parts l w busy u m).0
            | inr m ↦ inr m
          ]))) seat.by.firm) h.ranked;
      candidates = record {
        size = h.candidates.size;
        atoms = h.candidates.atoms;
        at = h.candidates.at;
        not_false = h.candidates.not_false;
        bare = λ u m. get_or-set_other s v u seat.body 0 (λ i. false≢true (sym bare ∙ (ap (is_marked l) (sym i) ∙ m))) ∙ h.candidates.bare u m;
      };
      listed = h.listed;
    })
  where
    lt : v < length s
    lt = let small = is.1 in let size = h.size in omega (arith, small, size)

pub gathers_seated : (p : Program) (c : Parts) (x : List (Option Bool)) (k : ℕ) (ranks s : List ℕ) (l w : List Bool) (t : List ℕ) (v : ℕ) →
    v < length s → IsReseated p c x k ranks l v s t → Gathers x s l w t l w
gathers_seated p c x k ranks s l w t v lt seat = record {
  size = ap length seat.is ∙ length-set s v seat.body;
  marks = refl;
  room = refl;
  more = λ u e. e;
  left = λ u z o. inl (by_var u z (eqb u v) refl);
  paid = omega arith;
}
  where
    by_var : (u : ℕ) → get_or t u 0 ≡ 0 → (b : Bool) → b ≡ eqb u v → get_or s u 0 ≡ 0
    by_var u z true q =
        absurd (support_positive p (nth_atom p (v - 1)) seat.body seat.by.support
        (sym (get_or-set_same s v seat.body 0 lt) ∙ (ap (λ n. get_or (set s v seat.body) n 0) (sym (eqb-true u v (sym q))) ∙ (ap (λ (n : List ℕ). get_or n u 0) (sym seat.is) ∙ z))))
    by_var u z false q = sym (get_or-set_other s v u seat.body 0 (λ i. false≢true (q ∙ eq-eqb u v i))) ∙ (ap (λ (n : List ℕ). get_or n u 0) (sym seat.is) ∙ z)

-- it is founded by it from outside of all that is done
pub seated_clear : (p : Program) (c : Parts) (x : List (Option Bool)) (k : ℕ) (ranks s : List ℕ) (l w : List Bool) (t : List ℕ) (v : ℕ) → IsSound p →
    v < length s → IsReseated p c x k ranks l v s t → (b : ℕ) → IsReleased p c x k ranks t l w b v
seated_clear p c x k ranks s l w t v sound lt seat b at e =
    let same : seat.body ≡ b = sym (get_or-set_same s v seat.body 0 lt) ∙ (ap (λ (n : List ℕ). get_or n v 0) (sym seat.is) ∙ e) in
    subst (λ (n : ℕ). IsClear p c x k ranks l w n v) same
    (firm_fewer p x (shown p (is_above c ranks (is_done l w 0) k (get_or ranks v 0))) (shown p (is_above c ranks (is_marked l) k (get_or ranks v 0)))
    (nth_atom p (v - 1)) seat.body sound seat.by.support
    (shown_more p (is_above c ranks (is_done l w 0) k (get_or ranks v 0)) (is_above c ranks (is_marked l) k (get_or ranks v 0))
    (above_more c ranks (is_done l w 0) (is_marked l) k (get_or ranks v 0) (λ u there m. (done_parts l w 0 u m).0))) seat.by.firm)

pub keeps_seated : (p : Program) (c : Parts) (x : List (Option Bool)) (k : ℕ) (ranks s : List ℕ) (l w : List Bool) (t : List ℕ) (v : ℕ) → IsSound p →
    v < length s → IsReseated p c x k ranks l v s t → Keeps p c x k ranks s l w t l w
keeps_seated p c x k ranks s l w t v sound lt seat b u positive is h = by_var (eqb u v) refl
  where
    by_var : (i : Bool) → i ≡ eqb u v → IsReleased p c x k ranks t l w b u
    by_var true q = subst (λ (n : ℕ). IsReleased p c x k ranks t l w b n) (sym (eqb-true u v (sym q))) (seated_clear p c x k ranks s l w t v sound lt seat b)
    by_var false q = λ at e. h at (sym (get_or-set_other s v u seat.body 0 (λ i. false≢true (q ∙ eq-eqb u v i))) ∙ (ap (λ (n : List ℕ). get_or n u 0) (sym seat.is) ∙ e))

-- ---- what stays released
pub keeps_same : (p : Program) (c : Parts) (x : List (Option Bool)) (k : ℕ) (ranks s : List ℕ) (l w : List Bool) → Keeps p c x k ranks s l w s l w
keeps_same p c x k ranks s l w b u positive is h = h

pub keeps_then : (p : Program) (c : Parts) (x : List (Option Bool)) (k : ℕ) (ranks s : List ℕ) (l w : List Bool) (t : List ℕ) (m y : List Bool)
    (u : List ℕ) (n z : List Bool) → Keeps p c x k ranks s l w t m y → Keeps p c x k ranks t m y u n z → Keeps p c x k ranks s l w u n z
keeps_then p c x k ranks s l w t m y u n z g h b v positive is e = h b v positive is (g b v positive is e)

-- an atom loses its source, and joins
pub keeps_joined : (p : Program) (c : Parts) (x : List (Option Bool)) (k : ℕ) (ranks s : List ℕ) (l w : List Bool) (t : List ℕ) (v : ℕ) → IsSound p →
    AreSupports p s → v - 1 < length w → Drops s t v → Keeps p c x k ranks s l w t (join_loose x l v) (join_places x l w v)
keeps_joined p c x k ranks s l w t v sound supported lt drops b u positive is h at e = by_var (eqb u v) refl
  where
    by_var : (i : Bool) → i ≡ eqb u v → IsClear p c x k ranks (join_loose x l v) (join_places x l w v) b u
    by_var true q = absurd (let none = sym (ap (λ n. get_or t n 0) (eqb-true u v (sym q)) ∙ drops.none) ∙ e in omega (arith, none, positive))
    by_var false q =
        let was : get_or s u 0 ≡ b = sym (drops.others u (λ i. false≢true (q ∙ eq-eqb u v i))) ∙ e in
        let support : has (supports p (nth_atom p (u - 1))) b ≡ true =
        ap (has (supports p (nth_atom p (u - 1)))) (sym was)
        ∙ supported u is (λ z. let zero_ = sym was ∙ z in absurd (omega (arith, zero_, positive))) in
        firm_fewer p x (shown p (is_above c ranks (is_done (join_loose x l v) (join_places x l w v) 0) k (get_or ranks u 0)))
        (shown p (is_above c ranks (is_done l w 0) k (get_or ranks u 0))) (nth_atom p (u - 1)) b sound support
        (shown_more p (is_above c ranks (is_done (join_loose x l v) (join_places x l w v) 0) k (get_or ranks u 0)) (is_above c ranks (is_done l w 0) k (get_or ranks u 0))
        (above_more c ranks (is_done (join_loose x l v) (join_places x l w v) 0) (is_done l w 0) k (get_or ranks u 0) (λ i there m. done_joined x l w 0 v i lt m))) (h at was)

-- a source alone goes
pub keeps_dropped : (p : Program) (c : Parts) (x : List (Option Bool)) (k : ℕ) (ranks s : List ℕ) (l w : List Bool) (t : List ℕ) (v : ℕ) → Drops s t v → Keeps p c x k ranks s l w t l w
keeps_dropped p c x k ranks s l w t v drops b u positive is h at e = by_var (eqb u v) refl
  where
    by_var : (i : Bool) → i ≡ eqb u v → IsClear p c x k ranks l w b u
    by_var true q = absurd (let none = sym (ap (λ n. get_or t n 0) (eqb-true u v (sym q)) ∙ drops.none) ∙ e in omega (arith, none, positive))
    by_var false q = h at (sym (drops.others u (λ i. false≢true (q ∙ eq-eqb u v i))) ∙ e)

-- an atom without source is released from every body
pub bare_clear : (p : Program) (c : Parts) (x : List (Option Bool)) (k : ℕ) (ranks s : List ℕ) (l w : List Bool) (v : ℕ) → get_or s v 0 ≡ 0 → (b : ℕ) → 0 < b → IsReleased p c x k ranks s l w b v
bare_clear p c x k ranks s l w v none b positive at e = absurd (let zero_ = sym none ∙ e in omega (arith, zero_, positive))

-- ---- an atom loses its source before it is admitted
pub gather_dropped : (p : Program) (c : Parts) (x : List (Option Bool)) (k : ℕ) (ranks : List ℕ) (busy : ℕ) (s : List ℕ) (l w j : List Bool)
    (t : List ℕ) (v : ℕ) → Drops s t v → IsGathering p c x k ranks busy s l w j → IsGathering p c x k ranks busy t l w j
gather_dropped p c x k ranks busy s l w j t v drops h = record {
  setting = h.setting;
  size = drops.size ∙ h.size;
  rank_room = h.rank_room;
  waits = h.waits;
  joins = h.joins;
  supports = supports_less p s t drops.less h.supports;
  ranked = ranked_less p c x ranks (is_done l w busy) s t drops.less h.ranked;
  candidates = candidates_less p c x k s t l drops.less h.candidates;
  listed = h.listed;
}

pub gathers_admitted : (x : List (Option Bool)) (s : List ℕ) (l w : List Bool) (t : List ℕ) (v : ℕ) (u : List ℕ) (n z : List Bool) → Drops s t v →
    Gathers x t l w u n z → (get_or u v 0 ≡ 0 → holds_in x (F v) ≡ false → is_marked n v ≡ true) → Gathers x s l w u n z
gathers_admitted x s l w t v u n z drops h admitted = record {
  size = h.size ∙ drops.size;
  marks = h.marks;
  room = h.room;
  more = h.more;
  left = λ i none alive. by_var i none alive (eqb i v) refl;
  paid = h.paid;
}
  where
    by_var : (i : ℕ) → get_or u i 0 ≡ 0 → holds_in x (F i) ≡ false → (b : Bool) → b ≡ eqb i v → (get_or s i 0 ≡ 0) ⊎ (is_marked n i ≡ true)
    by_var i none alive true q =
        let same : i ≡ v = eqb-true i v (sym q) in
        inr (ap (is_marked n) same ∙ admitted (ap (λ a. get_or u a 0) (sym same) ∙ none) (ap (λ a. holds_in x (F a)) (sym same) ∙ alive))
    by_var i none alive false q = elim (h.left i none alive) [
      | inl e ↦ inl (sym (drops.others i (λ a. false≢true (q ∙ eq-eqb i v a))) ∙ e)
      | inr e ↦ inr e
    ]

-- ---- what the calls say
pub gathered_as : (p : Program) (c : Parts) (x : List (Option Bool)) (k : ℕ) (ranks : List ℕ) (busy : ℕ) (s : List ℕ) (l w j : List Bool) (t : List ℕ)
    (m y z : List Bool) (v : ℕ) → IsSound p → m ≡ join_loose x l v → y ≡ join_places x l w v → z ≡ join_places x l j v → IsAtomVar p v →
    get_or c.numbers v 0 ≡ k → Drops s t v → IsGathering p c x k ranks busy s l w j → IsGathering p c x k ranks busy t m y z
gathered_as p c x k ranks busy s l w j t m y z v sound a b d is at drops h =
    subst (λ (n : List Bool). IsGathering p c x k ranks busy t n y z) (sym a)
    (subst (λ (n : List Bool). IsGathering p c x k ranks busy t (join_loose x l v) n z) (sym b)
    (subst (λ (n : List Bool). IsGathering p c x k ranks busy t (join_loose x l v) (join_places x l w v) n) (sym d) (gather_one p c x k ranks busy s l w j t v sound is at drops h)))

pub gathers_as : (x : List (Option Bool)) (s : List ℕ) (l w : List Bool) (t : List ℕ) (m y : List Bool) (v : ℕ) → m ≡ join_loose x l v →
    y ≡ join_places x l w v → v < length l → v - 1 < length w → Drops s t v → Gathers x s l w t m y
gathers_as x s l w t m y v a b lt within drops =
    subst (λ (n : List Bool). Gathers x s l w t n y) (sym a)
    (subst (λ (n : List Bool). Gathers x s l w t (join_loose x l v) n) (sym b) (gathers_one x s l w t v lt within drops))

pub keeps_as : (p : Program) (c : Parts) (x : List (Option Bool)) (k : ℕ) (ranks s : List ℕ) (l w : List Bool) (m y : List Bool) (v : ℕ) → IsSound p →
    AreSupports p s → m ≡ join_loose x l v → y ≡ join_places x l w v → v - 1 < length w → get_or s v 0 ≡ 0 → Keeps p c x k ranks s l w s m y
keeps_as p c x k ranks s l w m y v sound supported a b lt none =
    subst (λ (n : List Bool). Keeps p c x k ranks s l w s n y) (sym a)
    (subst (λ (n : List Bool). Keeps p c x k ranks s l w s (join_loose x l v) n) (sym b) (keeps_joined p c x k ranks s l w s v sound supported lt (drops_none s v none)))

pub drops_lost : (s t : List ℕ) (v body : ℕ) (r : Bool) → t ≡ cond (eqb (get_or s v 0) body) (set s v 0) s → r ≡ eqb (get_or s v 0) body → r ≡ true → Drops s t v
drops_lost s t v body r is lost was = subst (λ (u : List ℕ). Drops s u v) (sym (is ∙ ap (λ b. cond b (set s v 0) s) (sym lost ∙ was))) (drops_one s v)

-- ---- one body, or one head more
pub released_keeps : (p : Program) (c : Parts) (x : List (Option Bool)) (k : ℕ) (ranks s : List ℕ) (l w : List Bool) (t : List ℕ) (m y : List Bool)
    (j : ℕ) → Keeps p c x k ranks s l w t m y → AreReleased p c x k ranks s l w j → AreReleased p c x k ranks t m y j
released_keeps p c x k ranks s l w t m y j keeps h i d lt =
    keeps (length (atoms_of p) + 1 + j) (get_or (heads_of p (nth_body p j)) i d) (omega arith) (all_of (IsAtomVar p) (heads_of p (nth_body p j)) (head_vars p (nth_body p j)) i d lt) (h i d lt)

pub head_more : (p : Program) (c : Parts) (x : List (Option Bool)) (k : ℕ) (ranks s : List ℕ) (l w : List Bool) (t : List ℕ) (m y : List Bool)
    (vs : List ℕ) (n b v : ℕ) → 0 < b → All (IsAtomVar p) vs → Keeps p c x k ranks s l w t m y →
    ((i d : ℕ) → i < n → i < length vs → IsReleased p c x k ranks s l w b (get_or vs i d)) → IsReleased p c x k ranks t m y b v →
    ((d : ℕ) → n < length vs → get_or vs n d ≡ v) → (i d : ℕ) → i < n + 1 → i < length vs → IsReleased p c x k ranks t m y b (get_or vs i d)
head_more p c x k ranks s l w t m y vs n b v positive vars keeps before here at i d lt within = cases (eqb i n) refl
  where
    cases : (r : Bool) → r ≡ eqb i n → IsReleased p c x k ranks t m y b (get_or vs i d)
    cases true q =
        let same : i ≡ n = eqb-true i n (sym q) in
        subst (λ (u : ℕ). IsReleased p c x k ranks t m y b u) (sym (ap (λ m. get_or vs m d) same ∙ at d (omega (arith, same, within)))) here
    cases false q = keeps b (get_or vs i d) positive (vars i d within) (before i d (let ne : i ≢ n = (λ a. false≢true (q ∙ eq-eqb i n a)) in omega (arith, lt, ne)) within)

pub released_more : (p : Program) (c : Parts) (x : List (Option Bool)) (k : ℕ) (ranks s : List ℕ) (l w : List Bool) (t : List ℕ) (m y : List Bool)
    (os : List Occurrence) (n b : ℕ) → Keeps p c x k ranks s l w t m y →
    ((i : ℕ) (d : Occurrence) → i < n → i < length os → AreReleased p c x k ranks s l w (get_or os i d).body) → AreReleased p c x k ranks t m y b →
    ((d : Occurrence) → n < length os → (get_or os n d).body ≡ b) → (i : ℕ) (d : Occurrence) → i < n + 1 → i < length os →
    AreReleased p c x k ranks t m y (get_or os i d).body
released_more p c x k ranks s l w t m y os n b keeps before here at i d lt within = cases (eqb i n) refl
  where
    cases : (r : Bool) → r ≡ eqb i n → AreReleased p c x k ranks t m y (get_or os i d).body
    cases true q =
        let same : i ≡ n = eqb-true i n (sym q) in
        subst (λ (j : ℕ). AreReleased p c x k ranks t m y j) (sym (ap (λ m. (get_or os m d).body) same ∙ at d (omega (arith, same, within)))) here
    cases false q = released_keeps p c x k ranks s l w t m y (get_or os i d).body keeps (before i d (let ne : i ≢ n = (λ e. false≢true (q ∙ eq-eqb i n e)) in omega (arith, lt, ne)) within)

pub gathers_same : (x : List (Option Bool)) (s : List ℕ) (l w : List Bool) → Gathers x s l w s l w
gathers_same x s l w = record { size = refl; marks = refl; room = refl; more = λ v e. e; left = λ v z o. inl z; paid = omega arith }

-- ---- an atom is admitted
pub steps_same : (p : Program) (c : Parts) (x : List (Option Bool)) (k : ℕ) (ranks : List ℕ) (busy : ℕ) (s : List ℕ) (l w j : List Bool) (t : List ℕ)
    → t ≡ s → IsGathering p c x k ranks busy s l w j → Steps p c x k ranks busy s l w t l w j
steps_same p c x k ranks busy s l w j t same h =
    subst (λ (u : List ℕ). Steps p c x k ranks busy s l w u l w j) (sym same) (record { gathering = h; gathers = gathers_same x s l w; keeps = keeps_same p c x k ranks s l w })

pub steps_then : (p : Program) (c : Parts) (x : List (Option Bool)) (k : ℕ) (ranks : List ℕ) (busy : ℕ) (s : List ℕ) (l w : List Bool) (t : List ℕ)
    (m y g : List Bool) (u : List ℕ) (n z i : List Bool) → Steps p c x k ranks busy s l w t m y g → Steps p c x k ranks busy t m y u n z i →
    Steps p c x k ranks busy s l w u n z i
steps_then p c x k ranks busy s l w t m y g u n z i a b = record {
  gathering = b.gathering;
  gathers = gathers_then x s l w t m y u n z a.gathers b.gathers;
  keeps = keeps_then p c x k ranks s l w t m y u n z a.keeps b.keeps;
}

-- it was a candidate already, or is false
pub admits_none : (p : Program) (c : Parts) (x : List (Option Bool)) (k : ℕ) (ranks : List ℕ) (busy v : ℕ) (s : List ℕ) (l w j : List Bool) →
    get_or s v 0 ≡ 0 → (holds_in x (F v) ≡ false → is_marked l v ≡ true) → IsGathering p c x k ranks busy s l w j →
    Admits p c x k ranks busy v s l w s l w j
admits_none p c x k ranks busy v s l w j none admitted h = record {
  steps = steps_same p c x k ranks busy s l w j s refl h;
  clear = bare_clear p c x k ranks s l w v none;
  admitted = λ z alive. admitted alive;
}

-- it has a source again
pub admits_seated : (p : Program) (c : Parts) (x : List (Option Bool)) (k : ℕ) (ranks : List ℕ) (busy v : ℕ) (s : List ℕ) (l w j : List Bool)
    (t : List ℕ) → IsSound p → IsAtomVar p v → get_or c.numbers v 0 ≡ k → is_marked l v ≡ false → IsReseated p c x k ranks l v s t →
    IsGathering p c x k ranks busy s l w j → Admits p c x k ranks busy v s l w t l w j
admits_seated p c x k ranks busy v s l w j t sound is at bare seat h = record {
  steps = record {
    gathering = gather_seated p c x k ranks busy s l w j t v sound is at bare seat h;
    gathers = gathers_seated p c x k ranks s l w t v lt seat;
    keeps = keeps_seated p c x k ranks s l w t v sound lt seat;
  };
  clear = λ b positive. seated_clear p c x k ranks s l w t v sound lt seat b;
  admitted = λ z alive. absurd (support_positive p (nth_atom p (v - 1)) seat.body seat.by.support (sym (get_or-set_same s v seat.body 0 lt) ∙ (ap (λ (n : List ℕ). get_or n v 0) (sym seat.is) ∙ z)));
}
  where
    lt : v < length s
    lt = let small = is.1 in let size = h.size in omega (arith, small, size)

-- it joins
pub admits_joined : (p : Program) (c : Parts) (x : List (Option Bool)) (k : ℕ) (ranks : List ℕ) (busy v : ℕ) (s : List ℕ) (l w j : List Bool)
    (t : List ℕ) (m y z : List Bool) → IsSound p → IsAtomVar p v → get_or c.numbers v 0 ≡ k → get_or s v 0 ≡ 0 → is_marked l v ≡ false → t ≡ s →
    m ≡ join_loose x l v → y ≡ join_places x l w v → z ≡ join_places x l j v → IsGathering p c x k ranks busy s l w j →
    Admits p c x k ranks busy v s l w t m y z
admits_joined p c x k ranks busy v s l w j t m y z sound is at none bare same a b d h =
    subst (λ (u : List ℕ). Admits p c x k ranks busy v s l w u m y z) (sym same) (record {
      steps = record {
        gathering = gathered_as p c x k ranks busy s l w j s m y z v sound a b d is at (drops_none s v none) h;
        gathers = gathers_as x s l w s m y v a b lt within (drops_none s v none);
        keeps = keeps_as p c x k ranks s l w m y v sound h.supports a b within none;
      };
      clear = bare_clear p c x k ranks s m y v none;
      admitted = λ o alive. ap (λ (n : List Bool). is_marked n v) a ∙ marked alive;
    })
  where
    lt : v < length l
    lt = let small = is.1 in let size = h.candidates.size in omega (arith, small, size)

    within : v - 1 < length w
    within = let small = is.1 in let some_ = is.0 in let size = h.waits in omega (arith, small, some_, size)

    marked : holds_in x (F v) ≡ false → is_marked (join_loose x l v) v ≡ true
    marked alive =
        ap (λ (b : Bool). is_marked (cond (b || is_marked l v) l (set l v true)) v) alive
        ∙ ap (λ (b : Bool). is_marked (cond b l (set l v true)) v) bare
        ∙ get_or-set_same l v true false lt

-- an atom that wasn't the body's head loses nothing
pub not_lost : (p : Program) (c : Parts) (x : List (Option Bool)) (k : ℕ) (ranks s : List ℕ) (l w : List Bool) (t : List ℕ) (v body : ℕ) (r : Bool) →
    t ≡ s → r ≡ eqb (get_or s v 0) body → r ≡ false → IsReleased p c x k ranks t l w body v
not_lost p c x k ranks s l w t v body r same lost was at e =
    absurd (false≢true (sym was ∙ (lost ∙ eq-eqb (get_or s v 0) body (ap (λ (n : List ℕ). get_or n v 0) (sym same) ∙ e))))

pub same_lost : (s t : List ℕ) (v body : ℕ) (r : Bool) → t ≡ cond (eqb (get_or s v 0) body) (set s v 0) s → r ≡ eqb (get_or s v 0) body → r ≡ false → t ≡ s
same_lost s t v body r is lost was = is ∙ ap (λ b. cond b (set s v 0) s) (sym lost ∙ was)

-- an atom that loses its source, and is admitted
pub steps_lost : (p : Program) (c : Parts) (x : List (Option Bool)) (k : ℕ) (ranks : List ℕ) (busy v : ℕ) (s : List ℕ) (l w : List Bool)
    (t u : List ℕ) (n z i : List Bool) → Drops s t v → Admits p c x k ranks busy v t l w u n z i → Steps p c x k ranks busy s l w u n z i
steps_lost p c x k ranks busy v s l w t u n z i drops h = record {
  gathering = h.steps.gathering;
  gathers = gathers_admitted x s l w t v u n z drops h.steps.gathers h.admitted;
  keeps = keeps_then p c x k ranks s l w t l w u n z (keeps_dropped p c x k ranks s l w t v drops) h.steps.keeps;
}
