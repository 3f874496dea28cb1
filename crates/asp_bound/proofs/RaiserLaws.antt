-- The variables whose values raise the cost, as values come and go.
use Rattle.std.proofs.Common.{◌≡◌, ◌≢◌, ℕ, zero, suc, ◌+◌, ◌<◌, ◌≤◌, Bool, true, false, cond, not, eqb, ◌||◌, List, [], ◌∷◌, ◌++◌, length, get_or, set, take, drop, replicate, Option, Some, None, refl, sym, ap, ◌∙◌, subst, inl, inr, arith, get_or-set_other, get_or-set_same}
use Rattle.std.specs.List.{All, list_any, filter, count_by}
use Rattle.std.proofs.lemmas.Bool.{false≢true, cases_eq, eqb-true, eq-eqb, ne_eqb, or_left, or_right}
use Rattle.std.proofs.lemmas.List.{length-set, length_push}
use Rattle.std.proofs.lemmas.List.Elements.{All-cons, All-head, All-tail, All-push, All-weaker, All-filter, filter_passes}
use Rattle.std.proofs.lemmas.List.Filters.{sum_by-filter_both, length-filter_both}
use Rattle.std.proofs.lemmas.List.Folds.{list_any-append}
use Rattle.std.proofs.lemmas.List.Sums.{sum_by-cons, sum_by_push, length-filter, get_or-le-sum_by}
use Rattle.asp_model.specs.declared.program.Program.{Program}
use Rattle.asp_vars.specs.Literals.{Literal, value_of}
use Rattle.asp_vars.specs.Numbering.{var_count}
use Rattle.asp_bound.specs.declared.place.Place.{Place}
use Rattle.asp_bound.specs.Kept.{IsOnce, AreVars}
use Rattle.asp_bound.specs.Rises.{row_at}
use Rattle.asp_bound.specs.Raisers.{Line, is_raising, is_raising_by, is_raiser, without, joined, left, AreRaisers}

abbrev is : ℕ → ℕ → Bool
is v x = eqb x v

abbrev isnt : ℕ → ℕ → Bool
isnt v x = not (eqb x v)

abbrev one_if : Bool → ℕ
one_if b = cond b 1 0

-- ---- one is taken out
or_cases : (x y : Bool) → (x || y) ≡ false → (x ≡ false) × (y ≡ false)
or_cases true y e = absurd (false≢true (sym e))
or_cases false y e = (refl, e)

isnt-ne : (v x : ℕ) → isnt v x ≡ true → x ≢ v
isnt-ne v x e h = false≢true (sym (ap not (eq-eqb x v h)) ∙ e)

none-counts : (v : ℕ) (vs : List ℕ) → list_any (is v) vs ≡ false → count_by (is v) vs ≡ 0
none-counts v [] e = refl
none-counts v (x ∷ vs) e =
    let both = or_cases (eqb x v) (list_any (is v) vs) e in
    omega (arith, sum_by-cons (λ (y : ℕ). cond (eqb y v) 1 0) x vs, ap one_if both.0, none-counts v vs both.1)

pub without-none : (v : ℕ) (vs : List ℕ) → list_any (is v) vs ≡ false → without v vs ≡ vs
without-none v [] e = refl
without-none v (x ∷ vs) e =
    let both = or_cases (eqb x v) (list_any (is v) vs) e in
    ap (λ (b : Bool). cond (not b) (x ∷ without v vs) (without v vs)) both.0 ∙ ap (λ (ys : List ℕ). x ∷ ys) (without-none v vs both.1)

pub counts-none : (v : ℕ) (vs : List ℕ) → count_by (is v) vs ≡ 0 → list_any (is v) vs ≡ false
counts-none v [] e = refl
counts-none v (x ∷ vs) e = cases (λ h. counts-none v vs h) (eqb x v) refl
  where
    split : count_by (is v) (x ∷ vs) ≡ one_if (eqb x v) + count_by (is v) vs
    split = sum_by-cons (λ (y : ℕ). cond (eqb y v) 1 0) x vs

    cases : (count_by (is v) vs ≡ 0 → list_any (is v) vs ≡ false) → (b : Bool) → eqb x v ≡ b → (eqb x v || list_any (is v) vs) ≡ false
    cases rest true q = absurd (omega (arith, e, split, ap one_if q))
    cases rest false q = ap (λ (b : Bool). b || list_any (is v) vs) q ∙ rest (omega (arith, e, split, ap one_if q))

-- the one that stands at a place, where it stands once
pub without-at : (v : ℕ) (vs : List ℕ) (i : ℕ) → count_by (is v) vs ≤ 1 → i < length vs → get_or vs i 0 ≡ v → without v vs ≡ take i vs ++ drop (suc i) vs
without-at v [] i once lt e = absurd (omega arith)
without-at v (x ∷ vs) zero once lt e =
    let here : eqb x v ≡ true = eq-eqb x v e in
    let rest : count_by (is v) vs ≡ 0 = omega (arith, once, sum_by-cons (λ (y : ℕ). cond (eqb y v) 1 0) x vs, ap one_if here) in
    ap (λ (b : Bool). cond (not b) (x ∷ without v vs) (without v vs)) here ∙ without-none v vs (counts-none v vs rest)
without-at v (x ∷ vs) (suc i) once lt e = cases (λ few. without-at v vs i few (omega arith) e) (eqb x v) refl
  where
    split : count_by (is v) (x ∷ vs) ≡ one_if (eqb x v) + count_by (is v) vs
    split = sum_by-cons (λ (y : ℕ). cond (eqb y v) 1 0) x vs

    there : 1 ≤ count_by (is v) vs
    there = omega (arith, ap one_if (eq-eqb (get_or vs i 0) v e), get_or-le-sum_by (λ (y : ℕ). cond (eqb y v) 1 0) vs i 0 (omega arith))

    cases : (count_by (is v) vs ≤ 1 → without v vs ≡ take i vs ++ drop (suc i) vs) → (b : Bool) → eqb x v ≡ b → without v (x ∷ vs) ≡ take (suc i) (x ∷ vs) ++ drop (suc (suc i)) (x ∷ vs)
    cases rest true q = absurd (omega (arith, once, split, ap one_if q, there))
    cases rest false q = ap (λ (b : Bool). cond (not b) (x ∷ without v vs) (without v vs)) q ∙ ap (λ (ys : List ℕ). x ∷ ys) (rest (omega (arith, once, split)))

without-any : (v w : ℕ) (vs : List ℕ) → w ≢ v → list_any (is w) vs ≡ true → list_any (is w) (without v vs) ≡ true
without-any v w [] ne h = h
without-any v w (x ∷ vs) ne h = cases (λ g. without-any v w vs ne g) (eqb x v) refl (eqb x w) refl
  where
    cases : (list_any (is w) vs ≡ true → list_any (is w) (without v vs) ≡ true) → (b : Bool) → eqb x v ≡ b → (c : Bool) → eqb x w ≡ c → list_any (is w) (without v (x ∷ vs)) ≡ true
    cases rest true q true r = absurd (ne (sym (eqb-true x w r) ∙ eqb-true x v q))
    cases rest true q false r =
        ap (λ (b : Bool). list_any (is w) (cond (not b) (x ∷ without v vs) (without v vs))) q ∙ rest (ap (λ (c : Bool). c || list_any (is w) vs) (sym r) ∙ h)
    cases rest false q true r =
        ap (λ (b : Bool). list_any (is w) (cond (not b) (x ∷ without v vs) (without v vs))) q ∙ or_left (eqb x w) (list_any (is w) (without v vs)) r
    cases rest false q false r =
        ap (λ (b : Bool). list_any (is w) (cond (not b) (x ∷ without v vs) (without v vs))) q
        ∙ or_right (eqb x w) (list_any (is w) (without v vs)) (rest (ap (λ (c : Bool). c || list_any (is w) vs) (sym r) ∙ h))

without-once : (v : ℕ) (vs : List ℕ) → IsOnce vs → IsOnce (without v vs)
without-once v vs once = λ w. omega (arith, once w, sum_by-filter_both (isnt v) (λ (x : ℕ). not (isnt v x)) (λ (x : ℕ). refl) (λ (x : ℕ). cond (eqb x w) 1 0) vs)

-- ---- how many there are
double-not : (b : Bool) → not (not b) ≡ b
double-not true = refl
double-not false = refl

without-length : (v : ℕ) (vs : List ℕ) → length (without v vs) + count_by (is v) vs ≡ length vs
without-length v vs =
    let both : length (filter (isnt v) vs) + length (filter (is v) vs) ≡ length vs = length-filter_both (isnt v) (is v) (λ (x : ℕ). sym (double-not (eqb x v))) vs in
    omega (arith, both, length-filter (is v) vs)

any-counts : (v : ℕ) (vs : List ℕ) → list_any (is v) vs ≡ true → 1 ≤ count_by (is v) vs
any-counts v vs h = cases (count_by (is v) vs) refl
  where
    cases : (n : ℕ) → count_by (is v) vs ≡ n → 1 ≤ count_by (is v) vs
    cases zero q = absurd (false≢true (sym (counts-none v vs q) ∙ h))
    cases (suc n) q = omega (arith, q)

-- Numbers that stand once are no more than those among which they are.
pub few-among : (vs us : List ℕ) → IsOnce vs → All (λ v. list_any (is v) us ≡ true) vs → length vs ≤ length us
few-among [] us once among = omega arith
few-among (v ∷ vs) us once among =
    let here : list_any (is v) us ≡ true = All-head (λ (x : ℕ). list_any (is x) us ≡ true) v vs among in
    let rest = All-tail (λ (x : ℕ). list_any (is x) us ≡ true) v vs among in
    let tail : IsOnce vs = λ w. omega (arith, once w, sum_by-cons (λ (y : ℕ). cond (eqb y w) 1 0) v vs) in
    let gone : count_by (is v) vs ≡ 0 = omega (arith, once v, sum_by-cons (λ (y : ℕ). cond (eqb y v) 1 0) v vs, ap one_if (eq-eqb v v refl)) in
    let others = All-of-none v vs (counts-none v vs gone) us rest in
    omega (arith, few-among vs (without v us) tail others, without-length v us, any-counts v us here)
  where
    All-of-none : (u : ℕ) (ws : List ℕ) → list_any (is u) ws ≡ false → (xs : List ℕ) → All (λ w. list_any (is w) xs ≡ true) ws → All (λ w. list_any (is w) (without u xs) ≡ true) ws
    All-of-none u [] e xs h = λ k d lt. absurd (omega arith)
    All-of-none u (w ∷ ws) e xs h =
        let both = or_cases (eqb w u) (list_any (is u) ws) e in
        All-cons (λ (x : ℕ). list_any (is x) (without u xs) ≡ true) w ws
        (without-any u w xs (λ q. false≢true (sym both.0 ∙ eq-eqb w u q)) (All-head (λ (x : ℕ). list_any (is x) xs ≡ true) w ws h))
        (All-of-none u ws both.1 xs (All-tail (λ (x : ℕ). list_any (is x) xs ≡ true) w ws h))

-- ---- values that come and go
raiser-other : (a : List (Option Bool)) (rows : List (List Place)) (v w : ℕ) (o : Option Bool) → w ≢ v → is_raiser (set a v o) rows w ≡ is_raiser a rows w
raiser-other a rows v w o ne = ap (is_raising_by (row_at rows w)) (get_or-set_other a v w o None ne)

raiser-same : (a : List (Option Bool)) (rows : List (List Place)) (v : ℕ) (o : Option Bool) → v < length a → is_raiser (set a v o) rows v ≡ is_raising_by (row_at rows v) o
raiser-same a rows v o lt = ap (is_raising_by (row_at rows v)) (get_or-set_same a v o None lt)

-- none of them is a variable that doesn't raise the cost
others : (a : List (Option Bool)) (rows : List (List Place)) (v : ℕ) (vs : List ℕ) → is_raiser a rows v ≡ false → All (λ x. is_raiser a rows x ≡ true) vs → All (λ x. x ≢ v) vs
others a rows v vs low raising =
    All-weaker (λ x. is_raiser a rows x ≡ true) (λ x. x ≢ v) (λ x h e. false≢true (sym low ∙ (ap (is_raiser a rows) (sym e) ∙ h))) vs raising

ne-none : (v : ℕ) (vs : List ℕ) → All (λ x. x ≢ v) vs → list_any (is v) vs ≡ false
ne-none v [] h = refl
ne-none v (x ∷ vs) h =
    ap (λ (b : Bool). b || list_any (is v) vs) (ne_eqb x v (All-head (λ (y : ℕ). y ≢ v) x vs h)) ∙ ne-none v vs (All-tail (λ (y : ℕ). y ≢ v) x vs h)

pub none-by : (v : ℕ) (vs : List ℕ) → ((k : ℕ) → k < length vs → get_or vs k 0 ≡ v → ⊥) → list_any (is v) vs ≡ false
none-by v [] h = refl
none-by v (x ∷ vs) h = ap (λ (b : Bool). b || list_any (is v) vs) (ne_eqb x v (h zero (omega arith))) ∙ none-by v vs (λ k lt. h (suc k) (omega arith))

-- All of them but one stay, where only its value changes.
stay : (a : List (Option Bool)) (rows : List (List Place)) (v : ℕ) (o : Option Bool) (vs : List ℕ) → All (λ x. x ≢ v) vs →
    All (λ x. is_raiser a rows x ≡ true) vs → All (λ x. is_raiser (set a v o) rows x ≡ true) vs
stay a rows v o [] ne h = λ k d lt. absurd (omega arith)
stay a rows v o (x ∷ vs) ne h =
    All-cons (λ y. is_raiser (set a v o) rows y ≡ true) x vs
    (raiser-other a rows v x o (All-head (λ (y : ℕ). y ≢ v) x vs ne) ∙ All-head (λ y. is_raiser a rows y ≡ true) x vs h)
    (stay a rows v o vs (All-tail (λ (y : ℕ). y ≢ v) x vs ne) (All-tail (λ y. is_raiser a rows y ≡ true) x vs h))

within-set : (a : List (Option Bool)) (v : ℕ) (o : Option Bool) (vs : List ℕ) → All (λ x. (0 < x) × (x < length a)) vs → All (λ x. (0 < x) × (x < length (set a v o))) vs
within-set a v o vs h = All-weaker (λ x. (0 < x) × (x < length a)) (λ x. (0 < x) × (x < length (set a v o))) (λ x g. (g.0, omega (arith, length-set a v o, g.1))) vs h

pub raisers-told : (a : List (Option Bool)) (rows : List (List Place)) (vs : List ℕ) (l : Literal) → AreRaisers a rows vs → 0 < l.var → l.var < length a → value_of a l.var ≡ None →
    AreRaisers (set a l.var (Some l.truth)) rows (joined (row_at rows l.var) l vs)
raisers-told a rows vs l are i lt none = cases (is_raising (row_at rows l.var) l.truth) refl
  where
    low : is_raiser a rows l.var ≡ false
    low = ap (is_raising_by (row_at rows l.var)) none

    ne : All (λ x. x ≢ l.var) vs
    ne = others a rows l.var vs low are.raising

    same : is_raiser (set a l.var (Some l.truth)) rows l.var ≡ is_raising (row_at rows l.var) l.truth
    same = raiser-same a rows l.var (Some l.truth) lt

    cases : (t : Bool) → is_raising (row_at rows l.var) l.truth ≡ t → AreRaisers (set a l.var (Some l.truth)) rows (cond t (vs ++ l.var ∷ []) vs)
    cases true q = record {
      within = All-push (λ x. (0 < x) × (x < length (set a l.var (Some l.truth)))) vs l.var (within-set a l.var (Some l.truth) vs are.within) (i, omega (arith, length-set a l.var (Some l.truth), lt));
      raising = All-push (λ x. is_raiser (set a l.var (Some l.truth)) rows x ≡ true) vs l.var (stay a rows l.var (Some l.truth) vs ne are.raising) (same ∙ q);
      once = λ w. elim (cases_eq l.var w) [
        | inl e ↦ (
            let gone : count_by (is w) vs ≡ 0 = none-counts w vs (ne-none w vs (subst (λ (u : ℕ). All (λ x. x ≢ u) vs) e ne)) in
            omega (arith, gone, sum_by_push (λ (x : ℕ). cond (eqb x w) 1 0) vs l.var, ap one_if (eq-eqb l.var w e)))
        | inr un ↦ omega (arith, are.once w, sum_by_push (λ (x : ℕ). cond (eqb x w) 1 0) vs l.var, ap one_if (ne_eqb l.var w un))
      ];
      whole = λ w h. list_any-append (is w) vs (l.var ∷ []) ∙ elim (cases_eq l.var w) [
        | inl e ↦ or_right (list_any (is w) vs) (list_any (is w) (l.var ∷ [])) (or_left (eqb l.var w) false (eq-eqb l.var w e))
        | inr un ↦ or_left (list_any (is w) vs) (list_any (is w) (l.var ∷ [])) (are.whole w (sym (raiser-other a rows l.var w (Some l.truth) (λ e. un (sym e))) ∙ h))
      ];
    }
    cases false q = record {
      within = within-set a l.var (Some l.truth) vs are.within;
      raising = stay a rows l.var (Some l.truth) vs ne are.raising;
      once = are.once;
      whole = λ w h. elim (cases_eq l.var w) [
        | inl e ↦ absurd (false≢true (sym (same ∙ q) ∙ (ap (is_raiser (set a l.var (Some l.truth)) rows) e ∙ h)))
        | inr un ↦ are.whole w (sym (raiser-other a rows l.var w (Some l.truth) (λ e. un (sym e))) ∙ h)
      ];
    }

-- Those that are another stand there still.
pub raisers-untold : (a : List (Option Bool)) (rows : List (List Place)) (vs : List ℕ) (l : Literal) → AreRaisers a rows vs → l.var < length a → value_of a l.var ≡ Some l.truth →
    AreRaisers (set a l.var None) rows (left (row_at rows l.var) l vs)
raisers-untold a rows vs l are lt some = cases (is_raising (row_at rows l.var) l.truth) refl
  where
    was : is_raiser a rows l.var ≡ is_raising (row_at rows l.var) l.truth
    was = ap (is_raising_by (row_at rows l.var)) some

    same : is_raiser (set a l.var None) rows l.var ≡ false
    same = raiser-same a rows l.var None lt

    kept : (us : List ℕ) → All (λ x. (0 < x) × (x < length a)) us → All (λ x. x ≢ l.var) us → All (λ x. is_raiser a rows x ≡ true) us → IsOnce us →
        ((w : ℕ) → w ≢ l.var → list_any (is w) vs ≡ true → list_any (is w) us ≡ true) → AreRaisers (set a l.var None) rows us
    kept us within ne raising once more = record {
      within = within-set a l.var None us within;
      raising = stay a rows l.var None us ne raising;
      once = once;
      whole = λ w h. elim (cases_eq w l.var) [
        | inl e ↦ absurd (false≢true (sym same ∙ (ap (is_raiser (set a l.var None) rows) (sym e) ∙ h)))
        | inr un ↦ more w un (are.whole w (sym (raiser-other a rows l.var w None un) ∙ h))
      ];
    }

    cases : (t : Bool) → is_raising (row_at rows l.var) l.truth ≡ t → AreRaisers (set a l.var None) rows (cond t (without l.var vs) vs)
    cases true q =
        kept (without l.var vs) (All-filter (isnt l.var) (λ x. (0 < x) × (x < length a)) vs are.within)
        (All-weaker (λ x. isnt l.var x ≡ true) (λ x. x ≢ l.var) (λ x h. isnt-ne l.var x h) (without l.var vs) (filter_passes (isnt l.var) vs))
        (All-filter (isnt l.var) (λ x. is_raiser a rows x ≡ true) vs are.raising) (without-once l.var vs are.once) (λ w un h. without-any l.var w vs un h)
    cases false q = kept vs are.within (others a rows l.var vs (was ∙ q) are.raising) are.raising are.once (λ w un h. h)

-- ---- room
raising-some : (row : List Place) (o : Option Bool) → is_raising_by row o ≡ true → row ≢ []
raising-some row None h e = false≢true h
raising-some row (Some b) h e = false≢true (sym (ap (λ (r : List Place). is_raising r b) e) ∙ h)

pub raisers-few : (p : Program) (a : List (Option Bool)) (rows : List (List Place)) (vars vs : List ℕ) → length a ≡ var_count p + 1 →
    AreVars p rows vars → AreRaisers a rows vs → length vs ≤ length vars
raisers-few p a rows vars vs sized listed are = few-among vs vars are.once (λ k d lt.
    let v : ℕ = get_or vs k d in
    let within = are.within k d lt in
    listed.whole v within.0 (omega (arith, sized, within.1)) (raising-some (row_at rows v) (value_of a v) (are.raising k d lt)))

-- there is room for one more that gets a value and raises the cost
pub raisers-room : (p : Program) (a : List (Option Bool)) (rows : List (List Place)) (vars vs : List ℕ) (l : Literal) → length a ≡ var_count p + 1 →
    AreVars p rows vars → AreRaisers a rows vs → 0 < l.var → l.var < length a → value_of a l.var ≡ None →
    is_raising (row_at rows l.var) l.truth ≡ true → length vs < length vars
raisers-room p a rows vars vs l sized listed are i lt none up =
    let more = raisers-told a rows vs l are i lt none in
    let joined_is : joined (row_at rows l.var) l vs ≡ vs ++ l.var ∷ [] = ap (λ (t : Bool). cond t (vs ++ l.var ∷ []) vs) up in
    let few = raisers-few p (set a l.var (Some l.truth)) rows vars (joined (row_at rows l.var) l vs) (length-set a l.var (Some l.truth) ∙ sized) listed more in
    omega (arith, few, ap length joined_is, length_push vs l.var)

-- ---- at the start
none-at : (n w : ℕ) → value_of (replicate n None) w ≡ None
none-at zero w = refl
none-at (suc n) zero = refl
none-at (suc n) (suc w) = none-at n w

pub raisers-new : (n : ℕ) (rows : List (List Place)) → AreRaisers (replicate n None) rows []
raisers-new n rows = record {
  within = λ k d lt. absurd (omega arith);
  raising = λ k d lt. absurd (omega arith);
  once = λ w. omega arith;
  whole = λ w h. absurd (false≢true (sym (ap (is_raising_by (row_at rows w)) (none-at n w)) ∙ h));
}

-- ---- the same, by what the calls say
abbrev line : List ℕ → ℕ → Line
line vs n = record { vars = vs; room = n }

-- one is taken out
pub removed_as : (vs new ss : List ℕ) (v i cap kept : ℕ) (l : Line) → line vs cap ≡ l → IsOnce l.vars → ss ≡ vs → (i < length ss) ×
    (get_or ss i 0 ≡ v) → new ≡ take i vs ++ drop (suc i) vs → kept ≡ cap → line new kept ≡ line (without v l.vars) l.room
removed_as vs new ss v i cap kept l e once es at en ec =
    subst (λ (k : Line). IsOnce k.vars → line new kept ≡ line (without v k.vars) k.room) e
    (λ o.
    let out : without v vs ≡ take i vs ++ drop (suc i) vs = without-at v vs i (o v) (subst (λ (ws : List ℕ). i < length ws) es at.0) (subst (λ (ws : List ℕ). get_or ws i 0 ≡ v) es at.1) in
    ap (λ (ws : List ℕ). line ws kept) (en ∙ sym out) ∙ ap (line (without v vs)) ec)
    once

pub absent_as : (vs ss : List ℕ) (v cap : ℕ) (l : Line) → line vs cap ≡ l → ss ≡ vs → list_any (is v) ss ≡ false → l ≡ line (without v l.vars) l.room
absent_as vs ss v cap l e es none =
    subst (λ (k : Line). k ≡ line (without v k.vars) k.room) e (ap (λ (ws : List ℕ). line ws cap) (sym (without-none v vs (subst (λ (ws : List ℕ). list_any (is v) ws ≡ false) es none))))

-- what is kept of them
abbrev pub Keeps : List (Option Bool) → List (List Place) → List ℕ → Line → Type 0
Keeps a rows vars k = AreRaisers a rows k.vars × (length vars ≤ k.room)

pub told_as : (a z : List (Option Bool)) (rows : List (List Place)) (vars : List ℕ) (old new : Line) (row : List Place) (u : ℕ) (l : Literal) →
    AreRaisers a rows old.vars → length vars ≤ old.room → 0 < l.var → l.var < length a → value_of a l.var ≡ None →
    z ≡ set a l.var (Some l.truth) → row ≡ row_at rows u → u ≡ l.var → new ≡ record old { vars = joined row l old.vars } → Keeps z rows vars new
told_as a z rows vars old new row u l are room i lt none ez er eu en =
    let is_row : row ≡ row_at rows l.var = er ∙ ap (row_at rows) eu in
    let made : new ≡ record old { vars = joined (row_at rows l.var) l old.vars } = en ∙ ap (λ (r : List Place). line (joined r l old.vars) old.room) is_row in
    let told : Keeps (set a l.var (Some l.truth)) rows vars (record old { vars = joined (row_at rows l.var) l old.vars }) = (raisers-told a rows old.vars l are i lt none, room) in
    subst (λ (y : List (Option Bool)). Keeps y rows vars new) (sym ez) (subst (λ (k : Line). Keeps (set a l.var (Some l.truth)) rows vars k) (sym made) told)

pub untold_as : (a z : List (Option Bool)) (rows : List (List Place)) (vars : List ℕ) (old new : Line) (row : List Place) (u : ℕ) (l : Literal) →
    AreRaisers a rows old.vars → length vars ≤ old.room → l.var < length a → value_of a l.var ≡ Some l.truth →
    z ≡ set a l.var None → row ≡ row_at rows u → u ≡ l.var → new ≡ record old { vars = left row l old.vars } → Keeps z rows vars new
untold_as a z rows vars old new row u l are room lt some ez er eu en =
    let is_row : row ≡ row_at rows l.var = er ∙ ap (row_at rows) eu in
    let made : new ≡ record old { vars = left (row_at rows l.var) l old.vars } = en ∙ ap (λ (r : List Place). line (left r l old.vars) old.room) is_row in
    let told : Keeps (set a l.var None) rows vars (record old { vars = left (row_at rows l.var) l old.vars }) = (raisers-untold a rows old.vars l are lt some, room) in
    subst (λ (y : List (Option Bool)). Keeps y rows vars new) (sym ez) (subst (λ (k : Line). Keeps (set a l.var None) rows vars k) (sym made) told)

-- where the variable has no place
pub bare_told_as : (a z : List (Option Bool)) (rows : List (List Place)) (vars : List ℕ) (old : Line) (l : Literal) → AreRaisers a rows old.vars →
    length vars ≤ old.room → 0 < l.var → l.var < length a → value_of a l.var ≡ None → row_at rows l.var ≡ [] →
    z ≡ set a l.var (Some l.truth) → Keeps z rows vars old
bare_told_as a z rows vars old l are room i lt none bare ez = told_as a z rows vars old old [] l.var l are room i lt none ez (sym bare) refl refl

pub bare_untold_as : (a z : List (Option Bool)) (rows : List (List Place)) (vars : List ℕ) (old : Line) (l : Literal) → AreRaisers a rows old.vars →
    length vars ≤ old.room → l.var < length a → value_of a l.var ≡ Some l.truth → row_at rows l.var ≡ [] →
    z ≡ set a l.var None → Keeps z rows vars old
bare_untold_as a z rows vars old l are room lt some bare ez = untold_as a z rows vars old old [] l.var l are room lt some ez (sym bare) refl refl

pub room_as : (p : Program) (a : List (Option Bool)) (rows : List (List Place)) (vars : List ℕ) (old : Line) (row : List Place) (u : ℕ) (l : Literal)
    → length a ≡ var_count p + 1 → AreVars p rows vars → AreRaisers a rows old.vars → length vars ≤ old.room → 0 < l.var → l.var < length a →
    value_of a l.var ≡ None →
    row ≡ row_at rows u → u ≡ l.var → is_raising row l.truth ≡ true → length old.vars < old.room
room_as p a rows vars old row u l sized listed are room i lt none er eu up =
    omega (arith, room, raisers-room p a rows vars old.vars l sized listed are i lt none (ap (λ (r : List Place). is_raising r l.truth) (sym (er ∙ ap (row_at rows) eu)) ∙ up))

pub begun_as : (a : List (Option Bool)) (n : ℕ) (rows : List (List Place)) (vars : List ℕ) (new : Line) (room : ℕ) → a ≡ replicate n None →
    new ≡ line [] room → room ≡ length vars → Keeps a rows vars new
begun_as a n rows vars new room ea en er =
    let begun : Keeps (replicate n None) rows vars (line [] room) = (raisers-new n rows, omega (arith, er)) in
    subst (λ (y : List (Option Bool)). Keeps y rows vars new) (sym ea) (subst (λ (k : Line). Keeps (replicate n None) rows vars k) (sym en) begun)
