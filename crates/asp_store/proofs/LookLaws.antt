-- Looking at one nogood.
use Rattle.std.proofs.Common.{◌≡◌, ◌≢◌, ℕ, suc, zero, ◌+◌, ◌<◌, ◌≤◌, Bool, true, false, not, eqb, ◌||◌, ◌&&◌, List, [], ◌∷◌, ◌++◌, length, take, drop, Option, Some, None, get_or, inl, inr, ◌⊎◌, refl, sym, ap, ◌∙◌, subst, arith}
use Rattle.std.specs.Prelude.{◌-◌}
use Rattle.std.specs.List.{All, list_all, slice_get}
use Rattle.std.specs.Option.{IfSome, IfNone}
use Rattle.std.specs.Bool.{beq}
use Rattle.std.proofs.lemmas.Bool.{false≢true, eq-eqb, eqb-true}
use Rattle.std.proofs.lemmas.Bool.Decides.{nat_tests}
use Rattle.std.proofs.lemmas.List.{take-append-drop, take_all, length-drop}
use Rattle.std.proofs.lemmas.List.Elements.{All-append}
use Rattle.std.proofs.lemmas.Option.{none-some}
use Rattle.std.proofs.lemmas.List.Folds.{list_any-append, list_any_at}
use Rattle.asp_vars.specs.Literals.{Literal, complement, has_literal, literal_eq, holds_in, agrees, value_of}
use Rattle.asp_vars.proofs.LiteralLaws.{same_literal}
use Rattle.asp_trail.specs.declared.trail.Entry.{Entry}
use Rattle.asp_trail.specs.Entries.{assignment, level_in, level_or_zero}
use Rattle.asp_trail.specs.Trails.{IsOrdered}
use Rattle.asp_trail.proofs.EntryLaws.{find_only}
use Rattle.asp_trail.proofs.HoldLaws.{holds_at, holds_found, value_at}
use Rattle.asp_trail.specs.Reasons.{Stands, IsReason}
use Rattle.asp_store.specs.Fitting.{IsFalseBy, Watches, IsWatched}
use Rattle.asp_store.specs.Looking.{AreTrueBeside, HaveSame}
use Rattle.asp_store.specs.declared.looks.Spot.{Spot}
use Rattle.asp_trail.proofs.FixpointLaws.{false_from}
use Rattle.asp_store.proofs.GetLaws.{get_take_some}
use Rattle.asp_store.proofs.WatchLaws.{stands_grow}

pub complement_twice : (l : Literal) → complement (complement l) ≡ l
complement_twice l = cases l.truth refl
  where
    cases : (b : Bool) → b ≡ l.truth → complement (complement l) ≡ l
    cases true q = λ i. record { var = l.var; truth = (ap (λ t. not (not t)) (sym q) ∙ q) i }
    cases false q = λ i. record { var = l.var; truth = (ap (λ t. not (not t)) (sym q) ∙ q) i }

-- the entry of a variable is the only one that has it
pub level_at : (vars : ℕ) (es : List Entry) (i : ℕ) (d : Entry) → IsOrdered vars es → i < length es → level_in es (get_or es i d).lit.var ≡ (get_or es i d).level
level_at vars es i d o h =
    ap level_or_zero (find_only (λ e. eqb e.lit.var (get_or es i d).lit.var) es i d h (eq-eqb (get_or es i d).lit.var (get_or es i d).lit.var refl)
    (λ j l. false_from (eqb (get_or es j d).lit.var (get_or es i d).lit.var) (λ q. o.apart j i d l h (eqb-true (get_or es j d).lit.var (get_or es i d).lit.var q))))

pub stands_level : (vars : ℕ) (es : List Entry) (l : Literal) (i b : ℕ) → IsOrdered vars es → Stands es l i b → level_in es l.var ≡ b
stands_level vars es l i b o s =
    let d : Entry = record { lit = l; level = 0; reason = None } in
    ap (λ (k : Literal). level_in es k.var) (sym (s.lit d)) ∙ (level_at vars es i d o s.within ∙ s.level d)

same_default : (xs : List Entry) (i : ℕ) (d e : Entry) → i < length xs → get_or xs i d ≡ get_or xs i e
same_default [] i d e h = absurd (omega arith)
same_default (x ∷ xs) zero d e h = refl
same_default (x ∷ xs) (suc i) d e h = same_default xs i d e (omega arith)

pub stands_found : (vars : ℕ) (es : List Entry) (l : Literal) → IsOrdered vars es → holds_in (assignment vars es) l ≡ true → (i : ℕ) × Stands es l i (level_in es l.var)
stands_found vars es l o h =
    let f = holds_found vars es l o h in (
      f.0,
      record {
        within = f.1;
        lit = f.2;
        level = λ d. sym (ap (λ (k : Literal). level_in es k.var) (sym (f.2 d)) ∙ level_at vars es f.0 d o f.1);
      },
    )

-- a literal whose complement holds is false at its variable's level
pub false_level : (vars : ℕ) (es : List Entry) (l : Literal) → IsOrdered vars es → holds_in (assignment vars es) (complement l) ≡ true → IsFalseBy es l (level_in es l.var)
false_level vars es l o h =
    let f = stands_found vars es (complement l) o h in
    (f.0, level_in es l.var, omega arith, f.1)

-- one that is false at some level is so at its variable's
pub false_there : (vars : ℕ) (es : List Entry) (l : Literal) (b : ℕ) → IsOrdered vars es → IsFalseBy es l b → IsFalseBy es l (level_in es l.var)
false_there vars es l b o f = (f.0, f.1, omega (arith, stands_level vars es (complement l) f.0 f.1 o f.3), f.3)

-- where no entry is of a greater level
pub false_top : (vars : ℕ) (es : List Entry) (l : Literal) (b : ℕ) → IsOrdered vars es → All (λ e. e.level ≤ b) es → holds_in (assignment vars es) (complement l) ≡ true → IsFalseBy es l b
false_top vars es l b o top h =
    let f = false_level vars es l o h in
    let d : Entry = record { lit = l; level = 0; reason = None } in
    (f.0, f.1, omega (arith, top f.0 d f.3.within, f.3.level d), f.3)

pub false_value : (vars : ℕ) (es : List Entry) (v : Literal) (b : ℕ) → IsOrdered vars es → IsFalseBy es v b → value_of (assignment vars es) v.var ≡ Some (not v.truth)
false_value vars es v b o f =
    let d : Entry = record { lit = v; level = 0; reason = None } in
    subst (λ (l : Literal). value_of (assignment vars es) l.var ≡ Some l.truth) (f.3.lit d) (value_at vars es f.0 d o f.3.within)

beq_other : (t : Bool) → beq (not t) t ≡ false
beq_other true = refl
beq_other false = refl

pub false_not_true : (vars : ℕ) (es : List Entry) (v : Literal) (b : ℕ) → IsOrdered vars es → IsFalseBy es v b → holds_in (assignment vars es) v ≡ false
false_not_true vars es v b o f = ap (λ x. agrees x v) (false_value vars es v b o f) ∙ beq_other v.truth

pub reason_new : (vars : ℕ) (es : List Entry) (n : List Literal) (other : Literal) (e : Entry) → IsOrdered vars es → has_literal n other ≡ true →
    AreTrueBeside vars es n other → IsReason (es ++ e ∷ []) (length es) (complement other) n
reason_new vars es n other e o h t = record {
  has = subst (λ (l : Literal). has_literal n l ≡ true) (sym (complement_twice other)) h;
  others = λ k m ne.
      let f = stands_found vars es k o (t k m (false_from (literal_eq k other) (λ q. ne (same_literal k other q ∙ sym (complement_twice other))))) in
      (f.0, level_in es k.var, f.1.within, stands_grow es (e ∷ []) k f.0 (level_in es k.var) f.1);
}

-- a literal whose level isn't below that of one that is false watches wherever it stands
pub watches_above : (vars : ℕ) (es : List Entry) (seen : ℕ) (n : List Literal) (w v : Literal) (b : ℕ) → IsOrdered vars es → has_literal n v ≡ true → IsFalseBy es v b →
    b ≤ level_in es w.var → Watches es seen n w
watches_above vars es seen n w v b o has f h i c l s = (v, has, (f.0, f.1, omega (arith, f.2, h, stands_level vars es w i c o s), f.3))

-- and so does one that isn't true
pub watches_open : (vars : ℕ) (es : List Entry) (seen : ℕ) (n : List Literal) (w : Literal) → IsOrdered vars es → holds_in (assignment vars es) w ≡ false → Watches es seen n w
watches_open vars es seen n w o h i c l s =
    let d : Entry = record { lit = w; level = 0; reason = None } in
    absurd (false≢true (sym h ∙ holds_at vars es i d w o s.within (s.lit d)))

-- one that is false
pub watches_false : (vars : ℕ) (es : List Entry) (seen : ℕ) (n : List Literal) (w : Literal) (b : ℕ) → IsOrdered vars es → has_literal n w ≡ true → IsFalseBy es w b →
    Watches es seen n w
watches_false vars es seen n w b o has f = watches_open vars es seen n w o (false_not_true vars es w b o f)

-- what holds of each literal of a list holds of one that the list has
pub all_has : (P : Literal → Type 0) (n : List Literal) (l : Literal) → All P n → has_literal n l ≡ true → P l
all_has P [] l a h = absurd (false≢true h)
all_has P (k ∷ n) l a h = cases (literal_eq k l) refl (all_has P n l (λ i d g. a (suc i) d (omega arith)))
  where
    cases : (b : Bool) → b ≡ literal_eq k l → (has_literal n l ≡ true → P l) → P l
    cases true q rest = subst P (same_literal k l (sym q)) (a 0 k (omega arith))
    cases false q rest = rest (ap (λ b. b || has_literal n l) q ∙ h)

pub eq_itself : (l : Literal) → literal_eq l l ≡ true
eq_itself l = both l.var l.truth
  where
    both : (v : ℕ) (b : Bool) → (eqb v v && beq b b) ≡ true
    both v true = grind (arith, nat_tests)
    both v false = grind (arith, nat_tests)

pub or_left : (a b : Bool) → a ≡ true → (a || b) ≡ true
or_left true b q = refl
or_left false b q = absurd (false≢true q)

pub or_right : (a b : Bool) → b ≡ true → (a || b) ≡ true
or_right true b q = refl
or_right false b q = q

-- what holds of each literal of a list holds of each of another one with the same literals
pub all_same : (P : Literal → Type 0) (n m : List Literal) → HaveSame n m → All P n → All P m
all_same P n m same a i d h =
    let l : Literal = get_or m i d in
    all_has P n l a (same l ∙ list_any_at (λ (k : Literal). literal_eq k l) m i d h (eq_itself l))

-- a literal of either part of a list is one of the list, and what holds of both parts holds of it
pub has_before : (i : ℕ) (n : List Literal) (l : Literal) → has_literal (take i n) l ≡ true → has_literal n l ≡ true
has_before i n l h =
    ap (λ (xs : List Literal). has_literal xs l) (sym (take-append-drop i n))
    ∙ (list_any-append (λ (k : Literal). literal_eq k l) (take i n) (drop i n) ∙ ap (λ b. b || has_literal (drop i n) l) h)

pub has_behind : (i : ℕ) (n : List Literal) (l : Literal) → has_literal (drop i n) l ≡ true → has_literal n l ≡ true
has_behind i n l h =
    ap (λ (xs : List Literal). has_literal xs l) (sym (take-append-drop i n))
    ∙ (list_any-append (λ (k : Literal). literal_eq k l) (take i n) (drop i n) ∙ or_right (has_literal (take i n) l) (has_literal (drop i n) l) h)

pub all_parted : (P : Literal → Type 0) (i : ℕ) (n : List Literal) → All P (take i n) → All P (drop i n) → All P n
all_parted P i n before behind = subst (All P) (take-append-drop i n) (All-append P (take i n) (drop i n) before behind)

-- what a look at the first literals gives, where one at the others gave nothing
pub some_before : (values : List (Option Bool)) (other : Literal) (i : ℕ) (n : List Literal) (r : Option Spot) →
    IfSome r (λ s. (has_literal (take i n) s.lit ≡ true) × (literal_eq s.lit other ≡ false) × (holds_in values s.lit ≡ false)) →
    IfSome r (λ s. (has_literal n s.lit ≡ true) × (literal_eq s.lit other ≡ false) × (holds_in values s.lit ≡ false))
some_before values other i n None h = tt
some_before values other i n (Some s) h = (has_before i n s.lit h.0, h.1, h.2)

pub place_before : (i : ℕ) (n : List Literal) (r : Option Spot) → IfSome r (λ s. slice_get (take i n) s.place ≡ Some s.lit) → IfSome r (λ s. slice_get n s.place ≡ Some s.lit)
place_before i n None h = tt
place_before i n (Some s) h = get_take_some i n s.place s.lit h

get_drop_some : (i : ℕ) (n : List Literal) (p : ℕ) (l : Literal) → slice_get (drop i n) p ≡ Some l → slice_get n (i + p) ≡ Some l
get_drop_some zero n p l g = ap (slice_get n) (let e : 0 + p ≡ p = omega arith in e) ∙ g
get_drop_some (suc i) [] p l g = absurd (none-some l g)
get_drop_some (suc i) (k ∷ n) p l g = ap (slice_get (k ∷ n)) (let e : suc i + p ≡ suc (i + p) = omega arith in e) ∙ get_drop_some i n p l g

-- a place of the others is one of the list
pub part_at : (m i : ℕ) (n : List Literal) (p : ℕ) (l : Literal) → slice_get (take m (drop i n)) p ≡ Some l → slice_get n (i + p) ≡ Some l
part_at m i n p l g = get_drop_some i n p l (get_take_some m (drop i n) p l g)

pub none_parted : (P : Literal → Type 0) (i : ℕ) (n : List Literal) (r : Option Spot) → All P (take (length n - i) (drop i n)) → IfNone r (All P (take i n)) → IfNone r (All P n)
none_parted P i n None behind before =
    all_parted P i n before (subst (All P) (take_all (length n - i) (drop i n) (omega (arith, length-drop i n))) behind)
none_parted P i n (Some s) behind before = tt

pub list_all_from : (p : Literal → Bool) (n : List Literal) → ((k : Literal) → has_literal n k ≡ true → p k ≡ true) → list_all p n ≡ true
list_all_from p [] f = refl
list_all_from p (k ∷ n) f =
    ap (λ b. b && list_all p n) (f k (ap (λ b. b || has_literal n k) (eq_itself k)))
    ∙ list_all_from p n (λ l h. f l (or_right (literal_eq k l) (has_literal n l) h))

pub violated_when : (vars : ℕ) (es : List Entry) (n : List Literal) (other : Literal) → AreTrueBeside vars es n other →
    (has_literal n other ≡ true → holds_in (assignment vars es) other ≡ true) → list_all (holds_in (assignment vars es)) n ≡ true
violated_when vars es n other t h = list_all_from (holds_in (assignment vars es)) n (λ k g. cases k g (literal_eq k other) refl)
  where
    cases : (k : Literal) → has_literal n k ≡ true → (b : Bool) → b ≡ literal_eq k other → holds_in (assignment vars es) k ≡ true
    cases k g true q =
        let e : k ≡ other = same_literal k other (sym q) in
        subst (λ (l : Literal). holds_in (assignment vars es) l ≡ true) (sym e) (h (subst (λ (l : Literal). has_literal n l ≡ true) e g))
    cases k g false q = t k g (sym q)

-- ---- two literals that watch a nogood
pub differ_from : (k l : Literal) → literal_eq k l ≡ false → l ≢ k
differ_from k l h e = false≢true (sym h ∙ (ap (λ (x : Literal). literal_eq x l) (sym e) ∙ eq_itself l))

watched_by : (n : List Literal) (es : List Entry) (seen : ℕ) (first second : Literal) → has_literal n first ≡ true → has_literal n second ≡ true → literal_eq second first ≡ false →
    Watches es seen n first → Watches es seen n second → IsWatched n (record { first = first; second = second }) es seen
watched_by n es seen first second a b d x y = record {
  has = λ l o. elim o [
    | inl e ↦ subst (λ (k : Literal). has_literal n k ≡ true) e a
    | inr e ↦ subst (λ (k : Literal). has_literal n k ≡ true) e b
  ];
  differ = differ_from second first d;
  watches = λ l o. elim o [
    | inl e ↦ subst (λ (k : Literal). Watches es seen n k) e x
    | inr e ↦ subst (λ (k : Literal). Watches es seen n k) e y
  ];
}

-- neither is true
pub watched_open : (vars : ℕ) (es : List Entry) (seen : ℕ) (n : List Literal) (first second : Literal) → IsOrdered vars es → has_literal n first ≡ true → has_literal n second ≡ true →
    literal_eq second first ≡ false → holds_in (assignment vars es) first ≡ false → holds_in (assignment vars es) second ≡ false →
    IsWatched n (record { first = first; second = second }) es seen
watched_open vars es seen n first second o a b d p q =
    watched_by n es seen first second a b d (watches_open vars es seen n first o p) (watches_open vars es seen n second o q)

-- the first is false, and the second's level isn't below its level
pub watched_above : (vars : ℕ) (es : List Entry) (seen : ℕ) (n : List Literal) (first second : Literal) (b : ℕ) → IsOrdered vars es → has_literal n first ≡ true →
    IsFalseBy es first b → has_literal n second ≡ true → literal_eq second first ≡ false → b ≤ level_in es second.var →
    IsWatched n (record { first = first; second = second }) es seen
watched_above vars es seen n first second b o a f h d le =
    watched_by n es seen first second a h d (watches_false vars es seen n first b o a f) (watches_above vars es seen n second first b o a f le)

-- a literal of two
pub one_of_two : (a b l : Literal) → has_literal (a ∷ b ∷ []) l ≡ true → (a ≡ l) ⊎ (b ≡ l)
one_of_two a b l q = cases (literal_eq a l) refl (literal_eq b l) refl q
  where
    cases : (u : Bool) → u ≡ literal_eq a l → (v : Bool) → v ≡ literal_eq b l → (u || (v || false)) ≡ true → (a ≡ l) ⊎ (b ≡ l)
    cases true e v g r = inl (same_literal a l (sym e))
    cases false e true g r = inr (same_literal b l (sym g))
    cases false e false g r = absurd (false≢true r)
