-- Reasons that are written when they are asked for.
use Rattle.std.proofs.Common.{◌≡◌, ◌≢◌, ℕ, ◌+◌, ◌-◌, ◌^◌, ◌<◌, ◌≤◌, Bool, true, false, ltb, List, [], ◌∷◌, ◌++◌, length, take, get_or, Option, Some, None, inl, inr, ◌⊎◌, refl, sym, ap, ◌∙◌, subst, arith}
use Rattle.std.specs.Prelude.{Result, Ok, Err}
use Rattle.std.specs.Result.{IfOk}
use Rattle.std.specs.Option.{is_some}
use Rattle.std.specs.List.{All, AllPairs}
use Rattle.std.proofs.lemmas.Bool.Decides.{nat_tests}
use Rattle.std.proofs.lemmas.List.{length-append, length-take, get_or_append_left, get_or-append_right, get_or_push, get_or-take, take-append-le, take-take, take_all}
use Rattle.std.proofs.lemmas.Option.{same_Some}
use Rattle.asp_vars.specs.Literals.{Literal, value_of, holds_in}
use Rattle.asp_vars.specs.declared.nogood.Nogood.{Nogood}
use Rattle.asp_trail.specs.declared.trail.Entry.{Entry}
use Rattle.asp_trail.specs.Entries.{assignment, cut}
use Rattle.asp_trail.specs.Trails.{IsOrdered}
use Rattle.asp_trail.proofs.EntryLaws.{same_default, entry_assigned}
use Rattle.asp_trail.proofs.HeldLaws.{ordered_take, reason_later}
use Rattle.asp_trail.specs.Reasons.{IsReason, AreAsked, AreReasons, AreImpliedBy}
use Rattle.asp_store.specs.declared.stored_nogood.StoredNogood.{StoredNogood}
use Rattle.asp_store.specs.Fitting.{HaveReasons}
use Rattle.asp_store.proofs.GetLaws.{is_or_not}
use Rattle.asp_store.proofs.WatchLaws.{IsFront, front}
use Rattle.asp_trail.specs.Trails.{Trailed}
use Rattle.asp_trail.specs.Told.{Told}
use Rattle.asp_trail.proofs.HoldLaws.{holds_at}
use Rattle.asp_propagate.specs.Propagating.{WasTold}
use Rattle.asp_propagate.specs.Late.{AreTold, AreLateBy, AreExplained, IsLate, CanAsk, IsSaid, IsAtHand}

before_push : (es : List Entry) (e : Entry) → take (length es) (es ++ e ∷ []) ≡ es
before_push es e = take-append-le (length es) es (e ∷ []) (omega arith) ∙ take_all (length es) es (omega arith)

-- ---- through one entry more
pub explained_push : (why : List Entry → Literal → ℕ → Type 0) (es : List Entry) (e : Entry) → ((name : ℕ) → e.reason ≡ Some (2 ^ 31 + name) → (name < 2 ^ 31) × why es e.lit name) →
    AreExplained why es → AreExplained why (es ++ e ∷ [])
explained_push why es e h f i d name w q = cases (is_or_not i (length es))
  where
    cases : (i ≡ length es) ⊎ (i ≢ length es) → (name < 2 ^ 31) × why (take i (es ++ e ∷ [])) (get_or (es ++ e ∷ []) i d).lit name
    cases (inl s) =
        let is : get_or (es ++ e ∷ []) i d ≡ e = get_or_push es e d i (sym s) in
        let x = h name (sym (ap (λ (g : Entry). g.reason) is) ∙ q) in
        let front : take i (es ++ e ∷ []) ≡ es = ap (λ (k : ℕ). take k (es ++ e ∷ [])) s ∙ before_push es e in (
          x.0,
          subst (λ (g : Entry). why (take i (es ++ e ∷ [])) g.lit name) (sym is) (subst (λ (xs : List Entry). why xs e.lit name) (sym front) x.1),
        )
    cases (inr ne) =
        let lt : i < length es = omega (arith, w, ne, length-append es (e ∷ [])) in
        let is : get_or (es ++ e ∷ []) i d ≡ get_or es i d = get_or_append_left es (e ∷ []) d i lt in
        let x = f i d name lt (sym (ap (λ (g : Entry). g.reason) is) ∙ q) in
        let front : take i (es ++ e ∷ []) ≡ take i es = take-append-le i es (e ∷ []) (omega (arith, lt)) in (
          x.0,
          subst (λ (g : Entry). why (take i (es ++ e ∷ [])) g.lit name) (sym is) (subst (λ (xs : List Entry). why xs (get_or es i d).lit name) (sym front) x.1),
        )

-- whose numbers are below
pub explained_more : (why : List Entry → Literal → ℕ → Type 0) (es fs : List Entry) → All (λ e. (id : ℕ) → e.reason ≡ Some id → id < 2 ^ 31) fs → AreExplained why es → AreExplained why (es ++ fs)
explained_more why es fs low f i d name w q = cases (ltb i (length es)) refl
  where
    cases : (b : Bool) → b ≡ ltb i (length es) → (name < 2 ^ 31) × why (take i (es ++ fs)) (get_or (es ++ fs) i d).lit name
    cases true s =
        let lt : i < length es = grind (arith, nat_tests) in
        let is : get_or (es ++ fs) i d ≡ get_or es i d = get_or_append_left es fs d i lt in
        let x = f i d name lt (sym (ap (λ (g : Entry). g.reason) is) ∙ q) in
        let front : take i (es ++ fs) ≡ take i es = take-append-le i es fs (omega (arith, lt)) in (
          x.0,
          subst (λ (g : Entry). why (take i (es ++ fs)) g.lit name) (sym is) (subst (λ (xs : List Entry). why xs (get_or es i d).lit name) (sym front) x.1),
        )
    cases false s =
        let ge : length es ≤ i = grind (arith, nat_tests) in
        let is : get_or (es ++ fs) i d ≡ get_or fs (i - length es) d = get_or-append_right es fs (length es) i d refl ge in
        absurd (omega (arith, low (i - length es) d (omega (arith, w, ge, length-append es fs)) (2 ^ 31 + name) (sym (ap (λ (g : Entry). g.reason) is) ∙ q)))

-- ---- and through its end
pub explained_cut : (why : List Entry → Literal → ℕ → Type 0) (l : ℕ) (es : List Entry) → AllPairs (λ e f. e.level ≤ f.level) es → AreExplained why es → AreExplained why (cut l es)
explained_cut why l es rising f = by (front l es rising)
  where
    by : (k : ℕ) × IsFront l k es → AreExplained why (cut l es)
    by p = subst (AreExplained why) (sym p.1.is) (λ i d name w q.
        let b : (i < p.0) × (i < length es) = (omega (arith, w, length-take p.0 es), omega (arith, w, length-take p.0 es)) in
        let is : get_or (take p.0 es) i d ≡ get_or es i d = get_or-take p.0 es i d b.0 in
        let x = f i d name b.1 (sym (ap (λ (g : Entry). g.reason) is) ∙ q) in
        let first : take i (take p.0 es) ≡ take i es = take-take i p.0 es (omega (arith, b.0)) in (
          x.0,
          subst (λ (g : Entry). why (take i (take p.0 es)) g.lit name) (sym is) (subst (λ (xs : List Entry). why xs (get_or es i d).lit name) (sym first) x.1),
        ))

pub explained_none : (why : List Entry → Literal → ℕ → Type 0) → AreExplained why []
explained_none why i d name w q = absurd (omega arith)

-- ---- how many were told where one came
pub late_push : (es : List Entry) (e : Entry) (n : ℕ) → ((name : ℕ) → e.reason ≡ Some (2 ^ 31 + name) → length es ≤ n) → AreLateBy es n → AreLateBy (es ++ e ∷ []) n
late_push es e n h f i d name w q = cases (is_or_not i (length es))
  where
    cases : (i ≡ length es) ⊎ (i ≢ length es) → i ≤ n
    cases (inl s) =
        let is : get_or (es ++ e ∷ []) i d ≡ e = get_or_push es e d i (sym s) in
        omega (arith, s, h name (sym (ap (λ (g : Entry). g.reason) is) ∙ q))
    cases (inr ne) =
        let lt : i < length es = omega (arith, w, ne, length-append es (e ∷ [])) in
        f i d name lt (sym (ap (λ (g : Entry). g.reason) (get_or_append_left es (e ∷ []) d i lt)) ∙ q)

-- whose numbers are below
pub late_more : (es fs : List Entry) (n m : ℕ) → n ≤ m → All (λ e. (id : ℕ) → e.reason ≡ Some id → id < 2 ^ 31) fs → AreLateBy es n → AreLateBy (es ++ fs) m
late_more es fs n m le low f i d name w q = cases (ltb i (length es)) refl
  where
    cases : (b : Bool) → b ≡ ltb i (length es) → i ≤ m
    cases true s =
        let lt : i < length es = grind (arith, nat_tests) in
        omega (arith, le, f i d name lt (sym (ap (λ (g : Entry). g.reason) (get_or_append_left es fs d i lt)) ∙ q))
    cases false s =
        let ge : length es ≤ i = grind (arith, nat_tests) in
        let is : get_or (es ++ fs) i d ≡ get_or fs (i - length es) d = get_or-append_right es fs (length es) i d refl ge in
        absurd (omega (arith, low (i - length es) d (omega (arith, w, ge, length-append es fs)) (2 ^ 31 + name) (sym (ap (λ (g : Entry). g.reason) is) ∙ q)))

-- all that were told and stay are told still
pub late_cut : (l : ℕ) (es : List Entry) (n m : ℕ) → AllPairs (λ e f. e.level ≤ f.level) es →
    ((i : ℕ) (d : Entry) → m ≤ i → i < n → l < (get_or es i d).level) → AreLateBy es n → AreLateBy (cut l es) m
late_cut l es n m rising above f = by (front l es rising)
  where
    by : (k : ℕ) × IsFront l k es → AreLateBy (cut l es) m
    by p = subst (λ (xs : List Entry). AreLateBy xs m) (sym p.1.is) (λ i d name w q.
        let b : (i < p.0) × (i < length es) = (omega (arith, w, length-take p.0 es), omega (arith, w, length-take p.0 es)) in
        let is : get_or (take p.0 es) i d ≡ get_or es i d = get_or-take p.0 es i d b.0 in
        let le : i ≤ n = f i d name b.1 (sym (ap (λ (g : Entry). g.reason) is) ∙ q) in
        within i d b.0 le (ltb m i) refl)
      where
        within : (i : ℕ) (d : Entry) → i < p.0 → i ≤ n → (b : Bool) → b ≡ ltb m i → i ≤ m
        within i d low le true s =
            let lt : m < i = grind (arith, nat_tests) in
            absurd (omega (arith, above (i - 1) d (omega (arith, lt)) (omega (arith, lt, le)), p.1.high (i - 1) d (omega (arith, lt, low))))
        within i d low le false s = grind (arith, nat_tests)

-- so all entries before it were told
pub late_all_told : (t : Told) (r : Trailed) (n p name : ℕ) (d : Entry) → IsOrdered r.vars r.entries → WasTold t r n → AreLateBy r.entries n →
    p < length r.entries → (get_or r.entries p d).reason ≡ Some (2 ^ 31 + name) → AreTold t.values p r.entries
late_all_told t r n p name d o w late h q i e lt within =
    let le : p ≤ n = late p d name h q in
    let inside : i < length (take n r.entries) = omega (arith, length-take n r.entries, lt, le, within) in
    ap (λ (v : List (Option Bool)). holds_in v (get_or r.entries i e).lit) w.values
    ∙ holds_at r.vars (take n r.entries) i e (get_or r.entries i e).lit (ordered_take r.vars r.entries n o) inside (ap (λ (x : Entry). x.lit) (get_or-take n r.entries i e (omega (arith, lt, le))))

pub late_none : (n : ℕ) → AreLateBy [] n
late_none n i d name w q = absurd (omega arith)

-- ---- what can be asked, and what is said then
pub all_asked : (why : List Entry → Literal → ℕ → Type 0) (slots : List (Option StoredNogood)) (es : List Entry) → HaveReasons slots es → AreExplained why es → AreAsked (CanAsk why slots es) es
all_asked why slots es r x i d id h q = cases (ltb id (2 ^ 31)) refl
  where
    cases : (b : Bool) → b ≡ ltb id (2 ^ 31) → CanAsk why slots es (get_or es i d).lit id
    cases true s =
        let lt : id < 2 ^ 31 = grind (arith, nat_tests) in
        let n = r i d id h lt q in
        inl (n.0, record { small = lt; here = n.1 })
    cases false s =
        let ge : 2 ^ 31 ≤ id = grind (arith, nat_tests) in
        let number : id ≡ 2 ^ 31 + (id - 2 ^ 31) = omega (arith, ge) in
        let e = x i d (id - 2 ^ 31) h (q ∙ ap Some number) in
        inr record {
          name = id - 2 ^ 31;
          small = e.0;
          number = number;
          place = i;
          within = h;
          lit = λ f. ap (λ (g : Entry). g.lit) (same_default es i f d h);
          named = λ f. ap (λ (g : Entry). g.reason) (same_default es i f d h) ∙ q;
          explained = e.1;
        }

pub all_said : (late : Nogood → Type 0) (slots : List (Option StoredNogood)) (es : List Entry) → HaveReasons slots es → AreReasons (IsSaid late slots es) es
all_said late slots es r i d id n h q (inl k) =
    let f = r i d id h k.small q in
    let same : f.0 ≡ n = same_Some f.0 n (sym f.1 ∙ k.here) in
    subst (λ (m : Nogood). IsReason es i (get_or es i d).lit m.lits) same f.2
all_said late slots es r i d id n h q (inr w) =
    w.reason i (get_or es i d).level record {
      within = h;
      lit = λ f. ap (λ (g : Entry). g.lit) (same_default es i f d h);
      level = λ f. ap (λ (g : Entry). g.level) (same_default es i f d h);
    }

-- each entry that was implied has a reason
pub all_implied : (vars : ℕ) (why : List Entry → Literal → ℕ → Type 0) (late : Nogood → Type 0) (slots : List (Option StoredNogood)) (es : List Entry) →
    ((fs : List Entry) (l : Literal) (name : ℕ) → IsOrdered vars fs → why fs l name → (n : Nogood) × late n × IsReason fs (length fs) l n.lits) →
    IsOrdered vars es → HaveReasons slots es → AreExplained why es → AreImpliedBy (IsAtHand late slots) es
all_implied vars why late slots es reasoned o r x i d id h q = cases (ltb id (2 ^ 31)) refl
  where
    cases : (b : Bool) → b ≡ ltb id (2 ^ 31) → (n : Nogood) × IsAtHand late slots n × IsReason es i (get_or es i d).lit n.lits
    cases true s =
        let lt : id < 2 ^ 31 = grind (arith, nat_tests) in
        let n = r i d id h lt q in
        (n.0, inl (id, n.1), n.2)
    cases false s =
        let ge : 2 ^ 31 ≤ id = grind (arith, nat_tests) in
        let number : id ≡ 2 ^ 31 + (id - 2 ^ 31) = omega (arith, ge) in
        let e = x i d (id - 2 ^ 31) h (q ∙ ap Some number) in
        let n = reasoned (take i es) (get_or es i d).lit (id - 2 ^ 31) (ordered_take vars es i o) e.1 in
        (n.0, inr n.1, reason_later es i (get_or es i d).lit n.0.lits (omega (arith, h)) n.2)

-- ---- the reason of one entry
pub late_of : (why : List Entry → Literal → ℕ → Type 0) (slots : List (Option StoredNogood)) (es : List Entry) (l : Literal) (id : ℕ) → CanAsk why slots es l id → 2 ^ 31 ≤ id →
    IsLate why es l id
late_of why slots es l id (inl k) ge = absurd (omega (arith, k.1.small, ge))
late_of why slots es l id (inr x) ge = x

pub late_var : (vars : ℕ) (why : List Entry → Literal → ℕ → Type 0) (es : List Entry) (l : Literal) (id : ℕ) → IsOrdered vars es → IsLate why es l id → l.var ≤ vars
late_var vars why es l id o x =
    let d : Entry = record { lit = l; level = 0; reason = None } in
    omega (arith, (o.within x.place d x.within).1, ap (λ (k : Literal). k.var) (x.lit d))

pub late_has : (vars : ℕ) (why : List Entry → Literal → ℕ → Type 0) (es : List Entry) (l : Literal) (id : ℕ) → IsOrdered vars es → IsLate why es l id →
    is_some (value_of (assignment vars es) l.var) ≡ true
late_has vars why es l id o x =
    let d : Entry = record { lit = l; level = 0; reason = None } in
    subst (λ (k : Literal). is_some (value_of (assignment vars es) k.var) ≡ true) (x.lit d) (entry_assigned vars es x.place d x.within (o.within x.place d x.within).1)

-- a variable has one place
same_place : (vars : ℕ) (es : List Entry) (i j : ℕ) (d : Entry) → IsOrdered vars es → i < length es → j < length es → (get_or es i d).lit.var ≡ (get_or es j d).lit.var → i ≡ j
same_place vars es i j d o h k q = cases (ltb i j) refl (ltb j i) refl
  where
    cases : (a : Bool) → a ≡ ltb i j → (b : Bool) → b ≡ ltb j i → i ≡ j
    cases true e b f = let lt : i < j = grind (arith, nat_tests) in absurd (o.apart i j d lt k q)
    cases false e true f = let lt : j < i = grind (arith, nat_tests) in absurd (o.apart j i d lt h (sym q))
    cases false e false f =
        let ge : j ≤ i = grind (arith, nat_tests) in
        let le : i ≤ j = grind (arith, nat_tests) in
        omega (arith, ge, le)

pub late_explained : (vars : ℕ) (why : List Entry → Literal → ℕ → Type 0) (es : List Entry) (l : Literal) (id p : ℕ) → IsOrdered vars es → IsLate why es l id → p < length es →
    ((d : Entry) → (get_or es p d).lit.var ≡ l.var) → (d : Entry) → why (take p es) (get_or es p d).lit (id - 2 ^ 31)
late_explained vars why es l id p o x h var d =
    let at : x.place ≡ p = same_place vars es x.place p d o x.within h (ap (λ (k : Literal). k.var) (x.lit d) ∙ sym (var d)) in
    let name : x.name ≡ id - 2 ^ 31 = omega (arith, x.number) in
    subst (λ (n : ℕ). why (take p es) (get_or es p d).lit n) name
    (subst (λ (k : ℕ). why (take k es) (get_or es k d).lit x.name) at (subst (λ (k : Literal). why (take x.place es) k x.name) (sym (x.lit d)) x.explained))

-- all entries before it were told
pub late_told_at : (t : Told) (r : Trailed) (n : ℕ) (why : List Entry → Literal → ℕ → Type 0) (l : Literal) (id p : ℕ) → IsOrdered r.vars r.entries →
    WasTold t r n → AreLateBy r.entries n → IsLate why r.entries l id → p < length r.entries →
    ((d : Entry) → (get_or r.entries p d).lit.var ≡ l.var) → AreTold t.values p r.entries
late_told_at t r n why l id p o w late x h var =
    let d : Entry = record { lit = l; level = 0; reason = None } in
    let at : x.place ≡ p = same_place r.vars r.entries x.place p d o x.within h (ap (λ (k : Literal). k.var) (x.lit d) ∙ sym (var d)) in
    late_all_told t r n p x.name d o w late h (ap (λ (k : ℕ). (get_or r.entries k d).reason) (sym at) ∙ (x.named d ∙ ap (λ (k : ℕ). let z : Option ℕ = Some k in z) x.number))

pub written_said : {E : Type 0} (vars : ℕ) (late : Nogood → Type 0) (slots : List (Option StoredNogood)) (es : List Entry) (l : Literal) (id p : ℕ) (r : Result Nogood E) → IsOrdered vars es →
    2 ^ 31 ≤ id → p < length es → ((d : Entry) → (get_or es p d).lit.var ≡ l.var) → IfOk r late →
    IfOk r (λ n. (d : Entry) → IsReason es p (get_or es p d).lit n.lits) → IfOk r (IsSaid late slots es l id)
written_said vars late slots es l id p (Err e) o ge h var passes reason = tt
written_said vars late slots es l id p (Ok n) o ge h var passes reason =
    inr record {
      large = ge;
      passes = passes;
      reason = λ i b s.
          let d : Entry = record { lit = l; level = 0; reason = None } in
          let at : p ≡ i = same_place vars es p i d o h s.within (var d ∙ sym (ap (λ (k : Literal). k.var) (s.lit d))) in
          subst (λ (k : Literal). IsReason es i k n.lits) (s.lit d) (subst (λ (k : ℕ). IsReason es k (get_or es k d).lit n.lits) at (reason d));
    }
