-- Steps below the conflict's level: what is pending and what is settled stays so.
use Rattle.std.proofs.Common.{◌≡◌, ◌≢◌, ℕ, ◌+◌, ◌<◌, Bool, true, false, eqb, List, [], ◌∷◌, ◌++◌, Option, None, length, set, get_or, take, inl, inr, refl, sym, ap, ◌∙◌, subst, arith}
use Rattle.std.proofs.Common.{append_assoc}
use Rattle.std.proofs.lemmas.Bool.{eqb-true, false≢true}
use Rattle.std.proofs.lemmas.Bool.Decides.{nat_tests}
use Rattle.std.proofs.lemmas.List.{take-append-le, take_more}
use Rattle.asp_vars.specs.Literals.{Literal, has_literal}
use Rattle.asp_vars.specs.declared.nogood.Nogood.{Nogood}
use Rattle.asp_vars.specs.declared.nogood.Base.{Base}
use Rattle.asp_trail.specs.declared.trail.Entry.{Entry}
use Rattle.asp_trail.specs.Entries.{level_in, reason_in}
use Rattle.asp_analyze.specs.declared.marks.Mark.{Mark}
use Rattle.asp_analyze.specs.declared.marks.Mark.TheVariants as mark
use Rattle.asp_analyze.specs.Marks.{Marked, mark_of, is_clean, is_resolved, is_pending, is_open, is_met, is_settled}
use Rattle.std.specs.Prelude.{IsTrue, Result, Ok, Err, OnOk}
use Rattle.asp_analyze.specs.Learning.{Used, is_from}
use Rattle.asp_analyze.specs.Learning.{is_resolved as used_on}
use Rattle.asp_analyze.specs.Way.{IsOn, Fits, AreMarked, Opened, Covers, IsOnTheWay, AreSettled, Goes}
use Rattle.asp_analyze.proofs.LitLaws.{has_append, has_at, only_one, has_taken}
use Rattle.asp_analyze.proofs.NoteLaws.{set_cases, marked_listed, marked_changed, met_clean, open_clean}

-- ---- the marks of a step
settled_stays : (top level : ℕ) (reason : Option ℕ) (m k : Mark) → Fits top level reason m → Fits top level reason k → is_settled m ≡ true → is_met m ≡ false → is_open k ≡ true → is_settled k ≡ true
settled_stays top level reason mark.Clean k f e s u o = absurd (false≢true s)
settled_stays top level reason mark.Pending k f e s u o = absurd (false≢true (sym u))
settled_stays top level reason mark.Zero k f e s u o = absurd (false≢true s)
settled_stays top level reason mark.Kept k f e s u o = absurd (false≢true (sym u))
settled_stays top level reason mark.Resolved k f e s u o = absurd (false≢true (sym u))
settled_stays top level reason mark.Needed k f e s u o = new k e o
  where
    new : (x : Mark) → Fits top level reason x → is_open x ≡ true → is_settled x ≡ true
    new mark.Clean h q = absurd (false≢true q)
    new mark.Pending h q = refl
    new mark.Zero h q = absurd (omega (arith, f.0, h))
    new mark.Kept h q = refl
    new mark.Resolved h q = refl
    new mark.Needed h q = refl

pub goes_join : (es : List Entry) (old mid new : Marked) → Goes es old mid → Goes es mid new → Goes es old new
goes_join es old mid new a b = record {
  pending = λ l n p. b.pending l n (a.pending l n p);
  none = λ l n p. a.none l n (b.none l n p);
  settled = λ l n s. b.settled l n (a.settled l n s);
  marked = λ v h. b.marked v (a.marked v h);
  grown = (a.grown.0 ++ b.grown.0, b.grown.1 ∙ (ap (λ (xs : List Literal). xs ++ b.grown.0) a.grown.1 ∙ append_assoc old.lits a.grown.0 b.grown.0));
}

-- a literal below the conflict's level is resolved
pub goes_opened : (es : List Entry) (top : ℕ) (old new : Marked) (lit : Literal) → AreMarked es top old → AreMarked es top new → IsOn es lit → (0 < top → level_in es lit.var < top) →
    Opened es lit old new → Goes es old new
goes_opened es top old new lit a b on low t = record {
  pending = λ l n p. t.stays l.var (λ e. apart (subst (λ (v : ℕ). mark_of old.marks v ≡ mark.Pending) e p)) (ap is_met p) ∙ p;
  none = λ l n p. none l n p (eqb l.var lit.var) refl;
  settled = λ l n s. settled l n s (eqb l.var lit.var) refl;
  marked = λ v h. marked v h (eqb v lit.var) refl;
  grown = t.grown;
}
  where
    apart : mark_of old.marks lit.var ≡ mark.Pending → ⊥
    apart p =
        let f : (0 < top) × (level_in es lit.var ≡ top) = subst (λ (x : Mark). Fits top (level_in es lit.var) (reason_in es lit.var) x) p (a.fits lit on) in
        omega (arith, low f.0, f.1)

    none : (l : Literal) → IsOn es l → mark_of new.marks l.var ≡ mark.Pending → (c : Bool) → c ≡ eqb l.var lit.var → mark_of old.marks l.var ≡ mark.Pending
    none l n p true e =
        absurd (false≢true (ap is_pending (sym (ap (λ (v : ℕ). mark_of new.marks v) (eqb-true l.var lit.var (sym e)) ∙ t.gone)) ∙ ap is_pending p))
    none l n p false e =
        let ne : l.var ≢ lit.var = grind (arith, nat_tests) in
        elim (t.changed l n ne) [
          | inl same ↦ sym same ∙ p
          | inr before ↦
              let f : (0 < top) × (level_in es l.var ≡ top) = subst (λ (x : Mark). Fits top (level_in es l.var) (reason_in es l.var) x) p (b.fits l n) in
              absurd (omega (arith, low f.0, f.1, before.0.level))
        ]

    met : (l : Literal) → IsOn es l → is_settled (mark_of old.marks l.var) ≡ true → l.var ≢ lit.var → is_open (mark_of new.marks l.var) ≡ true → (c : Bool) → c ≡ is_met (mark_of old.marks l.var) →
        is_settled (mark_of new.marks l.var) ≡ true
    met l n s ne o true q = ap is_settled (t.stays l.var ne (sym q)) ∙ s
    met l n s ne o false q =
        settled_stays top (level_in es l.var) (reason_in es l.var) (mark_of old.marks l.var) (mark_of new.marks l.var) (a.fits l n) (b.fits l n) s (sym q) o

    settled : (l : Literal) → IsOn es l → is_settled (mark_of old.marks l.var) ≡ true → (c : Bool) → c ≡ eqb l.var lit.var → is_settled (mark_of new.marks l.var) ≡ true
    settled l n s true e = ap (λ (v : ℕ). is_settled (mark_of new.marks v)) (eqb-true l.var lit.var (sym e)) ∙ ap is_settled t.gone
    settled l n s false e =
        let ne : l.var ≢ lit.var = grind (arith, nat_tests) in
        elim (t.changed l n ne) [
          | inl same ↦ ap is_settled same ∙ s
          | inr before ↦ met l n s ne before.1 (is_met (mark_of old.marks l.var)) refl
        ]

    marked : (v : ℕ) → is_clean (mark_of old.marks v) ≡ false → (c : Bool) → c ≡ eqb v lit.var → is_clean (mark_of new.marks v) ≡ false
    marked v h true e = ap (λ (w : ℕ). is_clean (mark_of new.marks w)) (eqb-true v lit.var (sym e)) ∙ ap is_clean t.gone
    marked v h false e =
        let ne : v ≢ lit.var = grind (arith, nat_tests) in
        let f = a.named v h in
        elim (t.changed f.0 f.1 (λ q. ne (sym f.2 ∙ q))) [
          | inl same ↦ ap (λ (w : ℕ). is_clean (mark_of new.marks w)) (sym f.2) ∙ (ap is_clean same ∙ (ap (λ (w : ℕ). is_clean (mark_of old.marks w)) f.2 ∙ h))
          | inr before ↦ ap (λ (w : ℕ). is_clean (mark_of new.marks w)) (sym f.2) ∙ open_clean (mark_of new.marks f.0.var) before.1
        ]

-- ---- one of level 0 that was assumed stays
covers_kept : (es : List Entry) (says : Literal → ℕ → Nogood → Type 0) (from : Nogood) (marks : List Mark) (used : List Used) (v : ℕ) → v < length marks → is_open (mark_of marks v) ≡ true →
    Covers es says from marks used → Covers es says from (set marks v mark.Kept) used
covers_kept es says from marks used v h o c = record {
  reasons = c.reasons;
  named = c.named;
  given = λ l g. met l.var (c.given l g);
  others = λ i d k l g ne. met l.var (c.others i d k l g ne);
  resolved = λ l n r.
      set_cases (λ x. x ≡ mark.Resolved → IsTrue (used_on used l)) marks v l.var mark.Kept h
      (λ q e. absurd (false≢true (ap is_resolved e)))
      (λ ne e. c.resolved l n e) r;
  known = λ l n r.
      set_cases (λ x. is_open x ≡ true → IsTrue (is_from from used l)) marks v l.var mark.Kept h
      (λ q e. c.known l n (ap (λ (w : ℕ). is_open (mark_of marks w)) q ∙ o))
      (λ ne e. c.known l n e) r;
}
  where
    met : (w : ℕ) → is_met (mark_of marks w) ≡ true → is_met (mark_of (set marks v mark.Kept) w) ≡ true
    met w g = set_cases (λ x. is_met x ≡ true) marks v w mark.Kept h (λ q. refl) (λ ne. g)

pub way_kept : (es : List Entry) (says : Literal → ℕ → Nogood → Type 0) (from : Nogood) (top : ℕ) (old new : Marked) (b : Base) (lit : Literal) → IsOn es lit → mark_of old.marks lit.var ≡ mark.Zero →
    reason_in es lit.var ≡ None → new ≡ record old { marks = set old.marks lit.var mark.Kept } → IsOnTheWay es says from top old b → IsOnTheWay es says from top new b
way_kept es says from top old new b lit on was none e w = record {
  marked = marked_changed es top old new lit mark.Kept w.marked on refl (λ z. none, λ p. absurd (omega (arith, p, level))) (ap is_clean was) e;
  reached = (
    w.reached.0,
    subst (λ (m : Marked). Covers es says from m.marks w.reached.0) (sym e) (covers_kept es says from old.marks w.reached.0 lit.var (w.marked.small lit on) (ap is_open was) w.reached.1),
    w.reached.2,
  );
}
  where
    level : level_in es lit.var ≡ 0
    level = subst (λ (x : Mark). Fits top (level_in es lit.var) (reason_in es lit.var) x) was (w.marked.fits lit on)

-- ---- one is looked at for the minimisation
covers_needed : (es : List Entry) (says : Literal → ℕ → Nogood → Type 0) (from : Nogood) (marks : List Mark) (used : List Used) (v : ℕ) → v < length marks → is_clean (mark_of marks v) ≡ true →
    Covers es says from marks used → Covers es says from (set marks v mark.Needed) used
covers_needed es says from marks used v h o c = record {
  reasons = c.reasons;
  named = c.named;
  given = λ l g. met l.var (c.given l g);
  others = λ i d k l g ne. met l.var (c.others i d k l g ne);
  resolved = λ l n r.
      set_cases (λ x. x ≡ mark.Resolved → IsTrue (used_on used l)) marks v l.var mark.Needed h
      (λ q e. absurd (false≢true (ap is_resolved e)))
      (λ ne e. c.resolved l n e) r;
  known = λ l n r.
      set_cases (λ x. is_open x ≡ true → IsTrue (is_from from used l)) marks v l.var mark.Needed h
      (λ q e. absurd (false≢true e))
      (λ ne e. c.known l n e) r;
}
  where
    met : (w : ℕ) → is_met (mark_of marks w) ≡ true → is_met (mark_of (set marks v mark.Needed) w) ≡ true
    met w g = set_cases (λ x. is_met x ≡ true) marks v w mark.Needed h
        (λ q. absurd (false≢true (sym (met_clean (mark_of marks w) g) ∙ (ap (λ (u : ℕ). is_clean (mark_of marks u)) q ∙ o)))) (λ ne. g)

pub way_needed : (es : List Entry) (says : Literal → ℕ → Nogood → Type 0) (from : Nogood) (top : ℕ) (old new : Marked) (b : Base) (lit : Literal) →
    IsOn es lit → is_clean (mark_of old.marks lit.var) ≡ true →
    0 < level_in es lit.var → level_in es lit.var < top → new ≡ record { marks = set old.marks lit.var mark.Needed; lits = old.lits ++ lit ∷ [] } →
    IsOnTheWay es says from top old b → IsOnTheWay es says from top new b
way_needed es says from top old new b lit on c low high e w = record {
  marked = marked_listed es top old new lit mark.Needed w.marked on refl (low, high) e;
  reached = (
    w.reached.0,
    subst (λ (m : Marked). Covers es says from m.marks w.reached.0) (sym e) (covers_needed es says from old.marks w.reached.0 lit.var (w.marked.small lit on) c w.reached.1),
    w.reached.2,
  );
}

pub goes_needed : (es : List Entry) (top : ℕ) (old new : Marked) (lit : Literal) → AreMarked es top old → IsOn es lit → is_clean (mark_of old.marks lit.var) ≡ true →
    new ≡ record { marks = set old.marks lit.var mark.Needed; lits = old.lits ++ lit ∷ [] } → Goes es old new
goes_needed es top old new lit a on c e = record {
  pending = λ l n p. at (λ x. x ≡ mark.Pending) l.var
      (λ q. absurd (false≢true (ap is_clean (sym p) ∙ (ap (λ (v : ℕ). is_clean (mark_of old.marks v)) q ∙ c))))
      (λ ne. p);
  none = λ l n p. at (λ x. x ≡ mark.Pending → mark_of old.marks l.var ≡ mark.Pending) l.var (λ q r. absurd (false≢true (ap is_pending r))) (λ ne r. r) p;
  settled = λ l n s. at (λ x. is_settled x ≡ true) l.var (λ q. refl) (λ ne. s);
  marked = λ v h. at (λ x. is_clean x ≡ false) v (λ q. refl) (λ ne. h);
  grown = (lit ∷ [], ap (λ (x : Marked). x.lits) e);
}
  where
    at : (P : Mark → Type 0) (w : ℕ) → (w ≡ lit.var → P mark.Needed) → (w ≢ lit.var → P (mark_of old.marks w)) → P (mark_of new.marks w)
    at P w p q = subst (λ (ms : Marked). P (mark_of ms.marks w)) (sym e) (set_cases P old.marks lit.var w mark.Needed (a.small lit on) p q)

-- ---- the first of the marked literals
pub listed_on : (es : List Entry) (top i : ℕ) (m : Marked) (lit : Literal) → AreMarked es top m → i < length m.lits → lit ≡ get_or m.lits i lit →
    IsOn es lit × (is_clean (mark_of m.marks lit.var) ≡ false)
listed_on es top i m lit a h q = a.within lit (subst (λ (l : Literal). has_literal m.lits l ≡ true) (sym q) (has_at m.lits i lit h))

pub settled_more : (es : List Entry) (top : ℕ) (old new : Marked) (i : ℕ) (lit d : Literal) → AreMarked es top old → Goes es old new → i < length old.lits → lit ≡ get_or old.lits i d →
    is_settled (mark_of new.marks lit.var) ≡ true → AreSettled i old → AreSettled (i + 1) new
settled_more es top old new i lit d a g h q now s l k =
    elim (has_append (take i old.lits) (get_or old.lits i d ∷ []) l here) [
      | inl m ↦ g.settled l (a.within l (has_taken i old.lits l m)).0 (s l m)
      | inr m ↦ subst (λ (x : Literal). is_settled (mark_of new.marks x.var) ≡ true) (q ∙ only_one (get_or old.lits i d) l m) now
    ]
  where
    same : take (i + 1) new.lits ≡ take i old.lits ++ get_or old.lits i d ∷ []
    same =
        ap (λ (xs : List Literal). take (i + 1) xs) g.grown.1
        ∙ (take-append-le (i + 1) old.lits g.grown.0 (omega (arith, h)) ∙ take_more old.lits i d h)

    here : has_literal (take i old.lits ++ get_or old.lits i d ∷ []) l ≡ true
    here = subst (λ (xs : List Literal). has_literal xs l ≡ true) same k

-- ---- answers of calls
pub on_ok : {X : Type 0} → {E : Type 0} → (r : Result X E) (A B : Type 0) → (A → B) → OnOk r A → OnOk r B
on_ok (Ok x) A B f h = f h
on_ok (Err e) A B f h = tt

pub on_ok_both : {X : Type 0} → {E : Type 0} → (r : Result X E) (A B C : Type 0) → (A → B → C) → OnOk r A → OnOk r B → OnOk r C
on_ok_both (Ok x) A B C f h g = f h g
on_ok_both (Err e) A B C f h g = tt
