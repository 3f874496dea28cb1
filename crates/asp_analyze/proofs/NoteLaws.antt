-- Literals that are met, one and several.
use Rattle.std.proofs.Common.{◌≡◌, ◌≢◌, ℕ, ◌+◌, ◌<◌, ◌≤◌, Bool, true, false, cond, eqb, List, [], ◌∷◌, ◌++◌, Option, length, set, get_or, take, inl, inr, ◌⊎◌, refl, sym, ap, ◌∙◌, subst, arith}
use Rattle.std.proofs.lemmas.Bool.{eqb-true, false≢true}
use Rattle.std.proofs.lemmas.Bool.Decides.{nat_tests}
use Rattle.std.proofs.lemmas.List.{length-set, take_more}
use Rattle.std.proofs.Common.{append_assoc}
use Rattle.asp_vars.specs.Literals.{Literal, has_literal}
use Rattle.asp_trail.specs.declared.trail.Entry.{Entry}
use Rattle.asp_trail.specs.Entries.{level_in, reason_in}
use Rattle.asp_analyze.specs.declared.marks.Mark.{Mark}
use Rattle.asp_analyze.specs.declared.marks.Mark.TheVariants as mark
use Rattle.asp_analyze.specs.Marks.{Marked, mark_of, is_clean, is_open, is_met}
use Rattle.asp_analyze.specs.Way.{IsOn, mark_at, CanStay, Fits, AreMarked, Came, Noted}
use Rattle.asp_analyze.proofs.StandLaws.{on_same}
use Rattle.asp_analyze.proofs.LitLaws.{has_more, has_last, has_append, only_one, has_later}
use Rattle.asp_analyze.proofs.MarkLaws.{mark_set_same, mark_set_other}

-- what holds of the mark that is set, and of the others
pub set_cases : (P : Mark → Type 0) (marks : List Mark) (v w : ℕ) (m : Mark) → v < length marks → (w ≡ v → P m) → (w ≢ v → P (mark_of marks w)) → P (mark_of (set marks v m) w)
set_cases P marks v w m h here there = cases (eqb w v) refl
  where
    cases : (b : Bool) → b ≡ eqb w v → P (mark_of (set marks v m) w)
    cases true q =
        let e : w ≡ v = eqb-true w v (sym q) in
        subst P (sym (ap (λ (u : ℕ). mark_of (set marks v m) u) e ∙ mark_set_same marks v m h)) (here e)
    cases false q =
        let ne : w ≢ v = grind (arith, nat_tests) in
        subst P (sym (mark_set_other marks v w m ne)) (there ne)

-- ---- marks of levels
pub fits_at : (top level : ℕ) (reason : Option ℕ) → level ≤ top → Fits top level reason (mark_at level top)
fits_at top level reason h = cases (eqb level 0) refl (eqb level top) refl
  where
    cases : (b : Bool) → b ≡ eqb level 0 → (c : Bool) → c ≡ eqb level top → Fits top level reason (cond b mark.Zero (cond c mark.Pending mark.Kept))
    cases true q c r = eqb-true level 0 (sym q)
    cases false q true r = let ne : level ≢ 0 = grind (arith, nat_tests) in let e : level ≡ top = eqb-true level top (sym r) in (omega (arith, ne, e), e)
    cases false q false r =
        let ne : level ≢ 0 = grind (arith, nat_tests) in
        let nt : level ≢ top = grind (arith, nat_tests) in
        (λ z. absurd (ne z), λ p. omega (arith, nt, h))

pub open_at : (level top : ℕ) → is_open (mark_at level top) ≡ true
open_at level top = cases (eqb level 0) (eqb level top)
  where
    cases : (b c : Bool) → is_open (cond b mark.Zero (cond c mark.Pending mark.Kept)) ≡ true
    cases true c = refl
    cases false true = refl
    cases false false = refl

pub open_clean : (m : Mark) → is_open m ≡ true → is_clean m ≡ false
open_clean mark.Clean h = absurd (false≢true h)
open_clean mark.Pending h = refl
open_clean mark.Zero h = refl
open_clean mark.Kept h = refl
open_clean mark.Resolved h = refl
open_clean mark.Needed h = refl

pub open_met : (m : Mark) → is_open m ≡ true → is_met m ≡ true
open_met mark.Clean h = absurd (false≢true h)
open_met mark.Pending h = refl
open_met mark.Zero h = refl
open_met mark.Kept h = refl
open_met mark.Resolved h = refl
open_met mark.Needed h = absurd (false≢true h)

pub met_clean : (m : Mark) → is_met m ≡ true → is_clean m ≡ false
met_clean mark.Clean h = absurd (false≢true h)
met_clean mark.Pending h = refl
met_clean mark.Zero h = refl
met_clean mark.Kept h = refl
met_clean mark.Resolved h = refl
met_clean mark.Needed h = absurd (false≢true h)

-- an unmet one that isn't clean may be kept
may_keep : (top level : ℕ) (reason : Option ℕ) (m : Mark) → is_clean m ≡ false → is_met m ≡ false → Fits top level reason m → Fits top level reason mark.Kept
may_keep top level reason mark.Clean c u f = absurd (false≢true (sym c))
may_keep top level reason mark.Pending c u f = absurd (false≢true (sym u))
may_keep top level reason mark.Zero c u f = absurd (false≢true (sym u))
may_keep top level reason mark.Kept c u f = absurd (false≢true (sym u))
may_keep top level reason mark.Resolved c u f = absurd (false≢true (sym u))
may_keep top level reason mark.Needed c u f = (λ z. absurd (omega (arith, z, f.0)), λ p. f.1)

-- ---- one literal
-- a variable's mark becomes one that fits
pub marked_set : (es : List Entry) (top : ℕ) (old new : Marked) (lit : Literal) (m : Mark) → AreMarked es top old → IsOn es lit → is_clean m ≡ false →
    Fits top (level_in es lit.var) (reason_in es lit.var) m → new.marks ≡ set old.marks lit.var m →
    ((l : Literal) → has_literal old.lits l ≡ true → has_literal new.lits l ≡ true) → has_literal new.lits lit ≡ true →
    ((l : Literal) → has_literal new.lits l ≡ true → (has_literal old.lits l ≡ true) ⊎ (l ≡ lit)) → AreMarked es top new
marked_set es top old new lit m a on c f e more here back = record {
  ordered = a.ordered;
  within = λ l h. elim (back l h) [
    | inl g ↦ ((a.within l g).0, at (λ x. is_clean x ≡ false) l.var (λ q. c) (λ ne. (a.within l g).1))
    | inr q ↦ (subst (IsOn es) (sym q) on, at (λ x. is_clean x ≡ false) l.var (λ r. c) (λ ne. absurd (ne (ap (λ (k : Literal). k.var) q))))
  ];
  listed = λ l n.
      at (λ x. is_clean x ≡ false → has_literal new.lits l ≡ true) l.var
      (λ q g. subst (λ (k : Literal). has_literal new.lits k ≡ true) (sym (on_same a.ordered.0 es l lit a.ordered.1 n on q)) here)
      (λ ne g. more l (a.listed l n g));
  named = λ v.
      at (λ x. is_clean x ≡ false → (l : Literal) × IsOn es l × (l.var ≡ v)) v
      (λ q g. (lit, on, sym q))
      (λ ne g. a.named v g);
  fits = λ l n.
      at (λ x. Fits top (level_in es l.var) (reason_in es l.var) x) l.var
      (λ q. subst (λ (v : ℕ). Fits top (level_in es v) (reason_in es v) m) (sym q) f)
      (λ ne. a.fits l n);
  small = λ l n. omega (arith, a.small l n, ap (length {A = Mark}) e, length-set old.marks lit.var m);
}
  where
    at : (P : Mark → Type 0) (w : ℕ) → (w ≡ lit.var → P m) → (w ≢ lit.var → P (mark_of old.marks w)) → P (mark_of new.marks w)
    at P w p q = subst (λ (ms : List Mark). P (mark_of ms w)) (sym e) (set_cases P old.marks lit.var w m (a.small lit on) p q)

pub noted_set : (es : List Entry) (old new : Marked) (lit : Literal) (m : Mark) (rest : List Literal) → IsOn es lit → lit.var < length old.marks → is_open m ≡ true →
    is_met (mark_of old.marks lit.var) ≡ false → new.marks ≡ set old.marks lit.var m → new.lits ≡ old.lits ++ rest → Noted es old new (lit ∷ [])
noted_set es old new lit m rest on small o unmet e g = record {
  met = λ l h. subst (λ (k : Literal). is_met (mark_of new.marks k.var) ≡ true) (only_one lit l h) (at (λ x. is_met x ≡ true) lit.var (λ q. open_met m o) (λ ne. absurd (ne refl)));
  stays = λ v h. at (λ x. x ≡ mark_of old.marks v) v (λ q. absurd (false≢true (sym unmet ∙ (ap (λ (w : ℕ). is_met (mark_of old.marks w)) (sym q) ∙ h)))) (λ ne. refl);
  changed = λ v. at (λ x. (x ≡ mark_of old.marks v) ⊎ Came es (lit ∷ []) x v) v
      (λ q. inr record { lit = lit; has = has_last [] lit; var = sym q; on = on; open_now = o })
      (λ ne. inl refl);
  grown = (rest, g);
  sized = ap (length {A = Mark}) e ∙ length-set old.marks lit.var m;
}
  where
    at : (P : Mark → Type 0) (w : ℕ) → (w ≡ lit.var → P m) → (w ≢ lit.var → P (mark_of old.marks w)) → P (mark_of new.marks w)
    at P w p q = subst (λ (ms : List Mark). P (mark_of ms w)) (sym e) (set_cases P old.marks lit.var w m small p q)

-- one more is listed
pub marked_listed : (es : List Entry) (top : ℕ) (old new : Marked) (lit : Literal) (m : Mark) → AreMarked es top old → IsOn es lit → is_clean m ≡ false →
    Fits top (level_in es lit.var) (reason_in es lit.var) m → new ≡ record { marks = set old.marks lit.var m; lits = old.lits ++ lit ∷ [] } → AreMarked es top new
marked_listed es top old new lit m a on c f e =
    marked_set es top old new lit m a on c f (ap (λ (x : Marked). x.marks) e)
    (λ l h. subst (λ (xs : List Literal). has_literal xs l ≡ true) (sym lits) (has_more old.lits (lit ∷ []) l h))
    (subst (λ (xs : List Literal). has_literal xs lit ≡ true) (sym lits) (has_last old.lits lit))
    (λ l h. elim (has_append old.lits (lit ∷ []) l (subst (λ (xs : List Literal). has_literal xs l ≡ true) lits h)) [ inl g ↦ inl g | inr g ↦ inr (sym (only_one lit l g)) ])
  where
    lits : new.lits ≡ old.lits ++ lit ∷ []
    lits = ap (λ (x : Marked). x.lits) e

pub marked_added : (es : List Entry) (top level : ℕ) (old new : Marked) (lit : Literal) → AreMarked es top old → CanStay es top lit → level ≡ level_in es lit.var →
    new ≡ record { marks = set old.marks lit.var (mark_at level top); lits = old.lits ++ lit ∷ [] } → AreMarked es top new
marked_added es top level old new lit a s q e =
    marked_listed es top old new lit (mark_at level top) a s.on (open_clean (mark_at level top) (open_at level top))
    (subst (λ (b : ℕ). Fits top b (reason_in es lit.var) (mark_at level top)) q (fits_at top level (reason_in es lit.var) (omega (arith, q, s.level)))) e

pub noted_added : (es : List Entry) (top level : ℕ) (old new : Marked) (lit : Literal) → AreMarked es top old → CanStay es top lit → is_met (mark_of old.marks lit.var) ≡ false →
    new ≡ record { marks = set old.marks lit.var (mark_at level top); lits = old.lits ++ lit ∷ [] } → Noted es old new (lit ∷ [])
noted_added es top level old new lit a s u e =
    noted_set es old new lit (mark_at level top) (lit ∷ []) s.on (a.small lit s.on) (open_at level top) u (ap (λ (x : Marked). x.marks) e) (ap (λ (x : Marked). x.lits) e)

-- a change leaves the list
pub marked_changed : (es : List Entry) (top : ℕ) (old new : Marked) (lit : Literal) (m : Mark) → AreMarked es top old → IsOn es lit → is_clean m ≡ false →
    Fits top (level_in es lit.var) (reason_in es lit.var) m → is_clean (mark_of old.marks lit.var) ≡ false → new ≡ record old { marks = set old.marks lit.var m } → AreMarked es top new
marked_changed es top old new lit m a on c f k e =
    marked_set es top old new lit m a on c f (ap (λ (x : Marked). x.marks) e)
    (λ l h. subst (λ (xs : List Literal). has_literal xs l ≡ true) (sym lits) h)
    (subst (λ (xs : List Literal). has_literal xs lit ≡ true) (sym lits) (a.listed lit on k))
    (λ l h. inl (subst (λ (xs : List Literal). has_literal xs l ≡ true) lits h))
  where
    lits : new.lits ≡ old.lits
    lits = ap (λ (x : Marked). x.lits) e

pub marked_kept : (es : List Entry) (top : ℕ) (old new : Marked) (lit : Literal) → AreMarked es top old → IsOn es lit → is_met (mark_of old.marks lit.var) ≡ false →
    is_clean (mark_of old.marks lit.var) ≡ false → new ≡ record old { marks = set old.marks lit.var mark.Kept } → AreMarked es top new
marked_kept es top old new lit a on u k e =
    marked_changed es top old new lit mark.Kept a on refl (may_keep top (level_in es lit.var) (reason_in es lit.var) (mark_of old.marks lit.var) k u (a.fits lit on)) k e

pub noted_kept : (es : List Entry) (top : ℕ) (old new : Marked) (lit : Literal) → AreMarked es top old → IsOn es lit → is_met (mark_of old.marks lit.var) ≡ false →
    new ≡ record old { marks = set old.marks lit.var mark.Kept } → Noted es old new (lit ∷ [])
noted_kept es top old new lit a on u e =
    noted_set es old new lit mark.Kept [] on (a.small lit on) refl u (ap (λ (x : Marked). x.marks) e) (ap (λ (x : Marked). x.lits) e ∙ sym (append_nil old.lits))
  where
    append_nil : (xs : List Literal) → xs ++ [] ≡ xs
    append_nil [] = refl
    append_nil (x ∷ xs) = ap (λ (ys : List Literal). x ∷ ys) (append_nil xs)

-- one after the other
pub noted_join : (es : List Entry) (old mid new : Marked) (n k : List Literal) → Noted es old mid n → Noted es mid new k → Noted es old new (n ++ k)
noted_join es old mid new n k a b = record {
  met = λ l h. elim (has_append n k l h) [
    | inl g ↦ ap is_met (b.stays l.var (a.met l g)) ∙ a.met l g
    | inr g ↦ b.met l g
  ];
  stays = λ v h. b.stays v (ap is_met (a.stays v h) ∙ h) ∙ a.stays v h;
  changed = λ v. elim (b.changed v) [
    | inl q ↦ elim (a.changed v) [
      | inl r ↦ inl (q ∙ r)
      | inr c ↦ inr record { lit = c.lit; has = has_more n k c.lit c.has; var = c.var; on = c.on; open_now = ap is_open q ∙ c.open_now }
    ]
    | inr c ↦ inr record { lit = c.lit; has = has_later n k c.lit c.has; var = c.var; on = c.on; open_now = c.open_now }
  ];
  grown = (a.grown.0 ++ b.grown.0, b.grown.1 ∙ (ap (λ (xs : List Literal). xs ++ b.grown.0) a.grown.1 ∙ append_assoc old.lits a.grown.0 b.grown.0));
  sized = b.sized ∙ a.sized;
}

pub noted_more : (es : List Entry) (old mid new : Marked) (lits : List Literal) (i : ℕ) (lit : Literal) → i < length lits → lit ≡ get_or lits i lit → Noted es old mid (take i lits) →
    Noted es mid new (lit ∷ []) → Noted es old new (take (i + 1) lits)
noted_more es old mid new lits i lit h q a b =
    subst (λ (xs : List Literal). Noted es old new xs) (ap (λ (x : Literal). take i lits ++ x ∷ []) q ∙ sym (take_more lits i lit h)) (noted_join es old mid new (take i lits) (lit ∷ []) a b)
