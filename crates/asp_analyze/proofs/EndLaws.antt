-- How an analysis begins, and what its end gives.
use Rattle.std.proofs.Common.{◌≡◌, ◌≢◌, ℕ, suc, zero, ◌+◌, ◌<◌, ◌≤◌, Bool, true, false, cond, not, ◌||◌, List, [], ◌∷◌, Option, Some, None, length, replicate, filter, get_or, inl, inr, ◌⊎◌, refl, sym, ap, ◌∙◌, subst, arith}
use Rattle.std.specs.List.{All}
use Rattle.std.specs.Prelude.{IfSome, IfNone}
use Rattle.std.proofs.lemmas.Bool.{false≢true}
use Rattle.std.proofs.lemmas.Grind.{common_steps}
use Rattle.std.proofs.lemmas.List.{take_all}
use Rattle.asp_vars.specs.Literals.{Literal, complement, has_literal, literal_eq, holds_in}
use Rattle.asp_vars.specs.declared.nogood.Nogood.{Nogood}
use Rattle.asp_vars.specs.declared.nogood.Base.{Base}
use Rattle.asp_vars.proofs.LiteralLaws.{same_literal}
use Rattle.asp_trail.specs.declared.trail.Entry.{Entry}
use Rattle.asp_trail.specs.Entries.{assignment, level_in, reason_in}
use Rattle.asp_trail.specs.Trails.{IsOrdered}
use Rattle.asp_analyze.specs.declared.marks.Mark.{Mark}
use Rattle.asp_analyze.specs.declared.marks.Mark.TheVariants as mark
use Rattle.asp_analyze.specs.Marks.{Marked, mark_of, is_clean, is_open, is_met, is_settled, unmarked}
use Rattle.asp_analyze.specs.Learning.{Used, IsNamed, IsReached, AreContained, AreAssumed, IsJump}
use Rattle.asp_analyze.specs.Learning.{is_resolved as used_on}
use Rattle.asp_analyze.specs.Way.{IsOn, AreUpTo, CanStay, Fits, level_unless, AreMarked, Noted, Covers, IsOnTheWay, IsDown, IsPoint, IsTop, IsReady, AreSettled, Goes}
use Rattle.asp_analyze.proofs.StandLaws.{holds_on, on_holds, on_same}
use Rattle.asp_analyze.proofs.LitLaws.{all_from, all_has, or_cases, or_left, or_right, eq_itself, differ_eq}
use Rattle.asp_analyze.proofs.NoteLaws.{open_clean}
use Rattle.asp_analyze.proofs.OpenLaws.{reason_before}

-- ---- the begin
clean_at : (n v : ℕ) → mark_of (replicate n mark.Clean) v ≡ mark.Clean
clean_at zero v = refl
clean_at (suc n) zero = refl
clean_at (suc n) (suc v) = clean_at n v

length-clean : (n : ℕ) → length (replicate n mark.Clean) ≡ n
length-clean n = grind (arith, common_steps)

pub begun_small : (vars n : ℕ) (es : List Entry) (l : Literal) → IsOrdered vars es → AreUpTo n es → IsOn es l → l.var < n + 1
begun_small vars n es l o u on =
    let d : Entry = record { lit = l; level = 0; reason = None } in
    omega (arith, u on.place d on.stands.within, ap (λ (k : Literal). k.var) (on.stands.lit d))

pub marked_begins : (vars n : ℕ) (es : List Entry) (top : ℕ) (m : Marked) → IsOrdered vars es → AreUpTo n es → m ≡ unmarked (n + 1) → AreMarked es top m
marked_begins vars n es top m o u e =
    subst (λ (x : Marked). AreMarked es top x) (sym e) record {
      ordered = (vars, o);
      within = λ l h. absurd (false≢true h);
      listed = λ l on c. absurd (false≢true (sym c ∙ ap is_clean (clean_at (n + 1) l.var)));
      named = λ v c. absurd (false≢true (sym c ∙ ap is_clean (clean_at (n + 1) v)));
      fits = λ l on. subst (λ (x : Mark). Fits top (level_in es l.var) (reason_in es l.var) x) (sym (clean_at (n + 1) l.var)) tt;
      small = λ l on. omega (arith, begun_small vars n es l o u on, length-clean (n + 1));
    }

pub all_on : (vars : ℕ) (es : List Entry) (lits : List Literal) → IsOrdered vars es → AreContained vars es lits → All (λ l. IsOn es l) lits
all_on vars es lits o a i d h = holds_on vars es (get_or lits i d) o (a i d h)

pub all_small : (vars n : ℕ) (es : List Entry) (m : Marked) (lits : List Literal) → IsOrdered vars es → AreUpTo n es → m ≡ unmarked (n + 1) →
    All (λ l. IsOn es l) lits → All (λ l. l.var < length m.marks) lits
all_small vars n es m lits o u e a i d h =
    omega (arith, begun_small vars n es (get_or lits i d) o u (a i d h), ap (λ (x : Marked). length x.marks) e, length-clean (n + 1))

pub all_stay : (es : List Entry) (top : ℕ) (m : Marked) (lits : List Literal) → All (λ l. IsOn es l) lits → All (λ l. level_in es l.var ≤ top) lits →
    All (λ l. is_met (mark_of m.marks l.var) ≡ false → CanStay es top l) lits
all_stay es top m lits a b i d h u = record { on = a i d h; level = b i d h }

-- a variable that was met is open
begun_open : (es : List Entry) (n v : ℕ) (old new : Marked) (lits : List Literal) → old ≡ unmarked (n + 1) → Noted es old new lits →
    is_met (mark_of new.marks v) ≡ true → is_open (mark_of new.marks v) ≡ true
begun_open es n v old new lits e t h =
    elim (t.changed v) [
      | inl q ↦ absurd (false≢true (ap is_met (sym (q ∙ (ap (λ (x : Marked). mark_of x.marks v) e ∙ clean_at (n + 1) v))) ∙ h))
      | inr c ↦ c.open_now
    ]

pub way_begins : (vars n : ℕ) (es : List Entry) (says : Literal → ℕ → Nogood → Type 0) (from : Nogood) (top : ℕ) (old new : Marked) (b : Base) →
    IsOrdered vars es → old ≡ unmarked (n + 1) → b ≡ from.base →
    AreMarked es top new → Noted es old new from.lits → IsOnTheWay es says from top new b
way_begins vars n es says from top old new b o e q a t = record {
  marked = a;
  reached = (
    [],
    record {
      reasons = λ i d h. absurd (omega (arith, h));
      named = λ i d h. absurd (omega (arith, h));
      given = λ l h. t.met l h;
      others = λ i d h. absurd (omega (arith, h));
      resolved = λ l on r. absurd (false≢true (ap is_open (sym r) ∙ begun_open es n l.var old new from.lits e t (ap is_met r)));
      known = λ l on h. elim (t.changed l.var) [
        | inl s ↦ absurd (false≢true (ap is_open (sym (s ∙ (ap (λ (x : Marked). mark_of x.marks l.var) e ∙ clean_at (n + 1) l.var))) ∙ h))
        | inr c ↦ or_left (has_literal from.lits l) false (subst (λ (x : Literal). has_literal from.lits x ≡ true) (on_same vars es c.lit l o c.on on c.var) c.has)
      ];
    },
    q,
  );
}

-- an open one of the conflict's level is pending
open_top : (top level : ℕ) (reason : Option ℕ) (m : Mark) → Fits top level reason m → is_open m ≡ true → 0 < top → level ≡ top → m ≡ mark.Pending
open_top top level reason mark.Clean f o p q = absurd (false≢true o)
open_top top level reason mark.Pending f o p q = refl
open_top top level reason mark.Zero f o p q = absurd (omega (arith, f, p, q))
open_top top level reason mark.Kept f o p q = absurd (omega (arith, f.1 (omega (arith, p, q)), q))
open_top top level reason mark.Resolved f o p q = absurd (false≢true o)
open_top top level reason mark.Needed f o p q = absurd (false≢true o)

pub down_begins : (vars n : ℕ) (es : List Entry) (lits : List Literal) (top : ℕ) (old new : Marked) → old ≡ unmarked (n + 1) →
    All (λ l. IsOn es l) lits → AreMarked es top new → Noted es old new lits →
    (0 < top → (l : Literal) × (has_literal lits l ≡ true) × (level_in es l.var ≡ top)) → 0 < top → IsDown es (length es) new.marks
down_begins vars n es lits top old new e on a t f p =
    let k = f p in
    let there : IsOn es k.0 = all_has (λ l. IsOn es l) lits k.0 on k.1 in record {
      above = λ l j b s le q. absurd (omega (arith, s.within, le));
      some = (
        k.0,
        there,
        open_top top (level_in es k.0.var) (reason_in es k.0.var) (mark_of new.marks k.0.var) (a.fits k.0 there) (begun_open es n k.0.var old new lits e t (t.met k.0 k.1)) p k.2,
      );
    }

-- ---- the end
has_filter : (p : Literal → Bool) (n : List Literal) (l : Literal) → has_literal (filter p n) l ≡ true → (has_literal n l ≡ true) × (p l ≡ true)
has_filter p [] l h = absurd (false≢true h)
has_filter p (k ∷ n) l h = cases (has_filter p n l) (p k) refl h
  where
    later : (has_literal n l ≡ true) × (p l ≡ true) → (has_literal (k ∷ n) l ≡ true) × (p l ≡ true)
    later r = (or_right (literal_eq k l) (has_literal n l) r.0, r.1)

    cases : (has_literal (filter p n) l ≡ true → (has_literal n l ≡ true) × (p l ≡ true)) → (b : Bool) → b ≡ p k → has_literal (cond b (k ∷ filter p n) (filter p n)) l ≡ true →
        (has_literal (k ∷ n) l ≡ true) × (p l ≡ true)
    cases rest true q g = elim (or_cases (literal_eq k l) (has_literal (filter p n) l) g) [
      | inl s ↦ (or_left (literal_eq k l) (has_literal n l) s, ap p (sym (same_literal k l s)) ∙ sym q)
      | inr s ↦ later (rest s)
    ]
    cases rest false q g = later (rest g)

filter_has : (p : Literal → Bool) (n : List Literal) (l : Literal) → has_literal n l ≡ true → p l ≡ true → has_literal (filter p n) l ≡ true
filter_has p [] l h q = h
filter_has p (k ∷ n) l h q = cases (p k) refl (or_cases (literal_eq k l) (has_literal n l) h) (λ g. filter_has p n l g q)
  where
    cases : (b : Bool) → b ≡ p k → (literal_eq k l ≡ true) ⊎ (has_literal n l ≡ true) → (has_literal n l ≡ true → has_literal (filter p n) l ≡ true) →
        has_literal (cond b (k ∷ filter p n) (filter p n)) l ≡ true
    cases true r (inl s) f = or_left (literal_eq k l) (has_literal (filter p n) l) s
    cases true r (inr s) f = or_right (literal_eq k l) (has_literal (filter p n) l) (f s)
    cases false r (inl s) f = absurd (false≢true (r ∙ (ap p (same_literal k l s) ∙ q)))
    cases false r (inr s) f = f s

-- the literals that stay
abbrev pub left : Marked → List Literal
left m = filter (λ l. is_open (mark_of m.marks l.var)) m.lits

left_on : (es : List Entry) (top : ℕ) (m : Marked) (l : Literal) → AreMarked es top m → has_literal (left m) l ≡ true → IsOn es l × (is_open (mark_of m.marks l.var) ≡ true)
left_on es top m l a h = let f = has_filter (λ k. is_open (mark_of m.marks k.var)) m.lits l h in ((a.within l f.0).0, f.1)

on_left : (es : List Entry) (top : ℕ) (m : Marked) (l : Literal) → AreMarked es top m → IsOn es l → is_open (mark_of m.marks l.var) ≡ true → has_literal (left m) l ≡ true
on_left es top m l a on o = filter_has (λ k. is_open (mark_of m.marks k.var)) m.lits l (a.listed l on (open_clean (mark_of m.marks l.var) o)) o

met_cases : (m : Mark) → is_met m ≡ true → (is_open m ≡ true) ⊎ (m ≡ mark.Resolved)
met_cases mark.Clean h = absurd (false≢true h)
met_cases mark.Pending h = inl refl
met_cases mark.Zero h = inl refl
met_cases mark.Kept h = inl refl
met_cases mark.Resolved h = inr refl
met_cases mark.Needed h = absurd (false≢true h)

pub left_reached : (es : List Entry) (says : Literal → ℕ → Nogood → Type 0) (from : Nogood) (top : ℕ) (m : Marked) (b : Base) (to : Nogood) → All (λ l. IsOn es l) from.lits →
    IsOnTheWay es says from top m b → to.lits ≡ left m → to.base ≡ b → (used : List Used) × IsReached es from used to × All (IsNamed says es) used
left_reached es says from top m b to on w e q = (
  w.reached.0,
  record {
    reasons = c.reasons;
    given = λ l h. met l (all_has (λ k. IsOn es k) from.lits l on h) (c.given l h);
    others = λ i d h l g ne. met l (other i d h l g ne) (c.others i d h l g ne);
    known = λ l h. let f = left_on es top m l w.marked (subst (λ (xs : List Literal). has_literal xs l ≡ true) e h) in c.known l f.0 f.1;
    base = q ∙ w.reached.2;
  },
  c.named,
)
  where
    c : Covers es says from m.marks w.reached.0
    c = w.reached.1

    met : (l : Literal) → IsOn es l → is_met (mark_of m.marks l.var) ≡ true → (has_literal to.lits l || used_on w.reached.0 l) ≡ true
    met l n h = elim (met_cases (mark_of m.marks l.var) h) [
      | inl o ↦ or_left (has_literal to.lits l) (used_on w.reached.0 l) (subst (λ (xs : List Literal). has_literal xs l ≡ true) (sym e) (on_left es top m l w.marked n o))
      | inr s ↦ or_right (has_literal to.lits l) (used_on w.reached.0 l) (c.resolved l n s)
    ]

    other : (i : ℕ) (d : Used) → i < length w.reached.0 → (l : Literal) → has_literal (get_or w.reached.0 i d).nogood.lits l ≡ true → l ≢ complement (get_or w.reached.0 i d).lit → IsOn es l
    other i d h l g ne =
        let u : Used = get_or w.reached.0 i d in
        let t = c.reasons i d h in
        (reason_before w.marked.ordered.0 es u.lit u.nogood w.marked.ordered.1 record { place = t.place; stands = t.stands } t.reason l g ne).on

pub left_contained : (es : List Entry) (top vars : ℕ) (m : Marked) → IsOrdered vars es → AreMarked es top m → AreContained vars es (left m)
left_contained es top vars m o a = all_from (λ l. holds_in (assignment vars es) l ≡ true) (left m) (λ l h. on_holds vars es l o (left_on es top m l a h).0)

pub left_all_on : (es : List Entry) (top : ℕ) (m : Marked) → AreMarked es top m → All (λ l. IsOn es l) (left m)
left_all_on es top m a = all_from (λ l. IsOn es l) (left m) (λ l h. (left_on es top m l a h).0)

-- no literal of level 0 waits
left_settled : (es : List Entry) (top : ℕ) (m : Marked) (l : Literal) → AreMarked es top m → AreSettled (length m.lits) m → has_literal (left m) l ≡ true → is_settled (mark_of m.marks l.var) ≡ true
left_settled es top m l a s h =
    let f = has_filter (λ k. is_open (mark_of m.marks k.var)) m.lits l h in
    s l (subst (λ (xs : List Literal). has_literal xs l ≡ true) (sym (take_all (length m.lits) m.lits (omega arith))) f.0)

-- what a mark of a literal that stays says
stays_fits : (top level : ℕ) (reason : Option ℕ) (m : Mark) → Fits top level reason m → is_open m ≡ true → is_settled m ≡ true →
    (level ≡ 0 → reason ≡ None) × ((0 < level → level < top) ⊎ ((0 < top) × (level ≡ top) × (m ≡ mark.Pending)))
stays_fits top level reason mark.Clean f o s = absurd (false≢true o)
stays_fits top level reason mark.Pending f o s = (λ z. absurd (omega (arith, z, f.0, f.1)), inr (f.0, f.1, refl))
stays_fits top level reason mark.Zero f o s = absurd (false≢true s)
stays_fits top level reason mark.Kept f o s = (f.0, inl f.1)
stays_fits top level reason mark.Resolved f o s = absurd (false≢true o)
stays_fits top level reason mark.Needed f o s = absurd (false≢true o)

left_fits : (es : List Entry) (top : ℕ) (m : Marked) (l : Literal) → AreMarked es top m → AreSettled (length m.lits) m → has_literal (left m) l ≡ true →
    (level_in es l.var ≡ 0 → reason_in es l.var ≡ None) × ((0 < level_in es l.var → level_in es l.var < top) ⊎ ((0 < top) × (level_in es l.var ≡ top) × (mark_of m.marks l.var ≡ mark.Pending)))
left_fits es top m l a s h =
    let f = left_on es top m l a h in
    stays_fits top (level_in es l.var) (reason_in es l.var) (mark_of m.marks l.var) (a.fits l f.0) f.1 (left_settled es top m l a s h)

pub left_assumed : (es : List Entry) (top : ℕ) (m : Marked) → AreMarked es top m → AreSettled (length m.lits) m → AreAssumed es (left m)
left_assumed es top m a s = all_from (λ l. level_in es l.var ≡ 0 → reason_in es l.var ≡ None) (left m) (λ l h. (left_fits es top m l a s h).0)

zero_or : (n : ℕ) → (0 < n → n < 0) → n ≡ 0
zero_or zero f = refl
zero_or (suc n) f = absurd (omega (arith, f (omega arith)))

pub ready_none : (es : List Entry) (from : List Literal) (top : ℕ) (m : Marked) → AreMarked es top m → AreSettled (length m.lits) m → All (λ l. level_in es l.var ≤ top) from → top ≡ 0 →
    All (λ l. level_in es l.var ≡ 0) from × All (λ l. level_in es l.var ≡ 0) (left m)
ready_none es from top m a s below z = (
  λ i d h. omega (arith, below i d h, z),
  all_from (λ l. level_in es l.var ≡ 0) (left m) (λ l h. elim (left_fits es top m l a s h).1 [
    | inl f ↦ zero_or (level_in es l.var) (λ p. omega (arith, f p, z))
    | inr f ↦ absurd (omega (arith, f.0, z))
  ]),
)

pub ready_some : (es : List Entry) (from : List Literal) (top : ℕ) (old m : Marked) (point : Literal) → AreMarked es top m → AreSettled (length m.lits) m → Goes es old m → IsPoint es old.marks point →
    All (λ l. level_in es l.var ≤ top) from → (0 < top → (l : Literal) × (has_literal from l ≡ true) × (level_in es l.var ≡ top)) → IsTop es from (left m) point
ready_some es from top old m point a s g p below attained = record {
  has = on_left es top m point a p.on (ap is_open pending);
  low = omega (arith, fit.0, fit.1);
  others = λ l h ne. elim (left_fits es top m l a s h).1 [
    | inl f ↦ less (level_in es l.var) f
    | inr f ↦ absurd (ne (p.only l (left_on es top m l a h).0 (g.none l (left_on es top m l a h).0 f.2)))
  ];
  top = let k = attained fit.0 in (k.0, k.1, k.2 ∙ sym fit.1);
  topmost = λ i d h. omega (arith, below i d h, fit.1);
}
  where
    pending : mark_of m.marks point.var ≡ mark.Pending
    pending = g.pending point p.on p.pending

    fit : (0 < top) × (level_in es point.var ≡ top)
    fit = subst (λ (x : Mark). Fits top (level_in es point.var) (reason_in es point.var) x) pending (a.fits point p.on)

    less : (n : ℕ) → (0 < n → n < top) → n < level_in es point.var
    less zero f = omega (arith, fit.0, fit.1)
    less (suc n) f = omega (arith, f (omega arith), fit.1)

-- ---- the jump
not_not : (b : Bool) → not (not b) ≡ b
not_not true = refl
not_not false = refl

twice : (l : Literal) → complement (complement l) ≡ l
twice l = λ i. record { var = l.var; truth = not_not l.truth i }

unless_other : (es : List Entry) (out l : Literal) → l ≢ out → level_unless es out l ≡ level_in es l.var
unfolding level_unless
unless_other es out l ne = ap {B = ℕ} (λ (b : Bool). cond b 0 (level_in es l.var)) (differ_eq l out ne)

unless_cases : (es : List Entry) (out l : Literal) → 0 < level_unless es out l → l ≢ out
unfolding level_unless
unless_cases es out l p e =
    absurd (omega (arith, p, ap {B = ℕ} (λ (b : Bool). cond b 0 (level_in es l.var)) (ap (λ (k : Literal). literal_eq l k) (sym e) ∙ eq_itself l)))

pub jump_learned : (es : List Entry) (from n : List Literal) (point : Literal) (level : ℕ) → IsTop es from n point → All (λ k. level_unless es point k ≤ level) n →
    (0 < level → (k : Literal) × (has_literal n k ≡ true) × (level_unless es point k ≡ level)) → IsJump es from n level (complement point)
jump_learned es from n point level t below attained = record {
  has = subst (λ (l : Literal). has_literal n l ≡ true) (sym (twice point)) t.has;
  above = above level refl;
  others = λ l h ne.
      let other : l ≢ point = λ e. ne (e ∙ sym (twice point)) in
      omega (arith, all_has (λ k. level_unless es point k ≤ level) n l below h, unless_other es point l other);
  attained = λ p.
      let k = attained p in
      let other = apart k.0 (omega (arith, k.2, p)) in
      (k.0, k.1, (λ e. other (e ∙ twice point)), sym (unless_other es point k.0 other) ∙ k.2);
  top = t.top;
  topmost = t.topmost;
}
  where
    apart : (k : Literal) → 0 < level_unless es point k → k ≢ point
    apart k p = unless_cases es point k p

    above : (b : ℕ) → b ≡ level → b < level_in es point.var
    above zero q = t.low
    above (suc b) q =
        let k = attained (omega (arith, q)) in
        let other = apart k.0 (omega (arith, k.2, q)) in
        omega (arith, t.others k.0 k.1 other, unless_other es point k.0 other, k.2, q)

-- ---- the answer
pub ready : (es : List Entry) (from : List Literal) (top : ℕ) (old m : Marked) → AreMarked es top m → AreSettled (length m.lits) m → Goes es old m → All (λ l. level_in es l.var ≤ top) from →
    (0 < top → (l : Literal) × (has_literal from l ≡ true) × (level_in es l.var ≡ top)) → (p : Option Literal) → IfSome p (IsPoint es old.marks) → IfNone p (top ≡ 0) → IsReady es from (left m) p
ready es from top old m a s g below attained None found none = ready_none es from top m a s below none
ready es from top old m a s g below attained (Some point) found none = ready_some es from top old m point a s g found below attained
