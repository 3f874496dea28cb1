-- A literal is resolved with its reason.
use Rattle.std.proofs.Common.{◌≡◌, ◌≢◌, ℕ, ◌<◌, ◌≤◌, Bool, true, false, eqb, List, [], ◌∷◌, ◌++◌, Some, None, length, set, inl, inr, refl, sym, ap, ◌∙◌, subst, arith}
use Rattle.std.specs.List.{All, list_any}
use Rattle.std.proofs.lemmas.Bool.{eqb-true, false≢true}
use Rattle.std.proofs.lemmas.Bool.Decides.{nat_tests}
use Rattle.std.proofs.lemmas.List.Elements.{All-push}
use Rattle.std.proofs.lemmas.List.Folds.{list_any-append}
use Rattle.asp_vars.specs.Literals.{Literal, complement, has_literal, literal_eq}
use Rattle.asp_vars.specs.Resolution.{joined}
use Rattle.asp_vars.specs.declared.nogood.Nogood.{Nogood}
use Rattle.asp_vars.specs.declared.nogood.Base.{Base}
use Rattle.asp_trail.specs.declared.trail.Entry.{Entry}
use Rattle.asp_trail.specs.Entries.{level_in, reason_in}
use Rattle.asp_trail.specs.Reasons.{Stands, IsReason, AreAsked, AreReasons}
use Rattle.asp_trail.specs.Trails.{IsOrdered}
use Rattle.asp_analyze.specs.declared.marks.Mark.{Mark}
use Rattle.asp_analyze.specs.declared.marks.Mark.TheVariants as mark
use Rattle.asp_analyze.specs.Marks.{Marked, mark_of, is_clean, is_open, is_met}
use Rattle.asp_analyze.specs.Learning.{Used, IsUsed, IsNamed, is_resolved, is_from, base_after}
use Rattle.asp_analyze.specs.Way.{IsOn, CanStay, AreMarked, Noted, IsBefore, Opened, Covers, IsOnTheWay}
use Rattle.asp_analyze.proofs.StandLaws.{on_same, stands_level, stands_reason, stands_once, stands_rising}
use Rattle.asp_analyze.proofs.LitLaws.{all_from, or_cases, or_left, or_right, eq_itself}
use Rattle.asp_analyze.proofs.MarkLaws.{mark_set_same, mark_set_other}
use Rattle.asp_analyze.proofs.NoteLaws.{marked_changed}

-- ---- the reason of an entry's literal
pub reason_at : (vars : ℕ) (es : List Entry) (says : Literal → ℕ → Nogood → Type 0) (lit : Literal) (id : ℕ) (n : Nogood) → IsOrdered vars es → AreReasons says es → (on : IsOn es lit) →
    reason_in es lit.var ≡ Some id → says lit id n → IsReason es on.place lit n.lits
reason_at vars es says lit id n o r on q k =
    let d : Entry = record { lit = lit; level = 0; reason = None } in
    subst (λ (l : Literal). IsReason es on.place l n.lits) (on.stands.lit d)
    (r on.place d id n on.stands.within (sym (stands_reason vars es lit on.place (level_in es lit.var) d o on.stands) ∙ q)
    (subst (λ (l : Literal). says l id n) (sym (on.stands.lit d)) k))

pub reason_asked : (vars : ℕ) (es : List Entry) (asks : Literal → ℕ → Type 0) (lit : Literal) (id : ℕ) → IsOrdered vars es → AreAsked asks es → IsOn es lit → reason_in es lit.var ≡ Some id →
    asks lit id
reason_asked vars es asks lit id o a on q =
    let d : Entry = record { lit = lit; level = 0; reason = None } in
    subst (λ (l : Literal). asks l id) (on.stands.lit d) (a on.place d id on.stands.within (sym (stands_reason vars es lit on.place (level_in es lit.var) d o on.stands) ∙ q))

-- the literals of a reason beside the one that was implied stand before
pub reason_before : (vars : ℕ) (es : List Entry) (lit : Literal) (n : Nogood) → IsOrdered vars es → (on : IsOn es lit) → IsReason es on.place lit n.lits →
    (l : Literal) → has_literal n.lits l ≡ true → l ≢ complement lit → IsBefore es l lit
reason_before vars es lit n o on f l h ne =
    let t = f.others l h ne in
    let there : IsOn es l = record { place = t.0; stands = subst (λ (b : ℕ). Stands es l t.0 b) (sym (stands_level vars es l t.0 t.1 o t.3)) t.3 } in record {
      on = there;
      level = stands_rising vars es l lit t.0 on.place (level_in es l.var) (level_in es lit.var) o there.stands on.stands t.2;
      before = λ i b s. omega (arith, t.2, stands_once vars es lit i on.place b (level_in es lit.var) o s on.stands);
    }

pub reason_others : (vars : ℕ) (es : List Entry) (says : Literal → ℕ → Nogood → Type 0) (lit : Literal) (id : ℕ) (n : Nogood) → IsOrdered vars es → AreReasons says es → IsOn es lit →
    reason_in es lit.var ≡ Some id → says lit id n → (l : Literal) → has_literal n.lits l ≡ true → l ≢ complement lit → IsBefore es l lit
reason_others vars es says lit id n o r on q k l h ne = reason_before vars es lit n o on (reason_at vars es says lit id n o r on q k) l h ne

-- a literal of the same variable is the one that was implied
pub reason_var : (vars : ℕ) (es : List Entry) (says : Literal → ℕ → Nogood → Type 0) (lit : Literal) (id : ℕ) (n : Nogood) → IsOrdered vars es → AreReasons says es → IsOn es lit →
    reason_in es lit.var ≡ Some id → says lit id n → (l : Literal) → has_literal n.lits l ≡ true → l.var ≢ lit.var → IsBefore es l lit
reason_var vars es says lit id n o r on q k l h ne = reason_others vars es says lit id n o r on q k l h (λ e. ne (ap (λ (x : Literal). x.var) e))

pub reason_small : (vars : ℕ) (es : List Entry) (says : Literal → ℕ → Nogood → Type 0) (top : ℕ) (m : Marked) (lit : Literal) (id : ℕ) (n : Nogood) → IsOrdered vars es → AreReasons says es →
    AreMarked es top m → IsOn es lit → reason_in es lit.var ≡ Some id → says lit id n → All (λ l. l.var < length m.marks) n.lits
reason_small vars es says top m lit id n o r a on q k =
    all_from (λ l. l.var < length m.marks) n.lits (λ l h. cases l h (eqb l.var lit.var) refl)
  where
    cases : (l : Literal) → has_literal n.lits l ≡ true → (b : Bool) → b ≡ eqb l.var lit.var → l.var < length m.marks
    cases l h true e = omega (arith, eqb-true l.var lit.var (sym e), a.small lit on)
    cases l h false e =
        let ne : l.var ≢ lit.var = grind (arith, nat_tests) in
        a.small l (reason_var vars es says lit id n o r on q k l h ne).on

-- they can stay, where the literal itself is met
pub reason_stays : (vars : ℕ) (es : List Entry) (says : Literal → ℕ → Nogood → Type 0) (top : ℕ) (marks : List Mark) (lit : Literal) (id : ℕ) (n : Nogood) → IsOrdered vars es → AreReasons says es →
    IsOn es lit → level_in es lit.var ≤ top → reason_in es lit.var ≡ Some id → says lit id n → is_met (mark_of marks lit.var) ≡ true →
    All (λ l. is_met (mark_of marks l.var) ≡ false → CanStay es top l) n.lits
reason_stays vars es says top marks lit id n o r on le q k met =
    all_from (λ l. is_met (mark_of marks l.var) ≡ false → CanStay es top l) n.lits (λ l h u.
    let ne : l.var ≢ lit.var = λ e. false≢true (sym u ∙ (ap (λ (v : ℕ). is_met (mark_of marks v)) e ∙ met)) in
    let b = reason_var vars es says lit id n o r on q k l h ne in
    record { on = b.on; level = omega (arith, b.level, le) })

-- ---- what opening does
pub opened_marks : (vars : ℕ) (es : List Entry) (says : Literal → ℕ → Nogood → Type 0) (top : ℕ) (old mid new : Marked) (lit : Literal) (id : ℕ) (n : Nogood) → IsOrdered vars es → AreReasons says es →
    AreMarked es top old → IsOn es lit → reason_in es lit.var ≡ Some id → says lit id n → mid ≡ record old { marks = set old.marks lit.var mark.Resolved } → Noted es mid new n.lits →
    Opened es lit old new
opened_marks vars es says top old mid new lit id n o r a on q k e t = record {
  gone = t.stays lit.var (ap is_met here) ∙ here;
  stays = λ v ne h. t.stays v (ap is_met (there v ne) ∙ h) ∙ there v ne;
  changed = λ l n' ne. elim (t.changed l.var) [
    | inl s ↦ inl (s ∙ there l.var ne)
    | inr c ↦
        let is : c.lit ≡ l = on_same vars es c.lit l o c.on n' c.var in
        inr (
          reason_var vars es says lit id n o r on q k l (subst (λ (x : Literal). has_literal n.lits x ≡ true) is c.has) ne,
          c.open_now,
        )
  ];
  grown = (t.grown.0, t.grown.1 ∙ ap (λ (x : Marked). x.lits ++ t.grown.0) e);
}
  where
    marks : mid.marks ≡ set old.marks lit.var mark.Resolved
    marks = ap (λ (x : Marked). x.marks) e

    here : mark_of mid.marks lit.var ≡ mark.Resolved
    here = ap (λ (ms : List Mark). mark_of ms lit.var) marks ∙ mark_set_same old.marks lit.var mark.Resolved (a.small lit on)

    there : (v : ℕ) → v ≢ lit.var → mark_of mid.marks v ≡ mark_of old.marks v
    there v ne = ap (λ (ms : List Mark). mark_of ms v) marks ∙ mark_set_other old.marks lit.var v mark.Resolved ne

-- what was met stays so
pub opened_met : (es : List Entry) (lit : Literal) (old new : Marked) (v : ℕ) → Opened es lit old new → is_met (mark_of old.marks v) ≡ true → is_met (mark_of new.marks v) ≡ true
opened_met es lit old new v t h = cases (eqb v lit.var) refl
  where
    cases : (b : Bool) → b ≡ eqb v lit.var → is_met (mark_of new.marks v) ≡ true
    cases true q = ap (λ (w : ℕ). is_met (mark_of new.marks w)) (eqb-true v lit.var (sym q)) ∙ ap is_met t.gone
    cases false q = let ne : v ≢ lit.var = grind (arith, nat_tests) in ap is_met (t.stays v ne h) ∙ h

-- ---- one more reason
resolved_more : (used : List Used) (u : Used) (l : Literal) → is_resolved used l ≡ true → is_resolved (used ++ u ∷ []) l ≡ true
resolved_more used u l h =
    list_any-append (λ x. literal_eq x.lit l) used (u ∷ []) ∙ or_left (is_resolved used l) (is_resolved (u ∷ []) l) h

resolved_last : (used : List Used) (u : Used) → is_resolved (used ++ u ∷ []) u.lit ≡ true
resolved_last used u =
    list_any-append (λ x. literal_eq x.lit u.lit) used (u ∷ [])
    ∙ or_right (is_resolved used u.lit) (is_resolved (u ∷ []) u.lit) (or_left (literal_eq u.lit u.lit) false (eq_itself u.lit))

from_more : (from : Nogood) (used : List Used) (u : Used) (l : Literal) → is_from from used l ≡ true → is_from from (used ++ u ∷ []) l ≡ true
from_more from used u l h =
    elim (or_cases (has_literal from.lits l) (list_any (λ x. has_literal x.nogood.lits l) used) h) [
      | inl g ↦ or_left (has_literal from.lits l) (list_any (λ x. has_literal x.nogood.lits l) (used ++ u ∷ [])) g
      | inr g ↦ or_right (has_literal from.lits l) (list_any (λ x. has_literal x.nogood.lits l) (used ++ u ∷ []))
          (list_any-append (λ x. has_literal x.nogood.lits l) used (u ∷ []) ∙ or_left (list_any (λ x. has_literal x.nogood.lits l) used) (list_any (λ x. has_literal x.nogood.lits l) (u ∷ [])) g)
    ]

from_last : (from : Nogood) (used : List Used) (u : Used) (l : Literal) → has_literal u.nogood.lits l ≡ true → is_from from (used ++ u ∷ []) l ≡ true
from_last from used u l g =
    or_right (has_literal from.lits l) (list_any (λ x. has_literal x.nogood.lits l) (used ++ u ∷ []))
    (list_any-append (λ x. has_literal x.nogood.lits l) used (u ∷ [])
    ∙ or_right (list_any (λ x. has_literal x.nogood.lits l) used) (list_any (λ x. has_literal x.nogood.lits l) (u ∷ [])) (or_left (has_literal u.nogood.lits l) false g))

base_after-push : (b : Base) (used : List Used) (u : Used) → base_after b (used ++ u ∷ []) ≡ joined (base_after b used) u.nogood.base
base_after-push b [] u = refl
base_after-push b (w ∷ used) u = base_after-push (joined b w.nogood.base) used u

-- the reason counts among those used, and its literals were met
covers_opened : (vars : ℕ) (es : List Entry) (says : Literal → ℕ → Nogood → Type 0) (from : Nogood) (old mid new : Marked) (lit : Literal) (id : ℕ)
    (n : Nogood) (used : List Used) → IsOrdered vars es → AreReasons says es →
    IsOn es lit → reason_in es lit.var ≡ Some id → says lit id n → Opened es lit old new → Noted es mid new n.lits → mark_of mid.marks lit.var ≡ mark.Resolved →
    ((v : ℕ) → v ≢ lit.var → mark_of mid.marks v ≡ mark_of old.marks v) → Covers es says from old.marks used →
    Covers es says from new.marks (used ++ record { lit = lit; nogood = n } ∷ [])
covers_opened vars es says from old mid new lit id n used o r on q k t s here there c = record {
  reasons = All-push (IsUsed es) used u c.reasons record { place = on.place; stands = on.stands; reason = reason_at vars es says lit id n o r on q k };
  named = All-push (IsNamed says es) used u c.named record { number = id; names = q; said = k };
  given = λ l h. opened_met es lit old new l.var t (c.given l h);
  others = All-push (λ (x : Used). (l : Literal) → has_literal x.nogood.lits l ≡ true → l ≢ complement x.lit → is_met (mark_of new.marks l.var) ≡ true) used u
      (λ i d h l g ne. opened_met es lit old new l.var t (c.others i d h l g ne))
      (λ l g ne. s.met l g);
  resolved = λ l m h. cases l m h (eqb l.var lit.var) refl;
  known = λ l m h. elim (s.changed l.var) [
    | inl e ↦ from_more from used u l (c.known l m (ap is_open (sym (e ∙ there l.var (apart l h))) ∙ h))
    | inr w ↦ from_last from used u l (subst (λ (x : Literal). has_literal n.lits x ≡ true) (on_same vars es w.lit l o w.on m w.var) w.has)
  ];
}
  where
    u : Used
    u = record { lit = lit; nogood = n }

    -- the literal itself isn't open
    apart : (l : Literal) → is_open (mark_of new.marks l.var) ≡ true → l.var ≢ lit.var
    apart l h e = false≢true (sym (ap (λ (v : ℕ). is_open (mark_of new.marks v)) e ∙ ap is_open t.gone) ∙ h)

    cases : (l : Literal) → IsOn es l → mark_of new.marks l.var ≡ mark.Resolved → (b : Bool) → b ≡ eqb l.var lit.var → is_resolved (used ++ u ∷ []) l ≡ true
    cases l m h true e =
        subst (λ (x : Literal). is_resolved (used ++ u ∷ []) x ≡ true) (sym (on_same vars es l lit o m on (eqb-true l.var lit.var (sym e)))) (resolved_last used u)
    cases l m h false e =
        let ne : l.var ≢ lit.var = grind (arith, nat_tests) in
        elim (s.changed l.var) [
          | inl g ↦ resolved_more used u l (c.resolved l m (sym (g ∙ there l.var ne) ∙ h))
          | inr w ↦ absurd (false≢true (sym (ap is_open h) ∙ w.open_now))
        ]

pub way_opened : (es : List Entry) (says : Literal → ℕ → Nogood → Type 0) (from : Nogood) (top : ℕ) (old mid new : Marked) (b b' : Base) (lit : Literal) (id : ℕ) (n : Nogood) → AreReasons says es →
    IsOn es lit → reason_in es lit.var ≡ Some id → says lit id n → mid ≡ record old { marks = set old.marks lit.var mark.Resolved } → AreMarked es top new → Noted es mid new n.lits →
    b' ≡ joined b n.base → IsOnTheWay es says from top old b → IsOnTheWay es says from top new b'
way_opened es says from top old mid new b b' lit id n r on q k e a s j w =
    let vars = w.marked.ordered.0 in
    let o = w.marked.ordered.1 in
    let t = opened_marks vars es says top old mid new lit id n o r w.marked on q k e s in
    let u : Used = record { lit = lit; nogood = n } in
    let marks : mid.marks ≡ set old.marks lit.var mark.Resolved = ap (λ (x : Marked). x.marks) e in record {
      marked = a;
      reached = (
        w.reached.0 ++ u ∷ [],
        covers_opened vars es says from old mid new lit id n w.reached.0 o r on q k t s
            (ap (λ (ms : List Mark). mark_of ms lit.var) marks ∙ mark_set_same old.marks lit.var mark.Resolved (w.marked.small lit on))
            (λ v ne. ap (λ (ms : List Mark). mark_of ms v) marks ∙ mark_set_other old.marks lit.var v mark.Resolved ne)
            w.reached.1,
        j ∙ (ap (λ (x : Base). joined x n.base) w.reached.2 ∙ sym (base_after-push from.base w.reached.0 u)),
      );
    }

pub opened_marked : (es : List Entry) (top : ℕ) (old mid : Marked) (lit : Literal) → AreMarked es top old → IsOn es lit → is_clean (mark_of old.marks lit.var) ≡ false →
    mid ≡ record old { marks = set old.marks lit.var mark.Resolved } → AreMarked es top mid
opened_marked es top old mid lit a on c e = marked_changed es top old mid lit mark.Resolved a on refl tt c e
