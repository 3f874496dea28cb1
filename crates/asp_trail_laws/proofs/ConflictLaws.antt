-- What a trail shows of a conflict: the literals of the entries before a decision.
use Rattle.std.proofs.Common.{◌≡◌, ℕ, ◌+◌, ◌-◌, ◌<◌, ◌≤◌, true, false, List, ◌++◌, length, get_or, take, Option, inl, inr, ◌⊎◌, sym, ap, ◌∙◌, subst, arith}
use Rattle.std.specs.Prelude.{ℤ}
use Rattle.std.proofs.lemmas.Bool.{false_from_ne_true, cases_lt}
use Rattle.std.proofs.lemmas.List.{length-take, length-take-le, get_or-take}
use Rattle.asp_model.specs.declared.program.Program.{Program}
use Rattle.asp_model.specs.Sets.{Atoms}
use Rattle.asp_vars.specs.Literals.{Literal, F, complement, has_literal}
use Rattle.asp_vars.specs.Completion.{completion}
use Rattle.asp_vars.specs.Conflicts.{has_all, earlier, last, IsConflict, Shows}
use Rattle.asp_vars.specs.Entailment.{Settled}
use Rattle.asp_vars.proofs.ConflictLaws.{conflict_shown}
use Rattle.asp_trail.specs.declared.trail.Entry.{Entry}
use Rattle.asp_trail.specs.Entries.{level_in}
use Rattle.asp_trail.specs.Reasons.{Stands}
use Rattle.asp_trail.specs.Trails.{IsOrdered}
use Rattle.asp_trail.proofs.FixpointLaws.{list_all_at}
use Rattle.asp_trail_laws.specs.Fixpoint.{WereAtFixpoint}
use Rattle.asp_trail_laws.specs.Starts.{nth_decision, Begins, AreStarts}
use Rattle.asp_trail_laws.proofs.LitLaws.{all_pass, has_append, has_place}
use Rattle.asp_trail_laws.proofs.PlaceLaws.{blank, level_at, level_in_top, rising_le, stands_take}
use Rattle.asp_trail.proofs.HeldLaws.{ordered_take}
use Rattle.asp_trail_laws.proofs.ClosedLaws.{lits, lits_at, lits_place, closed_all, none_within, no_clash}

-- ---- the entries before a decision
module _ (vars : ℕ) (es : List Entry) (o : IsOrdered vars es) (D : Literal) (k : ℕ) (b : Begins es D k) (high : 0 < k) where
  -- a literal of a lower level stands before it
  low_before : (l : Literal) (i c : ℕ) → Stands es l i c → c < k → has_literal (lits (take b.place es)) l ≡ true
  low_before l i c s lt = cases (cases_lt i b.place)
    where
      cases : (i < b.place) ⊎ (b.place ≤ i) → has_literal (lits (take b.place es)) l ≡ true
      cases (inl h) =
          let fits : b.place ≤ length es = omega (arith, b.stands.within) in
          let t = stands_take b.place es l i c fits h s in
          lits_at (take b.place es) i l t.within (t.lit blank)
      cases (inr h) =
          let le : (get_or es b.place blank).level ≤ (get_or es i blank).level = rising_le es b.place i blank o.rising h s.within in
          absurd (omega (arith, le, b.stands.level blank, s.level blank, lt))

  -- and what stands before it is of a lower level
  before_low : (l : Literal) → has_literal (lits (take b.place es)) l ≡ true → (i : ℕ) × (i < b.place) × ((get_or es i blank).lit ≡ l) × (level_in es l.var < k)
  before_low l h =
      let fits : b.place ≤ length es = omega (arith, b.stands.within) in
      let f = lits_place (take b.place es) l h in
      let lt : f.0 < b.place = omega (arith, f.1, length-take-le b.place es fits) in
      let is : (get_or es f.0 blank).lit ≡ l = sym (ap (λ (e : Entry). e.lit) (get_or-take b.place es f.0 blank lt)) ∙ f.2 in
      let le : (get_or es f.0 blank).level ≤ (get_or es b.place blank).level = o.rising f.0 b.place blank lt b.stands.within in
      let first : (get_or es f.0 blank).level ≡ (get_or es b.place blank).level → (get_or es b.place blank).level ≡ 0 = o.decided f.0 b.place blank lt b.stands.within (b.unimplied blank) in
      let at : level_in es l.var ≡ (get_or es f.0 blank).level = level_at vars es f.0 blank l o (omega (arith, lt, fits)) is in
      (f.0, lt, is, omega (arith, at, le, b.stands.level blank, below (get_or es f.0 blank).level (get_or es b.place blank).level (b.stands.level blank) le first))
    where
      below : (x y : ℕ) → y ≡ k → x ≤ y → (x ≡ y → y ≡ 0) → x < k
      below x y q le first = cases (cases_lt x y)
        where
          cases : (x < y) ⊎ (y ≤ x) → x < k
          cases (inl lt) = omega (arith, lt, q)
          cases (inr ge) = absurd (omega (arith, first (omega (arith, le, ge)), q, high))

  -- its variable has no value before it
  open_before : (l : Literal) → l.var ≡ D.var → has_literal (lits (take b.place es)) l ≡ false
  open_before l q = false_from_ne_true (has_literal (lits (take b.place es)) l) (λ h.
      let f = before_low l h in
      o.apart f.0 b.place blank f.1 b.stands.within (ap (λ (x : Literal). x.var) f.2 ∙ (q ∙ sym (ap (λ (x : Literal). x.var) (b.stands.lit blank)))))

-- ---- the conflict
module _ (p : Program) (vars : ℕ) (cube decisions : List Literal) (es : List Entry) (nogood : List Literal) (l : Literal) (k : ℕ)
    (o : IsOrdered vars es) (s : AreStarts cube decisions es) (w : WereAtFixpoint vars (completion p) es)
    (high : 0 < k) (has : has_literal nogood l ≡ true) (at : level_in es l.var ≡ k) where
  few : k ≤ length decisions
  few = omega (arith, at, level_in_top es l.var o.rising, s.counted)

  len : length (take k decisions) ≡ k
  len = length-take-le k decisions few

  begun : (b : Begins es (nth_decision decisions (k - 1)) k) → has_all (lits (take b.place es)) (cube ++ earlier (take k decisions)) ≡ true
  begun b = all_pass (has_literal (lits (take b.place es))) (cube ++ earlier (take k decisions)) (λ m h. each m (has_append cube (earlier (take k decisions)) m h))
    where
      each : (m : Literal) → (has_literal cube m ≡ true) ⊎ (has_literal (earlier (take k decisions)) m ≡ true) → has_literal (lits (take b.place es)) m ≡ true
      each m (inl h) = let t = s.cube_stands m h in low_before vars es o (nth_decision decisions (k - 1)) k b high m t.0 0 t.1 high
      each m (inr h) =
          let f = has_place (earlier (take k decisions)) m h in
          let lt : f.0 < k - 1 = omega (arith, f.1, len, length-take (length (take k decisions) - 1) (take k decisions)) in
          let inner : f.0 < length (take k decisions) - 1 = omega (arith, lt, len) in
          let is : nth_decision decisions f.0 ≡ m =
          sym (get_or-take (length (take k decisions) - 1) (take k decisions) f.0 (F 0) inner ∙ get_or-take k decisions f.0 (F 0) (omega (arith, lt))) ∙ f.2 (F 0) in
          let t = s.decisions_stand f.0 (omega (arith, lt, few)) in
          subst (λ (x : Literal). has_literal (lits (take b.place es)) x ≡ true) is
          (low_before vars es o (nth_decision decisions (k - 1)) k b high (nth_decision decisions f.0) t.place (f.0 + 1) t.stands (omega (arith, lt)))

  last_is : last (take k decisions) ≡ nth_decision decisions (k - 1)
  last_is = ap (λ (i : ℕ). get_or (take k decisions) (i - 1) (F 0)) len ∙ get_or-take k decisions (k - 1) (F 0) (omega (arith, high))

  shows : (b : Begins es (nth_decision decisions (k - 1)) k) → Shows p cube (take k decisions) nogood (lits (take b.place es))
  shows b =
      let first = ordered_take vars es b.place o in
      let fixpoint = w b.place blank b.stands.within (b.unimplied blank) (omega (arith, b.stands.level blank, high)) in
      record {
        decided = omega (arith, len, high);
        closed = closed_all vars (take b.place es) first (completion p) fixpoint;
        begun = begun b;
        consistent = no_clash vars (take b.place es) first;
        unbroken = none_within vars (take b.place es) first (completion p) fixpoint;
        open_true = open_before vars es o (nth_decision decisions (k - 1)) k b high (last (take k decisions)) (ap (λ (x : Literal). x.var) last_is);
        open_false = open_before vars es o (nth_decision decisions (k - 1)) k b high (complement (last (take k decisions))) (ap (λ (x : Literal). x.var) last_is);
        new = false_from_ne_true (has_all (lits (take b.place es)) nogood) (λ h.
            let f = before_low vars es o (nth_decision decisions (k - 1)) k b high l (list_all_at (has_literal (lits (take b.place es))) nogood l h has) in
            omega (arith, f.3, at));
      }

  pub conflict : (K : List Atoms) (bound : Option (List ℤ)) → Settled p K bound (cube ++ take k decisions) → Settled p K bound nogood → IsConflict p K bound cube (take k decisions) nogood
  conflict K bound settled justified =
      let same : k - 1 + 1 ≡ k = omega (arith, high) in
      let b = subst (λ (c : ℕ). Begins es (nth_decision decisions (k - 1)) c) same (s.decisions_stand (k - 1) (omega (arith, few, high))) in
      conflict_shown p K bound cube (take k decisions) nogood (lits (take b.place es)) (shows b) settled justified
