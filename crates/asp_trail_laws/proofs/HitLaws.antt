-- A stable model that hits the cube and the decisions hits what follows from them.
use Rattle.std.proofs.Common.{◌≡◌, ℕ, suc, zero, ◌-◌, ◌<◌, ◌≤◌, Bool, true, false, not, List, ◌++◌, length, get_or, take, Option, Some, None, inl, inr, ◌⊎◌, refl, sym, ap, ◌∙◌, subst, arith}
use Rattle.std.specs.Prelude.{ℤ}
use Rattle.std.proofs.lemmas.Bool.{false≢true, cases_lt, not_from_false}
use Rattle.std.proofs.lemmas.List.{length-take, get_or-take, get_or_default}
use Rattle.asp_model.specs.declared.program.Program.{Program}
use Rattle.asp_model.specs.Sets.{Atoms}
use Rattle.asp_model.specs.Models.{is_stable}
use Rattle.asp_vars.specs.Literals.{Literal, F, complement, literal_eq, has_literal, is_true, hits}
use Rattle.asp_vars.specs.Numbering.{values}
use Rattle.asp_vars.specs.Entailment.{HitsOnly, is_done}
use Rattle.asp_vars.proofs.LiteralLaws.{same_literal, is_true-complement, hits-has}
use Rattle.asp_trail.specs.declared.trail.Entry.{Entry}
use Rattle.asp_trail.specs.Reasons.{IsReason}
use Rattle.asp_trail.specs.Trails.{IsOrdered}
use Rattle.asp_trail.proofs.TrailLaws.{level_top}
use Rattle.asp_trail_laws.specs.Settling.{AreSettled}
use Rattle.asp_trail_laws.specs.Starts.{IsStart, AreStarts}
use Rattle.asp_trail_laws.proofs.LitLaws.{eq_differ, all_pass, has_at, has_more, has_later}
use Rattle.asp_trail_laws.proofs.PlaceLaws.{rising_le}

-- no set hits a literal and its complement
pub clash_settled : (p : Program) (e : Atoms → Bool) (n : List Literal) (l : Literal) → has_literal n l ≡ true → has_literal n (complement l) ≡ true → HitsOnly p e n
clash_settled p e n l a b = record {
  excused = λ S stable h.
      let holds = hits-has (values p S) n l h a in
      let other = hits-has (values p S) n (complement l) h b in
      absurd (false≢true (sym (is_true-complement (values p S) l ∙ ap not holds) ∙ other));
}

-- ---- entries
-- a literal of the cube, or the decision of a level up to k
start_hit : (v : List Bool) (cube decisions : List Literal) (k : ℕ) (e : Entry) → hits v (cube ++ take k decisions) ≡ true → e.level ≤ k → e.level ≤ length decisions →
    IsStart cube decisions e → is_true v e.lit ≡ true
start_hit v cube decisions k e h le few s = cases (cases_lt 0 e.level)
  where
    cases : (0 < e.level) ⊎ (e.level ≤ 0) → is_true v e.lit ≡ true
    cases (inl p) =
        let j : e.level - 1 < k = omega (arith, p, le) in
        let fits : e.level - 1 < length (take k decisions) = omega (arith, p, le, few, length-take k decisions) in
        let here : has_literal (take k decisions) (get_or (take k decisions) (e.level - 1) (F 0)) ≡ true = has_at (take k decisions) (e.level - 1) (F 0) fits in
        let same : get_or (take k decisions) (e.level - 1) (F 0) ≡ e.lit = get_or-take k decisions (e.level - 1) (F 0) j ∙ sym (s.decided (e.level - 1) (omega (arith, p))) in
        hits-has v (cube ++ take k decisions) e.lit h (has_later cube (take k decisions) e.lit (subst (λ (l : Literal). has_literal (take k decisions) l ≡ true) same here))
    cases (inr z) = hits-has v (cube ++ take k decisions) e.lit h (has_more cube (take k decisions) e.lit (s.assumed (omega (arith, z))))

-- where a reason isn't hit whole, but its other literals are, so is the one that it implies
reason_hit : (v : List Bool) (es : List Entry) (i : ℕ) (l : Literal) (n : List Literal) → IsReason es i l n → (hits v n ≡ true → ⊥) →
    ((j : ℕ) (d : Entry) → j < i → is_true v (get_or es j d).lit ≡ true) → is_true v l ≡ true
reason_hit v es i l n r unhit before = cases (is_true v l) refl
  where
    other : is_true v l ≡ false → (m : Literal) → has_literal n m ≡ true → (b : Bool) → b ≡ literal_eq m (complement l) → is_true v m ≡ true
    other q m h true e =
        ap (λ (x : Literal). is_true v x) (same_literal m (complement l) (sym e)) ∙ (is_true-complement v l ∙ not_from_false (is_true v l) q)
    other q m h false e =
        let o = r.others m h (eq_differ m (complement l) (sym e)) in
        let d : Entry = record { lit = m; level = 0; reason = None } in
        subst (λ (x : Literal). is_true v x ≡ true) (o.3.lit d) (before o.0 d o.2)

    cases : (b : Bool) → b ≡ is_true v l → is_true v l ≡ true
    cases true q = sym q
    cases false q = absurd (unhit (all_pass (is_true v) n (λ m h. other (sym q) m h (literal_eq m (complement l)) refl)))

module _ (p : Program) (K : List Atoms) (bound : Option (List ℤ)) (vars : ℕ) (cube decisions : List Literal) (es : List Entry) (k : ℕ) (S : Atoms)
    (o : IsOrdered vars es) (r : AreSettled p K bound es) (s : AreStarts cube decisions es)
    (stable : is_stable p S ≡ true) (open_ : is_done p K bound S ≡ false) (h : hits (values p S) (cube ++ take k decisions) ≡ true) where
  next_hit : (i : ℕ) (d : Entry) → i < length es → (get_or es i d).level ≤ k →
      ((j : ℕ) (e : Entry) → j < i → is_true (values p S) (get_or es j e).lit ≡ true) → is_true (values p S) (get_or es i d).lit ≡ true
  next_hit i d lt le before = cases (get_or es i d).reason refl
    where
      cases : (a : Option ℕ) → a ≡ (get_or es i d).reason → is_true (values p S) (get_or es i d).lit ≡ true
      cases None q =
          start_hit (values p S) cube decisions k (get_or es i d) h le (omega (arith, s.counted, level_top es o.rising i d lt)) (s.starts i d lt (sym q))
      cases (Some id) q =
          let t = r i d id lt (sym q) in
          reason_hit (values p S) es i (get_or es i d).lit t.0.lits t.2 (λ g. false≢true (sym open_ ∙ t.1.excused S stable g)) before

  same_level : (i : ℕ) (d e : Entry) → i < length es → (get_or es i d).level ≤ k → (get_or es i e).level ≤ k
  same_level i d e lt le = subst (λ (x : Entry). x.level ≤ k) (get_or_default es i d e lt) le

  below_hit : (n i : ℕ) (d : Entry) → i < n → i < length es → (get_or es i d).level ≤ k → is_true (values p S) (get_or es i d).lit ≡ true
  below_hit zero i d b lt le = absurd (omega arith)
  below_hit (suc n) i d b lt le =
      cases (cases_lt i n) (λ m. below_hit n i d m lt le)
      (λ j e m. below_hit n j e (omega (arith, m, b)) (omega (arith, m, lt)) (omega (arith, rising_le es j i e o.rising (omega (arith, m)) lt, same_level i d e lt le)))
    where
      cases : (i < n) ⊎ (n ≤ i) → (i < n → is_true (values p S) (get_or es i d).lit ≡ true) →
          ((j : ℕ) (e : Entry) → j < i → is_true (values p S) (get_or es j e).lit ≡ true) → is_true (values p S) (get_or es i d).lit ≡ true
      cases (inl m) old before = old m
      cases (inr ge) old before = next_hit i d lt le before

  pub trail_hit : (i : ℕ) (d : Entry) → i < length es → (get_or es i d).level ≤ k → is_true (values p S) (get_or es i d).lit ≡ true
  trail_hit i d lt le = below_hit (suc i) i d (omega arith) lt le
