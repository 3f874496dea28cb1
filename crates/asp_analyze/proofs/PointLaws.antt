-- The search for the point, entry by entry.
use Rattle.std.proofs.Common.{◌≡◌, ◌≢◌, ℕ, suc, ◌+◌, ◌<◌, ◌≤◌, Bool, true, false, cond, eqb, List, [], ◌∷◌, None, length, set, get_or, count_by, inl, inr, ◌⊎◌, refl, sym, ap, ◌∙◌, subst, arith}
use Rattle.std.proofs.lemmas.Bool.{eqb-true, false≢true}
use Rattle.std.proofs.lemmas.Bool.Decides.{nat_tests}
use Rattle.std.proofs.lemmas.List.{length-set}
use Rattle.std.proofs.lemmas.List.Sums.{sum_by-set, sum_by-cons}
use Rattle.asp_vars.specs.Literals.{Literal}
use Rattle.asp_trail.specs.declared.trail.Entry.{Entry}
use Rattle.asp_trail.specs.Entries.{level_in, reason_in}
use Rattle.asp_trail.specs.Reasons.{Stands}
use Rattle.asp_analyze.specs.declared.marks.Mark.{Mark}
use Rattle.asp_analyze.specs.declared.marks.Mark.TheVariants as mark
use Rattle.asp_analyze.specs.Marks.{Marked, mark_of, is_clean, is_pending, is_met, ones}
use Rattle.asp_analyze.specs.Way.{IsOn, Fits, AreMarked, Opened, IsDown, IsPoint}
use Rattle.asp_analyze.proofs.StandLaws.{on_same, stands_on, stands_reason, stands_once}
use Rattle.asp_analyze.proofs.MarkLaws.{mark_set_same, mark_set_other}

pub pending_is : (m : Mark) → is_pending m ≡ true → m ≡ mark.Pending
pending_is mark.Clean h = absurd (false≢true h)
pending_is mark.Pending h = refl
pending_is mark.Zero h = absurd (false≢true h)
pending_is mark.Kept h = absurd (false≢true h)
pending_is mark.Resolved h = absurd (false≢true h)
pending_is mark.Needed h = absurd (false≢true h)

-- what is counted stands somewhere
some_pending : (marks : List Mark) → 0 < count_by is_pending marks → (w : ℕ) × (is_pending (mark_of marks w) ≡ true)
some_pending [] h = absurd (omega (arith, h))
some_pending (m ∷ marks) h = cases (is_pending m) refl (some_pending marks)
  where
    cases : (b : Bool) → b ≡ is_pending m → (0 < count_by is_pending marks → (w : ℕ) × (is_pending (mark_of marks w) ≡ true)) → (w : ℕ) × (is_pending (mark_of (m ∷ marks) w) ≡ true)
    cases true q rest = (0, sym q)
    cases false q rest =
        let f = rest (omega (arith, h, sum_by-cons ones m marks, ap {B = ℕ} (λ (b : Bool). cond b 1 0) q)) in
        (suc f.0, f.1)

pending_ones : (marks : List Mark) (v : ℕ) → mark_of marks v ≡ mark.Pending → ones (mark_of marks v) ≡ 1
pending_ones marks v q = ap ones q

-- where one is counted, it is the only one
one_pending : (marks : List Mark) (v w : ℕ) → v < length marks → w < length marks → count_by is_pending marks ≡ 1 → mark_of marks v ≡ mark.Pending → mark_of marks w ≡ mark.Pending → w ≡ v
one_pending marks v w hv hw one pv pw = cases (eqb w v) refl
  where
    cases : (b : Bool) → b ≡ eqb w v → w ≡ v
    cases true q = eqb-true w v (sym q)
    cases false q =
        let ne : w ≢ v = grind (arith, nat_tests) in
        absurd (omega (
          arith,
          one,
          sum_by-set ones marks v mark.Clean mark.Clean hv,
          pending_ones marks v pv,
          sum_by-set ones (set marks v mark.Clean) w mark.Clean mark.Clean (omega (arith, hw, length-set marks v mark.Clean)),
          ap ones (mark_set_other marks v w mark.Clean ne ∙ pw),
        ))

-- where it isn't one, there is another
two_pending : (marks : List Mark) (v : ℕ) → v < length marks → count_by is_pending marks ≢ 1 → mark_of marks v ≡ mark.Pending → (w : ℕ) × (w ≢ v) × (mark_of marks w ≡ mark.Pending)
two_pending marks v h ne p =
    let more : 0 < count_by is_pending (set marks v mark.Clean) = omega (arith, ne, sum_by-set ones marks v mark.Clean mark.Clean h, pending_ones marks v p) in
    let f = some_pending (set marks v mark.Clean) more in
    let other : f.0 ≢ v = λ q. false≢true (ap is_pending (sym (mark_set_same marks v mark.Clean h)) ∙ (ap (λ (u : ℕ). is_pending (mark_of (set marks v mark.Clean) u)) (sym q) ∙ f.1)) in
    (f.0, other, pending_is (mark_of marks f.0) (ap is_pending (sym (mark_set_other marks v f.0 mark.Clean other)) ∙ f.1))

pub from_next : (i j : ℕ) → i ≤ j → (i ≡ j) ⊎ (i + 1 ≤ j)
from_next i j h = grind arith

-- what stands at one place is one literal
same_at : (es : List Entry) (k l : Literal) (i j b c : ℕ) → i ≡ j → Stands es k i b → Stands es l j c → k ≡ l
same_at es k l i j b c q s t = let d : Entry = record { lit = l; level = 0; reason = None } in sym (s.lit d) ∙ (ap (λ (x : ℕ). (get_or es x d).lit) q ∙ t.lit d)

-- an entry that isn't pending is passed
pub down_passes : (es : List Entry) (top i : ℕ) (m : Marked) (lit : Literal) → AreMarked es top m → (on : IsOn es lit) → on.place ≡ i → mark_of m.marks lit.var ≢ mark.Pending →
    IsDown es (i + 1) m.marks → IsDown es i m.marks
down_passes es top i m lit a on at ne d = record {
  above = λ l j b s le p. elim (from_next i j le) [
    | inl q ↦ ne (subst (λ (k : Literal). mark_of m.marks k.var ≡ mark.Pending) (same_at es l lit j on.place b (level_in es lit.var) (sym q ∙ sym at) s on.stands) p)
    | inr g ↦ d.above l j b s g p
  ];
  some = d.some;
}

-- the only one that is counted is the point
pub point_counted : (es : List Entry) (top : ℕ) (m : Marked) (lit : Literal) → AreMarked es top m → IsOn es lit → mark_of m.marks lit.var ≡ mark.Pending → count_by is_pending m.marks ≡ 1 →
    IsPoint es m.marks lit
point_counted es top m lit a on p one = record {
  on = on;
  pending = p;
  only = λ l n q. on_same a.ordered.0 es l lit a.ordered.1 n on (one_pending m.marks lit.var l.var (a.small lit on) (a.small l n) one p q);
}

order : (a b : ℕ) → (a < b) ⊎ ((a ≡ b) ⊎ (b < a))
order a b = grind arith

-- the first entry of its level is
pub point_decided : (es : List Entry) (top i : ℕ) (m : Marked) (lit : Literal) → AreMarked es top m → (on : IsOn es lit) → on.place ≡ i → mark_of m.marks lit.var ≡ mark.Pending →
    reason_in es lit.var ≡ None → IsDown es (i + 1) m.marks → IsPoint es m.marks lit
point_decided es top i m lit a on at p none d = record {
  on = on;
  pending = p;
  only = λ l n q. elim (order n.place i) [
    | inl lt ↦ absurd (first l n q lt)
    | inr r ↦ elim r [
      | inl e ↦ same_at es l lit n.place on.place (level_in es l.var) (level_in es lit.var) (e ∙ sym at) n.stands on.stands
      | inr gt ↦ absurd (d.above l n.place (level_in es l.var) n.stands (omega (arith, gt)) q)
    ]
  ];
}
  where
    level_top : (l : Literal) → IsOn es l → mark_of m.marks l.var ≡ mark.Pending → (0 < top) × (level_in es l.var ≡ top)
    level_top l n q = subst (λ (x : Mark). Fits top (level_in es l.var) (reason_in es l.var) x) q (a.fits l n)

    first : (l : Literal) (n : IsOn es l) → mark_of m.marks l.var ≡ mark.Pending → n.place < i → ⊥
    first l n q lt =
        let e : Entry = record { lit = lit; level = 0; reason = None } in
        let o = a.ordered.1 in
        let z = o.decided n.place on.place e (omega (arith, lt, at)) on.stands.within
        (sym (stands_reason a.ordered.0 es lit on.place (level_in es lit.var) e o on.stands) ∙ none)
        (n.stands.level e ∙ ((level_top l n q).1 ∙ (sym (level_top lit on p).1 ∙ sym (on.stands.level e)))) in
        omega (arith, z, on.stands.level e, (level_top lit on p).1, (level_top lit on p).0)

-- a pending one that isn't alone is resolved
pub down_opened : (es : List Entry) (top i : ℕ) (old new : Marked) (lit : Literal) → AreMarked es top old → (on : IsOn es lit) → on.place ≡ i → mark_of old.marks lit.var ≡ mark.Pending →
    count_by is_pending old.marks ≢ 1 → Opened es lit old new → IsDown es (i + 1) old.marks → IsDown es i new.marks
down_opened es top i old new lit a on at p ne t d = record {
  above = λ l j b s le q. cases l j b s le q (eqb l.var lit.var) refl;
  some =
      let f = two_pending old.marks lit.var (a.small lit on) ne p in
      let g = a.named f.0 (ap is_clean f.2) in (
        g.0,
        g.1,
        ap (λ (v : ℕ). mark_of new.marks v) g.2 ∙ (t.stays f.0 f.1 (ap is_met f.2) ∙ f.2),
      );
}
  where
    vars : ℕ
    vars = a.ordered.0

    cases : (l : Literal) (j b : ℕ) → Stands es l j b → i ≤ j → mark_of new.marks l.var ≡ mark.Pending → (c : Bool) → c ≡ eqb l.var lit.var → ⊥
    cases l j b s le q true e =
        false≢true (ap is_pending (sym (ap (λ (v : ℕ). mark_of new.marks v) (eqb-true l.var lit.var (sym e)) ∙ t.gone)) ∙ ap is_pending q)
    cases l j b s le q false e =
        let apart : l.var ≢ lit.var = grind (arith, nat_tests) in
        elim (t.changed l (stands_on vars es l j b a.ordered.1 s) apart) [
          | inl same ↦ elim (from_next i j le) [
            | inl k ↦ apart (ap (λ (x : Literal). x.var) (same_at es l lit j on.place b (level_in es lit.var) (sym k ∙ sym at) s on.stands))
            | inr g ↦ d.above l j b s g (sym same ∙ q)
          ]
          | inr before ↦
              let lt = before.0.before on.place (level_in es lit.var) on.stands in
              omega (arith, lt, at, le, stands_once vars es l before.0.on.place j (level_in es l.var) b a.ordered.1 before.0.on.stands s)
        ]

-- all entries were looked at
pub down_ends : (es : List Entry) (marks : List Mark) → IsDown es 0 marks → ⊥
down_ends es marks d = d.above d.some.0 d.some.1.place (level_in es d.some.0.var) d.some.1.stands (omega arith) d.some.2
