-- What begins a trail's levels, where the trail changes.
use Rattle.std.proofs.Common.{◌≡◌, ℕ, suc, zero, ◌+◌, ◌-◌, ◌<◌, ◌≤◌, List, [], ◌∷◌, ◌++◌, length, get_or, take, None, inl, inr, ◌⊎◌, refl, sym, ap, ◌∙◌, subst, arith}
use Rattle.std.specs.List.{AllPairs}
use Rattle.std.proofs.lemmas.Bool.{cases_lt}
use Rattle.std.proofs.lemmas.List.{length-append, length-take, length-take-le, length_push, get_or_append_left, get_or-append_right, get_or-take, get_or_push, take_all}
use Rattle.asp_vars.specs.Literals.{Literal, F}
use Rattle.asp_trail.specs.declared.trail.Entry.{Entry}
use Rattle.asp_trail.specs.Entries.{cut, level}
use Rattle.asp_trail.specs.Trails.{IsOrdered}
use Rattle.asp_trail.proofs.TrailLaws.{level_top, level_push}
use Rattle.asp_trail_laws.specs.Starts.{nth_decision, IsStart, Begins, AreStarts, AreImplied}
use Rattle.asp_trail_laws.proofs.PlaceLaws.{blank, not_implied, stands_grow, stands_take, begins_grow, begins_take, level_last, level_implied, rising_le}
use Rattle.asp_trail_laws.proofs.CutLaws.{IsFront, front}

-- ---- literals are implied
pub starts_imply : (cube decisions : List Literal) (es fs : List Entry) → AreImplied (level es) fs → AreStarts cube decisions es → AreStarts cube decisions (es ++ fs)
starts_imply cube decisions es fs imp s = record {
  counted = s.counted ∙ sym (level_implied es fs imp);
  starts = λ i d h none. start i d h none (cases_lt i (length es));
  cube_stands = λ l h. let t = s.cube_stands l h in (t.0, stands_grow es fs l t.0 0 t.1);
  decisions_stand = λ k h. begins_grow es fs (nth_decision decisions k) (k + 1) (s.decisions_stand k h);
}
  where
    start : (i : ℕ) (d : Entry) → i < length (es ++ fs) → (get_or (es ++ fs) i d).reason ≡ None → (i < length es) ⊎ (length es ≤ i) → IsStart cube decisions (get_or (es ++ fs) i d)
    start i d h none (inl lt) =
        let at = get_or_append_left es fs d i lt in
        subst (IsStart cube decisions) (sym at) (s.starts i d lt (ap (λ (e : Entry). e.reason) (sym at) ∙ none))
    start i d h none (inr ge) =
        let at = get_or-append_right es fs (length es) i d refl ge in
        let fits : i - length es < length fs = omega (arith, h, ge, length-append es fs) in
        let why = (imp (i - length es) d fits).1 in
        absurd (not_implied (get_or fs (i - length es) d).reason why.0 why.1 (ap (λ (e : Entry). e.reason) (sym at) ∙ none))

-- ---- a literal is decided
start_more : (cube decisions : List Literal) (l : Literal) (e : Entry) → e.level ≤ length decisions → IsStart cube decisions e → IsStart cube (decisions ++ l ∷ []) e
start_more cube decisions l e le s = record {
  assumed = s.assumed;
  decided = λ k q. s.decided k q ∙ sym (get_or_append_left decisions (l ∷ []) (F 0) k (omega (arith, q, le)));
}

pub starts_decide : (vars : ℕ) (cube decisions : List Literal) (es : List Entry) (l : Literal) (e : Entry) → e.lit ≡ l → e.level ≡ level es + 1 → e.reason ≡ None →
    IsOrdered vars es → AreStarts cube decisions es → AreStarts cube (decisions ++ l ∷ []) (es ++ e ∷ [])
starts_decide vars cube decisions es l e ql qb qr o s = record {
  counted = omega (arith, length_push decisions l, s.counted, qb, level_push es e);
  starts = λ i d h none. start i d h none (cases_lt i (length es));
  cube_stands = λ m h. let t = s.cube_stands m h in (t.0, stands_grow es (e ∷ []) m t.0 0 t.1);
  decisions_stand = λ k h. stand k h (cases_lt k (length decisions));
}
  where
    start : (i : ℕ) (d : Entry) → i < length (es ++ e ∷ []) → (get_or (es ++ e ∷ []) i d).reason ≡ None → (i < length es) ⊎ (length es ≤ i) →
        IsStart cube (decisions ++ l ∷ []) (get_or (es ++ e ∷ []) i d)
    start i d h none (inl lt) =
        let at = get_or_append_left es (e ∷ []) d i lt in
        let le : (get_or es i d).level ≤ length decisions = omega (arith, s.counted, level_top es o.rising i d lt) in
        subst (IsStart cube (decisions ++ l ∷ [])) (sym at) (start_more cube decisions l (get_or es i d) le (s.starts i d lt (ap (λ (x : Entry). x.reason) (sym at) ∙ none)))
    start i d h none (inr ge) =
        let at : get_or (es ++ e ∷ []) i d ≡ e = get_or_push es e d i (omega (arith, h, ge, length_push es e)) in
        subst (IsStart cube (decisions ++ l ∷ [])) (sym at) (record {
          assumed = λ q. absurd (omega (arith, q, qb));
          decided = λ k q. ql ∙ sym (get_or_push decisions l (F 0) k (omega (arith, q, qb, s.counted)));
        })

    stand : (k : ℕ) → k < length (decisions ++ l ∷ []) → (k < length decisions) ⊎ (length decisions ≤ k) → Begins (es ++ e ∷ []) (nth_decision (decisions ++ l ∷ []) k) (k + 1)
    stand k h (inl lt) =
        subst (λ (m : Literal). Begins (es ++ e ∷ []) m (k + 1)) (sym (get_or_append_left decisions (l ∷ []) (F 0) k lt))
        (begins_grow es (e ∷ []) (nth_decision decisions k) (k + 1) (s.decisions_stand k lt))
    stand k h (inr ge) =
        subst (λ (m : Literal). Begins (es ++ e ∷ []) m (k + 1)) (sym (get_or_push decisions l (F 0) k (omega (arith, h, ge, length_push decisions l)))) (record {
          place = length es;
          stands = record {
            within = omega (arith, length_push es e);
            lit = λ d. ap (λ (x : Entry). x.lit) (get_or_push es e d (length es) refl) ∙ ql;
            level = λ d. omega (arith, ap (λ (x : Entry). x.level) (get_or_push es e d (length es) refl), qb, s.counted, h, ge, length_push decisions l);
          };
          unimplied = λ d. ap (λ (x : Entry). x.reason) (get_or_push es e d (length es) refl) ∙ qr;
        })

-- ---- the trail is cut
start_fewer : (cube decisions : List Literal) (k : ℕ) (e : Entry) → e.level ≤ k → IsStart cube decisions e → IsStart cube (take k decisions) e
start_fewer cube decisions k e le s = record {
  assumed = s.assumed;
  decided = λ j q. s.decided j q ∙ sym (get_or-take k decisions j (F 0) (omega (arith, q, le)));
}

level_take : (es : List Entry) (n : ℕ) → 0 < n → n ≤ length es → level (take n es) ≡ (get_or es (n - 1) blank).level
level_take es n p f =
    let len : length (take n es) ≡ n = length-take-le n es f in
    level_last (take n es) blank (omega (arith, len, p))
    ∙ (ap (λ (m : ℕ). (get_or (take n es) (m - 1) blank).level) len ∙ ap (λ (e : Entry). e.level) (get_or-take n es (n - 1) blank (omega arith)))

-- where some entry of the front has the level, so has its newest
level_reached : (es : List Entry) (k n : ℕ) → AllPairs (λ e f. e.level ≤ f.level) es → IsFront k n es → (0 < k → (i : ℕ) × (i < n) × ((get_or es i blank).level ≡ k)) → level (take n es) ≡ k
level_reached es k zero r f reach = cases (cases_lt 0 k)
  where
    cases : (0 < k) ⊎ (k ≤ 0) → 0 ≡ k
    cases (inl p) = absurd (omega (arith, (reach p).1))
    cases (inr z) = omega (arith, z)
level_reached es k (suc n) r f reach = cases (cases_lt 0 k) (level_take es (suc n) (omega arith) f.fits) (f.high (suc n - 1) blank (omega arith))
  where
    cases : (0 < k) ⊎ (k ≤ 0) → level (take (suc n) es) ≡ (get_or es (suc n - 1) blank).level → (get_or es (suc n - 1) blank).level ≤ k → level (take (suc n) es) ≡ k
    cases (inl p) last top =
        let t = reach p in
        let le : (get_or es t.0 blank).level ≤ (get_or es (suc n - 1) blank).level = rising_le es t.0 (suc n - 1) blank r (omega (arith, t.1)) (omega (arith, f.fits)) in
        omega (arith, last, top, le, t.2)
    cases (inr z) last top = omega (arith, last, top, z)

level_front : (cube decisions : List Literal) (es : List Entry) (k n : ℕ) → AllPairs (λ e f. e.level ≤ f.level) es → IsFront k n es → AreStarts cube decisions es →
    length (take k decisions) ≡ level (take n es)
level_front cube decisions es k n r f s = cases (cases_lt k (length decisions))
  where
    whole : length decisions ≤ k → (n < length es) ⊎ (length es ≤ n) → length es ≤ n
    whole ge (inl lt) = absurd (omega (arith, f.low n blank lt (omega (arith, level_top es r n blank lt, s.counted, ge))))
    whole ge (inr le) = le

    cases : (k < length decisions) ⊎ (length decisions ≤ k) → length (take k decisions) ≡ level (take n es)
    cases (inl lt) =
        length-take-le k decisions (omega (arith, lt))
        ∙ sym (level_reached es k n r f (λ p.
        let b = s.decisions_stand (k - 1) (omega (arith, p, lt)) in
        let at : (get_or es b.place blank).level ≡ k = omega (arith, b.stands.level blank, p) in
        (b.place, f.low b.place blank b.stands.within (omega (arith, at)), at)))
    cases (inr ge) = ap length (take_all k decisions ge) ∙ (s.counted ∙ ap level (sym (take_all n es (whole ge (cases_lt n (length es))))))

starts_front : (cube decisions : List Literal) (es : List Entry) (k n : ℕ) → AllPairs (λ e f. e.level ≤ f.level) es → IsFront k n es → AreStarts cube decisions es →
    AreStarts cube (take k decisions) (take n es)
starts_front cube decisions es k n r f s = record {
  counted = level_front cube decisions es k n r f s;
  starts = λ i d h none.
      let lt : i < n = omega (arith, h, length-take-le n es f.fits) in
      let at = get_or-take n es i d lt in
      subst (IsStart cube (take k decisions)) (sym at)
      (start_fewer cube decisions k (get_or es i d) (f.high i d lt) (s.starts i d (omega (arith, lt, f.fits)) (ap (λ (e : Entry). e.reason) (sym at) ∙ none)));
  cube_stands = λ l h.
      let t = s.cube_stands l h in
      (t.0, stands_take n es l t.0 0 f.fits (f.low t.0 blank t.1.within (omega (arith, t.1.level blank))) t.1);
  decisions_stand = λ j h.
      let few : j < k = omega (arith, h, length-take k decisions) in
      let b = s.decisions_stand j (omega (arith, h, length-take k decisions)) in
      subst (λ (m : Literal). Begins (take n es) m (j + 1)) (sym (get_or-take k decisions j (F 0) few))
      (begins_take n es (nth_decision decisions j) (j + 1) f.fits b (f.low b.place blank b.stands.within (omega (arith, b.stands.level blank, few))));
}

pub starts_cut : (vars : ℕ) (cube decisions : List Literal) (es : List Entry) (k : ℕ) → IsOrdered vars es → AreStarts cube decisions es → AreStarts cube (take k decisions) (cut k es)
starts_cut vars cube decisions es k o s =
    let f = front k es o.rising in
    subst (AreStarts cube (take k decisions)) (sym f.1.is) (starts_front cube decisions es k f.0 o.rising f.1 s)
