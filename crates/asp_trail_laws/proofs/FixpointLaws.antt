-- Where nogoods were at fixpoint before each decision, as the trail changes.
use Rattle.std.proofs.Common.{◌≡◌, ℕ, ◌-◌, ◌<◌, ◌≤◌, List, [], ◌∷◌, ◌++◌, length, get_or, take, None, inl, inr, ◌⊎◌, refl, sym, ap, ◌∙◌, subst, arith}
use Rattle.std.specs.List.{AllPairs}
use Rattle.std.proofs.lemmas.Bool.{cases_lt}
use Rattle.std.proofs.lemmas.List.{length-append, length-take-le, length_push, get_or_append_left, get_or-append_right, get_or-take, get_or_push, take-append-le, take-take, take_at}
use Rattle.asp_vars.specs.Literals.{Literal}
use Rattle.asp_trail.specs.declared.trail.Entry.{Entry}
use Rattle.asp_trail.specs.Entries.{cut}
use Rattle.asp_trail_laws.specs.Fixpoint.{AreAtFixpoint, WereAtFixpoint}
use Rattle.asp_trail_laws.specs.Starts.{AreImplied}
use Rattle.asp_trail_laws.proofs.CutLaws.{front}
use Rattle.asp_trail_laws.proofs.PlaceLaws.{not_implied}

-- an entry among the first ones
fixpoint_old : (vars : ℕ) (ns : List (List Literal)) (es fs : List Entry) (i : ℕ) (d : Entry) → WereAtFixpoint vars ns es → i < length es →
    (get_or (es ++ fs) i d).reason ≡ None → 0 < (get_or (es ++ fs) i d).level → AreAtFixpoint vars ns (take i (es ++ fs))
fixpoint_old vars ns es fs i d w lt none high =
    let q = get_or_append_left es fs d i lt in
    subst (AreAtFixpoint vars ns) (sym (take-append-le i es fs (omega (arith, lt))))
    (w i d lt (ap (λ (e : Entry). e.reason) (sym q) ∙ none) (subst (λ (e : Entry). 0 < e.level) q high))

pub fixpoint_imply : (vars : ℕ) (ns : List (List Literal)) (es fs : List Entry) (b : ℕ) → AreImplied b fs → WereAtFixpoint vars ns es → WereAtFixpoint vars ns (es ++ fs)
fixpoint_imply vars ns es fs b imp w i d h none high = at (cases_lt i (length es))
  where
    at : (i < length es) ⊎ (length es ≤ i) → AreAtFixpoint vars ns (take i (es ++ fs))
    at (inl lt) = fixpoint_old vars ns es fs i d w lt none high
    at (inr ge) =
        let q = get_or-append_right es fs (length es) i d refl ge in
        let fits : i - length es < length fs = omega (arith, h, ge, length-append es fs) in
        let why = (imp (i - length es) d fits).1 in
        absurd (not_implied (get_or fs (i - length es) d).reason why.0 why.1 (ap (λ (e : Entry). e.reason) (sym q) ∙ none))

pub fixpoint_push : (vars : ℕ) (ns : List (List Literal)) (es : List Entry) (e : Entry) → (e.reason ≡ None → 0 < e.level → AreAtFixpoint vars ns es) →
    WereAtFixpoint vars ns es → WereAtFixpoint vars ns (es ++ e ∷ [])
fixpoint_push vars ns es e here w i d h none high = at (cases_lt i (length es))
  where
    at : (i < length es) ⊎ (length es ≤ i) → AreAtFixpoint vars ns (take i (es ++ e ∷ []))
    at (inl lt) = fixpoint_old vars ns es (e ∷ []) i d w lt none high
    at (inr ge) =
        let last : length es ≡ i = omega (arith, h, ge, length_push es e) in
        let q : get_or (es ++ e ∷ []) i d ≡ e = get_or_push es e d i last in
        subst (AreAtFixpoint vars ns) (sym (take_at es (e ∷ []) i last)) (here (ap (λ (x : Entry). x.reason) (sym q) ∙ none) (subst (λ (x : Entry). 0 < x.level) q high))

pub fixpoint_cut : (vars : ℕ) (ns : List (List Literal)) (es : List Entry) (k : ℕ) → AllPairs (λ e f. e.level ≤ f.level) es → WereAtFixpoint vars ns es → WereAtFixpoint vars ns (cut k es)
fixpoint_cut vars ns es k r w =
    let f = front k es r in
    subst (WereAtFixpoint vars ns) (sym f.1.is) (λ i d h none high. first f.0 f.1.fits i d h none high)
  where
    first : (n : ℕ) → n ≤ length es → (i : ℕ) (d : Entry) → i < length (take n es) → (get_or (take n es) i d).reason ≡ None → 0 < (get_or (take n es) i d).level →
        AreAtFixpoint vars ns (take i (take n es))
    first n fits i d h none high =
        let lt : i < n = omega (arith, h, length-take-le n es fits) in
        let q = get_or-take n es i d lt in
        subst (AreAtFixpoint vars ns) (sym (take-take i n es (omega (arith, lt))))
        (w i d (omega (arith, lt, fits)) (ap (λ (e : Entry). e.reason) (sym q) ∙ none) (subst (λ (e : Entry). 0 < e.level) q high))
