-- How a trail grows by what kept nogoods imply.
use Rattle.std.proofs.Common.{◌≤◌, ◌≡◌, ◌≢◌, ℕ, zero, suc, ◌+◌, ◌-◌, ◌<◌, Bool, true, false, eqb, List, [], ◌∷◌, ◌++◌, length, get_or, Option, Some, inl, inr, refl, sym, ap, ◌∙◌, subst, append_assoc, arith}
use Rattle.std.specs.Option.{unwrap_or}
use Rattle.std.specs.List.{All}
use Rattle.std.proofs.lemmas.Bool.{eqb-true}
use Rattle.std.proofs.lemmas.Bool.Decides.{nat_tests}
use Rattle.std.proofs.lemmas.List.{length-append, get_or_append_left, get_or-append-add, get_or_push, append-nil}
use Rattle.std.proofs.lemmas.List.Elements.{All-append}
use Rattle.std.proofs.lemmas.Option.{slice_get-get_or}
use Rattle.asp_vars.specs.Literals.{Literal, complement}
use Rattle.asp_vars.specs.declared.nogood.Nogood.{Nogood}
use Rattle.asp_trail.specs.declared.trail.Entry.{Entry}
use Rattle.asp_trail.specs.Entries.{level, level_or_zero}
use Rattle.asp_trail.specs.Trails.{Trailed}
use Rattle.asp_trail.specs.Reasons.{IsReason}
use Rattle.asp_store.specs.declared.stored_nogood.StoredNogood.{StoredNogood}
use Rattle.asp_store.specs.Keeping.{nogood_at}
use Rattle.asp_store.specs.Looking.{Grew, HaveSame}
use Rattle.asp_store.specs.Fitting.{HaveReasons, IsImpliedAt, IsKeptAt, Extends}
use Rattle.asp_store.proofs.WatchLaws.{reason_grow}

pub kept_within : (slots : List (Option StoredNogood)) (id : ℕ) (n : Nogood) → nogood_at slots id ≡ Some n → id < length slots
kept_within [] id n g = absurd (none g)
  where
    none : nogood_at [] id ≡ Some n → ⊥
    none q = cc
kept_within (k ∷ slots) zero n g = omega arith
kept_within (k ∷ slots) (suc id) n g = omega (arith, kept_within slots id n g)

pub reasons_new : (slots : List (Option StoredNogood)) (id : ℕ) (n : Nogood) (es : List Entry) (e : Entry) → nogood_at slots id ≡ Some n → e.reason ≡ Some id →
    IsReason (es ++ e ∷ []) (length es) e.lit n.lits → HaveReasons slots es → HaveReasons slots (es ++ e ∷ [])
reasons_new slots id n es e k r h old i d j w small q = cases (eqb i (length es)) refl
  where
    cases : (b : Bool) → b ≡ eqb i (length es) →
        (m : Nogood) × (nogood_at slots j ≡ Some m) × IsReason (es ++ e ∷ []) i (get_or (es ++ e ∷ []) i d).lit m.lits
    cases true s =
        let at : i ≡ length es = eqb-true i (length es) (sym s) in
        let is : get_or (es ++ e ∷ []) i d ≡ e = get_or_push es e d i (sym at) in
        let same : id ≡ j = ap (λ (o : Option ℕ). unwrap_or o 0) (sym r ∙ (sym (ap (λ (f : Entry). f.reason) is) ∙ q)) in
        let P : Literal → ℕ → Type 0 = λ l a. IsReason (es ++ e ∷ []) a l n.lits in (
          n,
          ap (nogood_at slots) (sym same) ∙ k,
          subst (λ (a : ℕ). P (get_or (es ++ e ∷ []) i d).lit a) (sym at)
              (subst (λ (f : Entry). P f.lit (length es)) (sym is) h),
        )
    cases false s =
        let ne : i ≢ length es = grind (arith, nat_tests) in
        let lt : i < length es = omega (arith, w, length-append es (e ∷ [])) in
        let is : get_or (es ++ e ∷ []) i d ≡ get_or es i d = get_or_append_left es (e ∷ []) d i lt in
        let o = old i d j lt small (sym (ap (λ (f : Entry). f.reason) is) ∙ q) in
        (o.0, o.1, subst (λ (f : Entry). IsReason (es ++ e ∷ []) i f.lit o.0.lits) (sym is) (reason_grow es (e ∷ []) i (get_or es i d).lit o.0.lits o.2))

one_implied : (n b id : ℕ) (l : Literal) → id < n → All (IsKeptAt n b) (record { lit = l; level = b; reason = Some id } ∷ [])
one_implied n b id l lt zero d h = record { level = refl; implied = (id, refl, lt) }
one_implied n b id l lt (suc i) d h = absurd (omega arith)

pub implied_kept : (n b : ℕ) (fs : List Entry) → All (IsKeptAt n b) fs → All (IsImpliedAt b) fs
implied_kept n b fs a i d h = let k = a i d h in record { level = k.level; implied = (k.implied.0, k.implied.1) }

pub level_stays : (es fs : List Entry) → All (IsImpliedAt (level es)) fs → level (es ++ fs) ≡ level es
level_stays es [] a = ap level (append-nil es)
level_stays es (f ∷ fs) a =
    let n : length (es ++ f ∷ fs) - 1 ≡ length es + length fs = omega (arith, length-append es (f ∷ fs)) in
    ap level_or_zero (slice_get-get_or (es ++ f ∷ fs) (length (es ++ f ∷ fs) - 1) f (omega (arith, length-append es (f ∷ fs))))
    ∙ (ap (λ k. (get_or (es ++ f ∷ fs) k f).level) n ∙ (ap (λ (e : Entry). e.level) (get_or-append-add es (f ∷ fs) (length fs) f) ∙ (a (length fs) f (omega arith)).level))

pub extends_grew : (slots : List (Option StoredNogood)) (id : ℕ) (n : Nogood) (es fs : List Entry) → nogood_at slots id ≡ Some n → Grew id n.lits es fs → Extends slots es fs
extends_grew slots id n es fs k g =
    elim g [
      | inl q ↦ ([], q ∙ sym (append-nil es), λ h. subst (λ (xs : List Entry). HaveReasons slots xs) (sym q) h, λ i d h. absurd (omega arith))
      | inr r ↦ (
        new r.0 ∷ [],
        r.1,
        λ h. subst (λ (xs : List Entry). HaveReasons slots xs) (sym r.1)
            (reasons_new slots id n es (new r.0) k refl (subst (λ (xs : List Entry). IsReason xs (length es) r.0 n.lits) r.1 r.2) h),
        one_implied (length slots) (level es) id r.0 (kept_within slots id n k),
      )
    ]
  where
    new : Literal → Entry
    new l = record { lit = l; level = level es; reason = Some id }

one_low : (b : ℕ) (e : Entry) → e.level ≤ b → All (λ f. f.level ≤ b) (e ∷ [])
one_low b e h zero d k = h
one_low b e h (suc i) d k = absurd (omega arith)

-- no level comes that is greater than those before
pub grew_top : (id : ℕ) (n : List Literal) (es fs : List Entry) (b : ℕ) → Grew id n es fs → level es ≤ b → All (λ e. e.level ≤ b) es → All (λ e. e.level ≤ b) fs
grew_top id n es fs b g h a =
    elim g [
      | inl q ↦ subst (λ (xs : List Entry). All (λ e. e.level ≤ b) xs) (sym q) a
      | inr r ↦ subst (λ (xs : List Entry). All (λ e. e.level ≤ b) xs) (sym r.1)
          (All-append (λ e. e.level ≤ b) es (record { lit = r.0; level = level es; reason = Some id } ∷ []) a (one_low b (record { lit = r.0; level = level es; reason = Some id }) h))
    ]

pub extends_none : (slots : List (Option StoredNogood)) (es : List Entry) → Extends slots es es
extends_none slots es = ([], sym (append-nil es), λ h. h, λ i d h. absurd (omega arith))

pub extends_more : (slots : List (Option StoredNogood)) (es fs gs : List Entry) → Extends slots es fs → Extends slots fs gs → Extends slots es gs
extends_more slots es fs gs a b =
    let same : level fs ≡ level es = ap level a.1 ∙ level_stays es a.0 (implied_kept (length slots) (level es) a.0 a.3) in (
      a.0 ++ b.0,
      b.1 ∙ (ap (λ (xs : List Entry). xs ++ b.0) a.1 ∙ append_assoc es a.0 b.0),
      λ h. b.2 (a.2 h),
      All-append (IsKeptAt (length slots) (level es)) a.0 b.0 a.3 (subst (λ (n : ℕ). All (IsKeptAt (length slots) n) b.0) same b.3),
    )

pub grew_by : (id : ℕ) (n : List Literal) (es fs : List Entry) → Grew id n es fs → (gs : List Entry) × (fs ≡ es ++ gs)
grew_by id n es fs g =
    elim g [
      | inl q ↦ ([], q ∙ sym (append-nil es))
      | inr r ↦ (record { lit = r.0; level = level es; reason = Some id } ∷ [], r.1)
    ]

-- a trail that has entries more, and nothing else that is new
pub trail_more : (t u : Trailed) (fs : List Entry) → u ≡ record t { entries = u.entries } → u.entries ≡ t.entries ++ fs → u ≡ record t { entries = t.entries ++ fs }
trail_more t u fs e q = e ∙ ap (λ (es : List Entry). let r : Trailed = record t { entries = es } in r) q

-- the reason of the entry that came has these literals, in whatever order
pub grew_same : (id : ℕ) (n m : List Literal) (es fs : List Entry) → HaveSame n m → Grew id m es fs → Grew id n es fs
grew_same id n m es fs same g =
    elim g [
      | inl q ↦ inl q
      | inr r ↦ inr (r.0, r.1, record { has = same (complement r.0) ∙ r.2.has; others = λ k h ne. r.2.others k (sym (same k) ∙ h) ne })
    ]
