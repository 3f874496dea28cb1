-- Entries by their places, literals and levels.
use Rattle.std.proofs.Common.{◌≡◌, ℕ, suc, ◌+◌, ◌-◌, ◌<◌, ◌≤◌, Bool, true, false, cond, eqb, List, [], ◌∷◌, ◌++◌, length, get_or, take, Option, Some, None, find, inl, inr, ◌⊎◌, refl, sym, ap, ◌∙◌, subst, arith}
use Rattle.std.specs.List.{AllPairs}
use Rattle.std.specs.Option.{is_none}
use Rattle.std.proofs.lemmas.Bool.{false≢true, eq-eqb, eqb-true, false_from_ne_true, cases_eq}
use Rattle.std.proofs.lemmas.List.{length-append, length-take-le, get_or_append_left, get_or-append_right, get_or-take, get_or_default, append-nil}
use Rattle.std.proofs.lemmas.Option.{slice_get-get_or}
use Rattle.asp_vars.specs.Literals.{Literal, T, holds_in}
use Rattle.asp_trail.specs.declared.trail.Entry.{Entry}
use Rattle.asp_trail.specs.Entries.{assignment, entry_of, level, level_in, level_or_zero, reason_in, reason_or_none}
use Rattle.asp_trail.specs.Reasons.{Stands}
use Rattle.asp_trail.specs.Trails.{IsOrdered}
use Rattle.asp_trail.proofs.EntryLaws.{find_only}
use Rattle.asp_trail.proofs.TrailLaws.{level_top}
use Rattle.asp_trail.proofs.HoldLaws.{holds_at}
use Rattle.asp_trail_laws.specs.Starts.{AreImplied, Begins}

abbrev pub blank : Entry
blank = record { lit = T 0; level = 0; reason = None }

-- a reason is none or some
pub not_implied : (r : Option ℕ) (id : ℕ) → r ≡ Some id → r ≡ None → ⊥
not_implied r id a b = false≢true (sym (ap is_none a) ∙ ap is_none b)

-- ---- a literal that stands
pub stands_at : (es : List Entry) (i : ℕ) (d : Entry) → i < length es → Stands es (get_or es i d).lit i (get_or es i d).level
stands_at es i d h = record {
  within = h;
  lit = λ e. ap (λ (x : Entry). x.lit) (get_or_default es i e d h);
  level = λ e. ap (λ (x : Entry). x.level) (get_or_default es i e d h);
}

pub stands_grow : (es fs : List Entry) (l : Literal) (i b : ℕ) → Stands es l i b → Stands (es ++ fs) l i b
stands_grow es fs l i b s = record {
  within = omega (arith, s.within, length-append es fs);
  lit = λ d. ap (λ (e : Entry). e.lit) (get_or_append_left es fs d i s.within) ∙ s.lit d;
  level = λ d. ap (λ (e : Entry). e.level) (get_or_append_left es fs d i s.within) ∙ s.level d;
}

pub stands_take : (n : ℕ) (es : List Entry) (l : Literal) (i b : ℕ) → n ≤ length es → i < n → Stands es l i b → Stands (take n es) l i b
stands_take n es l i b f h s = record {
  within = omega (arith, h, length-take-le n es f);
  lit = λ d. ap (λ (e : Entry). e.lit) (get_or-take n es i d h) ∙ s.lit d;
  level = λ d. ap (λ (e : Entry). e.level) (get_or-take n es i d h) ∙ s.level d;
}

pub begins_grow : (es fs : List Entry) (l : Literal) (b : ℕ) → Begins es l b → Begins (es ++ fs) l b
begins_grow es fs l b s = record {
  place = s.place;
  stands = stands_grow es fs l s.place b s.stands;
  unimplied = λ d. ap (λ (e : Entry). e.reason) (get_or_append_left es fs d s.place s.stands.within) ∙ s.unimplied d;
}

pub begins_take : (n : ℕ) (es : List Entry) (l : Literal) (b : ℕ) → n ≤ length es → (s : Begins es l b) → s.place < n → Begins (take n es) l b
begins_take n es l b f s h = record {
  place = s.place;
  stands = stands_take n es l s.place b f h s.stands;
  unimplied = λ d. ap (λ (e : Entry). e.reason) (get_or-take n es s.place d h) ∙ s.unimplied d;
}

-- ---- the newest entry's level
pub level_last : (es : List Entry) (d : Entry) → 0 < length es → level es ≡ (get_or es (length es - 1) d).level
level_last es d h = ap level_or_zero (slice_get-get_or es (length es - 1) d (omega arith))

pub level_implied : (es fs : List Entry) → AreImplied (level es) fs → level (es ++ fs) ≡ level es
level_implied es [] imp = ap level (append-nil es)
level_implied es (f ∷ fs) imp =
    let len : length (es ++ f ∷ fs) ≡ length es + suc (length fs) = length-append es (f ∷ fs) in
    level_last (es ++ f ∷ fs) f (omega (arith, len))
    ∙ (ap (λ (e : Entry). e.level) (get_or-append_right es (f ∷ fs) (length es) (length (es ++ f ∷ fs) - 1) f refl (omega (arith, len)))
    ∙ (imp (length (es ++ f ∷ fs) - 1 - length es) f (omega (arith, len))).0)

pub rising_le : (es : List Entry) (i j : ℕ) (d : Entry) → AllPairs (λ e f. e.level ≤ f.level) es → i ≤ j → j < length es → (get_or es i d).level ≤ (get_or es j d).level
rising_le es i j d r le h = cases (cases_eq i j)
  where
    cases : (i ≡ j) ⊎ (i ≡ j → ⊥) → (get_or es i d).level ≤ (get_or es j d).level
    cases (inl e) = subst (λ (k : ℕ). (get_or es i d).level ≤ (get_or es k d).level) e (omega arith)
    cases (inr ne) = r i j d (omega (arith, le, ne)) h

-- ---- by variables
pub entry_at : (vars : ℕ) (es : List Entry) (i : ℕ) (d : Entry) → IsOrdered vars es → i < length es → entry_of es (get_or es i d).lit.var ≡ Some (get_or es i d)
entry_at vars es i d o h =
    find_only (λ e. eqb e.lit.var (get_or es i d).lit.var) es i d h (eq-eqb (get_or es i d).lit.var (get_or es i d).lit.var refl)
    (λ j l. false_from_ne_true (eqb (get_or es j d).lit.var (get_or es i d).lit.var) (λ q. o.apart j i d l h (eqb-true (get_or es j d).lit.var (get_or es i d).lit.var q)))

pub level_at : (vars : ℕ) (es : List Entry) (i : ℕ) (d : Entry) (l : Literal) → IsOrdered vars es → i < length es → (get_or es i d).lit ≡ l → level_in es l.var ≡ (get_or es i d).level
level_at vars es i d l o h q = ap (λ (k : Literal). level_in es k.var) (sym q) ∙ ap level_or_zero (entry_at vars es i d o h)

pub reason_at : (vars : ℕ) (es : List Entry) (i : ℕ) (d : Entry) (l : Literal) → IsOrdered vars es → i < length es → (get_or es i d).lit ≡ l → reason_in es l.var ≡ (get_or es i d).reason
reason_at vars es i d l o h q = ap (λ (k : Literal). reason_in es k.var) (sym q) ∙ ap reason_or_none (entry_at vars es i d o h)

pub stands_holds : (vars : ℕ) (es : List Entry) (l : Literal) (i b : ℕ) → IsOrdered vars es → Stands es l i b → holds_in (assignment vars es) l ≡ true
stands_holds vars es l i b o s = holds_at vars es i blank l o s.within (s.lit blank)

-- a level above 0 is an entry's
level_found : (es : List Entry) (v : ℕ) → 0 < level_in es v → (i : ℕ) × (i < length es) × ((d : Entry) → (get_or es i d).level ≡ level_in es v)
level_found [] v h = absurd (omega arith)
level_found (e ∷ es) v h = cases (eqb e.lit.var v) refl (level_found es v)
  where
    later : (i : ℕ) × (i < length es) × ((d : Entry) → (get_or es i d).level ≡ level_in es v) → level_in (e ∷ es) v ≡ level_in es v →
        (i : ℕ) × (i < length (e ∷ es)) × ((d : Entry) → (get_or (e ∷ es) i d).level ≡ level_in (e ∷ es) v)
    later f q = (suc f.0, omega (arith, f.1), λ d. f.2 d ∙ sym q)

    cases : (b : Bool) → b ≡ eqb e.lit.var v → (0 < level_in es v → (i : ℕ) × (i < length es) × ((d : Entry) → (get_or es i d).level ≡ level_in es v)) →
        (i : ℕ) × (i < length (e ∷ es)) × ((d : Entry) → (get_or (e ∷ es) i d).level ≡ level_in (e ∷ es) v)
    cases true q rest = (0, omega arith, λ d. ap (λ b. level_or_zero (cond b (Some e) (find (λ (x : Entry). eqb x.lit.var v) es))) q)
    cases false q rest =
        let same : level_in es v ≡ level_in (e ∷ es) v = ap (λ b. level_or_zero (cond b (Some e) (find (λ (x : Entry). eqb x.lit.var v) es))) q in
        later (rest (omega (arith, h, same))) (sym same)

pub level_in_top : (es : List Entry) (v : ℕ) → AllPairs (λ e f. e.level ≤ f.level) es → level_in es v ≤ level es
level_in_top es v r = cases (cases_eq 0 (level_in es v))
  where
    cases : (0 ≡ level_in es v) ⊎ (0 ≡ level_in es v → ⊥) → level_in es v ≤ level es
    cases (inl q) = omega (arith, q)
    cases (inr ne) = let f = level_found es v (omega (arith, ne)) in omega (arith, f.2 blank, level_top es r f.0 blank f.1)
