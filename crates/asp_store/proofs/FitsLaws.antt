-- A store fits a trail, through each change of either.
use Rattle.std.proofs.Common.{◌≡◌, ◌≢◌, ℕ, ◌<◌, ◌≤◌, ◌^◌, Bool, min, List, [], ◌∷◌, ◌++◌, length, get_or, set, Option, Some, None, inl, inr, ◌⊎◌, refl, sym, ap, ◌∙◌, subst, arith}
use Rattle.std.specs.List.{AllPairs}
use Rattle.std.specs.Option.{option_map}
use Rattle.std.proofs.lemmas.List.{length-append, get_or_append_left, get_or_push}
use Rattle.std.proofs.lemmas.Option.{slice_get_within, none-some}
use Rattle.asp_vars.specs.declared.nogood.Nogood.{Nogood}
use Rattle.asp_trail.specs.declared.trail.Entry.{Entry}
use Rattle.asp_trail.specs.Entries.{cut}
use Rattle.asp_trail.specs.Trails.{Trailed}
use Rattle.asp_trail.specs.Reasons.{IsReason}
use Rattle.asp_store.specs.declared.stored_nogood.StoredNogood.{StoredNogood}
use Rattle.asp_store.specs.declared.stored_nogood.Kind.{Kind}
use Rattle.asp_store.specs.Keeping.{kept_at, nogood_at, with_lock}
use Rattle.asp_store.specs.Pairs.{pair_of, pair_at}
use Rattle.asp_store.specs.Parted.{Parted, IsFrom}
use Rattle.asp_store.specs.Fitting.{HaveReasons}
use Rattle.asp_store.specs.Storing.{Stored, Fits, locked_at, removed, recalled, IsAdded, Loses, AreActive}
use Rattle.asp_store.proofs.GetLaws.{is_or_not, at_set, at_set_other}
use Rattle.asp_store.proofs.WatchLaws.{reason_grow, reason_cut, cut_at, watched_cut, has_false_cut}
use Rattle.asp_store.proofs.GrowLaws.{reasons_new}
use Rattle.asp_store.proofs.SoundLaws.{fit_grow}

pub none_kept : (slots : List (Option StoredNogood)) (id : ℕ) (n : Nogood) → kept_at slots id ≡ None → nogood_at slots id ≡ Some n → ⊥
none_kept slots id n e g = none-some n (sym (ap (option_map (λ (x : StoredNogood). x.nogood)) e) ∙ g)

pub same_nogood : (xs ys : List (Option StoredNogood)) (i : ℕ) → kept_at ys i ≡ kept_at xs i → nogood_at ys i ≡ nogood_at xs i
same_nogood xs ys i e = ap (option_map (λ (x : StoredNogood). x.nogood)) e

-- ---- the trail changes
pub fits_begin : (s : Stored) (t : Trailed) → t.vars ≡ s.vars → t.entries ≡ [] → s.slots ≡ [] → Fits s t
fits_begin s t v e q = record {
  same_vars = v;
  reasons = λ i d id h lt r. absurd (omega (arith, h, ap (length {A = Entry}) e));
  fit = record {
    watched = λ id n p g h. absurd (none-some n (sym (ap (λ (xs : List (Option StoredNogood)). nogood_at xs id) q) ∙ g));
    unwatched = λ id n g h. absurd (none-some n (sym (ap (λ (xs : List (Option StoredNogood)). nogood_at xs id) q) ∙ g));
  };
}

-- the number isn't a kept nogood's
abbrev pub IsApart : Entry → Type 0
IsApart e = (id : ℕ) → id < 2 ^ 31 → e.reason ≡ Some id → ⊥

reasons_open : (slots : List (Option StoredNogood)) (es : List Entry) (e : Entry) → IsApart e → HaveReasons slots es → HaveReasons slots (es ++ e ∷ [])
reasons_open slots es e none h i d id w small q = cases (is_or_not i (length es))
  where
    cases : (i ≡ length es) ⊎ (i ≢ length es) → (m : Nogood) × (nogood_at slots id ≡ Some m) × IsReason (es ++ e ∷ []) i (get_or (es ++ e ∷ []) i d).lit m.lits
    cases (inl s) =
        let is : get_or (es ++ e ∷ []) i d ≡ e = get_or_push es e d i (sym s) in
        absurd (none id small (sym (ap (λ (f : Entry). f.reason) is) ∙ q))
    cases (inr ne) =
        let lt : i < length es = omega (arith, w, ne, length-append es (e ∷ [])) in
        let is : get_or (es ++ e ∷ []) i d ≡ get_or es i d = get_or_append_left es (e ∷ []) d i lt in
        let o = h i d id lt small (sym (ap (λ (f : Entry). f.reason) is) ∙ q) in
        (o.0, o.1, subst (λ (f : Entry). IsReason (es ++ e ∷ []) i f.lit o.0.lits) (sym is) (reason_grow es (e ∷ []) i (get_or es i d).lit o.0.lits o.2))

pub fits_open : (s : Stored) (t : Trailed) (e : Entry) → t.seen ≤ length t.entries → IsApart e → Fits s t → Fits s (record t { entries = t.entries ++ e ∷ [] })
fits_open s t e le none f = record {
  same_vars = f.same_vars;
  reasons = reasons_open s.slots t.entries e none f.reasons;
  fit = fit_grow s.slots s.rows s.apart t (e ∷ []) le f.fit;
}

pub fits_imply : (s : Stored) (t : Trailed) (e : Entry) (id : ℕ) (n : Nogood) → t.seen ≤ length t.entries → e.reason ≡ Some id → nogood_at s.slots id ≡ Some n →
    IsReason (t.entries ++ e ∷ []) (length t.entries) e.lit n.lits → Fits s t → Fits s (record t { entries = t.entries ++ e ∷ [] })
fits_imply s t e id n le some g r f = record {
  same_vars = f.same_vars;
  reasons = reasons_new s.slots id n t.entries e g some r f.reasons;
  fit = fit_grow s.slots s.rows s.apart t (e ∷ []) le f.fit;
}

pub fits_cut : (s : Stored) (t : Trailed) (l : ℕ) → AllPairs (λ e f. e.level ≤ f.level) t.entries → Fits s t →
    Fits s (record t { entries = cut l t.entries; seen = min t.seen (length (cut l t.entries)) })
fits_cut s t l rising f = record {
  same_vars = f.same_vars;
  reasons = λ i d id h lt q.
      let is = cut_at l t.entries i d rising h in
      let o = f.reasons i d id is.0 lt (sym (ap (λ (e : Entry). e.reason) is.1) ∙ q) in
      (o.0, o.1, subst (λ (e : Entry). IsReason (cut l t.entries) i e.lit o.0.lits) (sym is.1) (reason_cut l t.entries i (get_or t.entries i d).lit o.0.lits rising h o.2));
  fit = record {
    watched = λ id n p g h. watched_cut l t.entries t.seen n.lits p rising (f.fit.watched id n p g h);
    unwatched = λ id n g h. elim (f.fit.unwatched id n g h) [
      | inl a ↦ inl a
      | inr a ↦ inr (has_false_cut l t.entries n.lits 0 rising (omega arith) a)
    ];
  };
}

pub fits_clear : (s : Stored) (t : Trailed) → AreActive s → Fits s t → Fits s (record t { entries = []; seen = 0 })
fits_clear s t active f = record {
  same_vars = f.same_vars;
  reasons = λ i d id h lt q. absurd (omega arith);
  fit = record {
    watched = λ id n p g h. let w = f.fit.watched id n p g h in record {
      has = w.has;
      differ = w.differ;
      watches = λ l o i b lt k. absurd (omega arith);
    };
    unwatched = λ id n g h. inl (active id n g h);
  };
}

-- ---- the store changes
pub fits_add : (s z : Stored) (t : Trailed) (id : ℕ) (n : Nogood) (kind : Kind) → IsAdded s z id n kind → Fits s t → Fits z t
fits_add s z t id n kind a f = record {
  same_vars = f.same_vars ∙ sym a.vars;
  reasons = λ i d j h lt q.
      let r = f.reasons i d j h lt q in
      let ne : j ≢ id = λ e. none_kept s.slots id r.0 a.slots.free (sym (ap (nogood_at s.slots) e) ∙ r.1) in
      (r.0, same_nogood s.slots z.slots j (a.slots.others j ne) ∙ r.1, r.2);
  fit = record {
    watched = λ j m p g h. elim (is_or_not j id) [
      | inl e ↦ absurd (none-some p (sym a.pair ∙ (sym (ap (pair_at z.rows) e) ∙ h)))
      | inr ne ↦ f.fit.watched j m p (sym (same_nogood s.slots z.slots j (a.slots.others j ne)) ∙ g) (sym (ap pair_of (a.rows j ne)) ∙ h)
    ];
    unwatched = λ j m g h. elim (is_or_not j id) [
      | inl e ↦ inl (subst (λ (k : ℕ). IsFrom z.apart z.apart.first k) (sym e) a.waits)
      | inr ne ↦ elim (f.fit.unwatched j m (sym (same_nogood s.slots z.slots j (a.slots.others j ne)) ∙ g) (sym (ap pair_of (a.rows j ne)) ∙ h)) [
        | inl b ↦ inl (a.apart j b)
        | inr b ↦ inr b
      ]
    ];
  };
}

lock_none : (b : Bool) (o : Option StoredNogood) → option_map (λ (k : StoredNogood). k.nogood) (with_lock b o) ≡ option_map (λ (k : StoredNogood). k.nogood) o
lock_none b None = refl
lock_none b (Some k) = refl

pub locked_same : (b : Bool) (slots : List (Option StoredNogood)) (id j : ℕ) → id < length slots → nogood_at (set slots id (with_lock b (kept_at slots id))) j ≡ nogood_at slots j
locked_same b slots id j h =
    elim (is_or_not j id) [
      | inl e ↦ ap (option_map (λ (k : StoredNogood). k.nogood)) (at_set slots id (with_lock b (kept_at slots id)) None j h e) ∙ (lock_none b (kept_at slots id) ∙ ap (nogood_at slots) (sym e))
      | inr ne ↦ ap (option_map (λ (k : StoredNogood). k.nogood)) (at_set_other slots id (with_lock b (kept_at slots id)) None j ne)
    ]

pub fits_lock : (s : Stored) (t : Trailed) (id : ℕ) (b : Bool) → id < length s.slots → Fits s t → Fits (locked_at s id b) t
fits_lock s t id b h f = record {
  same_vars = f.same_vars;
  reasons = λ i d j w lt q. let r = f.reasons i d j w lt q in (r.0, locked_same b s.slots id j h ∙ r.1, r.2);
  fit = record {
    watched = λ j n p g q. f.fit.watched j n p (sym (locked_same b s.slots id j h) ∙ g) q;
    unwatched = λ j n g q. f.fit.unwatched j n (sym (locked_same b s.slots id j h) ∙ g) q;
  };
}

pub fits_recall : (s : Stored) (t : Trailed) → Fits s t → Fits (recalled s) t
fits_recall s t f = record {
  same_vars = f.same_vars;
  reasons = f.reasons;
  fit = record {
    watched = f.fit.watched;
    unwatched = λ id n g h. elim (f.fit.unwatched id n g h) [
      | inl a ↦ inl (a.0, omega arith, slice_get_within s.apart.items a.0 id a.3, a.3)
      | inr a ↦ inr a
    ];
  };
}

-- nogoods go that no entry names
pub fits_lose : (s z : Stored) (t : Trailed) → Loses s z →
    ((i : ℕ) (d : Entry) (id : ℕ) → i < length t.entries → (get_or t.entries i d).reason ≡ Some id → nogood_at z.slots id ≡ nogood_at s.slots id) → Fits s t → Fits z t
fits_lose s z t l named f = record {
  same_vars = f.same_vars ∙ sym l.vars;
  reasons = λ i d id h lt q. let r = f.reasons i d id h lt q in (r.0, named i d id h q ∙ r.1, r.2);
  fit = record {
    watched = λ id n p g h. elim (l.each id) [
      | inl e ↦ absurd (none_kept z.slots id n e.0 g)
      | inr e ↦ f.fit.watched id n p (sym (same_nogood s.slots z.slots id e.0) ∙ g) (sym e.1 ∙ h)
    ];
    unwatched = λ id n g h. elim (l.each id) [
      | inl e ↦ absurd (none_kept z.slots id n e.0 g)
      | inr e ↦ elim (f.fit.unwatched id n (sym (same_nogood s.slots z.slots id e.0) ∙ g) (sym e.1 ∙ h)) [
        | inl a ↦ inl (subst (λ (p : Parted). IsFrom p p.first id) (sym l.apart) a)
        | inr a ↦ inr a
      ]
    ];
  };
}

pub removed_loses : (s : Stored) (id : ℕ) → id < length s.slots → id < length s.rows → Loses s (removed s id)
removed_loses s id h k = record {
  vars = refl;
  apart = refl;
  each = λ j. elim (is_or_not j id) [
    | inl e ↦ inl (at_set s.slots id None None j h e, ap pair_of (at_set s.rows id [] [] j k e))
    | inr ne ↦ inr (at_set_other s.slots id None None j ne, ap pair_of (at_set_other s.rows id [] [] j ne))
  ];
}

-- one nogood goes
pub fits_remove : (s : Stored) (t : Trailed) (id : ℕ) → id < length s.slots → ((i : ℕ) (d : Entry) → i < length t.entries → (get_or t.entries i d).reason ≢ Some id) →
    Fits s t → Fits (removed s id) t
fits_remove s t id h unnamed f = record {
  same_vars = f.same_vars;
  reasons = λ i d j w lt q.
      let r = f.reasons i d j w lt q in
      (r.0, same_nogood s.slots (set s.slots id None) j (at_set_other s.slots id None None j (λ e. unnamed i d w (q ∙ ap Some e))) ∙ r.1, r.2);
  fit = record {
    watched = λ j n p g k. elim (is_or_not j id) [
      | inl e ↦ absurd (none_kept (set s.slots id None) j n (at_set s.slots id None None j h e) g)
      | inr ne ↦ f.fit.watched j n p (sym (same_nogood s.slots (set s.slots id None) j (at_set_other s.slots id None None j ne)) ∙ g) (sym (ap pair_of (at_set_other s.rows id [] [] j ne)) ∙ k)
    ];
    unwatched = λ j n g k. elim (is_or_not j id) [
      | inl e ↦ absurd (none_kept (set s.slots id None) j n (at_set s.slots id None None j h e) g)
      | inr ne ↦ f.fit.unwatched j n (sym (same_nogood s.slots (set s.slots id None) j (at_set_other s.slots id None None j ne)) ∙ g) (sym (ap pair_of (at_set_other s.rows id [] [] j ne)) ∙ k)
    ];
  };
}
