-- Nogoods and entries that are added.
use Rattle.std.proofs.Common.{◌≡◌, ℕ, false, List, ◌++◌, length, Option, Some, None, ◌⊎◌, inl, inr, refl, sym, ap, ◌∙◌, subst, append_assoc}
use Rattle.std.specs.Prelude.{ℤ}
use Rattle.std.specs.List.{All}
use Rattle.std.specs.Option.{option_map}
use Rattle.std.proofs.lemmas.List.Elements.{All-append}
use Rattle.std.proofs.lemmas.Option.{none-some, same_Some}
use Rattle.asp_model.specs.declared.program.Program.{Program}
use Rattle.asp_vars.specs.declared.nogood.Nogood.{Nogood}
use Rattle.asp_trail.specs.declared.trail.Entry.{Entry}
use Rattle.asp_trail.specs.Entries.{level}
use Rattle.asp_trail.specs.Told.{Told}
use Rattle.asp_store.specs.declared.stored_nogood.StoredNogood.{StoredNogood}
use Rattle.asp_store.specs.declared.stored_nogood.Kind.{Kind}
use Rattle.asp_store.specs.declared.stored_nogood.Kind.TheVariants as kind
use Rattle.asp_store.specs.Keeping.{kept_at, nogood_at, IsAddedAt}
use Rattle.asp_store.specs.Fitting.{IsImpliedAt, Extends}
use Rattle.asp_store.proofs.GetLaws.{is_or_not}
use Rattle.asp_store.proofs.GrowLaws.{level_stays, implied_kept}
use Rattle.asp_propagate.specs.Propagating.{Adds, Implies, GoesOn, AreUnlocked}

-- ---- nogoods
pub adds_none : (gives : Nogood → Type 0) (old new : List (Option StoredNogood)) → new ≡ old → Adds gives old new
adds_none gives old new q = record {
  stay = λ id k g. ap (λ (zs : List (Option StoredNogood)). kept_at zs id) q ∙ g;
  given = λ id k g. inl (sym (ap (λ (zs : List (Option StoredNogood)). kept_at zs id) q) ∙ g);
}

pub adds_more : (gives : Nogood → Type 0) (a b c : List (Option StoredNogood)) → Adds gives a b → Adds gives b c → Adds gives a c
adds_more gives a b c x y = record {
  stay = λ id k g. y.stay id k (x.stay id k g);
  given = λ id k g. elim (y.given id k g) [
    | inl e ↦ x.given id k e
    | inr e ↦ inr e
  ];
}

-- a kept nogood was kept before, or is given
pub adds_each : (gives : Nogood → Type 0) (old new : List (Option StoredNogood)) (id : ℕ) (n : Nogood) → Adds gives old new → nogood_at new id ≡ Some n →
    (nogood_at old id ≡ Some n) ⊎ gives n
adds_each gives old new id n x g = cases (kept_at new id) refl
  where
    cases : (o : Option StoredNogood) → o ≡ kept_at new id → (nogood_at old id ≡ Some n) ⊎ gives n
    cases None q = absurd (none-some n (ap (option_map (λ (k : StoredNogood). k.nogood)) q ∙ g))
    cases (Some k) q =
        let same : k.nogood ≡ n = same_Some k.nogood n (ap (option_map (λ (k : StoredNogood). k.nogood)) q ∙ g) in
        elim (x.given id k (sym q)) [
          | inl e ↦ inl (ap (option_map (λ (k : StoredNogood). k.nogood)) e ∙ ap Some same)
          | inr e ↦ inr (subst gives same e.passes)
        ]

-- ---- locks
pub unlocked_added : (old new : List (Option StoredNogood)) (id : ℕ) (n : Nogood) (kind : Kind) → IsAddedAt old new id n kind → AreUnlocked old → AreUnlocked new
unlocked_added old new id n kind a u j k g =
    elim (is_or_not j id) [
      | inl e ↦ sym (ap (λ (x : StoredNogood). x.locked) (same_Some (record { nogood = n; kind = kind; locked = false }) k (sym a.here ∙ (ap (kept_at new) (sym e) ∙ g))))
      | inr ne ↦ u j k (sym (a.others j ne) ∙ g)
    ]

-- ---- entries
pub implies_more : (es fs gs : List Entry) → Implies es fs → Implies fs gs → Implies es gs
implies_more es fs gs a b =
    let same : level fs ≡ level es = ap level a.1 ∙ level_stays es a.0 a.2 in (
      a.0 ++ b.0,
      b.1 ∙ (ap (λ (xs : List Entry). xs ++ b.0) a.1 ∙ append_assoc es a.0 b.0),
      All-append (IsImpliedAt (level es)) a.0 b.0 a.2 (subst (λ (n : ℕ). All (IsImpliedAt n) b.0) same b.2),
    )

pub implies_from : (slots : List (Option StoredNogood)) (es fs : List Entry) → Extends slots es fs → Implies es fs
implies_from slots es fs x = (x.0, x.1, implied_kept (length slots) (level es) x.0 x.3)

-- ---- both
pub goes_more : (gives : Nogood → Type 0) (t u v : Told) (b c d : Option (List ℤ)) (xs ys zs : List (Option StoredNogood)) (es fs gs : List Entry) →
    GoesOn gives t u b c xs ys es fs → GoesOn gives u v c d ys zs fs gs → GoesOn gives t v b d xs zs es gs
goes_more gives t u v b c d xs ys zs es fs gs x y = record {
  program = y.program ∙ x.program;
  bound_stays = y.bound_stays ∙ x.bound_stays;
  adds = adds_more gives xs ys zs x.adds y.adds;
  implies = implies_more es fs gs x.implies y.implies;
}

-- of a propagator that may give more under another bound: the bound stays
pub goes_then : (gives : Program → Option (List ℤ) → Nogood → Type 0) (t u v : Told) (b c d : Option (List ℤ)) (xs ys zs : List (Option StoredNogood)) (es fs gs : List Entry) →
    GoesOn (gives t.program b) t u b c xs ys es fs → GoesOn (gives u.program c) u v c d ys zs fs gs → GoesOn (gives t.program b) t v b d xs zs es gs
goes_then gives t u v b c d xs ys zs es fs gs x y =
    goes_more (gives t.program b) t u v b c d xs ys zs es fs gs x
    (subst (λ (p : Program). GoesOn (gives p b) u v c d ys zs fs gs) x.program (subst (λ (q : Option (List ℤ)). GoesOn (gives u.program q) u v c d ys zs fs gs) x.bound_stays y))
