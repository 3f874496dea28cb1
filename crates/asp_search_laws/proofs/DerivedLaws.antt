-- Nogoods that are axioms, or reached from what is kept.
use Rattle.std.proofs.Common.{◌≡◌, ℕ, List, get_or, Option, Some, ◌⊎◌, inl, inr, subst}
use Rattle.std.specs.Prelude.{ℤ}
use Rattle.asp_model.specs.declared.program.Program.{Program}
use Rattle.asp_vars.specs.Numbering.{var_count}
use Rattle.asp_vars.specs.declared.nogood.Nogood.{Nogood}
use Rattle.asp_trail.specs.declared.trail.Entry.{Entry}
use Rattle.asp_trail.specs.Trails.{IsOrdered}
use Rattle.asp_analyze.specs.Learning.{nogood_of}
use Rattle.asp_analyze.specs.declared.learn.Learned.{Learned}
use Rattle.asp_store.specs.declared.stored_nogood.StoredNogood.{StoredNogood}
use Rattle.asp_store.specs.declared.stored_nogood.Kind.{Kind}
use Rattle.asp_store.specs.Keeping.{nogood_at, IsAddedAt}
use Rattle.asp_propagate.specs.Late.{IsAtHand}
use Rattle.asp_propagate.specs.Propagating.{Adds}
use Rattle.asp_propagate.specs.Useful.{Counts}
use Rattle.asp_propagate.proofs.AddLaws.{adds_each}
use Rattle.asp_search_laws.specs.Axioms.{IsAxiom, IsDerived, AreDerived}
use Rattle.asp_search_laws.specs.Explaining.{Explains}
use Rattle.asp_search_laws.proofs.SlotLaws.{AddsNone, added_each}

module _ (p : Program) (gives : Nogood → Type 0) (bound : Option (List ℤ)) where
  -- what is derived from derived nogoods is derived
  pub derived_more : (old new : ℕ → Option Nogood) (n : Nogood) → AreDerived p gives bound old new → IsDerived p gives bound new n → IsDerived p gives bound old n
  derived_more old new n all (IsDerived.given x c) = IsDerived.given x c
  derived_more old new n all (IsDerived.stands id q) = all id n q
  derived_more old new n all (IsDerived.reached {from = from} es used o reached first rest) =
      IsDerived.reached es used o reached (derived_more old new from all first) (λ i d h. derived_more old new (get_or used i d).nogood all (rest i d h))

  pub all_derived_more : (a b c : ℕ → Option Nogood) → AreDerived p gives bound a b → AreDerived p gives bound b c → AreDerived p gives bound a c
  all_derived_more a b c x y id n q = derived_more a b n x (y id n q)

  pub derived_none : (old new : List (Option StoredNogood)) → AddsNone old new → AreDerived p gives bound (nogood_at old) (nogood_at new)
  derived_none old new a id n q = IsDerived.stands id (a id n q)

  pub derived_same : (slots : List (Option StoredNogood)) → AreDerived p gives bound (nogood_at slots) (nogood_at slots)
  derived_same slots id n q = IsDerived.stands id q

  pub derived_added : (old new : List (Option StoredNogood)) (id : ℕ) (n : Nogood) (kind : Kind) → IsAddedAt old new id n kind → IsDerived p gives bound (nogood_at old) n →
      AreDerived p gives bound (nogood_at old) (nogood_at new)
  derived_added old new id n kind a d j m q = cases (added_each old new id n kind a j m q)
    where
      cases : (nogood_at old j ≡ Some m) ⊎ (n ≡ m) → IsDerived p gives bound (nogood_at old) m
      cases (inl e) = IsDerived.stands j e
      cases (inr e) = subst (IsDerived p gives bound (nogood_at old)) e d

  pub derived_adds : (old new : List (Option StoredNogood)) → ((n : Nogood) → gives n → Counts bound n.base) → Adds gives old new → AreDerived p gives bound (nogood_at old) (nogood_at new)
  derived_adds old new counts a id n q = cases (adds_each gives old new id n a q)
    where
      cases : (nogood_at old id ≡ Some n) ⊎ gives n → IsDerived p gives bound (nogood_at old) n
      cases (inl e) = IsDerived.stands id e
      cases (inr g) = IsDerived.given (IsAxiom.propagator g) (counts n g)

  -- what is learnt
  pub learnt_derived : (vars : ℕ) (slots : List (Option StoredNogood)) (es : List Entry) (id : ℕ) (l : Learned) → IsOrdered (var_count p) es → ((n : Nogood) → gives n → Counts bound n.base) →
      Explains gives vars slots es id l → IsDerived p gives bound (nogood_at slots) (nogood_of l)
  learnt_derived vars slots es id l o counts x = IsDerived.reached es x.used o x.reached (IsDerived.stands id x.stands) (λ i d h. each (get_or x.used i d).nogood (x.had i d h))
    where
      each : (n : Nogood) → IsAtHand gives slots n → IsDerived p gives bound (nogood_at slots) n
      each n (inl k) = IsDerived.stands k.0 k.1
      each n (inr w) = IsDerived.given (IsAxiom.propagator w) (counts n w)
