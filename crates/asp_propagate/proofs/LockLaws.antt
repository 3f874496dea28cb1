-- What is dropped while the reasons of a trail are locked.
use Rattle.std.proofs.Common.{◌≡◌, ◌≢◌, ℕ, suc, zero, ◌+◌, ◌<◌, Bool, true, false, not, cond, ◌||◌, ◌&&◌, eqb, ltb, List, [], ◌∷◌, length, take, set, get_or, Option, Some, None, ◌⊎◌, inl, inr, refl, sym, ap, ◌∙◌, subst, arith, get_or-set_other}
use Rattle.std.proofs.lemmas.Bool.{eqb-true, eq-eqb, false≢true}
use Rattle.std.proofs.lemmas.Bool.Decides.{nat_tests}
use Rattle.std.proofs.lemmas.List.{length-set, take_more}
use Rattle.std.proofs.lemmas.List.Sums.{fold-append}
use Rattle.asp_trail.specs.declared.trail.Entry.{Entry}
use Rattle.asp_store.specs.declared.stored_nogood.StoredNogood.{StoredNogood}
use Rattle.asp_store.specs.declared.stored_nogood.Kind.{Kind}
use Rattle.asp_store.specs.declared.stored_nogood.Kind.TheVariants as kind
use Rattle.asp_store.specs.Keeping.{kept_at, with_lock, is_passing, comes_from_propagator, is_spare, is_given, unless_given, Thins}
use Rattle.asp_store.specs.Pairs.{pair_at}
use Rattle.asp_store.specs.Storing.{Stored, Loses}
use Rattle.asp_propagate.specs.Propagating.{is_reason, is_named, IsReduced, AreUnlocked}
use Rattle.asp_propagate.specs.Locking.{lock_reason, lock_all}

-- ---- which slots are locked
lock_same : (b : Bool) (xs : List (Option StoredNogood)) (j : ℕ) → kept_at (set xs j (with_lock b (kept_at xs j))) j ≡ with_lock b (kept_at xs j)
lock_same b [] j = refl
lock_same b (x ∷ xs) zero = refl
lock_same b (x ∷ xs) (suc j) = lock_same b xs j

lock_one : (b : Bool) (xs : List (Option StoredNogood)) (j id : ℕ) (c : Bool) → eqb j id ≡ c →
    kept_at (set xs j (with_lock b (kept_at xs j))) id ≡ cond c (with_lock b (kept_at xs id)) (kept_at xs id)
lock_one b xs j id true q = subst (λ (k : ℕ). kept_at (set xs j (with_lock b (kept_at xs j))) k ≡ with_lock b (kept_at xs k)) (eqb-true j id q) (lock_same b xs j)
lock_one b xs j id false q =
    let ne : id ≢ j = grind (arith, nat_tests) in
    get_or-set_other xs j id (with_lock b (kept_at xs j)) None ne

lock_reason_at : (b : Bool) (xs : List (Option StoredNogood)) (o : Option ℕ) (id : ℕ) → kept_at (lock_reason b xs o) id ≡ cond (is_reason o id) (with_lock b (kept_at xs id)) (kept_at xs id)
lock_reason_at b xs None id = refl
lock_reason_at b xs (Some j) id = lock_one b xs j id (eqb j id) refl

lock_twice : (b : Bool) (x : Option StoredNogood) → with_lock b (with_lock b x) ≡ with_lock b x
lock_twice b None = refl
lock_twice b (Some k) = refl

lock_both : (b c n : Bool) (x : Option StoredNogood) → cond n (with_lock b (cond c (with_lock b x) x)) (cond c (with_lock b x) x) ≡ cond (c || n) (with_lock b x) x
lock_both b true true x = lock_twice b x
lock_both b true false x = refl
lock_both b false true x = refl
lock_both b false false x = refl

lock_all_at : (b : Bool) (es : List Entry) (xs : List (Option StoredNogood)) (id : ℕ) → kept_at (lock_all b es xs) id ≡ cond (is_named es id) (with_lock b (kept_at xs id)) (kept_at xs id)
lock_all_at b [] xs id = refl
lock_all_at b (e ∷ es) xs id =
    lock_all_at b es (lock_reason b xs e.reason) id
    ∙ (ap (λ (x : Option StoredNogood). cond (is_named es id) (with_lock b x) x) (lock_reason_at b xs e.reason id) ∙ lock_both b (is_reason e.reason id) (is_named es id) (kept_at xs id))

named_at : (es : List Entry) (i : ℕ) (d : Entry) (id : ℕ) → i < length es → (get_or es i d).reason ≡ Some id → is_named es id ≡ true
named_at [] i d id h q = absurd (omega arith)
named_at (e ∷ es) zero d id h q = ap (λ (o : Option ℕ). is_reason o id || is_named es id) q ∙ ap (λ (b : Bool). b || is_named es id) (eq-eqb id id refl)
named_at (e ∷ es) (suc i) d id h q = right (is_reason e.reason id) (is_named es id) (named_at es i d id (omega arith) q)
  where
    right : (a b : Bool) → b ≡ true → (a || b) ≡ true
    right true b p = refl
    right false b p = p

-- ---- how many slots there are
lock_reason_length : (b : Bool) (xs : List (Option StoredNogood)) (o : Option ℕ) → length (lock_reason b xs o) ≡ length xs
lock_reason_length b xs None = refl
lock_reason_length b xs (Some id) = length-set xs id (with_lock b (kept_at xs id))

pub lock_all_length : (b : Bool) (es : List Entry) (xs : List (Option StoredNogood)) → length (lock_all b es xs) ≡ length xs
lock_all_length b [] xs = refl
lock_all_length b (e ∷ es) xs = lock_all_length b es (lock_reason b xs e.reason) ∙ lock_reason_length b xs e.reason

pub lock_next : (b : Bool) (es : List Entry) (xs : List (Option StoredNogood)) (i : ℕ) (d : Entry) → i < length es →
    lock_all b (take (i + 1) es) xs ≡ lock_reason b (lock_all b (take i es) xs) (get_or es i d).reason
lock_next b es xs i d h =
    ap (λ (fs : List Entry). lock_all b fs xs) (take_more es i d h) ∙ fold-append (λ (ys : List (Option StoredNogood)) (e : Entry). lock_reason b ys e.reason) xs (take i es) (get_or es i d ∷ [])

-- ---- which are dropped
locked_not_spare : (o : Option StoredNogood) → is_spare (with_lock true o) ≡ true → ⊥
locked_not_spare None q = false≢true q
locked_not_spare (Some k) q = false≢true q

forever_not_spare : (k : StoredNogood) → k.kind ≡ kind.Forever → is_spare (Some k) ≡ true → ⊥
forever_not_spare k f q = no (not k.locked) (sym (ap (λ (x : Kind). not k.locked && (is_passing x && ltb 2 (length k.nogood.lits))) f) ∙ q)
  where
    no : (b : Bool) → (b && false) ≡ true → ⊥
    no true p = false≢true p
    no false p = false≢true p

unlock : (o : Option StoredNogood) → ((k : StoredNogood) → o ≡ Some k → k.locked ≡ false) → with_lock false o ≡ o
unlock None u = refl
unlock (Some k) u = let f : Bool → Option StoredNogood = λ b. Some (record k { locked = b }) in ap f (sym (u k refl))

lock_over : (a b : Bool) (o : Option StoredNogood) → with_lock a (with_lock b o) ≡ with_lock a o
lock_over a b None = refl
lock_over a b (Some k) = refl

lock_none : (b c : Bool) → cond c (with_lock b None) None ≡ None
lock_none b true = refl
lock_none b false = refl

lock_there : (c : Bool) (o : Option StoredNogood) → ((k : StoredNogood) → o ≡ Some k → k.locked ≡ false) → cond c (with_lock false (cond c (with_lock true o) o)) (cond c (with_lock true o) o) ≡ o
lock_there true o u = lock_over false true o ∙ unlock o u
lock_there false o u = refl

-- a slot that is gone, or as it was
slot_gone : (es : List Entry) (ys : List (Option StoredNogood)) (id : ℕ) → kept_at ys id ≡ None → kept_at (lock_all false es ys) id ≡ None
slot_gone es ys id q =
    lock_all_at false es ys id ∙ (ap (λ (o : Option StoredNogood). cond (is_named es id) (with_lock false o) o) q ∙ lock_none false (is_named es id))

pub slot_back : (es : List Entry) (xs ys : List (Option StoredNogood)) (id : ℕ) → AreUnlocked xs → kept_at ys id ≡ kept_at (lock_all true es xs) id →
    kept_at (lock_all false es ys) id ≡ kept_at xs id
slot_back es xs ys id u q =
    lock_all_at false es ys id
    ∙ (ap (λ (o : Option StoredNogood). cond (is_named es id) (with_lock false o) o) (q ∙ lock_all_at true es xs id) ∙ lock_there (is_named es id) (kept_at xs id) (λ k g. u id k g))

-- that of a reason is locked
reason_locked : (es : List Entry) (xs : List (Option StoredNogood)) (i : ℕ) (d : Entry) (id : ℕ) → i < length es → (get_or es i d).reason ≡ Some id →
    kept_at (lock_all true es xs) id ≡ with_lock true (kept_at xs id)
reason_locked es xs i d id h q = lock_all_at true es xs id ∙ ap (λ (b : Bool). cond b (with_lock true (kept_at xs id)) (kept_at xs id)) (named_at es i d id h q)

forever_locked : (c : Bool) (k : StoredNogood) → k.kind ≡ kind.Forever → is_spare (cond c (with_lock true (Some k)) (Some k)) ≡ true → ⊥
forever_locked true k f q = false≢true q
forever_locked false k f q = forever_not_spare k f q

pub thins_reduced : (es : List Entry) (xs ys : List (Option StoredNogood)) → AreUnlocked xs → Thins (lock_all true es xs) ys → IsReduced es xs (lock_all false es ys)
thins_reduced es xs ys u th = record {
  count = lock_all_length false es ys ∙ (th.count ∙ lock_all_length true es xs);
  each = λ id. elim (th.each id) [
    | inl e ↦ inl (slot_back es xs ys id u e)
    | inr e ↦ inr (slot_gone es ys id e.0)
  ];
  forever = λ id k g f. elim (th.each id) [
    | inl e ↦ slot_back es xs ys id u e ∙ g
    | inr e ↦ absurd (forever_locked (is_named es id) k f
        (sym (ap is_spare (lock_all_at true es xs id ∙ ap (λ (o : Option StoredNogood). cond (is_named es id) (with_lock true o) o) g)) ∙ e.1))
  ];
  named = λ i d id h q. elim (th.each id) [
    | inl e ↦ slot_back es xs ys id u e
    | inr e ↦ absurd (locked_not_spare (kept_at xs id) (sym (ap is_spare (reason_locked es xs i d id h q)) ∙ e.1))
  ];
}

-- a store that was reduced while its reasons were locked
pub locks_lose : (es : List Entry) (a b c d : Stored) → AreUnlocked a.slots → b ≡ record a { slots = lock_all true es a.slots } → Loses b c →
    d ≡ record c { slots = lock_all false es c.slots } → Loses a d
locks_lose es a b c d u p l q = record {
  vars = ap (λ (s : Stored). s.vars) q ∙ (l.vars ∙ ap (λ (s : Stored). s.vars) p);
  apart = ap (λ (s : Stored). s.apart) q ∙ (l.apart ∙ ap (λ (s : Stored). s.apart) p);
  each = λ id. elim (l.each id) [
    | inl e ↦ inl (ap (λ (s : Stored). kept_at s.slots id) q ∙ slot_gone es c.slots id e.0, ap (λ (s : Stored). pair_at s.rows id) q ∙ e.1)
    | inr e ↦ inr (
      ap (λ (s : Stored). kept_at s.slots id) q ∙ slot_back es a.slots c.slots id u (e.0 ∙ ap (λ (s : Stored). kept_at s.slots id) p),
      ap (λ (s : Stored). pair_at s.rows id) q ∙ (e.1 ∙ ap (λ (s : Stored). pair_at s.rows id) p),
    )
  ];
}

-- and what of its slots is left
pub locks_reduced : (es : List Entry) (a b c d : Stored) → AreUnlocked a.slots → b ≡ record a { slots = lock_all true es a.slots } → Thins b.slots c.slots →
    d ≡ record c { slots = lock_all false es c.slots } → IsReduced es a.slots d.slots
locks_reduced es a b c d u p th q =
    subst (λ (xs : List (Option StoredNogood)). IsReduced es a.slots xs) (sym (ap (λ (s : Stored). s.slots) q))
    (thins_reduced es a.slots c.slots u (subst (λ (xs : List (Option StoredNogood)). Thins xs c.slots) (ap (λ (s : Stored). s.slots) p) th))

-- ---- where all that propagators gave are dropped
unless_other : (o : Option StoredNogood) (b : Bool) → is_given o ≡ b → (unless_given o ≡ o) ⊎ ((unless_given o ≡ None) × (is_given o ≡ true))
unless_other o true q = inr (ap (λ (b : Bool). cond b None o) q, q)
unless_other o false q = inl (ap (λ (b : Bool). cond b None o) q)

given_locked : (o : Option StoredNogood) → unless_given (with_lock true o) ≡ with_lock true o
given_locked None = refl
given_locked (Some k) = no (comes_from_propagator k.kind) (Some (record k { locked = true }))
  where
    no : (b : Bool) (o : Option StoredNogood) → cond (b && false) None o ≡ o
    no true o = refl
    no false o = refl

dropped_given : (c : Bool) (o : Option StoredNogood) → ((k : StoredNogood) → o ≡ Some k → k.locked ≡ false) →
    cond c (with_lock false (unless_given (cond c (with_lock true o) o))) (unless_given (cond c (with_lock true o) o)) ≡ cond c o (unless_given o)
dropped_given true o u = ap (with_lock false) (given_locked o) ∙ (lock_over false true o ∙ unlock o u)
dropped_given false o u = refl

-- All slots but those of reasons are as they were, or empty where a propagator gave the nogood.
abbrev pub DropsGiven : List Entry → List (Option StoredNogood) → List (Option StoredNogood) → Type 0
DropsGiven es old new = (id : ℕ) → kept_at new id ≡ cond (is_named es id) (kept_at old id) (unless_given (kept_at old id))

drops_given : (es : List Entry) (xs ys : List (Option StoredNogood)) → AreUnlocked xs →
    ((id : ℕ) → kept_at ys id ≡ unless_given (kept_at (lock_all true es xs) id)) → DropsGiven es xs (lock_all false es ys)
drops_given es xs ys u each id =
    let same : kept_at ys id ≡ unless_given (cond (is_named es id) (with_lock true (kept_at xs id)) (kept_at xs id)) = each id ∙ ap unless_given (lock_all_at true es xs id) in
    lock_all_at false es ys id
    ∙ (ap (λ (o : Option StoredNogood). cond (is_named es id) (with_lock false o) o) same ∙ dropped_given (is_named es id) (kept_at xs id) (λ k g. u id k g))

forever_stays : (k : StoredNogood) → k.kind ≡ kind.Forever → is_given (Some k) ≡ true → ⊥
forever_stays k f q = false≢true (sym (ap (λ (x : Kind). comes_from_propagator x && not k.locked) f) ∙ q)

given_reduced : (es : List Entry) (old new : List (Option StoredNogood)) → length new ≡ length old → DropsGiven es old new → IsReduced es old new
given_reduced es old new len each = record {
  count = len;
  each = λ id. by_name id (is_named es id) refl;
  forever = λ id k g f. elim (by_name_or id (is_named es id) refl) [ inl e ↦ e ∙ g | inr e ↦ absurd (forever_stays k f (sym (ap is_given g) ∙ e)) ];
  named = λ i d id h q. each id ∙ ap (λ (b : Bool). cond b (kept_at old id) (unless_given (kept_at old id))) (named_at es i d id h q);
}
  where
    by_name_or : (id : ℕ) (b : Bool) → is_named es id ≡ b → (kept_at new id ≡ kept_at old id) ⊎ (is_given (kept_at old id) ≡ true)
    by_name_or id true q = inl (each id ∙ ap (λ (b : Bool). cond b (kept_at old id) (unless_given (kept_at old id))) q)
    by_name_or id false q =
        let e : kept_at new id ≡ unless_given (kept_at old id) = each id ∙ ap (λ (b : Bool). cond b (kept_at old id) (unless_given (kept_at old id))) q in
        elim (unless_other (kept_at old id) (is_given (kept_at old id)) refl) [ inl f ↦ inl (e ∙ f) | inr f ↦ inr f.1 ]

    by_name : (id : ℕ) (b : Bool) → is_named es id ≡ b → (kept_at new id ≡ kept_at old id) ⊎ (kept_at new id ≡ None)
    by_name id true q = inl (each id ∙ ap (λ (b : Bool). cond b (kept_at old id) (unless_given (kept_at old id))) q)
    by_name id false q =
        let e : kept_at new id ≡ unless_given (kept_at old id) = each id ∙ ap (λ (b : Bool). cond b (kept_at old id) (unless_given (kept_at old id))) q in
        elim (unless_other (kept_at old id) (is_given (kept_at old id)) refl) [ inl f ↦ inl (e ∙ f) | inr f ↦ inr (e ∙ f.0) ]

-- a store whose given nogoods were dropped while its reasons were locked
pub locks_given : (es : List Entry) (a b c d : Stored) → AreUnlocked a.slots → b ≡ record a { slots = lock_all true es a.slots } →
    ((id : ℕ) → kept_at c.slots id ≡ unless_given (kept_at b.slots id)) → d ≡ record c { slots = lock_all false es c.slots } → DropsGiven es a.slots d.slots
locks_given es a b c d u p each q =
    subst (DropsGiven es a.slots) (sym (ap (λ (s : Stored). s.slots) q))
    (drops_given es a.slots c.slots u (λ id. each id ∙ ap (λ (s : Stored). unless_given (kept_at s.slots id)) p))

pub locks_given_reduced : (es : List Entry) (a b c d : Stored) → AreUnlocked a.slots → b ≡ record a { slots = lock_all true es a.slots } → length c.slots ≡ length b.slots →
    ((id : ℕ) → kept_at c.slots id ≡ unless_given (kept_at b.slots id)) → d ≡ record c { slots = lock_all false es c.slots } → IsReduced es a.slots d.slots
locks_given_reduced es a b c d u p len each q =
    given_reduced es a.slots d.slots
    (ap (λ (s : Stored). length s.slots) q ∙ (lock_all_length false es c.slots ∙ (len ∙ (ap (λ (s : Stored). length s.slots) p ∙ lock_all_length true es a.slots))))
    (locks_given es a b c d u p each q)
