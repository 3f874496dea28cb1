-- How an answer is kept from being found again.
use Rattle.std.proofs.Common.{◌≡◌, ◌≢◌, ℕ, zero, suc, ◌+◌, ◌-◌, ◌^◌, ◌<◌, ◌≤◌, Bool, true, false, cond, eqb, List, ◌∷◌, ◌++◌, length, get_or, set, take, drop, Option, Some, None, IsSome, find, inl, inr, ◌⊎◌, refl, sym, ap, ◌∙◌, subst, arith, take-append-drop, []}
use Rattle.std.specs.List.{All, starts_with}
use Rattle.std.specs.Option.{unwrap_or}
use Rattle.std.proofs.lemmas.Bool.{eqb-true}
use Rattle.std.proofs.lemmas.List.{length-append, get_or_append_left}
use Rattle.asp_vars.specs.Literals.{Literal, complement, has_literal, literal_eq, value_of}
use Rattle.asp_vars.specs.Resolution.{IsWithin}
use Rattle.asp_vars.specs.declared.nogood.Base.TheVariants as base
use Rattle.asp_vars.specs.declared.nogood.Nogood.{Nogood}
use Rattle.asp_vars.proofs.LiteralLaws.{same_literal}
use Rattle.asp_vars.proofs.NumberingLaws.{same_lists}
use Rattle.asp_trail.specs.declared.trail.Entry.{Entry}
use Rattle.asp_trail.specs.Entries.{assignment, cut, reason_in, reason_or_none}
use Rattle.asp_trail.specs.Reasons.{AreReasoned}
use Rattle.asp_trail.specs.Trails.{IsOrdered, IsVar}
use Rattle.asp_trail.proofs.HoldLaws.{value_at}
use Rattle.asp_store.specs.declared.stored_nogood.StoredNogood.{StoredNogood}
use Rattle.asp_store.specs.declared.stored_nogood.Kind.TheVariants as kind
use Rattle.asp_store.specs.Keeping.{nogood_at, IsAddedAt}
use Rattle.asp_order.specs.Heaps.{Ranking}
use Rattle.asp_trail_laws.specs.Starts.{AreStarts}
use Rattle.asp_trail_laws.proofs.LitLaws.{all_has, has_more, has_append, has_place, has_at}
use Rattle.asp_trail_laws.proofs.PlaceLaws.{blank, reason_at}
use Rattle.asp_propagate.specs.Propagating.{IsUnnamed, IsReduced}
use Rattle.asp_search_laws.specs.Keeping.{IsBlocking, AreBlocking}
use Rattle.asp_search_laws.specs.Steps.{blocking_nogood}
use Rattle.asp_store.proofs.GrowLaws.{kept_within as nogood_within}
use Rattle.asp_store.proofs.KeepLaws.{added_stays}
use Rattle.asp_search_laws.proofs.SlotLaws.{nogood_kept, kept_nogood, kept_within, added_each, added_apart, grows_forever, reduced_none, excluded_stay, blocking_stay, blocking_push, blocking_pop, removed_none, removed_other, removed_excluded, removed_blocking}
use Rattle.asp_state.specs.SearchStates.{SearchView}
use Rattle.asp_search.specs.Blocking.{IsRedundant, Drops, Blocks}

-- ---- reasons
-- a variable that was implied has a value
reason_found : (es : List Entry) (v id : ℕ) → reason_in es v ≡ Some id → (i : ℕ) × (i < length es) × ((d : Entry) → (get_or es i d).lit.var ≡ v)
reason_found [] v id q = absurd (none q)
  where
    none : None ≡ Some id → ⊥
    none e = cc
reason_found (e ∷ es) v id q = cases (eqb e.lit.var v) refl (reason_found es v id)
  where
    cases : (b : Bool) → b ≡ eqb e.lit.var v → (reason_in es v ≡ Some id → (i : ℕ) × (i < length es) × ((d : Entry) → (get_or es i d).lit.var ≡ v)) →
        (i : ℕ) × (i < length (e ∷ es)) × ((d : Entry) → (get_or (e ∷ es) i d).lit.var ≡ v)
    cases true p rest = (0, omega arith, λ d. eqb-true e.lit.var v (sym p))
    cases false p rest =
        let r = rest (ap (λ (b : Bool). reason_or_none (cond b (Some e) (find (λ (x : Entry). eqb x.lit.var v) es))) p ∙ q) in
        (suc r.0, omega (arith, r.1), λ d. r.2 d)

pub unvalued_no_reason : (vars : ℕ) (es : List Entry) (v id : ℕ) → IsOrdered vars es → value_of (assignment vars es) v ≡ None → reason_in es v ≢ Some id
unvalued_no_reason vars es v id o none q =
    let f = reason_found es v id q in
    clash (get_or es f.0 blank).lit.truth (sym none ∙ (ap (λ (x : ℕ). get_or (assignment vars es) x None) (sym (f.2 blank)) ∙ value_at vars es f.0 blank o f.1))
  where
    clash : (b : Bool) → None ≡ Some b → ⊥
    clash b e = cc

-- an entry that names a nogood has its variable there
pub unnamed : (vars : ℕ) (kept : ℕ → Option Nogood) (es : List Entry) (id : ℕ) (n : Nogood) → IsOrdered vars es → AreReasoned kept es → id < 2 ^ 31 → kept id ≡ Some n →
    All (λ l. reason_in es l.var ≢ Some id) n.lits → IsUnnamed es id
unnamed vars kept es id n o r small k none i d h q =
    let w = r i d id h small q in
    let same : w.0 ≡ n = some_is w.0 n (sym w.1 ∙ k) in
    let has : has_literal n.lits (complement (get_or es i d).lit) ≡ true = subst (λ (m : Nogood). has_literal m.lits (complement (get_or es i d).lit) ≡ true) same w.2.has in
    all_has (λ l. reason_in es l.var ≢ Some id) n.lits (complement (get_or es i d).lit) none has (reason_at vars es i d (get_or es i d).lit o h refl ∙ q)
  where
    some_is : (x y : Nogood) → Some x ≡ Some y → x ≡ y
    some_is x y e = ap (λ (o : Option Nogood). unwrap_or o x) e

-- ---- nogoods that begin with these literals
pub begins_within : (old lits : List Literal) → starts_with literal_eq old lits ≡ true → IsWithin lits old
begins_within old lits h l has =
    let same : lits ≡ take (length lits) old = same_lists literal_eq same_literal lits (take (length lits) old) h in
    subst (λ (n : List Literal). has_literal n l ≡ true) (take-append-drop (length lits) old)
    (has_more (take (length lits) old) (drop (length lits) old) l (subst (λ (n : List Literal). has_literal n l ≡ true) same has))

-- ---- dropping one
pub drop_one : (newest : Nogood) (id old : ℕ) (first slots : List (Option StoredNogood)) (blocking : List ℕ) (n : Nogood) →
    AreBlocking slots (blocking ++ old ∷ []) → nogood_at slots old ≡ Some n → IsWithin newest.lits n.lits →
    Drops newest id first slots (blocking ++ old ∷ []) → Drops newest id first (set slots old None) blocking
drop_one newest id old first slots blocking n b k within d =
    let parts = blocking_pop slots blocking old b in
    let x = kept_nogood slots old n k in
    let small : old < length slots = kept_within slots old x.0 x.1 in
    let ne : id ≢ old = λ q. last old (sym q) in
    record {
      none = λ j m q. d.none j m (removed_none slots old small j m q);
      stands = removed_other slots old id ne ∙ d.stands;
      blocked = λ p S s.
          removed_excluded p slots old id x.0 (record { nogood = newest; kind = kind.Forever; locked = false }) S x.1 d.stands refl ne
          (subst (λ (m : Nogood). IsWithin newest.lits m.lits) (sym x.2) within) (d.blocked p S s);
      blocking_stand = removed_blocking slots blocking old parts.1 parts.0;
      apart = λ i e h q. d.apart i e (omega (arith, h, length-append blocking (old ∷ []))) (get_or_append_left blocking (old ∷ []) e i h ∙ q);
    }
  where
    at : (xs : List ℕ) (e : ℕ) → get_or (xs ++ old ∷ []) (length xs) e ≡ old
    at [] e = refl
    at (x ∷ xs) e = at xs e

    last : (e : ℕ) → old ≢ id
    last e q = d.apart (length blocking) e (omega (arith, length-append blocking (old ∷ []))) (at blocking e ∙ q)

-- ---- the newest
-- its literals are variables'
pub blocking_vars : (vars : ℕ) (q decisions : List Literal) (es : List Entry) → IsOrdered vars es → AreStarts q decisions es → All (λ l. IsVar vars l.var) (q ++ decisions)
blocking_vars vars q decisions es o s i d h = each (get_or (q ++ decisions) i d) (has_append q decisions (get_or (q ++ decisions) i d) (has_at (q ++ decisions) i d h))
  where
    place : (l : Literal) (j : ℕ) → j < length es → (get_or es j blank).lit ≡ l → IsVar vars l.var
    place l j k e = subst (λ (m : Literal). IsVar vars m.var) e (o.within j blank k)

    each : (l : Literal) → (has_literal q l ≡ true) ⊎ (has_literal decisions l ≡ true) → IsVar vars l.var
    each l (inl x) = let f = s.cube_stands l x in place l f.0 f.1.within (f.1.lit blank)
    each l (inr x) =
        let f = has_place decisions l x in
        let b = s.decisions_stand f.0 f.1 in
        place l b.place b.stands.within (b.stands.lit blank ∙ f.2 (record { var = 0; truth = false }))

-- before any is dropped
pub drop_none : (newest : Nogood) (slots more : List (Option StoredNogood)) (id : ℕ) (blocking : List ℕ) → IsAddedAt slots more id newest kind.Forever → AreBlocking slots blocking →
    Drops newest id more more blocking
drop_none newest slots more id blocking a b = record {
  none = λ j n q. q;
  stands = a.here;
  blocked = λ p S x. x;
  blocking_stand = blocking_stay slots more blocking (grows_forever slots more (added_stays slots more id newest kind.Forever a)) b;
  apart = λ i d h. let x = b.each i d h in added_apart slots more id newest kind.Forever a (get_or blocking i d) x.kept x.stands;
}

-- after all
pub drop_done : (newest : Nogood) (old new : SearchView) (slots : List (Option StoredNogood)) (id : ℕ) (blocking : List ℕ) → newest.base ≡ base.Local →
    IsAddedAt old.slots slots id newest kind.Forever →
    new ≡ record old {
      entries = cut (length old.decisions - 1) old.entries;
      decisions = take (length old.decisions - 1) old.decisions;
      slots = new.slots;
      ranking = new.ranking;
    } → Drops newest id slots new.slots blocking → Blocks newest old new id (blocking ++ id ∷ [])
drop_done newest old new slots id blocking local a same d = record {
  same = same;
  nogoods = λ j n q. cases j n (added_each old.slots slots id newest kind.Forever a j n (d.none j n q));
  stands = d.stands;
  blocked = λ p S b. d.blocked p S (excluded_stay p old.slots slots S (grows_forever old.slots slots (added_stays old.slots slots id newest kind.Forever a)) b);
  blocking_stand =
      blocking_push new.slots blocking id d.blocking_stand
      (record { kept = record { nogood = newest; kind = kind.Forever; locked = false }; stands = d.stands; forever = refl; local = local }) d.apart;
}
  where
    cases : (j : ℕ) (n : Nogood) → (nogood_at old.slots j ≡ Some n) ⊎ (newest ≡ n) → (nogood_at old.slots j ≡ Some n) ⊎ (n ≡ newest)
    cases j n (inl q) = inl q
    cases j n (inr e) = inr (sym e)

-- ---- the newest of the list
pub init_last : (xs : List ℕ) (n d : ℕ) → n + 1 ≡ length xs → xs ≡ take n xs ++ get_or xs n d ∷ []
init_last [] n d h = absurd (omega (arith, h))
init_last (x ∷ []) zero d h = refl
init_last (x ∷ y ∷ ys) zero d h = absurd (omega (arith, h))
init_last (x ∷ xs) (suc n) d h = ap (λ (zs : List ℕ). x ∷ zs) (init_last xs n d (omega (arith, h)))

-- dropping it
module _ (slots : List (Option StoredNogood)) (blocking rest : List ℕ) (id : ℕ) (lits : List Literal) (es : List Entry)
    (is : blocking ≡ rest ++ id ∷ []) (b : AreBlocking slots blocking) (redundant : IsRedundant slots es lits id) where
  split : AreBlocking slots (rest ++ id ∷ [])
  split = subst (AreBlocking slots) is b

  pub newest_blocking : IsBlocking slots id
  newest_blocking = subst (IsBlocking slots) (end rest) (split.each (length rest) id (omega (arith, length-append rest (id ∷ []))))
    where
      end : (xs : List ℕ) → get_or (xs ++ id ∷ []) (length xs) id ≡ id
      end [] = refl
      end (x ∷ xs) = end xs

  pub newest_drops : (newest : Nogood) (n : ℕ) (first : List (Option StoredNogood)) → newest.lits ≡ lits → Drops newest n first slots blocking → Drops newest n first (set slots id None) rest
  newest_drops newest n first same d =
      let k : nogood_at slots id ≡ Some newest_blocking.kept.nogood = nogood_kept slots id newest_blocking.kept newest_blocking.stands in
      drop_one newest n id first slots rest newest_blocking.kept.nogood split k
      (subst (λ (xs : List Literal). IsWithin xs newest_blocking.kept.nogood.lits) (sym same) (redundant.within newest_blocking.kept.nogood k))
      (subst (Drops newest n first slots) is d)

  pub newest_gone : AreBlocking (set slots id None) rest
  newest_gone = let parts = blocking_pop slots rest id split in removed_blocking slots rest id parts.1 parts.0

-- the last of the list, where it was dropped
pub last_dropped : (t u : SearchView) (blocking new : List ℕ) (n id : ℕ) (lits : List Literal) → n + 1 ≡ length blocking → id ≡ get_or blocking n id →
    AreBlocking t.slots blocking → IsRedundant t.slots t.entries lits id →
    u ≡ record t { slots = set t.slots id None } → new ≡ take n blocking →
    AreBlocking u.slots new × ((newest : Nogood) (j : ℕ) (first : List (Option StoredNogood)) → newest.lits ≡ lits → Drops newest j first t.slots blocking → Drops newest j first u.slots new)
last_dropped t u blocking new n id lits size at stand redundant gone short =
    let is : blocking ≡ take n blocking ++ id ∷ [] = init_last blocking n id size ∙ ap (λ (i : ℕ). take n blocking ++ i ∷ []) (sym at) in
    let slots : set t.slots id None ≡ u.slots = sym (ap (λ (x : SearchView). x.slots) gone) in (
      subst (AreBlocking u.slots) (sym short) (subst (λ (xs : List (Option StoredNogood)). AreBlocking xs (take n blocking)) slots
          (newest_gone t.slots blocking (take n blocking) id lits t.entries is stand redundant)),
      λ newest j first same d.
          subst (Drops newest j first u.slots) (sym short)
          (subst (λ (xs : List (Option StoredNogood)). Drops newest j first xs (take n blocking)) slots
          (newest_drops t.slots blocking (take n blocking) id lits t.entries is stand redundant newest j first same d)),
    )

-- the slots alone changed, and then once more
pub slots_twice : (t a b : SearchView) → a ≡ record t { slots = a.slots } → b ≡ record a { slots = b.slots } → b ≡ record t { slots = b.slots }
slots_twice t a b first second = second ∙ ap (λ (x : SearchView). let y : SearchView = record x { slots = b.slots } in y) first

-- a blocking number is of a nogood
pub blocking_has : (slots : List (Option StoredNogood)) (id : ℕ) → IsBlocking slots id → IsSome (nogood_at slots id)
blocking_has slots id b = some (nogood_at slots id) b.kept.nogood (nogood_kept slots id b.kept b.stands)
  where
    some : (o : Option Nogood) (n : Nogood) → o ≡ Some n → IsSome o
    some None n q = absurd (none n q)
      where
        none : (m : Nogood) → None ≡ Some m → ⊥
        none m e = cc
    some (Some m) n q = refl

-- ---- a nogood that can be dropped
pub same_nogood : (n m : Nogood) → Some n ≡ Some m → n ≡ m
same_nogood n m q = ap (λ (o : Option Nogood). unwrap_or o n) q

-- one that begins with the literals, and whose variables it didn't imply
pub some_is : (o : Option Nogood) → IsSome o → (n : Nogood) × (o ≡ Some n)
some_is None h = cc
some_is (Some n) h = (n, refl)

pub redundant_from : (vars : ℕ) (slots : List (Option StoredNogood)) (es : List Entry) (lits : List Literal) (id : ℕ) (n : Nogood) →
    IsOrdered vars es → AreReasoned (nogood_at slots) es → length slots ≤ 2 ^ 31 → nogood_at slots id ≡ Some n →
    starts_with literal_eq n.lits lits ≡ true → All (λ l. reason_in es l.var ≢ Some id) n.lits → IsRedundant slots es lits id
redundant_from vars slots es lits id n o r few k begins none = record {
  within = λ m q. subst (λ (x : Nogood). IsWithin lits x.lits) (same_nogood n m (sym k ∙ q)) (begins_within n.lits lits begins);
  unnamed = unnamed vars (nogood_at slots) es id n o r (omega (arith, few, nogood_within slots id n k)) k none;
}

-- ---- the state, where the newest was kept, a level taken back, and others were dropped
pub block_same : (t a b u : SearchView) (k : ℕ) → k ≡ length t.decisions - 1 → a ≡ record t { slots = a.slots } →
    b ≡ record a { decisions = take k a.decisions; entries = cut k a.entries; ranking = b.ranking } → u ≡ record b { slots = u.slots } →
    u ≡ record t { entries = cut (length t.decisions - 1) t.entries; decisions = take (length t.decisions - 1) t.decisions; slots = u.slots; ranking = u.ranking }
block_same t a b u k count keep undo drop =
    let order : b.ranking ≡ u.ranking = sym (ap (λ (x : SearchView). x.ranking) drop) in
    let first : SearchView → SearchView = λ x. record x { decisions = take k x.decisions; entries = cut k x.entries; ranking = b.ranking } in
    let second : SearchView → SearchView = λ x. record x { slots = u.slots } in
    let third : ℕ → SearchView = λ i. record t { entries = cut i t.entries; decisions = take i t.decisions; slots = u.slots; ranking = b.ranking } in
    let fourth : Ranking → SearchView = λ r. record t { entries = cut (length t.decisions - 1) t.entries; decisions = take (length t.decisions - 1) t.decisions; slots = u.slots; ranking = r } in
    drop ∙ (ap second (undo ∙ ap first keep) ∙ (ap third count ∙ ap fourth order))

-- the blocking ones stand there
pub block_blocking : (t a b : SearchView) (k id : ℕ) (newest : Nogood) (blocking : List ℕ) → AreBlocking t.slots blocking → IsAddedAt t.slots a.slots id newest kind.Forever →
    b ≡ record a { decisions = take k a.decisions; entries = cut k a.entries; ranking = b.ranking } → AreBlocking b.slots blocking
block_blocking t a b k id newest blocking stand keep undo =
    subst (λ (xs : List (Option StoredNogood)). AreBlocking xs blocking) (sym (ap (λ (x : SearchView). x.slots) undo)) (drop_none newest t.slots a.slots id blocking keep stand).blocking_stand

-- all of it, where the new nogood is listed
pub block_done : (t a b u : SearchView) (k id : ℕ) (q : List Literal) (newest : Nogood) (lits : List Literal) (old blocking new : List ℕ) →
    newest ≡ blocking_nogood q t.decisions → lits ≡ newest.lits →
    AreBlocking t.slots old → k ≡ length t.decisions - 1 → a ≡ record t { slots = a.slots } → IsAddedAt t.slots a.slots id newest kind.Forever →
    b ≡ record a { decisions = take k a.decisions; entries = cut k a.entries; ranking = b.ranking } → u ≡ record b { slots = u.slots } →
    ((w : Nogood) (j : ℕ) (first : List (Option StoredNogood)) → w.lits ≡ lits → Drops w j first b.slots old → Drops w j first u.slots blocking) →
    new ≡ blocking ++ id ∷ [] → Blocks (blocking_nogood q t.decisions) t u id new
block_done t a b u k id q newest lits old blocking new is same stand count keep added undo drop step pushed =
    let begun : Drops newest id a.slots b.slots old =
    subst (λ (xs : List (Option StoredNogood)). Drops newest id a.slots xs old) (sym (ap (λ (x : SearchView). x.slots) undo)) (drop_none newest t.slots a.slots id old added stand) in
    let done : Blocks newest t u id (blocking ++ id ∷ []) =
    drop_done newest t u a.slots id blocking (ap (λ (n : Nogood). n.base) is) added (block_same t a b u k count keep undo drop) (step newest id a.slots (sym same) begun) in
    subst (λ (n : Nogood). Blocks n t u id new) is (subst (Blocks newest t u id) (sym pushed) done)

-- ---- where others go then
pub block_thinned : (newest : Nogood) (t m u : SearchView) (id : ℕ) (blocking : List ℕ) (es : List Entry) → Blocks newest t m id blocking →
    u ≡ record m { slots = u.slots } → IsReduced es m.slots u.slots → Blocks newest t u id blocking
block_thinned newest t m u id blocking es b same r =
    let third : SearchView → SearchView = λ x. record x { slots = u.slots } in
    let fourth : Ranking → SearchView = λ r. record t { entries = cut (length t.decisions - 1) t.entries; decisions = take (length t.decisions - 1) t.decisions; slots = u.slots; ranking = r } in
    record {
      same = same ∙ (ap third b.same ∙ ap fourth (sym (ap (λ (x : SearchView). x.ranking) same)));
      nogoods = λ j n k. b.nogoods j n (reduced_none es m.slots u.slots r j n k);
      stands = r.forever id (record { nogood = newest; kind = kind.Forever; locked = false }) b.stands refl;
      blocked = λ p S x. excluded_stay p m.slots u.slots S r.forever (b.blocked p S x);
      blocking_stand = blocking_stay m.slots u.slots blocking r.forever b.blocking_stand;
    }
