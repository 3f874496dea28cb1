-- What stays kept where nogoods are added and dropped.
use Rattle.std.proofs.Common.{◌≡◌, ◌≢◌, ℕ, suc, zero, ◌<◌, true, false, List, ◌∷◌, ◌++◌, length, get_or, set, Option, Some, None, ◌⊎◌, inl, inr, refl, sym, ap, ◌∙◌, subst, arith, get_or-set_same, get_or-set_other, []}
use Rattle.std.specs.Prelude.{ℤ, Bool, not, ◌&&◌, if◌then◌else◌}
use Rattle.std.specs.List.{All}
use Rattle.std.specs.Option.{unwrap_or, option_map}
use Rattle.std.proofs.lemmas.Bool.{cases_eq}
use Rattle.std.proofs.lemmas.List.{length-append, get_or_append_left}
use Rattle.std.proofs.lemmas.List.Elements.{All-append, All-cons, All-nil, All-weaker}
use Rattle.asp_model.specs.declared.program.Program.{Program}
use Rattle.asp_model.specs.Sets.{Atoms}
use Rattle.asp_vars.specs.Literals.{hits}
use Rattle.asp_vars.specs.Numbering.{values}
use Rattle.asp_vars.specs.Resolution.{IsWithin}
use Rattle.asp_vars.specs.declared.nogood.Nogood.{Nogood}
use Rattle.asp_vars.proofs.SettledLaws.{hits-within}
use Rattle.asp_trail.specs.declared.trail.Entry.{Entry}
use Rattle.asp_store.specs.declared.stored_nogood.StoredNogood.{StoredNogood}
use Rattle.asp_store.specs.declared.stored_nogood.Kind.{Kind}
use Rattle.asp_store.specs.declared.stored_nogood.Kind.TheVariants as kind
use Rattle.asp_store.specs.Keeping.{kept_at, nogood_at, unless_given, IsAddedAt}
use Rattle.asp_store.proofs.GetLaws.{is_or_not}
use Rattle.asp_propagate.specs.Propagating.{Adds, IsReduced}
use Rattle.asp_propagate.specs.Useful.{IsUseful}
use Rattle.asp_propagate.proofs.AddLaws.{adds_each}
use Rattle.asp_search_laws.specs.Keeping.{AreUseful, IsExcluded, AreExcluded, IsBlocking, AreBlocking, IsLast, Grows, GrowsUnlessGiven}

no_some : {X : Type 0} (x : X) → None ≡ Some x → ⊥
no_some x q = cc

some_is : {X : Type 0} (x y : X) → Some x ≡ Some y → x ≡ y
some_is x y q = ap (λ o. unwrap_or o x) q

pub nogood_kept : (slots : List (Option StoredNogood)) (id : ℕ) (k : StoredNogood) → kept_at slots id ≡ Some k → nogood_at slots id ≡ Some k.nogood
nogood_kept slots id k q = ap (λ (o : Option StoredNogood). option_map (λ (x : StoredNogood). x.nogood) o) q

pub kept_nogood : (slots : List (Option StoredNogood)) (id : ℕ) (n : Nogood) → nogood_at slots id ≡ Some n → (k : StoredNogood) × (kept_at slots id ≡ Some k) × (k.nogood ≡ n)
kept_nogood slots id n q = cases (kept_at slots id) refl
  where
    cases : (o : Option StoredNogood) → o ≡ kept_at slots id → (k : StoredNogood) × (kept_at slots id ≡ Some k) × (k.nogood ≡ n)
    cases None e = absurd (no_some n (ap (λ (x : Option StoredNogood). option_map (λ (y : StoredNogood). y.nogood) x) e ∙ q))
    cases (Some k) e = (k, sym e, some_is k.nogood n (ap (λ (x : Option StoredNogood). option_map (λ (y : StoredNogood). y.nogood) x) e ∙ q))

pub kept_within : (slots : List (Option StoredNogood)) (id : ℕ) (k : StoredNogood) → kept_at slots id ≡ Some k → id < length slots
kept_within [] id k q = absurd (no_some k q)
kept_within (o ∷ slots) zero k q = omega arith
kept_within (o ∷ slots) (suc id) k q = omega (arith, kept_within slots id k q)

-- ---- one nogood more
pub added_newest : (old new : List (Option StoredNogood)) (id : ℕ) (n : Nogood) (kind : Kind) → IsAddedAt old new id n kind → nogood_at new id ≡ Some n
added_newest old new id n kind a = nogood_kept new id (record { nogood = n; kind = kind; locked = false }) a.here

pub added_each : (old new : List (Option StoredNogood)) (id : ℕ) (n : Nogood) (kind : Kind) → IsAddedAt old new id n kind → (j : ℕ) (m : Nogood) → nogood_at new j ≡ Some m →
    (nogood_at old j ≡ Some m) ⊎ (n ≡ m)
added_each old new id n kind a j m g =
    elim (is_or_not j id) [
      | inl e ↦ inr (some_is n m (sym (added_newest old new id n kind a) ∙ (ap (nogood_at new) (sym e) ∙ g)))
      | inr ne ↦ inl (ap (λ (o : Option StoredNogood). option_map (λ (k : StoredNogood). k.nogood) o) (sym (a.others j ne)) ∙ g)
    ]

-- the number is of none that was kept
pub added_apart : (old new : List (Option StoredNogood)) (id : ℕ) (n : Nogood) (kind : Kind) → IsAddedAt old new id n kind → (j : ℕ) (k : StoredNogood) → kept_at old j ≡ Some k → j ≢ id
added_apart old new id n kind a j k g e = no_some k (sym a.free ∙ (ap (kept_at old) (sym e) ∙ g))

-- ---- all that were kept are kept
pub grows_nogood : (old new : List (Option StoredNogood)) (id : ℕ) (n : Nogood) → Grows old new → nogood_at old id ≡ Some n → nogood_at new id ≡ Some n
grows_nogood old new id n g q =
    let k = kept_nogood old id n q in
    nogood_kept new id k.0 (g id k.0 k.1) ∙ ap (λ (m : Nogood). Some m) k.2

pub grows_none : (old : List (Option StoredNogood)) → Grows old old
grows_none old id k q = q

pub grows_more : (a b c : List (Option StoredNogood)) → Grows a b → Grows b c → Grows a c
grows_more a b c g h id k q = h id k (g id k q)

pub grows_adds : (gives : Nogood → Type 0) (old new : List (Option StoredNogood)) → Adds gives old new → Grows old new
grows_adds gives old new a = a.stay

-- ---- what is kept forever stays
abbrev pub KeepsForever : List (Option StoredNogood) → List (Option StoredNogood) → Type 0
KeepsForever old new = (id : ℕ) (k : StoredNogood) → kept_at old id ≡ Some k → k.kind ≡ kind.Forever → kept_at new id ≡ Some k

-- nothing else is kept
abbrev pub AddsNone : List (Option StoredNogood) → List (Option StoredNogood) → Type 0
AddsNone old new = (id : ℕ) (n : Nogood) → nogood_at new id ≡ Some n → nogood_at old id ≡ Some n

pub grows_forever : (old new : List (Option StoredNogood)) → Grows old new → KeepsForever old new
grows_forever old new g id k q f = g id k q

pub reduced_none : (es : List Entry) (old new : List (Option StoredNogood)) → IsReduced es old new → AddsNone old new
reduced_none es old new r id n q = cases (r.each id)
  where
    cases : (kept_at new id ≡ kept_at old id) ⊎ (kept_at new id ≡ None) → nogood_at old id ≡ Some n
    cases (inl e) = ap (λ (o : Option StoredNogood). option_map (λ (k : StoredNogood). k.nogood) o) (sym e) ∙ q
    cases (inr e) = absurd (no_some n (ap (λ (o : Option StoredNogood). option_map (λ (k : StoredNogood). k.nogood) o) (sym e) ∙ q))

-- where what propagators gave is dropped, all else stays
pub others_stay : (old new : List (Option StoredNogood)) (named : ℕ → Bool) →
    ((id : ℕ) → kept_at new id ≡ if named id then kept_at old id else unless_given (kept_at old id)) → GrowsUnlessGiven old new
others_stay old new named each id k h q = cases (named id) (each id)
  where
    stays : unless_given (kept_at old id) ≡ Some k
    stays = ap unless_given h ∙ ap (λ (b : Bool). if b && not k.locked then None else Some k) q

    cases : (b : Bool) → kept_at new id ≡ (if b then kept_at old id else unless_given (kept_at old id)) → kept_at new id ≡ Some k
    cases true e = e ∙ h
    cases false e = e ∙ stays

pub reduced_twice : (es : List Entry) (a b c : List (Option StoredNogood)) → IsReduced es a b → IsReduced es b c → IsReduced es a c
reduced_twice es a b c x y = record {
  count = y.count ∙ x.count;
  each = λ id. elim (y.each id) [
    | inl e ↦ elim (x.each id) [ inl f ↦ inl (e ∙ f) | inr f ↦ inr (e ∙ f) ]
    | inr e ↦ inr e
  ];
  forever = λ id k q f. y.forever id k (x.forever id k q f) f;
  named = λ i d id h q. y.named i d id h q ∙ x.named i d id h q;
}

-- ---- useful nogoods
pub useful_none : (p : Program) (known : List Atoms) (bound : Option (List ℤ)) (old new : List (Option StoredNogood)) → AddsNone old new → AreUseful p known bound old → AreUseful p known bound new
useful_none p known bound old new a u id n q = u id n (a id n q)

pub useful_added : (p : Program) (known : List Atoms) (bound : Option (List ℤ)) (old new : List (Option StoredNogood)) (id : ℕ) (n : Nogood) (kind : Kind) → IsAddedAt old new id n kind →
    IsUseful p known bound n → AreUseful p known bound old → AreUseful p known bound new
useful_added p known bound old new id n kind a useful u j m q =
    elim (added_each old new id n kind a j m q) [
      | inl was ↦ u j m was
      | inr e ↦ subst (IsUseful p known bound) e useful
    ]

pub useful_adds : (p : Program) (known : List Atoms) (bound : Option (List ℤ)) (gives : Nogood → Type 0) (old new : List (Option StoredNogood)) → ((n : Nogood) → gives n → IsUseful p known bound n) →
    Adds gives old new → AreUseful p known bound old → AreUseful p known bound new
useful_adds p known bound gives old new sound a u id n q = cases (adds_each gives old new id n a q)
  where
    cases : (nogood_at old id ≡ Some n) ⊎ gives n → IsUseful p known bound n
    cases (inl g) = u id n g
    cases (inr g) = sound n g

-- ---- blocked answers
pub excluded_stay : (p : Program) (old new : List (Option StoredNogood)) (S : Atoms) → KeepsForever old new → IsExcluded p old S → IsExcluded p new S
excluded_stay p old new S f b = record { id = b.id; kept = b.kept; stands = f b.id b.kept b.stands b.forever; forever = b.forever; hit = b.hit }

pub all_excluded : (p : Program) (old new : List (Option StoredNogood)) (known : List Atoms) →
    ((S : Atoms) → IsExcluded p old S → IsExcluded p new S) → AreExcluded p old known → AreExcluded p new known
all_excluded p old new [] f b = tt
all_excluded p old new (S ∷ known) f b = (f S b.0, all_excluded p old new known f b.1)

pub all_excluded_stay : (p : Program) (old new : List (Option StoredNogood)) (known : List Atoms) → KeepsForever old new → AreExcluded p old known → AreExcluded p new known
all_excluded_stay p old new known f = all_excluded p old new known (λ S b. excluded_stay p old new S f b)

pub excluded_more : (p : Program) (slots : List (Option StoredNogood)) (known : List Atoms) (S : Atoms) → AreExcluded p slots known → IsExcluded p slots S → AreExcluded p slots (known ++ S ∷ [])
excluded_more p slots [] S a b = (b, tt)
excluded_more p slots (T ∷ known) S a b = (a.0, excluded_more p slots known S a.1 b)

-- ---- blocking
pub blocking_stays : (old new : List (Option StoredNogood)) (id : ℕ) → KeepsForever old new → IsBlocking old id → IsBlocking new id
blocking_stays old new id f b = record { kept = b.kept; stands = f id b.kept b.stands b.forever; forever = b.forever; local = b.local }

pub blocking_stay : (old new : List (Option StoredNogood)) (ids : List ℕ) → KeepsForever old new → AreBlocking old ids → AreBlocking new ids
blocking_stay old new ids f b = record { each = All-weaker (IsBlocking old) (IsBlocking new) (λ id x. blocking_stays old new id f x) ids b.each; differ = b.differ }

at_end : (xs : List ℕ) (x d : ℕ) → get_or (xs ++ x ∷ []) (length xs) d ≡ x
at_end [] x d = refl
at_end (y ∷ xs) x d = at_end xs x d

pub blocking_push : (slots : List (Option StoredNogood)) (ids : List ℕ) (id : ℕ) → AreBlocking slots ids → IsBlocking slots id → All (λ i. i ≢ id) ids → AreBlocking slots (ids ++ id ∷ [])
blocking_push slots ids id b new apart = record {
  each = All-append (IsBlocking slots) ids (id ∷ []) b.each (All-cons (IsBlocking slots) id [] new (All-nil (IsBlocking slots)));
  differ = λ i j d l h. cases i j d l h (cases_eq j (length ids));
}
  where
    cases : (i j d : ℕ) → i < j → j < length (ids ++ id ∷ []) → (j ≡ length ids) ⊎ (j ≡ length ids → ⊥) → get_or (ids ++ id ∷ []) i d ≢ get_or (ids ++ id ∷ []) j d
    cases i j d l h (inl e) q =
        let first : get_or (ids ++ id ∷ []) i d ≡ get_or ids i d = get_or_append_left ids (id ∷ []) d i (omega (arith, l, e)) in
        let second : get_or (ids ++ id ∷ []) j d ≡ id = ap (λ (k : ℕ). get_or (ids ++ id ∷ []) k d) e ∙ at_end ids id d in
        apart i d (omega (arith, l, e)) (sym first ∙ (q ∙ second))
    cases i j d l h (inr ne) q =
        let near : j < length ids = omega (arith, h, ne, length-append ids (id ∷ [])) in
        let first : get_or (ids ++ id ∷ []) i d ≡ get_or ids i d = get_or_append_left ids (id ∷ []) d i (omega (arith, l, near)) in
        let second : get_or (ids ++ id ∷ []) j d ≡ get_or ids j d = get_or_append_left ids (id ∷ []) d j near in
        b.differ i j d l near (sym first ∙ (q ∙ second))

-- the newest taken away
pub blocking_pop : (slots : List (Option StoredNogood)) (ids : List ℕ) (id : ℕ) → AreBlocking slots (ids ++ id ∷ []) → AreBlocking slots ids × All (λ i. i ≢ id) ids
blocking_pop slots ids id b = (
  record {
    each = λ i d h. subst (IsBlocking slots) (get_or_append_left ids (id ∷ []) d i h) (b.each i d (omega (arith, h, length-append ids (id ∷ []))));
    differ = λ i j d l h. up i j d l h;
  },
  λ i d h. apart i d h,
)
  where
    up : (i j d : ℕ) → i < j → j < length ids → get_or ids i d ≢ get_or ids j d
    up i j d l h q =
        let first : get_or (ids ++ id ∷ []) i d ≡ get_or ids i d = get_or_append_left ids (id ∷ []) d i (omega (arith, l, h)) in
        let second : get_or (ids ++ id ∷ []) j d ≡ get_or ids j d = get_or_append_left ids (id ∷ []) d j h in
        b.differ i j d l (omega (arith, h, length-append ids (id ∷ []))) (first ∙ (q ∙ sym second))

    apart : (i d : ℕ) → i < length ids → get_or ids i d ≢ id
    apart i d h q =
        let first : get_or (ids ++ id ∷ []) i d ≡ get_or ids i d = get_or_append_left ids (id ∷ []) d i h in
        let last : get_or (ids ++ id ∷ []) (length ids) d ≡ id = at_end ids id d in
        b.differ i (length ids) d h (omega (arith, length-append ids (id ∷ []))) (first ∙ (q ∙ sym last))

-- ---- one that is dropped
pub removed_none : (slots : List (Option StoredNogood)) (id : ℕ) → id < length slots → AddsNone slots (set slots id None)
removed_none slots id h j n q = cases (cases_eq j id)
  where
    cases : (j ≡ id) ⊎ (j ≡ id → ⊥) → nogood_at slots j ≡ Some n
    cases (inl e) =
        absurd (no_some n (ap (λ (o : Option StoredNogood). option_map (λ (k : StoredNogood). k.nogood) o)
        (sym (get_or-set_same slots id None None h)) ∙ (ap (λ (i : ℕ). nogood_at (set slots id None) i) (sym e) ∙ q)))
    cases (inr ne) = ap (λ (o : Option StoredNogood). option_map (λ (k : StoredNogood). k.nogood) o) (sym (get_or-set_other slots id j None None ne)) ∙ q

pub removed_other : (slots : List (Option StoredNogood)) (id j : ℕ) → j ≢ id → kept_at (set slots id None) j ≡ kept_at slots j
removed_other slots id j ne = get_or-set_other slots id j None None ne

-- Where another kept forever says more, each answer that was blocked still is.
pub removed_excluded : (p : Program) (slots : List (Option StoredNogood)) (id other : ℕ) (k m : StoredNogood) (S : Atoms) →
    kept_at slots id ≡ Some k → kept_at slots other ≡ Some m → m.kind ≡ kind.Forever → other ≢ id →
    IsWithin m.nogood.lits k.nogood.lits → IsExcluded p slots S → IsExcluded p (set slots id None) S
removed_excluded p slots id other k m S old new forever ne within b = cases (cases_eq b.id id)
  where
    cases : (b.id ≡ id) ⊎ (b.id ≡ id → ⊥) → IsExcluded p (set slots id None) S
    cases (inl e) =
        let same : b.kept ≡ k = some_is b.kept k (sym b.stands ∙ (ap (λ (i : ℕ). kept_at slots i) e ∙ old)) in
        record {
          id = other;
          kept = m;
          stands = removed_other slots id other ne ∙ new;
          forever = forever;
          hit = hits-within (values p S) m.nogood.lits k.nogood.lits within (subst (λ (x : StoredNogood). hits (values p S) x.nogood.lits ≡ true) same b.hit);
        }
    cases (inr q) = record { id = b.id; kept = b.kept; stands = removed_other slots id b.id q ∙ b.stands; forever = b.forever; hit = b.hit }

pub removed_blocking : (slots : List (Option StoredNogood)) (ids : List ℕ) (id : ℕ) → All (λ i. i ≢ id) ids → AreBlocking slots ids → AreBlocking (set slots id None) ids
removed_blocking slots ids id apart b = record {
  each = λ i d h.
      let x = b.each i d h in
      record { kept = x.kept; stands = removed_other slots id (get_or ids i d) (apart i d h) ∙ x.stands; forever = x.forever; local = x.local };
  differ = b.differ;
}

-- ---- the last
pub last_stays : (old new : List (Option StoredNogood)) (last : Option ℕ) → Grows old new → IsLast old last → IsLast new last
last_stays old new None g l = tt
last_stays old new (Some id) g l = (l.0, grows_nogood old new id l.0 g l.1)
