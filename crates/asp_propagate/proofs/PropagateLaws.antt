-- What follows a trail does so still, through each change.
use Rattle.std.proofs.Common.{◌≡◌, ℕ, zero, suc, set, ◌+◌, ◌-◌, ◌^◌, ◌<◌, ◌≤◌, false, List, [], ◌∷◌, ◌++◌, length, get_or, take, Option, Some, None, inl, inr, refl, sym, ap, ◌∙◌, subst, arith, min}
use Rattle.std.specs.Prelude.{ℤ}
use Rattle.std.specs.List.{All, AllPairs}
use Rattle.std.specs.Option.{option_map}
use Rattle.std.proofs.lemmas.List.{append-nil, length-append}
use Rattle.std.proofs.lemmas.Bool.{false≢true}
use Rattle.std.proofs.lemmas.Option.{same_Some}
use Rattle.asp_model.specs.declared.program.Program.{Program}
use Rattle.asp_vars.specs.Literals.{Literal}
use Rattle.asp_vars.specs.declared.nogood.Nogood.{Nogood}
use Rattle.asp_trail.specs.declared.trail.Entry.{Entry}
use Rattle.asp_trail.specs.Entries.{assignment, cut, level}
use Rattle.asp_trail.specs.Trails.{Trailed}
use Rattle.asp_trail.specs.Told.{Told}
use Rattle.asp_trail.specs.Fixpoint.{is_at_fixpoint}
use Rattle.asp_trail.specs.Reasons.{IsReason}
use Rattle.asp_store.specs.declared.stored_nogood.StoredNogood.{StoredNogood}
use Rattle.asp_store.specs.Keeping.{nogood_at}
use Rattle.asp_store.specs.declared.stored_nogood.Kind.{Kind}
use Rattle.asp_store.specs.declared.stored_nogood.Kind.TheVariants as kind
use Rattle.asp_store.specs.Fitting.{IsImpliedAt, Extends}
use Rattle.asp_store.specs.Storing.{Stored, Fits, IsAdded, Loses, removed, recalled, AreActive}
use Rattle.asp_store.proofs.FitsLaws.{fits_open, fits_imply, fits_cut, fits_clear, fits_add, fits_recall, fits_remove, fits_lose}
use Rattle.asp_store.proofs.GrowLaws.{kept_within}
use Rattle.asp_store.specs.Walking.{IsViolated}
use Rattle.asp_propagate.specs.Propagating.{WasTold, IsFollowed, IsUnnamed, IsReduced, AreUnlocked, AreAtFixpoint, Implies, GoesOn}
use Rattle.asp_propagate.specs.Late.{AreExplained, AreLateBy}
use Rattle.asp_propagate.proofs.LateLaws.{explained_push, explained_more, explained_cut, explained_none, late_push, late_more, late_cut, late_none}
use Rattle.asp_propagate.proofs.TellLaws.{told_extends, told_cut, told_none}
use Rattle.asp_propagate.proofs.AddLaws.{unlocked_added, adds_none, implies_from}

none_some : {A : Type 0} (x : A) → None ≡ Some x → ⊥
none_some x q = cc

pub followed_open : (why : Program → List Entry → Literal → ℕ → Type 0) (t : Told) (s : Stored) (r : Trailed) (n : ℕ) (e : Entry) →
    r.seen ≤ length r.entries → e.reason ≡ None → IsFollowed why t s r n →
    IsFollowed why t s (record r { entries = r.entries ++ e ∷ [] }) n
followed_open why t s r n e le none f = record {
  told = told_extends t r (record r { entries = r.entries ++ e ∷ [] }) n (e ∷ []) refl refl f.told;
  room = f.room;
  fits = fits_open s r e le (λ id small q. none_some id (sym none ∙ q)) f.fits;
  unlocked = f.unlocked;
  explained = explained_push (why t.program) r.entries e (λ name q. absurd (none_some (2 ^ 31 + name) (sym none ∙ q))) f.explained;
  late_told = late_push r.entries e n (λ name q. absurd (none_some (2 ^ 31 + name) (sym none ∙ q))) f.late_told;
}

-- one that follows as the propagator explains
pub followed_late : (why : Program → List Entry → Literal → ℕ → Type 0) (t : Told) (s : Stored) (r : Trailed) (n : ℕ) (e : Entry) (name : ℕ) →
    r.seen ≤ length r.entries → e.reason ≡ Some (2 ^ 31 + name) →
    name < 2 ^ 31 → length r.entries ≤ n → why t.program r.entries e.lit name → IsFollowed why t s r n → IsFollowed why t s (record r { entries = r.entries ++ e ∷ [] }) n
followed_late why t s r n e name le some small all x f = record {
  told = told_extends t r (record r { entries = r.entries ++ e ∷ [] }) n (e ∷ []) refl refl f.told;
  room = f.room;
  fits = fits_open s r e le (λ id lt q. absurd (omega (arith, lt, same_Some id (2 ^ 31 + name) (sym q ∙ some)))) f.fits;
  unlocked = f.unlocked;
  explained = explained_push (why t.program) r.entries e (λ k q.
      let same : k ≡ name = omega (arith, same_Some (2 ^ 31 + k) (2 ^ 31 + name) (sym q ∙ some)) in
      (omega (arith, same, small), subst (λ (j : ℕ). why t.program r.entries e.lit j) (sym same) x)) f.explained;
  late_told = late_push r.entries e n (λ k q. all) f.late_told;
}

pub followed_imply : (why : Program → List Entry → Literal → ℕ → Type 0) (t : Told) (s : Stored) (r : Trailed) (n : ℕ) (e : Entry) (id : ℕ)
    (m : Nogood) → length s.slots ≤ 2 ^ 31 → r.seen ≤ length r.entries → e.reason ≡ Some id →
    nogood_at s.slots id ≡ Some m → IsReason (r.entries ++ e ∷ []) (length r.entries) e.lit m.lits → IsFollowed why t s r n →
    IsFollowed why t s (record r { entries = r.entries ++ e ∷ [] }) n
followed_imply why t s r n e id m few le some g q f = record {
  told = told_extends t r (record r { entries = r.entries ++ e ∷ [] }) n (e ∷ []) refl refl f.told;
  room = f.room;
  fits = fits_imply s r e id m le some g q f.fits;
  unlocked = f.unlocked;
  explained = explained_push (why t.program) r.entries e (λ name k.
      absurd (omega (arith, few, kept_within s.slots id m g, same_Some id (2 ^ 31 + name) (sym some ∙ k)))) f.explained;
  late_told = late_push r.entries e n (λ name k.
      absurd (omega (arith, few, kept_within s.slots id m g, same_Some id (2 ^ 31 + name) (sym some ∙ k)))) f.late_told;
}

pub followed_added : (why : Program → List Entry → Literal → ℕ → Type 0) (t : Told) (s z : Stored) (r : Trailed) (n id : ℕ) (m : Nogood) (kind : Kind)
    → IsAdded s z id m kind → IsFollowed why t s r n → IsFollowed why t z r n
followed_added why t s z r n id m kind a f = record {
  told = f.told;
  room = f.room;
  fits = fits_add s z r id m kind a f.fits;
  unlocked = unlocked_added s.slots z.slots id m kind a.slots f.unlocked;
  explained = f.explained;
  late_told = f.late_told;
}

pub followed_cut : (why : Program → List Entry → Literal → ℕ → Type 0) (t u : Told) (s : Stored) (r : Trailed) (n m l : ℕ) → AllPairs (λ e f. e.level ≤ f.level) r.entries →
    ((d : Entry) → 0 < m → (get_or r.entries (m - 1) d).level ≤ l) → ((i : ℕ) (d : Entry) → m ≤ i → i < n → l < (get_or r.entries i d).level) →
    u.program ≡ t.program → WasTold u r m → IsFollowed why t s r n →
    IsFollowed why u s (record r { entries = cut l r.entries; seen = min r.seen (length (cut l r.entries)) }) m
followed_cut why t u s r n m l rising low above p w f =
    let after : Trailed = record r { entries = cut l r.entries; seen = min r.seen (length (cut l r.entries)) } in
    record {
      told = told_cut u r after m l refl refl rising low w;
      room = f.room;
      fits = fits_cut s r l rising f.fits;
      unlocked = f.unlocked;
      explained = subst (λ (x : Program). AreExplained (why x) (cut l r.entries)) (sym p) (explained_cut (why t.program) l r.entries rising f.explained);
      late_told = late_cut l r.entries n m rising above f.late_told;
    }

pub followed_clear : (why : Program → List Entry → Literal → ℕ → Type 0) (t u : Told) (s z : Stored) (r : Trailed) (n : ℕ) → z ≡ recalled s → AreActive z → WasTold u r 0 → IsFollowed why t s r n →
    IsFollowed why u z (record r { entries = []; seen = 0 }) 0
followed_clear why t u s z r n same active w f = record {
  told = told_none u r (record r { entries = []; seen = 0 }) refl w;
  room = f.room;
  fits = fits_clear z r active (subst (λ (x : Stored). Fits x r) (sym same) (fits_recall s r f.fits));
  unlocked = subst AreUnlocked (sym (ap (λ (x : Stored). x.slots) same)) f.unlocked;
  explained = explained_none (why u.program);
  late_told = late_none 0;
}

-- ---- one nogood less
unlocked_removed : (slots : List (Option StoredNogood)) (j : ℕ) → AreUnlocked slots → AreUnlocked (set slots j None)
unlocked_removed [] j u id k g = u id k g
unlocked_removed (o ∷ slots) zero u zero k g = absurd (none_some k g)
unlocked_removed (o ∷ slots) zero u (suc id) k g = u (suc id) k g
unlocked_removed (o ∷ slots) (suc j) u zero k g = u 0 k g
unlocked_removed (o ∷ slots) (suc j) u (suc id) k g = unlocked_removed slots j (λ i l h. u (suc i) l h) id k g

pub followed_removed : (why : Program → List Entry → Literal → ℕ → Type 0) (t : Told) (s : Stored) (r : Trailed) (n id : ℕ) → id < length s.slots →
    IsUnnamed r.entries id → IsFollowed why t s r n → IsFollowed why t (removed s id) r n
followed_removed why t s r n id h unnamed f = record {
  told = f.told;
  room = f.room;
  fits = fits_remove s r id h unnamed f.fits;
  unlocked = unlocked_removed s.slots id f.unlocked;
  explained = f.explained;
  late_told = f.late_told;
}

-- ---- a reduction
unlocked_reduced : (es : List Entry) (old new : List (Option StoredNogood)) → IsReduced es old new → AreUnlocked old → AreUnlocked new
unlocked_reduced es old new red u id k g = elim (red.each id) [ inl e ↦ u id k (sym e ∙ g) | inr e ↦ absurd (none_some k (sym e ∙ g)) ]

pub followed_reduced : (why : Program → List Entry → Literal → ℕ → Type 0) (t : Told) (s z : Stored) (r : Trailed) (n : ℕ) →
    IsReduced r.entries s.slots z.slots → Loses s z → IsFollowed why t s r n → IsFollowed why t z r n
followed_reduced why t s z r n red l f = record {
  told = f.told;
  room = f.room;
  fits = fits_lose s z r l (λ i d id h q. ap (option_map (λ (k : StoredNogood). k.nogood)) (red.named i d id h q)) f.fits;
  unlocked = unlocked_reduced r.entries s.slots z.slots red f.unlocked;
  explained = f.explained;
  late_told = f.late_told;
}

-- ---- a nogood that isn't at fixpoint brings an entry
pub grows : (slots : List (Option StoredNogood)) (vars : ℕ) (es fs : List Entry) (id : ℕ) (n : Nogood) → nogood_at slots id ≡ Some n → is_at_fixpoint (assignment vars es) n.lits ≡ false →
    AreAtFixpoint slots (assignment vars fs) → Implies es fs → length es < length fs
grows slots vars es fs id n g wanted fixpoint x = by x.0 x.1
  where
    by : (gs : List Entry) → fs ≡ es ++ gs → length es < length fs
    by [] q =
        let same : fs ≡ es = q ∙ append-nil es in
        absurd (false≢true (sym wanted ∙ (ap (λ (xs : List Entry). is_at_fixpoint (assignment vars xs) n.lits) (sym same) ∙ fixpoint id n g)))
    by (e ∷ gs) q = omega (arith, ap (length {A = Entry}) q, length-append es (e ∷ gs))

-- ---- what the store does
pub followed_settled : (why : Program → List Entry → Literal → ℕ → Type 0) (t u : Told) (s z : Stored) (r q : Trailed) (n m : ℕ) → z.slots ≡ s.slots →
    q ≡ record r { entries = q.entries; seen = q.seen } → Fits z q → WasTold u q m →
    u.program ≡ t.program → length s.slots ≤ 2 ^ 31 → n ≤ m → Extends s.slots r.entries q.entries → IsFollowed why t s r n → IsFollowed why u z q m
followed_settled why t u s z r q n m slots same fits w p few more x f = record {
  told = w;
  room = subst (λ (x : Trailed). x.vars ≤ x.room) (sym same) f.room;
  fits = fits;
  unlocked = subst AreUnlocked (sym slots) f.unlocked;
  explained =
      subst (λ (y : Program). AreExplained (why y) q.entries) (sym p)
      (subst (AreExplained (why t.program)) (sym x.1)
      (explained_more (why t.program) r.entries x.0
      (λ i d h id k. let z = (x.3 i d h).implied in omega (arith, few, z.2, same_Some id z.0 (sym k ∙ z.1))) f.explained));
  late_told = subst (λ (xs : List Entry). AreLateBy xs m) (sym x.1)
      (late_more r.entries x.0 n m more (λ i d h id k. let z = (x.3 i d h).implied in omega (arith, few, z.2, same_Some id z.0 (sym k ∙ z.1))) f.late_told);
}

pub told_settled : (t : Told) (r q : Trailed) (n : ℕ) (slots : List (Option StoredNogood)) → q ≡ record r { entries = q.entries; seen = q.seen } → Extends slots r.entries q.entries →
    WasTold t r n → WasTold t q n
told_settled t r q n slots same x w = told_extends t r q n x.0 (ap (λ (y : Trailed). y.vars) same) x.1 w

pub goes_settled : (gives : Nogood → Type 0) (t u : Told) (b c : Option (List ℤ)) (s z : Stored) (es fs : List Entry) → u.program ≡ t.program → c ≡ b → z.slots ≡ s.slots →
    Extends s.slots es fs → GoesOn gives t u b c s.slots z.slots es fs
goes_settled gives t u b c s z es fs program bound slots x = record {
  program = program;
  bound_stays = bound;
  adds = adds_none gives s.slots z.slots slots;
  implies = implies_from s.slots es fs x;
}

pub fixpoint_settled : (vars now : ℕ) (old new : List (Option StoredNogood)) (es : List Entry) → now ≡ vars → new ≡ old → AreAtFixpoint old (assignment vars es) → AreAtFixpoint new (assignment now es)
fixpoint_settled vars now old new es v q h =
    subst (λ (m : ℕ). AreAtFixpoint new (assignment m es)) (sym v) (subst (λ (xs : List (Option StoredNogood)). AreAtFixpoint xs (assignment vars es)) (sym q) h)

pub violated_settled : (vars now : ℕ) (old new : List (Option StoredNogood)) (es : List Entry) (id : ℕ) → now ≡ vars → new ≡ old → IsViolated vars old es id → IsViolated now new es id
violated_settled vars now old new es id v q h =
    subst (λ (m : ℕ). IsViolated m new es id) (sym v) (subst (λ (xs : List (Option StoredNogood)). IsViolated vars xs es id) (sym q) h)

-- ---- another bound
-- told of more
pub followed_told : (why : Program → List Entry → Literal → ℕ → Type 0) (t u : Told) (s : Stored) (r : Trailed) (n m : ℕ) → u.program ≡ t.program →
    WasTold u r m → n ≤ m → IsFollowed why t s r n → IsFollowed why u s r m
followed_told why t u s r n m p w le f = record {
  told = w;
  room = f.room;
  fits = f.fits;
  unlocked = f.unlocked;
  explained = subst (λ (x : Program). AreExplained (why x) r.entries) (sym p) f.explained;
  late_told = λ i d name h q. omega (arith, le, f.late_told i d name h q);
}

pub followed_bound : (explains : Program → Option (List ℤ) → List Entry → Literal → ℕ → Type 0) (b c : Option (List ℤ)) (t : Told) (s : Stored)
    (r : Trailed) (n : ℕ) → c ≡ b → IsFollowed (λ p. explains p b) t s r n → IsFollowed (λ p. explains p c) t s r n
followed_bound explains b c t s r n e f = subst (λ (x : Option (List ℤ)). IsFollowed (λ p. explains p x) t s r n) (sym e) f

pub followed_lower : (explains : Program → Option (List ℤ) → List Entry → Literal → ℕ → Type 0) (b : Option (List ℤ)) (c : List ℤ) (t : Told) (s : Stored) (r : Trailed) (n : ℕ) →
    ((es : List Entry) (l : Literal) (name : ℕ) → explains t.program b es l name → explains t.program (Some c) es l name) →
    IsFollowed (λ p. explains p b) t s r n → IsFollowed (λ p. explains p (Some c)) t s r n
followed_lower explains b c t s r n stands f = record {
  told = f.told;
  room = f.room;
  fits = f.fits;
  unlocked = f.unlocked;
  explained = λ i d name h q. let x = f.explained i d name h q in (x.0, stands (take i r.entries) (get_or r.entries i d).lit name x.1);
  late_told = f.late_told;
}

-- ---- what comes of asking
pub asked_same : (why : Program → List Entry → Literal → ℕ → Type 0) (t u : Told) (s z : Stored) (r : Trailed) (n : ℕ) → u ≡ t → z ≡ s → IsFollowed why t s r n → IsFollowed why u z r n
asked_same why t u s z r n p q f = subst (λ (x : Told). IsFollowed why x z r n) (sym p) (subst (λ (x : Stored). IsFollowed why t x r n) (sym q) f)

pub asked_more : (why : Program → List Entry → Literal → ℕ → Type 0) (t u : Told) (s z : Stored) (r : Trailed) (n id : ℕ) (m : Nogood) (kind : Kind) →
    u ≡ t → IsAdded s z id m kind → IsFollowed why t s r n → IsFollowed why u z r n
asked_more why t u s z r n id m kind p a f = subst (λ (x : Told). IsFollowed why x z r n) (sym p) (followed_added why t s z r n id m kind a f)

-- an entry came that the propagator explains
pub goes_late : (gives : Nogood → Type 0) (t u : Told) (b c : Option (List ℤ)) (xs : List (Option StoredNogood)) (es fs : List Entry) (l : Literal) (id : ℕ) → u.program ≡ t.program → c ≡ b →
    fs ≡ es ++ record { lit = l; level = level es; reason = Some id } ∷ [] → GoesOn gives t u b c xs xs es fs
goes_late gives t u b c xs es fs l id p q e = record {
  program = p;
  bound_stays = q;
  adds = adds_none gives xs xs refl;
  implies = (record { lit = l; level = level es; reason = Some id } ∷ [], e, one);
}
  where
    one : All (IsImpliedAt (level es)) (record { lit = l; level = level es; reason = Some id } ∷ [])
    one zero d h = record { level = refl; implied = (id, refl) }
    one (suc i) d h = absurd (omega arith)
