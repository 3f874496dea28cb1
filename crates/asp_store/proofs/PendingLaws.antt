-- What a look at one of those apart leaves.
use Rattle.std.proofs.Common.{◌≡◌, ℕ, ◌≤◌, Bool, true, false, List, [], ◌∷◌, ◌++◌, length, set, Option, Some, None, inl, inr, refl, sym, ap, ◌∙◌, subst, arith}
use Rattle.std.specs.List.{slice_get}
use Rattle.std.specs.Option.{is_some}
use Rattle.std.proofs.lemmas.Bool.{false≢true}
use Rattle.asp_trail.specs.Entries.{assignment}
use Rattle.asp_trail.specs.Fixpoint.{is_violated}
use Rattle.asp_store.specs.Walking.{IsViolated}
use Rattle.std.proofs.lemmas.Option.{same_Some, none-some}
use Rattle.asp_vars.specs.Literals.{Literal, has_literal}
use Rattle.asp_vars.specs.Codes.{code_of}
use Rattle.asp_vars.specs.declared.nogood.Nogood.{Nogood}
use Rattle.asp_trail.specs.declared.trail.Entry.{Entry}
use Rattle.asp_trail.specs.Trails.{Trailed, IsVar}
use Rattle.asp_store.specs.declared.stored_nogood.StoredNogood.{StoredNogood}
use Rattle.asp_store.specs.declared.watch.Pair.{Pair}
use Rattle.asp_store.specs.declared.watches.Watches.{Watches}
use Rattle.asp_store.specs.declared.front.Step.TheVariants as step
use Rattle.asp_store.specs.Keeping.{kept_at, nogood_at, is_lasting}
use Rattle.asp_store.specs.Lists.{list_at}
use Rattle.asp_store.specs.Looking.{HaveSame}
use Rattle.asp_store.specs.Pairs.{pair_of, IsOneOf}
use Rattle.asp_store.specs.Parted.{Parted, Retires, Drops}
use Rattle.asp_store.specs.Fitting.{HasFalse, IsWatched}
use Rattle.asp_store.specs.Sounding.{IsListed, IsSound, AreSettled}
use Rattle.asp_store.specs.Pending.{IsLooking, IsWaiting, HasNone, Looks}
use Rattle.asp_store.proofs.GetLaws.{is_or_not, at_set}
use Rattle.asp_store.proofs.GrowLaws.{kept_within}
use Rattle.asp_store.proofs.PlaceLaws.{listed_new, listed_push}
use Rattle.asp_store.proofs.WatchLaws.{has_false_grow}
use Rattle.asp_store.proofs.LookLaws.{all_has}
use Rattle.asp_store.proofs.ShortLaws.{place_new}
use Rattle.asp_store.proofs.SoundLaws.{Suits, sound_row, sound_apart, pair_cases, sound_grow}
use Rattle.asp_store.proofs.StepLaws.{code_of_list, sound_watch}

-- ---- the place goes
pub looks_leave : (slots : List (Option StoredNogood)) (w : Watches) (t : Trailed) (i : ℕ) (new : Parted) → Drops w.apart new i → HasNone slots w i → IsLooking slots w t i →
    Looks slots w (record w { apart = new }) t i step.Goes
looks_leave slots w t i new d none k = (
  record {
    sound = sound_apart slots w t new
        (λ id n g p. elim (d.apart id (k.sound.net.unwatched id n g p)) [ inl e ↦ absurd (none id n e g p) | inr f ↦ f ])
        (λ id n g p. elim (k.sound.fit.unwatched id n g p) [
          | inl f ↦ elim (d.passes.waits id f) [ inl e ↦ absurd (none id n e g p) | inr h ↦ inl h ]
          | inr f ↦ inr f
        ]) k.sound;
    settled = λ id n g p. elim (k.settled id n g p) [
      | inl f ↦ elim (d.passes.behind id f) [ inl e ↦ absurd (none id n e g p) | inr h ↦ inl h ]
      | inr f ↦ inr f
    ];
    begun = d.passes.begun;
  },
  omega (arith, d.passes.left),
)

-- ---- two literals watch
watched_seen : (n : List Literal) (p : Pair) (es : List Entry) (seen : ℕ) → IsWatched n p es (length es) → IsWatched n p es seen
watched_seen n p es seen t = record {
  has = t.has;
  differ = t.differ;
  watches = λ l o i b h s. t.watches l o i b s.within s;
}

-- the lists of both have the number
abbrev pub with_first : Watches → Pair → ℕ → Bool → Watches
with_first w p id b = record w { lists = set w.lists (code_of p.first) (list_at w.lists (code_of p.first) ++ record { blocker = p.second; id = id; is_short = b } ∷ []) }

abbrev pub with_second : Watches → Pair → ℕ → Bool → Watches
with_second w p id b = record w { lists = set w.lists (code_of p.second) (list_at w.lists (code_of p.second) ++ record { blocker = p.first; id = id; is_short = b } ∷ []) }

abbrev pub with_both : Watches → Pair → ℕ → Bool → Watches
with_both w p id b = with_second (with_first w p id b) p id b

abbrev pub attached : Watches → Pair → ℕ → Bool → List Literal → Watches
attached w p id b r = record (with_both w p id b) { rows = set w.rows id r }

-- the literals of a pair are of the trail's variables
pub pair_small : (slots : List (Option StoredNogood)) (w : Watches) (t : Trailed) (id : ℕ) (n : Nogood) (p : Pair) (l : Literal) (es : List Entry) (seen : ℕ) → IsSound slots w t →
    nogood_at slots id ≡ Some n → IsWatched n.lits p es seen → IsOneOf p l → l.var ≤ t.vars
pair_small slots w t id n p l es seen s h k o = (all_has (λ x. IsVar t.vars x.var) n.lits l (s.net.small id n h) (k.has l o)).1

pub sound_both : (slots : List (Option StoredNogood)) (w : Watches) (t : Trailed) (p : Pair) (id : ℕ) (n : Nogood) (b : Bool) →
    nogood_at slots id ≡ Some n → IsWatched n.lits p t.entries (length t.entries) →
    b ≡ is_lasting (kept_at slots id) → IsSound slots w t → IsSound slots (with_first w p id b) t × IsSound slots (with_both w p id b) t
sound_both slots w t p id n b h k e s =
    let x = small p.first (inl refl) in
    let y = small p.second (inr refl) in
    let one = sound_watch slots w t p.first (record { blocker = p.second; id = id; is_short = b }) x
    (place_new t.vars slots id n p.first p.second b e h (k.has p.first (inl refl)) (k.has p.second (inr refl)) k.differ y) s in (
      one,
      sound_watch slots (with_first w p id b) t p.second (record { blocker = p.first; id = id; is_short = b }) y
          (place_new t.vars slots id n p.second p.first b e h (k.has p.second (inr refl)) (k.has p.first (inl refl)) (λ q. k.differ (sym q)) x) one,
    )
  where
    small : (l : Literal) → IsOneOf p l → l.var ≤ t.vars
    small l o = pair_small slots w t id n p l t.entries (length t.entries) s h k o

suits_both : (slots : List (Option StoredNogood)) (w : Watches) (t : Trailed) (p : Pair) (id : ℕ) (n : Nogood) (b : Bool) (r : List Literal) → nogood_at slots id ≡ Some n →
    IsWatched n.lits p t.entries (length t.entries) → b ≡ is_lasting (kept_at slots id) → pair_of r ≡ Some p → HaveSame n.lits r → IsSound slots w t → Suits slots (with_both w p id b) t id r
suits_both slots w t p id n b r h k is first all s = record {
  within = omega (arith, s.net.paired, kept_within slots id n h);
  kept = λ q e. (n, h, all);
  bounded = λ q l e o. subst (λ (x : Pair). IsOneOf x l → l.var ≤ t.vars) (same_Some p q (sym first ∙ e)) (λ z. pair_small slots w t id n p l t.entries (length t.entries) s h k z) o;
  listed = λ m q l g e o.
      subst (λ (x : Pair). IsOneOf x l → IsListed (with_both w p id b).lists l 0 id m.lits) (same_Some p q (sym first ∙ e))
      (λ z. elim z [
        | inl y ↦ subst (λ (x : Literal). IsListed (with_both w p id b).lists x 0 id m.lits) y (one_listed m g)
        | inr y ↦ subst (λ (x : Literal). IsListed (with_both w p id b).lists x 0 id m.lits) y (other_listed m g)
      ]) o;
  watched = λ m q g e.
      subst (λ (x : Pair). IsWatched m.lits x t.entries t.seen) (same_Some p q (sym first ∙ e))
      (subst (λ (x : Nogood). IsWatched x.lits p t.entries t.seen) (same m g) (watched_seen n.lits p t.entries t.seen k));
  apart = λ m g e. absurd (none-some p (sym e ∙ first));
}
  where
    same : (m : Nogood) → nogood_at slots id ≡ Some m → n ≡ m
    same m g = same_Some n m (sym h ∙ g)

    small : (l : Literal) → IsOneOf p l → l.var ≤ t.vars
    small l o = pair_small slots w t id n p l t.entries (length t.entries) s h k o

    two : IsSound slots (with_first w p id b) t × IsSound slots (with_both w p id b) t
    two = sound_both slots w t p id n b h k is s

    one_listed : (m : Nogood) → nogood_at slots id ≡ Some m → IsListed (with_both w p id b).lists p.first 0 id m.lits
    one_listed m g =
        listed_push (with_first w p id b).lists (code_of p.second) (record { blocker = p.first; id = id; is_short = b }) p.first 0 id m.lits
        (code_of_list slots (with_first w p id b) t p.second two.0 (small p.second (inr refl)))
        (listed_new w.lists (record { blocker = p.second; id = id; is_short = b }) p.first m.lits (code_of_list slots w t p.first s (small p.first (inl refl)))
        (subst (λ (x : Nogood). has_literal x.lits p.second ≡ true) (same m g) (k.has p.second (inr refl))))

    other_listed : (m : Nogood) → nogood_at slots id ≡ Some m → IsListed (with_both w p id b).lists p.second 0 id m.lits
    other_listed m g =
        listed_new (with_first w p id b).lists (record { blocker = p.first; id = id; is_short = b }) p.second m.lits
        (code_of_list slots (with_first w p id b) t p.second two.0 (small p.second (inr refl)))
        (subst (λ (x : Nogood). has_literal x.lits p.first ≡ true) (same m g) (k.has p.first (inl refl)))

pub attached_looking : (slots : List (Option StoredNogood)) (w : Watches) (t : Trailed) (i id : ℕ) (p : Pair) (n : Nogood) (b : Bool) (r : List Literal) → nogood_at slots id ≡ Some n →
    IsWatched n.lits p t.entries (length t.entries) → b ≡ is_lasting (kept_at slots id) → pair_of r ≡ Some p → HaveSame n.lits r → IsWaiting slots w t i id → IsLooking slots (attached w p id b r) t i
attached_looking slots w t i id p n b r h k is first all v = record {
  sound = sound_row slots (with_both w p id b) t id r (suits_both slots w t p id n b r h k is first all v.looking.sound) (sound_both slots w t p id n b h k is v.looking.sound).1;
  settled = λ j m g q. elim (pair_cases w.rows id r j None (omega (arith, v.looking.sound.net.paired, kept_within slots id n h)) q) [
    | inl e ↦ absurd (none-some p (sym e.1 ∙ first))
    | inr e ↦ v.looking.settled j m g e.1
  ];
  begun = v.looking.begun;
}

pub attached_none : (slots : List (Option StoredNogood)) (w : Watches) (t : Trailed) (i id : ℕ) (p : Pair) (n : Nogood) (b : Bool) (r : List Literal) → nogood_at slots id ≡ Some n →
    pair_of r ≡ Some p → IsWaiting slots w t i id → HasNone slots (attached w p id b r) i
attached_none slots w t i id p n b r h first v j m at g q =
    let e : j ≡ id = same_Some j id (sym at ∙ v.at) in
    none-some p (sym q ∙ (ap pair_of (at_set w.rows id r [] j (omega (arith, v.looking.sound.net.paired, kept_within slots id n h)) e) ∙ first))

-- ---- a literal is false
same_kept : (slots : List (Option StoredNogood)) (i id j : ℕ) (items : List ℕ) (m : Nogood) → slice_get items i ≡ Some id →
    slice_get items i ≡ Some j → nogood_at slots j ≡ Some m → nogood_at slots id ≡ Some m
same_kept slots i id j items m a b g = ap (nogood_at slots) (same_Some id j (sym a ∙ b)) ∙ g

pub looks_pending : (slots : List (Option StoredNogood)) (w : Watches) (t : Trailed) (i id b : ℕ) → ((n : Nogood) → nogood_at slots id ≡ Some n → HasFalse t.entries n.lits b) →
    IsWaiting slots w t i id → Looks slots w w t i step.Stays
looks_pending slots w t i id b is_false v = (
  record {
    sound = v.looking.sound;
    settled = λ j m g q. elim (v.looking.settled j m g q) [
      | inl f ↦ elim (is_or_not f.0 i) [
        | inl e ↦ inr (b, is_false m (same_kept slots i id j w.apart.items m v.at (ap (slice_get w.apart.items) (sym e) ∙ f.3) g))
        | inr ne ↦ inl (f.0, omega (arith, f.1, ne), f.2, f.3)
      ]
      | inr f ↦ inr f
    ];
    begun = omega (arith, v.looking.begun);
  },
  refl,
)

-- ---- and at level 0
pub looking_retired : (slots : List (Option StoredNogood)) (w : Watches) (t : Trailed) (i next id : ℕ) (new : Parted) → ((n : Nogood) → nogood_at slots id ≡ Some n → HasFalse t.entries n.lits 0) →
    Retires w.apart new i next → IsWaiting slots w t i id → IsLooking slots (record w { apart = new }) t next
looking_retired slots w t i next id new is_false r v = record {
  sound = sound_apart slots w t new (λ j m g q. r.apart j (v.looking.sound.net.unwatched j m g q))
      (λ j m g q. elim (v.looking.sound.fit.unwatched j m g q) [
        | inl f ↦ elim (r.passes.waits j f) [
          | inl e ↦ inr (is_false m (same_kept slots i id j w.apart.items m v.at e g))
          | inr h ↦ inl h
        ]
        | inr f ↦ inr f
      ]) v.looking.sound;
  settled = λ j m g q. elim (v.looking.settled j m g q) [
    | inl f ↦ elim (r.passes.behind j f) [
      | inl e ↦ inr (0, is_false m (same_kept slots i id j w.apart.items m v.at e g))
      | inr h ↦ inl h
    ]
    | inr f ↦ inr f
  ];
  begun = r.passes.begun;
}

-- ---- the trail grows
pub waiting_grow : (slots : List (Option StoredNogood)) (w : Watches) (t : Trailed) (i id : ℕ) (fs : List Entry) → t.seen ≤ length t.entries → IsWaiting slots w t i id →
    IsWaiting slots w (record t { entries = t.entries ++ fs }) i id
waiting_grow slots w t i id fs le v = record {
  looking = record {
    sound = sound_grow slots w t fs le v.looking.sound;
    settled = λ j m g q. elim (v.looking.settled j m g q) [
      | inl f ↦ inl f
      | inr f ↦ inr (f.0, has_false_grow t.entries fs m.lits f.0 f.1)
    ];
    begun = v.looking.begun;
  };
  within = v.within;
  at = v.at;
  pair = v.pair;
  kept = v.kept;
}

-- ---- the look begins and ends
pub looking_begins : (slots : List (Option StoredNogood)) (w : Watches) (t : Trailed) → IsSound slots w t → IsLooking slots w t w.apart.first
looking_begins slots w t s = record {
  sound = s;
  settled = λ id n g q. elim (s.fit.unwatched id n g q) [
    | inl f ↦ inl f
    | inr f ↦ inr (0, f)
  ];
  begun = omega arith;
}

pub looking_ends : (slots : List (Option StoredNogood)) (w : Watches) (t : Trailed) (i : ℕ) → w.apart.last ≤ i → IsLooking slots w t i → AreSettled slots w.rows t.entries
looking_ends slots w t i h k id n g q =
    elim (k.settled id n g q) [
      | inl f ↦ absurd (omega (arith, h, f.1, f.2))
      | inr f ↦ f
    ]

-- ---- what a look at the nogood found
pub found_violated : (slots : List (Option StoredNogood)) (t u : Trailed) (id : ℕ) (n : Nogood) (lits : List Literal) → u ≡ record t { entries = u.entries } → u.entries ≡ t.entries →
    nogood_at slots id ≡ Some n → n.lits ≡ lits → is_violated (assignment t.vars t.entries) lits ≡ true → IsViolated u.vars slots u.entries id
found_violated slots t u id n lits same e h q v = (
  n,
  h,
  subst (λ (xs : List Literal). is_violated (assignment u.vars u.entries) xs ≡ true) (sym q)
      (subst (λ (es : List Entry). is_violated (assignment u.vars es) lits ≡ true) (sym e)
      (subst (λ (k : ℕ). is_violated (assignment k t.entries) lits ≡ true) (sym (ap (λ (s : Trailed). s.vars) same)) v)),
)

-- what is true of a nogood's literals is true of any nogood under its number
pub for_each : (slots : List (Option StoredNogood)) (id : ℕ) (n : Nogood) (lits : List Literal) (P : List Literal → Type 0) → nogood_at slots id ≡ Some n → n.lits ≡ lits → P lits →
    (m : Nogood) → nogood_at slots id ≡ Some m → P m.lits
for_each slots id n lits P h e p m g =
    subst (λ (x : Nogood). P x.lits) (same_Some n m (sym h ∙ g)) (subst P (sym e) p)

pub none_from : {A : Type 0} (o : Option A) → is_some o ≡ false → o ≡ None
none_from None h = refl
none_from (Some x) h = absurd (false≢true (sym h))

pub none_when : {A : Type 0} (o : Option A) → is_some o ≡ true → o ≡ None → ⊥
none_when o h e = false≢true (sym (ap is_some e) ∙ h)
