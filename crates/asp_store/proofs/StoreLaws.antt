-- A store is a store still, through each of its changes.
use Rattle.std.proofs.Common.{◌≡◌, ◌≢◌, ℕ, suc, zero, ◌+◌, ◌*◌, ◌^◌, ◌<◌, ◌≤◌, Bool, true, false, cond, List, [], ◌∷◌, ◌++◌, length, get_or, set, replicate, Option, Some, None, inl, inr, refl, sym, ap, ◌∙◌, subst, arith}
use Rattle.std.specs.List.{All, count_by}
use Rattle.std.specs.Option.{option_map}
use Rattle.std.proofs.lemmas.List.{length-replicate, length-set}
use Rattle.std.proofs.lemmas.Bool.{false≢true}
use Rattle.std.proofs.lemmas.List.Sums.{sum_by-cons}
use Rattle.std.proofs.lemmas.Option.{none-some, same_Some, slice_get_within}
use Rattle.asp_vars.specs.Literals.{Literal}
use Rattle.asp_vars.specs.declared.nogood.Nogood.{Nogood}
use Rattle.asp_trail.specs.Trails.{Trailed, IsVar}
use Rattle.asp_store.specs.declared.stored_nogood.StoredNogood.{StoredNogood}
use Rattle.asp_store.specs.declared.stored_nogood.Kind.{Kind}
use Rattle.asp_store.specs.declared.stored_nogood.Kind.TheVariants as kinds
use Rattle.asp_store.specs.Marks.{Watch}
use Rattle.asp_store.specs.declared.watches.Watches.{Watches}
use Rattle.asp_arena.specs.Rows.{row_at}
use Rattle.asp_store.specs.Keeping.{kept_at, nogood_at, is_extra, is_spare, is_from_propagator, comes_from_propagator, with_lock, Thins}
use Rattle.asp_store.specs.Lists.{place}
use Rattle.asp_store.specs.Looking.{HaveSame}
use Rattle.asp_store.specs.Pairs.{pair_of, pair_at}
use Rattle.asp_store.specs.Parted.{Parted, IsApart, Adds}
use Rattle.asp_store.specs.Sounding.{IsListed, IsNet, IsSound}
use Rattle.asp_store.specs.Fitting.{HaveReasons}
use Rattle.asp_store.specs.Storing.{Stored, Fits, IsAdded, Loses, IsStore, AreActive, Has, with_given}
use Rattle.asp_store.proofs.GetLaws.{is_or_not, at_set, at_set_other, get_more, get_last}
use Rattle.asp_store.specs.Unlisting.{Unlists}
use Rattle.asp_store.proofs.ShortLaws.{places_add, places_lock, places_remove}
use Rattle.asp_store.proofs.SoundLaws.{apart_from, pair_cases}
use Rattle.asp_store.proofs.FitsLaws.{none_kept, same_nogood, locked_same}

-- what contracts see of a store's parts
abbrev pub view_of : ℕ → List (Option StoredNogood) → Watches → List ℕ → Stored
view_of vars slots w given = record { vars = vars; slots = slots; rows = w.rows; apart = w.apart; given = given }

-- ---- counts
count_cons : (p : Option StoredNogood → Bool) (o : Option StoredNogood) (slots : List (Option StoredNogood)) → count_by p (o ∷ slots) ≡ cond (p o) 1 0 + count_by p slots
count_cons p o slots = sum_by-cons (λ x. cond (p x) 1 0) o slots

pub removed_count : (slots : List (Option StoredNogood)) (id : ℕ) → cond (is_extra (kept_at slots id)) 1 0 + count_by is_extra (set slots id None) ≡ count_by is_extra slots
removed_count [] id = refl
removed_count (o ∷ slots) zero = omega (arith, count_cons is_extra None slots, count_cons is_extra o slots)
removed_count (o ∷ slots) (suc id) = omega (arith, removed_count slots id, count_cons is_extra o (set slots id None), count_cons is_extra o slots)

pub locked_count : (b : Bool) (slots : List (Option StoredNogood)) (id : ℕ) → count_by is_extra (set slots id (with_lock b (kept_at slots id))) ≡ count_by is_extra slots
locked_count b [] id = refl
locked_count b (None ∷ slots) zero = refl
locked_count b (Some k ∷ slots) zero = refl
locked_count b (o ∷ slots) (suc id) =
    count_cons is_extra o (set slots id (with_lock b (kept_at slots id))) ∙ (ap (λ n. cond (is_extra o) 1 0 + n) (locked_count b slots id) ∙ sym (count_cons is_extra o slots))

-- a nogood is put where none was
pub put_count : (slots : List (Option StoredNogood)) (id : ℕ) (o : Option StoredNogood) → id < length slots → kept_at slots id ≡ None →
    count_by is_extra (set slots id o) ≡ cond (is_extra o) 1 0 + count_by is_extra slots
put_count [] id o h q = absurd (omega arith)
put_count (None ∷ slots) zero o h q = omega (arith, count_cons is_extra o slots, count_cons is_extra None slots)
put_count (Some k ∷ slots) zero o h q = absurd (none-some k (sym q))
put_count (p ∷ slots) (suc id) o h q =
    omega (arith, put_count slots id o (omega arith) q, count_cons is_extra p (set slots id o), count_cons is_extra p slots)

pub push_count : (slots : List (Option StoredNogood)) (o : Option StoredNogood) → count_by is_extra (slots ++ o ∷ []) ≡ count_by is_extra slots + cond (is_extra o) 1 0
push_count [] o = omega (arith, count_cons is_extra o [])
push_count (p ∷ slots) o = omega (arith, push_count slots o, count_cons is_extra p (slots ++ o ∷ []), count_cons is_extra p slots)

-- ---- a new store
none_place : (n c i : ℕ) (x : Watch) → place (replicate n []) c i ≡ Some x → ⊥
none_place zero c i x g = none-some x g
none_place (suc n) zero i x g = none-some x g
none_place (suc n) (suc c) i x g = none_place n c i x g

pub store_new : (vars : ℕ) → vars < 2 ^ 31 → IsStore vars [] (record { lists = replicate (2 * vars + 2) []; rows = []; apart = record { items = []; first = 0; last = 0 } }) 0 []
store_new vars few = record {
  few = few;
  net = record {
    sized = length_empty (2 * vars + 2);
    paired = refl;
    small = λ id n g. absurd (none-some n g);
    numbered = omega arith;
    places = λ c i x g. absurd (none_place (2 * vars + 2) c i x g);
    kept = λ id p g. absurd (none-some p g);
    watched = λ id p l g o. absurd (none-some p g);
    listed = λ id n p l g h o. absurd (none-some n g);
    unwatched = λ id n g h. absurd (none-some n g);
  };
  counted = refl;
  tracked = λ id h. absurd (false≢true h);
}
  where
    length_empty : (n : ℕ) → (let o : List Watch = [] in length (replicate n o)) ≡ n
    length_empty n = length-replicate n []

-- ---- numbers of what propagators gave
has_new : (kind : Kind) (id : ℕ) (given : List ℕ) → comes_from_propagator kind ≡ true → Has (with_given kind id given) id
has_new kinds.Forever id given h = absurd (false≢true h)
has_new kinds.Learnt id given h = absurd (false≢true h)
has_new kinds.Given id given h = (length given, get_last given id)

has_old : (kind : Kind) (id j : ℕ) (given : List ℕ) → Has given j → Has (with_given kind id given) j
has_old kinds.Forever id j given h = h
has_old kinds.Learnt id j given h = h
has_old kinds.Given id j given h = (h.0, get_more given (id ∷ []) h.0 j h.1)

from_lock : (b : Bool) (o : Option StoredNogood) → is_from_propagator (with_lock b o) ≡ is_from_propagator o
from_lock b None = refl
from_lock b (Some k) = refl

-- ---- a nogood more
pub store_add : (vars : ℕ) (slots new : List (Option StoredNogood)) (w z : Watches) (given after : List ℕ) (extra more id : ℕ) (n : Nogood) (kind : Kind) → IsStore vars slots w extra given →
    z.lists ≡ w.lists → length z.rows ≡ length new → IsAdded (view_of vars slots w given) (view_of vars new z after) id n kind → ((k : ℕ) → IsApart w.apart k → IsApart z.apart k) →
    All (λ l. IsVar vars l.var) n.lits → length new ≤ 2 ^ 31 → more ≡ count_by is_extra new → IsStore vars new z more after
store_add vars slots new w z given after extra more id n kind s lists paired a apart small few counted = record {
  few = s.few;
  net = record {
    sized = ap (length {A = List Watch}) lists ∙ s.net.sized;
    paired = paired;
    small = λ j m g. elim (is_or_not j id) [
      | inl e ↦ subst (λ (x : Nogood). All (λ l. IsVar vars l.var) x.lits)
          (same_Some n m (sym (ap (option_map (λ (k : StoredNogood). k.nogood)) a.slots.here) ∙ (ap (nogood_at new) (sym e) ∙ g))) small
      | inr ne ↦ s.net.small j m (sym (same_nogood slots new j (a.slots.others j ne)) ∙ g)
    ];
    numbered = few;
    places = λ c i x g. places_add vars slots new id c x a.slots.free a.slots.others (s.net.places c i x (sym (ap (λ (ls : List (List Watch)). place ls c i) lists) ∙ g));
    kept = λ j p g. elim (is_or_not j id) [
      | inl e ↦ absurd (none-some p (sym a.pair ∙ (sym (ap (pair_at z.rows) e) ∙ g)))
      | inr ne ↦
          let o = s.net.kept j p (sym (ap pair_of (a.rows j ne)) ∙ g) in
          (o.0, same_nogood slots new j (a.slots.others j ne) ∙ o.1, subst (λ (xs : List Literal). HaveSame o.0.lits xs) (sym (a.rows j ne)) o.2)
    ];
    watched = λ j p l g o. elim (is_or_not j id) [
      | inl e ↦ absurd (none-some p (sym a.pair ∙ (sym (ap (pair_at z.rows) e) ∙ g)))
      | inr ne ↦ s.net.watched j p l (sym (ap pair_of (a.rows j ne)) ∙ g) o
    ];
    listed = λ j m p l g h o. elim (is_or_not j id) [
      | inl e ↦ absurd (none-some p (sym a.pair ∙ (sym (ap (pair_at z.rows) e) ∙ h)))
      | inr ne ↦ subst (λ (ls : List (List Watch)). IsListed ls l 0 j m.lits) (sym lists)
          (s.net.listed j m p l (sym (same_nogood slots new j (a.slots.others j ne)) ∙ g) (sym (ap pair_of (a.rows j ne)) ∙ h) o)
    ];
    unwatched = λ j m g h. elim (is_or_not j id) [
      | inl e ↦ subst (λ (k : ℕ). IsApart z.apart k) (sym e) (apart_from z.apart z.apart.first id a.waits)
      | inr ne ↦ apart j (s.net.unwatched j m (sym (same_nogood slots new j (a.slots.others j ne)) ∙ g) (sym (ap pair_of (a.rows j ne)) ∙ h))
    ];
  };
  counted = counted;
  tracked = λ j h. subst (λ (xs : List ℕ). Has xs j) (sym a.given) (elim (is_or_not j id) [
    | inl e ↦ subst (λ (k : ℕ). Has (with_given kind id given) k) (sym e)
        (has_new kind id given (sym (ap is_from_propagator a.slots.here) ∙ (ap (λ (k : ℕ). is_from_propagator (kept_at new k)) (sym e) ∙ h)))
    | inr ne ↦ has_old kind id j given (s.tracked j (sym (ap is_from_propagator (a.slots.others j ne)) ∙ h))
  ]);
}

-- ---- one goes
pub store_remove : (vars : ℕ) (slots : List (Option StoredNogood)) (w z : Watches) (given : List ℕ) (extra less id : ℕ) →
    IsStore vars slots w extra given → id < length slots → Unlists slots w.lists z.lists id →
    z.rows ≡ set w.rows id [] → z.apart ≡ w.apart → less ≡ count_by is_extra (set slots id None) → IsStore vars (set slots id None) z less given
store_remove vars slots w z given extra less id s within u rows apart counted = record {
  few = s.few;
  net = record {
    sized = u.keeps.len ∙ s.net.sized;
    paired = ap (length {A = List Literal}) rows ∙ (length-set w.rows id [] ∙ (s.net.paired ∙ sym (length-set slots id None)));
    small = λ j m g. s.net.small j m (left j m g).1;
    numbered = omega (arith, length-set slots id None, s.net.numbered);
    places = places_remove vars slots w.lists z.lists id s.net.places u;
    kept = λ j p g. elim (pair_cases w.rows id [] j (Some p) inside (sym (ap (λ (rs : List (List Literal)). pair_at rs j) rows) ∙ g)) [
      | inl e ↦ absurd (none-some p e.1)
      | inr e ↦
          let o = s.net.kept j p e.1 in (
            o.0,
            same_nogood slots (set slots id None) j (at_set_other slots id None None j e.0) ∙ o.1,
            subst (λ (xs : List Literal). HaveSame o.0.lits xs) (sym (ap (λ (rs : List (List Literal)). row_at rs j) rows ∙ at_set_other w.rows id [] [] j e.0)) o.2,
          )
    ];
    watched = λ j p k g o. elim (pair_cases w.rows id [] j (Some p) inside (sym (ap (λ (rs : List (List Literal)). pair_at rs j) rows) ∙ g)) [
      | inl e ↦ absurd (none-some p e.1)
      | inr e ↦ s.net.watched j p k e.1 o
    ];
    listed = λ j m p k g h o. elim (pair_cases w.rows id [] j (Some p) inside (sym (ap (λ (rs : List (List Literal)). pair_at rs j) rows) ∙ h)) [
      | inl e ↦ absurd (none-some p e.1)
      | inr e ↦ u.keeps.stay k j m.lits e.0 (s.net.listed j m p k (left j m g).1 e.1 o)
    ];
    unwatched = λ j m g h.
        let l = left j m g in
        subst (λ (a : Parted). IsApart a j) (sym apart)
        (s.net.unwatched j m l.1 (sym (ap pair_of (at_set_other w.rows id [] [] j l.0))
        ∙ (sym (ap (λ (rs : List (List Literal)). pair_at rs j) rows) ∙ h)));
  };
  counted = counted;
  tracked = λ j h. elim (is_or_not j id) [
    | inl e ↦ absurd (false≢true (sym (ap is_from_propagator (at_set slots id None None j within e)) ∙ h))
    | inr ne ↦ s.tracked j (sym (ap is_from_propagator (at_set_other slots id None None j ne)) ∙ h)
  ];
}
  where
    inside : id < length w.rows
    inside = omega (arith, within, s.net.paired)

    left : (j : ℕ) (m : Nogood) → nogood_at (set slots id None) j ≡ Some m → (j ≢ id) × (nogood_at slots j ≡ Some m)
    left j m g =
        let ne : j ≢ id = λ e. none_kept (set slots id None) j m (at_set slots id None None j within e) g in
        (ne, sym (same_nogood slots (set slots id None) j (at_set_other slots id None None j ne)) ∙ g)

-- ---- a lock
pub store_lock : (vars : ℕ) (slots : List (Option StoredNogood)) (w : Watches) (given : List ℕ) (extra id : ℕ) (b : Bool) → id < length slots → IsStore vars slots w extra given →
    IsStore vars (set slots id (with_lock b (kept_at slots id))) w extra given
store_lock vars slots w given extra id b h s = record {
  few = s.few;
  net = record {
    sized = s.net.sized;
    paired = s.net.paired ∙ sym (length-set slots id (with_lock b (kept_at slots id)));
    small = λ j m g. s.net.small j m (sym (locked_same b slots id j h) ∙ g);
    numbered = omega (arith, length-set slots id (with_lock b (kept_at slots id)), s.net.numbered);
    places = λ c i x g. places_lock vars slots id c b x h (s.net.places c i x g);
    kept = λ j p g. let o = s.net.kept j p g in (o.0, locked_same b slots id j h ∙ o.1, o.2);
    watched = s.net.watched;
    listed = λ j m p k g. s.net.listed j m p k (sym (locked_same b slots id j h) ∙ g);
    unwatched = λ j m g. s.net.unwatched j m (sym (locked_same b slots id j h) ∙ g);
  };
  counted = s.counted ∙ sym (locked_count b slots id);
  tracked = λ j g. elim (is_or_not j id) [
    | inl e ↦ s.tracked j (ap (λ (k : ℕ). is_from_propagator (kept_at slots k)) e
        ∙ (sym (from_lock b (kept_at slots id)) ∙
        (sym (ap is_from_propagator (at_set slots id (with_lock b (kept_at slots id)) None j h e)) ∙ g)))
    | inr ne ↦ s.tracked j (sym (ap is_from_propagator (at_set_other slots id (with_lock b (kept_at slots id)) None j ne)) ∙ g)
  ];
}

-- ---- a store and its watches
pub sound_from_fits : (vars : ℕ) (slots : List (Option StoredNogood)) (w : Watches) (given : List ℕ) (extra : ℕ) (t : Trailed) →
    IsStore vars slots w extra given → Fits (view_of vars slots w given) t → IsSound slots w t
sound_from_fits vars slots w given extra t s f = record {
  net = subst (λ (k : ℕ). IsNet k slots w) (sym f.same_vars) s.net;
  fit = f.fit;
}

pub fits_from_sound : (vars : ℕ) (slots : List (Option StoredNogood)) (w : Watches) (given : List ℕ) (t : Trailed) → t.vars ≡ vars →
    HaveReasons slots t.entries → IsSound slots w t → Fits (view_of vars slots w given) t
fits_from_sound vars slots w given t v r s = record {
  same_vars = v;
  reasons = r;
  fit = s.fit;
}

pub store_from_sound : (vars : ℕ) (slots : List (Option StoredNogood)) (w z : Watches) (given : List ℕ) (extra : ℕ) (t : Trailed) → t.vars ≡ vars →
    IsStore vars slots w extra given → IsSound slots z t →
    IsStore vars slots z extra given
store_from_sound vars slots w z given extra t v s n = record {
  few = s.few;
  net = subst (λ (k : ℕ). IsNet k slots z) v n.net;
  counted = s.counted;
  tracked = s.tracked;
}

-- ---- how a nogood is added
-- under a number that has none
pub added_put : (s : Stored) (id : ℕ) (n : Nogood) (kind : Kind) (new : Parted) → id < length s.slots → id < length s.rows → kept_at s.slots id ≡ None → Adds s.apart new id →
    IsAdded s (record s {
      slots = set s.slots id (Some (record { nogood = n; kind = kind; locked = false }));
      rows = set s.rows id [];
      apart = new;
      given = with_given kind id s.given;
    }) id n kind
added_put s id n kind new h k free more = record {
  vars = refl;
  slots = record {
    free = free;
    here = at_set s.slots id (Some (record { nogood = n; kind = kind; locked = false })) None id h refl;
    others = λ j ne. at_set_other s.slots id (Some (record { nogood = n; kind = kind; locked = false })) None j ne;
  };
  pair = ap pair_of (at_set s.rows id [] [] id k refl);
  given = refl;
  rows = λ j ne. at_set_other s.rows id [] [] j ne;
  waits = more.here;
  apart = more.waits;
}

at_push : {A : Type 0} (xs : List A) (y d : A) (k : ℕ) → k ≡ length xs → get_or (xs ++ y ∷ []) k d ≡ y
at_push [] y d zero e = refl
at_push [] y d (suc k) e = absurd (omega arith)
at_push (x ∷ xs) y d zero e = absurd (omega arith)
at_push (x ∷ xs) y d (suc k) e = at_push xs y d k (omega arith)

at_push_other : {A : Type 0} (xs : List A) (y d : A) (k : ℕ) → k ≢ length xs → get_or (xs ++ y ∷ []) k d ≡ get_or xs k d
at_push_other [] y d zero ne = absurd (ne refl)
at_push_other [] y d (suc k) ne = refl
at_push_other (x ∷ xs) y d zero ne = refl
at_push_other (x ∷ xs) y d (suc k) ne = at_push_other xs y d k (λ e. ne (ap suc e))

at_end : {A : Type 0} (xs : List A) (d : A) (k : ℕ) → k ≡ length xs → get_or xs k d ≡ d
at_end [] d k e = refl
at_end (x ∷ xs) d zero e = absurd (omega arith)
at_end (x ∷ xs) d (suc k) e = at_end xs d k (omega arith)

-- under a new one
pub added_push : (s : Stored) (id : ℕ) (n : Nogood) (kind : Kind) (new : Parted) → id ≡ length s.slots → length s.rows ≡ length s.slots → Adds s.apart new id →
    IsAdded s (record s {
      slots = s.slots ++ Some (record { nogood = n; kind = kind; locked = false }) ∷ [];
      rows = s.rows ++ [] ∷ [];
      apart = new;
      given = with_given kind id s.given;
    }) id n kind
added_push s id n kind new e paired more = record {
  vars = refl;
  slots = record {
    free = at_end s.slots None id e;
    here = at_push s.slots (Some (record { nogood = n; kind = kind; locked = false })) None id e;
    others = λ j ne. at_push_other s.slots (Some (record { nogood = n; kind = kind; locked = false })) None j (λ q. ne (q ∙ sym e));
  };
  pair = ap pair_of (at_push s.rows [] [] id (e ∙ sym paired));
  given = refl;
  rows = λ j ne. at_push_other s.rows [] [] j (λ q. ne (q ∙ (paired ∙ sym e)));
  waits = more.here;
  apart = more.waits;
}

-- ---- what goes, more than once
pub lose_none : (s z : Stored) → z ≡ s → Loses s z
lose_none s z e = subst (λ (x : Stored). Loses s x) (sym e) record { vars = refl; apart = refl; each = λ id. inr (refl, refl) }

pub lose_more : (a b c : Stored) → Loses a b → Loses b c → Loses a c
lose_more a b c x y = record {
  vars = y.vars ∙ x.vars;
  apart = y.apart ∙ x.apart;
  each = λ id. elim (y.each id) [
    | inl e ↦ inl e
    | inr e ↦ elim (x.each id) [
      | inl f ↦ inl (e.0 ∙ f.0, e.1 ∙ f.1)
      | inr f ↦ inr (e.0 ∙ f.0, e.1 ∙ f.1)
    ]
  ];
}

pub thins_none : (old new : List (Option StoredNogood)) → new ≡ old → Thins old new
thins_none old new e = subst (λ (xs : List (Option StoredNogood)). Thins old xs) (sym e) record { count = refl; each = λ id. inl refl }

pub thins_more : (a b c : List (Option StoredNogood)) → Thins a b → Thins b c → Thins a c
thins_more a b c x y = record {
  count = y.count ∙ x.count;
  each = λ id. elim (y.each id) [
    | inl e ↦ elim (x.each id) [
      | inl f ↦ inl (e ∙ f)
      | inr f ↦ inr (e ∙ f.0, f.1)
    ]
    | inr e ↦ elim (x.each id) [
      | inl f ↦ inr (e.0, sym (ap is_spare f) ∙ e.1)
      | inr f ↦ inr (e.0, f.1)
    ]
  ];
}

pub thins_removed : (slots : List (Option StoredNogood)) (id : ℕ) → id < length slots → is_spare (kept_at slots id) ≡ true → Thins slots (set slots id None)
thins_removed slots id h q = record {
  count = length-set slots id None;
  each = λ j. elim (is_or_not j id) [
    | inl e ↦ inr (at_set slots id None None j h e, ap (λ (k : ℕ). is_spare (kept_at slots k)) e ∙ q)
    | inr ne ↦ inl (at_set_other slots id None None j ne)
  ];
}

-- ---- the retired ones come back
pub store_recall : (vars : ℕ) (slots : List (Option StoredNogood)) (w : Watches) (given : List ℕ) (extra : ℕ) → IsStore vars slots w extra given →
    IsStore vars slots (record w { apart = record w.apart { first = 0; last = length w.apart.items } }) extra given
store_recall vars slots w given extra s = record {
  few = s.few;
  net = record {
    sized = s.net.sized;
    paired = s.net.paired;
    small = s.net.small;
    numbered = s.net.numbered;
    places = s.net.places;
    kept = s.net.kept;
    watched = s.net.watched;
    listed = s.net.listed;
    unwatched = s.net.unwatched;
  };
  counted = s.counted;
  tracked = s.tracked;
}

pub active_recall : (vars : ℕ) (slots : List (Option StoredNogood)) (w : Watches) (given : List ℕ) (extra : ℕ) → IsStore vars slots w extra given →
    AreActive (record { vars = vars; slots = slots; rows = w.rows; apart = record w.apart { first = 0; last = length w.apart.items }; given = given })
active_recall vars slots w given extra s = λ id n g h. let f = s.net.unwatched id n g h in (f.0, omega arith, slice_get_within w.apart.items f.0 id f.1, f.1)
