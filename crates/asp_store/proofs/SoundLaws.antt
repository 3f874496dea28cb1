-- Watches are sound, through each change of lists, of a row, of the numbers apart and of the trail.
use Rattle.std.proofs.Common.{◌≡◌, ◌≢◌, ℕ, ◌<◌, ◌≤◌, List, [], ◌++◌, length, set, Option, Some, None, inl, inr, ◌⊎◌, sym, ap, ◌∙◌, subst}
use Rattle.std.proofs.lemmas.List.{length-set}
use Rattle.asp_vars.specs.Literals.{Literal}
use Rattle.asp_vars.specs.declared.nogood.Nogood.{Nogood}
use Rattle.asp_trail.specs.declared.trail.Entry.{Entry}
use Rattle.asp_trail.specs.Trails.{Trailed}
use Rattle.asp_store.specs.declared.stored_nogood.StoredNogood.{StoredNogood}
use Rattle.asp_store.specs.Marks.{Watch}
use Rattle.asp_store.specs.declared.watch.Pair.{Pair}
use Rattle.asp_store.specs.declared.watches.Watches.{Watches}
use Rattle.asp_store.specs.Keeping.{nogood_at}
use Rattle.asp_store.specs.Pairs.{pair_of, pair_at, IsOneOf}
use Rattle.asp_store.specs.Parted.{Parted, IsApart, IsFrom, Adds}
use Rattle.asp_store.specs.Fitting.{HasFalse, IsWatched, AreFit}
use Rattle.asp_store.specs.Looking.{HaveSame}
use Rattle.asp_store.specs.Sounding.{IsListed, IsPlace, IsSound, AreSettled}
use Rattle.asp_store.proofs.GetLaws.{is_or_not, at_set, at_set_other}
use Rattle.asp_store.proofs.PlaceLaws.{AllPlaces}
use Rattle.asp_store.proofs.WatchLaws.{has_false_grow, watched_grow}

-- ---- lists change
pub sound_lists : (slots : List (Option StoredNogood)) (w : Watches) (t : Trailed) (lists : List (List Watch)) → length lists ≡ length w.lists →
    AllPlaces (IsPlace t.vars slots) lists →
    ((id : ℕ) (n : Nogood) (p : Pair) (l : Literal) → nogood_at slots id ≡ Some n → pair_at w.rows id ≡ Some p → IsOneOf p l → IsListed lists l 0 id n.lits) →
    IsSound slots w t → IsSound slots (record w { lists = lists }) t
sound_lists slots w t lists len places listed s = record {
  net = record {
    sized = len ∙ s.net.sized;
    paired = s.net.paired;
    small = s.net.small;
    numbered = s.net.numbered;
    places = places;
    kept = s.net.kept;
    watched = s.net.watched;
    listed = listed;
    unwatched = s.net.unwatched;
  };
  fit = s.fit;
}

-- ---- the row of one number changes
pub pair_cases : (rows : List (List Literal)) (id : ℕ) (r : List Literal) (k : ℕ) (o : Option Pair) → id < length rows → pair_at (set rows id r) k ≡ o →
    ((k ≡ id) × (pair_of r ≡ o)) ⊎ ((k ≢ id) × (pair_at rows k ≡ o))
pair_cases rows id r k o h g =
    elim (is_or_not k id) [
      | inl e ↦ inl (e, sym (ap pair_of (at_set rows id r [] k h e)) ∙ g)
      | inr ne ↦ inr (ne, sym (ap pair_of (at_set_other rows id r [] k ne)) ∙ g)
    ]

-- what must be true of the new row of a number
pub record Suits (slots : List (Option StoredNogood)) (w : Watches) (t : Trailed) (id : ℕ) (r : List Literal) : Type 0 where
  pub within : id < length w.rows
  pub kept : (p : Pair) → pair_of r ≡ Some p → (n : Nogood) × (nogood_at slots id ≡ Some n) × HaveSame n.lits r
  pub bounded : (p : Pair) (l : Literal) → pair_of r ≡ Some p → IsOneOf p l → l.var ≤ t.vars
  pub listed : (n : Nogood) (p : Pair) (l : Literal) → nogood_at slots id ≡ Some n → pair_of r ≡ Some p → IsOneOf p l → IsListed w.lists l 0 id n.lits
  pub watched : (n : Nogood) (p : Pair) → nogood_at slots id ≡ Some n → pair_of r ≡ Some p → IsWatched n.lits p t.entries t.seen
  pub apart : (n : Nogood) → nogood_at slots id ≡ Some n → pair_of r ≡ None → IsFrom w.apart w.apart.first id

pub apart_from : (a : Parted) (i id : ℕ) → IsFrom a i id → IsApart a id
apart_from a i id f = (f.0, f.3)

pub sound_row : (slots : List (Option StoredNogood)) (w : Watches) (t : Trailed) (id : ℕ) (r : List Literal) → Suits slots w t id r → IsSound slots w t →
    IsSound slots (record w { rows = set w.rows id r }) t
sound_row slots w t id r u s = record {
  net = record {
    sized = s.net.sized;
    paired = length-set w.rows id r ∙ s.net.paired;
    small = s.net.small;
    numbered = s.net.numbered;
    places = s.net.places;
    kept = λ k p g. elim (pair_cases w.rows id r k (Some p) u.within g) [
      | inl e ↦
          let o = u.kept p e.1 in
          (o.0, ap (nogood_at slots) e.0 ∙ o.1, subst (λ (xs : List Literal). HaveSame o.0.lits xs) (sym (at_set w.rows id r [] k u.within e.0)) o.2)
      | inr e ↦
          let o = s.net.kept k p e.1 in
          (o.0, o.1, subst (λ (xs : List Literal). HaveSame o.0.lits xs) (sym (at_set_other w.rows id r [] k e.0)) o.2)
    ];
    watched = λ k p l g o. elim (pair_cases w.rows id r k (Some p) u.within g) [
      | inl e ↦ u.bounded p l e.1 o
      | inr e ↦ s.net.watched k p l e.1 o
    ];
    listed = λ k n p l h g o. elim (pair_cases w.rows id r k (Some p) u.within g) [
      | inl e ↦ subst (λ (j : ℕ). IsListed w.lists l 0 j n.lits) (sym e.0) (u.listed n p l (sym (ap (nogood_at slots) e.0) ∙ h) e.1 o)
      | inr e ↦ s.net.listed k n p l h e.1 o
    ];
    unwatched = λ k n h g. elim (pair_cases w.rows id r k None u.within g) [
      | inl e ↦ subst (λ (j : ℕ). IsApart w.apart j) (sym e.0) (apart_from w.apart w.apart.first id (u.apart n (sym (ap (nogood_at slots) e.0) ∙ h) e.1))
      | inr e ↦ s.net.unwatched k n h e.1
    ];
  };
  fit = record {
    watched = λ k n p h g. elim (pair_cases w.rows id r k (Some p) u.within g) [
      | inl e ↦ u.watched n p (sym (ap (nogood_at slots) e.0) ∙ h) e.1
      | inr e ↦ s.fit.watched k n p h e.1
    ];
    unwatched = λ k n h g. elim (pair_cases w.rows id r k None u.within g) [
      | inl e ↦ inl (subst (λ (j : ℕ). IsFrom w.apart w.apart.first j) (sym e.0) (u.apart n (sym (ap (nogood_at slots) e.0) ∙ h) e.1))
      | inr e ↦ s.fit.unwatched k n h e.1
    ];
  };
}

pub settled_row : (slots : List (Option StoredNogood)) (rows : List (List Literal)) (es : List Entry) (id : ℕ) (r : List Literal) → id < length rows →
    ((n : Nogood) → nogood_at slots id ≡ Some n → pair_of r ≡ None → (b : ℕ) × HasFalse es n.lits b) → AreSettled slots rows es → AreSettled slots (set rows id r) es
settled_row slots rows es id r within here s k n h g =
    elim (pair_cases rows id r k None within g) [
      | inl e ↦ here n (sym (ap (nogood_at slots) e.0) ∙ h) e.1
      | inr e ↦ s k n h e.1
    ]

-- ---- those apart change
pub sound_apart : (slots : List (Option StoredNogood)) (w : Watches) (t : Trailed) (apart : Parted) →
    ((id : ℕ) (n : Nogood) → nogood_at slots id ≡ Some n → pair_at w.rows id ≡ None → IsApart apart id) →
    ((id : ℕ) (n : Nogood) → nogood_at slots id ≡ Some n → pair_at w.rows id ≡ None → IsFrom apart apart.first id ⊎ HasFalse t.entries n.lits 0) →
    IsSound slots w t → IsSound slots (record w { apart = apart }) t
sound_apart slots w t apart all waiting s = record {
  net = record {
    sized = s.net.sized;
    paired = s.net.paired;
    small = s.net.small;
    numbered = s.net.numbered;
    places = s.net.places;
    kept = s.net.kept;
    watched = s.net.watched;
    listed = s.net.listed;
    unwatched = all;
  };
  fit = record {
    watched = s.fit.watched;
    unwatched = waiting;
  };
}

pub sound_push : (slots : List (Option StoredNogood)) (w : Watches) (t : Trailed) (new : Parted) (x : ℕ) → Adds w.apart new x → IsSound slots w t → IsSound slots (record w { apart = new }) t
sound_push slots w t new x a s =
    sound_apart slots w t new (λ id n h g. a.apart id (s.net.unwatched id n h g))
    (λ id n h g. elim (s.fit.unwatched id n h g) [ inl f ↦ inl (a.waits id f) | inr f ↦ inr f ]) s

-- ---- the trail grows
pub fit_grow : (slots : List (Option StoredNogood)) (rows : List (List Literal)) (apart : Parted) (t : Trailed) (fs : List Entry) → t.seen ≤ length t.entries → AreFit slots rows apart t →
    AreFit slots rows apart (record t { entries = t.entries ++ fs })
fit_grow slots rows apart t fs le f = record {
  watched = λ id n p h g. watched_grow t.entries fs t.seen n.lits p le (f.watched id n p h g);
  unwatched = λ id n h g. elim (f.unwatched id n h g) [ inl a ↦ inl a | inr a ↦ inr (has_false_grow t.entries fs n.lits 0 a) ];
}

pub sound_grow : (slots : List (Option StoredNogood)) (w : Watches) (t : Trailed) (fs : List Entry) → t.seen ≤ length t.entries → IsSound slots w t →
    IsSound slots w (record t { entries = t.entries ++ fs })
sound_grow slots w t fs le s = record {
  net = s.net;
  fit = fit_grow slots w.rows w.apart t fs le s.fit;
}

pub settled_grow : (slots : List (Option StoredNogood)) (rows : List (List Literal)) (es fs : List Entry) → AreSettled slots rows es → AreSettled slots rows (es ++ fs)
settled_grow slots rows es fs s id n h g = let f = s id n h g in (f.0, has_false_grow es fs n.lits f.0 f.1)
