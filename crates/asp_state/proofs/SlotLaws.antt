-- The completion's nogoods stay among those that are kept.
use Rattle.std.proofs.Common.{◌≡◌, ◌≢◌, ℕ, zero, suc, ◌+◌, ◌<◌, Bool, true, false, List, [], ◌∷◌, ◌++◌, length, get_or, set, map, Option, Some, None, inl, inr, refl, sym, ap, ◌∙◌, arith, get_or-set_other}
use Rattle.std.specs.Prelude.{option_map, IsTrue}
use Rattle.std.specs.List.{All, AllByRecursion, Any}
use Rattle.std.proofs.lemmas.Bool.{false≢true}
use Rattle.std.proofs.lemmas.Option.{none-some}
use Rattle.std.proofs.lemmas.List.{length-append, get_or-append-add, get_or_append_left}
use Rattle.std.proofs.lemmas.List.Elements.{All-append, All-nil, All-push, All-weaker}
use Rattle.std.proofs.lemmas.List.Quantifiers.{Any-push}
use Rattle.asp_model.specs.declared.program.Program.{Program}
use Rattle.asp_vars.specs.Literals.{Literal}
use Rattle.asp_vars.specs.Completion.{completion}
use Rattle.asp_vars.specs.declared.nogood.Base.{Base}
use Rattle.asp_vars.specs.declared.nogood.Base.TheVariants as base
use Rattle.asp_vars.specs.declared.nogood.Nogood.{Nogood}
use Rattle.asp_trail.specs.Fixpoint.{is_at_fixpoint}
use Rattle.asp_complete.specs.Listed.{pure}
use Rattle.asp_store.specs.declared.stored_nogood.StoredNogood.{StoredNogood}
use Rattle.asp_store.specs.declared.stored_nogood.Kind.TheVariants as kind
use Rattle.asp_store.specs.Keeping.{kept_at, nogood_at, IsAddedAt}
use Rattle.asp_store.proofs.KeepLaws.{added_stays}
use Rattle.asp_store.proofs.GetLaws.{is_or_not}
use Rattle.asp_propagate.specs.Propagating as follow
use Rattle.asp_state.specs.SearchStates.{forever, stays, AddsForever, IsForever, KeepsCompletion, KeepsCompletionAlone}

-- ---- one nogood more
-- ---- one nogood less
base_of : Option StoredNogood → Base
base_of None = base.Pure
base_of (Some k) = k.nogood.base

is_pure : Base → Bool
is_pure base.Pure = true
is_pure (base.Below c) = false
is_pure base.Local = false

-- A pure nogood stays where a local one is dropped.
pub beside_removed : (old : List (Option StoredNogood)) (id i : ℕ) (l k : StoredNogood) → get_or old id None ≡ Some l → l.nogood.base ≡ base.Local →
    get_or old i None ≡ Some k → k.nogood.base ≡ base.Pure → get_or (set old id None) i None ≡ Some k
unfolding base_of is_pure
beside_removed old id i l k lq local kq pure = get_or-set_other old id i None None apart ∙ kq
  where
    apart : i ≢ id
    apart e =
        let same : Some l ≡ Some k = sym lq ∙ (sym (ap (λ (j : ℕ). get_or old j None) e) ∙ kq) in
        false≢true (ap is_pure (sym local ∙ (ap base_of same ∙ pure)))

-- ---- all of the completion
pub still_forever : (old new : List (Option StoredNogood)) (ns : List (List Literal)) →
    ((i : ℕ) (k : StoredNogood) → get_or old i None ≡ Some k → k.kind ≡ kind.Forever → k.nogood.base ≡ base.Pure → get_or new i None ≡ Some k) →
    AllByRecursion (IsForever old) ns → AllByRecursion (IsForever new) ns
still_forever old new [] stay a = a
still_forever old new (n ∷ ns) stay a = (one a.0, still_forever old new ns stay a.1)
  where
    one : IsForever old n → IsForever new n
    one x = record {
      id = x.id;
      kept = x.kept;
      stands = stay x.id x.kept x.stands x.always (ap (λ (m : Nogood). m.base) x.nogood);
      always = x.always;
      nogood = x.nogood;
    }

pub completed_stays : (p : Program) (old new : List (Option StoredNogood)) →
    ((id : ℕ) (k : StoredNogood) → kept_at old id ≡ Some k → kept_at new id ≡ Some k) → KeepsCompletion p old → KeepsCompletion p new
completed_stays p old new stay = still_forever old new (completion p) (λ i k q f b. stay i k q)

-- ---- those that are kept forever, one after the other
pub adds_no_nogood : (slots : List (Option StoredNogood)) → AddsForever [] slots slots
adds_no_nogood slots = record {
  stay = λ id k g. g;
  each = All-nil (λ (n : Nogood). (id : ℕ) × (kept_at slots id ≡ stays n));
  only = λ id k g. inl g;
}

any_more : (k : StoredNogood) (ns : List Nogood) (n : Nogood) → Any (λ m. Some k ≡ stays m) ns → Any (λ m. Some k ≡ stays m) (ns ++ n ∷ [])
any_more k ns n a =
    (a.0, a.1, omega (arith, a.2, length-append ns (n ∷ [])), get_or_append_left ns (n ∷ []) a.1 a.0 a.2 ∙ a.3, a.4)

pub adds_another : (ns : List Nogood) (old mid new : List (Option StoredNogood)) (id : ℕ) (n : Nogood) → AddsForever ns old mid →
    IsAddedAt mid new id n kind.Forever → AddsForever (ns ++ n ∷ []) old new
adds_another ns old mid new id n a x = record {
  stay = λ j k g. added_stays mid new id n kind.Forever x j k (a.stay j k g);
  each =
      All-push (λ (m : Nogood). (i : ℕ) × (kept_at new i ≡ stays m)) ns n
      (All-weaker (λ (m : Nogood). (i : ℕ) × (kept_at mid i ≡ stays m)) (λ (m : Nogood). (i : ℕ) × (kept_at new i ≡ stays m))
      (λ m h. (h.0, added_stays mid new id n kind.Forever x h.0 (record { nogood = m; kind = kind.Forever; locked = false }) h.1)) ns a.each)
      (id, x.here);
  only = λ j k g. elim (is_or_not j id) [
    | inl e ↦ inr (Any-push (λ (m : Nogood). Some k ≡ stays m) ns n (sym g ∙ (ap (kept_at new) e ∙ x.here)))
    | inr ne ↦ elim (a.only j k (sym (x.others j ne) ∙ g)) [
      | inl was ↦ inl was
      | inr of ↦ inr (any_more k ns n of)
    ]
  ];
}

any_left : (k : StoredNogood) (ns ms : List Nogood) → Any (λ m. Some k ≡ stays m) ns → Any (λ m. Some k ≡ stays m) (ns ++ ms)
any_left k ns ms a = (a.0, a.1, omega (arith, a.2, length-append ns ms), get_or_append_left ns ms a.1 a.0 a.2 ∙ a.3, a.4)

any_right : (k : StoredNogood) (ns ms : List Nogood) → Any (λ m. Some k ≡ stays m) ms → Any (λ m. Some k ≡ stays m) (ns ++ ms)
any_right k ns ms a = (length ns + a.0, a.1, omega (arith, a.2, length-append ns ms), get_or-append-add ns ms a.0 a.1 ∙ a.3, a.4)

-- and then others
pub adds_all : (ns ms : List Nogood) (old mid new : List (Option StoredNogood)) → AddsForever ns old mid → AddsForever ms mid new → AddsForever (ns ++ ms) old new
adds_all ns ms old mid new a b = record {
  stay = λ j k g. b.stay j k (a.stay j k g);
  each =
      All-append (λ (m : Nogood). (i : ℕ) × (kept_at new i ≡ stays m)) ns ms
      (All-weaker (λ (m : Nogood). (i : ℕ) × (kept_at mid i ≡ stays m)) (λ (m : Nogood). (i : ℕ) × (kept_at new i ≡ stays m))
      (λ m h. (h.0, b.stay h.0 (record { nogood = m; kind = kind.Forever; locked = false }) h.1)) ns a.each)
      b.each;
  only = λ j k g. elim (b.only j k g) [
    | inl was ↦ elim (a.only j k was) [
      | inl before ↦ inl before
      | inr of ↦ inr (any_left k ns ms of)
    ]
    | inr of ↦ inr (any_right k ns ms of)
  ];
}

each_forever : (slots : List (Option StoredNogood)) (ns : List (List Literal)) → All (λ m. (id : ℕ) × (kept_at slots id ≡ stays m)) (map pure ns) → AllByRecursion (IsForever slots) ns
each_forever slots [] a = tt
each_forever slots (n ∷ ns) a =
    let first : (id : ℕ) × (kept_at slots id ≡ stays (pure n)) = a 0 (pure n) (omega arith) in (
      record { id = first.0; kept = record { nogood = pure n; kind = kind.Forever; locked = false }; stands = first.1; always = refl; nogood = refl },
      each_forever slots ns (λ i d h. a (suc i) d (omega (arith, h))),
    )

any_forever : (k : StoredNogood) (ns : List (List Literal)) (i : ℕ) (m : Nogood) → i < length (map pure ns) → get_or (map pure ns) i m ≡ m → Some k ≡ stays m → Any (λ n. Some k ≡ forever n) ns
any_forever k [] i m h at is = absurd (omega (arith, h))
any_forever k (n ∷ ns) zero m h at is = (zero, n, omega arith, refl, is ∙ ap stays (sym at))
any_forever k (n ∷ ns) (suc i) m h at is =
    let rest = any_forever k ns i m (omega (arith, h)) at is in
    (suc rest.0, rest.1, omega (arith, rest.2), rest.3, rest.4)

-- where nothing was kept before
pub completed_alone : (p : Program) (slots : List (Option StoredNogood)) → AddsForever (map pure (completion p)) [] slots → KeepsCompletionAlone p slots
completed_alone p slots a = record {
  each = each_forever slots (completion p) a.each;
  only = λ id k g. elim (a.only id k g) [
    | inl none ↦ absurd (none-some k none)
    | inr of ↦ any_forever k (completion p) of.0 of.1 of.2 of.3 of.4
  ];
}

-- ---- where no kept nogood is unit or violated
pub fixpoint_completion : (a : List (Option Bool)) (slots : List (Option StoredNogood)) (ns : List (List Literal)) → follow.AreAtFixpoint slots a → AllByRecursion (IsForever slots) ns →
    AllByRecursion (λ n. IsTrue (is_at_fixpoint a n)) ns
fixpoint_completion a slots [] c f = tt
fixpoint_completion a slots (n ∷ ns) c f = (one f.0, fixpoint_completion a slots ns c f.1)
  where
    one : IsForever slots n → IsTrue (is_at_fixpoint a n)
    one x =
        let stands : nogood_at slots x.id ≡ Some (record { lits = n; base = base.Pure }) = ap (option_map (λ (k : StoredNogood). k.nogood)) x.stands ∙ ap Some x.nogood in
        c x.id (record { lits = n; base = base.Pure }) stands
