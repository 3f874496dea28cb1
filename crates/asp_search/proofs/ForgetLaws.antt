-- What a search keeps when it forgets the answers that it found.
use Rattle.std.proofs.Common.{◌≡◌, ℕ, ◌<◌, Bool, true, false, cond, List, [], Option, None, Some, refl, sym, ap, ◌∙◌, subst, arith}
use Rattle.std.specs.Prelude.{ℤ}
use Rattle.std.proofs.lemmas.Bool.{false≢true}
use Rattle.std.proofs.lemmas.Option.{same_Some}
use Rattle.asp_model.specs.declared.program.Program.{Program}
use Rattle.asp_model.specs.declared.results.Mode.{Mode}
use Rattle.asp_model.specs.Sets.{Atoms}
use Rattle.asp_vars.specs.Entailment.{HitsOnly, excuse}
use Rattle.asp_vars.specs.Knowing.{Knowing}
use Rattle.asp_vars.specs.Literals.{Literal}
use Rattle.asp_vars.specs.Numbering.{var_count}
use Rattle.asp_vars.specs.declared.nogood.Base.{Base}
use Rattle.asp_vars.specs.declared.nogood.Base.TheVariants as base
use Rattle.asp_vars.specs.declared.nogood.Nogood.{Nogood}
use Rattle.asp_store.specs.declared.stored_nogood.StoredNogood.{StoredNogood}
use Rattle.asp_store.specs.Keeping.{is_local, is_local_base, kept_at, unless_local}
use Rattle.asp_order.specs.Heaps.{Ranking}
use Rattle.asp_order.specs.Pacing.{Paced}
use Rattle.asp_propagate.specs.Useful.{IsUseful}
use Rattle.asp_search_laws.specs.Keeping.{AreUseful}
use Rattle.asp_search_laws.specs.Searching.{Searching}
use Rattle.asp_search_laws.proofs.SlotLaws.{kept_nogood, nogood_kept}
use Rattle.asp_state.specs.SearchStates.{SearchView}
use Rattle.asp_search.specs.Beside.{Forgets}
use Rattle.asp_search.specs.Invariants.{IsSearch, IsSeen, answers_known, view_of}

-- ---- what stays isn't local
dropped : (o : Option StoredNogood) → is_local o ≡ true → unless_local o ≡ None
dropped o e = ap (λ (b : Bool). cond b None o) e

spared : (o : Option StoredNogood) → is_local o ≡ false → unless_local o ≡ o
spared o e = ap (λ (b : Bool). cond b None o) e

stays : (o : Option StoredNogood) (k : StoredNogood) → unless_local o ≡ Some k → (o ≡ Some k) × (is_local_base k.nogood.base ≡ false)
stays None k e = absurd (no_some e)
  where
    no_some : None ≡ Some k → ⊥
    no_some q = cc
stays (Some x) k e = cases (is_local_base x.nogood.base) refl
  where
    no_some : None ≡ Some k → ⊥
    no_some q = cc

    cases : (b : Bool) → b ≡ is_local_base x.nogood.base → (Some x ≡ Some k) × (is_local_base k.nogood.base ≡ false)
    cases true q = absurd (no_some (sym (dropped (Some x) (sym q)) ∙ e))
    cases false q =
        let same : Some x ≡ Some k = sym (spared (Some x) (sym q)) ∙ e in
        (same, ap (λ (y : StoredNogood). is_local_base y.nogood.base) (sym (same_Some x k same)) ∙ sym q)

-- ---- what the search keeps
base_any : (p : Program) (known K : List Atoms) (bound : Option (List ℤ)) (b : Base) (n : List Literal) → is_local_base b ≡ false →
    HitsOnly p (excuse p known bound b) n → HitsOnly p (excuse p K bound b) n
base_any p known K bound base.Pure n e h = h
base_any p known K bound (base.Below c) n e h = h
base_any p known K bound base.Local n e h = absurd (false≢true (sym e))

-- what isn't local holds whatever is known
useful_any : (p : Program) (known K : List Atoms) (bound : Option (List ℤ)) (n : Nogood) → is_local_base n.base ≡ false → IsUseful p known bound n → IsUseful p K bound n
useful_any p known K bound n e u = record { good = base_any p known K bound n.base n.lits e u.good; counts = u.counts }

pub search_forgets : (p : Program) (m : Mode) (t u : SearchView) (vars : ℕ) (checker : Program) (known K : List Atoms) (blocking ids : List ℕ) (bound : Option (List ℤ)) (last : Option ℕ) →
    u.program ≡ t.program → u.bound ≡ t.bound → ((id : ℕ) → kept_at u.slots id ≡ unless_local (kept_at t.slots id)) → K ≡ [] → ids ≡ [] →
    IsSearch p m t vars checker known blocking bound last → IsSearch p m u vars checker K ids bound None
search_forgets p m t u vars checker known K blocking ids bound last program bounded each none nowhere s =
    subst (λ (xs : List Atoms). IsSearch p m u vars checker xs ids bound None) (sym none)
    (subst (λ (xs : List ℕ). IsSearch p m u vars checker [] xs bound None) (sym nowhere) (record {
      program = s.program ∙ sym program;
      bounded = s.bounded ∙ sym bounded;
      counted = s.counted ∙ ap var_count (sym program);
      checked = s.checked;
      useful = subst (λ (x : Program). AreUseful x [] u.bound u.slots) (sym program) (subst (λ (x : Option (List ℤ)). AreUseful t.program [] x u.slots) (sym bounded) useful);
      blocked = tt;
      blocking_stand = record { each = λ i d h. absurd (no_index i h); differ = λ i j d l h. absurd (no_index j h) };
      last_stands = tt;
      alone = λ q. refl;
    }))
  where
    no_index : (i : ℕ) → i < 0 → ⊥
    no_index i h = omega arith

    useful : AreUseful t.program [] t.bound u.slots
    useful id n q =
        let k = kept_nogood u.slots id n q in
        let st = stays (kept_at t.slots id) k.0 (sym (each id) ∙ k.1) in
        useful_any t.program known [] t.bound n (ap (λ (x : Nogood). is_local_base x.base) (sym k.2) ∙ st.1)
        (s.useful id n (nogood_kept t.slots id k.0 st.0 ∙ ap (λ (x : Nogood). Some x) k.2))

-- in an enumeration no set stands for the answers
pub none_known : (p : Program) (ks : List Atoms) (seen : Option Knowing) → ks ≡ [] → IsSeen None p seen → answers_known ks seen ≡ []
none_known p ks None e h = e
none_known p ks (Some k) e h = absurd h

-- what callers see
pub forgets_from : (md : Mode) (t m u : SearchView) (c : Paced) (known ks : List Atoms) (last : Option ℕ) (s : Searching) → view_of md t c known last ≡ s → ks ≡ [] →
    m ≡ record t { cube = None; clashing = false; decisions = []; entries = []; ranking = m.ranking } → u ≡ record m { slots = u.slots } →
    ((id : ℕ) → kept_at u.slots id ≡ unless_local (kept_at m.slots id)) → Forgets s (view_of md u c ks None)
forgets_from md t m u c known ks last s v none left dropped each =
    subst (λ (x : Searching). Forgets x (view_of md u c ks None)) v (record {
      same =
          ap (λ (x : SearchView). view_of md x c ks None) dropped
          ∙ ap (λ (x : SearchView). let y : SearchView = record x { slots = u.slots } in view_of md y c ks None) left
          ∙ ap (λ (r : Ranking). let y : SearchView =
          record t { cube = None; clashing = false; decisions = []; entries = []; slots = u.slots; ranking = r } in view_of md y c ks None) (sym (ap (λ (x : SearchView). x.ranking) dropped))
          ∙ ap (λ (xs : List Atoms). let y : SearchView =
          record t { cube = None; clashing = false; decisions = []; entries = []; slots = u.slots; ranking = u.ranking } in view_of md y c xs None) none;
      nogoods = λ id. each id ∙ ap (λ (x : SearchView). unless_local (kept_at x.slots id)) left;
    })
