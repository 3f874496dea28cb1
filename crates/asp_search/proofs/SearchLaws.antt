-- What every search keeps, where its state changes.
use Rattle.std.proofs.Common.{◌≡◌, ℕ, true, false, List, ◌∷◌, ◌++◌, Option, Some, None, inl, inr, ◌⊎◌, refl, sym, ap, ◌∙◌, subst, []}
use Rattle.std.specs.Prelude.{ℤ}
use Rattle.std.specs.Option.{option_map}
use Rattle.asp_model.specs.declared.program.Program.{Program}
use Rattle.asp_model.specs.declared.results.Mode.{Mode}
use Rattle.asp_model.specs.declared.results.Mode.TheVariants as mode
use Rattle.asp_model.specs.Sets.{Atoms}
use Rattle.asp_vars.specs.Literals.{Literal, hits}
use Rattle.asp_vars.specs.Numbering.{var_count, values}
use Rattle.asp_vars.specs.Entailment.{Settled}
use Rattle.asp_vars.specs.declared.nogood.Nogood.{Nogood}
use Rattle.asp_trail.specs.declared.trail.Entry.{Entry}
use Rattle.asp_store.specs.declared.stored_nogood.StoredNogood.{StoredNogood}
use Rattle.asp_store.specs.declared.stored_nogood.Kind.{Kind}
use Rattle.asp_store.specs.declared.stored_nogood.Kind.TheVariants as kind
use Rattle.asp_store.specs.Keeping.{kept_at, nogood_at, IsAddedAt}
use Rattle.asp_propagate.specs.Propagating.{Adds, IsReduced}
use Rattle.asp_propagate.specs.Useful.{IsUseful, IsSmaller}
use Rattle.asp_propagate.proofs.UsefulLaws.{useful_lower, useful_more}
use Rattle.asp_search_laws.specs.Keeping.{AreUseful, AreExcluded, IsLast, Grows}
use Rattle.asp_store.proofs.KeepLaws.{added_stays}
use Rattle.asp_search_laws.proofs.SlotLaws.{KeepsForever, added_newest, grows_forever, grows_adds, reduced_none, useful_none, useful_added, useful_adds, all_excluded, all_excluded_stay, excluded_more, blocking_stay, last_stays, nogood_kept}
use Rattle.asp_state.specs.SearchStates.{SearchView}
use Rattle.asp_search_laws.specs.Steps.{blocking_nogood}
use Rattle.asp_search.specs.Blocking.{Blocks}
use Rattle.asp_search.specs.Invariants.{IsSearch}

-- with what is useful then
search_from : (p : Program) (m : Mode) (t u : SearchView) (vars : ℕ) (checker : Program) (known : List Atoms) (blocking : List ℕ)
    (bound : Option (List ℤ)) (last new : Option ℕ) → u.program ≡ t.program → u.bound ≡ t.bound →
    AreUseful t.program known t.bound u.slots → KeepsForever t.slots u.slots → IsLast u.slots new →
    IsSearch p m t vars checker known blocking bound last → IsSearch p m u vars checker known blocking bound new
search_from p m t u vars checker known blocking bound last new program bounded useful forever stands s = record {
  program = s.program ∙ sym program;
  bounded = s.bounded ∙ sym bounded;
  counted = s.counted ∙ ap var_count (sym program);
  checked = s.checked;
  useful =
      subst (λ (x : Program). AreUseful x known u.bound u.slots) (sym program)
      (subst (λ (x : Option (List ℤ)). AreUseful t.program known x u.slots) (sym bounded) useful);
  blocked = subst (λ (x : Program). AreExcluded x u.slots known) (sym program) (all_excluded_stay t.program t.slots u.slots known forever s.blocked);
  blocking_stand = blocking_stay t.slots u.slots blocking forever s.blocking_stand;
  last_stands = stands;
  alone = s.alone;
}

-- a checker of the same program
pub search_checked : (p : Program) (m : Mode) (t : SearchView) (vars : ℕ) (checker new : Program) (known : List Atoms) (blocking : List ℕ) (bound : Option (List ℤ)) (last : Option ℕ) → new ≡ checker →
    IsSearch p m t vars checker known blocking bound last → IsSearch p m t vars new known blocking bound last
search_checked p m t vars checker new known blocking bound last same s = subst (λ (x : Program). IsSearch p m t vars x known blocking bound last) (sym same) s

-- the same nogoods
pub search_same : (p : Program) (m : Mode) (t u : SearchView) (vars : ℕ) (checker : Program) (known : List Atoms) (blocking : List ℕ)
    (bound : Option (List ℤ)) (last new : Option ℕ) → u.program ≡ t.program → u.bound ≡ t.bound →
    u.slots ≡ t.slots → IsLast u.slots new → IsSearch p m t vars checker known blocking bound last → IsSearch p m u vars checker known blocking bound new
search_same p m t u vars checker known blocking bound last new program bounded slots stands s =
    search_from p m t u vars checker known blocking bound last new program bounded (subst (λ (x : List (Option StoredNogood)). AreUseful t.program known t.bound x) (sym slots) s.useful)
    (λ id k q f. ap (λ (x : List (Option StoredNogood)). kept_at x id) slots ∙ q) stands s

pub search_stays : (p : Program) (m : Mode) (t u : SearchView) (vars : ℕ) (checker : Program) (known : List Atoms) (blocking : List ℕ)
    (bound : Option (List ℤ)) (last : Option ℕ) → u.program ≡ t.program → u.bound ≡ t.bound →
    u.slots ≡ t.slots → IsSearch p m t vars checker known blocking bound last → IsSearch p m u vars checker known blocking bound last
search_stays p m t u vars checker known blocking bound last program bounded slots s =
    search_same p m t u vars checker known blocking bound last last program bounded slots (subst (λ (x : List (Option StoredNogood)). IsLast x last) (sym slots) s.last_stands) s

-- those that a propagator gave
pub search_adds : (p : Program) (m : Mode) (t u : SearchView) (vars : ℕ) (checker : Program) (known : List Atoms) (blocking : List ℕ)
    (bound : Option (List ℤ)) (last : Option ℕ) (gives : Nogood → Type 0) →
    u.program ≡ t.program → u.bound ≡ t.bound → ((n : Nogood) → gives n → IsUseful t.program known t.bound n) → Adds gives t.slots u.slots →
    IsSearch p m t vars checker known blocking bound last → IsSearch p m u vars checker known blocking bound last
search_adds p m t u vars checker known blocking bound last gives program bounded sound adds s =
    let g : Grows t.slots u.slots = grows_adds gives t.slots u.slots adds in
    search_from p m t u vars checker known blocking bound last last program bounded (useful_adds t.program known t.bound gives t.slots u.slots sound adds s.useful)
    (grows_forever t.slots u.slots g) (last_stays t.slots u.slots last g s.last_stands) s

pub search_told : (p : Program) (m : Mode) (t u : SearchView) (vars : ℕ) (checker : Program) (known : List Atoms) (blocking : List ℕ)
    (bound : Option (List ℤ)) (last : Option ℕ) (gives : Nogood → Type 0) →
    u.program ≡ t.program → u.bound ≡ t.bound → ((n : Nogood) → gives n → IsUseful t.program known t.bound n) → Adds gives t.slots u.slots →
    IsSearch p m t vars checker known blocking bound last → IsSearch p m u vars checker known blocking bound None
search_told p m t u vars checker known blocking bound last gives program bounded sound adds s =
    search_same p m u u vars checker known blocking bound last None refl refl refl tt (search_adds p m t u vars checker known blocking bound last gives program bounded sound adds s)

-- one more
pub search_added : (p : Program) (m : Mode) (t u : SearchView) (vars : ℕ) (checker : Program) (known : List Atoms) (blocking : List ℕ)
    (bound : Option (List ℤ)) (last new : Option ℕ) (id : ℕ) (n : Nogood) (kind : Kind) →
    u.program ≡ t.program → u.bound ≡ t.bound → IsAddedAt t.slots u.slots id n kind → IsUseful t.program known t.bound n → IsLast u.slots new →
    IsSearch p m t vars checker known blocking bound last → IsSearch p m u vars checker known blocking bound new
search_added p m t u vars checker known blocking bound last new id n kind program bounded a useful stands s =
    search_from p m t u vars checker known blocking bound last new program bounded (useful_added t.program known t.bound t.slots u.slots id n kind a useful s.useful)
    (grows_forever t.slots u.slots (added_stays t.slots u.slots id n kind a)) stands s

pub added_last : (t u : List (Option StoredNogood)) (id : ℕ) (n : Nogood) (kind : Kind) (last : Option ℕ) → IsAddedAt t u id n kind → IsLast t last → IsLast u last
added_last t u id n kind last a l = last_stays t u last (added_stays t u id n kind a) l

-- the newest nogood is one
pub newest_last : (t u : List (Option StoredNogood)) (id : ℕ) (n : Nogood) (kind : Kind) → IsAddedAt t u id n kind → IsLast u (Some id)
newest_last t u id n kind a = (n, added_newest t u id n kind a)

-- some fewer
pub search_thinned : (p : Program) (m : Mode) (t u : SearchView) (vars : ℕ) (checker : Program) (known : List Atoms) (blocking : List ℕ)
    (bound : Option (List ℤ)) (last new : Option ℕ) (es : List Entry) →
    u.program ≡ t.program → u.bound ≡ t.bound → IsReduced es t.slots u.slots → IsLast u.slots new →
    IsSearch p m t vars checker known blocking bound last → IsSearch p m u vars checker known blocking bound new
search_thinned p m t u vars checker known blocking bound last new es program bounded r stands s =
    search_from p m t u vars checker known blocking bound last new program bounded (useful_none t.program known t.bound t.slots u.slots (reduced_none es t.slots u.slots r) s.useful) r.forever stands s

pub search_reduced : (p : Program) (m : Mode) (t u : SearchView) (vars : ℕ) (checker : Program) (known : List Atoms) (blocking : List ℕ) (bound : Option (List ℤ)) (last : Option ℕ) (es : List Entry) →
    u.program ≡ t.program → u.bound ≡ t.bound → IsReduced es t.slots u.slots → IsSearch p m t vars checker known blocking bound last → IsSearch p m u vars checker known blocking bound None
search_reduced p m t u vars checker known blocking bound last es program bounded r s = search_thinned p m t u vars checker known blocking bound last None es program bounded r tt s

-- the nogood that is kept under the number is there still
pub last_named : (old slots : List (Option StoredNogood)) (id : ℕ) → kept_at slots id ≡ kept_at old id → IsLast old (Some id) → IsLast slots (Some id)
last_named old slots id e l = (l.0, ap (option_map (λ (k : StoredNogood). k.nogood)) e ∙ l.1)

-- ---- a smaller bound
pub search_lower : (p : Program) (m : Mode) (t u : SearchView) (vars : ℕ) (checker : Program) (known : List Atoms) (blocking : List ℕ) (bound : Option (List ℤ)) (c : List ℤ) (last : Option ℕ) →
    u.program ≡ t.program → u.bound ≡ Some c → u.slots ≡ t.slots → IsSmaller c t.bound → IsSearch p m t vars checker known blocking bound last →
    IsSearch p m u vars checker known blocking (Some c) last
search_lower p m t u vars checker known blocking bound c last program bounded slots smaller s = record {
  program = s.program ∙ sym program;
  bounded = sym bounded;
  counted = s.counted ∙ ap var_count (sym program);
  checked = s.checked;
  useful =
      subst (λ (x : Program). AreUseful x known u.bound u.slots) (sym program)
      (subst (λ (x : Option (List ℤ)). AreUseful t.program known x u.slots) (sym bounded)
      (subst (λ (x : List (Option StoredNogood)). AreUseful t.program known (Some c) x) (sym slots) (λ id n k. useful_lower t.program known t.bound c n smaller (s.useful id n k))));
  blocked =
      subst (λ (x : Program). AreExcluded x u.slots known) (sym program) (subst (λ (x : List (Option StoredNogood)). AreExcluded t.program x known) (sym slots) s.blocked);
  blocking_stand = blocking_stay t.slots u.slots blocking (λ id k q f. ap (λ (x : List (Option StoredNogood)). kept_at x id) slots ∙ q) s.blocking_stand;
  last_stands = subst (λ (x : List (Option StoredNogood)). IsLast x last) (sym slots) s.last_stands;
  alone = s.alone;
}

-- ---- one more answer, in an enumeration
pub search_lists : (p : Program) (t u : SearchView) (vars : ℕ) (checker : Program) (known : List Atoms) (id : ℕ) (blocking new : List ℕ) (bound : Option (List ℤ)) (q : List Literal) (S : Atoms) →
    Settled t.program (known ++ S ∷ []) t.bound (q ++ t.decisions) → hits (values t.program S) (q ++ t.decisions) ≡ true → Blocks (blocking_nogood q t.decisions) t u id new →
    IsSearch p mode.Enum t vars checker known blocking bound None → IsSearch p mode.Enum u vars checker (known ++ S ∷ []) new bound (Some id)
search_lists p t u vars checker known id blocking new bound q S settled hit b s =
    let program : u.program ≡ t.program = ap (λ (y : SearchView). y.program) b.same in
    let bounded : u.bound ≡ t.bound = ap (λ (y : SearchView). y.bound) b.same in
    record {
      program = s.program ∙ sym program;
      bounded = s.bounded ∙ sym bounded;
      counted = s.counted ∙ ap var_count (sym program);
      checked = s.checked;
      useful =
          subst (λ (x : Program). AreUseful x (known ++ S ∷ []) u.bound u.slots) (sym program)
          (subst (λ (x : Option (List ℤ)). AreUseful t.program (known ++ S ∷ []) x u.slots) (sym bounded) (λ j n k. useful j n (b.nogoods j n k)));
      blocked =
          subst (λ (x : Program). AreExcluded x u.slots (known ++ S ∷ [])) (sym program)
          (excluded_more t.program u.slots known S (all_excluded t.program t.slots u.slots known (b.blocked t.program) s.blocked)
          (record { id = id; kept = record { nogood = blocking_nogood q t.decisions; kind = kind.Forever; locked = false }; stands = b.stands; forever = refl; hit = hit }));
      blocking_stand = b.blocking_stand;
      last_stands = (blocking_nogood q t.decisions, nogood_kept u.slots id (record { nogood = blocking_nogood q t.decisions; kind = kind.Forever; locked = false }) b.stands);
      alone = λ e. absurd (differ e);
    }
  where
    differ : mode.Enum ≡ mode.Opt → ⊥
    differ e = cc

    useful : (j : ℕ) (n : Nogood) → (nogood_at t.slots j ≡ Some n) ⊎ (n ≡ blocking_nogood q t.decisions) → IsUseful t.program (known ++ S ∷ []) t.bound n
    useful j n (inl k) = useful_more t.program known S t.bound n (s.useful j n k)
    useful j n (inr e) = subst (IsUseful t.program (known ++ S ∷ []) t.bound) (sym e) (record { good = settled; counts = tt })

-- the same, of what the code has in its hands
pub search_listed : (p : Program) (m : Mode) (t u : SearchView) (vars : ℕ) (checker : Program) (known ks : List Atoms) (id : ℕ)
    (blocking new : List ℕ) (bound : Option (List ℤ)) (last : Option ℕ) (q : List Literal) (S : Atoms) →
    m ≡ mode.Enum → last ≡ None → ks ≡ known ++ S ∷ [] → Settled t.program (known ++ S ∷ []) t.bound (q ++ t.decisions) → hits (values t.program S) (q ++ t.decisions) ≡ true →
    Blocks (blocking_nogood q t.decisions) t u id new → IsSearch p m t vars checker known blocking bound last → IsSearch p m u vars checker ks new bound (Some id)
search_listed p m t u vars checker known ks id blocking new bound last q S enum none more settled hit b s =
    let first : IsSearch p mode.Enum t vars checker known blocking bound None =
    subst (λ (x : Mode). IsSearch p x t vars checker known blocking bound None) enum (subst (λ (x : Option ℕ). IsSearch p m t vars checker known blocking bound x) none s) in
    subst (λ (x : Mode). IsSearch p x u vars checker ks new bound (Some id)) (sym enum)
    (subst (λ (x : List Atoms). IsSearch p mode.Enum u vars checker x new bound (Some id)) (sym more) (search_lists p t u vars checker known id blocking new bound q S settled hit b first))
