-- What a jump does to the state, and that the learnt nogood implies its literal there.
use Rattle.std.proofs.Common.{◌≡◌, ℕ, List, ◌∷◌, ◌++◌, take, Option, Some, None, sym, ap, ◌∙◌, subst, []}
use Rattle.asp_vars.specs.Literals.{Literal, value_of}
use Rattle.asp_vars.specs.Numbering.{var_count}
use Rattle.asp_vars.specs.declared.nogood.Nogood.{Nogood}
use Rattle.asp_trail.specs.Entries.{level, cut}
use Rattle.asp_trail.specs.Trails.{IsOrdered, IsVar}
use Rattle.asp_store.specs.declared.stored_nogood.StoredNogood.{StoredNogood}
use Rattle.asp_store.specs.declared.stored_nogood.Kind.TheVariants as kind
use Rattle.asp_store.specs.Keeping.{IsAddedAt}
use Rattle.asp_order.specs.Heaps.{Ranking}
use Rattle.asp_analyze.specs.Learning.{AreContained, IsJump}
use Rattle.asp_propagate.specs.Propagating.{IsImplied}
use Rattle.asp_search_laws.proofs.JumpLaws.{jump_var, jump_none, jump_reason}
use Rattle.asp_search_laws.proofs.SlotLaws.{added_newest}
use Rattle.asp_state.specs.SearchStates.{SearchView, values_of, path_of, IsUnder}

-- the state where it was taken back
abbrev pub back : SearchView → ℕ → List (Option StoredNogood) → Ranking → SearchView
back t to slots ranking = record t { entries = cut to t.entries; decisions = take to t.decisions; slots = slots; ranking = ranking }

-- ---- the steps of a jump
pub jump_bumped : (t m a : SearchView) (ranking : Ranking) → m ≡ t → a ≡ record m { ranking = ranking } → a ≡ record t { ranking = a.ranking }
jump_bumped t m a ranking same e =
    let with_order : Ranking → SearchView = λ r. record m { ranking = r } in
    e
    ∙ (ap with_order (sym (ap (λ (x : SearchView). x.ranking) e))
    ∙ ap (λ (x : SearchView). let y : SearchView = record x { ranking = a.ranking } in y) same)

pub jump_back : (t a b u : SearchView) (to : ℕ) (ranking : Ranking) → a ≡ record t { ranking = ranking } → b ≡ record a { slots = b.slots } →
    u ≡ record b { decisions = take to b.decisions; entries = cut to b.entries; ranking = u.ranking } → u ≡ back t to b.slots u.ranking
jump_back t a b u to ranking bump keep undo =
    undo
    ∙ ap (λ (x : SearchView). let y : SearchView = record x { decisions = take to x.decisions; entries = cut to x.entries; ranking = u.ranking } in y)
    (keep ∙ ap (λ (x : SearchView). let y : SearchView = record x { slots = b.slots } in y) bump)

pub jump_done : (t u w : SearchView) (to id : ℕ) (slots : List (Option StoredNogood)) (lit : Literal) → u ≡ back t to slots u.ranking →
    w ≡ record u { entries = u.entries ++ record { lit = lit; level = level u.entries; reason = Some id } ∷ [] } →
    w ≡ record t {
      entries = cut to t.entries ++ record { lit = lit; level = level (cut to t.entries); reason = Some id } ∷ [];
      decisions = take to t.decisions;
      slots = w.slots;
      ranking = w.ranking;
    }
jump_done t u w to id slots lit e imply =
    let order : u.ranking ≡ w.ranking = sym (ap (λ (x : SearchView). x.ranking) imply) in
    let same : slots ≡ w.slots = sym (ap (λ (x : SearchView). x.slots) e) ∙ sym (ap (λ (x : SearchView). x.slots) imply) in
    let last : List (Option StoredNogood) → Ranking → SearchView = λ xs r. record t {
      entries = cut to t.entries ++ record { lit = lit; level = level (cut to t.entries); reason = Some id } ∷ [];
      decisions = take to t.decisions;
      slots = xs;
      ranking = r;
    } in
    imply
    ∙ (ap (λ (x : SearchView). let y : SearchView = record x { entries = x.entries ++ record { lit = lit; level = level x.entries; reason = Some id } ∷ [] } in y) e
    ∙ (ap (λ (xs : List (Option StoredNogood)). last xs u.ranking) same ∙ ap (last w.slots) order))

-- the slots then are those where it was kept
pub jump_slots : (t u w : SearchView) (to id : ℕ) (slots : List (Option StoredNogood)) (lit : Literal) → u ≡ back t to slots u.ranking →
    w ≡ record u { entries = u.entries ++ record { lit = lit; level = level u.entries; reason = Some id } ∷ [] } → slots ≡ w.slots
jump_slots t u w to id slots lit e imply = sym (ap (λ (x : SearchView). x.slots) e) ∙ sym (ap (λ (x : SearchView). x.slots) imply)

-- ---- what is asked for implying the literal
module _ (t u : SearchView) (from : List Literal) (to : ℕ) (slots : List (Option StoredNogood)) (n : Nogood) (lit : Literal)
    (e : u ≡ back t to slots u.ranking) (o : IsOrdered (var_count t.program) t.entries)
    (c : AreContained (var_count t.program) t.entries n.lits) (j : IsJump t.entries from n.lits to lit) where
  pub back_under : (q : List Literal) → IsUnder t q → IsUnder u q
  back_under q x = subst (λ (y : SearchView). IsUnder y q) (sym e) (record { cube_is = x.cube_is; fixpoint = x.fixpoint })

  pub back_var : IsVar (var_count u.program) lit.var
  back_var = subst (λ (y : SearchView). IsVar (var_count y.program) lit.var) (sym e) (jump_var (var_count t.program) t.entries from n.lits to lit o c j)

  pub back_none : value_of (values_of u) lit.var ≡ None
  back_none = subst (λ (y : SearchView). value_of (values_of y) lit.var ≡ None) (sym e) (jump_none (var_count t.program) t.entries from n.lits to lit o c j)

  pub back_implied : (id : ℕ) → IsAddedAt t.slots slots id n kind.Learnt → IsImplied (path_of u) lit id
  back_implied id a =
      subst (λ (y : SearchView). IsImplied (path_of y) lit id) (sym e) (
        n,
        added_newest t.slots slots id n kind.Learnt a,
        jump_reason (var_count t.program) t.entries from n.lits to lit o c j (record { lit = lit; level = level (cut to t.entries); reason = Some id }),
      )
