-- What the parts of a step know of each other.
use Rattle.std.proofs.Common.{◌≡◌, ℕ, List, length, Option, None, sym, ap, subst, arith}
use Rattle.std.specs.Prelude.{ℤ}
use Rattle.std.proofs.lemmas.List.{length-append}
use Rattle.asp_model.specs.declared.program.Program.{Program}
use Rattle.asp_model.specs.declared.results.Mode.{Mode}
use Rattle.asp_model.specs.Sets.{Atoms}
use Rattle.asp_vars.specs.Literals.{Literal}
use Rattle.asp_vars.specs.Numbering.{var_count}
use Rattle.asp_vars.specs.Entailment.{HitsOnly, excuse}
use Rattle.asp_vars.specs.Paid.{Units}
use Rattle.asp_vars.specs.declared.nogood.Base.{Base}
use Rattle.asp_vars.specs.declared.nogood.Nogood.{Nogood}
use Rattle.asp_trail.specs.declared.trail.Entry.{Entry}
use Rattle.asp_store.specs.declared.stored_nogood.Kind.{Kind}
use Rattle.asp_store.specs.Keeping.{IsAddedAt}
use Rattle.asp_order.specs.Pacing.{Paced}
use Rattle.asp_propagate.specs.Propagating.{Adds, Implies}
use Rattle.asp_propagate.specs.Useful.{Counts, IsUseful}
use Rattle.asp_search_laws.specs.Axioms.{IsDerived}
use Rattle.asp_search_laws.specs.Faults.{IsFault}
use Rattle.asp_search_laws.specs.Steps.{Fails}
use Rattle.asp_search_laws.proofs.DerivedLaws.{derived_adds, derived_added}
use Rattle.asp_store.proofs.KeepLaws.{added_stays}
use Rattle.asp_search_laws.proofs.SlotLaws.{grows_adds}
use Rattle.asp_search_laws.proofs.StepLaws.{Continues, fails_after}
use Rattle.asp_state.specs.SearchStates.{SearchView}
use Rattle.asp_search.specs.Invariants.{view_of}
use Rattle.asp_search.proofs.StepsLaws.{continues_from, fails_same}

-- ---- a nogood that shows a set unstable
pub fault_useful : (p : Program) (known : List Atoms) (bound : Option (List ℤ)) (gives : Nogood → Type 0) (vars : ℕ) (es : List Entry) (n : Nogood) →
    IsFault p gives vars es n → IsUseful p known bound n
fault_useful p known bound gives vars es n f = record {
  good = subst (λ (b : Base). HitsOnly p (excuse p known bound b) n.lits) (sym f.pure) f.entailed;
  counts = subst (Counts bound) (sym f.pure) tt;
}

fault_counts : (p : Program) (bound : Option (List ℤ)) (gives : Nogood → Type 0) (vars : ℕ) (es : List Entry) (n : Nogood) → IsFault p gives vars es n → Counts bound n.base
fault_counts p bound gives vars es n f = subst (Counts bound) (sym f.pure) tt

module _ (gives : Nogood → Type 0) (md : Mode) (t u : SearchView) (c : Paced) (known : List Atoms) (last : Option ℕ) where
  -- it is kept
  pub fault_continues : (id : ℕ) (n : Nogood) (kind : Kind) → IsFault t.program gives (var_count t.program) t.entries n → u ≡ record t { slots = u.slots } → IsAddedAt t.slots u.slots id n kind →
      Continues gives (view_of md t c known last) (view_of md u c known last)
  fault_continues id n kind f e a =
      continues_from gives md t c known last t.entries u.slots last u e (added_stays t.slots u.slots id n kind a)
      (derived_added t.program gives t.bound t.slots u.slots id n kind a (IsDerived.given f.why (fault_counts t.program t.bound gives (var_count t.program) t.entries n f))) (omega arith)

  -- ---- propagation
  pub adds_continue : ((n : Nogood) → gives n → Counts t.bound n.base) → Adds gives t.slots u.slots → Implies t.entries u.entries → u ≡ record t { entries = u.entries; slots = u.slots } →
      Continues gives (view_of md t c known last) (view_of md u c known None)
  adds_continue counts adds implies e =
      continues_from gives md t c known last u.entries u.slots None u e (grows_adds gives t.slots u.slots adds)
      (derived_adds t.program gives t.bound t.slots u.slots counts adds)
      (omega (arith, ap (length {A = Entry}) implies.1, length-append t.entries implies.0))

  -- and memory is wanting then
  pub adds_fail : (q : List Literal) (f : Units) → ((n : Nogood) → gives n → Counts t.bound n.base) → Adds gives t.slots u.slots →
      Implies t.entries u.entries → u ≡ record t { entries = u.entries; slots = u.slots } →
      Fails gives (view_of md t c known last) (view_of md u c known None) q f f
  adds_fail q f counts adds implies e =
      fails_after gives (view_of md t c known last) (view_of md u c known None) (view_of md u c known None) q f f (adds_continue counts adds implies e) (fails_same gives md u c known None q f)
