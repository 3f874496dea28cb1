-- A trail on which all variables have values, while all is at fixpoint.
use Rattle.std.proofs.Common.{◌≡◌, ℕ, Bool, true, false, List, ◌∷◌, ◌++◌, Option, Some, refl, sym, ap, ◌∙◌, subst, []}
use Rattle.asp_model.specs.declared.program.Program.{Program}
use Rattle.asp_model.specs.declared.results.Mode.{Mode}
use Rattle.asp_model.specs.Asked.{reasoning_of}
use Rattle.asp_model.specs.Consequences.{used_up}
use Rattle.asp_model.specs.Costs.{cost}
use Rattle.asp_model.specs.Sets.{Atoms, same_set}
use Rattle.asp_model.specs.Models.{is_stable}
use Rattle.std.specs.List.{list_any}
use Rattle.asp_model.proofs.MemberLaws.{each_weaker}
use Rattle.asp_vars.specs.Literals.{Literal, hits}
use Rattle.asp_vars.specs.Entailment.{Settled}
use Rattle.asp_propagate.specs.Useful.{IsSmaller}
use Rattle.asp_vars.specs.Numbering.{values, var_count}
use Rattle.asp_vars.specs.Completion.{completion}
use Rattle.asp_vars.specs.declared.nogood.Base.TheVariants as base
use Rattle.asp_vars.specs.declared.nogood.Nogood.{Nogood}
use Rattle.asp_trail.specs.declared.trail.Entry.{Entry}
use Rattle.asp_trail.specs.Fixpoint.{is_at_fixpoint}
use Rattle.asp_trail.specs.Trails.{IsOrdered}
use Rattle.asp_store.specs.Keeping.{nogood_at}
use Rattle.asp_store.specs.Fitting.{AreSmall}
use Rattle.asp_store.specs.declared.stored_nogood.StoredNogood.{StoredNogood}
use Rattle.asp_order.specs.Pacing.{Paced}
use Rattle.asp_order.specs.Waiting.{AreAssigned}
use Rattle.asp_trail_laws.specs.Fixpoint.{AreAtFixpoint}
use Rattle.asp_trail_laws.specs.Settling.{AreSettled}
use Rattle.asp_trail_laws.specs.Starts.{AreStarts}
use Rattle.asp_trail_laws.specs.Whole.{AreBlocked, IsWhole, truths, atoms_on}
use Rattle.asp_trail_laws.proofs.WholeLaws.{trail_valuation, set_value, whole_way}
use Rattle.asp_trail_laws.proofs.AnswerLaws.{answer_new, answer_settles}
use Rattle.asp_propagate.specs.Propagating.{IsFixpoint}
use Rattle.asp_propagate.specs.Whole.{KeepsAll}
use Rattle.asp_propagate.specs.Whole as follow
use Rattle.asp_search_laws.specs.Keeping.{AreExcluded}
use Rattle.asp_search_laws.specs.Searching.{Searching}
use Rattle.asp_search_laws.proofs.SlotLaws.{nogood_kept}
use Rattle.asp_state.specs.SearchStates.{SearchView, values_of, IsForever, KeepsCompletion}
use Rattle.asp_search.specs.Invariants.{view_of}
use Rattle.asp_search.specs.Stepping.{IsFound}

-- What is known where all variables have values.
pub record IsFull (silent : List (Option Bool) → Type 0) (known : List Atoms) (t : SearchView) (q : List Literal) : Type 0 where
  pub ordered : IsOrdered (var_count t.program) t.entries
  pub starts : AreStarts q t.decisions t.entries
  pub reasons : AreSettled t.program known t.bound t.entries
  pub small : AreSmall (var_count t.program) t.slots
  pub completed : KeepsCompletion t.program t.slots
  pub fixpoint : IsFixpoint silent t.slots (values_of t)
  pub assigned : AreAssigned (var_count t.program) (values_of t)
  pub blocked : AreExcluded t.program t.slots known

-- The set is an answer that these don't have, and costs less than the bound.
pub record IsNew (known : List Atoms) (t : SearchView) (q : List Literal) (S : Atoms) : Type 0 where
  pub stable : is_stable t.program S ≡ true
  pub hit : hits (values t.program S) (q ++ t.decisions) ≡ true
  pub new : list_any (same_set S) known ≡ false
  pub cheaper : IsSmaller (cost t.program S) t.bound
  pub settled : Settled t.program (known ++ S ∷ []) t.bound (q ++ t.decisions)

-- each answer that is blocked is so by a kept nogood
pub all_blocked : (p : Program) (slots : List (Option StoredNogood)) (known : List Atoms) → AreExcluded p slots known → AreBlocked p (nogood_at slots) known
all_blocked p slots [] b = tt
all_blocked p slots (S ∷ known) b = ((b.0.id, b.0.kept.nogood, nogood_kept slots b.0.id b.0.kept b.0.stands, b.0.hit), all_blocked p slots known b.1)

module _ (silent : List (Option Bool) → Type 0) (known : List Atoms) (t : SearchView) (q : List Literal) (f : IsFull silent known t q)
    (whole : (v : List Bool) → follow.IsWhole t.program (values_of t) v → silent (values_of t) → KeepsAll t.program t.bound v) where
  -- the completion is at fixpoint, since all of it is kept
  fixpoint_completion : AreAtFixpoint (var_count t.program) (completion t.program) t.entries
  fixpoint_completion =
      each_weaker (IsForever t.slots) (λ n. is_at_fixpoint (values_of t) n ≡ true)
      (λ n c. f.fixpoint.fixpoint c.id (record { lits = n; base = base.Pure }) (nogood_kept t.slots c.id c.kept c.stands ∙ ap (λ (m : Nogood). Some m) c.nogood))
      (completion t.program) f.completed

  keeps : KeepsAll t.program t.bound (truths (values_of t))
  keeps =
      whole (truths (values_of t))
      (record {
        valuation = trail_valuation t.program (var_count t.program) t.entries refl f.ordered;
        values = λ x v. set_value (values_of t) x (f.assigned x v);
      })
      f.fixpoint.says_nothing

  pub full_whole : IsWhole t.program (var_count t.program) t.entries
  full_whole = record { counted = refl; ordered = f.ordered; full = f.assigned; fixpoint = fixpoint_completion; weights = keeps.weights }

  pub full_new : is_stable t.program (atoms_on t.program (var_count t.program) t.entries) ≡ true → IsNew known t q (atoms_on t.program (var_count t.program) t.entries)
  full_new stable = record {
    stable = stable;
    hit = whole_way t.program (var_count t.program) t.entries full_whole q t.decisions f.starts;
    new = answer_new t.program known (var_count t.program) (nogood_at t.slots) t.entries full_whole (all_blocked t.program t.slots known f.blocked) f.small f.fixpoint.fixpoint;
    cheaper = keeps.cheaper;
    settled = answer_settles t.program known t.bound (var_count t.program) q t.decisions t.entries full_whole f.reasons f.starts;
  }

pub full_found : (silent : List (Option Bool) → Type 0) (m : Mode) (t : SearchView) (c : Paced) (K : List Atoms) (last : Option ℕ) (q : List Literal)
    → IsFull silent (used_up (reasoning_of m) t.program K) t q →
    ((v : List Bool) → follow.IsWhole t.program (values_of t) v → silent (values_of t) → KeepsAll t.program t.bound v) →
    is_stable t.program (atoms_on t.program (var_count t.program) t.entries) ≡ true →
    IsFound (view_of m t c K last) q (atoms_on t.program (var_count t.program) t.entries)
full_found silent m t c K last q f whole stable =
    let n = full_new silent (used_up (reasoning_of m) t.program K) t q f whole stable in
    record { stable = n.stable; hit = n.hit; new = n.new; cheaper = n.cheaper; settled = n.settled }

-- ---- of the program that the code has in its hands
pub whole_for : (p : Program) (t : SearchView) → p ≡ t.program → IsWhole t.program (var_count t.program) t.entries → IsWhole p (var_count p) t.entries
whole_for p t e w = subst (λ (x : Program). IsWhole x (var_count x) t.entries) (sym e) w

pub atoms_for : (p : Program) (vars : ℕ) (t : SearchView) (es : List Entry) (S : Atoms) → p ≡ t.program → vars ≡ var_count t.program → es ≡ t.entries → S ≡ atoms_on p vars es →
    S ≡ atoms_on p (var_count p) t.entries
atoms_for p vars t es S e v f q =
    q ∙ (ap (λ (n : ℕ). atoms_on p n es) (v ∙ ap var_count (sym e)) ∙ ap (λ (xs : List Entry). atoms_on p (var_count p) xs) f)

-- the answer that was found, by the set that the code has
pub found_for : (s : Searching) (q : List Literal) (S T : Atoms) → S ≡ T → IsFound s q T → IsFound s q S
found_for s q S T e f = subst (IsFound s q) (sym e) f

pub stable_for : (p : Program) (t : SearchView) (S : Atoms) → p ≡ t.program → S ≡ atoms_on p (var_count p) t.entries → is_stable p S ≡ true →
    is_stable t.program (atoms_on t.program (var_count t.program) t.entries) ≡ true
stable_for p t S e q h = subst (λ (x : Program). is_stable x (atoms_on x (var_count x) t.entries) ≡ true) e (subst (λ (T : Atoms). is_stable p T ≡ true) q h)
