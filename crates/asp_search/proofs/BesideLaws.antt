-- The calls beside a step.
use Rattle.std.proofs.Common.{◌≡◌, ℕ, zero, suc, ◌<◌, true, false, List, ◌∷◌, length, get_or, Option, None, refl, sym, ap, ◌∙◌, subst, arith, []}
use Rattle.std.specs.Prelude.{ℤ}
use Rattle.std.specs.List.{AllByRecursion}
use Rattle.std.proofs.lemmas.Bool.{false≢true}
use Rattle.std.proofs.lemmas.Option.{same_Some}
use Rattle.asp_model.specs.declared.program.Program.{Program}
use Rattle.asp_model.specs.declared.results.Mode.{Mode}
use Rattle.asp_model.specs.declared.results.Mode.TheVariants as mode
use Rattle.asp_model.specs.Sets.{Atoms}
use Rattle.asp_model.specs.Sound.{IsSound}
use Rattle.asp_vars.specs.Literals.{Literal}
use Rattle.asp_vars.specs.Numbering.{var_count}
use Rattle.asp_vars.specs.Completion.{completion}
use Rattle.asp_vars.specs.Entailment.{Entailed, IsGood}
use Rattle.asp_vars.specs.Paid.{Units}
use Rattle.asp_vars.specs.declared.nogood.Base.{Base}
use Rattle.asp_vars.specs.declared.nogood.Base.TheVariants as base
use Rattle.asp_vars.specs.declared.nogood.Nogood.{Nogood}
use Rattle.asp_vars.proofs.CompletionLaws.{completion_entailed}
use Rattle.asp_store.specs.declared.stored_nogood.StoredNogood.{StoredNogood}
use Rattle.asp_store.specs.declared.stored_nogood.Kind.TheVariants as kind
use Rattle.asp_store.specs.Keeping.{nogood_at}
use Rattle.asp_order.specs.Pacing.{Paced}
use Rattle.asp_propagate.specs.Useful.{Counts, IsUseful}
use Rattle.asp_search_laws.specs.Axioms.{AreDerived}
use Rattle.asp_search_laws.specs.Keeping.{AreUseful}
use Rattle.asp_search_laws.specs.Searching.{Searching}
use Rattle.asp_search_laws.specs.Steps.{Fails, is_of_use}
use Rattle.asp_search_laws.proofs.SlotLaws.{kept_nogood}
use Rattle.asp_state.specs.SearchStates.{SearchView, first_ranking, KeepsCompletionAlone}
use Rattle.asp_search.specs.Beside.{Leaves, new_search}
use Rattle.asp_search.specs.Invariants.{IsSearch, view_of}

-- ---- a new search
entailed_at : (p : Program) (ns : List (List Literal)) (i : ℕ) (d : List Literal) → i < length ns → AllByRecursion (Entailed p) ns → Entailed p (get_or ns i d)
entailed_at p [] i d h a = absurd (omega (arith, h))
entailed_at p (n ∷ ns) zero d h a = a.0
entailed_at p (n ∷ ns) (suc i) d h a = entailed_at p ns i d (omega (arith, h)) a.1

useful_completion : (p : Program) (known : List Atoms) (bound : Option (List ℤ)) (slots : List (Option StoredNogood)) → IsSound p → KeepsCompletionAlone p slots → AreUseful p known bound slots
useful_completion p known bound slots sound alone id n q =
    let k = kept_nogood slots id n q in
    let of = alone.only id k.0 k.1 in
    let is : k.0 ≡ record { nogood = record { lits = of.1; base = base.Pure }; kind = kind.Forever; locked = false } =
    same_Some k.0 (record { nogood = record { lits = of.1; base = base.Pure }; kind = kind.Forever; locked = false }) of.4 in
    let entailed : Entailed p of.1 = subst (Entailed p) of.3 (entailed_at p (completion p) of.0 of.1 of.2 (completion_entailed p sound)) in
    subst (IsUseful p known bound) (sym (ap (λ (x : StoredNogood). x.nogood) is) ∙ k.2) (record { good = entailed; counts = tt })

-- the state of a new search
abbrev pub first_state : Program → List (Option StoredNogood) → SearchView
first_state p slots = record { program = p; bound = None; cube = None; clashing = false; decisions = []; entries = []; slots = slots; ranking = first_ranking p }

pub search_begins : (p : Program) (m : Mode) (t : SearchView) (vars : ℕ) (checker : Program) → IsSound p → vars ≡ var_count p → checker ≡ p → KeepsCompletionAlone p t.slots →
    t ≡ first_state p t.slots → IsSearch p m t vars checker [] [] None None
search_begins p m t vars checker sound count same alone e =
    subst (λ (x : SearchView). IsSearch p m x vars checker [] [] None None) (sym e)
    (record {
      program = refl;
      bounded = refl;
      counted = count;
      checked = same;
      useful = useful_completion p [] None t.slots sound alone;
      blocked = tt;
      blocking_stand = record { each = λ i d h. absurd (no_index i h); differ = λ i j d l h. absurd (no_index j h) };
      last_stands = tt;
      alone = λ q. refl;
    })
  where
    no_index : (i : ℕ) → i < 0 → ⊥
    no_index i h = omega arith

pub search_is_new : {few : ℕ} (p : Program) (m : Mode) (t : SearchView) (c : Paced) → t ≡ first_state p t.slots →
    c ≡ record { restarts = 0; learnt = 0; reductions = 0; few = few; crowd = few } → view_of m t c [] None ≡ new_search p m t.slots
search_is_new p m t c e f = ap (λ (x : SearchView). view_of m x c [] None) e ∙ ap (λ (x : Paced). view_of m (first_state p t.slots) x [] None) f

-- the same, of a bound that isn't there
pub unbounded_state : (p : Program) (bound : Option (List ℤ)) (t : SearchView) → bound ≡ None →
    t ≡ record { program = p; bound = bound; cube = None; clashing = false; decisions = []; entries = []; slots = t.slots; ranking = first_ranking p } → t ≡ first_state p t.slots
unbounded_state p bound t none e =
    e ∙ ap (λ (b : Option (List ℤ)). let x : SearchView =
    record { program = p; bound = b; cube = None; clashing = false; decisions = []; entries = []; slots = t.slots; ranking = first_ranking p }
    in x) none

-- ---- nogoods of others
of_use_counts : (m : Mode) (bound : Option (List ℤ)) (b : Base) → is_of_use m bound b ≡ true → Counts bound b
of_use_counts m bound base.Pure h = tt
of_use_counts mode.Enum bound (base.Below c) h = absurd (false≢true h)
of_use_counts (mode.Consequences r) bound (base.Below c) h = absurd (false≢true h)
of_use_counts mode.Opt bound (base.Below c) h = h
of_use_counts m bound base.Local h = tt

pub of_use : (p : Program) (known : List Atoms) (m : Mode) (bound : Option (List ℤ)) (n : Nogood) → is_of_use m bound n.base ≡ true → IsGood p known bound n → IsUseful p known bound n
of_use p known m bound n h good = record { good = good; counts = of_use_counts m bound n.base h }

-- ---- where memory was wanting, the path is left
pub fails_left : (gives : Nogood → Type 0) (s m t : Searching) (q : List Literal) (f g : Units) → Leaves m t → Fails gives s m q f g → Fails gives s t q f g
fails_left gives s m t q f g l h = record {
  program = ap (λ (x : Searching). x.program) l ∙ h.program;
  mode = ap (λ (x : Searching). x.mode) l ∙ h.mode;
  known = ap (λ (x : Searching). x.known) l ∙ h.known;
  bound = ap (λ (x : Searching). x.bound) l ∙ h.bound;
  fuel = h.fuel;
  derived = subst (λ (xs : List (Option StoredNogood)). AreDerived s.program gives s.bound (nogood_at s.slots) (nogood_at xs)) (sym (ap (λ (x : Searching). x.slots) l)) h.derived;
}

-- the same, of what callers see
pub left_from : (md : Mode) (t u : SearchView) (c : Paced) (known : List Atoms) (last : Option ℕ) (s : Searching) → view_of md t c known last ≡ s →
    u ≡ record t { cube = None; clashing = false; decisions = []; entries = []; ranking = u.ranking } → Leaves s (view_of md u c known None)
left_from md t u c known last s v e =
    subst (λ (x : Searching). Leaves x (view_of md u c known None)) v
    (subst (λ (x : SearchView). Leaves (view_of md t c known last) (view_of md x c known None)) (sym e) refl)
