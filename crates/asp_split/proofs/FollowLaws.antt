-- What a trail under a cube, at level 0, shows of the stable models that hit the cube.
use Rattle.std.proofs.Common.{◌≡◌, ℕ, Bool, true, false, not, List, [], ◌++◌, get_or, take, Option, Some, None, IfSome, ◌⊎◌, inl, inr, refl, sym, ap, ◌∙◌, subst, arith}
use Rattle.std.specs.Bool.{beq}
use Rattle.std.specs.Prelude.{ℤ}
use Rattle.std.specs.Option.{option_map, is_none}
use Rattle.std.proofs.lemmas.Bool.{false≢true}
use Rattle.std.proofs.lemmas.List.{append-nil}
use Rattle.std.proofs.lemmas.Option.{none-some, same_Some}
use Rattle.asp_model.specs.declared.program.Program.{Program}
use Rattle.asp_model.specs.Sound.{IsSound}
use Rattle.asp_vars.specs.Completion.{completion}
use Rattle.asp_vars.specs.Entailment.{Entailed, Settled, nothing, is_done}
use Rattle.asp_vars.specs.Literals.{Literal, agrees, hits, is_true}
use Rattle.asp_vars.specs.Numbering.{values, var_count}
use Rattle.asp_vars.specs.declared.nogood.Base.TheVariants as base
use Rattle.asp_vars.specs.declared.nogood.Nogood.{Nogood}
use Rattle.asp_vars.proofs.CompletionLaws.{completion_entailed}
use Rattle.asp_vars.proofs.LiteralLaws.{beq_same}
use Rattle.asp_vars.proofs.PlaceLaws.{at_each}
use Rattle.asp_vars.proofs.ResolutionLaws.{HitsOnly-weaker}
use Rattle.asp_trail.specs.declared.trail.Entry.{Entry}
use Rattle.asp_trail.specs.Entries.{assignment, level}
use Rattle.asp_trail.specs.Trails.{IsOrdered}
use Rattle.asp_trail.specs.Reasons.{AreImpliedBy}
use Rattle.asp_trail.proofs.ReasonLaws.{implied_weaker}
use Rattle.asp_trail.proofs.HoldLaws.{holds_found}
use Rattle.asp_trail.proofs.TrailLaws.{level_top}
use Rattle.asp_store.specs.declared.stored_nogood.StoredNogood.{StoredNogood}
use Rattle.asp_store.specs.declared.stored_nogood.Kind.TheVariants as kind
use Rattle.asp_store.specs.Keeping.{kept_at, nogood_at}
use Rattle.asp_store.specs.Walking.{IsViolated}
use Rattle.asp_trail_laws.specs.Settling.{KeepsSettled, AreSettled}
use Rattle.asp_trail_laws.specs.Starts.{AreStarts}
use Rattle.asp_trail_laws.proofs.HitLaws.{trail_hit}
use Rattle.asp_trail_laws.proofs.PlaceLaws.{blank, level_in_top}
use Rattle.asp_trail_laws.proofs.ViolatedLaws.{way_settled}
use Rattle.asp_propagate.specs.Late.{IsAtHand}
use Rattle.asp_propagate.specs.Propagating.{Adds}
use Rattle.asp_propagate.proofs.AddLaws.{adds_each}
use Rattle.asp_propagate.specs.Useful.{IsUseful}
use Rattle.asp_propagate.proofs.UsefulLaws.{useful_settles}
use Rattle.asp_state.specs.SearchStates.{SearchView, values_of, KeepsCompletionAlone}
use Rattle.asp_split.specs.Following.{Follow, Follows, IsProber}

-- ---- the nogoods that are kept
kept_nogood : (slots : List (Option StoredNogood)) (id : ℕ) (n : Nogood) → nogood_at slots id ≡ Some n → (k : StoredNogood) × (kept_at slots id ≡ Some k) × (k.nogood ≡ n)
kept_nogood slots id n q = cases (kept_at slots id) refl
  where
    cases : (o : Option StoredNogood) → o ≡ kept_at slots id → (k : StoredNogood) × (kept_at slots id ≡ Some k) × (k.nogood ≡ n)
    cases None e = absurd (none-some n (ap (option_map (λ (k : StoredNogood). k.nogood)) e ∙ q))
    cases (Some k) e = (k, sym e, same_Some k.nogood n (ap (option_map (λ (k : StoredNogood). k.nogood)) e ∙ q))

pub entailed_settled : (p : Program) (n : List Literal) → Entailed p n → Settled p [] None n
entailed_settled p n e = HitsOnly-weaker p nothing (is_done p [] None) n (λ S q. absurd (false≢true q)) e

pub completion_settled : (p : Program) (slots : List (Option StoredNogood)) → IsSound p → KeepsCompletionAlone p slots → KeepsSettled p [] None (nogood_at slots)
completion_settled p slots sound alone id n q =
    let k = kept_nogood slots id n q in
    let of = alone.only id k.0 k.1 in
    let is : k.0 ≡ record { nogood = record { lits = of.1; base = base.Pure }; kind = kind.Forever; locked = false } =
    same_Some k.0 (record { nogood = record { lits = of.1; base = base.Pure }; kind = kind.Forever; locked = false }) of.4 in
    let entailed : Entailed p of.1 = subst (Entailed p) of.3 (at_each (Entailed p) (completion p) of.0 of.1 (completion_entailed p sound) of.2) in
    subst (λ (m : Nogood). Settled p [] None m.lits) (sym (ap (λ (x : StoredNogood). x.nogood) is) ∙ k.2) (entailed_settled p of.1 entailed)

pub adds_settled : (p : Program) (gives : Nogood → Type 0) (old new : List (Option StoredNogood)) → ((n : Nogood) → gives n → Settled p [] None n.lits) → Adds gives old new →
    KeepsSettled p [] None (nogood_at old) → KeepsSettled p [] None (nogood_at new)
adds_settled p gives old new sound adds settled id n q = cases (adds_each gives old new id n adds q)
  where
    cases : (nogood_at old id ≡ Some n) ⊎ gives n → Settled p [] None n.lits
    cases (inl e) = settled id n e
    cases (inr g) = sound n g

-- ---- the trail
beq_itself : (b : Bool) → beq b b ≡ true
beq_itself true = refl
beq_itself false = refl

module _ (p : Program) (slots : List (Option StoredNogood)) (lits decisions : List Literal) (es : List Entry)
    (ordered : IsOrdered (var_count p) es) (reasons : AreSettled p [] None es) (settled : KeepsSettled p [] None (nogood_at slots))
    (starts : AreStarts lits decisions es) (low : level es ≡ 0) where
  pub trail_follows : Follow p lits (assignment (var_count p) es)
  trail_follows S stable hit v b e =
      let l : Literal = record { var = v; truth = b } in
      let f = holds_found (var_count p) es l ordered (ap (λ o. agrees o l) e ∙ beq_itself b) in
      let hit_all : hits (values p S) (lits ++ take 0 decisions) ≡ true = ap (hits (values p S)) (append-nil lits) ∙ hit in
      beq_same (get_or (values p S) v false) b
      (subst (λ (m : Literal). is_true (values p S) m ≡ true) (f.2 blank)
      (trail_hit p [] None (var_count p) lits decisions es 0 S ordered reasons starts stable refl hit_all f.0 blank f.1
      (omega (arith, level_top es ordered.rising f.0 blank f.1, low))))

  pub violated_settles : (id : ℕ) → IsViolated (var_count p) slots es id → Settled p [] None lits
  violated_settles id v =
      subst (Settled p [] None) (append-nil lits)
      (way_settled p [] None (var_count p) lits decisions es 0 v.0.lits ordered reasons starts (settled id v.0 v.1) v.2
      (λ i d h. omega (arith, level_in_top es (get_or v.0.lits i d).var ordered.rising, low)))

pub none_is : (none some : Bool) → some ≡ not none → not some ≡ none
none_is true some e = ap not e
none_is false some e = ap not e

-- ---- what is kept true
pub prober_same : (p : Program) (t u : SearchView) → u.program ≡ t.program → u.bound ≡ t.bound → u.slots ≡ t.slots → IsProber p t → IsProber p u
prober_same p t u program bound slots h = record {
  program = h.program ∙ sym program;
  unbounded = bound ∙ h.unbounded;
  settled =
      subst (λ (q : Program). KeepsSettled q [] None (nogood_at u.slots)) (sym program)
      (subst (λ (xs : List (Option StoredNogood)). KeepsSettled t.program [] None (nogood_at xs)) (sym slots) h.settled);
}

pub prober_adds : (p : Program) (t u : SearchView) (gives : Nogood → Type 0) → u.program ≡ t.program → u.bound ≡ t.bound →
    ((n : Nogood) → gives n → IsUseful t.program [] t.bound n) → Adds gives t.slots u.slots →
    IsProber p t → IsProber p u
prober_adds p t u gives program bound useful adds h = record {
  program = h.program ∙ sym program;
  unbounded = bound ∙ h.unbounded;
  settled =
      subst (λ (q : Program). KeepsSettled q [] None (nogood_at u.slots)) (sym program)
      (adds_settled t.program gives t.slots u.slots
      (λ n g. subst (λ (b : Option (List ℤ)). Settled t.program [] b n.lits) h.unbounded (useful_settles t.program [] t.bound n (useful n g))) adds h.settled);
}

pub prober_begins : (p : Program) (t : SearchView) → IsSound p → t.program ≡ p → t.bound ≡ None → KeepsCompletionAlone p t.slots → IsProber p t
prober_begins p t sound program bound alone = record {
  program = sym program;
  unbounded = bound;
  settled = subst (λ (q : Program). KeepsSettled q [] None (nogood_at t.slots)) (sym program) (completion_settled p t.slots sound alone);
}

-- the reasons of the entries are settled
pub reasons_settled : (p : Program) (u : SearchView) (late : Nogood → Type 0) → ((n : Nogood) → late n → IsUseful u.program [] u.bound n) →
    IsProber p u → AreImpliedBy (IsAtHand late u.slots) u.entries →
    AreSettled u.program [] None u.entries
reasons_settled p u late useful h r = implied_weaker (IsAtHand late u.slots) (λ n. Settled u.program [] None n.lits) u.entries each r
  where
    each : (n : Nogood) → IsAtHand late u.slots n → Settled u.program [] None n.lits
    each n (inl k) = h.settled k.0 n k.1
    each n (inr l) = subst (λ (b : Option (List ℤ)). Settled u.program [] b n.lits) h.unbounded (useful_settles u.program [] u.bound n (useful n l))

pub followed : (p : Program) (u : SearchView) (lits : List Literal) (violated : Option ℕ) → IsProber p u → IsOrdered (var_count u.program) u.entries →
    AreSettled u.program [] None u.entries → AreStarts lits u.decisions u.entries →
    level u.entries ≡ 0 → IfSome violated (IsViolated (var_count u.program) u.slots u.entries) → Follows p u lits (is_none violated)
followed p u lits None h ordered reasons starts low v =
    subst (λ (q : Program). Follow q lits (values_of u)) (sym h.program) (trail_follows u.program u.slots lits u.decisions u.entries ordered reasons h.settled starts low)
followed p u lits (Some id) h ordered reasons starts low v =
    subst (λ (q : Program). Settled q [] None lits) (sym h.program) (violated_settles u.program u.slots lits u.decisions u.entries ordered reasons h.settled starts low id v)
