-- What is asked for learning, for a conflict and for a jump, and what they give.
use Rattle.std.proofs.Common.{◌≡◌, ℕ, ◌≤◌, true, List, Option, Some, None, IsSome, inl, inr, sym, ap, ◌∙◌, refl, subst}
use Rattle.std.specs.Prelude.{Result, Ok, Err}
use Rattle.std.specs.List.{All}
use Rattle.std.specs.Option.{unwrap_or}
use Rattle.std.specs.Result.{IfOk}
use Rattle.std.proofs.lemmas.List.Elements.{All-weaker}
use Rattle.asp_vars.specs.Literals.{Literal, holds_in}
use Rattle.asp_vars.specs.declared.nogood.Nogood.{Nogood}
use Rattle.asp_trail.specs.declared.trail.Entry.{Entry}
use Rattle.asp_trail.specs.Entries.{assignment}
use Rattle.asp_trail.specs.Fixpoint.{is_violated}
use Rattle.asp_trail.specs.Trails.{IsOrdered, IsVar}
use Rattle.asp_trail.proofs.FixpointLaws.{list_all_at}
use Rattle.asp_trail.proofs.HoldLaws.{holds_found}
use Rattle.asp_store.specs.declared.stored_nogood.StoredNogood.{StoredNogood}
use Rattle.asp_store.specs.Keeping.{nogood_at}
use Rattle.asp_store.specs.Walking.{IsViolated}
use Rattle.asp_propagate.specs.Late.{IsSaid, IsAtHand}
use Rattle.asp_analyze.specs.Learning.{Used, IsNamed, IsReached, AreContained, AreAssumed, IsLearned, nogood_of}
use Rattle.asp_analyze.specs.Way.{AreUpTo}
use Rattle.asp_analyze.specs.declared.learn.Learned.{Learned}
use Rattle.asp_trail_laws.proofs.LitLaws.{has_at}
use Rattle.asp_trail_laws.proofs.PlaceLaws.{blank}
use Rattle.asp_search_laws.specs.Explaining.{Explains}

pub has_some : {X : Type 0} → (o : Option X) (x : X) → o ≡ Some x → IsSome o
has_some None x q = absurd (none x q)
  where
    none : {X : Type 0} → (y : X) → None ≡ Some y → ⊥
    none y e = cc
has_some (Some y) x q = refl

-- ---- learning
pub up_to : (vars : ℕ) (es : List Entry) → IsOrdered vars es → AreUpTo vars es
up_to vars es o = All-weaker (λ (e : Entry). IsVar vars e.lit.var) (λ (e : Entry). e.lit.var ≤ vars) (λ e v. v.1) es o.within

pub contained : (vars : ℕ) (es : List Entry) (n : List Literal) → is_violated (assignment vars es) n ≡ true → AreContained vars es n
contained vars es n h i d k = list_all_at (holds_in (assignment vars es)) n _ h (has_at n i d k)

-- the violated nogood is the one that the store gives
pub violated_is : (vars : ℕ) (slots : List (Option StoredNogood)) (es : List Entry) (id : ℕ) (n : Nogood) → Some n ≡ nogood_at slots id →
    IsViolated vars slots es id → is_violated (assignment vars es) n.lits ≡ true
violated_is vars slots es id n q v =
    subst (λ (m : Nogood). is_violated (assignment vars es) m.lits ≡ true) (ap (λ (o : Option Nogood). unwrap_or o n) (sym v.1 ∙ sym q)) v.2

pub violated_at : (vars wars : ℕ) (slots tlots : List (Option StoredNogood)) (es fs : List Entry) (id : ℕ) → wars ≡ vars → tlots ≡ slots → fs ≡ es →
    IsViolated vars slots es id → IsViolated wars tlots fs id
violated_at vars wars slots tlots es fs id v s e h =
    subst (λ (n : ℕ). IsViolated n tlots fs id) (sym v)
    (subst (λ (xs : List (Option StoredNogood)). IsViolated vars xs fs id) (sym s) (subst (λ (xs : List Entry). IsViolated vars slots xs id) (sym e) h))

pub explained : {E : Type 0} (r : Result Learned E) (gives : Nogood → Type 0) (says : Literal → ℕ → Nogood → Type 0) (vars : ℕ)
    (slots : List (Option StoredNogood)) (es : List Entry) (id : ℕ) (from : Nogood) → Some from ≡ nogood_at slots id →
    is_violated (assignment vars es) from.lits ≡ true → ((l : Literal) (k : ℕ) (n : Nogood) → says l k n → IsAtHand gives slots n) →
    IfOk r (λ l. (used : List Used) × IsReached es from used (nogood_of l) × All (IsNamed says es) used) →
    IfOk r (λ l. AreContained vars es (nogood_of l).lits) → IfOk r (λ l. AreAssumed es (nogood_of l).lits) → IfOk r (IsLearned es from.lits) → IfOk r (Explains gives vars slots es id)
explained (Ok l) gives says vars slots es id from q v had reached contained assumed learned = record {
  from = from;
  stands = sym q;
  violated = v;
  used = reached.0;
  had = All-weaker (IsNamed says es) (λ u. IsAtHand gives slots u.nogood) (λ u w. had u.lit w.number u.nogood w.said) reached.0 reached.2;
  reached = reached.1;
  contained = contained;
  assumed = assumed;
  learned = learned;
}
explained (Err e) gives says vars slots es id from q v had reached contained assumed learned = tt

-- the same, where the trail and the store are the state's
pub explained_at : {E : Type 0} (r : Result Learned E) (gives : Nogood → Type 0) (says : Literal → ℕ → Nogood → Type 0) (vars wars : ℕ)
    (slots tlots : List (Option StoredNogood)) (es fs : List Entry) (id : ℕ) (from : Nogood) →
    wars ≡ vars → tlots ≡ slots → fs ≡ es → Some from ≡ nogood_at tlots id → IsViolated vars slots es id → ((l : Literal) (k : ℕ) (n : Nogood) → says l k n → IsAtHand gives slots n) →
    IfOk r (λ l. (used : List Used) × IsReached fs from used (nogood_of l) × All (IsNamed says fs) used) →
    IfOk r (λ l. AreContained wars fs (nogood_of l).lits) → IfOk r (λ l. AreAssumed fs (nogood_of l).lits) → IfOk r (IsLearned fs from.lits) → IfOk r (Explains gives vars slots es id)
explained_at r gives says vars wars slots tlots es fs id from v s e q violated had reached contained assumed learned =
    subst (λ (n : ℕ). IfOk r (Explains gives n slots es id)) v
    (subst (λ (xs : List (Option StoredNogood)). IfOk r (Explains gives wars xs es id)) s
    (subst (λ (xs : List Entry). IfOk r (Explains gives wars tlots xs id)) e
    (explained r gives says wars tlots fs id from q (violated_is wars tlots fs id from q (violated_at vars wars slots tlots es fs id v s e violated))
    (λ l k n w. subst (λ (xs : List (Option StoredNogood)). IsAtHand gives xs n) (sym s) (had l k n w)) reached contained assumed learned)))

-- what is said to be a reason is kept, or may be given
pub said_at_hand : (late gives : Nogood → Type 0) (slots tlots : List (Option StoredNogood)) (es : List Entry) → tlots ≡ slots →
    ((n : Nogood) → late n → gives n) → (l : Literal) (k : ℕ) (n : Nogood) →
    IsSaid late tlots es l k n → IsAtHand gives slots n
said_at_hand late gives slots tlots es e given l k n (inl w) = inl (k, sym (ap (λ (xs : List (Option StoredNogood)). nogood_at xs k) e) ∙ w.here)
said_at_hand late gives slots tlots es e given l k n (inr w) = inr (given n w.passes)

-- ---- a jump
pub contained_vars : (vars : ℕ) (es : List Entry) (n : List Literal) → IsOrdered vars es → AreContained vars es n → All (λ l. IsVar vars l.var) n
contained_vars vars es n o c i d h =
    let f = holds_found vars es _ o (c i d h) in
    subst (λ (l : Literal). IsVar vars l.var) (f.2 blank) (o.within f.0 blank f.1)
