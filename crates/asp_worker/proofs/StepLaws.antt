-- A worker's search after a step on its path, by the step's answer.
use Rattle.std.proofs.Common.{◌≡◌, ◌⊎◌, ℕ, ◌-◌, Bool, List, Option, sym, ap, ◌∙◌, subst, inl, inr, arith}
use Rattle.std.specs.Prelude.{ℤ}
use Rattle.asp_model.specs.declared.program.Program.{Program}
use Rattle.asp_model.specs.declared.results.Mode.{Mode}
use Rattle.asp_model.specs.Asked.{reasoning_of}
use Rattle.asp_model.specs.Consequences.{used_up}
use Rattle.asp_model.specs.Sets.{Atoms}
use Rattle.asp_vars.specs.Entailment.{Settled}
use Rattle.asp_vars.specs.Literals.{Literal}
use Rattle.asp_vars.specs.Paid.{Units, Clash}
use Rattle.asp_vars.specs.declared.nogood.Nogood.{Nogood}
use Rattle.asp_path.specs.Trees.{cube_of}
use Rattle.asp_book.specs.Calls.{Knows, seen_board}
use Rattle.asp_search_laws.specs.Searching.{Searching, used}
use Rattle.asp_search_laws.specs.Steps.{HasSameTask, Burns, IsStep, IsFailure, Steps}
use Rattle.asp_search_laws.specs.declared.step.Step.{Step}
use Rattle.asp_search_laws.specs.declared.step.Step.TheVariants as step
use Rattle.asp_crew_laws.proofs.WorkLaws.{work-burnt}
use Rattle.asp_worker.specs.Working.{GoesOn, IsDone, IsOn, IsOff, Finds, Pays}
use Rattle.asp_worker.proofs.GoingLaws.{owes-of, goes-same}

-- what is settled for a search is settled for one of the same task
pub settled-same : (s t : Searching) → HasSameTask s t → (p : List Literal) → Settled s.program (used s) s.bound p → Settled t.program (used t) t.bound p
settled-same s t same p settled =
    subst (λ (a : Program). Settled a (used_up (reasoning_of t.mode) a t.known) t.bound p) (sym same.program)
    (subst (λ (m : Mode). Settled s.program (used_up (reasoning_of m) s.program t.known) t.bound p) (sym same.mode)
    (subst (λ (k : List Atoms). Settled s.program (used_up (reasoning_of s.mode) s.program k) t.bound p) (sym same.known)
    (subst (λ (b : Option (List ℤ)). Settled s.program (used s) b p) (sym same.bound) settled)))

module _ (m : Mode) (v : Knows) (s t : Searching) (f : Units) (leaf : ℕ) (on : IsOn m v s f leaf) where
  -- the same task, and the same units
  pub on-same : HasSameTask s t → IsOn m v t f leaf
  on-same same = record {
    going = goes-same m v s t f same.program same.mode same.known same.bound on.going;
    works = record { held = on.works.held; entered = same.cube ∙ on.works.entered };
  }

  -- a unit was burnt
  pub goes-burnt : (q : List Literal) (g : Units) → Burns s q f g → GoesOn m v s g
  goes-burnt q g b = subst (λ (u : Units). GoesOn m v s u) (sym b.paid) (record {
    program = on.going.program;
    mode_is = on.going.mode_is;
    work = work-burnt (seen_board v) v.number m s.known s.bound f b.clash on.going.work b.left (b.conflict.reasoning ∙ ap reasoning_of on.going.mode_is) b.conflict.known b.conflict.bound;
    few = omega (arith, on.going.few);
  })

  pub on-burnt : (q : List Literal) (g : Units) → HasSameTask s t → Burns s q f g → IsOn m v t g leaf
  on-burnt q g same b = record {
    going = goes-same m v s t g same.program same.mode same.known same.bound (goes-burnt q g b);
    works = record { held = on.works.held; entered = same.cube ∙ on.works.entered };
  }

  module _ (gives : Nogood → Type 0) (silent : List (Option Bool) → Type 0) (g : Units) (r : Step) (h : IsStep gives silent s t f g r) where
    at : (x : Step) → r ≡ x → Steps gives silent s t (cube_of (seen_board v).nodes leaf) f g x
    at x e = subst (λ (y : Step). Steps gives silent s t (cube_of (seen_board v).nodes leaf) f g y) e (h (cube_of (seen_board v).nodes leaf) on.works.entered)

    pub on-decided : r ≡ step.Decided → IsOn m v t g leaf
    on-decided e = let d = at step.Decided e in subst (λ (u : Units). IsOn m v t u leaf) (sym d.fuel) (on-same d.same)

    pub on-restarted : r ≡ step.Restarted → IsOn m v t g leaf
    on-restarted e = let d = at step.Restarted e in subst (λ (u : Units). IsOn m v t u leaf) (sym d.fuel) (on-same d.same)

    pub on-learnt : r ≡ step.Learnt → IsOn m v t g leaf
    on-learnt e = let d = at step.Learnt e in on-burnt (cube_of (seen_board v).nodes leaf) g d.same d.burns

    pub on-stopped : (x : Clash) → r ≡ step.NoFuel x → IsOn m v t g leaf
    on-stopped x e = let d = at (step.NoFuel x) e in subst (λ (u : Units). IsOn m v t u leaf) (sym d.fuel) (on-same d.same)

    pub none-left : (x : Clash) → r ≡ step.NoFuel x → g.left ≡ 0
    none-left x e = let d = at (step.NoFuel x) e in ap (λ (u : Units). u.left) d.fuel ∙ d.none

    pub on-closed : (n : Nogood) → r ≡ step.Closed n → IsOn m v t g leaf
    on-closed n e = let d = at (step.Closed n) e in subst (λ (u : Units). IsOn m v t u leaf) (sym d.fuel) (on-same d.same)

    pub done-closed : (n : Nogood) → r ≡ step.Closed n → IsDone t (cube_of (seen_board v).nodes leaf) n
    done-closed n e = let d = at (step.Closed n) e in (d.within, settled-same s t d.same n.lits d.settled)

    pub finds-answer : (S : Atoms) → r ≡ step.Answer S → Finds m v s t g leaf S
    finds-answer S e =
        let d = at (step.Answer S) e in
        record {
          on = subst (λ (u : Units). IsOn m v s u leaf) (sym d.fuel) on;
          program = d.program;
          mode_is = d.mode;
          cube = d.cube;
          stable = d.stable;
          hit = d.hit;
          new = d.new;
          cheaper = d.cheaper;
          records = d.records;
        }

  -- ---- memory was wanting
  pub off-paid : (g : Units) → Pays s f g → IsOff v g leaf
  off-paid g h = here (h (cube_of (seen_board v).nodes leaf) on.works.entered)
    where
      here : (g ≡ f) ⊎ Burns s (cube_of (seen_board v).nodes leaf) f g → IsOff v g leaf
      here (inl e) = subst (λ (u : Units). IsOff v u leaf) (sym e) (record { held = on.works.held; units = owes-of on.going })
      here (inr b) = record { held = on.works.held; units = owes-of (goes-burnt (cube_of (seen_board v).nodes leaf) g b) }

-- ---- what a step pays
pub step-pays : (gives : Nogood → Type 0) (silent : List (Option Bool) → Type 0) (s t : Searching) (f g : Units) (r : Step) → IsStep gives silent s t f g r → Pays s f g
step-pays gives silent s t f g r h q e = here r (h q e)
  where
    here : (x : Step) → Steps gives silent s t q f g x → (g ≡ f) ⊎ Burns s q f g
    here step.Decided d = inl d.fuel
    here step.Learnt d = inr d.burns
    here (step.Answer S) d = inl d.fuel
    here (step.Closed n) d = inl d.fuel
    here (step.NoFuel x) d = inl d.fuel
    here step.Restarted d = inl d.fuel

pub failure-pays : (gives : Nogood → Type 0) (s t : Searching) (f g : Units) → IsFailure gives s t f g → Pays s f g
failure-pays gives s t f g h q e = (h q e).fuel
