-- What every state keeps, where its trail changes.
use Rattle.std.proofs.Common.{◌≡◌, ℕ, ◌+◌, Bool, true, false, List, [], ◌∷◌, ◌++◌, length, take, Option, Some, None, sym, ap, ◌∙◌, subst, append_assoc}
use Rattle.std.specs.List.{All}
use Rattle.std.proofs.lemmas.List.{append-nil}
use Rattle.std.proofs.Math.Seq.{take-nil}
use Rattle.asp_model.specs.declared.program.Program.{Program}
use Rattle.asp_vars.specs.Literals.{Literal}
use Rattle.asp_vars.specs.Numbering.{var_count}
use Rattle.asp_vars.specs.Completion.{completion}
use Rattle.asp_trail.specs.declared.trail.Entry.{Entry}
use Rattle.asp_trail.specs.Entries.{level, cut}
use Rattle.asp_trail.specs.Trails.{IsOrdered}
use Rattle.asp_store.specs.declared.stored_nogood.StoredNogood.{StoredNogood}
use Rattle.asp_store.specs.Fitting.{IsImpliedAt}
use Rattle.asp_order.specs.Heaps.{Ranking}
use Rattle.asp_order.specs.Waiting.{HasVars, AreWaiting, IsFuller}
use Rattle.asp_order.proofs.WaitingLaws.{waiting_more}
use Rattle.asp_trail_laws.specs.Starts.{AreImplied}
use Rattle.asp_trail_laws.specs.Fixpoint.{AreAtFixpoint}
use Rattle.asp_trail_laws.proofs.StartLaws.{starts_imply, starts_decide, starts_cut}
use Rattle.asp_trail_laws.proofs.FixpointLaws.{fixpoint_imply, fixpoint_push, fixpoint_cut}
use Rattle.asp_state.specs.SearchStates.{IsBegun, IsEntered, IsSearchState, KeepsCompletion}

-- ---- under a cube
pub begun_of : (p : Program) (cube : Option (List Literal)) (clashing : Bool) (q decisions : List Literal) (es : List Entry) → cube ≡ Some q → clashing ≡ false →
    IsEntered p cube clashing decisions es → IsBegun p q decisions es
begun_of p cube clashing q decisions es c k e =
    subst (λ (b : Bool). IsEntered p (Some q) b decisions es) k (subst (λ (x : Option (List Literal)). IsEntered p x clashing decisions es) c e)

pub entered_of : (p : Program) (cube : Option (List Literal)) (clashing : Bool) (q decisions : List Literal) (es : List Entry) → cube ≡ Some q → clashing ≡ false →
    IsBegun p q decisions es → IsEntered p cube clashing decisions es
entered_of p cube clashing q decisions es c k e =
    subst (λ (x : Option (List Literal)). IsEntered p x clashing decisions es) (sym c) (subst (λ (b : Bool). IsEntered p (Some q) b decisions es) (sym k) e)

-- ---- entries that are implied
pub implied_form : (b : ℕ) (fs : List Entry) → All (IsImpliedAt b) fs → AreImplied b fs
implied_form b fs a i d h = let x = a i d h in (x.level, x.implied)

waiting_all : (vars : ℕ) (es fs : List Entry) (r : Ranking) → AreWaiting vars es r → AreWaiting vars (es ++ fs) r
waiting_all vars es [] r a = subst (λ (xs : List Entry). AreWaiting vars xs r) (sym (append-nil es)) a
waiting_all vars es (f ∷ fs) r a =
    subst (λ (xs : List Entry). AreWaiting vars xs r) (append_assoc es (f ∷ []) fs) (waiting_all vars (es ++ f ∷ []) fs r (waiting_more vars es f r a))

pub track_implied : (p : Program) (cube : Option (List Literal)) (clashing : Bool) (q decisions : List Literal) (es fs : List Entry) (old new : List (Option StoredNogood)) (r : Ranking) →
    cube ≡ Some q → clashing ≡ false → AreImplied (level es) fs → KeepsCompletion p new → IsSearchState p cube clashing decisions es old r →
    IsSearchState p cube clashing decisions (es ++ fs) new r
track_implied p cube clashing q decisions es fs old new r c k a kept t =
    let b = begun_of p cube clashing q decisions es c k t.entered in
    record {
      few = t.few;
      entered = entered_of p cube clashing q decisions (es ++ fs) c k (record {
        starts = starts_imply q decisions es fs a b.starts;
        fixpoint = fixpoint_imply (var_count p) (completion p) es fs (level es) a b.fixpoint;
      });
      ranked = t.ranked;
      waiting = waiting_all (var_count p) es fs r t.waiting;
      completed = kept;
    }

pub track_kept : (p : Program) (cube : Option (List Literal)) (clashing : Bool) (decisions : List Literal) (es : List Entry) (old new : List (Option StoredNogood)) (r : Ranking) →
    KeepsCompletion p new → IsSearchState p cube clashing decisions es old r → IsSearchState p cube clashing decisions es new r
track_kept p cube clashing decisions es old new r kept t = record { few = t.few; entered = t.entered; ranked = t.ranked; waiting = t.waiting; completed = kept }

-- ---- a decision
pub track_decided : (p : Program) (cube : Option (List Literal)) (clashing : Bool) (q decisions : List Literal) (es : List Entry) (slots : List (Option StoredNogood)) (old new : Ranking)
    (l : Literal) (e : Entry) → cube ≡ Some q → clashing ≡ false → e.lit ≡ l → e.level ≡ level es + 1 → e.reason ≡ None → IsOrdered (var_count p) es →
    AreAtFixpoint (var_count p) (completion p) es → HasVars (var_count p) new → AreWaiting (var_count p) (es ++ e ∷ []) new →
    IsSearchState p cube clashing decisions es slots old → IsSearchState p cube clashing (decisions ++ l ∷ []) (es ++ e ∷ []) slots new
track_decided p cube clashing q decisions es slots old new l e c k ql qb qr o fixpoint has waits t =
    let b = begun_of p cube clashing q decisions es c k t.entered in
    record {
      few = t.few;
      entered = entered_of p cube clashing q (decisions ++ l ∷ []) (es ++ e ∷ []) c k (record {
        starts = starts_decide (var_count p) q decisions es l e ql qb qr o b.starts;
        fixpoint = fixpoint_push (var_count p) (completion p) es e (λ none high. fixpoint) b.fixpoint;
      });
      ranked = has;
      waiting = waits;
      completed = t.completed;
    }

-- ---- an undo
entered_cut : (p : Program) (cube : Option (List Literal)) (clashing : Bool) (decisions : List Literal) (es : List Entry) (k : ℕ) → IsOrdered (var_count p) es →
    IsEntered p cube clashing decisions es → IsEntered p cube clashing (take k decisions) (cut k es)
entered_cut p None clashing decisions es k o e = (e.0, ap (take k) e.1 ∙ take-nil k, ap (cut k) e.2)
entered_cut p (Some q) true decisions es k o e = (e.0, ap (take k) e.1 ∙ take-nil k)
entered_cut p (Some q) false decisions es k o e = record {
  starts = starts_cut (var_count p) q decisions es k o e.starts;
  fixpoint = fixpoint_cut (var_count p) (completion p) es k o.rising e.fixpoint;
}

pub has_vars : (n : ℕ) (old new : Ranking) → new ≡ record old { members = new.members } → HasVars n old → HasVars n new
has_vars n old new q h = ap (λ (r : Ranking). length r.activities) q ∙ h

pub track_cut : (p : Program) (cube : Option (List Literal)) (clashing : Bool) (decisions : List Literal) (es : List Entry) (slots : List (Option StoredNogood)) (old new : Ranking) (k : ℕ) →
    IsOrdered (var_count p) es → IsFuller old new → AreWaiting (var_count p) (cut k es) new → IsSearchState p cube clashing decisions es slots old →
    IsSearchState p cube clashing (take k decisions) (cut k es) slots new
track_cut p cube clashing decisions es slots old new k o f waits t = record {
  few = t.few;
  entered = entered_cut p cube clashing decisions es k o t.entered;
  ranked = has_vars (var_count p) old new f.same t.ranked;
  waiting = waits;
  completed = t.completed;
}
