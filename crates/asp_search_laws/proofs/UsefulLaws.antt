-- What is learnt from nogoods that count for a search counts for it.
use Rattle.std.proofs.Common.{◌≡◌, Bool, true, false, cond, List, ◌∷◌, Option, inl, inr, sym, subst, []}
use Rattle.std.specs.Prelude.{ℕ, ℤ}
use Rattle.std.specs.List.{All}
use Rattle.std.proofs.lemmas.List.Elements.{All-head, All-tail, All-weaker}
use Rattle.asp_model.specs.declared.program.Program.{Program}
use Rattle.asp_model.specs.Sets.{Atoms}
use Rattle.asp_model.specs.Costs.{betters}
use Rattle.asp_vars.specs.Entailment.{IsGood, Settled}
use Rattle.asp_vars.specs.Resolution.{joined, smaller, is_bound_within, CanJoin}
use Rattle.asp_vars.specs.declared.nogood.Base.{Base}
use Rattle.asp_vars.specs.declared.nogood.Base.TheVariants as base
use Rattle.asp_vars.specs.declared.nogood.Nogood.{Nogood}
use Rattle.asp_trail.specs.declared.trail.Entry.{Entry}
use Rattle.asp_trail.specs.Reasons.{AreImpliedBy}
use Rattle.asp_trail.specs.Trails.{IsOrdered}
use Rattle.asp_trail.proofs.ReasonLaws.{implied_weaker}
use Rattle.asp_trail_laws.specs.Settling.{AreSettled}
use Rattle.asp_analyze.specs.Learning.{Used, IsReached, CanJoinAll, base_after}
use Rattle.asp_analyze.proofs.LearnLaws.{reached_good}
use Rattle.asp_store.specs.declared.stored_nogood.StoredNogood.{StoredNogood}
use Rattle.asp_propagate.specs.Late.{IsAtHand}
use Rattle.asp_propagate.specs.Useful.{Counts, IsUseful}
use Rattle.asp_propagate.proofs.UsefulLaws.{useful_settles}
use Rattle.asp_search_laws.specs.Keeping.{AreUseful}

-- ---- bases that count
smaller_within : (bound : Option (List ℤ)) (c d : List ℤ) → is_bound_within bound c ≡ true → is_bound_within bound d ≡ true → is_bound_within bound (smaller c d) ≡ true
smaller_within bound c d x y = cases (betters d c)
  where
    cases : (b : Bool) → is_bound_within bound (cond b d c) ≡ true
    cases true = y
    cases false = x

-- they can be joined, and what they join to counts
join_counts : (bound : Option (List ℤ)) (b c : Base) → Counts bound b → Counts bound c → CanJoin bound b c × Counts bound (joined b c)
join_counts bound base.Pure base.Pure x y = (tt, tt)
join_counts bound base.Pure (base.Below d) x y = (tt, y)
join_counts bound base.Pure base.Local x y = (tt, tt)
join_counts bound (base.Below c) base.Pure x y = (tt, x)
join_counts bound (base.Below c) (base.Below d) x y = (tt, smaller_within bound c d x y)
join_counts bound (base.Below c) base.Local x y = (x, tt)
join_counts bound base.Local base.Pure x y = (tt, tt)
join_counts bound base.Local (base.Below d) x y = (y, tt)
join_counts bound base.Local base.Local x y = (tt, tt)

pub join_all : (bound : Option (List ℤ)) (b : Base) (used : List Used) → Counts bound b → All (λ u. Counts bound u.nogood.base) used →
    CanJoinAll bound b used × Counts bound (base_after b used)
join_all bound b [] x a = (tt, x)
join_all bound b (u ∷ used) x a =
    let j = join_counts bound b u.nogood.base x (All-head (λ (v : Used). Counts bound v.nogood.base) u used a) in
    let rest = join_all bound (joined b u.nogood.base) used j.1 (All-tail (λ (v : Used). Counts bound v.nogood.base) u used a) in
    ((j.0, rest.0), rest.1)

-- ---- learning
pub learnt_useful : (p : Program) (known : List Atoms) (bound : Option (List ℤ)) (vars : ℕ) (es : List Entry) (from to : Nogood) (used : List Used) →
    IsOrdered vars es → IsReached es from used to → IsUseful p known bound from → All (λ u. IsUseful p known bound u.nogood) used → IsUseful p known bound to
learnt_useful p known bound vars es from to used o reached first all =
    let join = join_all bound from.base used first.counts (All-weaker (λ u. IsUseful p known bound u.nogood) (λ u. Counts bound u.nogood.base) (λ u v. v.counts) used all) in
    record {
      good = reached_good p known bound vars es from to used o reached join.0 first.good
          (All-weaker (λ u. IsUseful p known bound u.nogood) (λ u. IsGood p known bound u.nogood) (λ u v. v.good) used all);
      counts = subst (Counts bound) (sym reached.base) join.1;
    }

-- what is at hand counts, and the reasons of entries do
pub at_hand_useful : (p : Program) (known : List Atoms) (bound : Option (List ℤ)) (gives : Nogood → Type 0) (slots : List (Option StoredNogood)) → AreUseful p known bound slots →
    ((n : Nogood) → gives n → IsUseful p known bound n) → (n : Nogood) → IsAtHand gives slots n → IsUseful p known bound n
at_hand_useful p known bound gives slots useful given n (inl k) = useful k.0 n k.1
at_hand_useful p known bound gives slots useful given n (inr w) = given n w

pub reasons_settled : (p : Program) (known : List Atoms) (bound : Option (List ℤ)) (late : Nogood → Type 0) (slots : List (Option StoredNogood)) (es : List Entry) → AreUseful p known bound slots →
    ((n : Nogood) → late n → IsUseful p known bound n) → AreImpliedBy (IsAtHand late slots) es → AreSettled p known bound es
reasons_settled p known bound late slots es useful given r =
    implied_weaker (IsAtHand late slots) (λ n. Settled p known bound n.lits) es (λ n h. useful_settles p known bound n (at_hand_useful p known bound late slots useful given n h)) r
