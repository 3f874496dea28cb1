-- A worker's units may come back: its conflicts knew no more answers than were delivered, and no bound below the best's cost.
use Rattle.std.proofs.Common.{◌≡◌, ℕ, suc, ◌+◌, ◌≤◌, Bool, true, false, not, cond, ◌||◌, List, [], ◌∷◌, length, filter, Option, Some, None, refl, sym, ap, ◌∙◌, subst, arith}
use Rattle.std.specs.Prelude.{ℤ, IsTrue}
use Rattle.std.specs.List.{list_any, AllByRecursion}
use Rattle.std.specs.Cmp.Lexicographic.{same_text}
use Rattle.std.proofs.lemmas.Bool.{false≢true}
use Rattle.asp_model.specs.declared.program.Program.{Program}
use Rattle.asp_model.specs.Consequences.{used_up}
use Rattle.asp_model.proofs.ConsequenceLaws.{used-none}
use Rattle.asp_model.specs.Sets.{Atoms, same_set}
use Rattle.asp_model.specs.Costs.{cost, betters}
use Rattle.asp_vars.specs.Entailment.{costs, costs_bound, is_done}
use Rattle.asp_vars.proofs.ResolutionLaws.{betters_trans, betters_itself, not_true}
use Rattle.asp_core.specs.declared.event.Event.TheVariants as event
use Rattle.asp_core.specs.declared.goal.Goal.{Goal}
use Rattle.asp_core.specs.declared.goal.Goal.TheVariants as goal
use Rattle.asp_core.specs.Boards.{Board, IsBoundOf, IsBoundBy, bound_by, is_excused, showing_of, sought, used}
use Rattle.asp_core.specs.Events.{happens}
use Rattle.asp_crew_laws.specs.Agrees.{Agrees, AreApart}
use Rattle.asp_crew_laws.proofs.AgreeLaws.{none-recorded}

-- ---- as many different members as a list has

fewer : (S : Atoms) (D : List Atoms) → length (filter (λ T. not (same_set S T)) D) ≤ length D
fewer S [] = omega arith
fewer S (T ∷ D) = here (same_set S T) (fewer S D)
  where
    here : (x : Bool) → length (filter (λ T. not (same_set S T)) D) ≤ length D → length (cond (not x) (T ∷ filter (λ T. not (same_set S T)) D) (filter (λ T. not (same_set S T)) D)) ≤ suc (length D)
    here true h = omega (arith, h)
    here false h = omega (arith, h)

less : (S : Atoms) (D : List Atoms) → list_any (same_set S) D ≡ true → length (filter (λ T. not (same_set S T)) D) + 1 ≤ length D
less S [] h = absurd (false≢true h)
less S (T ∷ D) h = here (same_set S T) h (fewer S D) (less S D)
  where
    here : (x : Bool) → (x || list_any (same_set S) D) ≡ true → length (filter (λ T. not (same_set S T)) D) ≤ length D →
        (list_any (same_set S) D ≡ true → length (filter (λ T. not (same_set S T)) D) + 1 ≤ length D)
        → length (cond (not x) (T ∷ filter (λ T. not (same_set S T)) D) (filter (λ T. not (same_set S T)) D)) + 1 ≤ suc (length D)
    here true h f r = omega (arith, f)
    here false h f r = omega (arith, r h)

still : (S R : Atoms) (D : List Atoms) → same_set S R ≡ false → list_any (same_set R) D ≡ true → list_any (same_set R) (filter (λ T. not (same_set S T)) D) ≡ true
still S R [] ne h = absurd (false≢true h)
still S R (T ∷ D) ne h = here (same_set R T) refl (same_set S T) refl h (still S R D ne)
  where
    or-right : (a b : Bool) → b ≡ true → (a || b) ≡ true
    or-right true b h = refl
    or-right false b h = h

    here : (x : Bool) → x ≡ same_set R T → (y : Bool) → y ≡ same_set S T → (x || list_any (same_set R) D) ≡ true →
        (list_any (same_set R) D ≡ true → list_any (same_set R) (filter (λ T. not (same_set S T)) D) ≡ true)
        → list_any (same_set R) (cond (not y) (T ∷ filter (λ T. not (same_set S T)) D) (filter (λ T. not (same_set S T)) D)) ≡ true
    here true p true q h r = absurd (false≢true (sym ne ∙ ap (same_set S) (same_text R T p) ∙ sym q))
    here true p false q h r = ap (λ x. x || list_any (same_set R) (filter (λ T. not (same_set S T)) D)) (sym p)
    here false p true q h r = r h
    here false p false q h r = or-right (same_set R T) (list_any (same_set R) (filter (λ T. not (same_set S T)) D)) (r h)

all-still : (S : Atoms) (K D : List Atoms) → list_any (same_set S) K ≡ false → AllByRecursion (λ R. IsTrue (list_any (same_set R) D)) K →
    AllByRecursion (λ R. IsTrue (list_any (same_set R) (filter (λ T. not (same_set S T)) D))) K
all-still S [] D new h = tt
all-still S (R ∷ K) D new h = here (same_set S R) refl new (all-still S K D)
  where
    here : (x : Bool) → x ≡ same_set S R → (x || list_any (same_set S) K) ≡ false →
        (list_any (same_set S) K ≡ false → AllByRecursion (λ R. IsTrue (list_any (same_set R) D)) K →
        AllByRecursion (λ R. IsTrue (list_any (same_set R) (filter (λ T. not (same_set S T)) D))) K)
        → AllByRecursion (λ R. IsTrue (list_any (same_set R) (filter (λ T. not (same_set S T)) D))) (R ∷ K)
    here true q e r = absurd (false≢true (sym e))
    here false q e r = (still S R D (sym q) h.0, r e h.1)

pub pigeons : (K D : List Atoms) → AreApart K → AllByRecursion (λ R. IsTrue (list_any (same_set R) D)) K → length K ≤ length D
pigeons [] D apart h = omega arith
pigeons (S ∷ K) D apart h = omega (arith, pigeons K (filter (λ T. not (same_set S T)) D) apart.1 (all-still S K D apart.0 h.1), less S D h.0)

-- ---- in an optimisation
or-right : (a b : Bool) → b ≡ true → (a || b) ≡ true
or-right true b h = refl
or-right false b h = h

excused-by : (b : Board) (S T : Atoms) → b.task.goal ≡ goal.Opt → b.best ≡ Some S → costs b.task.program (cost b.task.program S) T ≡ true → is_excused b T ≡ true
excused-by b S T e best h =
    ap (λ (o : Option (List ℤ)). list_any (same_set T) (used b) || costs_bound b.task.program o T) (ap (λ g. bound_by g b.task.program b.best) e ∙ ap (bound_by goal.Opt b.task.program) best)
    ∙ or-right (list_any (same_set T) (used b)) (costs b.task.program (cost b.task.program S) T) h

bound-is : (b : Board) (S : Atoms) (c : List ℤ) → b.task.goal ≡ goal.Opt → b.best ≡ Some S → betters c (cost b.task.program S) ≡ false → IsBoundOf b c
bound-is b S c e best h = subst (λ g. IsBoundBy g b.task.program b.best c) (sym e) (subst (λ o. IsBoundBy goal.Opt b.task.program o c) (sym best) h)

-- what is done where nothing is known is too dear
none-known : (g : Goal) (p : Program) (c : List ℤ) (T : Atoms) → is_done p (used_up (sought g) p []) (Some c) T ≡ true → costs p c T ≡ true
none-known g p c T h = sym (ap (λ x. x || costs p c T) (used-none (sought g) p T)) ∙ h

-- the search's answer is the best now
pub agrees-improved : (b : Board) (s : ℕ) (S : Atoms) → b.task.goal ≡ goal.Opt → Agrees (happens b (event.Improve s S)) [] (Some (cost b.task.program S))
agrees-improved b s S e = record {
  excused = λ T h. excused-by (happens b (event.Improve s S)) S T e refl (none-known b.task.goal b.task.program (cost b.task.program S) T h);
  recorded = none-recorded (sought b.task.goal) b.task.program (showing_of b);
  bounded = bound-is (happens b (event.Improve s S)) S (cost b.task.program S) e refl (betters_itself (cost b.task.program S));
}

-- or a best that it doesn't better stands
pub agrees-unimproved : (b : Board) (S B : Atoms) → b.task.goal ≡ goal.Opt → b.best ≡ Some B →
    betters (cost b.task.program S) (cost b.task.program B) ≡ false → Agrees b [] (Some (cost b.task.program S))
agrees-unimproved b S B e best h = record {
  excused = λ T k. excused-by b B T e best
      (ap not (betters_trans (cost b.task.program T) (cost b.task.program S) (cost b.task.program B)
      (not_true (betters (cost b.task.program T) (cost b.task.program S)) (none-known b.task.goal b.task.program (cost b.task.program S) T k))
      h));
  recorded = none-recorded (sought b.task.goal) b.task.program (showing_of b);
  bounded = bound-is b B (cost b.task.program S) e best h;
}

-- a bound that isn't below one of the search's may have been its own
pub bound-later : (b : Board) (c d : List ℤ) → b.task.goal ≡ goal.Opt → IsBoundOf b c → betters d c ≡ false → IsBoundOf b d
bound-later b c d e h k = here b.task.goal refl b.best h
  where
    here : (g : Goal) → g ≡ b.task.goal → (o : Option Atoms) → IsBoundBy g b.task.program o c → IsBoundBy g b.task.program o d
    here goal.Enum q o h = absurd h
    here goal.Opt q None h = absurd h
    here goal.Opt q (Some B) h = betters_trans d c (cost b.task.program B) k h
    here (goal.Consequences r n) q o h = absurd h
    here (goal.Ties u) q o h = absurd (apart u (q ∙ e))
      where
        apart : (u : Option (List ℤ)) → goal.Ties u ≡ goal.Opt → ⊥
        apart u e = false≢true (ap is_opt e)
          where
            is_opt : Goal → Bool
            is_opt goal.Opt = true
            is_opt goal.Enum = false
            is_opt (goal.Ties c) = false
            is_opt (goal.Consequences r n) = false
