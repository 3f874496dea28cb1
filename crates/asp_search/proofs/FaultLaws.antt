-- The check's parts, of the set of a whole trail.
use Rattle.std.proofs.Common.{◌≡◌, ℕ, ◌<◌, Bool, true, false, not, List, ◌∷◌, [], suc, zero, length, get_or, Option, refl, sym, ap, ◌∙◌, subst, arith}
use Rattle.std.specs.List.{All, AllByRecursion}
use Rattle.std.proofs.lemmas.Bool.{false≢true, and_parts}
use Rattle.std.proofs.lemmas.Bool.Decides.{nat_tests}
use Rattle.asp_model.specs.declared.program.Program.{Program}
use Rattle.asp_model.specs.Sets.{Atoms, has, IsSubset}
use Rattle.asp_model.specs.Models.{atoms_of}
use Rattle.asp_vars.specs.Completion.{completion}
use Rattle.asp_vars.specs.Literals.{Literal, T, hits, holds_in, is_true}
use Rattle.asp_vars.specs.Numbering.{var_count, var_of_atom, values}
use Rattle.asp_vars.specs.Unfounded.{assigned, is_unfounded}
use Rattle.asp_vars.specs.declared.nogood.Nogood.{Nogood}
use Rattle.asp_found.specs.Verdicts.{IsBroken, HasUnfounded}
use Rattle.asp_found.proofs.RestLaws.{has-filtered, none_passes}
use Rattle.asp_stable.specs.Founding.{KeepsCompletion, GivesAtoms}
use Rattle.asp_loop.specs.LoopNogoods.{IsLoopNogood}
use Rattle.asp_trail.specs.declared.trail.Entry.{Entry}
use Rattle.asp_trail.specs.Entries.{assignment}
use Rattle.asp_trail.specs.Fixpoint.{is_violated, is_unit}
use Rattle.asp_trail_laws.specs.Fixpoint.{AreAtFixpoint}
use Rattle.asp_trail_laws.specs.Whole.{AreVars, IsWhole, truths, atoms_on}
use Rattle.asp_trail_laws.proofs.VarLaws.{completion_are_vars}
use Rattle.asp_trail_laws.proofs.WholeLaws.{whole_lit, whole_nogood}
use Rattle.asp_search_laws.specs.Faults.{IsFault}
use Rattle.asp_search_laws.proofs.FaultLaws.{whole_unfounded, broken_fault, loop_fault}

-- what stands in a list is in its set
pub has_nth : (S : Atoms) (i d : ℕ) → i < length S → has S (get_or S i d) ≡ true
has_nth [] i d h = absurd (omega arith)
has_nth (b ∷ S) zero d h = grind (arith, nat_tests)
has_nth (b ∷ S) (suc i) d h = grind (arith, nat_tests, has_nth S i d (omega arith))

not_true : (b : Bool) → not b ≡ true → b ≡ false
not_true true e = absurd (false≢true e)
not_true false e = refl

-- the code's assignment and set
module _ (p : Program) (es : List Entry) (w : IsWhole p (var_count p) es) (S : Atoms) (is : S ≡ atoms_on p (var_count p) es) where
  pub broken_by : (gives : Nogood → Type 0) (n : Nogood) → IsBroken p S n → IsFault p gives (var_count p) es n
  broken_by gives n b = broken_fault p es w gives n (subst (λ (T : Atoms). IsBroken p T n) is b)

  -- its atoms stand in the program
  pub unfounded_stand : (U : Atoms) → HasUnfounded p S U → All (λ a. has (atoms_of p) a ≡ true) U
  unfounded_stand U h i d k =
      let inside : has S (get_or U i d) ≡ true = h.within (get_or U i d) (has_nth U i d k) in
      (has-filtered (λ a. is_true (truths (assignment (var_count p) es)) (T (var_of_atom p a))) (atoms_of p) (get_or U i d) (subst (λ (T : Atoms). has T (get_or U i d) ≡ true) is inside)).0

  pub unfounded_here : (x : List (Option Bool)) (U : Atoms) → x ≡ assignment (var_count p) es → HasUnfounded p S U → is_unfounded p x U ≡ true
  unfounded_here x U e h =
      subst (λ (y : List (Option Bool)). is_unfounded p y U ≡ true) (sym e)
      (whole_unfounded p es w U (subst (λ (T : Atoms). is_unfounded p (assigned p T) U ≡ true) is h.unfounded))

  pub loop_by : (gives : Nogood → Type 0) (x : List (Option Bool)) (U : Atoms) (a : ℕ) (n : Nogood) → x ≡ assignment (var_count p) es → HasUnfounded p S U → has U a ≡ true → IsLoopNogood p x U a n →
      IsFault p gives (var_count p) es n
  loop_by gives x U a n e h in_it l =
      loop_fault p es w gives U a n (λ b k. subst (λ (T : Atoms). has T b ≡ true) is (h.within b k)) in_it (subst (λ (y : List (Option Bool)). IsLoopNogood p y U a n) e l)

  -- the set keeps the completion
  pub kept_by : KeepsCompletion p S
  kept_by = none_passes (hits (values p S)) (completion p) (along (completion p) w.fixpoint (completion_are_vars p))
    where
      along : (ns : List (List Literal)) → AreAtFixpoint (var_count p) ns es → AllByRecursion (AreVars (var_count p)) ns → AllByRecursion (λ n. hits (values p S) n ≡ false) ns
      along [] c a = tt
      along (n ∷ ns) c a = (
        ap (λ (T : Atoms). hits (values p T) n) is
            ∙ sym (whole_nogood p (var_count p) es w n a.0)
            ∙ not_true (is_violated (assignment (var_count p) es) n) (and_parts (not (is_violated (assignment (var_count p) es) n)) (not (is_unit (assignment (var_count p) es) n)) c.0).0,
        along ns c.1 a.1,
      )

  -- the assignment gives its atoms
  pub gives_by : (x : List (Option Bool)) → x ≡ assignment (var_count p) es → GivesAtoms p S x
  gives_by x e l v =
      let above = v.0 in let small = v.1 in
      ap (λ (y : List (Option Bool)). holds_in y l) e ∙ whole_lit p (var_count p) es w l (above, omega (arith, small)) ∙ ap (λ (T : Atoms). is_true (values p T) l) (sym is)

  -- and they stand in the program
  pub within_by : IsSubset S (atoms_of p)
  within_by a e = (has-filtered (λ b. is_true (truths (assignment (var_count p) es)) (T (var_of_atom p b))) (atoms_of p) a (subst (λ (U : Atoms). has U a ≡ true) is e)).0
