-- The values of a whole trail are those of the set of its true atoms.
use Rattle.std.proofs.Common.{◌≡◌, ℕ, suc, zero, ◌+◌, Bool, true, false, not, ◌&&◌, List, [], ◌∷◌, ◌++◌, length, fold, replicate, get_or, Option, Some, None, inl, inr, ◌⊎◌, refl, sym, ap, ◌∙◌, subst, arith}
use Rattle.std.specs.List.{AllByRecursion, list_any}
use Rattle.std.specs.Bool.{beq}
use Rattle.std.specs.Option.{is_some}
use Rattle.std.proofs.lemmas.Bool.{false≢true, and_parts, not-true, or_from}
use Rattle.std.proofs.lemmas.Grind.{common_steps}
use Rattle.std.proofs.lemmas.List.{length-map, length-set}
use Rattle.std.proofs.lemmas.List.Elements.{All-head, All-tail}
use Rattle.asp_model.specs.declared.program.Program.{Program}
use Rattle.asp_vars.specs.Literals.{Literal, has_literal, value_of, agrees, holds_in, is_true, hits}
use Rattle.asp_vars.specs.Numbering.{var_count, values}
use Rattle.asp_vars.specs.Completion.{completion}
use Rattle.asp_trail.specs.declared.trail.Entry.{Entry}
use Rattle.asp_trail.specs.Entries.{assign, assignment}
use Rattle.asp_trail.specs.Fixpoint.{is_violated, is_unit}
use Rattle.asp_trail.specs.Trails.{IsVar, IsOrdered}
use Rattle.asp_trail.proofs.EntryLaws.{fold_without, none_at}
use Rattle.asp_found.specs.Valuations.{IsValuation}
use Rattle.asp_found.proofs.ValuationLaws.{values_are}
use Rattle.asp_trail_laws.specs.Fixpoint.{AreAtFixpoint}
use Rattle.asp_trail_laws.specs.Starts.{nth_decision, AreStarts}
use Rattle.asp_trail_laws.specs.Whole.{AreVars, truth_of, truths, atoms_on, IsWhole}
use Rattle.asp_trail_laws.proofs.LitLaws.{all_pass, has_append, has_place}
use Rattle.asp_trail_laws.proofs.PlaceLaws.{stands_holds}
use Rattle.asp_trail_laws.proofs.VarLaws.{completion_are_vars}

-- ---- values
pub truth_at : (a : List (Option Bool)) (v : ℕ) → get_or (truths a) v false ≡ truth_of (value_of a v)
truth_at [] v = refl
truth_at (o ∷ a) zero = refl
truth_at (o ∷ a) (suc v) = truth_at a v

fold-length : (z : List (Option Bool)) (es : List Entry) → length (fold assign z es) ≡ length z
fold-length z [] = refl
fold-length z (e ∷ es) = fold-length (assign z e) es ∙ length-set z e.lit.var (Some e.lit.truth)

length-none : (n : ℕ) → (let o : Option Bool = None in length (replicate n o)) ≡ n
length-none n = grind (arith, common_steps)

assignment-length : (vars : ℕ) (es : List Entry) → length (assignment vars es) ≡ vars + 1
assignment-length vars es = fold-length (replicate (vars + 1) None) es ∙ length-none (vars + 1)

-- a literal that holds is true
pub holds_true : (a : List (Option Bool)) (l : Literal) → holds_in a l ≡ true → is_true (truths a) l ≡ true
holds_true a l h = ap (λ b. beq b l.truth) (truth_at a l.var) ∙ by_value (value_of a l.var) h
  where
    by_value : (v : Option Bool) → agrees v l ≡ true → beq (truth_of v) l.truth ≡ true
    by_value None q = absurd (false≢true q)
    by_value (Some b) q = q

-- with a value it holds exactly where it is true
set_true : (a : List (Option Bool)) (l : Literal) → is_some (value_of a l.var) ≡ true → holds_in a l ≡ is_true (truths a) l
set_true a l full = by_value (value_of a l.var) refl ∙ sym (ap (λ b. beq b l.truth) (truth_at a l.var))
  where
    by_value : (v : Option Bool) → v ≡ value_of a l.var → agrees (value_of a l.var) l ≡ beq (truth_of (value_of a l.var)) l.truth
    by_value None q = absurd (false≢true (ap is_some q ∙ full))
    by_value (Some b) q = subst (λ (v : Option Bool). agrees v l ≡ beq (truth_of v) l.truth) q refl

-- a value that is there is the truth
pub set_value : (a : List (Option Bool)) (v : ℕ) → is_some (value_of a v) ≡ true → value_of a v ≡ Some (get_or (truths a) v false)
set_value a v h = by_value (value_of a v) h ∙ ap (λ b. Some b) (sym (truth_at a v))
  where
    by_value : (o : Option Bool) → is_some o ≡ true → o ≡ Some (truth_of o)
    by_value None q = absurd (false≢true q)
    by_value (Some b) q = refl

zero_open : (vars : ℕ) (es : List Entry) → IsOrdered vars es → value_of (assignment vars es) 0 ≡ None
zero_open vars es o = fold_without (replicate (vars + 1) None) es 0 (λ i d h q. omega (arith, q, (o.within i d h).0)) ∙ none_at (vars + 1) 0

pub trail_valuation : (p : Program) (vars : ℕ) (es : List Entry) → vars ≡ var_count p → IsOrdered vars es → IsValuation p (truths (assignment vars es))
trail_valuation p vars es q o = record {
  size = omega (arith, length-map (assignment vars es) truth_of, assignment-length vars es, q);
  first = truth_at (assignment vars es) 0 ∙ ap truth_of (zero_open vars es o);
}

-- ---- whole trails
module _ (p : Program) (vars : ℕ) (es : List Entry) (w : IsWhole p vars es) where
  lit_true : (l : Literal) → IsVar vars l.var → holds_in (assignment vars es) l ≡ is_true (truths (assignment vars es)) l
  lit_true l v = set_true (assignment vars es) l (w.full l.var v)

  lits_true : (n : List Literal) → AreVars vars n → is_violated (assignment vars es) n ≡ hits (truths (assignment vars es)) n
  lits_true [] a = refl
  lits_true (l ∷ n) a =
      ap (λ b. b && is_violated (assignment vars es) n) (lit_true l (All-head (λ (k : Literal). IsVar vars k.var) l n a))
      ∙ ap (λ b. is_true (truths (assignment vars es)) l && b) (lits_true n (All-tail (λ (k : Literal). IsVar vars k.var) l n a))

  unhit : (ns : List (List Literal)) → AreAtFixpoint vars ns es → AllByRecursion (AreVars (var_count p)) ns → list_any (hits (truths (assignment vars es))) ns ≡ false
  unhit [] c a = refl
  unhit (n ∷ ns) c a =
      or_from (hits (truths (assignment vars es)) n) (list_any (hits (truths (assignment vars es))) ns)
      (sym (lits_true n (subst (λ (m : ℕ). AreVars m n) (sym w.counted) a.0))
      ∙ not-true (is_violated (assignment vars es) n) (and_parts (not (is_violated (assignment vars es) n)) (not (is_unit (assignment vars es) n)) c.0).0)
      (unhit ns c.1 a.1)

  pub whole_same : truths (assignment vars es) ≡ values p (atoms_on p vars es)
  whole_same = values_are p (truths (assignment vars es)) (trail_valuation p vars es w.counted w.ordered) (unhit (completion p) w.fixpoint (completion_are_vars p)) w.weights

  pub whole_lit : (l : Literal) → IsVar vars l.var → holds_in (assignment vars es) l ≡ is_true (values p (atoms_on p vars es)) l
  whole_lit l v = lit_true l v ∙ ap (λ x. is_true x l) whole_same

  pub whole_nogood : (n : List Literal) → AreVars vars n → is_violated (assignment vars es) n ≡ hits (values p (atoms_on p vars es)) n
  whole_nogood n a = lits_true n a ∙ ap (λ x. hits x n) whole_same

  pub whole_way : (cube decisions : List Literal) → AreStarts cube decisions es → hits (values p (atoms_on p vars es)) (cube ++ decisions) ≡ true
  whole_way cube decisions s =
      subst (λ (x : List Bool). hits x (cube ++ decisions) ≡ true) whole_same
      (all_pass (is_true (truths (assignment vars es))) (cube ++ decisions) (λ l h. holds_true (assignment vars es) l (each l (has_append cube decisions l h))))
    where
      each : (l : Literal) → (has_literal cube l ≡ true) ⊎ (has_literal decisions l ≡ true) → holds_in (assignment vars es) l ≡ true
      each l (inl h) = let t = s.cube_stands l h in stands_holds vars es l t.0 0 w.ordered t.1
      each l (inr h) =
          let f = has_place decisions l h in
          let b = s.decisions_stand f.0 f.1 in
          subst (λ (k : Literal). holds_in (assignment vars es) k ≡ true) (f.2 (record { var = 0; truth = false }))
          (stands_holds vars es (nth_decision decisions f.0) b.place (f.0 + 1) w.ordered b.stands)
