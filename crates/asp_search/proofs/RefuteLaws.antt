-- No answer that is still to come has literals of which one is false by decisions that are among them.
use Rattle.std.proofs.Common.{◌≡◌, ℕ, Bool, true, false, not, List, [], ◌∷◌, ◌++◌, get_or, take, Option, Some, None, IsSome, ℤ, inl, inr, refl, sym, ap, ◌∙◌, subst, arith, ◌⊎◌}
use Rattle.std.proofs.lemmas.Bool.{false≢true, and_from, and_parts, or_left}
use Rattle.std.specs.List.{list_all}
use Rattle.asp_model.specs.declared.program.Program.{Program}
use Rattle.asp_model.specs.Sets.{Atoms}
use Rattle.asp_model.specs.Models.{is_stable}
use Rattle.asp_vars.specs.Entailment.{Settled, is_done}
use Rattle.asp_vars.specs.Conflicts.{has_all}
use Rattle.asp_vars.specs.Literals.{Literal, agrees, complement, has_literal, holds_in, is_true, hits, literal_eq}
use Rattle.asp_vars.specs.Numbering.{values, var_count}
use Rattle.asp_vars.proofs.LiteralLaws.{is_true-complement, hits-has}
use Rattle.asp_trail.specs.declared.trail.Entry.{Entry}
use Rattle.asp_trail.specs.Entries.{assignment, level_in}
use Rattle.asp_trail.specs.Trails.{IsOrdered}
use Rattle.asp_trail.proofs.HoldLaws.{holds_found}
use Rattle.asp_trail.proofs.FixpointLaws.{list_all_at}
use Rattle.asp_trail_laws.specs.Settling.{AreSettled}
use Rattle.asp_trail_laws.specs.Starts.{AreStarts}
use Rattle.asp_trail_laws.proofs.LitLaws.{all_pass, eq_itself, has_append, has_later, has_more}
use Rattle.asp_trail_laws.proofs.PlaceLaws.{blank, level_at}
use Rattle.asp_trail_laws.proofs.HitLaws.{trail_hit}
use Rattle.asp_search_laws.specs.Searching.{Searching, used}
use Rattle.asp_search.specs.Refuting.{IsFalseAmong, IsRefutation, are_first}

-- what agrees with a literal is a value
pub has_value : (o : Option Bool) (l : Literal) → agrees o l ≡ true → IsSome o
has_value None l h = absurd (false≢true h)
has_value (Some b) l h = refl

-- decisions among the literals are hit where the literals are
first_hit : (v : List Bool) (q decisions lits : List Literal) (k : ℕ) → are_first decisions k lits ≡ true → hits v (q ++ lits) ≡ true → hits v (q ++ take k decisions) ≡ true
first_hit v q decisions lits k first hit = all_pass (is_true v) (q ++ take k decisions) (λ l h. one l (has_append q (take k decisions) l h))
  where
    one : (l : Literal) → (has_literal q l ≡ true) ⊎ (has_literal (take k decisions) l ≡ true) → is_true v l ≡ true
    one l (inl h) = hits-has v (q ++ lits) l hit (has_more q lits l h)
    one l (inr h) = hits-has v (q ++ lits) l hit (has_later q lits l (list_all_at (has_literal lits) (take k decisions) l first h))

module _ (p : Program) (known : List Atoms) (bound : Option (List ℤ)) (q decisions : List Literal) (es : List Entry) (lits : List Literal) (k : ℕ)
    (o : IsOrdered (var_count p) es) (r : AreSettled p known bound es) (s : AreStarts q decisions es)
    (lit : Literal) (f : IsFalseAmong (var_count p) es lits lit k) (first : are_first decisions k lits ≡ true) where
  -- the false literal's complement is hit
  other_hit : (S : Atoms) → is_stable p S ≡ true → is_done p known bound S ≡ false → hits (values p S) (q ++ lits) ≡ true → is_true (values p S) (complement lit) ≡ true
  other_hit S stable open_ h =
      let l : Literal = complement lit in
      let g = holds_found (var_count p) es l o f.false_ in
      let level : level_in es l.var ≡ (get_or es g.0 blank).level = level_at (var_count p) es g.0 blank l o g.1 (g.2 blank) in
      subst (λ (m : Literal). is_true (values p S) m ≡ true) (g.2 blank)
      (trail_hit p known bound (var_count p) q decisions es k S o r s stable open_ (first_hit (values p S) q decisions lits k first h) g.0 blank g.1
      (omega (arith, level, f.level_is)))

  pub refuted : Settled p known bound (q ++ lits)
  refuted = record { excused = λ S stable h. cases S stable h (is_done p known bound S) refl }
    where
      cases : (S : Atoms) → is_stable p S ≡ true → hits (values p S) (q ++ lits) ≡ true → (b : Bool) → b ≡ is_done p known bound S → is_done p known bound S ≡ true
      cases S stable h true e = sym e
      cases S stable h false e =
          let holds = hits-has (values p S) (q ++ lits) lit h (has_later q lits lit f.has) in
          absurd (false≢true (sym (is_true-complement (values p S) lit ∙ ap not holds) ∙ other_hit S stable (sym e) h))

-- ---- what refutes them
last_has : (ds : List Literal) (l : Literal) → has_literal (ds ++ l ∷ []) l ≡ true
last_has ds l = has_later ds (l ∷ []) l (or_left (literal_eq l l) false (eq_itself l))

front_has : (ds : List Literal) (l : Literal) → list_all (has_literal (ds ++ l ∷ [])) ds ≡ true
front_has ds l = all_pass (has_literal (ds ++ l ∷ [])) ds (λ d h. has_more ds (l ∷ []) d h)

all_within : (lits ds : List Literal) (l : Literal) → list_all (has_literal lits) ds ≡ true → has_literal lits l ≡ true → has_all lits (ds ++ l ∷ []) ≡ true
all_within lits [] l h has = and_from (has_literal lits l) true has refl
all_within lits (d ∷ ds) l h has =
    let parts = and_parts (has_literal lits d) (list_all (has_literal lits) ds) h in
    and_from (has_literal lits d) (has_all lits (ds ++ l ∷ [])) parts.0 (all_within lits ds l parts.1 has)

-- of the trail that the code has in its hands
pub refutation_in : (s : Searching) (q decisions : List Literal) (es fs : List Entry) (lits : List Literal) (lit : Literal) (k : ℕ) →
    fs ≡ es → IsOrdered (var_count s.program) es → AreSettled s.program (used s) s.bound es → AreStarts q decisions es →
    IsFalseAmong (var_count s.program) fs lits lit k → are_first decisions k lits ≡ true → IsRefutation s q lits (take k decisions ++ lit ∷ [])
refutation_in s q decisions es fs lits lit k same o r starts f first =
    let n : List Literal = take k decisions ++ lit ∷ [] in
    let g : IsFalseAmong (var_count s.program) es n lit k = record {
      has = last_has (take k decisions) lit;
      false_ = subst (λ (x : List Entry). holds_in (assignment (var_count s.program) x) (complement lit) ≡ true) same f.false_;
      level_is = subst (λ (x : List Entry). k ≡ level_in x lit.var) same f.level_is;
    } in
    record {
      among = all_within lits (take k decisions) lit first f.has;
      settled = refuted s.program (used s) s.bound q decisions es n k o r starts lit g (front_has (take k decisions) lit);
    }
