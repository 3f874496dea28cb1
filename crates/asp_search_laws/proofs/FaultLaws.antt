-- A nogood that the set of a whole trail hits.
use Rattle.std.proofs.Common.{◌≡◌, ℕ, zero, suc, ◌<◌, ◌≤◌, Bool, true, false, cond, not, ◌&&◌, ltb, leb, List, ◌∷◌, map, length, get_or, Option, Some, None, ℤ, pos, ◌+ℤ◌, int_lt, inl, inr, ◌⊎◌, refl, sym, ap, ap₂, ◌∙◌, subst, arith, [], ◌||◌}
use Rattle.std.specs.List.{list_all, list_any}
use Rattle.std.proofs.lemmas.Bool.{false≢true, and_parts, and_from, cases_lt}
use Rattle.std.proofs.lemmas.Bool.Decides.{nat_tests}
use Rattle.std.proofs.lemmas.List.{length-map}
use Rattle.std.proofs.lemmas.List.Elements.{All-cons, All-nil, All-head, All-tail}
use Rattle.asp_model.specs.declared.program.Body.{Body}
use Rattle.asp_model.specs.declared.program.Body.TheVariants as body
use Rattle.asp_model.specs.declared.program.Program.{Program}
use Rattle.asp_model.specs.declared.program.Rule.{Rule}
use Rattle.asp_model.specs.Sets.{Atoms, has, IsSubset}
use Rattle.asp_model.specs.Models.{atoms_of, rules_in_force, head_atoms}
use Rattle.asp_model.proofs.MemberLaws.{each_weaker}
use Rattle.asp_vars.specs.Literals.{Literal, T, complement, value_of, agrees, holds_in, is_true}
use Rattle.asp_vars.specs.Numbering.{normal, var_count, var_of_atom, var_of_form, named_or, names, literal_of_form, literal_of, values}
use Rattle.asp_vars.specs.Completion.{completion}
use Rattle.asp_vars.specs.Unfounded.{assigned, is_inside, is_false, outside_weight, needs, is_excused, is_unfounded}
use Rattle.asp_vars.specs.declared.nogood.Nogood.{Nogood}
use Rattle.asp_vars.proofs.CompletionLaws.{atom-true}
use Rattle.asp_vars.proofs.PlaceLaws.{atom-within}
use Rattle.asp_trail.specs.declared.trail.Entry.{Entry}
use Rattle.asp_trail.specs.Entries.{assignment}
use Rattle.asp_trail.specs.Fixpoint.{is_violated}
use Rattle.asp_trail.specs.Trails.{IsVar}
use Rattle.asp_trail.proofs.HoldLaws.{holds_found}
use Rattle.asp_found.specs.Verdicts.{IsListed, IsBroken}
use Rattle.asp_found.proofs.RestLaws.{none_passes, has-filtered}
use Rattle.asp_loop.specs.LoopNogoods.{IsLoopNogood}
use Rattle.asp_trail_laws.specs.Whole.{AreVars, IsWhole, truth_of, truths, atoms_on}
use Rattle.asp_trail_laws.proofs.PlaceLaws.{blank}
use Rattle.asp_trail_laws.proofs.VarLaws.{completion_are_vars}
use Rattle.asp_trail_laws.proofs.WholeLaws.{trail_valuation, set_value, whole_same, whole_lit, whole_nogood}
use Rattle.asp_search_laws.specs.Axioms.{IsAxiom}
use Rattle.asp_search_laws.specs.Faults.{IsFault}

-- ---- literals of variables, as a test
abbrev is_small : ℕ → Literal → Bool
is_small vars l = ltb 0 l.var && leb l.var vars

small_var : (vars : ℕ) (l : Literal) → is_small vars l ≡ true → IsVar vars l.var
small_var vars l h =
    let p = and_parts (ltb 0 l.var) (leb l.var vars) h in
    let low : ltb 0 l.var ≡ true = p.0 in
    let high : leb l.var vars ≡ true = p.1 in
    (grind (arith, nat_tests), grind (arith, nat_tests))

var_small : (vars : ℕ) (l : Literal) → IsVar vars l.var → is_small vars l ≡ true
var_small vars l v =
    let low : 0 < l.var = v.0 in
    let high : l.var ≤ vars = v.1 in
    and_from (ltb 0 l.var) (leb l.var vars) (grind (arith, nat_tests)) (grind (arith, nat_tests))

small_vars : (vars : ℕ) (n : List Literal) → list_all (is_small vars) n ≡ true → AreVars vars n
small_vars vars [] h = All-nil (λ (l : Literal). IsVar vars l.var)
small_vars vars (l ∷ n) h =
    let p = and_parts (is_small vars l) (list_all (is_small vars) n) h in
    All-cons (λ (k : Literal). IsVar vars k.var) l n (small_var vars l p.0) (small_vars vars n p.1)

vars_small : (vars : ℕ) (n : List Literal) → AreVars vars n → list_all (is_small vars) n ≡ true
vars_small vars [] a = refl
vars_small vars (l ∷ n) a =
    and_from (is_small vars l) (list_all (is_small vars) n) (var_small vars l (All-head (λ (k : Literal). IsVar vars k.var) l n a))
    (vars_small vars n (All-tail (λ (k : Literal). IsVar vars k.var) l n a))

listed_vars : (p : Program) (n : List Literal) → IsListed p n → AreVars (var_count p) n
listed_vars p n l = cases (list_all (is_small (var_count p)) n) refl
  where
    none : list_any (λ m. not (list_all (is_small (var_count p)) m)) (completion p) ≡ false
    none =
        none_passes (λ m. not (list_all (is_small (var_count p)) m)) (completion p)
        (each_weaker (AreVars (var_count p)) (λ m. not (list_all (is_small (var_count p)) m) ≡ false) (λ m a. ap not (vars_small (var_count p) m a)) (completion p) (completion_are_vars p))

    cases : (b : Bool) → b ≡ list_all (is_small (var_count p)) n → AreVars (var_count p) n
    cases true q = small_vars (var_count p) n (sym q)
    cases false q = absurd (false≢true (sym none ∙ l (λ m. not (list_all (is_small (var_count p)) m)) (ap not (sym q))))

-- ---- which literals hold says which sets are unfounded
named_positive : (atoms : Atoms) (v : ℕ) (defined : List ℕ) → 0 < v → 0 < named_or atoms v defined
named_positive atoms v [] h = h
named_positive atoms v (a ∷ more) h = omega arith

var_positive : (p : Program) (b : Body) → 0 < var_of_form p b
var_positive p b = named_positive (atoms_of p) _ (names p b) (omega arith)

form_positive : (p : Program) (b : Body) → 0 < (literal_of_form p b).var
form_positive p (body.All []) = var_positive p (body.All [])
form_positive p (body.All (l ∷ [])) = omega arith
form_positive p (body.All (l ∷ k ∷ ks)) = var_positive p (body.All (l ∷ k ∷ ks))
form_positive p (body.AtLeast bound items) = omega arith

module _ (p : Program) (U : Atoms) (x y : List (Option Bool)) (same : (l : Literal) → 0 < l.var → holds_in x l ≡ holds_in y l) where
  false_same : (l : ℤ) → is_false p x l ≡ is_false p y l
  false_same l = same (complement (literal_of p l)) (omega arith)

  weight_same : (items : List (ℤ × ℤ)) → outside_weight p x U items ≡ outside_weight p y U items
  weight_same [] = refl
  weight_same (item ∷ items) =
      ap₂ (λ (b : Bool) (w : ℤ). cond (b || is_inside U item.0) (pos 0) item.1 +ℤ w) (false_same item.0) (weight_same items)

  needs_same : (b : Body) → needs p x U b ≡ needs p y U b
  needs_same (body.All literals) = refl
  needs_same (body.AtLeast bound items) = ap (λ (w : ℤ). int_lt w bound) (weight_same items)

  excused_same : (b : Body) → is_excused p x U b ≡ is_excused p y U b
  excused_same b = ap₂ (λ (c d : Bool). c || d) (same (complement (literal_of_form p b)) (form_positive p b)) (needs_same b)

  rules_same : (rs : List Rule) → list_all (λ r. not (list_any (has U) (head_atoms r.head)) || is_excused p x U (normal r.body)) rs ≡ list_all
      (λ r. not (list_any (has U) (head_atoms r.head)) || is_excused p y U (normal r.body)) rs
  rules_same [] = refl
  rules_same (r ∷ rs) = ap₂ (λ (c d : Bool). (not (list_any (has U) (head_atoms r.head)) || c) && d) (excused_same (normal r.body)) (rules_same rs)

  pub unfounded_same : is_unfounded p x U ≡ is_unfounded p y U
  unfounded_same = ap (λ (b : Bool). ltb 0 (length U) && b) (rules_same (rules_in_force p))

-- ---- a whole trail's literals
past : {X : Type 0} → (xs : List X) (i : ℕ) (d : X) → length xs ≤ i → get_or xs i d ≡ d
past [] i d h = refl
past (x ∷ xs) zero d h = absurd (omega arith)
past (x ∷ xs) (suc i) d h = past xs i d (omega arith)

assigned_at : (vs : List Bool) (v : ℕ) → v < length vs → value_of (map (λ (b : Bool). Some b) vs) v ≡ Some (get_or vs v false)
assigned_at [] v h = absurd (omega arith)
assigned_at (b ∷ vs) zero h = refl
assigned_at (b ∷ vs) (suc v) h = assigned_at vs v (omega arith)

module _ (p : Program) (es : List Entry) (w : IsWhole p (var_count p) es) where
  value_same : (v : ℕ) → 0 < v → value_of (assignment (var_count p) es) v ≡ value_of (assigned p (atoms_on p (var_count p) es)) v
  value_same v low = cases (cases_lt (var_count p) v)
    where
      size : length (truths (assignment (var_count p) es)) ≡ suc (var_count p)
      size = (trail_valuation p (var_count p) es refl w.ordered).size

      cases : (var_count p < v) ⊎ (v ≤ var_count p) → value_of (assignment (var_count p) es) v ≡ value_of (assigned p (atoms_on p (var_count p) es)) v
      cases (inl h) =
          past (assignment (var_count p) es) v None (omega (arith, h, size, length-map (assignment (var_count p) es) truth_of))
          ∙ sym (past (assigned p (atoms_on p (var_count p) es)) v None
          (omega (
            arith,
            h,
            size,
            ap (length {A = Bool}) (whole_same p (var_count p) es w),
            length-map (values p (atoms_on p (var_count p) es)) (λ (b : Bool). Some b),
          )))
      cases (inr h) =
          set_value (assignment (var_count p) es) v (w.full v (low, h))
          ∙ (ap (λ (vs : List Bool). Some (get_or vs v false)) (whole_same p (var_count p) es w)
          ∙ sym (assigned_at (values p (atoms_on p (var_count p) es)) v (omega (arith, h, size, ap (length {A = Bool}) (whole_same p (var_count p) es w)))))

  pub whole_unfounded : (U : Atoms) → is_unfounded p (assigned p (atoms_on p (var_count p) es)) U ≡ true → is_unfounded p (assignment (var_count p) es) U ≡ true
  whole_unfounded U h =
      unfounded_same p U (assignment (var_count p) es) (assigned p (atoms_on p (var_count p) es)) (λ l low. ap (λ (o : Option Bool). agrees o l) (value_same l.var low)) ∙ h

  -- what holds is of a variable
  held_var : (l : Literal) → holds_in (assignment (var_count p) es) l ≡ true → IsVar (var_count p) l.var
  held_var l h =
      let f = holds_found (var_count p) es l w.ordered h in
      subst (λ (k : Literal). IsVar (var_count p) k.var) (f.2 blank) (w.ordered.within f.0 blank f.1)

  held_vars : (n : List Literal) → is_violated (assignment (var_count p) es) n ≡ true → AreVars (var_count p) n
  held_vars [] h = All-nil (λ (l : Literal). IsVar (var_count p) l.var)
  held_vars (l ∷ n) h =
      let q = and_parts (holds_in (assignment (var_count p) es) l) (is_violated (assignment (var_count p) es) n) h in
      All-cons (λ (k : Literal). IsVar (var_count p) k.var) l n (held_var l q.0) (held_vars n q.1)

  -- ---- the two faults
  pub broken_fault : (gives : Nogood → Type 0) (n : Nogood) → IsBroken p (atoms_on p (var_count p) es) n → IsFault p gives (var_count p) es n
  broken_fault gives n b =
      let within : AreVars (var_count p) n.lits = listed_vars p n.lits b.listed in
      record {
        pure = b.pure;
        entailed = b.entailed;
        why = IsAxiom.completion b.pure b.listed;
        within = within;
        violated = whole_nogood p (var_count p) es w n.lits within ∙ b.hit;
      }

  true_atom : (a : ℕ) → has (atoms_on p (var_count p) es) a ≡ true → holds_in (assignment (var_count p) es) (T (var_of_atom p a)) ≡ true
  true_atom a h =
      let stands : has (atoms_of p) a ≡ true = (has-filtered (λ b. is_true (truths (assignment (var_count p) es)) (T (var_of_atom p b))) (atoms_of p) a h).0 in
      whole_lit p (var_count p) es w (T (var_of_atom p a)) (omega arith, atom-within p a stands) ∙ (atom-true p (atoms_on p (var_count p) es) a stands ∙ h)

  pub loop_fault : (gives : Nogood → Type 0) (U : Atoms) (a : ℕ) (n : Nogood) → IsSubset U (atoms_on p (var_count p) es) → has U a ≡ true →
      IsLoopNogood p (assignment (var_count p) es) U a n → IsFault p gives (var_count p) es n
  loop_fault gives U a n sub has_a l =
      let violated : is_violated (assignment (var_count p) es) n.lits ≡ true =
      ap (is_violated (assignment (var_count p) es)) l.literals
      ∙ and_from (holds_in (assignment (var_count p) es) (T (var_of_atom p a))) (list_all (holds_in (assignment (var_count p) es)) l.rest)
      (true_atom a (sub a has_a)) l.hold in
      record {
        pure = l.pure;
        entailed = l.entailed;
        why = IsAxiom.loop (assignment (var_count p) es) U a l;
        within = held_vars n.lits violated;
        violated = violated;
      }
