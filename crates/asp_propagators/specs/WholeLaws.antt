-- Where all variables have values and the propagators are silent, the weight bodies are kept, and the cost is below the bound.
use Rattle.std.proofs.Common.{◌≡◌, ℕ, suc, Bool, true, false, not, cond, ◌&&◌, ◌||◌, ltb, leb, List, [], ◌∷◌, map, length, get_or, Option, Some, None, ℤ, pos, negsuc, ◌+ℤ◌, ◌-ℤ◌, int_lt, int_le, refl, sym, ap, ◌∙◌, subst, le-add_right, zero-lt-suc}
use Rattle.std.specs.List.{AllByRecursion, list_all, list_any}
use Rattle.std.specs.Bool.{beq}
use Rattle.std.proofs.Math.Nat.{not-le_of_lt}
use Rattle.std.proofs.lemmas.Bool.{false≢true, false_from_ne_true, ltb-true, leb-true}
use Rattle.asp_model.specs.declared.program.Body.{Body}
use Rattle.asp_model.specs.declared.program.Body.TheVariants as body
use Rattle.asp_model.specs.declared.program.Program.{Program}
use Rattle.asp_model.specs.Sets.{Atoms, has}
use Rattle.asp_model.specs.Holding.{atom_of, holds, weight_of}
use Rattle.asp_model.specs.Models.{atoms_of}
use Rattle.asp_model.specs.Costs.{priorities, betters, cost_at, cost}
use Rattle.asp_model.specs.Sound.{IsSound}
use Rattle.asp_vars.specs.Literals.{Literal, T, complement, is_true, value_of, agrees, holds_in}
use Rattle.asp_vars.specs.Numbering.{body_eq, bodies_of, apart_bodies, var_count, var_of_atom, var_of_form, literal_of}
use Rattle.asp_vars.specs.Tabled.{Stands}
use Rattle.asp_vars.proofs.LiteralLaws.{and_left, and_right, is_true-complement}
use Rattle.asp_vars.proofs.NumberingLaws.{same_body}
use Rattle.asp_vars.proofs.PlaceLaws.{form-within}
use Rattle.asp_vars.proofs.StandingLaws.{bodies_of-stand}
use Rattle.asp_loop.proofs.FoundedLaws.{has-filter}
use Rattle.asp_trail.specs.Trails.{IsVar}
use Rattle.asp_found.specs.Valuations.{true_atoms, KeepsWeights}
use Rattle.asp_propagate.specs.Useful.{IsSmaller}
use Rattle.asp_propagate.specs.Whole.{IsWhole, KeepsAll}
use Rattle.asp_weight.specs.Silence.{weight_that, low_of, high_of, opens_pass, is_silent_as, is_silent_body, is_silent}
use Rattle.asp_bound.specs.Optimism.{items_at}
use Rattle.asp_bound.specs.Definition.{weight_that as weight_among, cost_of_at, cost_of}
use Rattle.asp_bound.specs.Silence.{is_below, stays, each_to, is_silent as is_bound_silent}
use Rattle.asp_bound.proofs.CostLaws.{AreStanding, items-stand, var-within, cost_at-items, optimistic-whole}
use Rattle.asp_propagators.specs.Saying.{AreSilent}

-- the values of all variables
abbrev AreValues : Program → List (Option Bool) → List Bool → Type 0
AreValues p a v = (x : ℕ) → IsVar (var_count p) x → value_of a x ≡ Some (get_or v x false)

-- ---- literals
beq_true : (a : Bool) → beq a true ≡ a
beq_true true = refl
beq_true false = refl

beq_false : (a : Bool) → beq a false ≡ not a
beq_false true = refl
beq_false false = refl

and_true : (a : Bool) → (a && true) ≡ a
and_true true = refl
and_true false = refl

not_not : (a : Bool) → not (not a) ≡ a
not_not true = refl
not_not false = refl

atom_value : (p : Program) (v : List Bool) (a : ℕ) → has (atoms_of p) a ≡ true → get_or v (var_of_atom p a) false ≡ has (true_atoms p v) a
atom_value p v a stands =
    let value : Bool = get_or v (var_of_atom p a) false in
    sym (has-filter (λ b. is_true v (T (var_of_atom p b))) (atoms_of p) a ∙ ap (λ b. beq value true && b) stands ∙ and_true (beq value true) ∙ beq_true value)

literal_value : (p : Program) (v : List Bool) (l : ℤ) → has (atoms_of p) (atom_of l) ≡ true → is_true v (literal_of p l) ≡ holds (true_atoms p v) l
literal_value p v (pos a) stands = beq_true (get_or v (var_of_atom p a) false) ∙ atom_value p v a stands
literal_value p v (negsuc a) stands = beq_false (get_or v (var_of_atom p (suc a)) false) ∙ ap not (atom_value p v (suc a) stands)

known : (p : Program) (a : List (Option Bool)) (v : List Bool) (l : ℤ) → AreValues p a v → has (atoms_of p) (atom_of l) ≡ true →
    value_of a (literal_of p l).var ≡ Some (get_or v (literal_of p l).var false)
known p a v l values stands = values (literal_of p l).var (var-within (atoms_of p) l (var_count p) stands (le-add_right (length (atoms_of p)) (length (apart_bodies p))))

holds-value : (p : Program) (a : List (Option Bool)) (v : List Bool) (l : ℤ) → AreValues p a v → has (atoms_of p) (atom_of l) ≡ true → holds_in a (literal_of p l) ≡ holds (true_atoms p v) l
holds-value p a v l values stands = ap (λ o. agrees o (literal_of p l)) (known p a v l values stands) ∙ literal_value p v l stands

not_false-value : (p : Program) (a : List (Option Bool)) (v : List Bool) (l : ℤ) → AreValues p a v → has (atoms_of p) (atom_of l) ≡ true →
    not (holds_in a (complement (literal_of p l))) ≡ holds (true_atoms p v) l
not_false-value p a v l values stands =
    ap (λ o. not (agrees o (complement (literal_of p l)))) (known p a v l values stands)
    ∙ (ap not (is_true-complement v (literal_of p l)) ∙ (not_not (is_true v (literal_of p l)) ∙ literal_value p v l stands))

-- ---- weights
weighs : (p : Program) (S : Atoms) (t : Literal → Bool) (items : List (ℤ × ℤ)) → ((l : ℤ) → has (atoms_of p) (atom_of l) ≡ true → t (literal_of p l) ≡ holds S l) →
    AllByRecursion (λ i. has (atoms_of p) (atom_of i.0) ≡ true) items → weight_that t p items ≡ weight_of S items
weighs p S t [] f h = refl
weighs p S t (i ∷ items) f h =
    ap (λ b. cond b i.1 (pos 0) +ℤ weight_that t p items) (f i.0 h.0) ∙ ap (λ z. cond (holds S i.0) i.1 (pos 0) +ℤ z) (weighs p S t items f h.1)

weighs_among : (p : Program) (v : List Bool) (items : List (ℤ × ℤ)) → AreStanding p items → weight_among (is_true v) (atoms_of p) items ≡ weight_of (true_atoms p v) items
weighs_among p v [] h = refl
weighs_among p v (i ∷ items) h =
    ap (λ b. cond b i.1 (pos 0) +ℤ weight_among (is_true v) (atoms_of p) items) (literal_value p v i.0 h.0)
    ∙ ap (λ z. cond (holds (true_atoms p v) i.0) i.1 (pos 0) +ℤ z) (weighs_among p v items h.1)

-- ---- weight bodies
not_reached : (a b : ℕ) → ltb a b ≡ true → leb b a ≡ false
not_reached a b e = false_from_ne_true (leb b a) (λ h. not-le_of_lt (ltb-true a b e) (leb-true b a h))

turned : (x y : ℤ) → int_lt x y ≡ true → int_le y x ≡ false
turned (pos a) (pos b) e = not_reached a b e
turned (pos a) (negsuc b) e = absurd (false≢true e)
turned (negsuc a) (pos b) e = refl
turned (negsuc a) (negsuc b) e = not_reached b a e

kept_as : (x : Bool) (p : Program) (a : List (Option Bool)) (bound : ℤ) (items : List (ℤ × ℤ)) (s : ℤ) → low_of p a items ≡ s → high_of p a items ≡ s →
    is_silent_as (Some x) p a bound items ≡ true → beq x true ≡ int_le bound s
kept_as true p a bound items s low high e =
    sym (ap (λ z. int_le bound z) (sym high) ∙ and_left (int_le bound (high_of p a items)) (opens_pass (λ w. int_le w (high_of p a items -ℤ bound)) p a items) e)
kept_as false p a bound items s low high e =
    sym (ap (λ z. int_le bound z) (sym low) ∙ turned (low_of p a items) bound (and_left (int_lt (low_of p a items) bound) (opens_pass (λ w. int_lt w (bound -ℤ low_of p a items)) p a items) e))

passed : {X : Type 0} (t : X → Bool) (xs : List X) → list_all t xs ≡ true → AllByRecursion (λ x. t x ≡ true) xs
passed t [] e = tt
passed t (x ∷ xs) e = (and_left (t x) (list_all t xs) e, passed t xs (and_right (t x) (list_all t xs) e))

at_listed : (P : Body → Type 0) (b : Body) (bs : List Body) → AllByRecursion P bs → list_any (body_eq b) bs ≡ true → P b
at_listed P b [] h e = absurd (false≢true e)
at_listed P b (c ∷ bs) h e = by_test (body_eq b c) refl e (at_listed P b bs h.1)
  where
    by_test : (t : Bool) → t ≡ body_eq b c → (t || list_any (body_eq b) bs) ≡ true → (list_any (body_eq b) bs ≡ true → P b) → P b
    by_test true q k f = subst P (sym (same_body b c (sym q))) h.0
    by_test false q k f = f k

weights-kept : (p : Program) (a : List (Option Bool)) (v : List Bool) → AreValues p a v → is_silent p a ≡ true → KeepsWeights p v
weights-kept p a v values silent bound items listed =
    let b : Body = body.AtLeast bound items in
    let x : ℕ = var_of_form p b in
    let S : Atoms = true_atoms p v in
    let stand : Stands (atoms_of p) b = at_listed (Stands (atoms_of p)) b (bodies_of p) (bodies_of-stand p) listed in
    let fixpoint : is_silent_body p a b ≡ true = at_listed (λ c. is_silent_body p a c ≡ true) b (bodies_of p) (passed (is_silent_body p a) (bodies_of p) silent) listed in
    let value : value_of a x ≡ Some (get_or v x false) = values x (zero-lt-suc _, form-within p b refl listed) in
    let said : is_silent_as (Some (get_or v x false)) p a bound items ≡ true = subst (λ (o : Option Bool). is_silent_as o p a bound items ≡ true) value fixpoint in
    kept_as (get_or v x false) p a bound items (weight_of S items)
    (weighs p S (holds_in a) items (λ l stands. holds-value p a v l values stands) stand)
    (weighs p S (λ l. not (holds_in a (complement l))) items (λ l stands. not_false-value p a v l values stands) stand)
    said

-- ---- the cost
cost_of_at-true : (p : Program) (v : List Bool) (q : ℤ) → cost_of_at p v q ≡ cost_at (true_atoms p v) p.minimize q
cost_of_at-true p v q = weighs_among p v (items_at p.minimize q) (items-stand p q) ∙ sym (cost_at-items (true_atoms p v) p.minimize q)

map-same : (f g : ℤ → ℤ) (qs : List ℤ) → ((q : ℤ) → f q ≡ g q) → map f qs ≡ map g qs
map-same f g [] h = refl
map-same f g (q ∷ qs) h =
    ap (λ z. z ∷ map f qs) (h q) ∙ ap (λ zs. g q ∷ zs) (map-same f g qs h)

cost_of-true : (p : Program) (v : List Bool) → cost_of p v ≡ cost p (true_atoms p v)
cost_of-true p v = map-same (cost_of_at p v) (cost_at (true_atoms p v) p.minimize) (priorities p.minimize) (cost_of_at-true p v)

cost-smaller : (p : Program) (bound : Option (List ℤ)) (a : List (Option Bool)) (v : List Bool) → AreValues p a v → is_bound_silent p bound a ≡ true → IsSmaller (cost p (true_atoms p v)) bound
cost-smaller p None a v values e = tt
cost-smaller p (Some c) a v values e =
    ap (λ (s : List ℤ). betters s c) (sym (optimistic-whole p a v (λ x i k. values x (i, k)) ∙ cost_of-true p v))
    ∙ and_left (is_below p a c) (each_to (stays p a c) (var_count p)) e

pub silent-keeps : (p : Program) (bound : Option (List ℤ)) (a : List (Option Bool)) (v : List Bool) → IsSound p → IsWhole p a v → AreSilent p bound a → KeepsAll p bound v
silent-keeps p bound a v sound w s = record {
  weights = weights-kept p a v w.values s.weights;
  cheaper = cost-smaller p bound a v w.values s.below;
}
