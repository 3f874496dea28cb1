-- Values that hit no nogood of the completion and keep the weight bodies are those of their true atoms.
use Rattle.std.proofs.Common.{◌≡◌, ℕ, zero, suc, ◌+◌, ◌-◌, ◌<◌, Bool, true, false, not, ◌&&◌, List, [], ◌∷◌, map, filter, length, get_or, Some, refl, sym, ap, ◌∙◌, subst, arith, inl, inr, length-append}
use Rattle.std.specs.Prelude.{ℤ, pos, negsuc}
use Rattle.std.specs.List.{list_any, AllByRecursion}
use Rattle.std.specs.Bool.{beq}
use Rattle.std.proofs.lemmas.Bool.{cases_lt}
use Rattle.std.proofs.lemmas.List.{ext_get_or, length-map}
use Rattle.asp_model.specs.declared.program.Body.{Body}
use Rattle.asp_model.specs.declared.program.Body.TheVariants as body
use Rattle.asp_model.specs.declared.program.Head.TheVariants as head
use Rattle.asp_model.specs.declared.program.Program.{Program}
use Rattle.asp_model.specs.Sets.{Atoms, has, IsAscending, IsSubset}
use Rattle.asp_model.specs.Holding.{atom_of, holds, body_holds}
use Rattle.asp_model.specs.Models.{atoms_of, mentions, is_stable}
use Rattle.asp_model.specs.Sound.{IsSound}
use Rattle.asp_model.proofs.SetLaws.{IsAscending-set_of}
use Rattle.asp_model.proofs.MemberLaws.{each_weaker, HasAll-itself}
use Rattle.asp_vars.specs.Literals.{T, is_true, hits}
use Rattle.asp_vars.specs.Numbering.{body_eq, bodies_of, is_wide, is_nameless, names, is_apart, apart_bodies, var_count, var_of_atom, var_of_form, literal_of_form, literal_of, values, nth_atom}
use Rattle.asp_vars.specs.Completion.{body_nogoods, completion}
use Rattle.asp_vars.specs.Tabled.{Stands}
use Rattle.asp_vars.specs.Unfounded.{is_unfounded}
use Rattle.asp_vars.proofs.LiteralLaws.{and_left}
use Rattle.asp_vars.proofs.NumberingLaws.{value-atom, value-form}
use Rattle.asp_vars.proofs.HeldLaws.{literal_by-wide}
use Rattle.asp_vars.proofs.SupportLaws.{each-filter}
use Rattle.asp_vars.proofs.PlaceLaws.{at_each, var_of_nth_atom, var_of_nth_apart}
use Rattle.asp_vars.proofs.CompletionLaws.{Unhit, RulesUnhit, AreRead, all_unhit, normal_literal}
use Rattle.asp_vars.proofs.StandingLaws.{each_both, bodies_of-stand, bodies_of-themselves}
use Rattle.asp_loop.proofs.FoundedLaws.{has-filter}
use Rattle.asp_found.specs.Valuations.{IsValuation, true_atoms, KeepsWeights}
use Rattle.asp_found.proofs.CheckLaws.{no_unfounded_stable}

-- ---- literals
beq_true : (a : Bool) → beq a true ≡ a
beq_true true = refl
beq_true false = refl

beq_false : (a : Bool) → beq a false ≡ not a
beq_false true = refl
beq_false false = refl

and_true : (a : Bool) → (a && true) ≡ a
and_true true = refl
and_true false = refl

atom_value : (p : Program) (v : List Bool) (a : ℕ) → has (atoms_of p) a ≡ true → get_or v (var_of_atom p a) false ≡ has (true_atoms p v) a
atom_value p v a stands =
    let value : Bool = get_or v (var_of_atom p a) false in
    sym (has-filter (λ b. is_true v (T (var_of_atom p b))) (atoms_of p) a ∙ ap (λ b. beq value true && b) stands ∙ and_true (beq value true) ∙ beq_true value)

literal_value : (p : Program) (v : List Bool) (l : ℤ) → has (atoms_of p) (atom_of l) ≡ true → is_true v (literal_of p l) ≡ holds (true_atoms p v) l
literal_value p v (pos a) stands = beq_true (get_or v (var_of_atom p a) false) ∙ atom_value p v a stands
literal_value p v (negsuc a) stands = beq_false (get_or v (var_of_atom p (suc a)) false) ∙ ap not (atom_value p v (suc a) stands)

-- ---- bodies
-- the value of a body's variable, if it isn't one literal
wide_value : (p : Program) (v : List Bool) (b : Body) → is_wide b ≡ true → is_true v (literal_of_form p b) ≡ get_or v (var_of_form p b) false
wide_value p v b wide = ap (is_true v) (literal_by-wide (atoms_of p) (var_of_form p b) b wide) ∙ beq_true (get_or v (var_of_form p b) false)

literals_read : (p : Program) (v : List Bool) (ls : List ℤ) → AllByRecursion (λ l. has (atoms_of p) (atom_of l) ≡ true) ls → AreRead p v (true_atoms p v) ls
literals_read p v ls stand = each_weaker (λ l. has (atoms_of p) (atom_of l) ≡ true) (λ l. is_true v (literal_of p l) ≡ holds (true_atoms p v) l) (literal_value p v) ls stand

form_value : (p : Program) (v : List Bool) (b : Body) → is_wide b ≡ true → RulesUnhit p v → KeepsWeights p v →
    list_any (body_eq b) (bodies_of p) ≡ true → Stands (atoms_of p) b → Unhit v (body_nogoods p b) →
    get_or v (var_of_form p b) false ≡ body_holds (true_atoms p v) b
form_value p v (body.All ls) wide rules keeps listed stand unhit = sym (wide_value p v (body.All ls) wide) ∙ normal_literal p v (true_atoms p v) ls wide (literals_read p v ls stand) rules unhit
form_value p v (body.AtLeast bound items) wide rules keeps listed stand unhit = sym (beq_true (get_or v (var_of_form p (body.AtLeast bound items)) false)) ∙ keeps bound items listed

-- ---- all values
values-length : (p : Program) (S : Atoms) → length (values p S) ≡ suc (var_count p)
values-length p S =
    let whole = length-append (map (has S) (atoms_of p)) (map (body_holds S) (apart_bodies p)) in
    let atoms = length-map (atoms_of p) (has S) in
    let bodies = length-map (apart_bodies p) (body_holds S) in
    omega (arith, whole, atoms, bodies)

pub values_are : (p : Program) (v : List Bool) → IsValuation p v → list_any (hits v) (completion p) ≡ false → KeepsWeights p v → v ≡ values p (true_atoms p v)
values_are p v is e keeps = ext_get_or false v (values p (true_atoms p v)) (is.size ∙ sym (values-length p (true_atoms p v))) (λ i lt. let size = is.size in at i (omega (arith, lt, size)))
  where
    atom_at : (i : ℕ) → i < length (atoms_of p) → get_or v (suc i) false ≡ get_or (values p (true_atoms p v)) (suc i) false
    atom_at i lt =
        let a : ℕ = nth_atom p i in
        let stands : has (atoms_of p) a ≡ true = at_each (λ b. has (atoms_of p) b ≡ true) (atoms_of p) i 0 (HasAll-itself (atoms_of p)) lt in
        subst (λ (n : ℕ). get_or v n false ≡ get_or (values p (true_atoms p v)) n false) (var_of_nth_atom p i lt)
        (atom_value p v a stands ∙ sym (value-atom p (true_atoms p v) a stands))

    body_at : (j : ℕ) → j < length (apart_bodies p) → get_or v (suc (length (atoms_of p) + j)) false ≡ get_or (values p (true_atoms p v)) (suc (length (atoms_of p) + j)) false
    body_at j lt =
        let Is : Body → Type 0 = λ b. ((list_any (body_eq b) (bodies_of p) ≡ true) × Stands (atoms_of p) b) × Unhit v (body_nogoods p b) in
        let b : Body = get_or (apart_bodies p) j (body.All []) in
        let all : AllByRecursion Is (bodies_of p) =
        each_both (λ b. (list_any (body_eq b) (bodies_of p) ≡ true) × Stands (atoms_of p) b) (λ b. Unhit v (body_nogoods p b)) (bodies_of p)
        (each_both (λ b. list_any (body_eq b) (bodies_of p) ≡ true) (Stands (atoms_of p)) (bodies_of p) (bodies_of-themselves p) (bodies_of-stand p)) (all_unhit p v e).0 in
        let is : Is b × (is_apart p b ≡ true) = at_each (λ c. Is c × (is_apart p c ≡ true)) (apart_bodies p) j (body.All []) (each-filter Is (is_apart p) (bodies_of p) all) lt in
        let listed : list_any (body_eq b) (bodies_of p) ≡ true = is.0.0.0 in
        subst (λ (n : ℕ). get_or v n false ≡ get_or (values p (true_atoms p v)) n false) (var_of_nth_apart p j lt)
        (form_value p v b (and_left (is_wide b) (is_nameless (names p b)) is.1) (all_unhit p v e).1 keeps listed is.0.0.1 is.0.1 ∙ sym (value-form p (true_atoms p v) b is.1 listed))

    at : (i : ℕ) → i < suc (var_count p) → get_or v i false ≡ get_or (values p (true_atoms p v)) i false
    at zero lt = is.first
    at (suc i) lt = elim (cases_lt i (length (atoms_of p))) [
      | inl below ↦ atom_at i below
      | inr above ↦
          let place : length (atoms_of p) + (i - length (atoms_of p)) ≡ i = omega (arith, above) in
          subst (λ (n : ℕ). get_or v (suc n) false ≡ get_or (values p (true_atoms p v)) (suc n) false) place (body_at (i - length (atoms_of p)) (omega (arith, above, lt)))
    ]

-- a part of an ascending list ascends
part-above : (q : ℕ → Bool) (a : ℕ) (S : Atoms) → AllByRecursion (λ b. a < b) S → AllByRecursion (λ b. a < b) (filter q S)
part-above q a [] h = tt
part-above q a (b ∷ S) h = cases (q b) refl (part-above q a S h.1)
  where
    cases : (t : Bool) → t ≡ q b → AllByRecursion (λ c. a < c) (filter q S) → AllByRecursion (λ c. a < c) (filter q (b ∷ S))
    cases true e rest = rw (← e) (h.0, rest)
    cases false e rest = rw (← e) rest

IsAscending-filter : (q : ℕ → Bool) (S : Atoms) → IsAscending S → IsAscending (filter q S)
IsAscending-filter q [] h = tt
IsAscending-filter q (a ∷ S) h = cases (q a) refl (IsAscending-filter q S h.1)
  where
    cases : (t : Bool) → t ≡ q a → IsAscending (filter q S) → IsAscending (filter q (a ∷ S))
    cases true e rest = rw (← e) (part-above q a S h.0, rest)
    cases false e rest = rw (← e) rest

pub values_stable : (p : Program) (v : List Bool) → IsSound p → IsValuation p v → list_any (hits v) (completion p) ≡ false → KeepsWeights p v →
    ((U : Atoms) → IsSubset U (true_atoms p v) → is_unfounded p (map (λ b. Some b) v) U ≡ false) → is_stable p (true_atoms p v) ≡ true
values_stable p v sound is e keeps none =
    let S : Atoms = true_atoms p v in
    let same : v ≡ values p S = values_are p v is e keeps in
    no_unfounded_stable p S sound (IsAscending-filter (λ a. is_true v (T (var_of_atom p a))) (atoms_of p) (IsAscending-set_of (mentions p)))
    (subst (λ (w : List Bool). list_any (hits w) (completion p) ≡ false) same e)
    (λ U sub. subst (λ (w : List Bool). is_unfounded p (map (λ b. Some b) w) U ≡ false) same (none U sub))
