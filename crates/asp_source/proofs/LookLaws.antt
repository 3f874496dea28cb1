-- What a look at a component finds.
use Rattle.std.proofs.Common.{◌≡◌, ℕ, zero, suc, ◌-◌, ◌<◌, Bool, true, false, not, ◌&&◌, ◌||◌, eqb, ltb, List, [], ◌∷◌, length, get_or, Option, refl, sym, ap, ◌∙◌, subst, arith, ◌⊎◌, inl, inr}
use Rattle.std.specs.Prelude.{All}
use Rattle.std.specs.List.{list_any, list_all, AllByRecursion}
use Rattle.std.proofs.lemmas.Bool.{false≢true, and_from, eqb-true, eq-eqb}
use Rattle.std.proofs.lemmas.Bool.Decides.{nat_tests}
use Rattle.std.proofs.lemmas.List.Elements.{All-head, All-tail}
use Rattle.asp_model.specs.declared.program.Rule.{Rule}
use Rattle.asp_model.specs.declared.program.Program.{Program}
use Rattle.asp_model.specs.Sets.{Atoms, has}
use Rattle.asp_model.specs.Models.{rules_in_force, atoms_of, head_atoms}
use Rattle.asp_vars.specs.Numbering.{normal, var_of_atom, nth_atom}
use Rattle.asp_vars.specs.Tabled.{IsAtomVar}
use Rattle.asp_vars.specs.Unfounded.{is_excused, is_unfounded}
use Rattle.asp_vars.proofs.PlaceLaws.{var_of_nth_atom}
use Rattle.asp_vars.proofs.StandingLaws.{Among, each_among}
use Rattle.asp_vars.proofs.SupportLaws.{some, either, or_left, or_right}
use Rattle.asp_scc.specs.Components.{Parts, component_of, Stands, IsLoop, IsAlone, AreComponents}
use Rattle.asp_loop.proofs.EntailedLaws.{any_of}
use Rattle.asp_loop.proofs.LoopLaws.{members, rule_excused}
use Rattle.asp_source.specs.Loops.{HasNone}

pub at_member : (P : ℕ → Type 0) (xs : List ℕ) (v : ℕ) → All P xs → has xs v ≡ true → P v
at_member P [] v h e = absurd (false≢true e)
at_member P (x ∷ xs) v h e = elim (either (eqb x v) (has xs v) e) [
  | inl q ↦ subst P (eqb-true x v q) (All-head P x xs h)
  | inr q ↦ at_member P xs v (All-tail P x xs h) q
]

same_component : (p : Program) (c : Parts) (a b : ℕ) → AreComponents p c → Stands p a → Stands p b → (a ≡ b) ⊎ IsLoop p a b → component_of p c a ≡ component_of p c b
same_component p c a b are sa sb joined = (are.same a b sa sb).1 joined

pub none_in_trivial : (p : Program) (c : Parts) (x : List (Option Bool)) (k : ℕ) → AreComponents p c → get_or c.trivial k false ≡ true → HasNone p c x k
none_in_trivial p c x k are trivial = λ U loop a member at.
    let alone : IsAlone p c a = (are.trivial a (loop.stand a member)).0 (ap (λ i. get_or c.trivial i false) at ∙ trivial) in
    loop.cyclic a member (record {
      only = λ b stands l. alone.only b stands (sym (same_component p c a b are (loop.stand a member) stands (inr l)));
      acyclic = alone.acyclic;
    })

-- ---- where some are left
pub is_at : (xs : List ℕ) (i : ℕ) → i < length xs → has xs (get_or xs i 0) ≡ true
is_at [] i lt = absurd (omega (arith, lt))
is_at (x ∷ xs) zero lt = or_left (eqb x x) (has xs x) (eq-eqb x x refl)
is_at (x ∷ xs) (suc i) lt = or_right (eqb x (get_or xs i 0)) (has xs (get_or xs i 0)) (is_at xs i (omega (arith, lt)))

pub var_at : (p : Program) (v : ℕ) → IsAtomVar p v → var_of_atom p (nth_atom p (v - 1)) ≡ v
var_at p v is = let small = is.1 in let some_ = is.0 in let e = var_of_nth_atom p (v - 1) (omega (arith, small, some_)) in omega (arith, e, some_)

pub atom_stands : (p : Program) (v : ℕ) → IsAtomVar p v → Stands p (nth_atom p (v - 1))
atom_stands p v is = let small = is.1 in let some_ = is.0 in is_at (atoms_of p) (v - 1) (omega (arith, small, some_))

pub none_of : (q : ℕ → Bool) (xs : List ℕ) (w : ℕ) → list_any q xs ≡ false → has xs w ≡ true → q w ≡ false
none_of q xs w e there = cases (q w) refl
  where
    cases : (b : Bool) → b ≡ q w → q w ≡ false
    cases false t = sym t
    cases true t = absurd (false≢true (sym e ∙ any_of q xs w there (sym t)))

pub not_false_true : (b : Bool) → not b ≡ false → b ≡ true
not_false_true true e = refl
not_false_true false e = absurd (false≢true (sym e))

pub and_false : (a b : Bool) → (a && b) ≡ false → a ≡ true → b ≡ false
and_false true b e f = e
and_false false b e f = absurd (false≢true f)

nonempty : (U : Atoms) (a : ℕ) → has U a ≡ true → ltb 0 (length U) ≡ true
nonempty [] a e = absurd (false≢true e)
nonempty (x ∷ U) a e = grind (arith, nat_tests)

all_pass : {X : Type 0} (q : X → Bool) (xs : List X) → AllByRecursion (λ x. q x ≡ true) xs → list_all q xs ≡ true
all_pass q [] h = refl
all_pass q (x ∷ xs) h = and_from (q x) (list_all q xs) h.0 (all_pass q xs h.1)

each_weaker : {X : Type 0} (P Q : X → Type 0) → ((x : X) → P x → Q x) → (xs : List X) → AllByRecursion P xs → AllByRecursion Q xs
each_weaker P Q f [] h = tt
each_weaker P Q f (x ∷ xs) h = (f x h.0, each_weaker P Q f xs h.1)

-- a set is unfounded if each rule for one of its atoms is excused
pub unfounded_from : (p : Program) (x : List (Option Bool)) (U : Atoms) (a : ℕ) → has U a ≡ true →
    ((r : Rule) (b : ℕ) → Among (rules_in_force p) r → has (head_atoms r.head) b ≡ true → has U b ≡ true → is_excused p x U (normal r.body) ≡ true) →
    is_unfounded p x U ≡ true
unfounded_from p x U a member each =
    and_from (ltb 0 (length U)) (list_all (rule_excused p x U) (rules_in_force p)) (nonempty U a member)
    (all_pass (rule_excused p x U) (rules_in_force p) (each_weaker (Among (rules_in_force p)) (λ r. rule_excused p x U r ≡ true)
    (λ r m. cases r m (list_any (has U) (head_atoms r.head)) refl) (rules_in_force p) (each_among (rules_in_force p))))
  where
    cases : (r : Rule) → Among (rules_in_force p) r → (t : Bool) → t ≡ list_any (has U) (head_atoms r.head) → rule_excused p x U r ≡ true
    cases r m false q = ap (λ t. not t || is_excused p x U (normal r.body)) (sym q)
    cases r m true q =
        let found = some (λ b. has (head_atoms r.head) b ≡ true) (has U) (head_atoms r.head) (members (head_atoms r.head)) (sym q) in
        or_right (not (list_any (has U) (head_atoms r.head))) (is_excused p x U (normal r.body)) (each r found.0 m found.1 found.2)
