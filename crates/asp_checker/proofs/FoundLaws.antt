-- Loops as the code reads them.
use Rattle.std.proofs.Common.{◌≡◌, ℕ, zero, suc, ◌+◌, ◌<◌, ◌≤◌, Bool, true, false, not, cond, ◌&&◌, ◌||◌, List, [], ◌∷◌, ◌++◌, map, length, take, get_or, refl, sym, ap, ◌∙◌, arith, Some, None}
use Rattle.std.specs.Prelude.{ℤ, pos, ◌+ℤ◌, int_lt, int_le, All}
use Rattle.std.specs.List.{list_any, list_all, AllByRecursion}
use Rattle.std.proofs.lemmas.Bool.{false≢true, and_parts, and_from}
use Rattle.std.proofs.lemmas.Int.{ints}
use Rattle.std.proofs.lemmas.List.{take_all, take_more}
use Rattle.std.proofs.lemmas.List.Elements.{All-from_recursion}
use Rattle.asp_model.specs.declared.program.Body.{Body}
use Rattle.asp_model.specs.declared.program.Body.TheVariants as body
use Rattle.asp_model.specs.declared.program.Rule.{Rule}
use Rattle.asp_model.specs.declared.program.Program.{Program}
use Rattle.asp_model.specs.Sets.{Atoms, has, set_of}
use Rattle.asp_model.specs.Holding.{atom_of, is_positive}
use Rattle.asp_model.specs.Models.{atoms_of, rules_in_force, head_atoms}
use Rattle.asp_model.proofs.MemberLaws.{each_passes}
use Rattle.asp_vars.specs.Literals.{Literal, complement, has_literal}
use Rattle.asp_vars.specs.Numbering.{normal, var_of_atom, literal_of_form, literal_of}
use Rattle.asp_vars.specs.Tabled.{bound_of, form_literals, form_weights, Stands}
use Rattle.asp_vars.specs.Unfounded.{is_inside}
use Rattle.asp_loop.specs.LoopNogoods.{weight_where, is_left}
use Rattle.asp_loop.specs.Weighing.{AreVarsOf, is_within, is_kept, weigh}
use Rattle.asp_loop.proofs.LoopLaws.{vars_are}
use Rattle.asp_checker.specs.Lines.{is_answered, IsLoop}
use Rattle.asp_checker.specs.Loops.{is_answered_rule, has_head}

-- ---- literals inside of the set
within_inside : (p : Program) (U vars : Atoms) (l : ℤ) → AreVarsOf p U vars → has (atoms_of p) (atom_of l) ≡ true → is_within vars (literal_of p l) ≡ is_inside U l
within_inside p U vars l h stands = ap (λ b. is_positive l && b) (h (atom_of l) stands)

any_within : (p : Program) (U vars : Atoms) (ls : List ℤ) → AreVarsOf p U vars → AllByRecursion (λ l. has (atoms_of p) (atom_of l) ≡ true) ls →
    list_any (is_within vars) (map (literal_of p) ls) ≡ list_any (is_inside U) ls
any_within p U vars [] h stand = refl
any_within p U vars (l ∷ ls) h stand =
    ap (λ b. b || list_any (is_within vars) (map (literal_of p) ls)) (within_inside p U vars l h stand.0)
    ∙ ap (λ b. is_inside U l || b) (any_within p U vars ls h stand.1)

kept_weight : (p : Program) (U vars : Atoms) (n : List Literal) (items : List (ℤ × ℤ)) → AreVarsOf p U vars →
    AllByRecursion (λ i. has (atoms_of p) (atom_of i.0) ≡ true) items →
    weigh (is_kept vars n) (map (λ i. literal_of p i.0) items) (map (λ i. i.1) items) ≡ weight_where (is_left p U n) items
kept_weight p U vars n [] h stand = refl
kept_weight p U vars n (i ∷ items) h stand =
    ap (λ b. cond (not b && not (has_literal n (complement (literal_of p i.0)))) i.1 (pos 0) +ℤ weigh (is_kept vars n)
    (map (λ i. literal_of p i.0) items) (map (λ i. i.1) items)) (within_inside p U vars i.0 h stand.0)
    ∙ ap (λ w. cond (is_left p U n i.0) i.1 (pos 0) +ℤ w) (kept_weight p U vars n items h stand.1)

less_not : (a c : ℤ) → not (int_le c a) ≡ int_lt a c
less_not a c = grind (arith, ints)

-- ---- a body
pub answered_weighted : (p : Program) (U vars : Atoms) (n : List Literal) (b : Body) (c : ℤ) → AreVarsOf p U vars → Stands (atoms_of p) b → bound_of b ≡ Some c →
    (has_literal n (complement (literal_of_form p b)) || not (int_le c (weigh (is_kept vars n) (form_literals p b) (form_weights b)))) ≡ is_answered p U n b
answered_weighted p U vars n (body.All literals) c h stand e = cc e
answered_weighted p U vars n (body.AtLeast bound items) c h stand e =
    let same : bound ≡ c = cc e in
    let f : Bool = has_literal n (complement (literal_of_form p (body.AtLeast bound items))) in
    ap (λ w. f || not (int_le c w)) (kept_weight p U vars n items h stand)
    ∙ ap (λ b. f || b) (less_not (weight_where (is_left p U n) items) c)
    ∙ ap (λ d. f || int_lt (weight_where (is_left p U n) items) d) (sym same)

pub answered_normal : (p : Program) (U vars : Atoms) (n : List Literal) (b : Body) → AreVarsOf p U vars → Stands (atoms_of p) b → bound_of b ≡ None →
    (has_literal n (complement (literal_of_form p b)) || list_any (is_within vars) (form_literals p b)) ≡ is_answered p U n b
answered_normal p U vars n (body.All literals) h stand e = ap (λ b. has_literal n (complement (literal_of_form p (body.All literals))) || b) (any_within p U vars literals h stand)
answered_normal p U vars n (body.AtLeast bound items) h stand e = cc e

-- ---- the whole
pub all_stand : (p : Program) (U : Atoms) → list_all (has (atoms_of p)) U ≡ true → All (λ a. has (atoms_of p) a ≡ true) U
all_stand p U e = All-from_recursion (λ a. has (atoms_of p) a ≡ true) U (each_passes (has (atoms_of p)) U e)

pub vars_stand : (p : Program) (U vars : Atoms) → list_all (has (atoms_of p)) U ≡ true → vars ≡ set_of (map (var_of_atom p) U) → AreVarsOf p U vars
vars_stand p U vars e is = vars_are p U vars (all_stand p U e) is

pub loop_yes : (p : Program) (U : Atoms) (n : List Literal) → list_all (has (atoms_of p)) U ≡ true → list_any (has_head p n) U ≡ true →
    list_all (is_answered_rule p U n) (rules_in_force p) ≡ true → IsLoop p U n
loop_yes p U n a h b = record { among = a; head = h; bodies = b }

pub loop_headless : (p : Program) (U : Atoms) (n : List Literal) → list_any (has_head p n) U ≡ false → IsLoop p U n → ⊥
loop_headless p U n e h = false≢true (sym e ∙ h.head)

pub loop_unanswered : (p : Program) (U : Atoms) (n : List Literal) → list_all (is_answered_rule p U n) (rules_in_force p) ≡ false → IsLoop p U n → ⊥
loop_unanswered p U n e h = false≢true (sym e ∙ h.bodies)

-- ---- the rules, one after another
pub outside_rule : (p : Program) (U : Atoms) (n : List Literal) (r : Rule) → list_any (has U) (head_atoms r.head) ≡ false → true ≡ is_answered_rule p U n r
outside_rule p U n r e = sym (ap (λ b. not b || is_answered p U n (normal r.body)) e)

pub inside_rule : (p : Program) (U : Atoms) (n : List Literal) (r : Rule) (a : Bool) → list_any (has U) (head_atoms r.head) ≡ true →
    a ≡ is_answered p U n (normal r.body) → a ≡ is_answered_rule p U n r
inside_rule p U n r a e f = f ∙ sym (ap (λ b. not b || is_answered p U n (normal r.body)) e)

pub all_not_at : {X : Type 0} (q : X → Bool) (xs : List X) (i : ℕ) (d : X) → i < length xs → q (get_or xs i d) ≡ false → false ≡ list_all q xs
all_not_at q [] i d lt e = absurd (omega arith)
all_not_at q (x ∷ xs) zero d lt e = sym (ap (λ b. b && list_all q xs) e)
all_not_at q (x ∷ xs) (suc i) d lt e = both (q x) (list_all q xs) (all_not_at q xs i d (omega arith) e)
  where
    both : (a b : Bool) → false ≡ b → false ≡ (a && b)
    both true b h = h
    both false b h = refl

pub all_more : {X : Type 0} (q : X → Bool) (xs : List X) (i : ℕ) (d : X) → i < length xs → list_all q (take i xs) ≡ true → q (get_or xs i d) ≡ true → list_all q (take (i + 1) xs) ≡ true
all_more {X = X} q xs i d lt before now = ap (list_all q) (take_more xs i d lt) ∙ push (take i xs) (get_or xs i d) before now
  where
    push : (ys : List X) (y : X) → list_all q ys ≡ true → q y ≡ true → list_all q (ys ++ y ∷ []) ≡ true
    push [] y a b = and_from (q y) true b refl
    push (z ∷ ys) y a b = let parts = and_parts (q z) (list_all q ys) a in and_from (q z) (list_all q (ys ++ y ∷ [])) parts.0 (push ys y parts.1 b)

pub all_whole : {X : Type 0} (q : X → Bool) (xs : List X) (i : ℕ) → length xs ≤ i → list_all q (take i xs) ≡ true → true ≡ list_all q xs
all_whole q xs i le e = sym (ap (list_all q) (sym (take_all i xs le)) ∙ e)

-- ---- a body that isn't false in the nogood
pub answered_false : (p : Program) (U : Atoms) (n : List Literal) (b : Body) → has_literal n (complement (literal_of_form p b)) ≡ true → true ≡ is_answered p U n b
answered_false p U n (body.All literals) e = sym (ap (λ t. t || list_any (is_inside U) literals) e)
answered_false p U n (body.AtLeast bound items) e = sym (ap (λ t. t || int_lt (weight_where (is_left p U n) items) bound) e)

pub open_weighted : (p : Program) (U vars : Atoms) (n : List Literal) (b : Body) (c : ℤ) → AreVarsOf p U vars → Stands (atoms_of p) b →
    bound_of b ≡ Some c → has_literal n (complement (literal_of_form p b)) ≡ false →
    not (int_le c (weigh (is_kept vars n) (form_literals p b) (form_weights b))) ≡ is_answered p U n b
open_weighted p U vars n b c h stand e f = sym (ap (λ t. t || not (int_le c (weigh (is_kept vars n) (form_literals p b) (form_weights b)))) f) ∙ answered_weighted p U vars n b c h stand e

pub open_normal : (p : Program) (U vars : Atoms) (n : List Literal) (b : Body) → AreVarsOf p U vars → Stands (atoms_of p) b → bound_of b ≡ None →
    has_literal n (complement (literal_of_form p b)) ≡ false →
    list_any (is_within vars) (form_literals p b) ≡ is_answered p U n b
open_normal p U vars n b h stand e f = sym (ap (λ t. t || list_any (is_within vars) (form_literals p b)) f) ∙ answered_normal p U vars n b h stand e
