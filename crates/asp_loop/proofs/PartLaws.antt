-- What a body adds, from what the walk over its literals finds.
use Rattle.std.proofs.Common.{◌≡◌, ℕ, Bool, true, false, not, cond, ◌&&◌, ◌||◌, List, [], ◌∷◌, ◌++◌, map, Option, Some, None, refl, sym, ap, ◌∙◌, subst, arith, inl, inr}
use Rattle.std.specs.Prelude.{ℤ, pos, ◌+ℤ◌, ◌-ℤ◌, ◌≤ℤ◌, ◌<ℤ◌, ◌<◌, int_lt, is_some, MatchBool}
use Rattle.std.specs.List.{list_any, list_all, AllByRecursion}
use Rattle.std.proofs.lemmas.Bool.{false≢true, and_parts, and_from}
use Rattle.std.proofs.lemmas.Int.{ints}
use Rattle.asp_model.specs.declared.program.Body.{Body}
use Rattle.asp_model.specs.declared.program.Body.TheVariants as body
use Rattle.asp_model.specs.declared.program.Program.{Program}
use Rattle.asp_model.specs.Sets.{Atoms, has}
use Rattle.asp_model.specs.Holding.{atom_of, is_positive}
use Rattle.asp_model.specs.Models.{atoms_of}
use Rattle.asp_vars.specs.Literals.{Literal, complement, literal_eq, has_literal, holds_in}
use Rattle.asp_vars.specs.Numbering.{literal_of_form, literal_of}
use Rattle.asp_vars.specs.Tabled.{bound_of, form_literals, form_weights, Stands}
use Rattle.asp_vars.specs.Unfounded.{is_false, is_inside, outside_weight, is_excused}
use Rattle.asp_vars.proofs.LiteralLaws.{same_literal}
use Rattle.asp_vars.proofs.SupportLaws.{some, or_left, or_right}
use Rattle.asp_loop.specs.LoopNogoods.{weight_where, is_left}
use Rattle.asp_loop.specs.Weighing.{AreVarsOf, is_within, counts, weigh, IsSlack, is_choice, is_kept, Chooses}
use Rattle.asp_loop.specs.Parts.{AddsFalse, Adds}
use Rattle.asp_loop.proofs.WeightedLaws.{AreItems, form_items}

-- ---- the variables stand for the atoms
within_inside : (p : Program) (U vars : Atoms) (l : ℤ) → AreVarsOf p U vars → has (atoms_of p) (atom_of l) ≡ true → is_within vars (literal_of p l) ≡ is_inside U l
within_inside p U vars l h stands = ap (λ b. is_positive l && b) (h (atom_of l) stands)

any_within : (p : Program) (U vars : Atoms) (ls : List ℤ) → AreVarsOf p U vars → AllByRecursion (λ l. has (atoms_of p) (atom_of l) ≡ true) ls →
    list_any (is_within vars) (map (literal_of p) ls) ≡ list_any (is_inside U) ls
any_within p U vars [] h stand = refl
any_within p U vars (l ∷ ls) h stand =
    ap (λ b. b || list_any (is_within vars) (map (literal_of p) ls)) (within_inside p U vars l h stand.0)
    ∙ ap (λ b. is_inside U l || b) (any_within p U vars ls h stand.1)

append_nil : {X : Type 0} (xs : List X) → xs ≡ xs ++ []
append_nil [] = refl
append_nil (x ∷ xs) = ap (λ ys. x ∷ ys) (append_nil xs)

one_holds : (x : List (Option Bool)) (l : Literal) → holds_in x l ≡ true → list_all (holds_in x) (l ∷ []) ≡ true
one_holds x l e = and_from (holds_in x l) true e refl

-- ---- normal bodies
pub normal_nothing : (p : Program) (x : List (Option Bool)) (U vars : Atoms) (b : Body) (old : List Literal) → AreVarsOf p U vars →
    bound_of b ≡ None → Stands (atoms_of p) b → list_any (is_within vars) (form_literals p b) ≡ true → Adds p x U b old old
normal_nothing p x U vars (body.All ls) old h none stand e =
    let inside : list_any (is_inside U) ls ≡ true = sym (any_within p U vars ls h stand) ∙ e in
    record {
      part = [];
      is = append_nil old;
      shape = sym (ap (λ b. cond b [] (complement (literal_of_form p (body.All ls)) ∷ [])) inside);
      hold = refl;
      excused = or_right (holds_in x (complement (literal_of_form p (body.All ls)))) (list_any (is_inside U) ls) inside;
    }
normal_nothing p x U vars (body.AtLeast c items) old h none stand e = cc none

pub normal_added : (p : Program) (x : List (Option Bool)) (U vars : Atoms) (b : Body) (old new : List Literal) (added : Bool) → AreVarsOf p U vars →
    bound_of b ≡ None → Stands (atoms_of p) b → list_any (is_within vars) (form_literals p b) ≡ false →
    AddsFalse x (complement (literal_of_form p b)) old new added → MatchBool added (Adds p x U b old new) (is_excused p x U b ≡ false)
normal_added p x U vars (body.AtLeast c items) old new added h none stand e f = cc none
normal_added p x U vars (body.All ls) old new true h none stand e f =
    let inside : list_any (is_inside U) ls ≡ false = sym (any_within p U vars ls h stand) ∙ e in
    record {
      part = complement (literal_of_form p (body.All ls)) ∷ [];
      is = f.1;
      shape = sym (ap (λ b. cond b [] (complement (literal_of_form p (body.All ls)) ∷ [])) inside);
      hold = one_holds x (complement (literal_of_form p (body.All ls))) f.0;
      excused = or_left (holds_in x (complement (literal_of_form p (body.All ls)))) (list_any (is_inside U) ls) f.0;
    }
normal_added p x U vars (body.All ls) old new false h none stand e f =
    ap (λ b. b || list_any (is_inside U) ls) f.0 ∙ sym (any_within p U vars ls h stand) ∙ e

-- ---- sums of weights
weigh_items : (p : Program) (r : Literal → Bool) (q : ℤ → Bool) (items : List (ℤ × ℤ)) →
    AllByRecursion (λ (i : ℤ × ℤ). r (literal_of p i.0) ≡ q i.0) items →
    weigh r (map (λ i. literal_of p i.0) items) (map (λ i. i.1) items) ≡ weight_where q items
weigh_items p r q [] same = refl
weigh_items p r q (i ∷ items) same =
    ap (λ b. cond b i.1 (pos 0) +ℤ weigh r (map (λ i. literal_of p i.0) items) (map (λ i. i.1) items)) same.0
    ∙ ap (λ w. cond (q i.0) i.1 (pos 0) +ℤ w) (weigh_items p r q items same.1)

and_true : (b : Bool) → (b && true) ≡ b
and_true true = refl
and_true false = refl

outside_same : (p : Program) (x : List (Option Bool)) (U vars : Atoms) (items : List (ℤ × ℤ)) → AreVarsOf p U vars →
    AllByRecursion (λ i. has (atoms_of p) (atom_of i.0) ≡ true) items →
    AllByRecursion (λ (i : ℤ × ℤ). counts x vars false (literal_of p i.0) ≡ not (is_inside U i.0)) items
outside_same p x U vars [] h stand = tt
outside_same p x U vars (i ∷ items) h stand = (
  and_true (not (is_within vars (literal_of p i.0))) ∙ ap not (within_inside p U vars i.0 h stand.0),
  outside_same p x U vars items h stand.1,
)

kept_same : (p : Program) (U vars : Atoms) (part : List Literal) (items : List (ℤ × ℤ)) → AreVarsOf p U vars →
    AllByRecursion (λ i. has (atoms_of p) (atom_of i.0) ≡ true) items →
    AllByRecursion (λ (i : ℤ × ℤ). is_kept vars part (literal_of p i.0) ≡ is_left p U part i.0) items
kept_same p U vars part [] h stand = tt
kept_same p U vars part (i ∷ items) h stand = (
  ap (λ b. not b && not (has_literal part (complement (literal_of p i.0)))) (within_inside p U vars i.0 h stand.0),
  kept_same p U vars part items h stand.1,
)

open_weight : (p : Program) (x : List (Option Bool)) (U vars : Atoms) (items : List (ℤ × ℤ)) → AreVarsOf p U vars →
    AllByRecursion (λ i. has (atoms_of p) (atom_of i.0) ≡ true) items →
    weigh (counts x vars true) (map (λ i. literal_of p i.0) items) (map (λ i. i.1) items) ≡ outside_weight p x U items
open_weight p x U vars [] h stand = refl
open_weight p x U vars (i ∷ items) h stand =
    ap (λ b. cond (not b && not (is_false p x i.0)) i.1 (pos 0) +ℤ weigh (counts x vars true) (map (λ i. literal_of p i.0) items) (map (λ i. i.1) items)) (within_inside p U vars i.0 h stand.0)
    ∙ ap (λ w. w +ℤ weigh (counts x vars true) (map (λ i. literal_of p i.0) items) (map (λ i. i.1) items)) (turned (is_inside U i.0) (is_false p x i.0))
    ∙ ap (λ w. cond (is_false p x i.0 || is_inside U i.0) (pos 0) i.1 +ℤ w) (open_weight p x U vars items h stand.1)
  where
    turned : (a b : Bool) → cond (not a && not b) i.1 (pos 0) ≡ cond (b || a) (pos 0) i.1
    turned true true = refl
    turned true false = refl
    turned false true = refl
    turned false false = refl

-- the weights outside that aren't false are among those outside
open_less : (p : Program) (x : List (Option Bool)) (U : Atoms) (items : List (ℤ × ℤ)) → AreItems items → outside_weight p x U items ≤ℤ weight_where (λ l. not (is_inside U l)) items
open_less p x U [] h = omega (arith, ints)
open_less p x U (i ∷ items) h =
    let a = one (is_false p x i.0) (is_inside U i.0) in
    let b = open_less p x U items h.1 in
    omega (arith, ints, a, b)
  where
    one : (f s : Bool) → cond (f || s) (pos 0) i.1 ≤ℤ cond (not s) i.1 (pos 0)
    one true true = omega (arith, ints)
    one true false = h.0
    one false true = omega (arith, ints)
    one false false = omega (arith, ints)

below : (c w : ℤ) (s : ℕ) → pos s ≡ (c -ℤ w) → 0 < s → int_lt w c ≡ true
below c w s is positive = lit_lt w c (omega (arith, ints))
  where
    lit_lt : (w c : ℤ) → w <ℤ c → int_lt w c ≡ true
    lit_lt w c h = grind (arith, ints)

not_below : (c w : ℤ) → c ≤ℤ w → int_lt w c ≡ false
not_below c w h = grind (arith, ints)

lighter : (c v w : ℤ) → v ≤ℤ w → int_lt w c ≡ true → int_lt v c ≡ true
lighter c v w h e = grind (arith, ints)

-- ---- weight bodies
same_some : (c d : ℤ) → Some c ≡ Some d → c ≡ d
same_some c d e = cc e

pub weighted_nothing : (p : Program) (x : List (Option Bool)) (U vars : Atoms) (b : Body) (old : List Literal) (bound : ℤ) (s : ℕ) →
    AreVarsOf p U vars → bound_of b ≡ Some bound → Stands (atoms_of p) b → AreItems (form_items b) →
    IsSlack bound (weigh (counts x vars false) (form_literals p b) (form_weights b)) (Some s) → Adds p x U b old old
weighted_nothing p x U vars (body.All ls) old bound s h is stand weighted slack = cc is
weighted_nothing p x U vars (body.AtLeast c items) old bound s h is stand weighted slack =
    let same : c ≡ bound = same_some c bound is in
    let sum = weigh_items p (counts x vars false) (λ l. not (is_inside U l)) items (outside_same p x U vars items h stand) in
    let light : int_lt (weight_where (λ l. not (is_inside U l)) items) c ≡ true =
    below c (weight_where (λ l. not (is_inside U l)) items) s (slack.0 ∙ ap (λ w. bound -ℤ w) sum ∙ ap (λ d. d -ℤ weight_where (λ l. not (is_inside U l)) items) (sym same)) slack.1 in
    record {
      part = [];
      is = append_nil old;
      shape = rw light refl;
      hold = refl;
      excused = or_right (holds_in x (complement (literal_of_form p (body.AtLeast c items)))) (int_lt (outside_weight p x U items) c)
          (lighter c (outside_weight p x U items) (weight_where (λ l. not (is_inside U l)) items) (open_less p x U items weighted) light);
    }

heavy : (p : Program) (x : List (Option Bool)) (U vars : Atoms) (c bound : ℤ) (items : List (ℤ × ℤ)) → AreVarsOf p U vars → c ≡ bound →
    AllByRecursion (λ i. has (atoms_of p) (atom_of i.0) ≡ true) items →
    bound ≤ℤ weigh (counts x vars false) (map (λ i. literal_of p i.0) items) (map (λ i. i.1) items) →
    int_lt (weight_where (λ l. not (is_inside U l)) items) c ≡ false
heavy p x U vars c bound items h same stand slack =
    let sum = weigh_items p (counts x vars false) (λ l. not (is_inside U l)) items (outside_same p x U vars items h stand) in
    not_below c (weight_where (λ l. not (is_inside U l)) items)
    (subst (λ w. c ≤ℤ w) sum (subst (λ d. d ≤ℤ weigh (counts x vars false) (map (λ i. literal_of p i.0) items) (map (λ i. i.1) items)) (sym same)
    slack))

pub weighted_false : (p : Program) (x : List (Option Bool)) (U vars : Atoms) (b : Body) (old new : List Literal) (bound : ℤ) → AreVarsOf p U vars →
    bound_of b ≡ Some bound → Stands (atoms_of p) b → IsSlack bound (weigh (counts x vars false) (form_literals p b) (form_weights b)) None →
    AddsFalse x (complement (literal_of_form p b)) old new true → Adds p x U b old new
weighted_false p x U vars (body.All ls) old new bound h is stand slack f = cc is
weighted_false p x U vars (body.AtLeast c items) old new bound h is stand slack f =
    let full = heavy p x U vars c bound items h (same_some c bound is) stand slack in
    record {
      part = complement (literal_of_form p (body.AtLeast c items)) ∷ [];
      is = f.1;
      shape = rw full (inl refl);
      hold = one_holds x (complement (literal_of_form p (body.AtLeast c items))) f.0;
      excused = or_left (holds_in x (complement (literal_of_form p (body.AtLeast c items)))) (int_lt (outside_weight p x U items) c) f.0;
    }

pub weighted_firm : (p : Program) (x : List (Option Bool)) (U vars : Atoms) (b : Body) (old new : List Literal) (bound : ℤ) → AreVarsOf p U vars →
    bound_of b ≡ Some bound → Stands (atoms_of p) b → AddsFalse x (complement (literal_of_form p b)) old new false →
    IsSlack bound (weigh (counts x vars true) (form_literals p b) (form_weights b)) None → is_excused p x U b ≡ false
weighted_firm p x U vars (body.All ls) old new bound h is stand f slack = cc is
weighted_firm p x U vars (body.AtLeast c items) old new bound h is stand f slack =
    let same : c ≡ bound = same_some c bound is in
    ap (λ b. b || int_lt (outside_weight p x U items) c) f.0
    ∙ not_below c (outside_weight p x U items) (subst (λ w. c ≤ℤ w) (open_weight p x U vars items h stand)
    (subst (λ d. d ≤ℤ weigh (counts x vars true) (map (λ i. literal_of p i.0) items) (map (λ i. i.1) items)) (sym same) slack))

-- a choice among variables' literals is one among the items
chosen_item : (p : Program) (x : List (Option Bool)) (U vars : Atoms) (items : List (ℤ × ℤ)) (l : Literal) → AreVarsOf p U vars →
    AllByRecursion (λ i. has (atoms_of p) (atom_of i.0) ≡ true) items →
    list_any (λ k. is_choice x vars k && literal_eq (complement k) l) (map (λ i. literal_of p i.0) items) ≡ true →
    list_any (λ i. not (is_inside U i.0) && literal_eq (complement (literal_of p i.0)) l) items ≡ true
chosen_item p x U vars [] l h stand e = absurd (false≢true e)
chosen_item p x U vars (i ∷ items) l h stand e =
    cases (is_choice x vars (literal_of p i.0) && literal_eq (complement (literal_of p i.0)) l) refl (chosen_item p x U vars items l h stand.1)
  where
    here : Literal
    here = literal_of p i.0

    cases : (b : Bool) → b ≡ (is_choice x vars (literal_of p i.0) && literal_eq (complement (literal_of p i.0)) l) →
        (list_any (λ k. is_choice x vars k && literal_eq (complement k) l) (map (λ i. literal_of p i.0) items) ≡ true →
        list_any (λ i. not (is_inside U i.0) && literal_eq (complement (literal_of p i.0)) l) items ≡ true) →
        list_any (λ i. not (is_inside U i.0) && literal_eq (complement (literal_of p i.0)) l) (i ∷ items) ≡ true
    cases true q later =
        let parts = and_parts (is_choice x vars (literal_of p i.0)) (literal_eq (complement (literal_of p i.0)) l) (sym q) in
        let outside = and_parts (not (is_within vars (literal_of p i.0))) (holds_in x (complement (literal_of p i.0))) parts.0 in
        or_left (not (is_inside U i.0) && literal_eq (complement (literal_of p i.0)) l) (list_any (λ i. not (is_inside U i.0) && literal_eq (complement (literal_of p i.0)) l) items)
        (and_from (not (is_inside U i.0)) (literal_eq (complement (literal_of p i.0)) l) (sym (ap not (within_inside p U vars i.0 h stand.0)) ∙ outside.0) parts.1)
    cases false q later =
        or_right (not (is_inside U i.0) && literal_eq (complement (literal_of p i.0)) l) (list_any (λ i. not (is_inside U i.0) && literal_eq (complement (literal_of p i.0)) l) items)
        (later (ap (λ b. b || list_any (λ k. is_choice x vars k && literal_eq (complement k) l) (map (λ i. literal_of p i.0) items)) q ∙ e))

each_unit : {X : Type 0} (xs : List X) → AllByRecursion (λ x. Unit {0}) xs
each_unit [] = tt
each_unit (x ∷ xs) = (tt, each_unit xs)

choices_hold : (x : List (Option Bool)) (vars : Atoms) (lits part : List Literal) →
    AllByRecursion (λ l. list_any (λ k. is_choice x vars k && literal_eq (complement k) l) lits ≡ true) part → list_all (holds_in x) part ≡ true
choices_hold x vars lits [] h = refl
choices_hold x vars lits (l ∷ part) h =
    let found = some (λ (k : Literal). Unit {0}) (λ k. is_choice x vars k && literal_eq (complement k) l) lits (each_unit lits) h.0 in
    let parts = and_parts (is_choice x vars found.0) (literal_eq (complement found.0) l) found.2 in
    let holds = (and_parts (not (is_within vars found.0)) (holds_in x (complement found.0)) parts.0).1 in
    and_from (holds_in x l) (list_all (holds_in x) part) (sym (ap (holds_in x) (same_literal (complement found.0) l parts.1)) ∙ holds) (choices_hold x vars lits part h.1)

pub weighted_chosen : (p : Program) (x : List (Option Bool)) (U vars : Atoms) (b : Body) (old middle new : List Literal) (bound : ℤ) (s : ℕ) →
    AreVarsOf p U vars → bound_of b ≡ Some bound → Stands (atoms_of p) b →
    IsSlack bound (weigh (counts x vars false) (form_literals p b) (form_weights b)) None →
    AddsFalse x (complement (literal_of_form p b)) old middle false →
    IsSlack bound (weigh (counts x vars true) (form_literals p b) (form_weights b)) (Some s) →
    Chooses x vars (form_literals p b) (form_weights b) s middle new → Adds p x U b old new
weighted_chosen p x U vars (body.All ls) old middle new bound s h is stand full f slack choice = cc is
weighted_chosen p x U vars (body.AtLeast c items) old middle new bound s h is stand full f slack choice =
    let same : c ≡ bound = same_some c bound is in
    let part : List Literal = choice.part in
    let heavy_ = heavy p x U vars c bound items h same stand full in
    let kept = weigh_items p (is_kept vars part) (is_left p U part) items (kept_same p U vars part items h stand) in
    let open_ = open_weight p x U vars items h stand in
    let enough = choice.enough in
    let slack0 = slack.0 in
    record {
      part = part;
      is = choice.is ∙ ap (λ ls. ls ++ part) f.1;
      shape = rw heavy_ (inr (record {
        outside = outside part choice.chosen;
        enough = lit_lt (weight_where (is_left p U part) items) c (omega (arith, ints, kept, enough, slack0, same));
      }));
      hold = choices_hold x vars (map (λ i. literal_of p i.0) items) part choice.chosen;
      excused = or_right (holds_in x (complement (literal_of_form p (body.AtLeast c items)))) (int_lt (outside_weight p x U items) c)
          (below c (outside_weight p x U items) s (omega (arith, ints, slack0, open_, same)) slack.1);
    }
  where
    lit_lt : (w c : ℤ) → w <ℤ c → int_lt w c ≡ true
    lit_lt w c h = grind (arith, ints)

    outside : (part : List Literal) → AllByRecursion (λ l. list_any (λ k. is_choice x vars k && literal_eq (complement k) l)
        (map (λ i. literal_of p i.0) items) ≡ true) part →
        AllByRecursion (λ l. list_any (λ i. not (is_inside U i.0) && literal_eq (complement (literal_of p i.0)) l) items ≡ true) part
    outside [] k = tt
    outside (l ∷ ls) k = (chosen_item p x U vars items l h stand k.0, outside ls k.1)

-- ---- rows as the code has them
pub slack_of : (q : Literal → Bool) (lits lits' : List Literal) (weights weights' : List ℤ) (bits bound : ℤ) (o o' : Option ℕ) → lits ≡ lits' →
    weights ≡ weights' → bits ≡ bound → o ≡ o' → IsSlack bits (weigh q lits weights) o → IsSlack bound (weigh q lits' weights') o'
slack_of q lits lits' weights weights' bits bound o o' e f b g h =
    subst (λ (r : Option ℕ). IsSlack bound (weigh q lits' weights') r) g
    (subst (λ (ws : List ℤ). IsSlack bound (weigh q lits' ws) o) f (subst (λ (ls : List Literal). IsSlack bound (weigh q ls weights) o) e (subst (λ (n : ℤ). IsSlack n (weigh q lits weights) o) b h)))

pub chooses_of : (x : List (Option Bool)) (vars : Atoms) (lits lits' : List Literal) (weights weights' : List ℤ) (s : ℕ) (old new : List Literal) →
    lits ≡ lits' → weights ≡ weights' → Chooses x vars lits weights s old new → Chooses x vars lits' weights' s old new
chooses_of x vars lits lits' weights weights' s old new e f h =
    subst (λ (ws : List ℤ). Chooses x vars lits' ws s old new) f (subst (λ (ls : List Literal). Chooses x vars ls weights s old new) e h)

pub some_of : (o : Option ℕ) → is_some o ≡ true → (s : ℕ) × (o ≡ Some s)
some_of None e = absurd (false≢true e)
some_of (Some s) e = (s, refl)

pub none_of : (o : Option ℕ) → is_some o ≡ false → o ≡ None
none_of None e = refl
none_of (Some s) e = absurd (false≢true (sym e))
