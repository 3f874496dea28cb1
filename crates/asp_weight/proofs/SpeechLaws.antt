-- What a body says when it isn't silent, and that its definition excludes the nogood.
use Rattle.std.proofs.Common.{◌≡◌, ℕ, ◌+◌, ◌-◌, ◌≤◌, Bool, true, false, not, cond, ◌&&◌, ◌||◌, eqb, ltb, leb, List, [], ◌∷◌, ◌++◌, get_or, sum_by, Option, Some, None, ℤ, pos, negsuc, ◌+ℤ◌, int_le, inl, inr, ◌⊎◌, refl, sym, ap, ◌∙◌, subst, arith}
use Rattle.std.specs.List.{All, AllByRecursion, list_all, list_any}
use Rattle.std.specs.Bool.{beq}
use Rattle.std.specs.Option.{is_none}
use Rattle.std.proofs.lemmas.Bool.{eq-eqb, false≢true}
use Rattle.std.proofs.lemmas.Bool.Decides.{nat_tests}
use Rattle.std.proofs.lemmas.Int.{ints}
use Rattle.std.proofs.lemmas.List.Elements.{All-head, All-tail, All-append, All-cons}
use Rattle.std.proofs.lemmas.List.Folds.{list_all_at}
use Rattle.std.proofs.lemmas.List.Sums.{sum_by-cons}
use Rattle.asp_model.specs.declared.program.Body.{Body}
use Rattle.asp_model.specs.declared.program.Body.TheVariants as body
use Rattle.asp_model.specs.declared.program.Program.{Program}
use Rattle.asp_model.specs.Sets.{Atoms, has}
use Rattle.asp_model.specs.Holding.{atom_of, holds, weight_of}
use Rattle.asp_model.specs.Models.{atoms_of}
use Rattle.asp_vars.specs.Literals.{Literal, complement, literal_eq, value_of, holds_in, agrees, is_true, hits}
use Rattle.asp_vars.specs.Numbering.{body_eq, bodies_of, var_of_form, values}
use Rattle.asp_vars.specs.Tabled.{Stands}
use Rattle.asp_vars.specs.Entailment.{Entailed}
use Rattle.asp_vars.proofs.LiteralLaws.{and_left, and_right, and_both, is_true-complement, hits-append}
use Rattle.asp_vars.proofs.CompletionLaws.{literal-holds, weight-true}
use Rattle.asp_trail.specs.Fixpoint.{is_open, is_violated, is_unit, is_at_fixpoint}
use Rattle.asp_trail.specs.Trails.{IsVar}
use Rattle.asp_weight.specs.declared.item.Item.{Item}
use Rattle.asp_weight.specs.declared.item.Shape.{Shape}
use Rattle.asp_weight.specs.declared.look.Speech.{Speech}
use Rattle.asp_weight.specs.Silence.{weight_that}
use Rattle.asp_weight.specs.Definition.{keeps, Excludes}
use Rattle.asp_weight.specs.Rows.{on, weight_if, sum_where, total_of, is_weighed, clamped, IsRow, need_of, is_under, is_short, is_silent_row_as, is_silent_row}
use Rattle.asp_weight.specs.Spoken.{held, gathered, head_of, item_at, spoken_as, Settles, Speaks}
use Rattle.asp_weight.specs.Brief.{counted}
use Rattle.asp_weight.proofs.PositiveLaws.{HasPositive}
use Rattle.asp_weight.proofs.SumLaws.{sum_le, sum_le_but, total_split}
use Rattle.asp_weight.proofs.SilenceLaws.{weight_that-row}

pub beq_itself : (b : Bool) → beq b b ≡ true
beq_itself true = refl
beq_itself false = refl

-- ---- a body that says something isn't silent
not_under : (m n : ℕ) → n ≤ m → ltb m n ≡ false
not_under m n h = grind (arith, nat_tests)

and_false : (a b : Bool) → b ≡ false → (a && b) ≡ false
and_false true b e = e
and_false false b e = refl

silence_as_short : (o : Option Bool) (side : Bool) (a : List (Option Bool)) (s : Shape) (row : List Item) → o ≡ Some (not side) → is_silent_row_as o a s row ≡ is_short side a s row
silence_as_short o true a s row e = ap (λ x. is_silent_row_as x a s row) e
silence_as_short o false a s row e = ap (λ x. is_silent_row_as x a s row) e

not_silent_row : (x : Option ℕ) (side : Bool) (a : List (Option Bool)) (s : Shape) (row : List Item) → Settles x side a s row → is_silent_row a s row ≡ false
not_silent_row None side a s row h = cases (value_of a s.var) side refl h.1 (not_under (sum_where (holds_in a) side row) (need_of side s) h.0)
  where
    short_from : (side : Bool) → is_under side a s row ≡ false → is_short side a s row ≡ false
    short_from side e =
        ap (λ b. b && list_all (λ (i : Item). not (is_open a i.lit) || ltb i.weight (need_of side s - sum_where (holds_in a) side row)) row) e

    cases : (o : Option Bool) (side : Bool) → o ≡ value_of a s.var → (value_of a s.var ≡ Some side → ⊥) → is_under side a s row ≡ false → is_silent_row_as o a s row ≡ false
    cases None true q f e = ap (λ b. b && is_under false a s row) e
    cases None false q f e = and_false (is_under true a s row) (is_under false a s row) e
    cases (Some true) true q f e = absurd (f (sym q))
    cases (Some true) false q f e = short_from false e
    cases (Some false) true q f e = short_from true e
    cases (Some false) false q f e = absurd (f (sym q))
not_silent_row (Some j) side a s row h =
    silence_as_short (value_of a s.var) side a s row h.2
    ∙ and_false (is_under side a s row) (list_all test row)
    (list_all_at test row j (record { weight = 0; lit = record { var = 0; truth = false } }) h.0
    (ap (λ b. not b || ltb (item_at row j).weight (need_of side s - sum_where (holds_in a) side row)) h.1
    ∙ not_under (item_at row j).weight (need_of side s - sum_where (holds_in a) side row) (omega (arith, h.3))))
  where
    test : Item → Bool
    test i = not (is_open a i.lit) || ltb i.weight (need_of side s - sum_where (holds_in a) side row)

pub speaks_not_silent : (x : Speech) (a : List (Option Bool)) (s : Shape) (row : List Item) → Speaks x a s row → is_silent_row a s row ≡ false
speaks_not_silent x a s row h = not_silent_row x.open x.side a s row h

-- ---- the nogood is unit or violated
pub list_all-append-both : (t : Literal → Bool) (n m : List Literal) → list_all t n ≡ true → list_all t m ≡ true → list_all t (n ++ m) ≡ true
list_all-append-both t [] m e f = f
list_all-append-both t (l ∷ n) m e f = and_both (t l) (list_all t (n ++ m)) (and_left (t l) (list_all t n) e) (list_all-append-both t n m (and_right (t l) (list_all t n) e) f)

pub held_holds : (side : Bool) (a : List (Option Bool)) (i : Item) → list_all (holds_in a) (held side a i) ≡ true
held_holds side a i = cases (holds_in a (on side i.lit)) refl
  where
    cases : (b : Bool) → b ≡ holds_in a (on side i.lit) → list_all (holds_in a) (cond b (on side i.lit ∷ []) []) ≡ true
    cases true q = and_both (holds_in a (on side i.lit)) true (sym q) refl
    cases false q = refl

pub gathered_hold : (side : Bool) (a : List (Option Bool)) (need sum : ℕ) (row : List Item) → list_all (holds_in a) (gathered side a need sum row) ≡ true
gathered_hold side a need sum [] = refl
gathered_hold side a need sum (i ∷ row) = cases (leb need sum) (gathered_hold side a need (sum + weight_if (holds_in a) side i) row)
  where
    rest : List Literal
    rest = gathered side a need (sum + weight_if (holds_in a) side i) row

    cases : (b : Bool) → list_all (holds_in a) rest ≡ true → list_all (holds_in a) (cond b [] (held side a i ++ rest)) ≡ true
    cases true e = refl
    cases false e = list_all-append-both (holds_in a) (held side a i) rest (held_holds side a i) e

pub literal_eq_itself : (l : Literal) → literal_eq l l ≡ true
literal_eq_itself l = and_both (eqb l.var l.var) (beq l.truth l.truth) (eq-eqb l.var l.var refl) (beq_itself l.truth)

weaker_test : (t u : Literal → Bool) (n : List Literal) → ((l : Literal) → t l ≡ true → u l ≡ true) → list_all t n ≡ true → list_all u n ≡ true
weaker_test t u [] f e = refl
weaker_test t u (l ∷ n) f e = and_both (u l) (list_all u n) (f l (and_left (t l) (list_all t n) e)) (weaker_test t u n f (and_right (t l) (list_all t n) e))

or_right : (a b : Bool) → b ≡ true → (a || b) ≡ true
or_right true b h = refl
or_right false b h = h

not_at_fixpoint : (a : List (Option Bool)) (o : Literal) (n : List Literal) → list_all (holds_in a) n ≡ true → (holds_in a o ≡ true) ⊎ (is_open a o ≡ true) → is_at_fixpoint a (o ∷ n) ≡ false
not_at_fixpoint a o n h (inl e) = ap (λ b. not b && not (is_unit a (o ∷ n))) (and_both (holds_in a o) (list_all (holds_in a) n) e h)
not_at_fixpoint a o n h (inr e) = and_false (not (is_violated a (o ∷ n))) (not (is_unit a (o ∷ n))) (ap not unit)
  where
    others : Literal → Literal → Bool
    others l k = literal_eq k l || holds_in a k

    first : (is_open a o && list_all (others o) (o ∷ n)) ≡ true
    first =
        and_both (is_open a o) (list_all (others o) (o ∷ n)) e
        (and_both (others o o) (list_all (others o) n) (ap (λ b. b || holds_in a o) (literal_eq_itself o))
        (weaker_test (holds_in a) (others o) n (λ k q. or_right (literal_eq k o) (holds_in a k) q) h))

    unit : is_unit a (o ∷ n) ≡ true
    unit = ap (λ b. b || list_any (λ l. is_open a l && list_all (others l) (o ∷ n)) n) first

head_wanted : (side : Bool) (a : List (Option Bool)) (s : Shape) → (value_of a s.var ≡ Some side → ⊥) → (holds_in a (head_of side s) ≡ true) ⊎ (is_open a (head_of side s) ≡ true)
head_wanted side a s f = cases (value_of a s.var) side f
  where
    cases : (o : Option Bool) (side : Bool) → (o ≡ Some side → ⊥) → (agrees o (head_of side s) ≡ true) ⊎ (is_none o ≡ true)
    cases None side f = inr refl
    cases (Some true) true f = absurd (f refl)
    cases (Some true) false f = inl refl
    cases (Some false) true f = inl refl
    cases (Some false) false f = absurd (f refl)

on_open : (side : Bool) (a : List (Option Bool)) (l : Literal) → is_open a l ≡ true → is_open a (on side l) ≡ true
on_open true a l e = e
on_open false a l e = e

pub spoken_wanted : (x : Option ℕ) (side : Bool) (a : List (Option Bool)) (s : Shape) (row : List Item) → Settles x side a s row → is_at_fixpoint a (spoken_as x side a s row) ≡ false
spoken_wanted None side a s row h =
    not_at_fixpoint a (head_of side s) (gathered side a (need_of side s) 0 row) (gathered_hold side a (need_of side s) 0 row) (head_wanted side a s h.1)
spoken_wanted (Some j) side a s row h =
    not_at_fixpoint a (on side (item_at row j).lit) (head_of side s ∷ gathered side a (need_of side s) (item_at row j).weight row)
    (and_both (holds_in a (head_of side s)) _ (ap (λ o. agrees o (head_of side s)) h.2 ∙ beq_itself (not side)) (gathered_hold side a (need_of side s) (item_at row j).weight row))
    (inr (on_open side a (item_at row j).lit h.1))

-- ---- its variables
pub on_var : (side : Bool) (l : Literal) → (on side l).var ≡ l.var
on_var true l = refl
on_var false l = refl

held_vars : (n : ℕ) (side : Bool) (a : List (Option Bool)) (i : Item) → IsVar n i.lit.var → All (λ l. IsVar n l.var) (held side a i)
held_vars n side a i h = cases (holds_in a (on side i.lit))
  where
    cases : (b : Bool) → All (λ l. IsVar n l.var) (cond b (on side i.lit ∷ []) [])
    cases true = All-cons (λ (l : Literal). IsVar n l.var) (on side i.lit) [] (subst (λ v. IsVar n v) (sym (on_var side i.lit)) h) (λ k d l. absurd (omega (arith, l)))
    cases false = λ k d l. absurd (omega (arith, l))

gathered_vars : (n : ℕ) (side : Bool) (a : List (Option Bool)) (need sum : ℕ) (row : List Item) → All (λ i. IsVar n i.lit.var) row → All (λ l. IsVar n l.var) (gathered side a need sum row)
gathered_vars n side a need sum [] h = λ k d l. absurd (omega (arith, l))
gathered_vars n side a need sum (i ∷ row) h =
    cases (leb need sum) (gathered_vars n side a need (sum + weight_if (holds_in a) side i) row (All-tail (λ (x : Item). IsVar n x.lit.var) i row h))
  where
    rest : List Literal
    rest = gathered side a need (sum + weight_if (holds_in a) side i) row

    cases : (b : Bool) → All (λ l. IsVar n l.var) rest → All (λ l. IsVar n l.var) (cond b [] (held side a i ++ rest))
    cases true e = λ k d l. absurd (omega (arith, l))
    cases false e = All-append (λ (l : Literal). IsVar n l.var) (held side a i) rest (held_vars n side a i (All-head (λ (x : Item). IsVar n x.lit.var) i row h)) e

pub spoken_vars : (n : ℕ) (x : Option ℕ) (side : Bool) (a : List (Option Bool)) (s : Shape) (row : List Item) → Settles x side a s row → IsVar n s.var → All (λ i. IsVar n i.lit.var) row →
    All (λ l. IsVar n l.var) (spoken_as x side a s row)
spoken_vars n None side a s row h v w = All-cons (λ (l : Literal). IsVar n l.var) (head_of side s) (gathered side a (need_of side s) 0 row) v (gathered_vars n side a (need_of side s) 0 row w)
spoken_vars n (Some j) side a s row h v w =
    All-cons (λ (l : Literal). IsVar n l.var) (on side (item_at row j).lit)
    (head_of side s ∷ gathered side a (need_of side s) (item_at row j).weight row)
    (subst (λ u. IsVar n u) (sym (on_var side (item_at row j).lit)) (w j (record { weight = 0; lit = record { var = 0; truth = false } }) h.0))
    (All-cons (λ (l : Literal). IsVar n l.var) (head_of side s) (gathered side a (need_of side s) (item_at row j).weight row) v (gathered_vars n side a (need_of side s) (item_at row j).weight row w))

-- ---- the definition excludes it
counted_enough : (side : Bool) (a : List (Option Bool)) (v : List Bool) (need sum : ℕ) (row : List Item) → need ≤ sum + sum_where (holds_in a) side row → hits v (gathered side a need sum row) ≡ true →
    need ≤ sum + sum_by (counted side a v) row
counted_enough side a v need sum [] h e = h
counted_enough side a v need sum (i ∷ row) h e =
    cases (leb need sum) refl e (λ f.
    counted_enough side a v need (sum + weight_if (holds_in a) side i) row (omega (arith, h, sum_by-cons (weight_if (holds_in a) side) i row)) f)
  where
    rest : List Literal
    rest = gathered side a need (sum + weight_if (holds_in a) side i) row

    is_enough : true ≡ leb need sum → need ≤ sum
    is_enough q = grind (arith, nat_tests)

    same_weight : (b : Bool) → b ≡ holds_in a (on side i.lit) → hits v (cond b (on side i.lit ∷ []) []) ≡ true → cond b i.weight 0 ≡ cond b (weight_if (is_true v) side i) 0
    same_weight true q f = sym (ap (λ c. cond c i.weight 0) (and_left (is_true v (on side i.lit)) true f))
    same_weight false q f = refl

    cases : (b : Bool) → b ≡ leb need sum → hits v (cond b [] (held side a i ++ rest)) ≡ true →
        (hits v rest ≡ true → need ≤ sum + weight_if (holds_in a) side i + sum_by (counted side a v) row) → need ≤ sum + sum_by (counted side a v) (i ∷ row)
    cases true q f more = omega (arith, is_enough q)
    cases false q f more =
        let split = sym (hits-append v (held side a i) rest) ∙ f in
        omega (
          arith,
          more (and_right (hits v (held side a i)) (hits v rest) split),
          sum_by-cons (counted side a v) i row,
          same_weight (holds_in a (on side i.lit)) refl (and_left (hits v (held side a i)) (hits v rest) split),
        )

pub counted-le : (side : Bool) (a : List (Option Bool)) (v : List Bool) (i : Item) → counted side a v i ≤ weight_if (is_true v) side i
counted-le side a v i = cases (holds_in a (on side i.lit)) (weight_if (is_true v) side i)
  where
    cases : (b : Bool) (n : ℕ) → cond b n 0 ≤ n
    cases true n = omega arith
    cases false n = omega arith

open_false : (side : Bool) (a : List (Option Bool)) (l : Literal) → is_open a l ≡ true → holds_in a (on side l) ≡ false
open_false true a l e = cases (value_of a l.var) e
  where
    cases : (o : Option Bool) → is_none o ≡ true → agrees o l ≡ false
    cases None q = refl
    cases (Some b) q = absurd (false≢true q)
open_false false a l e = cases (value_of a l.var) e
  where
    cases : (o : Option Bool) → is_none o ≡ true → agrees o (complement l) ≡ false
    cases None q = refl
    cases (Some b) q = absurd (false≢true q)

-- the values that hit the nogood settle the side, against the body's variable
needed : (x : Option ℕ) (side : Bool) (a : List (Option Bool)) (s : Shape) (row : List Item) (v : List Bool) → Settles x side a s row → hits v (spoken_as x side a s row) ≡ true →
    (is_true v (head_of side s) ≡ true) × (need_of side s ≤ sum_where (is_true v) side row)
needed None side a s row v h e =
    let enough = counted_enough side a v (need_of side s) 0 row (omega (arith, h.0)) (and_right (is_true v (head_of side s)) _ e) in (
      and_left (is_true v (head_of side s)) _ e,
      omega (arith, enough, sum_le (counted side a v) (weight_if (is_true v) side) row (counted-le side a v)),
    )
needed (Some j) side a s row v h e =
    let i : Item = item_at row j in
    let later = and_right (is_true v (on side i.lit)) (hits v (head_of side s ∷ gathered side a (need_of side s) i.weight row)) e in
    let enough = counted_enough side a v (need_of side s) i.weight row h.3 (and_right (is_true v (head_of side s)) _ later) in
    let left_out : counted side a v i ≡ 0 = ap (λ b. cond b (weight_if (is_true v) side i) 0) (open_false side a i.lit h.1) in
    let weighs : weight_if (is_true v) side i ≡ i.weight =
    ap (λ b. cond b i.weight 0) (and_left (is_true v (on side i.lit)) (hits v (head_of side s ∷ gathered side a (need_of side s) i.weight row)) e)
    in (
      and_left (is_true v (head_of side s)) _ later,
      omega (
        arith,
        enough,
        weighs,
        sum_le_but (counted side a v) (weight_if (is_true v) side) row j
            (record { weight = 0; lit = record { var = 0; truth = false } }) (counted-le side a v) h.0 left_out,
      ),
    )

reaches : (bound : ℤ) (w : ℕ) → clamped bound ≤ w → int_le bound (pos w) ≡ true
reaches (pos n) w h = grind (arith, ints, nat_tests)
reaches (negsuc n) w h = grind (arith, ints, nat_tests)

misses : (bound : ℤ) (w f total : ℕ) → total ≡ w + f → total + 1 - clamped bound ≤ f → int_le bound (pos w) ≡ false
misses (pos n) w f total e h = grind (arith, ints, nat_tests)
misses (negsuc n) w f total e h = absurd (omega (arith, e, h))

not_both : (v b side : Bool) → beq v (not side) ≡ true → b ≡ side → beq (beq v true) b ≡ false
not_both true b true e f = absurd (false≢true e)
not_both true b false e f = ap (λ c. beq true c) f
not_both false b true e f = ap (λ c. beq false c) f
not_both false b false e f = absurd (false≢true e)

total_by : (v : List Bool) (row : List Item) → total_of row ≡ sum_where (is_true v) true row + sum_where (is_true v) false row
total_by v row = total_split (is_true v) row ∙ ap (λ n. n + sum_where (is_true v) false row) (alike row)
  where
    not_not : (b : Bool) → not (not b) ≡ b
    not_not true = refl
    not_not false = refl

    alike : (xs : List Item) → sum_where (λ l. not (is_true v (complement l))) true xs ≡ sum_where (is_true v) true xs
    alike [] = refl
    alike (i ∷ xs) =
        sum_by-cons (weight_if (λ l. not (is_true v (complement l))) true) i xs
        ∙ (ap (λ b. cond b i.weight 0 + sum_where (λ l. not (is_true v (complement l))) true xs) (ap not (is_true-complement v i.lit) ∙ not_not (is_true v i.lit))
        ∙ (ap (λ n. weight_if (is_true v) true i + n) (alike xs)
        ∙ sym (sum_by-cons (weight_if (is_true v) true) i xs)))

-- values that settle the side, against the body's variable, break the definition
pub side_broken : (p : Program) (b : Body) (side : Bool) (s : Shape) (row : List Item) (v : List Bool) → is_weighed b ≡ true → HasPositive b → IsRow p b s row → is_true v (head_of side s) ≡ true →
    need_of side s ≤ sum_where (is_true v) side row → keeps p v b ≡ false
side_broken p (body.All literals) side s row v e w r h g = absurd (false≢true e)
side_broken p (body.AtLeast bound items) side s row v e w r h g =
    not_both (get_or v (var_of_form p (body.AtLeast bound items)) false) (int_le bound (weight_that (is_true v) p items)) side
    (ap (λ u. beq (get_or v u false) (not side)) (sym r.var) ∙ h)
    (ap (λ z. int_le bound z) (weight_that-row p [] bound items s row w r.ordered.items r.reach r.miss (is_true v)) ∙ decided side g)
  where
    decided : (side : Bool) → need_of side s ≤ sum_where (is_true v) side row → int_le bound (pos (sum_where (is_true v) true row)) ≡ side
    decided true g = reaches bound (sum_where (is_true v) true row) (omega (arith, g, r.reach))
    decided false g = misses bound (sum_where (is_true v) true row) (sum_where (is_true v) false row) (total_of row) (total_by v row) (omega (arith, g, r.reach, r.miss))

pub spoken_excluded : (p : Program) (b : Body) (x : Option ℕ) (side : Bool) (a : List (Option Bool)) (s : Shape) (row : List Item) → is_weighed b ≡ true → HasPositive b → IsRow p b s row →
    Settles x side a s row → (v : List Bool) → hits v (spoken_as x side a s row) ≡ true → keeps p v b ≡ false
spoken_excluded p b x side a s row e w r h v f =
    let n = needed x side a s row v h f in
    side_broken p b side s row v e w r n.0 n.1

-- ---- stable models keep the definition
weight_that-holds : (p : Program) (S : Atoms) (items : List (ℤ × ℤ)) → AllByRecursion (λ i. has (atoms_of p) (atom_of i.0) ≡ true) items →
    weight_that (is_true (values p S)) p items ≡ weight_of S items
weight_that-holds p S [] h = refl
weight_that-holds p S (i ∷ items) h =
    ap (λ b. cond b i.1 (pos 0) +ℤ weight_that (is_true (values p S)) p items) (literal-holds p S i.0 h.0)
    ∙ ap (λ z. cond (holds S i.0) i.1 (pos 0) +ℤ z) (weight_that-holds p S items h.1)

pub values_keep : (p : Program) (S : Atoms) (b : Body) → list_any (body_eq b) (bodies_of p) ≡ true → Stands (atoms_of p) b → keeps p (values p S) b ≡ true
values_keep p S (body.All literals) e h = refl
values_keep p S (body.AtLeast bound items) e h =
    ap (λ b. beq b (int_le bound (weight_that (is_true (values p S)) p items))) (weight-true p S bound items e)
    ∙ (ap (λ z. beq (int_le bound (weight_of S items)) (int_le bound z)) (weight_that-holds p S items h)
    ∙ beq_itself (int_le bound (weight_of S items)))

pub excluded_entailed : (p : Program) (b : Body) (n : List Literal) → Stands (atoms_of p) b → Excludes p b n → Entailed p n
excluded_entailed p b n h e = record { excused = λ S stable hit. absurd (false≢true (sym (e.broken (values p S) hit) ∙ values_keep p S b e.stands h)) }
