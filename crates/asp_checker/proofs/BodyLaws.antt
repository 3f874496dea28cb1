-- Weight bodies as the code reads them.
use Rattle.std.proofs.Common.{◌≡◌, ℕ, zero, suc, ◌+◌, ◌<◌, ◌≤◌, Bool, true, false, not, cond, ◌&&◌, ◌||◌, List, [], ◌∷◌, map, length, take, get_or, refl, sym, ap, ◌∙◌, arith, Option, Some, None}
use Rattle.std.specs.Prelude.{ℤ, pos, ◌+ℤ◌, int_lt, int_le}
use Rattle.std.specs.List.{list_any}
use Rattle.std.proofs.lemmas.Bool.{or_left, or_right}
use Rattle.std.proofs.lemmas.Int.{ints}
use Rattle.std.proofs.lemmas.List.{take_all}
use Rattle.std.proofs.lemmas.List.Folds.{list_any_more}
use Rattle.asp_model.specs.declared.program.Body.{Body}
use Rattle.asp_model.specs.declared.program.Body.TheVariants as body
use Rattle.asp_model.specs.declared.program.Program.{Program}
use Rattle.asp_vars.specs.Literals.{Literal, T, F, agrees, value_of, holds_in}
use Rattle.asp_vars.specs.Numbering.{var_of_form, literal_of}
use Rattle.asp_vars.specs.Tabled.{bound_of, form_literals, form_weights}
use Rattle.asp_loop.specs.Weighing.{weigh}
use Rattle.asp_checker.specs.Propagation.{may_hold, weight_by, is_broken}

-- ---- some of a list
pub any_at : {X : Type 0} (p : X → Bool) (xs : List X) (i : ℕ) (d : X) → i < length xs → p (get_or xs i d) ≡ true → list_any p xs ≡ true
any_at p [] i d lt e = absurd (omega arith)
any_at p (x ∷ xs) zero d lt e = or_left (p x) (list_any p xs) e
any_at p (x ∷ xs) (suc i) d lt e = or_right (p x) (list_any p xs) (any_at p xs i d (omega arith) e)

pub any_none : {X : Type 0} (p : X → Bool) (xs : List X) (i : ℕ) (d : X) → i < length xs → list_any p (take i xs) ≡ false → p (get_or xs i d) ≡ false → list_any p (take (i + 1) xs) ≡ false
any_none p xs i d lt before now = list_any_more p xs i d lt ∙ ap (λ b. b || p (get_or xs i d)) before ∙ now

pub none_whole : {X : Type 0} (p : X → Bool) (xs : List X) (i : ℕ) → length xs ≤ i → list_any p (take i xs) ≡ false → false ≡ list_any p xs
none_whole p xs i le e = sym (ap (list_any p) (sym (take_all i xs le)) ∙ e)

-- ---- a weight body by its literals and weights
weigh-items : (p : Program) (q : Literal → Bool) (items : List (ℤ × ℤ)) → weigh q (map (λ i. literal_of p i.0) items) (map (λ i. i.1) items) ≡ weight_by q p items
weigh-items p q [] = refl
weigh-items p q (i ∷ items) = ap (λ w. cond (q (literal_of p i.0)) i.1 (pos 0) +ℤ w) (weigh-items p q items)

-- by the value of the body's variable
abbrev pub broken_with : Option Bool → ℤ → ℤ → ℤ → Bool
broken_with None c high low = false
broken_with (Some true) c high low = not (int_le c high)
broken_with (Some false) c high low = int_le c low

less_not : (a c : ℤ) → int_lt a c ≡ not (int_le c a)
less_not a c = grind (arith, ints)

or_false : (b : Bool) → (b || false) ≡ b
or_false true = refl
or_false false = refl

by_value : (x : List (Option Bool)) (v : ℕ) (c high low : ℤ) (o : Option Bool) → value_of x v ≡ o →
    ((holds_in x (T v) && int_lt high c) || (holds_in x (F v) && int_le c low)) ≡ broken_with o c high low
by_value x v c high low None e = ap (λ (r : Option Bool). (agrees r (T v) && int_lt high c) || (agrees r (F v) && int_le c low)) e
by_value x v c high low (Some true) e = ap (λ (r : Option Bool). (agrees r (T v) && int_lt high c) || (agrees r (F v) && int_le c low)) e ∙ or_false (int_lt high c) ∙ less_not high c
by_value x v c high low (Some false) e = ap (λ (r : Option Bool). (agrees r (T v) && int_lt high c) || (agrees r (F v) && int_le c low)) e

pub broken_by : (p : Program) (x : List (Option Bool)) (b : Body) (c : ℤ) (o : Option Bool) → bound_of b ≡ Some c → value_of x (var_of_form p b) ≡ o →
    is_broken p x b ≡ broken_with o c (weigh (may_hold x) (form_literals p b) (form_weights b)) (weigh (holds_in x) (form_literals p b) (form_weights b))
broken_by p x (body.All literals) c o e is = cc e
broken_by p x (body.AtLeast bound items) c o e is =
    let same : bound ≡ c = cc e in
    let v : ℕ = var_of_form p (body.AtLeast bound items) in
    by_value x v bound (weight_by (may_hold x) p items) (weight_by (holds_in x) p items) o is
    ∙ ap (λ n. broken_with o n (weight_by (may_hold x) p items) (weight_by (holds_in x) p items)) same
    ∙ ap (λ h. broken_with o c h (weight_by (holds_in x) p items)) (sym (weigh-items p (may_hold x) items))
    ∙ ap (λ l. broken_with o c (weigh (may_hold x) (map (λ i. literal_of p i.0) items) (map (λ i. i.1) items)) l) (sym (weigh-items p (holds_in x) items))

pub unbounded : (p : Program) (x : List (Option Bool)) (b : Body) → bound_of b ≡ None → is_broken p x b ≡ false
unbounded p x (body.All literals) e = refl
unbounded p x (body.AtLeast bound items) e = cc e
