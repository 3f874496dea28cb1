-- What a derivation of a set's atoms keeps true.
use Rattle.std.specs.Prelude.{◌≡◌, ℕ, ◌+◌, ◌<◌, Bool, true, false, not, ◌||◌, ◌⊎◌, List, filter, length, Option, is_none, int_le}
use Rattle.std.specs.List.{list_all}
use Rattle.asp_model.specs.declared.program.Body.{Body}
use Rattle.asp_model.specs.declared.program.Body.TheVariants as body
use Rattle.asp_model.specs.declared.program.Rule.{Rule}
use Rattle.asp_model.specs.declared.program.Program.{Program}
use Rattle.asp_model.specs.Sets.{Atoms, has}
use Rattle.asp_model.specs.Models.{atoms_of, least_model}
use Rattle.asp_vars.specs.Literals.{Literal, T, F, value_of, holds_in}
use Rattle.asp_vars.specs.Numbering.{normal, var_of_atom}
use Rattle.asp_vars.specs.Tabled.{form_literals, form_weights, heads_of}
use Rattle.asp_loop.specs.Weighing.{weigh}
use Rattle.asp_found.specs.Verdicts.{is_kept}

-- whether the body, in normal form, holds where these literals count
abbrev pub passes : Program → (Literal → Bool) → Body → Bool
passes p q (body.All literals) = list_all q (form_literals p (body.All literals))
passes p q (body.AtLeast bound items) =
    int_le bound (weigh q (form_literals p (body.AtLeast bound items)) (form_weights (body.AtLeast bound items)))

-- the atoms that are true
abbrev pub derived : Program → List (Option Bool) → Atoms
derived p x = filter (λ a. holds_in x (T (var_of_atom p a))) (atoms_of p)

-- The atoms outside of S are false, and no other. Those that are true are in the least model of its reduct.
pub record AreFounded (p : Program) (S : Atoms) (x : List (Option Bool)) : Type 0 where
  pub outside : (a : ℕ) → has (atoms_of p) a ≡ true → holds_in x (F (var_of_atom p a)) ≡ not (has S a)
  pub founded : (a : ℕ) → has (atoms_of p) a ≡ true → holds_in x (T (var_of_atom p a)) ≡ true → has (least_model p S) a ≡ true

-- Some of the heads that had no value are true now.
pub record Derives (heads : List ℕ) (x y : List (Option Bool)) : Type 0 where
  pub size : length y ≡ length x
  pub falses : (v : ℕ) → holds_in y (F v) ≡ holds_in x (F v)
  pub new : (v : ℕ) → holds_in y (T v) ≡ true → (holds_in x (T v) ≡ true) ⊎ ((has heads v ≡ true) × (holds_in x (F v) ≡ false))

-- Where the values x are founded, so are y.
pub record Founds (p : Program) (x y : List (Option Bool)) : Type 0 where
  pub size : length y ≡ length x
  pub founded : (S : Atoms) → AreFounded p S x → AreFounded p S y

-- Each of the first n variables has a value.
abbrev pub AreWhole : List (Option Bool) → ℕ → Type 0
AreWhole x n = (v : ℕ) → v < n → is_none (value_of x (v + 1)) ≡ false

-- whether the body doesn't hold, or all of its heads have values
abbrev pub is_done : Program → List (Option Bool) → Body → Bool
is_done p x b = not (passes p (holds_in x) b) || list_all (λ v. not (is_none (value_of x v))) (heads_of p b)

-- whether the head of the rule is as it must be in S, where its body holds by the values
abbrev pub keeps : Program → Atoms → List (Option Bool) → Rule → Bool
keeps p S x r = not (passes p (holds_in x) (normal r.body)) || is_kept S r.head
