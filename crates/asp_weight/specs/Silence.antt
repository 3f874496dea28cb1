-- When the weight bodies of a program imply nothing, under the values that some variables have.
use Rattle.std.specs.Prelude.{Bool, true, false, not, ◌||◌, ◌&&◌, if◌then◌else◌, List, [], ◌∷◌, Option, Some, None, ℤ, pos, ◌+ℤ◌, ◌-ℤ◌, int_lt, int_le}
use Rattle.std.specs.List.{list_all}
use Rattle.asp_model.specs.declared.program.Body.{Body}
use Rattle.asp_model.specs.declared.program.Body.TheVariants as body
use Rattle.asp_model.specs.declared.program.Program.{Program}
use Rattle.asp_vars.specs.Literals.{Literal, complement, value_of, holds_in}
use Rattle.asp_vars.specs.Numbering.{bodies_of, var_of_form, literal_of}
use Rattle.asp_trail.specs.Fixpoint.{is_open}

-- the sum of the weights of the literals that pass a test
abbrev pub weight_that : (Literal → Bool) → Program → List (ℤ × ℤ) → ℤ
weight_that t p [] = pos 0
weight_that t p (i ∷ items) = (if t (literal_of p i.0) then i.1 else pos 0) +ℤ weight_that t p items

-- of the literals that hold
abbrev pub low_of : Program → List (Option Bool) → List (ℤ × ℤ) → ℤ
low_of p a items = weight_that (holds_in a) p items

-- of the literals that aren't false
abbrev pub high_of : Program → List (Option Bool) → List (ℤ × ℤ) → ℤ
high_of p a items = weight_that (λ l. not (holds_in a (complement l))) p items

-- The weight of each literal whose variable has no value passes a test.
abbrev pub opens_pass : (ℤ → Bool) → Program → List (Option Bool) → List (ℤ × ℤ) → Bool
opens_pass t p a items = list_all (λ i. not (is_open a (literal_of p i.0)) || t i.1) items

-- by the value of the body's variable: neither it nor a literal of the body follows, and it isn't violated
abbrev pub is_silent_as : Option Bool → Program → List (Option Bool) → ℤ → List (ℤ × ℤ) → Bool
is_silent_as None p a bound items = int_lt (low_of p a items) bound && int_le bound (high_of p a items)
is_silent_as (Some true) p a bound items =
    int_le bound (high_of p a items) && opens_pass (λ w. int_le w (high_of p a items -ℤ bound)) p a items
is_silent_as (Some false) p a bound items =
    int_lt (low_of p a items) bound && opens_pass (λ w. int_lt w (bound -ℤ low_of p a items)) p a items

-- Normal bodies have no part in it.
abbrev pub is_silent_body : Program → List (Option Bool) → Body → Bool
is_silent_body p a (body.All literals) = true
is_silent_body p a (body.AtLeast bound items) =
    is_silent_as (value_of a (var_of_form p (body.AtLeast bound items))) p a bound items

abbrev pub is_silent : Program → List (Option Bool) → Bool
is_silent p a = list_all (is_silent_body p a) (bodies_of p)
