-- Bodies in normal form, as the code has them.
use Rattle.std.specs.Prelude.{ℕ, ◌*◌, List, [], ◌∷◌, flat_map, ℤ, pos, neg_ℤ, ◌≤ℤ◌}
use Rattle.asp_model.specs.declared.program.Body.{Body}
use Rattle.asp_model.specs.declared.program.Body.TheVariants as body
use Rattle.asp_compile.specs.declared.form.Form.{Form}
use Rattle.asp_compile.specs.declared.form.Form.TheVariants as form

abbrev pub body_of : Form → Body
body_of (form.All literals) = body.All literals
body_of (form.AtLeast bound items) = body.AtLeast bound items

-- so many weights of 32 bits can have this sum
abbrev pub IsSmall : ℕ → ℤ → Type 0
IsSmall n sum = (neg_ℤ (pos (2147483648 * n)) ≤ℤ sum) × (sum ≤ℤ pos (2147483648 * n))

-- ---- the words by which a body is looked up
abbrev pub item_words : List (ℤ × ℤ) → List ℤ
item_words items = flat_map (λ i. i.0 ∷ i.1 ∷ []) items

abbrev pub key_of : Body → List ℤ
key_of (body.All literals) = pos 0 ∷ literals
key_of (body.AtLeast bound items) = pos 1 ∷ bound ∷ item_words items
