-- The rules that marks, rows of literals and what few rules have stand for.
use Rattle.std.specs.Prelude.{◌≡◌, ℕ, ℤ, pos, ◌<◌, List, [], ◌∷◌, length, slice_index_or}
use Rattle.asp_model.specs.declared.program.Body.TheVariants as body
use Rattle.asp_model.specs.declared.program.Head.{Head}
use Rattle.asp_model.specs.declared.program.Head.TheVariants as head
use Rattle.asp_model.specs.declared.program.Output.{Output}
use Rattle.asp_model.specs.declared.program.Rule.{Rule}
use Rattle.asp_model.specs.declared.extras.Extras.{Extras}
use Rattle.asp_model.specs.declared.extras.HeadMark.{HeadMark}
use Rattle.asp_model.specs.declared.extras.HeadMark.TheVariants as head_mark
use Rattle.asp_model.specs.declared.extras.Mark.{Mark}
use Rattle.asp_model.specs.declared.extras.Mark.TheVariants as mark
use Rattle.asp_model.specs.declared.extras.Weighted.{Weighted}

-- ---- two lists, place by place
abbrev pub zipped : {M R X : Type 0} → (M → R → X) → List M → List R → List X
zipped f [] rs = []
zipped f (m ∷ ms) [] = []
zipped f (m ∷ ms) (r ∷ rs) = f m r ∷ zipped f ms rs

-- The first list's are as they should be, and the lists are of one length.
abbrev pub AreZipped : {M R : Type 0} → (M → Type 0) → List M → List R → Type 0
AreZipped P [] [] = Unit {0}
AreZipped P [] (r ∷ rs) = ⊥
AreZipped P (m ∷ ms) [] = ⊥
AreZipped P (m ∷ ms) (r ∷ rs) = P m × AreZipped P ms rs

-- ---- rules
abbrev pub mark_of : HeadMark → Mark
mark_of (head_mark.One a) = mark.One a
mark_of (head_mark.Choice row) = mark.Choice row
mark_of head_mark.Never = mark.Never

abbrev pub head_of : Extras → HeadMark → Head
head_of e (head_mark.One a) = head.One a
head_of e (head_mark.Choice row) = head.Choice (slice_index_or e.choices row [])
head_of e head_mark.Never = head.Never

-- the rule over weights at a place
abbrev pub weighted_in : Extras → ℕ → Weighted
weighted_in e k = slice_index_or e.weighted.items k (record { head = head_mark.Never; bound = pos 0; row = 0 })

abbrev pub weighted_rule : Extras → ℕ → Rule
weighted_rule e k =
    record { head = head_of e (weighted_in e k).head; body = body.AtLeast (weighted_in e k).bound (slice_index_or e.items (weighted_in e k).row []) }

abbrev pub rule_of : Extras → Mark → List ℤ → Rule
rule_of e (mark.One a) literals = record { head = head.One a; body = body.All literals }
rule_of e (mark.Choice row) literals = record { head = head.Choice (slice_index_or e.choices row []); body = body.All literals }
rule_of e mark.Never literals = record { head = head.Never; body = body.All literals }
rule_of e (mark.Weighted k) literals = weighted_rule e k

-- each with the row of literals at its place
abbrev pub rules_of : Extras → List Mark → List (List ℤ) → List Rule
rules_of e ms rows = zipped (rule_of e) ms rows

-- ---- what marks point to is there
abbrev pub IsHeadStored : Extras → HeadMark → Type 0
IsHeadStored e (head_mark.One a) = Unit {0}
IsHeadStored e (head_mark.Choice row) = row < length e.choices
IsHeadStored e head_mark.Never = Unit {0}

pub record IsWeightedStored (e : Extras) (k : ℕ) : Type 0 where
  pub place : k < length e.weighted.items
  pub head : IsHeadStored e (weighted_in e k).head
  pub items : (weighted_in e k).row < length e.items

abbrev pub IsStored : Extras → Mark → Type 0
IsStored e (mark.One a) = Unit {0}
IsStored e (mark.Choice row) = row < length e.choices
IsStored e mark.Never = Unit {0}
IsStored e (mark.Weighted k) = IsWeightedStored e k

-- All marks have their rows.
abbrev pub AreStored : Extras → List Mark → List (List ℤ) → Type 0
AreStored e ms rows = AreZipped (IsStored e) ms rows

-- What is stored in d is in e too, and says the same.
pub record Keeps (d e : Extras) : Type 0 where
  pub heads : (m : HeadMark) → IsHeadStored d m → IsHeadStored e m × (head_of e m ≡ head_of d m)
  pub rules : (m : Mark) (literals : List ℤ) → IsStored d m → IsStored e m × (rule_of e m literals ≡ rule_of d m literals)

-- ---- outputs, each with the row of its condition
abbrev pub output_of : List (List ℤ) → ℕ → List ℕ → Output
output_of conditions k text = record { text = text; condition = slice_index_or conditions k [] }

abbrev pub outputs_of : List (List ℤ) → List ℕ → List (List ℕ) → List Output
outputs_of conditions ks texts = zipped (output_of conditions) ks texts

abbrev pub AreOutputsStored : List (List ℤ) → List ℕ → List (List ℕ) → Type 0
AreOutputsStored conditions ks texts = AreZipped (λ k. k < length conditions) ks texts
