-- The same texts are shown.
use Rattle.std.proofs.Common.{◌≡◌, ℕ, Bool, true, false, not, cond, ◌&&◌, List, [], ◌∷◌, ◌++◌, map, filter, flat_map, ℤ, refl, sym, ap, ◌∙◌}
use Rattle.std.specs.List.{list_any}
use Rattle.std.proofs.lemmas.List.{map-append}
use Rattle.std.proofs.lemmas.List.Elements.{filter-append}
use Rattle.asp_model.specs.declared.program.Output.{Output}
use Rattle.asp_model.specs.declared.program.Program.{Program}
use Rattle.asp_model.specs.Sets.{Atoms, has}
use Rattle.asp_model.specs.Holding.{all_hold, atom_of, holds}
use Rattle.asp_model.specs.Texts.{shown}
use Rattle.asp_settle.specs.Constraints.{is_barred}
use Rattle.asp_settle.specs.Settled.{facts_in, left_in, settled_output, united}
use Rattle.asp_settle.proofs.ReadLaws.{all-others, holds-united}

-- the texts of those of the outputs whose conditions hold
abbrev texts : Atoms → List Output → List (List ℕ)
texts S os = map (λ o. o.text) (filter (λ o. all_hold S o.condition) os)

texts-append : (S : Atoms) (xs ys : List Output) → texts S (xs ++ ys) ≡ texts S xs ++ texts S ys
texts-append S xs ys = ap (map (λ (o : Output). o.text)) (filter-append (λ (o : Output). all_hold S o.condition) xs ys) ∙ map-append (λ (o : Output). o.text) _ _

one_text : (S : Atoms) (t : List ℕ) (c : Bool) (ls : List ℤ) → texts S (map (λ ks. record { text = t; condition = ks }) (cond c [] (ls ∷ []))) ≡ cond (not c && all_hold S ls) (t ∷ []) []
one_text S t true ls = refl
one_text S t false ls = by (all_hold S ls)
  where
    by : (b : Bool) → map (λ (o : Output). o.text) (cond b (record { text = t; condition = ls } ∷ []) []) ≡ cond b (t ∷ []) []
    by true = refl
    by false = refl

shown_first : (S : Atoms) (o : Output) (os : List Output) → texts S (o ∷ os) ≡ cond (all_hold S o.condition) (o.text ∷ []) [] ++ texts S os
shown_first S o os = by (all_hold S o.condition)
  where
    by : (b : Bool) → map (λ (x : Output). x.text) (cond b (o ∷ filter (λ x. all_hold S x.condition) os) (filter (λ x. all_hold S x.condition) os)) ≡ cond b (o.text ∷ []) [] ++ texts S os
    by true = refl
    by false = refl

texts-left : (F S : Atoms) (os : List Output) → texts (united F S) os ≡ texts S (flat_map (settled_output F) os)
texts-left F S [] = refl
texts-left F S (o ∷ os) =
    shown_first (united F S) o os
    ∙ ap (λ b. cond b (o.text ∷ []) [] ++ texts (united F S) os) (all-others F (holds (united F S)) (holds S) (holds-united F S) o.condition)
    ∙ ap (λ ts. ts ++ texts (united F S) os) (sym (one_text S o.text (list_any (is_barred F) o.condition) (filter (λ l. not (has F (atom_of l))) o.condition)))
    ∙ ap (λ ts. texts S (settled_output F o) ++ ts) (texts-left F S os)
    ∙ sym (texts-append S (settled_output F o) (flat_map (settled_output F) os))

pub shown-left : (p : Program) (S : Atoms) → shown p (united (facts_in p) S) ≡ shown (left_in p) S
shown-left p S = texts-left (facts_in p) S p.outputs
