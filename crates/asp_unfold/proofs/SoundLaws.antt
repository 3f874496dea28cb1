-- A program whose minimise statements are unfolded is within the ranges and limits.
use Rattle.std.proofs.Common.{◌≡◌, ◌⊎◌, ℕ, ◌+◌, true, ◌&&◌, leb, List, [], ◌∷◌, map, length, refl, ap, ◌∙◌, ℤ, inl, inr, Some, arith}
use Rattle.std.specs.List.{list_all, sum_by}
use Rattle.std.proofs.lemmas.Bool.{and_from, and_parts}
use Rattle.std.proofs.lemmas.List.{length-map}
use Rattle.std.proofs.lemmas.List.Sums.{sum_by-cons}
use Rattle.asp_model.specs.declared.program.Minimize.{Minimize}
use Rattle.asp_model.specs.declared.program.Rule.{Rule}
use Rattle.asp_model.specs.declared.program.Program.{Program}
use Rattle.asp_model.specs.Holding.{atom_of}
use Rattle.asp_model.specs.Sound.{IsSound, has_room, is_atom, is_literal, is_sound_minimize, weighted_count}
use Rattle.asp_unfold.specs.Unfolded.{literal_of, rules_for, unfolded, unfolded_literal, unfolded_minimize}
use Rattle.asp_unfold.proofs.DefinedLaws.{defined-literal, unfolded-is}

literal-sound : (p : Program) (l : ℤ) → IsSound p → is_literal l ≡ true → is_literal (unfolded_literal p.rules l) ≡ true
literal-sound p l sound h = by (unfolded-is p.rules l)
  where
    by : (unfolded_literal p.rules l ≡ l) ⊎
        ((m : ℤ) × (literal_of (rules_for (atom_of l) p.rules) ≡ Some m) × (atom_of (unfolded_literal p.rules l) ≡ atom_of m)) →
        is_literal (unfolded_literal p.rules l) ≡ true
    by (inl same) = ap is_literal same ∙ h
    by (inr one) = ap is_atom one.2 ∙ defined-literal p (atom_of l) one.0 sound one.1

items-sound : (p : Program) (items : List (ℤ × ℤ)) → IsSound p → list_all (λ (i : ℤ × ℤ). is_literal i.0) items ≡ true →
    list_all (λ (i : ℤ × ℤ). is_literal i.0) (map (λ (i : ℤ × ℤ). (unfolded_literal p.rules i.0, i.1)) items) ≡ true
items-sound p [] sound h = refl
items-sound p (i ∷ items) sound h =
    let parts = and_parts (is_literal i.0) (list_all (λ (i : ℤ × ℤ). is_literal i.0) items) h in
    and_from _ _ (literal-sound p i.0 sound parts.0) (items-sound p items sound parts.1)

statements-sound : (p : Program) (ms : List Minimize) → IsSound p → list_all is_sound_minimize ms ≡ true → list_all is_sound_minimize (map (unfolded_minimize p.rules) ms) ≡ true
statements-sound p [] sound h = refl
statements-sound p (m ∷ ms) sound h =
    let parts = and_parts (is_sound_minimize m) (list_all is_sound_minimize ms) h in
    and_from _ _ (items-sound p m.items sound parts.0) (statements-sound p ms sound parts.1)

same-count : (rules : List Rule) (ms : List Minimize) → sum_by (λ (m : Minimize). length m.items) (map (unfolded_minimize rules) ms) ≡ sum_by (λ (m : Minimize). length m.items) ms
same-count rules [] = refl
same-count rules (m ∷ ms) =
    let f : Minimize → ℕ = λ x. length x.items in
    let g : ℤ × ℤ → ℤ × ℤ = λ i. (unfolded_literal rules i.0, i.1) in
    omega (arith, sum_by-cons f (unfolded_minimize rules m) (map (unfolded_minimize rules) ms), sum_by-cons f m ms, length-map m.items g, same-count rules ms)

pub sound-unfolded : (p : Program) → IsSound p → IsSound (unfolded p)
sound-unfolded p sound = record {
  rules = sound.rules;
  minimize = statements-sound p p.minimize sound sound.minimize;
  outputs = sound.outputs;
  externals = sound.externals;
  assumptions = sound.assumptions;
  weighted = ap (λ (n : ℕ). leb (sum_by (λ (r : Rule). weighted_count r.body) p.rules + n) 16777216) (same-count p.rules p.minimize) ∙ sound.weighted;
  room = ap (λ (n : ℕ). has_room p.rules && leb n 268435456 && has_room p.outputs && has_room p.externals && has_room p.assumptions) (length-map p.minimize (unfolded_minimize p.rules)) ∙ sound.room;
}
