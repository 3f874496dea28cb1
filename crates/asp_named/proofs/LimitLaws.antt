-- A program whose outputs have atoms is within the ranges and limits, and is the program itself where none of them needs one.
use Rattle.std.proofs.Common.{◌≡◌, ℕ, ◌+◌, ◌<◌, ◌≤◌, Bool, true, false, cond, ◌&&◌, ◌||◌, leb, List, [], ◌∷◌, ◌++◌, length, refl, sym, ap, ◌∙◌, subst, arith, append-nil, inl, inr, pos}
use Rattle.std.specs.Prelude.{Some, None}
use Rattle.std.specs.List.{list_all, sum_by}
use Rattle.std.proofs.lemmas.Bool.{and_from, and_parts, le-leb, leb-true, lt-ltb, or_cases}
use Rattle.std.proofs.lemmas.List.{length-append}
use Rattle.std.proofs.lemmas.List.Folds.{list_all-append}
use Rattle.std.proofs.lemmas.List.Sums.{sum_by-append}
use Rattle.asp_model.specs.declared.program.Body.TheVariants as body
use Rattle.asp_model.specs.declared.program.Head.TheVariants as head
use Rattle.asp_model.specs.declared.program.Rule.{Rule}
use Rattle.asp_model.specs.declared.program.Output.{Output}
use Rattle.asp_model.specs.declared.program.Program.{Program}
use Rattle.asp_model.specs.Sound.{IsSound, has_room, is_atom, is_sound_output, is_sound_rule, weighted_count, weighted_total}
use Rattle.asp_named.specs.Named.{are_plain, first_free, fits, has_numbers, is_plain, named, named_if, named_output, named_outputs, naming_rule, naming_rules}

-- ---- no output needs an atom
no-rules : (a : ℕ) (os : List Output) → are_plain os ≡ true → naming_rules a os ≡ []
no-rules a [] h = refl
no-rules a (o ∷ os) h =
    let parts = and_parts (is_plain o.condition) (are_plain os) h in
    ap (λ (b : Bool). cond b [] (record { head = head.One a; body = body.All o.condition } ∷ []) ++ naming_rules (a + 1) os) parts.0 ∙ no-rules (a + 1) os parts.1

same-outputs : (a : ℕ) (os : List Output) → are_plain os ≡ true → named_outputs a os ≡ os
same-outputs a [] h = refl
same-outputs a (o ∷ os) h =
    let parts = and_parts (is_plain o.condition) (are_plain os) h in
    ap (λ (b : Bool). cond b o (record { text = o.text; condition = pos a ∷ [] }) ∷ named_outputs (a + 1) os) parts.0 ∙ ap (λ (xs : List Output). o ∷ xs) (same-outputs (a + 1) os parts.1)

pub named-plain : (p : Program) → are_plain p.outputs ≡ true → named p ≡ p
named-plain p h =
    ap (λ (rs : List Rule). record p { rules = p.rules ++ rs; outputs = named_outputs (first_free p) p.outputs }) (no-rules (first_free p) p.outputs h)
    ∙ ap (λ (rs : List Rule). record p { rules = rs; outputs = named_outputs (first_free p) p.outputs }) (append-nil p.rules)
    ∙ ap (λ (os : List Output). record p { outputs = os }) (same-outputs (first_free p) p.outputs h)

pub named_if-plain : (p : Program) → are_plain p.outputs ≡ true → named_if p ≡ Some p
named_if-plain p h = ap (λ (b : Bool). cond (b || fits (first_free p) p) (Some (named p)) None) h ∙ ap Some (named-plain p h)

-- ---- limits
an-atom : (a : ℕ) → 0 < a → a < 2147483648 → is_atom a ≡ true
an-atom a low high = and_from _ _ (lt-ltb 0 a low) (lt-ltb a 2147483648 high)

sound-rule : (a : ℕ) (o : Output) → is_atom a ≡ true → is_sound_output o ≡ true → list_all is_sound_rule (naming_rule a o) ≡ true
sound-rule a o atom sound = by (is_plain o.condition)
  where
    by : (b : Bool) → list_all is_sound_rule (cond b [] (record { head = head.One a; body = body.All o.condition } ∷ [])) ≡ true
    by true = refl
    by false = and_from _ true (and_from _ _ atom sound) refl

sound-rules : (a : ℕ) (os : List Output) → 0 < a → a + length os ≤ 2147483648 → list_all is_sound_output os ≡ true → list_all is_sound_rule (naming_rules a os) ≡ true
sound-rules a [] low high h = refl
sound-rules a (o ∷ os) low high h =
    let parts = and_parts (is_sound_output o) (list_all is_sound_output os) h in
    list_all-append is_sound_rule (naming_rule a o) (naming_rules (a + 1) os)
    ∙ and_from _ _ (sound-rule a o (an-atom a low (omega arith)) parts.0) (sound-rules (a + 1) os (omega arith) (omega arith) parts.1)

sound-output : (a : ℕ) (o : Output) → is_atom a ≡ true → is_sound_output o ≡ true → is_sound_output (named_output a o) ≡ true
sound-output a o atom sound = by (is_plain o.condition)
  where
    by : (b : Bool) → is_sound_output (cond b o (record { text = o.text; condition = pos a ∷ [] })) ≡ true
    by true = sound
    by false = and_from _ true atom refl

sound-outputs : (a : ℕ) (os : List Output) → 0 < a → a + length os ≤ 2147483648 → list_all is_sound_output os ≡ true → list_all is_sound_output (named_outputs a os) ≡ true
sound-outputs a [] low high h = refl
sound-outputs a (o ∷ os) low high h =
    let parts = and_parts (is_sound_output o) (list_all is_sound_output os) h in
    and_from _ _ (sound-output a o (an-atom a low (omega arith)) parts.0) (sound-outputs (a + 1) os (omega arith) (omega arith) parts.1)

few-rules : (a : ℕ) (o : Output) → (length (naming_rule a o) ≤ 1) × (sum_by (λ (r : Rule). weighted_count r.body) (naming_rule a o) ≡ 0)
few-rules a o = by (is_plain o.condition)
  where
    by : (b : Bool) → (length {A = Rule} (cond b [] (record { head = head.One a; body = body.All o.condition } ∷ [])) ≤ 1)
        × (sum_by (λ (r : Rule). weighted_count r.body) (cond b [] (record { head = head.One a; body = body.All o.condition } ∷ [])) ≡ 0)
    by true = (omega arith, refl)
    by false = (omega arith, refl)

counts : (a : ℕ) (os : List Output) → (length (naming_rules a os) ≤ length os) × (sum_by (λ (r : Rule). weighted_count r.body) (naming_rules a os) ≡ 0)
counts a [] = (omega arith, refl)
counts a (o ∷ os) =
    let one = few-rules a o in
    let more = counts (a + 1) os in
    let w : Rule → ℕ = λ (r : Rule). weighted_count r.body in
    let n = length-append (naming_rule a o) (naming_rules (a + 1) os) in
    let s = sum_by-append w (naming_rule a o) (naming_rules (a + 1) os) in
    (omega (arith, n, one.0, more.0), omega (arith, s, one.1, more.1))

outputs-count : (a : ℕ) (os : List Output) → length (named_outputs a os) ≡ length os
outputs-count a [] = refl
outputs-count a (o ∷ os) = omega (arith, outputs-count (a + 1) os)

roomy : (a b c d e a' c' : Bool) → a' ≡ true → (c ≡ true → c' ≡ true) → (a && b && c && d && e) ≡ true → (a' && b && c' && d && e) ≡ true
roomy a b c d e a' c' fa fc h =
    let p = and_parts (a && b && c && d) e h in
    let q = and_parts (a && b && c) d p.0 in
    let r = and_parts (a && b) c q.0 in
    let s = and_parts a b r.0 in
    and_from (a' && b && c' && d) e (and_from (a' && b && c') d (and_from (a' && b) c' (and_from a' b fa s.1) (fc r.1)) q.1) p.1

sound-fits : (p : Program) → IsSound p → fits (first_free p) p ≡ true → IsSound (named p)
sound-fits p sound h =
    let parts = and_parts _ _ h in
    let a = first_free p in
    let high : a + length p.outputs ≤ 2147483648 = leb-true _ _ parts.0 in
    let few : length p.rules + length p.outputs ≤ 268435456 = leb-true _ _ parts.1 in
    let n = counts a p.outputs in
    let w : Rule → ℕ = λ (r : Rule). weighted_count r.body in
    let same : weighted_total (named p) ≡ weighted_total p = omega (arith, sum_by-append w p.rules (naming_rules a p.outputs), n.1) in
    record {
      rules = list_all-append is_sound_rule p.rules (naming_rules a p.outputs) ∙ and_from _ _ sound.rules (sound-rules a p.outputs (omega arith) high sound.outputs);
      minimize = sound.minimize;
      outputs = sound-outputs a p.outputs (omega arith) high sound.outputs;
      externals = sound.externals;
      assumptions = sound.assumptions;
      weighted = ap (λ (k : ℕ). leb k 16777216) same ∙ sound.weighted;
      room = roomy (has_room p.rules) (has_room p.minimize) (has_room p.outputs) (has_room p.externals) (has_room p.assumptions) _ _
          (le-leb (length (p.rules ++ naming_rules a p.outputs)) 268435456 (omega (arith, length-append p.rules (naming_rules a p.outputs), n.0, few)))
          (λ e. ap (λ (k : ℕ). leb k 268435456) (outputs-count a p.outputs) ∙ e)
          sound.room;
    }

pub sound-named : (p : Program) → IsSound p → has_numbers p ≡ true → IsSound (named p)
sound-named p sound h = elim (or_cases (are_plain p.outputs) (fits (first_free p) p) h) [
  | inl plain ↦ subst IsSound (sym (named-plain p plain)) sound
  | inr fit ↦ sound-fits p sound fit
]
