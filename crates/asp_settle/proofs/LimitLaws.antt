-- A program with constraints in place of rules is within the ranges and limits, and has no other atoms.
use Rattle.std.proofs.Common.{◌≡◌, ℕ, Bool, true, false, not, cond, ◌&&◌, ◌||◌, eqb, List, [], ◌∷◌, ◌++◌, length, map, filter, flat_map, ℤ, refl, sym, ap, ◌∙◌, inl, inr, arith}
use Rattle.std.specs.Prelude.{nat_le, ◌+◌}
use Rattle.std.specs.List.{list_all, sum_by}
use Rattle.std.proofs.lemmas.Bool.{and_from, and_parts, false≢true, or_cases, or_left, or_right}
use Rattle.std.proofs.lemmas.List.{length-map}
use Rattle.std.proofs.lemmas.List.Folds.{list_any-append}
use Rattle.std.proofs.lemmas.List.Sums.{sum_by-cons}
use Rattle.asp_model.specs.declared.program.Head.{Head}
use Rattle.asp_model.specs.declared.program.Head.TheVariants as head
use Rattle.asp_model.specs.declared.program.Program.{Program}
use Rattle.asp_model.specs.declared.program.Rule.{Rule}
use Rattle.asp_model.specs.Sets.{Atoms, IsSubset, has}
use Rattle.asp_model.specs.Holding.{atom_of, body_atoms}
use Rattle.asp_model.specs.Models.{atoms_of, head_atoms, mentions}
use Rattle.asp_model.specs.Sound.{IsSound, has_room, is_atom, is_literal, is_sound_body, is_sound_head, is_sound_rule, weighted_count}
use Rattle.asp_model.proofs.SetLaws.{has-set_of}
use Rattle.asp_model.proofs.MemberLaws.{each_of, list_any-filter, list_any-flat_map, list_any-map, list_any-weaker}
use Rattle.asp_model.proofs.ConsequenceLaws.{has-filter}
use Rattle.asp_settle.specs.Constraints.{constrained_by, constrained_head, constrained_rule, is_barred}
use Rattle.asp_settle.proofs.SoundLaws.{all-filter, below-limit, fewer-filter, five}

-- ---- limits
sound_one : (a : ℕ) (c : Bool) → is_atom a ≡ true → is_sound_head (cond c head.Never (head.One a)) ≡ true
sound_one a true e = refl
sound_one a false e = e

sound-head : (N : Atoms) (h : Head) → is_sound_head h ≡ true → is_sound_head (constrained_head N h) ≡ true
sound-head N (head.One a) e = sound_one a (has N a) e
sound-head N (head.Choice atoms) e = all-filter is_atom (λ a. not (has N a)) atoms e
sound-head N head.Never e = refl

sound-rules : (N : Atoms) (rs : List Rule) → list_all is_sound_rule rs ≡ true → list_all is_sound_rule (map (constrained_rule N) rs) ≡ true
sound-rules N [] h = refl
sound-rules N (r ∷ rs) h =
    let parts = and_parts (is_sound_rule r) (list_all is_sound_rule rs) h in
    let rule = and_parts (is_sound_head r.head) (is_sound_body r.body) parts.0 in
    and_from (is_sound_rule (constrained_rule N r)) (list_all is_sound_rule (map (constrained_rule N) rs))
    (and_from (is_sound_head (constrained_head N r.head)) (is_sound_body r.body) (sound-head N r.head rule.0) rule.1) (sound-rules N rs parts.1)

weights-same : (N : Atoms) (rs : List Rule) → sum_by (λ (r : Rule). weighted_count r.body) (map (constrained_rule N) rs) ≡ sum_by (λ (r : Rule). weighted_count r.body) rs
weights-same N [] = refl
weights-same N (r ∷ rs) =
    let w : Rule → ℕ = λ x. weighted_count x.body in
    omega (arith, sum_by-cons w (constrained_rule N r) (map (constrained_rule N) rs), sum_by-cons w r rs, weights-same N rs)

pub sound-constrained : (N : Atoms) (p : Program) → IsSound p → IsSound (constrained_by N p)
sound-constrained N p sound = record {
  rules = sound-rules N p.rules sound.rules;
  minimize = sound.minimize;
  outputs = sound.outputs;
  externals = sound.externals;
  assumptions = all-filter is_literal (λ l. not (is_barred N l)) p.assumptions sound.assumptions;
  weighted = ap (λ n. nat_le (n + sum_by (λ m. length m.items) p.minimize) 16777216) (weights-same N p.rules) ∙ sound.weighted;
  room = five (has_room p.rules) (has_room p.minimize) (has_room p.outputs) (has_room p.externals) (has_room p.assumptions) _ _ _ _
      (λ h. ap (λ n. nat_le n 268435456) (length-map p.rules (constrained_rule N)) ∙ h) (λ h. h) (λ h. h)
      (below-limit (length (filter (λ l. not (is_barred N l)) p.assumptions)) (length p.assumptions) 268435456 (fewer-filter (λ l. not (is_barred N l)) p.assumptions))
      sound.room;
}

-- ---- atoms
head_within : (N : Atoms) (a : ℕ) (h : Head) → has (head_atoms (constrained_head N h)) a ≡ true → has (head_atoms h) a ≡ true
head_within N a (head.One b) e = by (has N b) e
  where
    by : (c : Bool) → has (head_atoms (cond c head.Never (head.One b))) a ≡ true → (eqb b a || false) ≡ true
    by true k = absurd (false≢true k)
    by false k = k
head_within N a (head.Choice atoms) e = (and_parts (not (has N a)) (has atoms a) (sym (has-filter (λ b. not (has N b)) atoms a) ∙ e)).1
head_within N a head.Never e = e

both_within : (a : ℕ) (xs ys xs' ys' : List ℕ) → (has xs a ≡ true → has xs' a ≡ true) → (has ys a ≡ true → has ys' a ≡ true) → has (xs ++ ys) a ≡ true → has (xs' ++ ys') a ≡ true
both_within a xs ys xs' ys' f g h =
    list_any-append (λ b. eqb b a) xs' ys' ∙ elim (or_cases (has xs a) (has ys a) (sym (list_any-append (λ b. eqb b a) xs ys) ∙ h)) [
      | inl e ↦ or_left (has xs' a) (has ys' a) (f e)
      | inr e ↦ or_right (has xs' a) (has ys' a) (g e)
    ]

abbrev atoms_at : Rule → List ℕ
atoms_at r = head_atoms r.head ++ body_atoms r.body

rules_within : (N : Atoms) (a : ℕ) (rs : List Rule) → has (flat_map atoms_at (map (constrained_rule N) rs)) a ≡ true → has (flat_map atoms_at rs) a ≡ true
rules_within N a rs h =
    list_any-flat_map (λ b. eqb b a) atoms_at rs
    ∙ list_any-weaker (λ r. has (atoms_at (constrained_rule N r)) a) (λ r. has (atoms_at r) a) rs (each_of (λ r. has (atoms_at (constrained_rule N r)) a ≡ true → has (atoms_at r) a ≡ true) (λ r.
    both_within a (head_atoms (constrained_head N r.head)) (body_atoms r.body) (head_atoms r.head) (body_atoms r.body) (head_within N a r.head) (λ e. e)) rs)
    (sym (list_any-map (λ r. has (atoms_at r) a) (constrained_rule N) rs) ∙ sym (list_any-flat_map (λ b. eqb b a) atoms_at (map (constrained_rule N) rs)) ∙ h)

assumed_within : (q : ℤ → Bool) (a : ℕ) (ls : List ℤ) → has (map atom_of (filter q ls)) a ≡ true → has (map atom_of ls) a ≡ true
assumed_within q a ls h =
    list_any-map (λ b. eqb b a) atom_of ls
    ∙ list_any-weaker (λ l. q l && eqb (atom_of l) a) (λ l. eqb (atom_of l) a) ls
    (each_of (λ l. (q l && eqb (atom_of l) a) ≡ true → eqb (atom_of l) a ≡ true) (λ l e. (and_parts (q l) (eqb (atom_of l) a) e).1) ls)
    (sym (list_any-filter (λ l. eqb (atom_of l) a) q ls) ∙ sym (list_any-map (λ b. eqb b a) atom_of (filter q ls)) ∙ h)

pub atoms-constrained : (N : Atoms) (p : Program) → IsSubset (atoms_of (constrained_by N p)) (atoms_of p)
atoms-constrained N p a h =
    let left : List ℕ = flat_map atoms_at (map (constrained_rule N) p.rules) in
    let rules : List ℕ = flat_map atoms_at p.rules in
    let items : List ℕ = flat_map (λ m. map (λ item. atom_of item.0) m.items) p.minimize in
    let outputs : List ℕ = flat_map (λ o. map atom_of o.condition) p.outputs in
    let externals : List ℕ = map (λ e. e.atom) p.externals in
    let kept : List ℕ = map atom_of (filter (λ l. not (is_barred N l)) p.assumptions) in
    has-set_of (mentions p) a
    ∙ both_within a (((left ++ items) ++ outputs) ++ externals) kept (((rules ++ items) ++ outputs) ++ externals) (map atom_of p.assumptions)
    (both_within a ((left ++ items) ++ outputs) externals ((rules ++ items) ++ outputs) externals
    (both_within a (left ++ items) outputs (rules ++ items) outputs
    (both_within a left items rules items (rules_within N a p.rules) (λ e. e)) (λ e. e)) (λ e. e))
    (assumed_within (λ l. not (is_barred N l)) a p.assumptions)
    (sym (has-set_of (mentions (constrained_by N p)) a) ∙ h)
