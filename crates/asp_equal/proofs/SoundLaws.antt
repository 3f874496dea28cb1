-- The merged program is within the ranges and limits.
use Rattle.std.proofs.Common.{◌≡◌, ℕ, zero, suc, ◌+◌, ◌^◌, ◌<◌, ◌≤◌, Bool, true, false, cond, ◌&&◌, leb, nat_lt, nat_le, List, [], ◌∷◌, length, map, flat_map, ℤ, pos, negsuc, neg_ℤ, int_le, refl, sym, ap, ◌∙◌, arith}
use Rattle.std.specs.List.{AllByRecursion, list_all, sum_by}
use Rattle.std.proofs.lemmas.Bool.{and_from, and_parts, le-leb, leb-true, lt-ltb, ltb-true}
use Rattle.std.proofs.lemmas.List.{length-append}
use Rattle.std.proofs.lemmas.List.Sums.{sum_by-append, sum_by-cons}
use Rattle.asp_model.specs.declared.program.Body.{Body}
use Rattle.asp_model.specs.declared.program.Body.TheVariants as body
use Rattle.asp_model.specs.declared.program.Head.{Head}
use Rattle.asp_model.specs.declared.program.Head.TheVariants as head
use Rattle.asp_model.specs.declared.program.Rule.{Rule}
use Rattle.asp_model.specs.declared.program.Minimize.{Minimize}
use Rattle.asp_model.specs.declared.program.Output.{Output}
use Rattle.asp_model.specs.declared.program.Program.{Program}
use Rattle.asp_model.specs.Holding.{atom_of}
use Rattle.asp_model.specs.Sound.{IsSound, has_room, is_atom, is_literal, is_sound_body, is_sound_head, is_sound_minimize, is_sound_output, is_sound_rule, is_weighted, weighted_count, weighted_total}
use Rattle.asp_model.proofs.MemberLaws.{each-flat_map, each_passes, each_weaker}
use Rattle.asp_equal.specs.Merged.{is_copying, merged_by, merged_rule, renamed, renamed_body, renamed_head, renamed_item, renamed_minimize, renamed_output, renamed_rule}
use Rattle.asp_equal.proofs.ReadLaws.{IsProper}

abbrev IsLow : (ℕ → ℕ) → Type 0
IsLow m = (a : ℕ) → m a ≤ a

-- ---- atoms and literals
atom_above : (k n a : ℕ) → (k ≡ 0 → ⊥) → k ≤ a → a < n → (nat_lt 0 k && nat_lt k n) ≡ true
atom_above zero n a some low h = absurd (some refl)
atom_above (suc k) n a some low h = and_from (nat_lt 0 (suc k)) (nat_lt (suc k) n) (lt-ltb 0 (suc k) (omega arith)) (lt-ltb (suc k) n (omega arith))

sound-atom : (m : ℕ → ℕ) → IsLow m → IsProper m → (a : ℕ) → is_atom a ≡ true → is_atom (m a) ≡ true
sound-atom m low proper zero e = absurd (omega (arith, ltb-true 0 0 (and_parts (nat_lt 0 0) (nat_lt 0 (2 ^ 31)) e).0))
sound-atom m low proper (suc a) e = atom_above (m (suc a)) (2 ^ 31) (suc a) (proper a) (low (suc a)) (ltb-true (suc a) (2 ^ 31) (and_parts (nat_lt 0 (suc a)) (nat_lt (suc a) (2 ^ 31)) e).1)

negated-atom : (k : ℕ) → atom_of (neg_ℤ (pos k)) ≡ k
negated-atom zero = refl
negated-atom (suc k) = refl

renamed-atom : (m : ℕ → ℕ) (l : ℤ) → atom_of (renamed m l) ≡ m (atom_of l)
renamed-atom m (pos a) = refl
renamed-atom m (negsuc a) = negated-atom (m (suc a))

sound-literal : (m : ℕ → ℕ) → IsLow m → IsProper m → (l : ℤ) → is_literal l ≡ true → is_literal (renamed m l) ≡ true
sound-literal m low proper l e = ap is_atom (renamed-atom m l) ∙ sound-atom m low proper (atom_of l) e

all-map : {X Y : Type 0} (p : X → Bool) (q : Y → Bool) (f : X → Y) → ((x : X) → p x ≡ true → q (f x) ≡ true) → (xs : List X) → list_all p xs ≡ true → list_all q (map f xs) ≡ true
all-map p q f h [] e = refl
all-map p q f h (x ∷ xs) e = let parts = and_parts (p x) (list_all p xs) e in and_from (q (f x)) (list_all q (map f xs)) (h x parts.0) (all-map p q f h xs parts.1)

-- ---- bodies, heads and rules
sound-body : (m : ℕ → ℕ) → IsLow m → IsProper m → (b : Body) → is_sound_body b ≡ true → is_sound_body (renamed_body m b) ≡ true
sound-body m low proper (body.All literals) e = all-map is_literal is_literal (renamed m) (sound-literal m low proper) literals e
sound-body m low proper (body.AtLeast bound items) e =
    all-map is_weighted is_weighted (renamed_item m) (λ i h.
    let parts = and_parts (is_literal i.0) (int_le (pos 0) i.1) h in
    and_from (is_literal (renamed m i.0)) (int_le (pos 0) i.1) (sound-literal m low proper i.0 parts.0) parts.1) items e

sound-head : (m : ℕ → ℕ) → IsLow m → IsProper m → (h : Head) → is_sound_head h ≡ true → is_sound_head (renamed_head m h) ≡ true
sound-head m low proper (head.One a) e = sound-atom m low proper a e
sound-head m low proper (head.Choice atoms) e = all-map is_atom is_atom m (sound-atom m low proper) atoms e
sound-head m low proper head.Never e = refl

sound-rule : (m : ℕ → ℕ) → IsLow m → IsProper m → (r : Rule) → is_sound_rule r ≡ true → is_sound_rule (renamed_rule m r) ≡ true
sound-rule m low proper r e =
    let parts = and_parts (is_sound_head r.head) (is_sound_body r.body) e in
    and_from (is_sound_head (renamed_head m r.head)) (is_sound_body (renamed_body m r.body)) (sound-head m low proper r.head parts.0) (sound-body m low proper r.body parts.1)

each-cond : {X : Type 0} (P : X → Type 0) (c : Bool) (x : X) → P x → AllByRecursion P (cond c [] (x ∷ []))
each-cond P true x h = tt
each-cond P false x h = (h, tt)

all_from : {X : Type 0} (p : X → Bool) (xs : List X) → AllByRecursion (λ x. p x ≡ true) xs → list_all p xs ≡ true
all_from p [] h = refl
all_from p (x ∷ xs) h = and_from (p x) (list_all p xs) h.0 (all_from p xs h.1)

sound-rules : (m : ℕ → ℕ) → IsLow m → IsProper m → (rs : List Rule) → list_all is_sound_rule rs ≡ true → list_all is_sound_rule (flat_map (merged_rule m) rs) ≡ true
sound-rules m low proper rs e =
    all_from is_sound_rule (flat_map (merged_rule m) rs)
    (each-flat_map (λ r. is_sound_rule r ≡ true) (merged_rule m) rs
    (each_weaker (λ r. is_sound_rule r ≡ true) (λ r. AllByRecursion (λ x. is_sound_rule x ≡ true) (merged_rule m r)) (λ r h.
    each-cond (λ x. is_sound_rule x ≡ true) (is_copying m r.head r.body) (renamed_rule m r) (sound-rule m low proper r h)) rs (each_passes is_sound_rule rs e)))

sound-statement : (m : ℕ → ℕ) → IsLow m → IsProper m → (s : Minimize) → is_sound_minimize s ≡ true → is_sound_minimize (renamed_minimize m s) ≡ true
sound-statement m low proper s e = all-map (λ i. is_literal i.0) (λ i. is_literal i.0) (renamed_item m) (λ i h. sound-literal m low proper i.0 h) s.items e

sound-output : (m : ℕ → ℕ) → IsLow m → IsProper m → (o : Output) → is_sound_output o ≡ true → is_sound_output (renamed_output m o) ≡ true
sound-output m low proper o e = all-map is_literal is_literal (renamed m) (sound-literal m low proper) o.condition e

-- ---- how many
same_length : {X Y : Type 0} (f : X → Y) (xs : List X) → length (map f xs) ≡ length xs
same_length f [] = refl
same_length f (x ∷ xs) = ap (λ n. suc n) (same_length f xs)

same_count : (m : ℕ → ℕ) (b : Body) → weighted_count (renamed_body m b) ≡ weighted_count b
same_count m (body.All literals) = refl
same_count m (body.AtLeast bound items) = same_length (renamed_item m) items

abbrev rule_count : Rule → ℕ
rule_count r = weighted_count r.body

one_few : (n : ℕ) (c : Bool) (r : Rule) → rule_count r ≡ n → (length (cond c [] (r ∷ [])) ≤ 1) × (sum_by rule_count (cond c [] (r ∷ [])) ≤ n)
one_few n true r e = (omega arith, omega arith)
one_few n false r e = (omega arith, omega (arith, e))

few-rules : (m : ℕ → ℕ) (rs : List Rule) → (length (flat_map (merged_rule m) rs) ≤ length rs) × (sum_by rule_count (flat_map (merged_rule m) rs) ≤ sum_by rule_count rs)
few-rules m [] = (omega arith, omega arith)
few-rules m (r ∷ rs) =
    let one = one_few (rule_count r) (is_copying m r.head r.body) (renamed_rule m r) (same_count m r.body) in
    let rest = few-rules m rs in (
      omega (arith, length-append (merged_rule m r) (flat_map (merged_rule m) rs), one.0, rest.0),
      omega (arith, sum_by-append rule_count (merged_rule m r) (flat_map (merged_rule m) rs), sum_by-cons rule_count r rs, one.1, rest.1),
    )

abbrev statement_count : Minimize → ℕ
statement_count s = length s.items

same_total : (m : ℕ → ℕ) (ss : List Minimize) → sum_by statement_count (map (renamed_minimize m) ss) ≡ sum_by statement_count ss
same_total m [] = refl
same_total m (s ∷ ss) =
    sum_by-cons statement_count (renamed_minimize m s) (map (renamed_minimize m) ss)
    ∙ ap (λ n. n + sum_by statement_count (map (renamed_minimize m) ss)) (same_length (renamed_item m) s.items)
    ∙ ap (λ n. length s.items + n) (same_total m ss)
    ∙ sym (sum_by-cons statement_count s ss)

below-limit : (a b n : ℕ) → a ≤ b → leb b n ≡ true → leb a n ≡ true
below-limit a b n le h = le-leb a n (omega (arith, leb-true b n h))

five : (a b c d e a' b' c' e' : Bool) → (a ≡ true → a' ≡ true) → (b ≡ true → b' ≡ true) → (c ≡ true → c' ≡ true) → (e ≡ true → e' ≡ true) →
    (a && b && c && d && e) ≡ true → (a' && b' && c' && d && e') ≡ true
five a b c d e a' b' c' e' fa fb fc fe h =
    let p = and_parts (a && b && c && d) e h in
    let q = and_parts (a && b && c) d p.0 in
    let r = and_parts (a && b) c q.0 in
    let s = and_parts a b r.0 in
    and_from (a' && b' && c' && d) e' (and_from (a' && b' && c') d (and_from (a' && b') c' (and_from a' b' (fa s.0) (fb s.1)) (fc r.1)) q.1) (fe p.1)

room-map : {X Y : Type 0} (f : X → Y) (xs : List X) → has_room xs ≡ true → has_room (map f xs) ≡ true
room-map f xs h = ap (λ n. nat_le n 268435456) (same_length f xs) ∙ h

pub sound-merged : (m : ℕ → ℕ) (p : Program) → ((a : ℕ) → m a ≤ a) → IsProper m → IsSound p → IsSound (merged_by m p)
sound-merged m p low proper sound = record {
  rules = sound-rules m low proper p.rules sound.rules;
  minimize = all-map is_sound_minimize is_sound_minimize (renamed_minimize m) (sound-statement m low proper) p.minimize sound.minimize;
  outputs = all-map is_sound_output is_sound_output (renamed_output m) (sound-output m low proper) p.outputs sound.outputs;
  externals = sound.externals;
  assumptions = all-map is_literal is_literal (renamed m) (sound-literal m low proper) p.assumptions sound.assumptions;
  weighted = below-limit (weighted_total (merged_by m p)) (weighted_total p) 16777216 (omega (arith, (few-rules m p.rules).1, same_total m p.minimize)) sound.weighted;
  room = five (has_room p.rules) (has_room p.minimize) (has_room p.outputs) (has_room p.externals) (has_room p.assumptions) _ _ _ _
      (below-limit (length (flat_map (merged_rule m) p.rules)) (length p.rules) 268435456 (few-rules m p.rules).0)
      (room-map (renamed_minimize m) p.minimize)
      (room-map (renamed_output m) p.outputs)
      (room-map (renamed m) p.assumptions)
      sound.room;
}
