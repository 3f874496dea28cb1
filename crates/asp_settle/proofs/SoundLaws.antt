-- What is left is within the ranges and limits.
use Rattle.std.proofs.Common.{◌≡◌, ℕ, ◌+◌, ◌≤◌, Bool, true, false, not, cond, ◌&&◌, leb, List, [], ◌∷◌, length, map, filter, flat_map, ℤ, refl, arith}
use Rattle.std.specs.List.{AllByRecursion, list_any, list_all, sum_by}
use Rattle.std.proofs.lemmas.Bool.{and_from, and_parts, le-leb, leb-true}
use Rattle.std.proofs.lemmas.List.{length-append}
use Rattle.std.proofs.lemmas.List.Sums.{sum_by-append, sum_by-cons}
use Rattle.asp_model.specs.declared.program.Body.{Body}
use Rattle.asp_model.specs.declared.program.Body.TheVariants as body
use Rattle.asp_model.specs.declared.program.Head.{Head}
use Rattle.asp_model.specs.declared.program.Head.TheVariants as head
use Rattle.asp_model.specs.declared.program.Rule.{Rule}
use Rattle.asp_model.specs.declared.program.Output.{Output}
use Rattle.asp_model.specs.declared.program.Program.{Program}
use Rattle.asp_model.specs.Sets.{Atoms, has}
use Rattle.asp_model.specs.Holding.{atom_of}
use Rattle.asp_model.specs.Sound.{IsSound, has_room, is_atom, is_literal, is_sound_body, is_sound_head, is_sound_output, is_sound_rule, is_weighted, weighted_count, weighted_total}
use Rattle.asp_model.proofs.MemberLaws.{each-flat_map, each-map, each_passes, each_weaker}
use Rattle.asp_settle.specs.Constraints.{is_barred}
use Rattle.asp_settle.specs.Settled.{facts_in, heads_of, left_in, settled_body, settled_head, settled_literals, settled_output, settled_rule}

all_from : {X : Type 0} (p : X → Bool) (xs : List X) → AllByRecursion (λ x. p x ≡ true) xs → list_all p xs ≡ true
all_from p [] h = refl
all_from p (x ∷ xs) h = and_from (p x) (list_all p xs) h.0 (all_from p xs h.1)

kept_all : {X : Type 0} (p : X → Bool) (c : Bool) (x : X) (xs : List X) → p x ≡ true → list_all p xs ≡ true → list_all p (cond c (x ∷ xs) xs) ≡ true
kept_all p true x xs e h = and_from (p x) (list_all p xs) e h
kept_all p false x xs e h = h

pub all-filter : {X : Type 0} (p q : X → Bool) (xs : List X) → list_all p xs ≡ true → list_all p (filter q xs) ≡ true
all-filter p q [] h = refl
all-filter p q (x ∷ xs) h = let parts = and_parts (p x) (list_all p xs) h in kept_all p (q x) x (filter q xs) parts.0 (all-filter p q xs parts.1)

-- what every rule, or every output, leaves
all-left : {X Y : Type 0} (p : X → Bool) (q : Y → Bool) (f : X → List Y) → ((x : X) → p x ≡ true → AllByRecursion (λ y. q y ≡ true) (f x)) →
    (xs : List X) → list_all p xs ≡ true → list_all q (flat_map f xs) ≡ true
all-left p q f h xs all =
    all_from q (flat_map f xs) (each-flat_map (λ y. q y ≡ true) f xs (each_weaker (λ x. p x ≡ true) (λ x. AllByRecursion (λ y. q y ≡ true) (f x)) h xs (each_passes p xs all)))

each-cond : {X : Type 0} (P : X → Type 0) (c : Bool) (x : X) → P x → AllByRecursion P (cond c [] (x ∷ []))
each-cond P true x h = tt
each-cond P false x h = (h, tt)

sound-literals : (F : Atoms) (ls : List ℤ) → list_all is_literal ls ≡ true → AllByRecursion (λ ks. list_all is_literal ks ≡ true) (settled_literals F ls)
sound-literals F ls h =
    each-cond (λ ks. list_all is_literal ks ≡ true) (list_any (is_barred F) ls) (filter (λ l. not (has F (atom_of l))) ls) (all-filter is_literal (λ l. not (has F (atom_of l))) ls h)

sound-body : (F : Atoms) (b : Body) → is_sound_body b ≡ true → AllByRecursion (λ x. is_sound_body x ≡ true) (settled_body F b)
sound-body F (body.All ls) h = each-map (λ x. is_sound_body x ≡ true) (λ ks. body.All ks) (settled_literals F ls) (sound-literals F ls h)
sound-body F (body.AtLeast bound items) h = (all-filter is_weighted (λ i. not (has F (atom_of i.0))) items h, tt)

sound-head : (F : Atoms) (h : Head) → is_sound_head h ≡ true → AllByRecursion (λ x. is_sound_head x ≡ true) (settled_head F h)
sound-head F (head.One a) e = each-cond (λ x. is_sound_head x ≡ true) (has F a) (head.One a) e
sound-head F (head.Choice atoms) e = (all-filter is_atom (λ a. not (has F a)) atoms e, tt)
sound-head F head.Never e = (refl, tt)

sound-rule : (F : Atoms) (r : Rule) → is_sound_rule r ≡ true → AllByRecursion (λ x. is_sound_rule x ≡ true) (settled_rule F r)
sound-rule F r e =
    let parts = and_parts (is_sound_head r.head) (is_sound_body r.body) e in
    each-flat_map (λ x. is_sound_rule x ≡ true) (λ h. map (λ b. record { head = h; body = b }) (settled_body F r.body)) (settled_head F r.head)
    (each_weaker (λ h. is_sound_head h ≡ true) (λ h. AllByRecursion (λ x. is_sound_rule x ≡ true) (map (λ b. record { head = h; body = b }) (settled_body F r.body))) (λ h sh.
    each-map (λ x. is_sound_rule x ≡ true) (λ b. record { head = h; body = b }) (settled_body F r.body)
    (each_weaker (λ b. is_sound_body b ≡ true) (λ b. (is_sound_head h && is_sound_body b) ≡ true)
    (λ b sb. and_from (is_sound_head h) (is_sound_body b) sh sb) (settled_body F r.body) (sound-body F r.body parts.1)))
    (settled_head F r.head) (sound-head F r.head parts.0))

sound-output : (F : Atoms) (o : Output) → is_sound_output o ≡ true → AllByRecursion (λ x. is_sound_output x ≡ true) (settled_output F o)
sound-output F o e = each-map (λ x. is_sound_output x ≡ true) (λ ls. record { text = o.text; condition = ls }) (settled_literals F o.condition) (sound-literals F o.condition e)

-- ---- how many
kept_length : {X : Type 0} (c : Bool) (x : X) (xs : List X) (n : ℕ) → length xs ≤ n → length (cond c (x ∷ xs) xs) ≤ n + 1
kept_length true x xs n h = omega arith
kept_length false x xs n h = omega arith

pub fewer-filter : {X : Type 0} (q : X → Bool) (xs : List X) → length (filter q xs) ≤ length xs
fewer-filter q [] = omega arith
fewer-filter q (x ∷ xs) = let h : length (cond (q x) (x ∷ filter q xs) (filter q xs)) ≤ length xs + 1 = kept_length (q x) x (filter q xs) (length xs) (fewer-filter q xs) in omega arith

fewer-left : {X Y : Type 0} (f : X → List Y) → ((x : X) → length (f x) ≤ 1) → (xs : List X) → length (flat_map f xs) ≤ length xs
fewer-left f h [] = omega arith
fewer-left f h (x ∷ xs) = omega (arith, length-append (f x) (flat_map f xs), h x, fewer-left f h xs)

one_at_most : {X : Type 0} (c : Bool) (x : X) → length (cond c [] (x ∷ [])) ≤ 1
one_at_most true x = omega arith
one_at_most false x = omega arith

one_output : (F : Atoms) (o : Output) → length (settled_output F o) ≤ 1
one_output F o = by (list_any (is_barred F) o.condition)
  where
    by : (c : Bool) → length {A = Output} (map (λ ls. record { text = o.text; condition = ls }) (cond c [] (filter (λ l. not (has F (atom_of l))) o.condition ∷ []))) ≤ 1
    by true = omega arith
    by false = omega arith

-- A head and a body at most are left.
abbrev IsFew : {X : Type 0} → (X → ℕ) → ℕ → List X → Type 0
IsFew f n xs = (length xs ≤ 1) × (sum_by f xs ≤ n)

few-body : (F : Atoms) (b : Body) → IsFew weighted_count (weighted_count b) (settled_body F b)
few-body F (body.All ls) = by (list_any (is_barred F) ls)
  where
    by : (c : Bool) → IsFew weighted_count 0 (map (λ ks. body.All ks) (cond c [] (filter (λ l. not (has F (atom_of l))) ls ∷ [])))
    by true = (omega arith, omega arith)
    by false = (omega arith, omega arith)
few-body F (body.AtLeast bound items) = (omega arith, omega (arith, fewer-filter (λ (i : ℤ × ℤ). not (has F (atom_of i.0))) items))

few-head : (F : Atoms) (h : Head) → length (settled_head F h) ≤ 1
few-head F (head.One a) = one_at_most (has F a) (head.One a)
few-head F (head.Choice atoms) = omega arith
few-head F head.Never = omega arith

few-rules : (n : ℕ) (hs : List Head) (bs : List Body) → length hs ≤ 1 → IsFew weighted_count n bs →
    IsFew (λ (r : Rule). weighted_count r.body) n (flat_map (λ h. map (λ b. record { head = h; body = b }) bs) hs)
few-rules n [] bs h few = (omega arith, omega arith)
few-rules n (x ∷ []) [] h few = (omega arith, omega arith)
few-rules n (x ∷ []) (b ∷ []) h few = (omega arith, omega (arith, few.1))
few-rules n (x ∷ []) (b ∷ c ∷ bs) h few = absurd (omega (arith, few.0))
few-rules n (x ∷ y ∷ hs) bs h few = absurd (omega arith)

pub few-rule : (F : Atoms) (r : Rule) → IsFew (λ (x : Rule). weighted_count x.body) (weighted_count r.body) (settled_rule F r)
few-rule F r = few-rules (weighted_count r.body) (settled_head F r.head) (settled_body F r.body) (few-head F r.head) (few-body F r.body)

weighted-left : (F : Atoms) (rs : List Rule) → sum_by (λ (r : Rule). weighted_count r.body) (flat_map (settled_rule F) rs) ≤ sum_by (λ (r : Rule). weighted_count r.body) rs
weighted-left F [] = omega arith
weighted-left F (r ∷ rs) =
    let w : Rule → ℕ = λ x. weighted_count x.body in
    omega (arith, sum_by-append w (settled_rule F r) (flat_map (settled_rule F) rs), sum_by-cons w r rs, (few-rule F r).1, weighted-left F rs)

pub below-limit : (a b n : ℕ) → a ≤ b → leb b n ≡ true → leb a n ≡ true
below-limit a b n le h = le-leb a n (omega (arith, leb-true b n h))

pub five : (a b c d e a' c' d' e' : Bool) → (a ≡ true → a' ≡ true) → (c ≡ true → c' ≡ true) → (d ≡ true → d' ≡ true) → (e ≡ true → e' ≡ true) →
    (a && b && c && d && e) ≡ true → (a' && b && c' && d' && e') ≡ true
five a b c d e a' c' d' e' fa fc fd fe h =
    let p = and_parts (a && b && c && d) e h in
    let q = and_parts (a && b && c) d p.0 in
    let r = and_parts (a && b) c q.0 in
    let s = and_parts a b r.0 in
    and_from (a' && b && c' && d') e' (and_from (a' && b && c') d' (and_from (a' && b) c' (and_from a' b (fa s.0) s.1) (fc r.1)) (fd q.1)) (fe p.1)

pub sound-left : (p : Program) → IsSound p → IsSound (left_in p)
sound-left p sound = record {
  rules = all-left is_sound_rule is_sound_rule (settled_rule (facts_in p)) (sound-rule (facts_in p)) p.rules sound.rules;
  minimize = sound.minimize;
  outputs = all-left is_sound_output is_sound_output (settled_output (facts_in p)) (sound-output (facts_in p)) p.outputs sound.outputs;
  externals = all-filter (λ e. is_atom e.atom) (λ e. not (has (heads_of p.rules) e.atom)) p.externals sound.externals;
  assumptions = sound.assumptions;
  weighted = below-limit (weighted_total (left_in p)) (weighted_total p) 16777216 (omega (arith, weighted-left (facts_in p) p.rules)) sound.weighted;
  room = five (has_room p.rules) (has_room p.minimize) (has_room p.outputs) (has_room p.externals) (has_room p.assumptions) _ _ _ _
      (below-limit (length (flat_map (settled_rule (facts_in p)) p.rules)) (length p.rules) 268435456 (fewer-left (settled_rule (facts_in p)) (λ r. (few-rule (facts_in p) r).0) p.rules))
      (below-limit (length (flat_map (settled_output (facts_in p)) p.outputs)) (length p.outputs) 268435456 (fewer-left (settled_output (facts_in p)) (one_output (facts_in p)) p.outputs))
      (below-limit (length (filter (λ e. not (has (heads_of p.rules) e.atom)) p.externals)) (length p.externals) 268435456 (fewer-filter (λ e. not (has (heads_of p.rules) e.atom)) p.externals))
      (λ h. h)
      sound.room;
}
