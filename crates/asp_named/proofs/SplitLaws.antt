-- A set is a stable model of the program whose outputs have atoms exactly where it is one of the program, with the atoms of the outputs
-- whose conditions hold in it.
use Rattle.std.proofs.Common.{◌≡◌, ℕ, ◌+◌, ◌<◌, ◌≤◌, Bool, true, false, not, cond, ◌&&◌, ◌||◌, eqb, ltb, List, [], ◌∷◌, ◌++◌, map, filter, flat_map, ℤ, refl, sym, ap, ◌∙◌, subst, arith, append-nil}
use Rattle.std.specs.List.{AllByRecursion, list_any, list_all}
use Rattle.std.proofs.lemmas.Bool.{and_from, and_parts, both_ways, lt-ltb, ltb-true, ltb-false}
use Rattle.std.proofs.lemmas.List.Concat.{flat_map-append}
use Rattle.std.proofs.lemmas.List.Folds.{list_any-append}
use Rattle.asp_model.specs.declared.program.Body.TheVariants as body
use Rattle.asp_model.specs.declared.program.Head.TheVariants as head
use Rattle.asp_model.specs.declared.program.Rule.{Rule}
use Rattle.asp_model.specs.declared.program.Output.{Output}
use Rattle.asp_model.specs.declared.program.Program.{Program}
use Rattle.asp_model.specs.Sets.{Atoms, IsAscending, IsSubset, has, same_set}
use Rattle.asp_model.specs.Holding.{all_hold, atom_of}
use Rattle.asp_model.specs.Models.{is_stable, is_violated, least_model, rules_in_force}
use Rattle.asp_model.specs.Opening.{opened_rules}
use Rattle.asp_model.specs.Reading.{derived_heads, holds_between}
use Rattle.asp_model.specs.Reduct.{reduct, step}
use Rattle.asp_model.specs.Sound.{IsSound}
use Rattle.asp_model.proofs.SetLaws.{has-set_of, same_from_has}
use Rattle.asp_model.proofs.ListedLaws.{same_set-itself}
use Rattle.asp_model.proofs.MemberLaws.{each-append, each_weaker}
use Rattle.asp_model.proofs.StepLaws.{closed_from_step}
use Rattle.asp_model.proofs.ReadingLaws.{step_read}
use Rattle.asp_model.proofs.ModelLaws.{least_model-ascends, least_model-derived, least_model-least, least_model-stands, same_bools, stable-least}
use Rattle.asp_model.proofs.ConsequenceLaws.{ascends-filter, has-filter}
use Rattle.asp_named.specs.Named.{extended_from, is_plain, named_from, names_by, naming_rule, naming_rules}
use Rattle.asp_named.proofs.BelowLaws.{Agree, Below, absent-above, all-agree, all-between, below-from, derived-below, rules-agree, violations-agree}
use Rattle.asp_named.proofs.ForceLaws.{IsUnder, absent-below, opened-below, or-none, outputs-below, rules-below, rules-named}

-- The program and the one whose outputs have atoms from a on, above all others, are within the limits.
pub record IsSplit (a : ℕ) (p : Program) : Type 0 where
  pub under : IsUnder a p
  pub whole : IsSound p
  pub sound : IsSound (named_from a p)

-- ---- the atoms of outputs
pub names-same : (a n : ℕ) (os : List Output) (f g : List ℤ → Bool) → AllByRecursion (λ (o : Output). Below a (map atom_of o.condition)) os →
    ((ls : List ℤ) → Below a (map atom_of ls) → f ls ≡ g ls) → names_by n os f ≡ names_by n os g
names-same a n [] f g h same = refl
names-same a n (o ∷ os) f g h same =
    ap (λ (b : Bool). cond (is_plain o.condition) [] (cond b (n ∷ []) []) ++ names_by (n + 1) os f) (same o.condition h.0)
    ∙ ap (λ (xs : List ℕ). cond (is_plain o.condition) [] (cond (g o.condition) (n ∷ []) []) ++ xs) (names-same a (n + 1) os f g h.1 same)

one-high : (n : ℕ) (c d : Bool) (rest : List ℕ) → AllByRecursion (λ b. n ≤ b) rest → AllByRecursion (λ b. n ≤ b) (cond c [] (cond d (n ∷ []) []) ++ rest)
one-high n true d rest h = h
one-high n false true rest h = (omega arith, h)
one-high n false false rest h = h

lower : (n : ℕ) (xs : List ℕ) → AllByRecursion (λ b. n + 1 ≤ b) xs → AllByRecursion (λ b. n ≤ b) xs
lower n [] h = tt
lower n (x ∷ xs) h = (let le = h.0 in omega (arith, le), lower n xs h.1)

pub names-high : (n : ℕ) (os : List Output) (test : List ℤ → Bool) → AllByRecursion (λ b. n ≤ b) (names_by n os test)
names-high n [] test = tt
names-high n (o ∷ os) test = one-high n (is_plain o.condition) (test o.condition) (names_by (n + 1) os test) (lower n (names_by (n + 1) os test) (names-high (n + 1) os test))

one-first : (n : ℕ) (c d : Bool) (rest : List ℕ) → AllByRecursion (λ b. n < b) rest → IsAscending rest → IsAscending (cond c [] (cond d (n ∷ []) []) ++ rest)
one-first n true d rest h up = up
one-first n false true rest h up = (h, up)
one-first n false false rest h up = up

above : (n : ℕ) (xs : List ℕ) → AllByRecursion (λ b. n + 1 ≤ b) xs → AllByRecursion (λ b. n < b) xs
above n [] h = tt
above n (x ∷ xs) h = (let le = h.0 in omega (arith, le), above n xs h.1)

pub names-ascend : (n : ℕ) (os : List Output) (test : List ℤ → Bool) → IsAscending (names_by n os test)
names-ascend n [] test = tt
names-ascend n (o ∷ os) test = one-first n (is_plain o.condition) (test o.condition) (names_by (n + 1) os test)
    (above n (names_by (n + 1) os test) (names-high (n + 1) os test)) (names-ascend (n + 1) os test)

-- what the rules for outputs derive
naming-one : (S T : Atoms) (n : ℕ) (o : Output) → flat_map (derived_heads S T) (naming_rule n o) ≡ cond (is_plain o.condition) [] (cond (list_all (holds_between S T) o.condition) (n ∷ []) [])
naming-one S T n o = by (is_plain o.condition)
  where
    by : (c : Bool) → flat_map (derived_heads S T) (cond c [] (record { head = head.One n; body = body.All o.condition } ∷ [])) ≡ cond c []
        (cond (list_all (holds_between S T) o.condition) (n ∷ []) [])
    by true = refl
    by false = append-nil (cond (list_all (holds_between S T) o.condition) (n ∷ []) [])

naming-derives : (S T : Atoms) (n : ℕ) (os : List Output) → flat_map (derived_heads S T) (naming_rules n os) ≡ names_by n os (list_all (holds_between S T))
naming-derives S T n [] = refl
naming-derives S T n (o ∷ os) =
    flat_map-append (derived_heads S T) (naming_rule n o) (naming_rules (n + 1) os)
    ∙ ap (λ (xs : List ℕ). xs ++ flat_map (derived_heads S T) (naming_rules (n + 1) os)) (naming-one S T n o)
    ∙ ap (λ (xs : List ℕ). cond (is_plain o.condition) [] (cond (list_all (holds_between S T) o.condition) (n ∷ []) []) ++ xs) (naming-derives S T (n + 1) os)

-- ---- one step
abbrev derived : Atoms → Atoms → List Rule → List ℕ
derived S T rs = flat_map (derived_heads S T) rs

has-both : (xs ys : List ℕ) (b : ℕ) → has (xs ++ ys) b ≡ (has xs b || has ys b)
has-both xs ys b = list_any-append (λ c. eqb c b) xs ys

step-whole : (p : Program) (S T : Atoms) (b : ℕ) → has (step (reduct S (rules_in_force p)) T) b ≡ (has (derived S T p.rules) b || has (derived S T (opened_rules p)) b)
step-whole p S T b =
    ap (λ (U : Atoms). has U b) (step_read S T (rules_in_force p))
    ∙ has-set_of (derived S T (rules_in_force p)) b
    ∙ ap (λ (xs : List ℕ). has xs b) (flat_map-append (derived_heads S T) p.rules (opened_rules p))
    ∙ has-both (derived S T p.rules) (derived S T (opened_rules p)) b

step-named : (a : ℕ) (p : Program) → IsUnder a p → (S T : Atoms) (b : ℕ)
    → has (step (reduct S (rules_in_force (named_from a p))) T) b ≡
    ((has (derived S T p.rules) b || has (names_by a p.outputs (list_all (holds_between S T))) b) || has (derived S T (opened_rules p)) b)
step-named a p under S T b =
    let R = p.rules in
    let N = naming_rules a p.outputs in
    ap (λ (U : Atoms). has U b) (step_read S T (rules_in_force (named_from a p)))
    ∙ has-set_of (derived S T (rules_in_force (named_from a p))) b
    ∙ ap (λ (rs : List Rule). has (derived S T rs) b) (rules-named a p under)
    ∙ ap (λ (xs : List ℕ). has xs b) (flat_map-append (derived_heads S T) (R ++ N) (opened_rules p))
    ∙ has-both (derived S T (R ++ N)) (derived S T (opened_rules p)) b
    ∙ ap (λ (xs : List ℕ). has xs b || has (derived S T (opened_rules p)) b) (flat_map-append (derived_heads S T) R N)
    ∙ ap (λ (x : Bool). x || has (derived S T (opened_rules p)) b) (has-both (derived S T R) (derived S T N) b)
    ∙ ap (λ (xs : List ℕ). (has (derived S T R) b || has xs b) || has (derived S T (opened_rules p)) b) (naming-derives S T a p.outputs)

none-between : (x y : Bool) → ((x || false) || y) ≡ (x || y)
none-between true y = refl
none-between false y = refl

-- below a both programs derive the same
pub step-low : (a : ℕ) (p : Program) → IsUnder a p → (S S' T T' : Atoms) → Agree a S S' → Agree a T T' → (b : ℕ) → b < a
    → has (step (reduct S (rules_in_force (named_from a p))) T) b ≡ has (step (reduct S' (rules_in_force p)) T') b
step-low a p under S S' T T' s t b lt =
    step-named a p under S T b
    ∙ ap (λ (x : Bool). (has (derived S T p.rules) b || x) || has (derived S T (opened_rules p)) b)
    (absent-below a (names_by a p.outputs (list_all (holds_between S T))) b (names-high a p.outputs (list_all (holds_between S T))) lt)
    ∙ none-between (has (derived S T p.rules) b) (has (derived S T (opened_rules p)) b)
    ∙ ap (λ (xs : List ℕ). has xs b || has (derived S T (opened_rules p)) b) (rules-agree a S S' T T' s t p.rules (rules-below a p under))
    ∙ ap (λ (xs : List ℕ). has (derived S' T' p.rules) b || has xs b) (rules-agree a S S' T T' s t (opened_rules p) (opened-below a p under))
    ∙ sym (step-whole p S' T' b)

-- from a on the atoms of outputs are derived
pub step-high : (a : ℕ) (p : Program) → IsUnder a p → (S T : Atoms) (b : ℕ) → a ≤ b
    → has (step (reduct S (rules_in_force (named_from a p))) T) b ≡ has (names_by a p.outputs (list_all (holds_between S T))) b
step-high a p under S T b le =
    step-named a p under S T b
    ∙ ap (λ (x : Bool). (x || has (names_by a p.outputs (list_all (holds_between S T))) b) || has (derived S T (opened_rules p)) b)
    (absent-above a (derived S T p.rules) b (derived-below a S T p.rules (rules-below a p under)) le)
    ∙ ap (λ (x : Bool). has (names_by a p.outputs (list_all (holds_between S T))) b || x)
    (absent-above a (derived S T (opened_rules p)) b (derived-below a S T (opened_rules p) (opened-below a p under)) le)
    ∙ or-none (has (names_by a p.outputs (list_all (holds_between S T))) b)

-- ---- least models
model-below : (a : ℕ) (p : Program) → IsUnder a p → (S : Atoms) → Below a (least_model p S)
model-below a p under S = below-from a (least_model p S) (λ b e. under b (least_model-stands p S b e))

derived-same : (p : Program) → IsSound p → (S : Atoms) (b : ℕ) → has (step (reduct S (rules_in_force p)) (least_model p S)) b ≡ has (least_model p S) b
derived-same p sound S b = ap (λ (T : Atoms). has T b) (least_model-derived p S sound)

-- the least model of the program, with the atoms of outputs
abbrev with_names : ℕ → Program → Atoms → Atoms → Atoms
with_names a p X M = M ++ names_by a p.outputs (list_all (holds_between X M))

with-low : (a : ℕ) (p : Program) (X M : Atoms) → Agree a (with_names a p X M) M
with-low a p X M b lt =
    has-both M (names_by a p.outputs (list_all (holds_between X M))) b
    ∙ ap (λ (x : Bool). has M b || x) (absent-below a (names_by a p.outputs (list_all (holds_between X M))) b (names-high a p.outputs (list_all (holds_between X M))) lt)
    ∙ or-none (has M b)

with-high : (a : ℕ) (p : Program) (X M : Atoms) → Below a M → (b : ℕ) → a ≤ b → has (with_names a p X M) b ≡ has (names_by a p.outputs (list_all (holds_between X M))) b
with-high a p X M low b le =
    has-both M (names_by a p.outputs (list_all (holds_between X M))) b
    ∙ ap (λ (x : Bool). x || has (names_by a p.outputs (list_all (holds_between X M))) b) (absent-above a M b low le)

by_place : (a b : ℕ) (P : Type 0) → (b < a → P) → (a ≤ b → P) → P
by_place a b P low high = by (ltb b a) refl
  where
    by : (c : Bool) → ltb b a ≡ c → P
    by true e = low (ltb-true b a e)
    by false e = high (let n = ltb-false b a e in omega (arith, n))

itself : (a : ℕ) (S : Atoms) → Agree a S S
itself a S b lt = refl

-- nothing from a on is derived by the program's own rules
step-absent : (a : ℕ) (p : Program) → IsUnder a p → (S T : Atoms) (b : ℕ) → a ≤ b → has (step (reduct S (rules_in_force p)) T) b ≡ false
step-absent a p under S T b le =
    step-whole p S T b
    ∙ ap (λ (x : Bool). x || has (derived S T (opened_rules p)) b) (absent-above a (derived S T p.rules) b (derived-below a S T p.rules (rules-below a p under)) le)
    ∙ absent-above a (derived S T (opened_rules p)) b (derived-below a S T (opened_rules p) (opened-below a p under)) le

least-within : (a : ℕ) (p : Program) → IsSplit a p → (X S : Atoms) → Agree a X S → IsSubset (least_model p S) (least_model (named_from a p) X)
least-within a p is X S agree =
    let Q = least_model (named_from a p) X in
    least_model-least p S Q is.whole (closed_from_step (reduct S (rules_in_force p)) Q (λ b h.
    by_place a b (has Q b ≡ true)
    (λ lt. sym (derived-same (named_from a p) is.sound X b) ∙ step-low a p is.under X S Q Q agree (itself a Q) b lt ∙ h)
    (λ le. absurd (both_ways _ (step-absent a p is.under S Q b le) h))))

names-between : (a : ℕ) (p : Program) → IsUnder a p → (X T T' : Atoms) → Agree a T T' → names_by a p.outputs (list_all (holds_between X T)) ≡ names_by a p.outputs (list_all (holds_between X T'))
names-between a p under X T T' t =
    names-same a a p.outputs (list_all (holds_between X T)) (list_all (holds_between X T')) (outputs-below a p under) (λ ls low. all-agree a X X T T' (itself a X) t ls low)

named-within : (a : ℕ) (p : Program) → IsSplit a p → (X S : Atoms) → Agree a X S → IsSubset (least_model (named_from a p) X) (with_names a p X (least_model p S))
named-within a p is X S agree =
    let M = least_model p S in
    let W = with_names a p X M in
    least_model-least (named_from a p) X W is.sound (closed_from_step (reduct X (rules_in_force (named_from a p))) W (λ b h.
    by_place a b (has W b ≡ true)
    (λ lt. with-low a p X M b lt ∙ sym (derived-same p is.whole S b) ∙ sym (step-low a p is.under X S W M agree (with-low a p X M) b lt) ∙ h)
    (λ le. with-high a p X M (model-below a p is.under S) b le
    ∙ ap (λ (xs : List ℕ). has xs b) (sym (names-between a p is.under X W M (with-low a p X M)))
    ∙ sym (step-high a p is.under X W b le) ∙ h)))

least-low : (a : ℕ) (p : Program) → IsSplit a p → (X S : Atoms) → Agree a X S → Agree a (least_model (named_from a p) X) (least_model p S)
least-low a p is X S agree b lt =
    same_bools (has (least_model (named_from a p) X) b) (has (least_model p S) b)
    (λ e. sym (with-low a p X (least_model p S) b lt) ∙ named-within a p is X S agree b e)
    (least-within a p is X S agree b)

-- The least model is that of the program, with the atoms of outputs, where X and S agree below a.
least-named : (a : ℕ) (p : Program) → IsSplit a p → (X S : Atoms) → Agree a X S → (b : ℕ) → has (least_model (named_from a p) X) b ≡ has (with_names a p X (least_model p S)) b
least-named a p is X S agree b =
    let Q = least_model (named_from a p) X in
    let M = least_model p S in
    by_place a b (has Q b ≡ has (with_names a p X M) b)
    (λ lt. least-low a p is X S agree b lt ∙ sym (with-low a p X M b lt))
    (λ le. sym (derived-same (named_from a p) is.sound X b) ∙ step-high a p is.under X Q b le
    ∙ ap (λ (xs : List ℕ). has xs b) (names-between a p is.under X Q M (least-low a p is X S agree))
    ∙ sym (with-high a p X M (model-below a p is.under S) b le))

-- ---- constraints
never-violated : (X : Atoms) (n : ℕ) (os : List Output) → list_any (is_violated X) (naming_rules n os) ≡ false
never-violated X n [] = refl
never-violated X n (o ∷ os) =
    list_any-append (is_violated X) (naming_rule n o) (naming_rules (n + 1) os)
    ∙ by (is_plain o.condition) (list_any (is_violated X) (naming_rules (n + 1) os)) (never-violated X (n + 1) os)
  where
    by : (c later : Bool) → later ≡ false → (list_any (is_violated X) (cond c [] (record { head = head.One n; body = body.All o.condition } ∷ [])) || later) ≡ false
    by true later h = h
    by false later h = h

violated-named : (a : ℕ) (p : Program) → IsUnder a p → (X S : Atoms) → Agree a X S → list_any (is_violated X) (rules_in_force (named_from a p)) ≡ list_any (is_violated S) (rules_in_force p)
violated-named a p under X S agree =
    ap (list_any (is_violated X)) (rules-named a p under)
    ∙ list_any-append (is_violated X) (p.rules ++ naming_rules a p.outputs) (opened_rules p)
    ∙ ap (λ (x : Bool). x || list_any (is_violated X) (opened_rules p))
    (list_any-append (is_violated X) p.rules (naming_rules a p.outputs)
    ∙ ap (λ (x : Bool). list_any (is_violated X) p.rules || x) (never-violated X a p.outputs) ∙ or-none (list_any (is_violated X) p.rules))
    ∙ ap (λ (x : Bool). x || list_any (is_violated X) (opened_rules p)) (violations-agree a X S agree p.rules (rules-below a p under))
    ∙ ap (λ (x : Bool). list_any (is_violated S) p.rules || x) (violations-agree a X S agree (opened_rules p) (opened-below a p under))
    ∙ sym (list_any-append (is_violated S) p.rules (opened_rules p))

-- ---- stable models
same_test : (S T : Atoms) → S ≡ T → same_set S T ≡ true
same_test S T e = subst (λ (U : Atoms). same_set S U ≡ true) e (same_set-itself S)

joined-ascends : (a : ℕ) (S N : Atoms) → Below a S → IsAscending S → AllByRecursion (λ b. a ≤ b) N → IsAscending N → IsAscending (S ++ N)
joined-ascends a [] N low up high more = more
joined-ascends a (b ∷ S) N low up high more = (
  let lt = low.0 in each-append (λ c. b < c) S N up.0 (each_weaker (λ c. a ≤ c) (λ c. b < c) (λ c le. omega (arith, le, lt)) N high),
  joined-ascends a S N low.1 up.1 high more,
)

pub extended-ascends : (a : ℕ) (p : Program) (S : Atoms) → Below a S → IsAscending S → IsAscending (extended_from a p S)
extended-ascends a p S low up = joined-ascends a S (names_by a p.outputs (all_hold S)) low up (names-high a p.outputs (all_hold S)) (names-ascend a p.outputs (all_hold S))

pub extended-low : (a : ℕ) (p : Program) (S : Atoms) → Agree a (extended_from a p S) S
extended-low a p S b lt =
    has-both S (names_by a p.outputs (all_hold S)) b
    ∙ ap (λ (x : Bool). has S b || x) (absent-above-names a p S b lt)
    ∙ or-none (has S b)
  where
    absent-above-names : (a : ℕ) (p : Program) (S : Atoms) (b : ℕ) → b < a → has (names_by a p.outputs (all_hold S)) b ≡ false
    absent-above-names a p S b lt = absent-below a (names_by a p.outputs (all_hold S)) b (names-high a p.outputs (all_hold S)) lt

pub extended-high : (a : ℕ) (p : Program) (S : Atoms) → Below a S → (b : ℕ) → a ≤ b → has (extended_from a p S) b ≡ has (names_by a p.outputs (all_hold S)) b
extended-high a p S low b le =
    has-both S (names_by a p.outputs (all_hold S)) b ∙ ap (λ (x : Bool). x || has (names_by a p.outputs (all_hold S)) b) (absent-above a S b low le)

-- where S is its own least model
own-names : (a : ℕ) (p : Program) → IsUnder a p → (X S : Atoms) → Agree a X S → (b : ℕ) → S ≡ least_model p S → has (with_names a p X (least_model p S)) b ≡ has (extended_from a p S) b
own-names a p under X S agree b own =
    ap (λ (M : Atoms). has (with_names a p X M) b) (sym own)
    ∙ ap (λ (xs : List ℕ). has (S ++ xs) b)
    (names-same a a p.outputs (list_all (holds_between X S)) (all_hold S) (outputs-below a p under)
    (λ ls low. all-agree a X S S S agree (itself a S) ls low ∙ all-between S ls))

pub stable-up : (a : ℕ) (p : Program) → IsSplit a p → (S : Atoms) → is_stable p S ≡ true → is_stable (named_from a p) (extended_from a p S) ≡ true
stable-up a p is S h =
    let X = extended_from a p S in
    let own : S ≡ least_model p S = stable-least p S h in
    let low : Below a S = subst (Below a) (sym own) (model-below a p is.under S) in
    let up : IsAscending S = subst IsAscending (sym own) (least_model-ascends p S) in
    let same : X ≡ least_model (named_from a p) X =
    same_from_has X (least_model (named_from a p) X) (extended-ascends a p S low up) (least_model-ascends (named_from a p) X)
    (λ b. sym (least-named a p is X S (extended-low a p S) b ∙ own-names a p is.under X S (extended-low a p S) b own)) in
    and_from _ _ (same_test X (least_model (named_from a p) X) same) (ap not (violated-named a p is.under X S (extended-low a p S)) ∙ (and_parts (same_set S (least_model p S)) _ h).1)

-- the atoms below a
abbrev pub low_part : ℕ → Atoms → Atoms
low_part a X = filter (λ b. ltb b a) X

pub low-agrees : (a : ℕ) (X : Atoms) → Agree a X (low_part a X)
low-agrees a X b lt = sym (has-filter (λ c. ltb c a) X b ∙ ap (λ (x : Bool). x && has X b) (lt-ltb b a lt))

low-below : (a : ℕ) (X : Atoms) → Below a (low_part a X)
low-below a X = below-from a (low_part a X) (λ b e. ltb-true b a (and_parts (ltb b a) (has X b) (sym (has-filter (λ c. ltb c a) X b) ∙ e)).0)

pub stable-down : (a : ℕ) (p : Program) → IsSplit a p → (X : Atoms) → is_stable (named_from a p) X ≡ true → (is_stable p (low_part a X) ≡ true) × (X ≡ extended_from a p (low_part a X))
stable-down a p is X h =
    let S = low_part a X in
    let Q = least_model (named_from a p) X in
    let M = least_model p S in
    let whole : X ≡ Q = stable-least (named_from a p) X h in
    let up : IsAscending X = subst IsAscending (sym whole) (least_model-ascends (named_from a p) X) in
    let risen : IsAscending S = ascends-filter (λ b. ltb b a) X up in
    let own : S ≡ M = same_from_has S M risen (least_model-ascends p S) (λ b. by_place a b (has S b ≡ has M b)
    (λ lt. sym (low-agrees a X b lt) ∙ ap (λ (T : Atoms). has T b) whole ∙ least-low a p is X S (low-agrees a X) b lt)
    (λ le. absent-above a S b (low-below a X) le ∙ sym (absent-above a M b (model-below a p is.under S) le))) in
    let same : X ≡ extended_from a p S = same_from_has X (extended_from a p S) up (extended-ascends a p S (low-below a X) risen) (λ b.
    ap (λ (T : Atoms). has T b) whole ∙ least-named a p is X S (low-agrees a X) b ∙ own-names a p is.under X S (low-agrees a X) b own) in
    (and_from _ _ (same_test S M own) (ap not (sym (violated-named a p is.under X S (low-agrees a X))) ∙ (and_parts (same_set X Q) _ h).1), same)
