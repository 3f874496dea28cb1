-- What is left of literals, bodies and rules reads in two sets as the whole does in the sets with the facts.
use Rattle.std.proofs.Common.{◌≡◌, ℕ, suc, Bool, true, false, not, cond, ◌&&◌, ◌||◌, List, [], ◌∷◌, filter, ℤ, pos, negsuc, ◌+ℤ◌, ◌≤ℤ◌, int_le, refl, sym, ap, ◌∙◌, arith}
use Rattle.std.specs.List.{list_any, list_all}
use Rattle.std.proofs.lemmas.Int.{ints}
use Rattle.std.proofs.lemmas.Bool.{and_parts}
use Rattle.asp_model.specs.declared.program.Body.{Body}
use Rattle.asp_model.specs.declared.program.Body.TheVariants as body
use Rattle.asp_model.specs.declared.program.Head.TheVariants as head
use Rattle.asp_model.specs.Sets.{Atoms, has}
use Rattle.asp_model.specs.Holding.{atom_of, is_positive, holds}
use Rattle.asp_model.specs.Reading.{holds_between, weight_between, body_holds_between}
use Rattle.asp_model.specs.Sound.{is_weighted, is_sound_body}
use Rattle.asp_model.proofs.SetLaws.{has-fold}
use Rattle.asp_model.proofs.MemberLaws.{list_any-map}
use Rattle.asp_settle.specs.Constraints.{is_barred}
use Rattle.asp_settle.specs.Settled.{lowered, settled_body, settled_items, settled_literals, settled_weight, united}

pub has-united : (F S : Atoms) (a : ℕ) → has (united F S) a ≡ (has S a || has F a)
has-united F S a = has-fold S F a

-- ---- literals
-- The literal reads by f as by g, but that it is decided where its atom is in F.
abbrev pub Decides : Atoms → (ℤ → Bool) → (ℤ → Bool) → Type 0
Decides F f g = (l : ℤ) → f l ≡ cond (has F (atom_of l)) (is_positive l) (g l)

decided : (h s : Bool) → (s || h) ≡ cond h true s
decided true true = refl
decided true false = refl
decided false true = refl
decided false false = refl

denied : (h s : Bool) → not (s || h) ≡ cond h false (not s)
denied true true = refl
denied true false = refl
denied false true = refl
denied false false = refl

pub holds-united : (F S : Atoms) → Decides F (holds (united F S)) (holds S)
holds-united F S (pos a) = has-united F S a ∙ decided (has F a) (has S a)
holds-united F S (negsuc a) = ap not (has-united F S (suc a)) ∙ denied (has F (suc a)) (has S (suc a))

pub between-united : (F S T : Atoms) → Decides F (holds_between (united F S) (united F T)) (holds_between S T)
between-united F S T (pos a) = has-united F T a ∙ decided (has F a) (has T a)
between-united F S T (negsuc a) = ap not (has-united F S (suc a)) ∙ denied (has F (suc a)) (has S (suc a))

all-kept : (g : ℤ → Bool) (c : Bool) (l : ℤ) (ls : List ℤ) → list_all g (cond c (l ∷ ls) ls) ≡ cond c (g l && list_all g ls) (list_all g ls)
all-kept g true l ls = refl
all-kept g false l ls = refl

one_read : (h p x b r : Bool) → (cond h p x && (not b && r)) ≡ (not ((not p && h) || b) && cond (not h) (x && r) r)
one_read true true x b r = refl
one_read true false x b r = refl
one_read false true true b r = refl
one_read false true false true r = refl
one_read false true false false r = refl
one_read false false true b r = refl
one_read false false false true r = refl
one_read false false false false r = refl

-- the literals without those of F
abbrev others : Atoms → List ℤ → List ℤ
others F ls = filter (λ l. not (has F (atom_of l))) ls

pub all-others : (F : Atoms) (f g : ℤ → Bool) → Decides F f g → (ls : List ℤ) → list_all f ls ≡ (not (list_any (is_barred F) ls) && list_all g (others F ls))
all-others F f g d [] = refl
all-others F f g d (l ∷ ls) =
    ap (λ b. b && list_all f ls) (d l)
    ∙ ap (λ b. cond (has F (atom_of l)) (is_positive l) (g l) && b) (all-others F f g d ls)
    ∙ one_read (has F (atom_of l)) (is_positive l) (g l) (list_any (is_barred F) ls) (list_all g (others F ls))
    ∙ ap (λ b. not (is_barred F l || list_any (is_barred F) ls) && b) (sym (all-kept g (not (has F (atom_of l))) l (others F ls)))

pub or-false : (a : Bool) → (a || false) ≡ a
or-false true = refl
or-false false = refl

one_list : (g : List ℤ → Bool) (c : Bool) (ls : List ℤ) → list_any g (cond c [] (ls ∷ [])) ≡ (not c && g ls)
one_list g true ls = refl
one_list g false ls = or-false (g ls)

pub literals-read : (F : Atoms) (f g : ℤ → Bool) → Decides F f g → (ls : List ℤ) → list_any (list_all g) (settled_literals F ls) ≡ list_all f ls
literals-read F f g d ls = one_list (list_all g) (list_any (is_barred F) ls) (others F ls) ∙ sym (all-others F f g d ls)

-- ---- weights
one_weight : (S T : Atoms) (i : ℤ × ℤ) (rest : List (ℤ × ℤ)) (w z : ℤ) (h p : Bool) → z ≡ w +ℤ weight_between S T rest →
    cond (cond h p (holds_between S T i.0)) i.1 (pos 0) +ℤ z ≡ (cond (p && h) i.1 (pos 0) +ℤ w) +ℤ weight_between S T (cond (not h) (i ∷ rest) rest)
one_weight S T i rest w z true true e = omega (arith, ints)
one_weight S T i rest w z true false e = omega (arith, ints)
one_weight S T i rest w z false true e = omega (arith, ints)
one_weight S T i rest w z false false e = omega (arith, ints)

pub weight-read : (F S T : Atoms) (items : List (ℤ × ℤ)) → weight_between (united F S) (united F T) items ≡ settled_weight F items +ℤ weight_between S T (settled_items F items)
weight-read F S T [] = refl
weight-read F S T (i ∷ items) =
    ap (λ b. cond b i.1 (pos 0) +ℤ weight_between (united F S) (united F T) items) (between-united F S T i.0)
    ∙ one_weight S T i (settled_items F items) (settled_weight F items) _ (has F (atom_of i.0)) (is_positive i.0) (weight-read F S T items)

kept-weight : (S T : Atoms) (i : ℤ × ℤ) (rest : List (ℤ × ℤ)) (c h : Bool) → pos 0 ≤ℤ i.1 → pos 0 ≤ℤ weight_between S T rest →
    h ≡ holds_between S T i.0 → pos 0 ≤ℤ weight_between S T (cond c (i ∷ rest) rest)
kept-weight S T i rest true true w r e = grind (arith, ints)
kept-weight S T i rest true false w r e = grind (arith, ints)
kept-weight S T i rest false h w r e = r

-- No sum of what is left is below 0.
pub weight-low : (F S T : Atoms) (items : List (ℤ × ℤ)) → list_all is_weighted items ≡ true → pos 0 ≤ℤ weight_between S T (settled_items F items)
weight-low F S T [] sound = omega (arith, ints)
weight-low F S T (i ∷ items) sound =
    let parts = and_parts (is_weighted i) (list_all is_weighted items) sound in
    kept-weight S T i (settled_items F items) (not (has F (atom_of i.0))) (holds_between S T i.0) (weight-of_item i parts.0) (weight-low F S T items parts.1) refl
  where
    weight-of_item : (x : ℤ × ℤ) → is_weighted x ≡ true → pos 0 ≤ℤ x.1
    weight-of_item x e = grind (arith, ints)

lowered-read : (bound w z : ℤ) → pos 0 ≤ℤ z → int_le (lowered bound w) z ≡ int_le bound (w +ℤ z)
lowered-read bound w z low = grind (arith, ints)

-- ---- bodies
pub body-read : (F S T : Atoms) (b : Body) → is_sound_body b ≡ true → list_any (body_holds_between S T) (settled_body F b) ≡ body_holds_between (united F S) (united F T) b
body-read F S T (body.All literals) sound =
    list_any-map (body_holds_between S T) (λ ls. body.All ls) (settled_literals F literals)
    ∙ literals-read F (holds_between (united F S) (united F T)) (holds_between S T) (between-united F S T) literals
body-read F S T (body.AtLeast bound items) sound =
    or-false _
    ∙ lowered-read bound (settled_weight F items) (weight_between S T (settled_items F items)) (weight-low F S T items sound)
    ∙ ap (int_le bound) (sym (weight-read F S T items))
