-- The rules in force of the merged program are those of the program, each merged.
use Rattle.std.proofs.Common.{◌≡◌, ℕ, Bool, true, false, not, cond, ◌||◌, eqb, List, [], ◌∷◌, ◌++◌, map, flat_map, ℤ, pos, negsuc, refl, sym, ap, ◌∙◌}
use Rattle.std.specs.List.{AllByRecursion, list_any}
use Rattle.std.proofs.lemmas.Bool.{and_parts, both_ways, eq-eqb, eqb-true, false≢true, ne_eqb, not-true}
use Rattle.std.proofs.lemmas.List.Concat.{flat_map-append}
use Rattle.asp_model.specs.declared.program.Body.{Body}
use Rattle.asp_model.specs.declared.program.Body.TheVariants as body
use Rattle.asp_model.specs.declared.program.Head.{Head}
use Rattle.asp_model.specs.declared.program.Head.TheVariants as head
use Rattle.asp_model.specs.declared.program.Rule.{Rule}
use Rattle.asp_model.specs.declared.program.External.{External}
use Rattle.asp_model.specs.declared.program.ExternalValue.{ExternalValue}
use Rattle.asp_model.specs.declared.program.ExternalValue.TheVariants as value
use Rattle.asp_model.specs.declared.program.Program.{Program}
use Rattle.asp_model.specs.Sets.{has, set_of}
use Rattle.asp_model.specs.Models.{external_rule, head_atoms, last_value, open_atoms, rules_in_force}
use Rattle.asp_model.specs.Opening.{opened_rules}
use Rattle.asp_model.proofs.SetLaws.{has-set_of}
use Rattle.asp_model.proofs.MemberLaws.{list_any-flat_map}
use Rattle.asp_model.proofs.ModelLaws.{same_bools}
use Rattle.asp_model.proofs.ConsequenceLaws.{filter-atoms, has-filter}
use Rattle.asp_equal.specs.Copies.{named}
use Rattle.asp_equal.specs.Merged.{is_copying, is_same, merged_by, merged_rule, renamed_head, renamed_rule}
use Rattle.asp_equal.proofs.SourceLaws.{has_head}

-- The atom stays, and none other goes by it.
abbrev pub StaysAlone : (ℕ → ℕ) → ℕ → Type 0
StaysAlone m a = (m a ≡ a) × ((x : ℕ) → m x ≡ a → x ≡ a)

-- ---- heads
same-eqb : (m : ℕ → ℕ) (a b : ℕ) → StaysAlone m a → eqb (m b) a ≡ eqb b a
same-eqb m a b alone =
    same_bools (eqb (m b) a) (eqb b a) (λ e. eq-eqb b a (alone.1 b (eqb-true (m b) a e))) (λ e. eq-eqb (m b) a (ap m (eqb-true b a e) ∙ alone.0))

heads-alone : (m : ℕ → ℕ) (a : ℕ) → StaysAlone m a → (atoms : List ℕ) → has (map m atoms) a ≡ has atoms a
heads-alone m a alone [] = refl
heads-alone m a alone (b ∷ atoms) = ap (λ c. c || has (map m atoms) a) (same-eqb m a b alone) ∙ ap (λ c. eqb b a || c) (heads-alone m a alone atoms)

head-alone : (m : ℕ → ℕ) (a : ℕ) → StaysAlone m a → (h : Head) → has (head_atoms (renamed_head m h)) a ≡ has (head_atoms h) a
head-alone m a alone (head.One b) = heads-alone m a alone (b ∷ [])
head-alone m a alone (head.Choice atoms) = heads-alone m a alone atoms
head-alone m a alone head.Never = refl

same_other : (m : ℕ → ℕ) (a b : ℕ) (l : ℤ) → StaysAlone m a → is_same m b l ≡ true → b ≡ a → ⊥
same_other m a b (pos d) alone same is =
    let parts = and_parts (not (eqb d b)) (eqb (m d) (m b)) same in
    let there : d ≡ a = alone.1 d (eqb-true (m d) (m b) parts.1 ∙ ap m is ∙ alone.0) in
    both_ways (eqb d b) (not-true (eqb d b) parts.0) (eq-eqb d b (there ∙ sym is))
same_other m a b (negsuc d) alone same is = false≢true same

or-nil : (b : Bool) → (b || false) ≡ b
or-nil true = refl
or-nil false = refl

copying-other : (m : ℕ → ℕ) (a : ℕ) → StaysAlone m a → (h : Head) (b : Body) → is_copying m h b ≡ true → has (head_atoms h) a ≡ false
copying-other m a alone (head.One c) (body.All []) copy = absurd (false≢true copy)
copying-other m a alone (head.One c) (body.All (l ∷ [])) copy = ap (λ b. b || false) (ne_eqb c a (same_other m a c l alone copy))
copying-other m a alone (head.One c) (body.All (l ∷ k ∷ ls)) copy = absurd (false≢true copy)
copying-other m a alone (head.One c) (body.AtLeast bound items) copy = absurd (false≢true copy)
copying-other m a alone (head.Choice atoms) b copy = absurd (false≢true copy)
copying-other m a alone head.Never b copy = absurd (false≢true copy)

rule-heads : (m : ℕ → ℕ) (a : ℕ) → StaysAlone m a → (r : Rule) → list_any (has_head a) (merged_rule m r) ≡ has_head a r
rule-heads m a alone r = by (is_copying m r.head r.body) refl
  where
    by : (c : Bool) → is_copying m r.head r.body ≡ c → list_any (has_head a) (cond c [] (renamed_rule m r ∷ [])) ≡ has_head a r
    by true e = sym (copying-other m a alone r.head r.body e)
    by false e = or-nil (has_head a (renamed_rule m r)) ∙ head-alone m a alone r.head

any-heads : (m : ℕ → ℕ) (a : ℕ) → StaysAlone m a → (rs : List Rule) → list_any (λ r. list_any (has_head a) (merged_rule m r)) rs ≡ list_any (has_head a) rs
any-heads m a alone [] = refl
any-heads m a alone (r ∷ rs) = ap (λ b. b || list_any (λ x. list_any (has_head a) (merged_rule m x)) rs) (rule-heads m a alone r) ∙ ap (λ b. has_head a r || b) (any-heads m a alone rs)

abbrev heads_of : List Rule → List ℕ
heads_of rs = flat_map (λ r. head_atoms r.head) rs

heads-merged : (m : ℕ → ℕ) (a : ℕ) → StaysAlone m a → (rs : List Rule) → has (heads_of (flat_map (merged_rule m) rs)) a ≡ has (heads_of rs) a
heads-merged m a alone rs =
    list_any-flat_map (λ b. eqb b a) (λ (r : Rule). head_atoms r.head) (flat_map (merged_rule m) rs)
    ∙ list_any-flat_map (has_head a) (merged_rule m) rs
    ∙ any-heads m a alone rs
    ∙ sym (list_any-flat_map (λ b. eqb b a) (λ (r : Rule). head_atoms r.head) rs)

-- ---- externals
abbrev pub AreAlone : (ℕ → ℕ) → Program → Type 0
AreAlone m p = (a : ℕ) → has (named p) a ≡ true → StaysAlone m a

pub open-merged : (m : ℕ → ℕ) (p : Program) → AreAlone m p → open_atoms (merged_by m p) ≡ open_atoms p
open-merged m p alone =
    filter-atoms (λ a. not (has (heads_of (flat_map (merged_rule m) p.rules)) a)) (λ a. not (has (heads_of p.rules) a)) (set_of (named p)) (λ a there.
    ap not (heads-merged m a (alone a (sym (has-set_of (named p) a) ∙ there)) p.rules))

external-merged : (m : ℕ → ℕ) (a : ℕ) (v : ExternalValue) → m a ≡ a → flat_map (merged_rule m) (external_rule a v) ≡ external_rule a v
external-merged m a value.Free e = ap (λ b. record { head = head.Choice (b ∷ []); body = body.All [] } ∷ []) e
external-merged m a value.True e = ap (λ b. record { head = head.One b; body = body.All [] } ∷ []) e
external-merged m a value.False e = refl
external-merged m a value.Release e = refl

externals-merged : (m : ℕ → ℕ) (es : List External) (L : List ℕ) → AllByRecursion (λ a. m a ≡ a) L →
    flat_map (merged_rule m) (flat_map (λ a. external_rule a (last_value es a)) L) ≡ flat_map (λ a. external_rule a (last_value es a)) L
externals-merged m es [] all = refl
externals-merged m es (a ∷ L) all =
    flat_map-append (merged_rule m) (external_rule a (last_value es a)) (flat_map (λ b. external_rule b (last_value es b)) L)
    ∙ ap (λ rs. rs ++ flat_map (merged_rule m) (flat_map (λ b. external_rule b (last_value es b)) L)) (external-merged m a (last_value es a) all.0)
    ∙ ap (λ rs. external_rule a (last_value es a) ++ rs) (externals-merged m es L all.1)

each-member : (P : ℕ → Type 0) (L : List ℕ) → ((a : ℕ) → has L a ≡ true → P a) → AllByRecursion P L
each-member P [] h = tt
each-member P (a ∷ L) h = (h a (first a L), each-member P L (λ b e. h b (later b e)))
  where
    first : (b : ℕ) (xs : List ℕ) → (eqb b b || has xs b) ≡ true
    first b xs = ap (λ c. c || has xs b) (eq-eqb b b refl)

    later : (b : ℕ) → has L b ≡ true → (eqb a b || has L b) ≡ true
    later b e = by (eqb a b)
      where
        by : (c : Bool) → (c || has L b) ≡ true
        by true = refl
        by false = e

pub force-merged : (m : ℕ → ℕ) (p : Program) → AreAlone m p → rules_in_force (merged_by m p) ≡ flat_map (merged_rule m) (rules_in_force p)
force-merged m p alone =
    ap (λ L. flat_map (merged_rule m) p.rules ++ flat_map (λ a. external_rule a (last_value p.externals a)) L) (open-merged m p alone)
    ∙ ap (λ rs. flat_map (merged_rule m) p.rules ++ rs) (sym (externals-merged m p.externals (open_atoms p) (each-member (λ a. m a ≡ a) (open_atoms p) (λ a h.
    (alone a (sym (has-set_of (named p) a) ∙
    (and_parts (not (has (heads_of p.rules) a)) (has (set_of (named p)) a)
    (sym (has-filter (λ b. not (has (heads_of p.rules) b)) (set_of (named p)) a) ∙ h)).1)).0))))
    ∙ sym (flat_map-append (merged_rule m) p.rules (opened_rules p))
