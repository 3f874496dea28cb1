-- The atom by which an atom goes.
use Rattle.std.proofs.Common.{◌≡◌, ℕ, suc, ◌<◌, ◌≤◌, Bool, true, false, not, ◌&&◌, eqb, nat_lt, refl, sym, ap, ◌∙◌, arith, ◌⊎◌, inl, inr}
use Rattle.std.proofs.lemmas.Bool.{and_parts, both_ways, cases_eq, cases_lt, ltb-true, not-true}
use Rattle.asp_model.specs.declared.program.Program.{Program}
use Rattle.asp_model.specs.Sets.{Atoms, has}
use Rattle.asp_model.specs.Models.{least_model}
use Rattle.asp_model.specs.Sound.{IsSound}
use Rattle.asp_equal.specs.Copies.{least, may_copy, named, or_itself, root, same, source, target}
use Rattle.asp_equal.proofs.LeastLaws.{least-again, least-below, least-found, least-takes}
use Rattle.asp_equal.proofs.SourceLaws.{copy-derived}

-- a may go by b
pub record MayCopy (n : ℕ) (p : Program) (a b : ℕ) : Type 0 where
  pub some : 0 < a
  pub other : 0 < b
  pub below : a < n
  pub within : b < n
  pub unnamed : has (named p) a ≡ false
  pub free : has (named p) b ≡ false

pub may-copy : (n : ℕ) (p : Program) (a b : ℕ) → may_copy n p a b ≡ true → MayCopy n p a b
may-copy n p a b h =
    let q5 = and_parts (nat_lt 0 a && nat_lt 0 b && nat_lt a n && nat_lt b n && not (has (named p) a)) (not (has (named p) b)) h in
    let q4 = and_parts (nat_lt 0 a && nat_lt 0 b && nat_lt a n && nat_lt b n) (not (has (named p) a)) q5.0 in
    let q3 = and_parts (nat_lt 0 a && nat_lt 0 b && nat_lt a n) (nat_lt b n) q4.0 in
    let q2 = and_parts (nat_lt 0 a && nat_lt 0 b) (nat_lt a n) q3.0 in
    let q1 = and_parts (nat_lt 0 a) (nat_lt 0 b) q2.0 in
    record {
      some = ltb-true 0 a q1.0;
      other = ltb-true 0 b q1.1;
      below = ltb-true a n q2.1;
      within = ltb-true b n q3.1;
      unnamed = not-true (has (named p) a) q4.1;
      free = not-true (has (named p) b) q5.1;
    }

-- An atom is its own target, or copies that.
pub target-is : (n : ℕ) (p : Program) (a : ℕ) → (target n p a ≡ a) ⊎ ((target n p a ≡ source p.rules a) × MayCopy n p a (source p.rules a))
target-is n p a = by (may_copy n p a (source p.rules a)) refl
  where
    by : (c : Bool) → may_copy n p a (source p.rules a) ≡ c → (or_itself c (source p.rules a) a ≡ a) ⊎ ((or_itself c (source p.rules a) a ≡ source p.rules a) × MayCopy n p a (source p.rules a))
    by true e = inr (refl, may-copy n p a (source p.rules a) e)
    by false e = inl refl

pub root-is : (n : ℕ) (p : Program) (a : ℕ) → (root n p a ≡ a) ⊎ (root n p a ≡ target n p a)
root-is n p a = by (eqb (target n p (target n p a)) (target n p a))
  where
    by : (c : Bool) → (or_itself c (target n p a) a ≡ a) ⊎ (or_itself c (target n p a) a ≡ target n p a)
    by true = inr refl
    by false = inl refl

pub root-copied : (n : ℕ) (p : Program) (a : ℕ) → (root n p a ≡ a) ⊎ ((root n p a ≡ source p.rules a) × MayCopy n p a (source p.rules a))
root-copied n p a = elim (root-is n p a) [
  | inl e ↦ inl e
  | inr e ↦ elim (target-is n p a) [ inl t ↦ inl (e ∙ t) | inr t ↦ inr (e ∙ t.0, t.1) ]
]

-- ---- the least with the same root
pub same-low : (n : ℕ) (p : Program) (a : ℕ) → same n p a ≤ a
same-low n p a = elim (cases_lt a n) [
  | inl low ↦ least-found (root n p) (root n p a) n a a low refl
  | inr high ↦ least-below (root n p) (root n p a) n a high
]

pub same-root : (n : ℕ) (p : Program) (a : ℕ) → root n p (same n p a) ≡ root n p a
same-root n p a = least-takes (root n p) (root n p a) n a refl

pub same-twice : (n : ℕ) (p : Program) (a : ℕ) → same n p (same n p a) ≡ same n p a
same-twice n p a = ap (λ r. least (root n p) r n (same n p a)) (same-root n p a) ∙ least-again (root n p) (root n p a) n a

-- an atom that is its own root, and no other atom's
abbrev pub IsAlone : ℕ → Program → ℕ → Type 0
IsAlone n p a = (root n p a ≡ a) × ((x : ℕ) → root n p x ≡ a → x ≡ a)

pub alone-same : (n : ℕ) (p : Program) (a : ℕ) → IsAlone n p a → (x : ℕ) → same n p x ≡ a → x ≡ a
alone-same n p a alone x e = alone.1 x (sym (same-root n p x) ∙ ap (root n p) e ∙ alone.0)

pub alone-itself : (n : ℕ) (p : Program) (a : ℕ) → IsAlone n p a → same n p a ≡ a
alone-itself n p a alone = alone.1 (same n p a) (same-root n p a ∙ alone.0)

-- It is enough that the atom copies none, and that no copy is of it.
alone-from : (n : ℕ) (p : Program) (a : ℕ) → (MayCopy n p a (source p.rules a) → ⊥) → ((x : ℕ) → MayCopy n p x a → ⊥) → IsAlone n p a
alone-from n p a own others = (
  elim (root-copied n p a) [ inl e ↦ e | inr c ↦ absurd (own c.1) ],
  λ x e. elim (root-copied n p x) [
    | inl t ↦ sym t ∙ e
    | inr c ↦ let same : source p.rules x ≡ a = sym c.0 ∙ e in absurd (others x (rw (sym same) c.1))
  ],
)

named-alone : (n : ℕ) (p : Program) (a : ℕ) → has (named p) a ≡ true → IsAlone n p a
named-alone n p a there = alone-from n p a (λ c. both_ways (has (named p) a) c.unnamed there) (λ x c. both_ways (has (named p) a) c.free there)

far-alone : (n : ℕ) (p : Program) (a : ℕ) → n ≤ a → IsAlone n p a
far-alone n p a far = alone-from n p a (λ c. omega (arith, c.below)) (λ x c. omega (arith, c.within))

zero-alone : (n : ℕ) (p : Program) → IsAlone n p 0
zero-alone n p = alone-from n p 0 (λ c. omega (arith, c.some)) (λ x c. omega (arith, c.other))

pub same-named : (n : ℕ) (p : Program) (a : ℕ) → has (named p) a ≡ true → same n p a ≡ a
same-named n p a there = alone-itself n p a (named-alone n p a there)

pub named-same : (n : ℕ) (p : Program) (a : ℕ) → has (named p) a ≡ true → (x : ℕ) → same n p x ≡ a → x ≡ a
named-same n p a there = alone-same n p a (named-alone n p a there)

pub same-far : (n : ℕ) (p : Program) (a : ℕ) → n ≤ a → same n p a ≡ a
same-far n p a far = alone-itself n p a (far-alone n p a far)

pub same-proper : (n : ℕ) (p : Program) (a : ℕ) → same n p (suc a) ≡ 0 → ⊥
same-proper n p a e = let z : suc a ≡ 0 = alone-same n p 0 (zero-alone n p) (suc a) e in omega arith

-- ---- least models have both or neither
target-alike : (n : ℕ) (p : Program) (S : Atoms) (a : ℕ) → IsSound p → has (least_model p S) a ≡ has (least_model p S) (target n p a)
target-alike n p S a sound = elim (target-is n p a) [
  | inl e ↦ ap (has (least_model p S)) (sym e)
  | inr c ↦ elim (cases_eq (source p.rules a) a) [
    | inl e ↦ ap (has (least_model p S)) (sym (c.0 ∙ e))
    | inr e ↦ copy-derived p S a (source p.rules a) sound (λ z. omega (arith, c.1.some)) (λ z. omega (arith, c.1.other)) e c.1.unnamed refl ∙ ap (has (least_model p S)) (sym c.0)
  ]
]

root-alike : (n : ℕ) (p : Program) (S : Atoms) (a : ℕ) → IsSound p → has (least_model p S) a ≡ has (least_model p S) (root n p a)
root-alike n p S a sound = elim (root-is n p a) [
  | inl e ↦ ap (has (least_model p S)) (sym e)
  | inr e ↦ target-alike n p S a sound ∙ ap (has (least_model p S)) (sym e)
]

pub same-alike : (n : ℕ) (p : Program) (S : Atoms) (a : ℕ) → IsSound p → has (least_model p S) a ≡ has (least_model p S) (same n p a)
same-alike n p S a sound = root-alike n p S a sound ∙ ap (has (least_model p S)) (sym (same-root n p a)) ∙ sym (root-alike n p S (same n p a) sound)
