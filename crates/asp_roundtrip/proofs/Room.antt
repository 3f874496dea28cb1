-- Sets of atoms that grow within a greater one.
use Rattle.std.proofs.Common.{◌≡◌, ℕ, suc, ◌<◌, ◌≤◌, true, false, eqb, List, [], ◌∷◌, length, refl, sym, ap, ◌∙◌, subst, arith, inl, inr, ◌⊎◌, Ok}
use Rattle.std.specs.Prelude.{if◌then◌else◌, nat_lt, nat_le}
use Rattle.std.specs.List.{AllByRecursion}
use Rattle.std.proofs.lemmas.Bool.{cases_Bool, cases_order, or_parts, or_left, or_right, or_cases, eqb-true, eq-eqb, eqb-false, ltb-false, false≢true}
use Rattle.std.proofs.lemmas.Bool.Decides.{nat_tests}
use Rattle.asp_model.specs.Sets.{Atoms, IsAscending, IsSubset, has, with_atom, with_atoms}
use Rattle.asp_model.proofs.SetLaws.{has-with_atom, has-below, IsAscending-with_atom, with_atom_present}
use Rattle.asp_read.specs.Fields.{most_atoms, room_for, is_one_too_many}

-- ---- how long a set is

pub length-with_atom : (a : ℕ) (S : Atoms) → has S a ≡ false → length (with_atom a S) ≡ suc (length S)
length-with_atom a [] h = refl
length-with_atom a (b ∷ S) h =
    let apart = or_parts (eqb b a) (has S a) h in
    (elim (nat_lt a b) as (λ v. nat_lt a b ≡ v → length (if v then a ∷ b ∷ S else b ∷ (if nat_lt b a then with_atom a S else S)) ≡ suc (suc (length S))) [
      | true ↦ λ _. refl
      | false ↦ λ f. (elim (nat_lt b a) as (λ w. nat_lt b a ≡ w → suc (length (if w then with_atom a S else S)) ≡ suc (suc (length S))) [
        | true ↦ λ _. ap suc (length-with_atom a S apart.1)
        | false ↦ λ g. absurd (eqb-false b a apart.0 (omega (arith, ltb-false a b f, ltb-false b a g)))
      ]) refl
    ]) refl

itself : (a : ℕ) (S : Atoms) → has (a ∷ S) a ≡ true
itself a S = or_left (eqb a a) (has S a) (eq-eqb a a refl)

-- a subset without the least atom of both
rest_within : (a : ℕ) (S U : Atoms) → AllByRecursion (λ c. a < c) S → IsSubset (a ∷ S) (a ∷ U) → IsSubset S U
rest_within a S U below sub c h =
    elim (or_cases (eqb a c) (has U c) (sub c (or_right (eqb a c) (has S c) h))) [
      | inl e ↦ absurd (false≢true (sym (has-below a c S below (omega (arith, eqb-true a c e))) ∙ h))
      | inr there ↦ there
    ]

-- a subset whose atoms are above the least atom of the greater set
later_within : (b : ℕ) (S U : Atoms) → AllByRecursion (λ c. b < c) S → IsSubset S (b ∷ U) → IsSubset S U
later_within b S U below sub c h =
    elim (or_cases (eqb b c) (has U c) (sub c h)) [
      | inl e ↦ absurd (false≢true (sym (has-below b c S below (omega (arith, eqb-true b c e))) ∙ h))
      | inr there ↦ there
    ]

above_too : (a b : ℕ) (S : Atoms) → b < a → AllByRecursion (λ c. a < c) S → AllByRecursion (λ c. b < c) S
above_too a b [] lt h = tt
above_too a b (c ∷ S) lt h = (omega arith, above_too a b S lt h.1)

pub length-subset : (U S : Atoms) → IsAscending U → IsAscending S → IsSubset S U → length S ≤ length U
length-subset U [] up us sub = omega arith
length-subset [] (a ∷ S) up us sub = absurd (false≢true (sub a (itself a S)))
length-subset (b ∷ U) (a ∷ S) up us sub = elim (cases_order a b) [
  | inl e ↦
      let P : ℕ → Type 0 = λ x. IsSubset (a ∷ S) (x ∷ U) in
      let same : IsSubset (a ∷ S) (a ∷ U) = subst P (sym e) sub in
      omega (arith, length-subset U S up.1 us.1 (rest_within a S U us.0 same))
  | inr o ↦ elim o [
    | inl lt ↦ absurd (absent lt)
    | inr lt ↦ omega (arith, length-subset U (a ∷ S) up.1 us (later_within b (a ∷ S) U (lt, above_too a b S lt us.0) sub))
  ]
]
  where
    absent : a < b → ⊥
    absent lt = elim (or_cases (eqb b a) (has U a) (sub a (itself a S))) [
      | inl e ↦ omega (arith, eqb-true b a e)
      | inr there ↦ false≢true (sym (has-below b a U up.0 (omega arith)) ∙ there)
    ]

-- ---- atoms that are known so far

-- an ascending part of the set U
pub record IsPart (U known : Atoms) : Type 0 where
  pub ascending : IsAscending known
  pub subset : IsSubset known U

subset-with_atom : (U known : Atoms) (a : ℕ) → IsSubset known U → has U a ≡ true → IsSubset (with_atom a known) U
subset-with_atom U known a sub h c there = elim (or_cases (eqb a c) (has known c) (sym (has-with_atom a c known) ∙ there)) [
  | inl e ↦ ap (has U) (sym (eqb-true a c e)) ∙ h
  | inr before ↦ sub c before
]

pub part_more : (U known : Atoms) (a : ℕ) → IsPart U known → has U a ≡ true → IsPart U (with_atom a known)
part_more U known a part h = record { ascending = IsAscending-with_atom a known part.ascending; subset = subset-with_atom U known a part.subset h }

-- each of the atoms is in the set
abbrev pub HasEach : Atoms → List ℕ → Type 0
HasEach U atoms = AllByRecursion (λ a. has U a ≡ true) atoms

pub part_all : (U known : Atoms) (atoms : List ℕ) → IsPart U known → HasEach U atoms → IsPart U (with_atoms known atoms)
part_all U known [] part h = part
part_all U known (a ∷ atoms) part h = part_all U (with_atom a known) atoms (part_more U known a part h.0) h.1

room_from : (known : Atoms) (a : ℕ) (line : List ℕ) → is_one_too_many known a ≡ false → room_for known a line ≡ Ok tt
room_from known a line h = rw h refl

pub room_within : (U known : Atoms) (a : ℕ) (line : List ℕ) → IsAscending U → length U ≤ most_atoms → IsPart U known → has U a ≡ true → room_for known a line ≡ Ok tt
room_within U known a line up few part h = elim (cases_Bool (has known a)) [
  | inl there ↦ room_from known a line (rw there refl)
  | inr new ↦
      let more = part_more U known a part h in
      let longer = length-subset U (with_atom a known) up more.ascending more.subset in
      let lt : nat_le most_atoms (length known) ≡ false = grind (arith, nat_tests, length-with_atom a known new, longer, few) in
      room_from known a line (rw (new, lt) refl)
]

-- ---- the other way round: where there was room

-- an ascending set of no more atoms than may stand
pub record IsRoomy (known : Atoms) : Type 0 where
  pub ascending : IsAscending known
  pub few : length known ≤ most_atoms

pub roomy_more : (known : Atoms) (a : ℕ) → IsRoomy known → is_one_too_many known a ≡ false → IsRoomy (with_atom a known)
roomy_more known a roomy room = record { ascending = IsAscending-with_atom a known roomy.ascending; few = few (cases_Bool (has known a)) }
  where
    few : (has known a ≡ true) ⊎ (has known a ≡ false) → length (with_atom a known) ≤ most_atoms
    few (inl there) = rw (with_atom_present known a roomy.ascending there) roomy.few
    few (inr new) = rw (length-with_atom a known new) (grind (arith, nat_tests, new, room))
