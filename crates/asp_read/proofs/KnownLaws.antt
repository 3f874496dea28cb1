-- The set of the atoms that stood so far.
use Rattle.std.proofs.Common.{◌≡◌, ℕ, zero, suc, ◌+◌, ◌/◌, ◌%◌, ◌<◌, true, false, List, [], ◌∷◌, length, get_or, set, refl, sym, ap, ◌∙◌, arith, inl, inr}
use Rattle.std.specs.Prelude.{nat_eq, nat_lt, if◌then◌else◌}
use Rattle.std.proofs.lemmas.Bool.{cases_eq, or_parts, or_right, eqb-false, ltb-false}
use Rattle.std.proofs.lemmas.List.{get_or-set_same, get_or-set_other, length-set}
use Rattle.std.proofs.lemmas.Bool.Decides.{nat_tests}
use Rattle.asp_model.specs.Sets.{Atoms, IsAscending, has, with_atom}
use Rattle.asp_model.proofs.SetLaws.{has-with_atom, IsAscending-with_atom, with_atom_present}
use Rattle.asp_read.specs.Known.{IsKnown, atom_at_place}
use Rattle.asp_read.specs.Fields.{most_atoms}

-- ---- one more atom

-- (the set as it is kept, and as it is seen)
pub stays : (S T : Atoms) (a : ℕ) → S ≡ T → IsAscending S → has S a ≡ true → T ≡ with_atom a T
stays S T a e up h = sym e ∙ sym (with_atom_present S a up h) ∙ ap (with_atom a) e

itself : (a : ℕ) → nat_eq a a ≡ true
itself a = grind (arith, nat_tests)

pub has_itself : (a : ℕ) (S : Atoms) → has (with_atom a S) a ≡ true
has_itself a S = has-with_atom a a S ∙ rw itself refl

pub length-with_atom : (a : ℕ) (S : Atoms) → has S a ≡ false → length (with_atom a S) ≡ suc (length S)
length-with_atom a [] h = refl
length-with_atom a (b ∷ S) h =
    let apart = or_parts (nat_eq b a) (has S a) h in
    (elim (nat_lt a b) as (λ v. nat_lt a b ≡ v → length (if v then a ∷ b ∷ S else b ∷ (if nat_lt b a then with_atom a S else S)) ≡ suc (suc (length S))) [
      | true ↦ λ _. refl
      | false ↦ λ f. (elim (nat_lt b a) as (λ w. nat_lt b a ≡ w → suc (length (if w then with_atom a S else S)) ≡ suc (suc (length S))) [
        | true ↦ λ _. ap suc (length-with_atom a S apart.1)
        | false ↦ λ g. absurd (eqb-false b a apart.0 (omega (arith, ltb-false a b f, ltb-false b a g)))
      ]) refl
    ]) refl

-- ---- what is kept

pub one_known : (S T : Atoms) (recent : List ℕ) (count a : ℕ) → IsKnown S recent count → T ≡ with_atom a S → has S a ≡ false → count < most_atoms → IsKnown T recent (count + 1)
one_known S T recent count a k e new lt = rw e (record {
  ascending = IsAscending-with_atom a S k.ascending;
  stood = λ i within some. rw (has-with_atom a (atom_at_place (get_or recent i 0) i) S) (or_right _ _ (k.stood i within some));
  places = k.places;
  counted = rw (length-with_atom a S new) (omega (arith, k.counted));
  bound = omega (arith, lt);
})

pub named : (a : ℕ) → atom_at_place (a / 1048576 + 1) (a % 1048576) ≡ a
named a = omega arith

pub recently_known : (S : Atoms) (recent : List ℕ) (count place mark a : ℕ) → IsKnown S recent count → has S a ≡ true → place < length recent →
    atom_at_place mark place ≡ a → IsKnown S (set recent place mark) count
recently_known S recent count place mark a k stands within named = record {
  ascending = k.ascending;
  stood = λ i inside some. elim (cases_eq i place) as (λ _. has S (atom_at_place (get_or (set recent place mark) i 0) i) ≡ true) [
    | inl e ↦ rw (e, get_or-set_same recent place mark 0 within, named) stands
    | inr ne ↦
        let same = get_or-set_other recent place i mark 0 ne in
        rw same (k.stood i (omega (arith, inside, length-set recent place mark)) (omega (arith, some, same)))
  ];
  places = length-set recent place mark ∙ k.places;
  counted = k.counted;
  bound = k.bound;
}

same_at : (xs : List ℕ) (i d e : ℕ) → i < length xs → get_or xs i d ≡ get_or xs i e
same_at [] i d e lt = absurd (omega arith)
same_at (x ∷ xs) zero d e lt = refl
same_at (x ∷ xs) (suc i) d e lt = same_at xs i d e (omega arith)

pub recent_stands : (S : Atoms) (recent : List ℕ) (count place mark a x : ℕ) → IsKnown S recent count → place < length recent →
    x ≡ get_or recent place x → x ≡ mark → 0 < mark → atom_at_place mark place ≡ a → has S a ≡ true
recent_stands S recent count place mark a x k within at is some named =
    let here : get_or recent place 0 ≡ mark = same_at recent place 0 x within ∙ sym at ∙ is in
    rw (here, named) at (k.stood place within (omega (arith, here, some)))
