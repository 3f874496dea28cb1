-- Sets among ascending atoms.
use Rattle.std.proofs.Common.{◌≡◌, ℕ, ◌<◌, ◌⊎◌, Bool, true, false, cond, ◌||◌, eqb, List, [], ◌∷◌, map, filter, refl, sym, ap, ◌∙◌, subst, inl, inr, arith}
use Rattle.std.specs.List.{AllByRecursion}
use Rattle.std.proofs.lemmas.Bool.Decides.{nat_tests}
use Rattle.std.proofs.lemmas.Bool.{false≢true, eqb-true, or_right}
use Rattle.asp_model.specs.Sets.{Atoms, IsAscending, has}
use Rattle.asp_model.proofs.SetLaws.{has-below}
use Rattle.asp_rows.specs.Bits.{IsAmong}

other : (a b : ℕ) (S : Atoms) → a < b → has (a ∷ S) b ≡ has S b
other a b S lt = let ne : eqb a b ≡ false = grind (arith, nat_tests) in rw ne refl

-- those behind the first atom don't see it
pub behind : (a : ℕ) (S : Atoms) (atoms : List ℕ) → AllByRecursion (λ b. a < b) atoms → map (has (a ∷ S)) atoms ≡ map (has S) atoms
behind a S [] low = refl
behind a S (b ∷ atoms) low = rw (other a b S low.0, behind a S atoms low.1) refl

pub itself : (a : ℕ) (S : Atoms) → has (a ∷ S) a ≡ true
itself a S = let is : eqb a a ≡ true = grind (arith, nat_tests) in rw is refl

pub none_among : (S : Atoms) → IsAmong [] S → S ≡ []
none_among [] h = refl
none_among (a ∷ S) h = absurd (false≢true (h.stand a (itself a S)))

-- the set has the first atom, or all of its atoms are behind it
abbrev pub Begins : ℕ → List ℕ → Atoms → Type 0
Begins a atoms S = ((rest : Atoms) × (S ≡ a ∷ rest) × AllByRecursion (λ b. a < b) rest × IsAmong atoms rest) ⊎ (AllByRecursion (λ b. a < b) S × IsAmong atoms S)

higher : (a b : ℕ) (S : Atoms) → a < b → AllByRecursion (λ c. b < c) S → AllByRecursion (λ c. a < c) S
higher a b [] lt low = tt
higher a b (c ∷ S) lt low = (omega (arith, low.0), higher a b S lt low.1)

each_above : (a : ℕ) (S : Atoms) (b : ℕ) → AllByRecursion (λ c. a < c) S → has S b ≡ true → a < b
each_above a [] b low h = absurd (false≢true h)
each_above a (c ∷ S) b low h = (elim (eqb c b) as (λ t. eqb c b ≡ t → (t || has S b) ≡ true → a < b) [
  | true ↦ λ e f. let is : c ≡ b = eqb-true c b e in omega (arith, low.0, is)
  | false ↦ λ e f. each_above a S b low.1 f
]) refl h

pub begins : (a : ℕ) (atoms : List ℕ) (S : Atoms) → AllByRecursion (λ b. a < b) atoms → IsAmong (a ∷ atoms) S → Begins a atoms S
begins a atoms [] low h = inr (tt, record { rising = tt; stand = λ b f. absurd (false≢true f) })
begins a atoms (b ∷ S) low h = (elim (eqb a b) as (λ t. eqb a b ≡ t → Begins a atoms (b ∷ S)) [
  | true ↦ λ e.
      let is : a ≡ b = eqb-true a b e in
      let above : AllByRecursion (λ c. a < c) S = subst (λ (k : ℕ). AllByRecursion (λ c. k < c) S) (sym is) h.rising.0 in
      inl (
        S,
        ap (λ (k : ℕ). k ∷ S) (sym is),
        above,
        record {
          rising = h.rising.1;
          stand = λ c f. let lt : a < c = each_above a S c above f in sym (other a c atoms lt) ∙ h.stand c (or_right (eqb b c) (has S c) f);
        },
      )
  | false ↦ λ e.
      let stands : has atoms b ≡ true = ap (λ (t : Bool). t || has atoms b) (sym e) ∙ h.stand b (itself b S) in
      let lt : a < b = each_above a atoms b low stands in
      inr (
        (lt, higher a b S lt h.rising.0),
        record {
          rising = h.rising;
          stand = λ c f. let above : a < c = each_above a (b ∷ S) c (lt, higher a b S lt h.rising.0) f in sym (other a c atoms above) ∙ h.stand c f;
        },
      )
]) refl

pub lacks : (a : ℕ) (S : Atoms) → AllByRecursion (λ b. a < b) S → has S a ≡ false
lacks a S low = has-below a a S low (omega arith)

-- ---- a set from the atoms that are in it

-- those behind the first atom don't see it
kept_behind : (a : ℕ) (S : Atoms) (atoms : List ℕ) → AllByRecursion (λ b. a < b) atoms → filter (has (a ∷ S)) atoms ≡ filter (has S) atoms
kept_behind a S [] low = refl
kept_behind a S (b ∷ atoms) low = ap (λ (t : Bool). cond t (b ∷ filter (has (a ∷ S)) atoms) (filter (has (a ∷ S)) atoms)) (other a b S low.0)
    ∙ ap (λ (t : List ℕ). cond (has S b) (b ∷ t) t) (kept_behind a S atoms low.1)

pub filter_is : (atoms : List ℕ) (S : Atoms) → IsAscending atoms → IsAmong atoms S → filter (has S) atoms ≡ S
filter_is [] S up s = sym (none_among S s)
filter_is (a ∷ atoms) S up s = elim (begins a atoms S up.0 s) [
  | inl x ↦
      ap (λ (X : Atoms). filter (has X) (a ∷ atoms)) x.1
      ∙ ap (λ (t : Bool). cond t (a ∷ filter (has (a ∷ x.0)) atoms) (filter (has (a ∷ x.0)) atoms)) (itself a x.0)
      ∙ ap (λ (t : List ℕ). a ∷ t) (kept_behind a x.0 atoms up.0 ∙ filter_is atoms x.0 up.1 x.3)
      ∙ sym x.1
  | inr x ↦ ap (λ (t : Bool). cond t (a ∷ filter (has S) atoms) (filter (has S) atoms)) (lacks a S x.0) ∙ filter_is atoms S up.1 x.1
]

-- what isn't one of the atoms isn't in the set
pub absent : (atoms : List ℕ) (S : Atoms) (a : ℕ) → IsAmong atoms S → has atoms a ≡ false → has S a ≡ false
absent atoms S a s none = cases (has S a) refl
  where
    cases : (t : Bool) → has S a ≡ t → has S a ≡ false
    cases true q = absurd (false≢true (sym none ∙ s.stand a q))
    cases false q = q
