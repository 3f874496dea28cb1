-- The least atom without a value.
use Rattle.std.proofs.Common.{◌≡◌, ℕ, suc, ◌-◌, ◌<◌, ◌≤◌, ◌||◌, Bool, true, false, cond, eqb, List, [], ◌∷◌, length, get_or, Option, Some, None, IsSome, IfSome, ◌⊎◌, inl, inr, refl, sym, ap, ◌∙◌, subst, arith}
use Rattle.std.specs.Prelude.{slice_get}
use Rattle.std.proofs.lemmas.Bool.{false≢true, eqb-true, ne_eqb, cases_lt}
use Rattle.std.proofs.lemmas.Option.{same_Some, slice_get-get_or}
use Rattle.asp_model.specs.declared.program.Program.{Program}
use Rattle.asp_model.specs.Sets.{Atoms, has, IsAscending}
use Rattle.asp_model.specs.Models.{atoms_of, mentions}
use Rattle.asp_model.specs.Sound.{IsSound}
use Rattle.asp_model.proofs.SetLaws.{get_or-ascending, has_at, IsAscending-set_of}
use Rattle.asp_vars.specs.Literals.{value_of}
use Rattle.asp_vars.specs.Numbering.{place_of, var_of_atom}
use Rattle.asp_vars.specs.Tabled.{find_atom}
use Rattle.asp_vars.proofs.PlaceLaws.{place_of-within}
use Rattle.asp_split.specs.Following.{IsLeastOpen}
use Rattle.asp_split.proofs.RangeLaws.{standing_ranges}

at_place : (xs : Atoms) (b : ℕ) → has xs b ≡ true → get_or xs (place_of (λ c. eqb c b) xs) 0 ≡ b
at_place [] b h = absurd (false≢true h)
at_place (x ∷ xs) b h = cases (eqb x b) refl h (at_place xs b)
  where
    cases : (t : Bool) → t ≡ eqb x b → has (x ∷ xs) b ≡ true → (has xs b ≡ true → get_or xs (place_of (λ c. eqb c b) xs) 0 ≡ b) → get_or (x ∷ xs) (place_of (λ c. eqb c b) (x ∷ xs)) 0 ≡ b
    cases true e some rest = ap (λ t. get_or (x ∷ xs) (cond t 0 (suc (place_of (λ c. eqb c b) xs))) 0) (sym e) ∙ eqb-true x b (sym e)
    cases false e some rest =
        ap (λ t. get_or (x ∷ xs) (cond t 0 (suc (place_of (λ c. eqb c b) xs))) 0) (sym e)
        ∙ rest (ap (λ t. t || has xs b) e ∙ some)

-- a smaller atom stands at a smaller place
place_below : (xs : Atoms) (b i : ℕ) → IsAscending xs → has xs b ≡ true → i < length xs → b < get_or xs i 0 → place_of (λ c. eqb c b) xs < i
place_below xs b i up h lt less = cases (cases_lt (place_of (λ c. eqb c b) xs) i)
  where
    cases : (place_of (λ c. eqb c b) xs < i) ⊎ (i ≤ place_of (λ c. eqb c b) xs) → place_of (λ c. eqb c b) xs < i
    cases (inl p) = p
    cases (inr ge) = absurd (omega (arith, less, at_place xs b h, get_or-ascending xs i (place_of (λ c. eqb c b) xs) up ge (place_of-within (λ c. eqb c b) xs h)))

pub least_open-is : (p : Program) (a : List (Option Bool)) (v : ℕ) (r : Option ℕ) → IsSound p → 0 < v → v ≤ length (atoms_of p) →
    ((w : ℕ) → 0 < w → w < v → IsSome (value_of a w)) → r ≡ find_atom p v →
    IfSome r (IsLeastOpen p a)
least_open-is p a v None sound some within decided e = tt
least_open-is p a v (Some x) sound some within decided e =
    let atoms : Atoms = atoms_of p in
    let up : IsAscending atoms = IsAscending-set_of (mentions p) in
    let inside : v - 1 < length atoms = omega (arith, some, within) in
    let found : slice_get atoms (v - 1) ≡ Some x = sym (e ∙ ap (λ t. cond t None (slice_get atoms (v - 1))) (ne_eqb v 0 (λ same. omega (arith, same, some)))) in
    let at : get_or atoms (v - 1) 0 ≡ x = same_Some (get_or atoms (v - 1) 0) x (sym (slice_get-get_or atoms (v - 1) 0 inside) ∙ found) in
    let stands : has atoms x ≡ true = has_at atoms x (v - 1) inside at in
    record {
      stands = stands;
      ranges = standing_ranges p x sound stands;
      decided = λ b less h.
          let below : place_of (λ c. eqb c b) atoms < v - 1 = place_below atoms b (v - 1) up h inside (subst (λ n. b < n) (sym at) less) in
          decided (var_of_atom p b) (omega arith) (omega (arith, below, some));
    }
