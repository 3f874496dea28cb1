-- What an append tells.
use Rattle.std.proofs.Common.{◌≡◌, ℕ, List, [], ◌∷◌, ◌++◌, length, Result, Ok, Err, refl, sym, ap, ◌∙◌, subst}
use Rattle.std.proofs.lemmas.List.{append-nil}
use Rattle.std.specs.Result.{IfOk, OnErr}
use Rattle.asp_vars.specs.declared.nogood.Nogood.{Nogood}
use Rattle.asp_vault.specs.declared.view.View.{View}
use Rattle.asp_vault.specs.Makers.{Unnamed}
use Rattle.asp_vault.specs.Rules.{holding, after_misses, given_back, Learnt}
use Rattle.asp_vault.specs.Moments.{Stays, Moment}
use Rattle.asp_vault.proofs.Calls.{moment_of, stays_by}
use Rattle.asp_log.specs.declared.scope.Scope.{Scope}
use Rattle.asp_log.specs.Entries.{unsigned}

abbrev Knows : Type 0
Knows = View Scope Nogood

module _ (kept : List Nogood → Type 0) (v u w : Knows) (m : ℕ) (xs ys : List Nogood) (n : Nogood) (took : u ≡ holding xs (after_misses m v))
    (gave : w ≡ given_back ys u) (learnt : Learnt unsigned v xs) where
  given : (added : List Nogood) → ys ≡ xs ++ added → w ≡ given_back (xs ++ added) u
  given added e = gave ∙ ap (λ (l : List Nogood). given_back l u) e

  pub append-stays : {X : Type 0} (r : Result ℕ X) → IfOk r (λ at. (at ≡ length xs) × (ys ≡ xs ++ n ∷ [])) → OnErr r (ys ≡ xs) → Stays v w
  append-stays (Ok at) ok err = stays_by unsigned v u w m xs (n ∷ []) took (given (n ∷ []) ok.1) learnt
  append-stays (Err e) ok err = stays_by unsigned v u w m xs [] took (given [] (err ∙ sym (append-nil xs))) learnt

  pub append-moment : {X : Type 0} (r : Result ℕ X) → kept ys → IfOk r (λ at. (at ≡ length xs) × (ys ≡ xs ++ n ∷ [])) →
      IfOk r (λ at. (before : List Nogood) × (at ≡ length before) × Moment unsigned kept v w before (n ∷ []))
  append-moment (Ok at) keeps ok = (xs, ok.0, moment_of unsigned kept v u w m xs (n ∷ []) took (given (n ∷ []) ok.1) learnt (subst kept ok.1 keeps))
  append-moment (Err e) keeps ok = tt

-- no entry of a log names a number
pub unsigned-unnamed : (entries : List Nogood) → Unnamed unsigned entries
unsigned-unnamed [] = tt
unsigned-unnamed (n ∷ entries) = (refl, unsigned-unnamed entries)
