-- The rows of the graph, one by one.
use Rattle.std.proofs.Common.{◌≡◌, ℕ, ◌+◌, ◌<◌, ◌≤◌, List, [], ◌∷◌, ◌++◌, map, filter, length, get_or, take, sym, ap, ◌∙◌, subst, arith, append_assoc}
use Rattle.std.specs.Prelude.{All}
use Rattle.std.proofs.lemmas.List.{take_more, map-append}
use Rattle.std.proofs.lemmas.List.Elements.{All-push, All-weaker, All-map, All-filter}
use Rattle.asp_model.specs.declared.program.Program.{Program}
use Rattle.asp_vars.specs.Literals.{Literal}
use Rattle.asp_vars.specs.Numbering.{number_count}
use Rattle.asp_vars.specs.Tabled.{IsAtomVar, IsBodyNumber}

pub rows_more : {X Y : Type 0} (f : X → Y) (xs : List X) (i : ℕ) (d : X) (start rows rows' : List Y) (row : Y) → i < length xs →
    rows ≡ start ++ map f (take i xs) → row ≡ f (get_or xs i d) → rows' ≡ rows ++ row ∷ [] → rows' ≡ start ++ map f (take (i + 1) xs)
rows_more f xs i d start rows rows' row lt before at after =
    after ∙ ap (λ r. r ++ row ∷ []) before ∙ append_assoc start (map f (take i xs)) (row ∷ [])
    ∙ ap (λ y. start ++ (map f (take i xs) ++ y ∷ [])) at
    ∙ ap (λ ys. start ++ ys) (sym (map-append f (take i xs) (get_or xs i d ∷ [])) ∙ ap (map f) (sym (take_more xs i d lt)))

pub within_more : (n : ℕ) (rows rows' : List (List ℕ)) (row : List ℕ) → All (All (λ v. v ≤ n)) rows → All (λ v. v ≤ n) row → rows' ≡ rows ++ row ∷ [] → All (All (λ v. v ≤ n)) rows'
within_more n rows rows' row before at after =
    subst (λ (r : List (List ℕ)). All (All (λ v. v ≤ n)) r) (sym after) (All-push (All (λ v. v ≤ n)) rows row before at)

pub bodies_within : (p : Program) (row : List ℕ) → All (IsBodyNumber p) row → All (λ v. v ≤ number_count p) row
bodies_within p row h = All-weaker (IsBodyNumber p) (λ v. v ≤ number_count p) (λ v b. b.1) row h

pub atoms_within : (p : Program) (lits : List Literal) (row : List ℕ) → All (λ l. IsAtomVar p l.var) lits → row ≡ map (λ l. l.var) (filter (λ l. l.truth) lits) → All (λ v. v ≤ number_count p) row
atoms_within p lits row h e =
    subst (λ (r : List ℕ). All (λ v. v ≤ number_count p) r) (sym e)
    (All-map (λ v. v ≤ number_count p) (λ (l : Literal). l.var) (filter (λ l. l.truth) lits)
    (All-filter (λ l. l.truth) (λ l. l.var ≤ number_count p) lits (All-weaker (λ l. IsAtomVar p l.var) (λ l. l.var ≤ number_count p) (λ l a. omega (arith, a.1)) lits h)))
