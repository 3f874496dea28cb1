-- A program that assumes a query's literals, too: where their atoms stand in it, its answers are those of the program that have them.
use Rattle.std.proofs.Common.{◌≡◌, ◌∙◌, ℕ, ◌+◌, Bool, true, false, not, ◌&&◌, ◌||◌, eqb, List, [], ◌∷◌, ◌++◌, length, map, filter, refl, sym, ap, subst}
use Rattle.std.specs.Prelude.{ℤ, flat_map}
use Rattle.std.specs.List.{AllByRecursion, list_any}
use Rattle.std.proofs.lemmas.Bool.{eqb-true}
use Rattle.std.proofs.lemmas.List.Folds.{list_any-append}
use Rattle.asp_model.specs.declared.program.Program.{Program}
use Rattle.asp_model.specs.Sets.{Atoms, has, same_set, set_of, subsets}
use Rattle.asp_model.specs.Holding.{all_hold, atom_of, body_atoms}
use Rattle.asp_model.specs.Models.{answers, atoms_of, is_violated, models, rules_in_force, head_atoms}
use Rattle.asp_model.specs.Reduct.{reduct, steps}
use Rattle.asp_model.proofs.SetLaws.{IsAscending-set_of, has-set_of, same_from_has}
use Rattle.asp_core.specs.Boards.{IsQuery}
use Rattle.asp_read.specs.Queries.{with_query}

-- ---- its atoms
or_none : (a : Bool) → (a || false) ≡ a
or_none true = refl
or_none false = refl

or_more : (a b c : Bool) → (a || (b || c)) ≡ ((a || b) || c)
or_more true b c = refl
or_more false b c = refl

-- an atom of the query stands already
absorbed-by : (S : Atoms) (a c : ℕ) (rest x : Bool) → eqb a c ≡ x → has S a ≡ true → (has S c || rest) ≡ has S c → (has S c || (x || rest)) ≡ has S c
absorbed-by S a c rest true same stands h = let is : has S c ≡ true = subst (λ k. has S k ≡ true) (eqb-true a c same) stands in ap (λ (b : Bool). b || true) is ∙ sym is
absorbed-by S a c rest false other stands h = h

absorbed : (S : Atoms) (query : List ℤ) (c : ℕ) → AllByRecursion (λ l. has S (atom_of l) ≡ true) query → (has S c || has (map atom_of query) c) ≡ has S c
absorbed S [] c h = or_none (has S c)
absorbed S (l ∷ query) c h = absorbed-by S (atom_of l) c (has (map atom_of query) c) (eqb (atom_of l) c) refl h.0 (absorbed S query c h.1)

map-both : (xs ys : List ℤ) → map atom_of (xs ++ ys) ≡ map atom_of xs ++ map atom_of ys
map-both [] ys = refl
map-both (x ∷ xs) ys = ap (λ (ks : List ℕ). atom_of x ∷ ks) (map-both xs ys)

has-both : (xs ys : List ℕ) (c : ℕ) → has (xs ++ ys) c ≡ (has xs c || has ys c)
has-both xs ys c = list_any-append (λ b. eqb b c) xs ys

has-query : (front : List ℕ) (xs query : List ℤ) (c : ℕ) → has (front ++ map atom_of (xs ++ query)) c ≡ (has (front ++ map atom_of xs) c || has (map atom_of query) c)
has-query front xs query c =
    has-both front (map atom_of (xs ++ query)) c ∙ ap (λ (ks : List ℕ). has front c || has ks c) (map-both xs query)
    ∙ ap (λ (b : Bool). has front c || b) (has-both (map atom_of xs) (map atom_of query) c) ∙ or_more (has front c) (has (map atom_of xs) c) (has (map atom_of query) c)
    ∙ ap (λ (b : Bool). b || has (map atom_of query) c) (sym (has-both front (map atom_of xs) c))

same-from : (front : List ℕ) (xs query : List ℤ) → AllByRecursion (λ l. has (set_of (front ++ map atom_of xs)) (atom_of l) ≡ true) query →
    set_of (front ++ map atom_of (xs ++ query)) ≡ set_of (front ++ map atom_of xs)
same-from front xs query h =
    let old : List ℕ = front ++ map atom_of xs in
    let new : List ℕ = front ++ map atom_of (xs ++ query) in
    same_from_has (set_of new) (set_of old) (IsAscending-set_of new) (IsAscending-set_of old) (λ c.
    has-set_of new c ∙ has-query front xs query c ∙ ap (λ (b : Bool). b || has (map atom_of query) c) (sym (has-set_of old c)) ∙ absorbed (set_of old) query c h)

-- the atoms of all statements but assumptions
stated : Program → List ℕ
stated p =
    flat_map (λ r. head_atoms r.head ++ body_atoms r.body) p.rules ++ flat_map (λ m. map (λ item. atom_of item.0) m.items) p.minimize
    ++ flat_map (λ o. map atom_of o.condition) p.outputs ++ map (λ e. e.atom) p.externals

pub same-atoms : (p : Program) (query : List ℤ) → IsQuery p query → atoms_of (with_query p query) ≡ atoms_of p
unfolding stated
same-atoms p query h = same-from (stated p) p.assumptions query h

-- ---- its stable models
by_atoms : Program → Atoms → List Atoms
by_atoms p L =
    filter (λ S. same_set S (steps (reduct S (rules_in_force p)) (length L + 1)) && not (list_any (is_violated S) (rules_in_force p))) (subsets L)

pub same-models : (p : Program) (query : List ℤ) → IsQuery p query → models (with_query p query) ≡ models p
unfolding by_atoms
same-models p query h = ap (by_atoms p) (same-atoms p query h)

pub query-answers : (p : Program) (query : List ℤ) → IsQuery p query → filter (λ S. all_hold S (p.assumptions ++ query)) (models p) ≡ answers (with_query p query)
query-answers p query h = ap (λ (Ss : List Atoms). filter (λ S. all_hold S (p.assumptions ++ query)) Ss) (sym (same-models p query h))
