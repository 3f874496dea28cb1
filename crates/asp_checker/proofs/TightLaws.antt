-- What follows still follows where a set was found.
use Rattle.std.proofs.Common.{◌≡◌, Bool, true, false, not, ◌||◌, List, [], ◌∷◌, ◌++◌, map, set, refl, sym, ap, ◌∙◌, subst, Some, None, Option}
use Rattle.std.specs.Prelude.{ℤ}
use Rattle.std.specs.List.{list_any, list_all}
use Rattle.std.proofs.lemmas.Bool.{false≢true, or_parts}
use Rattle.asp_model.specs.declared.program.Program.{Program}
use Rattle.asp_model.specs.Sets.{Atoms}
use Rattle.asp_model.specs.Costs.{cost, betters}
use Rattle.asp_vars.specs.Literals.{Literal, holds_in}
use Rattle.asp_vars.specs.Numbering.{bodies_of}
use Rattle.asp_bound.specs.Optimism.{optimistic}
use Rattle.asp_proof.specs.Changes.{last_from}
use Rattle.asp_proof.specs.declared.proof.Sought.{Sought}
use Rattle.asp_proof.specs.declared.proof.Sought.TheVariants.{All, Best, Optima}
use Rattle.asp_checker.specs.declared.bounds.Bound.{Bound}
use Rattle.asp_checker.specs.Propagation.{is_broken, reaches_bound, has_conflict}
use Rattle.asp_checker.specs.Lines.{MayBeFound, nogood_of_answer, avoided, bound_by}
use Rattle.asp_checker.specs.Blocks.{known_by, known_with, cost_of_bound}
use Rattle.asp_checker.specs.Chasing.{IsRoot}
use Rattle.asp_checker.proofs.ExcuseLaws.{last_push, betters_then}
use Rattle.asp_checker.proofs.AnswerLaws.{one_behind}
use Rattle.asp_checker.proofs.ChaseLaws.{root_more}

-- what doesn't reach the one bound doesn't reach the other
abbrev IsTighter : Program → Option (List ℤ) → Option (List ℤ) → Type 0
IsTighter p old new = (y : List (Option Bool)) → reaches_bound p new y ≡ false → reaches_bound p old y ≡ false

tighter_conflict : (p : Program) (rows all : List (List Literal)) (b d : Option Bound) (y : List (Option Bool)) →
    ((q : List Literal → Bool) → list_any q all ≡ false → list_any q rows ≡ false) → IsTighter p (cost_of_bound b) (cost_of_bound d) →
    has_conflict p (known_by all d) y ≡ false → has_conflict p (known_by rows b) y ≡ false
tighter_conflict p rows all b d y fewer tighter e =
    let hit : List Literal → Bool = λ n. list_all (holds_in y) n in
    let first = or_parts (list_any hit all || list_any (is_broken p y) (bodies_of p)) (reaches_bound p (cost_of_bound d) y) e in
    let second = or_parts (list_any hit all) (list_any (is_broken p y) (bodies_of p)) first.0 in
    three (list_any hit rows) (list_any (is_broken p y) (bodies_of p)) (reaches_bound p (cost_of_bound b) y) (fewer hit second.0) second.1 (tighter y first.1)
  where
    three : (a b c : Bool) → a ≡ false → b ≡ false → c ≡ false → (a || b || c) ≡ false
    three false false c e f g = g
    three true b c e f g = absurd (false≢true (sym e))
    three false true c e f g = absurd (false≢true (sym f))

root_tighter : (p : Program) (rows all : List (List Literal)) (b d : Option Bound) (x : List (Option Bool)) →
    ((q : List Literal → Bool) → list_any q all ≡ false → list_any q rows ≡ false) → IsTighter p (cost_of_bound b) (cost_of_bound d) →
    IsRoot p (known_by rows b) x → IsRoot p (known_by all d) x
root_tighter p rows all b d x fewer tighter h = record {
  size = h.size;
  follow = λ y propagated e. h.follow y (record {
    size = propagated.size;
    now = tighter_conflict p rows all b d y fewer tighter propagated.now;
    one_more = λ v c i le none. tighter_conflict p rows all b d (set y v (Some c)) fewer tighter (propagated.one_more v c i le none);
  }) e;
}

-- ---- a set more
behind : {X : Type 0} (q : X → Bool) (xs ys : List X) → list_any q (xs ++ ys) ≡ false → list_any q ys ≡ false
behind q [] ys e = e
behind q (x ∷ xs) ys e = behind q xs ys (or_parts (q x) (list_any q (xs ++ ys)) e).1

fewer_sets : {X Y : Type 0} (f : X → Y) (xs more : List X) (rows : List Y) (q : Y → Bool) → list_any q (map f (xs ++ more) ++ rows) ≡ false → list_any q (map f xs ++ rows) ≡ false
fewer_sets f [] more rows q e = behind q (map f more) rows e
fewer_sets f (x ∷ xs) more rows q e =
    let parts = or_parts (q (f x)) (list_any q (map f (xs ++ more) ++ rows)) e in
    ap (λ b. b || list_any q (map f xs ++ rows)) parts.0 ∙ fewer_sets f xs more rows q parts.1

fewer_avoided : (p : Program) (o : Sought) (found : List Atoms) (S : Atoms) (rows : List (List Literal)) (q : List Literal → Bool) →
    list_any q (map (nogood_of_answer p) (avoided o (found ++ S ∷ [])) ++ rows) ≡ false → list_any q (map (nogood_of_answer p) (avoided o found) ++ rows) ≡ false
fewer_avoided p All found S rows q e = fewer_sets (nogood_of_answer p) found (S ∷ []) rows q e
fewer_avoided p Best found S rows q e = e
fewer_avoided p Optima found S rows q e = fewer_sets (nogood_of_answer p) found (S ∷ []) rows q e

reached : (x : Bool) → not x ≡ false → x ≡ true
reached true e = refl
reached false e = absurd (false≢true (sym e))

tighter_by : (p : Program) (o : Sought) (found : List Atoms) (S : Atoms) → MayBeFound p o found S → IsTighter p (bound_by p o found) (bound_by p o (found ++ S ∷ []))
tighter_by p All found S may y e = refl
tighter_by p Best [] S may y e = refl
tighter_by p Best (U ∷ found) S may y e =
    let less = reached (betters (optimistic p y) (cost p S)) (sym (ap (λ (V : Atoms). not (betters (optimistic p y) (cost p V))) (last_push U found S)) ∙ e) in
    ap not (betters_then (optimistic p y) (cost p S) (cost p (last_from U found)) less may.cheaper)
tighter_by p Optima [] S may y e = refl
tighter_by p Optima (U ∷ found) S may y e = e

tighter_as : (p : Program) (a b c d : Option (List ℤ)) → b ≡ a → d ≡ c → IsTighter p a c → IsTighter p b d
tighter_as p a b c d e f h y k = ap (λ (r : Option (List ℤ)). reaches_bound p r y) e ∙ h y (sym (ap (λ (r : Option (List ℤ)). reaches_bound p r y) f) ∙ k)

pub root_found : (p : Program) (o : Sought) (found : List Atoms) (S : Atoms) (rows : List (List Literal)) (b d : Option Bound) (x : List (Option Bool)) →
    MayBeFound p o found S → cost_of_bound b ≡ bound_by p o found → cost_of_bound d ≡ bound_by p o (found ++ S ∷ []) →
    IsRoot p (known_with p (avoided o found) rows b) x → IsRoot p (known_with p (avoided o (found ++ S ∷ [])) rows d) x
root_found p o found S rows b d x may old new h =
    root_tighter p (map (nogood_of_answer p) (avoided o found) ++ rows) (map (nogood_of_answer p) (avoided o (found ++ S ∷ [])) ++ rows) b d x
    (λ q e. fewer_avoided p o found S rows q e)
    (tighter_as p (bound_by p o found) (cost_of_bound b) (bound_by p o (found ++ S ∷ [])) (cost_of_bound d) old new (tighter_by p o found S may)) h

-- ---- a nogood more
-- the same in other words
pub root_as : (p : Program) (L M : List Atoms) (rows kept : List (List Literal)) (b : Option Bound) (x : List (Option Bool)) → L ≡ M → rows ≡ kept →
    IsRoot p (known_with p L rows b) x → IsRoot p (known_with p M kept b) x
root_as p L M rows kept b x e f h = subst (λ (Ss : List Atoms). IsRoot p (known_with p Ss kept b) x) e (subst (λ (ns : List (List Literal)). IsRoot p (known_with p L ns b) x) f h)

pub root_kept : (p : Program) (L M : List Atoms) (kept rows : List (List Literal)) (n : List Literal) (b : Option Bound) (x : List (Option Bool)) → L ≡ M →
    rows ≡ kept ++ n ∷ [] → IsRoot p (known_with p M kept b) x → IsRoot p (known_with p L rows b) x
root_kept p L M kept rows n b x e f h =
    let first = map (nogood_of_answer p) M in
    subst (λ (Ss : List Atoms). IsRoot p (known_with p Ss rows b) x) (sym e)
    (subst (λ (ns : List (List Literal)). IsRoot p (known_by ns b) x) (sym (one_behind first kept rows n f)) (root_more p (first ++ kept) (n ∷ []) b x h))

-- before the first line
pub root_first_known : (p : Program) (o : Sought) (found : List Atoms) (rows kept : List (List Literal)) (x : List (Option Bool)) → found ≡ [] → rows ≡ kept →
    IsRoot p (known_with p [] rows None) x → IsRoot p (known_with p (avoided o found) kept None) x
root_first_known p o found rows kept x none e h = root_as p [] (avoided o found) rows kept None x (nothing o ∙ ap (avoided o) (sym none)) e h
  where
    nothing : (o : Sought) → [] ≡ avoided o []
    nothing All = refl
    nothing Best = refl
    nothing Optima = refl
