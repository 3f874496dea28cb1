-- The ranking in which a search begins.
use Rattle.std.proofs.Common.{◌≡◌, ℕ, ◌+◌, ◌<◌, List, [], ◌∷◌, ◌++◌, Bool, true, length, fold, map, refl, sym, ap, subst, ◌∙◌, take, get_or, arith}
use Rattle.std.specs.Prelude.{IsTrue}
use Rattle.std.specs.List.{All}
use Rattle.std.proofs.lemmas.List.{take_more}
use Rattle.asp_model.specs.declared.program.Body.{Body}
use Rattle.asp_model.specs.declared.program.Program.{Program}
use Rattle.asp_vars.specs.Literals.{Literal}
use Rattle.asp_vars.specs.Numbering.{bodies_of, var_count}
use Rattle.asp_vars.specs.Completion.{completion}
use Rattle.asp_vars.specs.declared.nogood.Nogood.{Nogood}
use Rattle.asp_trail.specs.Trails.{IsVar}
use Rattle.asp_complete.specs.Listed.{pure}
use Rattle.asp_order.specs.Heaps.{Ranking, is_in}
use Rattle.asp_order.specs.Waiting.{HasVars, fresh, aged}
use Rattle.asp_order.proofs.HeapLaws.{IsAlike, aged_alike, all_bumped_alike, alike_still}
use Rattle.asp_state.specs.SearchStates.{completed_ranking, first_ranking, with_places, unlisted_literals, with_bodies, with_unlisted}

-- the same variables are in the heap
pub places_alike : (r : Ranking) (ns : List Nogood) → IsAlike r (fold (λ (x : Ranking) (n : Nogood). with_places x n.lits) r ns)
places_alike r [] = record { members = refl; vars = refl }
places_alike r (n ∷ ns) =
    let more : Ranking = with_places r n.lits in
    alike_still r more (fold (λ (x : Ranking) (n : Nogood). with_places x n.lits) more ns) (all_bumped_alike r n.lits) (places_alike more ns)

-- the nogoods as they are listed
pub places_listed : (r : Ranking) (ns : List (List Literal)) → fold (λ (x : Ranking) (n : Nogood). with_places x n.lits) r (map pure ns) ≡ fold with_places r ns
places_listed r [] = refl
places_listed r (n ∷ ns) = places_listed (with_places r n) ns

-- variables have an activity
pub vars_ranked : (vars k : ℕ) (lits : List Literal) → k ≡ vars + 1 → All (λ l. IsVar vars l.var) lits → All (λ l. l.var < k) lits
vars_ranked vars k lits e a i d h = let v = a i d h in omega (arith, v.1, e)

pub bodies_alike : (p : Program) (r : Ranking) (bs : List Body) → IsAlike r (with_bodies p r bs)
bodies_alike p r [] = record { members = refl; vars = refl }
bodies_alike p r (b ∷ bs) =
    let more : Ranking = with_places r (unlisted_literals p b) in
    alike_still r more (with_bodies p more bs) (all_bumped_alike r (unlisted_literals p b)) (bodies_alike p more bs)

pub unlisted-vars : (p : Program) (n : ℕ) (old new : Ranking) → new ≡ with_unlisted p old → HasVars n old → HasVars n new
unlisted-vars p n old new e h = subst (HasVars n) (sym e) ((bodies_alike p old (bodies_of p)).vars ∙ h)

pub unlisted-members : (p : Program) (old new : Ranking) → new ≡ with_unlisted p old → new.members ≡ old.members
unlisted-members p old new e = ap (λ (r : Ranking). r.members) e ∙ (bodies_alike p old (bodies_of p)).members

bodies_push : (p : Program) (r : Ranking) (bs : List Body) (b : Body) → with_bodies p r (bs ++ b ∷ []) ≡ with_places (with_bodies p r bs) (unlisted_literals p b)
bodies_push p r [] b = refl
bodies_push p r (x ∷ bs) b = bodies_push p (with_places r (unlisted_literals p x)) bs b

-- a body more
pub bodies_more : (p : Program) (r old new : Ranking) (i : ℕ) (d : Body) → i < length (bodies_of p) → old ≡ with_bodies p r (take i (bodies_of p)) →
    new ≡ with_places old (unlisted_literals p (get_or (bodies_of p) i d)) →
    new ≡ with_bodies p r (take (i + 1) (bodies_of p))
bodies_more p r old new i d lt before made =
    let b : Body = get_or (bodies_of p) i d in
    made ∙ (ap (λ (x : Ranking). with_places x (unlisted_literals p b)) before ∙ sym (ap (with_bodies p r) (take_more (bodies_of p) i d lt) ∙ bodies_push p r (take i (bodies_of p)) b))

pub bodies-vars : (p : Program) (n i : ℕ) (r old : Ranking) → old ≡ with_bodies p r (take i (bodies_of p)) → HasVars n r → HasVars n old
bodies-vars p n i r old e h = subst (HasVars n) (sym e) ((bodies_alike p r (take i (bodies_of p))).vars ∙ h)

-- the ranking before the completion is given: bodies whose definitions it doesn't list were bumped, and it has aged
pub aged-vars : (p : Program) (n times : ℕ) (old unlisted later : Ranking) → unlisted ≡ with_unlisted p old → later ≡ aged unlisted times → HasVars n old → HasVars n later
aged-vars p n times old unlisted later made older h = subst (HasVars n) (sym older) ((aged_alike unlisted times).vars ∙ unlisted-vars p n old unlisted made h)

aged-members : (p : Program) (times : ℕ) (old unlisted later : Ranking) → unlisted ≡ with_unlisted p old → later ≡ aged unlisted times → later.members ≡ old.members
aged-members p times old unlisted later made older = ap (λ (r : Ranking). r.members) older ∙ (aged_alike unlisted times).members ∙ unlisted-members p old unlisted made

-- the ranking when the completion was given, from one in which all variables wait
pub record IsFirst (p : Program) (ranking : Ranking) : Type 0 where
  pub first : ranking ≡ first_ranking p
  pub vars : HasVars (var_count p) ranking
  pub all : (v : ℕ) → IsVar (var_count p) v → IsTrue (is_in ranking.members v)

pub given_first : (p : Program) (vars : ℕ) (before unlisted later given : Ranking) → vars ≡ var_count p → before ≡ fresh vars → HasVars vars before →
    ((v : ℕ) → IsVar vars v → IsTrue (is_in before.members v))
    → unlisted ≡ with_unlisted p before → later ≡ aged unlisted 34 → given ≡ completed_ranking p later → IsFirst p given
given_first p vars before unlisted later given count start has all made older is =
    let alike : IsAlike later given = subst (IsAlike later) (places_listed later (completion p) ∙ sym is) (places_alike later (map pure (completion p))) in
    let begun : later ≡ aged (with_unlisted p (fresh (var_count p))) 34 = older ∙ ap (λ (r : Ranking). aged r 34) (made ∙ ap (with_unlisted p) (start ∙ ap fresh count)) in
    let members : given.members ≡ before.members = alike.members ∙ aged-members p 34 before unlisted later made older in
    record {
      first = is ∙ ap (completed_ranking p) begun;
      vars = alike.vars ∙ (aged-vars p vars 34 before unlisted later made older has ∙ ap (λ (n : ℕ). n + 1) count);
      all = λ v iv. subst (λ (ms : List Bool). is_in ms v ≡ true) (sym members) (all v (subst (λ (n : ℕ). IsVar n v) (sym count) iv));
    }
