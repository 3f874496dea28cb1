-- The bodies of rules, rule by rule.
use Rattle.std.proofs.Common.{◌≡◌, ℕ, ◌+◌, ◌<◌, ◌≤◌, Bool, true, false, cond, List, [], ◌∷◌, ◌++◌, map, fold, length, get_or, take, refl, sym, ap, ◌∙◌, subst, arith, length-append}
use Rattle.std.specs.List.{list_any, AllByRecursion}
use Rattle.std.proofs.lemmas.List.{take_more, map_push, length-map, length-take}
use Rattle.std.proofs.lemmas.List.Sums.{fold_push}
use Rattle.asp_model.specs.declared.program.Body.{Body}
use Rattle.asp_model.specs.declared.program.Rule.{Rule}
use Rattle.asp_model.proofs.MemberLaws.{each_weaker}
use Rattle.asp_table.proofs.ColumnLaws.{place_of-found}
use Rattle.asp_vars.specs.Numbering.{normal, body_eq, with_body, distinct, place_of}
use Rattle.asp_vars.proofs.StandingLaws.{Among, each_among, among_forms, list_any-distinct}

abbrev pub form : Rule → Body
form r = normal r.body

-- the place of a rule's body
abbrev pub place_in : List Body → Rule → ℕ
place_in bs r = place_of (body_eq (form r)) bs

length_with : (bs cs : List Body) → length (fold with_body bs cs) ≤ length bs + length cs
length_with bs [] = omega arith
length_with bs (c ∷ cs) = let h = length_with (with_body bs c) cs in omega (arith, h, one (list_any (body_eq c) bs))
  where
    one : (t : Bool) → length (cond t bs (bs ++ c ∷ [])) ≤ length bs + 1
    one true = omega arith
    one false = omega (arith, length-append bs (c ∷ []))

pub length_distinct : (rs : List Rule) (i : ℕ) → length (distinct (map form (take i rs))) ≤ length rs
length_distinct rs i =
    let h = length_with [] (map form (take i rs)) in
    let m = length-map (take i rs) form in
    let t = length-take i rs in
    omega (arith, h, m, t)

pub distinct_more : (rs : List Rule) (i : ℕ) (d : Rule) → i < length rs → distinct (map form (take (i + 1) rs)) ≡ with_body (distinct (map form (take i rs))) (form (get_or rs i d))
distinct_more rs i d lt =
    ap (λ xs. distinct (map form xs)) (take_more rs i d lt)
    ∙ ap distinct (map_push form (take i rs) (get_or rs i d))
    ∙ fold_push with_body [] (map form (take i rs)) (form (get_or rs i d))

place_of-with : (bs : List Body) (b c : Body) → list_any (body_eq c) bs ≡ true → place_of (body_eq c) (with_body bs b) ≡ place_of (body_eq c) bs
place_of-with bs b c e = cases (list_any (body_eq b) bs)
  where
    cases : (t : Bool) → place_of (body_eq c) (cond t bs (bs ++ b ∷ [])) ≡ place_of (body_eq c) bs
    cases true = refl
    cases false = place_of-found (body_eq c) bs (b ∷ []) e

places_kept : (bs : List Body) (b : Body) (rs : List Rule) → AllByRecursion (λ r. list_any (body_eq (form r)) bs ≡ true) rs → map (place_in (with_body bs b)) rs ≡ map (place_in bs) rs
places_kept bs b [] h = refl
places_kept bs b (r ∷ rs) h =
    ap (λ n. n ∷ map (place_in (with_body bs b)) rs) (place_of-with bs b (form r) h.0) ∙ ap (λ ns. place_in bs r ∷ ns) (places_kept bs b rs h.1)

pub have_places : (rs : List Rule) → AllByRecursion (λ r. list_any (body_eq (form r)) (distinct (map form rs)) ≡ true) rs
have_places rs =
    each_weaker (Among rs) (λ r. list_any (body_eq (form r)) (distinct (map form rs)) ≡ true)
    (λ r m. list_any-distinct (form r) [] (map form rs) ∙ among_forms rs r m) rs (each_among rs)

pub places_more : (bs : List Body) (rs : List Rule) (i : ℕ) (d : Rule) → i < length rs → bs ≡ distinct (map form (take i rs)) →
    map (place_in (with_body bs (form (get_or rs i d)))) (take (i + 1) rs) ≡ map (place_in bs) (take i rs)
    ++ place_of (body_eq (form (get_or rs i d))) (with_body bs (form (get_or rs i d))) ∷ []
places_more bs rs i d lt e =
    let b : Body = form (get_or rs i d) in
    ap (map (place_in (with_body bs b))) (take_more rs i d lt)
    ∙ map_push (place_in (with_body bs b)) (take i rs) (get_or rs i d)
    ∙ ap (λ ns. ns ++ place_of (body_eq b) (with_body bs b) ∷ [])
    (places_kept bs b (take i rs) (subst (λ (xs : List Body). AllByRecursion (λ r. list_any (body_eq (form r)) xs ≡ true) (take i rs)) (sym e) (have_places (take i rs))))
