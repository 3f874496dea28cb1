-- Which bodies constraints have, rule by rule.
use Rattle.std.proofs.Common.{◌≡◌, ℕ, zero, suc, ◌+◌, ◌<◌, Bool, true, false, cond, ◌&&◌, ◌||◌, eqb, List, [], ◌∷◌, map, length, get_or, take, refl, sym, ap, ◌∙◌, subst, arith, ⊎_elim, get_or-set_same, get_or-set_other, add-one}
use Rattle.std.specs.List.{list_any, AllByRecursion}
use Rattle.std.proofs.Math.ListN.{set}
use Rattle.std.proofs.lemmas.Bool.{cases_eq, eq-eqb, ne_eqb}
use Rattle.std.proofs.lemmas.List.{get_or-map, length-map, length-set, ext_get_or}
use Rattle.asp_model.specs.declared.program.Body.{Body}
use Rattle.asp_model.specs.declared.program.Body.TheVariants as body
use Rattle.asp_model.specs.declared.program.Rule.{Rule}
use Rattle.asp_model.specs.declared.program.Program.{Program}
use Rattle.asp_model.specs.Models.{rules_in_force, is_never}
use Rattle.asp_vars.specs.Numbering.{body_eq, bodies_of, place_of}
use Rattle.asp_vars.specs.Completion.{is_barred}
use Rattle.asp_compile.specs.Headed.{is_barred_at, AreBarred}
use Rattle.asp_vars.proofs.PlaceLaws.{AreDistinct, bodies_of-distinct}
use Rattle.asp_compile.proofs.RuleLaws.{form}
use Rattle.asp_compile.proofs.NumberedLaws.{rule_place, rules_have_bodies, place_test}

or_false : (a : Bool) → (a || false) ≡ a
or_false true = refl
or_false false = refl

or_true : (a : Bool) → (a || true) ≡ true
or_true true = refl
or_true false = refl

or_again : (a b c : Bool) → (a || (b || c)) ≡ ((a || b) || c)
or_again true b c = refl
or_again false b c = refl

-- one more rule
is_barred_at-more : (j : ℕ) (ns : List ℕ) (rs : List Rule) (i : ℕ) (d : Rule) → i < length ns → i < length rs →
    is_barred_at j (take (suc i) ns) (take (suc i) rs) ≡
    (is_barred_at j (take i ns) (take i rs) || (is_never (get_or rs i d).head && eqb (get_or ns i 0) j))
is_barred_at-more j [] rs i d lt lt' = absurd (omega arith)
is_barred_at-more j (n ∷ ns) [] i d lt lt' = absurd (omega arith)
is_barred_at-more j (n ∷ ns) (r ∷ rs) zero d lt lt' = none ns rs
  where
    none : (ms : List ℕ) (ss : List Rule) → ((is_never r.head && eqb n j) || is_barred_at j (take 0 ms) (take 0 ss)) ≡ (is_never r.head && eqb n j)
    none [] ss = or_false (is_never r.head && eqb n j)
    none (m ∷ ms) ss = or_false (is_never r.head && eqb n j)
is_barred_at-more j (n ∷ ns) (r ∷ rs) (suc i) d lt lt' =
    ap (λ t. (is_never r.head && eqb n j) || t) (is_barred_at-more j ns rs i d (omega arith) (omega arith))
    ∙ or_again (is_never r.head && eqb n j) (is_barred_at j (take i ns) (take i rs)) (is_never (get_or rs i d).head && eqb (get_or ns i 0) j)

-- the marks after one more rule
pub mark_length : (t : Bool) (marks : List Bool) (n : ℕ) → length (cond t (set marks n true) marks) ≡ length marks
mark_length true marks n = length-set marks n true
mark_length false marks n = refl

pub mark_step : (marks : List Bool) (j : ℕ) (ns : List ℕ) (rs : List Rule) (i : ℕ) (d : Rule) → i < length ns → i < length rs →
    get_or ns i 0 < length marks → get_or marks j false ≡ is_barred_at j (take i ns) (take i rs) →
    get_or (cond (is_never (get_or rs i d).head) (set marks (get_or ns i 0) true) marks) j false ≡ is_barred_at j (take (i + 1) ns) (take (i + 1) rs)
mark_step marks j ns rs i d lt lt' within so_far =
    marked (is_never (get_or rs i d).head)
    ∙ ap (λ t. t || (is_never (get_or rs i d).head && eqb (get_or ns i 0) j)) so_far
    ∙ sym (is_barred_at-more j ns rs i d lt lt')
    ∙ ap (λ k. is_barred_at j (take k ns) (take k rs)) (sym (add-one i))
  where
    n : ℕ
    n = get_or ns i 0

    here : n ≡ j → get_or (set marks n true) j false ≡ (get_or marks j false || eqb n j)
    here e =
        ap (λ m. get_or (set marks m true) j false) e
        ∙ get_or-set_same marks j true false (subst (λ m. m < length marks) e within)
        ∙ sym (or_true (get_or marks j false))
        ∙ ap (λ t. get_or marks j false || t) (sym (eq-eqb n j e))

    elsewhere : (n ≡ j → ⊥) → get_or (set marks n true) j false ≡ (get_or marks j false || eqb n j)
    elsewhere ne =
        get_or-set_other marks n j true false (λ e. ne (sym e))
        ∙ sym (or_false (get_or marks j false))
        ∙ ap (λ t. get_or marks j false || t) (sym (ne_eqb n j ne))

    marked : (t : Bool) → get_or (cond t (set marks n true) marks) j false ≡ (get_or marks j false || (t && eqb n j))
    marked true = ⊎_elim here elsewhere (cases_eq n j)
    marked false = sym (or_false (get_or marks j false))

-- ---- all rules
by_place : (bs : List Body) (j : ℕ) (d : Body) (rs : List Rule) → AreDistinct bs → j < length bs →
    AllByRecursion (λ r. list_any (body_eq (form r)) bs ≡ true) rs →
    is_barred_at j (map (λ r. place_of (body_eq (form r)) bs) rs) rs ≡ list_any (λ r. is_never r.head && body_eq (form r) (get_or bs j d)) rs
by_place bs j d [] distinct lt h = refl
by_place bs j d (r ∷ rs) distinct lt h =
    ap (λ t. (is_never r.head && t) || is_barred_at j (map (λ s. place_of (body_eq (form s)) bs) rs) rs) (place_test bs (form r) j d distinct h.0 lt)
    ∙ ap (λ t. (is_never r.head && body_eq (form r) (get_or bs j d)) || t) (by_place bs j d rs distinct lt h.1)

pub barred_are : (p : Program) (marks : List Bool) → AreBarred marks (length (bodies_of p)) (map (rule_place p) (rules_in_force p)) (rules_in_force p) → marks ≡ map (is_barred p) (bodies_of p)
barred_are p marks h =
    ext_get_or false marks (map (is_barred p) (bodies_of p)) (h.whole ∙ sym (length-map (bodies_of p) (is_barred p))) (λ j below.
    let lt : j < length (bodies_of p) = subst (λ (n : ℕ). j < n) h.whole below in
    h.each j lt
    ∙ by_place (bodies_of p) j (body.All []) (rules_in_force p) (bodies_of-distinct p) lt (rules_have_bodies p)
    ∙ sym (get_or-map (is_barred p) (bodies_of p) j (body.All []) false lt))
