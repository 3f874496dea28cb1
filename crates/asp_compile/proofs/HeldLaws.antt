-- The literals of a program's bodies are those that are counted one after another.
use Rattle.std.proofs.Common.{◌≡◌, ◌≢◌, ℕ, suc, ◌+◌, ◌<◌, ◌≤◌, ◌^◌, Bool, true, false, cond, ◌&&◌, eqb, List, [], ◌∷◌, map, filter, length, All, refl, sym, ap, ◌∙◌, arith}
use Rattle.std.specs.List.{list_any, AllByRecursion}
use Rattle.std.proofs.lemmas.Bool.{false≢true, or_parts, ne_eqb}
use Rattle.asp_model.specs.declared.program.Body.{Body}
use Rattle.asp_model.specs.declared.program.Body.TheVariants as body
use Rattle.asp_model.specs.declared.program.Program.{Program}
use Rattle.asp_model.specs.Sets.{Atoms}
use Rattle.asp_model.specs.Models.{atoms_of}
use Rattle.asp_vars.specs.Literals.{Literal}
use Rattle.asp_vars.specs.Numbering.{body_eq, is_wide, is_nameless, is_apart, defines, names, named_or, bodies_of, apart_bodies, place_of, number_count, var_count, var_in, literal_by, literal_of_form}
use Rattle.asp_compile.specs.Held.{is_unnamed, takes_var, next_var, literal_for, literals_from, var_behind}
use Rattle.asp_compile.specs.Named.{name_var}
use Rattle.asp_vars.proofs.NumberingLaws.{body_eq-itself, first_passing}
use Rattle.asp_vars.proofs.RowLaws.{all_of, atom_var}
use Rattle.asp_vars.proofs.PlaceLaws.{AreDistinct, bodies_of-distinct, turned}
use Rattle.asp_compile.proofs.NumberedLaws.{map_each, filter_each}

-- ---- one body
named_alike : (atoms : Atoms) (v w : ℕ) (b : Body) (n : ℕ) → is_unnamed b n ≡ false → literal_for atoms v b n ≡ literal_for atoms w b n
named_alike atoms v w b n e = ap (λ t. literal_by atoms (cond t v n) b) e ∙ sym (ap (λ t. literal_by atoms (cond t w n) b) e)

-- one that takes none
untaken_alike : (atoms : Atoms) (v w : ℕ) (b : Body) (n : ℕ) → takes_var b n ≡ false → literal_for atoms v b n ≡ literal_for atoms w b n
untaken_alike atoms v w (body.All []) n e = named_alike atoms v w (body.All []) n e
untaken_alike atoms v w (body.All (l ∷ [])) n e = refl
untaken_alike atoms v w (body.All (l ∷ k ∷ ks)) n e = named_alike atoms v w (body.All (l ∷ k ∷ ks)) n e
untaken_alike atoms v w (body.AtLeast bound items) n e = absurd (false≢true (sym e))

-- ---- the variables of all bodies
-- whether a body takes a variable, by the variables of names
abbrev pub takes : (Body → ℕ) → Body → Bool
takes name b = takes_var b (name b)

-- the first body has the first variable
first_literal : (atoms : Atoms) (name : Body → ℕ) (v : ℕ) (b : Body) (bs : List Body) →
    literal_for atoms v b (name b) ≡ literal_for atoms (v + place_of (body_eq b) (filter (takes name) (b ∷ bs))) b (name b)
first_literal atoms name v b bs = cases (takes name b) refl
  where
    others : List Body
    others = filter (takes name) bs

    cases : (t : Bool) → t ≡ takes name b → literal_for atoms v b (name b) ≡ literal_for atoms (v + place_of (body_eq b) (cond t (b ∷ filter (takes name) bs) (filter (takes name) bs))) b (name b)
    cases true q =
        ap (λ n. literal_for atoms n b (name b))
        (let at : place_of (body_eq b) (b ∷ others) ≡ 0 = ap (λ t. cond t 0 (suc (place_of (body_eq b) others))) (body_eq-itself b) in
        omega (arith, at))
    cases false q = untaken_alike atoms v (v + place_of (body_eq b) others) b (name b) (sym q)

-- behind it each other body has its own
later_var : (name : Body → ℕ) (v : ℕ) (b c : Body) (bs : List Body) → body_eq c b ≡ false →
    next_var v b (name b) + place_of (body_eq c) (filter (takes name) bs) ≡ v + place_of (body_eq c) (filter (takes name) (b ∷ bs))
later_var name v b c bs ne = cases (takes name b)
  where
    others : List Body
    others = filter (takes name) bs

    cases : (t : Bool) → cond t (v + 1) v + place_of (body_eq c) (filter (takes name) bs) ≡ v + place_of (body_eq c) (cond t (b ∷ filter (takes name) bs) (filter (takes name) bs))
    cases true =
        let at : place_of (body_eq c) (b ∷ others) ≡ suc (place_of (body_eq c) others) = ap (λ t. cond t 0 (suc (place_of (body_eq c) others))) ne in
        omega (arith, at)
    cases false = refl

others_differ : (b : Body) (bs : List Body) → list_any (body_eq b) bs ≡ false → AllByRecursion (λ c. body_eq c b ≡ false) bs
others_differ b [] e = tt
others_differ b (c ∷ bs) e = let parts = or_parts (body_eq b c) (list_any (body_eq b) bs) e in (turned b c parts.0, others_differ b bs parts.1)

literals_placed : (atoms : Atoms) (name : Body → ℕ) (v : ℕ) (bs : List Body) → AreDistinct bs →
    literals_from atoms v bs (map name bs) ≡ map (λ b. literal_for atoms (v + place_of (body_eq b) (filter (takes name) bs)) b (name b)) bs
literals_placed atoms name v [] d = refl
literals_placed atoms name v (b ∷ bs) d =
    ap (λ l. l ∷ literals_from atoms (next_var v b (name b)) bs (map name bs)) (first_literal atoms name v b bs)
    ∙ ap (λ ls. literal_for atoms (v + place_of (body_eq b) (filter (takes name) (b ∷ bs))) b (name b) ∷ ls)
    (literals_placed atoms name (next_var v b (name b)) bs d.1
    ∙ map_each (λ c. body_eq c b ≡ false) (λ c. literal_for atoms (next_var v b (name b) + place_of (body_eq c) (filter (takes name) bs)) c (name c))
    (λ c. literal_for atoms (v + place_of (body_eq c) (filter (takes name) (b ∷ bs))) c (name c))
    (λ c ne. ap (λ n. literal_for atoms n c (name c)) (later_var name v b c bs ne)) bs (others_differ b bs d.0))

-- ---- names
-- a body takes a variable where it has no name
takes-apart : (p : Program) (b : Body) → takes (name_var p) b ≡ is_apart p b
takes-apart p (body.All ls) = ap (λ t. is_wide (body.All ls) && t) (unnamed (filter (defines p (body.All ls)) (atoms_of p)))
  where
    unnamed : (more : List ℕ) → eqb (named_or (atoms_of p) 0 more) 0 ≡ is_nameless more
    unnamed [] = refl
    unnamed (a ∷ more) = ne_eqb (var_in (atoms_of p) a) 0 (λ e. omega (arith, e))
takes-apart p (body.AtLeast bound items) = refl

chosen : (p : Program) (v : ℕ) (b : Body) → cond (is_unnamed b (name_var p b)) v (name_var p b) ≡ named_or (atoms_of p) v (names p b)
chosen p v (body.All ls) = cases (filter (defines p (body.All ls)) (atoms_of p))
  where
    cases : (more : List ℕ) → cond (eqb (named_or (atoms_of p) 0 more) 0) v (named_or (atoms_of p) 0 more) ≡ named_or (atoms_of p) v more
    cases [] = refl
    cases (a ∷ more) = ap (λ t. cond t v (var_in (atoms_of p) a)) (ne_eqb (var_in (atoms_of p) a) 0 (λ e. omega (arith, e)))
chosen p v (body.AtLeast bound items) = refl

pub literals_of_bodies : (p : Program) (first : ℕ) → first ≡ length (atoms_of p) + 1 →
    literals_from (atoms_of p) first (bodies_of p) (map (name_var p) (bodies_of p)) ≡ map (literal_of_form p) (bodies_of p)
literals_of_bodies p first e =
    literals_placed (atoms_of p) (name_var p) first (bodies_of p) (bodies_of-distinct p)
    ∙ all_alike (λ b. literal_for (atoms_of p) (first + place_of (body_eq b) (filter (takes (name_var p)) (bodies_of p))) b (name_var p b)) (literal_of_form p) one (bodies_of p)
  where
    all_alike : (f g : Body → Literal) → ((b : Body) → f b ≡ g b) → (bs : List Body) → map f bs ≡ map g bs
    all_alike f g h [] = refl
    all_alike f g h (b ∷ bs) = ap (λ l. l ∷ map f bs) (h b) ∙ ap (λ ls. g b ∷ ls) (all_alike f g h bs)

    one : (b : Body) → literal_for (atoms_of p) (first + place_of (body_eq b) (filter (takes (name_var p)) (bodies_of p))) b (name_var p b) ≡ literal_of_form p b
    one b =
        ap (λ (bs : List Body). literal_for (atoms_of p) (first + place_of (body_eq b) bs) b (name_var p b)) (filter_each (takes (name_var p)) (is_apart p) (takes-apart p) (bodies_of p))
        ∙ ap (λ n. literal_for (atoms_of p) n b (name_var p b))
        (let at : first + place_of (body_eq b) (apart_bodies p) ≡ suc (length (atoms_of p) + place_of (body_eq b) (apart_bodies p)) =
        omega (arith, e) in at)
        ∙ ap (λ n. literal_by (atoms_of p) n b) (chosen p (suc (length (atoms_of p) + place_of (body_eq b) (apart_bodies p))) b)

behind_bodies : (name : Body → ℕ) (v : ℕ) (bs : List Body) → var_behind v bs (map name bs) ≡ v + length (filter (takes name) bs)
behind_bodies name v [] = omega arith
behind_bodies name v (b ∷ bs) = behind_bodies name (next_var v b (name b)) bs ∙ cases (takes name b)
  where
    cases : (t : Bool) → cond t (v + 1) v + length (filter (takes name) bs) ≡ v + length (cond t (b ∷ filter (takes name) bs) (filter (takes name) bs))
    cases true = omega arith
    cases false = refl

pub behind_all : (p : Program) (v : ℕ) → var_behind v (bodies_of p) (map (name_var p) (bodies_of p)) ≡ v + length (apart_bodies p)
behind_all p v =
    behind_bodies (name_var p) v (bodies_of p) ∙ ap (λ (bs : List Body). v + length bs) (filter_each (takes (name_var p)) (is_apart p) (takes-apart p) (bodies_of p))

-- no more of them than there are bodies
few_pass : (q : Body → Bool) (bs : List Body) → length (filter q bs) ≤ length bs
few_pass q [] = omega arith
few_pass q (b ∷ bs) = cases (q b) (few_pass q bs)
  where
    cases : (t : Bool) → length (filter q bs) ≤ length bs → length (cond t (b ∷ filter q bs) (filter q bs)) ≤ suc (length bs)
    cases true le = omega (arith, le)
    cases false le = omega (arith, le)

pub few_apart : (p : Program) → length (apart_bodies p) ≤ length (bodies_of p)
few_apart p = few_pass (is_apart p) (bodies_of p)

-- the variable of a name is an atom's
pub name_small : (p : Program) (b : Body) → name_var p b ≤ length (atoms_of p)
name_small p b = cases (filter (defines p b) (atoms_of p)) refl
  where
    cases : (more : List ℕ) → more ≡ filter (defines p b) (atoms_of p) → named_or (atoms_of p) 0 more ≤ length (atoms_of p)
    cases [] q = omega arith
    cases (a ∷ more) q = (atom_var p a (first_passing (defines p b) (atoms_of p) a more q).0).1

pub names_small : (p : Program) → number_count p < 2 ^ 31 → All (λ n. n < 2 ^ 31) (map (name_var p) (bodies_of p))
names_small p few = all_of (λ n. n < 2 ^ 31) (map (name_var p) (bodies_of p)) (each (bodies_of p))
  where
    each : (bs : List Body) → AllByRecursion (λ n. n < 2 ^ 31) (map (name_var p) bs)
    each [] = tt
    each (b ∷ bs) = (let h = name_small p b in omega (arith, h, few), each bs)

-- ---- all of them
-- no more variables than numbers
pub few_vars : (p : Program) → number_count p < 2 ^ 31 → var_count p < 2 ^ 31
few_vars p few = let le = few_apart p in omega (arith, few, le)
