-- The completion is entailed.
use Rattle.std.proofs.Common.{◌≡◌, ℕ, suc, ◌+◌, Bool, true, false, not, cond, ◌&&◌, ◌||◌, List, [], ◌∷◌, ◌++◌, map, filter, length, refl, sym, ap, ◌∙◌, subst}
use Rattle.std.specs.Prelude.{ℤ, pos, negsuc}
use Rattle.std.specs.List.{list_any, flat_map, AllByRecursion}
use Rattle.std.specs.Bool.{beq}
use Rattle.std.proofs.lemmas.Bool.{false≢true, and_parts, and_from, or_parts, eqb-true, eq-eqb}
use Rattle.asp_model.specs.declared.program.Body.{Body}
use Rattle.asp_model.specs.declared.program.Body.TheVariants as body
use Rattle.asp_model.specs.declared.program.Head.{Head}
use Rattle.asp_model.specs.declared.program.Head.TheVariants as head
use Rattle.asp_model.specs.declared.program.Rule.{Rule}
use Rattle.asp_model.specs.declared.program.Program.{Program}
use Rattle.asp_model.specs.Sets.{Atoms, has}
use Rattle.asp_model.specs.Holding.{atom_of, holds, all_hold, body_holds}
use Rattle.asp_model.specs.Reading.{derived_heads}
use Rattle.asp_model.specs.Models.{rules_in_force, atoms_of, is_stable, head_atoms, is_never}
use Rattle.asp_model.specs.Sound.{IsSound}
use Rattle.asp_model.proofs.MemberLaws.{each_weaker, each-append, each-front, each-flat_map, each-map, one_passes, HasAll, HasAll-itself}
use Rattle.asp_model.proofs.ReductLaws.{rules_in_force-heads}
use Rattle.asp_vars.specs.Literals.{Literal, T, F, complement, literal_eq, has_literal, is_true, hits}
use Rattle.asp_vars.specs.Numbering.{normal, body_eq, bodies_of, is_wide, is_nameless, is_apart, is_one, is_alone, defines, names, named_or, apart_bodies, place_of, IsReadBy, var_of_atom, var_of_form, literal_of_form, literal_of_body, literal_of, values}
use Rattle.asp_vars.specs.Entailment.{Entailed}
use Rattle.asp_vars.specs.Completion.{support_bodies, is_barred, defining_nogoods, normal_nogoods, body_nogoods, rule_nogoods, atom_nogood, atom_nogoods, completion}
use Rattle.asp_vars.proofs.LiteralLaws.{is_true-complement, and_left, and_right}
use Rattle.asp_vars.proofs.NormalLaws.{body_holds-normal}
use Rattle.asp_vars.proofs.NumberingLaws.{value-atom, value-form, same_body, body_eq-itself, filtered_among, named}
use Rattle.asp_vars.specs.Tabled.{Stands}
use Rattle.asp_vars.proofs.StandingLaws.{Among, each_among, each_both, back-append, rule_has_form, form-stands, bodies_of-stand, bodies_of-themselves}
use Rattle.asp_vars.proofs.StableLaws.{stable-derived, stable-closed, stable-keeps, derived-parts}

-- ---- literals
beq_true : (a : Bool) → beq a true ≡ a
beq_true true = refl
beq_true false = refl

beq_false : (a : Bool) → beq a false ≡ not a
beq_false true = refl
beq_false false = refl

pub literal-holds : (p : Program) (S : Atoms) (l : ℤ) → has (atoms_of p) (atom_of l) ≡ true → is_true (values p S) (literal_of p l) ≡ holds S l
literal-holds p S (pos a) h = ap (λ v. beq v true) (value-atom p S a h) ∙ beq_true (has S a)
literal-holds p S (negsuc a) h = ap (λ v. beq v false) (value-atom p S (suc a) h) ∙ beq_false (has S (suc a))

pub apart-true : (p : Program) (S : Atoms) (b : Body) → is_apart p b ≡ true → list_any (body_eq b) (bodies_of p) ≡ true → is_true (values p S) (T (var_of_form p b)) ≡ body_holds S b
apart-true p S b apart h = ap (λ v. beq v true) (value-form p S b apart h) ∙ beq_true (body_holds S b)

-- a weight body has no name
pub weight-true : (p : Program) (S : Atoms) (bound : ℤ) (items : List (ℤ × ℤ)) → list_any (body_eq (body.AtLeast bound items)) (bodies_of p) ≡ true →
    is_true (values p S) (literal_of_form p (body.AtLeast bound items)) ≡ body_holds S (body.AtLeast bound items)
weight-true p S bound items h = apart-true p S (body.AtLeast bound items) refl h

pub atom-true : (p : Program) (S : Atoms) (a : ℕ) → has (atoms_of p) a ≡ true → is_true (values p S) (T (var_of_atom p a)) ≡ has S a
atom-true p S a h = ap (λ v. beq v true) (value-atom p S a h) ∙ beq_true (has S a)

pub atom-false : (p : Program) (S : Atoms) (a : ℕ) → has (atoms_of p) a ≡ true → is_true (values p S) (F (var_of_atom p a)) ≡ not (has S a)
atom-false p S a h = ap (λ v. beq v false) (value-atom p S a h) ∙ beq_false (has S a)

pub hits-literals : (p : Program) (S : Atoms) (ls : List ℤ) → AllByRecursion (λ l. has (atoms_of p) (atom_of l) ≡ true) ls → hits (values p S) (map (literal_of p) ls) ≡ all_hold S ls
hits-literals p S [] h = refl
hits-literals p S (l ∷ ls) h =
    ap (λ b. b && hits (values p S) (map (literal_of p) ls)) (literal-holds p S l h.0) ∙ ap (λ b. holds S l && b) (hits-literals p S ls h.1)

-- ---- the nogoods of a normal body
pub normal_nogoods-barred : (p : Program) (ls : List ℤ) → is_barred p (body.All ls) ≡ true → normal_nogoods p ls ≡ map (literal_of p) ls ∷ []
normal_nogoods-barred p ls e = ap (λ t. cond t (map (literal_of p) ls ∷ []) (defining_nogoods p ls)) e

pub normal_nogoods-defining : (p : Program) (ls : List ℤ) → is_barred p (body.All ls) ≡ false → normal_nogoods p ls ≡ defining_nogoods p ls
normal_nogoods-defining p ls e = ap (λ t. cond t (map (literal_of p) ls ∷ []) (defining_nogoods p ls)) e

-- a body that has a variable has these nogoods
pub body_nogoods-wide : (p : Program) (ls : List ℤ) → is_wide (body.All ls) ≡ true → body_nogoods p (body.All ls) ≡ normal_nogoods p ls
body_nogoods-wide p [] w = refl
body_nogoods-wide p (l ∷ []) w = absurd (false≢true w)
body_nogoods-wide p (l ∷ k ∷ ks) w = refl

each_of_normal : (P : List Literal → Type 0) (p : Program) (ls : List ℤ) → (is_barred p (body.All ls) ≡ true → P (map (literal_of p) ls)) →
    AllByRecursion P (defining_nogoods p ls) → AllByRecursion P (normal_nogoods p ls)
each_of_normal P p ls barred defining = cases (is_barred p (body.All ls)) refl
  where
    cases : (t : Bool) → t ≡ is_barred p (body.All ls) → AllByRecursion P (cond t (map (literal_of p) ls ∷ []) (defining_nogoods p ls))
    cases true e = (barred (sym e), tt)
    cases false e = defining

-- what holds of the literals alone, where a constraint has the body, and of the nogoods that define it
pub each_of_body : (P : List Literal → Type 0) (p : Program) (ls : List ℤ) → (is_barred p (body.All ls) ≡ true → P (map (literal_of p) ls)) →
    AllByRecursion P (defining_nogoods p ls) → AllByRecursion P (body_nogoods p (body.All ls))
each_of_body P p [] barred defining = each_of_normal P p [] barred defining
each_of_body P p (l ∷ []) barred defining = tt
each_of_body P p (l ∷ k ∷ ks) barred defining = each_of_normal P p (l ∷ k ∷ ks) barred defining

-- what follows from a constraint that has the body
pub barred_by : (P : Rule → Type 0) (Q : Type 0) (p : Program) (b : Body) → AllByRecursion P (rules_in_force p) →
    ((r : Rule) → P r → r.head ≡ head.Never → normal r.body ≡ b → Q) → is_barred p b ≡ true → Q
barred_by P Q p b all f =
    one_passes Q (λ r. is_never r.head && body_eq (normal r.body) b) (rules_in_force p)
    (each_weaker P (λ r. (is_never r.head && body_eq (normal r.body) b) ≡ true → Q) (λ r h e.
    let parts = and_parts (is_never r.head) (body_eq (normal r.body) b) e in
    f r h (headless r.head parts.0) (same_body (normal r.body) b parts.1)) (rules_in_force p) all)
  where
    headless : (h : Head) → is_never h ≡ true → h ≡ head.Never
    headless (head.One a) e = absurd (false≢true e)
    headless (head.Choice atoms) e = absurd (false≢true e)
    headless head.Never e = refl

-- ---- values that hit no nogood of the completion
-- none of these nogoods is hit
abbrev pub Unhit : List Bool → List (List Literal) → Type 0
Unhit v ns = AllByRecursion (λ n. hits v n ≡ false) ns

-- nor one of the rules
abbrev pub RulesUnhit : Program → List Bool → Type 0
RulesUnhit p v = AllByRecursion (λ (r : Rule). Unhit v (rule_nogoods p (literal_of_body p r.body) r.head)) (rules_in_force p)

unhit : (v : List Bool) (ns : List (List Literal)) → list_any (hits v) ns ≡ false → Unhit v ns
unhit v [] e = tt
unhit v (n ∷ ns) e = let parts = or_parts (hits v n) (list_any (hits v) ns) e in (parts.0, unhit v ns parts.1)

pub each-unflat_map : {X Y : Type 0} (P : Y → Type 0) (f : X → List Y) (xs : List X) → AllByRecursion P (flat_map f xs) → AllByRecursion (λ x. AllByRecursion P (f x)) xs
each-unflat_map P f [] h = tt
each-unflat_map P f (x ∷ xs) h = (each-front P (f x) (flat_map f xs) h, each-unflat_map P f xs (back-append P (f x) (flat_map f xs) h))

-- of bodies, rules and atoms
pub all_unhit : (p : Program) (v : List Bool) → list_any (hits v) (completion p) ≡ false →
    AllByRecursion (λ b. Unhit v (body_nogoods p b)) (bodies_of p) × RulesUnhit p v × AllByRecursion (λ a. Unhit v (atom_nogoods p a)) (atoms_of p)
all_unhit p v e =
    let P : List Literal → Type 0 = λ n. hits v n ≡ false in
    let bodies : List (List Literal) = flat_map (body_nogoods p) (bodies_of p) in
    let rules : List (List Literal) = flat_map (λ (r : Rule). rule_nogoods p (literal_of_body p r.body) r.head) (rules_in_force p) in
    let atoms : List (List Literal) = flat_map (atom_nogoods p) (atoms_of p) in
    let all : Unhit v ((bodies ++ rules) ++ atoms) = unhit v (completion p) e in
    let front : Unhit v (bodies ++ rules) = each-front P (bodies ++ rules) atoms all in (
      each-unflat_map P (body_nogoods p) (bodies_of p) (each-front P bodies rules front),
      each-unflat_map P (λ (r : Rule). rule_nogoods p (literal_of_body p r.body) r.head) (rules_in_force p) (back-append P bodies rules front),
      each-unflat_map P (atom_nogoods p) (atoms_of p) (back-append P (bodies ++ rules) atoms all),
    )

and_true : (a : Bool) → (a && true) ≡ a
and_true true = refl
and_true false = refl

not_false : (b : Bool) → (not b && true) ≡ false → b ≡ true
not_false true e = refl
not_false false e = absurd (false≢true (sym e))

-- the values give these literals as S does
abbrev pub AreRead : Program → List Bool → Atoms → List ℤ → Type 0
AreRead p v S ls = AllByRecursion (λ l. is_true v (literal_of p l) ≡ holds S l) ls

literals_read : (p : Program) (v : List Bool) (S : Atoms) (ls : List ℤ) → AreRead p v S ls → hits v (map (literal_of p) ls) ≡ all_hold S ls
literals_read p v S [] h = refl
literals_read p v S (l ∷ ls) h = ap (λ b. b && hits v (map (literal_of p) ls)) h.0 ∙ ap (λ b. holds S l && b) (literals_read p v S ls h.1)

-- where a body is true, so is each of its literals
each_true : (p : Program) (v : List Bool) (S : Atoms) (b : Literal) (ls : List ℤ) → is_true v b ≡ true → AreRead p v S ls →
    Unhit v (map (λ l. b ∷ complement (literal_of p l) ∷ []) ls) → all_hold S ls ≡ true
each_true p v S b [] e read h = refl
each_true p v S b (l ∷ ls) e read h =
    let other : Bool = is_true v (complement (literal_of p l)) in
    let lost : (other && true) ≡ false = sym (ap (λ t. t && (other && true)) e) ∙ h.0 in
    let one : is_true v (literal_of p l) ≡ true = not_false (is_true v (literal_of p l)) (ap (λ t. t && true) (sym (is_true-complement v (literal_of p l))) ∙ lost) in
    ap (λ t. t && all_hold S ls) (sym read.0 ∙ one) ∙ each_true p v S b ls e read.1 h.1

-- by the nogoods that define the body
defined_literal : (p : Program) (v : List Bool) (S : Atoms) (b : Literal) (ls : List ℤ) → AreRead p v S ls →
    Unhit v ((complement b ∷ map (literal_of p) ls) ∷ map (λ l. b ∷ complement (literal_of p l) ∷ []) ls) → is_true v b ≡ all_hold S ls
defined_literal p v S b ls read h = cases (is_true v b) refl
  where
    cases : (t : Bool) → t ≡ is_true v b → is_true v b ≡ all_hold S ls
    cases true q = sym q ∙ sym (each_true p v S b ls (sym q) read h.1)
    cases false q =
        let fails : hits v (map (literal_of p) ls) ≡ false =
        sym (ap (λ t. t && hits v (map (literal_of p) ls)) (is_true-complement v b ∙ ap not (sym q))) ∙ h.0 in
        sym q ∙ sym (sym (literals_read p v S ls read) ∙ fails)

-- a constraint's body is false
barred_literal : (p : Program) (v : List Bool) (b : Body) → RulesUnhit p v → is_barred p b ≡ true → is_true v (literal_of_form p b) ≡ false
barred_literal p v b rules =
    barred_by (λ (r : Rule). Unhit v (rule_nogoods p (literal_of_body p r.body) r.head)) (is_true v (literal_of_form p b) ≡ false) p b rules (λ r u is same.
    let unit : Unhit v (rule_nogoods p (literal_of_form p b) head.Never) =
    subst (λ (c : Body). Unhit v (rule_nogoods p (literal_of_form p c) head.Never)) same (subst (λ (h : Head). Unhit v (rule_nogoods p (literal_of_body p r.body) h)) is u) in
    sym (and_true (is_true v (literal_of_form p b))) ∙ unit.0)

-- the literal of a normal body that isn't one literal says whether the body holds, whatever variable it is of
pub normal_literal : (p : Program) (v : List Bool) (S : Atoms) (ls : List ℤ) → is_wide (body.All ls) ≡ true → AreRead p v S ls → RulesUnhit p v →
    Unhit v (body_nogoods p (body.All ls)) → is_true v (literal_of_form p (body.All ls)) ≡ all_hold S ls
normal_literal p v S ls wide read rules h = cases (is_barred p (body.All ls)) refl
  where
    mine : Unhit v (normal_nogoods p ls)
    mine = subst (Unhit v) (body_nogoods-wide p ls wide) h

    cases : (t : Bool) → t ≡ is_barred p (body.All ls) → is_true v (literal_of_form p (body.All ls)) ≡ all_hold S ls
    cases true q =
        let alone : Unhit v (map (literal_of p) ls ∷ []) = subst (Unhit v) (normal_nogoods-barred p ls (sym q)) mine in
        barred_literal p v (body.All ls) rules (sym q) ∙ sym (sym (literals_read p v S ls read) ∙ alone.0)
    cases false q = defined_literal p v S (literal_of_form p (body.All ls)) ls read (subst (Unhit v) (normal_nogoods-defining p ls (sym q)) mine)

-- ---- what names say
or_none : (a : Bool) → (a || false) ≡ true → a ≡ true
or_none true e = refl
or_none false e = e

-- each rule for an atom that a body defines has that body
pub defined_by : (p : Program) (b : Body) (a : ℕ) → defines p b a ≡ true → (r : Rule) → Among (rules_in_force p) r → has (head_atoms r.head) a ≡ true → normal r.body ≡ b
defined_by p b a d r m e =
    sole (support_bodies p a) (and_parts (list_any (λ (s : Rule). is_one a s.head) (rules_in_force p)) (is_alone b (support_bodies p a)) d).1
    (filtered_among test (normal r.body) (bodies_of p) tested (rule_has_form p r m))
  where
    test : Body → Bool
    test c = list_any (λ (s : Rule). has (head_atoms s.head) a && body_eq (normal s.body) c) (rules_in_force p)

    tested : test (normal r.body) ≡ true
    tested = m (λ (s : Rule). has (head_atoms s.head) a && body_eq (normal s.body) (normal r.body))
        (and_from (has (head_atoms r.head) a) (body_eq (normal r.body) (normal r.body)) e (body_eq-itself (normal r.body)))

    sole : (bs : List Body) → is_alone b bs ≡ true → list_any (body_eq (normal r.body)) bs ≡ true → normal r.body ≡ b
    sole [] alone h = absurd (false≢true alone)
    sole (c ∷ []) alone h = same_body (normal r.body) c (or_none (body_eq (normal r.body) c) h) ∙ same_body c b alone
    sole (c ∷ k ∷ ks) alone h = absurd (false≢true alone)

-- and one of them has the atom as its head
pub defined_head : (p : Program) (b : Body) (a : ℕ) (Q : Type 0) → defines p b a ≡ true → ((r : Rule) → Among (rules_in_force p) r → r.head ≡ head.One a → normal r.body ≡ b → Q) → Q
defined_head p b a Q d f =
    one_passes Q (λ (r : Rule). is_one a r.head) (rules_in_force p)
    (each_weaker (Among (rules_in_force p)) (λ r. is_one a r.head ≡ true → Q) (λ r m e.
    let is : r.head ≡ head.One a = alone r.head e in
    f r m is (defined_by p b a d r m (ap (λ h. has (head_atoms h) a) is ∙ ap (λ t. t || false) (eq-eqb a a refl)))) (rules_in_force p) (each_among (rules_in_force p)))
    (and_parts (list_any (λ (r : Rule). is_one a r.head) (rules_in_force p)) (is_alone b (support_bodies p a)) d).0
  where
    alone : (h : Head) → is_one a h ≡ true → h ≡ head.One a
    alone (head.One c) e = ap head.One (eqb-true c a e)
    alone (head.Choice atoms) e = absurd (false≢true e)
    alone head.Never e = absurd (false≢true e)

-- a body's literal is read where the body's name is
read_by : (p : Program) (S : Atoms) (b : Body) → list_any (body_eq b) (bodies_of p) ≡ true →
    ((a : ℕ) → has (atoms_of p) a ≡ true → defines p b a ≡ true → has S a ≡ body_holds S b) →
    is_true (values p S) (literal_of_form p b) ≡ body_holds S b
read_by p S b listed right = by_form b listed (form-stands p b listed) right
  where
    wide : (c : Body) → is_wide c ≡ true → list_any (body_eq c) (bodies_of p) ≡ true →
        ((a : ℕ) → has (atoms_of p) a ≡ true → defines p c a ≡ true → has S a ≡ body_holds S c) →
        is_true (values p S) (T (var_of_form p c)) ≡ body_holds S c
    wide c w h r = cases (names p c) refl
      where
        cases : (found : List ℕ) → found ≡ names p c → is_true (values p S) (T (var_of_form p c)) ≡ body_holds S c
        cases [] q = apart-true p S c (and_from (is_wide c) (is_nameless (names p c)) w (ap is_nameless (sym q))) h
        cases (a ∷ more) q =
            let is = named p c a more q in
            ap (λ (xs : List ℕ). is_true (values p S) (T (named_or (atoms_of p) (suc (length (atoms_of p) + place_of (body_eq c) (apart_bodies p))) xs))) (sym q)
            ∙ atom-true p S a is.0 ∙ r a is.0 is.1

    by_form : (c : Body) → list_any (body_eq c) (bodies_of p) ≡ true → Stands (atoms_of p) c →
        ((a : ℕ) → has (atoms_of p) a ≡ true → defines p c a ≡ true → has S a ≡ body_holds S c) →
        is_true (values p S) (literal_of_form p c) ≡ body_holds S c
    by_form (body.All []) h s r = wide (body.All []) refl h r
    by_form (body.All (l ∷ [])) h s r = literal-holds p S l s.0 ∙ sym (and_true (holds S l))
    by_form (body.All (l ∷ k ∷ ks)) h s r = wide (body.All (l ∷ k ∷ ks)) refl h r
    by_form (body.AtLeast bound items) h s r = wide (body.AtLeast bound items) refl h r

both_ways : (a b : Bool) → (a ≡ true → b ≡ true) → (b ≡ true → a ≡ true) → a ≡ b
both_ways true true f g = refl
both_ways false false f g = refl
both_ways true false f g = absurd (false≢true (f refl))
both_ways false true f g = absurd (false≢true (g refl))

-- what makes the names right: the set is closed under the rules with one head, and each atom of it has a reason
pub supported-read : (p : Program) (S : Atoms) →
    ((r : Rule) (a : ℕ) → Among (rules_in_force p) r → r.head ≡ head.One a → body_holds S r.body ≡ true → has S a ≡ true) →
    ((a : ℕ) → has (atoms_of p) a ≡ true → has S a ≡ true → list_any (λ r. has (head_atoms r.head) a && body_holds S r.body) (rules_in_force p) ≡ true) → IsReadBy p S
supported-read p S closed supported b h =
    read_by p S b h (λ a stands d.
    both_ways (has S a) (body_holds S b)
    (λ in_set.
    one_passes (body_holds S b ≡ true) (λ (r : Rule). has (head_atoms r.head) a && body_holds S r.body) (rules_in_force p)
    (each_weaker (Among (rules_in_force p)) (λ r. (has (head_atoms r.head) a && body_holds S r.body) ≡ true → body_holds S b ≡ true) (λ r m e.
    let parts = and_parts (has (head_atoms r.head) a) (body_holds S r.body) e in
    ap (body_holds S) (sym (defined_by p b a d r m parts.0)) ∙ body_holds-normal S r.body ∙ parts.1) (rules_in_force p) (each_among (rules_in_force p))) (supported a stands in_set))
    (λ true_body. defined_head p b a (has S a ≡ true) d (λ r m is same. closed r a m is (sym (body_holds-normal S r.body) ∙ ap (body_holds S) same ∙ true_body))))

pub stable-read : (p : Program) (S : Atoms) → IsSound p → is_stable p S ≡ true → IsReadBy p S
stable-read p S sound stable =
    supported-read p S (λ r a m is h. stable-closed p S r a sound stable m is h) (λ a stands in_set.
    one_passes (list_any (λ (r : Rule). has (head_atoms r.head) a && body_holds S r.body) (rules_in_force p) ≡ true) (λ r. has (derived_heads S S r) a) (rules_in_force p)
    (each_weaker (Among (rules_in_force p)) (λ r. has (derived_heads S S r) a ≡ true → list_any (λ (s : Rule). has (head_atoms s.head) a && body_holds S s.body) (rules_in_force p) ≡ true) (λ r m e.
    let parts = derived-parts S r a e in
    m (λ (s : Rule). has (head_atoms s.head) a && body_holds S s.body) (and_from (has (head_atoms r.head) a) (body_holds S r.body) parts.1 parts.0)) (rules_in_force p) (each_among (rules_in_force p)))
    (sym (stable-derived p S a sound stable) ∙ in_set))

pub unhit-read : (p : Program) (S : Atoms) → list_any (hits (values p S)) (completion p) ≡ false → IsReadBy p S
unhit-read p S e b listed = by_form b listed (form-stands p b listed)
  where
    v : List Bool
    v = values p S

    mine : (c : Body) → list_any (body_eq c) (bodies_of p) ≡ true → Unhit v (body_nogoods p c)
    mine c =
        one_passes (Unhit v (body_nogoods p c)) (body_eq c) (bodies_of p)
        (each_weaker (λ d. Unhit v (body_nogoods p d)) (λ d. body_eq c d ≡ true → Unhit v (body_nogoods p c))
        (λ d u same. subst (λ (x : Body). Unhit v (body_nogoods p x)) (sym (same_body c d same)) u) (bodies_of p) (all_unhit p v e).0)

    wide : (ls : List ℤ) → is_wide (body.All ls) ≡ true → list_any (body_eq (body.All ls)) (bodies_of p) ≡ true → Stands (atoms_of p) (body.All ls) →
        is_true v (literal_of_form p (body.All ls)) ≡ all_hold S ls
    wide ls w h s =
        normal_literal p v S ls w (each_weaker (λ l. has (atoms_of p) (atom_of l) ≡ true) (λ l. is_true v (literal_of p l) ≡ holds S l)
        (literal-holds p S) ls s) (all_unhit p v e).1 (mine (body.All ls) h)

    by_form : (c : Body) → list_any (body_eq c) (bodies_of p) ≡ true → Stands (atoms_of p) c → is_true v (literal_of_form p c) ≡ body_holds S c
    by_form (body.All []) h s = wide [] refl h s
    by_form (body.All (l ∷ [])) h s = literal-holds p S l s.0 ∙ sym (and_true (holds S l))
    by_form (body.All (l ∷ k ∷ ks)) h s = wide (l ∷ k ∷ ks) refl h s
    by_form (body.AtLeast bound items) h s = weight-true p S bound items h

-- ---- bodies and rules, for sets that are right about names
pub form-false : (p : Program) (S : Atoms) → IsReadBy p S → (b : Body) → list_any (body_eq b) (bodies_of p) ≡ true → is_true (values p S) (complement (literal_of_form p b)) ≡ not (body_holds S b)
form-false p S read b h = is_true-complement (values p S) (literal_of_form p b) ∙ ap not (read b h)

pub rule-true : (p : Program) (S : Atoms) → IsReadBy p S → (r : Rule) → Among (rules_in_force p) r → is_true (values p S) (literal_of_body p r.body) ≡ body_holds S r.body
rule-true p S read r m = read (normal r.body) (rule_has_form p r m) ∙ body_holds-normal S r.body

-- ---- nogoods that no stable model hits
never : (p : Program) (n : List Literal) → ((S : Atoms) → is_stable p S ≡ true → hits (values p S) n ≡ true → ⊥) → Entailed p n
never p n f = record { excused = λ S stable h. absurd (f S stable h) }

not_both : (a : Bool) → (not a && a) ≡ true → ⊥
not_both true e = false≢true e
not_both false e = false≢true e

body_true : (p : Program) (ls : List ℤ) → IsSound p → list_any (body_eq (body.All ls)) (bodies_of p) ≡ true →
    AllByRecursion (λ l. has (atoms_of p) (atom_of l) ≡ true) ls → Entailed p (complement (literal_of_form p (body.All ls)) ∷ map (literal_of p) ls)
body_true p ls sound stands atoms = never p _
    (λ S stable h. not_both (all_hold S ls) (sym
    (ap (λ b. b && hits (values p S) (map (literal_of p) ls)) (form-false p S (stable-read p S sound stable) (body.All ls) stands)
    ∙ ap (λ b. not (all_hold S ls) && b) (hits-literals p S ls atoms)) ∙ h))

pub members_hold : (ls : List ℤ) → AllByRecursion (λ l. (S : Atoms) → all_hold S ls ≡ true → holds S l ≡ true) ls
members_hold [] = tt
members_hold (l ∷ ls) = (
  λ S e. and_left (holds S l) (all_hold S ls) e,
  each_weaker (λ k. (S : Atoms) → all_hold S ls ≡ true → holds S k ≡ true) (λ k. (S : Atoms) → all_hold S (l ∷ ls) ≡ true → holds S k ≡ true)
      (λ k f S e. f S (and_right (holds S l) (all_hold S ls) e)) ls (members_hold ls),
)

literal_true : (p : Program) (ls : List ℤ) (l : ℤ) → IsSound p → list_any (body_eq (body.All ls)) (bodies_of p) ≡ true →
    has (atoms_of p) (atom_of l) ≡ true → ((S : Atoms) → all_hold S ls ≡ true → holds S l ≡ true) →
    Entailed p (literal_of_form p (body.All ls) ∷ complement (literal_of p l) ∷ [])
literal_true p ls l sound stands atom follows =
    never p _ (λ S stable h.
    let first : Literal = literal_of_form p (body.All ls) in
    let other : Literal = complement (literal_of p l) in
    let holds_all : all_hold S ls ≡ true = sym (stable-read p S sound stable (body.All ls) stands) ∙ and_left (is_true (values p S) first) (is_true (values p S) other && true) h in
    let fails : is_true (values p S) other ≡ true = and_left (is_true (values p S) other) true (and_right (is_true (values p S) first) (is_true (values p S) other && true) h) in
    let lost : not (holds S l) ≡ true = sym (is_true-complement (values p S) (literal_of p l) ∙ ap not (literal-holds p S l atom)) ∙ fails in
    false≢true (ap not (sym (follows S holds_all)) ∙ lost))

barred_true : (p : Program) (ls : List ℤ) → AllByRecursion (λ l. has (atoms_of p) (atom_of l) ≡ true) ls → is_barred p (body.All ls) ≡ true → Entailed p (map (literal_of p) ls)
barred_true p ls atoms e =
    never p _ (λ S stable h.
    let fails : all_hold S ls ≡ false =
    barred_by (Among (rules_in_force p)) (all_hold S ls ≡ false) p (body.All ls) (each_among (rules_in_force p)) (λ r m is same.
    ap (body_holds S) (sym same) ∙ body_holds-normal S r.body ∙ stable-keeps p S r stable m is) e in
    false≢true (sym fails ∙ sym (hits-literals p S ls atoms) ∙ h))

body_entailed : (p : Program) (b : Body) → IsSound p → list_any (body_eq b) (bodies_of p) ≡ true → Stands (atoms_of p) b → AllByRecursion (Entailed p) (body_nogoods p b)
body_entailed p (body.All ls) sound stands atoms =
    each_of_body (Entailed p) p ls (barred_true p ls atoms) (
      body_true p ls sound stands atoms,
      each-map (Entailed p) (λ l. literal_of_form p (body.All ls) ∷ complement (literal_of p l) ∷ []) ls
          (each_weaker (λ l. (has (atoms_of p) (atom_of l) ≡ true) × ((S : Atoms) → all_hold S ls ≡ true → holds S l ≡ true))
          (λ l. Entailed p (literal_of_form p (body.All ls) ∷ complement (literal_of p l) ∷ [])) (λ l h. literal_true p ls l sound stands h.0 h.1) ls
          (each_both (λ l. has (atoms_of p) (atom_of l) ≡ true) (λ l. (S : Atoms) → all_hold S ls ≡ true → holds S l ≡ true) ls atoms (members_hold ls))),
    )
body_entailed p (body.AtLeast bound items) sound stands atoms = tt

-- a true body has a true head, be that listed or not
pub head_entailed : (p : Program) (r : Rule) (a : ℕ) → IsSound p → Among (rules_in_force p) r → r.head ≡ head.One a → has (atoms_of p) a ≡ true →
    Entailed p (literal_of_body p r.body ∷ F (var_of_atom p a) ∷ [])
head_entailed p r a sound m e stands =
    never p _ (λ S stable h.
    let first : Literal = literal_of_body p r.body in
    let other : Literal = F (var_of_atom p a) in
    let holds_body : body_holds S r.body ≡ true = sym (rule-true p S (stable-read p S sound stable) r m) ∙ and_left (is_true (values p S) first) (is_true (values p S) other && true) h in
    let fails : is_true (values p S) other ≡ true = and_left (is_true (values p S) other) true (and_right (is_true (values p S) first) (is_true (values p S) other && true) h) in
    let lost : not (has S a) ≡ true = sym (atom-false p S a stands) ∙ fails in
    false≢true (ap not (sym (stable-closed p S r a sound stable m e holds_body)) ∙ lost))

-- what holds of a nogood holds of it where it is listed
pub each_unless : (P : List Literal → Type 0) (t : Bool) (n : List Literal) → P n → AllByRecursion P (cond t [] (n ∷ []))
each_unless P true n h = tt
each_unless P false n h = (h, tt)

pub rule_entailed : (p : Program) (r : Rule) (h : Head) → IsSound p → Among (rules_in_force p) r → r.head ≡ h → HasAll (atoms_of p) (head_atoms h) →
    AllByRecursion (Entailed p) (rule_nogoods p (literal_of_body p r.body) h)
rule_entailed p r (head.One a) sound m e atoms =
    each_unless (Entailed p) (literal_eq (literal_of_body p r.body) (T (var_of_atom p a))) (literal_of_body p r.body ∷ F (var_of_atom p a) ∷ []) (head_entailed p r a sound m e atoms.0)
rule_entailed p r (head.Choice xs) sound m e atoms = tt
rule_entailed p r head.Never sound m e atoms = (
  never p _ (λ S stable h.
      let first : Literal = literal_of_body p r.body in
      let holds_body : body_holds S r.body ≡ true = sym (rule-true p S (stable-read p S sound stable) r m) ∙ and_left (is_true (values p S) first) true h in
      false≢true (sym (stable-keeps p S r stable m e) ∙ holds_body)),
  tt,
)

-- where all supports are false, so are their bodies
pub bodies_fail : (p : Program) (S : Atoms) → IsReadBy p S → (q : Body → Bool) (bs : List Body) →
    AllByRecursion (λ b. list_any (body_eq b) (bodies_of p) ≡ true) bs →
    hits (values p S) (map (λ c. complement (literal_of_form p c)) (filter q bs)) ≡ true →
    AllByRecursion (λ b. q b ≡ true → body_holds S b ≡ false) bs
bodies_fail p S read q [] stand h = tt
bodies_fail p S read q (b ∷ bs) stand h = cases (q b) refl (bodies_fail p S read q bs stand.1)
  where
    not_true : (a : Bool) → not a ≡ true → a ≡ false
    not_true true e = absurd (false≢true e)
    not_true false e = refl

    cases : (t : Bool) → t ≡ q b →
        (hits (values p S) (map (λ c. complement (literal_of_form p c)) (filter q bs)) ≡ true →
        AllByRecursion (λ c. q c ≡ true → body_holds S c ≡ false) bs) → (q b ≡ true → body_holds S b ≡ false) ×
        AllByRecursion (λ c. q c ≡ true → body_holds S c ≡ false) bs
    cases true e f =
        let whole : (is_true (values p S) (complement (literal_of_form p b))
        && hits (values p S) (map (λ c. complement (literal_of_form p c)) (filter q bs))) ≡ true =
        ap (λ t. hits (values p S) (map (λ c. complement (literal_of_form p c)) (cond t (b ∷ filter q bs) (filter q bs)))) e ∙ h in (
          λ _. not_true (body_holds S b) (sym (form-false p S read b stand.0)
              ∙ and_left (is_true (values p S) (complement (literal_of_form p b)))
              (hits (values p S) (map (λ c. complement (literal_of_form p c)) (filter q bs))) whole),
          f (and_right (is_true (values p S) (complement (literal_of_form p b))) (hits (values p S) (map (λ c. complement (literal_of_form p c)) (filter q bs))) whole),
        )
    cases false e f = (
      λ t. absurd (false≢true (e ∙ t)),
      f (ap (λ t. hits (values p S) (map (λ c. complement (literal_of_form p c)) (cond t (b ∷ filter q bs) (filter q bs)))) e ∙ h),
    )

pub atom_entailed : (p : Program) (a : ℕ) → IsSound p → has (atoms_of p) a ≡ true → Entailed p (atom_nogood p a)
atom_entailed p a sound stands = never p _ (λ S stable h. broken S stable h)
  where
    broken : (S : Atoms) → is_stable p S ≡ true → hits (values p S) (atom_nogood p a) ≡ true → ⊥
    broken S stable h =
        let test : Body → Bool = λ b. list_any (λ (r : Rule). has (head_atoms r.head) a && body_eq (normal r.body) b) (rules_in_force p) in
        let atom : Literal = T (var_of_atom p a) in
        let others : List Literal = map (λ c. complement (literal_of_form p c)) (support_bodies p a) in
        let in_set : has S a ≡ true = sym (atom-true p S a stands) ∙ and_left (is_true (values p S) atom) (hits (values p S) others) h in
        let all_fail : AllByRecursion (λ b. test b ≡ true → body_holds S b ≡ false) (bodies_of p) =
        bodies_fail p S (stable-read p S sound stable) test (bodies_of p) (bodies_of-themselves p)
        (and_right (is_true (values p S) atom) (hits (values p S) others) h) in
        let derived : list_any (λ r. has (derived_heads S S r) a) (rules_in_force p) ≡ true = sym (stable-derived p S a sound stable) ∙ in_set in
        one_passes ⊥ (λ r. has (derived_heads S S r) a) (rules_in_force p)
        (each_weaker (Among (rules_in_force p)) (λ r. has (derived_heads S S r) a ≡ true → ⊥) (λ r m e.
        let parts = derived-parts S r a e in
        let tested : test (normal r.body) ≡ true =
        m (λ s. has (head_atoms s.head) a && body_eq (normal s.body) (normal r.body))
        (and_from (has (head_atoms r.head) a) (body_eq (normal r.body) (normal r.body)) parts.1 (body_eq-itself (normal r.body))) in
        let fails : body_holds S (normal r.body) ≡ false = one_passes (body_holds S (normal r.body) ≡ false) (body_eq (normal r.body)) (bodies_of p)
        (each_weaker (λ b. test b ≡ true → body_holds S b ≡ false) (λ b. body_eq (normal r.body) b ≡ true → body_holds S (normal r.body) ≡ false) (λ b f same.
        let eq : normal r.body ≡ b = same_body (normal r.body) b same in
        ap (body_holds S) eq ∙ f (ap test (sym eq) ∙ tested)) (bodies_of p) all_fail) (rule_has_form p r m) in
        false≢true (sym fails ∙ body_holds-normal S r.body ∙ parts.0)) (rules_in_force p) (each_among (rules_in_force p))) derived

pub completion_entailed : (p : Program) → IsSound p → AllByRecursion (Entailed p) (completion p)
completion_entailed p sound =
    let bodies : List (List Literal) = flat_map (body_nogoods p) (bodies_of p) in
    let rules : List (List Literal) = flat_map (λ (r : Rule). rule_nogoods p (literal_of_body p r.body) r.head) (rules_in_force p) in
    let atoms : List (List Literal) = flat_map (atom_nogoods p) (atoms_of p) in
    each-append (Entailed p) (bodies ++ rules) atoms
    (each-append (Entailed p) bodies rules
    (each-flat_map (Entailed p) (body_nogoods p) (bodies_of p)
    (each_weaker (λ b. (list_any (body_eq b) (bodies_of p) ≡ true) × Stands (atoms_of p) b) (λ b. AllByRecursion (Entailed p) (body_nogoods p b)) (λ b h. body_entailed p b sound h.0 h.1) (bodies_of p)
    (each_both (λ b. list_any (body_eq b) (bodies_of p) ≡ true) (Stands (atoms_of p)) (bodies_of p) (bodies_of-themselves p) (bodies_of-stand p))))
    (each-flat_map (Entailed p) (λ (r : Rule). rule_nogoods p (literal_of_body p r.body) r.head) (rules_in_force p)
    (each_weaker (λ r. Among (rules_in_force p) r × HasAll (atoms_of p) (head_atoms r.head))
    (λ r. AllByRecursion (Entailed p) (rule_nogoods p (literal_of_body p r.body) r.head)) (λ r h. rule_entailed p r r.head sound h.0 refl h.1)
    (rules_in_force p)
    (each_both (Among (rules_in_force p)) (λ r. HasAll (atoms_of p) (head_atoms r.head)) (rules_in_force p) (each_among (rules_in_force p)) (rules_in_force-heads p)))))
    (each-flat_map (Entailed p) (atom_nogoods p) (atoms_of p)
    (each_weaker (λ a. has (atoms_of p) a ≡ true) (λ a. AllByRecursion (Entailed p) (atom_nogoods p a))
    (λ a h. each_unless (Entailed p) (has_literal (atom_nogood p a) (F (var_of_atom p a))) (atom_nogood p a) (atom_entailed p a sound h))
    (atoms_of p) (HasAll-itself (atoms_of p))))
