-- What the loops of the check show.
use Rattle.std.proofs.Common.{◌≡◌, ℕ, Bool, true, false, not, cond, ◌&&◌, ◌||◌, eqb, List, [], ◌∷◌, ◌++◌, map, filter, refl, sym, ap, ◌∙◌, subst}
use Rattle.std.specs.Prelude.{ℤ}
use Rattle.std.specs.List.{list_all, list_any, flat_map, AllByRecursion}
use Rattle.std.proofs.lemmas.Bool.{false≢true, and_parts, and_from, eqb-true}
use Rattle.asp_model.specs.declared.program.Body.{Body}
use Rattle.asp_model.specs.declared.program.Body.TheVariants as body
use Rattle.asp_model.specs.declared.program.Head.{Head}
use Rattle.asp_model.specs.declared.program.Head.TheVariants as head
use Rattle.asp_model.specs.declared.program.Rule.{Rule}
use Rattle.asp_model.specs.declared.program.Program.{Program}
use Rattle.asp_model.specs.Sets.{Atoms, has}
use Rattle.asp_model.specs.Holding.{atom_of, holds, all_hold, body_holds}
use Rattle.asp_model.specs.Models.{rules_in_force, atoms_of, head_atoms}
use Rattle.asp_model.specs.Sound.{IsSound}
use Rattle.asp_model.proofs.MemberLaws.{list_any-flat_map, each_passes, each_weaker, one_passes}
use Rattle.asp_model.proofs.ReductLaws.{rules_in_force-heads}
use Rattle.asp_vars.specs.Literals.{Literal, T, F, complement, literal_eq, has_literal, is_true, hits}
use Rattle.asp_vars.specs.Numbering.{normal, body_eq, bodies_of, var_of_atom, literal_of_form, literal_of_body, literal_of, values, IsReadBy}
use Rattle.asp_vars.specs.Completion.{is_barred, body_nogoods, rule_nogoods, atom_nogood, atom_nogoods, completion}
use Rattle.asp_vars.proofs.LiteralLaws.{is_true-complement, hits-has, same_literal}
use Rattle.asp_vars.proofs.NormalLaws.{body_holds-normal}
use Rattle.asp_vars.specs.Tabled.{Stands}
use Rattle.asp_vars.proofs.StandingLaws.{Among, each_among, rule_has_form, each_both}
use Rattle.asp_vars.proofs.CompletionLaws.{hits-literals, literal-holds, form-false, rule-true, atom-true, atom-false, supported-read, head_entailed, rule_entailed, atom_entailed, members_hold, bodies_fail, each_of_body, barred_by, each_unless}
use Rattle.std.proofs.lemmas.List.Folds.{list_any-append}
use Rattle.asp_model.proofs.MemberLaws.{each-append, each-flat_map, each-map, HasAll, HasAll-itself}
use Rattle.asp_vars.specs.declared.nogood.Base.TheVariants as base
use Rattle.asp_vars.specs.Completion.{support_bodies}
use Rattle.asp_vars.proofs.StandingLaws.{bodies_of-stand, bodies_of-themselves}
use Rattle.asp_vars.proofs.NumberingLaws.{same_body as equal_body, body_eq-itself}
use Rattle.asp_found.specs.Verdicts.{is_kept, keeps, is_supported, rule_literals, IsListed, IsBroken}
use Rattle.asp_found.proofs.RestLaws.{NoneHit, none_passes}

or_left : (a b : Bool) → a ≡ true → (a || b) ≡ true
or_left true b e = refl
or_left false b e = absurd (false≢true e)

or_right : (a b : Bool) → b ≡ true → (a || b) ≡ true
or_right true b e = refl
or_right false b e = e

-- ---- nogoods of the completion
rule_listed : (p : Program) (r : Rule) (n : List Literal) → Among (rules_in_force p) r →
    ((q : List Literal → Bool) → q n ≡ true → list_any q (rule_nogoods p (literal_of_body p r.body) r.head) ≡ true) → IsListed p n
rule_listed p r n m at q e =
    let bodies : List (List Literal) = flat_map (body_nogoods p) (bodies_of p) in
    let rules : List (List Literal) = flat_map (λ (s : Rule). rule_nogoods p (literal_of_body p s.body) s.head) (rules_in_force p) in
    let atoms : List (List Literal) = flat_map (atom_nogoods p) (atoms_of p) in
    let here : list_any q rules ≡ true =
    list_any-flat_map q (λ (s : Rule). rule_nogoods p (literal_of_body p s.body) s.head) (rules_in_force p)
    ∙ m (λ s. list_any q (rule_nogoods p (literal_of_body p s.body) s.head)) (at q e) in
    list_any-append q (bodies ++ rules) atoms
    ∙ or_left (list_any q (bodies ++ rules)) (list_any q atoms) (list_any-append q bodies rules ∙ or_right (list_any q bodies) (list_any q rules) here)

atom_listed : (p : Program) (a : ℕ) (n : List Literal) → Among (atoms_of p) a → ((q : List Literal → Bool) → q n ≡ true → list_any q (atom_nogoods p a) ≡ true) → IsListed p n
atom_listed p a n m at q e =
    let bodies : List (List Literal) = flat_map (body_nogoods p) (bodies_of p) in
    let rules : List (List Literal) = flat_map (λ (s : Rule). rule_nogoods p (literal_of_body p s.body) s.head) (rules_in_force p) in
    let atoms : List (List Literal) = flat_map (atom_nogoods p) (atoms_of p) in
    list_any-append q (bodies ++ rules) atoms
    ∙ or_right (list_any q (bodies ++ rules)) (list_any q atoms) (list_any-flat_map q (atom_nogoods p) (atoms_of p) ∙ m (λ b. list_any q (atom_nogoods p b)) (at q e))

-- a nogood is listed unless a test says that no set hits it
listed_unless : (q : List Literal → Bool) (t : Bool) (n : List Literal) → t ≡ false → q n ≡ true → list_any q (cond t [] (n ∷ [])) ≡ true
listed_unless q true n e f = absurd (false≢true (sym e))
listed_unless q false n e f = or_left (q n) false f

false_unless : (t : Bool) → (t ≡ true → ⊥) → t ≡ false
false_unless true f = absurd (f refl)
false_unless false f = refl

opposite : (v : List Bool) (x : ℕ) → is_true v (T x) ≡ true → is_true v (F x) ≡ true → ⊥
opposite v x e f = false≢true (ap not (sym e) ∙ sym (is_true-complement v (T x)) ∙ f)

-- ---- a rule that isn't kept
pub and_parts' : (a b : Bool) → (not a || b) ≡ false → (a ≡ true) × (b ≡ false)
and_parts' true b e = (refl, e)
and_parts' false b e = absurd (false≢true (sym e))

both_true : (a b : Bool) → a ≡ true → b ≡ true → (a && (b && true)) ≡ true
both_true true true e f = refl
both_true true false e f = f
both_true false b e f = absurd (false≢true e)

pub rule_broken : (p : Program) (S : Atoms) (r : Rule) (h : Head) → IsSound p → IsReadBy p S → Among (rules_in_force p) r → r.head ≡ h →
    HasAll (atoms_of p) (head_atoms h) → (not (body_holds S r.body) || is_kept S h) ≡ false →
    IsBroken p S (record { lits = rule_literals p (literal_of_body p r.body) h; base = base.Pure })
rule_broken p S r (head.One a) sound read m e stand fails =
    let parts = and_parts' (body_holds S r.body) (has S a) fails in
    let lit : Literal = literal_of_body p r.body in
    let other : Literal = F (var_of_atom p a) in
    let first : is_true (values p S) lit ≡ true = rule-true p S read r m ∙ parts.0 in
    let second : is_true (values p S) other ≡ true = atom-false p S a stand.0 ∙ ap not parts.1 in
    let differs : literal_eq lit (T (var_of_atom p a)) ≡ false =
    false_unless (literal_eq lit (T (var_of_atom p a)))
    (λ same. opposite (values p S) (var_of_atom p a) (ap (is_true (values p S)) (sym (same_literal lit (T (var_of_atom p a)) same)) ∙ first)
    second) in
    record {
      pure = refl;
      listed = rule_listed p r _ m (λ q f. subst (λ (h : Head). list_any q (rule_nogoods p lit h) ≡ true) (sym e)
          (listed_unless q (literal_eq lit (T (var_of_atom p a))) (lit ∷ other ∷ []) differs f));
      entailed = head_entailed p r a sound m e stand.0;
      hit = both_true (is_true (values p S) lit) (is_true (values p S) other) first second;
    }
rule_broken p S r (head.Choice atoms) sound read m e stand fails = absurd (false≢true (sym (and_parts' (body_holds S r.body) true fails).1))
rule_broken p S r head.Never sound read m e stand fails =
    let parts = and_parts' (body_holds S r.body) false fails in
    record {
      pure = refl;
      listed = rule_listed p r _ m (λ q f. subst (λ (h : Head). list_any q (rule_nogoods p (literal_of_body p r.body) h) ≡ true) (sym e) (or_left (q (literal_of_body p r.body ∷ [])) false f));
      entailed = (rule_entailed p r head.Never sound m e stand).0;
      hit = ap (λ b. b && true) (rule-true p S read r m ∙ parts.0);
    }

-- ---- an atom that no rule supports
supported_false : (p : Program) (S : Atoms) (a : ℕ) (b : Body) → is_supported p S a ≡ false →
    list_any (λ r. has (head_atoms r.head) a && body_eq (normal r.body) b) (rules_in_force p) ≡ true → body_holds S b ≡ false
supported_false p S a b none e =
    one_passes (body_holds S b ≡ false) (λ r. has (head_atoms r.head) a && body_eq (normal r.body) b) (rules_in_force p)
    (each_weaker (Among (rules_in_force p)) (λ r. (has (head_atoms r.head) a && body_eq (normal r.body) b) ≡ true → body_holds S b ≡ false) (λ r m f.
    let parts = and_parts (has (head_atoms r.head) a) (body_eq (normal r.body) b) f in
    let same : normal r.body ≡ b = equal_body (normal r.body) b parts.1 in
    ap (body_holds S) (sym same) ∙ body_holds-normal S r.body ∙ fails r m parts.0) (rules_in_force p) (each_among (rules_in_force p))) e
  where
    fails : (r : Rule) → Among (rules_in_force p) r → has (head_atoms r.head) a ≡ true → body_holds S r.body ≡ false
    fails r m h = cases (body_holds S r.body) refl
      where
        cases : (t : Bool) → t ≡ body_holds S r.body → body_holds S r.body ≡ false
        cases false q = sym q
        cases true q = absurd (false≢true (sym none ∙ m (λ s. has (head_atoms s.head) a && body_holds S s.body) (and_from (has (head_atoms r.head) a) (body_holds S r.body) h (sym q))))

falses_hit : (p : Program) (S : Atoms) → IsReadBy p S → (q : Body → Bool) (bs : List Body) →
    AllByRecursion (λ b. list_any (body_eq b) (bodies_of p) ≡ true) bs → ((b : Body) → q b ≡ true → body_holds S b ≡ false) →
    hits (values p S) (map (λ c. complement (literal_of_form p c)) (filter q bs)) ≡ true
falses_hit p S read q [] stand f = refl
falses_hit p S read q (b ∷ bs) stand f = cases (q b) refl (falses_hit p S read q bs stand.1 f)
  where
    cases : (t : Bool) → t ≡ q b → hits (values p S) (map (λ c. complement (literal_of_form p c)) (filter q bs)) ≡ true →
        hits (values p S) (map (λ c. complement (literal_of_form p c)) (cond (q b) (b ∷ filter q bs) (filter q bs))) ≡ true
    cases true e rest_hit = ap (λ t. hits (values p S) (map (λ c. complement (literal_of_form p c)) (cond t (b ∷ filter q bs) (filter q bs)))) (sym e)
        ∙ and_from (is_true (values p S) (complement (literal_of_form p b)))
        (hits (values p S) (map (λ c. complement (literal_of_form p c)) (filter q bs))) (form-false p S read b stand.0 ∙ ap not (f b (sym e)))
        rest_hit
    cases false e rest_hit = ap (λ t. hits (values p S) (map (λ c. complement (literal_of_form p c)) (cond t (b ∷ filter q bs) (filter q bs)))) (sym e) ∙ rest_hit

pub supports_hit : (p : Program) (S : Atoms) (a : ℕ) → IsReadBy p S → is_supported p S a ≡ false → hits (values p S) (map (λ c. complement (literal_of_form p c)) (support_bodies p a)) ≡ true
supports_hit p S a read none =
    falses_hit p S read (λ b. list_any (λ (r : Rule). has (head_atoms r.head) a && body_eq (normal r.body) b) (rules_in_force p)) (bodies_of p)
    (bodies_of-themselves p) (λ b e. supported_false p S a b none e)

pub atom_broken : (p : Program) (S : Atoms) (a : ℕ) → IsSound p → IsReadBy p S → Among (atoms_of p) a → has (atoms_of p) a ≡ true → has S a ≡ true →
    is_supported p S a ≡ false → IsBroken p S (record { lits = atom_nogood p a; base = base.Pure })
atom_broken p S a sound read m stands in_set none =
    let first : is_true (values p S) (T (var_of_atom p a)) ≡ true = atom-true p S a stands ∙ in_set in
    let hit : hits (values p S) (atom_nogood p a) ≡ true =
    and_from (is_true (values p S) (T (var_of_atom p a))) (hits (values p S) (map (λ c. complement (literal_of_form p c)) (support_bodies p a)))
    first (supports_hit p S a read none) in
    let apart : has_literal (atom_nogood p a) (F (var_of_atom p a)) ≡ false =
    false_unless (has_literal (atom_nogood p a) (F (var_of_atom p a)))
    (λ stands. opposite (values p S) (var_of_atom p a) first (hits-has (values p S) (atom_nogood p a) (F (var_of_atom p a)) hit stands)) in
    record {
      pure = refl;
      listed = atom_listed p a (atom_nogood p a) m (λ q f. listed_unless q (has_literal (atom_nogood p a) (F (var_of_atom p a))) (atom_nogood p a) apart f);
      entailed = atom_entailed p a sound stands;
      hit = hit;
    }

-- ---- where nothing is broken
not_both' : (a : Bool) → (not a && a) ≡ false
not_both' true = refl
not_both' false = refl

follows_no : (a b : Bool) → (a ≡ true → b ≡ true) → (a && (not b && true)) ≡ false
follows_no false b f = refl
follows_no true true f = refl
follows_no true false f = absurd (false≢true (f refl))

-- the body of a constraint that is kept doesn't hold
kept_constraint : (a b : Bool) → b ≡ false → (not a || b) ≡ true → a ≡ false
kept_constraint true b e h = absurd (false≢true (sym e ∙ h))
kept_constraint false b e h = refl

barred_unhit : (p : Program) (S : Atoms) (ls : List ℤ) → AllByRecursion (λ r. keeps S r ≡ true) (rules_in_force p) →
    Stands (atoms_of p) (body.All ls) → is_barred p (body.All ls) ≡ true → hits (values p S) (map (literal_of p) ls) ≡ false
barred_unhit p S ls kept stands barred =
    hits-literals p S ls stands
    ∙ barred_by (λ r. keeps S r ≡ true) (all_hold S ls ≡ false) p (body.All ls) kept (λ r k is same.
    ap (body_holds S) (sym same) ∙ body_holds-normal S r.body ∙ kept_constraint (body_holds S r.body) (is_kept S r.head) (ap (is_kept S) is) k) barred

body_unhit : (p : Program) (S : Atoms) (b : Body) → IsReadBy p S → AllByRecursion (λ r. keeps S r ≡ true) (rules_in_force p) →
    list_any (body_eq b) (bodies_of p) ≡ true → Stands (atoms_of p) b → NoneHit p S (body_nogoods p b)
body_unhit p S (body.All ls) read kept has_var stands =
    each_of_body (λ n. hits (values p S) n ≡ false) p ls (barred_unhit p S ls kept stands) (
      ap (λ b. b && hits (values p S) (map (literal_of p) ls)) (form-false p S read (body.All ls) has_var)
          ∙ ap (λ b. not (all_hold S ls) && b) (hits-literals p S ls stands) ∙ not_both' (all_hold S ls),
      each-map (λ n. hits (values p S) n ≡ false) (λ l. literal_of_form p (body.All ls) ∷ complement (literal_of p l) ∷ []) ls
          (each_weaker (λ l. (has (atoms_of p) (atom_of l) ≡ true) × ((S : Atoms) → all_hold S ls ≡ true → holds S l ≡ true))
          (λ l. hits (values p S) (literal_of_form p (body.All ls) ∷ complement (literal_of p l) ∷ []) ≡ false) (λ l f.
          ap (λ b. b && (is_true (values p S) (complement (literal_of p l)) && true)) (read (body.All ls) has_var)
          ∙ ap (λ b. all_hold S ls && (b && true)) (is_true-complement (values p S) (literal_of p l) ∙ ap not (literal-holds p S l f.0))
          ∙ follows_no (all_hold S ls) (holds S l) (f.1 S)) ls
          (each_both (λ l. has (atoms_of p) (atom_of l) ≡ true) (λ l. (S : Atoms) → all_hold S ls ≡ true → holds S l ≡ true) ls stands (members_hold ls))),
    )
body_unhit p S (body.AtLeast c items) read kept has_var stands = tt

kept_no : (a b : Bool) → (not a || b) ≡ true → (a && (not b && true)) ≡ false
kept_no true true e = refl
kept_no true false e = absurd (false≢true e)
kept_no false b e = refl

never_no : (a : Bool) → (not a || false) ≡ true → (a && true) ≡ false
never_no true e = absurd (false≢true e)
never_no false e = refl

rule_unhit : (p : Program) (S : Atoms) (r : Rule) (h : Head) → IsReadBy p S → Among (rules_in_force p) r → HasAll (atoms_of p) (head_atoms h) →
    (not (body_holds S r.body) || is_kept S h) ≡ true → NoneHit p S (rule_nogoods p (literal_of_body p r.body) h)
rule_unhit p S r (head.One a) read m stand kept =
    each_unless (λ n. hits (values p S) n ≡ false) (literal_eq (literal_of_body p r.body) (T (var_of_atom p a))) (literal_of_body p r.body ∷ F (var_of_atom p a) ∷ [])
    (ap (λ b. b && (is_true (values p S) (F (var_of_atom p a)) && true)) (rule-true p S read r m)
    ∙ ap (λ b. body_holds S r.body && (b && true)) (atom-false p S a stand.0) ∙ kept_no (body_holds S r.body) (has S a) kept)
rule_unhit p S r (head.Choice atoms) read m stand kept = tt
rule_unhit p S r head.Never read m stand kept = (ap (λ b. b && true) (rule-true p S read r m) ∙ never_no (body_holds S r.body) kept, tt)

-- where all supports fail, so does each rule for the atom
pub supports_unhit : (p : Program) (S : Atoms) (a : ℕ) → IsReadBy p S → hits (values p S) (map (λ c. complement (literal_of_form p c)) (support_bodies p a)) ≡ true → is_supported p S a ≡ true → ⊥
supports_unhit p S a read h supported =
    let test : Body → Bool = λ b. list_any (λ (r : Rule). has (head_atoms r.head) a && body_eq (normal r.body) b) (rules_in_force p) in
    let all_fail : AllByRecursion (λ b. test b ≡ true → body_holds S b ≡ false) (bodies_of p) = bodies_fail p S read test (bodies_of p) (bodies_of-themselves p) h in
    one_passes ⊥ (λ r. has (head_atoms r.head) a && body_holds S r.body) (rules_in_force p)
    (each_weaker (Among (rules_in_force p)) (λ r. (has (head_atoms r.head) a && body_holds S r.body) ≡ true → ⊥) (λ r m e.
    let parts = and_parts (has (head_atoms r.head) a) (body_holds S r.body) e in
    let tested : test (normal r.body) ≡ true =
    m (λ s. has (head_atoms s.head) a && body_eq (normal s.body) (normal r.body))
    (and_from (has (head_atoms r.head) a) (body_eq (normal r.body) (normal r.body)) parts.0 (body_eq-itself (normal r.body))) in
    let fails : body_holds S (normal r.body) ≡ false = one_passes (body_holds S (normal r.body) ≡ false) (body_eq (normal r.body)) (bodies_of p)
    (each_weaker (λ b. test b ≡ true → body_holds S b ≡ false) (λ b. body_eq (normal r.body) b ≡ true → body_holds S (normal r.body) ≡ false) (λ b f same.
    let eq : normal r.body ≡ b = equal_body (normal r.body) b same in
    ap (body_holds S) eq ∙ f (ap test (sym eq) ∙ tested)) (bodies_of p) all_fail) (rule_has_form p r m) in
    false≢true (sym fails ∙ body_holds-normal S r.body ∙ parts.1)) (rules_in_force p) (each_among (rules_in_force p))) supported

atom_unhit : (p : Program) (S : Atoms) (a : ℕ) → IsReadBy p S → has (atoms_of p) a ≡ true → (not (has S a) || is_supported p S a) ≡ true → hits (values p S) (atom_nogood p a) ≡ false
atom_unhit p S a read stands kept = cases (has S a) (hits (values p S) (map (λ c. complement (literal_of_form p c)) (support_bodies p a))) refl refl
  where
    cases : (b c : Bool) → b ≡ has S a → c ≡ hits (values p S) (map (λ c. complement (literal_of_form p c)) (support_bodies p a)) → hits (values p S) (atom_nogood p a) ≡ false
    cases false c q r = ap (λ b. b && hits (values p S) (map (λ c. complement (literal_of_form p c)) (support_bodies p a))) (atom-true p S a stands ∙ sym q)
    cases true false q r = ap (λ b. is_true (values p S) (T (var_of_atom p a)) && b) (sym r) ∙ never (is_true (values p S) (T (var_of_atom p a)))
      where
        never : (b : Bool) → (b && false) ≡ false
        never true = refl
        never false = refl
    cases true true q r = absurd (supports_unhit p S a read (sym r) (ap (λ b. not b || is_supported p S a) q ∙ kept))

-- what each of a list passes, one of it does
among_passes : {X : Type 0} (q : X → Bool) (xs : List X) (x : X) → AllByRecursion (λ y. q y ≡ true) xs → Among xs x → q x ≡ true
among_passes q xs x h m = cases (q x) refl
  where
    cases : (t : Bool) → t ≡ q x → q x ≡ true
    cases true e = sym e
    cases false e = absurd (one_passes ⊥ (λ y. not (q y)) xs
        (each_weaker (λ y. q y ≡ true) (λ y. not (q y) ≡ true → ⊥) (λ y f g. false≢true (ap not (sym f) ∙ g)) xs h)
        (m (λ y. not (q y)) (ap not (sym e))))

then_holds : (a b : Bool) → (not a || b) ≡ true → a ≡ true → b ≡ true
then_holds true b e f = e
then_holds false b e f = absurd (false≢true f)

kept_read : (p : Program) (S : Atoms) → AllByRecursion (λ r. keeps S r ≡ true) (rules_in_force p) → AllByRecursion (λ a. (not (has S a) || is_supported p S a) ≡ true) (atoms_of p) → IsReadBy p S
kept_read p S kept supported =
    supported-read p S (λ r a m e holds_body.
    then_holds (body_holds S r.body) (has S a) (ap (λ h. not (body_holds S r.body) || is_kept S h) (sym e) ∙ among_passes (keeps S) (rules_in_force p) r kept m) holds_body) (λ a stands in_set.
    one_passes (is_supported p S a ≡ true) (λ b. eqb b a) (atoms_of p)
    (each_weaker (λ b. (not (has S b) || is_supported p S b) ≡ true) (λ b. eqb b a ≡ true → is_supported p S a ≡ true) (λ b f same.
    then_holds (has S a) (is_supported p S a) (subst (λ (c : ℕ). (not (has S c) || is_supported p S c) ≡ true) (eqb-true b a same) f) in_set) (atoms_of p) supported) stands)

pub none_broken : (p : Program) (S : Atoms) → list_all (keeps S) (rules_in_force p) ≡ true →
    list_all (λ a. not (has S a) || is_supported p S a) (atoms_of p) ≡ true → list_any (hits (values p S)) (completion p) ≡ false
none_broken p S kept supported =
    let P : List Literal → Type 0 = λ n. hits (values p S) n ≡ false in
    let bodies : List (List Literal) = flat_map (body_nogoods p) (bodies_of p) in
    let rules : List (List Literal) = flat_map (λ (r : Rule). rule_nogoods p (literal_of_body p r.body) r.head) (rules_in_force p) in
    let atoms : List (List Literal) = flat_map (atom_nogoods p) (atoms_of p) in
    let each_kept : AllByRecursion (λ r. keeps S r ≡ true) (rules_in_force p) = each_passes (keeps S) (rules_in_force p) kept in
    let each_supported : AllByRecursion (λ a. (not (has S a) || is_supported p S a) ≡ true) (atoms_of p) = each_passes (λ a. not (has S a) || is_supported p S a) (atoms_of p) supported in
    let read : IsReadBy p S = kept_read p S each_kept each_supported in
    none_passes (hits (values p S)) (completion p) (each-append P (bodies ++ rules) atoms (each-append P bodies rules
    (each-flat_map P (body_nogoods p) (bodies_of p) (each_weaker (λ b. (list_any (body_eq b) (bodies_of p) ≡ true) × Stands (atoms_of p) b)
    (λ b. AllByRecursion P (body_nogoods p b)) (λ b h. body_unhit p S b read each_kept h.0 h.1) (bodies_of p)
    (each_both (λ b. list_any (body_eq b) (bodies_of p) ≡ true) (Stands (atoms_of p)) (bodies_of p) (bodies_of-themselves p) (bodies_of-stand p))))
    (each-flat_map P (λ (r : Rule). rule_nogoods p (literal_of_body p r.body) r.head) (rules_in_force p)
    (each_weaker (λ r. (Among (rules_in_force p) r × HasAll (atoms_of p) (head_atoms r.head)) × (keeps S r ≡ true))
    (λ r. AllByRecursion P (rule_nogoods p (literal_of_body p r.body) r.head)) (λ r h. rule_unhit p S r r.head read h.0.0 h.0.1 h.1)
    (rules_in_force p)
    (each_both (λ r. Among (rules_in_force p) r × HasAll (atoms_of p) (head_atoms r.head)) (λ r. keeps S r ≡ true) (rules_in_force p)
    (each_both (Among (rules_in_force p)) (λ r. HasAll (atoms_of p) (head_atoms r.head)) (rules_in_force p) (each_among (rules_in_force p)) (rules_in_force-heads p)) each_kept))))
    (each-flat_map P (atom_nogoods p) (atoms_of p)
    (each_weaker (λ a. (has (atoms_of p) a ≡ true) × ((not (has S a) || is_supported p S a) ≡ true)) (λ a. AllByRecursion P (atom_nogoods p a))
    (λ a h. each_unless P (has_literal (atom_nogood p a) (F (var_of_atom p a))) (atom_nogood p a) (atom_unhit p S a read h.0 h.1)) (atoms_of p)
    (each_both (λ a. has (atoms_of p) a ≡ true) (λ a. (not (has S a) || is_supported p S a) ≡ true) (atoms_of p) (HasAll-itself (atoms_of p)) each_supported))))
