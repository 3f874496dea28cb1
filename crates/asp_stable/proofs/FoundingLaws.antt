-- What is derived is founded.
use Rattle.std.proofs.Common.{◌≡◌, ℕ, zero, suc, ◌+◌, ◌<◌, ◌≤◌, Bool, true, false, not, cond, ◌&&◌, ◌||◌, eqb, List, [], ◌∷◌, ◌++◌, take, map, filter, length, get_or, Option, refl, sym, ap, ◌∙◌, subst, arith, ◌⊎◌, inl, inr}
use Rattle.std.specs.Prelude.{All, ℤ, pos, negsuc, nat_lt}
use Rattle.std.specs.List.{list_any, flat_map, AllByRecursion}
use Rattle.std.proofs.lemmas.Bool.{false≢true, and_parts, eqb-true, eq-eqb}
use Rattle.std.proofs.lemmas.Bool.Decides.{nat_tests}
use Rattle.std.proofs.lemmas.List.{take_all}
use Rattle.std.proofs.lemmas.List.Elements.{All-head, All-tail, All-more, All-weaker}
use Rattle.asp_model.specs.declared.program.Body.{Body}
use Rattle.asp_model.specs.declared.program.Body.TheVariants as body
use Rattle.asp_model.specs.declared.program.Rule.{Rule}
use Rattle.asp_model.specs.declared.program.Program.{Program}
use Rattle.asp_model.specs.Sets.{Atoms, has, IsAscending, IsSubset}
use Rattle.asp_model.specs.Holding.{atom_of, body_holds}
use Rattle.asp_model.specs.Reading.{holds_between, body_holds_between}
use Rattle.asp_model.specs.Models.{rules_in_force, atoms_of, least_model, head_atoms, is_stable}
use Rattle.asp_model.specs.Sound.{IsSound}
use Rattle.asp_model.proofs.SetLaws.{has_at}
use Rattle.asp_model.proofs.MemberLaws.{HasAll, list_any-flat_map}
use Rattle.asp_model.proofs.ReductLaws.{rules_in_force-heads}
use Rattle.asp_vars.specs.Literals.{Literal, T, hits, holds_in, is_true}
use Rattle.asp_vars.specs.Numbering.{normal, body_eq, bodies_of, place_of, var_of_atom, literal_of, nth_body, values}
use Rattle.asp_vars.specs.Completion.{completion}
use Rattle.asp_vars.specs.Tabled.{heads_of, form_literals, IsAtomVar}
use Rattle.asp_vars.proofs.NumberingLaws.{same_body as equal_body, body_eq-itself}
use Rattle.asp_vars.proofs.NormalLaws.{body_holds-normal, body_holds_between-normal}
use Rattle.asp_vars.proofs.PlaceLaws.{place_of-within}
use Rattle.asp_vars.proofs.StandingLaws.{Among, each_among, rule_has_form}
use Rattle.asp_vars.proofs.SupportLaws.{some, in_map, map_in, member, same_atom}
use Rattle.asp_vars.proofs.CompletionLaws.{literal-holds, atom-true, unhit-read}
use Rattle.asp_vars.proofs.SupportLaws.{at_form}
use Rattle.asp_loop.proofs.LoopLaws.{members}
use Rattle.asp_loop.proofs.WeightedLaws.{nth_weighted, body_stands}
use Rattle.asp_found.specs.Marks.{is_marked}
use Rattle.asp_found.specs.Verdicts.{is_supported}
use Rattle.asp_found.proofs.RestLaws.{none_hit, stable_without_rest}
use Rattle.asp_found.proofs.UnfoundedLaws.{body_fails}
use Rattle.asp_found.proofs.VerdictLaws.{atom_broken}
use Rattle.asp_stable.specs.Holding.{is_held, body_held}
use Rattle.asp_stable.specs.Founding.{AreFounded, KeepsCompletion, AreLoopless, GivesAtoms, AreDerived, IsDerived, AreListed}
use Rattle.asp_stable.specs.Ranks.{AreUpTo, IsRanked, AreRanks}
use Rattle.asp_stable.proofs.HoldingLaws.{passes_between, held_passes, each_standing, each_literal, values_pass}

pub atom_var : (p : Program) (a : ℕ) → has (atoms_of p) a ≡ true → IsAtomVar p (var_of_atom p a)
atom_var p a e = let h = place_of-within (λ b. eqb b a) (atoms_of p) e in (omega arith, omega (arith, h))

-- ---- heads of a body
in_heads : (p : Program) (b : Body) (a : ℕ) → has (atoms_of p) a ≡ true → has (heads_of p b) (var_of_atom p a) ≡ true → (r : Rule) ×
    Among (rules_in_force p) r × ((normal r.body ≡ b) × (has (head_atoms r.head) a ≡ true))
in_heads p b a stands e =
    let f : Rule → List ℕ = λ r. cond (body_eq (normal r.body) b) (head_atoms r.head) [] in
    let heads : List ℕ = flat_map f (rules_in_force p) in
    let found = in_map (λ c. has heads c ≡ true) (var_of_atom p) heads (var_of_atom p a) (members heads) e in
    let rule = some (λ r. Among (rules_in_force p) r × HasAll (atoms_of p) (head_atoms r.head)) (λ r. has (f r) found.0) (rules_in_force p)
    (both (rules_in_force p) (each_among (rules_in_force p)) (rules_in_force-heads p))
    (sym (list_any-flat_map (λ c. eqb c found.0) f (rules_in_force p)) ∙ found.1) in
    let parts = split rule.0 found.0 (body_eq (normal rule.0.body) b) refl rule.2 in
    let same : found.0 ≡ a = same_atom p found.0 a (member (atoms_of p) (head_atoms rule.0.head) found.0 rule.1.1 parts.1) stands found.2 in
    (rule.0, rule.1.0, (equal_body (normal rule.0.body) b parts.0, subst (λ (c : ℕ). has (head_atoms rule.0.head) c ≡ true) same parts.1))
  where
    both : (rs : List Rule) → AllByRecursion (Among (rules_in_force p)) rs →
        AllByRecursion (λ (r : Rule). HasAll (atoms_of p) (head_atoms r.head)) rs →
        AllByRecursion (λ (r : Rule). Among (rules_in_force p) r × HasAll (atoms_of p) (head_atoms r.head)) rs
    both [] h k = tt
    both (r ∷ rs) h k = ((h.0, k.0), both rs h.1 k.1)

    split : (r : Rule) (c : ℕ) (t : Bool) → t ≡ body_eq (normal r.body) b → has (cond (body_eq (normal r.body) b) (head_atoms r.head) []) c ≡ true →
        (body_eq (normal r.body) b ≡ true) × (has (head_atoms r.head) c ≡ true)
    split r c true q e = (sym q, ap (λ t. has (cond t (head_atoms r.head) []) c) q ∙ e)
    split r c false q e = absurd (false≢true (ap (λ t. has (cond t (head_atoms r.head) []) c) q ∙ e))

heads_have : (p : Program) (b : Body) (r : Rule) (a : ℕ) → Among (rules_in_force p) r → normal r.body ≡ b → has (head_atoms r.head) a ≡ true → has (heads_of p b) (var_of_atom p a) ≡ true
heads_have p b r a m same e =
    let f : Rule → List ℕ = λ r. cond (body_eq (normal r.body) b) (head_atoms r.head) [] in
    let fits : body_eq (normal r.body) b ≡ true = ap (body_eq (normal r.body)) (sym same) ∙ body_eq-itself (normal r.body) in
    map_in (var_of_atom p) (flat_map f (rules_in_force p)) a
    (list_any-flat_map (λ c. eqb c a) f (rules_in_force p) ∙ m (λ s. has (cond (body_eq (normal s.body) b) (head_atoms s.head) []) a) (ap (λ t. has (cond t (head_atoms r.head) []) a) fits ∙ e))

-- a rule whose body holds by what is founded
founded_by : (p : Program) (S : Atoms) (r : Rule) (a : ℕ) → IsSound p → Among (rules_in_force p) r → has (head_atoms r.head) a ≡ true →
    has S a ≡ true → body_holds_between S (least_model p S) r.body ≡ true → has (least_model p S) a ≡ true
founded_by p S r a sound m in_head in_set held = cases (has (least_model p S) a) refl
  where
    cases : (t : Bool) → t ≡ has (least_model p S) a → has (least_model p S) a ≡ true
    cases true q = sym q
    cases false q = absurd (false≢true (sym (body_fails p S r a sound m in_head in_set (sym q)) ∙ held))

-- ---- each derivation is sound
literal_founded : (p : Program) (S : Atoms) (a : List (Option Bool)) (marks : List Bool) (l : ℤ) → GivesAtoms p S a → AreFounded p S marks →
    has (atoms_of p) (atom_of l) ≡ true → is_held a marks (literal_of p l) ≡ true → holds_between S (least_model p S) l ≡ true
literal_founded p S a marks (pos b) gives founded stands e =
    let parts = and_parts (holds_in a (literal_of p (pos b))) (is_marked marks (var_of_atom p b)) e in
    founded b stands (sym (literal-holds p S (pos b) stands) ∙ sym (gives (literal_of p (pos b)) (atom_var p b stands)) ∙ parts.0) parts.1
literal_founded p S a marks (negsuc b) gives founded stands e =
    let parts = and_parts (holds_in a (literal_of p (negsuc b))) true e in
    sym (literal-holds p S (negsuc b) stands) ∙ sym (gives (literal_of p (negsuc b)) (atom_var p (suc b) stands)) ∙ parts.0

fires : (p : Program) (S : Atoms) (a : List (Option Bool)) (marks : List Bool) (j c : ℕ) → IsSound p → j < length (bodies_of p) → GivesAtoms p S a →
    AreFounded p S marks → body_held p a marks (nth_body p j) ≡ true → has (heads_of p (nth_body p j)) (var_of_atom p c) ≡ true →
    has (atoms_of p) c ≡ true → has S c ≡ true → has (least_model p S) c ≡ true
fires p S a marks j c sound lt gives founded held in_heads_ stands inside =
    let b : Body = nth_body p j in
    let between : body_holds_between S (least_model p S) b ≡ true =
    passes_between p S (least_model p S) (is_held a marks) b (nth_weighted p j sound lt)
    (each_standing p (λ l. is_held a marks (literal_of p l) ≡ true → holds_between S (least_model p S) l ≡ true) b (body_stands p j lt) (λ l s. literal_founded p S a marks l gives founded s))
    (sym (held_passes p a marks b) ∙ held) in
    let rule = in_heads p b c stands in_heads_ in
    founded_by p S rule.0 c sound rule.1 rule.2.1 inside (sym (body_holds_between-normal S (least_model p S) rule.0.body) ∙ ap (body_holds_between S (least_model p S)) rule.2.0 ∙ between)

pub looks : (p : Program) (a : List (Option Bool)) (old new : List Bool) (heads : List ℕ) (j : ℕ) → heads ≡ heads_of p (nth_body p j) → IsSound p →
    j < length (bodies_of p) → body_held p a old (nth_body p j) ≡ true →
    ((v : ℕ) → is_marked new v ≡ true → (is_marked old v ≡ true) ⊎ ((k : ℕ) × (k < length heads) × (get_or heads k 0 ≡ v))) → AreDerived p a old →
    AreDerived p a new
looks p a old new heads j is sound lt held more derived S kept gives c stands inside e = elim (more (var_of_atom p c) e) [
  | inl before ↦ derived S kept gives c stands inside before
  | inr at ↦ fires p S a old j c sound lt gives (derived S kept gives) held (ap (λ hs. has hs (var_of_atom p c)) (sym is) ∙ has_at heads (var_of_atom p c) at.0 at.1 at.2) stands inside
]

-- ---- the end
-- what holds of each element holds of one that is in the list
pub listed_holds : (P : ℕ → Type 0) (xs : List ℕ) (v : ℕ) → has xs v ≡ true → All P xs → P v
listed_holds P [] v e h = absurd (false≢true e)
listed_holds P (x ∷ xs) v e h = cases (eqb x v) refl e (λ k. listed_holds P xs v k (All-tail P x xs h))
  where
    cases : (t : Bool) → t ≡ eqb x v → (eqb x v || has xs v) ≡ true → (has xs v ≡ true → P v) → P v
    cases true q e f = subst P (eqb-true x v (sym q)) (All-head P x xs h)
    cases false q e f = f (ap (λ t. t || has xs v) q ∙ e)

pub all_derived : (p : Program) (a : List (Option Bool)) (flat marks : List Bool) (loops : List ℕ) → length flat ≡ suc (length (atoms_of p)) →
    AreLoopless p flat → AreListed flat loops → AreDerived p a marks → All (λ v. holds_in a (T v) ≡ true → is_marked marks v ≡ true) loops →
    IsDerived p a
all_derived p a flat marks loops size loopless listed derived marked_ S kept gives c stands inside = cases (is_marked flat (var_of_atom p c)) refl
  where
    cases : (t : Bool) → t ≡ is_marked flat (var_of_atom p c) → has (least_model p S) c ≡ true
    cases true q = loopless S kept c stands inside (sym q)
    cases false q =
        let small = atom_var p c stands in let above = small.0 in let below = small.1 in
        derived S kept gives c stands inside
        (listed_holds (λ v. holds_in a (T v) ≡ true → is_marked marks v ≡ true) loops (var_of_atom p c)
        (listed (var_of_atom p c) above (omega (arith, below, size)) (sym q)) marked_
        (gives (T (var_of_atom p c)) small ∙ atom-true p S c stands ∙ inside))

-- with no loops
pub empty_derived : (p : Program) (a : List (Option Bool)) (flat : List Bool) (loops slice : List ℕ) → length flat ≡ suc (length (atoms_of p)) →
    AreLoopless p flat → AreListed flat loops → slice ≡ loops → eqb (length slice) 0 ≡ true → IsDerived p a
empty_derived p a flat loops slice size loopless listed is empty =
    let none : length slice ≡ 0 = eqb-true (length slice) 0 empty in
    let same = ap length is in
    all_derived p a flat flat loops size loopless listed (λ S kept gives. loopless S kept) (λ k d lt. absurd (omega (arith, lt, same, none)))

-- what the loops went through
pub all_taken : {X : Type 0} (P : X → Type 0) (xs : List X) (n : ℕ) → length xs ≤ n → All P (take n xs) → All P xs
all_taken {X = X} P xs n whole h = subst (λ (ys : List X). All P ys) (take_all n xs whole) h

-- no atom is left
later : (a b : Bool) → b ≡ true → (a || b) ≡ true
later true b e = refl
later false b e = e

none_left : (q : ℕ → Bool) (xs : List ℕ) → ((c : ℕ) → has xs c ≡ true → q c ≡ true) → filter (λ a. not (q a)) xs ≡ []
none_left q [] f = refl
none_left q (x ∷ xs) f =
    ap (λ t. cond (not t) (x ∷ filter (λ a. not (q a)) xs) (filter (λ a. not (q a)) xs)) (f x (ap (λ t. t || has xs x) (eq-eqb x x refl)))
    ∙ none_left q xs (λ c e. f c (later (eqb x c) (has xs c) e))

pub derived_stable : (p : Program) (S : Atoms) (a : List (Option Bool)) → IsSound p → IsAscending S → IsSubset S (atoms_of p) → KeepsCompletion p S →
    GivesAtoms p S a → IsDerived p a → is_stable p S ≡ true
derived_stable p S a sound up within kept gives derived =
    stable_without_rest p S sound up (none_hit p S (completion p) kept) (none_left (has (least_model p S)) S (λ c e. derived S kept gives c (within c e) e))

-- ---- ranks
among_has : (xs : List ℕ) (a : ℕ) → has xs a ≡ true → Among xs a
among_has [] a e q h = absurd (false≢true e)
among_has (x ∷ xs) a e q h = cases (eqb x a) refl e (λ k. among_has xs a k q h)
  where
    cases : (t : Bool) → t ≡ eqb x a → (eqb x a || has xs a) ≡ true → (has xs a ≡ true → list_any q xs ≡ true) → (q x || list_any q xs) ≡ true
    cases true s e more = ap (λ t. t || list_any q xs) (ap q (eqb-true x a (sym s)) ∙ h)
    cases false s e more = later (q x) (list_any q xs) (more (ap (λ t. t || has xs a) s ∙ e))

supported : (p : Program) (S : Atoms) (a : ℕ) → IsSound p → KeepsCompletion p S → has (atoms_of p) a ≡ true → has S a ≡ true → is_supported p S a ≡ true
supported p S a sound kept stands inside = cases (is_supported p S a) refl
  where
    cases : (t : Bool) → t ≡ is_supported p S a → is_supported p S a ≡ true
    cases true q = sym q
    cases false q =
        let broken = atom_broken p S a sound (unhit-read p S kept) (among_has (atoms_of p) a stands) stands inside (sym q) in
        absurd (false≢true (sym kept ∙ broken.listed (hits (values p S)) broken.hit))

-- a rule for an atom whose body holds
record Supporting (p : Program) (S : Atoms) (a : ℕ) : Type 0 where
  pub rule : Rule
  pub among : Among (rules_in_force p) rule
  pub head : has (head_atoms rule.head) a ≡ true
  pub holds_ : body_holds S rule.body ≡ true

supporting : (p : Program) (S : Atoms) (a : ℕ) → is_supported p S a ≡ true → Supporting p S a
supporting p S a e =
    let r = some (Among (rules_in_force p)) (λ r. has (head_atoms r.head) a && body_holds S r.body) (rules_in_force p) (each_among (rules_in_force p)) e in
    let parts = and_parts (has (head_atoms r.0.head) a) (body_holds S r.0.body) r.2 in
    record { rule = r.0; among = r.1; head = parts.0; holds_ = parts.1 }

pub ranked : (p : Program) (ranks : List ℕ) → IsSound p → AreRanks p ranks → (S : Atoms) → KeepsCompletion p S → (n c : ℕ) →
    get_or ranks (var_of_atom p c) 0 < n → 0 < get_or ranks (var_of_atom p c) 0 → has (atoms_of p) c ≡ true → has S c ≡ true →
    has (least_model p S) c ≡ true
ranked p ranks sound are S kept zero c low positive stands inside = absurd (omega (arith, low))
ranked p ranks sound are S kept (suc n) c low positive stands inside =
    let s = supporting p S c (supported p S c sound kept stands inside) in
    let form : Body = normal s.rule.body in
    let listed : list_any (body_eq form) (bodies_of p) ≡ true = rule_has_form p s.rule s.among in
    let j : ℕ = place_of (body_eq form) (bodies_of p) in
    let at : nth_body p j ≡ form = at_form form (bodies_of p) (body.All []) listed in
    let lt : j < length (bodies_of p) = place_of-within (body_eq form) (bodies_of p) listed in
    let heads : has (heads_of p (nth_body p j)) (var_of_atom p c) ≡ true = ap (λ b. has (heads_of p b) (var_of_atom p c)) at ∙ heads_have p form s.rule c s.among refl s.head in
    let held : body_holds S (nth_body p j) ≡ true = ap (body_holds S) at ∙ body_holds-normal S s.rule.body ∙ s.holds_ in
    let between : body_holds_between S (least_model p S) (nth_body p j) ≡ true =
    passes_between p S (least_model p S) (is_true (values p S)) (nth_body p j) (nth_weighted p j sound lt)
    (each_literal p (λ l. is_true (values p S) (literal_of p l) ≡ true → holds_between S (least_model p S) l ≡ true)
    (Below (get_or ranks (var_of_atom p c) 0)) (nth_body p j) (body_stands p j lt) (are j lt (var_of_atom p c) heads positive)
    (literal (λ b small r s e. ranked p ranks sound are S kept n b small r s e)))
    (values_pass p S (nth_body p j) (body_stands p j lt) ∙ held) in
    founded_by p S s.rule c sound s.among s.head inside (sym (body_holds_between-normal S (least_model p S) s.rule.body) ∙ ap (body_holds_between S (least_model p S)) (sym at) ∙ between)
  where
    Below : ℕ → Literal → Type 0
    Below top l = l.truth ≡ true → (0 < get_or ranks l.var 0) × (get_or ranks l.var 0 < top)

    literal : ((b : ℕ) → get_or ranks (var_of_atom p b) 0 < n → 0 < get_or ranks (var_of_atom p b) 0 → has (atoms_of p) b ≡ true → has S b ≡ true →
        has (least_model p S) b ≡ true) → (l : ℤ) → has (atoms_of p) (atom_of l) ≡ true →
        Below (get_or ranks (var_of_atom p c) 0) (literal_of p l) → is_true (values p S) (literal_of p l) ≡ true →
        holds_between S (least_model p S) l ≡ true
    literal f (pos b) s below e =
        let r = below refl in let small = r.1 in f b (omega (arith, small, low)) r.0 s (sym (literal-holds p S (pos b) s) ∙ e)
    literal f (negsuc b) s below e = sym (literal-holds p S (negsuc b) s) ∙ e

-- marks of the atoms that have ranks
ranks_loopless : (p : Program) (ranks : List ℕ) (flat : List Bool) → IsSound p → AreRanks p ranks → ((v : ℕ) → is_marked flat v ≡ true → 0 < get_or ranks v 0) → AreLoopless p flat
ranks_loopless p ranks flat sound are marked_ S kept c stands inside e =
    ranked p ranks sound are S kept (suc (get_or ranks (var_of_atom p c) 0)) c (omega arith) (marked_ (var_of_atom p c) e) stands inside

-- marks that are read off ranks
read_ranks : (ranks : List ℕ) (v : ℕ) → is_marked (map (λ r. nat_lt 0 r) ranks) v ≡ true → 0 < get_or ranks v 0
read_ranks [] v e = absurd (false≢true e)
read_ranks (r ∷ ranks) zero e = grind (arith, nat_tests)
read_ranks (r ∷ ranks) (suc v) e = read_ranks ranks v e

pub positive_loopless : (p : Program) (ranks : List ℕ) (flat : List Bool) → IsSound p → AreRanks p ranks → flat ≡ map (λ r. nat_lt 0 r) ranks → AreLoopless p flat
positive_loopless p ranks flat sound are is = ranks_loopless p ranks flat sound are (λ v e. read_ranks ranks v (ap (λ m. is_marked m v) (sym is) ∙ e))

-- ---- loops of the code
-- heads above the ranks of the literals
pub heads_above : (p : Program) (ranks : List ℕ) (heads : List ℕ) (lits : List Literal) (j top : ℕ) → heads ≡ heads_of p (nth_body p j) →
    lits ≡ form_literals p (nth_body p j) → AreUpTo ranks top lits → All (λ v. 0 < get_or ranks v 0 → top < get_or ranks v 0) heads →
    IsRanked p ranks j
heads_above p ranks heads lits j top is are up above v in_ positive =
    let h = listed_holds (λ v. 0 < get_or ranks v 0 → top < get_or ranks v 0) heads v (ap (λ hs. has hs v) is ∙ in_) above positive in
    subst (λ (ls : List Literal). All (λ l. l.truth ≡ true → (0 < get_or ranks l.var 0) × (get_or ranks l.var 0 < get_or ranks v 0)) ls) are
    (All-weaker (λ (l : Literal). l.truth ≡ true → (0 < get_or ranks l.var 0) × (get_or ranks l.var 0 ≤ top))
    (λ l. l.truth ≡ true → (0 < get_or ranks l.var 0) × (get_or ranks l.var 0 < get_or ranks v 0))
    (λ l k t. let small = k t in let b = small.1 in (small.0, omega (arith, b, h))) lits up)

pub heads_without : (p : Program) (ranks : List ℕ) (heads : List ℕ) (j : ℕ) → heads ≡ heads_of p (nth_body p j) → All (λ v. get_or ranks v 0 ≡ 0) heads → IsRanked p ranks j
heads_without p ranks heads j is none v in_ positive =
    absurd (omega (arith, positive, listed_holds (λ v. get_or ranks v 0 ≡ 0) heads v (ap (λ hs. has hs v) is ∙ in_) none))

-- one more literal
pub up_more : (ranks : List ℕ) (lits : List Literal) (l : Literal) (i top new : ℕ) → i < length lits → l ≡ get_or lits i l →
    AreUpTo ranks top (take i lits) → top ≤ new → (l.truth ≡ true → (0 < get_or ranks l.var 0) × (get_or ranks l.var 0 ≤ new)) →
    AreUpTo ranks new (take (i + 1) lits)
up_more ranks lits l i top new lt is up more this =
    All-more (λ l. l.truth ≡ true → (0 < get_or ranks l.var 0) × (get_or ranks l.var 0 ≤ new)) lits i l lt
    (All-weaker (λ (l : Literal). l.truth ≡ true → (0 < get_or ranks l.var 0) × (get_or ranks l.var 0 ≤ top))
    (λ l. l.truth ≡ true → (0 < get_or ranks l.var 0) × (get_or ranks l.var 0 ≤ new))
    (λ l k t. let small = k t in let b = small.1 in (small.0, omega (arith, b, more))) (take i lits) up)
    (subst (λ (k : Literal). k.truth ≡ true → (0 < get_or ranks k.var 0) × (get_or ranks k.var 0 ≤ new)) is this)

-- one more atom is listed
pub record Listing (p : Program) (flat : List Bool) (loops : List ℕ) (i : ℕ) : Type 0 where
  pub listed : (v : ℕ) → 0 < v → v < i + 1 → is_marked flat v ≡ false → has loops v ≡ true
  pub within : All (IsAtomVar p) loops

has_end : (xs : List ℕ) (v : ℕ) → has (xs ++ v ∷ []) v ≡ true
has_end [] v = ap (λ t. t || false) (eq-eqb v v refl)
has_end (x ∷ xs) v = later (eqb x v) (has (xs ++ v ∷ []) v) (has_end xs v)
