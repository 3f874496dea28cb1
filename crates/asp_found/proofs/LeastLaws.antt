-- What is marked at the end is the least model.
use Rattle.std.proofs.Common.{◌≡◌, ℕ, suc, ◌+◌, ◌<◌, ◌≤◌, Bool, true, false, not, cond, ◌&&◌, ◌||◌, eqb, List, [], ◌∷◌, ◌++◌, map, length, take, drop, refl, sym, ap, ◌∙◌, subst, arith, inl, inr}
use Rattle.std.specs.Prelude.{All, ℤ, pos, negsuc, ◌+ℤ◌, int_le}
use Rattle.std.specs.List.{list_any, list_all, flat_map, AllByRecursion}
use Rattle.std.proofs.lemmas.Bool.{false≢true, and_parts, and_from, eqb-true, eq-eqb}
use Rattle.std.proofs.lemmas.Int.{ints}
use Rattle.asp_model.specs.declared.program.Body.{Body}
use Rattle.asp_model.specs.declared.program.Body.TheVariants as body
use Rattle.asp_model.specs.declared.program.Head.{Head}
use Rattle.asp_model.specs.declared.program.Head.TheVariants as head
use Rattle.asp_model.specs.declared.program.Rule.{Rule}
use Rattle.asp_model.specs.declared.program.Program.{Program}
use Rattle.asp_model.specs.Sets.{Atoms, has, set_of, IsSubset}
use Rattle.asp_model.specs.Holding.{atom_of, body_holds, body_atoms}
use Rattle.asp_model.specs.Reduct.{reduct, reduct_heads, step}
use Rattle.asp_model.specs.Reading.{holds_between, weight_between, body_holds_between, derived_heads}
use Rattle.asp_model.specs.Models.{rules_in_force, atoms_of, least_model, head_atoms}
use Rattle.asp_model.specs.Sound.{IsSound}
use Rattle.asp_model.proofs.SetLaws.{has-set_of, IsAscending-set_of, same_from_has}
use Rattle.asp_model.proofs.MemberLaws.{HasAll, list_any-flat_map}
use Rattle.asp_model.proofs.StepLaws.{closed_from_step}
use Rattle.asp_model.proofs.ModelLaws.{least_model-least, least_model-ascends, same_bools}
use Rattle.asp_model.proofs.ReadingLaws.{step_read, same_body}
use Rattle.asp_model.proofs.ReductLaws.{rules_in_force-heads}
use Rattle.asp_vars.specs.Numbering.{normal, body_eq, bodies_of, place_of, var_of_atom, literal_of, nth_body}
use Rattle.asp_vars.specs.Tabled.{heads_of, Stands}
use Rattle.asp_vars.proofs.NumberingLaws.{same_body as equal_body, body_eq-itself}
use Rattle.asp_vars.proofs.NormalLaws.{body_holds_between-normal}
use Rattle.asp_vars.proofs.PlaceLaws.{place_of-within}
use Rattle.asp_vars.proofs.StandingLaws.{Among, each_among, rule_has_form, normal-stands, rules_in_force-bodies}
use Rattle.asp_vars.proofs.SupportLaws.{some, in_map, map_in, member, same_atom}
use Rattle.asp_loop.specs.LoopNogoods.{weight_where}
use Rattle.asp_loop.specs.Weighing.{weigh}
use Rattle.asp_loop.proofs.FoundedLaws.{has-filter}
use Rattle.asp_loop.proofs.EntailedLaws.{weight_less, reached}
use Rattle.asp_vars.proofs.SupportLaws.{at_form}
use Rattle.asp_loop.proofs.LoopLaws.{members}
use Rattle.asp_loop.proofs.WeightedLaws.{AreItems, form_items, nth_weighted, form_weighted, body_stands}
use Rattle.asp_found.specs.Marks.{is_marked, Shows, shown, lit_between, marks_hold, derive_by}
use Rattle.asp_found.specs.Derivings.{IsDeriving, AreDerived}
use Rattle.asp_found.specs.Verdicts.{is_kept, keeps}
use Rattle.asp_found.proofs.DeriveLaws.{all_derived}
use Rattle.asp_found.proofs.UnfoundedLaws.{body_fails}
use Rattle.asp_found.proofs.MarkLaws.{heads_small}

-- ---- marks and sets
lit_link : (p : Program) (S T : Atoms) (set marks : List Bool) (l : ℤ) → Shows p S set → Shows p T marks → has (atoms_of p) (atom_of l) ≡ true →
    lit_between set marks (literal_of p l) ≡ holds_between S T l
lit_link p S T set marks (pos a) s t stands = t a stands
lit_link p S T set marks (negsuc a) s t stands = ap not (s (suc a) stands)

pub marks_link : (p : Program) (S T : Atoms) (set marks : List Bool) (b : Body) → Shows p S set → Shows p T marks → Stands (atoms_of p) b → marks_hold p set marks b ≡ body_holds_between S T b
marks_link p S T set marks (body.All ls) s t stand = along ls stand
  where
    along : (ls : List ℤ) → AllByRecursion (λ l. has (atoms_of p) (atom_of l) ≡ true) ls → list_all (lit_between set marks) (map (literal_of p) ls) ≡ list_all (holds_between S T) ls
    along [] h = refl
    along (l ∷ ls) h =
        ap (λ b. b && list_all (lit_between set marks) (map (literal_of p) ls)) (lit_link p S T set marks l s t h.0) ∙ ap (λ b. holds_between S T l && b) (along ls h.1)
marks_link p S T set marks (body.AtLeast c items) s t stand = ap (int_le c) (along items stand)
  where
    along : (is : List (ℤ × ℤ)) → AllByRecursion (λ i. has (atoms_of p) (atom_of i.0) ≡ true) is →
        weigh (lit_between set marks) (map (λ i. literal_of p i.0) is) (map (λ i. i.1) is) ≡ weight_between S T is
    along [] h = refl
    along (i ∷ is) h =
        ap (λ b. cond b i.1 (pos 0) +ℤ weigh (lit_between set marks) (map (λ i. literal_of p i.0) is) (map (λ i. i.1) is)) (lit_link p S T set marks i.0 s t h.0)
        ∙ ap (λ w. cond (holds_between S T i.0) i.1 (pos 0) +ℤ w) (along is h.1)

pub has-shown : (p : Program) (marks : List Bool) (a : ℕ) → has (shown p marks) a ≡ (is_marked marks (var_of_atom p a) && has (atoms_of p) a)
has-shown p marks a = has-filter (λ a. is_marked marks (var_of_atom p a)) (atoms_of p) a

and_true : (a b : Bool) → b ≡ true → a ≡ (a && b)
and_true true b e = sym e
and_true false b e = refl

pub shown_shows : (p : Program) (marks : List Bool) → Shows p (shown p marks) marks
shown_shows p marks a stands = and_true (is_marked marks (var_of_atom p a)) (has (atoms_of p) a) stands ∙ sym (has-shown p marks a)

-- ---- more derived atoms
literal_more : (S T L : Atoms) (l : ℤ) → IsSubset T L → holds_between S T l ≡ true → holds_between S L l ≡ true
literal_more S T L (pos a) sub e = sub a e
literal_more S T L (negsuc a) sub e = e

body_more : (S T L : Atoms) (b : Body) → IsSubset T L → AreItems (form_items b) → body_holds_between S T b ≡ true → body_holds_between S L b ≡ true
body_more S T L (body.All ls) sub weighted e = along ls e
  where
    along : (ls : List ℤ) → list_all (holds_between S T) ls ≡ true → list_all (holds_between S L) ls ≡ true
    along [] e = refl
    along (l ∷ ls) e =
        let parts = and_parts (holds_between S T l) (list_all (holds_between S T) ls) e in
        and_from (holds_between S L l) (list_all (holds_between S L) ls) (literal_more S T L l sub parts.0) (along ls parts.1)
body_more S T L (body.AtLeast c items) sub weighted e =
    reached c (weight_between S T items) (weight_between S L items) e (let a = weight_less S T (holds_between S L) items weighted (each items) in let b = same items in omega (arith, ints, a, b))
  where
    each : (is : List (ℤ × ℤ)) → AllByRecursion (λ (i : ℤ × ℤ). holds_between S T i.0 ≡ true → holds_between S L i.0 ≡ true) is
    each [] = tt
    each (i ∷ is) = (literal_more S T L i.0 sub, each is)

    same : (is : List (ℤ × ℤ)) → weight_where (holds_between S L) is ≡ weight_between S L is
    same [] = refl
    same (i ∷ is) = ap (λ w. cond (holds_between S L i.0) i.1 (pos 0) +ℤ w) (same is)

-- ---- heads of a body
-- a rule for the atom with this body
in_heads : (p : Program) (b : Body) (a : ℕ) → has (atoms_of p) a ≡ true → has (heads_of p b) (var_of_atom p a) ≡ true → (r : Rule) ×
    Among (rules_in_force p) r × ((normal r.body ≡ b) × (has (head_atoms r.head) a ≡ true))
in_heads p b a stands e =
    let f : Rule → List ℕ = λ r. cond (body_eq (normal r.body) b) (head_atoms r.head) [] in
    let heads : List ℕ = flat_map f (rules_in_force p) in
    let found = in_map (λ c. has heads c ≡ true) (var_of_atom p) heads (var_of_atom p a) (members heads) e in
    let rule = some (λ r. Among (rules_in_force p) r × HasAll (atoms_of p) (head_atoms r.head)) (λ r. has (f r) found.0) (rules_in_force p)
    (both (rules_in_force p) (each_among (rules_in_force p)) (rules_in_force-heads p))
    (sym (list_any-flat_map (λ c. eqb c found.0) f (rules_in_force p)) ∙ found.1) in
    let parts = split rule.0 found.0 (body_eq (normal rule.0.body) b) refl rule.2 in
    let same : found.0 ≡ a = same_atom p found.0 a (member (atoms_of p) (head_atoms rule.0.head) found.0 rule.1.1 parts.1) stands found.2 in
    (rule.0, rule.1.0, (equal_body (normal rule.0.body) b parts.0, subst (λ (c : ℕ). has (head_atoms rule.0.head) c ≡ true) same parts.1))
  where
    both : (rs : List Rule) → AllByRecursion (Among (rules_in_force p)) rs →
        AllByRecursion (λ (r : Rule). HasAll (atoms_of p) (head_atoms r.head)) rs →
        AllByRecursion (λ (r : Rule). Among (rules_in_force p) r × HasAll (atoms_of p) (head_atoms r.head)) rs
    both [] h k = tt
    both (r ∷ rs) h k = ((h.0, k.0), both rs h.1 k.1)

    split : (r : Rule) (c : ℕ) (t : Bool) → t ≡ body_eq (normal r.body) b → has (cond (body_eq (normal r.body) b) (head_atoms r.head) []) c ≡ true →
        (body_eq (normal r.body) b ≡ true) × (has (head_atoms r.head) c ≡ true)
    split r c true q e = (sym q, ap (λ t. has (cond t (head_atoms r.head) []) c) q ∙ e)
    split r c false q e = absurd (false≢true (ap (λ t. has (cond t (head_atoms r.head) []) c) q ∙ e))

heads_have : (p : Program) (b : Body) (r : Rule) (a : ℕ) → Among (rules_in_force p) r → normal r.body ≡ b → has (head_atoms r.head) a ≡ true → has (heads_of p b) (var_of_atom p a) ≡ true
heads_have p b r a m same e =
    let f : Rule → List ℕ = λ r. cond (body_eq (normal r.body) b) (head_atoms r.head) [] in
    let fits : body_eq (normal r.body) b ≡ true = ap (body_eq (normal r.body)) (sym same) ∙ body_eq-itself (normal r.body) in
    map_in (var_of_atom p) (flat_map f (rules_in_force p)) a
    (list_any-flat_map (λ c. eqb c a) f (rules_in_force p) ∙ m (λ s. has (cond (body_eq (normal s.body) b) (head_atoms s.head) []) a) (ap (λ t. has (cond t (head_atoms r.head) []) a) fits ∙ e))

-- ---- each derivation is sound
fires : (p : Program) (S : Atoms) (set marks : List Bool) (found : List ℕ) (j a : ℕ) → IsSound p → j < length (bodies_of p) → Shows p S set →
    IsDeriving p set marks found → marks_hold p set marks (nth_body p j) ≡ true → has (heads_of p (nth_body p j)) (var_of_atom p a) ≡ true →
    is_marked set (var_of_atom p a) ≡ true → has (atoms_of p) a ≡ true → has (least_model p S) a ≡ true
fires p S set marks found j a sound lt shows h holds in_heads_ inside stands =
    let T : Atoms = shown p marks in
    let sub : IsSubset T (least_model p S) = λ c e. let parts =
    and_parts (is_marked marks (var_of_atom p c)) (has (atoms_of p) c) (sym (has-shown p marks c) ∙ e) in h.sound S shows c parts.1 parts.0 in
    let held : body_holds_between S (least_model p S) (nth_body p j) ≡ true =
    body_more S T (least_model p S) (nth_body p j) sub (nth_weighted p j sound lt)
    (sym (marks_link p S T set marks (nth_body p j) shows (shown_shows p marks) (body_stands p j lt)) ∙ holds) in
    let rule = in_heads p (nth_body p j) a stands in_heads_ in
    let in_set : has S a ≡ true = sym (shows a stands) ∙ inside in
    let held_rule : body_holds_between S (least_model p S) rule.0.body ≡ true =
    sym (body_holds_between-normal S (least_model p S) rule.0.body) ∙ ap (body_holds_between S (least_model p S)) rule.2.0 ∙ held in
    cases rule.0 rule.1 rule.2.1 in_set held_rule (has (least_model p S) a) refl
  where
    cases : (r : Rule) → Among (rules_in_force p) r → has (head_atoms r.head) a ≡ true → has S a ≡ true →
        body_holds_between S (least_model p S) r.body ≡ true → (t : Bool) → t ≡ has (least_model p S) a → has (least_model p S) a ≡ true
    cases r m in_head in_set held true q = sym q
    cases r m in_head in_set held false q = absurd (false≢true (sym (body_fails p S r a sound m in_head in_set (sym q)) ∙ held))

-- what a look at a body leaves
pub record Looked (p : Program) (set : List Bool) (s t : List Bool × List ℕ) (j : ℕ) : Type 0 where
  pub deriving_ : IsDeriving p set t.0 t.1
  pub grows : length s.1 ≤ length t.1
  pub kept : (v : ℕ) → is_marked s.0 v ≡ true → is_marked t.0 v ≡ true
  pub same : length t.1 ≡ length s.1 → t.0 ≡ s.0
  pub done : marks_hold p set s.0 (nth_body p j) ≡ true → (v : ℕ) → has (heads_of p (nth_body p j)) v ≡ true → is_marked set v ≡ true → is_marked t.0 v ≡ true

pub looked : (p : Program) (set : List Bool) (s t : List Bool × List ℕ) (j : ℕ) → IsSound p → j < length (bodies_of p) →
    All (λ v. v < length set) (heads_of p (nth_body p j)) → IsDeriving p set s.0 s.1 → t ≡ derive_by p set s j → Looked p set s t j
looked p set s t j sound lt heads h is = subst (λ (u : List Bool × List ℕ). Looked p set s u j) (sym is) (cases (marks_hold p set s.0 (nth_body p j)) refl)
  where
    cases : (b : Bool) → b ≡ marks_hold p set s.0 (nth_body p j) → Looked p set s (derive_by p set s j) j
    cases false q = rw (← q) record {
      deriving_ = h;
      grows = omega arith;
      kept = λ v e. e;
      same = λ e. refl;
      done = λ e. absurd (false≢true (q ∙ e));
    }
    cases true q =
        let d = all_derived set (heads_of p (nth_body p j)) s (λ k e l. let a = heads k e l in let z = h.size in omega (arith, a, z)) in
        let full = d.room in let before = h.room in
        rw (← q) record {
          deriving_ = record {
            size = d.size ∙ h.size;
            within = λ v e. elim (d.new v e) [ inl old ↦ h.within v old | inr new ↦ new.1 ];
            sound = λ S shows a stands e. elim (d.new (var_of_atom p a) e) [
              | inl old ↦ h.sound S shows a stands old
              | inr new ↦ fires p S set s.0 s.1 j a sound lt shows h (sym q) new.0 new.1 stands
            ];
            room = full ∙ before;
          };
          grows = d.grows;
          kept = d.kept;
          same = d.same;
          done = λ e. d.done;
        }

-- ---- a sweep
pub record Sweeping (p : Program) (set : List Bool) (start : List ℕ) (marks : List Bool) (found : List ℕ) (j : ℕ) : Type 0 where
  pub deriving_ : IsDeriving p set marks found
  pub grows : length start ≤ length found
  pub closed : length found ≡ length start → AreDerived p set marks j

pub sweep_more : (p : Program) (set : List Bool) (start : List ℕ) (s t : List Bool × List ℕ) (j : ℕ) → Looked p set s t j → Sweeping p set start s.0 s.1 j → Sweeping p set start t.0 t.1 (j + 1)
sweep_more p set start s t j k h =
    let a = h.grows in let b = k.grows in
    record {
      deriving_ = k.deriving_;
      grows = omega (arith, a, b);
      closed = λ e.
          let unmoved : length t.1 ≡ length s.1 = omega (arith, a, b, e) in
          let before : length s.1 ≡ length start = omega (arith, a, b, e) in
          let marks : t.0 ≡ s.0 = k.same unmoved in
          λ i lt holds v in_ inside. cases i lt (ap (λ m. marks_hold p set m (nth_body p i)) (sym marks) ∙ holds) v in_ inside marks (h.closed before) (eqb i j) refl;
    }
  where
    cases : (i : ℕ) → i < j + 1 → marks_hold p set s.0 (nth_body p i) ≡ true → (v : ℕ) → has (heads_of p (nth_body p i)) v ≡ true →
        is_marked set v ≡ true → t.0 ≡ s.0 → AreDerived p set s.0 j → (b : Bool) → b ≡ eqb i j → is_marked t.0 v ≡ true
    cases i lt holds v in_ inside marks before true q =
        let same : i ≡ j = eqb-true i j (sym q) in
        k.done (ap (λ n. marks_hold p set s.0 (nth_body p n)) (sym same) ∙ holds) v (ap (λ n. has (heads_of p (nth_body p n)) v) (sym same) ∙ in_) inside
    cases i lt holds v in_ inside marks before false q =
        let other : i ≡ j → ⊥ = λ z. false≢true (q ∙ eq-eqb i j z) in
        k.kept v (before i (omega arith) holds v in_ inside)

-- ---- the end
kept_in : (S : Atoms) (h : Head) (a : ℕ) → has (reduct_heads S h) a ≡ true → is_kept S h ≡ true → has S a ≡ true
kept_in S (head.One b) a e k = cases (eqb b a) refl
  where
    cases : (t : Bool) → t ≡ eqb b a → has S a ≡ true
    cases true q = subst (λ (x : ℕ). has S x ≡ true) (eqb-true b a (sym q)) k
    cases false q = absurd (false≢true (ap (λ t. t || false) q ∙ e))
kept_in S (head.Choice atoms) a e k = (and_parts (has S a) (has atoms a) (sym (has-filter (has S) atoms a) ∙ e)).0
kept_in S head.Never a e k = absurd (false≢true e)

in_head : (S : Atoms) (h : Head) (a : ℕ) → has (reduct_heads S h) a ≡ true → has (head_atoms h) a ≡ true
in_head S (head.One b) a e = e
in_head S (head.Choice atoms) a e = (and_parts (has S a) (has atoms a) (sym (has-filter (has S) atoms a) ∙ e)).1
in_head S head.Never a e = e

derived_by : (S T : Atoms) (r : Rule) (a : ℕ) → has (derived_heads S T r) a ≡ true → (body_holds_between S T r.body ≡ true) × (has (reduct_heads S r.head) a ≡ true)
derived_by S T r a e = cases (body_holds_between S T r.body) refl
  where
    cases : (b : Bool) → b ≡ body_holds_between S T r.body → (body_holds_between S T r.body ≡ true) × (has (reduct_heads S r.head) a ≡ true)
    cases true q = (sym q, ap (λ b. has (cond b (reduct_heads S r.head) []) a) q ∙ e)
    cases false q = absurd (false≢true (ap (λ b. has (cond b (reduct_heads S r.head) []) a) q ∙ e))

implied : (a b : Bool) → (not a || b) ≡ true → a ≡ true → b ≡ true
implied true b e f = e
implied false b e f = absurd (false≢true f)

each_passes : {X : Type 0} (q : X → Bool) (xs : List X) → list_all q xs ≡ true → AllByRecursion (λ x. q x ≡ true) xs
each_passes q [] e = tt
each_passes q (x ∷ xs) e = let parts = and_parts (q x) (list_all q xs) e in (parts.0, each_passes q xs parts.1)

-- the facts of each rule
record Sure (p : Program) (S : Atoms) (r : Rule) : Type 0 where
  pub among : Among (rules_in_force p) r
  pub heads : HasAll (atoms_of p) (head_atoms r.head)
  pub bodies : HasAll (atoms_of p) (body_atoms r.body)
  pub kept : keeps S r ≡ true

sure : (p : Program) (S : Atoms) → list_all (keeps S) (rules_in_force p) ≡ true → AllByRecursion (Sure p S) (rules_in_force p)
sure p S kept = joined (rules_in_force p) (each_among (rules_in_force p)) (rules_in_force-heads p) (rules_in_force-bodies p) (each_passes (keeps S) (rules_in_force p) kept)
  where
    joined : (rs : List Rule) → AllByRecursion (Among (rules_in_force p)) rs →
        AllByRecursion (λ (r : Rule). HasAll (atoms_of p) (head_atoms r.head)) rs →
        AllByRecursion (λ (r : Rule). HasAll (atoms_of p) (body_atoms r.body)) rs → AllByRecursion (λ r. keeps S r ≡ true) rs →
        AllByRecursion (Sure p S) rs
    joined [] a h b k = tt
    joined (r ∷ rs) a h b k = (record { among = a.0; heads = h.0; bodies = b.0; kept = k.0 }, joined rs a.1 h.1 b.1 k.1)

least_within : (p : Program) (S : Atoms) (set marks : List Bool) (found : List ℕ) → IsSound p → list_all (keeps S) (rules_in_force p) ≡ true →
    Shows p S set → IsDeriving p set marks found → AreDerived p set marks (length (bodies_of p)) → IsSubset (least_model p S) (shown p marks)
least_within p S set marks found sound kept shows h closed =
    least_model-least p S T sound (closed_from_step (reduct S (rules_in_force p)) T step_in)
  where
    T : Atoms
    T = shown p marks

    in_S : IsSubset (shown p marks) S
    in_S a e =
        let parts = and_parts (is_marked marks (var_of_atom p a)) (has (atoms_of p) a) (sym (has-shown p marks a) ∙ e) in
        sym (shows a parts.1) ∙ h.within (var_of_atom p a) parts.0

    step_in : IsSubset (step (reduct S (rules_in_force p)) (shown p marks)) (shown p marks)
    step_in a e =
        let rule = some (Sure p S) (λ r. has (derived_heads S (shown p marks) r) a) (rules_in_force p) (sure p S kept)
        (sym (list_any-flat_map (λ b. eqb b a) (derived_heads S (shown p marks)) (rules_in_force p))
        ∙ sym (has-set_of (flat_map (derived_heads S (shown p marks)) (rules_in_force p)) a)
        ∙ sym (ap (λ U. has U a) (step_read S (shown p marks) (rules_in_force p))) ∙ e) in
        let derived = derived_by S (shown p marks) rule.0 a rule.2 in
        let form : Body = normal rule.0.body in
        let listed : list_any (body_eq form) (bodies_of p) ≡ true = rule_has_form p rule.0 rule.1.among in
        let j : ℕ = place_of (body_eq form) (bodies_of p) in
        let at : nth_body p j ≡ form = at_form form (bodies_of p) (body.All []) listed in
        let between : body_holds_between S (shown p marks) form ≡ true = body_holds_between-normal S (shown p marks) rule.0.body ∙ derived.0 in
        let in_set : body_holds S rule.0.body ≡ true =
        sym (same_body S rule.0.body) ∙ sym (body_holds_between-normal S S rule.0.body)
        ∙ body_more S (shown p marks) S form in_S (form_weighted p rule.0 sound rule.1.among) between in
        let member_ : has S a ≡ true = kept_in S rule.0.head a derived.1 (implied (body_holds S rule.0.body) (is_kept S rule.0.head) rule.1.kept in_set) in
        let head_ : has (head_atoms rule.0.head) a ≡ true = in_head S rule.0.head a derived.1 in
        let stands : has (atoms_of p) a ≡ true = member (atoms_of p) (head_atoms rule.0.head) a rule.1.heads head_ in
        let held : marks_hold p set marks (nth_body p j) ≡ true =
        ap (marks_hold p set marks) at ∙ marks_link p S (shown p marks) set marks form shows (shown_shows p marks)
        (normal-stands (atoms_of p) rule.0.body rule.1.bodies) ∙ between in
        let heads : has (heads_of p (nth_body p j)) (var_of_atom p a) ≡ true = ap (λ b. has (heads_of p b) (var_of_atom p a)) at ∙ heads_have p form rule.0 a rule.1.among refl head_ in
        let marked_ : is_marked marks (var_of_atom p a) ≡ true = closed j (place_of-within (body_eq form) (bodies_of p) listed) held (var_of_atom p a) heads (shows a stands ∙ member_) in
        has-shown p marks a ∙ and_from (is_marked marks (var_of_atom p a)) (has (atoms_of p) a) marked_ stands

pub least_is : (p : Program) (S : Atoms) (set marks : List Bool) (found : List ℕ) → IsSound p → list_all (keeps S) (rules_in_force p) ≡ true →
    Shows p S set → IsDeriving p set marks found → AreDerived p set marks (length (bodies_of p)) → set_of (shown p marks) ≡ least_model p S
least_is p S set marks found sound kept shows h closed =
    same_from_has (set_of (shown p marks)) (least_model p S) (IsAscending-set_of (shown p marks)) (least_model-ascends p S) (λ a.
    has-set_of (shown p marks) a ∙ same_bools (has (shown p marks) a) (has (least_model p S) a) (derived a) (least_within p S set marks found sound kept shows h closed a))
  where
    derived : (a : ℕ) → has (shown p marks) a ≡ true → has (least_model p S) a ≡ true
    derived a e =
        let parts = and_parts (is_marked marks (var_of_atom p a)) (has (atoms_of p) a) (sym (has-shown p marks a) ∙ e) in
        h.sound S shows a parts.1 parts.0

-- ---- the beginning
-- ---- what the calls hand on
pub looks : (p : Program) (set marks marks' : List Bool) (found found' : List ℕ) (j : ℕ) → IsSound p → j < length (bodies_of p) →
    length (atoms_of p) < length set → IsDeriving p set marks found → (marks', found') ≡ derive_by p set (marks, found) j →
    Looked p set (marks, found) (marks', found') j
looks p set marks marks' found found' j sound lt size h is =
    looked p set (marks, found) (marks', found') j sound lt (heads_small p (nth_body p j) (length set) size) h is

-- the marks of a list that was lent whole
pub written_back : (new old : List Bool) (n : ℕ) → n ≡ length old → length new ≡ length old → take n (new ++ drop (length new) old) ≡ new
written_back new old n whole same = ap (λ k. take k (new ++ drop (length new) old)) (whole ∙ sym same) ∙ front new (drop (length new) old)
  where
    front : (xs zs : List Bool) → take (length xs) (xs ++ zs) ≡ xs
    front [] zs = refl
    front (x ∷ xs) zs = ap (λ ys. x ∷ ys) (front xs zs)
