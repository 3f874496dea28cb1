-- What is left of candidates that settled is unfounded.
use Rattle.std.proofs.Common.{◌≡◌, ℕ, ◌+◌, ◌-◌, Bool, true, false, not, cond, ◌&&◌, ◌||◌, eqb, List, [], ◌∷◌, get_or, Option, refl, sym, ap, ◌∙◌, subst, arith, inl, inr}
use Rattle.std.specs.List.{list_any}
use Rattle.std.proofs.lemmas.Bool.{false≢true, and_parts, and_from, eqb-true, eq-eqb}
use Rattle.asp_model.specs.declared.program.Body.{Body}
use Rattle.asp_model.specs.declared.program.Rule.{Rule}
use Rattle.asp_model.specs.declared.program.Program.{Program}
use Rattle.asp_model.specs.Sets.{has, IsSubset}
use Rattle.asp_model.specs.Models.{rules_in_force, atoms_of, head_atoms}
use Rattle.asp_model.specs.Sound.{IsSound}
use Rattle.asp_model.proofs.MemberLaws.{list_any-flat_map}
use Rattle.asp_vars.specs.Literals.{F, holds_in}
use Rattle.asp_vars.specs.Numbering.{normal, body_eq, bodies_of, var_of_atom, number_of_form, nth_atom}
use Rattle.asp_vars.specs.Completion.{supports}
use Rattle.asp_vars.specs.Unfounded.{is_excused}
use Rattle.asp_vars.proofs.NumberingLaws.{body_eq-itself}
use Rattle.asp_vars.proofs.StandingLaws.{Among, rule_has_form}
use Rattle.asp_vars.proofs.SupportLaws.{form_at-number, some, or_left, form_in}
use Rattle.asp_scc.specs.Components.{Parts, component_of, Stands, AreComponents, IsAlone}
use Rattle.asp_loop.specs.Parts.{form_of}
use Rattle.asp_loop.proofs.EntailedLaws.{any_of}
use Rattle.asp_loop.proofs.LoopLaws.{members}
use Rattle.asp_loop.proofs.WeightedLaws.{form_weighted}
use Rattle.asp_source.specs.Loops.{IsTrivial}
use Rattle.asp_source.specs.Marks.{is_marked, shown, is_founded, is_dropped, atom_if, atoms_at}
use Rattle.asp_source.specs.Loops.{IsFound}
use Rattle.asp_source.specs.Founding.{AreStuck}
use Rattle.asp_source.specs.Pointers.{AreCandidates}
use Rattle.asp_source.proofs.BodyLaws.{has-shown}
use Rattle.asp_source.proofs.LooseLaws.{excused_more, atom_of_var}
use Rattle.asp_source.proofs.LookLaws.{at_member, var_at, atom_stands, unfounded_from, none_of, not_false_true, and_false}

-- what holds of a candidate that is left
pub record IsLeftAt (p : Program) (c : Parts) (x : List (Option Bool)) (k : ℕ) (l : List Bool) (places : List ℕ) (a : ℕ) : Type 0 where
  pub stands : Stands p a
  pub at : component_of p c a ≡ k
  pub not_false : holds_in x (F (var_of_atom p a)) ≡ false
  pub place : ℕ
  pub there : has places place ≡ true
  pub var : var_of_atom p a ≡ place + 1
  pub marked : is_marked l (place + 1) ≡ true

place_left : (p : Program) (c : Parts) (x : List (Option Bool)) (k : ℕ) (s : List ℕ) (l : List Bool) (places : List ℕ) (i : ℕ) →
    AreCandidates p c x k s l → has places i ≡ true → is_marked l (i + 1) ≡ true → IsLeftAt p c x k l places (nth_atom p i)
place_left p c x k s l places i h there marked =
    let is = h.atoms (i + 1) marked in
    let same : var_of_atom p (nth_atom p i) ≡ i + 1 = ap (λ n. var_of_atom p (nth_atom p n)) (omega arith) ∙ var_at p (i + 1) is in
    record {
      stands = ap (λ n. has (atoms_of p) (nth_atom p n)) (omega arith) ∙ atom_stands p (i + 1) is;
      at = ap (λ w. get_or c.numbers w 0) same ∙ h.at (i + 1) marked;
      not_false = ap (λ w. holds_in x (F w)) same ∙ h.not_false (i + 1) marked;
      place = i;
      there = there;
      var = same;
      marked = marked;
    }

to_atoms : (p : Program) (l : List Bool) (places : List ℕ) (i : ℕ) → has places i ≡ true → is_marked l (i + 1) ≡ true → has (atoms_at p l places) (nth_atom p i) ≡ true
to_atoms p l places i there marked =
    list_any-flat_map (λ b. eqb b (nth_atom p i)) (λ k. atom_if p l (k + 1)) places
    ∙ any_of (λ k. has (atom_if p l (k + 1)) (nth_atom p i)) places i there
    (ap (λ t. has (cond t (nth_atom p (i + 1 - 1) ∷ []) []) (nth_atom p i)) marked
    ∙ or_left (eqb (nth_atom p (i + 1 - 1)) (nth_atom p i)) false
    (eq-eqb (nth_atom p (i + 1 - 1)) (nth_atom p i) (ap (nth_atom p) (omega arith))))

atom_left : (p : Program) (c : Parts) (x : List (Option Bool)) (k : ℕ) (s : List ℕ) (l : List Bool) (places : List ℕ) (a : ℕ) →
    AreCandidates p c x k s l → has (atoms_at p l places) a ≡ true → IsLeftAt p c x k l places a
atom_left p c x k s l places a h e =
    let found = some (λ i. has places i ≡ true) (λ i. has (atom_if p l (i + 1)) a) places (members places) (sym (list_any-flat_map (λ b. eqb b a) (λ k. atom_if p l (k + 1)) places) ∙ e) in
    cases found.0 found.1 (is_marked l (found.0 + 1)) refl found.2
  where
    plain : (b : Bool) → (b || false) ≡ true → b ≡ true
    plain true e = refl
    plain false e = e

    cases : (i : ℕ) → has places i ≡ true → (b : Bool) → b ≡ is_marked l (i + 1) → has (cond (is_marked l (i + 1)) (nth_atom p (i + 1 - 1) ∷ []) []) a ≡ true → IsLeftAt p c x k l places a
    cases i there true q f =
        let is : nth_atom p (i + 1 - 1) ≡ a = eqb-true (nth_atom p (i + 1 - 1)) a (plain (eqb (nth_atom p (i + 1 - 1)) a) (ap (λ t. has (cond t (nth_atom p (i + 1 - 1) ∷ []) []) a) q ∙ f)) in
        subst (λ (b : ℕ). IsLeftAt p c x k l places b) (ap (nth_atom p) (omega arith) ∙ is) (place_left p c x k s l places i h there (sym q))
    cases i there false q f = absurd (false≢true (ap (λ t. has (cond t (nth_atom p (i + 1 - 1) ∷ []) []) a) q ∙ f))

left_excused : (p : Program) (c : Parts) (x : List (Option Bool)) (k : ℕ) (s : List ℕ) (l : List Bool) (places : List ℕ) (r : Rule) (a : ℕ) →
    IsSound p → AreCandidates p c x k s l → ((v : ℕ) → is_marked l v ≡ true → has places (v - 1) ≡ true) → AreStuck p x l places →
    IsLeftAt p c x k l places a → Among (rules_in_force p) r → has (head_atoms r.head) a ≡ true →
    is_excused p x (atoms_at p l places) (normal r.body) ≡ true
left_excused p c x k s l places r a sound h listed stuck left m head =
    let v : ℕ = left.place + 1 in
    let unfounded : is_founded p x (shown p (is_marked l)) (nth_atom p (v - 1)) ≡ false =
    and_false (is_marked l v) (is_founded p x (shown p (is_marked l)) (nth_atom p (v - 1)))
    (at_member (λ i. is_dropped p x l (i + 1) ≡ false) places left.place stuck left.there) left.marked in
    let none : is_founded p x (shown p (is_marked l)) a ≡ false = ap (is_founded p x (shown p (is_marked l))) (sym (atom_of_var p a v left.stands left.var)) ∙ unfounded in
    let b : Body = normal r.body in
    let test : Body → Bool = λ d. list_any (λ (s : Rule). has (head_atoms s.head) a && body_eq (normal s.body) d) (rules_in_force p) in
    let known = rule_has_form p r m in
    let passes : test b ≡ true = m (λ s. has (head_atoms s.head) a && body_eq (normal s.body) b) (and_from (has (head_atoms r.head) a) (body_eq b b) head (body_eq-itself b)) in
    let supported : has (supports p a) (number_of_form p b) ≡ true = form_in p test b (bodies_of p) known passes in
    let excused : is_excused p x (shown p (is_marked l)) b ≡ true =
    ap (is_excused p x (shown p (is_marked l))) (sym (form_at-number p b known))
    ∙ not_false_true (is_excused p x (shown p (is_marked l)) (form_of p (number_of_form p b)))
    (none_of (λ w. not (is_excused p x (shown p (is_marked l)) (form_of p w))) (supports p a) (number_of_form p b) none supported) in
    excused_more p x (shown p (is_marked l)) (atoms_at p l places) b within (form_weighted p r sound m) excused
  where
    within : IsSubset (shown p (is_marked l)) (atoms_at p l places)
    within d e =
        let parts = and_parts (is_marked l (var_of_atom p d)) (has (atoms_of p) d) (sym (has-shown p (is_marked l) d) ∙ e) in
        let some_ = (h.atoms (var_of_atom p d) parts.0).0 in
        subst (λ (w : ℕ). has (atoms_at p l places) w ≡ true) (atom_of_var p d (var_of_atom p d) parts.1 refl)
        (to_atoms p l places (var_of_atom p d - 1) (listed (var_of_atom p d) parts.0) (ap (is_marked l) (omega (arith, some_)) ∙ parts.0))

pub left_found : (p : Program) (c : Parts) (x : List (Option Bool)) (k : ℕ) (s : List ℕ) (l : List Bool) (places : List ℕ) (v : ℕ) → IsSound p →
    AreComponents p c → get_or c.trivial k false ≡ false → AreCandidates p c x k s l → ((u : ℕ) → is_marked l u ≡ true → has places (u - 1) ≡ true) →
    AreStuck p x l places → is_marked l v ≡ true → IsFound p x (atoms_at p l places) (nth_atom p (v - 1))
left_found p c x k s l places v sound are cyclic h listed stuck marked =
    let left : (a : ℕ) → has (atoms_at p l places) a ≡ true → IsLeftAt p c x k l places a = λ a e. atom_left p c x k s l places a h e in
    let some_ = (h.atoms v marked).0 in
    let member = to_atoms p l places (v - 1) (listed v marked) (ap (is_marked l) (omega (arith, some_)) ∙ marked) in
    record {
      loop = record {
        stand = λ a e. (left a e).stands;
        joined = λ a b e f. (are.same a b (left a e).stands (left b f).stands).0 ((left a e).at ∙ sym (left b f).at);
        cyclic = λ a e alone. false≢true (sym cyclic ∙ (ap (λ i. get_or c.trivial i false) (sym (left a e).at) ∙ (are.trivial a (left a e).stands).1 (is_alone a (left a e).stands alone)));
        not_false = λ a e. (left a e).not_false;
        unfounded = unfounded_from p x (atoms_at p l places) (nth_atom p (v - 1)) member (λ r b m head e. left_excused p c x k s l places r b sound h listed stuck (left b e) m head);
      };
      member = member;
    }
  where
    is_alone : (a : ℕ) → Stands p a → IsTrivial p a → IsAlone p c a
    is_alone a stands alone = record {
      only = λ b sb e. elim ((are.same b a sb stands).0 e) [
        | inl same ↦ same
        | inr l ↦ alone.only b sb (l.1, l.0)
      ];
      acyclic = alone.acyclic;
    }
