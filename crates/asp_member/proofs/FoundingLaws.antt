-- What is derived of a set is founded.
use Rattle.std.proofs.Common.{◌≡◌, ℕ, suc, ◌<◌, Bool, true, false, not, cond, ◌&&◌, ◌||◌, eqb, List, [], ◌∷◌, map, length, Option, Some, None, refl, sym, ap, ◌∙◌, subst, inl, inr}
use Rattle.std.specs.Prelude.{ℤ, pos, negsuc, ◌+ℤ◌, int_le, is_none}
use Rattle.std.specs.List.{list_all, flat_map, AllByRecursion}
use Rattle.std.proofs.lemmas.Bool.{false≢true, and_parts, and_from}
use Rattle.asp_model.specs.declared.program.Body.{Body}
use Rattle.asp_model.specs.declared.program.Body.TheVariants as body
use Rattle.asp_model.specs.declared.program.Head.{Head}
use Rattle.asp_model.specs.declared.program.Head.TheVariants as head
use Rattle.asp_model.specs.declared.program.Rule.{Rule}
use Rattle.asp_model.specs.declared.program.Program.{Program}
use Rattle.asp_model.specs.Sets.{Atoms, has, IsSubset}
use Rattle.asp_model.specs.Holding.{atom_of}
use Rattle.asp_model.specs.Reduct.{reduct, reduct_heads, step}
use Rattle.asp_model.specs.Reading.{holds_between, weight_between, body_holds_between, derived_heads}
use Rattle.asp_model.specs.Models.{rules_in_force, atoms_of, least_model, head_atoms}
use Rattle.asp_model.specs.Sound.{IsSound}
use Rattle.asp_model.proofs.SetLaws.{has-set_of}
use Rattle.asp_model.proofs.MemberLaws.{HasAll, list_any-flat_map}
use Rattle.asp_model.proofs.StepLaws.{step-subset}
use Rattle.asp_model.proofs.ModelLaws.{least_model-derived, monotone}
use Rattle.asp_model.proofs.ReadingLaws.{step_read}
use Rattle.asp_model.proofs.ReductLaws.{rules_in_force-heads}
use Rattle.asp_vars.specs.Literals.{Literal, T, F, agrees, holds_in}
use Rattle.asp_vars.specs.Numbering.{normal, body_eq, bodies_of, nth_body, nth_rule, place_of_body, var_of_atom, literal_of}
use Rattle.asp_vars.specs.Tabled.{bound_of, form_literals, form_weights, heads_of, Stands}
use Rattle.asp_vars.proofs.NumberingLaws.{same_body as equal_body}
use Rattle.asp_vars.proofs.NormalLaws.{body_holds_between-normal}
use Rattle.asp_vars.proofs.StandingLaws.{Among, each_among, each_both}
use Rattle.asp_vars.proofs.SupportLaws.{some, in_map, member, same_atom}
use Rattle.asp_loop.specs.Weighing.{weigh}
use Rattle.asp_loop.proofs.FoundedLaws.{has-filter}
use Rattle.asp_vars.proofs.SupportLaws.{body_of_nth_rule}
use Rattle.asp_loop.proofs.LoopLaws.{members}
use Rattle.asp_loop.proofs.WeightedLaws.{body_stands}
use Rattle.asp_found.specs.Verdicts.{is_kept}
use Rattle.asp_member.specs.Founding.{passes, derived, AreFounded, Derives, Founds, keeps}

-- ---- values
pub not_both : (o : Option Bool) (v : ℕ) → agrees o (T v) ≡ true → agrees o (F v) ≡ true → ⊥
not_both None v e f = false≢true e
not_both (Some true) v e f = false≢true f
not_both (Some false) v e f = false≢true e

pub some_true : (o : Option Bool) (v : ℕ) → is_none o ≡ false → agrees o (F v) ≡ false → agrees o (T v) ≡ true
some_true None v e f = absurd (false≢true (sym e))
some_true (Some true) v e f = refl
some_true (Some false) v e f = absurd (false≢true (sym f))

pub some_value : (o : Option Bool) (l : Literal) → agrees o l ≡ true → is_none o ≡ false
some_value None l e = absurd (false≢true e)
some_value (Some b) l e = refl

is_in : (b : Bool) → not b ≡ false → b ≡ true
is_in true e = refl
is_in false e = absurd (false≢true (sym e))

-- ---- bodies by what is derived
and_last : (a b : Bool) → b ≡ true → (a && b) ≡ a
and_last true b e = e
and_last false b e = refl

pub has-derived : (p : Program) (x : List (Option Bool)) (a : ℕ) → has (atoms_of p) a ≡ true → has (derived p x) a ≡ holds_in x (T (var_of_atom p a))
has-derived p x a stands =
    has-filter (λ c. holds_in x (T (var_of_atom p c))) (atoms_of p) a ∙ and_last (holds_in x (T (var_of_atom p a))) (has (atoms_of p) a) stands

literal_link : (p : Program) (S : Atoms) (x : List (Option Bool)) (l : ℤ) → AreFounded p S x → has (atoms_of p) (atom_of l) ≡ true → holds_in x (literal_of p l) ≡ holds_between S (derived p x) l
literal_link p S x (pos a) h stands = sym (has-derived p x a stands)
literal_link p S x (negsuc a) h stands = h.outside (suc a) stands

pub body_link : (p : Program) (S : Atoms) (x : List (Option Bool)) (b : Body) → AreFounded p S x → Stands (atoms_of p) b → passes p (holds_in x) b ≡ body_holds_between S (derived p x) b
body_link p S x (body.All ls) h stand = along ls stand
  where
    along : (ls : List ℤ) → AllByRecursion (λ l. has (atoms_of p) (atom_of l) ≡ true) ls → list_all (holds_in x) (map (literal_of p) ls) ≡ list_all (holds_between S (derived p x)) ls
    along [] s = refl
    along (l ∷ ls) s =
        ap (λ b. b && list_all (holds_in x) (map (literal_of p) ls)) (literal_link p S x l h s.0) ∙ ap (λ b. holds_between S (derived p x) l && b) (along ls s.1)
body_link p S x (body.AtLeast c items) h stand = ap (int_le c) (along items stand)
  where
    along : (is : List (ℤ × ℤ)) → AllByRecursion (λ i. has (atoms_of p) (atom_of i.0) ≡ true) is →
        weigh (holds_in x) (map (λ i. literal_of p i.0) is) (map (λ i. i.1) is) ≡ weight_between S (derived p x) is
    along [] s = refl
    along (i ∷ is) s =
        ap (λ b. cond b i.1 (pos 0) +ℤ weigh (holds_in x) (map (λ i. literal_of p i.0) is) (map (λ i. i.1) is)) (literal_link p S x i.0 h s.0)
        ∙ ap (λ w. cond (holds_between S (derived p x) i.0) i.1 (pos 0) +ℤ w) (along is s.1)

pub passes_weighted : (p : Program) (q : Literal → Bool) (b : Body) (c : ℤ) → bound_of b ≡ Some c → int_le c (weigh q (form_literals p b) (form_weights b)) ≡ passes p q b
passes_weighted p q (body.All ls) c e = cc e
passes_weighted p q (body.AtLeast bound items) c e =
    let same : bound ≡ c = cc e in
    ap (λ n. int_le n (weigh q (form_literals p (body.AtLeast bound items)) (form_weights (body.AtLeast bound items)))) (sym same)

-- ---- a rule whose body holds so derives its heads
pub steps_to : (p : Program) (S D : Atoms) (r : Rule) (a : ℕ) → Among (rules_in_force p) r → body_holds_between S D r.body ≡ true →
    has (reduct_heads S r.head) a ≡ true → has (step (reduct S (rules_in_force p)) D) a ≡ true
steps_to p S D r a m held in_head =
    ap (λ U. has U a) (step_read S D (rules_in_force p))
    ∙ has-set_of (flat_map (derived_heads S D) (rules_in_force p)) a
    ∙ list_any-flat_map (λ b. eqb b a) (derived_heads S D) (rules_in_force p)
    ∙ m (λ s. has (derived_heads S D s) a) (ap (λ t. has (cond t (reduct_heads S r.head) []) a) held ∙ in_head)

pub in_least : (p : Program) (S D : Atoms) (a : ℕ) → IsSound p → IsSubset D (least_model p S) → has (step (reduct S (rules_in_force p)) D) a ≡ true → has (least_model p S) a ≡ true
in_least p S D a sound sub e =
    ap (λ U. has U a) (sym (least_model-derived p S sound)) ∙ step-subset (reduct S (rules_in_force p)) D (least_model p S) (monotone p S sound) sub a e

pub within_least : (p : Program) (S : Atoms) (x : List (Option Bool)) → AreFounded p S x → IsSubset (derived p x) (least_model p S)
within_least p S x h a e =
    let parts = and_parts (holds_in x (T (var_of_atom p a))) (has (atoms_of p) a) (sym (has-filter (λ c. holds_in x (T (var_of_atom p c))) (atoms_of p) a) ∙ e) in
    h.founded a parts.1 parts.0

kept_head : (S : Atoms) (h : Head) (a : ℕ) → has (head_atoms h) a ≡ true → has S a ≡ true → has (reduct_heads S h) a ≡ true
kept_head S (head.One b) a e in_set = e
kept_head S (head.Choice atoms) a e in_set = has-filter (has S) atoms a ∙ and_from (has S a) (has atoms a) in_set e
kept_head S head.Never a e in_set = e

-- a rule for the atom with this body
in_heads : (p : Program) (b : Body) (a : ℕ) → has (atoms_of p) a ≡ true → has (heads_of p b) (var_of_atom p a) ≡ true → (r : Rule) ×
    Among (rules_in_force p) r × ((normal r.body ≡ b) × (has (head_atoms r.head) a ≡ true))
in_heads p b a stands e =
    let f : Rule → List ℕ = λ r. cond (body_eq (normal r.body) b) (head_atoms r.head) [] in
    let heads : List ℕ = flat_map f (rules_in_force p) in
    let found = in_map (λ c. has heads c ≡ true) (var_of_atom p) heads (var_of_atom p a) (members heads) e in
    let rule = some (λ r. Among (rules_in_force p) r × HasAll (atoms_of p) (head_atoms r.head)) (λ r. has (f r) found.0) (rules_in_force p)
    (each_both (Among (rules_in_force p)) (λ r. HasAll (atoms_of p) (head_atoms r.head)) (rules_in_force p) (each_among (rules_in_force p)) (rules_in_force-heads p))
    (sym (list_any-flat_map (λ c. eqb c found.0) f (rules_in_force p)) ∙ found.1) in
    let parts = split rule.0 found.0 (body_eq (normal rule.0.body) b) refl rule.2 in
    let same : found.0 ≡ a = same_atom p found.0 a (member (atoms_of p) (head_atoms rule.0.head) found.0 rule.1.1 parts.1) stands found.2 in
    (rule.0, rule.1.0, (equal_body (normal rule.0.body) b parts.0, subst (λ (c : ℕ). has (head_atoms rule.0.head) c ≡ true) same parts.1))
  where
    split : (r : Rule) (c : ℕ) (t : Bool) → t ≡ body_eq (normal r.body) b → has (cond (body_eq (normal r.body) b) (head_atoms r.head) []) c ≡ true →
        (body_eq (normal r.body) b ≡ true) × (has (head_atoms r.head) c ≡ true)
    split r c true q e = (sym q, ap (λ t. has (cond t (head_atoms r.head) []) c) q ∙ e)
    split r c false q e = absurd (false≢true (ap (λ t. has (cond t (head_atoms r.head) []) c) q ∙ e))

fires : (p : Program) (S : Atoms) (x : List (Option Bool)) (j a : ℕ) → IsSound p → j < length (bodies_of p) → AreFounded p S x →
    passes p (holds_in x) (nth_body p j) ≡ true → has (heads_of p (nth_body p j)) (var_of_atom p a) ≡ true → has (atoms_of p) a ≡ true →
    has S a ≡ true → has (least_model p S) a ≡ true
fires p S x j a sound lt h holds e stands in_set =
    let rule = in_heads p (nth_body p j) a stands e in
    let held : body_holds_between S (derived p x) rule.0.body ≡ true =
    sym (body_holds_between-normal S (derived p x) rule.0.body) ∙ ap (body_holds_between S (derived p x)) rule.2.0 ∙ sym (body_link p S x (nth_body p j) h (body_stands p j lt)) ∙ holds in
    in_least p S (derived p x) a sound (within_least p S x h) (steps_to p S (derived p x) rule.0 a rule.1 held (kept_head S rule.0.head a rule.2.1 in_set))

-- ---- more values
pub founds_itself : (p : Program) (x : List (Option Bool)) → Founds p x x
founds_itself p x = record { size = refl; founded = λ S h. h }

pub founds_then : (p : Program) (x y z : List (Option Bool)) → Founds p x y → Founds p y z → Founds p x z
founds_then p x y z h k = record { size = k.size ∙ h.size; founded = λ S f. k.founded S (h.founded S f) }

pub founds_more : (p : Program) (x y : List (Option Bool)) (heads : List ℕ) (j : ℕ) → IsSound p → j < length (bodies_of p) →
    heads ≡ heads_of p (nth_body p j) → passes p (holds_in x) (nth_body p j) ≡ true → Derives heads x y → Founds p x y
founds_more p x y heads j sound lt is holds d = record {
  size = d.size;
  founded = λ S h. record {
    outside = λ a stands. d.falses (var_of_atom p a) ∙ h.outside a stands;
    founded = λ a stands e. elim (d.new (var_of_atom p a) e) [
      | inl before ↦ h.founded a stands before
      | inr now ↦ fires p S x j a sound lt h holds (ap (λ hs. has hs (var_of_atom p a)) (sym is) ∙ now.0) stands (is_in (has S a) (sym (h.outside a stands) ∙ now.1))
    ];
  };
}

-- ---- the body of a rule
pub rule_body : (p : Program) (i n : ℕ) → i < length (rules_in_force p) → n ≡ place_of_body p (nth_rule p i).body → nth_body p n ≡ normal (nth_rule p i).body
rule_body p i n lt e = ap (nth_body p) e ∙ body_of_nth_rule p i lt

-- ---- rules that are kept
pub idle_keeps : (p : Program) (S : Atoms) (x : List (Option Bool)) (r : Rule) → passes p (holds_in x) (normal r.body) ≡ false → true ≡ keeps p S x r
idle_keeps p S x r e = ap (λ b. not b || is_kept S r.head) (sym e)

pub active_keeps : (p : Program) (S : Atoms) (x : List (Option Bool)) (r : Rule) → passes p (holds_in x) (normal r.body) ≡ true → is_kept S r.head ≡ keeps p S x r
active_keeps p S x r e = ap (λ b. not b || is_kept S r.head) (sym e)
