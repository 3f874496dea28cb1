-- Source pointers and ranks: with them no set within a component is unfounded.
use Rattle.std.proofs.Common.{◌≡◌, ◌≢◌, ℕ, ◌-◌, ◌<◌, ◌≤◌, Bool, true, false, not, ◌&&◌, ◌||◌, eqb, leb, List, [], ◌∷◌, length, set, get_or, Option, refl, sym, ap, ◌∙◌, subst, arith, ◌⊎◌, inl, inr, get_or-set_other, get_or-set_same}
use Rattle.std.proofs.lemmas.Bool.{false≢true, and_parts, and_from, eqb-true, eq-eqb, leb-true}
use Rattle.std.proofs.lemmas.Bool.Decides.{nat_tests}
use Rattle.asp_model.specs.declared.program.Rule.{Rule}
use Rattle.asp_model.specs.declared.program.Program.{Program}
use Rattle.asp_model.specs.Sets.{Atoms, has, IsSubset}
use Rattle.asp_model.specs.Models.{rules_in_force, atoms_of, head_atoms}
use Rattle.asp_model.specs.Sound.{IsSound}
use Rattle.asp_vars.specs.Numbering.{normal, body_eq, bodies_of, var_of_atom, number_of_form, nth_atom}
use Rattle.std.specs.List.{list_any}
use Rattle.asp_model.specs.declared.program.Body.{Body}
use Rattle.asp_vars.specs.Completion.{supports}
use Rattle.asp_vars.specs.Tabled.{heads_of, IsAtomVar, Stands as BodyStands}
use Rattle.asp_vars.specs.Unfounded.{is_excused}
use Rattle.asp_vars.proofs.NumberingLaws.{same_body}
use Rattle.asp_vars.proofs.StandingLaws.{Among, each_among}
use Rattle.asp_vars.proofs.SupportLaws.{form_at-number, some, either, or_left, or_right, in_forms}
use Rattle.asp_scc.specs.Components.{Parts, Stands, AreComponents}
use Rattle.asp_scc.proofs.ReachLaws.{atom_small}
use Rattle.asp_loop.specs.Parts.{form_of}
use Rattle.asp_loop.proofs.EntailedLaws.{any_of}
use Rattle.asp_loop.proofs.WeightedLaws.{AreItems, form_items, form_weighted}
use Rattle.asp_source.specs.Loops.{IsUnfoundedLoop}
use Rattle.asp_source.specs.Marks.{is_marked, shown}
use Rattle.asp_source.specs.Founding.{IsFoundBy}
use Rattle.asp_source.specs.Ranks.{IsRanking, is_above, above, source_of, AreRanked}
use Rattle.asp_source.specs.Pointers.{AreSupports, AreSought}
use Rattle.asp_source.proofs.BodyLaws.{has-shown}
use Rattle.asp_source.proofs.LooseLaws.{excused_more, founded_out, atom_of_var, unset_marked}
use Rattle.asp_source.proofs.ChangeLaws.{some_member, cyclic_of, head_listed}

pub false_from : (a b : Bool) → (b ≡ true → a ≡ true) → a ≡ false → b ≡ false
false_from a false f e = refl
false_from a true f e = absurd (false≢true (sym e ∙ f refl))

-- the variable of an atom that stands
pub atom_var : (p : Program) (a : ℕ) → Stands p a → IsAtomVar p (var_of_atom p a)
atom_var p a stands = (let some_ : 0 < var_of_atom p a = omega arith in some_, atom_small p a stands)

-- the weights of a source aren't negative
pub source_weighted : (p : Program) (a s : ℕ) → IsSound p → has (supports p a) s ≡ true → AreItems (form_items (form_of p s))
source_weighted p a s sound e =
    let form = in_forms p a s e in
    let same : form_of p s ≡ form.0 = ap (form_of p) (sym form.2) ∙ form_at-number p form.0 form.1.0.0 in
    let rule = some (Among (rules_in_force p)) (λ (r : Rule). has (head_atoms r.head) a && body_eq (normal r.body) form.0) (rules_in_force p) (each_among (rules_in_force p)) form.1.1 in
    let parts = and_parts (has (head_atoms rule.0.head) a) (body_eq (normal rule.0.body) form.0) rule.2 in
    subst (λ b. AreItems (form_items b)) (same_body (normal rule.0.body) form.0 parts.1 ∙ sym same) (form_weighted p rule.0 sound rule.1)

pub support_at : (p : Program) (sources : List ℕ) (a : ℕ) → AreSupports p sources → Stands p a → source_of p sources a ≢ 0 → has (supports p a) (source_of p sources a) ≡ true
support_at p sources a h stands nz =
    subst (λ (b : ℕ). has (supports p b) (source_of p sources a) ≡ true) (atom_of_var p a (var_of_atom p a) stands refl) (h (var_of_atom p a) (atom_var p a stands) nz)

-- What a source is: one of the bodies, of which the atom is a head.
pub record IsSource (p : Program) (a s : ℕ) (d : Body) : Type 0 where
  pub form : form_of p s ≡ d
  pub listed : list_any (body_eq d) (bodies_of p) ≡ true
  pub stands : BodyStands (atoms_of p) d
  pub number : number_of_form p d ≡ s
  pub head : has (heads_of p d) (var_of_atom p a) ≡ true

pub source_is : (p : Program) (a s : ℕ) → has (supports p a) s ≡ true → (d : Body) × IsSource p a s d
source_is p a s e =
    let form = in_forms p a s e in
    let rule = some (Among (rules_in_force p)) (λ (r : Rule). has (head_atoms r.head) a && body_eq (normal r.body) form.0) (rules_in_force p) (each_among (rules_in_force p)) form.1.1 in
    let parts = and_parts (has (head_atoms rule.0.head) a) (body_eq (normal rule.0.body) form.0) rule.2 in (
      form.0,
      record {
        form = ap (form_of p) (sym form.2) ∙ form_at-number p form.0 form.1.0.0;
        listed = form.1.0.0;
        stands = form.1.0.1;
        number = form.2;
        head = ap (λ b. has (heads_of p b) (var_of_atom p a)) (sym (same_body (normal rule.0.body) form.0 parts.1)) ∙ head_listed p rule.0 a rule.1 parts.0;
      },
    )

-- ---- sources that only go
abbrev pub IsLess : List ℕ → List ℕ → Type 0
IsLess old new = (v : ℕ) → (get_or new v 0 ≡ get_or old v 0) ⊎ (get_or new v 0 ≡ 0)

pub kept_source : (old new : List ℕ) (v : ℕ) → IsLess old new → get_or new v 0 ≢ 0 → get_or new v 0 ≡ get_or old v 0
kept_source old new v less nz = elim (less v) [
  | inl e ↦ e
  | inr z ↦ absurd (nz z)
]

pub supports_less : (p : Program) (old new : List ℕ) → IsLess old new → AreSupports p old → AreSupports p new
supports_less p old new less h v is nz =
    let e = kept_source old new v less nz in
    subst (λ (s : ℕ). has (supports p (nth_atom p (v - 1))) s ≡ true) (sym e) (h v is (λ z. nz (e ∙ z)))

-- a support isn't the number 0
pub support_positive : (p : Program) (a b : ℕ) → has (supports p a) b ≡ true → b ≢ 0
support_positive p a b e z = let form = in_forms p a b e in absurd (let at = form.2 in omega (arith, at, z))

-- one source more
pub supports_set : (p : Program) (s : List ℕ) (v b : ℕ) → v < length s → has (supports p (nth_atom p (v - 1))) b ≡ true → AreSupports p s → AreSupports p (set s v b)
supports_set p s v b lt by h w at nz = supported (eqb w v) refl
  where
    supported : (t : Bool) → t ≡ eqb w v → has (supports p (nth_atom p (w - 1))) (get_or (set s v b) w 0) ≡ true
    supported true q =
        let e : w ≡ v = eqb-true w v (sym q) in
        ap (has (supports p (nth_atom p (w - 1)))) (ap (λ u. get_or (set s v b) u 0) e ∙ get_or-set_same s v b 0 lt)
        ∙ ap (λ u. has (supports p (nth_atom p (u - 1))) b) e ∙ by
    supported false q =
        let same = get_or-set_other s v w b 0 (λ e. false≢true (q ∙ eq-eqb w v e)) in
        ap (has (supports p (nth_atom p (w - 1)))) same ∙ h w at (λ z. nz (same ∙ z))

-- ---- what a source is excused for
pub firm_fewer : (p : Program) (x : List (Option Bool)) (U V : Atoms) (a s : ℕ) → IsSound p → has (supports p a) s ≡ true → IsSubset U V →
    is_excused p x V (form_of p s) ≡ false → is_excused p x U (form_of p s) ≡ false
firm_fewer p x U V a s sound supported sub e =
    false_from (is_excused p x V (form_of p s)) (is_excused p x U (form_of p s)) (excused_more p x U V (form_of p s) sub (source_weighted p a s sound supported)) e

pub shown_parts : (p : Program) (q : ℕ → Bool) (a : ℕ) → has (shown p q) a ≡ true → (q (var_of_atom p a) ≡ true) × (has (atoms_of p) a ≡ true)
shown_parts p q a e = and_parts (q (var_of_atom p a)) (has (atoms_of p) a) (sym (has-shown p q a) ∙ e)

pub shown_from : (p : Program) (q : ℕ → Bool) (a : ℕ) → q (var_of_atom p a) ≡ true → has (atoms_of p) a ≡ true → has (shown p q) a ≡ true
shown_from p q a e f = has-shown p q a ∙ and_from (q (var_of_atom p a)) (has (atoms_of p) a) e f

pub shown_more : (p : Program) (q r : ℕ → Bool) → ((v : ℕ) → q v ≡ true → r v ≡ true) → IsSubset (shown p q) (shown p r)
shown_more p q r h a e = let parts = shown_parts p q a e in shown_from p r a (h (var_of_atom p a) parts.0) parts.1

-- what is above, by its parts
pub above_parts : (c : Parts) (ranks : List ℕ) (q : ℕ → Bool) (k rank v : ℕ) → is_above c ranks q k rank v ≡ true → (get_or c.numbers v 0 ≡ k) × ((q v ≡ true) ⊎ (rank ≤ get_or ranks v 0))
above_parts c ranks q k rank v e =
    let parts = and_parts (eqb (get_or c.numbers v 0) k) (q v || leb rank (get_or ranks v 0)) e in (
      eqb-true (get_or c.numbers v 0) k parts.0,
      elim (either (q v) (leb rank (get_or ranks v 0)) parts.1) [
        | inl a ↦ inl a
        | inr a ↦ inr (leb-true rank (get_or ranks v 0) a)
      ],
    )

pub above_from : (c : Parts) (ranks : List ℕ) (q : ℕ → Bool) (k rank v : ℕ) → get_or c.numbers v 0 ≡ k → (q v ≡ true) ⊎ (rank ≤ get_or ranks v 0) → is_above c ranks q k rank v ≡ true
above_from c ranks q k rank v at h =
    and_from (eqb (get_or c.numbers v 0) k) (q v || leb rank (get_or ranks v 0)) (eq-eqb (get_or c.numbers v 0) k at) (elim h [
      | inl a ↦ or_left (q v) (leb rank (get_or ranks v 0)) a
      | inr a ↦ or_right (q v) (leb rank (get_or ranks v 0)) (to_leb rank (get_or ranks v 0) a)
    ])
  where
    to_leb : (a b : ℕ) → a ≤ b → leb a b ≡ true
    to_leb a b h = grind (arith, nat_tests)

pub above_more : (c : Parts) (ranks : List ℕ) (q r : ℕ → Bool) (k rank : ℕ) → ((v : ℕ) → get_or c.numbers v 0 ≡ k → q v ≡ true → r v ≡ true) →
    (v : ℕ) → is_above c ranks q k rank v ≡ true → is_above c ranks r k rank v ≡ true
above_more c ranks q r k rank h v e =
    let parts = above_parts c ranks q k rank v e in
    above_from c ranks r k rank v parts.0 (elim parts.1 [
      | inl a ↦ inl (h v parts.0 a)
      | inr a ↦ inr a
    ])

-- ---- sources that go, other values, fewer atoms that pass
pub ranked_less : (p : Program) (c : Parts) (x : List (Option Bool)) (ranks : List ℕ) (q : ℕ → Bool) (old new : List ℕ) → IsLess old new → AreRanked p c x ranks q old → AreRanked p c x ranks q new
ranked_less p c x ranks q old new less g a stands nz =
    let e = kept_source old new (var_of_atom p a) less nz in
    ap (λ s. is_excused p x (above p c ranks q a) (form_of p s)) e ∙ g a stands (λ z. nz (e ∙ z))

pub ranked_values : (p : Program) (c : Parts) (x y : List (Option Bool)) (ranks : List ℕ) (q : ℕ → Bool) (sources : List ℕ) →
    ((U : Atoms) (a : ℕ) → Stands p a → source_of p sources a ≢ 0 → is_excused p y U (form_of p (source_of p sources a)) ≡ true →
    is_excused p x U (form_of p (source_of p sources a)) ≡ true) → AreRanked p c x ranks q sources → AreRanked p c y ranks q sources
ranked_values p c x y ranks q sources back g a stands nz =
    false_from (is_excused p x (above p c ranks q a) (form_of p (source_of p sources a)))
    (is_excused p y (above p c ranks q a) (form_of p (source_of p sources a))) (back (above p c ranks q a) a stands nz) (g a stands nz)

pub ranked_fewer : (p : Program) (c : Parts) (x : List (Option Bool)) (ranks : List ℕ) (q r : ℕ → Bool) (sources : List ℕ) → IsSound p →
    AreSupports p sources → ((v : ℕ) → r v ≡ true → q v ≡ true) → AreRanked p c x ranks q sources → AreRanked p c x ranks r sources
ranked_fewer p c x ranks q r sources sound supported h g a stands nz =
    let k : ℕ = get_or c.numbers (var_of_atom p a) 0 in
    let rank : ℕ = get_or ranks (var_of_atom p a) 0 in
    firm_fewer p x (above p c ranks r a) (above p c ranks q a) a (source_of p sources a) sound (support_at p sources a supported stands nz)
    (shown_more p (is_above c ranks r k rank) (is_above c ranks q k rank) (above_more c ranks r q k rank (λ v at e. h v e))) (g a stands nz)

-- ---- an atom gets a source
-- from below
pub ranked_set : (p : Program) (c : Parts) (x : List (Option Bool)) (ranks : List ℕ) (q : ℕ → Bool) (sources : List ℕ) (v b : ℕ) →
    v < length sources → is_excused p x (shown p (is_above c ranks q (get_or c.numbers v 0) (get_or ranks v 0))) (form_of p b) ≡ false →
    AreRanked p c x ranks q sources → AreRanked p c x ranks q (set sources v b)
ranked_set p c x ranks q sources v b lt firm g a stands nz = cases (eqb (var_of_atom p a) v) refl
  where
    cases : (t : Bool) → t ≡ eqb (var_of_atom p a) v → is_excused p x (above p c ranks q a) (form_of p (source_of p (set sources v b) a)) ≡ false
    cases true e =
        let at : var_of_atom p a ≡ v = eqb-true (var_of_atom p a) v (sym e) in
        ap (λ s. is_excused p x (above p c ranks q a) (form_of p s)) (ap (λ w. get_or (set sources v b) w 0) at ∙ get_or-set_same sources v b 0 lt)
        ∙ ap (λ w. is_excused p x (shown p (is_above c ranks q (get_or c.numbers w 0) (get_or ranks w 0))) (form_of p b)) at ∙ firm
    cases false e =
        let same = get_or-set_other sources v (var_of_atom p a) b 0 (λ i. false≢true (e ∙ eq-eqb (var_of_atom p a) v i)) in
        ap (λ s. is_excused p x (above p c ranks q a) (form_of p s)) same ∙ g a stands (λ z. nz (same ∙ z))

-- from outside of the candidates, above all others
pub ranked_raised : (p : Program) (c : Parts) (x : List (Option Bool)) (ranks : List ℕ) (clock : ℕ) (loose : List Bool) (sources : List ℕ) (v b : ℕ) →
    IsSound p → v < length sources → v < length ranks → IsRanking ranks clock → is_marked loose v ≡ true → IsFoundBy p x (is_marked loose) v b →
    AreSupports p sources → AreRanked p c x ranks (is_marked loose) sources →
    AreRanked p c x (set ranks v clock) (is_marked (set loose v false)) (set sources v b)
ranked_raised p c x ranks clock loose sources v b sound lt within ranking marked by supported g a stands nz = cases (eqb (var_of_atom p a) v) refl
  where
    new : List ℕ
    new = set ranks v clock

    left : ℕ → Bool
    left = is_marked (set loose v false)

    k : ℕ
    k = get_or c.numbers (var_of_atom p a) 0

    rank : ℕ
    rank = get_or new (var_of_atom p a) 0

    -- an atom of another variable that isn't a candidate isn't above the one that was raised
    in_loose : rank ≡ clock → (w : ℕ) → is_above c new left k rank w ≡ true → is_marked loose w ≡ true
    in_loose top w e = elim (above_parts c new left k rank w e).1 [
      | inl m ↦ unset_marked loose v w m
      | inr m ↦ by_var (eqb w v) refl m
    ]
      where
        by_var : (t : Bool) → t ≡ eqb w v → rank ≤ get_or new w 0 → is_marked loose w ≡ true
        by_var true i m = ap (is_marked loose) (eqb-true w v (sym i)) ∙ marked
        by_var false i m = absurd (let other = get_or-set_other ranks v w clock 0 (λ j. false≢true (i ∙ eq-eqb w v j)) in let low = ranking w in omega (arith, m, top, other, low))

    -- what is above another atom was above it
    was_above : rank ≡ get_or ranks (var_of_atom p a) 0 → (w : ℕ) → is_above c new left k rank w ≡ true → is_above c ranks (is_marked loose) k (get_or ranks (var_of_atom p a) 0) w ≡ true
    was_above same w e =
        let parts = above_parts c new left k rank w e in
        above_from c ranks (is_marked loose) k (get_or ranks (var_of_atom p a) 0) w parts.0 (elim parts.1 [
          | inl m ↦ inl (unset_marked loose v w m)
          | inr m ↦ by_var (eqb w v) refl m
        ])
      where
        by_var : (t : Bool) → t ≡ eqb w v → rank ≤ get_or new w 0 → (is_marked loose w ≡ true) ⊎ (get_or ranks (var_of_atom p a) 0 ≤ get_or ranks w 0)
        by_var true i m = inl (ap (is_marked loose) (eqb-true w v (sym i)) ∙ marked)
        by_var false i m = inr (let other = get_or-set_other ranks v w clock 0 (λ j. false≢true (i ∙ eq-eqb w v j)) in omega (arith, m, same, other))

    cases : (t : Bool) → t ≡ eqb (var_of_atom p a) v → is_excused p x (above p c new left a) (form_of p (source_of p (set sources v b) a)) ≡ false
    cases true e =
        let at : var_of_atom p a ≡ v = eqb-true (var_of_atom p a) v (sym e) in
        let top : rank ≡ clock = ap (λ w. get_or new w 0) at ∙ get_or-set_same ranks v clock 0 within in
        ap (λ s. is_excused p x (above p c new left a) (form_of p s)) (ap (λ w. get_or (set sources v b) w 0) at ∙ get_or-set_same sources v b 0 lt)
        ∙ firm_fewer p x (above p c new left a) (shown p (is_marked loose)) (nth_atom p (v - 1)) b sound by.support (shown_more p (is_above c new left k rank) (is_marked loose) (in_loose top)) by.firm
    cases false e =
        let ne : var_of_atom p a ≢ v = λ i. false≢true (e ∙ eq-eqb (var_of_atom p a) v i) in
        let same = get_or-set_other sources v (var_of_atom p a) b 0 ne in
        let was : source_of p sources a ≢ 0 = λ z. nz (same ∙ z) in
        ap (λ s. is_excused p x (above p c new left a) (form_of p s)) same
        ∙ firm_fewer p x (above p c new left a) (above p c ranks (is_marked loose) a) a (source_of p sources a) sound (support_at p sources a supported stands was)
        (shown_more p (is_above c new left k rank) (is_above c ranks (is_marked loose) k (get_or ranks (var_of_atom p a) 0))
        (was_above (get_or-set_other ranks v (var_of_atom p a) clock 0 ne))) (g a stands was)

-- ---- where no atom is queued
-- one of the lowest rank, among one more
lower : (f : ℕ → ℕ) (u : ℕ) (U : Atoms) → (b : ℕ) × (has U b ≡ true) × ((d : ℕ) → has U d ≡ true → f b ≤ f d) → (b : ℕ) × (has (u ∷ U) b ≡ true) × ((d : ℕ) → has (u ∷ U) d ≡ true → f b ≤ f d)
lower f u U rest = pick (leb (f u) (f rest.0)) refl
  where
    greater : (m n : ℕ) → leb m n ≡ false → n ≤ m
    greater m n h = grind (arith, nat_tests)

    pick : (t : Bool) → t ≡ leb (f u) (f rest.0) → (b : ℕ) × (has (u ∷ U) b ≡ true) × ((d : ℕ) → has (u ∷ U) d ≡ true → f b ≤ f d)
    pick true q = (
      u,
      or_left (eqb u u) (has U u) (eq-eqb u u refl),
      λ d m. elim (either (eqb u d) (has U d) m) [
        | inl i ↦ subst (λ (t : ℕ). f u ≤ f t) (eqb-true u d i) (omega arith)
        | inr i ↦ let low = leb-true (f u) (f rest.0) (sym q) in let more = rest.2 d i in omega (arith, low, more)
      ],
    )
    pick false q = (
      rest.0,
      or_right (eqb u rest.0) (has U rest.0) rest.1,
      λ d m. elim (either (eqb u d) (has U d) m) [
        | inl i ↦ subst (λ (t : ℕ). f rest.0 ≤ f t) (eqb-true u d i) (greater (f u) (f rest.0) (sym q))
        | inr i ↦ rest.2 d i
      ],
    )

-- one of the lowest rank
lowest : (f : ℕ → ℕ) (U : Atoms) (a : ℕ) → has U a ≡ true → (b : ℕ) × (has U b ≡ true) × ((d : ℕ) → has U d ≡ true → f b ≤ f d)
lowest f [] a e = absurd (false≢true e)
lowest f (u ∷ []) a e = (
  u,
  or_left (eqb u u) false (eq-eqb u u refl),
  λ d m. elim (either (eqb u d) false m) [
    | inl i ↦ subst (λ (t : ℕ). f u ≤ f t) (eqb-true u d i) (omega arith)
    | inr i ↦ absurd (false≢true i)
  ],
)
lowest f (u ∷ w ∷ W) a e = lower f u (w ∷ W) (lowest f (w ∷ W) w (or_left (eqb w w) (has W w) (eq-eqb w w refl)))

pub none_unfounded : (p : Program) (c : Parts) (x : List (Option Bool)) (sources ranks : List ℕ) (queue : List Bool) → IsSound p → AreComponents p c →
    AreSupports p sources → AreRanked p c x ranks (is_marked []) sources → AreSought p c x sources queue [] → ((k : ℕ) → is_marked queue k ≡ false) →
    (U : Atoms) → IsUnfoundedLoop p x U → ⊥
none_unfounded p c x sources ranks queue sound are supported g sought empty U loop =
    let first = some_member p x U loop.unfounded in
    let sourced : (a : ℕ) → has U a ≡ true → source_of p sources a ≢ 0 = λ a m z.
    elim (sought (var_of_atom p a) (atom_var p a (loop.stand a m)) z (cyclic_of p c x U a are loop m) (loop.not_false a m)) [
      | inl e ↦ false≢true (sym (empty (var_of_atom p a - 1)) ∙ e)
      | inr e ↦ false≢true e
    ] in
    let low = lowest (λ a. get_or ranks (var_of_atom p a) 0) U first.0 first.1 in
    let b : ℕ = low.0 in
    let q : ℕ → Bool = is_above c ranks (is_marked []) (get_or c.numbers (var_of_atom p b) 0) (get_or ranks (var_of_atom p b) 0) in
    let sub : IsSubset U (shown p q) = λ a m.
    shown_from p q a (above_from c ranks (is_marked []) (get_or c.numbers (var_of_atom p b) 0) (get_or ranks (var_of_atom p b) 0) (var_of_atom p a)
    ((are.same a b (loop.stand a m) (loop.stand b low.1)).1 (loop.joined a b m low.1)) (inr (low.2 a m))) (loop.stand a m) in
    founded_out p x (shown p q) U b sound
    (any_of (λ w. not (is_excused p x (shown p q) (form_of p w))) (supports p b) (source_of p sources b)
    (support_at p sources b supported (loop.stand b low.1) (sourced b low.1)) (ap not (g b (loop.stand b low.1) (sourced b low.1))))
    loop.unfounded sub low.1
