-- The set of a whole trail is new, and the only one under the cube and the decisions that isn't done.
use Rattle.std.proofs.Common.{◌≡◌, ℕ, ◌<◌, Bool, true, false, not, ◌&&◌, List, [], ◌∷◌, ◌++◌, filter, length, get_or, take, Option, Some, None, inl, inr, refl, sym, ap, ◌∙◌, subst, arith}
use Rattle.std.specs.Prelude.{ℤ}
use Rattle.std.specs.List.{list_any, AllByRecursion}
use Rattle.std.specs.Bool.{beq}
use Rattle.std.specs.Option.{is_some}
use Rattle.std.specs.Cmp.Lexicographic.{same_text}
use Rattle.std.proofs.lemmas.Bool.{false≢true, false_from_ne_true, and_parts, not-true, or_cases, or_left, or_right}
use Rattle.std.proofs.lemmas.List.{take_all}
use Rattle.std.proofs.lemmas.List.Folds.{list_any-append}
use Rattle.asp_model.specs.declared.program.Program.{Program}
use Rattle.asp_model.specs.Sets.{Atoms, IsAscending, has, same_set}
use Rattle.asp_model.specs.Models.{atoms_of, mentions, is_stable}
use Rattle.asp_model.proofs.SetLaws.{IsAscending-set_of, same_from_has}
use Rattle.asp_model.proofs.MemberLaws.{each_weaker, one_passes}
use Rattle.asp_model.proofs.ListedLaws.{same_set-itself}
use Rattle.asp_model.proofs.ModelLaws.{stable-subset}
use Rattle.asp_vars.specs.Literals.{Literal, T, is_true, hits, holds_in, agrees, value_of}
use Rattle.asp_vars.specs.Numbering.{values, var_of_atom}
use Rattle.asp_vars.specs.Entailment.{Settled, is_done, costs_bound}
use Rattle.asp_vars.specs.declared.nogood.Nogood.{Nogood}
use Rattle.asp_vars.proofs.LiteralLaws.{beq_same}
use Rattle.asp_vars.proofs.NumberingLaws.{value-atom}
use Rattle.asp_vars.proofs.PlaceLaws.{atom-within}
use Rattle.asp_trail.specs.declared.trail.Entry.{Entry}
use Rattle.asp_trail.specs.Entries.{assignment}
use Rattle.asp_trail.specs.Fixpoint.{is_violated, is_unit, is_at_fixpoint}
use Rattle.asp_trail.specs.Trails.{IsVar}
use Rattle.asp_trail.proofs.HoldLaws.{holds_found}
use Rattle.asp_trail.proofs.TrailLaws.{level_top}
use Rattle.asp_loop.proofs.FoundedLaws.{has-filter}
use Rattle.asp_trail_laws.specs.Settling.{AreSettled}
use Rattle.asp_trail_laws.specs.Starts.{AreStarts}
use Rattle.asp_trail_laws.specs.Whole.{AreBlocked, AreVars, IsWhole, atoms_on, truths}
use Rattle.asp_trail_laws.proofs.HitLaws.{trail_hit}
use Rattle.asp_trail_laws.proofs.PlaceLaws.{blank}
use Rattle.asp_trail_laws.proofs.WholeLaws.{whole_lit, whole_nogood}

-- ---- it is new
pub answer_new : (p : Program) (K : List Atoms) (vars : ℕ) (kept : ℕ → Option Nogood) (es : List Entry) → IsWhole p vars es → AreBlocked p kept K →
    ((id : ℕ) (n : Nogood) → kept id ≡ Some n → AreVars vars n.lits) → ((id : ℕ) (n : Nogood) → kept id ≡ Some n → is_at_fixpoint (assignment vars es) n.lits ≡ true) →
    list_any (same_set (atoms_on p vars es)) K ≡ false
answer_new p K vars kept es w blocked small fixpoint =
    let S : Atoms = atoms_on p vars es in
    false_from_ne_true (list_any (same_set S) K)
    (one_passes ⊥ (same_set S) K
    (each_weaker (λ T. (id : ℕ) × (n : Nogood) × (kept id ≡ Some n) × (hits (values p T) n.lits ≡ true)) (λ T. same_set S T ≡ true → ⊥)
    (λ T b e. known T b.0 b.1 b.2 b.3 (same_text S T (sym e))) K blocked))
  where
    known : (T : Atoms) (id : ℕ) (n : Nogood) → kept id ≡ Some n → hits (values p T) n.lits ≡ true → atoms_on p vars es ≡ T → ⊥
    known T id n q h e =
        let violated : is_violated (assignment vars es) n.lits ≡ true = whole_nogood p vars es w n.lits (small id n q) ∙ (ap (λ (U : Atoms). hits (values p U) n.lits) e ∙ h) in
        false≢true (sym (not-true (is_violated (assignment vars es) n.lits)
        (and_parts (not (is_violated (assignment vars es) n.lits)) (not (is_unit (assignment vars es) n.lits)) (fixpoint id n q)).0)
        ∙ violated)

-- ---- a part of an ascending list ascends
part-above : (q : ℕ → Bool) (a : ℕ) (S : Atoms) → AllByRecursion (λ b. a < b) S → AllByRecursion (λ b. a < b) (filter q S)
part-above q a [] h = tt
part-above q a (b ∷ S) h = cases (q b) refl (part-above q a S h.1)
  where
    cases : (t : Bool) → t ≡ q b → AllByRecursion (λ c. a < c) (filter q S) → AllByRecursion (λ c. a < c) (filter q (b ∷ S))
    cases true e rest = rw (← e) (h.0, rest)
    cases false e rest = rw (← e) rest

part-ascends : (q : ℕ → Bool) (S : Atoms) → IsAscending S → IsAscending (filter q S)
part-ascends q [] h = tt
part-ascends q (a ∷ S) h = cases (q a) refl (part-ascends q S h.1)
  where
    cases : (t : Bool) → t ≡ q a → IsAscending (filter q S) → IsAscending (filter q (a ∷ S))
    cases true e rest = rw (← e) (part-above q a S h.0, rest)
    cases false e rest = rw (← e) rest

-- ---- it is the only one
module _ (p : Program) (K : List Atoms) (bound : Option (List ℤ)) (vars : ℕ) (cube decisions : List Literal) (es : List Entry)
    (w : IsWhole p vars es) (r : AreSettled p K bound es) (s : AreStarts cube decisions es) where
  module _ (R : Atoms) (stable : is_stable p R ≡ true) (open_ : is_done p K bound R ≡ false) (h : hits (values p R) (cube ++ decisions) ≡ true) where
    -- an entry is hit
    entry_hit : (l : Literal) → holds_in (assignment vars es) l ≡ true → is_true (values p R) l ≡ true
    entry_hit l holds =
        let f = holds_found vars es l w.ordered holds in
        let way : hits (values p R) (cube ++ take (length decisions) decisions) ≡ true =
        subst (λ (n : List Literal). hits (values p R) (cube ++ n) ≡ true) (sym (take_all (length decisions) decisions (omega arith))) h in
        subst (λ (m : Literal). is_true (values p R) m ≡ true) (f.2 blank)
        (trail_hit p K bound vars cube decisions es (length decisions) R w.ordered r s stable open_ way f.0 blank f.1
        (omega (arith, level_top es w.ordered.rising f.0 blank f.1, s.counted)))

    -- each variable has the trail's value
    value_hit : (v : ℕ) → IsVar vars v → get_or (values p R) v false ≡ get_or (values p (atoms_on p vars es)) v false
    value_hit v is = cases (value_of (assignment vars es) v) refl
      where
        same : (b : Bool) → beq b b ≡ true
        same true = refl
        same false = refl

        found : (b : Bool) → holds_in (assignment vars es) (record { var = v; truth = b }) ≡ true → get_or (values p R) v false ≡ get_or (values p (atoms_on p vars es)) v false
        found b holds =
            let one : get_or (values p R) v false ≡ b = beq_same (get_or (values p R) v false) b (entry_hit (record { var = v; truth = b }) holds) in
            let two : get_or (values p (atoms_on p vars es)) v false ≡ b =
            beq_same (get_or (values p (atoms_on p vars es)) v false) b (sym (whole_lit p vars es w (record { var = v; truth = b }) is) ∙ holds)
            in
            one ∙ sym two

        cases : (x : Option Bool) → x ≡ value_of (assignment vars es) v → get_or (values p R) v false ≡ get_or (values p (atoms_on p vars es)) v false
        cases None q = absurd (false≢true (ap is_some q ∙ w.full v is))
        cases (Some b) q = found b (ap (λ (y : Option Bool). agrees y (record { var = v; truth = b })) (sym q) ∙ same b)

    pub only_one : R ≡ atoms_on p vars es
    only_one = same_from_has R (atoms_on p vars es) (stable-subset p R stable).0
        (part-ascends (λ a. is_true (truths (assignment vars es)) (T (var_of_atom p a))) (atoms_of p) (IsAscending-set_of (mentions p)))
        (λ a. cases a (has (atoms_of p) a) refl)
      where
        lost : (b : Bool) → (b && false) ≡ false
        lost true = refl
        lost false = refl

        cases : (a : ℕ) (b : Bool) → b ≡ has (atoms_of p) a → has R a ≡ has (atoms_on p vars es) a
        cases a true e =
            let is : IsVar vars (var_of_atom p a) = (omega arith, omega (arith, atom-within p a (sym e), w.counted)) in
            sym (value-atom p R a (sym e)) ∙ (value_hit (var_of_atom p a) is ∙ value-atom p (atoms_on p vars es) a (sym e))
        cases a false e =
            let none : has R a ≡ false = false_from_ne_true (has R a) (λ t. false≢true (e ∙ (stable-subset p R stable).1 a t)) in
            none ∙ sym (has-filter (λ x. is_true (truths (assignment vars es)) (T (var_of_atom p x))) (atoms_of p) a
            ∙ (ap (λ t. is_true (truths (assignment vars es)) (T (var_of_atom p a)) && t) (sym e) ∙ lost (is_true (truths (assignment vars es)) (T (var_of_atom p a)))))

  -- it is done once the set is known
  done_then : (R : Atoms) → is_stable p R ≡ true → hits (values p R) (cube ++ decisions) ≡ true → (b : Bool) → b ≡ is_done p K bound R → is_done p (K ++ atoms_on p vars es ∷ []) bound R ≡ true
  done_then R stable h true e = elim (or_cases (list_any (same_set R) K) (costs_bound p bound R) (sym e)) [
    | inl a ↦ or_left (list_any (same_set R) (K ++ atoms_on p vars es ∷ [])) (costs_bound p bound R)
        (list_any-append (same_set R) K (atoms_on p vars es ∷ []) ∙ or_left (list_any (same_set R) K) (list_any (same_set R) (atoms_on p vars es ∷ [])) a)
    | inr b ↦ or_right (list_any (same_set R) (K ++ atoms_on p vars es ∷ [])) (costs_bound p bound R) b
  ]
  done_then R stable h false e =
      let is : R ≡ atoms_on p vars es = only_one R stable (sym e) h in
      let same : same_set R (atoms_on p vars es) ≡ true = subst (λ (U : Atoms). same_set R U ≡ true) is (same_set-itself R) in
      or_left (list_any (same_set R) (K ++ atoms_on p vars es ∷ [])) (costs_bound p bound R)
      (list_any-append (same_set R) K (atoms_on p vars es ∷ [])
      ∙ or_right (list_any (same_set R) K) (list_any (same_set R) (atoms_on p vars es ∷ []))
      (or_left (same_set R (atoms_on p vars es)) false same))

  pub answer_settles : Settled p (K ++ atoms_on p vars es ∷ []) bound (cube ++ decisions)
  answer_settles = record { excused = λ R stable h. done_then R stable h (is_done p K bound R) refl }
