-- What all nogoods used say, the one that is reached says.
use Rattle.std.proofs.Common.{◌≡◌, ◌≢◌, ℕ, suc, zero, ◌<◌, Bool, true, false, not, List, [], ◌∷◌, Option, length, get_or, inl, inr, ◌⊎◌, refl, sym, ap, ◌∙◌, subst, arith}
use Rattle.std.specs.Prelude.{ℤ, IsTrue}
use Rattle.std.specs.List.{All, list_any}
use Rattle.std.proofs.lemmas.Bool.{false≢true}
use Rattle.asp_model.specs.declared.program.Program.{Program}
use Rattle.asp_model.specs.Sets.{Atoms}
use Rattle.asp_model.specs.Models.{is_stable}
use Rattle.asp_vars.specs.Literals.{Literal, complement, literal_eq, has_literal, is_true, hits}
use Rattle.asp_vars.specs.Numbering.{values}
use Rattle.asp_vars.specs.Resolution.{joined}
use Rattle.asp_vars.specs.Entailment.{IsGood, excuse}
use Rattle.asp_vars.specs.declared.nogood.Nogood.{Nogood}
use Rattle.asp_vars.specs.declared.nogood.Base.{Base}
use Rattle.asp_vars.proofs.LiteralLaws.{same_literal, hits-has, is_true-complement, and_both}
use Rattle.asp_vars.proofs.ResolutionLaws.{joined_left, joined_right}
use Rattle.asp_trail.specs.declared.trail.Entry.{Entry}
use Rattle.asp_trail.specs.Entries.{level_in}
use Rattle.asp_trail.specs.Reasons.{Stands}
use Rattle.asp_trail.specs.Trails.{IsOrdered}
use Rattle.asp_analyze.specs.Learning.{Used, IsUsed, is_resolved, IsReached, CanJoinAll, base_after}
use Rattle.asp_analyze.specs.Way.{IsOn}
use Rattle.asp_analyze.proofs.LitLaws.{or_cases, or_left, or_right, eq_itself, eq_differ}
use Rattle.asp_analyze.proofs.OpenLaws.{reason_before}

any_at : (p : Used → Bool) (xs : List Used) (d : Used) → list_any p xs ≡ true → (i : ℕ) × (i < length xs) × (p (get_or xs i d) ≡ true)
any_at p [] d h = absurd (false≢true h)
any_at p (x ∷ xs) d h = cases (or_cases (p x) (list_any p xs) h) (any_at p xs d)
  where
    cases : (p x ≡ true) ⊎ (list_any p xs ≡ true) → (list_any p xs ≡ true → (i : ℕ) × (i < length xs) × (p (get_or xs i d) ≡ true)) → (i : ℕ) × (i < length (x ∷ xs)) × (p (get_or (x ∷ xs) i d) ≡ true)
    cases (inl q) rest = (0, omega arith, q)
    cases (inr q) rest = let f = rest q in (suc f.0, omega (arith, f.1), f.2)

any_from : (p : Used → Bool) (xs : List Used) (d : Used) (i : ℕ) → i < length xs → p (get_or xs i d) ≡ true → list_any p xs ≡ true
any_from p [] d i h q = absurd (omega (arith, h))
any_from p (x ∷ xs) d zero h q = or_left (p x) (list_any p xs) q
any_from p (x ∷ xs) d (suc i) h q = or_right (p x) (list_any p xs) (any_from p xs d i (omega arith) q)

hits_from : (v : List Bool) (n : List Literal) → ((l : Literal) → has_literal n l ≡ true → is_true v l ≡ true) → hits v n ≡ true
hits_from v [] f = refl
hits_from v (k ∷ n) f =
    and_both (is_true v k) (hits v n) (f k (or_left (literal_eq k k) (has_literal n k) (eq_itself k)))
    (hits_from v n (λ l h. f l (or_right (literal_eq k l) (has_literal n l) h)))

-- ---- what is excused stays so
excuse_from : (p : Program) (known : List Atoms) (bound : Option (List ℤ)) (S : Atoms) (b : Base) (used : List Used) → CanJoinAll bound b used → excuse p known bound b S ≡ true →
    excuse p known bound (base_after b used) S ≡ true
excuse_from p known bound S b [] c h = h
excuse_from p known bound S b (u ∷ used) c h =
    excuse_from p known bound S (joined b u.nogood.base) used c.1 (joined_left p known bound b u.nogood.base S c.0 h)

excuse_used : (p : Program) (known : List Atoms) (bound : Option (List ℤ)) (S : Atoms) (b : Base) (used : List Used) (i : ℕ) (d : Used) → CanJoinAll bound b used → i < length used →
    excuse p known bound (get_or used i d).nogood.base S ≡ true → excuse p known bound (base_after b used) S ≡ true
excuse_used p known bound S b [] i d c h e = absurd (omega (arith, h))
excuse_used p known bound S b (u ∷ used) zero d c h e =
    excuse_from p known bound S (joined b u.nogood.base) used c.1 (joined_right p known bound b u.nogood.base S c.0 e)
excuse_used p known bound S b (u ∷ used) (suc i) d c h e = excuse_used p known bound S (joined b u.nogood.base) used i d c.1 (omega arith) e

-- ---- where no reason used is hit, what it implied is true
resolved_true : (vars : ℕ) (es : List Entry) (from to : Nogood) (used : List Used) (v : List Bool) → IsOrdered vars es →
    IsReached es from used to → hits v to.lits ≡ true → list_any (λ u. hits v u.nogood.lits) used ≡ false →
    (n : ℕ) (l : Literal) (i b : ℕ) → is_resolved used l ≡ true → Stands es l i b → i < n → is_true v l ≡ true
resolved_true vars es from to used v o reached hit none zero l i b q s h = absurd (omega (arith, h))
resolved_true vars es from to used v o reached hit none (suc n) l i b q s h =
    here (resolved_true vars es from to used v o reached hit none n)
  where
    d : Used
    d = record { lit = l; nogood = from }

    at : (k : ℕ) × (k < length used) × (literal_eq (get_or used k d).lit l ≡ true)
    at = any_at (λ u. literal_eq u.lit l) used d q

    u : Used
    u = get_or used at.0 d

    is : u.lit ≡ l
    is = same_literal u.lit l at.2

    t : IsUsed es u
    t = reached.reasons at.0 d at.1

    on : IsOn es u.lit
    on = record { place = t.place; stands = t.stands }

    place : Stands es u.lit i b
    place = subst (λ (k : Literal). Stands es k i b) (sym is) s

    other : ((k : Literal) (j c : ℕ) → is_resolved used k ≡ true → Stands es k j c → j < n → is_true v k ≡ true) → (k : Literal) →
        has_literal u.nogood.lits k ≡ true → k ≢ complement u.lit → is_true v k ≡ true
    other before k g ne =
        let e = reason_before vars es u.lit u.nogood o on t.reason k g ne in
        elim (or_cases (has_literal to.lits k) (is_resolved used k) (reached.others at.0 d at.1 k g ne)) [
          | inl a ↦ hits-has v to.lits k hit a
          | inr a ↦ before k e.on.place (level_in es k.var) a e.on.stands (omega (arith, e.before i b place, h))
        ]

    each : ((k : Literal) (j c : ℕ) → is_resolved used k ≡ true → Stands es k j c → j < n → is_true v k ≡ true) → is_true v u.lit ≡ false →
        (k : Literal) → has_literal u.nogood.lits k ≡ true → (c : Bool) → c ≡ literal_eq k (complement u.lit) → is_true v k ≡ true
    each before f k g true e = subst (λ (x : Literal). is_true v x ≡ true) (sym (same_literal k (complement u.lit) (sym e))) (is_true-complement v u.lit ∙ ap not f)
    each before f k g false e = other before k g (eq_differ k (complement u.lit) (sym e))

    cases : ((k : Literal) (j c : ℕ) → is_resolved used k ≡ true → Stands es k j c → j < n → is_true v k ≡ true) → (c : Bool) → c ≡ is_true v u.lit → is_true v u.lit ≡ true
    cases before true e = sym e
    cases before false e =
        absurd (false≢true (sym none ∙ any_from (λ x. hits v x.nogood.lits) used d at.0 at.1
        (hits_from v u.nogood.lits (λ k g. each before (sym e) k g (literal_eq k (complement u.lit)) refl))))

    here : ((k : Literal) (j c : ℕ) → is_resolved used k ≡ true → Stands es k j c → j < n → is_true v k ≡ true) → is_true v l ≡ true
    here before = subst (λ (k : Literal). is_true v k ≡ true) is (cases before (is_true v u.lit) refl)

-- the nogood itself is hit, where no reason is
given_hit : (vars : ℕ) (es : List Entry) (from to : Nogood) (used : List Used) (v : List Bool) → IsOrdered vars es →
    IsReached es from used to → hits v to.lits ≡ true → list_any (λ u. hits v u.nogood.lits) used ≡ false → hits v from.lits ≡ true
given_hit vars es from to used v o reached hit none =
    hits_from v from.lits (λ l g. elim (or_cases (has_literal to.lits l) (is_resolved used l) (reached.given l g)) [
      | inl a ↦ hits-has v to.lits l hit a
      | inr a ↦ true_at l a
    ])
  where
    true_at : (l : Literal) → is_resolved used l ≡ true → is_true v l ≡ true
    true_at l a =
        let d : Used = record { lit = l; nogood = from } in
        let f = any_at (λ u. literal_eq u.lit l) used d a in
        let t = reached.reasons f.0 d f.1 in
        let s : Stands es l t.place (level_in es (get_or used f.0 d).lit.var) =
        subst (λ (k : Literal). Stands es k t.place (level_in es (get_or used f.0 d).lit.var)) (same_literal (get_or used f.0 d).lit l f.2) t.stands in
        resolved_true vars es from to used v o reached hit none (suc t.place) l t.place (level_in es (get_or used f.0 d).lit.var) a s (omega arith)

pub reached_good : (p : Program) (known : List Atoms) (bound : Option (List ℤ)) (vars : ℕ) (es : List Entry) (from to : Nogood) (used : List Used) →
    IsOrdered vars es → IsReached es from used to → CanJoinAll bound from.base used →
    IsGood p known bound from → All (λ u. IsGood p known bound u.nogood) used → IsGood p known bound to
reached_good p known bound vars es from to used o reached can good all = record {
  excused = λ S stable h.
      subst (λ (b : Base). excuse p known bound b S ≡ true) (sym reached.base) (cases S stable h (list_any (λ u. hits (values p S) u.nogood.lits) used) refl);
}
  where
    cases : (S : Atoms) → IsTrue (is_stable p S) → hits (values p S) to.lits ≡ true → (c : Bool) → c ≡ list_any (λ u. hits (values p S) u.nogood.lits) used →
        excuse p known bound (base_after from.base used) S ≡ true
    cases S stable h true q =
        let d : Used = record { lit = record { var = 0; truth = true }; nogood = from } in
        let f = any_at (λ u. hits (values p S) u.nogood.lits) used d (sym q) in
        excuse_used p known bound S from.base used f.0 d can f.1 ((all f.0 d f.1).excused S stable f.2)
    cases S stable h false q =
        excuse_from p known bound S from.base used can
        (good.excused S stable (given_hit vars es from to used (values p S) o reached h (sym q)))
