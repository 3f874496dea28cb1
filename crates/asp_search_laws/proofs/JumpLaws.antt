-- After the jump back, the learnt nogood implies its literal.
use Rattle.std.proofs.Common.{◌≡◌, ◌≢◌, ℕ, suc, zero, ◌+◌, ◌-◌, ◌<◌, ◌≤◌, Bool, true, false, List, ◌∷◌, ◌++◌, length, get_or, take, None, inl, inr, replicate, refl, sym, ap, ◌∙◌, subst, arith, []}
use Rattle.std.specs.List.{All}
use Rattle.std.proofs.lemmas.List.{length-append, length-take-le, get_or-take}
use Rattle.asp_vars.specs.Literals.{Literal, complement, has_literal, literal_eq, holds_in, value_of}
use Rattle.asp_vars.proofs.LiteralLaws.{same_literal}
use Rattle.asp_trail.specs.declared.trail.Entry.{Entry}
use Rattle.asp_trail.specs.Entries.{assignment, level_in, cut}
use Rattle.asp_trail.specs.Reasons.{Stands, IsReason}
use Rattle.asp_trail.specs.Trails.{IsOrdered, IsVar}
use Rattle.asp_trail.proofs.EntryLaws.{fold_without, none_at}
use Rattle.asp_trail.proofs.HoldLaws.{holds_found}
use Rattle.asp_analyze.specs.Learning.{AreContained, IsJump}
use Rattle.asp_trail_laws.proofs.LitLaws.{all_has, eq_differ, has_at}
use Rattle.asp_trail_laws.proofs.PlaceLaws.{blank, stands_at, stands_take, stands_grow, stands_holds, level_at}
use Rattle.asp_trail.proofs.HeldLaws.{ordered_take}
use Rattle.asp_trail_laws.proofs.CutLaws.{front}
use Rattle.asp_search_laws.specs.Steps.{IsBeside}

-- the entries before the newest
pub before_newest : (xs ts : List Entry) (e : Entry) → ts ≡ xs ++ e ∷ [] → take (length ts - 1) ts ≡ xs
before_newest xs ts e q =
    ap (λ (ys : List Entry). take (length ys - 1) ys) q
    ∙ (ap (λ (n : ℕ). take n (xs ++ e ∷ [])) (less (length-append xs (e ∷ []))) ∙ first xs)
  where
    less : length (xs ++ e ∷ []) ≡ length xs + 1 → length (xs ++ e ∷ []) - 1 ≡ length xs
    less h = omega (arith, h)

    first : (ys : List Entry) → take (length ys) (ys ++ e ∷ []) ≡ ys
    first [] = refl
    first (y ∷ ys) = ap (λ (zs : List Entry). y ∷ zs) (first ys)

module _ (vars : ℕ) (es : List Entry) (from n : List Literal) (to : ℕ) (lit : Literal) (o : IsOrdered vars es) (c : AreContained vars es n) (j : IsJump es from n to lit) where
  -- where a literal of the nogood stands
  place : (l : Literal) → has_literal n l ≡ true → (i : ℕ) × (i < length es) × ((d : Entry) → (get_or es i d).lit ≡ l)
  place l h = holds_found vars es l o (all_has (λ m. holds_in (assignment vars es) m ≡ true) n l c h)

  pub jump_var : IsVar vars lit.var
  jump_var =
      let f = place (complement lit) j.has in
      subst (λ (l : Literal). IsVar vars l.var) (f.2 blank) (o.within f.0 blank f.1)

  pub jump_none : value_of (assignment vars (cut to es)) lit.var ≡ None
  jump_none =
      let f = place (complement lit) j.has in
      let k = front to es o.rising in
      let high : level_in es lit.var ≡ (get_or es f.0 blank).level = level_at vars es f.0 blank (complement lit) o f.1 (f.2 blank) in
      let past : k.0 ≤ f.0 = late k.0 f.0 (λ h. omega (arith, k.1.high f.0 blank h, high, j.above)) in
      ap (λ (xs : List Entry). get_or (assignment vars xs) lit.var None) k.1.is
      ∙ (fold_without (replicate (vars + 1) None) (take k.0 es) lit.var (others f.0 f.1 (f.2 blank) k.0 k.1.fits past) ∙ none_at (vars + 1) lit.var)
    where
      late : (a b : ℕ) → (b < a → ⊥) → a ≤ b
      late a b f = omega (arith, f)

      others : (i : ℕ) → i < length es → (get_or es i blank).lit ≡ complement lit → (k : ℕ) → k ≤ length es → k ≤ i → All (λ e. e.lit.var ≢ lit.var) (take k es)
      others i h q k fits past m d l e =
          let small : m < k = omega (arith, l, length-take-le k es fits) in
          o.apart m i blank (omega (arith, small, past)) h
          (sym (ap (λ (x : Entry). x.lit.var) (get_or-take k es m blank small))
          ∙ (ap (λ (x : Entry). x.lit.var) (same (take k es) m blank d l) ∙ (e ∙ sym (ap (λ (x : Literal). x.var) q))))
        where
          same : (xs : List Entry) (m : ℕ) (d e : Entry) → m < length xs → get_or xs m d ≡ get_or xs m e
          same [] m d e h = absurd (omega arith)
          same (x ∷ xs) zero d e h = refl
          same (x ∷ xs) (suc m) d e h = same xs m d e (omega arith)

  -- the others stand among the entries that are left
  left : (l : Literal) → has_literal n l ≡ true → l ≢ complement lit → (i : ℕ) × (b : ℕ) × Stands (cut to es) l i b
  left l h ne =
      let f = place l h in
      let k = front to es o.rising in
      let level : level_in es l.var ≡ (get_or es f.0 blank).level = level_at vars es f.0 blank l o f.1 (f.2 blank) in
      let small : f.0 < k.0 = k.1.low f.0 blank f.1 (omega (arith, level, j.others l h ne)) in (
        f.0,
        (get_or es f.0 blank).level,
        subst (λ (xs : List Entry). Stands xs l f.0 (get_or es f.0 blank).level) (sym k.1.is)
            (stands_take k.0 es l f.0 (get_or es f.0 blank).level k.1.fits small
            (subst (λ (m : Literal). Stands es m f.0 (get_or es f.0 blank).level) (f.2 blank) (stands_at es f.0 blank f.1))),
      )

  pub jump_reason : (e : Entry) → IsReason (cut to es ++ e ∷ []) (length (cut to es)) lit n
  jump_reason e = record {
    has = j.has;
    others = λ l h ne.
        let s = left l h ne in
        (s.0, s.1, s.2.within, stands_grow (cut to es) (e ∷ []) l s.0 s.1 s.2);
  }

  pub jump_beside : All (IsBeside (assignment vars (cut to es)) lit) n
  jump_beside i d h = cases (literal_eq (get_or n i d) (complement lit)) refl
    where
      ordered_cut : IsOrdered vars (cut to es)
      ordered_cut = let k = front to es o.rising in subst (IsOrdered vars) (sym k.1.is) (ordered_take vars es k.0 o)

      cases : (b : Bool) → b ≡ literal_eq (get_or n i d) (complement lit) → IsBeside (assignment vars (cut to es)) lit (get_or n i d)
      cases true q = inl (same_literal (get_or n i d) (complement lit) (sym q))
      cases false q =
          let s = left (get_or n i d) (has_at n i d h) (eq_differ (get_or n i d) (complement lit) (sym q)) in
          inr (stands_holds vars (cut to es) (get_or n i d) s.0 s.1 ordered_cut s.2)
