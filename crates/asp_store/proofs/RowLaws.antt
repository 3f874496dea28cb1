-- Rows of which the first two literals are watched.
use Rattle.std.proofs.Common.{◌≡◌, ◌≢◌, ℕ, zero, suc, ◌<◌, Bool, true, false, cond, ltb, ◌||◌, List, [], ◌∷◌, length, get_or, set, Some, None, inl, inr, refl, sym, ap, ◌∙◌, subst, arith}
use Rattle.std.specs.List.{slice_get, swap}
use Rattle.std.specs.Option.{is_some}
use Rattle.std.proofs.lemmas.Bool.{false≢true}
use Rattle.std.proofs.lemmas.Bool.Decides.{nat_tests}
use Rattle.std.proofs.lemmas.List.Folds.{list_any_none}
use Rattle.std.proofs.lemmas.List.Sorted.{IsPermutation-swap, list_any-IsPermutation}
use Rattle.std.proofs.lemmas.Option.{same_Some, slice_get_within, slice_get-get_or, none-some}
use Rattle.asp_vars.specs.Literals.{Literal, has_literal, literal_eq}
use Rattle.asp_vars.proofs.LiteralLaws.{same_literal}
use Rattle.asp_arena.specs.Rows.{row_at}
use Rattle.asp_store.specs.declared.watch.Pair.{Pair}
use Rattle.asp_store.specs.Looking.{HaveSame, LeadsWith}
use Rattle.asp_store.specs.Pairs.{pair_of, IsBeside}
use Rattle.asp_store.proofs.GetLaws.{at_set}
use Rattle.asp_store.proofs.LookLaws.{eq_itself}

-- ---- the pair of a row
pub pair_none : (row : List Literal) → length row < 2 → pair_of row ≡ None
pair_none [] h = refl
pair_none (a ∷ []) h = refl
pair_none (a ∷ b ∷ row) h = absurd (omega arith)

pub pair_some : (row : List Literal) (x y : Literal) → 1 < length row → x ≡ get_or row 0 x → y ≡ get_or row 1 y → Some (record { first = x; second = y }) ≡ pair_of row
pair_some [] x y h p q = absurd (omega arith)
pair_some (a ∷ []) x y h p q = absurd (omega arith)
pair_some (a ∷ b ∷ row) x y h p q = λ i. Some (record { first = p i; second = q i })

pub two_watched : (row : List Literal) → ltb 1 (length row) ≡ is_some (pair_of row)
two_watched [] = refl
two_watched (a ∷ []) = refl
two_watched (a ∷ b ∷ row) = let more : ltb 1 (length (a ∷ b ∷ row)) ≡ true = grind (arith, nat_tests) in more

pub pair_within : (row : List Literal) (p : Pair) → pair_of row ≡ Some p → 1 < length row
pair_within [] p q = absurd (none-some p q)
pair_within (a ∷ []) p q = absurd (none-some p q)
pair_within (a ∷ b ∷ row) p q = omega arith

pub side_within : (b : Bool) (side n : ℕ) → side ≡ cond b 0 1 → 1 < n → side < n
side_within true side n e h = omega (arith, e, h)
side_within false side n e h = omega (arith, e, h)

-- the row that was set
pub row_set : (rows new : List (List Literal)) (id : ℕ) (row : List Literal) → id < length rows → new ≡ set rows id row → row_at new id ≡ row
row_set rows new id row h e = ap (λ (rs : List (List Literal)). row_at rs id) e ∙ at_set rows id row [] id h refl

-- ---- two literals change places
pub same_swap : (row : List Literal) (i j : ℕ) → i < length row → j < length row → HaveSame row (swap row i j)
same_swap row i j hi hj k = list_any-IsPermutation (λ (x : Literal). literal_eq x k) row (swap row i j) (IsPermutation-swap row (swap row i j) i j hi hj refl)

at_place : (row : List Literal) (j : ℕ) (l d : Literal) → slice_get row j ≡ Some l → get_or row j d ≡ l
at_place row j l d g = same_Some (get_or row j d) l (sym (slice_get-get_or row j d (slice_get_within row j l g)) ∙ g)

-- a literal behind the first two comes to stand at one of their places
leads_first : (a b : Literal) (row : List Literal) (j : ℕ) (l : Literal) → slice_get (a ∷ b ∷ row) j ≡ Some l → l ≢ a → l ≢ b → LeadsWith (a ∷ b ∷ row) (swap (a ∷ b ∷ row) 0 j) l b
leads_first a b row zero l g na nb = absurd (na (sym (same_Some a l g)))
leads_first a b row (suc zero) l g na nb = absurd (nb (sym (same_Some b l g)))
leads_first a b row (suc (suc j)) l g na nb = record {
  pair = record { first = l; second = b };
  pair_is = ap (λ (x : Literal). let p : Pair = record { first = x; second = b } in Some p) (at_place row j l a g);
  beside = inl (refl, refl);
  same = same_swap (a ∷ b ∷ row) 0 (suc (suc j)) (omega arith) (slice_get_within (a ∷ b ∷ row) (suc (suc j)) l g);
}

leads_second : (a b : Literal) (row : List Literal) (j : ℕ) (l : Literal) → slice_get (a ∷ b ∷ row) j ≡ Some l → l ≢ a → l ≢ b → LeadsWith (a ∷ b ∷ row) (swap (a ∷ b ∷ row) 1 j) l a
leads_second a b row zero l g na nb = absurd (na (sym (same_Some a l g)))
leads_second a b row (suc zero) l g na nb = absurd (nb (sym (same_Some b l g)))
leads_second a b row (suc (suc j)) l g na nb = record {
  pair = record { first = a; second = l };
  pair_is = ap (λ (x : Literal). let p : Pair = record { first = a; second = x } in Some p) (at_place row j l a g);
  beside = inr (refl, refl);
  same = same_swap (a ∷ b ∷ row) 1 (suc (suc j)) (omega arith) (slice_get_within (a ∷ b ∷ row) (suc (suc j)) l g);
}

-- the watch at the side goes
pub leads_side : (row : List Literal) (p : Pair) (lit other : Literal) (side j : ℕ) (l : Literal) → pair_of row ≡ Some p → IsBeside p lit other → slice_get row j ≡ Some l → l ≢ lit → l ≢ other →
    side ≡ cond (literal_eq (get_or row 0 lit) lit) 0 1 → LeadsWith row (swap row side j) l other
leads_side [] p lit other side j l q b g n m e = absurd (none-some p q)
leads_side (a ∷ []) p lit other side j l q b g n m e = absurd (none-some p q)
leads_side (a ∷ c ∷ row) p lit other side j l q b g n m e = cases b (literal_eq a lit) refl
  where
    one : a ≡ p.first
    one = ap (λ (x : Pair). x.first) (same_Some (record { first = a; second = c }) p q)

    two : c ≡ p.second
    two = ap (λ (x : Pair). x.second) (same_Some (record { first = a; second = c }) p q)

    at : (t : Bool) → t ≡ literal_eq a lit → side ≡ cond t 0 1
    at t r = e ∙ ap (λ (x : Bool). cond x 0 1) (sym r)

    first : c ≡ other → a ≡ lit → side ≡ 0 → LeadsWith (a ∷ c ∷ row) (swap (a ∷ c ∷ row) side j) l other
    first x y s =
        subst (λ (i : ℕ). LeadsWith (a ∷ c ∷ row) (swap (a ∷ c ∷ row) i j) l other) (sym s)
        (subst (λ (k : Literal). LeadsWith (a ∷ c ∷ row) (swap (a ∷ c ∷ row) 0 j) l k) x (leads_first a c row j l g (λ z. n (z ∙ y)) (λ z. m (z ∙ x))))

    second : a ≡ other → c ≡ lit → side ≡ 1 → LeadsWith (a ∷ c ∷ row) (swap (a ∷ c ∷ row) side j) l other
    second x y s =
        subst (λ (i : ℕ). LeadsWith (a ∷ c ∷ row) (swap (a ∷ c ∷ row) i j) l other) (sym s)
        (subst (λ (k : Literal). LeadsWith (a ∷ c ∷ row) (swap (a ∷ c ∷ row) 1 j) l k) x (leads_second a c row j l g (λ z. m (z ∙ x)) (λ z. n (z ∙ y))))

    cases : IsBeside p lit other → (t : Bool) → t ≡ literal_eq a lit → LeadsWith (a ∷ c ∷ row) (swap (a ∷ c ∷ row) side j) l other
    cases (inl x) true r = first (two ∙ x.1) (one ∙ x.0) (at true r)
    cases (inl x) false r = absurd (false≢true (r ∙ (ap (λ (k : Literal). literal_eq k lit) (one ∙ x.0) ∙ eq_itself lit)))
    cases (inr x) true r =
        let is : a ≡ lit = same_literal a lit (sym r) in
        first (two ∙ (x.1 ∙ (sym is ∙ (one ∙ x.0)))) is (at true r)
    cases (inr x) false r = second (one ∙ x.0) (two ∙ x.1) (at false r)

-- ---- a pair comes first
pub first_within : (row : List Literal) (l : Literal) → has_literal row l ≡ true → 0 < length row
first_within [] l h = absurd (false≢true h)
first_within (a ∷ row) l h = omega arith

pub front_swapped : (row : List Literal) (i : ℕ) (l : Literal) → slice_get row i ≡ Some l → slice_get (swap row 0 i) 0 ≡ Some l
front_swapped [] i l g = absurd (none-some l g)
front_swapped (a ∷ row) zero l g = g
front_swapped (a ∷ row) (suc i) l g = ap (λ (x : Literal). Some x) (at_place row i l a g)

pub second_within : (row : List Literal) (k l : Literal) → slice_get row 0 ≡ Some k → has_literal row l ≡ true → k ≢ l → 1 < length row
second_within [] k l g h ne = absurd (none-some k g)
second_within (a ∷ []) k l g h ne = absurd (cases (literal_eq a l) refl)
  where
    cases : (b : Bool) → b ≡ literal_eq a l → ⊥
    cases true q = ne (sym (same_Some a k g) ∙ same_literal a l (sym q))
    cases false q = false≢true (ap (λ (x : Bool). x || false) q ∙ h)
second_within (a ∷ b ∷ row) k l g h ne = omega arith

pub pair_swapped : (row : List Literal) (p : Pair) (j : ℕ) → slice_get row 0 ≡ Some p.first → slice_get row j ≡ Some p.second → p.first ≢ p.second → pair_of (swap row 1 j) ≡ Some p
pair_swapped [] p j f s ne = absurd (none-some p.first f)
pair_swapped (a ∷ []) p zero f s ne = absurd (ne (sym (same_Some a p.first f) ∙ same_Some a p.second s))
pair_swapped (a ∷ []) p (suc j) f s ne = absurd (none-some p.second s)
pair_swapped (a ∷ b ∷ row) p zero f s ne = absurd (ne (sym (same_Some a p.first f) ∙ same_Some a p.second s))
pair_swapped (a ∷ b ∷ row) p (suc zero) f s ne =
    let x = same_Some a p.first f in
    let y = same_Some b p.second s in
    λ i. Some (record { first = x i; second = y i })
pair_swapped (a ∷ b ∷ row) p (suc (suc j)) f s ne =
    let x = same_Some a p.first f in
    let y = at_place row j p.second a s in
    λ i. Some (record { first = x i; second = y i })

-- none of the literals is this one
pub has_none : (row : List Literal) (l : Literal) → ((j : ℕ) (d : Literal) → j < length row → literal_eq (get_or row j d) l ≡ false) → has_literal row l ≡ true → ⊥
has_none row l other h = false≢true (sym (list_any_none (λ (x : Literal). literal_eq x l) row other) ∙ h)

-- both literals come to stand there
pub ordered : (lits : List Literal) (p : Pair) (i j : ℕ) → slice_get lits i ≡ Some p.first → slice_get (swap lits 0 i) j ≡ Some p.second → p.first ≢ p.second →
    (pair_of (swap (swap lits 0 i) 1 j) ≡ Some p) × HaveSame lits (swap (swap lits 0 i) 1 j)
ordered lits p i j f s ne =
    let front = front_swapped lits i p.first f in
    let pair = pair_swapped (swap lits 0 i) p j front s ne in
    let inside : i < length lits = slice_get_within lits i p.first f in
    let two : 1 < length (swap lits 0 i) = some_second (swap lits 0 i) front s in (
      pair,
      λ k. same_swap lits 0 i (omega arith) inside k ∙ same_swap (swap lits 0 i) 1 j two (slice_get_within (swap lits 0 i) j p.second s) k,
    )
  where
    some_second : (row : List Literal) → slice_get row 0 ≡ Some p.first → slice_get row j ≡ Some p.second → 1 < length row
    some_second [] g h = absurd (none-some p.first g)
    some_second (a ∷ []) g h = absurd (alone j h)
      where
        alone : (k : ℕ) → slice_get (a ∷ []) k ≡ Some p.second → ⊥
        alone zero q = ne (sym (same_Some a p.first g) ∙ same_Some a p.second q)
        alone (suc k) q = none-some p.second q
    some_second (a ∷ b ∷ row) g h = omega arith
