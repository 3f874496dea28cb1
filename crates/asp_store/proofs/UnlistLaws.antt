-- Lists from which a number is taken.
use Rattle.std.proofs.Common.{◌≡◌, ◌≢◌, ℕ, suc, zero, ◌<◌, Bool, true, false, not, eqb, cond, filter, List, [], ◌∷◌, length, get_or, Some, inl, inr, refl, sym, ap, ◌∙◌, arith}
use Rattle.std.specs.List.{slice_get}
use Rattle.std.proofs.lemmas.Bool.{false≢true, eq-eqb, eqb-true}
use Rattle.std.proofs.lemmas.List.{length-set}
use Rattle.std.proofs.lemmas.Option.{none-some, same_Some}
use Rattle.asp_vars.specs.Literals.{Literal}
use Rattle.asp_vars.specs.Codes.{code_of}
use Rattle.asp_store.specs.Marks.{Watch}
use Rattle.asp_store.specs.Lists.{list_at, place, without}
use Rattle.asp_store.specs.Unlisting.{Keeps, IsUnlisted}
use Rattle.asp_store.proofs.GetLaws.{is_or_not}
use Rattle.asp_store.proofs.PlaceLaws.{place_here, place_else, place_some}
use Rattle.asp_store.proofs.LookLaws.{one_of_two}

-- ---- elements that a test leaves
get_filter_some : {A : Type 0} (p : A → Bool) (xs : List A) (i : ℕ) (x : A) → slice_get (filter p xs) i ≡ Some x → (p x ≡ true) × ((j : ℕ) × (slice_get xs j ≡ Some x))
get_filter_some p [] i x g = absurd (none-some x g)
get_filter_some {A = A} p (y ∷ xs) i x g = cases (p y) refl i g (λ j h. get_filter_some p xs j x h)
  where
    cases : (b : Bool) → b ≡ p y → (i : ℕ) → slice_get (cond b (y ∷ filter p xs) (filter p xs)) i ≡ Some x →
        ((k : ℕ) → slice_get (filter p xs) k ≡ Some x → (p x ≡ true) × ((j : ℕ) × (slice_get xs j ≡ Some x))) → (p x ≡ true) × ((j : ℕ) × (slice_get (y ∷ xs) j ≡ Some x))
    cases true e zero h rest = let q : y ≡ x = same_Some y x h in (ap p (sym q) ∙ sym e, (0, h))
    cases true e (suc i) h rest = let r = rest i h in (r.0, (suc r.1.0, r.1.1))
    cases false e i h rest = let r = rest i h in (r.0, (suc r.1.0, r.1.1))

get_filter : {A : Type 0} (p : A → Bool) (xs : List A) (j : ℕ) (x : A) → slice_get xs j ≡ Some x → p x ≡ true → (i : ℕ) × (slice_get (filter p xs) i ≡ Some x)
get_filter p [] j x g h = absurd (none-some x g)
get_filter {A = A} p (y ∷ xs) zero x g h = cases (p y) refl
  where
    cases : (b : Bool) → b ≡ p y → (i : ℕ) × (slice_get (cond b (y ∷ filter p xs) (filter p xs)) i ≡ Some x)
    cases true e = (0, g)
    cases false e = absurd (false≢true (e ∙ (ap p (same_Some y x g) ∙ h)))
get_filter {A = A} p (y ∷ xs) (suc j) x g h = cases (p y) (get_filter p xs j x g h)
  where
    cases : (b : Bool) → (i : ℕ) × (slice_get (filter p xs) i ≡ Some x) → (i : ℕ) × (slice_get (cond b (y ∷ filter p xs) (filter p xs)) i ≡ Some x)
    cases true r = (suc r.0, r.1)
    cases false r = r

-- ---- one list
other_when : (id : ℕ) (x : Watch) → x.id ≢ id → not (eqb x.id id) ≡ true
other_when id x ne = cases (eqb x.id id) refl
  where
    cases : (b : Bool) → b ≡ eqb x.id id → not b ≡ true
    cases true e = absurd (ne (eqb-true x.id id (sym e)))
    cases false e = refl

when_other : (id : ℕ) (x : Watch) → not (eqb x.id id) ≡ true → x.id ≢ id
when_other id x h e = false≢true (sym (ap not (eq-eqb x.id id e)) ∙ h)

without_keeps : (lists : List (List Watch)) (c id : ℕ) → c < length lists → Keeps lists (without id c lists) id
without_keeps lists c id h = record {
  len = length-set lists c (filter (λ x. not (eqb x.id id)) (list_at lists c));
  from = λ k i x g. elim (place_some lists c (filter (λ y. not (eqb y.id id)) (list_at lists c)) k i x h g) [
    | inl o ↦ (i, o)
    | inr o ↦ let r = get_filter_some (λ y. not (eqb y.id id)) (list_at lists c) i x o.1 in (r.1.0, ap (λ (j : ℕ). place lists j r.1.0) o.0 ∙ r.1.1)
  ];
  stay = λ l j n ne s. elim (is_or_not (code_of l) c) [
    | inr other ↦ record {
      at = s.at;
      watch = s.watch;
      from = s.from;
      stands = place_else lists c (filter (λ y. not (eqb y.id id)) (list_at lists c)) (code_of l) s.at other ∙ s.stands;
      id_is = s.id_is;
      has = s.has;
    }
    | inl e ↦
        let r = get_filter (λ y. not (eqb y.id id)) (list_at lists c) s.at s.watch (ap (λ (k : ℕ). place lists k s.at) (sym e) ∙ s.stands)
        (other_when id s.watch (λ q. ne (sym s.id_is ∙ q))) in
        record {
          at = r.0;
          watch = s.watch;
          from = omega arith;
          stands = place_here lists c (filter (λ y. not (eqb y.id id)) (list_at lists c)) (code_of l) r.0 h e ∙ r.1;
          id_is = s.id_is;
          has = s.has;
        }
  ];
}

without_none : (lists : List (List Watch)) (c id i : ℕ) (x : Watch) → c < length lists → place (without id c lists) c i ≡ Some x → x.id ≢ id
without_none lists c id i x h g =
    when_other id x (get_filter_some (λ y. not (eqb y.id id)) (list_at lists c) i x (sym (place_here lists c (filter (λ y. not (eqb y.id id)) (list_at lists c)) c i h refl) ∙ g)).0

-- ---- two lists
pub two_list : (n : List Literal) (d : Literal) → length n ≡ 2 → n ≡ get_or n 0 d ∷ get_or n 1 d ∷ []
two_list [] d h = absurd (omega arith)
two_list (a ∷ []) d h = absurd (omega arith)
two_list (a ∷ b ∷ []) d h = refl
two_list (a ∷ b ∷ c ∷ n) d h = absurd (omega arith)

keeps_more : (a b c : List (List Watch)) (id : ℕ) → Keeps a b id → Keeps b c id → Keeps a c id
keeps_more a b c id x y = record {
  len = y.len ∙ x.len;
  from = λ k i w g. let o = y.from k i w g in x.from k o.0 w o.1;
  stay = λ l j n ne s. y.stay l j n ne (x.stay l j n ne s);
}

pub both_keep : (lists : List (List Watch)) (a b id : ℕ) → a < length lists → b < length lists → Keeps lists (without id b (without id a lists)) id
both_keep lists a b id h g =
    let x = without_keeps lists a id h in
    keeps_more lists (without id a lists) (without id b (without id a lists)) id x (without_keeps (without id a lists) b id (omega (arith, g, x.len)))

pub both_none : (lists : List (List Watch)) (f s : Literal) (id : ℕ) → code_of f < length lists → code_of s < length lists →
    IsUnlisted (without id (code_of s) (without id (code_of f) lists)) (f ∷ s ∷ []) id
both_none lists f s id h g l i x has at =
    let k = without_keeps lists (code_of f) id h in
    let inside : code_of s < length (without id (code_of f) lists) = omega (arith, g, k.len) in
    elim (one_of_two f s l has) [
      | inl e ↦
          let was = (without_keeps (without id (code_of f) lists) (code_of s) id inside).from (code_of f) i x
          (ap (λ (y : Literal). place (without id (code_of s) (without id (code_of f) lists)) (code_of y) i) e ∙ at) in
          without_none lists (code_of f) id was.0 x h was.1
      | inr e ↦ without_none (without id (code_of f) lists) (code_of s) id i x inside (ap (λ (y : Literal). place (without id (code_of s) (without id (code_of f) lists)) (code_of y) i) e ∙ at)
    ]
