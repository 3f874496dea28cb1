-- What a nogood says goes over to one with more literals, to more answers and to a smaller bound.
use Rattle.std.proofs.Common.{◌≡◌, Bool, true, false, ◌||◌, List, [], ◌∷◌, ◌++◌, Option, Some, None, refl, ◌∙◌}
use Rattle.std.specs.Prelude.{ℤ}
use Rattle.std.specs.List.{list_any}
use Rattle.std.specs.Bool.{beq}
use Rattle.std.proofs.Common.{eqb, inl, inr}
use Rattle.std.proofs.lemmas.Bool.{false≢true, and_from, or_cases, eq-eqb}
use Rattle.std.proofs.lemmas.List.Folds.{list_any-append}
use Rattle.asp_model.specs.declared.program.Program.{Program}
use Rattle.asp_model.specs.Sets.{Atoms, same_set}
use Rattle.asp_model.specs.Costs.{betters}
use Rattle.asp_vars.specs.Literals.{Literal, literal_eq, has_literal, is_true, hits}
use Rattle.asp_vars.specs.Numbering.{values}
use Rattle.asp_vars.specs.Entailment.{HitsOnly, Settled, is_done, costs, costs_bound}
use Rattle.asp_vars.specs.Resolution.{IsWithin}
use Rattle.asp_vars.proofs.LiteralLaws.{hits-has}
use Rattle.asp_vars.proofs.ResolutionLaws.{costs_within, HitsOnly-weaker}

or_left : (a b : Bool) → a ≡ true → (a || b) ≡ true
or_left true b e = refl
or_left false b e = absurd (false≢true e)

or_right : (a b : Bool) → b ≡ true → (a || b) ≡ true
or_right true b e = refl
or_right false b e = e

same_bool : (b : Bool) → beq b b ≡ true
same_bool true = refl
same_bool false = refl

itself : (l : Literal) → literal_eq l l ≡ true
itself l = and_from (eqb l.var l.var) (beq l.truth l.truth) (eq-eqb l.var l.var refl) (same_bool l.truth)

pub hits-within : (v : List Bool) (n m : List Literal) → IsWithin n m → hits v m ≡ true → hits v n ≡ true
hits-within v [] m w h = refl
hits-within v (l ∷ n) m w h =
    and_from (is_true v l) (hits v n) (hits-has v m l h (w l (or_left (literal_eq l l) (has_literal n l) (itself l))))
    (hits-within v n m (λ k e. w k (or_right (literal_eq l k) (has_literal n k) e)) h)

pub more_literals : (p : Program) (excuse : Atoms → Bool) (n m : List Literal) → IsWithin n m → HitsOnly p excuse n → HitsOnly p excuse m
more_literals p excuse n m w f = record { excused = λ S stable h. f.excused S stable (hits-within (values p S) n m w h) }

done_more : (p : Program) (K : List Atoms) (T : Atoms) (bound : Option (List ℤ)) (S : Atoms) → is_done p K bound S ≡ true → is_done p (K ++ T ∷ []) bound S ≡ true
done_more p K T bound S e =
    elim (or_cases (list_any (same_set S) K) (costs_bound p bound S) e) [
      | inl a ↦ or_left (list_any (same_set S) (K ++ T ∷ [])) (costs_bound p bound S) (list_any-append (same_set S) K (T ∷ []) ∙ or_left (list_any (same_set S) K) (list_any (same_set S) (T ∷ [])) a)
      | inr b ↦ or_right (list_any (same_set S) (K ++ T ∷ [])) (costs_bound p bound S) b
    ]

pub more_answers : (p : Program) (K : List Atoms) (T : Atoms) (bound : Option (List ℤ)) (n : List Literal) → Settled p K bound n → Settled p (K ++ T ∷ []) bound n
more_answers p K T bound n f = HitsOnly-weaker p (is_done p K bound) (is_done p (K ++ T ∷ []) bound) n (done_more p K T bound) f

done_lower : (p : Program) (K : List Atoms) (c d : List ℤ) (S : Atoms) → betters c d ≡ false → is_done p K (Some c) S ≡ true → is_done p K (Some d) S ≡ true
done_lower p K c d S le e =
    elim (or_cases (list_any (same_set S) K) (costs p c S) e) [
      | inl a ↦ or_left (list_any (same_set S) K) (costs p d S) a
      | inr b ↦ or_right (list_any (same_set S) K) (costs p d S) (costs_within p S c d le b)
    ]

pub lower_bound : (p : Program) (K : List Atoms) (c d : List ℤ) (n : List Literal) → betters c d ≡ false → Settled p K (Some c) n → Settled p K (Some d) n
lower_bound p K c d n le f = HitsOnly-weaker p (is_done p K (Some c)) (is_done p K (Some d)) n (λ S. done_lower p K c d S le) f

-- a bound that is found
pub found_bound : (p : Program) (K : List Atoms) (c : List ℤ) (n : List Literal) → Settled p K None n → Settled p K (Some c) n
found_bound p K c n h = HitsOnly-weaker p (is_done p K None) (is_done p K (Some c)) n (λ S e. done S e) h
  where
    done : (S : Atoms) → is_done p K None S ≡ true → is_done p K (Some c) S ≡ true
    done S e = more (list_any (same_set S) K) (costs p c S) e
      where
        more : (a b : Bool) → (a || false) ≡ true → (a || b) ≡ true
        more true b q = refl
        more false b q = absurd (false≢true q)
