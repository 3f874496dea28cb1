-- Literals of a line, and the assumptions.
use Rattle.std.proofs.Common.{◌≡◌, ℕ, zero, suc, ◌+◌, ◌<◌, ◌≤◌, Bool, true, false, List, [], ◌∷◌, ◌++◌, length, take, get_or, refl, sym, ap, ◌∙◌, arith}
use Rattle.std.specs.Prelude.{ℤ, pos, negsuc, int_lt}
use Rattle.std.proofs.Math.IntN.{nat_abs}
use Rattle.std.proofs.lemmas.Bool.Decides.{nat_tests}
use Rattle.std.proofs.lemmas.List.{take_all, take_more, map-append}
use Rattle.asp_model.specs.declared.program.Program.{Program}
use Rattle.asp_vars.specs.Literals.{Literal}
use Rattle.asp_checker.specs.Lines.{signed, literals_of, IsOf, AreOf}

abbrev lit : ℕ → Bool → Literal
lit v t = record { var = v; truth = t }

same_parts : (a n : ℕ) (b c : Bool) → a ≡ n → b ≡ c → lit a b ≡ lit n c
same_parts a n b c e t = cc

pub signed_is : (z : ℤ) (a : ℕ) (b : Bool) → a ≡ nat_abs z → 0 < a → b ≡ int_lt (pos 0) z → lit a b ≡ signed z
signed_is (pos n) a b e lt t = let positive : int_lt (pos 0) (pos n) ≡ true = grind (arith, nat_tests) in same_parts a n b true e (t ∙ positive)
signed_is (negsuc n) a b e lt t = same_parts a (suc n) b false e t

pub signed_var : (z : ℤ) → (signed z).var ≡ nat_abs z
signed_var (pos n) = refl
signed_var (negsuc n) = refl

pub are_at : (p : Program) (ls : List ℤ) (i : ℕ) → i < length ls → AreOf p (literals_of ls) → IsOf p (signed (get_or ls i (pos 0)))
are_at p [] i lt h = absurd (omega arith)
are_at p (l ∷ ls) zero lt h = h.0
are_at p (l ∷ ls) (suc i) lt h = are_at p ls i (omega arith) h.1

pub literals_more : (ls : List ℤ) (i : ℕ) (n now : List Literal) (l : Literal) → i < length ls → n ≡ literals_of (take i ls) → now ≡ n ++ l ∷ [] →
    l ≡ signed (get_or ls i (pos 0)) → now ≡ literals_of (take (i + 1) ls)
literals_more ls i n now l lt so e is =
    e ∙ ap (λ (m : List Literal). m ++ l ∷ []) so ∙ ap (λ k. literals_of (take i ls) ++ k ∷ []) is
    ∙ sym (map-append signed (take i ls) (get_or ls i (pos 0) ∷ [])) ∙ ap literals_of (sym (take_more ls i (pos 0) lt))

pub literals_all : (ls : List ℤ) (i : ℕ) (n : List Literal) → length ls ≤ i → n ≡ literals_of (take i ls) → n ≡ literals_of ls
literals_all ls i n le e = e ∙ ap literals_of (take_all i ls le)
