-- A literal's code is among those of the nogoods exactly where one of these has the literal.
use Rattle.std.proofs.Common.{Ordering, ◌≡◌, ℕ, ◌+◌, ◌*◌, Bool, true, false, cond, ◌&&◌, ◌||◌, eqb, List, [], ◌∷◌, ◌++◌, ◌<◌, drop, get_or, length, fold, refl, sym, ap, ◌∙◌, arith}
use Rattle.std.specs.Prelude.{ℤ}
use Rattle.std.specs.Bool.{beq}
use Rattle.std.specs.Ordering.{is_eq, match_ordering, nat_cmp}
use Rattle.std.specs.declared.cmp.Ordering.TheVariants.{Less, Equal, Greater}
use Rattle.std.specs.Cmp.{unsigned_tied}
use Rattle.std.specs.BTreeSet.{insert_key}
use Rattle.std.proofs.lemmas.Bool.{eqb-true, false≢true}
use Rattle.std.proofs.lemmas.Bool.Decides.{nat_tests}
use Rattle.std.proofs.lemmas.List.{append_assoc, at_drop_more}
use Rattle.std.proofs.lemmas.List.Elements.{filter-append}
use Rattle.asp_model.specs.declared.program.Program.{Program}
use Rattle.asp_vars.specs.Codes.{code_of}
use Rattle.asp_vars.specs.Literals.{Literal, has_literal, literal_eq}
use Rattle.asp_vars.specs.Numbering.{literal_of}
use Rattle.asp_core.specs.declared.reason.Reason.{Reason}
use Rattle.asp_unsat.specs.Blaming.{coded_in, codes_by, has_code, with_codes}
use Rattle.asp_unsat.specs.Cores.{blamed_by, is_blamed}

or-idle : (a b c : Bool) → a ≡ b → (a || c) ≡ (b || (a || c))
or-idle true true c same = refl
or-idle false false c same = refl
or-idle true false c same = refl
or-idle false true c same = absurd (false≢true same)

or-swap : (a b c : Bool) → (a || (b || c)) ≡ (b || (a || c))
or-swap true true c = refl
or-swap true false c = refl
or-swap false b c = refl

or-last : (a b c : Bool) → (a || (b || c)) ≡ ((b || a) || c)
or-last true true c = refl
or-last true false c = refl
or-last false b c = sym (or-false b c)
  where
    or-false : (b c : Bool) → ((b || false) || c) ≡ (b || c)
    or-false true c = refl
    or-false false c = refl

-- an equal number has the same code beside each other one
same_tie : (n k x : ℕ) → nat_cmp k x ≡ Equal → is_eq (nat_cmp n x) ≡ is_eq (nat_cmp n k)
same_tie n k x tie = ap (λ y. is_eq (nat_cmp n y)) (sym (eqb-true k x (sym (unsigned_tied k x) ∙ ap is_eq tie)))

-- the list has what was put into it, and what it had
has-insert : (ks : List ℕ) (k n : ℕ) → has_code (insert_key nat_cmp ks k) n ≡ (is_eq (nat_cmp n k) || has_code ks n)
has-insert [] k n = refl
has-insert (x ∷ xs) k n = by (nat_cmp k x) refl (has-insert xs k n)
  where
    by : (r : Ordering) → nat_cmp k x ≡ r → has_code (insert_key nat_cmp xs k) n ≡ (is_eq (nat_cmp n k) || has_code xs n) →
        has_code (match_ordering r (k ∷ x ∷ xs) (x ∷ xs) (x ∷ insert_key nat_cmp xs k)) n ≡ (is_eq (nat_cmp n k) || (is_eq (nat_cmp n x) || has_code xs n))
    by Less is rest = refl
    by Equal is rest = or-idle (is_eq (nat_cmp n x)) (is_eq (nat_cmp n k)) (has_code xs n) (same_tie n k x is)
    by Greater is rest =
        ap (λ b. is_eq (nat_cmp n x) || b) rest
        ∙ or-swap (is_eq (nat_cmp n x)) (is_eq (nat_cmp n k)) (has_code xs n)

-- codes are equal exactly where their literals are
codes_tie : (v w : ℕ) (t u : Bool) → eqb (2 * v + cond t 0 1) (2 * w + cond u 0 1) ≡ (eqb w v && beq u t)
codes_tie v w true true = grind (arith, nat_tests)
codes_tie v w true false = grind (arith, nat_tests)
codes_tie v w false true = grind (arith, nat_tests)
codes_tie v w false false = grind (arith, nat_tests)

code_tie : (l k : Literal) → is_eq (nat_cmp (code_of l) (code_of k)) ≡ literal_eq k l
code_tie l k = unsigned_tied (code_of l) (code_of k) ∙ codes_tie l.var k.var l.truth k.truth

-- ---- literals, one after another
has-with : (lits : List Literal) (ks : List ℕ) (l : Literal) → has_code (with_codes ks lits) (code_of l) ≡ (has_literal lits l || has_code ks (code_of l))
has-with [] ks l = refl
has-with (k ∷ lits) ks l =
    has-with lits (insert_key nat_cmp ks (code_of k)) l
    ∙ ap (λ b. has_literal lits l || b) (has-insert ks (code_of k) (code_of l) ∙ ap (λ b. b || has_code ks (code_of l)) (code_tie l k))
    ∙ or-last (has_literal lits l) (literal_eq k l) (has_code ks (code_of l))

has-all : (reasons : List Reason) (ks : List ℕ) (l : Literal) → has_code (fold (λ js r. with_codes js r.nogood) ks reasons) (code_of l) ≡ (is_blamed reasons l || has_code ks (code_of l))
has-all [] ks l = refl
has-all (r ∷ reasons) ks l =
    has-all reasons (with_codes ks r.nogood) l
    ∙ ap (λ b. is_blamed reasons l || b) (has-with r.nogood ks l)
    ∙ or-last (is_blamed reasons l) (has_literal r.nogood l) (has_code ks (code_of l))

or-none : (b : Bool) → (b || false) ≡ b
or-none true = refl
or-none false = refl

pub has-blamed : (reasons : List Reason) (l : Literal) → has_code (codes_by reasons) (code_of l) ≡ is_blamed reasons l
has-blamed reasons l = has-all reasons [] l ∙ or-none (is_blamed reasons l)

-- those of the literals whose codes are among the nogoods' stand in one of these
pub coded-blamed : (p : Program) (reasons : List Reason) (literals : List ℤ) → coded_in p (codes_by reasons) literals ≡ blamed_by p reasons literals
coded-blamed p reasons [] = refl
coded-blamed p reasons (l ∷ literals) =
    ap (λ b. cond b (l ∷ coded_in p (codes_by reasons) literals) (coded_in p (codes_by reasons) literals)) (has-blamed reasons (literal_of p l))
    ∙ ap (λ rest. cond (is_blamed reasons (literal_of p l)) (l ∷ rest) rest) (coded-blamed p reasons literals)

-- what one more literal adds
pub coded_more : (p : Program) (codes : List ℕ) (core new ls : List ℤ) (i : ℕ) (d : ℤ) → i < length ls → new ≡ core ++ coded_in p codes (get_or ls i d ∷ []) →
    new ++ coded_in p codes (drop (i + 1) ls) ≡ core ++ coded_in p codes (drop i ls)
coded_more p codes core new ls i d lt is =
    ap (λ xs. xs ++ coded_in p codes (drop (i + 1) ls)) is
    ∙ append_assoc core (coded_in p codes (get_or ls i d ∷ [])) (coded_in p codes (drop (i + 1) ls))
    ∙ ap (λ xs. core ++ xs) (sym (filter-append (λ l. has_code codes (code_of (literal_of p l))) (get_or ls i d ∷ []) (drop (i + 1) ls)))
    ∙ sym (at_drop_more (λ xs. core ++ coded_in p codes xs) ls i d lt)
