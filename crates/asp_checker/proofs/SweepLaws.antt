-- Nogoods that are looked at one after another.
use Rattle.std.proofs.Common.{◌≡◌, ℕ, suc, zero, ◌+◌, ◌<◌, ◌≤◌, Bool, true, false, not, ◌||◌, List, [], ◌∷◌, ◌++◌, length, take, get_or, refl, sym, ap, ◌∙◌, arith, subst, Option, Some, set}
use Rattle.std.specs.List.{AllByRecursion}
use Rattle.std.proofs.lemmas.Bool.{false≢true}
use Rattle.std.proofs.lemmas.List.{take_all, take_more, length-set}
use Rattle.asp_model.specs.declared.program.Program.{Program}
use Rattle.asp_model.proofs.MemberLaws.{each-append}
use Rattle.asp_vars.specs.Literals.{Literal, literal_eq, has_literal, complement}
use Rattle.asp_vars.proofs.LiteralLaws.{same_literal}
use Rattle.asp_checker.specs.declared.nogoods.Visit.{Visit}
use Rattle.asp_checker.specs.declared.nogoods.Visit.TheVariants as visit
use Rattle.asp_checker.specs.Propagation.{Known}
use Rattle.asp_checker.specs.Lines.{IsOf, AreOf}
use Rattle.asp_checker.specs.Steps.{AreWithin, Follow}
use Rattle.asp_checker.specs.Looks.{IsAtFixpoint, IsVisited}
use Rattle.asp_checker.specs.Sweeps.{open_count, Grows, AreInRange, IsNogoodOf, Implies, Refutes, IsSwept, IsSweptSoFar, later}
use Rattle.asp_checker.proofs.StepLaws.{unit-forces, follow-more, violated-conflicts}
use Rattle.asp_checker.proofs.LookLaws.{among_range}
use Rattle.asp_checker.proofs.WeightLaws.{within-set, within-then}
use Rattle.asp_checker.proofs.BlockLaws.{open_count-set}

among_of : (p : Program) (n : List Literal) (l : Literal) → AreOf p n → has_literal n l ≡ true → IsOf p l
among_of p [] l h e = absurd (false≢true e)
among_of p (k ∷ n) l h e = (elim (literal_eq k l) as (λ v. literal_eq k l ≡ v → (v || has_literal n l) ≡ true → IsOf p l) [
  | true ↦ λ q i. subst (IsOf p) (same_literal k l q) h.0
  | false ↦ λ q i. among_of p n l h.1 i
]) refl e

-- the value that a nogood implies follows
pub visit_follows : (p : Program) (k : Known) (n m : List Literal) (x y : List (Option Bool)) → IsNogoodOf p k m →
    AllByRecursion (λ l. l.var < length x) m → Follow p k n x → IsVisited x y m visit.Implied → Follow p k n y
visit_follows p k n m x y of range follow v =
    let u : Literal = v.0 in
    let stands = among_of p m u of.of v.1.among in
    subst (Follow p k n) (sym v.2) (follow-more p k n x (complement u) (among_range (length x) m u range v.1.among) follow (unit-forces p k x m u of.known stands.0 stands.1 v.1.others))

pub row_of : {A : Type 0} (P : A → Type 0) (xs : List A) (i : ℕ) (x : A) → i < length xs → x ≡ get_or xs i x → AllByRecursion P xs → P x
row_of P [] i x lt e h = absurd (omega arith)
row_of P (y ∷ xs) zero x lt e h = subst P (sym e) h.0
row_of P (y ∷ xs) (suc i) x lt e h = row_of P xs i x (omega arith) e h.1

pub row_range : (places : ℕ) (rows : List (List Literal)) (i : ℕ) (row : List Literal) → i < length rows → row ≡ get_or rows i row → AreInRange places rows → AllByRecursion (λ l. l.var < places) row
row_range places rows i row lt e h = row_of (AllByRecursion (λ l. l.var < places)) rows i row lt e h

implied : (x z y : List (Option Bool)) (rows : List (List Literal)) (i : ℕ) (row : List Literal) → i < length rows → row ≡ get_or rows i row →
    AllByRecursion (λ l. l.var < length z) row → Implies rows x z → IsVisited z y row visit.Implied → Implies rows x y
implied x z y rows i row lt e range before v = λ p k n known follow. visit_follows p k n row z y (row_of (IsNogoodOf p k) rows i row lt e known) range (before p k n known follow) v

nothing : (x z : List (Option Bool)) (rows : List (List Literal)) → z ≡ x → Implies rows x z
nothing x z rows e = λ p k n known follow. subst (Follow p k n) (sym e) follow

before_row : (x z : List (Option Bool)) (rows front : List (List Literal)) (came : Visit) → IsSweptSoFar x z rows front came → Implies rows x z
before_row x z rows front visit.Fixpoint h = nothing x z rows h.0
before_row x z rows front visit.Conflict h = absurd h
before_row x z rows front visit.Implied h = h.0

pub visit_grows : (x y : List (Option Bool)) (row : List Literal) → AllByRecursion (λ l. l.var < length x) row → IsVisited x y row visit.Implied → Grows x y
visit_grows x y row range v =
    let u : Literal = v.0 in
    let lt : u.var < length x = among_range (length x) row u range v.1.among in
    let one = open_count-set x u.var (not u.truth) lt v.1.no_value in
    let count : open_count y ≡ open_count (set x u.var (Some (not u.truth))) = ap open_count v.2 in
    record {
      size = ap length v.2 ∙ length-set x u.var (Some (not u.truth));
      within = subst (AreWithin x) (sym v.2) (within-set x u.var (not u.truth) v.1.no_value);
      fewer = omega (arith, one, count);
    }

pub grows_then : (x y z : List (Option Bool)) → Grows x y → Grows y z → Grows x z
grows_then x y z a b = record { size = b.size ∙ a.size; within = within-then x y z a.within b.within; fewer = let c = a.fewer in let d = b.fewer in omega arith }

grown : (x z y : List (Option Bool)) (rows front : List (List Literal)) (row : List Literal) (came : Visit) →
    AllByRecursion (λ l. l.var < length z) row → IsSweptSoFar x z rows front came → IsVisited z y row visit.Implied → Grows x y
grown x z y rows front row visit.Fixpoint range h v = subst (λ w. Grows w y) h.0 (visit_grows z y row range v)
grown x z y rows front row visit.Conflict range h v = absurd h
grown x z y rows front row visit.Implied range h v = grows_then x z y h.1 (visit_grows z y row range v)

-- one more nogood, without a conflict
one_more : (x z y : List (Option Bool)) (rows front : List (List Literal)) (i : ℕ) (row : List Literal) (came now : Visit) → i < length rows →
    row ≡ get_or rows i row → AllByRecursion (λ l. l.var < length z) row
    → (now ≡ visit.Conflict → ⊥) → IsSweptSoFar x z rows front came → IsVisited z y row now → IsSweptSoFar x y rows (front ++ row ∷ []) (later came now)
one_more x z y rows front i row came visit.Conflict lt e range quiet h v = absurd (quiet refl)
one_more x z y rows front i row came visit.Implied lt e range quiet h v = (implied x z y rows i row lt e range (before_row x z rows front came h) v, grown x z y rows front row came range h v)
one_more x z y rows front i row visit.Fixpoint visit.Fixpoint lt e range quiet h v =
    (v.1 ∙ h.0, each-append (IsAtFixpoint x) front (row ∷ []) h.1 (subst (λ (w : List (Option Bool)). IsAtFixpoint w row) h.0 v.0, tt))
one_more x z y rows front i row visit.Implied visit.Fixpoint lt e range quiet h v = subst (λ w. Implies rows x w × Grows x w) (sym v.1) h
one_more x z y rows front i row visit.Conflict visit.Fixpoint lt e range quiet h v = h

pub swept_more : (x z y : List (Option Bool)) (rows : List (List Literal)) (i : ℕ) (row : List Literal) (came now : Visit) → i < length rows → row ≡ get_or rows i row → AreInRange (length z) rows
    → (now ≡ visit.Conflict → ⊥) → IsSweptSoFar x z rows (take i rows) came → IsVisited z y row now → IsSweptSoFar x y rows (take (i + 1) rows) (later came now)
swept_more x z y rows i row came now lt e range quiet h v =
    subst (λ (front : List (List Literal)). IsSweptSoFar x y rows front (later came now)) (ap (λ r. take i rows ++ r ∷ []) e ∙ sym (take_more rows i row lt))
    (one_more x z y rows (take i rows) i row came now lt e (row_range (length z) rows i row lt e range) quiet h v)

-- all literals of a nogood hold
pub swept_conflict : (x z y : List (Option Bool)) (rows front : List (List Literal)) (i : ℕ) (row : List Literal) (came : Visit) → i < length rows →
    row ≡ get_or rows i row → IsSweptSoFar x z rows front came → IsVisited z y row visit.Conflict → Refutes rows x
swept_conflict x z y rows front i row came lt e h v = λ p k n known follow.
    violated-conflicts p k z n row (row_of (IsNogoodOf p k) rows i row lt e known).known (before_row x z rows front came h p k n known follow) v.0

pub swept_whole : (x y : List (Option Bool)) (rows : List (List Literal)) (i : ℕ) (came : Visit) → length rows ≤ i → IsSweptSoFar x y rows (take i rows) came → IsSwept x y rows came
swept_whole x y rows i visit.Fixpoint le h = (h.0, subst (AllByRecursion (IsAtFixpoint x)) (take_all i rows le) h.1)
swept_whole x y rows i visit.Conflict le h = absurd h
swept_whole x y rows i visit.Implied le h = h

pub same_size : (x y : List (Option Bool)) (n : List Literal) (now : Visit) → IsVisited x y n now → length y ≡ length x
same_size x y n visit.Fixpoint v = ap length v.1
same_size x y n visit.Conflict v = ap length v.1
same_size x y n visit.Implied v = ap length v.2 ∙ length-set x v.0.var _
