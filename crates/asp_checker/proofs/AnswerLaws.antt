-- The nogoods of listed answers.
use Rattle.std.proofs.Common.{◌≡◌, ℕ, ◌+◌, ◌<◌, ◌≤◌, Bool, true, List, [], ◌∷◌, ◌++◌, map, length, take, get_or, refl, sym, ap, ◌∙◌, subst, arith, add-one, append_assoc, Option}
use Rattle.std.specs.List.{AllByRecursion}
use Rattle.std.proofs.lemmas.List.{length-map, get_or-map}
use Rattle.asp_model.specs.declared.program.Program.{Program}
use Rattle.asp_model.specs.Sets.{Atoms, has}
use Rattle.asp_model.specs.Models.{atoms_of}
use Rattle.asp_model.proofs.MemberLaws.{each-append, each-front, each-map, each_weaker, HasAll-itself}
use Rattle.asp_vars.specs.Literals.{Literal}
use Rattle.asp_vars.specs.Numbering.{nth_atom, var_count, var_of_atom}
use Rattle.asp_vars.proofs.PlaceLaws.{atom-within, var_of_nth_atom}
use Rattle.asp_vars.proofs.StandingLaws.{back-append}
use Rattle.asp_checker.specs.declared.bounds.Bound.{Bound}
use Rattle.asp_checker.specs.declared.nogoods.Look.{Look}
use Rattle.asp_checker.specs.declared.nogoods.Look.TheVariants as look
use Rattle.asp_checker.specs.declared.nogoods.Visit.{Visit}
use Rattle.asp_checker.specs.declared.nogoods.Visit.TheVariants as visit
use Rattle.asp_checker.specs.Lines.{IsOf, AreOf, nogood_of_answer, stock, all_of}
use Rattle.asp_checker.specs.Looks.{IsAtFixpoint, IsSeen}
use Rattle.asp_checker.specs.Sweeps.{AreInRange, AreNogoodsOf, Grows, Implies, IsSwept}
use Rattle.asp_checker.specs.Blocks.{known_with}
use Rattle.asp_checker.proofs.LookLaws.{seen_more, seen_whole, fixpoint_whole}
use Rattle.asp_checker.proofs.CloseLaws.{nogoods_known, rows_range}

-- ---- their variables
answer_of : (p : Program) (S : Atoms) → AreOf p (nogood_of_answer p S)
answer_of p S =
    each-map (IsOf p) (λ a. record { var = var_of_atom p a; truth = has S a }) (atoms_of p)
    (each_weaker (λ a. has (atoms_of p) a ≡ true) (λ a. IsOf p (record { var = var_of_atom p a; truth = has S a })) (λ a h. (omega arith, atom-within p a h)) (atoms_of p) (HasAll-itself (atoms_of p)))

answers_of : (p : Program) (Ss : List Atoms) → AllByRecursion (AreOf p) (map (nogood_of_answer p) Ss)
answers_of p [] = tt
answers_of p (S ∷ Ss) = (answer_of p S, answers_of p Ss)

pub answers_range : (p : Program) (Ss : List Atoms) (n : ℕ) → n ≡ var_count p + 1 → AreInRange n (map (nogood_of_answer p) Ss)
answers_range p Ss n size = rows_range p (map (nogood_of_answer p) Ss) n size (answers_of p Ss)

pub answer_range : (p : Program) (S : Atoms) (n : ℕ) → n ≡ var_count p + 1 → AllByRecursion (λ l. l.var < n) (nogood_of_answer p S)
answer_range p S n size = (answers_range p (S ∷ []) n size).0

-- ---- atom by atom
made : (v w : ℕ) (s t : Bool) (l : Literal) → l ≡ record { var = v; truth = s } → v ≡ w → s ≡ t → l ≡ record { var = w; truth = t }
made v w s t l is var truth = is ∙ ap (λ u. let m : Literal = record { var = u; truth = s } in m) var ∙ ap (λ b. let m : Literal = record { var = w; truth = b } in m) truth

literal_at : (p : Program) (S : Atoms) (i v : ℕ) (t : Bool) (l : Literal) → i < length (atoms_of p) → l ≡ record { var = v; truth = t } → v ≡ i + 1 →
    t ≡ has S (nth_atom p i) → l ≡ get_or (nogood_of_answer p S) i l
literal_at p S i v t l lt is var truth =
    made v (var_of_atom p (nth_atom p i)) t (has S (nth_atom p i)) l is (var ∙ add-one i ∙ sym (var_of_nth_atom p i lt)) truth
    ∙ sym (get_or-map (λ a. let m : Literal = record { var = var_of_atom p a; truth = has S a } in m) (atoms_of p) i 0 l lt)

size_is : (p : Program) (S : Atoms) → length (nogood_of_answer p S) ≡ length (atoms_of p)
size_is p S = length-map (atoms_of p) (λ a. let m : Literal = record { var = var_of_atom p a; truth = has S a } in m)

pub answer_more : (p : Program) (S : Atoms) (x : List (Option Bool)) (i v : ℕ) (t : Bool) (l : Literal) (before now : Look) →
    i < length (atoms_of p) → l ≡ record { var = v; truth = t } → v ≡ i + 1 → t ≡ has S (nth_atom p i) →
    ((n : List Literal) → IsSeen x n before → IsSeen x (n ++ l ∷ []) now) → IsSeen x (take i (nogood_of_answer p S)) before → IsSeen x (take (i + 1) (nogood_of_answer p S)) now
answer_more p S x i v t l before now lt is var truth more h =
    let size = size_is p S in
    seen_more x (nogood_of_answer p S) i l now (omega (arith, size, lt)) (literal_at p S i v t l lt is var truth) (more (take i (nogood_of_answer p S)) h)

pub answer_missed : (p : Program) (S : Atoms) (x : List (Option Bool)) (i : ℕ) (now : Look) → now ≡ look.Fixpoint → IsSeen x (take i (nogood_of_answer p S)) now → IsAtFixpoint x (nogood_of_answer p S)
answer_missed p S x i now e h = fixpoint_whole x (nogood_of_answer p S) i (subst (IsSeen x (take i (nogood_of_answer p S))) e h)

pub answer_whole : (p : Program) (S : Atoms) (x : List (Option Bool)) (i : ℕ) (now : Look) → length (atoms_of p) ≤ i →
    IsSeen x (take i (nogood_of_answer p S)) now → IsSeen x (nogood_of_answer p S) now
answer_whole p S x i now le h = let size = size_is p S in seen_whole x (nogood_of_answer p S) i now (omega (arith, size, le)) h

-- the nogood of the answer at a place
pub answer_at : (p : Program) (Ss : List Atoms) (i : ℕ) (S : Atoms) → i < length Ss → S ≡ get_or Ss i S → nogood_of_answer p S ≡ get_or (map (nogood_of_answer p) Ss) i (nogood_of_answer p S)
answer_at p Ss i S lt is = ap (nogood_of_answer p) is ∙ sym (get_or-map (nogood_of_answer p) Ss i S (nogood_of_answer p S) lt)

pub answer_count : (p : Program) (Ss : List Atoms) → length (map (nogood_of_answer p) Ss) ≡ length Ss
answer_count p Ss = length-map Ss (nogood_of_answer p)

-- ---- beside other nogoods
pub with_answers : (p : Program) (Ss : List Atoms) (rows : List (List Literal)) → AllByRecursion (AreOf p) rows → AllByRecursion (AreOf p) (map (nogood_of_answer p) Ss ++ rows)
with_answers p Ss rows of = each-append (AreOf p) (map (nogood_of_answer p) Ss) rows (answers_of p Ss) of

pub all_of_program : (p : Program) (Ss : List Atoms) (rows placed : List (List Literal)) → AllByRecursion (AreOf p) rows →
    AllByRecursion (AreOf p) placed → AllByRecursion (AreOf p) (placed ++ (map (nogood_of_answer p) Ss ++ rows))
all_of_program p Ss rows placed of also = each-append (AreOf p) placed (map (nogood_of_answer p) Ss ++ rows) also (with_answers p Ss rows of)

-- ---- the same with nogoods in places
stocked : (p : Program) (Ss : List Atoms) (rows placed : List (List Literal)) (bound : Option Bound) → AllByRecursion (AreOf p) rows →
    AllByRecursion (AreOf p) placed → AreNogoodsOf p (all_of (stock (known_with p Ss rows bound) placed))
    (placed ++ (map (nogood_of_answer p) Ss ++ rows))
stocked p Ss rows placed bound of also = nogoods_known p (placed ++ (map (nogood_of_answer p) Ss ++ rows)) bound (all_of_program p Ss rows placed of also)

pub placed_stocked : (p : Program) (Ss : List Atoms) (rows placed : List (List Literal)) (bound : Option Bound) → AllByRecursion (AreOf p) rows →
    AllByRecursion (AreOf p) placed → AreNogoodsOf p (all_of (stock (known_with p Ss rows bound) placed)) placed
placed_stocked p Ss rows placed bound of also = each-front _ placed (map (nogood_of_answer p) Ss ++ rows) (stocked p Ss rows placed bound of also)

pub answers_stocked : (p : Program) (Ss : List Atoms) (rows placed : List (List Literal)) (bound : Option Bound) → AllByRecursion (AreOf p) rows →
    AllByRecursion (AreOf p) placed → AreNogoodsOf p (all_of (stock (known_with p Ss rows bound) placed)) (map (nogood_of_answer p) Ss)
answers_stocked p Ss rows placed bound of also = each-front _ (map (nogood_of_answer p) Ss) rows (back-append _ placed (map (nogood_of_answer p) Ss ++ rows) (stocked p Ss rows placed bound of also))

pub rows_stocked : (p : Program) (Ss : List Atoms) (rows placed : List (List Literal)) (bound : Option Bound) → AllByRecursion (AreOf p) rows →
    AllByRecursion (AreOf p) placed → AreNogoodsOf p (all_of (stock (known_with p Ss rows bound) placed)) rows
rows_stocked p Ss rows placed bound of also = back-append _ (map (nogood_of_answer p) Ss) rows (back-append _ placed (map (nogood_of_answer p) Ss ++ rows) (stocked p Ss rows placed bound of also))

pub one_behind : (first rows new : List (List Literal)) (n : List Literal) → new ≡ rows ++ n ∷ [] → first ++ new ≡ (first ++ rows) ++ n ∷ []
one_behind first rows new n e = ap (λ ns. first ++ ns) e ∙ sym (append_assoc first rows (n ∷ []))

-- what the others came to is what all came to
pub others_swept : (x y : List (Option Bool)) (first rows : List (List Literal)) (now : Visit) → (now ≡ visit.Fixpoint → ⊥) → IsSwept x y rows now → IsSwept x y (first ++ rows) now
others_swept x y first rows visit.Conflict quiet h = λ p k n known. h p k n (back-append _ first rows known)
others_swept x y first rows visit.Implied quiet h = (λ p k n known. h.0 p k n (back-append _ first rows known), h.1)
others_swept x y first rows visit.Fixpoint quiet h = absurd (quiet refl)

-- where they came to nothing, the answers decide
pub answers_swept : (x z y : List (Option Bool)) (first rows : List (List Literal)) (now : Visit) → IsSwept x z rows visit.Fixpoint → IsSwept z y first now → IsSwept x y (first ++ rows) now
answers_swept x z y first rows visit.Conflict quiet h = subst (λ w. IsSwept w y (first ++ rows) visit.Conflict) quiet.0 (λ p k n known. h p k n (each-front _ first rows known))
answers_swept x z y first rows visit.Implied quiet h = subst (λ w. Implies (first ++ rows) w y × Grows w y) quiet.0 (λ p k n known. h.0 p k n (each-front _ first rows known), h.1)
answers_swept x z y first rows visit.Fixpoint quiet h = (h.0 ∙ quiet.0, each-append (IsAtFixpoint x) first rows (subst (λ w. AllByRecursion (IsAtFixpoint w) first) quiet.0 h.1) quiet.1)
