-- Bodies read by what is held.
use Rattle.std.proofs.Common.{◌≡◌, Bool, true, false, cond, List, [], ◌∷◌, map, Option, Some, None, refl, sym, ap, ◌∙◌, arith}
use Rattle.std.specs.Prelude.{All, ℤ, pos, ◌+ℤ◌, ◌≤ℤ◌, int_le}
use Rattle.std.specs.List.{list_all, AllByRecursion}
use Rattle.std.proofs.lemmas.Bool.{false≢true, and_parts, and_from}
use Rattle.std.proofs.lemmas.Int.{ints}
use Rattle.std.proofs.lemmas.List.Elements.{All-head, All-tail}
use Rattle.asp_model.proofs.MemberLaws.{each_weaker}
use Rattle.asp_model.specs.declared.program.Body.{Body}
use Rattle.asp_model.specs.declared.program.Body.TheVariants as body
use Rattle.asp_model.specs.declared.program.Program.{Program}
use Rattle.asp_model.specs.Sets.{Atoms, has}
use Rattle.asp_model.specs.Holding.{atom_of, holds, body_holds, weight_of}
use Rattle.asp_model.specs.Models.{atoms_of}
use Rattle.asp_model.specs.Reading.{holds_between, weight_between, body_holds_between}
use Rattle.asp_vars.specs.Literals.{Literal, is_true}
use Rattle.asp_vars.specs.Numbering.{literal_of, values}
use Rattle.asp_vars.specs.Tabled.{bound_of, form_literals, form_weights, Stands}
use Rattle.asp_vars.proofs.CompletionLaws.{literal-holds, hits-literals}
use Rattle.asp_loop.specs.Weighing.{weigh}
use Rattle.asp_loop.proofs.EntailedLaws.{reached}
use Rattle.asp_loop.proofs.WeightedLaws.{AreItems, form_items}
use Rattle.asp_stable.specs.Holding.{is_held, body_held}

pub held_weighted : (p : Program) (a : List (Option Bool)) (marks : List Bool) (b : Body) (c : ℤ) → bound_of b ≡ Some c →
    int_le c (weigh (is_held a marks) (form_literals p b) (form_weights b)) ≡ body_held p a marks b
held_weighted p a marks (body.All ls) c e = cc e
held_weighted p a marks (body.AtLeast bound items) c e =
    let same : bound ≡ c = cc e in
    ap (λ n. int_le n (weigh (is_held a marks) (form_literals p (body.AtLeast bound items)) (form_weights (body.AtLeast bound items)))) (sym same)

pub held_normal : (p : Program) (a : List (Option Bool)) (marks : List Bool) (b : Body) → bound_of b ≡ None → list_all (is_held a marks) (form_literals p b) ≡ body_held p a marks b
held_normal p a marks (body.All ls) e = refl
held_normal p a marks (body.AtLeast bound items) e = cc e

-- ---- by any test of literals
-- whether a body holds where these literals count
abbrev pub passes : Program → (Literal → Bool) → Body → Bool
passes p q (body.All ls) = list_all q (map (literal_of p) ls)
passes p q (body.AtLeast bound items) = int_le bound (weigh q (map (λ i. literal_of p i.0) items) (map (λ i. i.1) items))

less : (q r : Bool) (w : ℤ) → pos 0 ≤ℤ w → (q ≡ true → r ≡ true) → cond q w (pos 0) ≤ℤ cond r w (pos 0)
less true true w h f = omega (arith, ints)
less true false w h f = absurd (false≢true (f refl))
less false true w h f = h
less false false w h f = omega (arith, ints)

-- The fact holds of each literal.
abbrev pub AllForm : (ℤ → Type 0) → Body → Type 0
AllForm P (body.All ls) = AllByRecursion P ls
AllForm P (body.AtLeast bound items) = AllByRecursion (λ (i : ℤ × ℤ). P i.0) items

-- A body that passes holds between a set and what is derived, if its literals do that count.
pub passes_between : (p : Program) (S D : Atoms) (q : Literal → Bool) (b : Body) → AreItems (form_items b) → AllForm (λ l. q (literal_of p l) ≡ true → holds_between S D l ≡ true) b →
    passes p q b ≡ true → body_holds_between S D b ≡ true
passes_between p S D q (body.All ls) weighted f e = along ls f e
  where
    along : (ls : List ℤ) → AllByRecursion (λ l. q (literal_of p l) ≡ true → holds_between S D l ≡ true) ls → list_all q (map (literal_of p) ls) ≡ true → list_all (holds_between S D) ls ≡ true
    along [] h e = refl
    along (l ∷ ls) h e =
        let parts = and_parts (q (literal_of p l)) (list_all q (map (literal_of p) ls)) e in
        and_from (holds_between S D l) (list_all (holds_between S D) ls) (h.0 parts.0) (along ls h.1 parts.1)
passes_between p S D q (body.AtLeast c items) weighted f e =
    reached c (weigh q (map (λ i. literal_of p i.0) items) (map (λ i. i.1) items)) (weight_between S D items) e (along items weighted f)
  where
    along : (is : List (ℤ × ℤ)) → AreItems is → AllByRecursion (λ (i : ℤ × ℤ). q (literal_of p i.0) ≡ true → holds_between S D i.0 ≡ true) is →
        weigh q (map (λ i. literal_of p i.0) is) (map (λ i. i.1) is) ≤ℤ weight_between S D is
    along [] w h = omega (arith, ints)
    along (i ∷ is) w h =
        let a = less (q (literal_of p i.0)) (holds_between S D i.0) i.1 w.0 h.0 in
        let b = along is w.1 h.1 in
        omega (arith, ints, a, b)

pub held_passes : (p : Program) (a : List (Option Bool)) (marks : List Bool) (b : Body) → body_held p a marks b ≡ passes p (is_held a marks) b
held_passes p a marks (body.All ls) = refl
held_passes p a marks (body.AtLeast c items) = refl

-- what is true of the literals of atoms that stand
pub each_standing : (p : Program) (P : ℤ → Type 0) (b : Body) → Stands (atoms_of p) b → ((l : ℤ) → has (atoms_of p) (atom_of l) ≡ true → P l) → AllForm P b
each_standing p P (body.All ls) stands f = each_weaker (λ l. has (atoms_of p) (atom_of l) ≡ true) P f ls stands
each_standing p P (body.AtLeast c items) stands f = each_weaker (λ (i : ℤ × ℤ). has (atoms_of p) (atom_of i.0) ≡ true) (λ (i : ℤ × ℤ). P i.0) (λ i. f i.0) items stands

pub each_literal : (p : Program) (P : ℤ → Type 0) (Q : Literal → Type 0) (b : Body) → Stands (atoms_of p) b → All Q (form_literals p b) →
    ((l : ℤ) → has (atoms_of p) (atom_of l) ≡ true → Q (literal_of p l) → P l) → AllForm P b
each_literal p P Q (body.All ls) stands all f = along ls stands all
  where
    along : (ls : List ℤ) → AllByRecursion (λ l. has (atoms_of p) (atom_of l) ≡ true) ls → All Q (map (literal_of p) ls) → AllByRecursion P ls
    along [] h k = tt
    along (l ∷ ls) h k = (f l h.0 (All-head Q (literal_of p l) (map (literal_of p) ls) k), along ls h.1 (All-tail Q (literal_of p l) (map (literal_of p) ls) k))
each_literal p P Q (body.AtLeast c items) stands all f = along items stands all
  where
    along : (is : List (ℤ × ℤ)) → AllByRecursion (λ (i : ℤ × ℤ). has (atoms_of p) (atom_of i.0) ≡ true) is → All Q (map (λ i. literal_of p i.0) is) → AllByRecursion (λ (i : ℤ × ℤ). P i.0) is
    along [] h k = tt
    along (i ∷ is) h k = (f i.0 h.0 (All-head Q (literal_of p i.0) (map (λ i. literal_of p i.0) is) k), along is h.1 (All-tail Q (literal_of p i.0) (map (λ i. literal_of p i.0) is) k))

-- by the values of a set
pub values_pass : (p : Program) (S : Atoms) (b : Body) → Stands (atoms_of p) b → passes p (is_true (values p S)) b ≡ body_holds S b
values_pass p S (body.All ls) stands = hits-literals p S ls stands
values_pass p S (body.AtLeast c items) stands = ap (int_le c) (along items stands)
  where
    along : (is : List (ℤ × ℤ)) → AllByRecursion (λ (i : ℤ × ℤ). has (atoms_of p) (atom_of i.0) ≡ true) is →
        weigh (is_true (values p S)) (map (λ i. literal_of p i.0) is) (map (λ i. i.1) is) ≡ weight_of S is
    along [] h = refl
    along (i ∷ is) h =
        ap (λ b. cond b i.1 (pos 0) +ℤ weigh (is_true (values p S)) (map (λ i. literal_of p i.0) is) (map (λ i. i.1) is)) (literal-holds p S i.0 h.0)
        ∙ ap (λ w. cond (holds S i.0) i.1 (pos 0) +ℤ w) (along is h.1)
