-- Bodies read by marks.
use Rattle.std.proofs.Common.{◌≡◌, ℕ, ◌+◌, ◌<◌, Bool, true, false, not, cond, ◌&&◌, ◌||◌, List, [], ◌∷◌, map, length, Option, Some, None, refl, sym, ap, ◌∙◌, arith}
use Rattle.std.specs.Prelude.{All, ℤ, pos, ◌+ℤ◌, ◌-ℤ◌, ◌≤ℤ◌, ◌<ℤ◌, int_le, int_lt}
use Rattle.std.specs.List.{list_any, AllByRecursion}
use Rattle.std.proofs.lemmas.Int.{ints}
use Rattle.std.proofs.lemmas.List.{length-map}
use Rattle.std.proofs.lemmas.List.Elements.{All-weaker}
use Rattle.asp_model.specs.declared.program.Body.{Body}
use Rattle.asp_model.specs.declared.program.Body.TheVariants as body
use Rattle.asp_model.specs.declared.program.Program.{Program}
use Rattle.asp_model.specs.Sets.{has}
use Rattle.asp_model.specs.Holding.{atom_of, is_positive}
use Rattle.asp_model.specs.Models.{atoms_of}
use Rattle.asp_vars.specs.Literals.{Literal}
use Rattle.asp_vars.specs.Numbering.{var_count, var_of_atom, literal_of}
use Rattle.asp_vars.specs.Tabled.{bound_of, form_literals, form_weights, IsAtomVar, Stands}
use Rattle.asp_vars.specs.Unfounded.{is_false, is_inside, outside_weight, needs}
use Rattle.asp_loop.specs.Weighing.{weigh}
use Rattle.asp_loop.proofs.FoundedLaws.{has-filter}
use Rattle.asp_source.specs.Marks.{shown, lit_inside, lit_outside}

pub reach_yes : (b w : ℤ) → b ≤ℤ w → true ≡ int_le b w
reach_yes b w h = grind (arith, ints)

pub low_from : (b : ℤ) → int_le b (pos 0) ≡ true → b ≤ℤ pos 0
low_from b e = grind (arith, ints)

pub reach_low : (b w : ℤ) → b ≤ℤ pos 0 → pos 0 ≤ℤ w → true ≡ int_le b w
reach_low b w h k = reach_yes b w (omega (arith, ints))

pub reach_no : (b w : ℤ) (left : ℕ) → pos left ≡ (b -ℤ w) → 0 < left → false ≡ int_le b w
reach_no b w left is positive = no b w (omega (arith, ints))
  where
    no : (b w : ℤ) → w <ℤ b → false ≡ int_le b w
    no b w h = grind (arith, ints)

pub same_places : (p : Program) (b : Body) (c : ℤ) → bound_of b ≡ Some c → length (form_weights b) ≡ length (form_literals p b)
same_places p (body.All ls) c e = cc e
same_places p (body.AtLeast bound items) c e = length-map items (λ i. i.1) ∙ sym (length-map items (λ i. literal_of p i.0))

pub literals_small : (p : Program) (lits : List Literal) (n : ℕ) → n ≡ length (atoms_of p) + 1 → All (λ l. IsAtomVar p l.var) lits → All (λ l. l.var < n) lits
literals_small p lits n e h = All-weaker (λ (l : Literal). IsAtomVar p l.var) (λ l. l.var < n) (λ l a. let small = a.1 in omega (arith, small, e)) lits h

pub literals_valued : (p : Program) (lits : List Literal) (n : ℕ) → n ≡ var_count p + 1 → All (λ l. IsAtomVar p l.var) lits → All (λ l. l.var < n) lits
literals_valued p lits n e h = All-weaker (λ (l : Literal). IsAtomVar p l.var) (λ l. l.var < n) (λ l a. let small = a.1 in omega (arith, small, e)) lits h

-- ---- marks and sets
pub has-shown : (p : Program) (q : ℕ → Bool) (a : ℕ) → has (shown p q) a ≡ (q (var_of_atom p a) && has (atoms_of p) a)
has-shown p q a = has-filter (λ a. q (var_of_atom p a)) (atoms_of p) a

and_true : (a b : Bool) → b ≡ true → a ≡ (a && b)
and_true true b e = sym e
and_true false b e = refl

inside_link : (p : Program) (q : ℕ → Bool) (l : ℤ) → has (atoms_of p) (atom_of l) ≡ true → lit_inside q (literal_of p l) ≡ is_inside (shown p q) l
inside_link p q l stands =
    ap (λ b. is_positive l && b) (and_true (q (var_of_atom p (atom_of l))) (has (atoms_of p) (atom_of l)) stands ∙ sym (has-shown p q (atom_of l)))

-- a normal body
pub needs_normal : (p : Program) (x : List (Option Bool)) (q : ℕ → Bool) (b : Body) → bound_of b ≡ None → Stands (atoms_of p) b → list_any (lit_inside q) (form_literals p b) ≡ needs p x (shown p q) b
needs_normal p x q (body.AtLeast bound items) e stand = cc e
needs_normal p x q (body.All ls) e stand = along ls stand
  where
    along : (ls : List ℤ) → AllByRecursion (λ l. has (atoms_of p) (atom_of l) ≡ true) ls → list_any (lit_inside q) (map (literal_of p) ls) ≡ list_any (is_inside (shown p q)) ls
    along [] h = refl
    along (l ∷ ls) h =
        ap (λ b. b || list_any (lit_inside q) (map (literal_of p) ls)) (inside_link p q l h.0)
        ∙ ap (λ b. is_inside (shown p q) l || b) (along ls h.1)

outside_link : (p : Program) (x : List (Option Bool)) (q : ℕ → Bool) (items : List (ℤ × ℤ)) →
    AllByRecursion (λ i. has (atoms_of p) (atom_of i.0) ≡ true) items →
    weigh (lit_outside x q) (map (λ i. literal_of p i.0) items) (map (λ i. i.1) items) ≡ outside_weight p x (shown p q) items
outside_link p x q [] stand = refl
outside_link p x q (i ∷ items) stand =
    ap (λ b. cond (not b && not (is_false p x i.0)) i.1 (pos 0) +ℤ weigh (lit_outside x q) (map (λ i. literal_of p i.0) items) (map (λ i. i.1) items)) (inside_link p q i.0 stand.0)
    ∙ ap (λ w. w +ℤ weigh (lit_outside x q) (map (λ i. literal_of p i.0) items) (map (λ i. i.1) items)) (turned (is_inside (shown p q) i.0) (is_false p x i.0))
    ∙ ap (λ w. cond (is_false p x i.0 || is_inside (shown p q) i.0) (pos 0) i.1 +ℤ w) (outside_link p x q items stand.1)
  where
    turned : (a b : Bool) → cond (not a && not b) i.1 (pos 0) ≡ cond (b || a) (pos 0) i.1
    turned true true = refl
    turned true false = refl
    turned false true = refl
    turned false false = refl

le_not_lt : (b w : ℤ) → int_le b w ≡ not (int_lt w b)
le_not_lt b w = grind (arith, ints)

-- a weight body
pub needs_weighted : (p : Program) (x : List (Option Bool)) (q : ℕ → Bool) (b : Body) (c : ℤ) → bound_of b ≡ Some c → Stands (atoms_of p) b →
    int_le c (weigh (lit_outside x q) (form_literals p b) (form_weights b)) ≡ not (needs p x (shown p q) b)
needs_weighted p x q (body.All ls) c e stand = cc e
needs_weighted p x q (body.AtLeast bound items) c e stand =
    let same : bound ≡ c = cc e in
    ap (int_le c) (outside_link p x q items stand) ∙ le_not_lt c (outside_weight p x (shown p q) items) ∙ ap (λ n. not (int_lt (outside_weight p x (shown p q) items) n)) (sym same)
