-- Bodies read by marks.
use Rattle.std.proofs.Common.{◌≡◌, ℕ, ◌+◌, ◌<◌, Bool, true, false, List, length, Some, None, refl, sym, ap, ◌∙◌, arith}
use Rattle.std.specs.Prelude.{All, ℤ, pos, ◌-ℤ◌, ◌≤ℤ◌, ◌<ℤ◌, int_le}
use Rattle.std.specs.List.{list_all}
use Rattle.std.proofs.lemmas.Int.{ints}
use Rattle.std.proofs.lemmas.List.{length-map}
use Rattle.std.proofs.lemmas.List.Elements.{All-weaker, All-from_recursion}
use Rattle.asp_model.specs.declared.program.Body.{Body}
use Rattle.asp_model.specs.declared.program.Body.TheVariants as body
use Rattle.asp_model.specs.declared.program.Program.{Program}
use Rattle.asp_model.specs.Models.{atoms_of}
use Rattle.asp_vars.specs.Literals.{Literal}
use Rattle.asp_vars.specs.Numbering.{nth_atom, var_of_atom, literal_of}
use Rattle.asp_vars.specs.Tabled.{bound_of, form_literals, form_weights, heads_of, IsAtomVar}
use Rattle.asp_vars.proofs.RowLaws.{head_vars}
use Rattle.asp_vars.proofs.PlaceLaws.{var_of_nth_atom}
use Rattle.asp_loop.specs.Weighing.{weigh}
use Rattle.asp_found.specs.Marks.{is_marked, lit_between, marks_hold}

pub reach_yes : (b w : ℤ) → b ≤ℤ w → true ≡ int_le b w
reach_yes b w h = grind (arith, ints)

pub low_from : (b : ℤ) → int_le b (pos 0) ≡ true → b ≤ℤ pos 0
low_from b e = grind (arith, ints)

pub reach_low : (b w : ℤ) → b ≤ℤ pos 0 → pos 0 ≤ℤ w → true ≡ int_le b w
reach_low b w h k = reach_yes b w (omega (arith, ints))

pub reach_no : (b w : ℤ) (left : ℕ) → pos left ≡ (b -ℤ w) → 0 < left → false ≡ int_le b w
reach_no b w left is positive = no b w (omega (arith, ints))
  where
    no : (b w : ℤ) → w <ℤ b → false ≡ int_le b w
    no b w h = grind (arith, ints)

pub holds_weighted : (p : Program) (set derived : List Bool) (b : Body) (c : ℤ) → bound_of b ≡ Some c →
    int_le c (weigh (lit_between set derived) (form_literals p b) (form_weights b)) ≡ marks_hold p set derived b
holds_weighted p set derived (body.All ls) c e = cc e
holds_weighted p set derived (body.AtLeast bound items) c e =
    let same : bound ≡ c = cc e in
    ap (λ n. int_le n (weigh (lit_between set derived) (form_literals p (body.AtLeast bound items)) (form_weights (body.AtLeast bound items)))) (sym same)

pub holds_normal : (p : Program) (set derived : List Bool) (b : Body) → bound_of b ≡ None → list_all (lit_between set derived) (form_literals p b) ≡ marks_hold p set derived b
holds_normal p set derived (body.All ls) e = refl
holds_normal p set derived (body.AtLeast bound items) e = cc e

pub same_places : (p : Program) (b : Body) (c : ℤ) → bound_of b ≡ Some c → length (form_weights b) ≡ length (form_literals p b)
same_places p (body.All ls) c e = cc e
same_places p (body.AtLeast bound items) c e = length-map items (λ i. i.1) ∙ sym (length-map items (λ i. literal_of p i.0))

pub literals_small : (p : Program) (lits : List Literal) (n : ℕ) → length (atoms_of p) < n → All (λ l. IsAtomVar p l.var) lits → All (λ l. l.var < n) lits
literals_small p lits n room h = All-weaker (λ (l : Literal). IsAtomVar p l.var) (λ l. l.var < n) (λ l a. let small = a.1 in omega (arith, small, room)) lits h

pub heads_small : (p : Program) (b : Body) (n : ℕ) → length (atoms_of p) < n → All (λ v. v < n) (heads_of p b)
heads_small p b n room =
    All-weaker (IsAtomVar p) (λ v. v < n) (λ v a. let small = a.1 in omega (arith, small, room)) (heads_of p b) (All-from_recursion (IsAtomVar p) (heads_of p b) (head_vars p b))

pub mark_at : (p : Program) (marks : List Bool) (i : ℕ) → i < length (atoms_of p) → is_marked marks (i + 1) ≡ is_marked marks (var_of_atom p (nth_atom p i))
mark_at p marks i lt = ap (is_marked marks) (let e = var_of_nth_atom p i lt in omega (arith, e))
