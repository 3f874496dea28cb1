-- The ring is within the ranges and limits of programs.
use Rattle.std.proofs.Common.{◌≡◌, ℕ, zero, suc, ◌+◌, ◌*◌, ◌%◌, ◌^◌, ◌<◌, ◌≤◌, ◌&&◌, Bool, true, List, [], ◌∷◌, ◌++◌, length, ap, refl, ◌∙◌, arith, length-append}
use Rattle.std.specs.Prelude.{ℤ, pos, neg_ℤ, sum_by}
use Rattle.std.specs.List.{list_all}
use Rattle.std.proofs.lemmas.List.Folds.{list_all-append}
use Rattle.std.proofs.lemmas.List.Sums.{sum_by-append, sum_by-cons}
use Rattle.std.proofs.lemmas.Bool.{lt-ltb, le-leb}
use Rattle.asp_model.specs.declared.program.Rule.{Rule}
use Rattle.asp_model.specs.declared.program.Minimize.{Minimize}
use Rattle.asp_model.specs.Holding.{atom_of}
use Rattle.asp_model.specs.Sound.{IsSound, is_atom, is_literal, is_sound_rule, is_sound_minimize, weighted_count, weighted_total}
use Rattle.asp_make.specs.Ring.{each_below, coloured, atoms_of_node, node_rules, edge_rules, first_colours, any_colours, ring}

both_true : (a b : Bool) → a ≡ true → b ≡ true → (a && b) ≡ true
both_true a b p q = rw (p, q) refl

-- what passes at each number passes in all
all_below : {A : Type 0} (p : A → Bool) (give : ℕ → List A) (n most : ℕ) → n ≤ most
    → ((i : ℕ) → i < most → list_all p (give i) ≡ true) → list_all p (each_below give n) ≡ true
all_below p give zero most le each = refl
all_below p give (suc n) most le each =
    list_all-append p (each_below give n) (give n) ∙ both_true _ _ (all_below p give n most (omega arith) each) (each n (omega arith))

length_below : {A : Type 0} (give : ℕ → List A) (k n : ℕ) → ((i : ℕ) → length (give i) ≡ k) → length (each_below give n) ≡ k * n
length_below give k zero each = grind arith
length_below give k (suc n) each = grind (arith, length-append (each_below give n) (give n), length_below give k n each, each n)

none_weighted : (give : ℕ → List Rule) (n : ℕ) → ((i : ℕ) → sum_by (λ r. weighted_count r.body) (give i) ≡ 0) → sum_by (λ r. weighted_count r.body) (each_below give n) ≡ 0
none_weighted give zero each = refl
none_weighted give (suc n) each = grind (arith, sum_by-append (λ (r : Rule). weighted_count r.body) (each_below give n) (give n), none_weighted give n each, each n)

colour_is_atom : (i c : ℕ) → i < 2000 → 0 < c → c ≤ 3 → is_atom (coloured i c) ≡ true
colour_is_atom i c i_in some c_in = both_true _ _ (lt-ltb 0 (coloured i c) (omega arith)) (lt-ltb (coloured i c) (2 ^ 31) (omega arith))

atom_of-neg : (a : ℕ) → atom_of (neg_ℤ (pos a)) ≡ a
atom_of-neg zero = refl
atom_of-neg (suc a) = refl

lacks_is_literal : (a : ℕ) → is_atom a ≡ true → is_literal (neg_ℤ (pos a)) ≡ true
lacks_is_literal a is = ap is_atom (atom_of-neg a) ∙ is

node_atoms : (i : ℕ) → i < 2000 → list_all is_atom (atoms_of_node i) ≡ true
node_atoms i lt = rw (colour_is_atom i 1 lt (omega arith) (omega arith), colour_is_atom i 2 lt (omega arith) (omega arith), colour_is_atom i 3 lt (omega arith) (omega arith)) refl

node_rules_sound : (i : ℕ) → i < 2000 → list_all is_sound_rule (node_rules i) ≡ true
node_rules_sound i lt =
    let red = colour_is_atom i 1 lt (omega arith) (omega arith) in
    let green = colour_is_atom i 2 lt (omega arith) (omega arith) in
    let blue = colour_is_atom i 3 lt (omega arith) (omega arith) in
    rw (lacks_is_literal (coloured i 1) red, lacks_is_literal (coloured i 2) green, lacks_is_literal (coloured i 3) blue, red, green, blue) refl

edge_rules_sound : (i j : ℕ) → i < 2000 → j < 2000 → list_all is_sound_rule (edge_rules i j) ≡ true
edge_rules_sound i j i_in j_in =
    rw (
      colour_is_atom i 1 i_in (omega arith) (omega arith),
      colour_is_atom i 2 i_in (omega arith) (omega arith),
      colour_is_atom i 3 i_in (omega arith) (omega arith),
      colour_is_atom j 1 j_in (omega arith) (omega arith),
      colour_is_atom j 2 j_in (omega arith) (omega arith),
      colour_is_atom j 3 j_in (omega arith) (omega arith),
    ) refl

edges_sound : (n i : ℕ) → 3 ≤ n → n ≤ 2000 → i < n → list_all is_sound_rule (edge_rules i ((i + 1) % n)) ≡ true
edges_sound n i low high lt = edge_rules_sound i ((i + 1) % n) (omega arith) (omega arith)

rules_sound : (n : ℕ) → 3 ≤ n → n ≤ 2000 → list_all is_sound_rule (ring n).rules ≡ true
rules_sound n low high =
    let choice : is_sound_rule (any_colours n) ≡ true = both_true _ true (all_below is_atom atoms_of_node n 2000 high node_atoms) refl in
    let nodes = all_below is_sound_rule node_rules n 2000 high node_rules_sound in
    let edges = all_below is_sound_rule (λ i. edge_rules i ((i + 1) % n)) n n (omega arith) (λ i lt. edges_sound n i low high lt) in
    both_true _ _ choice (list_all-append is_sound_rule (each_below node_rules n) (each_below (λ i. edge_rules i ((i + 1) % n)) n) ∙ both_true _ _ nodes edges)

first_sound : (n : ℕ) → n ≤ 2000 → is_sound_minimize (first_colours n) ≡ true
first_sound n high = all_below (λ (item : ℤ × ℤ). is_literal item.0) (λ i. (pos (coloured i 1), pos 1) ∷ []) n 2000 high
    (λ i lt. both_true _ true (colour_is_atom i 1 lt (omega arith) (omega arith)) refl)

weighted_few : (n : ℕ) → n ≤ 2000 → weighted_total (ring n) ≤ 16777216
weighted_few n high =
    let nodes = none_weighted node_rules n (λ i. refl) in
    let edges = none_weighted (λ i. edge_rules i ((i + 1) % n)) n (λ i. refl) in
    let joined = sum_by-append (λ (r : Rule). weighted_count r.body) (each_below node_rules n) (each_below (λ i. edge_rules i ((i + 1) % n)) n) in
    let first = sum_by-cons (λ (r : Rule). weighted_count r.body) (any_colours n) (each_below node_rules n ++ each_below (λ i. edge_rules i ((i + 1) % n)) n) in
    let last : length (first_colours n).items ≡ 1 * n = length_below (λ i. (pos (coloured i 1), pos 1) ∷ []) 1 n (λ i. refl) in
    let alone = sum_by-cons (λ (m : Minimize). length m.items) (first_colours n) [] in
    omega (arith, nodes, edges, joined, first, last, alone)

rules_few : (n : ℕ) → n ≤ 2000 → length (ring n).rules ≤ 268435456
rules_few n high =
    let nodes = length_below node_rules 4 n (λ i. refl) in
    let edges = length_below (λ i. edge_rules i ((i + 1) % n)) 3 n (λ i. refl) in
    omega (arith, nodes, edges, length-append (each_below node_rules n) (each_below (λ i. edge_rules i ((i + 1) % n)) n))

pub ring_is_sound : (n : ℕ) → 3 ≤ n → n ≤ 2000 → IsSound (ring n)
ring_is_sound n low high = record {
  rules = rules_sound n low high;
  minimize = both_true _ true (first_sound n high) refl;
  outputs = refl;
  externals = refl;
  assumptions = refl;
  weighted = le-leb _ _ (weighted_few n high);
  room = ap (λ b. b && true && true && true && true) (le-leb _ _ (rules_few n high));
}
