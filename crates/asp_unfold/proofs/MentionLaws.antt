-- The atoms of a program whose minimise statements are unfolded are those of the program.
use Rattle.std.proofs.Common.{◌≡◌, ◌⊎◌, ℕ, Bool, true, false, ◌||◌, eqb, List, [], ◌∷◌, ◌++◌, flat_map, map, refl, sym, ap, ◌∙◌, ℤ, inl, inr, Some}
use Rattle.std.specs.List.{list_any}
use Rattle.std.proofs.lemmas.Bool.{eq-eqb, eqb-true, false_from_ne_true, false≢true, or_left, or_right}
use Rattle.std.proofs.lemmas.List.Folds.{list_any-append}
use Rattle.asp_model.specs.declared.program.Minimize.{Minimize}
use Rattle.asp_model.specs.declared.program.Output.{Output}
use Rattle.asp_model.specs.declared.program.External.{External}
use Rattle.asp_model.specs.declared.program.Rule.{Rule}
use Rattle.asp_model.specs.declared.program.Program.{Program}
use Rattle.asp_model.specs.Sets.{has}
use Rattle.asp_model.specs.Holding.{atom_of, body_atoms}
use Rattle.asp_model.specs.Models.{atoms_of, head_atoms, mentions}
use Rattle.asp_model.proofs.MemberLaws.{list_any-flat_map}
use Rattle.asp_model.proofs.SetLaws.{IsAscending-set_of, has-set_of, same_from_has}
use Rattle.asp_unfold.specs.Unfolded.{literal_of, rules_for, unfolded, unfolded_literal, unfolded_minimize}
use Rattle.asp_unfold.proofs.ListLaws.{any_passing}
use Rattle.asp_unfold.proofs.DefinedLaws.{defined, defining, unfolded-is}

abbrev rule_atoms : Rule → List ℕ
rule_atoms r = head_atoms r.head ++ body_atoms r.body

abbrev in_rules : List Rule → ℕ → Bool
in_rules rules x = has (flat_map rule_atoms rules) x

in-one : (rules : List Rule) (a : ℕ) (m : ℤ) (x : ℕ) → literal_of (rules_for a rules) ≡ Some m → has (a ∷ atom_of m ∷ []) x ≡ true → in_rules rules x ≡ true
in-one rules a m x e h =
    let here : list_any (λ (r : Rule). has (rule_atoms r) x) (defining a m ∷ []) ≡ true = ap (λ (b : Bool). b || false) h in
    list_any-flat_map (λ b. eqb b x) rule_atoms rules
    ∙ any_passing (λ (r : Rule). has (rule_atoms r) x) (λ (r : Rule). has (head_atoms r.head) a) rules (ap (list_any (λ (r : Rule). has (rule_atoms r) x)) (defined rules a m e) ∙ here)

aside : (rules : List Rule) (a x : ℕ) → in_rules rules a ≡ true → in_rules rules x ≡ false → eqb a x ≡ false
aside rules a x there out = false_from_ne_true (eqb a x) (λ e. false≢true (sym out ∙ (ap (in_rules rules) (sym (eqb-true a x e)) ∙ there)))

-- an atom of no rule is the literal's before and after
same-literal : (rules : List Rule) (x : ℕ) (l : ℤ) → in_rules rules x ≡ false → eqb (atom_of (unfolded_literal rules l)) x ≡ eqb (atom_of l) x
same-literal rules x l out = by (unfolded-is rules l)
  where
    by : (unfolded_literal rules l ≡ l) ⊎
        ((m : ℤ) × (literal_of (rules_for (atom_of l) rules) ≡ Some m) × (atom_of (unfolded_literal rules l) ≡ atom_of m)) →
        eqb (atom_of (unfolded_literal rules l)) x ≡ eqb (atom_of l) x
    by (inl same) = ap (λ (k : ℤ). eqb (atom_of k) x) same
    by (inr one) =
        let first = in-one rules (atom_of l) one.0 (atom_of l) one.1 (or_left (eqb (atom_of l) (atom_of l)) _ (eq-eqb (atom_of l) (atom_of l) refl)) in
        let second = in-one rules (atom_of l) one.0 (atom_of one.0) one.1
        (or_right (eqb (atom_of l) (atom_of one.0)) _
        (or_left (eqb (atom_of one.0) (atom_of one.0)) false (eq-eqb (atom_of one.0) (atom_of one.0) refl))) in
        ap (λ (n : ℕ). eqb n x) one.2 ∙ (aside rules (atom_of one.0) x second out ∙ sym (aside rules (atom_of l) x first out))

abbrev item_atoms : Minimize → List ℕ
item_atoms m = map (λ item. atom_of item.0) m.items

same-items : (rules : List Rule) (x : ℕ) (items : List (ℤ × ℤ)) → in_rules rules x ≡ false
    → has (map (λ (item : ℤ × ℤ). atom_of item.0) (map (λ (i : ℤ × ℤ). (unfolded_literal rules i.0, i.1)) items)) x ≡ has (map (λ (item : ℤ × ℤ). atom_of item.0) items) x
same-items rules x [] out = refl
same-items rules x (i ∷ items) out =
    ap (λ (b : Bool). b || has (map (λ (item : ℤ × ℤ). atom_of item.0) (map (λ (i : ℤ × ℤ). (unfolded_literal rules i.0, i.1)) items)) x) (same-literal rules x i.0 out)
    ∙ ap (λ (b : Bool). eqb (atom_of i.0) x || b) (same-items rules x items out)

same-statements : (rules : List Rule) (x : ℕ) (ms : List Minimize) → in_rules rules x ≡ false → has (flat_map item_atoms (map (unfolded_minimize rules) ms)) x ≡ has (flat_map item_atoms ms) x
same-statements rules x [] out = refl
same-statements rules x (m ∷ ms) out =
    list_any-append (λ b. eqb b x) (item_atoms (unfolded_minimize rules m)) (flat_map item_atoms (map (unfolded_minimize rules) ms))
    ∙ (ap (λ (b : Bool). b || has (flat_map item_atoms (map (unfolded_minimize rules) ms)) x) (same-items rules x m.items out)
    ∙ (ap (λ (b : Bool). has (item_atoms m) x || b) (same-statements rules x ms out)
    ∙ sym (list_any-append (λ b. eqb b x) (item_atoms m) (flat_map item_atoms ms))))

same-behind : (s m n : Bool) → (s ≡ false → m ≡ n) → (s || m) ≡ (s || n)
same-behind true m n h = refl
same-behind false m n h = h refl

same-front : (xs ys zs : List ℕ) (x : ℕ) → has xs x ≡ has ys x → has (xs ++ zs) x ≡ has (ys ++ zs) x
same-front xs ys zs x e = list_any-append (λ b. eqb b x) xs zs ∙ (ap (λ (b : Bool). b || has zs x) e ∙ sym (list_any-append (λ b. eqb b x) ys zs))

same-mentions : (p : Program) (x : ℕ) → has (mentions (unfolded p)) x ≡ has (mentions p) x
same-mentions p x =
    let A = flat_map rule_atoms p.rules in
    let M = flat_map item_atoms (map (unfolded_minimize p.rules) p.minimize) in
    let N = flat_map item_atoms p.minimize in
    let C = flat_map (λ (o : Output). map atom_of o.condition) p.outputs in
    let D = map (λ (e : External). e.atom) p.externals in
    same-front (A ++ M ++ C ++ D) (A ++ N ++ C ++ D) (map atom_of p.assumptions) x
    (same-front (A ++ M ++ C) (A ++ N ++ C) D x
    (same-front (A ++ M) (A ++ N) C x
    (list_any-append (λ b. eqb b x) A M ∙ (same-behind (has A x) (has M x) (has N x) (same-statements p.rules x p.minimize) ∙ sym (list_any-append (λ b. eqb b x) A N)))))

pub same-atoms : (p : Program) → atoms_of (unfolded p) ≡ atoms_of p
same-atoms p =
    same_from_has (atoms_of (unfolded p)) (atoms_of p) (IsAscending-set_of (mentions (unfolded p))) (IsAscending-set_of (mentions p))
    (λ x. has-set_of (mentions (unfolded p)) x ∙ (same-mentions p x ∙ sym (has-set_of (mentions p) x)))
