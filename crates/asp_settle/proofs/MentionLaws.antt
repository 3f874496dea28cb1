-- The facts are atoms of the program, and none of them stands in what is left.
use Rattle.std.proofs.Common.{◌≡◌, ℕ, Bool, true, false, not, cond, ◌&&◌, eqb, List, [], ◌∷◌, ◌++◌, map, filter, flat_map, ℤ, refl, sym, ap, ◌∙◌}
use Rattle.std.specs.List.{AllByRecursion, list_any}
use Rattle.std.proofs.lemmas.Bool.{both_ways, ne_eqb, or_from, or_left, or_parts}
use Rattle.std.proofs.lemmas.List.Folds.{list_any-append}
use Rattle.asp_model.specs.declared.program.Body.{Body}
use Rattle.asp_model.specs.declared.program.Body.TheVariants as body
use Rattle.asp_model.specs.declared.program.Head.{Head}
use Rattle.asp_model.specs.declared.program.Head.TheVariants as head
use Rattle.asp_model.specs.declared.program.Rule.{Rule}
use Rattle.asp_model.specs.declared.program.Output.{Output}
use Rattle.asp_model.specs.declared.program.Program.{Program}
use Rattle.asp_model.specs.Sets.{Atoms, IsSubset, has}
use Rattle.asp_model.specs.Holding.{atom_of, body_atoms}
use Rattle.asp_model.specs.Models.{atoms_of, head_atoms, mentions}
use Rattle.asp_model.proofs.SetLaws.{has-set_of}
use Rattle.asp_model.proofs.MemberLaws.{each-flat_map, each-map, each_of, each_weaker, list_any-flat_map, list_any-weaker}
use Rattle.asp_model.proofs.ConsequenceLaws.{has-filter}
use Rattle.asp_settle.specs.Constraints.{is_barred}
use Rattle.asp_settle.specs.Settled.{facts_in, heads_of, left_in, settled_body, settled_head, settled_literals, settled_output, settled_rule}
use Rattle.asp_settle.proofs.FactLaws.{fact-unneeded}
use Rattle.asp_settle.proofs.OpenLaws.{facts-heads}

abbrev atoms_at : Rule → List ℕ
atoms_at r = head_atoms r.head ++ body_atoms r.body

pub facts-stand : (p : Program) → IsSubset (facts_in p) (atoms_of p)
facts-stand p a h =
    let heads : list_any (λ (r : Rule). has (head_atoms r.head) a) p.rules ≡ true = sym (list_any-flat_map (λ b. eqb b a) (λ (r : Rule). head_atoms r.head) p.rules) ∙ facts-heads p a h in
    let rules : has (flat_map atoms_at p.rules) a ≡ true =
    list_any-flat_map (λ b. eqb b a) atoms_at p.rules
    ∙ list_any-weaker (λ (r : Rule). has (head_atoms r.head) a) (λ r. has (atoms_at r) a) p.rules
    (each_of (λ r. has (head_atoms r.head) a ≡ true → has (atoms_at r) a ≡ true) (λ r e.
    list_any-append (λ b. eqb b a) (head_atoms r.head) (body_atoms r.body) ∙ or_left (has (head_atoms r.head) a) (has (body_atoms r.body) a) e) p.rules) heads in
    let outputs : List ℕ = flat_map (λ o. map atom_of o.condition) p.outputs in
    let items : List ℕ = flat_map (λ m. map (λ item. atom_of item.0) m.items) p.minimize in
    let externals : List ℕ = map (λ e. e.atom) p.externals in
    let front : (xs ys : List ℕ) → has xs a ≡ true → has (xs ++ ys) a ≡ true = λ xs ys e. list_any-append (λ b. eqb b a) xs ys ∙ or_left (has xs a) (has ys a) e in
    has-set_of (mentions p) a ∙ front (((flat_map atoms_at p.rules ++ items) ++ outputs) ++ externals) (map atom_of p.assumptions)
    (front ((flat_map atoms_at p.rules ++ items) ++ outputs) externals
    (front (flat_map atoms_at p.rules ++ items) outputs (front (flat_map atoms_at p.rules) items rules)))

-- ---- none of them is left
pub none-among : {X : Type 0} (p : X → Bool) (xs : List X) → AllByRecursion (λ x. p x ≡ false) xs → list_any p xs ≡ false
none-among p [] h = refl
none-among p (x ∷ xs) h = or_from (p x) (list_any p xs) h.0 (none-among p xs h.1)

kept_absent : {X : Type 0} (F : Atoms) (a : ℕ) (f : X → ℕ) (x : X) (xs : List X) (c : Bool) → has F a ≡ true → has F (f x) ≡ c →
    has (map f xs) a ≡ false → has (map f (cond (not c) (x ∷ xs) xs)) a ≡ false
kept_absent F a f x xs true fact e h = h
kept_absent F a f x xs false fact e h = or_from (eqb (f x) a) (has (map f xs) a) (ne_eqb (f x) a (λ same. both_ways (has F a) (ap (has F) (sym same) ∙ e) fact)) h

-- what has an atom of F is filtered out
filtered-absent : {X : Type 0} (F : Atoms) (a : ℕ) (f : X → ℕ) → has F a ≡ true → (xs : List X) → has (map f (filter (λ x. not (has F (f x))) xs)) a ≡ false
filtered-absent F a f fact [] = refl
filtered-absent F a f fact (x ∷ xs) = kept_absent F a f x (filter (λ y. not (has F (f y))) xs) (has F (f x)) fact refl (filtered-absent F a f fact xs)

cond_absent : {X : Type 0} (P : X → Type 0) (c : Bool) (x : X) → (c ≡ false → P x) → AllByRecursion P (cond c [] (x ∷ []))
cond_absent P true x h = tt
cond_absent P false x h = (h refl, tt)

literals-absent : (F : Atoms) (a : ℕ) → has F a ≡ true → (ls : List ℤ) → AllByRecursion (λ ks. has (map atom_of ks) a ≡ false) (settled_literals F ls)
literals-absent F a fact ls =
    cond_absent (λ ks. has (map atom_of ks) a ≡ false) (list_any (is_barred F) ls) (filter (λ l. not (has F (atom_of l))) ls) (λ e. filtered-absent F a atom_of fact ls)

body-absent : (F : Atoms) (a : ℕ) → has F a ≡ true → (b : Body) → AllByRecursion (λ x. has (body_atoms x) a ≡ false) (settled_body F b)
body-absent F a fact (body.All ls) = each-map (λ x. has (body_atoms x) a ≡ false) (λ ks. body.All ks) (settled_literals F ls) (literals-absent F a fact ls)
body-absent F a fact (body.AtLeast bound items) = (filtered-absent F a (λ (i : ℤ × ℤ). atom_of i.0) fact items, tt)

head-absent : (F : Atoms) (a : ℕ) → has F a ≡ true → (h : Head) → AllByRecursion (λ x. has (head_atoms x) a ≡ false) (settled_head F h)
head-absent F a fact (head.One b) =
    cond_absent (λ x. has (head_atoms x) a ≡ false) (has F b) (head.One b) (λ e. or_from (eqb b a) false (ne_eqb b a (λ same. both_ways (has F a) (ap (has F) (sym same) ∙ e) fact)) refl)
head-absent F a fact (head.Choice atoms) = (has-filter (λ b. not (has F b)) atoms a ∙ ap (λ b. not b && has atoms a) fact, tt)
head-absent F a fact head.Never = (refl, tt)

rule-absent : (F : Atoms) (a : ℕ) → has F a ≡ true → (r : Rule) → AllByRecursion (λ x. has (atoms_at x) a ≡ false) (settled_rule F r)
rule-absent F a fact r =
    each-flat_map (λ x. has (atoms_at x) a ≡ false) (λ h. map (λ b. record { head = h; body = b }) (settled_body F r.body)) (settled_head F r.head)
    (each_weaker (λ h. has (head_atoms h) a ≡ false) (λ h. AllByRecursion (λ x. has (atoms_at x) a ≡ false) (map (λ b. record { head = h; body = b }) (settled_body F r.body))) (λ h eh.
    each-map (λ x. has (atoms_at x) a ≡ false) (λ b. record { head = h; body = b }) (settled_body F r.body)
    (each_weaker (λ b. has (body_atoms b) a ≡ false) (λ b. has (head_atoms h ++ body_atoms b) a ≡ false) (λ b eb.
    list_any-append (λ c. eqb c a) (head_atoms h) (body_atoms b) ∙ or_from (has (head_atoms h) a) (has (body_atoms b) a) eh eb) (settled_body F r.body) (body-absent F a fact r.body)))
    (settled_head F r.head) (head-absent F a fact r.head))

output-absent : (F : Atoms) (a : ℕ) → has F a ≡ true → (o : Output) → AllByRecursion (λ x. has (map atom_of x.condition) a ≡ false) (settled_output F o)
output-absent F a fact o =
    each-map (λ (x : Output). has (map atom_of x.condition) a ≡ false) (λ ls. record { text = o.text; condition = ls }) (settled_literals F o.condition) (literals-absent F a fact o.condition)

none-left : {X : Type 0} (a : ℕ) (f : X → List X) (g : X → List ℕ) → ((x : X) → AllByRecursion (λ y. has (g y) a ≡ false) (f x)) → (xs : List X) → has (flat_map g (flat_map f xs)) a ≡ false
none-left a f g h xs =
    list_any-flat_map (λ b. eqb b a) g (flat_map f xs)
    ∙ none-among (λ x. has (g x) a) (flat_map f xs)
    (each-flat_map (λ y. has (g y) a ≡ false) f xs (each_of (λ x. AllByRecursion (λ y. has (g y) a ≡ false) (f x)) h xs))

pub facts-apart : (p : Program) (a : ℕ) → has (facts_in p) a ≡ true → has (atoms_of (left_in p)) a ≡ false
facts-apart p a fact =
    let F = facts_in p in
    let rules : List ℕ = flat_map atoms_at (flat_map (settled_rule F) p.rules) in
    let items : List ℕ = flat_map (λ m. map (λ item. atom_of item.0) m.items) p.minimize in
    let outputs : List ℕ = flat_map (λ o. map atom_of o.condition) (flat_map (settled_output F) p.outputs) in
    let externals : List ℕ = map (λ e. e.atom) (filter (λ e. not (has (heads_of p.rules) e.atom)) p.externals) in
    let assumed : List ℕ = map atom_of p.assumptions in
    let unneeded = or_parts (has items a) (has assumed a) (sym (list_any-append (λ b. eqb b a) items assumed) ∙ fact-unneeded p a fact) in
    let both : (xs ys : List ℕ) → has xs a ≡ false → has ys a ≡ false → has (xs ++ ys) a ≡ false = λ xs ys e k. list_any-append (λ b. eqb b a) xs ys ∙ or_from (has xs a) (has ys a) e k in
    has-set_of (mentions (left_in p)) a
    ∙ both (((rules ++ items) ++ outputs) ++ externals) assumed (both ((rules ++ items) ++ outputs) externals (both (rules ++ items) outputs (both rules items
    (none-left a (settled_rule F) atoms_at (rule-absent F a fact) p.rules) unneeded.0)
    (none-left a (settled_output F) (λ o. map atom_of o.condition) (output-absent F a fact) p.outputs))
    (filtered-absent (heads_of p.rules) a (λ e. e.atom) (facts-heads p a fact) p.externals)) unneeded.1
