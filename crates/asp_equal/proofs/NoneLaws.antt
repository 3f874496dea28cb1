-- A program in which no atom goes is merged as it is.
use Rattle.std.proofs.Common.{◌≡◌, ℕ, zero, suc, ◌<◌, Bool, true, false, not, cond, ◌&&◌, eqb, List, [], ◌∷◌, ◌++◌, map, flat_map, ℤ, pos, negsuc, refl, sym, ap, ◌∙◌, arith, inl, inr}
use Rattle.std.proofs.lemmas.Bool.{cases_lt, eqb-true}
use Rattle.asp_model.specs.declared.program.Body.{Body}
use Rattle.asp_model.specs.declared.program.Body.TheVariants as body
use Rattle.asp_model.specs.declared.program.Head.{Head}
use Rattle.asp_model.specs.declared.program.Head.TheVariants as head
use Rattle.asp_model.specs.declared.program.Minimize.{Minimize}
use Rattle.asp_model.specs.declared.program.Output.{Output}
use Rattle.asp_model.specs.declared.program.Program.{Program}
use Rattle.asp_model.specs.declared.program.Rule.{Rule}
use Rattle.asp_model.specs.Holding.{atom_of, is_positive}
use Rattle.asp_equal.specs.Copies.{copies_below, places, same}
use Rattle.asp_equal.specs.Merged.{copies_of, is_copying, merged_by, merged_of, merged_rule, renamed, renamed_body, renamed_head, renamed_item, renamed_minimize, renamed_output, renamed_rule}
use Rattle.asp_equal.proofs.SameLaws.{same-far}

-- ---- no atom goes
front_empty : {X : Type 0} (xs ys : List X) → xs ++ ys ≡ [] → xs ≡ []
front_empty [] ys e = refl
front_empty (x ∷ xs) ys e = absurd cc

back_empty : {X : Type 0} (xs ys : List X) → xs ++ ys ≡ [] → ys ≡ []
back_empty [] ys e = e
back_empty (x ∷ xs) ys e = absurd cc

one_stays : (m : ℕ → ℕ) (k : ℕ) (x : ℕ × ℕ) (c : Bool) → eqb (m k) k ≡ c → cond c [] (x ∷ []) ≡ [] → m k ≡ k
one_stays m k x true e h = eqb-true (m k) k e
one_stays m k x false e h = absurd cc

none-goes : (m : ℕ → ℕ) (n : ℕ) → copies_below m n ≡ [] → (a : ℕ) → a < n → m a ≡ a
none-goes m zero e a lt = absurd (omega arith)
none-goes m (suc k) e a lt = elim (cases_lt a k) [
  | inl low ↦ none-goes m k (front_empty (copies_below m k) _ e) a low
  | inr high ↦ let is : k ≡ a = omega arith in ap m (sym is) ∙ one_stays m k (k, m k) (eqb (m k) k) refl (back_empty (copies_below m k) _ e) ∙ is
]

each-stays : (p : Program) → copies_of p ≡ [] → (a : ℕ) → same (places p) p a ≡ a
each-stays p e a = elim (cases_lt a (places p)) [
  | inl low ↦ none-goes (same (places p) p) (places p) e a low
  | inr far ↦ same-far (places p) p a far
]

-- ---- each atom as itself
abbrev itself : ℕ → ℕ
itself a = a

map-id : {X : Type 0} (f : X → X) → ((x : X) → f x ≡ x) → (xs : List X) → map f xs ≡ xs
map-id f h [] = refl
map-id f h (x ∷ xs) = ap (λ y. y ∷ map f xs) (h x) ∙ ap (λ ys. x ∷ ys) (map-id f h xs)

literal-same : (l : ℤ) → renamed itself l ≡ l
literal-same (pos a) = refl
literal-same (negsuc a) = refl

item-same : (i : ℤ × ℤ) → renamed_item itself i ≡ i
item-same i = ap (λ l. (l, i.1)) (literal-same i.0)

head-same : (h : Head) → renamed_head itself h ≡ h
head-same (head.One a) = refl
head-same (head.Choice atoms) = ap (λ xs. head.Choice xs) (map-id itself (λ a. refl) atoms)
head-same head.Never = refl

body-same : (b : Body) → renamed_body itself b ≡ b
body-same (body.All literals) = ap (λ ls. body.All ls) (map-id (renamed itself) literal-same literals)
body-same (body.AtLeast bound items) = ap (λ xs. body.AtLeast bound xs) (map-id (renamed_item itself) item-same items)

never_both : (c d : Bool) → (c && not d && d) ≡ false
never_both true true = refl
never_both true false = refl
never_both false d = refl

not-copying : (h : Head) (b : Body) → is_copying itself h b ≡ false
not-copying (head.One a) (body.All []) = refl
not-copying (head.One a) (body.All (l ∷ [])) = never_both (is_positive l) (eqb (atom_of l) a)
not-copying (head.One a) (body.All (l ∷ k ∷ ls)) = refl
not-copying (head.One a) (body.AtLeast bound items) = refl
not-copying (head.Choice atoms) b = refl
not-copying head.Never b = refl

rule-same : (r : Rule) → merged_rule itself r ≡ r ∷ []
rule-same r =
    ap (λ c. cond c [] (renamed_rule itself r ∷ [])) (not-copying r.head r.body)
    ∙ ap (λ (h : Head). let x : Rule = record { head = h; body = renamed_body itself r.body } in x ∷ []) (head-same r.head)
    ∙ ap (λ (b : Body). let x : Rule = record { head = r.head; body = b } in x ∷ []) (body-same r.body)

rules-same : (rs : List Rule) → flat_map (merged_rule itself) rs ≡ rs
rules-same [] = refl
rules-same (r ∷ rs) = ap (λ xs. xs ++ flat_map (merged_rule itself) rs) (rule-same r) ∙ ap (λ xs. r ∷ xs) (rules-same rs)

statement-same : (s : Minimize) → renamed_minimize itself s ≡ s
statement-same s = ap (λ (xs : List (ℤ × ℤ)). let x : Minimize = record { priority = s.priority; items = xs } in x) (map-id (renamed_item itself) item-same s.items)

output-same : (o : Output) → renamed_output itself o ≡ o
output-same o = ap (λ (ls : List ℤ). let x : Output = record { text = o.text; condition = ls } in x) (map-id (renamed itself) literal-same o.condition)

merged-same : (p : Program) → merged_by itself p ≡ p
merged-same p =
    ap (λ (rs : List Rule). let x : Program =
    record {
      rules = rs;
      minimize = map (renamed_minimize itself) p.minimize;
      outputs = map (renamed_output itself) p.outputs;
      externals =
          p.externals;
      assumptions = map (renamed itself) p.assumptions;
    } in x) (rules-same p.rules)
    ∙ ap (λ (ms : List Minimize). let x : Program =
    record {
      rules = p.rules;
      minimize = ms;
      outputs = map (renamed_output itself) p.outputs;
      externals = p.externals;
      assumptions =
          map (renamed itself) p.assumptions;
    } in x) (map-id (renamed_minimize itself) statement-same p.minimize)
    ∙ ap (λ (os : List Output). let x : Program =
    record { rules = p.rules; minimize = p.minimize; outputs = os; externals = p.externals; assumptions = map (renamed itself) p.assumptions }
    in x) (map-id (renamed_output itself) output-same p.outputs)
    ∙ ap (λ (ls : List ℤ). let x : Program =
    record { rules = p.rules; minimize = p.minimize; outputs = p.outputs; externals = p.externals; assumptions = ls } in x)
    (map-id (renamed itself) literal-same p.assumptions)

pub merged-none : (p : Program) → copies_of p ≡ [] → merged_of p ≡ p
merged-none p e = (λ i. merged_by (λ a. each-stays p e a i) p) ∙ merged-same p
