-- What names no fact is left as it is, and so is a program that denies no atom.
use Rattle.std.proofs.Common.{◌≡◌, ℕ, Bool, true, false, not, cond, ◌&&◌, ◌||◌, List, [], ◌∷◌, map, filter, flat_map, nat_lt, ℤ, pos, negsuc, ◌+ℤ◌, ◌≤ℤ◌, refl, sym, ap, ◌∙◌, arith}
use Rattle.std.specs.List.{list_all, list_any}
use Rattle.std.proofs.lemmas.Bool.{and_parts, false≢true}
use Rattle.std.proofs.lemmas.Int.{ints}
use Rattle.asp_model.specs.declared.program.Body.TheVariants as body
use Rattle.asp_model.specs.declared.program.Head.{Head}
use Rattle.asp_model.specs.declared.program.Head.TheVariants as head
use Rattle.asp_model.specs.declared.program.Output.{Output}
use Rattle.asp_model.specs.declared.program.Program.{Program}
use Rattle.asp_model.specs.declared.program.Rule.{Rule}
use Rattle.asp_model.specs.Sets.{Atoms, has, set_of}
use Rattle.asp_model.specs.Holding.{atom_of, is_negative, is_positive}
use Rattle.asp_model.proofs.ConsequenceLaws.{filter-every}
use Rattle.asp_settle.specs.Constraints.{constrained, constrained_by, constrained_head, constrained_rule, denied_by, denied_of, is_barred, reach}
use Rattle.asp_settle.specs.Settled.{lowered, settled_body, settled_head, settled_literals, settled_output, settled_weight}

filter-kept : {X : Type 0} (p : X → Bool) (xs : List X) → list_all p xs ≡ true → filter p xs ≡ xs
filter-kept p [] h = refl
filter-kept p (x ∷ xs) h =
    let parts = and_parts (p x) (list_all p xs) h in
    ap (λ b. cond b (x ∷ filter p xs) (filter p xs)) parts.0 ∙ ap (λ ys. x ∷ ys) (filter-kept p xs parts.1)

-- ---- literals
not_both : (a b c : Bool) → not b ≡ true → c ≡ false → ((a && b) || c) ≡ false
not_both true true c h e = cc
not_both true false c h e = e
not_both false b c h e = e

none-barred : (F : Atoms) (ls : List ℤ) → list_all (λ l. not (has F (atom_of l))) ls ≡ true → list_any (is_barred F) ls ≡ false
none-barred F [] h = refl
none-barred F (l ∷ ls) h =
    let parts = and_parts (not (has F (atom_of l))) (list_all (λ k. not (has F (atom_of k))) ls) h in
    not_both (is_negative l) (has F (atom_of l)) (list_any (is_barred F) ls) parts.0 (none-barred F ls parts.1)

literals-stay : (F : Atoms) (ls : List ℤ) → list_all (λ l. not (has F (atom_of l))) ls ≡ true → settled_literals F ls ≡ ls ∷ []
literals-stay F ls h =
    ap (λ b. cond b [] (filter (λ l. not (has F (atom_of l))) ls ∷ [])) (none-barred F ls h)
    ∙ ap (λ ks. ks ∷ []) (filter-kept (λ l. not (has F (atom_of l))) ls h)

-- ---- weights
unweighted : (a b : Bool) (w : ℤ) → not b ≡ true → cond (a && b) w (pos 0) ≡ pos 0
unweighted true true w h = cc
unweighted true false w h = refl
unweighted false b w h = refl

weight-none : (F : Atoms) (items : List (ℤ × ℤ)) → list_all (λ i. not (has F (atom_of i.0))) items ≡ true → settled_weight F items ≡ pos 0
weight-none F [] h = refl
weight-none F (i ∷ items) h =
    let parts = and_parts (not (has F (atom_of i.0))) (list_all (λ j. not (has F (atom_of j.0))) items) h in
    ap (λ z. z +ℤ settled_weight F items) (unweighted (is_positive i.0) (has F (atom_of i.0)) i.1 parts.0) ∙ ap (λ z. pos 0 +ℤ z) (weight-none F items parts.1)

lowered-none : (bound : ℤ) → pos 0 ≤ℤ bound → lowered bound (pos 0) ≡ bound
lowered-none bound h = grind (arith, ints)

-- ---- heads, bodies, rules and outputs
pub choice-stays : (F : Atoms) (atoms : List ℕ) → list_all (λ a. not (has F a)) atoms ≡ true → settled_head F (head.Choice atoms) ≡ head.Choice atoms ∷ []
choice-stays F atoms h = ap (λ xs. head.Choice xs ∷ []) (filter-kept (λ a. not (has F a)) atoms h)

pub all-stays : (F : Atoms) (ls : List ℤ) → list_all (λ l. not (has F (atom_of l))) ls ≡ true → settled_body F (body.All ls) ≡ body.All ls ∷ []
all-stays F ls h = ap (map (λ ks. body.All ks)) (literals-stay F ls h)

pub weighted-stays : (F : Atoms) (bound : ℤ) (items : List (ℤ × ℤ)) → pos 0 ≤ℤ bound → list_all (λ i. not (has F (atom_of i.0))) items ≡ true →
    settled_body F (body.AtLeast bound items) ≡ body.AtLeast bound items ∷ []
weighted-stays F bound items low h =
    ap (λ z. body.AtLeast (lowered bound z) (filter (λ i. not (has F (atom_of i.0))) items) ∷ []) (weight-none F items h)
    ∙ ap (λ z. body.AtLeast z (filter (λ i. not (has F (atom_of i.0))) items) ∷ []) (lowered-none bound low)
    ∙ ap (λ xs. body.AtLeast bound xs ∷ []) (filter-kept (λ i. not (has F (atom_of i.0))) items h)

pub output-stays : (F : Atoms) (o : Output) → list_all (λ l. not (has F (atom_of l))) o.condition ≡ true → settled_output F o ≡ o ∷ []
output-stays F o h = ap (map (λ ls. record { text = o.text; condition = ls })) (literals-stay F o.condition h)

-- ---- programs that deny no atom
none-denied : (ls : List ℤ) → list_any is_negative ls ≡ false → flat_map denied_by ls ≡ []
none-denied [] h = refl
none-denied (pos a ∷ ls) h = none-denied ls h
none-denied (negsuc a ∷ ls) h = absurd (false≢true (sym h))

denied-none : (p : Program) → list_any is_negative p.assumptions ≡ false → denied_of p ≡ []
denied-none p h = ap (λ xs. filter (λ a. nat_lt a (reach p) && not (has (map (λ e. e.atom) p.externals) a)) (set_of xs)) (none-denied p.assumptions h)

same-head : (h : Head) → constrained_head [] h ≡ h
same-head (head.One a) = refl
same-head (head.Choice atoms) = ap (λ xs. head.Choice xs) (filter-every (λ a. not (has [] a)) atoms (λ a. refl))
same-head head.Never = refl

same-rules : (rs : List Rule) → map (constrained_rule []) rs ≡ rs
same-rules [] = refl
same-rules (r ∷ rs) =
    ap (λ (h : Head). let x : Rule = record { head = h; body = r.body } in x ∷ map (constrained_rule []) rs) (same-head r.head)
    ∙ ap (λ xs. r ∷ xs) (same-rules rs)

same-assumptions : (ls : List ℤ) → filter (λ l. not (is_barred [] l)) ls ≡ ls
same-assumptions [] = refl
same-assumptions (pos a ∷ ls) = ap (λ ks. pos a ∷ ks) (same-assumptions ls)
same-assumptions (negsuc a ∷ ls) = ap (λ ks. negsuc a ∷ ks) (same-assumptions ls)

abbrev made : Program → List Rule → List ℤ → Program
made p rs ls = record { rules = rs; minimize = p.minimize; outputs = p.outputs; externals = p.externals; assumptions = ls }

pub constrained-none : (p : Program) → list_any is_negative p.assumptions ≡ false → constrained p ≡ p
constrained-none p h =
    ap (λ N. constrained_by N p) (denied-none p h)
    ∙ ap (λ rs. made p rs (filter (λ l. not (is_barred [] l)) p.assumptions)) (same-rules p.rules)
    ∙ ap (made p p.rules) (same-assumptions p.assumptions)
