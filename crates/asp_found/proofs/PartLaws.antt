-- The items of a list of rules, one by one.
use Rattle.std.proofs.Common.{◌≡◌, ℕ, zero, suc, ◌+◌, ◌<◌, true, ◌&&◌, List, [], ◌∷◌, length, get_or, take, refl, sym, ap, ◌∙◌, subst, arith}
use Rattle.std.specs.List.{list_all, AllByRecursion}
use Rattle.std.proofs.lemmas.Bool.{and_from}
use Rattle.std.proofs.lemmas.List.{take_more}
use Rattle.std.proofs.lemmas.List.Folds.{list_all-append}
use Rattle.asp_model.specs.declared.program.Rule.{Rule}
use Rattle.asp_model.specs.declared.program.Program.{Program}
use Rattle.asp_model.specs.Sets.{Atoms, has}
use Rattle.asp_model.specs.Models.{rules_in_force, atoms_of, head_atoms}
use Rattle.asp_model.proofs.ReductLaws.{rules_in_force-heads}
use Rattle.asp_model.specs.declared.program.Head.TheVariants as head
use Rattle.asp_model.specs.declared.program.Body.TheVariants as body
use Rattle.asp_vars.specs.Numbering.{nth_rule}
use Rattle.asp_found.specs.Verdicts.{keeps}
use Rattle.asp_vars.proofs.PlaceLaws.{at_each}
use Rattle.asp_vars.proofs.StandingLaws.{Among, each_among}

pub get_or-any : {X : Type 0} (xs : List X) (i : ℕ) (d e : X) → i < length xs → get_or xs i d ≡ get_or xs i e
get_or-any [] i d e lt = absurd (omega arith)
get_or-any (x ∷ xs) zero d e lt = refl
get_or-any (x ∷ xs) (suc i) d e lt = get_or-any xs i d e (omega arith)

-- an item of the rules in force
pub item_stands : (p : Program) (r : Rule) (i : ℕ) → i < length (rules_in_force p) → r ≡ get_or (rules_in_force p) i r → AllByRecursion (λ a. has (atoms_of p) a ≡ true) (head_atoms r.head)
item_stands p r i lt is =
    subst (λ (x : Rule). AllByRecursion (λ a. has (atoms_of p) a ≡ true) (head_atoms x.head)) (sym is)
    (at_each (λ (x : Rule). AllByRecursion (λ a. has (atoms_of p) a ≡ true) (head_atoms x.head)) (rules_in_force p) i r (rules_in_force-heads p) lt)

pub item_among : (p : Program) (r : Rule) (i : ℕ) → i < length (rules_in_force p) → r ≡ get_or (rules_in_force p) i r → Among (rules_in_force p) r
item_among p r i lt is =
    subst (λ (x : Rule). Among (rules_in_force p) x) (sym is) (at_each (Among (rules_in_force p)) (rules_in_force p) i r (each_among (rules_in_force p)) lt)

-- a rule by its number
pub rule_at : (p : Program) (r : Rule) (i : ℕ) → i < length (rules_in_force p) → r ≡ nth_rule p i → r ≡ get_or (rules_in_force p) i r
rule_at p r i lt is = is ∙ get_or-any (rules_in_force p) i (record { head = head.Never; body = body.All [] }) r lt

pub keeps_more : (p : Program) (S : Atoms) (r : Rule) (i : ℕ) → i < length (rules_in_force p) → r ≡ get_or (rules_in_force p) i r →
    list_all (keeps S) (take i (rules_in_force p)) ≡ true → keeps S r ≡ true → list_all (keeps S) (take (i + 1) (rules_in_force p)) ≡ true
keeps_more p S r i lt is before kept =
    ap (list_all (keeps S)) (take_more (rules_in_force p) i r lt) ∙ list_all-append (keeps S) (take i (rules_in_force p)) (get_or (rules_in_force p) i r ∷ [])
    ∙ and_from (list_all (keeps S) (take i (rules_in_force p))) (keeps S (get_or (rules_in_force p) i r) && true) before
    (and_from (keeps S (get_or (rules_in_force p) i r)) true (sym (ap (keeps S) is) ∙ kept) refl)
