-- A literal holds exactly where an entry has it.
use Rattle.std.proofs.Common.{◌≡◌, ◌≢◌, ℕ, suc, zero, ◌+◌, ◌<◌, Bool, true, false, List, [], ◌∷◌, length, Option, Some, None, fold, replicate, get_or, refl, sym, ap, ◌∙◌, subst, arith, get_or-set_same}
use Rattle.std.specs.List.{AllPairs}
use Rattle.std.specs.Bool.{beq}
use Rattle.std.specs.Option.{is_some}
use Rattle.std.proofs.lemmas.Bool.{false≢true}
use Rattle.std.proofs.lemmas.Grind.{common_steps}
use Rattle.std.proofs.lemmas.List.{length-set}
use Rattle.asp_vars.specs.Literals.{Literal, holds_in, agrees, value_of}
use Rattle.asp_vars.proofs.LiteralLaws.{beq_same}
use Rattle.asp_trail.specs.declared.trail.Entry.{Entry}
use Rattle.asp_trail.specs.Entries.{assign, assignment}
use Rattle.asp_trail.specs.Trails.{IsOrdered}
use Rattle.asp_trail.proofs.EntryLaws.{fold_found, fold_without, none_at}

value_from : (z : List (Option Bool)) (es : List Entry) (i : ℕ) (d : Entry) → i < length es → (get_or es i d).lit.var < length z →
    AllPairs (λ e f. e.lit.var ≢ f.lit.var) es → get_or (fold assign z es) (get_or es i d).lit.var None ≡ Some (get_or es i d).lit.truth
value_from z [] i d h w a = absurd (omega arith)
value_from z (e ∷ es) zero d h w a =
    fold_without (assign z e) es e.lit.var (λ j f k q. a 0 (suc j) f (omega arith) (omega arith) (sym q))
    ∙ get_or-set_same z e.lit.var (Some e.lit.truth) None w
value_from z (e ∷ es) (suc i) d h w a =
    value_from (assign z e) es i d (omega arith) (rw length-set w) (λ j k f l m. a (suc j) (suc k) f (omega arith) (omega arith))

length-none : (n : ℕ) → (let o : Option Bool = None in length (replicate n o)) ≡ n
length-none n = grind (arith, common_steps)

pub value_at : (vars : ℕ) (es : List Entry) (i : ℕ) (d : Entry) → IsOrdered vars es → i < length es →
    get_or (assignment vars es) (get_or es i d).lit.var None ≡ Some (get_or es i d).lit.truth
value_at vars es i d o h =
    value_from (replicate (vars + 1) None) es i d h (omega (arith, o.within i d h, length-none (vars + 1))) o.apart

beq_itself : (b : Bool) → beq b b ≡ true
beq_itself true = refl
beq_itself false = refl

pub holds_at : (vars : ℕ) (es : List Entry) (i : ℕ) (d : Entry) (l : Literal) → IsOrdered vars es → i < length es → (get_or es i d).lit ≡ l →
    holds_in (assignment vars es) l ≡ true
holds_at vars es i d l o h q =
    let e : Entry = get_or es i d in
    subst (λ (k : Literal). holds_in (assignment vars es) k ≡ true) q (ap (λ v. agrees v e.lit) (value_at vars es i d o h) ∙ beq_itself e.lit.truth)

pub holds_found : (vars : ℕ) (es : List Entry) (l : Literal) → IsOrdered vars es → holds_in (assignment vars es) l ≡ true →
    (i : ℕ) × (i < length es) × ((d : Entry) → (get_or es i d).lit ≡ l)
holds_found vars es l o h =
    let f = fold_found (replicate (vars + 1) None) es l.var (none_at (vars + 1) l.var) (some (value_of (assignment vars es) l.var) h) in (
      f.0,
      f.1,
      λ d. same (get_or es f.0 d).lit (f.2 d)
          (sym (ap (λ v. get_or (assignment vars es) v None) (f.2 d)) ∙ value_at vars es f.0 d o f.1),
    )
  where
    some : (v : Option Bool) → agrees v l ≡ true → is_some v ≡ true
    some None q = absurd (false≢true q)
    some (Some b) q = refl

    truth : (v : Option Bool) (b : Bool) → v ≡ Some b → agrees v l ≡ true → b ≡ l.truth
    truth v b q g = beq_same b l.truth (sym (ap (λ w. agrees w l) q) ∙ g)

    same : (k : Literal) → k.var ≡ l.var → get_or (assignment vars es) l.var None ≡ Some k.truth → k ≡ l
    same k vq q =
        let t : k.truth ≡ l.truth = truth (get_or (assignment vars es) l.var None) k.truth q h in
        λ i. record { var = vq i; truth = t i }
