-- The same texts are shown, at the same cost, and the same assumptions hold.
use Rattle.std.proofs.Common.{◌≡◌, ℕ, Bool, true, false, cond, List, [], ◌∷◌, map, filter, fold, ℤ, pos, ◌+ℤ◌, refl, sym, ap, ◌∙◌}
use Rattle.std.specs.Ordering.{int_eq}
use Rattle.asp_model.specs.declared.program.Minimize.{Minimize}
use Rattle.asp_model.specs.declared.program.Output.{Output}
use Rattle.asp_model.specs.declared.program.Program.{Program}
use Rattle.asp_model.specs.Sets.{Atoms}
use Rattle.asp_model.specs.Holding.{all_hold, weight_of}
use Rattle.asp_model.specs.Costs.{cost, cost_at, priorities, with_priority}
use Rattle.asp_model.specs.Texts.{shown}
use Rattle.asp_equal.specs.Merged.{merged_by, renamed, renamed_minimize, renamed_output}
use Rattle.asp_equal.proofs.ReadLaws.{IsProper, Reads, literals-read, weight-read}

pub assumed-read : (m : ℕ → ℕ) (p : Program) (X S : Atoms) → IsProper m → Reads m X S → all_hold S (merged_by m p).assumptions ≡ all_hold X p.assumptions
assumed-read m p X S proper r = literals-read m X S proper r p.assumptions

-- ---- texts
abbrev text_of : Output → List ℕ
text_of o = o.text

abbrev holding : Atoms → List Output → List Output
holding S os = filter (λ o. all_hold S o.condition) os

kept_text : (c : Bool) (o : Output) (os : List Output) → map text_of (cond c (o ∷ os) os) ≡ cond c (o.text ∷ map text_of os) (map text_of os)
kept_text true o os = refl
kept_text false o os = refl

texts-read : (m : ℕ → ℕ) (X S : Atoms) → IsProper m → Reads m X S → (os : List Output) → map text_of (holding S (map (renamed_output m) os)) ≡ map text_of (holding X os)
texts-read m X S proper r [] = refl
texts-read m X S proper r (o ∷ os) =
    let later = holding S (map (renamed_output m) os) in
    kept_text (all_hold S (map (renamed m) o.condition)) (renamed_output m o) later
    ∙ ap (λ b. cond b (o.text ∷ map text_of later) (map text_of later)) (literals-read m X S proper r o.condition)
    ∙ ap (λ ts. cond (all_hold X o.condition) (o.text ∷ ts) ts) (texts-read m X S proper r os)
    ∙ sym (kept_text (all_hold X o.condition) o (holding X os))

pub shown-read : (m : ℕ → ℕ) (p : Program) (X S : Atoms) → IsProper m → Reads m X S → shown (merged_by m p) S ≡ shown p X
shown-read m p X S proper r = texts-read m X S proper r p.outputs

-- ---- costs
priorities-from : (m : ℕ → ℕ) (ss : List Minimize) (qs : List ℤ) → fold (λ ps s. with_priority s.priority ps) qs (map (renamed_minimize m) ss) ≡ fold (λ ps s. with_priority s.priority ps) qs ss
priorities-from m [] qs = refl
priorities-from m (s ∷ ss) qs = priorities-from m ss (with_priority s.priority qs)

sums-read : (m : ℕ → ℕ) (X S : Atoms) → IsProper m → Reads m X S → (ss : List Minimize) (q : ℤ) → cost_at S (map (renamed_minimize m) ss) q ≡ cost_at X ss q
sums-read m X S proper r [] q = refl
sums-read m X S proper r (s ∷ ss) q =
    ap (λ z. cond (int_eq s.priority q) z (pos 0) +ℤ cost_at S (map (renamed_minimize m) ss) q) (weight-read m X S proper r s.items)
    ∙ ap (λ z. cond (int_eq s.priority q) (weight_of X s.items) (pos 0) +ℤ z) (sums-read m X S proper r ss q)

map-same : (f g : ℤ → ℤ) (qs : List ℤ) → ((q : ℤ) → f q ≡ g q) → map f qs ≡ map g qs
map-same f g [] h = refl
map-same f g (q ∷ qs) h = ap (λ z. z ∷ map f qs) (h q) ∙ ap (λ zs. g q ∷ zs) (map-same f g qs h)

pub cost-read : (m : ℕ → ℕ) (p : Program) (X S : Atoms) → IsProper m → Reads m X S → cost (merged_by m p) S ≡ cost p X
cost-read m p X S proper r =
    ap (map (cost_at S (map (renamed_minimize m) p.minimize))) (priorities-from m p.minimize [])
    ∙ map-same (cost_at S (map (renamed_minimize m) p.minimize)) (cost_at X p.minimize) (priorities p.minimize) (sums-read m X S proper r p.minimize)
