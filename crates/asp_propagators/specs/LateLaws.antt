-- What is written when a reason is asked for.
use Rattle.std.proofs.Common.{◌≡◌, ℕ, ◌+◌, ◌^◌, List, length, Option, Some, None, ℤ, inl, inr, arith}
use Rattle.std.specs.Prelude.{IfSome}
use Rattle.asp_model.specs.declared.program.Program.{Program}
use Rattle.asp_model.specs.Sound.{IsSound}
use Rattle.asp_vars.specs.Literals.{Literal}
use Rattle.asp_vars.specs.Numbering.{var_count}
use Rattle.asp_vars.specs.declared.nogood.Nogood.{Nogood}
use Rattle.asp_trail.specs.declared.trail.Entry.{Entry}
use Rattle.asp_trail.specs.declared.said.Implied.{Implied}
use Rattle.asp_trail.specs.Trails.{IsOrdered}
use Rattle.asp_trail.specs.Reasons.{IsReason}
use Rattle.asp_weight.specs.Explained.{IsExplained as IsWeighed}
use Rattle.asp_weight.proofs.ExplainLaws.{reasoned as weights_reasoned}
use Rattle.asp_bound.specs.Bounded.{Bounded}
use Rattle.asp_bound.specs.Explained.{IsExplained as IsBounded}
use Rattle.asp_bound.proofs.LateLaws.{explained_lower, reasoned as bound_reasoned}
use Rattle.asp_propagate.specs.Saying.{IsFollowing}
use Rattle.asp_propagate.specs.Useful.{IsSmaller}
use Rattle.asp_propagators.specs.Saying.{gives, explains, late}

pub late-given : (p : Program) (b : Option (List ℤ)) (n : Nogood) → late p b n → gives p b n
late-given p b n (inl w) = inl w
late-given p b n (inr d) = inr (inl d)

pub follows-lower : (p : Program) (b : Option (List ℤ)) (c : List ℤ) (es : List Entry) (l : Literal) (name : ℕ) → IsSmaller c b → explains p b es l name → explains p (Some c) es l name
follows-lower p b c es l name s (inl w) = inl w
follows-lower p None c es l name s (inr x) = inr (explained_lower p None c es l tt x.0, x.1)
follows-lower p (Some d) c es l name s (inr x) = inr (explained_lower p (Some d) c es l s x.0, x.1)

pub follows-reasoned : (p : Program) (b : Option (List ℤ)) (es : List Entry) (l : Literal) (name : ℕ) → IsSound p → IsOrdered (var_count p) es →
    explains p b es l name → (n : Nogood) × late p b n × IsReason es (length es) l n.lits
follows-reasoned p b es l name sound o (inl w) = let r = weights_reasoned p es l name sound o w.0 in (r.0, inl r.1, r.2)
follows-reasoned p b es l name sound o (inr x) = let r = bound_reasoned p b es l o x.0 in (r.0, inr r.1, r.2)

-- whose name it is
pub follows-bounded : (p : Program) (b : Option (List ℤ)) (es : List Entry) (l : Literal) (name : ℕ) → explains p b es l name → name ≡ 2147483647 → IsBounded p b es l
follows-bounded p b es l name (inl w) e = absurd (omega (arith, w.1, e))
follows-bounded p b es l name (inr x) e = x.0

pub follows-weighed : (p : Program) (b : Option (List ℤ)) (es : List Entry) (l : Literal) (name : ℕ) → explains p b es l name → (name ≡ 2147483647 → ⊥) → IsWeighed p es l name
follows-weighed p b es l name (inl w) ne = w.0
follows-weighed p b es l name (inr x) ne = absurd (ne (omega (arith, x.1)))

-- one more literal by the bound
pub bounds-follow : (s : Bounded) (es : List Entry) (o : Option Implied) → IfSome o (λ i. IsBounded s.told.program s.bound es i.lit × (i.name + 1 ≡ 2 ^ 31)) →
    IfSome o (λ i. IsFollowing (explains s.told.program s.bound) (var_count s.told.program) es i.lit i.name)
bounds-follow s es None h = tt
bounds-follow s es (Some i) h = record { var = h.0.var; none = h.0.none; small = omega (arith, h.1); explained = inr h }
