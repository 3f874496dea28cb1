use Rattle.std.proofs.Common.{◌≡◌, ℕ, Bool, true, false, Option, Some, None, refl, ap, ◌∙◌}
use Rattle.std.specs.Option.{unwrap_or}
use Rattle.asp_vars.specs.Literals.{T, agrees}
use Rattle.asp_stable.proofs.derive.is_true.Goals as goal

truth_of : (o : Option Bool) (v : ℕ) → unwrap_or o false ≡ agrees o (T v)
truth_of None v = refl
truth_of (Some true) v = refl
truth_of (Some false) v = refl

pub returns : goal.returns
returns c = c.unwrap_or.ensures ∙ ap (λ (o : Option Bool). unwrap_or o false) c.value.ensures ∙ truth_of _ c.args.var
