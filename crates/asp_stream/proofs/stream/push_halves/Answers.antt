use Rattle.std.proofs.Common.{List, [], ◌∷◌, ◌++◌, refl, ap, ◌∙◌, append_assoc}
use Rattle.asp_stream.specs.declared.part.Part.{Part}
use Rattle.asp_stream.proofs.stream.push_halves.Goals as goal

pub returns-clause-parts : goal.returns-clause-parts
returns-clause-parts c =
    let x : Part = record { leaf = c.args.leaves.1; low = c.args.second; own = c.saturating_sub-second_own.result; factor = c.factor_after-factor.result } in
    let y : Part = record { leaf = c.args.leaves.0; low = c.args.first; own = c.first_own-first_own.result; factor = c.factor_after-factor.result } in
    record {
      right = x;
      left = y;
      parts = c.in_ok-push-2.ensures.items ∙ ap (λ (l : List Part). l ++ y ∷ []) c.in_ok-push.ensures.items ∙ append_assoc c.args.stream.now.parts.items (x ∷ []) (y ∷ []);
      right_leaf = refl;
      right_low = refl;
      left_leaf = refl;
      left_low = refl;
    }
