use Rattle.std.proofs.Common.{◌∙◌, ◌≤◌, ℕ, subst, sym}
use Rattle.std.specs.Prelude.{not}
use Rattle.std.proofs.lemmas.Bool.{leb-true}
use Rattle.asp_weight.specs.Rows.{need_of}
use Rattle.asp_weight.proofs.SettledLaws.{settled_short}
use Rattle.asp_weight.proofs.look.look_at_side.Goals as goal

pub returns-then-is_settled-clause-none : goal.returns-then-is_settled-clause-none
returns-then-is_settled-clause-none c =
    settled_short c.args.side c.args.values.now c.args.shape.now c.args.row.now c.requires.whole
    (subst (λ (n : ℕ). need_of (not c.args.side) c.args.shape.now ≤ n) c.requires.other (leb-true _ _ (sym c.is_settled.ensures ∙ c.if-is_settled.true)))
