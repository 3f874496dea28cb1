use Rattle.std.proofs.Common.{Bool, cond, [], ◌∷◌, ◌++◌, FitsSigned, w32, rules, ap, sym, ◌∙◌}
use Rattle.std.proofs.lemmas.Int.{to_z-of_z}
use Rattle.std.proofs.lemmas.List.{append-nil}
use Rattle.asp_unsat.proofs.blamed.add_if_coded.Goals as goal

pub returns-in_ok-push : goal.returns-in_ok-push
returns-in_ok-push c =
    let fits : FitsSigned w32 c.args.literal.now = search rules in
    let items = simp to_z-of_z at c.in_ok-push.ensures.items in
    items
    ∙ ap (λ (b : Bool). c.args.core.now.items ++ cond b (c.args.literal.now ∷ []) []) (sym (sym c.is_coded.ensures ∙ c.if-is_coded.true))

pub returns-else-is_coded : goal.returns-else-is_coded
returns-else-is_coded c =
    sym (append-nil c.args.core.now.items)
    ∙ ap (λ (b : Bool). c.args.core.now.items ++ cond b (c.args.literal.now ∷ []) []) (sym (sym c.is_coded.ensures ∙ c.if-is_coded.false))
