use Rattle.std.proofs.Common.{◌≡◌, ◌∷◌, ◌++◌, [], List, refl, ap, ◌∙◌}
use Rattle.asp_model.specs.declared.extras.Mark.{Mark}
use Rattle.asp_model.specs.declared.program.Rule.{Rule}
use Rattle.asp_model.specs.Stored.{rule_of}
use Rattle.asp_model.specs.Views.{rule_seen}
use Rattle.asp_model.proofs.StoredLaws.{rules_kept, rules_more, on_err}
use Rattle.asp_model.proofs.rules.Rules.push.Goals as goal

pub invariant_of-self-in_err-mark : goal.invariant_of-self-in_err-mark
invariant_of-self-in_err-mark c =
    (rules_kept c.self.inside.extras c.store.new.extras c.self.inside.marks.items c.reserve.new.self.items c.self.inside.literals
    c.self.inside.literals c.store.ensures.kept c.self.invariant c.in_ok-reserve.ensures.items refl).0

pub returns-in_err-mark-clause-err : goal.returns-in_err-mark-clause-err
returns-in_err-mark-clause-err c =
    on_err c.from_residual-in_err-mark.result
    ((rules_kept c.self.inside.extras c.store.new.extras c.self.inside.marks.items c.reserve.new.self.items c.self.inside.literals
    c.self.inside.literals c.store.ensures.kept c.self.invariant c.in_ok-reserve.ensures.items refl).1 ∙ c.self.view_is)

pub invariant_of-self-in_err-push_row : goal.invariant_of-self-in_err-push_row
invariant_of-self-in_err-push_row c =
    (rules_kept c.self.inside.extras c.store.new.extras c.self.inside.marks.items c.reserve.new.self.items c.self.inside.literals c.push_row.new.self
    c.store.ensures.kept c.self.invariant c.in_ok-reserve.ensures.items c.in_err-push_row.ensures.err).0

pub returns-in_err-push_row-clause-err : goal.returns-in_err-push_row-clause-err
returns-in_err-push_row-clause-err c =
    on_err c.from_residual-in_err-push_row.result
    ((rules_kept c.self.inside.extras c.store.new.extras c.self.inside.marks.items c.reserve.new.self.items c.self.inside.literals c.push_row.new.self
    c.store.ensures.kept c.self.invariant c.in_ok-reserve.ensures.items c.in_err-push_row.ensures.err).1 ∙ c.self.view_is)

pub invariant_of-self-2 : goal.invariant_of-self-2
invariant_of-self-2 c =
    let marks_are = c.push_reserved.ensures.items ∙ ap (λ (xs : List Mark). xs ++ c.in_ok-mark.mark ∷ []) c.in_ok-reserve.ensures.items in
    (rules_more c.self.inside.extras c.store.new.extras c.self.inside.marks.items c.push_reserved.new.self.items c.self.inside.literals
    c.push_row.new.self c.in_ok-mark.mark c.literals_of.result.now c.store.ensures.kept c.self.invariant c.in_ok-mark.ensures.stored marks_are
    c.in_ok-push_row.ensures.ok).0

pub returns-clause-ok : goal.returns-clause-ok
returns-clause-ok c =
    let marks_are = c.push_reserved.ensures.items ∙ ap (λ (xs : List Mark). xs ++ c.in_ok-mark.mark ∷ []) c.in_ok-reserve.ensures.items in
    let more =
    (rules_more c.self.inside.extras c.store.new.extras c.self.inside.marks.items c.push_reserved.new.self.items c.self.inside.literals
    c.push_row.new.self c.in_ok-mark.mark c.literals_of.result.now c.store.ensures.kept c.self.invariant c.in_ok-mark.ensures.stored marks_are
    c.in_ok-push_row.ensures.ok).1 in
    let rule : rule_of c.store.new.extras c.in_ok-mark.mark c.literals_of.result.now ≡ rule_seen c.args.rule =
    ap (λ row. rule_of c.store.new.extras c.in_ok-mark.mark row) c.literals_of.ensures ∙ c.in_ok-mark.ensures.rule in
    more ∙ ap (λ (rs : List Rule). rs ++ rule_of c.store.new.extras c.in_ok-mark.mark c.literals_of.result.now ∷ []) c.self.view_is ∙ ap (λ (r : Rule). c.args.self.now ++ r ∷ []) rule
