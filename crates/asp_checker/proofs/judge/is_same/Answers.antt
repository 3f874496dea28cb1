use Rattle.std.proofs.Common.{◌≡◌, true, sym, subst, ◌∙◌}
use Rattle.std.proofs.lemmas.Bool.{false≢true}
use Rattle.std.specs.Prelude.{ℤ, List}
use Rattle.std.specs.Ordering.{int_eq}
use Rattle.std.specs.Cmp.Lexicographic.{pointwise}
use Rattle.asp_vars.proofs.NumberingLaws.{int_eq_itself, int_eq_same, same_lists, lists_themselves}
use Rattle.asp_checker.proofs.judge.is_same.Goals as goal

pub returns-clause-yes : goal.returns-clause-yes
returns-clause-yes c = λ e. same_lists int_eq int_eq_same c.args.cost.now c.args.other.now (sym c.eq.ensures ∙ e)

pub returns-clause-no : goal.returns-clause-no
returns-clause-no c = λ e same. false≢true (sym e ∙ c.eq.ensures
    ∙ subst (λ (d : List ℤ). pointwise int_eq c.args.cost.now d ≡ true) same (lists_themselves int_eq int_eq_itself c.args.cost.now))
