use Rattle.std.proofs.Common.{sym, subst}
use Rattle.std.specs.declared.cmp.Ordering.TheVariants.{Equal, Greater}
use Rattle.asp_model.specs.Sets.{IsAscending}
use Rattle.asp_model.proofs.OrderLaws.{before_from_cmp}
use Rattle.asp_checker.proofs.JudgeLaws.{not_less}
use Rattle.asp_checker.proofs.judge.comes_after.Goals as goal

pub returns-in-Less-clause-yes : goal.returns-in-Less-clause-yes
returns-in-Less-clause-yes c =
    λ e. before_from_cmp c.args.last.now c.args.set.now (subst IsAscending c.as_slice-last.ensures.value c.as_slice-last.ensures.ascending)
    (subst IsAscending c.as_slice-set.ensures.value c.as_slice-set.ensures.ascending) (sym c.in-Less.ensures)

pub returns-in-Equal-clause-no : goal.returns-in-Equal-clause-no
returns-in-Equal-clause-no c = λ e. not_less c.args.last.now c.args.set.now Equal
    (subst IsAscending c.as_slice-last.ensures.value c.as_slice-last.ensures.ascending)
    (subst IsAscending c.as_slice-set.ensures.value c.as_slice-set.ensures.ascending) (sym c.in-Equal.ensures) (λ q. cc)

pub returns-in-Greater-clause-no : goal.returns-in-Greater-clause-no
returns-in-Greater-clause-no c = λ e. not_less c.args.last.now c.args.set.now Greater
    (subst IsAscending c.as_slice-last.ensures.value c.as_slice-last.ensures.ascending)
    (subst IsAscending c.as_slice-set.ensures.value c.as_slice-set.ensures.ascending) (sym c.in-Greater.ensures) (λ q. cc)
