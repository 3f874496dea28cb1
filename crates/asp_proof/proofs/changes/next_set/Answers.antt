use Rattle.std.proofs.Common.{◌≡◌, ◌+◌, ◌-◌, [], IfOk, length, sym, subst, arith}
use Rattle.asp_model.specs.Sets.{Atoms}
use Rattle.asp_proof.specs.Changes.{changed}
use Rattle.asp_proof.proofs.ChangeLaws.{last_at}
use Rattle.asp_proof.proofs.changes.next_set.Goals as goal

pub returns : goal.returns
returns c =
    let size : length c.args.sets.now ≡ (length c.args.sets.now - 1) + 1 = omega (arith, c.if-count-eq0.false) in
    let last = last_at [] c.args.sets.now (length c.args.sets.now - 1) c.index-sets-count.result size c.index-sets-count.is in
    let made = rw (c.as_slice-2.ensures.value, c.as_slice-3.ensures.value) at c.changed_set-2.ensures in
    subst (λ (S : Atoms). IfOk c.changed_set-2.result (λ answer. answer ≡ changed S c.args.change.now)) (sym last) made
