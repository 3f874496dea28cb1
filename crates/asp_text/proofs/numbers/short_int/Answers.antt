use Rattle.std.proofs.Common.{◌≡◌, ◌<◌, length, get_or, Some, sym, ap, ◌∙◌, rules}
use Rattle.asp_text.proofs.Front.{negative, minus}
use Rattle.asp_text.proofs.numbers.short_int.Goals as goal

pub returns-in_ok-n-in-45-clause-number : goal.returns-in_ok-n-in-45-clause-number
returns-in_ok-n-in-45-clause-number c =
    let first : get_or c.without_space.result.now 0 0 ≡ 45 = search rules in
    let some : 0 < length c.without_space.result.now = search rules in
    (negative c.args.line.now c.without_space.result.now c.in_ok-n-in-45.rest.now c.in_ok-n-in-45.n c.without_space.ensures some first c.in_ok-n-in-45.ensures.field).0
    ∙ ap Some (sym (minus c.in_ok-n-in-45.n c.in_ok-n-in-45.ensures.bound))

pub returns-in_ok-n-in-45-clause-rest : goal.returns-in_ok-n-in-45-clause-rest
returns-in_ok-n-in-45-clause-rest c =
    let first : get_or c.without_space.result.now 0 0 ≡ 45 = search rules in
    let some : 0 < length c.without_space.result.now = search rules in
    (negative c.args.line.now c.without_space.result.now c.in_ok-n-in-45.rest.now c.in_ok-n-in-45.n c.without_space.ensures some first c.in_ok-n-in-45.ensures.field).1
