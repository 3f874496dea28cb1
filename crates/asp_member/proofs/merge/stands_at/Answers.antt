use Rattle.std.proofs.Common.{◌<◌, ◌≤◌, length, refl, arith}
use Rattle.asp_found.proofs.MergeLaws.{test_is, end_is}
use Rattle.asp_member.proofs.merge.stands_at.Goals as goal

pub returns-then-place-atoms-clause-has : goal.returns-then-place-atoms-clause-has
returns-then-place-atoms-clause-has c =
    let lt : c.args.place < length c.args.atoms.now = omega (arith, c.if-place-atoms.true) in
    test_is c.args.atoms.now c.args.atom c.args.place _ c.requires.ascending c.requires.reached lt refl

pub returns-else-place-atoms-clause-has : goal.returns-else-place-atoms-clause-has
returns-else-place-atoms-clause-has c =
    let end : length c.args.atoms.now ≤ c.args.place = omega (arith, c.if-place-atoms.false) in
    end_is c.args.atoms.now c.args.atom c.args.place c.requires.reached end
