use Rattle.std.proofs.Common.{◌≡◌, length, replicate, rules, arith, ◌+◌, ◌-◌, take, drop, ap, ◌∙◌}
use Rattle.std.specs.Prelude.{fold}
use Rattle.asp_scc.specs.Numbers.{give_number, numbers_from}
use Rattle.asp_scc.proofs.NumberLaws.{numbered, written_back}
use Rattle.asp_scc.proofs.numbers.number.Goals as goal

pub returns : goal.returns
returns c =
    let zeros : c.in_ok-given.given.items ≡ replicate (length c.args.classes.now + 2) 0 = search rules in
    let same : c.as_slice.result.now ≡ c.give_numbers-count.new.given =
    c.as_slice.ensures.value ∙ written_back c.give_numbers-count.new.given c.in_ok-given.given.items c.in_ok-given.given.len
    (let a = c.give_numbers-count.auto.given in let b = c.as_mut_slice.ensures.len in omega (arith, a, b))
    (let a = c.give_numbers-count.auto.given in let b = ap length c.as_mut_slice.ensures.value in omega (arith, a, b)) in
    numbered c.args.classes.now c.give_numbers-count.new.given c.in_ok-numbers.numbers.items c.args.last c.give_numbers-count.result c.requires.last c.requires.classes
    (c.give_numbers-count.ensures ∙ ap (λ xs. fold give_number (xs, 0) (take (c.args.last + 1 - 1) (drop 1 c.args.classes.now))) (c.as_mut_slice.ensures.value ∙ zeros))
    (c.in_ok-numbers.ensures ∙ ap (λ xs. numbers_from xs (take (c.args.last + 1) c.args.classes.now)) same)
