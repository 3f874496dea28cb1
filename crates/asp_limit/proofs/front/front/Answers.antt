use Rattle.std.proofs.Common.{◌≡◌, length, ap, sym, ◌∙◌, arith}
use Rattle.std.proofs.lemmas.List.{length-map}
use Rattle.asp_rows.specs.declared.row.Row.{Row}
use Rattle.asp_limit.proofs.LimitLaws.{front-more}
use Rattle.asp_limit.proofs.front.front.Goals as goal

pub loop-place-preserved : goal.loop-place-preserved
loop-place-preserved c =
    let rows = c.as_slice-in-loop-place.result.now in
    let count : length rows ≡ length c.args.rows.now.sets = sym (length-map rows (λ (x : Row). x.set)) ∙ ap length c.as_slice-in-loop-place.ensures.sets in
    front-more c.args.rows.now.atoms c.loop-place.first c.push.new.self rows c.args.rows.now.sets c.loop-place.place c.index-as_slice-place.result c.in_ok-set.set
    c.as_slice-in-loop-place.ensures.sets c.index-as_slice-place.is (omega (arith, c.loop-place-test.true, c.requires, count)) c.in_ok-set.ensures c.loop-place.invariant c.in_ok-push.ensures.ok
