use Rattle.std.proofs.Common.{◌≡◌, length, ap, sym, ◌∙◌, arith}
use Rattle.std.proofs.lemmas.List.{length-map}
use Rattle.asp_rows.specs.declared.row.Row.{Row}
use Rattle.asp_parts.proofs.FoundLaws.{entries-more, listed-more, set-among, sets-more}
use Rattle.asp_parts.proofs.found.found.Goals as goal

pub loop-place-preserved : goal.loop-place-preserved
loop-place-preserved c =
    let rows = c.as_slice-in-loop-place.result.now in
    let count : length rows ≡ length c.args.sets.now.sets = sym (length-map rows (λ (x : Row). x.set)) ∙ ap length c.as_slice-in-loop-place.ensures.sets in
    let more = sets-more rows c.args.sets.now.sets c.loop-place.place c.index-as_slice-place.result c.in_ok-set.set
    c.as_slice-in-loop-place.ensures.sets c.index-as_slice-place.is (omega (arith, c.loop-place-test.true, count)) c.in_ok-set.ensures in
    record {
      rows = listed-more c.args.atoms.now c.args.sets.now.sets c.loop-place.place c.in_ok-set.set c.loop-place.rows _ more c.loop-place.invariant.rows c.in_ok-push.ensures.ok;
      entries = entries-more c.args.sets.now.sets c.loop-place.place c.in_ok-set.set c.loop-place.entries.items _ _ more c.loop-place.invariant.entries c.in_ok-push-2.ensures.items c.listing.ensures;
    }

pub push-requires : goal.push-requires
push-requires c =
    let rows = c.as_slice-in-loop-place.result.now in
    let count : length rows ≡ length c.args.sets.now.sets = sym (length-map rows (λ (x : Row). x.set)) ∙ ap length c.as_slice-in-loop-place.ensures.sets in
    set-among c.args.atoms.now rows c.args.sets.now.sets c.loop-place.place c.index-as_slice-place.result c.in_ok-set.set c.loop-place.rows c.requires
    c.as_slice-in-loop-place.ensures.sets c.index-as_slice-place.is (omega (arith, c.loop-place-test.true, count)) c.in_ok-set.ensures c.loop-place.invariant.rows
