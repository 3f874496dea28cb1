use Rattle.std.proofs.Common.{◌≡◌, ℕ, ◌+◌, ◌*◌, nat_lt, false, true, ap, ◌∙◌, sym, flat_map, drop, length}
use Rattle.std.proofs.lemmas.List.{take_at}
use Rattle.asp_model.specs.Sets.{has}
use Rattle.asp_settle.specs.Constraints.{reach}
use Rattle.asp_settle.specs.Settled.{fact_of, needed}
use Rattle.asp_settle.specs.Tables.{places_from, with_flags}
use Rattle.asp_settle.proofs.TableLaws.{length-flags, table-is}
use Rattle.asp_settle.proofs.facts.fact_table.Goals as goal

pub returns : goal.returns
returns c =
    let p = c.args.program.now in
    let items = c.in_ok-flags.flags.items in
    let old = c.as_mut_slice.ensures.value ∙ c.in_ok-flags.ensures in
    let new = c.mark.ensures ∙ ap (λ f. with_flags false (with_flags true f (flat_map fact_of p.rules)) (needed p)) old in
    let within : (a : ℕ) → has (flat_map fact_of p.rules) a ≡ true → nat_lt a c.places.result ≡ nat_lt a (reach p) =
    λ a h. c.places.ensures.reaches a (c.above.ensures.above a h) ∙ ap (λ n. nat_lt a (16 * (n + 1))) c.len.ensures in
    let count = ap length c.mark.ensures ∙ length-flags false (with_flags true c.as_mut_slice.result.now (flat_map fact_of p.rules)) (needed p)
    ∙ length-flags true c.as_mut_slice.result.now (flat_map fact_of p.rules) ∙ ap length c.as_mut_slice.ensures.value
    ∙ sym c.in_ok-flags.flags.ok.0 in
    c.from_flags.ensures ∙ ap (places_from 0) (take_at c.mark.new.flags (drop (length c.mark.new.flags) items) c.in_ok-flags.flags.len count ∙ new)
    ∙ table-is c.places.result (reach p) (flat_map fact_of p.rules) (needed p) within
