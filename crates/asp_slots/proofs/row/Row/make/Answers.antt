use Rattle.std.proofs.Common.{◌≡◌, replicate, length, refl, ap, sym, ◌∙◌, rules}
use Rattle.std.proofs.lemmas.List.{length-replicate}
use Rattle.asp_slots.proofs.Moves.{opens}
use Rattle.asp_slots.proofs.row.Row.make.Goals as goal

pub of_words-requires : goal.of_words-requires
of_words-requires c = opens

pub invariant_of-row : goal.invariant_of-row
invariant_of-row c = let is : c.in_ok-slots.slots.items ≡ replicate 65536 c.of.result.value = c.in_ok-slots.ensures ∙ ap (replicate 65536) (sym c.of.ensures) in
    record { sized = ap length is ∙ length-replicate 65536 c.of.result.value; about = is; one_word = search rules }

pub invariant_of-result : goal.invariant_of-result
invariant_of-result c = record { none_out = rw c.in_ok-table.ensures.4 refl }
