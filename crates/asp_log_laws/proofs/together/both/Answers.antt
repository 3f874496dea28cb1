use Rattle.std.proofs.Common.{subst}
use mathlib.Core.List.{Sublist}
use Rattle.asp_vault.specs.Makers.{placed}
use Rattle.asp_vault.specs.Seats.{view}
use Rattle.asp_vault.proofs.Rolls.{placed_more}
use Rattle.asp_vault.proofs.Prefixes.{prefix_trans}
use Rattle.asp_log.proofs.CallLaws.{unsigned-unnamed}
use Rattle.asp_log_laws.proofs.together.both.Goals as goal

pub returns-clause-first : goal.returns-clause-first
returns-clause-first g c =
    let one = view c.join-one.result.0.0 in
    let all = c.close.result.entries in (
      one.own,
      c.join-one.ensures.first.1.1,
      placed_more one.own (view c.join.new.seat).seen all
          (subst (λ o. Sublist o (placed 0 (view c.join.new.seat).seen)) (λ i. (c.join.ensures.view i).own) c.join.new.seat.own_placed)
          c.close.ensures.continues,
    )

pub returns-clause-second : goal.returns-clause-second
returns-clause-second g c =
    let two = view c.join-one.result.1.0 in
    let all = c.close.result.entries in (
      two.own,
      c.join-one.ensures.second.1.1,
      placed_more two.own two.seen all c.join-one.result.1.0.own_placed (prefix_trans two.seen (view c.join.new.seat).seen all c.join.ensures.begins.1 c.close.ensures.continues),
    )

pub make-requires-clause-unnamed : goal.make-requires-clause-unnamed
make-requires-clause-unnamed g c = unsigned-unnamed c.args.log.entries
