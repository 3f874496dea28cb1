use Rattle.std.proofs.Common.{Bool, List, Option, Some, ℤ, length, set, drop, refl, sym, ap, ◌∙◌, subst}
use Rattle.std.proofs.lemmas.List.{take_at}
use Rattle.std.proofs.lemmas.Result.{IfOk-weaker}
use Rattle.std.specs.List.Sorted.{IsPermutation}
use Rattle.asp_model.specs.declared.program.Program.{Program}
use Rattle.asp_vars.specs.Literals.{Literal}
use Rattle.asp_trail.specs.Trails.{Trailed}
use Rattle.asp_trail.specs.Reasons.{IsReason}
use Rattle.asp_bound.specs.declared.find.Implied.{Implied}
use Rattle.asp_bound.specs.declared.priced.Priced.{Priced}
use Rattle.asp_bound.specs.Gathered.{valueless}
use Rattle.asp_bound.specs.Optimism.{optimistic}
use Rattle.asp_bound.specs.Priced.{IsPriced}
use Rattle.asp_bound.specs.Reach.{reach}
use Rattle.asp_bound.specs.Reasons.{before}
use Rattle.asp_bound.proofs.KeptLaws.{sums-room}
use Rattle.asp_bound.proofs.NogoodLaws.{held_of, held-told, all-held, may_fall}
use Rattle.asp_bound.proofs.ReachLaws.{reached_now}
use Rattle.asp_bound.proofs.LateLaws.{free, raisers_before, turned_round, kept_at, reaches_by, written, follows_reached}
use Rattle.asp_bound.proofs.late.explained.Goals as goal

pub all_with-requires-clause-var : goal.all_with-requires-clause-var
all_with-requires-clause-var c =
    (free c.args.priced.now.origin.value c.args.trail.now c.args.place c.args.cost.now c.lit.result c.complement-lit.result c.requires.vars
    c.requires.explained c.lit.ensures.lit c.complement-lit.ensures).var

pub all_with-requires-clause-none : goal.all_with-requires-clause-none
all_with-requires-clause-none c =
    (free c.args.priced.now.origin.value c.args.trail.now c.args.place c.args.cost.now c.lit.result c.complement-lit.result c.requires.vars
    c.requires.explained c.lit.ensures.lit c.complement-lit.ensures).none

pub reach-requires-clause-room : goal.reach-requires-clause-room
reach-requires-clause-room c =
    let q : Priced = c.args.priced.now in
    let x = c.complement-lit.result in
    let more = subst (IsPriced q (set (before c.args.trail.now c.args.place) x.var (Some x.truth))) (sym c.as_mut_slice-left.ensures.value) c.in_ok-sums.ensures.kept in
    sums-room q.origin.value (set (before c.args.trail.now c.args.place) x.var (Some x.truth)) q.rows q.columns q.vars.items c.as_mut_slice-left.result.now more

pub unreachable-requires : goal.unreachable-requires
unreachable-requires c =
    let q : Priced = c.args.priced.now in
    let x = c.complement-lit.result in
    let more = subst (IsPriced q (set (before c.args.trail.now c.args.place) x.var (Some x.truth))) (sym c.as_mut_slice-left.ensures.value) c.in_ok-sums.ensures.kept in
    let left = c.as_mut_slice-left.result.now in
    let here = free q.origin.value c.args.trail.now c.args.place c.args.cost.now c.lit.result x c.requires.vars c.requires.explained c.lit.ensures.lit c.complement-lit.ensures in
    follows_reached q.origin.value (before c.args.trail.now c.args.place) x c.args.cost.now here.dear
    (ap (λ (s : List ℤ). reach s c.args.cost.now) (sym more.summed) ∙ reached_now left c.args.cost.now left c.as_slice-limits.result.now _ refl c.as_slice-limits.ensures c.in_default.ensures)

pub nogood_by-requires : goal.nogood_by-requires
nogood_by-requires c =
    let q : Priced = c.args.priced.now in
    let p : Program = q.origin.value in
    let t : Trailed = c.args.trail.now in
    let b : List (Option Bool) = before t c.args.place in
    let x = c.complement-lit.result in
    let more = subst (IsPriced q (set (before c.args.trail.now c.args.place) x.var (Some x.truth))) (sym c.as_mut_slice-left.ensures.value) c.in_ok-sums.ensures.kept in
    let left = c.as_mut_slice-left.result.now in
    let found = c.as_slice.result.now in
    let here = free p t c.args.place c.args.cost.now c.lit.result x c.requires.vars c.requires.explained c.lit.ensures.lit c.complement-lit.ensures in
    let kept = kept_at p (valueless p) t c.args.place q.rows q.columns q.vars.items q.least.items c.requires.vars c.requires.tables in
    let are = raisers_before t c.args.place q.rows c.args.raisers.now c.len-len.ensures.ordered c.requires.raisers in
    let moved : IsPermutation (held_of b c.args.raisers.now) found =
    turned_round (held_of b c.args.raisers.now) c.in_ok-found.found.items c.as_mut_slice.result.now c.reverse.new.self found
    c.in_ok-found.ensures.items (c.as_mut_slice.ensures.value ∙ c.in_ok-sums.ensures.lits) c.reverse.ensures.permutation
    (c.as_slice.ensures.value ∙ take_at c.reverse.new.self (drop (length c.reverse.new.self) c.all_with.new.lits.items) c.all_with.new.lits.len
    (c.reverse.auto.self ∙ c.as_mut_slice.ensures.len)) in
    may_fall p (set b x.var (Some x.truth)) q.rows q.columns q.vars.items left found more
    (held-told p b found x.var x.truth here.none (all-held p b q.rows q.columns q.vars.items (optimistic p b) c.args.raisers.now found kept are moved))

pub returns : goal.returns
returns c =
    let q : Priced = c.args.priced.now in
    let p : Program = q.origin.value in
    let t : Trailed = c.args.trail.now in
    let b : List (Option Bool) = before t c.args.place in
    let x = c.complement-lit.result in
    let more = subst (IsPriced q (set (before c.args.trail.now c.args.place) x.var (Some x.truth))) (sym c.as_mut_slice-left.ensures.value) c.in_ok-sums.ensures.kept in
    let left = c.as_mut_slice-left.result.now in
    let found = c.as_slice.result.now in
    let here = free p t c.args.place c.args.cost.now c.lit.result x c.requires.vars c.requires.explained c.lit.ensures.lit c.complement-lit.ensures in
    let kept = kept_at p (valueless p) t c.args.place q.rows q.columns q.vars.items q.least.items c.requires.vars c.requires.tables in
    let are = raisers_before t c.args.place q.rows c.args.raisers.now c.len-len.ensures.ordered c.requires.raisers in
    let moved : IsPermutation (held_of b c.args.raisers.now) found =
    turned_round (held_of b c.args.raisers.now) c.in_ok-found.found.items c.as_mut_slice.result.now c.reverse.new.self found
    c.in_ok-found.ensures.items (c.as_mut_slice.ensures.value ∙ c.in_ok-sums.ensures.lits) c.reverse.ensures.permutation
    (c.as_slice.ensures.value ∙ take_at c.reverse.new.self (drop (length c.reverse.new.self) c.all_with.new.lits.items) c.all_with.new.lits.len
    (c.reverse.auto.self ∙ c.as_mut_slice.ensures.len)) in
    let i : Implied = record { lit = x; depth = c.in-Some.depth } in
    let reaches = reaches_by p b q.rows q.columns q.vars.items (optimistic p b) kept c.args.cost.now i left c.as_slice-limits.result.now more
    c.as_slice-limits.ensures here.var here.none c.in-Some.ensures in
    IfOk-weaker c.nogood_by.result _ _ (λ n made.
    let both = written p t c.args.place q.rows q.columns q.vars.items (optimistic p b) c.args.raisers.now c.len-len.ensures.ordered kept are
    c.args.cost.now c.lit.result i n found left c.complement-lit.ensures reaches here.var moved more made in
    (both.0, λ d. subst (λ (l : Literal). IsReason t.entries c.args.place l n.lits) (c.lit.ensures.lit d) both.1)) c.nogood_by.ensures
