use Rattle.std.proofs.Common.{◌≡◌, ◌≤◌, ℕ, List, Option, IsSome, sym, ap, ◌∙◌, subst, arith}
use Rattle.asp_model.specs.declared.results.Reasoning.{Reasoning}
use Rattle.asp_model.specs.Asked.{reasoning_of}
use Rattle.asp_model.specs.Consequences.{used_up}
use Rattle.asp_vars.specs.Conflicts.{IsConflict}
use Rattle.asp_vars.specs.Literals.{value_of}
use Rattle.asp_vars.specs.Numbering.{var_count}
use Rattle.asp_trail.specs.declared.trail.Entry.{Entry}
use Rattle.asp_trail.specs.Entries.{assignment, level_in}
use Rattle.asp_store.specs.Keeping.{nogood_at}
use Rattle.asp_search.specs.Invariants.{answers_known}
use Rattle.asp_search.proofs.ClashLaws.{clash_is, lists_conflict}
use Rattle.asp_search.proofs.LearnLaws.{has_some}
use Rattle.asp_search.proofs.conflicts.conflict.Goals as goal

pub level_of-top-requires-clause-small : goal.level_of-top-requires-clause-small
level_of-top-requires-clause-small g c =
    subst (λ (v : ℕ). v ≤ c.trail.result.now.vars) (sym c.var.ensures) (subst (λ (n : ℕ). c.args.lit.var ≤ n) (sym c.trail.ensures.vars) c.requires.small)

pub level_of-top-requires-clause-has : goal.level_of-top-requires-clause-has
level_of-top-requires-clause-has g c =
    subst (λ (v : ℕ). IsSome (value_of (assignment c.trail.result.now.vars c.trail.result.now.entries) v)) (sym c.var.ensures)
    (subst (λ (n : ℕ). IsSome (value_of (assignment n c.trail.result.now.entries) c.args.lit.var)) (sym c.trail.ensures.vars)
    (subst (λ (es : List Entry). IsSome (value_of (assignment (var_count c.args.state.now.program) es) c.args.lit.var)) (sym c.trail.ensures.entries) c.requires.has))

pub copy_lists-requires-clause-decided : goal.copy_lists-requires-clause-decided
copy_lists-requires-clause-decided g c =
    let top : c.level_of-top.result ≡ level_in c.args.state.now.entries c.args.lit.var =
    c.level_of-top.ensures ∙ (ap (λ (v : ℕ). level_in c.trail.result.now.entries v) c.var.ensures ∙ ap (λ (es : List Entry). level_in es c.args.lit.var) c.trail.ensures.entries) in
    omega (arith, top, c.requires.low)

pub copy_lists-requires-clause-kept : goal.copy_lists-requires-clause-kept
copy_lists-requires-clause-kept g c = has_some (nogood_at c.args.state.now.slots c.args.id) c.requires.from c.requires.stands

pub of-requires : goal.of-requires
of-requires g c =
    let t = c.args.state.now in
    let p = c.args.compiled.now in
    let K = answers_known c.args.known.now.items c.args.seen.now in
    let top : c.level_of-top.result ≡ level_in t.entries c.args.lit.var =
    c.level_of-top.ensures ∙ (ap (λ (v : ℕ). level_in c.trail.result.now.entries v) c.var.ensures ∙ ap (λ (es : List Entry). level_in es c.args.lit.var) c.trail.ensures.entries) in
    let l = c.in_ok-lists.lists in
    let x = c.in_ok-lists.ensures in (
      K,
      sym c.known_count.ensures,
      subst (λ (k : Option Reasoning). IsConflict p (used_up k p K) c.in_ok-bound.bound l.cube.items l.decisions.items l.nogood.items) (sym c.reasoning.ensures)
          (lists_conflict t c.args.id c.args.lit c.level_of-top.result l.cube.items l.decisions.items l.nogood.items top x.cube x.decisions x.nogood p
          (used_up (reasoning_of c.args.mode) p K) c.args.bound.now c.in_ok-bound.bound
          c.in_ok-bound.ensures c.requires),
    )

pub returns : goal.returns
returns g c = λ m.
    let t = c.args.state.now in
    let p = c.args.compiled.now in
    let K = answers_known c.args.known.now.items c.args.seen.now in
    let top : c.level_of-top.result ≡ level_in t.entries c.args.lit.var =
    c.level_of-top.ensures ∙ (ap (λ (v : ℕ). level_in c.trail.result.now.entries v) c.var.ensures ∙ ap (λ (es : List Entry). level_in es c.args.lit.var) c.trail.ensures.entries) in
    let l = c.in_ok-lists.lists in
    let x = c.in_ok-lists.ensures in
    clash_is t c.args.id c.args.lit c.level_of-top.result l.cube.items l.decisions.items l.nogood.items top x.cube x.decisions x.nogood p
    (reasoning_of c.args.mode) c.reasoning.result K c.known_count.result c.args.bound.now
    c.in_ok-bound.bound c.of.result c.reasoning.ensures c.known_count.ensures c.in_ok-bound.ensures c.of.ensures m
