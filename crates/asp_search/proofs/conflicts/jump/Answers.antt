use Rattle.std.proofs.Common.{◌≡◌, ◌≤◌, ℕ, List, Option, sym, subst}
use Rattle.std.specs.List.{All}
use Rattle.asp_vars.specs.Literals.{Literal}
use Rattle.asp_vars.specs.Numbering.{var_count}
use Rattle.asp_store.specs.declared.stored_nogood.StoredNogood.{StoredNogood}
use Rattle.asp_store.specs.declared.stored_nogood.Kind.TheVariants as kind
use Rattle.asp_store.specs.Keeping.{IsAddedAt}
use Rattle.asp_search_laws.proofs.JumpLaws.{jump_var}
use Rattle.asp_state.specs.SearchStates.{SearchView, AreOf}
use Rattle.asp_search.proofs.LearnLaws.{contained_vars}
use Rattle.asp_search.proofs.JumpedLaws.{back, jump_bumped, jump_back, jump_done, jump_slots, back_under, back_var, back_none, back_implied}
use Rattle.asp_search.proofs.conflicts.jump.Goals as goal

pub count-levels-requires : goal.count-levels-requires
count-levels-requires g c =
    let t = c.args.state.now in
    let vars : AreOf t.program c.args.nogood.lits = contained_vars (var_count t.program) t.entries c.args.nogood.lits c.trail-trail.ensures.ordered c.requires.contained in
    subst (λ (n : ℕ). All (λ (l : Literal). l.var ≤ n) c.as_slice.result.now) (sym c.trail.ensures.vars)
    (subst (λ (ls : List Literal). All (λ (l : Literal). l.var ≤ var_count t.program) ls) (sym c.as_slice.ensures.value) (λ i d h. (vars i d h).1))

pub note_used-requires-clause-point : goal.note_used-requires-clause-point
note_used-requires-clause-point g c =
    let t = c.args.state.now in
    subst (λ (v : ℕ). v ≤ var_count t.program) (sym c.var.ensures)
    (jump_var (var_count t.program) t.entries c.requires.jumps.0 c.args.nogood.lits c.args.to c.args.lit c.trail-trail.ensures.ordered c.requires.contained c.requires.jumps.1).1

pub note_used-requires-clause-met : goal.note_used-requires-clause-met
note_used-requires-clause-met g c = subst (λ (n : ℕ). All (λ (l : Literal). l.var ≤ n) c.met.result.now) c.requires.vars c.met.ensures

pub bump-requires-clause-met : goal.bump-requires-clause-met
bump-requires-clause-met g c =
    subst (λ (x : SearchView). All (λ (l : Literal). l.var ≤ var_count x.program) c.met-2.result.now) (sym c.note_used.ensures)
    (subst (λ (n : ℕ). All (λ (l : Literal). l.var ≤ n) c.met-2.result.now) c.requires.vars c.met-2.ensures)

pub bump-requires-clause-lits : goal.bump-requires-clause-lits
bump-requires-clause-lits g c =
    let t = c.args.state.now in
    subst (λ (x : SearchView). AreOf x.program c.as_slice-2.result.now) (sym c.note_used.ensures)
    (subst (λ (n : List Literal). AreOf t.program n) (sym c.as_slice-2.ensures.value)
    (contained_vars (var_count t.program) t.entries c.args.nogood.lits c.trail-trail.ensures.ordered c.requires.contained))

pub keep-requires : goal.keep-requires
keep-requires g c =
    let t = c.args.state.now in
    let a = c.bump.new.self in
    let bumped : a ≡ record t { ranking = a.ranking } = jump_bumped t c.note_used.new.state a _ c.note_used.ensures c.bump.ensures in
    subst (λ (x : SearchView). AreOf x.program c.args.nogood.lits) (sym bumped) (contained_vars (var_count t.program) t.entries c.args.nogood.lits c.trail-trail.ensures.ordered c.requires.contained)

pub imply-requires-clause-under : goal.imply-requires-clause-under
imply-requires-clause-under g c =
    let t = c.args.state.now in
    let a = c.bump.new.self in
    let b = c.keep.new.self in
    let u : SearchView = c.undo_to.new.self in
    let bumped : a ≡ record t { ranking = a.ranking } = jump_bumped t c.note_used.new.state a _ c.note_used.ensures c.bump.ensures in
    let e : u ≡ back t c.args.to b.slots u.ranking = jump_back t a b u c.args.to a.ranking bumped c.in_ok-id.ensures.same c.undo_to.ensures.same in (
      c.requires.path.0,
      back_under t u c.requires.jumps.0 c.args.to b.slots c.args.nogood c.args.lit e c.trail-trail.ensures.ordered
          c.requires.contained c.requires.jumps.1 c.requires.path.0 c.requires.path.1,
    )

pub imply-requires-clause-var : goal.imply-requires-clause-var
imply-requires-clause-var g c =
    let t = c.args.state.now in
    let a = c.bump.new.self in
    let b = c.keep.new.self in
    let u : SearchView = c.undo_to.new.self in
    let bumped : a ≡ record t { ranking = a.ranking } = jump_bumped t c.note_used.new.state a _ c.note_used.ensures c.bump.ensures in
    let e : u ≡ back t c.args.to b.slots u.ranking = jump_back t a b u c.args.to a.ranking bumped c.in_ok-id.ensures.same c.undo_to.ensures.same in
    back_var t u c.requires.jumps.0 c.args.to b.slots c.args.nogood c.args.lit e c.trail-trail.ensures.ordered c.requires.contained c.requires.jumps.1

pub imply-requires-clause-none : goal.imply-requires-clause-none
imply-requires-clause-none g c =
    let t = c.args.state.now in
    let a = c.bump.new.self in
    let b = c.keep.new.self in
    let u : SearchView = c.undo_to.new.self in
    let bumped : a ≡ record t { ranking = a.ranking } = jump_bumped t c.note_used.new.state a _ c.note_used.ensures c.bump.ensures in
    let e : u ≡ back t c.args.to b.slots u.ranking = jump_back t a b u c.args.to a.ranking bumped c.in_ok-id.ensures.same c.undo_to.ensures.same in
    back_none t u c.requires.jumps.0 c.args.to b.slots c.args.nogood c.args.lit e c.trail-trail.ensures.ordered c.requires.contained c.requires.jumps.1

pub imply-requires-clause-implied : goal.imply-requires-clause-implied
imply-requires-clause-implied g c =
    let t = c.args.state.now in
    let a = c.bump.new.self in
    let b = c.keep.new.self in
    let u : SearchView = c.undo_to.new.self in
    let bumped : a ≡ record t { ranking = a.ranking } = jump_bumped t c.note_used.new.state a _ c.note_used.ensures c.bump.ensures in
    let e : u ≡ back t c.args.to b.slots u.ranking = jump_back t a b u c.args.to a.ranking bumped c.in_ok-id.ensures.same c.undo_to.ensures.same in
    let added : IsAddedAt t.slots b.slots c.in_ok-id.id c.args.nogood kind.Learnt =
    subst (λ (x : SearchView). IsAddedAt x.slots b.slots c.in_ok-id.id c.args.nogood kind.Learnt) bumped c.in_ok-id.ensures.ok in
    back_implied t u c.requires.jumps.0 c.args.to b.slots c.args.nogood c.args.lit e c.trail-trail.ensures.ordered c.requires.contained c.requires.jumps.1 c.in_ok-id.id added

pub returns-clause-added : goal.returns-clause-added
returns-clause-added g c =
    let t = c.args.state.now in
    let a = c.bump.new.self in
    let b = c.keep.new.self in
    let u : SearchView = c.undo_to.new.self in
    let bumped : a ≡ record t { ranking = a.ranking } = jump_bumped t c.note_used.new.state a _ c.note_used.ensures c.bump.ensures in
    let e : u ≡ back t c.args.to b.slots u.ranking = jump_back t a b u c.args.to a.ranking bumped c.in_ok-id.ensures.same c.undo_to.ensures.same in
    let added : IsAddedAt t.slots b.slots c.in_ok-id.id c.args.nogood kind.Learnt =
    subst (λ (x : SearchView). IsAddedAt x.slots b.slots c.in_ok-id.id c.args.nogood kind.Learnt) bumped c.in_ok-id.ensures.ok in
    subst (λ (xs : List (Option StoredNogood)). IsAddedAt t.slots xs c.in_ok-id.id c.args.nogood kind.Learnt)
    (jump_slots t u c.imply.new.self c.args.to c.in_ok-id.id b.slots c.args.lit e c.imply.ensures) added

pub returns-clause-ok : goal.returns-clause-ok
returns-clause-ok g c =
    let t = c.args.state.now in
    let a = c.bump.new.self in
    let b = c.keep.new.self in
    let u : SearchView = c.undo_to.new.self in
    let bumped : a ≡ record t { ranking = a.ranking } = jump_bumped t c.note_used.new.state a _ c.note_used.ensures c.bump.ensures in
    let e : u ≡ back t c.args.to b.slots u.ranking = jump_back t a b u c.args.to a.ranking bumped c.in_ok-id.ensures.same c.undo_to.ensures.same in
    jump_done t u c.imply.new.self c.args.to c.in_ok-id.id b.slots c.args.lit e c.imply.ensures
