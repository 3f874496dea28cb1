use Rattle.std.proofs.Common.{◌≡◌, Bool, [], None, sym, ap, ◌∙◌, subst}
use Rattle.std.specs.Option.{is_some}
use Rattle.asp_model.specs.Sound.{IsSound}
use Rattle.asp_vars.specs.Entailment.{is_done}
use Rattle.asp_trail.specs.Entries.{level}
use Rattle.asp_store.proofs.GrowLaws.{level_stays}
use Rattle.asp_trail_laws.proofs.HitLaws.{clash_settled}
use Rattle.asp_state.specs.SearchStates.{SearchView, IsUnder, IsBegun}
use Rattle.asp_split.specs.Following.{Follows, IsProber}
use Rattle.asp_split.proofs.FollowLaws.{followed, reasons_settled, none_is, prober_same, prober_adds}
use Rattle.asp_split.proofs.probe.follow.Goals as goal

pub returns-in_err-enter-clause-kept : goal.returns-in_err-enter-clause-kept
returns-in_err-enter-clause-kept g c =
    let e = c.enter.ensures.same in
    prober_same c.args.compiled.now c.args.state.now c.enter.new.self (ap (λ (x : SearchView). x.program) e) (ap (λ (x : SearchView). x.bound) e) (ap (λ (x : SearchView). x.slots) e) c.requires.kept

pub returns-then-is_clashing-clause-kept : goal.returns-then-is_clashing-clause-kept
returns-then-is_clashing-clause-kept g c =
    let e = c.enter.ensures.same in
    prober_same c.args.compiled.now c.args.state.now c.enter.new.self (ap (λ (x : SearchView). x.program) e) (ap (λ (x : SearchView). x.bound) e) (ap (λ (x : SearchView). x.slots) e) c.requires.kept

pub returns-then-is_clashing-clause-follows : goal.returns-then-is_clashing-clause-follows
returns-then-is_clashing-clause-follows g c =
    let p = c.args.compiled.now in
    let clash = c.is_clashing.ensures.clashes c.args.lits.now c.in_ok-enter.ensures.ok c.if-is_clashing.true in
    clash_settled p (is_done p [] None) c.args.lits.now clash.lit clash.has clash.opposite

pub propagate-requires : goal.propagate-requires
propagate-requires g c =
    (c.args.lits.now, record { cube_is = c.in_ok-enter.ensures.ok; fixpoint = sym c.is_clashing.ensures.same ∙ c.if-is_clashing.false })

pub returns-in_err-violated-clause-kept : goal.returns-in_err-violated-clause-kept
returns-in_err-violated-clause-kept g c =
    let p = c.args.compiled.now in
    let s = c.args.state.now in
    let t : SearchView = c.enter.new.self in
    let e = c.enter.ensures.same in
    let f = c.propagate.ensures.same in
    let kept : IsProber p t = prober_same p s t (ap (λ (x : SearchView). x.program) e) (ap (λ (x : SearchView). x.bound) e) (ap (λ (x : SearchView). x.slots) e) c.requires.kept in
    let sound : IsSound t.program = subst IsSound kept.program c.program-program.ensures.sound in
    prober_adds p t c.propagate.new.self (g.P.Propagator.gives t.program t.bound) (ap (λ (x : SearchView). x.program) f) (ap (λ (x : SearchView). x.bound) f)
    (λ n h. g.met.P.Propagator.sound t.program t.bound n [] sound h) c.propagate.ensures.adds kept

pub returns-clause-kept : goal.returns-clause-kept
returns-clause-kept g c =
    let p = c.args.compiled.now in
    let s = c.args.state.now in
    let t : SearchView = c.enter.new.self in
    let e = c.enter.ensures.same in
    let f = c.propagate.ensures.same in
    let kept : IsProber p t = prober_same p s t (ap (λ (x : SearchView). x.program) e) (ap (λ (x : SearchView). x.bound) e) (ap (λ (x : SearchView). x.slots) e) c.requires.kept in
    let sound : IsSound t.program = subst IsSound kept.program c.program-program.ensures.sound in
    prober_adds p t c.propagate.new.self (g.P.Propagator.gives t.program t.bound) (ap (λ (x : SearchView). x.program) f) (ap (λ (x : SearchView). x.bound) f)
    (λ n h. g.met.P.Propagator.sound t.program t.bound n [] sound h) c.propagate.ensures.adds kept

pub returns-clause-follows : goal.returns-clause-follows
returns-clause-follows g c =
    let p = c.args.compiled.now in
    let lits = c.args.lits.now in
    let s = c.args.state.now in
    let t : SearchView = c.enter.new.self in
    let u : SearchView = c.propagate.new.self in
    let e = c.enter.ensures.same in
    let f = c.propagate.ensures.same in
    let i = c.propagate.ensures.implies in
    let kept : IsProber p t = prober_same p s t (ap (λ (x : SearchView). x.program) e) (ap (λ (x : SearchView). x.bound) e) (ap (λ (x : SearchView). x.slots) e) c.requires.kept in
    let sound : IsSound t.program = subst IsSound kept.program c.program-program.ensures.sound in
    let keeps : IsProber p u = prober_adds p t u (g.P.Propagator.gives t.program t.bound) (ap (λ (x : SearchView). x.program) f) (ap (λ (x : SearchView). x.bound) f)
    (λ n h. g.met.P.Propagator.sound t.program t.bound n [] sound h) c.propagate.ensures.adds kept in
    let under : IsUnder u lits = record {
      cube_is = ap (λ (x : SearchView). x.cube) f ∙ c.in_ok-enter.ensures.ok;
      fixpoint = ap (λ (x : SearchView). x.clashing) f ∙ (sym c.is_clashing.ensures.same ∙ c.if-is_clashing.false);
    } in
    let begun : IsBegun u.program lits u.decisions u.entries = c.trail-trail.ensures.begun lits under in
    let low : level u.entries ≡ 0 = ap level i.1 ∙ (level_stays t.entries i.0 i.2 ∙ c.enter.ensures.level) in
    let same : IsSound u.program = subst IsSound (sym (ap (λ (x : SearchView). x.program) f)) sound in
    let reasons = reasons_settled p u (g.P.Propagator.late u.program u.bound)
    (λ n l. g.met.P.Propagator.sound u.program u.bound n [] same (g.met.P.Propagator.given u.program u.bound n l)) keeps
    (c.store-store.ensures.implied same) in
    subst (λ (b : Bool). Follows p u lits b) (none_is c.is_none.result (is_some c.in_ok-violated.violated) c.is_none.ensures)
    (followed p u lits c.in_ok-violated.violated keeps c.trail-trail.ensures.ordered reasons begun.starts low c.in_ok-violated.ensures.violated)
