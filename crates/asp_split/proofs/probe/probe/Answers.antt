use Rattle.std.proofs.Common.{◌≡◌, Bool, List, [], None, Option, refl, sym, ap, ◌∙◌, subst}
use Rattle.asp_model.specs.declared.program.Program.{Program}
use Rattle.asp_vars.specs.Entailment.{Settled}
use Rattle.asp_vars.specs.Literals.{Literal}
use Rattle.asp_vars.specs.Numbering.{var_count}
use Rattle.asp_trail.specs.Entries.{assignment}
use Rattle.asp_state.specs.SearchStates.{SearchView, AreOf, values_of}
use Rattle.asp_split.specs.declared.leaf.Leaf.{Leaf}
use Rattle.asp_split.specs.Parts.{AreStanding}
use Rattle.asp_split.specs.Following.{literals_of, Follow, Follows}
use Rattle.asp_split.proofs.LeafLaws.{leaf-is, literals-of, part-none}
use Rattle.asp_split.proofs.probe.probe.Goals as goal

pub literals-requires : goal.literals-requires
literals-requires g c = subst (AreStanding c.args.compiled.now) (sym c.as_slice.ensures.value) c.requires.stand

pub follow-requires-clause-of : goal.follow-requires-clause-of
follow-requires-clause-of g c =
    let p = c.args.compiled.now in
    let lits : List Literal = c.as_slice-2.result.now in
    let e : lits ≡ literals_of p c.args.cube = c.as_slice-2.ensures.value ∙ (c.in_ok-lits.ensures ∙ ap (literals_of p) c.as_slice.ensures.value) in
    subst (λ (q : Program). AreOf q lits) c.requires.kept.program (subst (AreOf p) (sym e) (literals-of p c.args.cube c.requires.stand))

pub returns-then-not-branch-clause-probed : goal.returns-then-not-branch-clause-probed
returns-then-not-branch-clause-probed g c =
    let p = c.args.compiled.now in
    let lits : List Literal = c.as_slice-2.result.now in
    let e : lits ≡ literals_of p c.args.cube = c.as_slice-2.ensures.value ∙ (c.in_ok-lits.ensures ∙ ap (literals_of p) c.as_slice.ensures.value) in
    let settled : Settled p [] None lits = subst (λ (b : Bool). Follows p c.follow.new.state lits b) c.if-not-branch.true c.in_ok-follow.ensures.follows in
    part-none p c.args.cube c.requires.stand (subst (Settled p [] None) e settled)

pub least_open-next-requires : goal.least_open-next-requires
least_open-next-requires g c = c.trail-trail.ensures.vars ∙ ap var_count (sym c.in_ok-follow.ensures.kept.program)

pub returns-clause-probed : goal.returns-clause-probed
returns-clause-probed g c =
    let p = c.args.compiled.now in
    let u : SearchView = c.follow.new.state in
    let r = c.trail-trail.result.now in
    let lits : List Literal = c.as_slice-2.result.now in
    let e : lits ≡ literals_of p c.args.cube = c.as_slice-2.ensures.value ∙ (c.in_ok-lits.ensures ∙ ap (literals_of p) c.as_slice.ensures.value) in
    let follow : Follow p lits (values_of u) = subst (λ (b : Bool). Follows p u lits b) c.if-not-branch.false c.in_ok-follow.ensures.follows in
    let same : assignment r.vars r.entries ≡ values_of u = ap (λ n. assignment n r.entries) c.trail-trail.ensures.vars ∙ ap (assignment (var_count u.program)) c.trail-trail.ensures.entries in
    let leaf : Leaf = record { cube = c.args.cube; next = c.least_open-next.result; width = c.saturating_sub-width.result } in
    leaf-is p c.args.cube (assignment r.vars r.entries) leaf c.requires.stand
    (subst (λ (a : List (Option Bool)). Follow p (literals_of p c.args.cube) a) (sym same) (subst (λ (ls : List Literal). Follow p ls (values_of u)) e follow)) refl c.least_open-next.ensures
