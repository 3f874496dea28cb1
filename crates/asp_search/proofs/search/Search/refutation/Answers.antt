use Rattle.std.proofs.Common.{◌≡◌, ℕ, true, false, List, [], ◌∷◌, ◌++◌, Some, take, sym, ap, ◌∙◌, subst}
use Rattle.asp_vars.specs.Literals.{Literal}
use Rattle.asp_vars.specs.Numbering.{var_count}
use Rattle.asp_search_laws.specs.Searching.{Searching}
use Rattle.asp_search.specs.Invariants.{answers_known, view_of}
use Rattle.asp_search.specs.Refuting.{IsFalseAmong, IsRefutation, are_first}
use Rattle.asp_search.proofs.MeetLaws.{settled_reasons}
use Rattle.asp_search.proofs.RefuteLaws.{refutation_in}
use Rattle.asp_search.proofs.search.Search.refutation.Goals as goal

pub returns : goal.returns
returns g c =
    let i = c.self.inside in
    let t = i.state in
    let K = answers_known i.known.items i.seen in
    let lits : List Literal = c.args.lits.now in
    let lit : Literal = c.in-Some.found.lit in
    let k : ℕ = c.in-Some.found.level in
    let es = c.trail.result.now.entries in
    let view : Searching = view_of i.mode t i.pace K i.last in
    let clear : t.clashing ≡ false = sym c.is_clashing.ensures.same ∙ c.if-is_clashing.false in
    let reasons = settled_reasons i.compiled.now t i.mode K (g.P.Propagator.gives t.program t.bound) (g.P.Propagator.late t.program t.bound) c.self.invariant.0.program
    c.program-program.ensures.sound (g.met.P.Propagator.sound t.program t.bound) (g.met.P.Propagator.given t.program t.bound) c.self.invariant.0.useful c.store-store.ensures.implied in
    let vars : c.vars-vars.result ≡ var_count t.program = c.vars-vars.ensures.count ∙ ap var_count c.self.invariant.0.program in
    let among : IsFalseAmong (var_count t.program) es lits lit k = subst (λ (n : ℕ). IsFalseAmong n es lits lit k) vars c.in-Some.ensures in
    let first : are_first t.decisions k lits ≡ true = subst (λ (ds : List Literal). are_first ds k lits ≡ true) c.decisions.ensures (sym c.are_first.ensures ∙ c.if-not-are_first.false) in
    let is : c.in_ok-refutation.refutation.items ≡ take k t.decisions ++ lit ∷ [] =
    c.in_ok-refutation.ensures ∙ ap (λ (ds : List Literal). take k ds ++ lit ∷ []) c.decisions-decisions.ensures in
    subst (λ (s : Searching). (q : List Literal) → s.cube ≡ Some q → IsRefutation s q lits c.in_ok-refutation.refutation.items) c.self.view_is
    (λ q cube.
    subst (λ (n : List Literal). IsRefutation view q lits n) (sym is)
    (refutation_in view q t.decisions t.entries es lits lit k
    c.trail.ensures.entries c.trail.ensures.ordered reasons (c.trail.ensures.begun q (record { cube_is = cube; fixpoint = clear })).starts among first))
