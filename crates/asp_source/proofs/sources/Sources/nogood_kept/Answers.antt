use Rattle.std.proofs.Common.{Bool, List, Option, length, ap, ◌∙◌, sym, subst}
use Rattle.asp_vars.specs.Literals.{value_of}
use Rattle.asp_trail.specs.Told.{Told}
use Rattle.asp_loop.specs.LoopNogoods.{IsLoopNogood}
use Rattle.asp_source.specs.Loops.{IsFound, IsGiven}
use Rattle.asp_source.specs.Kept.{IsKept}
use Rattle.asp_source.specs.Rest.{Rest}
use Rattle.asp_source.proofs.GivenLaws.{given}
use Rattle.asp_source.proofs.KeptLaws.{kept_found}
use Rattle.asp_source.proofs.ShownLaws.{told_shown}
use Rattle.asp_source.proofs.sources.Sources.nogood_kept.Goals as goal

pub nogood_of-requires : goal.nogood_of-requires
nogood_of-requires c =
    let e = sym c.requires.values ∙ ap (λ (t : Told). t.values) (sym c.self.view_is) in
    record {
      found = subst (λ (t : Told). IsFound t.program t.values c.args.found.atoms.items c.args.found.atom)
          (sym (told_shown c.self.inside.compiled.now c.self.inside.values c.args.values.now _ e c.self.view_is)) c.requires.found;
      values = ap length e ∙ c.self.invariant.sized;
    }

pub returns-clause-given : goal.returns-clause-given
returns-clause-given c =
    let e = sym c.requires.values ∙ ap (λ (t : Told). t.values) (sym c.self.view_is) in
    let shown = told_shown c.self.inside.compiled.now c.self.inside.values c.args.values.now _ e c.self.view_is in
    let t : Told = record { program = c.self.inside.compiled.now; values = c.args.values.now } in
    subst (λ (t : Told). IsGiven t c.in_ok-nogood.nogood) shown
    (given t c.args.found.atoms.items c.args.found.atom c.in_ok-nogood.nogood (ap length e ∙ c.self.invariant.sized) (ap (λ (x : List (Option Bool)). value_of x 0) e ∙ c.self.invariant.first)
    (subst (λ (t : Told). IsFound t.program t.values c.args.found.atoms.items c.args.found.atom) (sym shown) c.requires.found) c.in_ok-nogood.ensures)

pub invariant_of-self : goal.invariant_of-self
invariant_of-self c =
    let i = c.self.inside in
    subst (λ (f : Rest). IsKept i.compiled.now i.components i.values i.sources.items i.ranks.ranks i.queue i.tight i.weighted i.loose.items i.waiting
    i.joined f) (sym c.in_err-keep.ensures.err) c.self.invariant

pub invariant_of-self-2 : goal.invariant_of-self-2
invariant_of-self-2 c =
    let i = c.self.inside in
    let e = sym c.requires.values ∙ ap (λ (t : Told). t.values) (sym c.self.view_is) in
    kept_found i.compiled.now i.components i.values i.sources.items i.ranks.ranks i.queue i.tight i.weighted i.loose.items i.waiting i.joined i.found c.args.found.atoms.items c.args.found.atom
    c.in_ok-nogood.nogood c.keep.new.self c.self.invariant
    (subst (λ (t : Told). IsFound t.program t.values c.args.found.atoms.items c.args.found.atom) (sym c.self.view_is) c.requires.found)
    (subst (λ (x : List (Option Bool)). IsLoopNogood i.compiled.now x c.args.found.atoms.items c.args.found.atom c.in_ok-nogood.nogood) e c.in_ok-nogood.ensures) c.in_ok-keep.ensures.ok
