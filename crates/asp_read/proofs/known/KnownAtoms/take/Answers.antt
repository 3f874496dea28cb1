use Rattle.std.proofs.Common.{◌+◌, ◌<◌, ◌%◌, ◌/◌, ap, ◌∙◌, length, refl, arith}
use Rattle.asp_model.specs.Sets.{Atoms, has}
use Rattle.asp_read.proofs.KnownLaws.{stays, has_itself, named, recently_known, recent_stands}
use Rattle.asp_read.proofs.known.KnownAtoms.take.Goals as goal

pub returns-then-is_near-clause-taken : goal.returns-then-is_near-clause-taken
returns-then-is_near-clause-taken c = stays c.self.inside.atoms c.args.self.now c.args.atom c.self.view_is c.self.invariant.ascending (c.if-is_near.ensures refl)

pub returns-then-index-mark-clause-taken : goal.returns-then-index-mark-clause-taken
returns-then-index-mark-clause-taken c =
    let within : c.args.atom % 1048576 < length c.self.inside.recent.items = omega (arith, c.self.invariant.places) in
    let stood = recent_stands c.self.inside.atoms c.self.inside.recent.items c.self.inside.count (c.args.atom % 1048576) (c.args.atom / 1048576 + 1)
    c.args.atom c.index.result.now c.self.invariant within c.index.ensures c.if-index-mark.true (omega arith) (named c.args.atom) in
    stays c.self.inside.atoms c.args.self.now c.args.atom c.self.view_is c.self.invariant.ascending stood

pub invariant_of-self : goal.invariant_of-self
invariant_of-self c =
    let within : c.args.atom % 1048576 < length c.self-2.inside.recent.items = omega (arith, c.self-2.invariant.places) in
    let stands = ap (λ (S : Atoms). has S c.args.atom) (c.self-2.view_is ∙ c.in_ok-take_unless_full.ensures.taken) ∙ has_itself c.args.atom c.args.self.now in
    recently_known c.self-2.inside.atoms c.self-2.inside.recent.items c.self-2.inside.count (c.args.atom % 1048576) (c.args.atom / 1048576 + 1)
    c.args.atom c.self-2.invariant stands within (named c.args.atom)
