use Rattle.std.proofs.Common.{◌≡◌, ℕ, List, true, subst}
use Rattle.asp_model.specs.Sets.{has}
use Rattle.asp_scc.specs.Components.{Stands}
use Rattle.asp_source.proofs.LookLaws.{at_member}
use Rattle.asp_source.proofs.rest.Found.again.Goals as goal

pub atom_var-requires : goal.atom_var-requires
atom_var-requires c =
    let stand = rw (← c.self.view_is) at c.requires.stand in
    at_member (Stands c.args.compiled.now) c.self.inside.atoms.items c.in-Some.atom stand (subst (λ (U : List ℕ). has U c.in-Some.atom ≡ true) c.as_slice-2.ensures.value c.in-Some.ensures.member)
