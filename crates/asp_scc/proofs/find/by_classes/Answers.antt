use Rattle.std.proofs.Common.{ℕ, List, length, subst, arith}
use Rattle.asp_scc.specs.Numbers.{HasMembers}
use Rattle.asp_scc.proofs.ComponentLaws.{classes_within, members_within, atoms_within_graph, components_found}
use Rattle.asp_scc.proofs.find.by_classes.Goals as goal

pub number-requires-clause-last : goal.number-requires-clause-last
number-requires-clause-last c =
    let small = atoms_within_graph c.args.compiled.now c.args.graph.now (length c.args.graph.now) c.requires.graph (λ _. length c.args.graph.now) in
    omega (arith, small, c.atom_count-atoms.ensures.count, c.requires.size)

pub number-requires-clause-classes : goal.number-requires-clause-classes
number-requires-clause-classes c = classes_within c.args.graph.now c.args.classes.now c.requires.classes

pub trivial-requires-clause-members : goal.trivial-requires-clause-members
trivial-requires-clause-members c =
    let has = subst (λ (xs : List ℕ). HasMembers xs c.in_ok-numbers.count (length xs) c.in_ok-members.members) c.as_slice.ensures.value c.in_ok-members.ensures in
    let small = atoms_within_graph c.args.compiled.now c.args.graph.now (length c.args.graph.now) c.requires.graph (λ _. length c.args.graph.now) in
    members_within (length c.args.graph.now) c.atom_count-atoms.result c.in_ok-numbers.count c.in_ok-numbers.numbers.items c.in_ok-members.members
    (omega (arith, small, c.atom_count-atoms.ensures.count)) c.in_ok-numbers.ensures.size has

pub returns : goal.returns
returns c =
    let has = subst (λ (xs : List ℕ). HasMembers xs c.in_ok-numbers.count (length xs) c.in_ok-members.members) c.as_slice.ensures.value c.in_ok-members.ensures in
    components_found c.args.compiled.now c.args.graph.now c.args.classes.now c.in_ok-numbers.numbers.items c.atom_count-atoms.result
    c.in_ok-numbers.count c.in_ok-members.members c.in_ok-trivial.trivial.items
    c.requires.graph c.atom_count-atoms.ensures.count c.requires.classes c.requires.size c.requires.settled c.in_ok-numbers.ensures has
    c.in_ok-trivial.ensures
