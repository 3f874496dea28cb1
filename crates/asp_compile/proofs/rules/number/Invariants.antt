use Rattle.std.proofs.Common.{◌≡◌, ◌++◌, take, map}
use Rattle.asp_vars.specs.Numbering.{normal, body_eq, distinct, place_of}
use Rattle.asp_compile.proofs.rules.number.Given as goal

abbrev pub invariant-loop-i : goal.invariant-loop-i
invariant-loop-i l = record {
  bodies : l.bodies ≡ distinct (map (λ x. normal x.body) (take l.i (l.rules ++ l.opened)));
  places : l.places.items ≡ map (λ x. place_of (body_eq (normal x.body)) l.bodies) (take l.i (l.rules ++ l.opened));
}
