use Rattle.std.proofs.Common.{◌≡◌, ◌∷◌, [], map, take}
use Rattle.asp_vars.specs.Codes.{code_of}
use Rattle.asp_compile.proofs.held.held_codes.Given as goal

abbrev pub invariant-loop-lit : goal.invariant-loop-lit
invariant-loop-lit l = l.rows ≡ map (λ k. code_of k ∷ []) (take l.lit-index l.held)
