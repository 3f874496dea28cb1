-- A nogood that nothing hits is an entry where the log's program has its variable.
use Rattle.std.proofs.Common.{◌≡◌, ℕ, Bool, true, false, ◌&&◌, get_or, Option, Some, None, [], ◌∷◌, sym, subst}
use Rattle.std.specs.Option.{IfSome}
use Rattle.std.specs.Bool.{beq}
use Rattle.std.proofs.lemmas.Bool.{false≢true}
use Rattle.std.proofs.lemmas.List.Elements.{All-from_recursion}
use Rattle.asp_model.specs.declared.program.Program.{Program}
use Rattle.asp_vars.specs.declared.nogood.Nogood.{Nogood}
use Rattle.asp_vars.specs.Literals.{Literal, T, F}
use Rattle.asp_vars.specs.Numbering.{values}
use Rattle.asp_core.specs.Events.{IsVariable}
use Rattle.asp_log.specs.declared.scope.Scope.{Scope}
use Rattle.asp_log.specs.Entries.{IsEntry}
use Rattle.asp_log_laws.specs.Together.{clash, HasVar}

neither : (x : Bool) → (beq x true && (beq x false && true)) ≡ true → ⊥
neither true h = false≢true h
neither false h = false≢true h

IsEntry-clash : (p : Program) (v : ℕ) → IsVariable p v → IsEntry p (clash v)
IsEntry-clash p v is = record {
  variables = All-from_recursion (λ (l : Literal). IsVariable p l.var) (T v ∷ F v ∷ []) (is, (is, tt));
  shared = record { excused = λ S stable hit. absurd (neither (get_or (values p S) v false) hit) };
}

pub entry : (about : Option Scope) (v : ℕ) (n : Nogood) → n ≡ clash v → HasVar about v → IfSome about (λ s. IsEntry s.program n)
entry None v n is h = tt
entry (Some s) v n is h = subst (IsEntry s.program) (sym is) (IsEntry-clash s.program v h)
