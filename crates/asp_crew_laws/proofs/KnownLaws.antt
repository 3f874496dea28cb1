-- A search at work may take over what the answers delivered have in common.
use Rattle.std.proofs.Common.{◌≡◌, ℕ, List, Option, Some, None, sym, ap, ◌∙◌, refl, subst}
use Rattle.std.specs.Prelude.{ℤ}
use Rattle.std.proofs.lemmas.Option.{same_Some}
use Rattle.asp_model.specs.declared.results.Mode.{Mode}
use Rattle.asp_model.specs.declared.results.Mode.TheVariants.{Enum, Opt, Consequences}
use Rattle.asp_model.specs.declared.results.Reasoning.{Reasoning}
use Rattle.asp_model.specs.Asked.{reasoning_of}
use Rattle.asp_model.specs.Consequences.{common_sets, unshown}
use Rattle.asp_model.specs.Sets.{Atoms, IsSubset}
use Rattle.asp_model.proofs.ConsequenceLaws.{unshown-common}
use Rattle.asp_vars.specs.Knowing.{Knowing}
use Rattle.asp_vars.specs.Paid.{Units}
use Rattle.asp_core.specs.Boards.{Board, known_by, known_of, showing_of, sought}
use Rattle.asp_crew_laws.specs.Agrees.{AreRecorded}
use Rattle.asp_crew_laws.specs.Working.{IsAtWork}
use Rattle.asp_crew_laws.proofs.WorkLaws.{sought-is, work-adopted}

-- what a board tells where consequences are sought
pub record IsKnown (b : Board) (x : Knowing) : Type 0 where
  pub reasoning : Reasoning
  pub seeks : sought b.task.goal ≡ Some reasoning
  pub is : x ≡ record { program = b.task.program; reasoning = reasoning; sets = common_sets reasoning b.task.program (showing_of b) }

none-some : {A : Type 0} (x : A) → None ≡ Some x → ⊥
none-some x e = cc

pub known-is : (b : Board) (x : Knowing) → known_of b ≡ Some x → IsKnown b x
known-is b x e = here (sought b.task.goal) refl e
  where
    here : (k : Option Reasoning) → sought b.task.goal ≡ k → known_by k b.task.program (showing_of b) ≡ Some x → IsKnown b x
    here None q h = absurd (none-some x h)
    here (Some r) q h = record { reasoning = r; seeks = q; is = sym (same_Some (record { program = b.task.program; reasoning = r; sets = common_sets r b.task.program (showing_of b) }) x h) }

-- It is of the board's program, and shows all that the search knows.
pub record MayTakeOver (b : Board) (mode : Mode) (known : List Atoms) (x : Knowing) : Type 0 where
  pub program : x.program ≡ b.task.program
  pub reasoning : Some x.reasoning ≡ reasoning_of mode
  pub all : IsSubset (unshown x.reasoning x.program x.sets) (unshown x.reasoning x.program known)

pub may-take_over : (b : Board) (n : ℕ) (mode : Mode) (known : List Atoms) (bound : Option (List ℤ)) (u : Units) (x : Knowing) →
    IsAtWork b n mode known bound u → IsKnown b x → MayTakeOver b mode known x
may-take_over b n mode known bound u x w k =
    let r : Reasoning = k.reasoning in
    let recorded : AreRecorded (Some r) b.task.program known (showing_of b) = subst (λ (o : Option Reasoning). AreRecorded o b.task.program known (showing_of b)) k.seeks w.agrees.recorded in
    record {
      program = ap (λ (y : Knowing). y.program) k.is;
      reasoning = ap (λ (y : Knowing). Some y.reasoning) k.is ∙ sym k.seeks ∙ sought-is mode bound b.task.goal w.goal;
      all = subst (λ (y : Knowing). IsSubset (unshown y.reasoning y.program y.sets) (unshown y.reasoning y.program known)) (sym k.is)
          (subst (λ (A : Atoms). IsSubset A (unshown r b.task.program known)) (sym (unshown-common r b.task.program (showing_of b))) recorded.0);
    }

-- It goes with the board still.
pub work-known : (b : Board) (n : ℕ) (mode : Mode) (known : List Atoms) (bound : Option (List ℤ)) (u : Units) (x : Knowing) →
    IsAtWork b n mode known bound u → IsKnown b x → IsAtWork b n mode x.sets bound u
work-known b n mode known bound u x w k = subst (λ (y : Knowing). IsAtWork b n mode y.sets bound u) (sym k.is) (here mode (sym (sought-is mode bound b.task.goal w.goal) ∙ k.seeks) w)
  where
    here : (m : Mode) → reasoning_of m ≡ Some k.reasoning → IsAtWork b n m known bound u → IsAtWork b n m (common_sets k.reasoning b.task.program (showing_of b)) bound u
    here Enum e at = absurd (none-some k.reasoning e)
    here Opt e at = absurd (none-some k.reasoning e)
    here (Consequences r) e at =
        subst (λ (q : Reasoning). IsAtWork b n (Consequences r) (common_sets q b.task.program (showing_of b)) bound u) (same_Some r k.reasoning e) (work-adopted b n r known bound u at)
