-- How the answers delivered are kept: in a list, or by what they have in common.
use Rattle.std.proofs.Common.{◌≡◌, true, List, [], ◌∷◌, ◌++◌, Option, Some, None, refl, sym, ap, ◌∙◌, subst}
use Rattle.std.specs.Prelude.{slice_get, option_and_then}
use Rattle.std.specs.Option.{IfSome, is_some}
use Rattle.asp_model.specs.declared.program.Program.{Program}
use Rattle.asp_model.specs.declared.results.Reasoning.{Reasoning}
use Rattle.asp_model.specs.Consequences.{common_sets, consequences_of}
use Rattle.asp_model.specs.Models.{atoms_of}
use Rattle.asp_model.specs.Sets.{Atoms}
use Rattle.asp_vars.specs.Knowing.{Knowing}
use Rattle.asp_core.specs.declared.goal.Goal.{Goal}
use Rattle.asp_core.specs.Boards.{common_by, known_by, listed_by, showing, sought}
use Rattle.asp_core.specs.Stored.{answers_in, IsSeen, seed_of, with_answer}
use Rattle.asp_core.proofs.AskedLaws.{showing-common, showing-nothing}

-- ---- at the start
pub in-none : (k : Option Reasoning) → answers_in k [] [] ≡ []
in-none None = refl
in-none (Some r) = refl

pub seen-start : (g : Goal) (k : Option Reasoning) (p : Program) (known : Option Knowing) (atoms : Atoms) → known ≡ known_by k p [] →
    (is_some k ≡ true → atoms ≡ atoms_of p) → IsSeen g k p known [] [] atoms
seen-start g None p known atoms is standing = is
seen-start g (Some r) p known atoms is standing = (is ∙ ap (known_by (Some r) p) (sym (showing-nothing g p)), refl, standing refl)

-- ---- one answer more
pub list-in : (k : Option Reasoning) (A told : List Atoms) (S : Atoms) → k ≡ None → answers_in k (A ++ S ∷ []) told ≡ answers_in k A told ++ S ∷ []
list-in None A told S e = refl
list-in (Some r) A told S e = absurd (some r e)
  where
    some : (r : Reasoning) → Some r ≡ None → ⊥
    some r e = cc

pub tell-in : (k : Option Reasoning) (r : Reasoning) (A told : List Atoms) (S : Atoms) → k ≡ Some r → answers_in k A (told ++ S ∷ []) ≡ answers_in k A told ++ S ∷ []
tell-in None r A told S e = absurd (none r e)
  where
    none : (r : Reasoning) → None ≡ Some r → ⊥
    none r e = cc
tell-in (Some w) r A told S e = refl

-- no list is sought where something is known
pub unseen : (g : Goal) (k : Option Reasoning) (p : Program) (known : Option Knowing) (A told : List Atoms) (atoms : Atoms) → IsSeen g k p known A told atoms → known ≡ None → k ≡ None
unseen g None p known A told atoms is none = refl
unseen g (Some r) p known A told atoms is none = absurd (some (sym is.0 ∙ none))
  where
    some : known_by (Some r) p (showing g p told) ≡ None → ⊥
    some e = cc

-- so what was delivered is the list
pub in-list : (k : Option Reasoning) (A told : List Atoms) → k ≡ None → answers_in k A told ≡ A
in-list None A told e = refl
in-list (Some r) A told e = absurd (some e)
  where
    some : Some r ≡ None → ⊥
    some e = cc

-- a list is sought where consequences aren't
pub seen-list : (g : Goal) (k : Option Reasoning) (p : Program) (known : Option Knowing) (A B told : List Atoms) (atoms : Atoms) → k ≡ None →
    IsSeen g k p known A told atoms → IsSeen g k p known B told atoms
seen-list g k p known A B told atoms none is =
    subst (λ (x : Option Reasoning). IsSeen g x p known B told atoms) (sym none) (subst (λ (x : Option Reasoning). IsSeen g x p known A told atoms) none is)

-- What is known of consequences that are sought.
pub record Seen (g : Goal) (k : Option Reasoning) (p : Program) (x : Knowing) (A told : List Atoms) (atoms : Atoms) : Type 0 where
  pub reasoning : Reasoning
  pub seeks : k ≡ Some reasoning
  pub known : x ≡ record { program = p; reasoning = reasoning; sets = common_sets reasoning p (showing g p told) }
  pub listed : A ≡ []
  pub standing : atoms ≡ atoms_of p

pub seen-some : (g : Goal) (k : Option Reasoning) (p : Program) (known : Option Knowing) (x : Knowing) (A told : List Atoms) (atoms : Atoms) →
    IsSeen g k p known A told atoms → known ≡ Some x → Seen g k p x A told atoms
seen-some g None p known x A told atoms is e = absurd (none (sym is ∙ e))
  where
    none : None ≡ Some x → ⊥
    none q = cc
seen-some g (Some r) p known x A told atoms is e = record {
  reasoning = r;
  seeks = refl;
  known = (let q : Some x ≡ known_by (Some r) p (showing g p told) = sym e ∙ is.0 in let f : x ≡ record { program = p; reasoning = r; sets = common_sets r p (showing g p told) } = cc in f);
  listed = is.1;
  standing = is.2;
}

pub seen-more : (g : Goal) (p : Program) (x y : Knowing) (A told more : List Atoms) (S : Atoms) (atoms : Atoms) → Seen g (sought g) p x A told atoms →
    y ≡ record x { sets = common_sets x.reasoning x.program (with_answer (seed_of g p) x.sets S) } → more ≡ told ++ S ∷ [] → IsSeen g (sought g) p (Some y) A more atoms
seen-more g p x y A told more S atoms s grown pushed =
    subst (λ (j : Option Reasoning). IsSeen g j p (Some y) A more atoms) (sym s.seeks) (
      ap (λ (z : Knowing). Some z) (grown ∙ ap with_one s.known ∙ ap keeps (showing-common g s.reasoning p told S s.seeks)
          ∙ ap (λ (K : List Atoms). keeps (common_sets s.reasoning p (showing g p K))) (sym pushed)),
      s.listed,
      s.standing,
    )
  where
    with_one : Knowing → Knowing
    with_one z = record z { sets = common_sets z.reasoning z.program (with_answer (seed_of g p) z.sets S) }

    keeps : List Atoms → Knowing
    keeps sets = record { program = p; reasoning = s.reasoning; sets = sets }

-- ---- what is told of them
pub seen-known : (g : Goal) (k : Option Reasoning) (p : Program) (known : Option Knowing) (A told : List Atoms) (atoms : Atoms) →
    IsSeen g k p known A told atoms → known ≡ known_by k p (showing g p (answers_in k A told))
seen-known g None p known A told atoms is = is
seen-known g (Some r) p known A told atoms is = is.0

pub seen-listed : (g : Goal) (k : Option Reasoning) (p : Program) (known : Option Knowing) (A told : List Atoms) (atoms : Atoms) →
    IsSeen g k p known A told atoms → A ≡ listed_by k (answers_in k A told)
seen-listed g None p known A told atoms is = refl
seen-listed g (Some r) p known A told atoms is = is.1

pub seen-standing : (g : Goal) (k : Option Reasoning) (p : Program) (known : Option Knowing) (A told : List Atoms) (atoms : Atoms) →
    IsSeen g k p known A told atoms → IfSome known (λ x. atoms ≡ atoms_of x.program)
seen-standing g None p known A told atoms is = subst (λ (o : Option Knowing). IfSome o (λ x. atoms ≡ atoms_of x.program)) (sym is) tt
seen-standing g (Some r) p known A told atoms is = subst (λ (o : Option Knowing). IfSome o (λ x. atoms ≡ atoms_of x.program)) (sym is.0) is.2

first-common : (r : Reasoning) (p : Program) (K : List Atoms) → slice_get (common_sets r p K) 0 ≡ consequences_of r p K
first-common r p [] = refl
first-common r p (S ∷ K) = refl

pub seen-common : (g : Goal) (k : Option Reasoning) (p : Program) (known : Option Knowing) (A told : List Atoms) (atoms : Atoms) →
    IsSeen g k p known A told atoms → option_and_then (λ (x : Knowing). slice_get x.sets 0) known ≡ common_by k p (showing g p (answers_in k A told))
seen-common g None p known A told atoms is = ap (option_and_then (λ (x : Knowing). slice_get x.sets 0)) is
seen-common g (Some r) p known A told atoms is = ap (option_and_then (λ (x : Knowing). slice_get x.sets 0)) is.0 ∙ first-common r p (showing g p told)
