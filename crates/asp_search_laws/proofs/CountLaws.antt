-- What is derived counts for the search.
use Rattle.std.proofs.Common.{◌≡◌, ℕ, Bool, true, false, not, ◌&&◌, List, ◌∷◌, get_or, Option, Some, refl, sym, ap, ◌∙◌, subst, []}
use Rattle.std.specs.Prelude.{ℤ, IsTrue}
use Rattle.std.specs.List.{list_any}
use Rattle.std.proofs.lemmas.Bool.{false≢true, false_from_ne_true}
use Rattle.asp_model.specs.declared.program.Program.{Program}
use Rattle.asp_model.specs.Sets.{Atoms}
use Rattle.asp_model.specs.Models.{is_stable}
use Rattle.asp_model.specs.Sound.{IsSound}
use Rattle.asp_model.proofs.MemberLaws.{each_weaker}
use Rattle.asp_vars.specs.Literals.{Literal, complement, is_true, hits}
use Rattle.asp_vars.specs.Numbering.{var_count, values}
use Rattle.asp_vars.specs.Completion.{completion}
use Rattle.asp_vars.specs.Entailment.{Entailed}
use Rattle.asp_vars.specs.declared.nogood.Base.{Base}
use Rattle.asp_vars.specs.declared.nogood.Base.TheVariants as base
use Rattle.asp_vars.specs.declared.nogood.Nogood.{Nogood}
use Rattle.asp_vars.proofs.CompletionLaws.{completion_entailed}
use Rattle.asp_vars.proofs.LiteralLaws.{is_true-complement}
use Rattle.asp_found.specs.Verdicts.{IsListed}
use Rattle.asp_found.proofs.RestLaws.{none_passes}
use Rattle.asp_propagate.specs.Useful.{IsUseful}
use Rattle.asp_search_laws.specs.Axioms.{IsAxiom, IsDerived}
use Rattle.asp_search_laws.proofs.UsefulLaws.{learnt_useful}

-- ---- axioms
-- no set has a literal and its complement
no_pair : (b : Bool) → (b && (not b && true)) ≡ false
no_pair true = refl
no_pair false = refl

pair_entailed : (p : Program) (l : Literal) → Entailed p (l ∷ complement l ∷ [])
pair_entailed p l = record {
  excused = λ S stable h.
      sym (no_pair (is_true (values p S) l)) ∙ (ap (λ (b : Bool). is_true (values p S) l && (b && true)) (sym (is_true-complement (values p S) l)) ∙ h);
}

listed_entailed : (p : Program) (n : List Literal) → IsSound p → IsListed p n → Entailed p n
listed_entailed p n sound listed = record { excused = λ S stable h. sym (none S stable) ∙ listed (hits (values p S)) h }
  where
    none : (S : Atoms) → IsTrue (is_stable p S) → list_any (hits (values p S)) (completion p) ≡ false
    none S stable =
        none_passes (hits (values p S)) (completion p)
        (each_weaker (Entailed p) (λ m. hits (values p S) m ≡ false) (λ m e. false_from_ne_true (hits (values p S) m) (λ h. false≢true (e.excused S stable h))) (completion p)
        (completion_entailed p sound))

pure_useful : (p : Program) (known : List Atoms) (bound : Option (List ℤ)) (n : Nogood) → n.base ≡ base.Pure → Entailed p n.lits → IsUseful p known bound n
pure_useful p known bound n pure e =
    subst (λ (b : Base). IsUseful p known bound (record { lits = n.lits; base = b })) (sym pure) (record { good = e; counts = tt })

axiom_useful : (p : Program) (gives : Nogood → Type 0) (known : List Atoms) (bound : Option (List ℤ)) (n : Nogood) → IsSound p →
    ((m : Nogood) → gives m → IsUseful p known bound m) → IsAxiom p gives n → IsUseful p known bound n
axiom_useful p gives known bound n sound given (IsAxiom.pair l) = record { good = pair_entailed p l; counts = tt }
axiom_useful p gives known bound n sound given (IsAxiom.completion pure listed) = pure_useful p known bound n pure (listed_entailed p n.lits sound listed)
axiom_useful p gives known bound n sound given (IsAxiom.loop x U a l) = pure_useful p known bound n l.pure l.entailed
axiom_useful p gives known bound n sound given (IsAxiom.propagator g) = given n g

-- ---- what is derived
pub derived_useful : (p : Program) (gives : Nogood → Type 0) (known : List Atoms) (bound : Option (List ℤ)) (kept : ℕ → Option Nogood) (n : Nogood) → IsSound p →
    ((m : Nogood) → gives m → IsUseful p known bound m) → ((id : ℕ) (m : Nogood) → kept id ≡ Some m → IsUseful p known bound m) → IsDerived p gives bound kept n → IsUseful p known bound n
derived_useful p gives known bound kept n sound given useful (IsDerived.given x c) = axiom_useful p gives known bound n sound given x
derived_useful p gives known bound kept n sound given useful (IsDerived.stands id q) = useful id n q
derived_useful p gives known bound kept n sound given useful (IsDerived.reached {from = from} es used o reached first rest) =
    learnt_useful p known bound (var_count p) es from n used o reached (derived_useful p gives known bound kept from sound given useful first)
    (λ i d h. derived_useful p gives known bound kept (get_or used i d).nogood sound given useful (rest i d h))
