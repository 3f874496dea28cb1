-- What counts for a search is settled, and goes on to count.
use Rattle.std.proofs.Common.{◌≡◌, Bool, true, false, not, ◌||◌, List, [], ◌∷◌, ◌++◌, Option, Some, None, refl, ap, ◌∙◌}
use Rattle.std.specs.Prelude.{ℤ}
use Rattle.std.specs.List.{list_any}
use Rattle.std.specs.Ordering.{int_cmp, is_lt, ordering_reverse}
use Rattle.std.specs.declared.cmp.Ordering.{Ordering}
use Rattle.std.specs.declared.cmp.Ordering.TheVariants.{Less, Equal, Greater}
use Rattle.std.specs.Cmp.Lexicographic.{slice_cmp}
use Rattle.std.proofs.lemmas.Bool.{false≢true}
use Rattle.asp_model.specs.declared.program.Program.{Program}
use Rattle.asp_model.specs.Sets.{Atoms, same_set}
use Rattle.asp_model.specs.Costs.{betters}
use Rattle.asp_model.specs.Orders.{costs_total}
use Rattle.asp_vars.specs.Literals.{Literal}
use Rattle.asp_vars.specs.Entailment.{HitsOnly, Settled, excuse, nothing, costs, is_done}
use Rattle.asp_vars.specs.declared.nogood.Base.{Base}
use Rattle.asp_vars.specs.declared.nogood.Base.TheVariants as base
use Rattle.asp_vars.specs.declared.nogood.Nogood.{Nogood}
use Rattle.asp_vars.proofs.ResolutionLaws.{HitsOnly-weaker, costs_within, betters_trans, not_true}
use Rattle.asp_vars.proofs.SettledLaws.{more_answers, lower_bound, found_bound}
use Rattle.asp_propagate.specs.Useful.{Counts, IsUseful, IsSmaller}

or_right : (a b : Bool) → b ≡ true → (a || b) ≡ true
or_right true b e = refl
or_right false b e = e

base_settles : (p : Program) (known : List Atoms) (bound : Option (List ℤ)) (b : Base) (n : List Literal) → Counts bound b →
    HitsOnly p (excuse p known bound b) n → Settled p known bound n
base_settles p known bound base.Pure n q h = HitsOnly-weaker p nothing (is_done p known bound) n (λ S e. absurd (false≢true e)) h
base_settles p known None (base.Below c) n q h = absurd (false≢true q)
base_settles p known (Some d) (base.Below c) n q h =
    HitsOnly-weaker p (costs p c) (is_done p known (Some d)) n
    (λ S e. or_right (list_any (same_set S) known) (costs p d S) (costs_within p S c d (not_true (betters c d) q) e)) h
base_settles p known bound base.Local n q h = h

pub useful_settles : (p : Program) (known : List Atoms) (bound : Option (List ℤ)) (n : Nogood) → IsUseful p known bound n → Settled p known bound n.lits
useful_settles p known bound n u = base_settles p known bound n.base n.lits u.counts u.good

-- ---- one more answer
base_more : (p : Program) (known : List Atoms) (S : Atoms) (bound : Option (List ℤ)) (b : Base) (n : List Literal) →
    HitsOnly p (excuse p known bound b) n → HitsOnly p (excuse p (known ++ S ∷ []) bound b) n
base_more p known S bound base.Pure n h = h
base_more p known S bound (base.Below c) n h = h
base_more p known S bound base.Local n h = more_answers p known S bound n h

pub useful_more : (p : Program) (known : List Atoms) (S : Atoms) (bound : Option (List ℤ)) (n : Nogood) → IsUseful p known bound n → IsUseful p (known ++ S ∷ []) bound n
useful_more p known S bound n u = record { good = base_more p known S bound n.base n.lits u.good; counts = u.counts }

-- ---- a smaller bound
turned : (o : Ordering) → is_lt o ≡ true → is_lt (ordering_reverse o) ≡ false
turned Less e = refl
turned Equal e = refl
turned Greater e = absurd (false≢true e)

one_way : (c d : List ℤ) → betters c d ≡ true → betters d c ≡ false
one_way c d e = ap is_lt (costs_total.antisymm d c) ∙ turned (slice_cmp int_cmp c d) e

base_lower : (p : Program) (known : List Atoms) (bound : Option (List ℤ)) (c : List ℤ) (b : Base) (n : List Literal) → IsSmaller c bound →
    HitsOnly p (excuse p known bound b) n → HitsOnly p (excuse p known (Some c) b) n
base_lower p known bound c base.Pure n s h = h
base_lower p known bound c (base.Below d) n s h = h
base_lower p known None c base.Local n s h = found_bound p known c n h
base_lower p known (Some d) c base.Local n s h = lower_bound p known d c n (one_way c d s) h

counts_lower : (bound : Option (List ℤ)) (c : List ℤ) (b : Base) → IsSmaller c bound → Counts bound b → Counts (Some c) b
counts_lower bound c base.Pure s q = tt
counts_lower None c (base.Below e) s q = absurd (false≢true q)
counts_lower (Some d) c (base.Below e) s q =
    ap not (betters_trans e d c (not_true (betters e d) q) (one_way c d s))
counts_lower bound c base.Local s q = tt

pub useful_lower : (p : Program) (known : List Atoms) (bound : Option (List ℤ)) (c : List ℤ) (n : Nogood) → IsSmaller c bound →
    IsUseful p known bound n → IsUseful p known (Some c) n
useful_lower p known bound c n s u =
    record { good = base_lower p known bound c n.base n.lits s u.good; counts = counts_lower bound c n.base s u.counts }
