-- What stands at level 0 holds in each answer that is still to come.
use Rattle.std.proofs.Common.{◌≡◌, ℕ, ◌<◌, Bool, true, false, List, ◌++◌, length, get_or, take, Option, None, ℤ, sym, ap, ◌∙◌, subst, append-nil, arith}
use Rattle.asp_model.specs.declared.program.Program.{Program}
use Rattle.asp_model.specs.Sets.{Atoms}
use Rattle.asp_model.specs.Models.{is_stable}
use Rattle.asp_vars.specs.Entailment.{is_done}
use Rattle.asp_vars.specs.Literals.{Literal, F, hits, is_true}
use Rattle.asp_vars.specs.Numbering.{values, var_count}
use Rattle.asp_vars.proofs.LiteralLaws.{beq_same}
use Rattle.asp_trail.specs.declared.trail.Entry.{Entry}
use Rattle.asp_trail.specs.Trails.{IsOrdered}
use Rattle.asp_trail_laws.specs.Settling.{AreSettled}
use Rattle.asp_trail_laws.specs.Starts.{AreStarts}
use Rattle.asp_trail_laws.proofs.HitLaws.{trail_hit}

fixed_at : (p : Program) (known : List Atoms) (bound : Option (List ℤ)) (q decisions : List Literal) (es : List Entry) (v i : ℕ) (b : Bool) →
    IsOrdered (var_count p) es → AreSettled p known bound es → AreStarts q decisions es →
    i < length es → ((d : Entry) → (get_or es i d).level ≡ 0) → ((d : Entry) → (get_or es i d).lit.var ≡ v) → ((d : Entry) → (get_or es i d).lit.truth ≡ b) →
    (S : Atoms) → is_stable p S ≡ true → hits (values p S) q ≡ true → is_done p known bound S ≡ false → get_or (values p S) v false ≡ b
fixed_at p known bound q decisions es v i b ordered reasons starts lt level var truth S stable hit fresh =
    let d : Entry = record { lit = F 0; level = 0; reason = None } in
    let l : Literal = (get_or es i d).lit in
    let hit_all : hits (values p S) (q ++ take 0 decisions) ≡ true = ap (hits (values p S)) (append-nil q) ∙ hit in
    let holds : is_true (values p S) l ≡ true = trail_hit p known bound (var_count p) q decisions es 0 S ordered reasons starts stable fresh hit_all i d lt (omega (arith, level d)) in
    ap (λ k. get_or (values p S) k false) (sym (var d)) ∙ beq_same (get_or (values p S) l.var false) l.truth holds ∙ truth d

pub fixed_in : (p : Program) (known : List Atoms) (bound : Option (List ℤ)) (q decisions : List Literal) (es fs : List Entry) (v i : ℕ) (b : Bool) →
    fs ≡ es → IsOrdered (var_count p) es → AreSettled p known bound es → AreStarts q decisions es →
    i < length fs → ((d : Entry) → (get_or fs i d).level ≡ 0) → ((d : Entry) → (get_or fs i d).lit.var ≡ v) → ((d : Entry) → (get_or fs i d).lit.truth ≡ b) →
    (S : Atoms) → is_stable p S ≡ true → hits (values p S) q ≡ true → is_done p known bound S ≡ false → get_or (values p S) v false ≡ b
fixed_in p known bound q decisions es fs v i b same ordered reasons starts =
    fixed_at p known bound q decisions fs v i b (subst (IsOrdered (var_count p)) (sym same) ordered)
    (subst (AreSettled p known bound) (sym same) reasons) (subst (AreStarts q decisions) (sym same) starts)
