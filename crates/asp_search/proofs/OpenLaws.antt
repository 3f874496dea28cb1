-- What goes to other searches: a literal by which a path can be split, and nogoods that hold everywhere.
use Rattle.std.proofs.Common.{◌≡◌, ℕ, ◌<◌, Bool, true, false, not, ◌||◌, ◌==◌, List, ◌∷◌, length, get_or, slice_get, Option, Some, None, IfSome, refl, sym, ap, ◌∙◌, subst, arith, []}
use Rattle.std.specs.Prelude.{ℤ, nat_le, if◌then◌else◌}
use Rattle.std.proofs.lemmas.Bool.{false≢true, eqb-true, false_from_ne_true}
use Rattle.asp_model.specs.declared.program.Program.{Program}
use Rattle.asp_model.specs.declared.results.Mode.{Mode}
use Rattle.asp_model.specs.declared.results.Mode.TheVariants as mode
use Rattle.asp_model.specs.Sets.{Atoms}
use Rattle.asp_vars.specs.Literals.{Literal, literal_eq, has_literal}
use Rattle.asp_vars.specs.Numbering.{var_count}
use Rattle.asp_vars.specs.Entailment.{HitsOnly, IsSharedBy, excuse}
use Rattle.asp_vars.specs.declared.nogood.Base.{Base}
use Rattle.asp_vars.specs.declared.nogood.Base.TheVariants as base
use Rattle.asp_vars.specs.declared.nogood.Nogood.{Nogood}
use Rattle.asp_vars.proofs.LiteralLaws.{and_left}
use Rattle.asp_trail.specs.declared.trail.Entry.{Entry}
use Rattle.asp_trail.specs.Entries.{level_in}
use Rattle.asp_trail.specs.Trails.{IsOrdered, IsVar}
use Rattle.asp_store.specs.declared.stored_nogood.StoredNogood.{StoredNogood}
use Rattle.asp_store.specs.Keeping.{is_local_base, nogood_at}
use Rattle.asp_store.specs.Fitting.{AreSmall}
use Rattle.asp_trail_laws.specs.Starts.{AreStarts}
use Rattle.asp_trail_laws.proofs.LitLaws.{eq_itself}
use Rattle.asp_trail_laws.proofs.PlaceLaws.{blank, level_at}
use Rattle.asp_search_laws.specs.Keeping.{AreUseful}
use Rattle.asp_search_laws.specs.Steps.{is_of_use}
use Rattle.asp_search.specs.Beside.{is_shared, only_shared, IsShared, has_var, IsOpen}

-- ---- the first decision
var_found : (q : List Literal) (v : ℕ) → has_var q v ≡ true → (k : Literal) × (has_literal q k ≡ true) × (k.var ≡ v)
var_found [] v h = absurd (false≢true h)
var_found (l ∷ q) v h = cases (l.var == v) refl (var_found q v)
  where
    later : (a b : Bool) → b ≡ true → (a || b) ≡ true
    later true b e = refl
    later false b e = e

    cases : (b : Bool) → b ≡ (l.var == v) → (has_var q v ≡ true → (k : Literal) × (has_literal q k ≡ true) × (k.var ≡ v)) → (k : Literal) × (has_literal (l ∷ q) k ≡ true) × (k.var ≡ v)
    cases true e rest = (l, ap (λ b. b || has_literal q l) (eq_itself l), eqb-true l.var v (sym e))
    cases false e rest = let f = rest (ap (λ b. b || has_var q v) e ∙ h) in (f.0, later (literal_eq l f.0) (has_literal q f.0) f.1, f.2)

module _ (vars : ℕ) (q ds : List Literal) (d : Literal) (es : List Entry) (o : IsOrdered vars es) (s : AreStarts q (d ∷ ds) es) where
  decided : (i : ℕ) × (i < length es) × ((get_or es i blank).lit ≡ d) × ((get_or es i blank).level ≡ 1)
  decided =
      let b = s.decisions_stand 0 (omega arith) in
      (b.place, b.stands.within, b.stands.lit blank, b.stands.level blank)

  -- no literal of the cube is of its variable, since those are of level 0
  apart : (k : Literal) → has_literal q k ≡ true → k.var ≡ d.var → ⊥
  apart k has same =
      let t = s.cube_stands k has in
      let low : level_in es k.var ≡ (get_or es t.0 blank).level = level_at vars es t.0 blank k o t.1.within (t.1.lit blank) in
      let high : level_in es d.var ≡ (get_or es decided.0 blank).level = level_at vars es decided.0 blank d o decided.1 decided.2 in
      omega (arith, low, high, t.1.level blank, decided.3, ap (level_in es) same)

  open_literal : IsVar vars d.var × (has_var q d.var ≡ false)
  open_literal = (
    subst (λ (l : Literal). IsVar vars l.var) decided.2 (o.within decided.0 blank decided.1),
    false_from_ne_true (has_var q d.var) (λ h. let f = var_found q d.var h in apart f.0 f.1 f.2),
  )

pub first_open : (p : Program) (q ds : List Literal) (es : List Entry) (clashing : Bool) → IsOrdered (var_count p) es → (clashing ≡ true → ds ≡ []) → (clashing ≡ false → AreStarts q ds es) →
    IfSome (slice_get ds 0) (IsOpen p q)
first_open p q [] es clashing o idle starts = tt
first_open p q (d ∷ ds) es true o idle starts = absurd (none (idle refl))
  where
    none : d ∷ ds ≡ [] → ⊥
    none e = cc
first_open p q (d ∷ ds) es false o idle starts = open_literal (var_count p) q ds d es o (starts refl)

-- ---- nogoods that hold for every search
shared_by : (p : Program) (known : List Atoms) (bound : Option (List ℤ)) (b : Base) (lits : List Literal)
    → not (is_local_base b) ≡ true → HitsOnly p (excuse p known bound b) lits → IsSharedBy p b lits
shared_by p known bound base.Pure lits e good = good
shared_by p known bound (base.Below c) lits e good = good
shared_by p known bound base.Local lits e good = absurd (false≢true e)

pub kept_shared : (longest : ℕ) (p : Program) (known : List Atoms) (bound : Option (List ℤ)) (slots : List (Option StoredNogood)) (id : ℕ)
    (n : Nogood) → AreUseful p known bound slots → AreSmall (var_count p) slots →
    nogood_at slots id ≡ Some n → is_shared longest n ≡ true → IsShared p n
kept_shared longest p known bound slots id n useful small q e = record {
  variables = small id n q;
  shared = shared_by p known bound n.base n.lits (and_left (not (is_local_base n.base)) (nat_le (length n.lits) longest) e) (useful id n q).good;
}

pub shared_good : (p : Program) (known : List Atoms) (bound : Option (List ℤ)) (b : Base) (lits : List Literal) → IsSharedBy p b lits → HitsOnly p (excuse p known bound b) lits
shared_good p known bound base.Pure lits h = h
shared_good p known bound (base.Below c) lits h = h
shared_good p known bound base.Local lits h = absurd h

-- what counts for a search whatever it knows isn't local
pub of_use_shared : (m : Mode) (bound : Option (List ℤ)) (b : Base) → is_of_use m bound b ≡ true → b ≡ base.Local → ⊥
of_use_shared m bound base.Pure h e = pure_local e
  where
    pure_local : base.Pure ≡ base.Local → ⊥
    pure_local q = cc
of_use_shared m bound (base.Below c) h e = below_local e
  where
    below_local : base.Below c ≡ base.Local → ⊥
    below_local q = cc
of_use_shared mode.Enum bound base.Local h e = false≢true h
of_use_shared mode.Opt bound base.Local h e = false≢true h
of_use_shared (mode.Consequences r) bound base.Local h e = false≢true h

-- ---- what is copied for others
pub only_is : (longest : ℕ) (p : Program) (k : Option Nogood) → ((n : Nogood) → k ≡ Some n → is_shared longest n ≡ true → IsShared p n) → IfSome (only_shared longest k) (IsShared p)
only_is longest p None f = tt
only_is longest p (Some n) f = cases (is_shared longest n) refl
  where
    cases : (b : Bool) → b ≡ is_shared longest n → IfSome (if b then Some n else None) (IsShared p)
    cases true e = f n refl (sym e)
    cases false e = tt
