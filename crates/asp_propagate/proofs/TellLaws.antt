-- What a propagator was told of a trail's first entries.
use Rattle.std.proofs.Common.{◌≡◌, ◌≢◌, ℕ, suc, zero, ◌+◌, ◌-◌, ◌<◌, ◌≤◌, Bool, true, false, List, [], ◌∷◌, ◌++◌, length, take, set, get_or, replicate, Option, Some, None, refl, sym, ap, ◌∙◌, subst, arith, get_or-set_same}
use Rattle.std.specs.List.{All, AllPairs}
use Rattle.std.specs.Bool.{beq}
use Rattle.std.proofs.lemmas.List.{take_more, take-take, take-append-le, length-append, length-take-le, get_or-take}
use Rattle.std.proofs.lemmas.List.Sums.{fold-append}
use Rattle.asp_vars.specs.Literals.{Literal, agrees, holds_in, value_of}
use Rattle.asp_trail.specs.declared.trail.Entry.{Entry}
use Rattle.asp_trail.specs.Entries.{assign, assignment, cut}
use Rattle.asp_trail.specs.Trails.{Trailed, IsOrdered}
use Rattle.asp_trail.specs.Told.{Told, told, untold}
use Rattle.asp_trail.proofs.EntryLaws.{fold_without, none_at, unset, same_default}
use Rattle.asp_trail.proofs.HeldLaws.{length_assigned}
use Rattle.asp_store.proofs.WatchLaws.{IsFront, front}
use Rattle.asp_propagate.specs.Propagating.{WasTold}

-- ---- values of the first entries
told_next : (vars : ℕ) (es : List Entry) (i : ℕ) (d : Entry) → i < length es → assignment vars (take (i + 1) es) ≡ assign (assignment vars (take i es)) (get_or es i d)
told_next vars es i d h = ap (assignment vars) (take_more es i d h) ∙ fold-append assign (replicate (vars + 1) None) (take i es) (get_or es i d ∷ [])

-- an entry's variable has no value before
no_value : (vars : ℕ) (es : List Entry) (i : ℕ) (d : Entry) → IsOrdered vars es → i < length es → get_or (assignment vars (take i es)) (get_or es i d).lit.var None ≡ None
no_value vars es i d o h = fold_without (replicate (vars + 1) None) (take i es) (get_or es i d).lit.var apart ∙ none_at (vars + 1) (get_or es i d).lit.var
  where
    apart : All (λ e. e.lit.var ≢ (get_or es i d).lit.var) (take i es)
    apart j f k q =
        let n : length (take i es) ≡ i = length-take-le i es (omega arith) in
        let lt : j < i = omega arith in
        o.apart j i d lt h (sym (ap (λ (e : Entry). e.lit.var) (get_or-take i es j f lt ∙ same_default es j f d (omega arith))) ∙ q)

beq_itself : (b : Bool) → beq b b ≡ true
beq_itself true = refl
beq_itself false = refl

-- ---- one entry more, and one less
abbrev like : Literal → Entry
like l = record { lit = l; level = 0; reason = None }

pub not_told : (t : Told) (r : Trailed) (i : ℕ) (l : Literal) → ((d : Entry) → l ≡ (get_or r.entries i d).lit) → IsOrdered r.vars r.entries → i < length r.entries →
    WasTold t r i → value_of t.values l.var ≡ None
not_told t r i l same o h w =
    ap (λ (v : List (Option Bool)). value_of v l.var) w.values
    ∙ (ap (λ (k : Literal). value_of (assignment r.vars (take i r.entries)) k.var) (same (like l)) ∙ no_value r.vars r.entries i (like l) o h)

pub told_more : (t : Told) (r : Trailed) (i : ℕ) (l : Literal) → ((d : Entry) → l ≡ (get_or r.entries i d).lit) → i < length r.entries → WasTold t r i → WasTold (told t l) r (i + 1)
told_more t r i l same h w = record {
  vars = w.vars;
  begun = omega arith;
  values =
      ap (λ (v : List (Option Bool)). set v l.var (Some l.truth)) w.values
      ∙ (ap (λ (k : Literal). set (assignment r.vars (take i r.entries)) k.var (Some k.truth)) (same (like l)) ∙ sym (told_next r.vars r.entries i (like l) h));
}

pub told_holds : (t : Told) (r : Trailed) (i : ℕ) (l : Literal) → ((d : Entry) → l ≡ (get_or r.entries i d).lit) → IsOrdered r.vars r.entries → WasTold t r (i + 1) →
    holds_in t.values l ≡ true
told_holds t r i l same o w =
    let h : i < length r.entries = omega (arith, w.begun) in
    let e : Entry = get_or r.entries i (like l) in
    let a : List (Option Bool) = assignment r.vars (take i r.entries) in
    let lt : e.lit.var < length a = omega (arith, (o.within i (like l) h).1, length_assigned r.vars (take i r.entries)) in
    ap (λ (v : List (Option Bool)). holds_in v l) (w.values ∙ told_next r.vars r.entries i (like l) h)
    ∙ (ap (λ (k : Literal). holds_in (assign a e) k) (same (like l)) ∙ (ap (λ (v : Option Bool). agrees v e.lit) (get_or-set_same a e.lit.var (Some e.lit.truth) None lt) ∙ beq_itself e.lit.truth))

pub told_fewer : (t : Told) (r : Trailed) (i : ℕ) (l : Literal) → ((d : Entry) → l ≡ (get_or r.entries i d).lit) → IsOrdered r.vars r.entries → WasTold t r (i + 1) →
    WasTold (untold t l) r i
told_fewer t r i l same o w =
    let h : i < length r.entries = omega (arith, w.begun) in
    let e : Entry = get_or r.entries i (like l) in
    let a : List (Option Bool) = assignment r.vars (take i r.entries) in
    record {
      vars = w.vars;
      begun = omega arith;
      values =
          ap (λ (v : List (Option Bool)). set v l.var None) (w.values ∙ told_next r.vars r.entries i (like l) h)
          ∙ (ap (λ (k : Literal). set (assign a e) k.var None) (same (like l)) ∙ unset a e.lit.var (Some e.lit.truth) (no_value r.vars r.entries i (like l) o h));
    }

-- ---- the trail changes
pub told_extends : (t : Told) (r s : Trailed) (n : ℕ) (fs : List Entry) → s.vars ≡ r.vars → s.entries ≡ r.entries ++ fs → WasTold t r n → WasTold t s n
told_extends t r s n fs v e w = record {
  vars = v ∙ w.vars;
  begun = omega (arith, w.begun, ap (length {A = Entry}) e, length-append r.entries fs);
  values =
      w.values
      ∙ (ap (λ (m : ℕ). assignment m (take n r.entries)) (sym v) ∙ ap (assignment s.vars) (sym (ap (λ (xs : List Entry). take n xs) e ∙ take-append-le n r.entries fs w.begun)));
}

pub told_cut : (t : Told) (r s : Trailed) (n l : ℕ) → s.vars ≡ r.vars → s.entries ≡ cut l r.entries → AllPairs (λ e f. e.level ≤ f.level) r.entries →
    ((d : Entry) → 0 < n → (get_or r.entries (n - 1) d).level ≤ l) → WasTold t r n → WasTold t s n
told_cut t r s n l v e rising low w = by (front l r.entries rising)
  where
    within : (m k : ℕ) → m ≤ length r.entries → ((d : Entry) → 0 < m → (get_or r.entries (m - 1) d).level ≤ l) → IsFront l k r.entries → m ≤ k
    within zero k h q f = omega arith
    within (suc m) k h q f =
        let d : Entry = record { lit = record { var = 0; truth = true }; level = 0; reason = None } in
        let one : suc m - 1 ≡ m = omega arith in
        let at : (get_or r.entries m d).level ≤ l = subst (λ (j : ℕ). (get_or r.entries j d).level ≤ l) one (q d (omega arith)) in
        let lt : m < k = f.low m d (omega arith) at in
        omega arith

    by : (k : ℕ) × IsFront l k r.entries → WasTold t s n
    by f =
        let le : n ≤ f.0 = within n f.0 w.begun low f.1 in
        let is : s.entries ≡ take f.0 r.entries = e ∙ f.1.is in
        record {
          vars = v ∙ w.vars;
          begun = omega (arith, le, ap (length {A = Entry}) is, length-take-le f.0 r.entries f.1.fits);
          values =
              w.values
              ∙ (ap (λ (m : ℕ). assignment m (take n r.entries)) (sym v)
              ∙ ap (assignment s.vars) (sym (ap (λ (xs : List Entry). take n xs) is ∙ take-take n f.0 r.entries le)));
        }

pub told_none : (t : Told) (r s : Trailed) → s.vars ≡ r.vars → WasTold t r 0 → WasTold t s 0
told_none t r s v w = record {
  vars = v ∙ w.vars;
  begun = omega arith;
  values = w.values ∙ ap (λ (m : ℕ). assignment m []) (sym v);
}
