-- A violated nogood that is settled settles the cube and the decisions.
use Rattle.std.proofs.Common.{◌≡◌, ℕ, ◌≤◌, Bool, true, false, List, ◌++◌, get_or, take, Option, None, refl, sym, ◌∙◌, subst, arith}
use Rattle.std.specs.Prelude.{ℤ}
use Rattle.std.specs.List.{All}
use Rattle.std.proofs.lemmas.List.{append-nil}
use Rattle.asp_model.specs.declared.program.Program.{Program}
use Rattle.asp_model.specs.Sets.{Atoms}
use Rattle.asp_model.specs.Models.{is_stable}
use Rattle.asp_vars.specs.Literals.{Literal, has_literal, holds_in, is_true, hits}
use Rattle.asp_vars.specs.Numbering.{values}
use Rattle.asp_vars.specs.Entailment.{Settled, is_done}
use Rattle.asp_vars.specs.Resolution.{IsWithin}
use Rattle.asp_trail.specs.declared.trail.Entry.{Entry}
use Rattle.asp_trail.specs.Entries.{assignment, level_in, reason_in}
use Rattle.asp_trail.specs.Fixpoint.{is_violated}
use Rattle.asp_trail.specs.Trails.{IsOrdered}
use Rattle.asp_trail.proofs.HoldLaws.{holds_found}
use Rattle.asp_trail.proofs.FixpointLaws.{list_all_at}
use Rattle.asp_trail_laws.specs.Settling.{AreSettled}
use Rattle.asp_trail_laws.specs.Starts.{AreStarts}
use Rattle.asp_trail_laws.proofs.LitLaws.{all_has, all_pass}
use Rattle.asp_trail_laws.proofs.PlaceLaws.{blank, level_at, reason_at}
use Rattle.asp_trail_laws.proofs.HitLaws.{trail_hit}

pub way_settled : (p : Program) (K : List Atoms) (bound : Option (List ℤ)) (vars : ℕ) (cube decisions : List Literal) (es : List Entry) (k : ℕ) (n : List Literal) →
    IsOrdered vars es → AreSettled p K bound es → AreStarts cube decisions es →
    Settled p K bound n → is_violated (assignment vars es) n ≡ true → All (λ l. level_in es l.var ≤ k) n → Settled p K bound (cube ++ take k decisions)
way_settled p K bound vars cube decisions es k n o r s settled violated low = record {
  excused = λ S stable h. cases S stable h (is_done p K bound S) refl;
}
  where
    one : (S : Atoms) → is_stable p S ≡ true → is_done p K bound S ≡ false → hits (values p S) (cube ++ take k decisions) ≡ true → (l : Literal) →
        has_literal n l ≡ true → is_true (values p S) l ≡ true
    one S stable open_ h l has =
        let f = holds_found vars es l o (list_all_at (holds_in (assignment vars es)) n l violated has) in
        let level : level_in es l.var ≡ (get_or es f.0 blank).level = level_at vars es f.0 blank l o f.1 (f.2 blank) in
        let small : level_in es l.var ≤ k = all_has (λ m. level_in es m.var ≤ k) n l low has in
        subst (λ (m : Literal). is_true (values p S) m ≡ true) (f.2 blank)
        (trail_hit p K bound vars cube decisions es k S o r s stable open_ h f.0 blank f.1 (omega (arith, level, small)))

    cases : (S : Atoms) → is_stable p S ≡ true → hits (values p S) (cube ++ take k decisions) ≡ true → (b : Bool) → b ≡ is_done p K bound S → is_done p K bound S ≡ true
    cases S stable h true q = sym q
    cases S stable h false q = settled.excused S stable (all_pass (is_true (values p S)) n (one S stable (sym q) h))

pub cube_settled : (p : Program) (K : List Atoms) (bound : Option (List ℤ)) (vars : ℕ) (cube decisions : List Literal) (es : List Entry) (n : List Literal) →
    IsOrdered vars es → AreSettled p K bound es → AreStarts cube decisions es →
    Settled p K bound n → is_violated (assignment vars es) n ≡ true → All (λ l. level_in es l.var ≡ 0) n → Settled p K bound cube
cube_settled p K bound vars cube decisions es n o r s settled violated low =
    subst (Settled p K bound) (append-nil cube)
    (way_settled p K bound vars cube decisions es 0 n o r s settled violated (λ i d h. omega (arith, low i d h)))

pub within_cube : (vars : ℕ) (cube decisions : List Literal) (es : List Entry) (n : List Literal) → IsOrdered vars es → AreStarts cube decisions es →
    All (λ l. holds_in (assignment vars es) l ≡ true) n → All (λ l. level_in es l.var ≡ 0) n → All (λ l. level_in es l.var ≡ 0 → reason_in es l.var ≡ None) n → IsWithin n cube
within_cube vars cube decisions es n o s holds low assumed l has =
    let f = holds_found vars es l o (all_has (λ m. holds_in (assignment vars es) m ≡ true) n l holds has) in
    let zero_ : level_in es l.var ≡ 0 = all_has (λ m. level_in es m.var ≡ 0) n l low has in
    let none : reason_in es l.var ≡ None = all_has (λ m. level_in es m.var ≡ 0 → reason_in es m.var ≡ None) n l assumed has zero_ in
    subst (λ (m : Literal). has_literal cube m ≡ true) (f.2 blank)
    ((s.starts f.0 blank f.1 (sym (reason_at vars es f.0 blank l o f.1 (f.2 blank)) ∙ none)).assumed (sym (level_at vars es f.0 blank l o f.1 (f.2 blank)) ∙ zero_))
