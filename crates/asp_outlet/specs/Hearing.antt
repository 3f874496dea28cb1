-- Answers that are heard one after another.
use Rattle.std.specs.Prelude.{◌≡◌, ℕ, ◌+◌, Bool, true, false, List, [], ◌++◌, length, Option}
use Rattle.std.proofs.Common.{refl, sym, ap, ◌∙◌, subst, append_assoc, append-nil, length-append}
use Rattle.std.proofs.Math.Nat.{add_right_comm, le_refl, le_trans}
use Rattle.std.proofs.lemmas.Bool.{false≢true}
use Rattle.std.specs.Io.KnownBytes.{Appends}
use Rattle.std.proofs.KnownBytes.{Appends-nil, Appends-trans}
use Rattle.asp_io.specs.Causes.{Rose, AppendsFront}
use Rattle.asp_buffer.proofs.OutLaws.{front-more, front-after}
use Rattle.asp_model.specs.declared.program.Program.{Program}
use Rattle.asp_model.specs.Sets.{Atoms}
use Rattle.asp_model.specs.Texts.{answers_from}
use Rattle.asp_watermark.proofs.PartLaws.{text-append}
use Rattle.asp_outlet.specs.Outlets.{Hears, Moment, next_text}

-- nothing is heard
pub hears_nothing : (p : Program) (a : Moment) → Hears p a a []
hears_nothing p a = record {
  heard = sym (append-nil a.heard);
  written = λ e. (e, Appends-nil a.held, refl);
  cut = λ e f. absurd (false≢true (sym e ∙ f));
  silent = λ e. (e, refl, refl);
  later = le_refl a.faults;
}

-- the lines of more answers come after those of the first
pub next_parts : (p : Program) (heard more x y : List Atoms) → more ≡ heard ++ x → next_text p heard (x ++ y) ≡ next_text p heard x ++ next_text p more y
next_parts p heard more x y e =
    let count : length heard + 1 + length x ≡ length more + 1 = add_right_comm (length heard) 1 (length x) ∙ ap (λ (n : ℕ). n + 1) (sym (ap length e ∙ length-append heard x)) in
    text-append p (length heard + 1) x y ∙ ap (λ (n : ℕ). answers_from p (length heard + 1) x ++ answers_from p n y) count

module _ (p : Program) (a b c : Moment) (x y : List Atoms) (h : Hears p a b x) (k : Hears p b c y) where
  abbrev X : List ℕ
  X = next_text p a.heard x

  abbrev Y : List ℕ
  Y = next_text p b.heard y

  together : next_text p a.heard (x ++ y) ≡ X ++ Y
  together = next_parts p a.heard b.heard x y h.heard

  written-then : c.failed ≡ false → (a.failed ≡ false) × Appends a.held c.held (next_text p a.heard (x ++ y)) × (c.faults ≡ a.faults)
  written-then e =
      let second = k.written e in
      let first = h.written second.0 in
      (first.0, subst (λ (t : List ℕ). Appends a.held c.held t) (sym together) (Appends-trans a.held b.held c.held X Y first.1 second.1), second.2 ∙ first.2)

  cut-first : a.failed ≡ false → b.failed ≡ true → AppendsFront a.held c.held (next_text p a.heard (x ++ y)) × Rose a.faults c.faults
  cut-first e f =
      let first = h.cut e f in
      let second = k.silent f in
      let front : AppendsFront a.held c.held X = subst (λ (held : Option (List ℕ)). AppendsFront a.held held X) (sym second.1) first.0 in
      (subst (λ (t : List ℕ). AppendsFront a.held c.held t) (sym together) (front-more a.held c.held X Y front), subst (λ (n : ℕ). Rose a.faults n) (sym second.2) first.1)

  cut-second : b.failed ≡ false → c.failed ≡ true → AppendsFront a.held c.held (next_text p a.heard (x ++ y)) × Rose a.faults c.faults
  cut-second e f =
      let first = h.written e in
      let second = k.cut e f in
      (subst (λ (t : List ℕ). AppendsFront a.held c.held t) (sym together) (front-after a.held b.held c.held X Y first.1 second.0), subst (λ (n : ℕ). Rose n c.faults) first.2 second.1)

  cut-then : (failed : Bool) → b.failed ≡ failed → a.failed ≡ false → c.failed ≡ true → AppendsFront a.held c.held (next_text p a.heard (x ++ y)) × Rose a.faults c.faults
  cut-then true is e f = cut-first e is
  cut-then false is e f = cut-second is f

  silent-then : a.failed ≡ true → (c.failed ≡ true) × (c.held ≡ a.held) × (c.faults ≡ a.faults)
  silent-then e =
      let first = h.silent e in
      let second = k.silent first.0 in
      (second.0, second.1 ∙ first.1, second.2 ∙ first.2)

  -- what is heard one after another is heard together
  pub hears_then : Hears p a c (x ++ y)
  hears_then = record {
    heard = k.heard ∙ ap (λ (t : List Atoms). t ++ y) h.heard ∙ append_assoc a.heard x y;
    written = written-then;
    cut = cut-then b.failed refl;
    silent = silent-then;
    later = le_trans h.later k.later;
  }
