-- How the text of a proof ends, from what its scribe put out.
use Rattle.std.proofs.Common.{◌≡◌, ◌⊎◌, ◌∙◌, ℕ, Bool, List, [], ◌++◌, refl, sym, ap, subst, inl, inr}
use Rattle.std.specs.Prelude.{Option, None, Some, Result, Ok, Err, IfOk, IfSome, OnErr, OnOk, length}
use Rattle.std.specs.Io.KnownBytes.{Appends}
use Rattle.asp_io.specs.declared.traits.Failed.{Failed}
use Rattle.asp_io.specs.Causes.{AppendsFront, Rose}
use Rattle.asp_buffer.specs.Out.{Out, Passes, Puts}
use Rattle.asp_buffer.proofs.OutLaws.{front-more, printed}
use Rattle.asp_model.specs.declared.program.Program.{Program}
use Rattle.asp_model.specs.declared.results.Ask.{Ask}
use Rattle.asp_model.specs.declared.results.Mode.{Mode}
use Rattle.asp_model.specs.declared.results.Mode.TheVariants.{Consequences, Enum, Opt}
use Rattle.asp_model.specs.Sets.{Atoms}
use Rattle.asp_model.specs.Texts.{recorded}
use Rattle.asp_cli.specs.declared.Options.{Options}
use Rattle.asp_crew_laws.specs.declared.report.Report.{Report}
use Rattle.asp_crew_laws.specs.Reports.{IsReport}
use Rattle.asp_equal.specs.declared.reduce.Aside.{Aside}
use Rattle.asp_prepare.specs.declared.prepared.Prepared.{Prepared}
use Rattle.asp_prepare.specs.Meaning.{has_model}
use Rattle.asp_prepare.specs.Naming.{ask_of, prepared_of, searched, set_aside}
use Rattle.asp_prepare.specs.Told.{told_with}
use Rattle.asp_prepare.proofs.ToldLaws.{same-ask, told-model}
use Rattle.asp_proof.specs.declared.proof.Sought.{Sought}
use Rattle.asp_proof.specs.Texts.{head_text, line_text, lines, text_of}
use Rattle.asp_scribe.specs.Proofs.{is_part, sought_of}
use Rattle.asp_scribe.specs.Scribes.{IsBegun, IsEnded}
use Rattle.asp_top.specs.declared.counts.Tally.{Tally}
use Rattle.asp_top.specs.declared.status.Outcome.{Outcome}
use Rattle.asp_top.specs.declared.status.Status.{Status}
use Rattle.asp_top.specs.declared.status.Status.TheVariants.{Memory, WriteFault}
use Rattle.asp_top.specs.Codes.{IsLost}
use Rattle.asp_top.specs.Loops.{HasLoops}
use Rattle.asp_counts.specs.Telling.{AreNumbered}
use Rattle.asp_model.specs.Models.{atoms_of}
use Rattle.asp_vars.specs.Numbering.{bodies_of}
use Rattle.asp_top.specs.Meaning.{status_for}
use Rattle.asp_top.specs.Runs.{EndsProof, EndsProofBy, IsCounted, IsProofStopped, Proves, TellsFaults, WritesProof}
use Rattle.asp_faults.proofs.WriteLaws.{front-all}

-- what was passed on of some bytes is a front of them
passes-front : (a b : Out) (bytes : List ℕ) → a.waiting ≡ [] → Passes a b bytes → AppendsFront a.held b.held bytes
passes-front a b bytes none p =
    subst (λ (t : List ℕ). AppendsFront a.held b.held t) (p.kept ∙ ap (λ (w : List ℕ). w ++ bytes) none)
    (front-more a.held b.held p.written b.waiting (front-all a.held b.held p.written p.appended))

-- ---- stopped before its end
pub stopped-memory : (s : Sought) (start now : Out) (state : Result (Unit {0}) Failed) (v : Unit {0}) (o : Outcome) → start.waiting ≡ [] → IsBegun s start now state → state ≡ Ok v
    → o ≡ record { status = Memory; report = None } → IsProofStopped s start.held now.held start.faults now.faults o
stopped-memory s start now state v o none b fine is =
    let text = head_text s ++ lines line_text b.entries in
    let p : Puts {T = Unit {0}} {E = Failed} start now (Ok v) text = subst (λ (r : Result (Unit {0}) Failed). Puts start now r text) fine b.puts in
    subst (IsProofStopped s start.held now.held start.faults now.faults) (sym is)
    (record { none = refl; entries = b.entries; text = passes-front start now text none p.all; why = inl (refl, p.quiet); later = p.later })

pub stopped-fault : (s : Sought) (start now : Out) (state : Result (Unit {0}) Failed) (e : Failed) (closed : Bool) (o : Outcome) → start.waiting ≡ [] → IsBegun s start now state → state ≡ Err e
    → o ≡ record { status = WriteFault closed; report = None } → IsProofStopped s start.held now.held start.faults now.faults o
stopped-fault s start now state e closed o none b failed is =
    let text = head_text s ++ lines line_text b.entries in
    let p : Puts {T = Unit {0}} {E = Failed} start now (Err e) text = subst (λ (r : Result (Unit {0}) Failed). Puts start now r text) failed b.puts in
    subst (IsProofStopped s start.held now.held start.faults now.faults) (sym is) (record {
      none = refl;
      entries = b.entries;
      text = subst (λ (w : List ℕ). AppendsFront start.held now.held (w ++ text)) none p.front;
      why = inr ((closed, refl), p.cause);
      later = p.later;
    })

-- ---- its end
pub end-written : (s : Sought) (start now : Out) (answers : List Atoms) (part : Bool) (result : Result (Unit {0}) Failed) (v : Unit {0}) (status final : Status) → start.waiting ≡ []
    → IsEnded s start now answers part result → result ≡ Ok v → final ≡ status → WritesProof s answers part status start.held now.held start.faults now.faults final
end-written s start now answers part result v status final none x fine is =
    let text = text_of (record { sought = s; lines = x.entries; answers = answers; part = part }) in
    let p = printed start now result text none x.empty x.puts in
    let all : Appends start.held now.held text = by p.all in
    let quiet : now.faults ≡ start.faults = by p.quiet in
    record { entries = x.entries; wrote = record { means = inl (is, all); later = p.later; quiet = λ lost. quiet } }
  where
    by : {P : Type 0} → OnOk result P → P
    by {P = P} h = subst (λ (x : Result (Unit {0}) Failed). OnOk x P) fine h

pub end-cut : (s : Sought) (start now : Out) (answers : List Atoms) (part : Bool) (result : Result (Unit {0}) Failed) (e : Failed) (closed : Bool) (status final : Status) → start.waiting ≡ []
    → IsEnded s start now answers part result → result ≡ Err e → final ≡ WriteFault closed → WritesProof s answers part status start.held now.held start.faults now.faults final
end-cut s start now answers part result e closed status final none x failed is =
    let text = text_of (record { sought = s; lines = x.entries; answers = answers; part = part }) in
    let p = printed start now result text none x.empty x.puts in
    let front : AppendsFront start.held now.held text = by p.front in
    let cause : Rose start.faults now.faults = by p.cause in
    record { entries = x.entries; wrote = record { means = inr ((closed, is), front, cause); later = p.later; quiet = λ kept. absurd (kept (closed, is)) } }
  where
    by : {P : Type 0} → OnErr result P → P
    by {P = P} h = subst (λ (x : Result (Unit {0}) Failed). OnErr x P) failed h

-- what is told lists the same answers
told-listed : (A : Aside) (mode : Mode) (r : Report) → recorded mode (told_with A r).results ≡ recorded mode r.results
told-listed A Enum r = refl
told-listed A Opt r = refl
told-listed A (Consequences w) r = refl

-- the report was told, and the answers are its own
pub proof-ends : (ask : Ask) (A : Aside) (r told : Report) (h h' : Option (List ℕ)) (w w' : ℕ) (o : Outcome) → told ≡ told_with A r → o.report ≡ Some told
    → WritesProof (sought_of ask) (recorded told.results.mode told.results) (is_part told.results.end) (status_for told.results.end (has_model told.results)) h h' w w' o.status
    → EndsProof ask A r h h' w w' o
proof-ends ask A r told h h' w w' o same reports x =
    let y : WritesProof (sought_of ask) (recorded r.results.mode r.results) (is_part r.results.end) (status_for r.results.end (has_model r.results)) h h' w w' o.status =
    subst (λ (b : Bool). WritesProof (sought_of ask) (recorded r.results.mode r.results) (is_part r.results.end) (status_for r.results.end b) h h' w w' o.status) (told-model A r)
    (subst (λ (l : List Atoms). WritesProof (sought_of ask) l (is_part r.results.end) (status_for r.results.end (has_model (told_with A r).results)) h h' w w' o.status)
    (told-listed A r.results.mode r)
    (subst
    (λ (t : Report). WritesProof (sought_of ask) (recorded t.results.mode t.results) (is_part t.results.end) (status_for t.results.end (has_model t.results)) h h' w w' o.status)
    same x)) in
    inr (record { reports = reports ∙ ap Some same; entries = y.entries; wrote = y.wrote })

-- ---- a whole run
pub proof-told : (ask : Ask) (A : Aside) (r : Report) (h h' : Option (List ℕ)) (w w' : ℕ) (o : Outcome) → EndsProof ask A r h h' w w' o → TellsFaults w w' o.status
proof-told ask A r h h' w w' o (inl cut) = by cut.why
  where
    by : ((o.status ≡ Memory) × (w' ≡ w)) ⊎ (IsLost o.status × Rose w w') → TellsFaults w w' o.status
    by (inl m) = λ kept. m.1
    by (inr m) = λ kept. absurd (kept m.0)
proof-told ask A r h h' w w' o (inr d) = d.wrote.quiet

pub stop-told : (s : Sought) (h h' : Option (List ℕ)) (w w' : ℕ) (o : Outcome) → IsProofStopped s h h' w w' o → TellsFaults w w' o.status
stop-told s h h' w w' o cut = by cut.why
  where
    by : ((o.status ≡ Memory) × (w' ≡ w)) ⊎ (IsLost o.status × Rose w w') → TellsFaults w w' o.status
    by (inl m) = λ kept. m.1
    by (inr m) = λ kept. absurd (kept m.0)

pub proof-counted : (workers : ℕ) (ask : Ask) (A : Aside) (r : Report) (t : Tally) (h h' : Option (List ℕ)) (w w' : ℕ) (o : Outcome) → EndsProof ask A r h h' w w' o → IsCounted workers t r
    → IfSome o.report (IsCounted workers t)
proof-counted workers ask A r t h h' w w' o (inl cut) counted = subst (λ x. IfSome x (IsCounted workers t)) (sym cut.none) tt
proof-counted workers ask A r t h h' w w' o (inr d) counted =
    subst (λ x. IfSome x (IsCounted workers t)) (sym d.reports) (record { atoms = counted.atoms; bodies = counted.bodies; loops = counted.loops; numbered = counted.numbered })

pub stop-counted : (workers : ℕ) (s : Sought) (t : Tally) (h h' : Option (List ℕ)) (w w' : ℕ) (o : Outcome) → IsProofStopped s h h' w w' o → IfSome o.report (IsCounted workers t)
stop-counted workers s t h h' w w' o cut = subst (λ x. IfSome x (IsCounted workers t)) (sym cut.none) tt

-- what was searched, and with what it is told
pub proves-by : (given : Options) (p : Program) (x : Prepared) (q : Program) (ask : Ask) (r : Report) (h h' : Option (List ℕ)) (w w' : ℕ) (o : Outcome) → x ≡ prepared_of given p → q ≡ x.compiled
    → ask ≡ ask_of given q → IsReport x.compiled ask given.budget r → EndsProof ask x.aside r h h' w w' o → Proves given p h h' w w' o
proves-by given p x q ask r h h' w w' o is of asks report ends =
    let ask' : ask ≡ ask_of given (searched given p) = asks ∙ ap (ask_of given) (of ∙ ap (λ (y : Prepared). y.compiled) is) in
    let same : ask ≡ ask_of given p = ask' ∙ same-ask given p in
    let report' : IsReport (searched given p) (ask_of given p) given.budget r =
    subst (λ (a : Ask). IsReport (searched given p) a given.budget r) same (subst (λ (y : Prepared). IsReport y.compiled ask given.budget r) is report) in
    go report' (subst (λ (a : Ask). EndsProof a (set_aside given p) r h h' w w' o) same (subst (λ (y : Prepared). EndsProof ask y.aside r h h' w w' o) is ends))
  where
    go : IsReport (searched given p) (ask_of given p) given.budget r → EndsProof (ask_of given p) (set_aside given p) r h h' w w' o → Proves given p h h' w w' o
    go report (inl cut) = inl cut
    go report (inr d) = inr (r, report, d)

pub proves-stopped : (given : Options) (p : Program) (x : Prepared) (q : Program) (ask : Ask) (h h' : Option (List ℕ)) (w w' : ℕ) (o : Outcome) → x ≡ prepared_of given p → q ≡ x.compiled
    → ask ≡ ask_of given q → IsProofStopped (sought_of ask) h h' w w' o → Proves given p h h' w w' o
proves-stopped given p x q ask h h' w w' o is of asks cut =
    let same : ask ≡ ask_of given p = asks ∙ ap (ask_of given) (of ∙ ap (λ (y : Prepared). y.compiled) is) ∙ same-ask given p in
    inl (subst (λ (a : Ask). IsProofStopped (sought_of a) h h' w w' o) same cut)

pub proves-run : {E : Type 0} (given : Options) (p : Program) (x : Prepared) (q : Program) (ask : Ask) (solved : Result Report E) (h h' : Option (List ℕ)) (w w' : ℕ) (o : Outcome) →
    x ≡ prepared_of given p → q ≡ x.compiled → ask ≡ ask_of given q → IfOk solved (IsReport x.compiled ask given.budget) → EndsProofBy solved ask x.aside h h' w w' o → Proves given p h h' w w' o
proves-run given p x q ask (Ok r) h h' w w' o is of asks report ends = proves-by given p x q ask r h h' w w' o is of asks report ends
proves-run given p x q ask (Err e) h h' w w' o is of asks report ends = proves-stopped given p x q ask h h' w w' o is of asks ends

pub told-run : {E : Type 0} (ask : Ask) (A : Aside) (solved : Result Report E) (h h' : Option (List ℕ)) (w w' : ℕ) (o : Outcome) → EndsProofBy solved ask A h h' w w' o → TellsFaults w w' o.status
told-run ask A (Ok r) h h' w w' o ends = proof-told ask A r h h' w w' o ends
told-run ask A (Err e) h h' w w' o ends = stop-told (sought_of ask) h h' w w' o ends

pub counted-run : {E : Type 0} (workers : ℕ) (ask : Ask) (A : Aside) (p : Program) (units : ℕ) (solved : Result Report E) (t : Tally) (h h' : Option (List ℕ)) (w w' : ℕ) (o : Outcome) →
    IfOk solved (IsReport p ask units) → EndsProofBy solved ask A h h' w w' o → t.atoms ≡ length (atoms_of p) → t.bodies ≡ length (bodies_of p) → IfSome t.loops (HasLoops p)
    → OnOk solved (AreNumbered workers t.workers) → IfSome o.report (IsCounted workers t)
counted-run workers ask A p units (Ok r) t h h' w w' o report ends atoms bodies loops numbered =
    proof-counted workers ask A r t h h' w w' o ends (record {
      atoms = atoms ∙ ap (λ (q : Program). length (atoms_of q)) (sym report.program);
      bodies = bodies ∙ ap (λ (q : Program). length (bodies_of q)) (sym report.program);
      loops = subst (λ (q : Program). IfSome t.loops (HasLoops q)) (sym report.program) loops;
      numbered = numbered;
    })
counted-run workers ask A p units (Err e) t h h' w w' o report ends atoms bodies loops numbered = stop-counted workers (sought_of ask) t h h' w w' o ends

-- at a sink that is the same
pub moved-to : {S : Type 0} (P : S → Type 0) (x y : S) → x ≡ y → P y → P x
moved-to P x y e h = subst P (sym e) h

pub always-ok : {A E : Type 0} (r : Result A E) (P : Type 0) → P → OnOk r P
always-ok (Ok x) P h = h
always-ok (Err e) P h = tt
