-- What is heard and written one after another.
use Rattle.std.proofs.Common.{◌≡◌, ℕ, ◌+◌, ◌≤◌, Bool, true, false, List, [], ◌++◌, length, refl, sym, ap, ◌∙◌, subst, arith, append_assoc, append-nil, length-append}
use Rattle.std.specs.Prelude.{Option, Result, Ok, Err, OnOk, OnErr, ℤ}
use Rattle.std.specs.Io.KnownBytes.{Appends, Keeps}
use Rattle.std.proofs.KnownBytes.{Appends-nil, Appends-kept}
use Rattle.std.proofs.Math.Seq.{take-length}
use mathlib.Core.List.{IsPrefix}
use Rattle.asp_io.specs.Causes.{Rose, AppendsFront, HasCause}
use Rattle.asp_buffer.specs.Out.{Puts, out}
use Rattle.asp_buffer.proofs.OutLaws.{front-more, puts_then, puts_same, printed, Printed}
use Rattle.asp_model.specs.declared.program.Program.{Program}
use Rattle.asp_model.specs.declared.results.End.{End}
use Rattle.asp_model.specs.Sets.{Atoms}
use Rattle.asp_model.specs.Texts.{answers_from}
use Rattle.asp_print.specs.Parts.{closing}
use Rattle.asp_watermark.proofs.PartLaws.{text-front}
use Rattle.asp_outlet.specs.Hearing.{next_parts}
use Rattle.asp_outlet.specs.Outlets.{Ends, Hears, IsAfter, Moment, last_text, next_text, optima_closing, optima_text, whole_text}

-- ---- what goes to a sink where nothing waits
pub puts_of : {T E : Type 0} (held held' : Option (List ℕ)) (faults faults' : ℕ) (r : Result T E) (text : List ℕ) → OnOk r (Appends held held' text) →
    OnErr r (AppendsFront held held' text) → faults ≤ faults' → OnErr r (Rose faults faults') → OnOk r (faults' ≡ faults) → Puts (out held faults []) (out held' faults' []) r text
puts_of held held' faults faults' (Ok v) text all front later cause quiet =
    record { all = record { written = text; appended = all; kept = append-nil text }; front = tt; later = later; cause = tt; quiet = quiet }
puts_of held held' faults faults' (Err e) text all front later cause quiet = record { all = tt; front = front; later = later; cause = cause; quiet = tt }

puts-sent : {T E : Type 0} (held held' : Option (List ℕ)) (faults faults' : ℕ) (r : Result T E) → Keeps held held' → HasCause faults faults' r → OnOk r (faults' ≡ faults) →
    Puts (out held faults []) (out held' faults' []) r []
puts-sent held held' faults faults' (Ok v) keeps has quiet =
    puts_of held held' faults faults' (Ok v) [] (Appends-kept held held held' [] (Appends-nil held) keeps) tt has.later tt quiet
puts-sent held held' faults faults' (Err e) keeps has quiet =
    puts_of held held' faults faults' (Err e) [] tt (record { count = 0; front = Appends-kept held held held' [] (Appends-nil held) keeps }) has.later has.failed tt

-- a text went there, and is sent on
pub puts_and_sent : {T E U F : Type 0} (h₀ h₁ h₂ : Option (List ℕ)) (f₀ f₁ f₂ : ℕ) (v : T) (r : Result U F) (text : List ℕ) → Puts {T = T} {E = E} (out h₀ f₀ []) (out h₁ f₁ []) (Ok v) text →
    Keeps h₁ h₂ → HasCause f₁ f₂ r → OnOk r (f₂ ≡ f₁) → Puts (out h₀ f₀ []) (out h₂ f₂ []) r text
puts_and_sent h₀ h₁ h₂ f₀ f₁ f₂ v r text p keeps has quiet =
    puts_same _ _ r (text ++ []) text (puts_then _ _ _ v r text [] p (puts-sent h₁ h₂ f₁ f₂ r keeps has quiet)) (append-nil text)

printed-of : {T E : Type 0} (held held' : Option (List ℕ)) (faults faults' : ℕ) (r : Result T E) (text : List ℕ) → Puts (out held faults []) (out held' faults' []) r text →
    Printed (out held faults []) (out held' faults' []) r text
printed-of held held' faults faults' (Ok v) text p = printed _ _ (Ok v) text refl refl p
printed-of held held' faults faults' (Err e) text p = printed _ _ (Err e) text refl tt p

-- ---- the whole text
-- the lines of the rest after those of what was heard, and then what stands after so many
joins : (p : Program) (tail : ℕ → List ℕ) (heard rest : List Atoms) → next_text p [] heard ++ (next_text p heard rest ++ tail (length heard
    + length rest)) ≡ answers_from p 1 (heard ++ rest) ++ tail (length (heard ++ rest))
joins p tail heard rest =
    let both : next_text p [] heard ++ next_text p heard rest ≡ answers_from p 1 (heard ++ rest) = sym (next_parts p [] heard heard rest refl) in
    sym (append_assoc (next_text p [] heard) (next_text p heard rest) (tail (length heard + length rest)))
    ∙ ap (λ (t : List ℕ). t ++ tail (length heard + length rest)) both
    ∙ ap (λ n. answers_from p 1 (heard ++ rest) ++ tail n) (sym (length-append heard rest))

pub whole_joins : (p : Program) (end : End) (heard rest : List Atoms) → next_text p [] heard ++ last_text p heard end rest ≡ whole_text p end (heard ++ rest)
whole_joins p end heard rest =
    joins p (closing end) heard rest ∙ ap (λ (t : List ℕ). t ++ closing end (length (heard ++ rest))) (sym (append-nil (answers_from p 1 (heard ++ rest))))

pub optima_join : (p : Program) (end : End) (cost : List ℤ) (heard rest : List Atoms) →
    next_text p [] heard ++ (next_text p heard rest ++ optima_closing end cost (length heard + length rest)) ≡ optima_text p end cost (heard ++ rest)
optima_join p end cost heard rest = joins p (optima_closing end cost) heard rest

-- what was heard since nothing was
all-heard : (p : Program) (a m : Moment) (sets : List Atoms) → a.heard ≡ [] → Hears p a m sets → next_text p a.heard sets ≡ next_text p [] m.heard
all-heard p a m sets none h =
    let is : m.heard ≡ sets = h.heard ∙ ap (λ (t : List Atoms). t ++ sets) none in
    ap (λ (t : List Atoms). next_text p t sets) none ∙ ap (λ (t : List Atoms). next_text p [] t) (sym is)

ends-of : {T E : Type 0} (a : Moment) (held : Option (List ℕ)) (faults : ℕ) (r : Result T E) (text : List ℕ) → Puts (out a.held a.faults []) (out held faults []) r text → Ends a held faults r text
ends-of a held faults (Ok v) text puts = let q = printed-of a.held held a.faults faults (Ok v) text puts in record { all = (q.all, q.quiet); front = tt; later = q.later }
ends-of a held faults (Err e) text puts = let q = printed-of a.held held a.faults faults (Err e) text puts in record { all = tt; front = (q.front, q.cause); later = q.later }

-- where what stands after the lines of those heard makes this text of them
pub ends_after : {T E : Type 0} (p : Program) (last whole : List ℕ) (a m : Moment) (held : Option (List ℕ)) (faults : ℕ) (r : Result T E) → next_text p [] m.heard ++ last ≡ whole →
    a.heard ≡ [] → IsAfter p a m → m.failed ≡ false → Puts (out m.held m.faults []) (out held faults []) r last → Ends a held faults r whole
ends_after p last whole a m held faults r joined none h fine puts =
    let first = h.1.written fine in
    let went : Puts {T = Unit {0}} {E = Unit {0}} (out a.held a.faults []) (out m.held m.faults []) (Ok tt) (next_text p [] m.heard) =
    puts_of a.held m.held a.faults m.faults (Ok tt) _ (subst (λ (t : List ℕ). Appends a.held m.held t) (all-heard p a m h.0 none h.1) first.1) tt (omega (arith, first.2)) tt first.2 in
    ends-of a held faults r _
    (puts_same _ _ r _ _ (puts_then _ _ _ tt r (next_text p [] m.heard) last went puts) joined)

pub ends_silent : {T E : Type 0} (p : Program) (last whole : List ℕ) (a m : Moment) (e : E) → next_text p [] m.heard ++ last ≡ whole → a.heard ≡ [] → a.failed ≡ false → IsAfter p a m →
    m.failed ≡ true → Ends {T = T} a m.held m.faults (Err e) whole
ends_silent p last whole a m e joined none fine h failed =
    let first = h.1.cut fine failed in
    let front : AppendsFront a.held m.held (next_text p [] m.heard) = subst (λ (t : List ℕ). AppendsFront a.held m.held t) (all-heard p a m h.0 none h.1) first.0 in
    let longer : AppendsFront a.held m.held (next_text p [] m.heard ++ last) = front-more a.held m.held _ last front in
    record { all = tt; front = (subst (λ (t : List ℕ). AppendsFront a.held m.held t) joined longer, first.1); later = h.1.later }

-- ---- a front of the lines of a list
written-front : (a b : Option (List ℕ)) (text : List ℕ) → Appends a b text → AppendsFront a b text
written-front a b text h = record { count = length text; front = subst (λ (t : List ℕ). Appends a b t) (sym (take-length text)) h }

front-of : (p : Program) (a b : Moment) → a.heard ≡ [] → a.failed ≡ false → (h : IsAfter p a b) → (failed : Bool) → b.failed ≡ failed → AppendsFront a.held b.held (next_text p a.heard h.0)
front-of p a b none fine h true is = (h.1.cut fine is).0
front-of p a b none fine h false is = written-front a.held b.held _ (h.1.written is).1

pub front_is_written : (p : Program) (all : List Atoms) (a b : Moment) → a.heard ≡ [] → a.failed ≡ false → IsAfter p a b → IsPrefix b.heard all → AppendsFront a.held b.held (answers_from p 1 all)
front_is_written p all a b none fine h front =
    let more : AppendsFront a.held b.held (next_text p [] b.heard) = subst (λ (t : List ℕ). AppendsFront a.held b.held t) (all-heard p a b h.0 none h.1) (front-of p a b none fine h b.failed refl) in
    let text = text-front p b.heard all front in
    subst (λ (t : List ℕ). AppendsFront a.held b.held t) text.1 (front-more a.held b.held _ text.0 more)
