-- What a scribe put out since it began.
use Rattle.std.proofs.Common.{◌≡◌, ◌∙◌, ℕ, Bool, List, [], ◌++◌, append_assoc, append-nil, length, sym, ap, subst, arith}
use Rattle.std.specs.Prelude.{OnOk, Result, Ok, Err}
use Rattle.std.proofs.Math.Seq.{take-length}
use Rattle.std.proofs.lemmas.List.Concat.{flat_map-append}
use Rattle.asp_buffer.specs.Out.{Out, Puts}
use Rattle.asp_buffer.proofs.OutLaws.{puts_fails, puts_same, puts_then}
use Rattle.asp_io.specs.Causes.{HasCause}
use Rattle.std.specs.Io.KnownBytes.{Appends, Keeps}
use Rattle.std.proofs.KnownBytes.{Appends-kept}
use Rattle.asp_model.specs.Sets.{Atoms}
use Rattle.asp_proof.specs.declared.proof.Line.{Line}
use Rattle.asp_proof.specs.declared.proof.Sought.{Sought}
use Rattle.asp_proof.specs.Changes.{changes_of}
use Rattle.asp_proof.specs.Texts.{answer_text, head_text, last_word, line, line_text, lines, list_text}
use Rattle.asp_scribe.specs.Scribes.{Goes, IsBegun, IsEnded}

-- these bytes after others
pub then-goes : {T E : Type 0} (start old new : Out) (state result : Result T E) (x y : List ℕ) → Puts start old state x → Goes state old new result y → Puts start new result (x ++ y)
then-goes start old new (Ok v) result x y p q = puts_then start old new v result x y p q
then-goes {T = T} {E = E} start old new (Err e) result x y p q =
    subst (λ (r : Result T E). Puts start new r (x ++ y)) (sym q.1)
    (subst (λ (o : Out). Puts {T = T} {E = E} start o (Err e) (x ++ y)) (sym q.0) (puts_fails {U = T} {F = E} (λ f. Unit {0}) start old e (Err e) x y p tt))

lines-more : (a b : List Line) → lines line_text a ++ lines line_text b ≡ lines line_text (a ++ b)
lines-more a b = sym (flat_map-append (λ (l : Line). line (line_text l)) a b)

-- the head alone
pub begins : {T E : Type 0} (s : Sought) (start now : Out) (state : Result T E) → Puts start now state (head_text s) → IsBegun s start now state
begins s start now state p = record { entries = []; puts = puts_same start now state (head_text s) (head_text s ++ []) p (sym (append-nil (head_text s))) }

-- and lines behind those before
pub goes-on : {T E : Type 0} (s : Sought) (start old new : Out) (state result : Result T E) (more : List Line) → Goes state old new result (lines line_text more)
    → IsBegun s start old state → IsBegun s start new result
goes-on s start old new state result more q b = record {
  entries = b.entries ++ more;
  puts = puts_same start new result _ _ (then-goes start old new state result _ _ b.puts q)
      (append_assoc (head_text s) (lines line_text b.entries) (lines line_text more) ∙ ap (λ (t : List ℕ). head_text s ++ t) (lines-more b.entries more));
}

-- the answers and the last line behind them
pub ends : {T E : Type 0} (s : Sought) (start old new : Out) (state result : Result T E) (answers : List Atoms) (part : Bool) → Goes state old new result (list_text answers part)
    → OnOk result (new.waiting ≡ []) → IsBegun s start old state → IsEnded s start new answers part result
ends s start old new state result answers part q empty b = record {
  entries = b.entries;
  puts = puts_same start new result _ _ (then-goes start old new state result _ _ b.puts q)
      (sym (append_assoc (head_text s ++ lines line_text b.entries) (lines answer_text (changes_of answers)) (line (last_word part))));
  empty = empty;
}

-- what was put out where nothing waits any more, and a flush of the sink
pub puts-flushed : {T E U F : Type 0} (a b c : Out) (v : T) (r : Result U F) (x : List ℕ) → Puts {T = T} {E = E} a b (Ok v) x → b.waiting ≡ [] → c.waiting ≡ b.waiting
    → Keeps b.held c.held → HasCause b.faults c.faults r → OnOk r (c.faults ≡ b.faults) → Puts a c r x
puts-flushed {U = U} {F = F} a b c v r x p empty same kept cause quiet = go r cause quiet
  where
    whole : p.all.written ≡ a.waiting ++ x
    whole = sym (append-nil p.all.written) ∙ ap (λ (t : List ℕ). p.all.written ++ t) (sym empty) ∙ p.all.kept

    go : (r : Result U F) → HasCause b.faults c.faults r → OnOk r (c.faults ≡ b.faults) → Puts a c r x
    go (Ok w) q quiet = record {
      all = record {
        written = p.all.written;
        appended = Appends-kept a.held b.held c.held p.all.written p.all.appended kept;
        kept = ap (λ (t : List ℕ). p.all.written ++ t) same ∙ p.all.kept;
      };
      front = tt;
      later = omega (arith, p.later, q.later);
      cause = tt;
      quiet = quiet ∙ p.quiet;
    }
    go (Err e) q quiet = record {
      all = tt;
      front = record {
        count = length (a.waiting ++ x);
        front = subst (λ (t : List ℕ). Appends a.held c.held t) (whole ∙ sym (take-length (a.waiting ++ x))) (Appends-kept a.held b.held c.held p.all.written p.all.appended kept);
      };
      later = omega (arith, p.later, q.later);
      cause = omega (arith, p.later, q.failed);
      quiet = tt;
    }
