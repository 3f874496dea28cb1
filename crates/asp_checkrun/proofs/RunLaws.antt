-- What a run does, and which exit status tells of which fault.
use Rattle.std.proofs.Common.{◌≡◌, ℕ, Bool, List, Option, None, Some, refl, ap, subst, arith}
use Rattle.std.specs.Io.KnownBytes.{Keeps}
use Rattle.asp_io.specs.Causes.{Rose}
use Rattle.asp_faults.specs.Writing.{IsNoted}
use Rattle.asp_checker.specs.declared.run.Format.{Format}
use Rattle.asp_checker.specs.Codes.{code_of}
use Rattle.asp_checker.specs.declared.run.CheckStatus.{CheckStatus}
use Rattle.asp_checker.specs.declared.run.CheckStatus.TheVariants as done
use Rattle.asp_checkrun.specs.declared.status.Status.{Status}
use Rattle.asp_checkrun.specs.declared.status.Status.TheVariants as status
use Rattle.asp_checkrun.specs.Given.{Given, check, help, misuse, version}
use Rattle.asp_checkrun.specs.Notes.{note_for}
use Rattle.asp_checkrun.specs.Runs.{Answers, Around, Checks, Does, Replies, around}
use Rattle.asp_checkrun.specs.Statuses.{status_code}

pub is_read : (s : CheckStatus) → code_of s ≡ 66 → s ≡ done.ReadFault
is_read done.Yes e = absurd (omega (arith, e))
is_read (done.Part n) e = absurd (omega (arith, e))
is_read (done.No w n) e = absurd (omega (arith, e))
is_read done.Memory e = absurd (omega (arith, e))
is_read (done.Program f) e = absurd (omega (arith, e))
is_read done.ReadFault e = refl
is_read done.TooLong e = absurd (omega (arith, e))
is_read done.NoProof e = absurd (omega (arith, e))
is_read (done.Proof f) e = absurd (omega (arith, e))
is_read done.WriteFault e = absurd (omega (arith, e))

pub is_write : (s : CheckStatus) → code_of s ≡ 74 → s ≡ done.WriteFault
is_write done.Yes e = absurd (omega (arith, e))
is_write (done.Part n) e = absurd (omega (arith, e))
is_write (done.No w n) e = absurd (omega (arith, e))
is_write done.Memory e = absurd (omega (arith, e))
is_write (done.Program f) e = absurd (omega (arith, e))
is_write done.ReadFault e = absurd (omega (arith, e))
is_write done.TooLong e = absurd (omega (arith, e))
is_write done.NoProof e = absurd (omega (arith, e))
is_write (done.Proof f) e = absurd (omega (arith, e))
is_write done.WriteFault e = refl

pub answers_reads : (s : CheckStatus) (before after : ℕ) → (s ≡ done.ReadFault → Rose before after) → ((s ≡ done.ReadFault → ⊥) → after ≡ before) → Answers 66 (status.Checked s) before after
answers_reads s before after cause quiet = record { cause = λ e. cause (is_read s e); quiet = λ never. quiet (λ e. never (ap code_of e)) }

pub answers_writes : (s : CheckStatus) (before after : ℕ) → (s ≡ done.WriteFault → Rose before after) → ((s ≡ done.WriteFault → ⊥) → after ≡ before) → Answers 74 (status.Checked s) before after
answers_writes s before after cause quiet = record { cause = λ e. cause (is_write s e); quiet = λ never. quiet (λ e. never (ap code_of e)) }

-- a call that read nothing
pub answers_unread : (s : Status) (count : ℕ) → (status_code s ≡ 66 → ⊥) → Answers 66 s count count
answers_unread s count never = record { cause = λ e. absurd (never e); quiet = λ _. refl }

pub answers_idle : (count : ℕ) → Answers 74 status.Usage count count
answers_idle count = record { cause = λ e. absurd (omega (arith, e)); quiet = λ _. refl }

-- ---- what was asked for was done
kept : (held : Option (List ℕ)) → Keeps held held
kept None = tt
kept (Some xs) = refl

pub checks_given : (given : Given) (format : Format) (a : Around) (s : Status) → check format ≡ given → Checks format a s → Does given a s
checks_given given format a s e h = subst (λ g. Does g a s) e h

replied : (asked : Given) (a : Around) (s : Status) → Replies asked a.held a.held' a.sent s → Keeps a.left a.left' → Does asked a s
replied (check format) a s h unread = absurd h
replied help a s h unread = (h, unread)
replied version a s h unread = (h, unread)
replied (misuse m) a s h unread = (h, unread)

pub replies_given : (given asked : Given) (left held held' : Option (List ℕ)) (sent : Bool) (s : Status) → asked ≡ given →
    Replies asked held held' sent s → Does given (around left left held held' sent) s
replies_given given asked left held held' sent s e h = subst (λ g. Does g (around left left held held' sent) s) e (replied asked (around left left held held' sent) s h (kept left))

pub noted_for : (given asked : Given) (held held' : Option (List ℕ)) (faults faults' : ℕ) (closed : Bool) (s : Status) → asked ≡ given →
    IsNoted held held' faults faults' (note_for asked closed s) → IsNoted held held' faults faults' (note_for given closed s)
noted_for given asked held held' faults faults' closed s e h = subst (λ g. IsNoted held held' faults faults' (note_for g closed s)) e h
