-- What a run does for its arguments.
use Rattle.std.specs.Prelude.{◌≡◌, ℕ, Bool, true, List, Option}
use Rattle.std.specs.Io.KnownBytes.{Appends, Keeps}
use Rattle.asp_io.specs.Causes.{AppendsFront, Rose}
use Rattle.asp_checker.specs.declared.run.Format.{Format}
use Rattle.asp_checker.specs.Runs.{IsSentOn, RunSays}
use Rattle.asp_checkrun.specs.declared.status.Status.{Status}
use Rattle.asp_checkrun.specs.declared.status.Status.TheVariants as status
use Rattle.asp_checkrun.specs.Given.{Given, check, help, misuse, version}
use Rattle.asp_checkrun.specs.Statuses.{status_code}
use Rattle.asp_checkrun.specs.Texts.{help_page, version_line}

-- the source and the sink before and after a run: the bytes that are left and held, where they are told, and whether all that the
-- sink got was sent on
pub record Around : Type 0 where
  pub left : Option (List ℕ)
  pub left' : Option (List ℕ)
  pub held : Option (List ℕ)
  pub held' : Option (List ℕ)
  pub sent : Bool

abbrev pub around : Option (List ℕ) → Option (List ℕ) → Option (List ℕ) → Option (List ℕ) → Bool → Around
around left left' held held' sent = record { left = left; left' = left'; held = held; held' = held'; sent = sent }

-- a proof was sought in the input, judged where there is one, and the judgement written and sent on
abbrev pub Checks : Format → Around → Status → Type 0
Checks format a (status.Checked s) = RunSays format a.left a.held a.held' s × IsSentOn a.sent s
Checks format a s = ⊥

-- exactly this text was written and sent on, or a front of it where a write or the flush failed
abbrev pub Tells : List ℕ → Option (List ℕ) → Option (List ℕ) → Bool → Status → Type 0
Tells text held held' sent status.Told = Appends held held' text × (sent ≡ true)
Tells text held held' sent status.WriteFault = AppendsFront held held' text
Tells text held held' sent s = ⊥

-- what becomes of the sink where nothing is checked
abbrev pub Replies : Given → Option (List ℕ) → Option (List ℕ) → Bool → Status → Type 0
Replies (check format) held held' sent s = ⊥
Replies help held held' sent s = Tells help_page held held' sent s
Replies version held held' sent s = Tells version_line held held' sent s
Replies (misuse m) held held' sent s = (s ≡ status.Usage) × Keeps held held'

-- a proof is sought in the input, or nothing is read
abbrev pub Does : Given → Around → Status → Type 0
Does (check format) a s = Checks format a s
Does help a s = Replies help a.held a.held' a.sent s × Keeps a.left a.left'
Does version a s = Replies version a.held a.held' a.sent s × Keeps a.left a.left'
Does (misuse m) a s = Replies (misuse m) a.held a.held' a.sent s × Keeps a.left a.left'

-- exit status n exactly where a fault was counted
pub record Answers (n : ℕ) (s : Status) (before after : ℕ) : Type 0 where
  pub cause : status_code s ≡ n → Rose before after
  pub quiet : (status_code s ≡ n → ⊥) → after ≡ before
