-- A proof's text that is written while its lines are found.
use Rattle.std.specs.Prelude.{◌≡◌, ℕ, Bool, List, ◌++◌, [], OnOk, Result, Ok, Err}
use Rattle.asp_buffer.specs.Out.{Out, Puts}
use Rattle.asp_model.specs.Sets.{Atoms}
use Rattle.asp_proof.specs.declared.proof.Line.{Line}
use Rattle.asp_proof.specs.declared.proof.Sought.{Sought}
use Rattle.asp_proof.specs.Texts.{head_text, line_text, lines, text_of}

-- These bytes were put out, unless a write failed before: then nothing was.
abbrev pub Goes : {T E : Type 0} → Result T E → Out → Out → Result T E → List ℕ → Type 0
Goes (Ok v) before after result bytes = Puts before after result bytes
Goes (Err e) before after result bytes = (after ≡ before) × (result ≡ Err e)

-- Since the start the head of a proof's text and some lines were put out; or a write failed, and a front of them is out.
pub record IsBegun {T E : Type 0} (s : Sought) (start now : Out) (state : Result T E) : Type 0 where
  pub entries : List Line
  pub puts : Puts start now state (head_text s ++ lines line_text entries)

-- Since the start the text of a proof was put out that lists these answers, and none of it waits; or a write failed, and a front of it is
-- out.
pub record IsEnded {T E : Type 0} (s : Sought) (start now : Out) (answers : List Atoms) (part : Bool) (result : Result T E) : Type 0 where
  pub entries : List Line
  pub puts : Puts start now result (text_of (record { sought = s; lines = entries; answers = answers; part = part }))
  pub empty : OnOk result (now.waiting ≡ [])
