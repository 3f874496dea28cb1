-- What is asked of a run whose list is written while it is found.
use Rattle.std.proofs.Common.{◌≡◌, Bool, true, false, not, ◌&&◌, ◌||◌, refl, ap, ◌∙◌}
use Rattle.std.specs.Prelude.{None, is_some}
use Rattle.asp_model.specs.Asked.{reasoning_of}
use Rattle.std.proofs.lemmas.Bool.{and_parts, false≢true}
use Rattle.asp_model.specs.declared.program.Program.{Program}
use Rattle.asp_model.specs.declared.results.Mode.{Mode}
use Rattle.asp_model.specs.declared.results.Mode.TheVariants.{Enum, Opt, Consequences}
use Rattle.asp_cli.specs.declared.Form.{Form}
use Rattle.asp_cli.specs.declared.Form.TheVariants.{Text, Json}
use Rattle.asp_cli.specs.declared.Options.{Options}
use Rattle.asp_prepare.specs.Meaning.{mode_of}
use Rattle.asp_prepare.specs.Naming.{is_json, is_settled}
use Rattle.asp_top.specs.Notes.{is_list, lists_lines}
use Rattle.asp_top.specs.Runs.{is_brief, streams}

pub record IsListing (given : Options) (p : Program) : Type 0 where
  pub stream : given.stream ≡ true
  pub lists : is_list given.all_optima (mode_of given.mode p) ≡ true
  pub form : given.form ≡ Text
  pub full : is_brief given ≡ false
  pub settled : is_settled given ≡ true

-- no consequences are asked for then
pub unsought : (all : Bool) (mode : Mode) → is_list all mode ≡ true → reasoning_of mode ≡ None
unsought all Enum e = refl
unsought all Opt e = refl
unsought all (Consequences w) e = absurd (false≢true e)

in-lines : (form : Form) → not (is_json form) ≡ true → form ≡ Text
in-lines Text e = refl
in-lines Json e = absurd (false≢true e)

denied : (b : Bool) → not b ≡ true → b ≡ false
denied true e = absurd (false≢true e)
denied false e = refl

pub is-listing : (given : Options) (p : Program) → streams given p ≡ true → IsListing given p
is-listing given p on =
    let mode = mode_of given.mode p in
    let wanted = and_parts given.stream (is_list given.all_optima mode && lists_lines given) on in
    let listed = and_parts (is_list given.all_optima mode) (lists_lines given) wanted.1 in
    let lines = and_parts (not (is_json given.form)) (not (is_some given.make || given.quiet) && is_settled given) listed.1 in
    let whole = and_parts (not (is_some given.make || given.quiet)) (is_settled given) lines.1 in
    record {
      stream = wanted.0;
      lists = listed.0;
      form = in-lines given.form lines.0;
      full = denied (is_brief given) whole.0;
      settled = whole.1;
    }

-- and where it isn't that they are
pub streams-by : (given : Options) (p : Program) → IsListing given p → streams given p ≡ true
streams-by given p list =
    ap (λ (b : Bool). b && (is_list given.all_optima (mode_of given.mode p) && lists_lines given)) list.stream
    ∙ ap (λ (b : Bool). b && lists_lines given) list.lists
    ∙ ap (λ (f : Form). not (is_json f) && (not (is_brief given) && is_settled given)) list.form
    ∙ ap (λ (b : Bool). not b && is_settled given) list.full
    ∙ list.settled
