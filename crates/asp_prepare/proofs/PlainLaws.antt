-- A report of consequences by name: a set that shows the same texts says of the program what was asked, without names.
use Rattle.std.proofs.Common.{◌≡◌, Bool, true, false, cond, ◌||◌, List, [], ◌∷◌, ◌++◌, filter, refl, sym, ap, ◌∙◌, ℤ, ℕ}
use Rattle.std.specs.Prelude.{Option, None, Some, is_some, option_map}
use Rattle.asp_model.specs.declared.program.Program.{Program}
use Rattle.asp_model.specs.declared.results.Ask.{Ask}
use Rattle.asp_model.specs.declared.results.End.{End}
use Rattle.asp_model.specs.declared.results.End.TheVariants.{Finished, Limited, Unfinished}
use Rattle.asp_model.specs.declared.results.Mode.{Mode}
use Rattle.asp_model.specs.declared.results.Mode.TheVariants.{Enum, Opt, Consequences}
use Rattle.asp_model.specs.declared.results.Reasoning.{Reasoning}
use Rattle.asp_model.specs.Sets.{Atoms}
use Rattle.asp_model.specs.Models.{answers}
use Rattle.asp_model.specs.Consequences.{consequences_of}
use Rattle.asp_model.specs.Found.{Found}
use Rattle.asp_model.specs.Texts.{answers_from, closing_lines, shown}
use Rattle.asp_print.specs.Named.{named_line}
use Rattle.asp_json.specs.Json.{json_with}
use Rattle.asp_core.specs.Boards.{showing_by}
use Rattle.asp_core.proofs.AskedLaws.{told-asked}
use Rattle.asp_crew_laws.specs.declared.report.Report.{Report}
use Rattle.asp_crew_laws.specs.Reports.{IsAllFound, IsPartOf, Says as SaysReport}
use Rattle.asp_cli.specs.declared.Form.{Form}
use Rattle.asp_cli.specs.declared.Form.TheVariants.{Text, Json}
use Rattle.asp_prepare.specs.Meaning.{has_model_in}
use Rattle.asp_prepare.specs.Naming.{is_json}
use Rattle.asp_prepare.specs.Told.{SaysOf, ShowsAs, text_in}

-- ---- what is said
as-itself : (n : Bool) (p : Program) (known : Option Atoms) → ShowsAs n p known known
as-itself false p known = refl
as-itself true p known = refl

-- What isn't asked for changes no text.
shown-asked : (w : Reasoning) (p : Program) (K : List Atoms) → option_map (shown p) (consequences_of w p (showing_by true w p K)) ≡ option_map (shown p) (consequences_of w p K)
shown-asked w p [] = refl
shown-asked w p (S ∷ K) = ap (λ (texts : List (List ℕ)). Some texts) (told-asked p true w S K)

as-asked : (n : Bool) (w : Reasoning) (p : Program) (K : List Atoms) (known : Option Atoms) → known ≡ consequences_of w p (showing_by n w p K) → ShowsAs n p (consequences_of w p K) known
as-asked false w p K known is = is
as-asked true w p K known is = ap (option_map (shown p)) is ∙ shown-asked w p K

found-plain : (all n : Bool) (p : Program) (mode : Mode) (L : List Atoms) (best : Option (Atoms × List ℤ)) (known : Option Atoms) → IsAllFound all n p mode L best known
    → (plain : Option Atoms) × IsAllFound all false p mode L best plain × ShowsAs n p plain known
found-plain false n p Enum L best known h = (known, h, as-itself n p known)
found-plain true n p Enum L best known h = (known, h, as-itself n p known)
found-plain false n p Opt L best known h = (known, h, as-itself n p known)
found-plain true n p Opt L best known h = (known, h, as-itself n p known)
found-plain false n p (Consequences w) L best known h = (consequences_of w p (answers p), (h.0, h.1, refl), as-asked n w p (answers p) known h.2)
found-plain true n p (Consequences w) L best known h = (consequences_of w p (answers p), (h.0, h.1, refl), as-asked n w p (answers p) known h.2)

part-plain : (all n : Bool) (p : Program) (mode : Mode) (r : Found) → IsPartOf all n p mode r → (plain : Option Atoms) ×
    IsPartOf all false p mode (record r { known = plain }) × ShowsAs n p plain r.known
part-plain false n p Enum r h = (r.known, h, as-itself n p r.known)
part-plain true n p Enum r h = (r.known, h, as-itself n p r.known)
part-plain false n p Opt r h = (r.known, h, as-itself n p r.known)
part-plain true n p Opt r h = (r.known, h, as-itself n p r.known)
part-plain false n p (Consequences w) r h = (consequences_of w p (filter h.2.0 (answers p)), (h.0, h.1, (h.2.0, refl)), as-asked n w p (filter h.2.0 (answers p)) r.known h.2.1)
part-plain true n p (Consequences w) r h = (consequences_of w p (filter h.2.0 (answers p)), (h.0, h.1, (h.2.0, refl)), as-asked n w p (filter h.2.0 (answers p)) r.known h.2.1)

pub plain-says : (p : Program) (ask : Ask) (r : Report) (end : End) → SaysReport p ask r end → SaysOf p ask r end
plain-says p ask r Finished h =
    let f = found-plain ask.all_optima ask.by_name p ask.mode r.results.answers r.results.best r.results.known h in
    record { known = f.0; says = f.1; same = f.2 }
plain-says p ask r Limited h =
    let f = part-plain ask.all_optima ask.by_name p ask.mode r.results h.part in
    record { known = f.0; says = record { listing = h.listing; some = h.some; count = h.count; part = f.1; best = h.best }; same = f.2 }
plain-says p ask r Unfinished h =
    let f = part-plain ask.all_optima ask.by_name p ask.mode r.results h.0 in
    record { known = f.0; says = (f.1, h.1); same = f.2 }

-- ---- the texts
abbrev with_set : Mode → End → List Atoms → Option (Atoms × List ℤ) → Option Atoms → Found
with_set mode end L best known = record { mode = mode; end = end; answers = L; best = best; known = known }

the-texts : (a b : List (List ℕ)) → Some a ≡ Some b → a ≡ b
the-texts a b same = cc

-- consequences by name, as lines and as JSON
lines-same : (brief : Bool) (p : Program) (mode : Mode) (end : End) (L : List Atoms) (best : Option (Atoms × List ℤ)) (told known : Option Atoms) →
    option_map (shown p) told ≡ option_map (shown p) known
    → text_in Text p (with_set mode end L best told) brief true ≡ text_in Text p (with_set mode end L best known) brief true
lines-same brief p Enum end L best told known same = refl
lines-same brief p Opt end L best told known same = refl
lines-same brief p (Consequences w) end L best None None same = refl
lines-same brief p (Consequences w) end L best None (Some C) same = absurd cc
lines-same brief p (Consequences w) end L best (Some B) None same = absurd cc
lines-same brief p (Consequences w) end L best (Some B) (Some C) same =
    ap (λ (ts : List (List ℕ)). cond brief [] (answers_from p 1 []) ++ named_line ts ++ closing_lines (with_set (Consequences w) end L best (Some B)) 1) (the-texts (shown p B) (shown p C) same)

json-same : (names brief : Bool) (p : Program) (mode : Mode) (end : End) (L : List Atoms) (best : Option (Atoms × List ℤ)) (told known : Option Atoms)
    → option_map (shown p) told ≡ option_map (shown p) known
    → text_in Json p (with_set mode end L best told) brief names ≡ text_in Json p (with_set mode end L best known) brief names
json-same names brief p Enum end L best told known same = refl
json-same names brief p Opt end L best told known same = refl
json-same names brief p (Consequences w) end L best None None same = refl
json-same names brief p (Consequences w) end L best None (Some C) same = absurd cc
json-same names brief p (Consequences w) end L best (Some B) None same = absurd cc
json-same names brief p (Consequences w) end L best (Some B) (Some C) same =
    ap (λ (ts : List (List ℕ)). json_with p (with_set (Consequences w) end L best (Some B)) ts brief) (the-texts (shown p B) (shown p C) same)

pub text-same : (form : Form) (names brief : Bool) (p : Program) (mode : Mode) (end : End) (L : List Atoms) (best : Option (Atoms × List ℤ))
    (told known : Option Atoms) (n : Bool) → (n ≡ true → (names || is_json form) ≡ true) → ShowsAs n p known told
    → text_in form p (with_set mode end L best told) brief names ≡ text_in form p (with_set mode end L best known) brief names
text-same form names brief p mode end L best told known false so same = ap (λ (k : Option Atoms). text_in form p (with_set mode end L best k) brief names) same
text-same Text true brief p mode end L best told known true so same = lines-same brief p mode end L best told known same
text-same Text false brief p mode end L best told known true so same = absurd (let no : false ≡ true = so refl in let f : ⊥ = cc in f)
text-same Json names brief p mode end L best told known true so same = json-same names brief p mode end L best told known same

is_some-shown : (p : Program) (known : Option Atoms) → is_some (option_map (shown p) known) ≡ is_some known
is_some-shown p None = refl
is_some-shown p (Some B) = refl

some-same : (n : Bool) (p : Program) (known told : Option Atoms) → ShowsAs n p known told → is_some known ≡ is_some told
some-same false p known told same = ap is_some (sym same)
some-same true p known told same = sym (is_some-shown p known) ∙ ap is_some (sym same) ∙ is_some-shown p told

pub model-same : (n : Bool) (p : Program) (mode : Mode) (end : End) (L : List Atoms) (best : Option (Atoms × List ℤ)) (known told : Option Atoms) → ShowsAs n p known told
    → has_model_in mode (with_set mode end L best known) ≡ has_model_in mode (with_set mode end L best told)
model-same n p Enum end L best known told same = refl
model-same n p Opt end L best known told same = refl
model-same n p (Consequences w) end L best known told same = some-same n p known told same
