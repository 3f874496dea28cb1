-- What a run that finished has read and written, from what its status means.
use Rattle.std.proofs.Common.{◌≡◌, ℕ, ◌<◌, ◌≤◌, Bool, true, false, not, ◌&&◌, ◌||◌, cond, List, [], ◌∷◌, ◌++◌, length, take, inl, inr, refl, sym, ap, ◌∙◌, subst, ℤ, Contains, arith, append_assoc, length-take-le}
use Rattle.std.specs.Prelude.{Option, None, Some, Ok, IfSome, codes, decimal, filter, flat_map, is_some, map, option_map}
use Rattle.std.specs.List.{list_any}
use Rattle.std.specs.Io.KnownBytes.{Appends}
use Rattle.std.proofs.lemmas.Bool.{false≢true}
use Rattle.std.proofs.lemmas.List.{append-nil}
use Rattle.asp_model.specs.declared.program.Program.{Program}
use Rattle.asp_model.specs.declared.results.End.{End}
use Rattle.asp_model.specs.declared.results.End.TheVariants.{Finished, Limited}
use Rattle.asp_model.specs.declared.results.Mode.{Mode}
use Rattle.asp_model.specs.declared.results.Mode.TheVariants.{Enum, Opt, Consequences}
use Rattle.asp_model.specs.declared.results.Reasoning.{Reasoning}
use Rattle.asp_model.specs.Sets.{Atoms}
use Rattle.asp_model.specs.Models.{answers}
use Rattle.asp_model.specs.Costs.{IsOptimum, betters, cost, optima}
use Rattle.asp_model.specs.Consequences.{consequences, consequences_of}
use Rattle.asp_model.specs.Found.{Found}
use Rattle.asp_model.specs.Texts.{answers_from, bests, consequences_line, cost_line, ended_line}
use Rattle.asp_model.specs.Asked.{reasoning_of}
use Rattle.asp_model.specs.Sound.{IsSound}
use Rattle.asp_print.specs.Named.{known_line, named_line, printed_text}
use Rattle.asp_named.specs.Named.{extended, has_numbers, named}
use Rattle.asp_named.specs.Told.{told_texts}
use Rattle.asp_named.proofs.AnswerLaws.{answers-named, split-named, told-named}
use Rattle.asp_named.specs.Named.{first_free}
use Rattle.asp_model.proofs.ModelLaws.{optima-are}
use Rattle.asp_equal.specs.declared.reduce.Aside.{Aside}
use Rattle.asp_equal.specs.Reduced.{restored}
use Rattle.asp_crew_laws.specs.declared.report.Report.{Report}
use Rattle.asp_crew_laws.specs.Runs.{IsBest, IsFound}
use Rattle.asp_crew_laws.specs.Reports.{HasBest, IsAllFound, IsAsked, IsPartOf, Says as SaysReport, asks_list}
use Rattle.asp_cli.specs.Given.{Given, options}
use Rattle.asp_cli.specs.declared.Options.{Options}
use Rattle.asp_top.specs.declared.status.Status.{Status}
use Rattle.asp_top.specs.declared.status.Status.TheVariants.{All, NoModel, Enough}
use Rattle.asp_top.specs.declared.status.Outcome.{Outcome}
use Rattle.asp_cli.specs.Found.{seeks_consequences}
use Rattle.asp_model.specs.declared.program.Minimize.{Minimize}
use Rattle.asp_model.specs.Texts.{shown}
use Rattle.asp_prepare.specs.Meaning.{has_model_in, is_some_of, mode_by, mode_of}
use Rattle.asp_prepare.specs.Naming.{HasNumbers, asked, is_json, is_named, is_settled, set_aside}
use Rattle.asp_prepare.specs.Told.{found_with, report_text, report_with, text_in, with_known, without_names}
use Rattle.asp_print.specs.Parts.{closing_of}
use Rattle.asp_top.specs.Notes.{is_list}
use Rattle.asp_top.specs.Runs.{Around, HasText, IsCostOf, IsGiven, IsSentOn, IsWritten, Means, Runs, first_text, is_brief, layout_of, run_ask, streams, whole_list}
use Rattle.asp_top.proofs.ListingLaws.{IsListing, is-listing, streams-by}
use Rattle.asp_top.specs.Series.{RunsBy, RunsOn}
use Rattle.asp_json.specs.Json.{json_text, json_with}
use Rattle.asp_cli.specs.declared.Form.{Form}
use Rattle.asp_cli.specs.declared.Form.TheVariants.{Text, Json}
use Rattle.asp_cli.specs.declared.Format.{Format}
use Rattle.asp_top.specs.Formats.{outcome_for}
use Rattle.asp_top.specs.Whole.{ArePicked, ArePickedBy, InForm, IsInput, IsWhole, TellsAll, TellsEnough, TellsNone, Wrote, closing, none_text, told_line}
use Rattle.asp_prepare.proofs.PlainLaws.{model-same, text-same}

-- ---- what is read
input-told : (f : Format) (left : Option (List ℕ)) (p : Program) → IfSome left (λ t. outcome_for f t ≡ Ok p) → (text : List ℕ) ×
    (outcome_for f text ≡ Ok p) → (text : List ℕ) × (outcome_for f text ≡ Ok p) × IfSome left (λ all. all ≡ text)
input-told f None p says some = (some.0, some.1, tt)
input-told f (Some text) p says some = (text, says, refl)

input-of : (f : Format) (m : Option ℕ) (a : Around) (p : Program) → IsGiven f m a p → IsInput f m a.left p
input-of f None a p from = input-told f a.left p from.says from.said
input-of f (Some n) a p from = from.0

-- ---- the texts
abbrev found : Mode → End → List Atoms → Option (Atoms × List ℤ) → Option Atoms → Found
found mode end L best known = record { mode = mode; end = end; answers = L; best = best; known = known }

abbrev json_found : Options → Program → Found → List ℕ
json_found given p r = json_with p r [] (is_brief given)

-- the text in lines of results that aren't consequences
abbrev plain_text : Program → Found → Bool → List ℕ
plain_text p r brief = printed_text p r brief false

abbrev text_for : Form → Options → Program → Found → List ℕ
text_for form given p r = text_in form p r (is_brief given) given.names

abbrev lines : Bool → Program → List Atoms → List ℕ
lines brief p Ss = cond brief [] (answers_from p 1 Ss)

some-or-none : {A : Type 0} (L : List A) → is_some_of L ≡ true → ¬ (L ≡ [])
some-or-none [] some none = false≢true some
some-or-none (x ∷ L) some none = absurd cc

none-of : {A : Type 0} (L : List A) → is_some_of L ≡ false → L ≡ []
none-of [] none = refl
none-of (x ∷ L) none = absurd (false≢true (sym none))

-- a count without a mark behind it
unmarked : (word : List ℕ) (n : ℕ) → ended_line word ++ ended_line (codes "Models: " ++ decimal n ++ []) ≡ closing word (decimal n)
unmarked word n = ap (λ (count : List ℕ). closing word count) (append-nil (decimal n))

-- nothing stands between the answers and the closing lines
joined : (answers between last : List ℕ) → between ≡ last → answers ++ [] ++ between ≡ answers ++ last
joined answers between last same = ap (λ (x : List ℕ). x ++ between) (append-nil answers) ∙ ap (λ (x : List ℕ). answers ++ x) same

no-lines : (brief : Bool) (p : Program) → lines brief p [] ≡ []
no-lines true p = refl
no-lines false p = refl

-- an optimum is one of the optima
pub an-optimum : (p : Program) (S : Atoms) (c : List ℤ) → IsOptimum p S c → Contains (optima p) S
an-optimum p S c is = (optima-are p S).1 (record {
  answer = is.answer;
  sums = refl;
  least = subst (λ (d : List ℤ). list_any (λ T. betters (cost p T) d) (answers p) ≡ false) is.sums is.least;
})

pub no-optima : (p : Program) → answers p ≡ [] → optima p ≡ []
no-optima p none = ap (λ (all : List Atoms). filter (λ S. not (list_any (λ T. betters (cost p T) (cost p S)) all)) all) none

-- ---- finished, with an answer
abbrev AllTold : Bool → Bool → Program → List ℕ → Type 0
AllTold all brief p text = (S : Atoms) × Contains (optima p) S
    × (text ≡ lines brief p (cond all (optima p) (S ∷ [])) ++ cost_line (cost p S) ++ closing (codes "OPTIMUM FOUND") (decimal (length (cond all (optima p) (S ∷ [])))))

enum-all : (brief : Bool) (p : Program) (L : List Atoms) (best : Option (Atoms × List ℤ)) (known : Option Atoms) → is_some_of L ≡ true
    → plain_text p (found Enum Finished L best known) brief ≡ lines brief p L ++ closing (codes "SATISFIABLE") (decimal (length L))
enum-all brief p [] best known some = absurd (false≢true some)
enum-all brief p (S ∷ L) best known some = joined (lines brief p (S ∷ L)) _ _ (unmarked (codes "SATISFIABLE") (length (S ∷ L)))

opt-text : (brief : Bool) (p : Program) (S : Atoms) (L : List Atoms) (T : Atoms) (c : List ℤ) → c ≡ cost p T
    → lines brief p (S ∷ L) ++ cost_line c ++ (ended_line (codes "OPTIMUM FOUND") ++ ended_line (codes "Models: " ++ decimal (length (S ∷ L)) ++ []))
    ≡ lines brief p (S ∷ L) ++ cost_line (cost p T) ++ closing (codes "OPTIMUM FOUND") (decimal (length (S ∷ L)))
opt-text brief p S L T c is =
    ap (λ (x : List ℕ). lines brief p (S ∷ L) ++ cost_line c ++ x) (unmarked (codes "OPTIMUM FOUND") (length (S ∷ L)))
    ∙ ap (λ (d : List ℤ). lines brief p (S ∷ L) ++ cost_line d ++ closing (codes "OPTIMUM FOUND") (decimal (length (S ∷ L)))) is

opt-one : (brief : Bool) (p : Program) (L : List Atoms) (best : Option (Atoms × List ℤ)) (known : Option Atoms) → L ≡ [] → IsBest p best → is_some_of (bests best L) ≡ true
    → AllTold false brief p (plain_text p (found Opt Finished L best known) brief)
opt-one brief p [] None known none is some = absurd (false≢true some)
opt-one brief p [] (Some b) known none is some = (b.0, an-optimum p b.0 b.1 is, opt-text brief p b.0 [] b.0 b.1 is.sums)
opt-one brief p (S ∷ L) best known none is some = absurd cc

nowhere : (S : Atoms) → Contains {X = Atoms} [] S → ⊥
nowhere S is = let f : ⊥ = omega (arith, is.1) in f

opt-all : (brief : Bool) (p : Program) (L : List Atoms) (best : Option (Atoms × List ℤ)) (known : Option Atoms) → L ≡ optima p → IsBest p best → is_some_of (bests best L) ≡ true
    → AllTold true brief p (plain_text p (found Opt Finished L best known) brief)
opt-all brief p [] None known are is some = absurd (false≢true some)
opt-all brief p (S ∷ L) None known are is some = let none : S ∷ L ≡ [] = are ∙ no-optima p is in absurd cc
opt-all brief p [] (Some b) known are is some = absurd (nowhere b.0 (subst (λ (Ss : List Atoms). Contains Ss b.0) (sym are) (an-optimum p b.0 b.1 is)))
opt-all brief p (S ∷ L) (Some b) known are is some = (
  b.0,
  an-optimum p b.0 b.1 is,
  opt-text brief p S L b.0 b.1 is.sums ∙ ap (λ (Ss : List Atoms). lines brief p Ss ++ cost_line (cost p b.0) ++ closing (codes "OPTIMUM FOUND") (decimal (length Ss))) are,
)

consequences-all : (names brief : Bool) (p : Program) (w : Reasoning) (K : List Atoms) (best : Option (Atoms × List ℤ)) (known : Option Atoms) → known ≡ consequences_of w p K → is_some known ≡ true
    → ¬ (K ≡ []) × (printed_text p (found (Consequences w) Finished [] best known) brief names ≡ known_line names p (Some (consequences w p K)) ++ ended_line (codes "CONSEQUENCES FOUND"))
consequences-all names brief p w [] best known are some = absurd (false≢true (sym (ap is_some are) ∙ some))
consequences-all names brief p w (S ∷ K) best known are some = (
  λ none. absurd cc,
  ap (λ (x : Option Atoms). printed_text p (found (Consequences w) Finished [] best x) brief names) are
      ∙ ap (λ (x : List ℕ). x ++ known_line names p (Some (consequences w p (S ∷ K))) ++ (ended_line (codes "CONSEQUENCES FOUND") ++ [])) (no-lines brief p)
      ∙ ap (λ (x : List ℕ). known_line names p (Some (consequences w p (S ∷ K))) ++ x) (append-nil (ended_line (codes "CONSEQUENCES FOUND"))),
)

found-enum : (all : Bool) (p : Program) (L : List Atoms) (best : Option (Atoms × List ℤ)) (known : Option Atoms) → IsAllFound all false p Enum L best known → IsFound false p Enum L best known
found-enum true p L best known is = is
found-enum false p L best known is = is

found-consequences : (all : Bool) (p : Program) (w : Reasoning) (L : List Atoms) (best : Option (Atoms × List ℤ)) (known : Option Atoms)
    → IsAllFound all false p (Consequences w) L best known → IsFound false p (Consequences w) L best known
found-consequences true p w L best known is = is
found-consequences false p w L best known is = is

found-best : (all : Bool) (p : Program) (L : List Atoms) (best : Option (Atoms × List ℤ)) (known : Option Atoms) → IsAllFound all false p Opt L best known → IsBest p best
found-best true p L best known is = is.1
found-best false p L best known is = is.1

found-opt : (all brief : Bool) (p : Program) (L : List Atoms) (best : Option (Atoms × List ℤ)) (known : Option Atoms) → IsAllFound all false p Opt L best known → is_some_of (bests best L) ≡ true
    → AllTold all brief p (plain_text p (found Opt Finished L best known) brief)
found-opt true brief p L best known is some = opt-all brief p L best known is.0 is.1 some
found-opt false brief p L best known is some = opt-one brief p L best known is.0 is.1 some

enum-told : (form : Form) (given : Options) (p : Program) (L : List Atoms) (best : Option (Atoms × List ℤ)) (known : Option Atoms) → L ≡ answers p → is_some_of L ≡ true
    → InForm form (text_for form given p (found Enum Finished L best known) ≡ lines (is_brief given) p (answers p) ++ closing (codes "SATISFIABLE") (decimal (length (answers p))))
    (text_for form given p (found Enum Finished L best known) ≡ json_found given p (found Enum Finished (answers p) None None))
enum-told Text given p L best known all some =
    enum-all (is_brief given) p L best known some
    ∙ ap (λ (Ss : List Atoms). lines (is_brief given) p Ss ++ closing (codes "SATISFIABLE") (decimal (length Ss))) all
enum-told Json given p L best known all some = ap (λ (Ss : List Atoms). json_found given p (found Enum Finished Ss None None)) all

json-opt : (all : Bool) (given : Options) (p : Program) (L : List Atoms) (best : Option (Atoms × List ℤ)) (known : Option Atoms) →
    IsAllFound all false p Opt L best known → is_some_of (bests best L) ≡ true
    → (S : Atoms) × Contains (optima p) S × (json_found given p (found Opt Finished L best known) ≡ json_found given p (found Opt Finished (cond all (optima p) []) (Some (S, cost p S)) None))
json-opt true given p L (Some b) known is some = (
  b.0,
  an-optimum p b.0 b.1 is.1,
  ap (λ (Ss : List Atoms). json_found given p (found Opt Finished Ss (Some b) None)) is.0 ∙ ap (λ (c : List ℤ). json_found given p (found Opt Finished (optima p) (Some (b.0, c)) None)) is.1.sums,
)
json-opt true given p [] None known is some = absurd (false≢true some)
json-opt true given p (S ∷ L) None known is some = let none : S ∷ L ≡ [] = is.0 ∙ no-optima p is.1 in absurd cc
json-opt false given p L (Some b) known is some = (
  b.0,
  an-optimum p b.0 b.1 is.1,
  ap (λ (Ss : List Atoms). json_found given p (found Opt Finished Ss (Some b) None)) is.0 ∙ ap (λ (c : List ℤ). json_found given p (found Opt Finished [] (Some (b.0, c)) None)) is.1.sums,
)
json-opt false given p [] None known is some = absurd (false≢true some)
json-opt false given p (S ∷ L) None known is some = absurd (let none : S ∷ L ≡ [] = is.0 in let f : ⊥ = cc in f)

opt-told : (form : Form) (given : Options) (p : Program) (L : List Atoms) (best : Option (Atoms × List ℤ)) (known : Option Atoms) →
    IsAllFound given.all_optima false p Opt L best known → is_some_of (bests best L) ≡ true
    → (S : Atoms) × Contains (optima p) S
    × InForm form (text_for form given p (found Opt Finished L best known) ≡ lines (is_brief given) p (cond given.all_optima (optima p) (S ∷ []))
    ++ cost_line (cost p S) ++ closing (codes "OPTIMUM FOUND") (decimal (length (cond given.all_optima (optima p) (S ∷ [])))))
    (text_for form given p (found Opt Finished L best known) ≡ json_found given p (found Opt Finished (cond given.all_optima (optima p) []) (Some (S, cost p S)) None))
opt-told Text given p L best known is some = found-opt given.all_optima (is_brief given) p L best known is some
opt-told Json given p L best known is some = json-opt given.all_optima given p L best known is some

json-known : (brief : Bool) (p : Program) (w : Reasoning) (K L : List Atoms) (best : Option (Atoms × List ℤ)) (known : Option Atoms) → known ≡ consequences_of w p K → is_some known ≡ true
    → ¬ (K ≡ []) × (json_text p (found (Consequences w) Finished L best known) brief ≡ json_text p (found (Consequences w) Finished [] None (Some (consequences w p K))) brief)
json-known brief p w [] L best known are some = absurd (false≢true (sym (ap is_some are) ∙ some))
json-known brief p w (S ∷ K) L best known are some = (λ none. absurd cc, ap (λ (x : Option Atoms). json_text p (found (Consequences w) Finished [] None x) brief) are)

-- the texts of consequences of this program
abbrev ToldOf : Form → Bool → Bool → Program → Reasoning → List ℕ → Type 0
ToldOf form names brief p w text = InForm form (text ≡ known_line names p (Some (consequences w p (answers p))) ++ ended_line (codes "CONSEQUENCES FOUND"))
    (text ≡ json_text p (found (Consequences w) Finished [] None (Some (consequences w p (answers p)))) brief)

consequences-told : (form : Form) (given : Options) (p : Program) (w : Reasoning) (L : List Atoms) (best : Option (Atoms × List ℤ))
    (known : Option Atoms) → IsFound false p (Consequences w) L best known → is_some known ≡ true
    → ¬ (answers p ≡ []) × ToldOf form given.names (is_brief given) p w (text_for form given p (found (Consequences w) Finished L best known))
consequences-told Text given p w L best known all some =
    let told = consequences-all given.names (is_brief given) p w (answers p) best known all.2 some in
    (told.0, ap (λ (Ss : List Atoms). printed_text p (found (Consequences w) Finished Ss best known) (is_brief given) given.names) all.0 ∙ told.1)
consequences-told Json given p w L best known all some = json-known (is_brief given) p w (answers p) L best known all.2 some

tells-listed : (given : Options) (p : Program) (mode : Mode) (L : List Atoms) (best : Option (Atoms × List ℤ)) (known : Option Atoms) →
    reasoning_of mode ≡ None → IsAllFound given.all_optima false p mode L best known
    → has_model_in mode (found mode Finished L best known) ≡ true → TellsAll given p mode (text_for given.form given p (found mode Finished L best known))
tells-listed given p Enum L best known listed is some =
    let all = (found-enum given.all_optima p L best known is).0 in
    (λ none. some-or-none L some (all ∙ none), enum-told given.form given p L best known all some)
tells-listed given p Opt L best known listed is some = opt-told given.form given p L best known is some
tells-listed given p (Consequences w) L best known listed is some = absurd (let no : Some w ≡ None = listed in let f : ⊥ = cc in f)

-- ---- finished, without an answer
bests-none : (best : Option (Atoms × List ℤ)) (L : List Atoms) → is_some_of (bests best L) ≡ false → (best ≡ None) × (L ≡ [])
bests-none None [] none = (refl, refl)
bests-none (Some b) [] none = absurd (false≢true (sym none))
bests-none best (S ∷ L) none = absurd (false≢true (sym none))

no-consequences : (p : Program) (w : Reasoning) (K : List Atoms) (known : Option Atoms) → known ≡ consequences_of w p K → is_some known ≡ false → (K ≡ []) × (known ≡ None)
no-consequences p w [] known is none = (refl, is)
no-consequences p w (S ∷ K) known is none = absurd (false≢true (sym none ∙ ap is_some is))

counted-none : (brief : Bool) (p : Program) →
    lines brief p [] ++ [] ++ (ended_line (codes "UNSATISFIABLE") ++ ended_line (codes "Models: " ++ decimal 0 ++ [])) ≡ closing
    (codes "UNSATISFIABLE") (decimal 0)
counted-none brief p =
    joined (lines brief p []) _ _ (unmarked (codes "UNSATISFIABLE") 0) ∙ ap (λ (x : List ℕ). x ++ closing (codes "UNSATISFIABLE") (decimal 0)) (no-lines brief p)

no-line : (names : Bool) (p : Program) → known_line names p None ≡ []
no-line true p = refl
no-line false p = refl

lines-none : (all brief names : Bool) (p : Program) (mode : Mode) (L : List Atoms) (best : Option (Atoms × List ℤ)) (known : Option Atoms) → IsAllFound all false p mode L best known
    → has_model_in mode (found mode Finished L best known) ≡ false → (answers p ≡ []) × (printed_text p (found mode Finished L best known) brief names ≡ none_text mode)
lines-none all brief names p Enum L best known is none =
    let empty = none-of L none in
    (sym (found-enum all p L best known is).0 ∙ empty, ap (λ (Ss : List Atoms). plain_text p (found Enum Finished Ss best known) brief) empty ∙ counted-none brief p)
lines-none all brief names p Opt L best known is none =
    let empty = bests-none best L none in (
      subst (IsBest p) empty.0 (found-best all p L best known is),
      ap (λ (Ss : List Atoms). plain_text p (found Opt Finished Ss best known) brief) empty.1
          ∙ ap (λ (b : Option (Atoms × List ℤ)). plain_text p (found Opt Finished [] b known) brief) empty.0 ∙ counted-none brief p,
    )
lines-none all brief names p (Consequences w) L best known is none =
    let told = found-consequences all p w L best known is in
    let empty = no-consequences p w (answers p) known told.2 none in (
      empty.0,
      ap (λ (Ss : List Atoms). printed_text p (found (Consequences w) Finished Ss best known) brief names) told.0
          ∙ ap (λ (x : Option Atoms). printed_text p (found (Consequences w) Finished [] best x) brief names) empty.1
          ∙ ap (λ (x : List ℕ). lines brief p [] ++ x ++ (ended_line (codes "UNSATISFIABLE") ++ [])) (no-line names p)
          ∙ joined (lines brief p []) _ _ (append-nil (ended_line (codes "UNSATISFIABLE")))
          ∙ ap (λ (x : List ℕ). x ++ ended_line (codes "UNSATISFIABLE")) (no-lines brief p),
    )

json-none : (given : Options) (p : Program) (mode : Mode) (L : List Atoms) (best : Option (Atoms × List ℤ)) (known : Option Atoms) → IsAllFound given.all_optima false p mode L best known
    → has_model_in mode (found mode Finished L best known) ≡ false → json_text p (found mode Finished L best known) (is_brief given) ≡ json_found given p (found mode Finished [] None None)
json-none given p Enum L best known is none = ap (λ (Ss : List Atoms). json_found given p (found Enum Finished Ss None None)) (none-of L none)
json-none given p Opt L best known is none =
    let empty = bests-none best L none in
    ap (λ (Ss : List Atoms). json_found given p (found Opt Finished Ss best None)) empty.1 ∙ ap (λ (b : Option (Atoms × List ℤ)). json_found given p (found Opt Finished [] b None)) empty.0
json-none given p (Consequences w) L best known is none =
    ap (λ (x : Option Atoms). json_text p (found (Consequences w) Finished L best x) (is_brief given))
    (no-consequences p w (answers p) known (found-consequences given.all_optima p w L best known is).2 none).1

none-told : (form : Form) (given : Options) (p : Program) (mode : Mode) (L : List Atoms) (best : Option (Atoms × List ℤ)) (known : Option Atoms) → IsAllFound given.all_optima false p mode L best known
    → has_model_in mode (found mode Finished L best known) ≡ false
    → InForm form (text_for form given p (found mode Finished L best known) ≡ none_text mode)
    (text_for form given p (found mode Finished L best known) ≡ json_found given p (found mode Finished [] None None))
none-told Text given p mode L best known is none = (lines-none given.all_optima (is_brief given) given.names p mode L best known is none).1
none-told Json given p mode L best known is none = json-none given p mode L best known is none

tells-none : (given : Options) (p : Program) (mode : Mode) (L : List Atoms) (best : Option (Atoms × List ℤ)) (known : Option Atoms) → IsAllFound given.all_optima false p mode L best known
    → has_model_in mode (found mode Finished L best known) ≡ false → TellsNone given p mode (text_for given.form given p (found mode Finished L best known))
tells-none given p mode L best known is none = ((lines-none given.all_optima (is_brief given) given.names p mode L best known is none).0, none-told given.form given p mode L best known is none)

-- ---- at its limit
abbrev last_lines : ℕ → List ℕ
last_lines n = closing (codes "LIMIT REACHED") (decimal n ++ codes "+")

part-enum : (all : Bool) (p : Program) (r : Found) → IsPartOf all false p Enum r → (chosen : Atoms → Bool) × (r.answers ≡ filter chosen (answers p))
part-enum true p r is = is.0
part-enum false p r is = is.0

limited-opt : (brief : Bool) (p : Program) (n : ℕ) (L : List Atoms) (best : Option (Atoms × List ℤ)) (known : Option Atoms) → 0 < n → length L ≡ n →
    (chosen : Atoms → Bool) × (L ≡ filter chosen (optima p)) → IsBest p best
    → (S : Atoms) × (Ss : List Atoms) × Contains (optima p) S × ArePicked n (optima p) Ss ×
    (plain_text p (found Opt Limited L best known) brief ≡ lines brief p Ss ++ cost_line (cost p S) ++ last_lines n)
limited-opt brief p n [] best known some count part is = absurd (let f : ⊥ = omega (arith, some, count) in f)
limited-opt brief p n (T ∷ L) None known some count part is = let none : T ∷ L ≡ [] = part.1 ∙ ap (filter part.0) (no-optima p is) in absurd cc
limited-opt brief p n (T ∷ L) (Some b) known some count part is = (
  b.0,
  T ∷ L,
  an-optimum p b.0 b.1 is,
  (part, count),
  ap (λ (c : List ℤ). lines brief p (T ∷ L) ++ cost_line c ++ last_lines (length (T ∷ L))) is.sums
      ∙ ap (λ (k : ℕ). lines brief p (T ∷ L) ++ cost_line (cost p b.0) ++ last_lines k) count,
)

opt-limited : (all brief : Bool) (p : Program) (n : ℕ) (L : List Atoms) (best : Option (Atoms × List ℤ)) (known : Option Atoms) →
    asks_list all Opt ≡ true → 0 < n → length L ≡ n → IsPartOf all false p Opt (found Opt Limited L best known) → IsBest p best
    → (S : Atoms) × (Ss : List Atoms) × Contains (optima p) S × ArePicked n (optima p) Ss ×
    (plain_text p (found Opt Limited L best known) brief ≡ lines brief p Ss ++ cost_line (cost p S) ++ last_lines n)
opt-limited true brief p n L best known listing some count part is = limited-opt brief p n L best known some count part.0 is
opt-limited false brief p n L best known listing some count part is = absurd (false≢true listing)

enough-enum : (form : Form) (given : Options) (p : Program) (n : ℕ) (L : List Atoms) (best : Option (Atoms × List ℤ)) (known : Option Atoms) → length L ≡ n
    → InForm form (text_for form given p (found Enum Limited L best known) ≡ lines (is_brief given) p L ++ last_lines n)
    (text_for form given p (found Enum Limited L best known) ≡ json_found given p (found Enum Limited L None None))
enough-enum Text given p n L best known count = joined (lines (is_brief given) p L) _ _ (ap last_lines count)
enough-enum Json given p n L best known count = refl

enough-json : (all : Bool) (given : Options) (p : Program) (n : ℕ) (L : List Atoms) (best : Option (Atoms × List ℤ)) (known : Option Atoms) →
    asks_list all Opt ≡ true → 0 < n → length L ≡ n → IsPartOf all false p Opt (found Opt Limited L best known) → IsBest p best
    → (S : Atoms) × (Ss : List Atoms) × Contains (optima p) S × ArePicked n (optima p) Ss ×
    (json_found given p (found Opt Limited L best known) ≡ json_found given p (found Opt Limited Ss (Some (S, cost p S)) None))
enough-json false given p n L best known listing some count part is = absurd (false≢true listing)
enough-json true given p n [] best known listing some count part is = absurd (let f : ⊥ = omega (arith, some, count) in f)
enough-json true given p n (T ∷ L) None known listing some count part is = let none : T ∷ L ≡ [] = part.0.1 ∙ ap (filter part.0.0) (no-optima p is) in absurd cc
enough-json true given p n (T ∷ L) (Some b) known listing some count part is =
    (b.0, T ∷ L, an-optimum p b.0 b.1 is, (part.0, count), ap (λ (c : List ℤ). json_found given p (found Opt Limited (T ∷ L) (Some (b.0, c)) None)) is.sums)

enough-opt : (form : Form) (given : Options) (p : Program) (n : ℕ) (L : List Atoms) (best : Option (Atoms × List ℤ)) (known : Option Atoms) →
    asks_list given.all_optima Opt ≡ true → 0 < n → length L ≡ n
    → IsPartOf given.all_optima false p Opt (found Opt Limited L best known) → IsBest p best
    → (S : Atoms) × (Ss : List Atoms) × Contains (optima p) S × ArePicked n (optima p) Ss
    × InForm form (text_for form given p (found Opt Limited L best known) ≡ lines (is_brief given) p Ss ++ cost_line (cost p S) ++ last_lines n)
    (text_for form given p (found Opt Limited L best known) ≡ json_found given p (found Opt Limited Ss (Some (S, cost p S)) None))
enough-opt Text given p n L best known listing some count part is = opt-limited given.all_optima (is_brief given) p n L best known listing some count part is
enough-opt Json given p n L best known listing some count part is = enough-json given.all_optima given p n L best known listing some count part is

filter-less : (f : Atoms → Bool) (all : List Atoms) → length (filter f all) ≤ length all
filter-less f [] = omega arith
filter-less f (S ∷ all) = by (f S) (filter-less f all)
  where
    by : (b : Bool) → length (filter f all) ≤ length all → length (cond b (S ∷ filter f all) (filter f all)) ≤ length (S ∷ all)
    by true less = omega (arith, less)
    by false less = omega (arith, less)

-- of no more than there are
few-of : (n : ℕ) (all L : List Atoms) → ArePicked n all L → n ≤ length all
few-of n all L picked =
    let less : length (filter picked.0.0 all) ≤ length all = filter-less picked.0.0 all in
    let same : length L ≡ length (filter picked.0.0 all) = ap length picked.0.1 in
    omega (arith, less, same, picked.1)

brief-lines : (brief : Bool) (p : Program) (L M : List Atoms) → brief ≡ true → lines brief p L ≡ lines brief p M
brief-lines true p L M e = refl
brief-lines false p L M e = absurd (false≢true e)

-- what such a text tells, in this form
abbrev ToldEnough : Form → Bool → Options → Program → List ℕ → List Atoms → Type 0
ToldEnough form streamed given p text Ss = InForm form (ArePickedBy streamed given.models (answers p) Ss × (text ≡ lines (is_brief given) p Ss ++ last_lines given.models))
    (ArePicked given.models (answers p) Ss × (text ≡ json_found given p (found Enum Limited Ss None None)))

-- With `--stream` no line tells which they are.
tells-listed-enough : (given : Options) (p : Program) (L : List Atoms) (best : Option (Atoms × List ℤ)) (known : Option Atoms) → ArePicked given.models (answers p) L
    → (given.form ≡ Text → given.stream ≡ true → is_brief given ≡ true) → TellsEnough given p Enum (text_for given.form given p (found Enum Limited L best known))
tells-listed-enough given p L best known picked brief = by given.form refl
  where
    text : plain_text p (found Enum Limited L best known) (is_brief given) ≡ lines (is_brief given) p L ++ last_lines given.models
    text = enough-enum Text given p given.models L best known picked.1

    in-lines : (streamed : Bool) → given.form ≡ Text → given.stream ≡ streamed → (Ss : List Atoms) × ToldEnough Text streamed given p (text_for Text given p (found Enum Limited L best known)) Ss
    in-lines false form stream = (L, (picked, text))
    in-lines true form stream = (
      take given.models (answers p),
      (
        (refl, length-take-le given.models (answers p) (few-of given.models (answers p) L picked)),
        text ∙ ap (λ (x : List ℕ). x ++ last_lines given.models) (brief-lines (is_brief given) p L (take given.models (answers p)) (brief form stream)),
      ),
    )

    by : (form : Form) → given.form ≡ form → (Ss : List Atoms) × ToldEnough form given.stream given p (text_for form given p (found Enum Limited L best known)) Ss
    by Text form = in-lines given.stream form refl
    by Json form = (L, (picked, enough-enum Json given p given.models L best known picked.1))

-- what a text of optima tells, in this form
abbrev ToldOptima : Form → Bool → Options → Program → List ℕ → Atoms → List Atoms → Type 0
ToldOptima form streamed given p text S Ss =
    InForm form (ArePickedBy streamed given.models (optima p) Ss × (text ≡ lines (is_brief given) p Ss ++ cost_line (cost p S) ++ last_lines given.models))
    (ArePicked given.models (optima p) Ss × (text ≡ json_found given p (found Opt Limited Ss (Some (S, cost p S)) None)))

-- Of them too no line tells which they are with `--stream`.
tells-optima-enough : (given : Options) (p : Program) (L : List Atoms) (best : Option (Atoms × List ℤ)) (known : Option Atoms) →
    asks_list given.all_optima Opt ≡ true → 0 < given.models → length L ≡ given.models
    → IsPartOf given.all_optima false p Opt (found Opt Limited L best known) → IsBest p best
    → (given.form ≡ Text → given.stream ≡ true → is_brief given ≡ true) → TellsEnough given p Opt (text_for given.form given p (found Opt Limited L best known))
tells-optima-enough given p L best known listing some count part is brief = by given.form refl
  where
    in-lines : (streamed : Bool) → given.form ≡ Text → given.stream ≡ streamed →
        (S : Atoms) × (Ss : List Atoms) × Contains (optima p) S × ToldOptima Text streamed given p (text_for Text given p (found Opt Limited L best known)) S Ss
    in-lines false form stream =
        let told = enough-opt Text given p given.models L best known listing some count part is in
        (told.0, told.1, told.2, (told.3, told.4))
    in-lines true form stream =
        let told = enough-opt Text given p given.models L best known listing some count part is in (
          told.0,
          take given.models (optima p),
          told.2,
          (
            (refl, length-take-le given.models (optima p) (few-of given.models (optima p) told.1 told.3)),
            told.4 ∙ ap (λ (x : List ℕ). x ++ cost_line (cost p told.0) ++ last_lines given.models)
                (brief-lines (is_brief given) p told.1 (take given.models (optima p)) (brief form stream)),
          ),
        )

    by : (form : Form) → given.form ≡ form →
        (S : Atoms) × (Ss : List Atoms) × Contains (optima p) S × ToldOptima form given.stream given p (text_for form given p (found Opt Limited L best known)) S Ss
    by Text form = in-lines given.stream form refl
    by Json form =
        let told = enough-opt Json given p given.models L best known listing some count part is in
        (told.0, told.1, told.2, (told.3, told.4))

-- the first of the list were written, in lines
first-lines : (mode : Mode) (given : Options) (p : Program) (price : Option (List ℤ)) → IsListing given p → is_list given.all_optima mode ≡ true → IsCostOf mode p price
    → given.models ≤ length (whole_list mode p) → TellsEnough given p mode (first_text price p (whole_list mode p) given.models)
first-lines Enum given p price list listed is enough =
    let Ss : List Atoms = take given.models (answers p) in
    let count : length Ss ≡ given.models = length-take-le given.models (answers p) enough in
    let text : first_text None p (answers p) given.models ≡ lines (is_brief given) p Ss ++ last_lines given.models =
    joined (lines false p Ss) _ _ (ap last_lines count) ∙ ap (λ (b : Bool). lines b p Ss ++ last_lines given.models) (sym list.full) in
    let told : ToldEnough Text given.stream given p (first_text None p (answers p) given.models) Ss =
    (subst (λ (b : Bool). ArePickedBy b given.models (answers p) Ss) (sym list.stream) (refl, count), text) in
    subst (λ (c : Option (List ℤ)). TellsEnough given p Enum (first_text c p (answers p) given.models)) (sym is)
    (Ss, subst (λ (f : Form). ToldEnough f given.stream given p (first_text None p (answers p) given.models) Ss) (sym list.form) told)
first-lines Opt given p price list listed is enough =
    let Ss : List Atoms = take given.models (optima p) in
    let S : Atoms = is.0 in
    let count : length Ss ≡ given.models = length-take-le given.models (optima p) enough in
    let text : first_text (Some (cost p S)) p (optima p) given.models ≡ lines (is_brief given) p Ss ++ cost_line (cost p S) ++ last_lines given.models =
    sym (append_assoc (lines false p Ss) (cost_line (cost p S)) (closing_of Opt Limited (length Ss)))
    ∙ ap (λ (n : ℕ). lines false p Ss ++ cost_line (cost p S) ++ last_lines n) count
    ∙ ap (λ (b : Bool). lines b p Ss ++ cost_line (cost p S) ++ last_lines given.models) (sym list.full) in
    let told : ToldOptima Text given.stream given p (first_text (Some (cost p S)) p (optima p) given.models) S Ss =
    (subst (λ (b : Bool). ArePickedBy b given.models (optima p) Ss) (sym list.stream) (refl, count), text) in
    subst (λ (c : Option (List ℤ)). TellsEnough given p Opt (first_text c p (optima p) given.models)) (sym is.2)
    (S, Ss, is.1, subst (λ (f : Form). ToldOptima f given.stream given p (first_text (Some (cost p S)) p (optima p) given.models) S Ss) (sym list.form) told)
first-lines (Consequences w) given p price list listed is enough = absurd (false≢true listed)

first-told : (given : Options) (p : Program) (price : Option (List ℤ)) → IsListing given p → IsCostOf (mode_of given.mode p) p price
    → given.models ≤ length (whole_list (mode_of given.mode p) p)
    → TellsEnough given p (mode_of given.mode p) (first_text price p (whole_list (mode_of given.mode p) p) given.models)
first-told given p price list is enough = first-lines (mode_of given.mode p) given p price list list.lists is enough

-- ---- whether there is a model, told with what was set aside
some-map : {A B : Type 0} (f : A → B) (L : List A) → is_some_of (map f L) ≡ is_some_of L
some-map f [] = refl
some-map f (x ∷ L) = refl

some-bests : (F : Aside) (best : Option (Atoms × List ℤ)) (L : List Atoms) → is_some_of (bests (option_map (λ b. (restored F b.0, b.1)) best) (map (restored F) L)) ≡ is_some_of (bests best L)
some-bests F None [] = refl
some-bests F (Some b) [] = refl
some-bests F best (S ∷ L) = refl

some-known : (F : Aside) (known : Option Atoms) → is_some (option_map (restored F) known) ≡ is_some known
some-known F None = refl
some-known F (Some S) = refl

model-with : (F : Aside) (mode : Mode) (r : Found) → has_model_in mode (found_with F r) ≡ has_model_in mode r
model-with F Enum r = some-map (restored F) r.answers
model-with F Opt r = some-bests F r.best r.answers
model-with F (Consequences w) r = some-known F r.known

-- neither the mode nor the end that are kept with it matter
model-of : (mode m : Mode) (end : End) (r : Found) → has_model_in mode (found m end r.answers r.best r.known) ≡ has_model_in mode r
model-of Enum m end r = refl
model-of Opt m end r = refl
model-of (Consequences w) m end r = refl

part-of : (all : Bool) (p : Program) (mode m : Mode) (end : End) (r : Found) → IsPartOf all false p mode r → IsPartOf all false p mode (found m end r.answers r.best r.known)
part-of false p Enum m end r is = is
part-of false p Opt m end r is = is
part-of false p (Consequences w) m end r is = is
part-of true p Enum m end r is = is
part-of true p Opt m end r is = is
part-of true p (Consequences w) m end r is = is

-- ---- the program whose answers were sought
pub named-last : (a b c : Bool) → b ≡ false → (a && b && c) ≡ false
named-last true false c e = refl
named-last false false c e = refl
named-last a true c e = absurd (false≢true (sym e))

last-of : (a b c : Bool) → (a && b && c) ≡ true → c ≡ true
last-of true true c e = e
last-of true false c e = absurd (false≢true e)
last-of false b c e = absurd (false≢true e)

last-named : (a b c d : Bool) → a ≡ true → b ≡ true → (a && b && c) ≡ d → c ≡ d
last-named true true c d x y e = e
last-named true false c d x y e = absurd (false≢true y)
last-named false b c d x y e = absurd (false≢true x)

pub unsought-mode : (o : Option Mode) (p : Program) (mode : Mode) → mode_of o p ≡ mode → reasoning_of mode ≡ None → seeks_consequences (Some o) ≡ false
unsought-mode None p mode is listed = refl
unsought-mode (Some Enum) p mode is listed = refl
unsought-mode (Some Opt) p mode is listed = refl
unsought-mode (Some (Consequences w)) p mode is listed = absurd (let some : Some w ≡ None = ap reasoning_of is ∙ listed in let f : ⊥ = cc in f)

own-listed : (ms : List Minimize) (w : Reasoning) → mode_by ms ≡ Consequences w → ⊥
own-listed [] w e = cc
own-listed (m ∷ ms) w e = cc

sought-mode : (o : Option Mode) (p : Program) (w : Reasoning) → mode_of o p ≡ Consequences w → seeks_consequences (Some o) ≡ true
sought-mode None p w is = absurd (own-listed p.minimize w is)
sought-mode (Some Enum) p w is = absurd cc
sought-mode (Some Opt) p w is = absurd cc
sought-mode (Some (Consequences v)) p w is = refl

-- where a list is sought it is the program itself
asked-listed : (given : Options) (p : Program) (mode : Mode) → mode_of given.mode p ≡ mode → reasoning_of mode ≡ None → asked given p ≡ p
asked-listed given p mode is listed =
    ap (λ (b : Bool). cond b (named p) p)
    (named-last (is_settled given) (seeks_consequences (Some given.mode)) (given.names || is_json given.form)
    (unsought-mode given.mode p mode is listed))

-- ---- consequences by name are those of the program
no-answers : (p : Program) → IsSound p → has_numbers p ≡ true → answers p ≡ [] → answers (named p) ≡ []
no-answers p sound numbers none = answers-named (first_free p) p (split-named p sound numbers) ∙ ap (map (extended p)) none

no-source : (Ss : List Atoms) (f : Atoms → Atoms) → map f Ss ≡ [] → Ss ≡ []
no-source [] f e = refl
no-source (S ∷ Ss) f e = absurd cc

no-named : (p : Program) → IsSound p → has_numbers p ≡ true → answers (named p) ≡ [] → answers p ≡ []
no-named p sound numbers none = no-source (answers p) (extended p) (sym (answers-named (first_free p) p (split-named p sound numbers)) ∙ none)

-- what the theorem says of the text
abbrev ToldBy : Form → Bool → Bool → Program → Reasoning → List ℕ → Type 0
ToldBy form names brief p w text = InForm form (text ≡ told_line names w p ++ ended_line (codes "CONSEQUENCES FOUND"))
    (text ≡ json_with p (found (Consequences w) Finished [] None (Some (consequences w p (answers p)))) (told_texts w p) brief)

by-name : (form : Form) (names brief : Bool) (p : Program) (w : Reasoning) (text : List ℕ) → (names || is_json form) ≡ true →
    shown (named p) (consequences w (named p) (answers (named p))) ≡ told_texts w p
    → ToldOf form names brief (named p) w text → ToldBy form names brief p w text
by-name Text true brief p w text named-so texts told = told ∙ ap (λ (ts : List (List ℕ)). named_line ts ++ ended_line (codes "CONSEQUENCES FOUND")) texts
by-name Text false brief p w text named-so texts told = absurd (false≢true named-so)
by-name Json names brief p w text named-so texts told = told ∙ ap (λ (ts : List (List ℕ)). json_with p (found (Consequences w) Finished [] None (Some (consequences w p (answers p)))) ts brief) texts

each-number : (B : Atoms) → flat_map (λ a. 32 ∷ decimal a) B ≡ flat_map (λ (t : List ℕ). 32 ∷ t) (map decimal B)
each-number [] = refl
each-number (a ∷ B) = ap (λ (t : List ℕ). 32 ∷ (decimal a ++ t)) (each-number B)

numbers-line : (B : Atoms) → consequences_line (Some B) ≡ named_line (map decimal B)
numbers-line B = ap (λ (t : List ℕ). ended_line (codes "Consequences:" ++ t)) (each-number B)

by-number : (form : Form) (names brief : Bool) (p : Program) (w : Reasoning) (text : List ℕ) → (names || is_json form) ≡ false → ToldOf form names brief p w text → ToldBy form names brief p w text
by-number Text true brief p w text unnamed told = absurd (false≢true (sym unnamed))
by-number Text false brief p w text unnamed told = told ∙ ap (λ (t : List ℕ). t ++ ended_line (codes "CONSEQUENCES FOUND")) (numbers-line (consequences w p (answers p)))
by-number Json true brief p w text unnamed told = absurd (false≢true (sym unnamed))
by-number Json false brief p w text unnamed told = absurd (false≢true (sym unnamed))

consequences-asked : (given : Options) (p : Program) (w : Reasoning) (text : List ℕ) (b : Bool) → is_settled given ≡ true → IsSound p →
    HasNumbers given p → mode_of given.mode p ≡ Consequences w → is_named given ≡ b
    → ¬ (answers (cond b (named p) p) ≡ []) × ToldOf given.form given.names (is_brief given) (cond b (named p) p) w text → TellsAll given p (Consequences w) text
consequences-asked given p w text true settled sound numbers mode by told =
    let enough = numbers by in
    let some : ¬ (answers p ≡ []) = λ none. told.0 (no-answers p sound enough none) in (
      some,
      by-name given.form given.names (is_brief given) p w text
          (last-named (is_settled given) (seeks_consequences (Some given.mode)) (given.names || is_json given.form) true settled
          (sought-mode given.mode p w mode) by)
          (told-named w (first_free p) p (split-named p sound enough) some) told.1,
    )
consequences-asked given p w text false settled sound numbers mode by told = (
  told.0,
  by-number given.form given.names (is_brief given) p w text
      (last-named (is_settled given) (seeks_consequences (Some given.mode)) (given.names || is_json given.form) false settled
      (sought-mode given.mode p w mode) by) told.1,
)

none-asked : (given : Options) (p : Program) (b : Bool) → IsSound p → HasNumbers given p → is_named given ≡ b → answers (cond b (named p) p) ≡ [] → answers p ≡ []
none-asked given p true sound numbers by none = no-named p sound (numbers by) none
none-asked given p false sound numbers by none = none

-- ---- what is told of the program itself, of a report on the program whose answers were sought
settled-from : (given : Options) → given.proof ≡ false → given.split ≡ None → is_settled given ≡ true
settled-from given plain whole = ap (λ (b : Bool). not (b || is_some given.split)) plain ∙ ap (λ (o : Option ℕ). not (is_some o)) whole

all-asked : (given : Options) (p : Program) (mode : Mode) (L : List Atoms) (best : Option (Atoms × List ℤ)) (known : Option Atoms) →
    is_settled given ≡ true → IsSound p → HasNumbers given p → mode_of given.mode p ≡ mode
    → IsAllFound given.all_optima false (asked given p) mode L best known → has_model_in mode (found mode Finished L best known) ≡ true
    → TellsAll given p mode (text_for given.form given (asked given p) (found mode Finished L best known))
all-asked given p Enum L best known settled sound numbers mode is some =
    subst (λ (q : Program). IsAllFound given.all_optima false q Enum L best known →
    TellsAll given p Enum (text_for given.form given q (found Enum Finished L best known))) (sym (asked-listed given p Enum mode refl))
    (λ own. tells-listed given p Enum L best known refl own some) is
all-asked given p Opt L best known settled sound numbers mode is some =
    subst (λ (q : Program). IsAllFound given.all_optima false q Opt L best known →
    TellsAll given p Opt (text_for given.form given q (found Opt Finished L best known))) (sym (asked-listed given p Opt mode refl))
    (λ own. tells-listed given p Opt L best known refl own some) is
all-asked given p (Consequences w) L best known settled sound numbers mode is some =
    consequences-asked given p w (text_for given.form given (asked given p) (found (Consequences w) Finished L best known)) (is_named given) settled sound numbers mode refl
    (consequences-told given.form given (asked given p) w L best known (found-consequences given.all_optima (asked given p) w L best known is) some)

none-in : (form : Form) (given : Options) (p q : Program) (w : Reasoning) (text : List ℕ) →
    InForm form (text ≡ none_text (Consequences w)) (text ≡ json_found given q (found (Consequences w) Finished [] None None)) →
    InForm form (text ≡ none_text (Consequences w)) (text ≡ json_found given p (found (Consequences w) Finished [] None None))
none-in Text given p q w text told = told
none-in Json given p q w text told = told

nothing-asked : (given : Options) (p : Program) (mode : Mode) (L : List Atoms) (best : Option (Atoms × List ℤ)) (known : Option Atoms) → IsSound p → HasNumbers given p → mode_of given.mode p ≡ mode
    → IsAllFound given.all_optima false (asked given p) mode L best known → has_model_in mode (found mode Finished L best known) ≡ false
    → TellsNone given p mode (text_for given.form given (asked given p) (found mode Finished L best known))
nothing-asked given p Enum L best known sound numbers mode is none =
    subst (λ (q : Program). IsAllFound given.all_optima false q Enum L best known →
    TellsNone given p Enum (text_for given.form given q (found Enum Finished L best known))) (sym (asked-listed given p Enum mode refl))
    (λ own. tells-none given p Enum L best known own none) is
nothing-asked given p Opt L best known sound numbers mode is none =
    subst (λ (q : Program). IsAllFound given.all_optima false q Opt L best known →
    TellsNone given p Opt (text_for given.form given q (found Opt Finished L best known))) (sym (asked-listed given p Opt mode refl))
    (λ own. tells-none given p Opt L best known own none) is
nothing-asked given p (Consequences w) L best known sound numbers mode is none =
    let told = tells-none given (asked given p) (Consequences w) L best known is none in (
      none-asked given p (is_named given) sound numbers refl told.0,
      none-in given.form given p (asked given p) w (text_for given.form given (asked given p) (found (Consequences w) Finished L best known))
          told.1,
    )

-- Where a list isn't written while it is found, it isn't, or not as lines.
brief-so : (given : Options) (p : Program) → is_settled given ≡ true → is_list given.all_optima (mode_of given.mode p) ≡ true → streams given p ≡ false →
    given.form ≡ Text → given.stream ≡ true → is_brief given ≡ true
brief-so given p settled lists off form stream = by (is_brief given) refl
  where
    by : (b : Bool) → is_brief given ≡ b → is_brief given ≡ true
    by true e = e
    by false e = absurd (false≢true (sym off ∙ streams-by given p (record { stream = stream; lists = lists; form = form; full = e; settled = settled })))

enough-asked : (given : Options) (p : Program) (mode : Mode) (L : List Atoms) (best : Option (Atoms × List ℤ)) (known : Option Atoms) →
    is_settled given ≡ true → streams given p ≡ false → mode_of given.mode p ≡ mode → asks_list given.all_optima mode ≡ true → 0 < given.models
    → length L ≡ given.models → IsPartOf given.all_optima false (asked given p) mode (found mode Limited L best known) → HasBest (asked given p) mode best
    → TellsEnough given p mode (text_for given.form given (asked given p) (found mode Limited L best known))
enough-asked given p Enum L best known settled off mode listing some count part is =
    subst (λ (q : Program). IsPartOf given.all_optima false q Enum (found Enum Limited L best known) →
    TellsEnough given p Enum (text_for given.form given q (found Enum Limited L best known))) (sym (asked-listed given p Enum mode refl))
    (λ own. tells-listed-enough given p L best known (part-enum given.all_optima p (found Enum Limited L best known) own, count)
    (brief-so given p settled (ap (is_list given.all_optima) mode) off)) part
enough-asked given p Opt L best known settled off mode listing some count part is =
    subst (λ (q : Program). IsPartOf given.all_optima false q Opt (found Opt Limited L best known) → HasBest q Opt best →
    TellsEnough given p Opt (text_for given.form given q (found Opt Limited L best known))) (sym (asked-listed given p Opt mode refl))
    (λ own best-own. tells-optima-enough given p L best known listing some count own best-own
    (brief-so given p settled (ap (is_list given.all_optima) mode ∙ listing) off)) part is
enough-asked given p (Consequences w) L best known settled off mode listing some count part is = absurd (false≢true listing)

-- A run that asks for all answers has no limit.
unstreamed : (b : Bool) (n : ℕ) → 0 < cond b 0 n → b ≡ false
unstreamed true n some = let f : ⊥ = omega (arith, some) in absurd f
unstreamed false n some = refl

enough-run : (given : Options) (p : Program) (L : List Atoms) (best : Option (Atoms × List ℤ)) (known : Option Atoms) → is_settled given ≡ true
    → IsAsked (asked given p) (without_names (run_ask given p)) (found (mode_of given.mode p) Limited L best known)
    → TellsEnough given p (mode_of given.mode p) (text_for given.form given (asked given p) (found (mode_of given.mode p) Limited L best known))
enough-run given p L best known settled says =
    let off = unstreamed (streams given p) given.models says.some in
    let limit : cond (streams given p) 0 given.models ≡ given.models = ap (λ (b : Bool). cond b 0 given.models) off in
    enough-asked given p (mode_of given.mode p) L best known settled off refl says.listing (subst (λ (n : ℕ). 0 < n) limit says.some) (says.count ∙ limit) says.part says.best

-- ---- the theorem
-- a text with its mode and its end
text-of : (form : Form) (p : Program) (r : Found) (brief names : Bool) (mode : Mode) (end : End) → r.mode ≡ mode → r.end ≡ end →
    text_in form p r brief names ≡ text_in form p (found mode end r.answers r.best r.known) brief names
text-of form p r brief names mode end m e =
    ap (λ (x : Mode). text_in form p (found x r.end r.answers r.best r.known) brief names) m ∙ ap (λ (x : End). text_in form p (found mode x r.answers r.best r.known) brief names) e

-- A report of such a run tells this.
abbrev Telling : Options → End → Bool → (Program → Mode → List ℕ → Type 0) → Type 0
Telling given end model Tells = (p : Program) (R : Report) → is_settled given ≡ true → IsSound p → HasNumbers given p → SaysReport (asked given p) (without_names (run_ask given p)) R end
    → has_model_in (mode_of given.mode p) (found (mode_of given.mode p) end R.results.answers R.results.best R.results.known) ≡ model
    → Tells p (mode_of given.mode p) (text_for given.form given (asked given p) (found (mode_of given.mode p) end R.results.answers R.results.best R.results.known))

wrote : (given : Options) (a : Around) (report : Option Report) (end : End) (model : Bool) (Tells : Program → Mode → List ℕ → Type 0) (is_sent : Bool)
    → given.proof ≡ false → Telling given end model Tells → IsWritten given a report end model
    → is_sent ≡ true → Wrote given a.left a.held a.held' is_sent Tells
wrote given a report end model Tells is_sent plain telling w sent =
    let p = w.solved.program in
    let q = asked given p in
    let done = w.solved.done in
    let F = set_aside given p in
    let told = report_with F done in
    let s = w.solved.says in
    let R = with_known s.known told in
    let mode = mode_of given.mode p in
    let same : report_text q told (layout_of given) ≡ text_for given.form given q (found mode end R.results.answers R.results.best R.results.known) =
    text-of given.form q told.results (is_brief given) given.names mode end w.solved.is.mode_is w.end_is
    ∙ text-same given.form given.names (is_brief given) q mode end told.results.answers told.results.best told.results.known s.known (is_named given)
    (last-of (is_settled given) (seeks_consequences (Some given.mode)) (given.names || is_json given.form)) s.same in
    record {
      program = p;
      input = input-of given.format given.make a p w.solved.source;
      text = text_for given.form given q (found mode end R.results.answers R.results.best R.results.known);
      tells = telling p R (settled-from given plain w.solved.whole) w.solved.sound w.solved.numbers (subst (SaysReport q (without_names (run_ask given p)) R) w.end_is s.says)
          (model-same (is_named given) q mode end told.results.answers told.results.best s.known told.results.known s.same
          ∙ model-of mode mode end told.results ∙ ap (λ m. has_model_in m told.results) (sym w.solved.is.mode_is)
          ∙ model-with F done.results.mode done.results ∙ w.model_is);
      written = subst (Appends a.held a.held') same (subst (λ (b : Bool). HasText b given p done (Appends a.held a.held')) plain w.text);
      sent = sent;
    }

pub whole : (given : Options) (a : Around) (o : Outcome) (is_sent : Bool) → given.proof ≡ false → Runs given a o → IsSentOn o.status is_sent → IsWhole given a.left a.held a.held' is_sent o.status
whole given a o is_sent plain runs sent = by o.status runs.means sent
  where
    by : (s : Status) → Means given a o.report s → IsSentOn s is_sent → IsWhole given a.left a.held a.held' is_sent s
    by All m sent = wrote given a o.report Finished true (TellsAll given) is_sent plain
        (λ p R settled sound numbers says some. all-asked given p (mode_of given.mode p) R.results.answers R.results.best R.results.known settled sound numbers refl says some) m (sent refl)
    by NoModel m sent = wrote given a o.report Finished false (TellsNone given) is_sent plain
        (λ p R settled sound numbers says none. nothing-asked given p (mode_of given.mode p) R.results.answers R.results.best R.results.known sound numbers refl says none) m (sent refl)
    by Enough (inl m) sent = wrote given a o.report Limited true (TellsEnough given) is_sent plain
        (λ p R settled sound numbers says some. enough-run given p R.results.answers R.results.best R.results.known settled (record {
          listing = says.listing;
          some = says.some;
          count = says.count;
          part = part-of given.all_optima (asked given p) (mode_of given.mode p) (mode_of given.mode p) Limited R.results says.part;
          best = says.best;
        })) m (sent refl)
    by Enough (inr m) sent = record {
      program = m.has.program;
      input = input-of given.format given.make a m.has.program m.has.source;
      text = first_text m.has.price m.has.program (whole_list (mode_of given.mode m.has.program) m.has.program) given.models;
      tells = first-told given m.has.program m.has.price (is-listing given m.has.program m.has.streamed) m.has.told m.has.enough;
      written = m.text;
      sent = sent refl;
    }
    by status m sent = tt

-- the same where the words of a run give these options
pub whole-on : (own given : Options) (g : Given) (a : Around) (o : Outcome) (is_sent : Bool) → options own ≡ g → RunsBy own.queries own a o →
    IsSentOn o.status is_sent → g ≡ options given → given.proof ≡ false → given.queries ≡ false
    → IsWhole given a.left a.held a.held' is_sent o.status
whole-on own given g a o is_sent first runs sent second plain one =
    whole given a o is_sent plain (subst (λ (b : Bool). RunsBy b given a o) one (subst (λ (x : Given). RunsOn x a o) (first ∙ second) runs)) sent
