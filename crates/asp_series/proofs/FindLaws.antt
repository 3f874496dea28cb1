-- What was found of a query, from scratch or by a search that is kept: what it says of the program, and its text.
use Rattle.std.proofs.Common.{◌≡◌, ◌∙◌, ℕ, ◌+◌, Bool, true, false, cond, List, [], ◌∷◌, ◌++◌, map, refl, sym, ap, subst, inl, inr}
use Rattle.std.specs.Prelude.{ℤ, Option, None, Some, IfSome, codes}
use Rattle.std.specs.List.{join_with_byte}
use Rattle.asp_model.specs.declared.program.Output.{Output}
use Rattle.asp_model.specs.declared.program.Program.{Program}
use Rattle.asp_model.specs.declared.results.End.{End}
use Rattle.asp_model.specs.declared.results.Mode.{Mode}
use Rattle.asp_model.specs.declared.results.Mode.TheVariants.{Enum, Opt, Consequences}
use Rattle.asp_model.specs.Asked.{reasoning_of}
use Rattle.asp_model.specs.Found.{Found}
use Rattle.asp_model.specs.Sets.{Atoms}
use Rattle.asp_model.specs.Sound.{IsSound}
use Rattle.asp_model.specs.Texts.{answer_lines, answers_from, bests, closing_lines, found_count, recorded}
use Rattle.asp_equal.specs.declared.reduce.Aside.{Aside}
use Rattle.asp_equal.specs.Reduced.{none_aside}
use Rattle.asp_print.specs.Named.{known_line, known_names, printed_text, sums_line}
use Rattle.asp_print.specs.Queries.{core_line, query_line}
use Rattle.asp_json.specs.Entries.{core_text, entry_results, entry_start, is_listed}
use Rattle.asp_print.specs.Shown.{separator}
use Rattle.asp_json.specs.Json.{known_texts, recorded_text, summary_text, witness, witnesses}
use Rattle.asp_cli.specs.declared.Form.{Form}
use Rattle.asp_cli.specs.declared.Form.TheVariants.{Text, Json}
use Rattle.asp_cli.specs.declared.Options.{Options}
use Rattle.asp_cli.specs.Found.{seeks_consequences}
use Rattle.asp_crew_laws.specs.declared.report.Report.{Report}
use Rattle.asp_crew_laws.specs.Reports.{IsAllFound, Says as SaysReport}
use Rattle.asp_query.specs.Kept.{HasCore, query_of}
use Rattle.asp_read.specs.Queries.{with_query}
use Rattle.asp_prepare.specs.declared.prepared.Prepared.{Prepared}
use Rattle.asp_prepare.specs.Meaning.{has_model, has_model_in, mode_of}
use Rattle.asp_prepare.specs.Naming.{asked, searched, set_aside}
use Rattle.asp_prepare.specs.Told.{found_with, report_with}
use Rattle.asp_prepare.proofs.AskedLaws.{unsought}
use Rattle.asp_prepare.proofs.ToldLaws.{listed-entry, listed-text, told-plain}
use Rattle.asp_series.specs.declared.ask.Sought.{Sought}
use Rattle.asp_series.specs.Asking.{IsEnough, IsFoundBy, Refutes, aside_in, kept_core, searched_in}
use Rattle.asp_series.specs.Series.{IsAsked, IsDoneBy, about, is_done, is_enum, is_refuted, query_in}
use Rattle.asp_series.proofs.AskLaws.{listed-of, no-answer, parts, plain, same-mode, says-of}
use Rattle.asp_series.proofs.CoreLaws.{refuted}
use Rattle.asp_series.proofs.QueryLaws.{query-answers}

-- ---- by the search that is kept
enum-is : (mode : Mode) → is_enum mode ≡ true → mode ≡ Enum
enum-is Enum e = refl
enum-is Opt e = absurd (let f : ⊥ = cc in f)
enum-is (Consequences w) e = absurd (let f : ⊥ = cc in f)

-- as where nothing is set aside for a proof
abbrev unsettled : Options → Options
unsettled given = record given { proof = true }

module _ (given : Options) (p : Program) (query : List ℤ) (units : ℕ) (r : Report) (is : IsAsked given p query units r) where
  abbrev q : Program
  q = with_query p query

  pub kept-asks : mode_of given.mode q ≡ Enum
  kept-asks = sym (same-mode given.mode p query) ∙ enum-is (mode_of given.mode p) is.all

  all-said : SaysReport q (about given q) r r.results.end
  all-said =
      subst (λ (end : End). SaysReport q (about given q) r end) (sym is.report.end)
      (subst (λ (mode : Mode). IsAllFound false false q mode r.results.answers r.results.best r.results.known) (sym kept-asks)
      (is.report.answers ∙ query-answers p query is.stands, is.report.best))

  pub kept-says : IsSound q → SaysReport q (about given q) (report_with none_aside r) r.results.end
  kept-says sound = told-plain (unsettled given) q (about given q) r r.results.end sound all-said

-- ---- by either
module _ (given : Options) (p : Program) (query : List ℤ) (units : ℕ) (s : Sought) where
  abbrev asking : Program
  asking = with_query p query

  pub found-mode : IsFoundBy given p query units s → s.report.results.mode ≡ mode_of given.mode asking
  found-mode (inl is) = is.report.mode_is
  found-mode (inr is) = is.1.report.mode_is ∙ sym (kept-asks given p query units s.report is.1)

  pub found-budget : IsFoundBy given p query units s → s.report.paid.left + s.report.spent ≡ units
  found-budget (inl is) = is.report.budget
  found-budget (inr is) = is.1.report.budget

  pub found-is : IsFoundBy given p query units s → IsDoneBy given p query units (aside_in s.prepared) s.report
  found-is (inl is) = inl (record { aside = ap aside_in is.prepared; report = is.report })
  found-is (inr is) = inr (ap aside_in is.0, is.1)

  pub found-says : seeks_consequences (Some given.mode) ≡ false → IsSound asking → IsFoundBy given p query units s →
      SaysReport asking (about given asking) (report_with (aside_in s.prepared) s.report) s.report.results.end
  found-says e sound (inl is) =
      subst (λ (A : Aside). SaysReport asking (about given asking) (report_with A s.report) s.report.results.end) (sym (ap aside_in is.prepared))
      (says-of given asking (about given asking) s.report e sound is.report.says)
  found-says e sound (inr is) =
      subst (λ (A : Aside). SaysReport asking (about given asking) (report_with A s.report) s.report.results.end) (sym (ap aside_in is.0))
      (kept-says given p query units s.report is.1 sound)

  -- a query that was finished without a model has no answer
  pub query-refuted : seeks_consequences (Some given.mode) ≡ false → IsSound p → IsSound asking → IsFoundBy given p query units s →
      is_refuted s.report.results ≡ true → Refutes p (p.assumptions ++ query)
  query-refuted e itself sound found is =
      let r = s.report in
      let both = parts (is_done r.results.end) (has_model r.results) is in
      let none : has_model_in (mode_of given.mode asking) r.results ≡ false = subst (λ (m : Mode). has_model_in m r.results ≡ false) (found-mode found) both.1 in
      refuted p (p.assumptions ++ query) itself sound
      (no-answer asking (aside_in s.prepared) (mode_of given.mode asking) r r.results.end both.0 (unsought given.mode asking e) none (found-says e sound found))

  -- the core that the search that is kept told suffices
  core-enough : (A : List Atoms) (o : Option (List ℤ)) → HasCore (query_of p query units) A o → IfSome o (IsEnough p (p.assumptions ++ query))
  core-enough [] None h = tt
  core-enough [] (Some core) h = record { among = h.is.among; few = h.few; none = h.is.suffices }
  core-enough (S ∷ A) None h = tt
  core-enough (S ∷ A) (Some core) h = absurd h

  pub found-core : IsFoundBy given p query units s → IfSome (kept_core s.prepared s.report.core) (IsEnough p (p.assumptions ++ query))
  found-core (inl is) = subst (λ (o : Option Prepared). IfSome (kept_core o s.report.core) (IsEnough p (p.assumptions ++ query))) (sym is.prepared) tt
  found-core (inr is) =
      subst (λ (o : Option Prepared). IfSome (kept_core o s.report.core) (IsEnough p (p.assumptions ++ query))) (sym is.0)
      (core-enough s.report.results.answers s.report.core is.1.report.core)

-- ---- its text: a program shows the same with a query's literals assumed
module _ (p : Program) (query : List ℤ) where
  abbrev more : Program
  more = with_query p query

  same-lines : (i : ℕ) (Ss : List Atoms) → answers_from p i Ss ≡ answers_from more i Ss
  same-lines i [] = refl
  same-lines i (S ∷ Ss) = ap (λ (text : List ℕ). answer_lines p i S ++ text) (same-lines (i + 1) Ss)

  same-names : (known : Option Atoms) → known_names p known ≡ known_names more known
  same-names None = refl
  same-names (Some B) = refl

  same-known : (names : Bool) (known : Option Atoms) → known_line names p known ≡ known_line names more known
  same-known true known = same-names known
  same-known false known = refl

  same-sums : (names : Bool) (mode : Mode) (r : Found) → sums_line names p mode r ≡ sums_line names more mode r
  same-sums names Enum r = refl
  same-sums names Opt r = refl
  same-sums names (Consequences w) r = same-known names r.known

  same-printed : (r : Found) (brief names : Bool) → printed_text p r brief names ≡ printed_text more r brief names
  same-printed r brief names =
      ap (λ (text : List ℕ). cond brief [] text ++ sums_line names p r.mode r ++ closing_lines r (found_count r.mode r)) (same-lines 1 (recorded r.mode r))
      ∙ ap (λ (text : List ℕ). cond brief [] (answers_from more 1 (recorded r.mode r)) ++ text ++ closing_lines r (found_count r.mode r)) (same-sums names r.mode r)

  same-each : (best : Option (Atoms × List ℤ)) (Ss : List Atoms) → map (witness p best) Ss ≡ map (witness more best) Ss
  same-each best [] = refl
  same-each best (S ∷ Ss) = ap (λ (texts : List (List ℕ)). witness p best S ∷ texts) (same-each best Ss)

  same-witnesses : (best : Option (Atoms × List ℤ)) (Ss : List Atoms) → witnesses p best Ss ≡ witnesses more best Ss
  same-witnesses best [] = refl
  same-witnesses best (S ∷ Ss) = ap (λ (texts : List (List ℕ)). codes "\"Witnesses\":[" ++ join_with_byte 44 texts ++ codes "\n]") (same-each best (S ∷ Ss))

  same-recorded : (mode : Mode) (r : Found) → recorded_text p mode r ≡ recorded_text more mode r
  same-recorded Enum r = same-witnesses None r.answers
  same-recorded Opt r = same-witnesses r.best (bests r.best r.answers)
  same-recorded (Consequences w) r = refl

  same-texts : (known : Option Atoms) → known_texts p known ≡ known_texts more known
  same-texts None = refl
  same-texts (Some B) = refl

  same-entry : (number : ℕ) (r : Found) (brief : Bool) → entry_results p number r brief ≡ entry_results more number r brief
  same-entry number r brief =
      ap (λ (text : List ℕ). entry_start number ++ cond brief [] (separator 44 (is_listed r.mode r) ++ text) ++ summary_text r (known_texts p r.known) (found_count r.mode r))
      (same-recorded r.mode r)
      ∙ ap (λ (texts : List (List ℕ)). entry_start number ++ cond brief [] (separator 44 (is_listed r.mode r) ++ recorded_text more r.mode r)
      ++ summary_text r texts (found_count r.mode r)) (same-texts r.known)

  same-shown : (form : Form) (given : Options) (os : List Output) (number : ℕ) (r : Found) (core : Option (List ℤ)) (minimal : Bool) →
      query_in form given p os number r core minimal ≡ query_in form given more os number r core minimal
  same-shown Text given os number r core minimal =
      ap (λ (text : List ℕ). query_line number ++ text ++ core_line given.names os core minimal) (same-printed r given.quiet given.names)
  same-shown Json given os number r core minimal =
      ap (λ (text : List ℕ). text ++ (core_text given.names os core minimal ++ codes "}")) (same-entry number r given.quiet)

-- the text of what was found of what is left
same-text : (form : Form) (given : Options) (q : Program) (os : List Output) (number : ℕ) (r : Found) (core : Option (List ℤ)) (minimal : Bool) → seeks_consequences (Some given.mode) ≡ false →
    reasoning_of r.mode ≡ None → query_in form given (searched given q) os number r core minimal ≡ query_in form given q os number (found_with (set_aside given q) r) core minimal
same-text form given q os number r core minimal e listed =
    here form ∙ ap (λ (x : Program). query_in form given x os number (found_with (set_aside given q) r) core minimal) (plain given q e)
  where
    here : (form : Form) → query_in form given (searched given q) os number r core minimal ≡ query_in form given (asked given q) os number (found_with (set_aside given q) r) core minimal
    here Text = ap (λ (text : List ℕ). query_line number ++ text ++ core_line given.names os core minimal) (listed-text given q r given.quiet given.names listed)
    here Json = ap (λ (text : List ℕ). text ++ (core_text given.names os core minimal ++ codes "}")) (listed-entry given q number r given.quiet listed)

-- the text of what was found of the whole program
whole-text : (form : Form) (given : Options) (q : Program) (os : List Output) (number : ℕ) (r : Found) (core : Option (List ℤ)) (minimal : Bool) → seeks_consequences (Some given.mode) ≡ false →
    reasoning_of r.mode ≡ None → query_in form given q os number r core minimal ≡ query_in form given q os number (found_with none_aside r) core minimal
whole-text Text given q os number r core minimal e listed = same-text Text (unsettled given) q os number r core minimal e listed
whole-text Json given q os number r core minimal e listed = same-text Json (unsettled given) q os number r core minimal e listed

module _ (form : Form) (given : Options) (p : Program) (query : List ℤ) (units number : ℕ) (s : Sought) (core : Option (List ℤ)) (minimal : Bool)
    (e : seeks_consequences (Some given.mode) ≡ false) where
  abbrev TellsBy : Option Prepared → Type 0
  TellsBy o =
      query_in form given (searched_in p o) p.outputs number s.report.results core minimal
      ≡ query_in form given (with_query p query) p.outputs number (found_with (aside_in o) s.report.results) core minimal

  pub found-text : IsFoundBy given p query units s → TellsBy s.prepared
  found-text (inl is) =
      subst TellsBy (sym is.prepared)
      (same-text form given (with_query p query) p.outputs number s.report.results core minimal e (listed-of given (with_query p query) s.report.results e is.report.mode_is))
  found-text (inr is) =
      subst TellsBy (sym is.0)
      (same-shown p query form given p.outputs number s.report.results core minimal
      ∙ whole-text form given (with_query p query) p.outputs number s.report.results core minimal e (ap reasoning_of is.1.report.mode_is))
