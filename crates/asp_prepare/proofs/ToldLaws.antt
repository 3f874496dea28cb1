-- What was found of what is left of a program, told with what was set aside: it is what was asked of the program, and its text.
use Rattle.std.proofs.Common.{◌≡◌, ℕ, ◌+◌, Bool, true, false, not, ◌&&◌, ◌||◌, cond, List, [], ◌∷◌, ◌++◌, map, filter, length, refl, sym, ap, ◌∙◌, subst, ℤ, Contains}
use Rattle.std.specs.Prelude.{nat_lt, Option, None, Some, IfSome, option_map, is_some, codes, decimal}
use Rattle.std.specs.List.{join_with_byte}
use Rattle.std.proofs.lemmas.List.{length-map}
use Rattle.asp_model.specs.declared.program.Minimize.{Minimize}
use Rattle.asp_model.specs.declared.program.Program.{Program}
use Rattle.asp_model.specs.declared.program.Rule.{Rule}
use Rattle.asp_model.specs.declared.results.Ask.{Ask}
use Rattle.asp_model.specs.declared.results.End.{End}
use Rattle.asp_model.specs.declared.results.End.TheVariants.{Finished, Limited, Unfinished}
use Rattle.asp_model.specs.declared.results.Mode.{Mode}
use Rattle.asp_model.specs.declared.results.Mode.TheVariants.{Enum, Opt, Consequences}
use Rattle.asp_model.specs.Sets.{Atoms}
use Rattle.asp_model.specs.Models.{answers}
use Rattle.asp_model.specs.Consequences.{consequences_of}
use Rattle.asp_model.specs.Found.{Found}
use Rattle.asp_model.specs.Asked.{reasoning_of}
use Rattle.asp_model.specs.Sound.{IsSound}
use Rattle.asp_model.specs.Texts.{answer_lines, answers_from, best_answers, best_cost_line, bests, closing_lines, ended_line, found_count, recorded, shown}
use Rattle.asp_print.specs.Shown.{separator}
use Rattle.asp_print.specs.Named.{known_line, named_line, printed_text, sums_line}
use Rattle.asp_named.specs.Named.{named}
use Rattle.asp_prepare.specs.Naming.{ask_of, asked, is_json, is_named, is_settled, prepared_of, searched, set_aside}
use Rattle.asp_cli.specs.Found.{seeks_consequences}
use Rattle.asp_settle.specs.Settled.{left_of}
use Rattle.asp_settle.proofs.StableLaws.{contains-map}
use Rattle.asp_equal.specs.declared.reduce.Aside.{Aside}
use Rattle.asp_equal.specs.Merged.{renamed_minimize}
use Rattle.asp_equal.specs.Reduced.{aside_of, none_aside, reduced, reduced_set, restored}
use Rattle.asp_equal.proofs.AgainLaws.{restored-none, shown-again}
use Rattle.asp_equal.proofs.WholeLaws.{goes_by}
use Rattle.asp_equal.proofs.ReducedLaws.{all-consequences, chosen-reduced, cost-reduced, optima-chosen, optima-reduced, optimum-reduced, same-answers, shown-reduced, some-consequences, sound-reduced}
use Rattle.asp_model.proofs.ModelLaws.{answers-are}
use Rattle.asp_unfold.specs.Unfolded.{unfolded, unfolded_minimize}
use Rattle.asp_unfold.proofs.SameLaws.{same-answers as same-unfolded, same-consequences, same-cost, same-optima, same-optimum}
use Rattle.asp_crew_laws.specs.declared.report.Report.{Report}
use Rattle.asp_crew_laws.specs.Runs.{IsBest, IsFound}
use Rattle.asp_crew_laws.specs.Reports.{HasBest, IsAllFound, IsPart, IsPartOf, IsPriced, Says as SaysReport}
use Rattle.asp_cli.specs.declared.Options.{Options}
use Rattle.asp_prepare.specs.Meaning.{has_model, has_model_in, mode_by, mode_of}
use Rattle.asp_prepare.specs.Told.{SaysOf, ShowsAs, found_with, report_text, report_with, text_in, told_with, with_known, without_names}
use Rattle.asp_json.specs.Json.{array, best_costs, best_text, call_text, closing_text, json_text, known_text, known_texts, models_text, more, optimum_text, recorded_text, result_text, summary_text, witness, witnesses}
use Rattle.asp_json.specs.Quoting.{quoted}
use Rattle.asp_json.specs.Entries.{entry_answers, entry_results, entry_start, is_listed}
use Rattle.asp_cli.specs.declared.Form.{Form}
use Rattle.asp_cli.specs.declared.Form.TheVariants.{Text, Json}
use Rattle.asp_prepare.specs.declared.layout.Layout.{Layout}
use Rattle.asp_prepare.specs.declared.prepared.Prepared.{Prepared}
use Rattle.asp_prepare.proofs.PlainLaws.{plain-says}

-- ---- what a report says of a program whose minimise statements were unfolded
priced-unfolded : (p : Program) (best : Option (Atoms × List ℤ)) → IsSound p → IfSome best (IsPriced (unfolded p)) → IfSome best (IsPriced p)
priced-unfolded p None sound h = h
priced-unfolded p (Some b) sound h =
    let answer : Contains (answers p) b.0 = subst (λ Ss. Contains Ss b.0) (same-unfolded p) h.0 in
    (answer, h.1 ∙ same-cost p b.0 sound ((answers-are p b.0).0 answer).0)

part-unfolded : (p : Program) (mode : Mode) (r : Found) → IsSound p → IsPart false (unfolded p) mode r → IsPart false p mode r
part-unfolded p Enum r sound h = ((h.0.0, h.0.1 ∙ ap (filter h.0.0) (same-unfolded p)), h.1)
part-unfolded p Opt r sound h = (h.0, priced-unfolded p r.best sound h.1)
part-unfolded p (Consequences w) r sound h =
    (h.0, h.1, (h.2.0, h.2.1 ∙ (same-consequences w p (filter h.2.0 (answers (unfolded p))) ∙ ap (λ Ss. consequences_of w p (filter h.2.0 Ss)) (same-unfolded p))))

part_of-unfolded : (p : Program) (all : Bool) (mode : Mode) (r : Found) → IsSound p → IsPartOf all false (unfolded p) mode r → IsPartOf all false p mode r
part_of-unfolded p false mode r sound h = part-unfolded p mode r sound h
part_of-unfolded p true Enum r sound h = part-unfolded p Enum r sound h
part_of-unfolded p true (Consequences w) r sound h = part-unfolded p (Consequences w) r sound h
part_of-unfolded p true Opt r sound h = ((h.0.0, h.0.1 ∙ ap (filter h.0.0) (same-optima p sound)), priced-unfolded p r.best sound h.1)

best-unfolded : (p : Program) (best : Option (Atoms × List ℤ)) → IsSound p → IsBest (unfolded p) best → IsBest p best
best-unfolded p None sound h = sym (same-unfolded p) ∙ h
best-unfolded p (Some b) sound h = same-optimum p b.0 b.1 sound h

found-unfolded : (p : Program) (mode : Mode) (L : List Atoms) (best : Option (Atoms × List ℤ)) (known : Option Atoms) → IsSound p →
    IsFound false (unfolded p) mode L best known → IsFound false p mode L best known
found-unfolded p Enum L best known sound h = (h.0 ∙ same-unfolded p, h.1)
found-unfolded p Opt L best known sound h = (h.0, best-unfolded p best sound h.1)
found-unfolded p (Consequences w) L best known sound h = (h.0, h.1, h.2 ∙ (same-consequences w p (answers (unfolded p)) ∙ ap (consequences_of w p) (same-unfolded p)))

all_found-unfolded : (p : Program) (all : Bool) (mode : Mode) (L : List Atoms) (best : Option (Atoms × List ℤ)) (known : Option Atoms) → IsSound p →
    IsAllFound all false (unfolded p) mode L best known → IsAllFound all false p mode L best known
all_found-unfolded p false mode L best known sound h = found-unfolded p mode L best known sound h
all_found-unfolded p true Enum L best known sound h = found-unfolded p Enum L best known sound h
all_found-unfolded p true (Consequences w) L best known sound h = found-unfolded p (Consequences w) L best known sound h
all_found-unfolded p true Opt L best known sound h = (h.0 ∙ same-optima p sound, best-unfolded p best sound h.1)

has_best-unfolded : (p : Program) (mode : Mode) (best : Option (Atoms × List ℤ)) → IsSound p → HasBest (unfolded p) mode best → HasBest p mode best
has_best-unfolded p Enum best sound h = tt
has_best-unfolded p Opt best sound h = best-unfolded p best sound h
has_best-unfolded p (Consequences w) best sound h = tt

says-unfolded : (p : Program) (ask : Ask) (r : Report) (end : End) → IsSound p → SaysReport (unfolded p) (without_names ask) r end → SaysReport p (without_names ask) r end
says-unfolded p ask r Finished sound h = all_found-unfolded p ask.all_optima ask.mode r.results.answers r.results.best r.results.known sound h
says-unfolded p ask r Limited sound h = record {
  listing = h.listing;
  some = h.some;
  count = h.count;
  part = part_of-unfolded p ask.all_optima ask.mode r.results sound h.part;
  best = has_best-unfolded p ask.mode r.results.best sound h.best;
}
says-unfolded p ask r Unfinished sound h = (part_of-unfolded p ask.all_optima ask.mode r.results sound h.0, h.1)

-- ---- what a report says
priced-left : (p : Program) (best : Option (Atoms × List ℤ)) → IsSound p → IfSome best (IsPriced (reduced p)) → IfSome (option_map (λ b. (restored (aside_of p) b.0, b.1)) best) (IsPriced p)
priced-left p None sound h = h
priced-left p (Some b) sound h =
    (subst (λ Ss. Contains Ss (restored (aside_of p) b.0)) (sym (same-answers p sound)) (contains-map (restored (aside_of p)) (answers (reduced p)) b.0 h.0), h.1 ∙ sym (cost-reduced p b.0))

part-left : (p : Program) (mode : Mode) (r : Found) → IsSound p → IsPart false (reduced p) mode r → IsPart false p mode (found_with (aside_of p) r)
part-left p Enum r sound h =
    ((λ S. h.0.0 (reduced_set p S), ap (map (restored (aside_of p))) h.0.1 ∙ chosen-reduced p h.0.0 sound), ap (option_map (λ (b : Atoms × List ℤ). (restored (aside_of p) b.0, b.1))) h.1)
part-left p Opt r sound h = (ap (map (restored (aside_of p))) h.0, priced-left p r.best sound h.1)
part-left p (Consequences w) r sound h = (
  ap (map (restored (aside_of p))) h.0,
  ap (option_map (λ (b : Atoms × List ℤ). (restored (aside_of p) b.0, b.1))) h.1,
  (λ S. h.2.0 (reduced_set p S), ap (option_map (restored (aside_of p))) h.2.1 ∙ sym (some-consequences p w h.2.0 sound) ∙ ap (consequences_of w p) (chosen-reduced p h.2.0 sound)),
)

part_of-left : (p : Program) (all : Bool) (mode : Mode) (r : Found) → IsSound p → IsPartOf all false (reduced p) mode r → IsPartOf all false p mode (found_with (aside_of p) r)
part_of-left p false mode r sound h = part-left p mode r sound h
part_of-left p true Enum r sound h = part-left p Enum r sound h
part_of-left p true (Consequences w) r sound h = part-left p (Consequences w) r sound h
part_of-left p true Opt r sound h =
    ((λ S. h.0.0 (reduced_set p S), ap (map (restored (aside_of p))) h.0.1 ∙ optima-chosen p h.0.0 sound), priced-left p r.best sound h.1)

best-left : (p : Program) (best : Option (Atoms × List ℤ)) → IsSound p → IsBest (reduced p) best → IsBest p (option_map (λ b. (restored (aside_of p) b.0, b.1)) best)
best-left p None sound h = same-answers p sound ∙ ap (map (restored (aside_of p))) h
best-left p (Some b) sound h = optimum-reduced p b.0 b.1 sound h

found-left : (p : Program) (mode : Mode) (r : Found) → IsSound p → IsFound false (reduced p) mode r.answers r.best r.known →
    IsFound false p mode (found_with (aside_of p) r).answers (found_with (aside_of p) r).best (found_with (aside_of p) r).known
found-left p Enum r sound h = (ap (map (restored (aside_of p))) h.0 ∙ sym (same-answers p sound), ap (option_map (λ (b : Atoms × List ℤ). (restored (aside_of p) b.0, b.1))) h.1)
found-left p Opt r sound h = (ap (map (restored (aside_of p))) h.0, best-left p r.best sound h.1)
found-left p (Consequences w) r sound h = (
  ap (map (restored (aside_of p))) h.0,
  ap (option_map (λ (b : Atoms × List ℤ). (restored (aside_of p) b.0, b.1))) h.1,
  ap (option_map (restored (aside_of p))) h.2 ∙ sym (all-consequences p w sound),
)

all_found-left : (p : Program) (all : Bool) (mode : Mode) (r : Found) → IsSound p → IsAllFound all false (reduced p) mode r.answers r.best r.known →
    IsAllFound all false p mode (found_with (aside_of p) r).answers (found_with (aside_of p) r).best (found_with (aside_of p) r).known
all_found-left p false mode r sound h = found-left p mode r sound h
all_found-left p true Enum r sound h = found-left p Enum r sound h
all_found-left p true (Consequences w) r sound h = found-left p (Consequences w) r sound h
all_found-left p true Opt r sound h = (ap (map (restored (aside_of p))) h.0 ∙ sym (optima-reduced p sound), best-left p r.best sound h.1)

has_best-left : (p : Program) (mode : Mode) (best : Option (Atoms × List ℤ)) → IsSound p → HasBest (reduced p) mode best → HasBest p mode (option_map (λ b. (restored (aside_of p) b.0, b.1)) best)
has_best-left p Enum best sound h = tt
has_best-left p Opt best sound h = best-left p best sound h
has_best-left p (Consequences w) best sound h = tt

says-left : (p : Program) (ask : Ask) (r : Report) (end : End) → IsSound p → SaysReport (reduced p) (without_names ask) r end → SaysReport p (without_names ask) (report_with (aside_of p) r) end
says-left p ask r Finished sound h = all_found-left p ask.all_optima ask.mode r.results sound h
says-left p ask r Limited sound h = record {
  listing = h.listing;
  some = h.some;
  count = length-map r.results.answers (restored (aside_of p)) ∙ h.count;
  part = part_of-left p ask.all_optima ask.mode r.results sound h.part;
  best = has_best-left p ask.mode r.results.best sound h.best;
}
says-left p ask r Unfinished sound h = (part_of-left p ask.all_optima ask.mode r.results sound h.0, h.1)

-- ---- the text
-- what is searched of a program
abbrev rest : Program → Program
rest p = unfolded (reduced p)

same-line : (p : Program) (i : ℕ) (S : Atoms) → answer_lines (rest p) i S ≡ answer_lines p i (restored (aside_of p) S)
same-line p i S = ap (λ (ts : List (List ℕ)). ended_line (codes "Answer: " ++ decimal i) ++ ended_line (join_with_byte 32 ts)) (sym (shown-reduced p S))

same-lines : (p : Program) (i : ℕ) (Ss : List Atoms) → answers_from (rest p) i Ss ≡ answers_from p i (map (restored (aside_of p)) Ss)
same-lines p i [] = refl
same-lines p i (S ∷ Ss) = ap (λ xs. xs ++ answers_from (rest p) (i + 1) Ss) (same-line p i S) ∙ ap (λ xs. answer_lines p i (restored (aside_of p) S) ++ xs) (same-lines p (i + 1) Ss)

best_answers-with : (F : Aside) (best : Option (Atoms × List ℤ)) → best_answers (option_map (λ b. (restored F b.0, b.1)) best) ≡ map (restored F) (best_answers best)
best_answers-with F None = refl
best_answers-with F (Some b) = refl

bests-with : (F : Aside) (best : Option (Atoms × List ℤ)) (Ss : List Atoms) → bests (option_map (λ b. (restored F b.0, b.1)) best) (map (restored F) Ss) ≡ map (restored F) (bests best Ss)
bests-with F best [] = best_answers-with F best
bests-with F best (S ∷ Ss) = refl

recorded-with : (F : Aside) (mode : Mode) (r : Found) → recorded mode (found_with F r) ≡ map (restored F) (recorded mode r)
recorded-with F Enum r = refl
recorded-with F Opt r = bests-with F r.best r.answers
recorded-with F (Consequences w) r = refl

cost_line-with : (F : Aside) (best : Option (Atoms × List ℤ)) → best_cost_line best ≡ best_cost_line (option_map (λ b. (restored F b.0, b.1)) best)
cost_line-with F None = refl
cost_line-with F (Some b) = refl

-- what is told of a search for what is left
abbrev told : Aside → Found → Found
told F r = record r { known = option_map (restored F) r.known }

known-again : (names : Bool) (p : Program) (known : Option Atoms) → known_line names (rest p) (option_map (restored (aside_of p)) known) ≡ known_line names p (option_map (restored (aside_of p)) known)
known-again false p known = refl
known-again true p None = refl
known-again true p (Some B) = ap named_line (shown-again p B)

texts-again : (p : Program) (known : Option Atoms) → known_texts (rest p) (option_map (restored (aside_of p)) known) ≡ known_texts p (option_map (restored (aside_of p)) known)
texts-again p None = refl
texts-again p (Some B) = shown-again p B

sums-with : (names : Bool) (p : Program) (mode : Mode) (r : Found) → sums_line names (rest p) mode (told (aside_of p) r) ≡ sums_line names p mode (found_with (aside_of p) r)
sums-with names p Enum r = refl
sums-with names p Opt r = cost_line-with (aside_of p) r.best
sums-with names p (Consequences w) r = known-again names p r.known

count-with : (F : Aside) (mode : Mode) (r : Found) → found_count mode (told F r) ≡ found_count mode (found_with F r)
count-with F Enum r = sym (length-map r.answers (restored F))
count-with F Opt r = sym (length-map (bests r.best r.answers) (restored F)) ∙ ap length (sym (bests-with F r.best r.answers))
count-with F (Consequences w) r = refl

recorded-told : (F : Aside) (mode : Mode) (r : Found) → recorded mode (told F r) ≡ recorded mode r
recorded-told F Enum r = refl
recorded-told F Opt r = refl
recorded-told F (Consequences w) r = refl

text-left : (p : Program) (r : Found) (brief names : Bool) → printed_text (rest p) (told (aside_of p) r) brief names ≡ printed_text p (found_with (aside_of p) r) brief names
text-left p r brief names =
    let F = aside_of p in
    let lines : answers_from (rest p) 1 (recorded r.mode (told F r)) ≡ answers_from p 1 (recorded r.mode (found_with F r)) =
    ap (answers_from (rest p) 1) (recorded-told F r.mode r) ∙ same-lines p 1 (recorded r.mode r) ∙ ap (answers_from p 1) (sym (recorded-with F r.mode r)) in
    ap (λ xs. cond brief [] xs ++ sums_line names (rest p) r.mode (told F r) ++ closing_lines r (found_count r.mode (told F r))) lines
    ∙ ap (λ xs. cond brief [] (answers_from p 1 (recorded r.mode (found_with F r))) ++ xs ++ closing_lines r (found_count r.mode (told F r))) (sums-with names p r.mode r)
    ∙ ap (λ k. cond brief [] (answers_from p 1 (recorded r.mode (found_with F r))) ++ sums_line names p r.mode (found_with F r) ++ closing_lines r k) (count-with F r.mode r)

-- ---- the same as JSON
witness-left : (p : Program) (best : Option (Atoms × List ℤ)) (S : Atoms) → witness (rest p) best S ≡ witness p best (restored (aside_of p) S)
witness-left p best S = ap (λ (ts : List (List ℕ)). codes "\n{\"Value\":" ++ array (map quoted ts) ++ best_costs best ++ codes "}") (sym (shown-reduced p S))

witness-with : (F : Aside) (p : Program) (best : Option (Atoms × List ℤ)) (S : Atoms) → witness p best S ≡ witness p (option_map (λ b. (restored F b.0, b.1)) best) S
witness-with F p None S = refl
witness-with F p (Some b) S = refl

each-left : (p : Program) (best : Option (Atoms × List ℤ)) (Ss : List Atoms) → map (witness (rest p) best) Ss ≡ map (witness p best) (map (restored (aside_of p)) Ss)
each-left p best [] = refl
each-left p best (S ∷ Ss) =
    ap (λ (t : List ℕ). t ∷ map (witness (rest p) best) Ss) (witness-left p best S) ∙ ap (λ (ts : List (List ℕ)). witness p best (restored (aside_of p) S) ∷ ts) (each-left p best Ss)

each-with : (F : Aside) (p : Program) (best : Option (Atoms × List ℤ)) (Ss : List Atoms) → map (witness p best) Ss ≡ map (witness p (option_map (λ b. (restored F b.0, b.1)) best)) Ss
each-with F p best [] = refl
each-with F p best (S ∷ Ss) =
    ap (λ (t : List ℕ). t ∷ map (witness p best) Ss) (witness-with F p best S) ∙ ap (λ (ts : List (List ℕ)). witness p (option_map (λ b. (restored F b.0, b.1)) best) S ∷ ts) (each-with F p best Ss)

abbrev bracketed : List (List ℕ) → List ℕ
bracketed ts = codes "\"Witnesses\":[" ++ join_with_byte 44 ts ++ codes "\n]"

witnesses-left : (p : Program) (best : Option (Atoms × List ℤ)) (Ss : List Atoms) → witnesses (rest p) best Ss ≡ witnesses p best (map (restored (aside_of p)) Ss)
witnesses-left p best [] = refl
witnesses-left p best (S ∷ Ss) = ap bracketed (each-left p best (S ∷ Ss))

witnesses-with : (F : Aside) (p : Program) (best : Option (Atoms × List ℤ)) (Ss : List Atoms) → witnesses p best Ss ≡ witnesses p (option_map (λ b. (restored F b.0, b.1)) best) Ss
witnesses-with F p best [] = refl
witnesses-with F p best (S ∷ Ss) = ap bracketed (each-with F p best (S ∷ Ss))

recorded_text-left : (p : Program) (mode : Mode) (r : Found) → recorded_text (rest p) mode (told (aside_of p) r) ≡ recorded_text p mode (found_with (aside_of p) r)
recorded_text-left p Enum r = witnesses-left p None r.answers
recorded_text-left p Opt r =
    witnesses-left p r.best (bests r.best r.answers) ∙ ap (witnesses p r.best) (sym (bests-with (aside_of p) r.best r.answers))
    ∙ witnesses-with (aside_of p) p r.best (bests (option_map (λ b. (restored (aside_of p) b.0, b.1)) r.best) (map (restored (aside_of p)) r.answers))
recorded_text-left p (Consequences w) r = refl

known_text-with : (F : Aside) (mode : Mode) (r : Found) (texts : List (List ℕ)) → known_text mode (told F r) texts ≡ known_text mode (found_with F r) texts
known_text-with F Enum r texts = refl
known_text-with F Opt r texts = refl
known_text-with F (Consequences w) r texts = refl

optimum-with : (F : Aside) (end : End) (k : ℕ) (best : Option (Atoms × List ℤ)) → optimum_text end k best ≡ optimum_text end k (option_map (λ b. (restored F b.0, b.1)) best)
optimum-with F end k None = refl
optimum-with F end k (Some b) = refl

best_text-with : (F : Aside) (mode : Mode) (r : Found) (k : ℕ) → best_text mode (told F r) k ≡ best_text mode (found_with F r) k
best_text-with F Enum r k = refl
best_text-with F Opt r k = optimum-with F r.end k r.best
best_text-with F (Consequences w) r k = refl

summary-with : (F : Aside) (r : Found) (texts : List (List ℕ)) (k : ℕ) → summary_text (told F r) texts k ≡ summary_text (found_with F r) texts k
summary-with F r texts k =
    ap (λ (xs : List ℕ). xs ++ result_text r k ++ models_text (told F r) k) (known_text-with F r.mode r texts)
    ∙ ap (λ (xs : List ℕ). known_text r.mode (found_with F r) texts ++ result_text r k
    ++ (codes ",\"Models\":{\"Number\":" ++ decimal k ++ codes ",\"More\":\"" ++ more r.end ++ codes "\"" ++ xs ++ codes "}"))
    (best_text-with F r.mode r k)

-- what is said of what is left, of the program
summary-left : (p : Program) (r : Found) →
    summary_text (told (aside_of p) r) (known_texts (rest p) (option_map (restored (aside_of p)) r.known)) (found_count r.mode (told (aside_of p) r))
    ≡ summary_text (found_with (aside_of p) r) (known_texts p (option_map (restored (aside_of p)) r.known)) (found_count r.mode (found_with (aside_of p) r))
summary-left p r =
    let F = aside_of p in
    let texts = known_texts (rest p) (option_map (restored F) r.known) in
    summary-with F r texts (found_count r.mode (told F r)) ∙ ap (summary_text (found_with F r) texts) (count-with F r.mode r)
    ∙ ap (λ (ts : List (List ℕ)). summary_text (found_with F r) ts (found_count r.mode (found_with F r))) (texts-again p r.known)

json-left : (p : Program) (r : Found) (brief : Bool) → json_text (rest p) (told (aside_of p) r) brief ≡ json_text p (found_with (aside_of p) r) brief
json-left p r brief =
    let F = aside_of p in
    let texts = known_texts (rest p) (option_map (restored F) r.known) in
    ap (λ (xs : List ℕ). codes "{\"Solver\":\"aspenum\",\"Call\":[{" ++ cond brief [] xs ++ codes "}]" ++ closing_text (told F r) texts (found_count r.mode (told F r))) (recorded_text-left p r.mode r)
    ∙ ap (λ (xs : List ℕ). call_text p (found_with F r) brief ++ (xs ++ codes "}\n")) (summary-left p r)

-- the entry of a query
listed-with : (F : Aside) (mode : Mode) (r : Found) → is_listed mode (told F r) ≡ is_listed mode (found_with F r)
listed-with F Enum r = ap (nat_lt 0) (count-with F Enum r)
listed-with F Opt r = ap (nat_lt 0) (count-with F Opt r)
listed-with F (Consequences w) r = refl

entry-left : (p : Program) (number : ℕ) (r : Found) (brief : Bool) → entry_results (rest p) number (told (aside_of p) r) brief ≡ entry_results p number (found_with (aside_of p) r) brief
entry-left p number r brief =
    let F = aside_of p in
    let summary = summary_text (told F r) (known_texts (rest p) (option_map (restored F) r.known)) (found_count r.mode (told F r)) in
    ap (λ (b : Bool). entry_start number ++ cond brief [] (separator 44 b ++ recorded_text (rest p) r.mode (told F r)) ++ summary) (listed-with F r.mode r)
    ∙ ap (λ (xs : List ℕ). entry_start number ++ cond brief [] (separator 44 (is_listed r.mode (found_with F r)) ++ xs) ++ summary) (recorded_text-left p r.mode r)
    ∙ ap (λ (xs : List ℕ). entry_start number ++ entry_answers p (found_with F r) brief ++ xs) (summary-left p r)

text_in-left : (form : Form) (p : Program) (r : Found) (brief names : Bool) → text_in form (rest p) (told (aside_of p) r) brief names ≡ text_in form p (found_with (aside_of p) r) brief names
text_in-left Text p r brief names = text-left p r brief names
text_in-left Json p r brief names = json-left p r brief

-- ---- with nothing set aside
same-best : (best : Option (Atoms × List ℤ)) → option_map (λ b. (restored none_aside b.0, b.1)) best ≡ best
same-best None = refl
same-best (Some b) = ap (λ (S : Atoms). Some (S, b.1)) (restored-none b.0)

same-known : (known : Option Atoms) → option_map (restored none_aside) known ≡ known
same-known None = refl
same-known (Some S) = ap (λ (T : Atoms). Some T) (restored-none S)

same-sets : (Ss : List Atoms) → map (restored none_aside) Ss ≡ Ss
same-sets [] = refl
same-sets (S ∷ Ss) = ap (λ (T : Atoms). T ∷ map (restored none_aside) Ss) (restored-none S) ∙ ap (λ Ts. S ∷ Ts) (same-sets Ss)

same-found : (r : Found) → found_with none_aside r ≡ r
same-found r =
    ap (λ Ss. record r { answers = Ss; best = option_map (λ b. (restored none_aside b.0, b.1)) r.best; known = option_map (restored none_aside) r.known }) (same-sets r.answers)
    ∙ ap (λ best. record r { best = best; known = option_map (restored none_aside) r.known }) (same-best r.best)
    ∙ ap (λ known. record r { known = known }) (same-known r.known)

same-report : (r : Report) → report_with none_aside r ≡ r
same-report r = ap (λ f. record r { results = f }) (same-found r.results)

same-told : (r : Report) → told_with none_aside r ≡ r
same-told r = ap (λ k. record r { results = record r.results { known = k } }) (same-known r.results.known)

-- ---- as was asked
pub told-text : (given : Options) (p : Program) (r : Report) (layout : Layout) →
    report_text (searched given p) (told_with (set_aside given p) r) layout ≡ report_text (asked given p) (report_with (set_aside given p) r) layout
told-text given p r layout = by (asked given p) (is_settled given)
  where
    by : (q : Program) (b : Bool) →
        report_text (cond b (rest q) q) (told_with (cond b (aside_of q) none_aside) r) layout ≡ report_text q
        (report_with (cond b (aside_of q) none_aside) r) layout
    by q true = text_in-left layout.form q r.results layout.brief layout.names
    by q false = ap (λ x. report_text q x layout) (same-told r ∙ sym (same-report r))

-- the lines of a list don't tell what is known
lines-told : (p : Program) (F : Aside) (r : Found) (mode : Mode) (brief names : Bool) → reasoning_of mode ≡ None
    → cond brief [] (answers_from p 1 (recorded mode r)) ++ sums_line names p mode r
    ++ closing_lines r (found_count mode r) ≡ cond brief [] (answers_from p 1 (recorded mode (told F r))) ++ sums_line names p mode (told F r)
    ++ closing_lines r (found_count mode (told F r))
lines-told p F r Enum brief names listed = refl
lines-told p F r Opt brief names listed = refl
lines-told p F r (Consequences w) brief names listed = absurd (let no : Some w ≡ None = listed in let f : ⊥ = cc in f)

-- the lines of a list, as it was found
pub listed-text : (given : Options) (p : Program) (r : Found) (brief names : Bool) → reasoning_of r.mode ≡ None →
    printed_text (searched given p) r brief names ≡ printed_text (asked given p) (found_with (set_aside given p) r) brief names
listed-text given p r brief names listed = by (asked given p) (is_settled given)
  where
    by : (q : Program) (b : Bool) → printed_text (cond b (rest q) q) r brief names ≡ printed_text q (found_with (cond b (aside_of q) none_aside) r) brief names
    by q true = lines-told (rest q) (aside_of q) r r.mode brief names listed ∙ text-left q r brief names
    by q false = ap (λ (x : Found). printed_text q x brief names) (sym (same-found r))

-- the entry of a list doesn't tell what is known
entry-told : (p : Program) (F : Aside) (r : Found) (mode : Mode) (number : ℕ) (brief : Bool) → reasoning_of mode ≡ None
    → entry_start number ++ cond brief [] (separator 44 (is_listed mode r) ++ recorded_text p mode r)
    ++ (known_text mode r (known_texts p r.known) ++ result_text r (found_count mode r)
    ++ (codes ",\"Models\":{\"Number\":" ++ decimal (found_count mode r) ++ codes ",\"More\":\"" ++ more r.end ++ codes "\"" ++ best_text mode r (found_count mode r) ++ codes "}"))
    ≡ entry_start number ++ cond brief [] (separator 44 (is_listed mode (told F r)) ++ recorded_text p mode (told F r))
    ++ (known_text mode (told F r) (known_texts p (option_map (restored F) r.known)) ++ result_text r (found_count mode (told F r))
    ++ (codes ",\"Models\":{\"Number\":" ++ decimal (found_count mode (told F r)) ++ codes ",\"More\":\"" ++ more r.end ++ codes "\"" ++ best_text mode
    (told F r) (found_count mode (told F r)) ++ codes "}"))
entry-told p F r Enum number brief listed = refl
entry-told p F r Opt number brief listed = refl
entry-told p F r (Consequences w) number brief listed = absurd (let no : Some w ≡ None = listed in let f : ⊥ = cc in f)

-- the entry of a list, as it was found
pub listed-entry : (given : Options) (p : Program) (number : ℕ) (r : Found) (brief : Bool) → reasoning_of r.mode ≡ None →
    entry_results (searched given p) number r brief ≡ entry_results (asked given p) number (found_with (set_aside given p) r) brief
listed-entry given p number r brief listed = by (asked given p) (is_settled given)
  where
    by : (q : Program) (b : Bool) → entry_results (cond b (rest q) q) number r brief ≡ entry_results q number (found_with (cond b (aside_of q) none_aside) r) brief
    by q true = entry-told (rest q) (aside_of q) r r.mode number brief listed ∙ entry-left q number r brief
    by q false = ap (λ (x : Found). entry_results q number x brief) (sym (same-found r))

-- what is said without names
pub told-plain : (given : Options) (p : Program) (ask : Ask) (r : Report) (end : End) → IsSound (asked given p) → SaysReport (searched given p) (without_names ask) r end
    → SaysReport (asked given p) (without_names ask) (report_with (set_aside given p) r) end
told-plain given p ask r end sound h = by (asked given p) (is_settled given) sound h
  where
    by : (q : Program) (b : Bool) → IsSound q → SaysReport (cond b (rest q) q) (without_names ask) r end → SaysReport q (without_names ask) (report_with (cond b (aside_of q) none_aside) r) end
    by q true sound s = says-left q ask r end sound (says-unfolded (reduced q) ask r end (sound-reduced q sound) s)
    by q false sound s = subst (λ x. SaysReport q (without_names ask) x end) (sym (same-report r)) s

shows-left : (p : Program) (known : Option Atoms) → option_map (shown p) (option_map (restored (aside_of p)) known) ≡ option_map (shown (rest p)) known
shows-left p None = refl
shows-left p (Some B) = ap (λ (texts : List (List ℕ)). Some texts) (shown-reduced p B)

as-left : (n : Bool) (p : Program) (known told : Option Atoms) → ShowsAs n (rest p) known told → ShowsAs n p (option_map (restored (aside_of p)) known) (option_map (restored (aside_of p)) told)
as-left false p known told same = ap (option_map (restored (aside_of p))) same
as-left true p known told same = shows-left p told ∙ same ∙ sym (shows-left p known)

as-told : (given : Options) (p : Program) (n : Bool) (known told : Option Atoms) → ShowsAs n (searched given p) known told
    → ShowsAs n (asked given p) (option_map (restored (set_aside given p)) known) (option_map (restored (set_aside given p)) told)
as-told given p n known told same = by (asked given p) (is_settled given) same
  where
    by : (q : Program) (b : Bool) → ShowsAs n (cond b (rest q) q) known told →
        ShowsAs n q (option_map (restored (cond b (aside_of q) none_aside)) known) (option_map (restored (cond b (aside_of q) none_aside)) told)
    by q true s = as-left n q known told s
    by q false s = subst (λ (k : Option Atoms). ShowsAs n q k (option_map (restored none_aside) told)) (sym (same-known known)) (subst (ShowsAs n q known) (sym (same-known told)) s)

pub told-says : (given : Options) (p : Program) (ask : Ask) (r : Report) (end : End) → IsSound (asked given p) →
    SaysReport (searched given p) ask r end → SaysOf (asked given p) ask (report_with (set_aside given p) r) end
told-says given p ask r end sound h =
    let s = plain-says (searched given p) ask r end h in
    record {
      known = option_map (restored (set_aside given p)) s.known;
      says = told-plain given p ask (with_known s.known r) end sound s.says;
      same = as-told given p ask.by_name s.known r.results.known s.same;
    }

some-known : (F : Aside) (known : Option Atoms) → is_some (option_map (restored F) known) ≡ is_some known
some-known F None = refl
some-known F (Some S) = refl

model-in : (F : Aside) (mode : Mode) (r : Found) → has_model_in mode (told F r) ≡ has_model_in mode r
model-in F Enum r = refl
model-in F Opt r = refl
model-in F (Consequences w) r = some-known F r.known

pub told-model : (F : Aside) (r : Report) → has_model (told_with F r).results ≡ has_model r.results
told-model F r = model-in F r.results.mode r.results

-- ---- a report that was told
same-kind : (rules : List Rule) (ms : List Minimize) → mode_by (map (unfolded_minimize rules) ms) ≡ mode_by ms
same-kind rules [] = refl
same-kind rules (m ∷ ms) = refl

merged-kind : (m : ℕ → ℕ) (ms : List Minimize) → mode_by (map (renamed_minimize m) ms) ≡ mode_by ms
merged-kind m [] = refl
merged-kind m (s ∷ ms) = refl

same-mode : (o : Option Mode) (p : Program) → mode_of o (rest p) ≡ mode_of o p
same-mode None p = same-kind (reduced p).rules (reduced p).minimize ∙ merged-kind (goes_by (left_of p)) p.minimize
same-mode (Some mode) p = refl

named-mode : (o : Option Mode) (p : Program) → mode_of o (named p) ≡ mode_of o p
named-mode None p = refl
named-mode (Some mode) p = refl

pub same-ask : (given : Options) (p : Program) → ask_of given (searched given p) ≡ ask_of given p
same-ask given p = by (asked given p) (is_settled given) ∙ named-ask (is_named given)
  where
    by : (q : Program) (b : Bool) → ask_of given (cond b (rest q) q) ≡ ask_of given q
    by q true = ap (λ mode. record { mode = mode; models = given.models; all_optima = given.all_optima; by_name = is_named given }) (same-mode given.mode q)
    by q false = refl

    named-ask : (b : Bool) → ask_of given (cond b (named p) p) ≡ ask_of given p
    named-ask true = ap (λ mode. record { mode = mode; models = given.models; all_optima = given.all_optima; by_name = is_named given }) (named-mode given.mode p)
    named-ask false = refl

-- where parts are asked for, the whole program is there
pub whole-parted : (given : Options) (p : Program) (x : Prepared) (most : ℕ) → given.split ≡ Some most → x ≡ prepared_of given p → x.compiled ≡ p
whole-parted given p x most parted is =
    let whole : is_settled given ≡ false = by given.proof (ap is_some parted) in
    ap (λ (y : Prepared). y.compiled) is
    ∙ ap (λ (b : Bool). cond b (rest (asked given p)) (asked given p)) whole
    ∙ ap (λ (b : Bool). cond (b && seeks_consequences (Some given.mode) && (given.names || is_json given.form)) (named p) p) whole
  where
    by : (b : Bool) → is_some given.split ≡ true → not (b || is_some given.split) ≡ false
    by true e = refl
    by false e = ap not e
