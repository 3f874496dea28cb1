-- A list that is written while it is found: what of the program searched is written is what of the whole program is.
use Rattle.std.proofs.Common.{◌≡◌, ℕ, ◌+◌, ◌≤◌, Bool, true, false, not, ◌&&◌, ◌||◌, cond, List, [], ◌∷◌, ◌++◌, map, take, length, refl, sym, ap, ◌∙◌, subst, inl, inr, append-nil}
use Rattle.std.specs.Prelude.{Option, None, Some, codes, decimal, is_some, option_map, ℤ}
use Rattle.std.specs.List.{join_with_byte}
use Rattle.std.proofs.lemmas.Bool.{false≢true}
use Rattle.std.proofs.lemmas.List.{length-map, take-map}
use Rattle.std.specs.Io.KnownBytes.{Appends}
use Rattle.asp_io.specs.Causes.{AppendsFront}
use Rattle.asp_model.specs.declared.program.Program.{Program}
use Rattle.asp_model.specs.declared.results.Ask.{Ask}
use Rattle.asp_model.specs.declared.results.End.{End}
use Rattle.asp_model.specs.declared.results.End.TheVariants.{Finished, Limited, Unfinished}
use Rattle.asp_model.specs.declared.results.Mode.{Mode}
use Rattle.asp_model.specs.declared.results.Mode.TheVariants.{Enum, Opt, Consequences}
use Rattle.asp_model.specs.Asked.{reasoning_of}
use Rattle.asp_model.specs.Found.{Found}
use Rattle.asp_model.specs.Costs.{IsOptimum, cost}
use Rattle.asp_model.proofs.ModelLaws.{optima-are}
use Rattle.asp_model.specs.Sets.{Atoms}
use Rattle.asp_model.specs.Sound.{IsSound}
use Rattle.asp_model.specs.Texts.{answer_lines, answers_from, ended_line}
use Rattle.asp_print.specs.Named.{printed_text}
use Rattle.asp_print.specs.Parts.{closing}
use Rattle.asp_outlet.specs.Outlets.{optima_closing, optima_text, whole_text}
use Rattle.asp_equal.specs.Reduced.{aside_of, reduced, restored}
use Rattle.asp_equal.specs.declared.reduce.Aside.{Aside}
use Rattle.asp_equal.proofs.ReducedLaws.{optima-reduced, optimum-reduced, same-answers, shown-reduced, sound-reduced}
use Rattle.asp_unfold.specs.Unfolded.{unfolded}
use Rattle.asp_unfold.proofs.SameLaws.{same-answers as same-unfolded, same-optima, same-optimum}
use Rattle.asp_named.specs.Named.{named}
use Rattle.asp_stream.proofs.FirstLaws.{played-enum}
use Rattle.asp_crew_laws.specs.declared.report.Report.{Report}
use Rattle.asp_crew_laws.specs.Reports.{IsPartOf, IsReport, Says as SaysReport}
use Rattle.asp_crew_laws.specs.Runs.{asks}
use Rattle.asp_cli.specs.declared.Form.{Form}
use Rattle.asp_cli.specs.declared.Options.{Options}
use Rattle.asp_cli.specs.Found.{seeks_consequences}
use Rattle.asp_prepare.specs.Meaning.{mode_of}
use Rattle.asp_prepare.specs.Naming.{HasNumbers, asked, is_json, is_named, is_settled, searched, set_aside}
use Rattle.asp_prepare.specs.Told.{report_text, text_in, told_with, with_known}
use Rattle.asp_prepare.proofs.AskedLaws.{asked-sound}
use Rattle.asp_prepare.proofs.ToldLaws.{told-says, told-text}
use Rattle.asp_top.specs.declared.status.Status.{Status}
use Rattle.asp_top.specs.declared.status.Outcome.{Outcome}
use Rattle.asp_top.specs.Notes.{is_list, lists_lines}
use Rattle.asp_top.specs.Runs.{Around, DeliversFirst, DeliveryMeans, HasFirst, IsCostOf, IsCutShort, IsFound, IsGiven, IsReported, IsSolved, IsStreamCut, as_lines, cut_to, first_text, is_brief, layout_of, left_of, list_ask, list_text, part_text, run_ask, streams, whole_list, with_answers}
use Rattle.asp_top.proofs.ListingLaws.{IsListing, is-listing, streams-by, unsought}
use Rattle.asp_top.proofs.WholeLaws.{an-optimum, named-last, unsought-mode}

-- ---- what is asked of a run whose answers are written while they are found
pub unnamed : (given : Options) (p : Program) → IsListing given p → is_named given ≡ false
unnamed given p list =
    last (is_settled given) (seeks_consequences (Some given.mode)) (given.names || is_json given.form) (unsought-mode given.mode p (mode_of given.mode p) refl
    (unsought given.all_optima (mode_of given.mode p) list.lists))
  where
    last : (a b c : Bool) → b ≡ false → (a && b && c) ≡ false
    last a b c e = named-last a b c e

pub asked-itself : (given : Options) (p : Program) → IsListing given p → asked given p ≡ p
asked-itself given p list = ap (λ (b : Bool). cond b (named p) p) (unnamed given p list)

-- ---- the lines of the answers
abbrev rest : Program → Program
rest p = unfolded (reduced p)

same-lines : (p : Program) (i : ℕ) (Ss : List Atoms) → answers_from (rest p) i Ss ≡ answers_from p i (map (restored (aside_of p)) Ss)
same-lines p i [] = refl
same-lines p i (S ∷ Ss) =
    ap (λ (ts : List (List ℕ)). (ended_line (codes "Answer: " ++ decimal i) ++ ended_line (join_with_byte 32 ts)) ++ answers_from (rest p) (i + 1) Ss) (sym (shown-reduced p S))
    ∙ ap (λ (xs : List ℕ). answer_lines p i (restored (aside_of p) S) ++ xs) (same-lines p (i + 1) Ss)

-- the list of what is left, with what was set aside
list-reduced : (mode : Mode) (p : Program) → IsSound p → whole_list mode p ≡ map (restored (aside_of p)) (whole_list mode (reduced p))
list-reduced Enum p sound = same-answers p sound
list-reduced Opt p sound = optima-reduced p sound
list-reduced (Consequences w) p sound = same-answers p sound

list-unfolded : (mode : Mode) (p : Program) → IsSound p → whole_list mode (unfolded p) ≡ whole_list mode p
list-unfolded Enum p sound = same-unfolded p
list-unfolded Opt p sound = same-optima p sound
list-unfolded (Consequences w) p sound = same-unfolded p

rest-lines : (mode : Mode) (p : Program) → IsSound p → answers_from (rest p) 1 (whole_list mode (rest p)) ≡ answers_from p 1 (whole_list mode p)
rest-lines mode p sound =
    ap (λ (Ss : List Atoms). answers_from (rest p) 1 Ss) (list-unfolded mode (reduced p) (sound-reduced p sound))
    ∙ same-lines p 1 (whole_list mode (reduced p))
    ∙ ap (λ (Ss : List Atoms). answers_from p 1 Ss) (sym (list-reduced mode p sound))

lines-asked : (given : Options) (mode : Mode) (p : Program) → IsSound (asked given p) → is_settled given ≡ true
    → answers_from (searched given p) 1 (whole_list mode (searched given p)) ≡ answers_from (asked given p) 1 (whole_list mode (asked given p))
lines-asked given mode p sound settled =
    ap (λ (b : Bool). answers_from (cond b (rest (asked given p)) (asked given p)) 1 (whole_list mode (cond b (rest (asked given p)) (asked given p)))) settled
    ∙ rest-lines mode (asked given p) sound

-- ---- the first of them
whole-of : (p : Program) (end : End) (Ss : List Atoms) → whole_text p end Ss ≡ answers_from p 1 Ss ++ closing end (length Ss)
whole-of p end Ss = ap (λ (xs : List ℕ). xs ++ closing end (length Ss)) (append-nil (answers_from p 1 Ss))

whole-rest : (p : Program) (end : End) (Ss : List Atoms) → whole_text (rest p) end Ss ≡ whole_text p end (map (restored (aside_of p)) Ss)
whole-rest p end Ss =
    whole-of (rest p) end Ss
    ∙ ap (λ (xs : List ℕ). xs ++ closing end (length Ss)) (same-lines p 1 Ss)
    ∙ ap (λ (n : ℕ). answers_from p 1 (map (restored (aside_of p)) Ss) ++ closing end n) (sym (length-map Ss (restored (aside_of p))))
    ∙ sym (whole-of p end (map (restored (aside_of p)) Ss))

-- and of optima
optima-rest : (p : Program) (end : End) (c : List ℤ) (Ss : List Atoms) → optima_text (rest p) end c Ss ≡ optima_text p end c (map (restored (aside_of p)) Ss)
optima-rest p end c Ss =
    ap (λ (xs : List ℕ). xs ++ optima_closing end c (length Ss)) (same-lines p 1 Ss)
    ∙ ap (λ (n : ℕ). answers_from p 1 (map (restored (aside_of p)) Ss) ++ optima_closing end c n) (sym (length-map Ss (restored (aside_of p))))

list-rest : (price : Option (List ℤ)) (p : Program) (end : End) (Ss : List Atoms) → list_text price (rest p) end Ss ≡ list_text price p end (map (restored (aside_of p)) Ss)
list-rest None p end Ss = whole-rest p end Ss
list-rest (Some c) p end Ss = optima-rest p end c Ss

first-rest : (price : Option (List ℤ)) (mode : Mode) (p : Program) (n : ℕ) → IsSound p → first_text price (rest p) (whole_list mode (rest p)) n ≡ first_text price p (whole_list mode p) n
first-rest price mode p n sound =
    ap (λ (Ss : List Atoms). list_text price (rest p) Limited (take n Ss)) (list-unfolded mode (reduced p) (sound-reduced p sound))
    ∙ list-rest price p Limited (take n (whole_list mode (reduced p)))
    ∙ ap (λ (Ss : List Atoms). list_text price p Limited Ss) (sym (take-map (restored (aside_of p)) n (whole_list mode (reduced p))))
    ∙ ap (λ (Ss : List Atoms). list_text price p Limited (take n Ss)) (sym (list-reduced mode p sound))

count-rest : (mode : Mode) (p : Program) → IsSound p → length (whole_list mode (rest p)) ≡ length (whole_list mode p)
count-rest mode p sound =
    ap length (list-unfolded mode (reduced p) (sound-reduced p sound)) ∙ sym (length-map (whole_list mode (reduced p)) (restored (aside_of p))) ∙ ap length (sym (list-reduced mode p sound))

-- an optimum costs the same
price-rest : (mode : Mode) (p : Program) (price : Option (List ℤ)) → IsSound p → IsCostOf mode (rest p) price → IsCostOf mode p price
price-rest Enum p price sound is = is
price-rest Opt p price sound is =
    let own : IsOptimum (rest p) is.0 (cost (rest p) is.0) = (optima-are (rest p) is.0).0 is.1 in
    let o : IsOptimum p (restored (aside_of p) is.0) (cost (rest p) is.0) =
    optimum-reduced p is.0 (cost (rest p) is.0) sound (same-optimum (reduced p) is.0 (cost (rest p) is.0) (sound-reduced p sound) own) in
    (restored (aside_of p) is.0, an-optimum p (restored (aside_of p) is.0) (cost (rest p) is.0) o, is.2 ∙ ap (λ (c : List ℤ). Some c) o.sums)
price-rest (Consequences w) p price sound is = is

pub first-searched : (given : Options) (p : Program) (price : Option (List ℤ)) (n : ℕ) → IsSound p → HasNumbers given p → IsListing given p →
    first_text price (searched given p) (whole_list (mode_of given.mode p) (searched given p)) n ≡ first_text price p (whole_list (mode_of given.mode p) p) n
first-searched given p price n sound numbers list =
    let mode = mode_of given.mode p in
    ap (λ (b : Bool). first_text price (cond b (rest (asked given p)) (asked given p)) (whole_list mode (cond b (rest (asked given p)) (asked given p))) n) list.settled
    ∙ first-rest price mode (asked given p) n (asked-sound given p sound numbers)
    ∙ ap (λ (q : Program). first_text price q (whole_list mode q) n) (asked-itself given p list)

pub count-searched : (given : Options) (p : Program) → IsSound p → HasNumbers given p → IsListing given p →
    length (whole_list (mode_of given.mode p) (searched given p)) ≡ length (whole_list (mode_of given.mode p) p)
count-searched given p sound numbers list =
    let mode = mode_of given.mode p in
    ap (λ (b : Bool). length (whole_list mode (cond b (rest (asked given p)) (asked given p)))) list.settled
    ∙ count-rest mode (asked given p) (asked-sound given p sound numbers)
    ∙ ap (λ (q : Program). length (whole_list mode q)) (asked-itself given p list)

pub price-searched : (given : Options) (p : Program) (price : Option (List ℤ)) → IsSound p → HasNumbers given p → IsListing given p →
    IsCostOf (mode_of given.mode p) (searched given p) price → IsCostOf (mode_of given.mode p) p price
price-searched given p price sound numbers list is =
    let mode = mode_of given.mode p in
    subst (λ (q : Program). IsCostOf mode q price) (asked-itself given p list)
    (price-rest mode (asked given p) price (asked-sound given p sound numbers)
    (subst (λ (b : Bool). IsCostOf mode (cond b (rest (asked given p)) (asked given p)) price) list.settled is))

-- ---- all of them
pub lines-searched : (given : Options) (p : Program) → IsSound p → HasNumbers given p → IsListing given p
    → answers_from (searched given p) 1 (whole_list (mode_of given.mode p) (searched given p)) ≡ answers_from p 1 (whole_list (mode_of given.mode p) p)
lines-searched given p sound numbers list =
    let mode = mode_of given.mode p in
    lines-asked given mode p (asked-sound given p sound numbers) list.settled
    ∙ ap (λ (q : Program). answers_from q 1 (whole_list mode q)) (asked-itself given p list)

-- ---- the report
abbrev of_all : Mode → Bool → Ask
of_all mode all = record { mode = mode; models = 0; all_optima = all; by_name = false }

part-all : (all : Bool) (q : Program) (r : Found) → IsPartOf false false q Enum r → IsPartOf all false q Enum r
part-all true q r h = h
part-all false q r h = h

-- An enumeration takes no notice of all optima.
says-all : (all : Bool) (q : Program) (r : Report) (end : End) → SaysReport q (asks Enum 0 false) r end → SaysReport q (of_all Enum all) r end
says-all true q r Finished h = h
says-all false q r Finished h = h
says-all all q r Limited h = record { listing = refl; some = h.some; count = h.count; part = part-all all q r.results h.part; best = h.best }
says-all all q r Unfinished h = (part-all all q r.results h.0, h.1)

report-all : (mode : Mode) (all : Bool) (q : Program) (units : ℕ) (r : Report) → is_list all mode ≡ true → IsReport q (list_ask mode) units r → IsReport q (of_all mode all) units r
report-all Enum all q units r e h = record {
  mode_is = h.mode_is;
  says = says-all all q r r.results.end h.says;
  program = h.program;
  spent = h.spent;
  budget = h.budget;
  reasoned = h.reasoned;
  known = h.known;
  untold = h.untold;
  least = h.least;
  played = played-enum all q units r h.played;
}
report-all Opt all q units r e h = subst (λ (b : Bool). IsReport q (of_all Opt b) units r) (sym e) h
report-all (Consequences w) all q units r e h = absurd (false≢true e)

asks-all : (given : Options) (p : Program) → IsListing given p → of_all (mode_of given.mode p) given.all_optima ≡ run_ask given p
asks-all given p list =
    ap (λ (b : Bool). record { mode = mode_of given.mode p; models = cond b 0 given.models; all_optima = given.all_optima; by_name = false }) (sym (streams-by given p list))
    ∙ ap (λ (b : Bool). record { mode = mode_of given.mode p; models = cond (streams given p) 0 given.models; all_optima = given.all_optima; by_name = b }) (sym (unnamed given p list))

pub report-asked : (given : Options) (p : Program) (done : Report) → IsListing given p → IsReport (searched given p) (list_ask (mode_of given.mode p)) given.budget done
    → IsReport (searched given p) (run_ask given p) given.budget done
report-asked given p done list h =
    subst (λ (ask : Ask). IsReport (searched given p) ask given.budget done) (asks-all given p list)
    (report-all (mode_of given.mode p) given.all_optima (searched given p) given.budget done list.lists h)

proof-unasked : (b c : Bool) → not (b || c) ≡ true → b ≡ false
proof-unasked true c e = absurd (false≢true e)
proof-unasked false c e = refl

-- no proof is asked for
pub unproved : (given : Options) (p : Program) → streams given p ≡ true → given.proof ≡ false
unproved given p on = proof-unasked given.proof (is_some given.split) (is-listing given p on).settled

-- ---- the text
-- nothing known is told
told-same : (A : Aside) (done : Report) → done.results.known ≡ None → told_with A done ≡ done
told-same A done none =
    ap (λ (known : Option Atoms). with_known (option_map (restored A) known) done) none
    ∙ ap (λ (known : Option Atoms). with_known known done) (sym none)

abbrev with_mode : Mode → Found → Found
with_mode mode r = record { mode = mode; end = r.end; answers = r.answers; best = r.best; known = r.known }

-- no names are told where no consequences are
plain-names : (q : Program) (r : Found) (mode : Mode) (brief names : Bool) → r.mode ≡ mode → reasoning_of mode ≡ None → printed_text q r brief names ≡ printed_text q r brief false
plain-names q r Enum brief names m e =
    ap (λ (x : Mode). printed_text q (with_mode x r) brief names) m ∙ ap (λ (x : Mode). printed_text q (with_mode x r) brief false) (sym m)
plain-names q r Opt brief names m e =
    ap (λ (x : Mode). printed_text q (with_mode x r) brief names) m ∙ ap (λ (x : Mode). printed_text q (with_mode x r) brief false) (sym m)
plain-names q r (Consequences w) brief names m e = let f : ⊥ = cc in absurd f

text-lines : (given : Options) (p q : Program) (done : Report) → IsListing given p → done.results.mode ≡ mode_of given.mode p →
    report_text q done as_lines ≡ report_text q done (layout_of given)
text-lines given p q done list mode =
    let r = done.results in
    let names = plain-names q r (mode_of given.mode p) false given.names mode (unsought given.all_optima (mode_of given.mode p) list.lists) in
    sym names
    ∙ sym (ap (λ (form : Form). text_in form q r (is_brief given) given.names) list.form
    ∙ ap (λ (brief : Bool). printed_text q r brief given.names) list.full)

mode-asked : (mode : Mode) → (list_ask mode).mode ≡ mode
mode-asked Enum = refl
mode-asked Opt = refl
mode-asked (Consequences w) = refl

-- what such a report says beside its text
pub record IsDone (given : Options) (p : Program) (done : Report) : Type 0 where
  pub list : IsListing given p
  pub mode : done.results.mode ≡ mode_of given.mode p
  pub known : done.results.known ≡ None

pub done-is : (given : Options) (p : Program) (heard rest : List Atoms) (done : Report) → IsListing given p → IsFound (searched given p) (mode_of given.mode p) given.budget heard rest done →
    IsDone given p done
done-is given p heard rest done list found = record {
  list = list;
  mode = found.is.mode_is ∙ mode-asked (mode_of given.mode p);
  known = found.is.untold (ap reasoning_of (mode-asked (mode_of given.mode p)) ∙ unsought given.all_optima (mode_of given.mode p) list.lists);
}

pub means-asked : (given : Options) (p q : Program) (done : Report) (held held' : Option (List ℕ)) (writes writes' : ℕ) (status : Status) → IsDone given p done
    → DeliveryMeans as_lines q done held held' writes writes' status
    → DeliveryMeans (layout_of given) q (told_with (set_aside given p) done) held held' writes writes' status
means-asked given p q done held held' writes writes' status is m =
    subst (λ (r : Report). DeliveryMeans (layout_of given) q r held held' writes writes' status) (sym (told-same (set_aside given p) done is.known)) (by m)
  where
    same : report_text q done as_lines ≡ report_text q done (layout_of given)
    same = text-lines given p q done is.list is.mode

    by : DeliveryMeans as_lines q done held held' writes writes' status → DeliveryMeans (layout_of given) q done held held' writes writes' status
    by (inl m) = inl (m.0, subst (λ (text : List ℕ). Appends held held' text) same m.1)
    by (inr m) = inr (m.0, subst (λ (text : List ℕ). AppendsFront held held' text) same m.1, m.2)

-- the text of the first of its answers
pub part-lines : (given : Options) (p : Program) (done : Report) → IsDone given p done →
    report_text (searched given p) (cut_to given.models done) as_lines ≡ part_text given p done
part-lines given p done is =
    let r = cut_to given.models done in
    text-lines given p (searched given p) r is.list is.mode
    ∙ ap (λ (x : Report). report_text (searched given p) x (layout_of given)) (sym (told-same (set_aside given p) r is.known))
    ∙ told-text given p r (layout_of given)

-- ---- a whole run
abbrev pub streamed-solved : (given : Options) (a : Around) (p : Program) (heard rest : List Atoms) (done : Report) (o : Outcome) →
    given.split ≡ None → IsGiven given.format given.make a p → IsSound p → HasNumbers given p → streams given p ≡ true
    → IsFound (searched given p) (mode_of given.mode p) given.budget heard rest done
    → o.report ≡ Some (with_answers (left_of given.models heard rest) done) → IsSolved given a o.report
streamed-solved given a p heard rest done o whole from sound numbers on found reports =
    let list = is-listing given p on in
    let is = report-asked given p done list found.is in
    record {
      program = p;
      source = from;
      sound = sound;
      numbers = numbers;
      whole = whole;
      done = done;
      reports = subst (λ (b : Bool). IsReported b given.models (set_aside given p) done o.report) (sym on) (heard, rest, found.answers, reports);
      is = is;
      says = told-says given p (run_ask given p) done done.results.end (asked-sound given p sound numbers) is.says;
    }

pub streamed-cut : (given : Options) (a : Around) (p : Program) (o : Outcome) → IsGiven given.format given.make a p → IsSound p → HasNumbers given p → streams given p ≡ true
    → IsCutShort (searched given p) (whole_list (mode_of given.mode p) (searched given p)) a.held a.held' a.writes a.writes' o → IsStreamCut given a o.report
streamed-cut given a p o from sound numbers on cut = record {
  program = p;
  source = from;
  streamed = on;
  none = cut.none;
  text = subst (λ (text : List ℕ). AppendsFront a.held a.held' text) (lines-searched given p sound numbers (is-listing given p on)) cut.text;
}

-- the first of the list were written, or a front of their lines
abbrev pub streamed-first : (given : Options) (a : Around) (p : Program) (o : Outcome) → IsGiven given.format given.make a p → IsSound p → HasNumbers given p → streams given p ≡ true
    → DeliversFirst (searched given p) (mode_of given.mode p) given.models a.held a.held' a.writes a.writes' o → HasFirst given a o.report
streamed-first given a p o from sound numbers on d = record {
  program = p;
  source = from;
  streamed = on;
  some = d.some;
  enough = subst (λ (n : ℕ). given.models ≤ n) (count-searched given p sound numbers (is-listing given p on)) d.enough;
  price = d.price;
  told = price-searched given p d.price sound numbers (is-listing given p on) d.told;
  reports = (d.report, d.reports, d.mode_is);
}

-- where it wasn't asked for there is none
pub at-once : (given : Options) (p : Program) → given.stream ≡ false → streams given p ≡ false
at-once given p off =
    ap (λ (b : Bool). b && (is_list given.all_optima (mode_of given.mode p) && lists_lines given)) off
