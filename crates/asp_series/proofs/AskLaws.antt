-- What a search says of a program with a query's literals assumed.
use Rattle.std.proofs.Common.{◌≡◌, ◌∙◌, ℕ, ◌+◌, Bool, true, false, not, ◌&&◌, ◌||◌, cond, List, [], ◌∷◌, length, map, refl, sym, ap, subst, arith}
use Rattle.std.specs.Prelude.{ℤ, Contains, Option, None, Some, filter, option_map}
use Rattle.std.proofs.lemmas.Bool.{false≢true}
use Rattle.asp_model.specs.declared.program.Program.{Program}
use Rattle.asp_model.specs.declared.results.Ask.{Ask}
use Rattle.asp_model.specs.declared.results.End.{End}
use Rattle.asp_model.specs.declared.results.End.TheVariants.{Finished, Limited, Unfinished}
use Rattle.asp_model.specs.declared.results.Mode.{Mode}
use Rattle.asp_model.specs.declared.results.Mode.TheVariants.{Enum, Opt, Consequences}
use Rattle.asp_model.specs.Asked.{reasoning_of}
use Rattle.asp_model.specs.Found.{Found}
use Rattle.asp_model.specs.Models.{answers}
use Rattle.asp_model.specs.Sets.{Atoms}
use Rattle.asp_model.specs.Sound.{IsSound}
use Rattle.asp_model.specs.Texts.{bests}
use Rattle.asp_model.proofs.ModelLaws.{contains-filter}
use Rattle.asp_equal.specs.declared.reduce.Aside.{Aside}
use Rattle.asp_equal.specs.Reduced.{restored}
use Rattle.asp_named.specs.Named.{named}
use Rattle.asp_cli.specs.declared.Options.{Options}
use Rattle.asp_cli.specs.Found.{seeks_consequences}
use Rattle.asp_crew_laws.specs.declared.report.Report.{Report}
use Rattle.asp_crew_laws.specs.Reports.{Says as SaysReport}
use Rattle.asp_crew_laws.specs.Runs.{IsBest, IsFound}
use Rattle.asp_read.specs.Queries.{with_query}
use Rattle.asp_series.specs.declared.ask.Sought.{Sought}
use Rattle.asp_series.specs.declared.cores.Verdict.{Verdict}
use Rattle.asp_series.specs.Asking.{IsSought, Judges, Tries, one_model, verdict_by}
use Rattle.asp_prepare.specs.Meaning.{has_model_in, is_some_of, mode_of}
use Rattle.asp_prepare.specs.Naming.{asked, is_json, is_settled, searched, set_aside}
use Rattle.asp_prepare.specs.Told.{found_with, report_with, without_names}
use Rattle.asp_series.specs.Series.{is_done}
use Rattle.asp_series.proofs.CoreLaws.{assuming, bare-with, met, refuted}
use Rattle.asp_prepare.proofs.AskedLaws.{unsought}
use Rattle.asp_prepare.proofs.ToldLaws.{told-plain}

-- ---- where no consequences are sought
not-last : (a b c : Bool) → b ≡ false → (a && b && c) ≡ false
not-last true false c e = refl
not-last false false c e = refl
not-last a true c e = absurd (false≢true (sym e))

-- the program whose answers are sought is the program itself
pub plain : (given : Options) (p : Program) → seeks_consequences (Some given.mode) ≡ false → asked given p ≡ p
plain given p e = ap (λ (b : Bool). cond b (named p) p) (not-last (is_settled given) (seeks_consequences (Some given.mode)) (given.names || is_json given.form) e)

-- what a search says of the program
pub says-of : (given : Options) (p : Program) (ask : Ask) (r : Report) → seeks_consequences (Some given.mode) ≡ false → IsSound p → SaysReport (searched given p) (without_names ask) r r.results.end
    → SaysReport p (without_names ask) (report_with (set_aside given p) r) r.results.end
says-of given p ask r e sound says =
    let is = plain given p e in
    subst (λ (q : Program). SaysReport q (without_names ask) (report_with (set_aside given p) r) r.results.end) is
    (told-plain given p ask r r.results.end (subst IsSound (sym is) sound) says)

-- the results of a query are listed
pub listed-of : (given : Options) (p : Program) (r : Found) → seeks_consequences (Some given.mode) ≡ false → r.mode ≡ mode_of given.mode p → reasoning_of r.mode ≡ None
listed-of given p r e is = ap reasoning_of is ∙ unsought given.mode p e

-- ---- finished without a model
none-in : {A : Type 0} (L : List A) → is_some_of L ≡ false → L ≡ []
none-in [] e = refl
none-in (x ∷ L) e = absurd (false≢true (sym e))

none-best : (best : Option (Atoms × List ℤ)) (L : List Atoms) → is_some_of (bests best L) ≡ false → best ≡ None
none-best None [] e = refl
none-best (Some b) [] e = absurd (false≢true (sym e))
none-best best (S ∷ L) e = absurd (false≢true (sym e))

pub parts : (a b : Bool) → (a && not b) ≡ true → (a ≡ true) × (b ≡ false)
parts true false e = (refl, refl)
parts true true e = absurd (false≢true e)
parts false b e = absurd (false≢true e)

no-found : (n : Bool) (p : Program) (A : Aside) (mode : Mode) (r : Found) → reasoning_of mode ≡ None → has_model_in mode r ≡ false
    → IsFound n p mode (found_with A r).answers (found_with A r).best (found_with A r).known → answers p ≡ []
no-found n p A Enum r e none h = sym h.0 ∙ ap (map (restored A)) (none-in r.answers none)
no-found n p A Opt r e none h = subst (IsBest p) (ap (option_map (λ (b : Atoms × List ℤ). (restored A b.0, b.1))) (none-best r.best r.answers none)) h.1
no-found n p A (Consequences w) r e none h = absurd (let no : Some w ≡ None = e in let f : ⊥ = cc in f)

pub no-answer : (p : Program) (A : Aside) (mode : Mode) (r : Report) (end : End) → is_done end ≡ true → reasoning_of mode ≡ None → has_model_in mode r.results ≡ false
    → SaysReport p (record { mode = mode; models = 0; all_optima = false; by_name = false }) (report_with A r) end → answers p ≡ []
no-answer p A mode r Finished done e none says = no-found false p A mode r.results e none says
no-answer p A mode r Limited done e none says = absurd (false≢true done)
no-answer p A mode r Unfinished done e none says = absurd (false≢true done)

-- ---- whether a model has the others of some literals
a-first : (xs : List Atoms) (f : Atoms → Atoms) (all : List Atoms) (chosen : Atoms → Bool) → is_some_of xs ≡ true → map f xs ≡ filter chosen all → (S : Atoms) × Contains all S
a-first [] f all chosen some is = absurd (false≢true some)
a-first (x ∷ xs) f all chosen some is = (f x, ((contains-filter chosen all (f x)).0 (subst (λ (Ss : List Atoms). Contains Ss (f x)) is (0, omega arith, refl))).0)

all-chosen : (all : List Atoms) → all ≡ filter (λ S. true) all
all-chosen [] = refl
all-chosen (S ∷ all) = ap (λ (Ss : List Atoms). S ∷ Ss) (all-chosen all)

-- one that was found is a model
pub one-found : (p : Program) (A : Aside) (r : Report) (end : End) → is_some_of r.results.answers ≡ true → SaysReport p one_model (report_with A r) end → (S : Atoms) × Contains (answers p) S
one-found p A r Finished some says = a-first r.results.answers (restored A) (answers p) (λ S. true) some (says.0 ∙ all-chosen (answers p))
one-found p A r Limited some says = a-first r.results.answers (restored A) (answers p) says.part.0.0 some says.part.0.1
one-found p A r Unfinished some says = a-first r.results.answers (restored A) (answers p) says.0.0.0 some says.0.0.1

-- ---- a verdict on the results
judges : (p : Program) (others : List ℤ) (A : Aside) (r : Report) (units : ℕ) → IsSound p → IsSound (assuming p others) → r.paid.left + r.spent ≡ units
    → (b : Bool) (end : End) → is_some_of r.results.answers ≡ b → SaysReport (assuming p others) one_model (report_with A r) end → Judges p others units r.spent (verdict_by b end)
judges p others A r units itself sound paid true end some says = let one = one-found (assuming p others) A r end some says in met p others itself sound one.0 one.1
judges p others A r units itself sound paid false Finished none says = refuted p others itself sound (no-found false (assuming p others) A Enum r.results refl none says)
judges p others A r units itself sound paid false Limited none says =
    let empty : length (map (restored A) r.results.answers) ≡ 0 = ap (λ (Ss : List Atoms). length (map (restored A) Ss)) (none-in r.results.answers none) in
    absurd (let count : length (map (restored A) r.results.answers) ≡ 1 = says.count in let f : ⊥ = omega (arith, empty, count) in f)
judges p others A r units itself sound paid false Unfinished none says = let left : r.paid.left ≡ 0 = says.1 in omega (arith, left, paid)

-- what a search for one model says of the others of some literals
pub tries-by : (given : Options) (p : Program) (others : List ℤ) (units : ℕ) (s : Sought) (v : Verdict) →
    seeks_consequences (Some given.mode) ≡ false → IsSound p → p.assumptions ≡ [] → IsSound (with_query p others)
    → IsSought given (with_query p others) one_model units s → v ≡ verdict_by (is_some_of s.report.results.answers) s.report.results.end →
    Tries p others units (record { verdict = v; spent = s.report.spent })
tries-by given p others units s v e itself none sound sought is =
    let q = with_query p others in
    let same = bare-with p others none in
    let r = s.report in
    let says : SaysReport (assuming p others) one_model (report_with (set_aside given q) r) r.results.end =
    subst (λ (x : Program). SaysReport x one_model (report_with (set_aside given q) r) r.results.end) same (says-of given q one_model r e sound sought.report.says) in
    record {
      judges = subst (Judges p others units r.spent) (sym is)
          (judges p others (set_aside given q) r units itself (subst IsSound same sound) sought.report.budget (is_some_of r.results.answers) r.results.end refl says);
      paid = let b = sought.report.budget in omega (arith, b);
    }

-- a query asks what the program asks
pub same-mode : (o : Option Mode) (p : Program) (query : List ℤ) → mode_of o p ≡ mode_of o (with_query p query)
same-mode None p query = refl
same-mode (Some mode) p query = refl
