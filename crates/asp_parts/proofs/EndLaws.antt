-- What is said at the end is a report: of a search that delivered the answers that were told, took the one leaf and closed it.
use Rattle.std.proofs.Common.{◌≡◌, ℕ, ◌+◌, ◌^◌, ◌<◌, Bool, true, false, ◌&&◌, ◌||◌, eqb, List, [], ◌∷◌, ◌++◌, filter, length, map, refl, sym, ap, ◌∙◌, subst, append_assoc, append-nil, arith}
use Rattle.std.specs.Prelude.{ℤ}
use Rattle.std.specs.List.{list_any, AllByRecursion}
use Rattle.std.specs.Bool.{beq}
use Rattle.std.proofs.lemmas.Bool.{false≢true, and_from, and_parts, eq-eqb}
use Rattle.asp_model.specs.declared.program.Program.{Program}
use Rattle.asp_model.specs.Holding.{all_hold}
use Rattle.asp_model.specs.Models.{answers, atoms_of, is_stable, models}
use Rattle.asp_model.specs.Sets.{Atoms, same_set}
use Rattle.asp_vars.specs.Conflicts.{has_all}
use Rattle.asp_vars.specs.Literals.{Literal, has_literal, hits, literal_eq}
use Rattle.asp_vars.specs.Numbering.{literal_of, values}
use Rattle.asp_vars.proofs.CompletionLaws.{hits-literals}
use Rattle.asp_core.specs.declared.event.Event.{Event}
use Rattle.asp_core.specs.declared.event.Event.TheVariants as event
use Rattle.asp_core.specs.declared.task.Task.{Task}
use Rattle.asp_core.specs.Boards.{Board, is_answer, is_excused, start, wanted}
use Rattle.asp_core.specs.Events.{Guard, IsLawful, happens, run}
use Rattle.asp_core.specs.Sorting.{answers_of, sorted_once}
use Rattle.asp_core.proofs.BoardLaws.{wanted-stand}
use Rattle.asp_core.proofs.HeldLaws.{IsLawful-push, run-push}
use Rattle.asp_core.proofs.SortingLaws.{has-answers_of, sorted-answers}
use Rattle.asp_book.specs.Books.{IsJournalOf}
use Rattle.asp_book.specs.Fuels.{IsOwnFuel}
use Rattle.asp_crew.specs.Twice.{IsSearched}
use Rattle.asp_crew_laws.specs.Reports.{IsToldBy, IsWorkedOff}
use Rattle.asp_ledger.specs.Ledgers.{enumeration}
use Rattle.asp_stream.specs.declared.told.Told.{Told}
use Rattle.asp_stream.specs.declared.told.End.{End}
use Rattle.asp_stream.specs.declared.told.End.TheVariants as end
use Rattle.asp_stream.specs.Endings.{IsTellingOf, Tells, all_units, end_of as told_end, report_of, unpaid_of}
use Rattle.asp_stream.proofs.EndLaws.{telling-all}
use Rattle.asp_parts.specs.Courses.{IsOver, end_of}
use Rattle.asp_parts.specs.Parts.{deliveries}
use Rattle.asp_parts.proofs.PartLaws.{each-answer}
use Rattle.asp_rows.specs.Listed.{Listed}
use Rattle.asp_vars.specs.Paid.{Units}

-- ---- literals
beq-self : (b : Bool) → beq b b ≡ true
beq-self true = refl
beq-self false = refl

equal-self : (x : Literal) → literal_eq x x ≡ true
equal-self x = and_from (eqb x.var x.var) (beq x.truth x.truth) (eq-eqb x.var x.var refl) (beq-self x.truth)

or-later : (a b : Bool) → b ≡ true → (a || b) ≡ true
or-later true b h = refl
or-later false b h = h

has-more : (m : Literal) (n : List Literal) (l : Literal) → has_literal n l ≡ true → has_literal (m ∷ n) l ≡ true
has-more m n l h = or-later (literal_eq m l) (has_literal n l) h

has-all-more : (m : Literal) (n k : List Literal) → has_all n k ≡ true → has_all (m ∷ n) k ≡ true
has-all-more m n [] h = refl
has-all-more m n (l ∷ k) h =
    let parts = and_parts (has_literal n l) (has_all n k) h in
    and_from (has_literal (m ∷ n) l) (has_all (m ∷ n) k) (has-more m n l parts.0) (has-all-more m n k parts.1)

has-all-self : (n : List Literal) → has_all n n ≡ true
has-all-self [] = refl
has-all-self (l ∷ n) = and_from (has_literal (l ∷ n) l) (has_all (l ∷ n) n) (ap (λ b. b || has_literal n l) (equal-self l)) (has-all-more l n n (has-all-self n))

-- ---- deliveries
module _ (p : Program) (budget : ℕ) where
  abbrev task : Task
  task = enumeration p budget

  -- a board on which these answers were delivered, and nothing else happened
  abbrev with_answers : List Atoms → Board
  with_answers A = record (start task) { answers = A }

  delivered : (A B : List Atoms) → run (with_answers A) (deliveries B) ≡ with_answers (A ++ B)
  delivered A [] = ap with_answers (sym (append-nil A))
  delivered A (S ∷ B) = delivered (A ++ S ∷ []) B ∙ ap with_answers (append_assoc A (S ∷ []) B)

  lawful-deliveries : (A B : List Atoms) → AllByRecursion (λ S. is_answer task S ≡ true) B → IsLawful (with_answers A) (deliveries B)
  lawful-deliveries A [] h = tt
  lawful-deliveries A (S ∷ B) h = ((refl, h.0, refl), lawful-deliveries (A ++ S ∷ []) B h.1)

  -- without a query the answers are the program's
  answers-are : answers_of task ≡ answers p
  answers-are = ap (λ (ls : List ℤ). filter (λ S. all_hold S ls) (models p)) (append-nil p.assumptions)

  abbrev lits : List Literal
  lits = map (literal_of p) p.assumptions

  -- the journal of a search that delivered these, took the one leaf and closed it
  abbrev pub journal : List Atoms → List Event
  journal A = (deliveries A ++ event.Take 0 0 ∷ []) ++ event.Close 0 0 lits ∷ []

  pub journal-is : (A : List Atoms) (old mid new : List Event) (take close : Event) (cube : List Literal) → old ≡ deliveries A → mid ≡ old ++ take ∷ [] → take ≡ event.Take 0 0 →
      new ≡ mid ++ close ∷ [] → close ≡ event.Close 0 0 cube → cube ≡ lits → new ≡ journal A
  journal-is A old mid new take close cube was first is_take second is_close is_cube =
      second
      ∙ ap (λ (es : List Event). es ++ close ∷ []) (first ∙ ap (λ (es : List Event). es ++ take ∷ []) was ∙ ap (λ (e : Event). deliveries A ++ e ∷ []) is_take)
      ∙ ap (λ (e : Event). (deliveries A ++ event.Take 0 0 ∷ []) ++ e ∷ []) (is_close ∙ ap (λ (n : List Literal). event.Close 0 0 n) is_cube)

  abbrev root : List Literal
  root = map (literal_of p) (wanted task)

  root-is : root ≡ lits
  root-is = ap (λ (ls : List ℤ). map (literal_of p) ls) (append-nil p.assumptions)

  -- ---- all answers were delivered
  module _ (A : List Atoms) (all : A ≡ answers p) where
    listed : (S : Atoms) → list_any (same_set S) A ≡ is_answer task S
    listed S = ap (list_any (same_set S)) (all ∙ sym answers-are) ∙ has-answers_of task S

    abbrev taken : Board
    taken = happens (with_answers A) (event.Take 0 0)

    abbrev closed : Board
    closed = happens taken (event.Close 0 0 lits)

    excused : (S : Atoms) → is_stable p S ≡ true → hits (values p S) lits ≡ true → is_excused taken S ≡ true
    excused S stable hit =
        let holds : all_hold S (wanted task) ≡ true =
        sym (hits-literals p S (wanted task) (wanted-stand task tt)) ∙ ap (hits (values p S)) root-is ∙ hit in
        ap (λ b. b || false) (listed S ∙ and_from (is_stable p S) (all_hold S (wanted task)) stable holds)

    close-guard : Guard taken (event.Close 0 0 lits)
    close-guard = (refl, ap (λ (n : List Literal). has_all n lits) root-is ∙ has-all-self lits, record { excused = excused })

    first : run (start task) (deliveries A) ≡ with_answers A
    first = delivered [] A

    second : run (start task) (deliveries A ++ event.Take 0 0 ∷ []) ≡ taken
    second = run-push (start task) (deliveries A) (event.Take 0 0) ∙ ap (λ (b : Board). happens b (event.Take 0 0)) first

    third : run (start task) (journal A) ≡ closed
    third = run-push (start task) (deliveries A ++ event.Take 0 0 ∷ []) (event.Close 0 0 lits) ∙ ap (λ (b : Board). happens b (event.Close 0 0 lits)) second

    lawful : AllByRecursion (λ S. is_answer task S ≡ true) A → IsJournalOf task (journal A)
    lawful each =
        IsLawful-push (start task) (deliveries A ++ event.Take 0 0 ∷ []) (event.Close 0 0 lits)
        (IsLawful-push (start task) (deliveries A) (event.Take 0 0) (lawful-deliveries [] A each) (subst (λ (b : Board). Guard b (event.Take 0 0)) (sym first) (refl, refl)))
        (subst (λ (b : Board). Guard b (event.Close 0 0 lits)) (sym second) close-guard)

    sorted : sorted_once A ≡ A
    sorted = sorted-answers task (λ S. true) A (λ S. listed S ∙ and-true (is_answer task S)) ∙ filter-all (answers_of task) ∙ answers-are ∙ sym all
      where
        and-true : (b : Bool) → b ≡ (b && true)
        and-true true = refl
        and-true false = refl

        filter-all : (L : List Atoms) → filter (λ S. true) L ≡ L
        filter-all [] = refl
        filter-all (S ∷ L) = ap (λ (X : List Atoms). S ∷ X) (filter-all L)

    -- what is told of the board at the end
    told-closed : (r : Told) → r.end ≡ end.Finished → r.rest.sets ≡ [] → r.leaves ≡ 1 → r.paid ≡ all_units p budget → IsToldBy closed (report_of A r)
    told-closed r ended none leaves paid = record {
      answers = ap (λ (X : List Atoms). A ++ X) none ∙ append-nil A ∙ sym sorted;
      best = refl;
      common = refl;
      end = ap told_end ended;
      leaves = leaves;
      spent = ap (λ (u : Units). u.burnt) paid;
      paid = subst (IsOwnFuel closed) (sym paid) (record {
        fits = record { program = refl; reasoned = λ e. absurd (false≢true e); known = omega arith; least = tt };
        left = refl;
        burnt = refl;
      });
      idle = record { free = refl; home = λ s. refl };
      over = subst (λ (e : End). IsWorkedOff closed (unpaid_of e)) (sym ended) refl;
    }

-- ---- at the end
module _ (p : Program) (budget : ℕ) (heard : List Atoms) (wants : Bool) (r : Told) where
  searched : heard ≡ answers p → r.end ≡ end.Finished → r.rest.sets ≡ [] → r.journal ≡ journal p budget heard → r.leaves ≡ 1 → r.paid ≡ all_units p budget →
      IsSearched (enumeration p budget) (report_of heard r)
  searched all ended none events leaves paid = record {
    lawful = subst (IsJournalOf (enumeration p budget)) (sym events)
        (lawful p budget heard all (subst (AllByRecursion (λ S. is_answer (enumeration p budget) S ≡ true)) (answers-are p budget ∙ sym all) (each-answer (enumeration p budget))));
    told = subst (λ (b : Board). IsToldBy b (report_of heard r)) (sym (ap (run (start (enumeration p budget))) events ∙ third p budget heard all))
        (told-closed p budget heard all r ended none leaves paid);
  }

  -- all was told, or no more is wanted
  pub telling-over : (all : Bool) → IsOver p heard wants all → length heard + 1 < 2 ^ 64 → r.end ≡ end_of all → r.rest ≡ record { atoms = atoms_of p; sets = [] } →
      r.journal ≡ journal p budget heard → r.leaves ≡ 1 → r.paid ≡ all_units p budget → IsTellingOf p budget heard wants r
  telling-over all over few ended rest events leaves paid =
      telling-all p budget heard wants r (record {
        atoms = ap (λ (l : Listed). l.atoms) rest;
        tells = subst (Tells (IsSearched (enumeration p budget) (report_of heard r)) wants) (sym ended) (by all over ended);
        few = omega (arith, few, ap (λ (l : Listed). length l.sets) rest);
        program = ap (λ (u : Units). u.program) paid;
        units = ap (λ (u : Units). u.left + u.burnt) paid ∙ (let z : budget + 0 ≡ budget = omega arith in z);
      })
    where
      by : (b : Bool) → IsOver p heard wants b → r.end ≡ end_of b → Tells (IsSearched (enumeration p budget) (report_of heard r)) wants (end_of b)
      by true told e = searched told e (ap (λ (l : Listed). l.sets) rest) events leaves paid
      by false refused e = refused
