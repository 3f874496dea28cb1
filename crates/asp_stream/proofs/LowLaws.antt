-- What a search knows of the answers still to come on its path is a low of its leaf.
use Rattle.std.proofs.Common.{◌≡◌, ◌⊎◌, ℕ, zero, suc, ◌+◌, ◌<◌, Bool, true, false, ◌&&◌, ◌||◌, cond, eqb, List, [], ◌∷◌, ◌++◌, get_or, take, length, Option, Some, Result, Ok, Err, refl, sym, ap, ◌∙◌, subst, inl, inr, arith}
use Rattle.std.specs.Prelude.{IfOk}
use Rattle.std.specs.Bool.{beq}
use Rattle.std.proofs.lemmas.Bool.{false≢true, and_parts, eqb-true, eq-eqb, or_cases}
use Rattle.std.proofs.lemmas.List.{take_more}
use Rattle.std.proofs.lemmas.List.Folds.{list_any-append, list_any_at}
use Rattle.asp_model.specs.declared.program.Program.{Program}
use Rattle.asp_model.specs.declared.results.Reasoning.{Reasoning}
use Rattle.asp_model.specs.Asked.{reasoning_of}
use Rattle.asp_model.specs.Consequences.{used_up}
use Rattle.asp_model.specs.Holding.{all_hold}
use Rattle.asp_model.specs.Models.{atoms_of, is_stable}
use Rattle.asp_model.specs.Sets.{Atoms, IsAscending, has}
use Rattle.asp_model.proofs.SetLaws.{get_or-below}
use Rattle.asp_model.proofs.MemberLaws.{each-append, each_of, list_any-weaker}
use Rattle.asp_vars.specs.Entailment.{is_done}
use Rattle.asp_vars.specs.Literals.{Literal, T, complement, has_literal, hits}
use Rattle.asp_vars.specs.Numbering.{IsVar, values, var_count, var_of_atom}
use Rattle.asp_vars.specs.Tabled.{IsAtomVar}
use Rattle.asp_vars.proofs.LiteralLaws.{hits-append, hits-has}
use Rattle.asp_vars.proofs.NumberingLaws.{value-atom}
use Rattle.asp_rows.specs.declared.row.Row.{Row}
use Rattle.asp_rows.specs.Bits.{IsAmong, encode}
use Rattle.asp_rows.specs.Listed.{IsRowOf}
use Rattle.asp_path.specs.Trees.{cube_of}
use Rattle.asp_core.specs.declared.event.Event.TheVariants as event
use Rattle.asp_core.specs.declared.task.Task.{Task}
use Rattle.asp_core.specs.Boards.{is_answer, is_excused, sought, wanted}
use Rattle.asp_core.specs.Events.{happens}
use Rattle.asp_book.specs.Books.{Booked, board}
use Rattle.asp_crew.proofs.BookLaws.{board-task}
use Rattle.asp_search.specs.Sure.{IsFixed}
use Rattle.asp_search_laws.specs.Searching.{Searching}
use Rattle.asp_watermark.specs.Floors.{IsLow}
use Rattle.asp_watermark.proofs.LeafLaws.{second-cube}
use Rattle.asp_ledger.specs.Ledgers.{IsListing}
use Rattle.asp_stream.specs.Lows.{IsSure, IsSureVar, IsToCome, says_true}
use Rattle.asp_stream.specs.Streams.{Knows}
use Rattle.asp_ledger.proofs.LedgerLaws.{nothing-sought}

-- ---- atoms that are gathered in their order
pub record Gathers (P : ℕ → Type 0) (atoms : List ℕ) (n : ℕ) (items : List ℕ) : Type 0 where
  pub rising : IsAscending items
  pub early : (a : ℕ) → has items a ≡ true → has (take n atoms) a ≡ true
  pub each : (a : ℕ) → has items a ≡ true → P a

pub gathers-none : (P : ℕ → Type 0) (atoms : List ℕ) → Gathers P atoms 0 []
gathers-none P atoms = record { rising = tt; early = λ a h. absurd (false≢true h); each = λ a h. absurd (false≢true h) }

take-below : (atoms : List ℕ) (n b : ℕ) → IsAscending atoms → n < length atoms → has (take n atoms) b ≡ true → b < get_or atoms n 0
take-below [] n b up lt h = absurd (omega (arith, lt))
take-below (x ∷ atoms) zero b up lt h = absurd (false≢true h)
take-below (x ∷ atoms) (suc n) b up lt h = here (take-below atoms n b up.1 (omega (arith, lt))) (or_cases (eqb x b) (has (take n atoms) b) h)
  where
    here : (has (take n atoms) b ≡ true → b < get_or atoms n 0) → ((eqb x b ≡ true) ⊎ (has (take n atoms) b ≡ true)) → b < get_or atoms n 0
    here later (inl e) = subst (λ k. k < get_or atoms n 0) (eqb-true x b e) (get_or-below x atoms n up.0 (omega (arith, lt)))
    here later (inr e) = later e

each-below : (S : List ℕ) (a : ℕ) → ((b : ℕ) → has S b ≡ true → b < a) → IsAscending S → IsAscending (S ++ a ∷ [])
each-below [] a below up = (tt, tt)
each-below (b ∷ S) a below up = (
  each-append (λ c. b < c) S (a ∷ []) up.0 (below b (or_from-left (eqb b b) (has S b) (eq-eqb b b refl)), tt),
  each-below S a (λ c h. below c (or_from-right (eqb b c) (has S c) h)) up.1,
)
  where
    or_from-left : (x y : Bool) → x ≡ true → (x || y) ≡ true
    or_from-left true y h = refl
    or_from-left false y h = absurd (false≢true h)

    or_from-right : (x y : Bool) → y ≡ true → (x || y) ≡ true
    or_from-right true y h = refl
    or_from-right false y h = h

has-push : (S : List ℕ) (a c : ℕ) → has (S ++ a ∷ []) c ≡ true → (has S c ≡ true) ⊎ (a ≡ c)
has-push S a c h = here (or_cases (has S c) (has (a ∷ []) c) (sym (list_any-append (λ b. eqb b c) S (a ∷ [])) ∙ h))
  where
    last : ((eqb a c ≡ true) ⊎ (false ≡ true)) → a ≡ c
    last (inl e) = eqb-true a c e
    last (inr e) = absurd (false≢true e)

    here : ((has S c ≡ true) ⊎ (has (a ∷ []) c ≡ true)) → (has S c ≡ true) ⊎ (a ≡ c)
    here (inl e) = inl e
    here (inr e) = inr (last (or_cases (eqb a c) false e))

has-more : (S : List ℕ) (a c : ℕ) → (has S c ≡ true) ⊎ (a ≡ c) → has (S ++ a ∷ []) c ≡ true
has-more S a c h = list_any-append (λ b. eqb b c) S (a ∷ []) ∙ here h
  where
    here : ((has S c ≡ true) ⊎ (a ≡ c)) → (has S c || (eqb a c || false)) ≡ true
    here (inl e) = ap (λ x. x || (eqb a c || false)) e
    here (inr e) = ap (λ x. has S c || (x || false)) (eq-eqb a c e) ∙ or-true (has S c)
      where
        or-true : (x : Bool) → (x || true) ≡ true
        or-true true = refl
        or-true false = refl

pub gathers-next : (P : ℕ → Type 0) (atoms : List ℕ) (n : ℕ) (items new : List ℕ) (a : ℕ) (sure : Bool) → IsAscending atoms → n < length atoms → a ≡ get_or atoms n 0 →
    (sure ≡ true → P a) → new ≡ cond sure (items ++ a ∷ []) items → Gathers P atoms n items → Gathers P atoms (n + 1) new
gathers-next P atoms n items new a sure up lt at one now is = subst (Gathers P atoms (n + 1)) (sym now) (here sure one)
  where
    more : (c : ℕ) → (has (take n atoms) c ≡ true) ⊎ (a ≡ c) → has (take (n + 1) atoms) c ≡ true
    more c h = ap (λ (l : List ℕ). has l c) (take_more atoms n 0 lt ∙ ap (λ k. take n atoms ++ k ∷ []) (sym at)) ∙ has-more (take n atoms) a c h

    either : (c : ℕ) → (has items c ≡ true) ⊎ (a ≡ c) → (has (take n atoms) c ≡ true) ⊎ (a ≡ c)
    either c (inl h) = inl (is.early c h)
    either c (inr e) = inr e

    one-of : (c : ℕ) → P a → (has items c ≡ true) ⊎ (a ≡ c) → P c
    one-of c p (inl h) = is.each c h
    one-of c p (inr e) = subst P e p

    here : (b : Bool) → (b ≡ true → P a) → Gathers P atoms (n + 1) (cond b (items ++ a ∷ []) items)
    here false one = record { rising = is.rising; early = λ c h. more c (inl (is.early c h)); each = is.each }
    here true one = record {
      rising = each-below items a (λ b h. subst (λ k. b < k) (sym at) (take-below atoms n b up lt (is.early b h))) is.rising;
      early = λ c h. more c (either c (has-push items a c h));
      each = λ c h. one-of c (one refl) (has-push items a c h);
    }

has-taken : (atoms : List ℕ) (n a : ℕ) → has (take n atoms) a ≡ true → has atoms a ≡ true
has-taken [] zero a h = h
has-taken [] (suc n) a h = h
has-taken (x ∷ atoms) zero a h = absurd (false≢true h)
has-taken (x ∷ atoms) (suc n) a h = here (has-taken atoms n a) (or_cases (eqb x a) (has (take n atoms) a) h)
  where
    or-true : (x : Bool) → (x || true) ≡ true
    or-true true = refl
    or-true false = refl

    here : (has (take n atoms) a ≡ true → has atoms a ≡ true) → ((eqb x a ≡ true) ⊎ (has (take n atoms) a ≡ true)) → has (x ∷ atoms) a ≡ true
    here later (inl e) = ap (λ y. y || has atoms a) e
    here later (inr e) = ap (λ y. eqb x a || y) (later e) ∙ or-true (eqb x a)

pub gathers-among : (P : ℕ → Type 0) (atoms : List ℕ) (n : ℕ) (items : List ℕ) → Gathers P atoms n items → IsAmong atoms items
gathers-among P atoms n items is = record { rising = is.rising; stand = λ a h. has-taken atoms n a (is.early a h) }

pub has-at : (atoms all : List ℕ) (i : ℕ) → atoms ≡ all → i < length atoms → has all (get_or atoms i 0) ≡ true
has-at atoms all i same lt =
    subst (λ (l : List ℕ). has l (get_or atoms i 0) ≡ true) same (list_any_at (λ b. eqb b (get_or atoms i 0)) atoms i 0 lt (eq-eqb (get_or atoms i 0) (get_or atoms i 0) refl))

-- ---- the atoms that are sure
abbrev pub IsSureAtom : Searching → List Literal → ℕ → Type 0
IsSureAtom s more a = (q : List Literal) (S : Atoms) → s.cube ≡ Some q → IsToCome s q more S → has S a ≡ true

pub sure-atom : (s : Searching) (more : List Literal) (a v : ℕ) → has (atoms_of s.program) a ≡ true → v ≡ var_of_atom s.program a → IsSureVar s more v → IsSureAtom s more a
sure-atom s more a v atom var sure q S entered comes =
    sym (value-atom s.program S a atom) ∙ ap (λ k. get_or (values s.program S) k false) (sym var) ∙ sure q S entered comes

beq-same : (x : Bool) → beq x true ≡ x
beq-same true = refl
beq-same false = refl

said-literal : (lits : List Literal) (v : ℕ) → says_true lits v ≡ true → has_literal lits (T v) ≡ true
said-literal lits v said =
    list_any-weaker (λ (l : Literal). eqb l.var v && l.truth) (λ (l : Literal). eqb l.var v && beq l.truth true) lits
    (each_of (λ (l : Literal). (eqb l.var v && l.truth) ≡ true → (eqb l.var v && beq l.truth true) ≡ true) (λ l e. ap (λ x. eqb l.var v && x) (beq-same l.truth) ∙ e) lits) said

pub said-sure : (s : Searching) (more : List Literal) (v : ℕ) → says_true more v ≡ true → IsSureVar s more v
said-sure s more v said q S entered comes =
    sym (beq-same (get_or (values s.program S) v false)) ∙ hits-has (values s.program S) more (T v) comes.has (said-literal more v said)

pub fixed-sure : (s : Searching) (more : List Literal) (v : ℕ) → IsFixed s v true → IsSureVar s more v
fixed-sure s more v fixed q S entered comes = fixed q S entered comes.stable comes.path comes.new

pub sure-set : (s : Searching) (more : List Literal) (atoms : List ℕ) (n : ℕ) (items : List ℕ) → Gathers (IsSureAtom s more) atoms n items → IsSure s more items
sure-set s more atoms n items is q S entered comes a h = is.each a h q S entered comes

pub atom-is-var : (p : Program) (v : ℕ) → IsAtomVar p v → IsVar (var_count p) v
atom-is-var p v is = (is.0, omega (arith, is.1))

-- ---- rows
pub row-if : {E : Type 0} (r : Result Row E) (atoms all S : Atoms) → atoms ≡ all → IsAmong all S → IfOk r (λ row. row.words.items ≡ encode atoms S) → IfOk r (λ row. row.set ≡ S) → IfOk r (IsRowOf all)
row-if (Ok row) atoms all S same among words set = record {
  words = words ∙ ap (λ (A : Atoms). encode A S) same ∙ ap (encode all) (sym set);
  among = subst (IsAmong all) (sym set) among;
}
row-if (Err e) atoms all S same among words set = tt

pub sure-if : {E : Type 0} (r : Result Row E) (s : Searching) (more : List Literal) (S : Atoms) → IsSure s more S → IfOk r (λ row. row.set ≡ S) → IfOk r (λ row. IsSure s more row.set)
sure-if (Ok row) s more S sure set = subst (IsSure s more) (sym set) sure
sure-if (Err e) s more S sure set = tt

-- ---- lows of leaves
neither : (x y : Bool) → (x ≡ true → y ≡ true) → y ≡ false → x ≡ false
neither true y h e = absurd (false≢true (sym e ∙ h refl))
neither false y h e = refl

module _ (v : Booked) (s : Searching) (leaf : ℕ) (task : IsListing v.task) (knows : Knows v s leaf) where
  same-program : (board v).task.program ≡ s.program
  same-program = ap (λ (t : Task). t.program) (board-task v) ∙ sym knows.program

  same-sought : sought (board v).task.goal ≡ reasoning_of s.mode
  same-sought = nothing-sought v task ∙ ap reasoning_of (sym knows.mode)

  pub to-come : (more : List Literal) (S : Atoms) → is_answer (board v).task S ≡ true → hits (values (board v).task.program S) (cube_of (board v).nodes leaf) ≡ true →
      hits (values (board v).task.program S) more ≡ true → is_excused (board v) S ≡ false → IsToCome s (cube_of (board v).nodes leaf) more S
  to-come more S answer path has fresh = record {
    stable = ap (λ (p : Program). is_stable p S) (sym same-program) ∙ (and_parts (is_stable (board v).task.program S) (all_hold S (wanted (board v).task)) answer).0;
    path = ap (λ (p : Program). hits (values p S) (cube_of (board v).nodes leaf)) (sym same-program) ∙ path;
    has = ap (λ (p : Program). hits (values p S) more) (sym same-program) ∙ has;
    new = ap (λ (p : Program). is_done p (used_up (reasoning_of s.mode) p s.known) s.bound S) (sym same-program)
        ∙ ap (λ (k : Option Reasoning). is_done (board v).task.program (used_up k (board v).task.program s.known) s.bound S) (sym same-sought)
        ∙ neither (is_done (board v).task.program (used_up (sought (board v).task.goal) (board v).task.program s.known) s.bound S) (is_excused (board v) S)
        (knows.agrees.excused S) fresh;
  }

  pub sure-low : (low : Atoms) → IsAscending low → IsSure s [] low → IsLow (board v) leaf low
  sure-low low up sure = record {
    rising = up;
    contained = λ S answer hit fresh. sure (cube_of (board v).nodes leaf) S knows.cube (to-come [] S answer hit refl fresh);
  }

  -- and of the second half, where the complement holds too
  pub sure-second : (l : Literal) (low : Atoms) → IsAscending low → IsSure s (complement l ∷ []) low → IsLow (happens (board v) (event.Split 0 leaf l)) (length (board v).nodes + 1) low
  sure-second l low up sure = record {
    rising = up;
    contained = λ S answer hit fresh.
        let vals : List Bool = values (board v).task.program S in
        let q : List Literal = cube_of (board v).nodes leaf in
        let both = and_parts (hits vals q) (hits vals (complement l ∷ []))
        (sym (hits-append vals q (complement l ∷ [])) ∙ ap (hits vals) (sym (second-cube (board v).nodes leaf l)) ∙ hit) in
        sure q S knows.cube (to-come (complement l ∷ []) S answer both.0 both.1 fresh);
  }
