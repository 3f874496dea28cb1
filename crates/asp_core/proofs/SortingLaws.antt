-- Two strictly rising lists of sets with the same members are equal.
use Rattle.std.proofs.Common.{◌≡◌, Bool, true, false, cond, ◌&&◌, ◌||◌, List, [], ◌∷◌, filter, fold, refl, sym, ap, ◌∙◌, subst}
use Rattle.std.specs.List.{list_any, AllByRecursion, dedup, dedup_from}
use Rattle.std.specs.List.Retain.{IsFiltered, DiffersFromLast}
use Rattle.std.specs.List.Sorted.{IsPermutation, IsSorted, IsStrictlySortedBy}
use Rattle.std.specs.Ordering.{is_eq, ordering_reverse, match_ordering}
use Rattle.std.specs.declared.cmp.Ordering.{Ordering}
use Rattle.std.specs.declared.cmp.Ordering.TheVariants.{Less, Equal, Greater}
use Rattle.std.specs.Cmp.Lexicographic.{same_text}
use Rattle.std.proofs.lemmas.Bool.{false≢true, eq-eqb, and_parts, or_from}
use Rattle.std.proofs.lemmas.List.Filters.{dedup_is}
use Rattle.std.proofs.lemmas.List.Kept.{IsStrictlySortedBy-dedup}
use Rattle.std.proofs.lemmas.List.Sorted.{list_any-IsPermutation}
use Rattle.asp_model.specs.declared.program.Program.{Program}
use Rattle.asp_model.specs.Sets.{Atoms, IsAscending, IsBefore, same_set, set_cmp, subsets}
use Rattle.asp_model.specs.Holding.{all_hold}
use Rattle.asp_model.specs.Models.{mentions, atoms_of, is_stable, models}
use Rattle.asp_model.specs.Orders.{sets_total, sets_tie}
use Rattle.asp_model.proofs.SetLaws.{IsAscending-set_of}
use Rattle.asp_model.proofs.MemberLaws.{each_weaker, each-filter}
use Rattle.asp_model.proofs.OrderLaws.{cmp_from_before}
use Rattle.asp_model.proofs.SubsetLaws.{IsSubsetOf, IsRising, subsets-are, subsets-have, subsets-rise}
use Rattle.asp_model.proofs.ModelLaws.{same_bools, stable-subset}
use Rattle.asp_core.specs.declared.task.Task.{Task}
use Rattle.asp_core.specs.Boards.{wanted, is_answer}
use Rattle.asp_core.specs.Sorting.{with_set, sorted_once, answers_of}

-- each set comes before all later ones
abbrev pub Rise : List Atoms → Type 0
Rise [] = Unit {0}
Rise (S ∷ L) = AllByRecursion (λ T. set_cmp S T ≡ Less) L × Rise L

pub same_itself : (S : Atoms) → same_set S S ≡ true
same_itself [] = refl
same_itself (a ∷ S) = ap (λ x. x && same_set S S) (eq-eqb a a refl) ∙ same_itself S

pub tied : (S T : Atoms) → set_cmp S T ≡ Equal → S ≡ T
tied S T e = same_text S T (sym (sets_tie S T ∙ ap is_eq e))

pub turned : (S T : Atoms) → set_cmp S T ≡ Greater → set_cmp T S ≡ Less
turned S T e = sets_total.antisymm T S ∙ ap ordering_reverse e

pub apart : (S T : Atoms) → set_cmp S T ≡ Less → same_set S T ≡ false
apart S T e = sets_tie S T ∙ ap is_eq e

pub absent : (S : Atoms) (L : List Atoms) → AllByRecursion (λ T. set_cmp S T ≡ Less) L → list_any (same_set S) L ≡ false
absent S [] h = refl
absent S (T ∷ L) h = or_from (same_set S T) (list_any (same_set S) L) (apart S T h.0) (absent S L h.1)

pub before-all : (S T : Atoms) (L : List Atoms) → set_cmp S T ≡ Less → AllByRecursion (λ R. set_cmp T R ≡ Less) L → AllByRecursion (λ R. set_cmp S R ≡ Less) L
before-all S T L e h = each_weaker (λ R. set_cmp T R ≡ Less) (λ R. set_cmp S R ≡ Less) (λ R f. sets_total.trans S T R e f) L h

or_again : (a x : Bool) → (a || x) ≡ (a || (a || x))
or_again true x = refl
or_again false x = refl

or_turn : (a b x : Bool) → (a || (b || x)) ≡ (b || (a || x))
or_turn true true x = refl
or_turn true false x = refl
or_turn false b x = refl

pub with_set-has : (S : Atoms) (L : List Atoms) (R : Atoms) → list_any (same_set R) (with_set S L) ≡ (same_set R S || list_any (same_set R) L)
with_set-has S [] R = refl
with_set-has S (T ∷ L) R = here (set_cmp S T) refl (with_set-has S L R)
  where
    here : (o : Ordering) → o ≡ set_cmp S T → list_any (same_set R) (with_set S L) ≡ (same_set R S || list_any (same_set R) L) →
        list_any (same_set R) (match_ordering o (S ∷ T ∷ L) (T ∷ L) (T ∷ with_set S L)) ≡ (same_set R S || list_any (same_set R) (T ∷ L))
    here Less q rest = refl
    here Equal q rest = or_again (same_set R T) (list_any (same_set R) L) ∙ ap (λ (X : Atoms). same_set R X || (same_set R T || list_any (same_set R) L)) (sym (tied S T (sym q)))
    here Greater q rest = ap (λ x. same_set R T || x) rest ∙ or_turn (same_set R T) (same_set R S) (list_any (same_set R) L)

with_set-below : (X S : Atoms) (L : List Atoms) → set_cmp X S ≡ Less → AllByRecursion (λ T. set_cmp X T ≡ Less) L → AllByRecursion (λ T. set_cmp X T ≡ Less) (with_set S L)
with_set-below X S [] e h = (e, tt)
with_set-below X S (T ∷ L) e h = here (set_cmp S T) (with_set-below X S L e h.1)
  where
    here : (o : Ordering) → AllByRecursion (λ T. set_cmp X T ≡ Less) (with_set S L) → AllByRecursion (λ T. set_cmp X T ≡ Less) (match_ordering o (S ∷ T ∷ L) (T ∷ L) (T ∷ with_set S L))
    here Less rest = (e, h)
    here Equal rest = h
    here Greater rest = (h.0, rest)

pub with_set-rise : (S : Atoms) (L : List Atoms) → Rise L → Rise (with_set S L)
with_set-rise S [] up = (tt, tt)
with_set-rise S (T ∷ L) up = here (set_cmp S T) refl (with_set-rise S L up.1)
  where
    here : (o : Ordering) → o ≡ set_cmp S T → Rise (with_set S L) → Rise (match_ordering o (S ∷ T ∷ L) (T ∷ L) (T ∷ with_set S L))
    here Less q rest = ((sym q, before-all S T L (sym q) up.0), up)
    here Equal q rest = up
    here Greater q rest = (with_set-below T S L (turned S T (sym q)) up.0, rest)

or_assoc : (a b c : Bool) → ((a || b) || c) ≡ (b || (a || c))
or_assoc true true c = refl
or_assoc true false c = refl
or_assoc false b c = refl

or-nil : (a : Bool) → a ≡ (a || false)
or-nil true = refl
or-nil false = refl

pub sorted-has : (Z A : List Atoms) (R : Atoms) → list_any (same_set R) (fold (λ Ts S. with_set S Ts) Z A) ≡ (list_any (same_set R) Z || list_any (same_set R) A)
sorted-has Z [] R = or-nil (list_any (same_set R) Z)
sorted-has Z (S ∷ A) R = sorted-has (with_set S Z) A R ∙ ap (λ x. x || list_any (same_set R) A) (with_set-has S Z R) ∙ or_assoc (same_set R S) (list_any (same_set R) Z) (list_any (same_set R) A)

pub sorted-rise : (Z A : List Atoms) → Rise Z → Rise (fold (λ Ts S. with_set S Ts) Z A)
sorted-rise Z [] up = up
sorted-rise Z (S ∷ A) up = sorted-rise (with_set S Z) A (with_set-rise S Z up)

-- ---- equal members make equal lists
not_there : (S T : Atoms) (L M : List Atoms) → set_cmp S T ≡ Less → AllByRecursion (λ R. set_cmp T R ≡ Less) M → list_any (same_set S) (S ∷ L) ≡ list_any (same_set S) (T ∷ M) → ⊥
not_there S T L M e up h =
    false≢true (sym (or_from (same_set S T) (list_any (same_set S) M) (apart S T e) (absent S M (before-all S T M e up))) ∙ sym h ∙ ap (λ x. x || list_any (same_set S) L) (same_itself S))

tails : (S : Atoms) (L M : List Atoms) → AllByRecursion (λ R. set_cmp S R ≡ Less) L → AllByRecursion (λ R. set_cmp S R ≡ Less) M → (R : Atoms) →
    (same_set R S || list_any (same_set R) L) ≡ (same_set R S || list_any (same_set R) M) → list_any (same_set R) L ≡ list_any (same_set R) M
tails S L M l m R h = here (same_set R S) refl h
  where
    here : (x : Bool) → x ≡ same_set R S → (x || list_any (same_set R) L) ≡ (x || list_any (same_set R) M) → list_any (same_set R) L ≡ list_any (same_set R) M
    here true q e =
        let is : R ≡ S = same_text R S q in
        ap (λ (X : Atoms). list_any (same_set X) L) is ∙ absent S L l ∙ sym (absent S M m) ∙ ap (λ (X : Atoms). list_any (same_set X) M) (sym is)
    here false q e = e

pub rise-same : (L M : List Atoms) → Rise L → Rise M → ((R : Atoms) → list_any (same_set R) L ≡ list_any (same_set R) M) → L ≡ M
rise-same [] [] l m h = refl
rise-same [] (T ∷ M) l m h = absurd (false≢true (h T ∙ ap (λ x. x || list_any (same_set T) M) (same_itself T)))
rise-same (S ∷ L) [] l m h = absurd (false≢true (sym (h S) ∙ ap (λ x. x || list_any (same_set S) L) (same_itself S)))
rise-same (S ∷ L) (T ∷ M) l m h = here (set_cmp S T) refl (rise-same L M l.1 m.1)
  where
    here : (o : Ordering) → o ≡ set_cmp S T → (((R : Atoms) → list_any (same_set R) L ≡ list_any (same_set R) M) → L ≡ M) → S ∷ L ≡ T ∷ M
    here Less q rest = absurd (not_there S T L M (sym q) m.0 (h S))
    here Equal q rest =
        let is : S ≡ T = tied S T (sym q) in
        let Below : Atoms → Type 0 = λ X. AllByRecursion (λ R. set_cmp X R ≡ Less) M in
        let same = rest (λ R. tails S L M l.0 (subst Below (sym is) m.0) R (h R ∙ ap (λ (X : Atoms). same_set R X || list_any (same_set R) M) (sym is))) in
        ap (λ (X : List Atoms). S ∷ X) same ∙ ap (λ (X : Atoms). X ∷ M) is
    here Greater q rest = absurd (not_there T S M L (turned S T (sym q)) l.0 (sym (h T)))

-- ---- the answers in order
pub has-filter : (q : Atoms → Bool) (L : List Atoms) (S : Atoms) → list_any (same_set S) (filter q L) ≡ (q S && list_any (same_set S) L)
has-filter q [] S = none (q S)
  where
    none : (a : Bool) → false ≡ (a && false)
    none true = refl
    none false = refl
has-filter q (T ∷ L) S = here (same_set S T) refl (q T) refl (has-filter q L S)
  where
    here : (x : Bool) → x ≡ same_set S T → (y : Bool) → y ≡ q T → list_any (same_set S) (filter q L) ≡ (q S && list_any (same_set S) L) →
        list_any (same_set S) (cond y (T ∷ filter q L) (filter q L)) ≡ (q S && (x || list_any (same_set S) L))
    here true e true f rest = ap (λ x. x || list_any (same_set S) (filter q L)) (sym e) ∙ sym (ap (λ x. x && true) (ap q (same_text S T e) ∙ sym f))
    here true e false f rest = rest ∙ ap (λ x. x && list_any (same_set S) L) (ap q (same_text S T e) ∙ sym f) ∙ sym (ap (λ x. x && true) (ap q (same_text S T e) ∙ sym f))
    here false e true f rest = ap (λ x. x || list_any (same_set S) (filter q L)) (sym e) ∙ rest
    here false e false f rest = rest

pub rise-filter : (q : Atoms → Bool) (L : List Atoms) → Rise L → Rise (filter q L)
rise-filter q [] up = tt
rise-filter q (T ∷ L) up = here (q T) (each-filter (λ R. set_cmp T R ≡ Less) q L up.0) (rise-filter q L up.1)
  where
    here : (y : Bool) → AllByRecursion (λ R. set_cmp T R ≡ Less) (filter q L) → Rise (filter q L) → Rise (cond y (T ∷ filter q L) (filter q L))
    here true a b = (a, b)
    here false a b = b

by_cmp : (S : Atoms) (L : List Atoms) → IsAscending S → AllByRecursion IsAscending L → AllByRecursion (IsBefore S) L → AllByRecursion (λ T. set_cmp S T ≡ Less) L
by_cmp S [] s l h = tt
by_cmp S (T ∷ L) s l h = (cmp_from_before S T s l.0 h.0, by_cmp S L s l.1 h.1)

rise-by_cmp : (L : List Atoms) → AllByRecursion IsAscending L → IsRising L → Rise L
rise-by_cmp [] l up = tt
rise-by_cmp (S ∷ L) l up = (by_cmp S L l.0 l.1 up.0, rise-by_cmp L l.1 up.1)

pub models-rise : (p : Program) → Rise (models p)
models-rise p =
    let up = IsAscending-set_of (mentions p) in
    rise-filter (is_stable p) (subsets (atoms_of p))
    (rise-by_cmp (subsets (atoms_of p)) (each_weaker (IsSubsetOf (atoms_of p)) IsAscending (λ S h. h.0) (subsets (atoms_of p)) (subsets-are (atoms_of p) up)) (subsets-rise (atoms_of p) up))

has-models : (p : Program) (S : Atoms) → list_any (same_set S) (models p) ≡ is_stable p S
has-models p S = has-filter (is_stable p) (subsets (atoms_of p)) S ∙ same_bools (is_stable p S && list_any (same_set S) (subsets (atoms_of p))) (is_stable p S)
    (λ h. (and_parts (is_stable p S) (list_any (same_set S) (subsets (atoms_of p))) h).0)
    (λ h. let sub = stable-subset p S h in ap (λ x. x && list_any (same_set S) (subsets (atoms_of p))) h ∙ subsets-have (atoms_of p) S (IsAscending-set_of (mentions p)) sub.0 sub.1)

and_turn : (a b : Bool) → (a && b) ≡ (b && a)
and_turn true true = refl
and_turn true false = refl
and_turn false true = refl
and_turn false false = refl

pub has-answers_of : (t : Task) (S : Atoms) → list_any (same_set S) (answers_of t) ≡ is_answer t S
has-answers_of t S = has-filter (λ T. all_hold T (wanted t)) (models t.program) S ∙ ap (λ x. all_hold S (wanted t) && x) (has-models t.program S)
    ∙ and_turn (all_hold S (wanted t)) (is_stable t.program S)

-- sorted and made single, a list with the answers that pass is the list of these answers
pub sorted-answers : (t : Task) (q : Atoms → Bool) (A : List Atoms) → ((S : Atoms) → list_any (same_set S) A ≡ (is_answer t S && q S)) → sorted_once A ≡ filter q (answers_of t)
sorted-answers t q A h =
    rise-same (sorted_once A) (filter q (answers_of t)) (sorted-rise [] A tt) (rise-filter q (answers_of t) (rise-filter (λ S. all_hold S (wanted t)) (models t.program) (models-rise t.program)))
    (λ R. sorted-has [] A R ∙ h R ∙ and_turn (is_answer t R) (q R) ∙ ap (λ x. q R && x) (sym (has-answers_of t R)) ∙ sym (has-filter q (answers_of t) R))

-- ---- a sorted list without its repeats
rise-strict : (L : List Atoms) → IsStrictlySortedBy set_cmp L → Rise L
unfolding IsStrictlySortedBy
rise-strict [] h = tt
rise-strict (S ∷ L) h = (h.0, rise-strict L h.1)

has-dedup_from : (K : Atoms) (L : List Atoms) (R : Atoms) → list_any (same_set R) (dedup_from same_set K L) ≡ list_any (same_set R) (K ∷ L)
has-dedup_from K [] R = refl
has-dedup_from K (S ∷ L) R = here (same_set S K) refl (has-dedup_from K L R) (has-dedup_from S L R)
  where
    here : (z : Bool) → z ≡ same_set S K → list_any (same_set R) (dedup_from same_set K L) ≡ (same_set R K || list_any (same_set R) L) →
        list_any (same_set R) (dedup_from same_set S L) ≡ (same_set R S || list_any (same_set R) L) →
        list_any (same_set R) (cond z (dedup_from same_set K L) (K ∷ dedup_from same_set S L)) ≡ (same_set R K || (same_set R S || list_any (same_set R) L))
    here true q k s = k ∙ or_again (same_set R K) (list_any (same_set R) L) ∙ ap (λ (X : Atoms). same_set R K || (same_set R X || list_any (same_set R) L)) (sym (same_text S K q))
    here false q k s = ap (λ x. same_set R K || x) s

has-dedup : (L : List Atoms) (R : Atoms) → list_any (same_set R) (dedup same_set L) ≡ list_any (same_set R) L
has-dedup [] R = refl
has-dedup (S ∷ L) R = has-dedup_from S L R

pub once-is : (A M L : List Atoms) → IsPermutation A M → IsSorted set_cmp M → IsFiltered (DiffersFromLast same_set) [] M L → L ≡ sorted_once A
once-is A M L moved sorted kept =
    let is : L ≡ dedup same_set M = dedup_is same_set M L kept in
    rise-same L (sorted_once A) (subst Rise (sym is) (rise-strict (dedup same_set M) (IsStrictlySortedBy-dedup {R = set_cmp} sets_total {E = same_set} sets_tie M sorted))) (sorted-rise [] A tt)
    (λ R. ap (λ (X : List Atoms). list_any (same_set R) X) is ∙ has-dedup M R ∙ sym (list_any-IsPermutation (same_set R) A M moved) ∙ sym (sorted-has [] A R))
