-- What isn't asked for counts as shown: what that changes of the answers known, and what it leaves.
use Rattle.std.proofs.Common.{◌≡◌, inl, inr, ℕ, ℤ, pos, negsuc, Bool, true, false, not, cond, ◌&&◌, ◌||◌, eqb, List, [], ◌∷◌, ◌++◌, map, flat_map, filter, Some, None, refl, sym, ap, ◌∙◌, subst}
use Rattle.std.specs.List.{list_any, list_all}
use Rattle.std.specs.Option.{is_some}
use Rattle.std.specs.Prelude.{slice_get}
use Rattle.std.proofs.lemmas.Bool.{and_from, and_parts, cases_Bool, eq-eqb, false≢true, or_cases, or_left, or_right}
use Rattle.std.proofs.Math.Bool.{not-not}
use Rattle.asp_model.specs.declared.program.Output.{Output}
use Rattle.asp_model.specs.declared.program.Program.{Program}
use Rattle.asp_model.specs.declared.results.Reasoning.{Reasoning}
use Rattle.asp_model.specs.declared.results.Reasoning.TheVariants.{Brave, Cautious}
use Rattle.asp_model.specs.Consequences.{common_sets, consequences, consequences_of, covers, shows, unshown}
use Rattle.asp_model.specs.Holding.{all_hold, atom_of, holds}
use Rattle.asp_model.specs.Models.{atoms_of}
use Rattle.asp_model.specs.Sets.{Atoms, has, same_set, set_of, IsSubset}
use Rattle.asp_model.specs.Texts.{shown}
use Rattle.asp_model.proofs.ConsequenceLaws.{AreAmong, any-same, common-more, consequences-chosen, consequences-covered, consequences-same, covers-itself, filter-atoms, first-among, has-filter, listed-filter, shows-common, unshown-among}
use Rattle.asp_model.proofs.MemberLaws.{list_any-flat_map, list_any-map}
use Rattle.asp_model.proofs.SetLaws.{has-set_of}
use Rattle.asp_core.specs.declared.goal.Goal.{Goal}
use Rattle.asp_core.specs.declared.goal.Goal.TheVariants as goal
use Rattle.asp_core.specs.Boards.{beside, output_atoms, showing, showing_by, sought, unasked}
use Rattle.asp_core.specs.Stored.{seed_by, seed_of, with_answer}

-- ---- whose members are there
empty-member : (L : List Atoms) (S : Atoms) → L ≡ [] → list_any (same_set S) L ≡ true → ⊥
empty-member L S e h = false≢true (ap (λ (M : List Atoms). list_any (same_set S) M) (sym e) ∙ h)

beside-among : (T : Atoms) (K L : List Atoms) → AreAmong K L → AreAmong (beside T K) (beside T L)
beside-among T [] L among S h = absurd (false≢true h)
beside-among T (U ∷ K) [] among S h = absurd (false≢true (among U (first-among U K)))
beside-among T (U ∷ K) (V ∷ L) among S h = elim (or_cases (same_set S T) (list_any (same_set S) (U ∷ K)) h) [
  | inl e ↦ or_left (same_set S T) (list_any (same_set S) (V ∷ L)) e
  | inr e ↦ or_right (same_set S T) (list_any (same_set S) (V ∷ L)) (among S e)
]

pub showing_by-among : (n : Bool) (r : Reasoning) (p : Program) (K L : List Atoms) → AreAmong K L → AreAmong (showing_by n r p K) (showing_by n r p L)
showing_by-among false r p K L among = among
showing_by-among true r p K L among = beside-among (unasked r p) K L among

pub showing-among : (g : Goal) (p : Program) (K L : List Atoms) → AreAmong K L → AreAmong (showing g p K) (showing g p L)
showing-among goal.Enum p K L among = among
showing-among goal.Opt p K L among = among
showing-among (goal.Ties c) p K L among = among
showing-among (goal.Consequences r n) p K L among = showing_by-among n r p K L among

-- Nothing stands beside no answer.
pub showing_by-empty : (n : Bool) (r : Reasoning) (p : Program) (K : List Atoms) → showing_by n r p K ≡ [] → K ≡ []
showing_by-empty false r p K e = e
showing_by-empty true r p [] e = refl
showing_by-empty true r p (U ∷ K) e = absurd (empty-member (unasked r p ∷ U ∷ K) (unasked r p) e (first-among (unasked r p) (U ∷ K)))

pub showing-empty : (g : Goal) (p : Program) (K : List Atoms) → showing g p K ≡ [] → K ≡ []
showing-empty goal.Enum p K e = e
showing-empty goal.Opt p K e = e
showing-empty (goal.Ties c) p K e = e
showing-empty (goal.Consequences r n) p K e = showing_by-empty n r p K e

-- ---- what is sought
-- Where no consequences are sought the answers stand alone.
pub sought-none : (g : Goal) (p : Program) (K : List Atoms) → sought g ≡ None → showing g p K ≡ K
sought-none goal.Enum p K e = refl
sought-none goal.Opt p K e = refl
sought-none (goal.Ties c) p K e = refl
sought-none (goal.Consequences r n) p K e = absurd (let f : ⊥ = cc in f)

-- ---- one answer more
push-among : (n : Bool) (r : Reasoning) (p : Program) (K : List Atoms) (S : Atoms) → AreAmong (showing_by n r p K ++ S ∷ []) (showing_by n r p (K ++ S ∷ []))
push-among false r p K S T h = h
push-among true r p [] S T h = or_right (same_set T (unasked r p)) (list_any (same_set T) (S ∷ [])) h
push-among true r p (U ∷ K) S T h = h

pub showing-push : (g : Goal) (p : Program) (K : List Atoms) (S : Atoms) → AreAmong (showing g p K ++ S ∷ []) (showing g p (K ++ S ∷ []))
showing-push goal.Enum p K S T h = h
showing-push goal.Opt p K S T h = h
showing-push (goal.Ties c) p K S T h = h
showing-push (goal.Consequences r n) p K S T h = push-among n r p K S T h

pub unshown-showing : (r : Reasoning) (g : Goal) (p : Program) (K : List Atoms) (S : Atoms) → IsSubset (unshown r p (showing g p (K ++ S ∷ []))) (unshown r p (showing g p K ++ S ∷ []))
unshown-showing r g p K S = unshown-among r p (showing g p K ++ S ∷ []) (showing g p (K ++ S ∷ [])) (showing-push g p K S)

-- ---- what the answers have in common
-- Where each answer is covered by those found, these have all in common that the answers have.
pub showing_by-covered : (n : Bool) (r : Reasoning) (p : Program) (K L : List Atoms) → AreAmong K L → ((S : Atoms) → list_any (same_set S) L ≡ true → covers r p (showing_by n r p K) S ≡ true) →
    consequences_of r p (showing_by n r p K) ≡ consequences_of r p (showing_by n r p L)
showing_by-covered false r p K L among all = consequences-covered r p K L among all
showing_by-covered true r p K L among all =
    consequences-covered r p (beside (unasked r p) K) (beside (unasked r p) L) (beside-among (unasked r p) K L among) (each K L all)
  where
    T : Atoms
    T = unasked r p

    each : (M N : List Atoms) → ((S : Atoms) → list_any (same_set S) N ≡ true → covers r p (beside T M) S ≡ true) → (S : Atoms) →
        list_any (same_set S) (beside T N) ≡ true → covers r p (beside T M) S ≡ true
    each M [] h S e = absurd (false≢true e)
    each [] (V ∷ N) h S e = absurd (false≢true (h V (first-among V N)))
    each (U ∷ M) (V ∷ N) h S e = elim (or_cases (same_set S T) (list_any (same_set S) (V ∷ N)) e) [
      | inl q ↦ covers-itself r p (T ∷ U ∷ M) S (or_left (same_set S T) (list_any (same_set S) (U ∷ M)) q)
      | inr q ↦ h S q
    ]

pub showing_by-same : (n : Bool) (r : Reasoning) (p : Program) (K L : List Atoms) → AreAmong K L → AreAmong L K → consequences_of r p (showing_by n r p K) ≡ consequences_of r p (showing_by n r p L)
showing_by-same n r p K L there back =
    consequences-same r p (showing_by n r p K) (showing_by n r p L)
    (λ a stands. any-same (λ S. shows r S a) (showing_by n r p K) (showing_by n r p L) (showing_by-among n r p K L there) (showing_by-among n r p L K back))
    (empty (showing_by n r p L) (showing_by n r p K) (showing_by-among n r p L K back)) (empty (showing_by n r p K) (showing_by n r p L) (showing_by-among n r p K L there))
  where
    empty : (M N : List Atoms) → AreAmong M N → N ≡ [] → M ≡ []
    empty [] N among e = refl
    empty (S ∷ M) N among e = absurd (empty-member N S e (among S (first-among S M)))

-- Those found are as good as what a choice of the answers leaves.
pub showing_by-chosen : (n : Bool) (r : Reasoning) (p : Program) (K L : List Atoms) → AreAmong K L →
    consequences_of r p (showing_by n r p K) ≡ consequences_of r p (showing_by n r p (filter (λ S. list_any (same_set S) K) L))
showing_by-chosen false r p K L among = consequences-chosen r p K L among
showing_by-chosen true r p K L among = showing_by-same true r p K (filter (λ S. list_any (same_set S) K) L) in_chosen of_chosen
  where
    in_chosen : AreAmong K (filter (λ S. list_any (same_set S) K) L)
    in_chosen S h = listed-filter (λ T. list_any (same_set T) K) L S ∙ and_from (list_any (same_set S) K) (list_any (same_set S) L) h (among S h)

    of_chosen : AreAmong (filter (λ S. list_any (same_set S) K) L) K
    of_chosen S h = (and_parts (list_any (same_set S) K) (list_any (same_set S) L) (sym (listed-filter (λ T. list_any (same_set T) K) L S) ∙ h)).0

-- ---- how they are kept
pub showing-nothing : (g : Goal) (p : Program) → showing g p [] ≡ []
showing-nothing goal.Enum p = refl
showing-nothing goal.Opt p = refl
showing-nothing (goal.Ties c) p = refl
showing-nothing (goal.Consequences r false) p = refl
showing-nothing (goal.Consequences r true) p = refl

more-common : (n : Bool) (r : Reasoning) (p : Program) (K : List Atoms) (S : Atoms) →
    common_sets r p (with_answer (seed_by n r p) (common_sets r p (showing_by n r p K)) S) ≡ common_sets r p (showing_by n r p (K ++ S ∷ []))
more-common false r p K S = common-more r p K S
more-common true r p [] S = refl
more-common true r p (U ∷ K) S = common-more r p (unasked r p ∷ U ∷ K) S

-- One answer more is added to what the others have in common.
pub showing-common : (g : Goal) (r : Reasoning) (p : Program) (K : List Atoms) (S : Atoms) → sought g ≡ Some r →
    common_sets r p (with_answer (seed_of g p) (common_sets r p (showing g p K)) S) ≡ common_sets r p (showing g p (K ++ S ∷ []))
showing-common goal.Enum r p K S e = common-more r p K S
showing-common goal.Opt r p K S e = common-more r p K S
showing-common (goal.Ties c) r p K S e = common-more r p K S
showing-common (goal.Consequences w n) r p K S e = let same : w ≡ r = cc in
    subst (λ x. common_sets x p (with_answer (seed_by n w p) (common_sets x p (showing_by n w p K)) S) ≡ common_sets x p
    (showing_by n w p (K ++ S ∷ []))) same (more-common n w p K S)

-- the first answer, with the seed
pub answer-first : (r : Reasoning) (p : Program) (K : List Atoms) (T S : Atoms) → is_some (slice_get K 0) ≡ false →
    common_sets r p (common_sets r p (K ++ T ∷ []) ++ S ∷ []) ≡ common_sets r p (with_answer (Some T) K S)
answer-first r p [] T S e = common-more r p (T ∷ []) S
answer-first r p (U ∷ K) T S e = absurd (false≢true (sym e))

-- ---- what is asked for
-- whether the atom stands in the condition of one of the outputs
abbrev pub in_outputs : List Output → ℕ → Bool
in_outputs os a = list_any (λ o. list_any (λ l. eqb (atom_of l) a) o.condition) os

pub outputs-have : (os : List Output) (a : ℕ) → has (set_of (flat_map (λ o. map atom_of o.condition) os)) a ≡ in_outputs os a
outputs-have os a =
    has-set_of (flat_map (λ o. map atom_of o.condition) os) a ∙ list_any-flat_map (λ b. eqb b a) (λ (o : Output). map atom_of o.condition) os
    ∙ (λ i. list_any (λ (o : Output). list_any-map (λ b. eqb b a) atom_of o.condition i) os)

or-nil : (b : Bool) → (b || false) ≡ b
or-nil true = refl
or-nil false = refl

and-true : (a b : Bool) → b ≡ true → (a && b) ≡ a
and-true true b e = e
and-true false b e = refl

and-none : (a b : Bool) → b ≡ false → (a && b) ≡ false
and-none true b e = e
and-none false b e = refl

twice-not : (b : Bool) → not (not b || false) ≡ b
twice-not true = refl
twice-not false = refl

asked-has : (p : Program) (a : ℕ) → has (atoms_of p) a ≡ true → has (output_atoms p) a ≡ in_outputs p.outputs a
asked-has p a there = has-filter (in_outputs p.outputs) (atoms_of p) a ∙ and-true (in_outputs p.outputs a) (has (atoms_of p) a) there

-- What a set of the outputs' atoms doesn't show isn't asked for.
pub unshown-asked : (r : Reasoning) (p : Program) (S : Atoms) → ((a : ℕ) → has S a ≡ in_outputs p.outputs a) → unshown r p (S ∷ []) ≡ unasked r p
unshown-asked Brave p S h =
    filter-atoms (λ a. not (list_any (λ T. has T a) (S ∷ []))) (λ a. not (has (output_atoms p) a)) (atoms_of p) (λ a there. ap not (or-nil (has S a) ∙ h a ∙ sym (asked-has p a there)))
unshown-asked Cautious p S h =
    filter-atoms (λ a. not (list_any (λ T. not (has T a)) (S ∷ []))) (in_outputs p.outputs) (atoms_of p) (λ a there. twice-not (has S a) ∙ h a)

-- The seed shows none of the outputs' atoms.
unasked-hides : (r : Reasoning) (p : Program) (a : ℕ) → has (atoms_of p) a ≡ true → in_outputs p.outputs a ≡ true → shows r (unasked r p) a ≡ false
unasked-hides Brave p a there h =
    has-filter (λ b. not (has (output_atoms p) b)) (atoms_of p) a ∙ ap (λ b. not b && has (atoms_of p) a) (asked-has p a there ∙ h)
unasked-hides Cautious p a there h = ap not (asked-has p a there ∙ h)

outside : (r : Reasoning) (p : Program) (K : List Atoms) (a : ℕ) → has (atoms_of p) a ≡ false → has (consequences r p K) a ≡ false
outside Brave p K a e = has-filter (λ b. list_any (λ S. has S b) K) (atoms_of p) a ∙ and-none (list_any (λ S. has S a) K) (has (atoms_of p) a) e
outside Cautious p K a e = has-filter (λ b. list_all (λ S. has S b) K) (atoms_of p) a ∙ and-none (list_all (λ S. has S a) K) (has (atoms_of p) a) e

has-shown : (r : Reasoning) (C D : Atoms) (a : ℕ) → shows r C a ≡ shows r D a → has C a ≡ has D a
has-shown Brave C D a e = e
has-shown Cautious C D a e = sym (not-not (has C a)) ∙ ap not e ∙ not-not (has D a)

told-alike : (r : Reasoning) (p : Program) (S : Atoms) (K : List Atoms) (a : ℕ) → in_outputs p.outputs a ≡ true → has (consequences r p (unasked r p ∷ S ∷ K)) a ≡ has (consequences r p (S ∷ K)) a
told-alike r p S K a h = elim (cases_Bool (has (atoms_of p) a)) [
  | inl there ↦ has-shown r (consequences r p (unasked r p ∷ S ∷ K)) (consequences r p (S ∷ K)) a
      (shows-common r p (unasked r p ∷ S ∷ K) a there ∙ ap (λ b. b || list_any (λ T. shows r T a) (S ∷ K)) (unasked-hides r p a there h) ∙ sym (shows-common r p (S ∷ K) a there))
  | inr out ↦ outside r p (unasked r p ∷ S ∷ K) a out ∙ sym (outside r p (S ∷ K) a out)
]

holds-alike : (C D : Atoms) (l : ℤ) → has C (atom_of l) ≡ has D (atom_of l) → holds C l ≡ holds D l
holds-alike C D (pos a) e = e
holds-alike C D (negsuc a) e = ap not e

condition-alike : (C D : Atoms) (ls : List ℤ) → ((a : ℕ) → list_any (λ l. eqb (atom_of l) a) ls ≡ true → has C a ≡ has D a) → all_hold C ls ≡ all_hold D ls
condition-alike C D [] h = refl
condition-alike C D (l ∷ ls) h =
    ap (λ b. b && all_hold C ls) (holds-alike C D l (h (atom_of l) (or_left (eqb (atom_of l) (atom_of l)) (list_any (λ k. eqb (atom_of k) (atom_of l)) ls) (eq-eqb (atom_of l) (atom_of l) refl))))
    ∙ ap (λ b. holds D l && b) (condition-alike C D ls (λ a e. h a (or_right (eqb (atom_of l) a) (list_any (λ k. eqb (atom_of k) a) ls) e)))

texts-alike : (C D : Atoms) (os : List Output) → ((a : ℕ) → in_outputs os a ≡ true → has C a ≡ has D a) →
    map (λ o. o.text) (filter (λ o. all_hold C o.condition) os) ≡ map (λ o. o.text) (filter (λ o. all_hold D o.condition) os)
texts-alike C D [] h = refl
texts-alike C D (o ∷ os) h =
    ap (λ b. map (λ (x : Output). x.text) (cond b (o ∷ filter (λ (x : Output). all_hold C x.condition) os) (filter (λ (x : Output). all_hold C x.condition) os)))
    (condition-alike C D o.condition (λ a e. h a (or_left (list_any (λ l. eqb (atom_of l) a) o.condition) (in_outputs os a) e)))
    ∙ here (all_hold D o.condition) (filter (λ (x : Output). all_hold C x.condition) os) (filter (λ (x : Output). all_hold D x.condition) os)
    (texts-alike C D os (λ a e. h a (or_right (list_any (λ l. eqb (atom_of l) a) o.condition) (in_outputs os a) e)))
  where
    here : (b : Bool) (xs ys : List Output) → map (λ (x : Output). x.text) xs ≡ map (λ (x : Output). x.text) ys →
        map (λ (x : Output). x.text) (cond b (o ∷ xs) xs) ≡ map (λ (x : Output). x.text) (cond b (o ∷ ys) ys)
    here true xs ys e = ap (λ (ts : List (List ℕ)). o.text ∷ ts) e
    here false xs ys e = e

-- By name the same outputs are shown.
pub told-asked : (p : Program) (n : Bool) (r : Reasoning) (S : Atoms) (K : List Atoms) → shown p (consequences r p (showing_by n r p (S ∷ K))) ≡ shown p (consequences r p (S ∷ K))
told-asked p false r S K = refl
told-asked p true r S K = texts-alike (consequences r p (unasked r p ∷ S ∷ K)) (consequences r p (S ∷ K)) p.outputs (told-alike r p S K)
