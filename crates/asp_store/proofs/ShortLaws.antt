-- Nogoods of two literals, which their places tell.
use Rattle.std.proofs.Common.{◌≡◌, ◌≢◌, ℕ, ◌<◌, ◌≤◌, Bool, true, false, not, ◌&&◌, ◌==◌, List, [], ◌∷◌, length, set, Option, Some, None, inl, inr, ◌⊎◌, refl, sym, ap, ◌∙◌, subst, arith}
use Rattle.std.specs.Option.{option_map}
use Rattle.std.proofs.lemmas.Bool.{false≢true, eqb-true}
use Rattle.std.proofs.lemmas.Option.{same_Some}
use Rattle.asp_vars.specs.Literals.{Literal, has_literal, literal_eq}
use Rattle.asp_vars.specs.Codes.{code_of}
use Rattle.asp_vars.specs.declared.nogood.Nogood.{Nogood}
use Rattle.asp_store.specs.declared.stored_nogood.StoredNogood.{StoredNogood}
use Rattle.asp_store.specs.declared.front.Front.{Front}
use Rattle.asp_store.specs.Marks.{Watch}
use Rattle.asp_store.specs.Keeping.{kept_at, nogood_at, is_lasting, comes_from_propagator, with_lock}
use Rattle.asp_store.specs.Looking.{HaveSame}
use Rattle.asp_store.specs.Lists.{place}
use Rattle.asp_store.specs.Sounding.{IsShort, IsPlace}
use Rattle.asp_store.specs.Unlisting.{Unlists}
use Rattle.asp_store.proofs.GetLaws.{is_or_not, at_set, at_set_other}
use Rattle.asp_store.proofs.PlaceLaws.{AllPlaces, code_injective}
use Rattle.asp_store.proofs.LookLaws.{eq_itself, or_left, or_right, one_of_two}
use Rattle.asp_store.proofs.FitsLaws.{none_kept, same_nogood, locked_same}

-- ---- two literals
same_by : (b c : Bool) → (b ≡ true → c ≡ true) → (c ≡ true → b ≡ true) → b ≡ c
same_by true c g h = sym (g refl)
same_by false true g h = h refl
same_by false false g h = refl

pub first_of_two : (f s : Literal) → has_literal (f ∷ s ∷ []) f ≡ true
first_of_two f s = or_left (literal_eq f f) (has_literal (s ∷ []) f) (eq_itself f)

pub second_of_two : (f s : Literal) → has_literal (f ∷ s ∷ []) s ≡ true
second_of_two f s = or_right (literal_eq f s) (has_literal (s ∷ []) s) (or_left (literal_eq s s) false (eq_itself s))

among_two : (f s k : Literal) → (f ≡ k) ⊎ (s ≡ k) → has_literal (f ∷ s ∷ []) k ≡ true
among_two f s k o =
    elim o [
      | inl e ↦ subst (λ (x : Literal). has_literal (f ∷ s ∷ []) x ≡ true) e (first_of_two f s)
      | inr e ↦ subst (λ (x : Literal). has_literal (f ∷ s ∷ []) x ≡ true) e (second_of_two f s)
    ]

-- two different literals of a nogood of two are all
pub two_are_all : (n : List Literal) (f s : Literal) → length n ≡ 2 → has_literal n f ≡ true → has_literal n s ≡ true → f ≢ s → HaveSame n (f ∷ s ∷ [])
two_are_all (a ∷ b ∷ []) f s len hf hs ne k =
    same_by (has_literal (a ∷ b ∷ []) k) (has_literal (f ∷ s ∷ []) k) (λ h. among_two f s k (which (one_of_two a b f hf) (one_of_two a b s hs) (one_of_two a b k h)))
    (λ h. elim (one_of_two f s k h) [
      | inl e ↦ subst (λ (x : Literal). has_literal (a ∷ b ∷ []) x ≡ true) e hf
      | inr e ↦ subst (λ (x : Literal). has_literal (a ∷ b ∷ []) x ≡ true) e hs
    ])
  where
    which : (a ≡ f) ⊎ (b ≡ f) → (a ≡ s) ⊎ (b ≡ s) → (a ≡ k) ⊎ (b ≡ k) → (f ≡ k) ⊎ (s ≡ k)
    which (inl x) (inl y) o = absurd (ne (sym x ∙ y))
    which (inl x) (inr y) (inl z) = inl (sym x ∙ z)
    which (inl x) (inr y) (inr z) = inr (sym y ∙ z)
    which (inr x) (inl y) (inl z) = inr (sym y ∙ z)
    which (inr x) (inl y) (inr z) = inl (sym x ∙ z)
    which (inr x) (inr y) o = absurd (ne (sym x ∙ y))
two_are_all [] f s len hf hs ne k = absurd (omega arith)
two_are_all (a ∷ []) f s len hf hs ne k = absurd (omega arith)
two_are_all (a ∷ b ∷ c ∷ n) f s len hf hs ne k = absurd (omega arith)

and_right : (a b : Bool) → (a && b) ≡ true → b ≡ true
and_right true b h = h
and_right false b h = absurd (false≢true h)

pub lasting_two : (o : Option StoredNogood) (n : Nogood) → option_map (λ (k : StoredNogood). k.nogood) o ≡ Some n → is_lasting o ≡ true → length n.lits ≡ 2
lasting_two None n g h = absurd (false≢true h)
lasting_two (Some k) n g h =
    ap (λ (x : Nogood). length x.lits) (sym (same_Some k.nogood n g)) ∙ eqb-true (length k.nogood.lits) 2 (and_right (not (comes_from_propagator k.kind)) (length k.nogood.lits == 2) h)

-- ---- places
-- of a nogood that the place doesn't tell
pub place_long : (vars : ℕ) (slots : List (Option StoredNogood)) (c id : ℕ) (l : Literal) → l.var ≤ vars → IsPlace vars slots c (record { blocker = l; id = id; is_short = false })
place_long vars slots c id l h = record { small = h; short = λ q. absurd (false≢true q) }

-- of one that it tells, if it says so
pub place_new : (vars : ℕ) (slots : List (Option StoredNogood)) (id : ℕ) (n : Nogood) (f s : Literal) (b : Bool) → b ≡ is_lasting (kept_at slots id) → nogood_at slots id ≡ Some n →
    has_literal n.lits f ≡ true → has_literal n.lits s ≡ true → f ≢ s → s.var ≤ vars → IsPlace vars slots (code_of f) (record { blocker = s; id = id; is_short = b })
place_new vars slots id n f s b e g hf hs ne small = record {
  small = small;
  short = λ q. record {
    lasting = sym e ∙ q;
    lit = f;
    code = refl;
    nogood = n;
    kept = g;
    same = two_are_all n.lits f s (lasting_two (kept_at slots id) n g (sym e ∙ q)) hf hs ne;
  };
}

pub short_here : (slots : List (Option StoredNogood)) (f : Front) (x : Watch) → IsShort slots (code_of f.lit) x →
    (n : Nogood) × (nogood_at slots x.id ≡ Some n) × HaveSame n.lits (f.lit ∷ x.blocker ∷ [])
short_here slots f x s =
    (s.nogood, s.kept, subst (λ (l : Literal). HaveSame s.nogood.lits (l ∷ x.blocker ∷ [])) (code_injective s.lit f.lit s.code) s.same)

-- ---- the nogoods change
short_stays : (slots new : List (Option StoredNogood)) (c : ℕ) (x : Watch) → is_lasting (kept_at new x.id) ≡ is_lasting (kept_at slots x.id) → nogood_at new x.id ≡ nogood_at slots x.id →
    IsShort slots c x → IsShort new c x
short_stays slots new c x e g s = record { lasting = e ∙ s.lasting; lit = s.lit; code = s.code; nogood = s.nogood; kept = g ∙ s.kept; same = s.same }

-- one is added
pub places_add : (vars : ℕ) (slots new : List (Option StoredNogood)) (id c : ℕ) (x : Watch) → kept_at slots id ≡ None → ((k : ℕ) → k ≢ id → kept_at new k ≡ kept_at slots k) →
    IsPlace vars slots c x → IsPlace vars new c x
places_add vars slots new id c x free others p = record {
  small = p.small;
  short = λ q.
      let s = p.short q in
      let ne : x.id ≢ id = λ e. none_kept slots id s.nogood free (ap (nogood_at slots) (sym e) ∙ s.kept) in
      short_stays slots new c x (ap is_lasting (others x.id ne)) (same_nogood slots new x.id (others x.id ne)) s;
}

lasting_lock : (b : Bool) (o : Option StoredNogood) → is_lasting (with_lock b o) ≡ is_lasting o
lasting_lock b None = refl
lasting_lock b (Some k) = refl

-- one is locked
pub places_lock : (vars : ℕ) (slots : List (Option StoredNogood)) (id c : ℕ) (b : Bool) (x : Watch) → id < length slots → IsPlace vars slots c x →
    IsPlace vars (set slots id (with_lock b (kept_at slots id))) c x
places_lock vars slots id c b x h p = record {
  small = p.small;
  short = λ q. short_stays slots (set slots id (with_lock b (kept_at slots id))) c x (lasts (is_or_not x.id id)) (locked_same b slots id x.id h) (p.short q);
}
  where
    lasts : (x.id ≡ id) ⊎ (x.id ≢ id) → is_lasting (kept_at (set slots id (with_lock b (kept_at slots id))) x.id) ≡ is_lasting (kept_at slots x.id)
    lasts (inl e) =
        ap is_lasting (at_set slots id (with_lock b (kept_at slots id)) None x.id h e) ∙ (lasting_lock b (kept_at slots id) ∙ ap (λ (k : ℕ). is_lasting (kept_at slots k)) (sym e))
    lasts (inr ne) = ap is_lasting (at_set_other slots id (with_lock b (kept_at slots id)) None x.id ne)

-- one goes that places told
pub places_remove : (vars : ℕ) (slots : List (Option StoredNogood)) (old lists : List (List Watch)) (id : ℕ) → AllPlaces (IsPlace vars slots) old → Unlists slots old lists id →
    AllPlaces (IsPlace vars (set slots id None)) lists
places_remove vars slots old lists id all u c i x g = record {
  small = was.small;
  short = λ q.
      let s = was.short q in
      let has : has_literal s.nogood.lits s.lit ≡ true = s.same s.lit ∙ first_of_two s.lit x.blocker in
      let ne : x.id ≢ id = λ e.
      u.none s.nogood (ap (λ (k : ℕ). is_lasting (kept_at slots k)) (sym e) ∙ s.lasting) (ap (nogood_at slots) (sym e) ∙ s.kept) s.lit i x has (ap (λ (k : ℕ). place lists k i) s.code ∙ g) e in
      short_stays slots (set slots id None) c x (ap is_lasting (at_set_other slots id None None x.id ne)) (same_nogood slots (set slots id None) x.id (at_set_other slots id None None x.id ne)) s;
}
  where
    was : IsPlace vars slots c x
    was = let o = u.keeps.from c i x g in all c o.0 x o.1
