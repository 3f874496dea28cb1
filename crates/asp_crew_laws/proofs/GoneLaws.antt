-- What a number left stays as others go on.
use Rattle.std.proofs.Common.{◌≡◌, ◌⊎◌, ℕ, Bool, true, eqb, List, ◌++◌, append_assoc, ap, ◌∙◌, inl, inr}
use Rattle.std.specs.List.{AllByRecursion}
use Rattle.std.proofs.lemmas.Bool.{eqb-true}
use Rattle.asp_model.proofs.MemberLaws.{each_weaker, each-append}
use Rattle.asp_core.specs.declared.event.Event.{Event}
use Rattle.asp_core.specs.declared.task.Task.{Task}
use Rattle.asp_core.specs.Units.{out_of}
use Rattle.asp_core.specs.Boards.{Board, start}
use Rattle.asp_core.specs.Events.{held_by, maker, run, IsLawful, replay}
use Rattle.asp_core.proofs.GrowthLaws.{Spares-run}
use Rattle.asp_book.proofs.CallLaws.{run-append, lawful-rest}
use Rattle.asp_crew_laws.specs.Runs.{IsBack}
use Rattle.asp_crew_laws.specs.Gone.{IsSmall, IsRelease, IsEmpty, IsEnough, IsThrough, IsCut, IsCutShort, IsGone, Was, WasEarly}

was-later : (P : Board → Type 0) (t : Task) (xs ys : List Event) → Was P t xs → Was P t (xs ++ ys)
was-later P t xs ys w = record { before = w.before; after = w.after ++ ys; is = ap (λ (l : List Event). l ++ ys) w.is ∙ append_assoc w.before w.after ys; so = w.so }

cut-on : (t : Task) (xs ys : List Event) (short never : Bool) → IsCut t short never xs → IsCut t short never (xs ++ ys)
cut-on t xs ys short never (inl s) = inl s
cut-on t xs ys short never (inr (inl w)) = inr (inl (was-later IsEmpty t xs ys w))
cut-on t xs ys short never (inr (inr (inl w))) = inr (inr (inl (was-later IsEnough t xs ys w)))
cut-on t xs ys short never (inr (inr (inr h))) = inr (inr (inr h))

early-later : (P : Board → Type 0) (t : Task) (xs ys : List Event) → WasEarly P t xs → WasEarly P t (xs ++ ys)
early-later P t xs ys w = record {
  before = w.before;
  after = w.after ++ ys;
  is = ap (λ (l : List Event). l ++ ys) w.is ∙ append_assoc w.before w.after ys;
  so = w.so;
  early = w.early;
}

pub cut-later : (t : Task) (xs ys : List Event) (short never : Bool) → IsCutShort t short never xs → IsCutShort t short never (xs ++ ys)
cut-later t xs ys short never (inl s) = inl s
cut-later t xs ys short never (inr (inl w)) = inr (inl (early-later IsEmpty t xs ys w))
cut-later t xs ys short never (inr (inr (inl w))) = inr (inr (inl (early-later IsEnough t xs ys w)))
cut-later t xs ys short never (inr (inr (inr h))) = inr (inr (inr h))

module _ (t : Task) (n : ℕ) (xs ys : List Event) (lawful : IsLawful (start t) (xs ++ ys)) (others : AllByRecursion (λ e. maker e ≡ n → ⊥) ys) where
  back-later : AllByRecursion (λ e. eqb (maker e) n ≡ true → IsBack e) ys
  back-later = each_weaker (λ e. maker e ≡ n → ⊥) (λ e. eqb (maker e) n ≡ true → IsBack e) (λ e h s. absurd (h (eqb-true (maker e) n s))) ys others

  through-later : (begun : List Event) → IsThrough t n begun xs → IsThrough t n begun (xs ++ ys)
  through-later begun h =
      let q = h.quiet in
      record {
        quiet = record {
          before = q.before;
          after = q.after ++ ys;
          is = ap (λ (l : List Event). l ++ ys) q.is ∙ append_assoc q.before q.after ys;
          none = q.none;
          since = each-append (λ e. eqb (maker e) n ≡ true → IsBack e) q.after ys q.since back-later;
        };
        late = h.late;
        kept = each-append (λ e. maker e ≡ n → IsRelease e → ⊥) xs ys h.kept (each_weaker (λ e. maker e ≡ n → ⊥) (λ e. maker e ≡ n → IsRelease e → ⊥) (λ e h s. absurd (h s)) ys others);
      }

  why-later : (short never : Bool) (begun : List Event) → IsThrough t n begun xs ⊎ IsCut t short never xs → IsThrough t n begun (xs ++ ys) ⊎ IsCut t short never (xs ++ ys)
  why-later short never begun (inl h) = inl (through-later begun h)
  why-later short never begun (inr h) = inr (cut-on t xs ys short never h)

  pub gone-later : (short never : Bool) (begun : List Event) → IsGone t short never n begun xs → IsGone t short never n begun (xs ++ ys)
  gone-later short never begun g =
      let b : Board = replay t xs in
      let spares = Spares-run b ys n (lawful-rest (start t) xs ys lawful) others in
      let same : replay t (xs ++ ys) ≡ run b ys = run-append (start t) xs ys in
      record {
        free = ap (λ (c : Board). held_by n c.nodes) same ∙ spares.count ∙ g.free;
        home = ap (λ (c : Board). out_of c.out n) same ∙ spares.units ∙ g.home;
        leases = each-append (λ e. maker e ≡ n → IsSmall e) xs ys g.leases (each_weaker (λ e. maker e ≡ n → ⊥) (λ e. maker e ≡ n → IsSmall e) (λ e h s. absurd (h s)) ys others);
        why = why-later short never begun g.why;
      }

-- ---- where another worker was short of memory
pub gone-shorter : (t : Task) (n : ℕ) (begun xs : List Event) (s short never : Bool) → (s ≡ true → short ≡ true) → IsGone t s never n begun xs → IsGone t short never n begun xs
gone-shorter t n begun xs s short never more g = record { free = g.free; home = g.home; leases = g.leases; why = why g.why }
  where
    why : IsThrough t n begun xs ⊎ IsCut t s never xs → IsThrough t n begun xs ⊎ IsCut t short never xs
    why (inl h) = inl h
    why (inr (inl e)) = inr (inl (more e))
    why (inr (inr h)) = inr (inr h)
