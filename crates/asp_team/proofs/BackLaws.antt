-- Workers that have worked are joined, one after another.
use Rattle.std.proofs.Common.{◌≡◌, ℕ, zero, suc, ◌+◌, ◌<◌, List, [], ◌∷◌, ◌++◌, length, take, drop, Option, Some, refl, sym, ap, ◌∙◌, subst, arith, length-append}
use Rattle.std.specs.Prelude.{slice_index_or, option_to_list}
use Rattle.std.specs.List.{All, AllZip}
use Rattle.std.proofs.lemmas.List.{append-nil, append_assoc, take_all}
use Rattle.std.proofs.Math.ListN.{drop_of_length-le}
use Rattle.std.proofs.lemmas.List.Elements.{All-nil, AllZip-get_or, length_all_zip}
use Rattle.asp_model.specs.declared.program.Program.{Program}
use Rattle.asp_vault.specs.declared.view.View.{View}
use Rattle.asp_vault.specs.Seats.{view}
use Rattle.asp_vault.proofs.Prefixes.{prefix_trans}
use Rattle.asp_core.specs.declared.task.Task.{Task}
use Rattle.asp_slots.specs.Shelves.{TakesBack}
use Rattle.asp_slots.proofs.ShelfLaws.{back-self, back-more}
use Rattle.asp_worker.specs.declared.worker.Worker.{Worker}
use Rattle.asp_worker.specs.declared.worker.Shared.{Shared}
use Rattle.asp_worker.specs.Seats.{Worked}
use Rattle.asp_team.specs.declared.lead.Lead.{Lead}
use Rattle.asp_team.specs.Joined.{CameBack, CameHome, IsBack, IsLead, Joins, MayJoin, StayHome}
use Rattle.asp_team.proofs.GoneLaws.{came-worked, stay-on}
use Rattle.asp_team.proofs.Ready.{all-left}

-- ---- place by place
pub zip-each : {X : Type 0} (R : X → X → Type 0) (xs ys : List X) → length ys ≡ length xs → ((k : ℕ) (d : X) → k < length xs → R (slice_index_or xs k d) (slice_index_or ys k d)) → AllZip R xs ys
zip-each R [] [] same each = tt
zip-each R [] (y ∷ ys) same each = absurd (omega (arith, same))
zip-each R (x ∷ xs) [] same each = absurd (omega (arith, same))
zip-each R (x ∷ xs) (y ∷ ys) same each = (each 0 x (omega arith), zip-each R xs ys (omega (arith, same)) (λ k d lt. each (suc k) d (omega (arith, lt))))

pub moved : {X : Type 0} (R : X → X → Type 0) (a b x y : X) → a ≡ x → b ≡ y → R a b → R x y
moved R a b x y e f h = subst (λ z. R z y) e (subst (R a) f h)

module _ (stopped : Type 0) (c : Shared) where
  pub back-worked : (p : Program) (about : Option Task) (h k : Worker) → MayJoin p c about h → Worked stopped c h k → IsBack c about k
  back-worked p about h k m w = record { placed = w.ready; idle = w.idle; about_is = w.keeps.seat.about ∙ m.about_is }

  -- those that have worked may be joined
  pub all-worked : (p : Program) (about : Option Task) (hs ks : List Worker) → All (MayJoin p c about) hs → AllZip (Worked stopped c) hs ks → All (IsBack c about) ks
  all-worked p about hs ks may z k d lt =
      let few : k < length hs = omega (arith, lt, length_all_zip (Worked stopped c) hs ks z) in
      back-worked p about (slice_index_or hs k d) (slice_index_or ks k d) (may k d few) (AllZip-get_or (Worked stopped c) hs ks k d d z few)

  -- and once they are joined, those that began are at home
  pub all-came : (l : Lead) (hs ks : List Worker) → AllZip (Worked stopped c) hs ks → All (CameBack l) ks → All (CameHome stopped l) hs
  all-came l hs ks z back k d lt =
      let b : CameBack l (slice_index_or ks k d) = back k d (omega (arith, lt, length_all_zip (Worked stopped c) hs ks z)) in
      came-worked stopped c (slice_index_or hs k d) (slice_index_or ks k d) l (AllZip-get_or (Worked stopped c) hs ks k d d z lt) b.home b.gone

-- ---- one more is joined
pub joins-self : {D E : Type 0} (v : View D E) → Joins v v 0
joins-self v = record { about = refl; splits = refl; joins = omega arith; own = refl; seen = ([], append-nil v.seen) }

pub joins-more : {D E : Type 0} (u v w : View D E) (n : ℕ) → Joins u v n → Joins v w 1 → Joins u w (n + 1)
joins-more u v w n a b = record {
  about = b.about ∙ a.about;
  splits = b.splits ∙ a.splits;
  joins = omega (arith, a.joins, b.joins);
  own = b.own ∙ a.own;
  seen = prefix_trans u.seen v.seen w.seen a.seen b.seen;
}

pub back-on : (l m : Lead) (k : Worker) → StayHome l m → CameBack l k → CameBack m k
back-on l m k stay back =
    let s = stay (view k.seat).number back.home in
    record { home = s.0; gone = λ never begun g. s.1 never begun (back.gone never begun g) }

-- From l to k all but those that are left were joined.
pub record IsJoining (c : Shared) (l k : Lead) (all left : List Worker) : Type 0 where
  pub gone : List Worker
  pub are : all ≡ left ++ gone
  pub lead : IsLead c k
  pub joins : Joins (view l.seat) (view k.seat) (length gone)
  pub pages : TakesBack l.pages k.pages (length gone)
  pub stay : StayHome l k
  pub back : All (IsBack c (view l.seat).about) left
  pub came : All (CameBack k) gone

pub none-joined : (c : Shared) (l : Lead) (all : List Worker) → IsLead c l → All (IsBack c (view l.seat).about) all → IsJoining c l l all all
none-joined c l all lead back = record {
  gone = [];
  are = sym (append-nil all);
  lead = lead;
  joins = joins-self (view l.seat);
  pages = back-self l.pages;
  stay = λ n h. (h, λ never begun g. g);
  back = back;
  came = All-nil (CameBack l);
}

pub one-joined : (c : Shared) (l k m : Lead) (all left ys : List Worker) (o : Option Worker) (x : Worker) → IsJoining c l k all left → left ≡ ys ++ option_to_list o → o ≡ Some x →
    IsLead c m → Joins (view k.seat) (view m.seat) 1 → TakesBack k.pages m.pages 1 → StayHome k m → CameBack m x → IsJoining c l m all ys
one-joined c l k m all left ys o x j is at lead joins pages stay back = record {
  gone = x ∷ j.gone;
  are = j.are ∙ ap (λ zs. zs ++ j.gone) (is ∙ ap (λ p. ys ++ option_to_list p) at) ∙ append_assoc ys (x ∷ []) j.gone;
  lead = lead;
  joins = subst (Joins (view l.seat) (view m.seat)) more (joins-more (view l.seat) (view k.seat) (view m.seat) (length j.gone) j.joins joins);
  pages = subst (TakesBack l.pages m.pages) more (back-more l.pages k.pages m.pages (length j.gone) j.pages pages);
  stay = stay-on l k m j.stay stay;
  back = all-left (IsBack c (view l.seat).about) left ys o is j.back;
  came = came;
}
  where
    more : length j.gone + 1 ≡ length (x ∷ j.gone)
    more = omega arith

    came : All (CameBack m) (x ∷ j.gone)
    came zero d lt = back
    came (suc n) d lt = back-on k m (slice_index_or j.gone n d) stay (j.came n d (omega (arith, lt)))

-- ---- the list as it comes back
pub list-back : {X : Type 0} (R : X → X → Type 0) (n : ℕ) (xs zs ys : List X) → zs ≡ xs → AllZip R zs ys → n ≡ length xs → take n (ys ++ drop (length ys) xs) ≡ ys
list-back {X = X} R n xs zs ys e z is =
    take_all n (ys ++ drop (length ys) xs) (omega (arith, length-append ys (drop (length ys) xs), ap length none, same, is)) ∙ ap (λ ws. ys ++ ws) none ∙ append-nil ys
  where
    same : length xs ≡ length ys
    same = ap length (sym e) ∙ length_all_zip R zs ys z

    none : drop (length ys) xs ≡ []
    none = drop_of_length-le xs (omega (arith, same))
