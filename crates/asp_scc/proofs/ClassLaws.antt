-- What two searches from a free node find: the nodes that lead to it and to which it leads.
use Rattle.std.proofs.Common.{◌≡◌, ◌≢◌, ℕ, ◌+◌, ◌<◌, Bool, true, false, cond, ◌&&◌, ◌||◌, eqb, List, [], ◌∷◌, length, get_or, set, refl, sym, ap, ◌∙◌, subst, arith}
use Rattle.std.specs.Prelude.{fold, All}
use Rattle.std.proofs.lemmas.List.Elements.{All-head, All-tail, All-weaker}
use Rattle.std.proofs.lemmas.Bool.{false≢true, eqb-true, eq-eqb, ne_eqb}
use Rattle.std.proofs.lemmas.List.{get_or-set_same, get_or-set_other}
use Rattle.std.proofs.Math.ListN.{length-set}
use Rattle.asp_scc.specs.Graphs.{Graph, edges, is_in, IsReverse, Leads, LeadsWithin}
use Rattle.asp_scc.specs.Graphs.Leads.{here, on}
use Rattle.asp_scc.specs.Graphs.LeadsWithin.{here as here_within, on as on_within}
use Rattle.asp_scc.specs.Classes.{AreMutual, AreClasses, KeepsClasses, released}
use Rattle.asp_scc.specs.Searches.{Finds}

-- ---- paths
pub lead_first : (g : Graph) (u v w : ℕ) → is_in (edges g u) v ≡ true → Leads g v w → Leads g u w
lead_first g u v w e here = on here e
lead_first g u v w e (on path f) = on (lead_first g u v _ e path) f

pub lead_on : (g : Graph) (u v w : ℕ) → Leads g u v → Leads g v w → Leads g u w
lead_on g u v w p here = p
lead_on g u v w p (on q e) = on (lead_on g u v _ p q) e

pub lead_back : (g b : Graph) (v w : ℕ) → IsReverse g b → Leads b v w → Leads g w v
lead_back g b v w r here = here
lead_back g b v w r (on path e) = lead_first g w _ v (r w _ ∙ e) (lead_back g b v _ r path)

pub lead_within : (g : Graph) (states : List ℕ) (state v w : ℕ) → LeadsWithin g states state v w → Leads g v w
lead_within g states state v w here_within = here
lead_within g states state v w (on_within path e was) = on (lead_within g states state v _ path) e

in_state : (g : Graph) (states : List ℕ) (state v w : ℕ) → get_or states v 0 ≡ state → LeadsWithin g states state v w → get_or states w 0 ≡ state
in_state g states state v w first here_within = first
in_state g states state v w first (on_within path e was) = was

pub mutual_back : (g : Graph) (v w : ℕ) → AreMutual g v w → AreMutual g w v
mutual_back g v w m = (m.1, m.0)

pub mutual_on : (g : Graph) (u v w : ℕ) → AreMutual g u v → AreMutual g v w → AreMutual g u w
mutual_on g u v w m n = (lead_on g u v w m.0 n.0, lead_on g w v u n.1 m.1)

-- ---- two searches
free : (g : Graph) (states : List ℕ) (p w : ℕ) → AreClasses g states → get_or states p 0 ≡ 0 → AreMutual g p w → get_or states w 0 ≡ 0
free g states p w h was m = cases (eqb (get_or states w 0) 0) refl
  where
    cases : (b : Bool) → b ≡ eqb (get_or states w 0) 0 → get_or states w 0 ≡ 0
    cases true e = eqb-true (get_or states w 0) 0 (sym e)
    cases false e =
        let taken : get_or states w 0 ≢ 0 = λ q. false≢true (e ∙ eq-eqb (get_or states w 0) 0 q) in
        sym (h.whole w p (mutual_back g p w m) taken) ∙ was

-- each mutual node is found by the first search
found_first : (g : Graph) (states : List ℕ) (p w : ℕ) → AreClasses g states → get_or states p 0 ≡ 0 → Leads g p w → Leads g w p → LeadsWithin g states 0 p w
found_first g states p w h was here back = here_within
found_first g states p w h was (on path e) back =
    on_within (found_first g states p _ h was path (lead_first g _ w p e back)) e (free g states p w h was (on path e, back))

-- and then by the second
found_second : (g b : Graph) (states middle : List ℕ) (p w : ℕ) → IsReverse g b → AreClasses g states → get_or states p 0 ≡ 0 →
    ((v : ℕ) → LeadsWithin g states 0 p v → get_or middle v 0 ≡ 1) → Leads b p w → Leads g p w → LeadsWithin b middle 1 p w
found_second g b states middle p w r h was first here _ = here_within
found_second g b states middle p w r h was first (on path e) front =
    on_within (found_second g b states middle p _ r h was first path (on front (r w _ ∙ e))) e
    (first w (found_first g states p w h was front (lead_back g b p w r (on path e))))

turned_back : (g b : Graph) → IsReverse g b → IsReverse b g
turned_back g b r v w = sym (r w v)

pub record Settles (g : Graph) (p : ℕ) (before after members : List ℕ) : Type 0 where
  pub paired : (v : ℕ) → is_in members v ≡ true → AreMutual g p v
  pub whole : (v : ℕ) → AreMutual g p v → is_in members v ≡ true
  pub states : (v : ℕ) → get_or after v 0 ≡ cond (is_in members v) (p + 2) (get_or before v 0)

pub two_searches : (g b : Graph) (p : ℕ) (before middle after last reached members : List ℕ) → IsReverse g b → AreClasses g before →
    get_or before p 0 ≡ 0 → Finds g 0 1 p before middle reached → Finds b 1 (p + 2) p middle after members →
    ((v : ℕ) → get_or last v 0 ≡ cond (is_in reached v && eqb (get_or after v 0) 1) 0 (get_or after v 0)) → Settles g p before last members
two_searches g b p before middle after last reached members r h was first second clears = record {
  paired = both;
  whole = all;
  states = λ v. state v (is_in members v) refl (is_in reached v) refl;
}
  where
    pivot : is_in reached p ≡ true
    pivot = first.all p here_within

    middle_one : (v : ℕ) → is_in reached v ≡ true → get_or middle v 0 ≡ 1
    middle_one v e = first.states v ∙ ap (λ t. cond t 1 (get_or before v 0)) e

    both : (v : ℕ) → is_in members v ≡ true → AreMutual g p v
    both v e =
        let path : LeadsWithin b middle 1 p v = second.reached v e in
        let one : get_or middle v 0 ≡ 1 = in_state b middle 1 p v (middle_one p pivot) path in
        (lead_within g before 0 p v (first.reached v (reach (is_in reached v) refl one)), lead_back g b p v r (lead_within b middle 1 p v path))
      where
        reach : (t : Bool) → t ≡ is_in reached v → get_or middle v 0 ≡ 1 → is_in reached v ≡ true
        reach true e one = sym e
        reach false e one = absurd (free_not_one v e (sym (first.states v ∙ ap (λ t. cond t 1 (get_or before v 0)) (sym e)) ∙ one))
          where
            free_not_one : (v : ℕ) → false ≡ is_in reached v → get_or before v 0 ≡ 1 → ⊥
            free_not_one v e is_one =
                let n = h.named v (λ z. zero_one (get_or before v 0) z is_one) in
                two_not_one n.0 (sym n.1 ∙ is_one)
              where
                zero_one : (n : ℕ) → n ≡ 0 → n ≡ 1 → ⊥
                zero_one n e f = absurd (omega arith)

                two_not_one : (u : ℕ) → u + 2 ≡ 1 → ⊥
                two_not_one u q = absurd (omega arith)

    all : (v : ℕ) → AreMutual g p v → is_in members v ≡ true
    all v m =
        second.all v (found_second g b before middle p v r h was (λ x path. middle_one x (first.all x path)) (lead_back b g v p (turned_back g b r) m.1) m.0)

    state : (v : ℕ) (m : Bool) → m ≡ is_in members v → (f : Bool) → f ≡ is_in reached v → get_or last v 0 ≡ cond (is_in members v) (p + 2) (get_or before v 0)
    state v true e f q =
        let new : get_or after v 0 ≡ p + 2 = second.states v ∙ ap (λ t. cond t (p + 2) (get_or middle v 0)) (sym e) in
        let kept : eqb (get_or after v 0) 1 ≡ false = ne_eqb (get_or after v 0) 1 (λ z. two_one (sym new ∙ z)) in
        clears v ∙ ap (λ t. cond (is_in reached v && t) 0 (get_or after v 0)) kept
        ∙ unmoved (is_in reached v) ∙ new ∙ ap (λ t. cond t (p + 2) (get_or before v 0)) e
      where
        two_one : p + 2 ≡ 1 → ⊥
        two_one z = absurd (omega arith)

        unmoved : (t : Bool) → cond (t && false) 0 (get_or after v 0) ≡ get_or after v 0
        unmoved true = refl
        unmoved false = refl
    state v false e true q =
        let one : get_or after v 0 ≡ 1 = second.states v ∙ ap (λ t. cond t (p + 2) (get_or middle v 0)) (sym e) ∙ middle_one v (sym q) in
        let path : LeadsWithin g before 0 p v = first.reached v (sym q) in
        clears v ∙ ap (λ t. cond (t && eqb (get_or after v 0) 1) 0 (get_or after v 0)) (sym q)
        ∙ ap (λ t. cond t 0 (get_or after v 0)) (eq-eqb (get_or after v 0) 1 one)
        ∙ sym (in_state g before 0 p v was path) ∙ ap (λ t. cond t (p + 2) (get_or before v 0)) e
    state v false e false q =
        clears v ∙ ap (λ t. cond (t && eqb (get_or after v 0) 1) 0 (get_or after v 0)) (sym q)
        ∙ second.states v ∙ ap (λ t. cond t (p + 2) (get_or middle v 0)) (sym e)
        ∙ first.states v ∙ ap (λ t. cond t 1 (get_or before v 0)) (sym q) ∙ ap (λ t. cond t (p + 2) (get_or before v 0)) e

-- ---- one more class
pub settled : (g : Graph) (p : ℕ) (before after members : List ℕ) → AreClasses g before → get_or before p 0 ≡ 0 → Settles g p before after members →
    AreClasses g after × KeepsClasses before after × (get_or after p 0 ≢ 0)
settled g p before after members h was s = (
  record {
    whole = λ v w m some. whole v w m some (is_in members v) refl (is_in members w) refl;
    alone = λ v w same some. alone v w same some (is_in members v) refl (is_in members w) refl;
    named = λ v some. named v some (is_in members v) refl;
  },
  λ v some. kept v some (is_in members v) refl,
  λ z. two_zero (sym (inside p (s.whole p (here, here))) ∙ z),
)
  where
    two_zero : p + 2 ≡ 0 → ⊥
    two_zero z = absurd (omega arith)

    inside : (v : ℕ) → is_in members v ≡ true → get_or after v 0 ≡ p + 2
    inside v e = s.states v ∙ ap (λ t. cond t (p + 2) (get_or before v 0)) e

    outside : (v : ℕ) → is_in members v ≡ false → get_or after v 0 ≡ get_or before v 0
    outside v e = s.states v ∙ ap (λ t. cond t (p + 2) (get_or before v 0)) e

    not_named : (v : ℕ) → get_or before v 0 ≡ p + 2 → ⊥
    not_named v e =
        let n = h.named v (λ z. two_zero (sym e ∙ z)) in
        let same : n.0 ≡ p = omega (arith, n.1, e) in
        two_zero (sym e ∙ sym n.2 ∙ ap (λ u. get_or before u 0) same ∙ was)

    kept : (v : ℕ) → get_or before v 0 ≢ 0 → (t : Bool) → t ≡ is_in members v → get_or after v 0 ≡ get_or before v 0
    kept v some false e = outside v (sym e)
    kept v some true e = absurd (some (free g before p v h was (s.paired v (sym e))))

    whole : (v w : ℕ) → AreMutual g v w → get_or after v 0 ≢ 0 → (t : Bool) → t ≡ is_in members v → (u : Bool) → u ≡ is_in members w → get_or after w 0 ≡ get_or after v 0
    whole v w m some true e true q = inside w (sym q) ∙ sym (inside v (sym e))
    whole v w m some true e false q = absurd (false≢true (q ∙ s.whole w (mutual_on g p v w (s.paired v (sym e)) m)))
    whole v w m some false e true q =
        absurd (false≢true (e ∙ s.whole v (mutual_on g p w v (s.paired w (sym q)) (mutual_back g v w m))))
    whole v w m some false e false q =
        outside w (sym q) ∙ h.whole v w m (λ z. some (outside v (sym e) ∙ z)) ∙ sym (outside v (sym e))

    alone : (v w : ℕ) → get_or after v 0 ≡ get_or after w 0 → get_or after v 0 ≢ 0 → (t : Bool) → t ≡ is_in members v → (u : Bool) → u ≡ is_in members w → AreMutual g v w
    alone v w same some true e true q = mutual_on g v p w (mutual_back g p v (s.paired v (sym e))) (s.paired w (sym q))
    alone v w same some true e false q = absurd (not_named w (sym (outside w (sym q)) ∙ sym same ∙ inside v (sym e)))
    alone v w same some false e true q = absurd (not_named v (sym (outside v (sym e)) ∙ same ∙ inside w (sym q)))
    alone v w same some false e false q =
        h.alone v w (sym (outside v (sym e)) ∙ same ∙ outside w (sym q)) (λ z. some (outside v (sym e) ∙ z))

    named : (v : ℕ) → get_or after v 0 ≢ 0 → (t : Bool) → t ≡ is_in members v → (u : ℕ) × (get_or after v 0 ≡ u + 2) × (get_or after u 0 ≡ get_or after v 0)
    named v some true e = (p, inside v (sym e), inside p (s.whole p (here, here)) ∙ sym (inside v (sym e)))
    named v some false e =
        let some' : get_or before v 0 ≢ 0 = λ z. some (outside v (sym e) ∙ z) in
        let n = h.named v some' in
        let first : get_or before n.0 0 ≢ 0 = λ z. some' (sym n.2 ∙ z) in
        (n.0, outside v (sym e) ∙ n.1, kept n.0 first (is_in members n.0) refl ∙ n.2 ∙ sym (outside v (sym e)))

-- ---- the nodes that stay free
release_one : (states : List ℕ) (w v : ℕ) → w < length states → get_or (released states w) v 0 ≡ cond (eqb w v && eqb (get_or states v 0) 1) 0 (get_or states v 0)
release_one states w v lt = cases (eqb (get_or states w 0) 1) refl (eqb w v) refl
  where
    cases : (b : Bool) → b ≡ eqb (get_or states w 0) 1 → (c : Bool) → c ≡ eqb w v →
        get_or (cond (eqb (get_or states w 0) 1) (set states w 0) states) v 0 ≡ cond (eqb w v && eqb (get_or states v 0) 1) 0 (get_or states v 0)
    cases true e true q =
        let same : w ≡ v = eqb-true w v (sym q) in
        ap (λ b. get_or (cond b (set states w 0) states) v 0) (sym e)
        ∙ subst (λ (x : ℕ). get_or (set states w 0) x 0 ≡ 0) same (get_or-set_same states w 0 0 lt)
        ∙ ap (λ b. cond b 0 (get_or states v 0)) (e ∙ ap (λ x. eqb (get_or states x 0) 1) same)
        ∙ ap (λ b. cond (b && eqb (get_or states v 0) 1) 0 (get_or states v 0)) q
    cases true e false q =
        ap (λ b. get_or (cond b (set states w 0) states) v 0) (sym e)
        ∙ get_or-set_other states w v 0 0 (λ z. false≢true (q ∙ eq-eqb w v (sym z)))
        ∙ ap (λ b. cond (b && eqb (get_or states v 0) 1) 0 (get_or states v 0)) q
    cases false e true q =
        let same : w ≡ v = eqb-true w v (sym q) in
        ap (λ b. get_or (cond b (set states w 0) states) v 0) (sym e)
        ∙ ap (λ b. cond (true && b) 0 (get_or states v 0)) (e ∙ ap (λ x. eqb (get_or states x 0) 1) same)
        ∙ ap (λ b. cond (b && eqb (get_or states v 0) 1) 0 (get_or states v 0)) q
    cases false e false q =
        ap (λ b. get_or (cond b (set states w 0) states) v 0) (sym e)
        ∙ ap (λ b. cond (b && eqb (get_or states v 0) 1) 0 (get_or states v 0)) q

length-released : (states : List ℕ) (w : ℕ) → length (released states w) ≡ length states
length-released states w = cases (eqb (get_or states w 0) 1)
  where
    cases : (b : Bool) → length (cond b (set states w 0) states) ≡ length states
    cases true = length-set states w 0
    cases false = refl

-- clearing now or later
cleared_twice : (q r : Bool) (x : ℕ) → cond (r && eqb (cond (q && eqb x 1) 0 x) 1) 0 (cond (q && eqb x 1) 0 x) ≡ cond ((q || r) && eqb x 1) 0 x
cleared_twice false r x = refl
cleared_twice true false x = refl
cleared_twice true true x = cases (eqb x 1) refl
  where
    cases : (b : Bool) → b ≡ eqb x 1 → cond (eqb (cond (eqb x 1) 0 x) 1) 0 (cond (eqb x 1) 0 x) ≡ cond (eqb x 1) 0 x
    cases true e = ap (λ b. cond (eqb (cond b 0 x) 1) 0 (cond b 0 x)) (sym e) ∙ ap (λ b. cond b 0 x) e
    cases false e =
        ap (λ b. cond (eqb (cond b 0 x) 1) 0 (cond b 0 x)) (sym e) ∙ ap (λ b. cond b 0 x) (sym e) ∙ ap (λ b. cond b 0 x) e

pub release_each : (row states : List ℕ) (v : ℕ) → All (λ w. w < length states) row → get_or (fold released states row) v 0 ≡ cond (is_in row v && eqb (get_or states v 0) 1) 0 (get_or states v 0)
release_each [] states v h = refl
release_each (x ∷ row) states v h =
    let one = release_one states x v (All-head (λ w. w < length states) x row h) in
    let rest = release_each row (released states x) v (All-weaker (λ w. w < length states) (λ w. w < length (released states x))
    (λ w lt. let e = length-released states x in omega (arith, e)) row (All-tail (λ w. w < length states) x row h)) in
    rest ∙ ap (λ n. cond (is_in row v && eqb n 1) 0 n) one ∙ cleared_twice (eqb x v) (is_in row v) (get_or states v 0)

-- what settling a node comes to
pub class_settled : (g b : Graph) (p : ℕ) (before middle after last reached members : List ℕ) → IsReverse g b → AreClasses g before →
    get_or before p 0 ≡ 0 → Finds g 0 1 p before middle reached → Finds b 1 (p + 2) p middle after members → last ≡ fold released after reached →
    AreClasses g last × KeepsClasses before last × (get_or last p 0 ≢ 0)
class_settled g b p before middle after last reached members r h was first second is =
    settled g p before last members h was (two_searches g b p before middle after last reached members r h was first second (λ v.
    ap (λ s. get_or s v 0) is ∙ release_each reached after v (λ k d lt. let w = first.within k d lt in omega (arith, w, first.size, second.size))))

pub all_released : (g b : Graph) (p : ℕ) (before middle after reached members : List ℕ) → Finds g 0 1 p before middle reached →
    Finds b 1 (p + 2) p middle after members → All (λ w. w < length after) reached
all_released g b p before middle after reached members first second k d lt =
    let w = first.within k d lt in omega (arith, w, first.size, second.size)

pub pivot_found : (g : Graph) (p : ℕ) (before middle reached : List ℕ) → Finds g 0 1 p before middle reached → get_or middle p 0 ≡ 1
pivot_found g p before middle reached first = first.states p ∙ ap (λ t. cond t 1 (get_or before p 0)) (first.all p here_within)
