-- Workers, and what came of the parts that they took.
use Rattle.std.proofs.Common.{◌≡◌, ℕ, zero, suc, ◌+◌, ◌<◌, List, [], ◌∷◌, ◌++◌, length, Option, Some, refl, sym, ap, ◌∙◌, subst, arith, append_assoc, append-nil}
use Rattle.std.specs.Prelude.{option_to_list, reverse, slice_index_or}
use Rattle.std.specs.List.{AllByRecursion, AllZip}
use Rattle.std.proofs.lemmas.List.{reverse-append}
use mathlib.Core.List.{IsPrefix}
use Rattle.asp_model.specs.declared.program.Program.{Program}
use Rattle.asp_model.proofs.MemberLaws.{each-append, each-front}
use Rattle.asp_vars.proofs.StandingLaws.{back-append}
use Rattle.asp_split.specs.declared.leaf.Leaf.{Leaf}
use Rattle.asp_split.specs.Dividing.{IsLeaf}
use Rattle.asp_parts.specs.declared.part.Part.{Part}
use Rattle.asp_parts.specs.declared.worker.Bench.{Bench}
use Rattle.asp_parts.specs.declared.worker.Done.{Done}
use Rattle.asp_parts.specs.declared.worker.Worker.{Worker}
use Rattle.asp_parts.specs.Parts.{AreParts, ArePieces, HasSame, IsPart, IsTurned}
use Rattle.asp_parts.specs.Rounds.{AreWorkers, HasDone, HaveDone, IsBench, IsDone}
use Rattle.asp_parts.proofs.PartLaws.{last_taken, row-taken, row-turned, same-self, taken-part}

-- ---- lists
pub each-reverse : {X : Type 0} (P : X → Type 0) (xs : List X) → AllByRecursion P xs → AllByRecursion P (reverse xs)
each-reverse P [] all = tt
each-reverse P (x ∷ xs) all = subst (AllByRecursion P) (sym (reverse-append (x ∷ []) xs)) (each-append P (reverse xs) (x ∷ []) (each-reverse P xs all.1) (all.0, tt))

-- what holds of each is known of the last, and of those before it
pub each-taken : {X : Type 0} (P : X → Type 0) (xs left : List X) (taken : Option X) (x : X) → AllByRecursion P xs → xs ≡ left ++ option_to_list taken → taken ≡ Some x →
    P x × AllByRecursion P left
each-taken P xs left taken x all split some =
    let both = subst (AllByRecursion P) (last_taken xs left taken x split some) all in
    ((back-append P left (x ∷ []) both).0, each-front P left (x ∷ []) both)

pub each-left : {X : Type 0} (P : X → Type 0) (xs left : List X) (taken : Option X) → AllByRecursion P xs → xs ≡ left ++ option_to_list taken → AllByRecursion P left
each-left P xs left taken all split = each-front P left (option_to_list taken) (subst (AllByRecursion P) split all)

pub zip-each : {X : Type 0} (R : X → X → Type 0) (xs ys : List X) → length ys ≡ length xs → ((k : ℕ) (d : X) → k < length xs → R (slice_index_or xs k d) (slice_index_or ys k d)) → AllZip R xs ys
zip-each R [] [] same each = tt
zip-each R [] (y ∷ ys) same each = absurd (omega (arith, same))
zip-each R (x ∷ xs) [] same each = absurd (omega (arith, same))
zip-each R (x ∷ xs) (y ∷ ys) same each = (each 0 x (omega arith), zip-each R xs ys (omega (arith, same)) (λ k d lt. each (suc k) d (omega (arith, lt))))

pub moved : {X : Type 0} (R : X → X → Type 0) (a b x y : X) → a ≡ x → b ≡ y → R a b → R x y
moved R a b x y e f h = subst (λ z. R z y) e (subst (R a) f h)

pub each-at : {X : Type 0} (P : X → Type 0) (xs : List X) (k : ℕ) (d : X) → AllByRecursion P xs → k < length xs → P (slice_index_or xs k d)
each-at P [] k d all lt = absurd (omega (arith, lt))
each-at P (x ∷ xs) zero d all lt = all.0
each-at P (x ∷ xs) (suc k) d all lt = each-at P xs k d all.1 (omega (arith, lt))

-- ---- each works
abbrev pub WorkedOn : List Part → Worker → Worker → Type 0
WorkedOn parts v w = HasDone v.bench.compiled.now parts w

pub done-all : (p : Program) (parts : List Part) (vs ws : List Worker) → AreWorkers p vs → AllZip (WorkedOn parts) vs ws → HaveDone p parts ws
done-all p parts [] [] are worked = tt
done-all p parts [] (w ∷ ws) are worked = absurd worked
done-all p parts (v ∷ vs) [] are worked = absurd worked
done-all p parts (v ∷ vs) (w ∷ ws) are worked = (subst (λ (q : Program). HasDone q parts w) are.0.program worked.0, done-all p parts vs ws are.1 worked.1)

pub own-bench : (p : Program) (b : Bench) → IsBench p b → IsBench b.compiled.now b
own-bench p b is = subst (λ (q : Program). IsBench q b) (sym is.program) is

pub still-workers : (p : Program) (parts : List Part) (ws : List Worker) → HaveDone p parts ws → AreWorkers p ws
still-workers p parts [] have = tt
still-workers p parts (w ∷ ws) have = (have.0.worker, still-workers p parts ws have.1)

pub own-done : (p : Program) (parts : List Part) (w : Worker) → HasDone p parts w → HasDone w.bench.compiled.now parts w
own-done p parts w has = subst (λ (q : Program). HasDone q parts w) (sym has.worker.program) has

-- ---- a worker works on a part
any-default : (xs : List Part) (k : ℕ) (d t : Part) → k < length xs → slice_index_or xs k d ≡ slice_index_or xs k t
any-default [] k d t lt = absurd (omega (arith, lt))
any-default (x ∷ xs) zero d t lt = refl
any-default (x ∷ xs) (suc k) d t lt = any-default xs k d t (omega (arith, lt))

pub taken-leaf : (p : Program) (parts : List Part) (place : ℕ) (d : Part) (leaf : Leaf) → AreParts p parts → place < length parts → leaf ≡ (slice_index_or parts place d).leaf → IsLeaf p leaf
taken-leaf p parts place d leaf are within same = subst (IsLeaf p) (sym same) (each-at (IsPart p) parts place d are within).leaf

pub done-more : (p : Program) (parts : List Part) (v w : Worker) (place : ℕ) (d : Part) (leaf : Leaf) (done : Done) → HasDone p parts v → IsBench p w.bench → place < length parts →
    leaf ≡ (slice_index_or parts place d).leaf → done.place ≡ place → ArePieces p leaf.cube done.parts.items → w.done.items ≡ v.done.items ++ done ∷ [] → HasDone p parts w
done-more p parts v w place d leaf done has bench within same at pieces now =
    let is : IsDone p parts done = record {
      within = omega (arith, within, at);
      pieces = λ t. subst (λ (l : Leaf). ArePieces p l.cube done.parts.items)
          (same ∙ ap (λ (x : Part). x.leaf) (any-default parts place d t within) ∙ ap (λ k. (slice_index_or parts k t).leaf) (sym at)) pieces;
    } in
    record { worker = bench; done = subst (AllByRecursion (IsDone p parts)) (sym now) (each-append (IsDone p parts) v.done.items (done ∷ []) has.done (is, tt)) }

-- ---- a worker hands out what it did
pub done-less : (p : Program) (parts : List Part) (v w : Worker) (taken : Option Done) → HasDone p parts v → w.bench ≡ v.bench → v.done.items ≡ w.done.items ++ option_to_list taken →
    HasDone p parts w
done-less p parts v w taken has same split = record {
  worker = subst (IsBench p) (sym same) has.worker;
  done = each-left (IsDone p parts) v.done.items w.done.items taken has.done split;
}

pub done-last : (p : Program) (parts : List Part) (v : Worker) (left : List Done) (taken : Option Done) (d : Done) (place : ℕ) (t : Part) → HasDone p parts v →
    v.done.items ≡ left ++ option_to_list taken → taken ≡ Some d → d.place ≡ place → ArePieces p (slice_index_or parts place t).leaf.cube d.parts.items
done-last p parts v left taken d place t has split some same =
    subst (λ k. ArePieces p (slice_index_or parts k t).leaf.cube d.parts.items) same ((each-taken (IsDone p parts) v.done.items left taken d has.done split some).0.pieces t)

-- ---- a row is put together
pub record IsTogether (p : Program) (all left back : List Part) (workers : List Worker) : Type 0 where
  pub same : HasSame p all (left ++ reverse back)
  pub front : IsPrefix left all
  pub done : HaveDone p all workers

-- the part that is taken stands there
pub stands-there : (all waiting left : List Part) (taken : Option Part) (t d : Part) → IsPrefix waiting all → waiting ≡ left ++ option_to_list taken → taken ≡ Some t →
    slice_index_or all (length left) d ≡ t
stands-there all waiting left taken t d front split some =
    ap (λ (ts : List Part). slice_index_or ts (length left) d)
    (sym front.1 ∙ ap (λ (ts : List Part). ts ++ front.0) (last_taken waiting left taken t split some) ∙ append_assoc left (t ∷ []) front.0)
    ∙ there left front.0
  where
    there : (xs rest : List Part) → slice_index_or (xs ++ t ∷ rest) (length xs) d ≡ t
    there [] rest = refl
    there (x ∷ xs) rest = there xs rest

pub front-less : (all waiting left : List Part) (taken : Option Part) → IsPrefix waiting all → waiting ≡ left ++ option_to_list taken → IsPrefix left all
front-less all waiting left taken front split =
    (option_to_list taken ++ front.0, sym (append_assoc left (option_to_list taken) front.0) ∙ ap (λ (ts : List Part). ts ++ front.0) (sym split) ∙ front.1)

pub together-begins : (p : Program) (all back : List Part) (workers : List Worker) → AreParts p all → HaveDone p all workers → back ≡ [] → IsTogether p all all back workers
together-begins p all back workers are done none = record {
  same = subst (λ (ts : List Part). HasSame p all (all ++ reverse ts)) (sym none) (subst (HasSame p all) (sym (append-nil all)) (same-self p all are));
  front = ([], append-nil all);
  done = done;
}

pub together-next : (p : Program) (all waiting left back new : List Part) (ws vs : List Worker) (taken : Option Part) (t : Part) → IsTogether p all waiting back ws →
    waiting ≡ left ++ option_to_list taken → taken ≡ Some t → IsTurned p t back new → HaveDone p all vs → IsTogether p all left new vs
together-next p all waiting left back new ws vs taken t is split some turned done = record {
  same = row-turned p all left back new t (row-taken p all waiting left (reverse back) taken t is.same split some) turned;
  front = front-less all waiting left taken is.front split;
  done = done;
}

pub together-part : (p : Program) (all waiting left back : List Part) (ws : List Worker) (taken : Option Part) (t : Part) → IsTogether p all waiting back ws →
    waiting ≡ left ++ option_to_list taken → taken ≡ Some t → IsPart p t
together-part p all waiting left back ws taken t is split some = taken-part p left (reverse back) t (row-taken p all waiting left (reverse back) taken t is.same split some).parts

-- it stands at its place
pub together-there : (p : Program) (all waiting left back : List Part) (ws : List Worker) (taken : Option Part) (t : Part) (place : ℕ) → IsTogether p all waiting back ws →
    waiting ≡ left ++ option_to_list taken → taken ≡ Some t → place ≡ length left → slice_index_or all place t ≡ t
together-there p all waiting left back ws taken t place is split some at = ap (λ k. slice_index_or all k t) at ∙ stands-there all waiting left taken t t is.front split some

pub together-ends : (p : Program) (all waiting back new : List Part) (ws : List Worker) → IsTogether p all waiting back ws → waiting ≡ [] → new ≡ reverse back → HasSame p all new
together-ends p all waiting back new ws is none now = subst (HasSame p all) (ap (λ (ts : List Part). ts ++ reverse back) none ∙ sym now) is.same
