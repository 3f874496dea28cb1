-- What was told, and what can be told of the parts.
use Rattle.std.proofs.Common.{◌≡◌, ◌+◌, ◌^◌, ◌<◌, List, [], ◌∷◌, ◌++◌, length, Option, Some, refl, sym, ap, ◌∙◌, subst, arith, append_assoc, length-append}
use Rattle.std.specs.Prelude.{option_to_list, IfSome}
use mathlib.Core.List.{IsPrefix}
use Rattle.asp_model.specs.declared.program.Program.{Program}
use Rattle.asp_model.specs.Models.{answers}
use Rattle.asp_model.specs.Sets.{Atoms}
use Rattle.asp_model.proofs.MemberLaws.{each-append}
use Rattle.asp_vars.proofs.StandingLaws.{back-append}
use Rattle.asp_core.specs.declared.event.Event.{Event}
use Rattle.asp_stream.specs.Streams.{IsFrontOf}
use Rattle.asp_split.specs.Dividing.{part}
use Rattle.asp_parts.specs.declared.course.Course.{Course}
use Rattle.asp_parts.specs.declared.part.Found.{Found as Listed}
use Rattle.asp_parts.specs.declared.part.Part.{Part}
use Rattle.asp_parts.specs.Courses.{IsCourse, IsTelling, MakesUp}
use Rattle.asp_parts.specs.Parts.{AreParts, HasSame, IsListed, IsPart, IsPlaced, deliveries, sets_back}
use Rattle.asp_parts.proofs.FoundLaws.{deliveries-append}
use Rattle.asp_parts.proofs.PartLaws.{last_taken, parts-front, parts-last, sets_back-append}

-- ---- more is heard
pub course-more : (heard more sets : List Atoms) (c d : Course) (entries : List Event) → IsCourse heard c → entries ≡ deliveries sets → more ≡ heard ++ sets →
    d.journal.items ≡ c.journal.items ++ entries → d.heard ≡ c.heard + length sets → d.heard + 1 < 2 ^ 64 → IsCourse more d
course-more heard more sets c d entries is are now journal counted few =
    let count : length more ≡ length heard + length sets = ap length now ∙ length-append heard sets in
    record {
      journal = journal ∙ ap (λ (es : List Event). es ++ entries) is.journal ∙ ap (λ (es : List Event). deliveries heard ++ es) are
          ∙ sym (deliveries-append heard sets) ∙ ap deliveries (sym now);
      counted = omega (arith, counted, is.counted, count);
      few = omega (arith, counted, is.counted, count, few);
    }

-- ---- what was heard is a front
pub telling-front : (p : Program) (heard : List Atoms) (parts : List Part) → IsTelling p heard parts → IsPrefix heard (answers p)
telling-front p heard parts is = (sets_back p parts, is.sets)

pub front-of : (p q : Program) (all list heard : List Atoms) → q ≡ p → list ≡ all → all ≡ answers p → IsPrefix heard (answers p) → IsFrontOf p all q list heard
front-of p q all list heard program same is front = record { program = program; all_are = same; front = subst (IsPrefix heard) (sym is) front }

-- ---- the last part
module _ (p : Program) (all heard : List Atoms) (old left : List Part) (taken : Option Part) (t : Part) (is : MakesUp p all heard old)
    (split : old ≡ left ++ option_to_list taken) (some : taken ≡ Some t) where
  both : old ≡ left ++ t ∷ []
  both = last_taken old left taken t split some

  pub part-taken : IsPart p t
  part-taken = parts-last p left t (subst (AreParts p) both is.are)

  sets-are : heard ++ (part p t.leaf.cube ++ sets_back p left) ≡ all
  sets-are = ap (λ (Ss : List Atoms). heard ++ Ss) (sym (sets_back-append p left (t ∷ [])) ∙ ap (sets_back p) (sym both)) ∙ is.sets

  -- its sets may be heard
  pub may-hear : (sets : List Atoms) → sets ≡ part p t.leaf.cube → IsPrefix (heard ++ sets) all
  may-hear sets same = (
    sets_back p left,
    append_assoc heard sets (sets_back p left) ∙ ap (λ (Ss : List Atoms). heard ++ (Ss ++ sets_back p left)) same ∙ sets-are,
  )

  -- they were heard
  pub telling-next : (more sets : List Atoms) → sets ≡ part p t.leaf.cube → more ≡ heard ++ sets → MakesUp p all more left
  telling-next more sets same now = record {
    are = parts-front p left (t ∷ []) (subst (AreParts p) both is.are);
    sets = ap (λ (Ss : List Atoms). Ss ++ sets_back p left) (now ∙ ap (λ (Ss : List Atoms). heard ++ Ss) same) ∙ append_assoc heard (part p t.leaf.cube) (sets_back p left) ∙ sets-are;
  }

  -- it is put back
  pub telling-back : (u : Part) (new : List Part) → u ≡ t → new ≡ left ++ u ∷ [] → MakesUp p all heard new
  telling-back u new same now = subst (MakesUp p all heard) (both ∙ ap (λ (v : Part). left ++ v ∷ []) (sym same) ∙ sym now) is

pub found-is : (p : Program) (t : Part) (f : Listed) → IsPart p t → t.found ≡ Some f → IsListed p (part p t.leaf.cube) f
found-is p t f is same = subst (λ (o : Option Listed). IfSome o (IsListed p (part p t.leaf.cube))) same is.found

-- ---- nothing is left
-- a front of a front
pub front-until : (some more all : List Atoms) → IsPrefix some more → IsPrefix more all → IsPrefix some all
front-until some more all front on = (front.0 ++ on.0, sym (append_assoc some front.0 on.0) ∙ ap (λ (Ss : List Atoms). Ss ++ on.0) front.1 ∙ on.1)

-- what comes before more is a front too
pub prefix-front : (heard sets all : List Atoms) → IsPrefix (heard ++ sets) all → IsPrefix heard all
prefix-front heard sets all front = (sets ++ front.0, sym (append_assoc heard sets front.0) ∙ front.1)

-- one front after another of the same list
pub front-then : (p q : Program) (all list heard : List Atoms) (list' : List Atoms) → list' ≡ all → IsFrontOf p list' q list heard → IsFrontOf p all q list heard
front-then p q all list heard list' same is = record {
  program = is.program;
  all_are = is.all_are ∙ same;
  front = subst (IsPrefix heard) same is.front;
}

-- nothing is heard
pub begins-front : (p q : Program) (all heard : List Atoms) → q ≡ p → heard ≡ [] → IsFrontOf p all q all heard
begins-front p q all heard same none = record { program = same; all_are = refl; front = subst (λ (h : List Atoms). IsPrefix h all) (sym none) (all, refl) }

-- the first parts
pub first-telling : (p : Program) (none new : List Part) (sets : List Atoms) → none ≡ [] → IsPlaced p none new sets → sets ≡ answers p → IsTelling p [] new
first-telling p none new sets e placed all =
    let is : new ≡ placed.added = placed.is ∙ ap (λ (ts : List Part). ts ++ placed.added) e in
    record { are = subst (AreParts p) (sym is) placed.parts; sets = ap (sets_back p) is ∙ placed.are ∙ all }

-- ---- some parts are told while the others are searched
module _ (p : Program) (heard : List Atoms) (rest ripe whole : List Part) (row : rest ++ ripe ≡ whole) (is : IsTelling p heard whole) where
  row-are : AreParts p (rest ++ ripe)
  row-are = subst (AreParts p) (sym row) is.are

  row-sets : heard ++ (sets_back p ripe ++ sets_back p rest) ≡ answers p
  row-sets = ap (λ (Ss : List Atoms). heard ++ Ss) (sym (sets_back-append p rest ripe) ∙ ap (sets_back p) row) ∙ is.sets

  pub rest-are : AreParts p rest
  rest-are = parts-front p rest ripe row-are

  pub ripe-are : AreParts p ripe
  ripe-are = back-append (IsPart p) rest ripe row-are

  pub ripe-front : IsPrefix (heard ++ sets_back p ripe) (answers p)
  ripe-front = (sets_back p rest, append_assoc heard (sets_back p ripe) (sets_back p rest) ∙ row-sets)

  pub told-beside : (more : List Atoms) (new left after : List Part) → HasSame p rest new → MakesUp p (heard ++ sets_back p ripe) more left → after ≡ new ++ left → IsTelling p more after
  told-beside more new left after same told now = record {
    are = subst (AreParts p) (sym now) (each-append (IsPart p) new left same.parts told.are);
    sets =
        ap (λ (ts : List Part). more ++ sets_back p ts) now ∙ ap (λ (Ss : List Atoms). more ++ Ss) (sets_back-append p new left)
        ∙ sym (append_assoc more (sets_back p left) (sets_back p new)) ∙ ap (λ (Ss : List Atoms). Ss ++ sets_back p new) told.sets
        ∙ ap (λ (Ss : List Atoms). (heard ++ sets_back p ripe) ++ Ss) same.sets ∙ append_assoc heard (sets_back p ripe) (sets_back p rest) ∙ row-sets;
  }
