-- The theorems on an evening of writing.
use mathlib.Core.Path.{◌≡◌, refl, sym, ap, ap₂, ◌∙◌, subst}
use mathlib.Core.Bool.{true}
use mathlib.Core.List.{List, [], ◌∷◌, ◌++◌, map, flatten}
use mathlib.Core.Option.{some}
use Prim.Native.Nat.{ℕ}
use lib.IntN.{ℤ}
use lib.ListN.{length}
use Rattle.format.specs.declared.kinds.Kind.{Kind}
use Rattle.format.specs.Encoding.{Box, IsPair}
use Rattle.format.specs.Kinds.{null_kind, kind_at}
use Rattle.format.specs.Lengths.{form_at}
use Rattle.format.specs.Said.{unless_refused}
use Rattle.format.specs.Shapes.{Shape, there}
use Rattle.format.specs.WellFormed.{BoxFinite}
use Rattle.format.proofs.KindLaws.{code_is}
use Rattle.format.proofs.LengthLaws.{null_row}
use Rattle.format.proofs.Records.{pair_same}
use Rattle.header.specs.Box.{box_bits}
use Rattle.boxes.specs.Boxes.{settled}
use Rattle.boxes.proofs.BoxLaws.{zero-box-bits}
use Rattle.boxes.proofs.FiniteBoxes.{bits-finite, settled-finite}
use Rattle.rules.specs.Meaning.{AllWellFormed, TakenKind, all_parts, all_points, FileOf, Encoded}
use Rattle.std.specs.Prelude.{Ok}
use Rattle.pair.proofs.SaidLaws.{said_verdict_one}
use Rattle.writer.specs.declared.State.{State}
use Rattle.writer.specs.Adding.{said_add}
use Rattle.writer.specs.Finishing.{shp_header, shx_header, headers_of, Finishes}
use Rattle.writer.specs.State.{fresh, state_fine}
use Rattle.writer.proofs.Accepted.{kind-there, finished-is}
use Rattle.writer.proofs.StateLaws.{fine}
use Rattle.appending.specs.Files.{NullWithout}
use Rattle.appending.specs.OneMore.{KindBehind}
use Rattle.appending.proofs.ToFile.{pair-behind}
use Rattle.series.specs.Series.{Add, Call, adds, finishes, Made, state_after, accepted}
use Rattle.series.specs.Taken.{taken, shapes_taken, first_kind}
use Rattle.series.proofs.After.{accepted_taken}
use Rattle.evening.specs.Evening.{Finishing, Evening, record_given, entry_given, shp_front, shx_front, shp_file, shx_file, state_of, box_of, EachIsWritten, EachWellFormed, totals, EachIsChecked, NoneIsEmpty, only_adds, HalfwayIsNothing, HalfwayIsEvening}
use Rattle.evening.proofs.Kept.{kept}

-- ---- the last finishing

module _ (s : State) (f : state_fine s ≡ true) (last : Finishing) (c : Finishes s last) where
  finished : last ≡ Ok (headers_of s)
  finished = finished-is s last f c

  shp-front : shp_front last ≡ shp_header s
  shp-front = ap shp_front finished

  shx-front : shx_front last ≡ shx_header s
  shx-front = ap shx_front finished

-- ---- the two files

pub each_is_written : EachIsWritten
each_is_written calls last v =
    let k = kept calls v.made in
    let s = state_after fresh calls in
    let b = k.holds in
    let kind = first_kind (taken calls) in
    let shapes = shapes_taken (taken calls) in
    record {
      state = k.state;
      not_refused = rw (finished s b.1 last v.finished);
      pair =
          subst (λ (l : List Shape). IsPair kind (box_of calls) l (shp_file calls last) (shx_file calls last)) (sym (accepted_taken calls))
          (subst (λ (r : State). IsPair kind (box_bits (settled r.bbox)) shapes (shp_file calls last) (shx_file calls last)) k.state
          (pair_same kind _ shapes _ _ _ _ (pair-behind kind shapes s b.0 b.1)
          (sym (ap₂ ◌++◌ (shp-front s b.1 last v.finished) k.records_are))
          (sym (ap₂ ◌++◌ (shx-front s b.1 last v.finished) k.entries_are))));
    }

-- ---- the checker's yes

named : (k : Kind) (ss : List Shape) (code : ℤ) → KindBehind k ss code → NullWithout k ss → kind_at code ≡ some k
named k [] code e z = ap kind_at e ∙ (null_row ∙ ap some (sym z))
named k (s ∷ ss) code e z = e

taken-kind : (k : Kind) (code : ℤ) → kind_at code ≡ some k → there (form_at code) ≡ true → TakenKind k
taken-kind k code e h = record { form = _; in_table = ap kind_at (sym (code_is code k e)) ∙ e; taken = rw e at (kind-there (kind_at code) h).1 }

module _ (calls : List Call) (last : Finishing) (v : Evening calls last) (w : EachWellFormed (first_kind (taken calls)) (accepted calls)) where
  file_of : FileOf (first_kind (taken calls)) (box_of calls) (accepted calls) (shp_file calls last) (shx_file calls last)
  file_of =
      let k = kept calls v.made in
      let s = state_after fresh calls in
      let b = k.holds in
      let f = k.fine (subst (EachWellFormed (first_kind (taken calls))) (accepted_taken calls) w) in
      record {
        kind = taken-kind (first_kind (taken calls)) s.kind (named _ (shapes_taken (taken calls)) s.kind b.0.behind.kind b.0.without) (fine s b.1).kind-taken;
        box_finite = subst (λ (r : State). BoxFinite (box_bits (settled r.bbox))) k.state (bits-finite (settled s.bbox) (settled-finite s.bbox f.1));
        fine = subst (AllWellFormed (first_kind (taken calls))) (sym (accepted_taken calls)) f.0;
        is = (each_is_written calls last v).pair;
      }

  encoded : Encoded (shp_file calls last) (shx_file calls last) (record { records = length (accepted calls); parts = all_parts (accepted calls); points = all_points (accepted calls) })
  encoded = record { kind = _; box = _; shapes = accepted calls; file = file_of; records = refl; parts = refl; points = refl }

pub each_is_checked : EachIsChecked
each_is_checked calls last v w = record { file = file_of calls last v w; yes = λ r c. said_verdict_one r (Ok _) (c.means.always _ (encoded calls last v w)) }

-- ---- an evening without an accepted add

pub none_is_empty : NoneIsEmpty
none_is_empty calls last v e =
    let shp = shp_file calls last in
    let shx = shx_file calls last in
    let none : accepted calls ≡ [] = accepted_taken calls ∙ ap shapes_taken e in
    let fine = subst (λ (l : List Shape). EachWellFormed (first_kind (taken calls)) l) (sym none) tt in
    record {
      pair =
          subst (λ (b : Box). IsPair null_kind b [] shp shx) zero-box-bits
          (subst (λ (l : List Add). IsPair (first_kind l) (box_bits (settled (state_of fresh l).bbox)) [] shp shx) e
          (subst (λ (l : List Shape). IsPair (first_kind (taken calls)) (box_of calls) l shp shx) none (each_is_written calls last v).pair));
      yes = λ r c.
          (each_is_checked calls last v fine).yes r c
          ∙ ap (λ (l : List Shape). Ok (totals (length l) (all_parts l) (all_points l))) none;
    }

-- ---- finishings taken out

made-only : (calls : List Call) (s : State) → Made s calls → Made s (only_adds calls)
made-only [] s m = tt
made-only (adds a ∷ calls) s m = (m.0, made-only calls a.back.state m.1)
made-only (finishes f ∷ calls) s m = made-only calls s m.1

state-only : (calls : List Call) (s : State) → state_after s (only_adds calls) ≡ state_after s calls
state-only [] s = refl
state-only (adds a ∷ calls) s = state-only calls a.back.state
state-only (finishes f ∷ calls) s = state-only calls s

taken-only : (calls : List Call) → taken (only_adds calls) ≡ taken calls
taken-only [] = refl
taken-only (adds a ∷ calls) = ap (λ (l : List Add). unless_refused (said_add a.back.answer) l (a ∷ l)) (taken-only calls)
taken-only (finishes f ∷ calls) = taken-only calls

pub halfway_is_nothing : HalfwayIsNothing
halfway_is_nothing calls last v =
    let s = state_after fresh calls in
    let f = (kept calls v.made).holds.1 in
    let theirs : (last' : Finishing) → Evening (only_adds calls) last' → Finishes s last' = λ l u. subst (λ (r : State). Finishes r l) (state-only calls fresh) u.finished in
    record {
      made = made-only calls fresh v.made;
      same_shp = λ l u. ap₂ (λ (h : List ℕ) (t : List Add). h ++ flatten (map record_given t)) (shp-front s f l (theirs l u) ∙ sym (shp-front s f last v.finished)) (taken-only calls);
      same_shx = λ l u. ap₂ (λ (h : List ℕ) (t : List Add). h ++ flatten (map entry_given t)) (shx-front s f l (theirs l u) ∙ sym (shx-front s f last v.finished)) (taken-only calls);
    }

-- ---- a finishing among the calls

made_before : (before after : List Call) (f : Finishing) (s : State) → Made s (before ++ finishes f ∷ after) → Made s before × Finishes (state_after s before) f
made_before [] after f s m = (tt, m.0)
made_before (adds a ∷ before) after f s m = let r = made_before before after f a.back.state m.1 in ((m.0, r.0), r.1)
made_before (finishes g ∷ before) after f s m = let r = made_before before after f s m.1 in ((m.0, r.0), r.1)

pub halfway_is_evening : HalfwayIsEvening
halfway_is_evening before after f m = let r = made_before before after f fresh m in record { made = r.0; finished = r.1 }
