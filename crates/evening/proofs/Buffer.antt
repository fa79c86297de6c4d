-- All records in one buffer: they stand in it one behind the other.
use mathlib.Core.Path.{◌≡◌, refl, sym, ap, ap₂, ◌∙◌}
use mathlib.Core.List.{List, [], ◌∷◌, ◌++◌, map, flatten, append_assoc, append-nil}
use Prim.Native.Nat.{ℕ}
use lib.ListN.{take, drop}
use lib.Seq.{drop_at}
use Rattle.format.specs.Said.{gives}
use Rattle.writer.specs.declared.State.{State}
use Rattle.writer.specs.Adding.{record_of, next_state, said_add}
use Rattle.writer.specs.State.{fresh}
use Rattle.writer.proofs.Given.{record_behind}
use Rattle.series.specs.Series.{Add}
use Rattle.series.specs.Taken.{AddMade, taken}
use Rattle.series.proofs.After.{from_fresh}
use Rattle.evening.specs.Evening.{shp_front, record_given, up_to, InOneBuffer, front_after, OneBufferIsIt}
use Rattle.evening.proofs.Kept.{given_more, is-added, record_is}

-- ---- the last add of several

front_more : (front : List ℕ) (added : List Add) (a : Add) → front_after front (added ++ a ∷ []) ≡ up_to a
front_more front [] a = refl
front_more front (b ∷ added) a = front_more (up_to b) added a

in_more : (front : List ℕ) (added : List Add) (a : Add) → InOneBuffer front (added ++ a ∷ [])
    → InOneBuffer front added × (take a.start a.out ≡ front_after front added)
in_more front [] a b = (tt, b.0)
in_more front (c ∷ added) a b = let r = in_more (up_to c) added a b.1 in ((b.0, r.0), r.1)

-- ---- what stands in front: what stood there first, and the records

abbrev Fronts : List Add → State → Type 0
Fronts added s = (front : List ℕ) → InOneBuffer front added → front_after front added ≡ front ++ flatten (map record_given added)

fresh_fronts : Fronts [] fresh
unfolding flatten
fresh_fronts front b = sym (append-nil front)

module _ (added : List Add) (s : State) (a : Add) (n : ℕ) (h : Fronts added s) (c : AddMade s a) (e : said_add a.back.answer ≡ gives n) where
  up_is : up_to a ≡ take a.start a.out ++ record_of s a.lends
  up_is = rw (c.out_is, e) (record_behind s a.lends a.out a.start a.entry n (is-added s a n c e))

  fronts_more : Fronts (added ++ a ∷ []) (next_state s a.lends)
  fronts_more front b =
      let before = in_more front added a b in
      let records = flatten (map record_given added) in
      front_more front added a
      ∙ (up_is
      ∙ (ap₂ ◌++◌ (before.1 ∙ h front before.0) (sym (record_is s a n c e))
      ∙ (append_assoc front records (record_given a) ∙ ap (◌++◌ front) (sym (given_more record_given added a)))))

pub one_buffer_is_it : OneBufferIsIt
one_buffer_is_it calls last front v e b =
    let whole = from_fresh Fronts fronts_more fresh_fronts calls v.made front b in
    ap (◌++◌ (shp_front last)) (ap (drop 100) whole ∙ drop_at front (flatten (map record_given (taken calls))) 100 e)
