-- What every accepted add of an evening keeps: what was appended is the records and the entries of the accepted shapes, and with well-formed shapes the
-- box stays finite.
use mathlib.Core.Path.{◌≡◌, refl, sym, ap, ap₂, ◌∙◌}
use mathlib.Core.List.{List, [], ◌∷◌, ◌++◌, map, flatten, map-append}
use Prim.Native.Nat.{ℕ}
use lib.ListN.{length}
use Rattle.format.specs.declared.kinds.Kind.{Kind}
use Rattle.format.specs.Said.{gives}
use Rattle.format.specs.Shapes.{Shape, Among}
use Rattle.format.specs.WellFormed.{WellFormed}
use Rattle.format.proofs.Equations.{records-nil}
use Rattle.format.proofs.LayoutLaws.{flatten_more}
use Rattle.format.proofs.Records.{entries_bytes_nil}
use Rattle.boxes.proofs.FiniteBoxes.{FiniteBox, zero-box-finite}
use Rattle.rules.specs.Meaning.{AllWellFormed}
use Rattle.writer.specs.declared.State.{State}
use Rattle.writer.specs.Adding.{Lent, lent_shape, record_of, entry_of, next_state, said_add, adding_of}
use Rattle.writer.specs.State.{fresh}
use Rattle.writer.proofs.Accepted.{accepted}
use Rattle.writer.proofs.Given.{record-given, entry-given}
use Rattle.writer.proofs.NextBox.{next_finite}
use Rattle.appending.specs.Files.{kind_with, OneInFile}
use Rattle.appending.specs.OneMore.{records, entries}
use Rattle.appending.proofs.ToFile.{appends_to_file}
use Rattle.series.specs.Series.{Add, Call, Made, state_after}
use Rattle.series.specs.Taken.{AddMade, taken, shapes_taken, first_kind}
use Rattle.series.proofs.After.{Holds, fresh_holds, holds_more, with_one, from_fresh}
use Rattle.evening.specs.Evening.{record_given, entry_given, state_of, EachWellFormed}

-- ---- one shape more, and one add more

each_before : (k : Kind) (ss : List Shape) (x : Shape) → EachWellFormed k (ss ++ x ∷ []) → EachWellFormed k ss × WellFormed k x
each_before k [] x w = (tt, w.0)
each_before k (s ∷ ss) x w = let r = each_before k ss x w.1 in ((w.0, r.0), r.1)

all_more : (k : Kind) (ss : List Shape) (x : Shape) → AllWellFormed k ss → Among k x → WellFormed k x → AllWellFormed k (ss ++ x ∷ [])
all_more k [] x a m w = (m, w, tt)
all_more k (s ∷ ss) x a m w = (a.0, a.1, all_more k ss x a.2 m w)

-- behind shapes the kind stays as it is
each_theirs : (k : Kind) (ss : List Shape) (t : Lent) → EachWellFormed (kind_with k ss t) ss → EachWellFormed k ss
each_theirs k [] t w = tt
each_theirs k (s ∷ ss) t w = w

all_theirs : (k : Kind) (ss : List Shape) (t : Lent) → AllWellFormed k ss → AllWellFormed (kind_with k ss t) ss
all_theirs k [] t a = tt
all_theirs k (s ∷ ss) t a = a

state_more : (s : State) (added : List Add) (a : Add) → state_of s (added ++ a ∷ []) ≡ next_state (state_of s added) a.lends
state_more s [] a = refl
state_more s (b ∷ added) a = state_more (next_state s b.lends) added a

-- what each add gives, one after the other
pub given_more : (give : Add → List ℕ) (added : List Add) (a : Add) → flatten (map give (added ++ a ∷ [])) ≡ flatten (map give added) ++ give a
given_more give added a = ap flatten (map-append give added (a ∷ [])) ∙ flatten_more (map give added) (give a)

-- ---- what an accepted add gives

module _ (s : State) (a : Add) (n : ℕ) (c : AddMade s a) (e : said_add a.back.answer ≡ gives n) where
  pub is-added : adding_of s a.lends (length a.out) a.start (length a.entry) ≡ gives n
  is-added = sym c.says ∙ e

  pub record_is : record_given a ≡ record_of s a.lends
  record_is = rw (c.out_is, e) (record-given s a.lends a.out a.start a.entry n is-added)

  entry_is : entry_given a ≡ entry_of s a.lends
  entry_is = rw (c.entry_is, e) (entry-given s a.lends a.out a.start a.entry n is-added)

-- ---- what is kept

pub record Kept (added : List Add) (s : State) : Type 0 where
  pub holds : Holds added s
  pub state : s ≡ state_of fresh added
  pub records_are : flatten (map record_given added) ≡ records (first_kind added) (shapes_taken added)
  pub entries_are : flatten (map entry_given added) ≡ entries (shapes_taken added)
  pub fine : EachWellFormed (first_kind added) (shapes_taken added) → AllWellFormed (first_kind added) (shapes_taken added) × FiniteBox s.bbox

fresh_kept : Kept [] fresh
unfolding flatten
fresh_kept =
    record {
      holds = fresh_holds;
      state = refl;
      records_are = sym (records-nil _ 1);
      entries_are = sym (entries_bytes_nil 50);
      fine = λ w. (tt, zero-box-finite);
    }

module _ (added : List Add) (s : State) (a : Add) (n : ℕ) (h : Kept added s) (c : AddMade s a) (e : said_add a.back.answer ≡ gives n) where
  abbrev k : Kind
  k = first_kind added

  abbrev ss : List Shape
  ss = shapes_taken added

  one : OneInFile k ss s a.lends
  one = appends_to_file k ss s a.lends (length a.out) a.start (length a.entry) n h.holds.0 (is-added s a n c e)

  fine_more : EachWellFormed (kind_with k ss a.lends) (ss ++ lent_shape a.lends ∷ [])
      → AllWellFormed (kind_with k ss a.lends) (ss ++ lent_shape a.lends ∷ []) × FiniteBox (next_state s a.lends).bbox
  fine_more w =
      let file = kind_with k ss a.lends in
      let b = each_before file ss (lent_shape a.lends) w in
      let f = h.fine (each_theirs k ss a.lends b.0) in
      let taken = accepted s a.lends (length a.out) a.start (length a.entry) n (is-added s a n c e) in
      (all_more file ss (lent_shape a.lends) (all_theirs k ss a.lends f.0) one.among b.1, next_finite s a.lends taken file b.1 f.1)

  kept_more : Kept (added ++ a ∷ []) (next_state s a.lends)
  kept_more =
      record {
        holds = holds_more added s a n h.holds c e;
        state = ap (λ (r : State). next_state r a.lends) h.state ∙ sym (state_more fresh added a);
        records_are =
            given_more record_given added a ∙ (ap₂ ◌++◌ h.records_are (record_is s a n c e)
            ∙ with_one (λ (i : Kind) (l : List Shape). records k ss ++ record_of s a.lends ≡ records i l) added a (sym one.appended));
        entries_are =
            given_more entry_given added a ∙ (ap₂ ◌++◌ h.entries_are (entry_is s a n c e)
            ∙ with_one (λ (i : Kind) (l : List Shape). entries ss ++ entry_of s a.lends ≡ entries l) added a (sym one.indexed));
        fine = with_one (λ (i : Kind) (l : List Shape). EachWellFormed i l → AllWellFormed i l × FiniteBox (next_state s a.lends).bbox) added a fine_more;
      }

pub kept : (calls : List Call) → Made fresh calls → Kept (taken calls) (state_after fresh calls)
kept = from_fresh Kept kept_more fresh_kept
