-- Behind every series from a fresh state: the state is the one behind the accepted shapes, and a writer state. Refused adds and finishings leave a
-- state as it is: that is dealt with here, once, for all that is kept by the accepted ones.
use mathlib.Core.Path.{◌≡◌, refl, sym, ap, ◌∙◌, subst}
use mathlib.Core.Bool.{true}
use mathlib.Core.List.{List, [], ◌∷◌, ◌++◌, append_assoc, append-nil, map-append}
use Prim.Native.Nat.{ℕ}
use lib.ListN.{length}
use Rattle.format.specs.declared.kinds.Kind.{Kind}
use Rattle.format.specs.Said.{Said, gives, refuses, unless_refused}
use Rattle.format.specs.Kinds.{kind_or}
use Rattle.format.specs.Shapes.{Shape}
use Rattle.writer.specs.declared.State.{State}
use Rattle.writer.specs.Adding.{lent_shape, next_state, said_add}
use Rattle.writer.specs.State.{fresh, state_fine}
use Rattle.writer.proofs.Accepted.{never_size, never_finishing, accepted, next_fine}
use Rattle.writer.proofs.StateLaws.{fresh-fine}
use Rattle.rules.specs.Meaning.{all_points}
use Rattle.appending.specs.Files.{FileBehind, kind_with}
use Rattle.appending.specs.OneMore.{Behind, state_kind}
use Rattle.appending.proofs.Appends.{behind_none}
use Rattle.appending.proofs.ToFile.{file_begins, appends_to_file}
use Rattle.series.specs.Series.{Add, Call, adds, finishes, Made, state_after, accepted as shapes_accepted}
use Rattle.series.specs.Taken.{AddMade, taken, shapes_taken, first_kind, AcceptedTaken}
use Rattle.series.specs.Totals.{Totals, NeverSize, StatesServe, BehindAccepted}

-- ---- the state behind one add

module _ (s : State) (a : Add) (c : AddMade s a) where
  state_by : (said : Said ℕ) → said_add a.back.answer ≡ said → a.back.state ≡ unless_refused said s (next_state s a.lends)
  state_by said e = c.state_is ∙ ap (λ (x : Said ℕ). unless_refused x s (next_state s a.lends)) e

-- ---- what an accepted add keeps is kept by a series

module _ (P : List Add → State → Type 0)
    (more : (added : List Add) (s : State) (a : Add) (n : ℕ) → P added s → AddMade s a → said_add a.back.answer ≡ gives n → P (added ++ a ∷ []) (next_state s a.lends))
  where
    -- one add, whatever it answers, and what is accepted behind it
    one_add : (added : List Add) (s : State) (a : Add) (rest : List Add) (end : State) → P added s → AddMade s a
        → ((l : List Add) → P l a.back.state → P (l ++ rest) end)
        → (said : Said ℕ) → said_add a.back.answer ≡ said → P (added ++ unless_refused said rest (a ∷ rest)) end
    one_add added s a rest end p c on (gives n) e =
        subst (λ (l : List Add). P l end) (append_assoc added (a ∷ []) rest)
        (on (added ++ a ∷ []) (subst (P (added ++ a ∷ [])) (sym (state_by s a c (gives n) e)) (more added s a n p c e)))
    one_add added s a rest end p c on (refuses n vs) e = on added (subst (P added) (sym (state_by s a c (refuses n vs) e)) p)

    series : (calls : List Call) (added : List Add) (s : State) → P added s → Made s calls → P (added ++ taken calls) (state_after s calls)
    series [] added s p m = rw (append-nil added) p
    series (adds a ∷ calls) added s p m =
        one_add added s a (taken calls) (state_after s (adds a ∷ calls)) p m.0 (λ l q. series calls l a.back.state q m.1) (said_add a.back.answer) refl
    series (finishes f ∷ calls) added s p m = series calls added s p m.1

    pub from_fresh : P [] fresh → (calls : List Call) → Made fresh calls → P (taken calls) (state_after fresh calls)
    from_fresh p calls m = series calls [] fresh p m

-- ---- the state is behind the accepted shapes, and a writer state

abbrev pub Holds : List Add → State → Type 0
Holds added s = FileBehind (first_kind added) (shapes_taken added) s × (state_fine s ≡ true)

pub fresh_holds : Holds [] fresh
fresh_holds = (file_begins, fresh-fine)

-- what holds of one shape more holds of the shapes of one add more, with the kind of the first
pub with_one : (P : Kind → List Shape → Type 0) (added : List Add) (a : Add) → P (kind_with (first_kind added) (shapes_taken added) a.lends) (shapes_taken added ++ lent_shape a.lends ∷ [])
    → P (first_kind (added ++ a ∷ [])) (shapes_taken (added ++ a ∷ []))
with_one P [] a p = p
with_one P (b ∷ added) a p = rw (map-append (λ (c : Add). lent_shape c.lends) added (a ∷ [])) p

pub holds_more : (added : List Add) (s : State) (a : Add) (n : ℕ) → Holds added s → AddMade s a → said_add a.back.answer ≡ gives n → Holds (added ++ a ∷ []) (next_state s a.lends)
holds_more added s a n h c e =
    let one = appends_to_file (first_kind added) (shapes_taken added) s a.lends (length a.out) a.start (length a.entry) n h.0 (sym c.says ∙ e) in
    (with_one (λ (k : Kind) (ss : List Shape). FileBehind k ss (next_state s a.lends)) added a one.behind, one.fine)

holds : (calls : List Call) → Made fresh calls → Holds (taken calls) (state_after fresh calls)
holds = from_fresh Holds holds_more fresh_holds

-- what one call adds to the accepted shapes, and to the adds that were taken
one_taken : (a : Add) (ss : List Shape) (added : List Add) → ss ≡ shapes_taken added → (said : Said ℕ)
    → unless_refused said [] (lent_shape a.lends ∷ []) ++ ss ≡ shapes_taken (unless_refused said added (a ∷ added))
one_taken a ss added e (gives n) = ap (λ (l : List Shape). lent_shape a.lends ∷ l) e
one_taken a ss added e (refuses n vs) = e

pub accepted_taken : AcceptedTaken
accepted_taken [] = refl
accepted_taken (adds a ∷ calls) = one_taken a (shapes_accepted calls) (taken calls) (accepted_taken calls) (said_add a.back.answer)
accepted_taken (finishes f ∷ calls) = accepted_taken calls

-- a state behind shapes of a kind names that kind
named : (k : Kind) (ss : List Shape) (s : State) → Behind k ss s → Behind (state_kind s) ss s
named k [] s b = behind_none k (state_kind s) s b
named k (x ∷ ss) s b = subst (λ (i : Kind). Behind i (x ∷ ss) s) (sym (ap kind_or b.kind)) b

pub behind-accepted : BehindAccepted
behind-accepted calls m =
    let s = state_after fresh calls in
    subst (λ (l : List Shape). Behind (state_kind s) l s) (sym (accepted_taken calls)) (named (first_kind (taken calls)) (shapes_taken (taken calls)) s (holds calls m).0.behind)

pub totals : Totals
totals calls m = (holds calls m).0.behind.points ∙ ap all_points (sym (accepted_taken calls))

-- ---- no state is refused with 3

serves : (s : State) → state_fine s ≡ true → NeverSize s
serves s f =
    record {
      adding = λ t out start entry r out' entry' c. never_size s t (length out) start (length entry) r.answer f c.says;
      finishing = λ r c e. never_finishing s r f c e;
    }

pub states_serve : StatesServe
states_serve =
    record {
      at_first = serves fresh fresh-fine;
      added = λ s t out start entry r out' entry' n c e.
          let said = ap said_add e in
          let fine = next_fine s t (accepted s t (length out) start (length entry) n (sym c.says ∙ said)) in
          serves r.state (ap state_fine (c.state_is ∙ ap (λ (x : Said ℕ). unless_refused x s (next_state s t)) said) ∙ fine);
      after = λ calls m. serves (state_after fresh calls) (holds calls m).1;
    }
