-- One record more behind others of whatever kind: it is one more in a file of theirs, whose kind is the one that the next state names.
use mathlib.Core.Path.{◌≡◌, refl, sym, ap, ◌∙◌, subst}
use mathlib.Core.List.{List, [], ◌∷◌, ◌++◌}
use Prim.Native.Nat.{ℕ}
use native.Mathlib.Omega.{arith}
use lib.IntN.{pos}
use Rattle.format.specs.declared.kinds.Kind.{Kind}
use Rattle.format.specs.Encoding.{Held, end_from, IsPair}
use Rattle.format.specs.Kinds.{null_kind, kind_or}
use Rattle.format.specs.Shapes.{Shape, Among}
use Rattle.format.proofs.Equations.{records-nil, end_nil}
use Rattle.header.specs.Box.{box_bits}
use Rattle.boxes.specs.Boxes.{settled}
use Rattle.writer.specs.declared.State.{State}
use Rattle.writer.specs.Adding.{Lent, lent_shape, record_of, entry_of, next_state}
use Rattle.writer.specs.Finishing.{shp_header, shx_header}
use Rattle.writer.proofs.Accepted.{Accepted, accepted}
use Rattle.appending.specs.Files.{NullWithout, FileBehind, kind_with}
use Rattle.appending.specs.OneMore.{Behind, state_kind, records, entries, Beginning, Appending}
use Rattle.appending.proofs.ToFile.{words_are, file-named, appends_to_file}

pub fresh-behind : Beginning
fresh-behind k = record { words = ap pos (sym (end_nil 50)); number = refl; kind = refl; points = refl; held = tt }

-- a state that is behind no shapes of a kind is behind none of any
pub behind_none : (k l : Kind) (s : State) → Behind k [] s → Behind l [] s
behind_none k l s b = record { words = b.words; number = b.number; kind = b.kind; points = b.points; held = b.held }

-- ---- the file that they are of: without a shape it is of Null's kind

file_kind : Kind → List Shape → Kind
file_kind k [] = null_kind
file_kind k (x ∷ ss) = k

theirs : (k : Kind) (ss : List Shape) (s : State) → Behind k ss s → Behind (file_kind k ss) ss s
unfolding file_kind
theirs k [] s b = behind_none k null_kind s b
theirs k (x ∷ ss) s b = b

null_without : (k : Kind) (ss : List Shape) → NullWithout (file_kind k ss) ss
unfolding file_kind
null_without k [] = refl
null_without k (x ∷ ss) = tt

records_same : (k : Kind) (ss : List Shape) → records (file_kind k ss) ss ≡ records k ss
unfolding file_kind
records_same k [] = records-nil _ 1 ∙ sym (records-nil k 1)
records_same k (x ∷ ss) = refl

file_behind : (k : Kind) (ss : List Shape) (s : State) (t : Lent) → Behind k ss s → Accepted s t → FileBehind (file_kind k ss) ss s
file_behind k ss s t b a =
    let held : Held (end_from 50 ss) = omega (arith, words_are k ss s b, a.held) in
    record { behind = theirs k ss s b; without = null_without k ss; end_held = held }

-- ---- one more

pub appends : Appending
appends k ss s t out start entry n b e =
    let a = accepted s t out start entry n e in
    let f = file_behind k ss s t b a in
    let one = appends_to_file (file_kind k ss) ss s t out start entry n f e in
    let next = next_state s t in
    let file = kind_with (file_kind k ss) ss t in
    let more = ss ++ lent_shape t ∷ [] in
    let named : file ≡ state_kind next = sym (ap kind_or (file-named (file_kind k ss) ss s t f.behind a)) in
    record {
      among = subst (λ (i : Kind). Among i (lent_shape t)) named one.among;
      behind = subst (λ (i : Kind). Behind i more next) named one.behind.behind;
      fine = one.fine;
      appended =
          subst (λ (i : Kind). records i more ≡ records k ss ++ record_of s t) named
          (one.appended ∙ ap (λ (l : List ℕ). l ++ record_of s t) (records_same k ss));
      indexed = one.indexed;
      pair =
          subst (λ (i : Kind). IsPair i (box_bits (settled next.bbox)) more (shp_header next ++ (records k ss ++ record_of s t)) (shx_header next ++ (entries ss ++ entry_of s t))) named
          (subst (λ (l : List ℕ). IsPair file (box_bits (settled next.bbox)) more (shp_header next ++ (l ++ record_of s t)) (shx_header next ++ (entries ss ++ entry_of s t))) (records_same k ss) one.pair);
    }
