-- What an accepted add leaves in the buffers that were lent: the record where the caller named, behind what stood there, and the entry in front.
use mathlib.Core.Path.{◌≡◌, sym, ◌∙◌}
use mathlib.Core.Bool.{Bool, true}
use mathlib.Core.List.{List, ◌++◌}
use Prim.Native.Nat.{ℕ, ◌+◌, ◌≤◌}
use native.Mathlib.Omega.{arith}
use lib.ListN.{length, take}
use lib.Seq.{sets}
use borrow.Author.Tests.{leb-true}
use Rattle.format.specs.Bytes.{field}
use Rattle.format.specs.Order.{first}
use Rattle.format.specs.Said.{Said, gives}
use Rattle.format.proofs.Laid.{length_record}
use Rattle.format.proofs.LayoutLaws.{field-sets, take-sets}
use Rattle.format.proofs.NumberLaws.{length_two}
use Rattle.format.proofs.OrderLaws.{ok_at, passed, given}
use Rattle.writer.specs.declared.State.{State}
use Rattle.writer.specs.Adding.{Lent, lent_kind, lent_shape, record_of, entry_of, record_size, add_tests, adding_of}
use Rattle.writer.proofs.Accepted.{accepted, adding-is, shape-fits}

module _ (s : State) (t : Lent) (out : List ℕ) (start : ℕ) (entry : List ℕ) (n : ℕ) (e : adding_of s t (length out) start (length entry) ≡ gives n) where
  abbrev tests : List (Bool × Said ℕ)
  tests = add_tests s t (length out) start (length entry)

  is-given : first tests (gives (record_size t)) ≡ gives n
  is-given = sym (adding-is s t (length out) start (length entry)) ∙ e

  ok : (k : ℕ) → ok_at k tests ≡ true
  ok = passed (record_size t) n tests tt is-given

  size_is : record_size t ≡ n
  size_is = given (record_size t) n tests tt is-given

  record_length : length (record_of s t) ≡ n
  record_length = length_record (lent_kind t) _ (lent_shape t) (shape-fits s t (accepted s t (length out) start (length entry) n e)).of_kind ∙ size_is

  record_room : start + n ≤ length out
  record_room = let room : start + record_size t ≤ length out = leb-true _ _ (ok 6) in omega (arith, size_is)

  pub record-given : field n start (sets out start (record_of s t)) ≡ record_of s t
  record-given = field-sets n (record_of s t) out start record_length record_room

  pub record_behind : take (start + n) (sets out start (record_of s t)) ≡ take start out ++ record_of s t
  record_behind = take-sets n (record_of s t) out start record_length record_room

  pub entry-given : field 8 0 (sets entry 0 (entry_of s t)) ≡ entry_of s t
  entry-given = let room : 8 ≤ length entry = leb-true _ _ (ok 7) in field-sets 8 (entry_of s t) entry 0 (length_two _ _) (omega arith)
