-- What is said fixes the answer, each thing that a definition says is an answer's, and two results that meet a contract of this crate are one: answer, state, both buffers and both headers.
use mathlib.Core.Path.{◌≡◌, refl, sym, ap, ◌∙◌}
use mathlib.Core.Bool.{Bool, true, false, cond}
use mathlib.Core.List.{List}
use Prim.Native.Nat.{ℕ}
use lib.Dec.{eqb}
use lib.IntN.{nat_abs}
use lib.Seq.{sets}
use Rattle.format.specs.Said.{Said, gives, refuses, unless_refused}
use Rattle.format.proofs.OrderLaws.{◌then◌, first_holds}
use Rattle.format.proofs.SaidLaws.{value, second, told_one}
use Rattle.writer.specs.declared.State.{State}
use Rattle.std.specs.Prelude.{Result, Ok, Err}
use Rattle.writer.specs.declared.AddError.{AddError}
use Rattle.writer.specs.declared.AddError.TheVariants.{Size, Unknown, NotTaken, Mismatch, Tables, Long, Room}
use Rattle.writer.specs.declared.Adding.{Adding}
use Rattle.writer.specs.declared.Headers.{Headers}
use Rattle.writer.specs.declared.NoState.{NoState}
use Rattle.writer.specs.Adding.{Lent, record_of, entry_of, record_size, buffer_needed, add_tests, next_state, adding_of, said_add, Adds}
use Rattle.writer.specs.Finishing.{headers_of, said_finish, Finishes}
use Rattle.writer.specs.State.{state_fine}

-- ---- the answers

tell_add : Said ℕ → Result ℕ AddError
tell_add (gives n) = Ok n
tell_add (refuses n vs) =
    Err (cond (eqb n 3) Size
    (cond (eqb n 4) (Unknown (value vs))
    (cond (eqb n 5) (Mismatch (value vs) (second vs))
    (cond (eqb n 6) (Room (nat_abs (value vs)))
    (cond (eqb n 7) Long
    (cond (eqb n 9) (NotTaken (value vs)) Tables))))))

pub said_add_one : (a b : Result ℕ AddError) → said_add a ≡ said_add b → a ≡ b
unfolding tell_add
said_add_one = told_one said_add tell_add back
  where
    back : (a : Result ℕ AddError) → tell_add (said_add a) ≡ a
    back (Ok n) = refl
    back (Err Size) = refl
    back (Err (Unknown code)) = refl
    back (Err (NotTaken code)) = refl
    back (Err (Mismatch held found)) = refl
    back (Err Tables) = refl
    back (Err Long) = refl
    back (Err (Room n)) = refl

tell_finish : Said Headers → Result Headers NoState
tell_finish (gives h) = Ok h
tell_finish (refuses n vs) = Err (record {})

pub said_finish_one : (a b : Result Headers NoState) → said_finish a ≡ said_finish b → a ≡ b
unfolding tell_finish
said_finish_one = told_one said_finish tell_finish back
  where
    back : (a : Result Headers NoState) → tell_finish (said_finish a) ≡ a
    back (Ok h) = refl
    back (Err e) = refl

-- ---- what a definition says, an answer says

pub add_answer : (s : State) (t : Lent) (out start entry : ℕ) → (a : Result ℕ AddError) × (said_add a ≡ adding_of s t out start entry)
unfolding adding_of
add_answer s t out start entry =
    first_holds (λ (said : Said ℕ). (a : Result ℕ AddError) × (said_add a ≡ said)) (add_tests s t out start entry) (gives (record_size t))
    ((Err Size, refl)
    then (Err (Unknown t.code), refl)
    then (Err (NotTaken t.code), refl)
    then (Err (Mismatch s.kind t.code), refl)
    then (Err Tables, refl)
    then (Err Long, refl)
    then (Err (Room (buffer_needed start t)), refl)
    then (Err (Room 8), refl)
    then tt)
    (Ok (record_size t), refl)

pub finish-answer : (s : State) → (r : Result Headers NoState) × Finishes s r
finish-answer s = by (state_fine s) refl
  where
    by : (b : Bool) → state_fine s ≡ b → (r : Result Headers NoState) × Finishes s r
    by true e = (Ok (headers_of s), record { says = rw e })
    by false e = (Err (record {}), record { says = rw e })

-- ---- the results

module _ (s : State) (t : Lent) (out : List ℕ) (start : ℕ) (entry : List ℕ) where
  pub one_adding : (r r' : Adding) (o o' e e' : List ℕ) → Adds s t out start entry r o e → Adds s t out start entry r' o' e' → (r ≡ r') × (o ≡ o') × (e ≡ e')
  one_adding r r' o o' e e' a b =
      let same : r.answer ≡ r'.answer = said_add_one r.answer r'.answer (a.says ∙ sym b.says) in
      let state : r.state ≡ r'.state = a.state_is ∙ (ap (λ (x : Result ℕ AddError). unless_refused (said_add x) s (next_state s t)) same ∙ sym b.state_is) in (
        λ i. record { answer = same i; state = state i },
        a.out_is ∙ (ap (λ (x : Result ℕ AddError). unless_refused (said_add x) out (sets out start (record_of s t))) same ∙ sym b.out_is),
        a.entry_is ∙ (ap (λ (x : Result ℕ AddError). unless_refused (said_add x) entry (sets entry 0 (entry_of s t))) same ∙ sym b.entry_is),
      )

pub one_finishing : (s : State) (r r' : Result Headers NoState) → Finishes s r → Finishes s r' → r ≡ r'
one_finishing s r r' a b = said_finish_one r r' (a.says ∙ sym b.says)
