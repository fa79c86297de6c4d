-- What is said fixes the answer, for each answer of this crate.
use mathlib.Core.Path.{◌≡◌, refl}
use mathlib.Core.Bool.{cond}
use mathlib.Core.List.{List}
use Prim.Native.Nat.{ℕ}
use lib.Dec.{eqb}
use lib.IntN.{nat_abs}
use Rattle.std.specs.Prelude.{Result, Ok, Err}
use Rattle.format.specs.declared.kinds.UnknownKind.{UnknownKind}
use Rattle.format.specs.declared.shapes.Short.{Short}
use Rattle.format.specs.Said.{Said, gives, refuses}
use Rattle.format.proofs.SaidLaws.{value, second, told_one}
use Rattle.header.specs.declared.Header.{Header}
use Rattle.header.specs.declared.HeaderError.{HeaderError}
use Rattle.header.specs.declared.HeaderError.TheVariants as ErrorIs
use Rattle.header.specs.Entries.{said_read}
use Rattle.header.specs.Reading.{said}
use Rattle.header.specs.Writing.{said_wrote}

tell_header : Said Header → Result Header HeaderError
tell_header (gives h) = Ok h
tell_header (refuses n vs) =
    Err
    (cond (eqb n 1) (ErrorIs.Short (record { at = nat_abs (value vs); present = nat_abs (second vs) }))
    (cond (eqb n 2) (ErrorIs.Code (value vs))
    (cond (eqb n 3) (ErrorIs.Size (nat_abs (value vs))) (ErrorIs.Unknown (value vs)))))

pub said_one : (a b : Result Header HeaderError) → said a ≡ said b → a ≡ b
unfolding tell_header
said_one = told_one said tell_header back
  where
    back : (a : Result Header HeaderError) → tell_header (said a) ≡ a
    back (Ok h) = refl
    back (Err (ErrorIs.Short e)) = refl
    back (Err (ErrorIs.Code code)) = refl
    back (Err (ErrorIs.Size at)) = refl
    back (Err (ErrorIs.Unknown code)) = refl

tell_wrote : Said (List ℕ) → Result (List ℕ) UnknownKind
tell_wrote (gives bytes) = Ok bytes
tell_wrote (refuses n vs) = Err (record { 0 = value vs })

pub said_wrote_one : (a b : Result (List ℕ) UnknownKind) → said_wrote a ≡ said_wrote b → a ≡ b
unfolding tell_wrote
said_wrote_one = told_one said_wrote tell_wrote back
  where
    back : (a : Result (List ℕ) UnknownKind) → tell_wrote (said_wrote a) ≡ a
    back (Ok bytes) = refl
    back (Err e) = refl

-- of a record's header and of an index entry
module _ {A : Type 0} where
  tell_read : Said A → Result A Short
  tell_read (gives a) = Ok a
  tell_read (refuses n vs) = Err (record { at = nat_abs (value vs); present = nat_abs (second vs) })

  pub said_read_one : (a b : Result A Short) → said_read a ≡ said_read b → a ≡ b
  unfolding tell_read
  said_read_one = told_one said_read tell_read back
    where
      back : (a : Result A Short) → tell_read (said_read a) ≡ a
      back (Ok a) = refl
      back (Err e) = refl
