-- The contract determines the result: an answer is read back from what it says, and the stores go by the answer.
use mathlib.Core.Path.{◌≡◌, refl, sym, ap, ◌∙◌}
use mathlib.Core.Bool.{Bool, cond}
use mathlib.Core.List.{List}
use Prim.Native.Nat.{ℕ}
use lib.Dec.{eqb}
use lib.Ieee.{Float}
use lib.IntN.{ℤ, nat_abs}
use Rattle.std.specs.Prelude.{Option, Result, Ok, Err}
use Rattle.format.specs.declared.units.Bytes.{Bytes}
use Rattle.format.specs.Said.{Said, gives, refuses}
use Rattle.format.proofs.SaidLaws.{value, second, told_one}
use Rattle.record.specs.declared.Record.{Record}
use Rattle.record.specs.declared.Record.TheVariants as Is
use Rattle.record.specs.declared.RecordError.{RecordError}
use Rattle.record.specs.declared.RecordError.TheVariants as Error
use Rattle.record.specs.Reading.{Shaped, null_shape, point_shape, multipoint_shape, parts_shape, said_record, stored, ReadsRecord}

tell_record : Said Shaped → Result Record RecordError
tell_record (gives null_shape) = Ok Is.Null
tell_record (gives (point_shape code p)) = Ok (Is.Point code p)
tell_record (gives (multipoint_shape code m body)) = Ok (Is.Multipoint code m body)
tell_record (gives (parts_shape code m body)) = Ok (Is.Parts code m body)
tell_record (refuses n vs) =
    Err
    (cond (eqb n 1) (Error.Short (record { at = nat_abs (value vs); present = nat_abs (second vs) }))
    (cond (eqb n 3) (Error.Size (nat_abs (value vs)))
    (cond (eqb n 4) (Error.Unknown (value vs))
    (cond (eqb n 5) (Error.Mismatch (value vs) (second vs))
    (cond (eqb n 6) (Error.Room (nat_abs (value vs)) (nat_abs (second vs))) (Error.NotTaken (value vs)))))))

pub one_record : (a b : Result Record RecordError) → said_record a ≡ said_record b → a ≡ b
unfolding tell_record
one_record = told_one said_record tell_record back
  where
    back : (a : Result Record RecordError) → tell_record (said_record a) ≡ a
    back (Ok Is.Null) = refl
    back (Ok (Is.Point code p)) = refl
    back (Ok (Is.Multipoint code m body)) = refl
    back (Ok (Is.Parts code m body)) = refl
    back (Err (Error.Short e)) = refl
    back (Err (Error.Size at)) = refl
    back (Err (Error.Unknown code)) = refl
    back (Err (Error.Mismatch wanted found)) = refl
    back (Err (Error.Room p n)) = refl
    back (Err (Error.NotTaken code)) = refl

one_store : {A : Type 0} (a b : Result Record RecordError) (before x y : List A) (values : Bool → List A) → a ≡ b → x ≡ stored (said_record a) before values → y ≡ stored (said_record b) before values → x ≡ y
one_store a b before x y values e p q = p ∙ (ap (λ (r : Result Record RecordError). stored (said_record r) before values) e ∙ sym q)

module _ (wanted : Option ℤ) (size : Bytes) (s counts : List ℕ) (xs ys zs ms : List Float) (a b : Result Record RecordError) (counts₁ counts₂ : List ℕ) (xs₁ xs₂ ys₁ ys₂ zs₁ zs₂ ms₁ ms₂ : List Float) where
  pub one_result : ReadsRecord wanted size s counts xs ys zs ms a counts₁ xs₁ ys₁ zs₁ ms₁ → ReadsRecord wanted size s counts xs ys zs ms b counts₂ xs₂ ys₂ zs₂ ms₂ → (a ≡ b) × (counts₁ ≡ counts₂) × (xs₁ ≡ xs₂) × (ys₁ ≡ ys₂) × (zs₁ ≡ zs₂) × (ms₁ ≡ ms₂)
  one_result p q =
      let e : a ≡ b = one_record a b (p.says ∙ sym q.says) in (
        e,
        one_store a b counts _ _ _ e p.counts_are q.counts_are,
        one_store a b xs _ _ _ e p.x_are q.x_are,
        one_store a b ys _ _ _ e p.y_are q.y_are,
        one_store a b zs _ _ _ e p.z_are q.z_are,
        one_store a b ms _ _ _ e p.m_are q.m_are,
      )
