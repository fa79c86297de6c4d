-- The contracts determine the answers: two answers that say the same are the same, since each answer is read back from what it says.
use mathlib.Core.Path.{◌≡◌, refl, sym, ap, ◌∙◌}
use mathlib.Core.Bool.{Bool, cond}
use mathlib.Core.List.{List}
use Prim.Native.Nat.{ℕ}
use lib.Dec.{eqb}
use lib.Ieee.{Float}
use lib.IntN.{ℤ, nat_abs}
use Rattle.std.specs.Prelude.{Option, Some, None, Result, Ok, Err}
use Rattle.format.specs.declared.shapes.Short.{Short}
use Rattle.format.specs.Said.{Said, gives, refuses, unless_refused}
use Rattle.format.proofs.SaidLaws.{value, second, told_one}
use Rattle.multipart.specs.declared.Body.{Body}
use Rattle.multipart.specs.declared.Counts.{Counts}
use Rattle.multipart.specs.declared.CountsError.{CountsError}
use Rattle.multipart.specs.declared.CountsError.TheVariants as CountsErrorIs
use Rattle.multipart.specs.declared.BodyError.{BodyError}
use Rattle.multipart.specs.declared.BodyError.TheVariants as BodyErrorIs
use Rattle.multipart.specs.Answers.{said_part, said_counts, said_body, ReadsBody}

-- ---- a part's count

tell_part : Said ℕ → Option ℕ
tell_part (gives n) = Some n
tell_part (refuses n vs) = None

pub one_part : (a b : Option ℕ) → said_part a ≡ said_part b → a ≡ b
unfolding tell_part
one_part = told_one said_part tell_part back
  where
    back : (a : Option ℕ) → tell_part (said_part a) ≡ a
    back (Some n) = refl
    back None = refl

-- ---- the counts

-- a cut field, from what is said of it
tell_short : List ℤ → Short
tell_short vs = record { at = nat_abs (value vs); present = nat_abs (second vs) }

tell_counts : Said Counts → Result Counts CountsError
tell_counts (gives c) = Ok c
tell_counts (refuses n vs) = Err (cond (eqb n 1) (CountsErrorIs.Short (tell_short vs)) (CountsErrorIs.Size (nat_abs (value vs))))

pub one_counts : (a b : Result Counts CountsError) → said_counts a ≡ said_counts b → a ≡ b
unfolding tell_counts tell_short
one_counts = told_one said_counts tell_counts back
  where
    back : (a : Result Counts CountsError) → tell_counts (said_counts a) ≡ a
    back (Ok c) = refl
    back (Err (CountsErrorIs.Short e)) = refl
    back (Err (CountsErrorIs.Size at)) = refl

-- ---- a body, with the stores

tell_body : Said Body → Result Body BodyError
tell_body (gives b) = Ok b
tell_body (refuses n vs) =
    Err
    (cond (eqb n 1) (BodyErrorIs.Short (tell_short vs))
    (cond (eqb n 3) (BodyErrorIs.Size (nat_abs (value vs))) (BodyErrorIs.Room (nat_abs (value vs)) (nat_abs (second vs)))))

pub one_body : (a b : Result Body BodyError) → said_body a ≡ said_body b → a ≡ b
unfolding tell_body tell_short
one_body = told_one said_body tell_body back
  where
    back : (a : Result Body BodyError) → tell_body (said_body a) ≡ a
    back (Ok b) = refl
    back (Err (BodyErrorIs.Short e)) = refl
    back (Err (BodyErrorIs.Size at)) = refl
    back (Err (BodyErrorIs.Room parts points)) = refl

-- what a store is after the call goes by what is said
one_store : {A : Type 0} (r q : Said Body) (before after x y : List A) → r ≡ q → x ≡ unless_refused r before after → y ≡ unless_refused q before after → x ≡ y
one_store r q before after x y e p o = p ∙ (ap (λ t. unless_refused t before after) e ∙ sym o)

module _ (parts z m : Bool) (s counts : List ℕ) (xs ys zs ms : List Float) (a b : Result Body BodyError) (counts₁ counts₂ : List ℕ) (xs₁ xs₂ ys₁ ys₂ zs₁ zs₂ ms₁ ms₂ : List Float) where
  pub one_result : ReadsBody parts z m s counts xs ys zs ms a counts₁ xs₁ ys₁ zs₁ ms₁ → ReadsBody parts z m s counts xs ys zs ms b counts₂ xs₂ ys₂ zs₂ ms₂ → (a ≡ b) × (counts₁ ≡ counts₂) × (xs₁ ≡ xs₂) × (ys₁ ≡ ys₂) × (zs₁ ≡ zs₂) × (ms₁ ≡ ms₂)
  one_result p q =
      let e : said_body a ≡ said_body b = p.says ∙ sym q.says in (
        one_body a b e,
        one_store _ _ _ _ _ _ e p.counts_are q.counts_are,
        one_store _ _ _ _ _ _ e p.x_are q.x_are,
        one_store _ _ _ _ _ _ e p.y_are q.y_are,
        one_store _ _ _ _ _ _ e p.z_are q.z_are,
        one_store _ _ _ _ _ _ e p.m_are q.m_are,
      )
