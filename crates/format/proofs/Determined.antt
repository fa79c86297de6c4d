-- What is said fixes the answer, for each answer of this crate.
use mathlib.Core.Path.{◌≡◌, refl}
use mathlib.Core.Bool.{cond}
use lib.Dec.{eqb}
use Rattle.std.specs.Prelude.{Option, Some, None, Result, Ok, Err}
use Rattle.format.specs.declared.kinds.Kind.{Kind}
use Rattle.format.specs.declared.kinds.UnknownKind.{UnknownKind}
use Rattle.format.specs.declared.lengths.KindError.{KindError}
use Rattle.format.specs.declared.lengths.KindError.TheVariants.{Unknown, NotTaken}
use Rattle.format.specs.declared.lengths.Lengths.{Lengths}
use Rattle.format.specs.declared.units.NotWords.{NotWords}
use Rattle.format.specs.declared.units.Words.{Words}
use Rattle.format.specs.Kinds.{said_found}
use Rattle.format.specs.Lengths.{said_content, said_counted}
use Rattle.format.specs.Said.{Said, gives, refuses}
use Rattle.format.specs.Units.{said_words}
use Rattle.format.proofs.SaidLaws.{value, told_one}

tell_found : Said Kind → Result Kind UnknownKind
tell_found (gives k) = Ok k
tell_found (refuses n vs) = Err (record { 0 = value vs })

pub said_found_one : (a b : Result Kind UnknownKind) → said_found a ≡ said_found b → a ≡ b
unfolding tell_found
said_found_one = told_one said_found tell_found back
  where
    back : (a : Result Kind UnknownKind) → tell_found (said_found a) ≡ a
    back (Ok k) = refl
    back (Err e) = refl

tell_content : Said Lengths → Result Lengths KindError
tell_content (gives l) = Ok l
tell_content (refuses n vs) = Err (cond (eqb n 9) (NotTaken (value vs)) (Unknown (value vs)))

pub said_content_one : (a b : Result Lengths KindError) → said_content a ≡ said_content b → a ≡ b
unfolding tell_content
said_content_one = told_one said_content tell_content back
  where
    back : (a : Result Lengths KindError) → tell_content (said_content a) ≡ a
    back (Ok l) = refl
    back (Err (NotTaken code)) = refl
    back (Err (Unknown code)) = refl

tell_counted : Said Words → Option Words
tell_counted (gives w) = Some w
tell_counted (refuses n vs) = None

pub said_counted_one : (a b : Option Words) → said_counted a ≡ said_counted b → a ≡ b
unfolding tell_counted
said_counted_one = told_one said_counted tell_counted back
  where
    back : (a : Option Words) → tell_counted (said_counted a) ≡ a
    back (Some w) = refl
    back None = refl

tell_words : Said Words → Result Words NotWords
tell_words (gives w) = Ok w
tell_words (refuses n vs) = Err (record {})

pub said_words_one : (a b : Result Words NotWords) → said_words a ≡ said_words b → a ≡ b
unfolding tell_words
said_words_one = told_one said_words tell_words back
  where
    back : (a : Result Words NotWords) → tell_words (said_words a) ≡ a
    back (Ok w) = refl
    back (Err e) = refl
