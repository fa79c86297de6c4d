-- Laws of points: where their doubles stand, and what the definition says by the size and by the bytes that are there.
use mathlib.Core.Path.{◌≡◌, sym, ap, ap₂, ◌∙◌}
use mathlib.Core.Bool.{true, false}
use mathlib.Core.List.{List}
use mathlib.Core.Option.{some}
use Prim.Native.Nat.{ℕ, ◌+◌, ◌*◌, ◌≤◌, ◌<◌}
use lib.Dec.{lit<}
use lib.IntN.{ℤ}
use lib.ListN.{length}
use Rattle.format.specs.declared.kinds.Kind.{Kind}
use Rattle.format.specs.declared.lengths.Lengths.{Lengths}
use Rattle.format.specs.declared.units.Bytes.{Bytes}
use Rattle.format.specs.Lengths.{one_point, content_words, form_of, lengths_of, formula_words}
use Rattle.format.specs.Order.{first, fields_from}
use Rattle.format.specs.Said.{Said, gives, short, wrong_size}
use Rattle.format.proofs.Equations.{words_are}
use Rattle.format.proofs.OrderLaws.{fields_whole, cut_place, cut_count, fields_cut}
use Rattle.record.specs.declared.Point.{Point}
use Rattle.record.specs.Reading.{Shaped, point_shape, code_in, is_words, point_in, doubles_of, point_of}
use Rattle.record.proofs.SizeLaws.{lengths_by}

module _ (k : Kind) (size : Bytes) (s : List ℕ) (q : is_words size (content_words one_point k.z k.m 0 1) ≡ true) where
  abbrev shaped : Said Shaped
  shaped = gives (point_shape (code_in s) (point_in k s))

  fields_left : point_of k size s ≡ first (fields_from 8 (doubles_of k) 4 s short) shaped
  unfolding point_of
  fields_left = rw q

  pub point-said : 4 + 8 * doubles_of k ≤ length s → point_of k size s ≡ shaped
  point-said h = fields_left ∙ fields_whole 8 (lit< tt) (doubles_of k) 4 s short shaped h

-- with the lengths of its kind
module _ (k : Kind) (l : Lengths) (size : Bytes) (s : List ℕ) (g : lengths_of k ≡ some l) (f : form_of k ≡ some one_point) where
  size_is : is_words size (formula_words l.with 0 1) ≡ is_words size (content_words one_point k.z k.m 0 1)
  size_is =
      ap (λ (x : Lengths). is_words size (formula_words x.with 0 1)) (lengths_by k l one_point g f) ∙ ap (is_words size) (sym (words_are one_point k.z k.m 0 1))

  pub other_size : false ≡ is_words size (formula_words l.with 0 1) → wrong_size 0 ≡ point_of k size s
  unfolding point_of
  other_size q = rw (sym (q ∙ size_is))

  module _ (q : true ≡ is_words size (formula_words l.with 0 1)) where
    fits : is_words size (content_words one_point k.z k.m 0 1) ≡ true
    fits = sym (q ∙ size_is)

    pub point_cut : 4 ≤ length s → length s < 4 + 8 * doubles_of k → short (cut_place 8 4 (length s)) (cut_count 8 4 (length s)) ≡ point_of k size s
    point_cut h c = sym (fields_left k size s fits ∙ fields_cut 8 (lit< tt) (doubles_of k) 4 s short (shaped k size s fits) h c)

    pub point-whole : 4 + 8 * doubles_of k ≤ length s → (code : ℤ) (p : Point) → code ≡ code_in s → p ≡ point_in k s → gives (point_shape code p) ≡ point_of k size s
    point-whole h code p e i = ap₂ (λ (z : ℤ) (x : Point). gives (point_shape z x)) e i ∙ sym (point-said k size s fits h)
