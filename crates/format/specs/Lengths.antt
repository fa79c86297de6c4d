-- How long a shape's content is, in words and with the kind's own field, over the kind's flags: document 01's table of kinds.
use Rattle.std.specs.Prelude.{Bool, true, false, cond, ◌||◌, [], ◌∷◌, ℕ, ◌+◌, ◌*◌, ◌^◌, eqb, ltb, ℤ, pos, Result, Ok, Err}
use Rattle.std.specs.Prelude as Std
use Rattle.std.proofs.Math.Option.{Option, none, some, map}
use Rattle.format.specs.declared.kinds.Kind.{Kind}
use Rattle.format.specs.declared.lengths.Formula.{Formula}
use Rattle.format.specs.declared.lengths.Lengths.{Lengths}
use Rattle.format.specs.declared.lengths.KindError.{KindError}
use Rattle.format.specs.declared.lengths.KindError.TheVariants.{Unknown, NotTaken}
use Rattle.format.specs.declared.units.Words.{Words}
use Rattle.format.specs.Kinds.{kind_at}
use Rattle.format.specs.Order.{first}
use Rattle.format.specs.Said.{Said, gives, unknown, not_taken, long}

-- what a content holds beside the kind's field: nothing, one point, any number of points, or parts of points
pub data Form : Type 0 where
  nothing : Form
  one_point : Form
  many_points : Form
  parts : Form

-- 8, 18 and 28 are multipoints
unfoldable pub is_multipoint : Kind → Bool
is_multipoint k = eqb k.code 8 || eqb k.code 18 || eqb k.code 28

-- a kind with several points has parts, or is a multipoint
abbrev pub has_several : Kind → Bool
has_several k = k.parts || is_multipoint k

-- 31 is not taken
unfoldable pub form_of : Kind → Option Form
form_of k =
    cond (eqb k.code 31) none
    (cond (eqb k.code 0) (some nothing)
    (cond (is_multipoint k) (some many_points)
    (cond k.parts (some parts) (some one_point))))

-- the form of the kind with this code
abbrev pub form_in : Option Kind → Option Form
form_in none = none
form_in (some k) = form_of k

abbrev pub form_at : ℤ → Option Form
form_at z = form_in (kind_at z)

-- so many words where the flag is set
abbrev pub given : Bool → ℕ → ℕ
given flag words = cond flag words 0

-- The words that do not depend on the counts. The kind's field takes 2 and a double 4; a multipoint has a box of four doubles and the number of
-- its points, parts have a box and two counts, and both have with z, and with m, a range of two doubles.
unfoldable pub fixed_words : Form → Bool → Bool → ℕ
fixed_words nothing z m = 2
fixed_words one_point z m = 10 + given z 4 + given m 4
fixed_words many_points z m = 20 + given z 8 + given m 8
fixed_words parts z m = 22 + given z 8 + given m 8

-- and those that each of their points takes: x, y, z and m
unfoldable pub point_words : Form → Bool → Bool → ℕ
point_words nothing z m = 0
point_words one_point z m = 0
point_words many_points z m = 8 + given z 4 + given m 4
point_words parts z m = 8 + given z 4 + given m 4

-- several points, which have a box and their number in front of them
abbrev pub several : Form → Bool
several nothing = false
several one_point = false
several many_points = true
several parts = true

-- their form: in parts, where the flag is set
abbrev pub several_form : Bool → Form
several_form true = parts
several_form false = many_points

-- The words in front of the points, with p parts: the kind's field; of several points also the box and their number; and of parts the number of
-- parts and a start for each.
unfoldable pub front_words : Form → ℕ → ℕ
front_words nothing p = 2
front_words one_point p = 2
front_words many_points p = 20
front_words parts p = 22 + 2 * p

-- the content's length with p parts, of which each has a start, and n points
unfoldable pub content_words : Form → Bool → Bool → ℕ → ℕ → ℕ
content_words form z m p n = fixed_words form z m + 2 * p + point_words form z m * n

-- several points may lack the m that their kind has
abbrev pub may_lack_m : Form → Bool
may_lack_m form = several form

abbrev pub formula : Form → Bool → Bool → Formula
formula form z m = record { fixed = fixed_words form z m; point = point_words form z m }

-- The two formulas of a kind: where m lacks, and where it is there. They are one where the kind has no m, and where it may not lack.
abbrev pub lengths_for : Kind → Form → Lengths
lengths_for k form =
    record {
      without = formula form k.z (cond (may_lack_m form) false k.m);
      with = formula form k.z k.m;
    }

unfoldable pub lengths_of : Kind → Option Lengths
lengths_of k = map (lengths_for k) (form_of k)

-- what `lengths_of` answers, in document 01's terms
abbrev pub said_content : Result Lengths KindError → Said Lengths
said_content (Ok l) = gives l
said_content (Err (NotTaken code)) = not_taken code
said_content (Err (Unknown code)) = unknown code

-- the formulas of the kind with this code; a code that is not in the table is 4, and a kind that is not taken is 9
abbrev pub or_not_taken : ℤ → Option Lengths → Said Lengths
or_not_taken code none = not_taken code
or_not_taken code (some l) = gives l

abbrev pub lengths_in : ℤ → Option Kind → Said Lengths
lengths_in code none = unknown code
lengths_in code (some k) = or_not_taken code (lengths_of k)

unfoldable pub content_of : ℤ → Said Lengths
content_of code = lengths_in code (kind_at code)

-- what `content_words` answers
abbrev pub said_counted : Std.Option Words → Said Words
said_counted (Std.Some w) = gives w
said_counted Std.None = long

-- a formula's words for p parts and n points
abbrev pub formula_words : Formula → ℕ → ℕ → ℕ
formula_words f p n = f.fixed + 2 * p + f.point * n

-- words that an i32 does not hold are 7
unfoldable pub counted : Formula → ℕ → ℕ → Said Words
counted f p n = first ((ltb (formula_words f p n) (2 ^ 31), long) ∷ []) (gives (record { 0 = pos (formula_words f p n) }))
