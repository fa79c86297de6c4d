-- Document 01's starred examples: what the definitions give beside what the document says, a row each, and one statement over all of them.
use Rattle.std.specs.Prelude.{◌≡◌, Bool, true, false, cond, ℕ, zero, suc, ◌+◌, Float, ℤ, pos, length, take, replicate}
use mathlib.Core.List.{List, [], ◌∷◌, ◌++◌, map, flatten}
use Rattle.std.proofs.Math.Option.{none}
use Rattle.std.specs.Float.{binary64}
use Rattle.std.specs.Float.Ieee.{of_int, to_bits}
use Rattle.format.specs.Encoding.{Box, Entry, header_bytes, entries_from}
use Rattle.format.specs.declared.lengths.Lengths.{Lengths}
use Rattle.format.specs.Lengths.{content_of, formula_words}
use Rattle.format.specs.Numbers.{little, double}
use Rattle.format.specs.Said.{Said, gives, refuses}
use Rattle.format.specs.Shapes.{Shape, parted}
use Rattle.header.specs.declared.Header.{Header}
use Rattle.header.specs.Reading.{header_of}
use Rattle.multipart.specs.declared.Body.{Body}
use Rattle.multipart.specs.Body.{counts_in, x_in, y_in, body_of}
use Rattle.rings.specs.Answers.{closed_of, turning_of}
use Rattle.rings.specs.Points.{Turning, outer, inner}

-- numbers that a definition gives, and those of the document
pub record Row : Type 0 where
  pub given : List ℤ
  pub document : List ℤ

-- a refusal is its number and its values; an answer that is given is 0 and what is shown of it
abbrev pub shown : {A : Type 0} → (A → List ℤ) → Said A → List ℤ
shown show (gives a) = pos 0 ∷ show a
shown show (refuses n values) = pos n ∷ values

-- ---- headers

abbrev zero_box : Box
zero_box = record { xmin = 0; ymin = 0; xmax = 0; ymax = 0; zmin = 0; zmax = 0; mmin = 0; mmax = 0 }

-- a header whose length field has these bits
abbrev header : ℕ → List ℕ
header words = header_bytes words 1000 3 zero_box

abbrev read : List ℕ → List ℤ
read s = shown (λ (h : Header). h.file_length.0 ∷ []) (header_of s)

-- ---- lengths

-- p parts and n points by the two formulas of the kind that the table has at this code, without m and with it
abbrev lengths_at : ℤ → ℕ → ℕ → List ℤ
lengths_at code p n =
    shown (λ (l : Lengths). pos (formula_words l.without p n) ∷ pos (formula_words l.with p n) ∷ []) (content_of code)

-- a Polyline of one part and two points
abbrev line : Shape
line =
    parted
    (record {
      box = record { xmin = 0; ymin = 0; xmax = 0; ymax = 0 };
      parts = (record { x = 0; y = 0 } ∷ record { x = 0; y = 0 } ∷ []) ∷ [];
      z = none;
      m = none;
    })

abbrev entry : Entry → List ℤ
entry e = pos e.offset ∷ pos e.words ∷ []

abbrev entries : List Entry → List ℤ
entries [] = []
entries (e ∷ es) = entry e ++ entries es

-- ---- bodies

-- so many pairs, whose doubles have the bits 1, 2, 3 and so on, here from a number on
abbrev pairs : ℕ → ℕ → List ℕ
pairs zero from = []
pairs (suc k) from = double from ++ (double (from + 1) ++ pairs k (from + 2))

-- a body with these starts and this n, by their bits, and so many pairs
abbrev body : List ℕ → ℕ → ℕ → List ℕ
body starts n k = replicate 32 0 ++ (little (length starts) ++ (little n ++ (flatten (map little starts) ++ pairs k 1)))

abbrev bits_of : Float → ℤ
bits_of x = pos (to_bits binary64 x)

-- read without z and m into stores with room for 4 parts and 8 points: the counts, or the counts, the bits of each x and those of each y
abbrev read_body : (List ℕ → List ℤ) → List ℕ → List ℤ
read_body show s = shown (λ (b : Body). show s) (body_of true false false s 4 8 8 0 0)

abbrev read_counts : List ℕ → List ℤ
read_counts = read_body (λ (s : List ℕ). map pos (counts_in true s))

abbrev read_pairs : List ℕ → List ℤ
read_pairs = read_body (λ (s : List ℕ). map pos (counts_in true s) ++ (map bits_of (x_in true s) ++ map bits_of (y_in true s)))

-- ---- rings

-- 1 for closed and for inner, 0 for not closed and for outer
abbrev is_closed : Bool → List ℤ
is_closed b = cond b (pos 1) (pos 0) ∷ []

abbrev is_inner : Turning → List ℤ
is_inner outer = pos 0 ∷ []
is_inner inner = pos 1 ∷ []

-- all x and all y of a run, as whole numbers
abbrev numbers : List ℕ → List Float
numbers ns = map (λ (n : ℕ). of_int binary64 (pos n)) ns

abbrev turned : List ℕ → List ℕ → List ℤ
turned xs ys = shown is_inner (turning_of (numbers xs) (numbers ys) (length xs))

-- ---- the table

unfoldable pub rows : List Row
rows =
    -- 27 header bytes, right code: 1 at 24, of whose field 3 bytes are present
    record { given = read (take 27 (header 50)); document = pos 1 ∷ pos 24 ∷ pos 3 ∷ [] }
    -- 4 bytes, code 9995: 2 with 9995
    ∷ record { given = read (0 ∷ 0 ∷ 39 ∷ 11 ∷ []); document = pos 2 ∷ pos 9995 ∷ [] }
    -- file length -1: 3 at 24; length 0 is read
    ∷ record { given = read (header 0xffff_ffff); document = pos 3 ∷ pos 24 ∷ [] }
    ∷ record { given = read (header 0); document = pos 0 ∷ pos 0 ∷ [] }
    -- Polyline p=1, n=2: 40 words, by both formulas, since the kind has no m; its index entry is 50, 40; a second record starts at word 94
    ∷ record { given = lengths_at (pos 3) 1 2; document = pos 0 ∷ pos 40 ∷ pos 40 ∷ [] }
    ∷ record { given = entries (entries_from 50 (line ∷ line ∷ [])); document = pos 50 ∷ pos 40 ∷ pos 94 ∷ pos 40 ∷ [] }
    -- PolygonZ p=1, n=5: 92 or 120 words
    ∷ record { given = lengths_at (pos 15) 1 5; document = pos 0 ∷ pos 92 ∷ pos 120 ∷ [] }
    -- n=5: starts 0, 2 give 2 and 3 points; start 3 gives one part of 2, the first two pairs; start -2 reads 7
    ∷ record { given = read_counts (body (0 ∷ 2 ∷ []) 5 5); document = pos 0 ∷ pos 2 ∷ pos 3 ∷ [] }
    ∷ record { given = read_pairs (body (3 ∷ []) 5 5); document = pos 0 ∷ pos 2 ∷ pos 1 ∷ pos 3 ∷ pos 2 ∷ pos 4 ∷ [] }
    ∷ record { given = read_counts (body (0xffff_fffe ∷ []) 5 7); document = pos 0 ∷ pos 7 ∷ [] }
    -- starts 0, 4, 2 with n=5: 3 at 44, or 1 if part 0 is cut, here in front of its last pair, at 100
    ∷ record { given = read_counts (body (0 ∷ 4 ∷ 2 ∷ []) 5 4); document = pos 3 ∷ pos 44 ∷ [] }
    ∷ record { given = read_counts (body (0 ∷ 4 ∷ 2 ∷ []) 5 3); document = pos 1 ∷ pos 100 ∷ pos 0 ∷ [] }
    -- start -1, n=2,147,483,647: 3 at 40
    ∷ record { given = read_counts (body (0xffff_ffff ∷ []) 2147483647 0); document = pos 3 ∷ pos 40 ∷ [] }
    -- (0,0), (0,1), (1,1), (1,0), (0,0) is outer; reversed, inner; an empty run is not closed, and outer
    ∷ record { given = turned (0 ∷ 0 ∷ 1 ∷ 1 ∷ 0 ∷ []) (0 ∷ 1 ∷ 1 ∷ 0 ∷ 0 ∷ []); document = pos 0 ∷ pos 0 ∷ [] }
    ∷ record { given = turned (0 ∷ 1 ∷ 1 ∷ 0 ∷ 0 ∷ []) (0 ∷ 0 ∷ 1 ∷ 1 ∷ 0 ∷ []); document = pos 0 ∷ pos 1 ∷ [] }
    ∷ record { given = shown is_closed (closed_of [] [] 0) ++ turned [] []; document = pos 0 ∷ pos 0 ∷ pos 0 ∷ pos 0 ∷ [] }
    ∷ []

-- every row of the table is as the document says
abbrev pub Starred : Type 0
Starred = map (λ (r : Row). r.given) rows ≡ map (λ (r : Row). r.document) rows
