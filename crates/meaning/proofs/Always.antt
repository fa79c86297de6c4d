-- The file of well-formed shapes of a taken kind gets a yes with its counts; and its kind, box and shapes are read back from its bytes.
use mathlib.Core.Path.{◌≡◌, sym, ap, ap₂, ◌∙◌, subst}
use mathlib.Core.List.{List, [], ◌++◌, append-nil}
use Prim.Native.Nat.{ℕ, ◌+◌, ◌*◌}
use native.Mathlib.Nat.{zero-add}
use native.Mathlib.Omega.{arith}
use lib.IntN.{pos}
use lib.ListN.{length, drop, length-append}
use lib.Seq.{drop_at}
use Rattle.format.specs.declared.kinds.Kind.{Kind}
use Rattle.format.specs.Encoding.{Box, box_doubles, header_bytes, records_from, end_from}
use Rattle.format.specs.Kinds.{kind_at}
use Rattle.format.specs.Said.{gives}
use Rattle.format.specs.Shapes.{Shape}
use Rattle.format.proofs.Equations.{shp_is, shx_is}
use Rattle.format.proofs.KindLaws.{code-held}
use Rattle.format.proofs.Records.{entries_bytes, length-entries}
use Rattle.format.proofs.Runs.{numbers}
use Rattle.format.proofs.Places.{Stands, in_front}
use Rattle.format.proofs.HeaderLaws.{length-header, top_read, tail_read, magic_read, unused-read, words-read, version-read, code_read, box_read}
use Rattle.rules.specs.Meaning.{FileOf, Encoded}
use Rattle.rules.specs.Rules.{Taken, Counts, big_at, little_at, walk_from, none_yet, verdict}
use Rattle.rules.proofs.FiniteLaws.{finites_true}
use Rattle.rules.proofs.HeaderRules.{Headers, headers-fine, name_taken}
use Rattle.rules.proofs.VerdictLaws.{finish-gives, verdict-walk}
use Rattle.rules.proofs.WalkLaws.{walk_end}
use Rattle.meaning.proofs.EachRecord.{length-records}
use Rattle.meaning.proofs.Skip.{plus, skips}
use Rattle.meaning.proofs.Table.{Known}

module _ (k : Kind) (box : Box) (ss : List Shape) (shp shx : List ℕ) (f : FileOf k box ss shp shx) where
  abbrev pub taken : Taken
  taken = record { kind = k; form = f.kind.form }

  pub kind-known : Known taken
  kind-known = record { row = f.kind.in_table; form = f.kind.taken }

  abbrev shp_front : List ℕ
  shp_front = header_bytes (end_from 50 ss) 1000 k.code box

  abbrev shx_front : List ℕ
  shx_front = header_bytes (50 + 4 * length ss) 1000 k.code box

  shp_laid : shp_front ++ records_from k 1 ss ≡ shp
  shp_laid = sym (shp_is k box ss) ∙ f.is.shp_is

  shx_laid : shx_front ++ entries_bytes 50 ss ≡ shx
  shx_laid = sym (shx_is k box ss) ∙ f.is.shx_is

  shp-header : Stands 0 shp_front shp
  shp-header = subst (Stands 0 shp_front) shp_laid (in_front shp_front (records_from k 1 ss))

  shx-header : Stands 0 shx_front shx
  shx-header = subst (Stands 0 shx_front) shx_laid (in_front shx_front (entries_bytes 50 ss))

  -- what stands behind the headers
  pub records-behind : drop 100 shp ≡ records_from k 1 ss
  records-behind = ap (drop 100) (sym shp_laid) ∙ drop_at shp_front (records_from k 1 ss) 100 (length-header _ _ _)

  pub entries-behind : drop 100 shx ≡ entries_bytes 50 ss
  entries-behind = ap (drop 100) (sym shx_laid) ∙ drop_at shx_front (entries_bytes 50 ss) 100 (length-header _ _ _)

  length_shp : length shp ≡ 2 * end_from 50 ss
  length_shp =
      omega (arith, ap length shp_laid, length-append shp_front (records_from k 1 ss), length-header (end_from 50 ss) k.code box, length-records k 1 50 ss f.fine)

  length_shx : length shx ≡ 100 + 8 * length ss
  length_shx =
      omega (arith, ap length shx_laid, length-append shx_front (entries_bytes 50 ss), length-header (50 + 4 * length ss) k.code box, length-entries 50 ss)

  -- what the headers say
  pub code_same : little_at 32 shp ≡ k.code
  code_same = code_read (end_from 50 ss) k.code box shp shp-header (omega (arith, code-held (pos k.code) k f.kind.in_table))

  pub box_same : numbers 8 8 36 shp ≡ box_doubles box
  box_same = box_read (end_from 50 ss) k.code box shp shp-header f.box_finite

  shp_words : big_at 24 shp ≡ end_from 50 ss
  shp_words = words-read (end_from 50 ss) k.code box shp shp-header (omega (arith, f.is.shp_held))

  shx_words : big_at 24 shx ≡ 50 + 4 * length ss
  shx_words = words-read (50 + 4 * length ss) k.code box shx shx-header (omega (arith, f.is.shx_held))

  headers_right : Headers shp shx taken
  headers_right =
      record {
        shp_long = omega (arith, length_shp, length-records k 1 50 ss f.fine);
        shx_long = omega (arith, length_shx);
        magic = magic_read (end_from 50 ss) k.code box shp shp-header;
        unused = unused-read (end_from 50 ss) k.code box shp shp-header;
        version = version-read (end_from 50 ss) k.code box shp shp-header;
        kind = record { row = ap (λ (q : ℕ). kind_at (pos q)) code_same ∙ f.kind.in_table; form = f.kind.taken };
        shp_held = rw shp_words f.is.shp_held;
        shp_words = rw (shp_words, length_shp);
        finite = finites_true 8 36 shp (rw box_same f.box_finite);
        same_top = top_read _ _ _ shx shx-header ∙ sym (top_read _ _ _ shp shp-header);
        same_tail = tail_read _ k.code box shx shx-header ∙ sym (tail_read _ k.code box shp shp-header);
        shx_held = rw shx_words f.is.shx_held;
        shx_words = rw (shx_words, length_shx) (omega arith);
        entries = rw length_shx (omega arith);
      }

  -- the walk comes to the end of both
  walked : walk_from taken (drop 100 shp) (drop 100 shx) 100 none_yet ≡ gives (plus none_yet ss)
  walked =
      ap₂ (λ (l x : List ℕ). walk_from taken l x 100 none_yet) (records-behind ∙ sym (append-nil _)) (entries-behind ∙ sym (append-nil _))
      ∙ (skips taken kind-known ss 50 none_yet [] [] f.fine f.is.held
      ∙ (walk_end taken [] (2 * end_from 50 ss) (plus none_yet ss) ∙ finish-gives (plus none_yet ss)))

  yes : verdict shp shx ≡ gives (plus none_yet ss)
  yes = verdict-walk shp shx taken (headers-fine shp shx taken headers_right) (name_taken shp taken headers_right.kind) ∙ walked

pub always : (shp shx : List ℕ) (c : Counts) → Encoded shp shx c → verdict shp shx ≡ gives c
always shp shx c e =
    yes e.kind e.box e.shapes shp shx e.file
    ∙ (λ i. gives (record { records = (zero-add _ ∙ e.records) i; parts = (zero-add _ ∙ e.parts) i; points = (zero-add _ ∙ e.points) i }))
