-- Reading: the answer is the same, and the two stores are the pairs taken apart.
use mathlib.Core.Path.{◌≡◌, refl, sym, ap, ap₂, ◌∙◌}
use mathlib.Core.Bool.{Bool, ◌||◌, not}
use mathlib.Core.List.{List, [], ◌∷◌, ◌++◌}
use mathlib.Core.Option.{Option, none, some}
use Prim.Native.Nat.{ℕ, ◌+◌, ◌*◌}
use lib.Dec.{leb}
use lib.Ieee.{Float}
use lib.IntN.{ℤ}
use lib.ListN.{length, drop}
use lib.Seq.{sets}
use Rattle.std.specs.Prelude as Std
use Rattle.format.specs.declared.kinds.Kind.{Kind}
use Rattle.format.specs.declared.units.Bytes.{Bytes}
use Rattle.format.specs.Lengths.{Form, nothing, one_point, many_points, form_at}
use Rattle.format.specs.Lengths
use Rattle.format.specs.Numbers.{doubles_at}
use Rattle.format.specs.Order.{first}
use Rattle.format.specs.Said.{Said, gives, refuses, room}
use Rattle.format.proofs.NumberLaws.{length-doubles_at}
use Rattle.format.proofs.OrderLaws.{first-append}
use Rattle.multipart.specs.declared.Body.{Body}
use Rattle.multipart.specs.Answers.{said_body}
use Rattle.multipart.specs.Body.{parts_in, points_in, pairs_at, x_in, y_in, body_in, count_tests, rest_tests, has_room, body_of}
use Rattle.multipart.proofs.BodyLaws.{counts-first, x_is, y_is}
use Rattle.record.specs.Reading.{Shaped, null_shape, point_shape, multipoint_shape, parts_shape, code_in, kind_in, front_tests, by_form, record_of, said_record, stored}
use Rattle.record.specs.Reading as Records
use Rattle.record.proofs.ShapeLaws.{several_by, record_is}
use Rattle.apart.specs.Apart.{Reading}
use Rattle.apart.specs.OldReading as Old
use Rattle.apart.specs.Pairs.{all_x, all_y, together}
use Rattle.apart.proofs.Lists.{sets_apart, sets-together, doubles_apart, doubles-together}
use Rattle.apart.proofs.Tests.{among, Halves, apart_halves, together_halves, unless_one, unless_two}

-- ---- what is said, where the two stores are the halves of the one

module _ (xy x y : ℕ) (h : Halves xy x y) where
  room_same : (z m : Bool) (p n counts zs ms : ℕ) → Old.has_room z m p n counts xy zs ms ≡ has_room z m p n counts x y zs ms
  room_same z m p n counts zs ms = among (leb p counts) (leb (2 * n) xy) (leb n x) (leb n y) (not z || leb n zs) (not m || leb n ms) (h n)

  body_same : (parts z m : Bool) (s : List ℕ) (counts zs ms : ℕ) → Old.body_of parts z m s counts xy zs ms ≡ body_of parts z m s counts x y zs ms
  body_same parts z m s counts zs ms =
      let body : Said Body = gives (body_in parts z m s) in
      let last = Old.room_tests parts z m s counts xy zs ms in
      first-append (count_tests parts s) (rest_tests parts z m s ++ last) body
      ∙ (ap (first (count_tests parts s)) (first-append (rest_tests parts z m s) last body)
      ∙ (ap (λ (b : Bool). first (count_tests parts s) (first (rest_tests parts z m s) (first ((b, room (parts_in parts s) (points_in parts s)) ∷ []) body))) (room_same z m (parts_in parts s) (points_in parts s) counts zs ms)
      ∙ sym (counts-first parts z m s counts x y zs ms)))

  several_same : (k : Kind) (size : Bytes) (s : List ℕ) (counts zs ms : ℕ) → Old.several_of k size s counts xy zs ms ≡ Records.several_of k size s counts x y zs ms
  several_same k size s counts zs ms =
      sym (several_by k size s counts x y zs ms (λ m. Old.body_of k.parts k.z m (drop 4 s) counts xy zs ms) (λ m. sym (body_same k.parts k.z m (drop 4 s) counts zs ms)))

  form_same : (o : Option Form) (k : Kind) (size : Bytes) (s : List ℕ) (counts zs ms : ℕ) → Old.by_form o k size s counts xy zs ms ≡ by_form o k size s counts x y zs ms
  form_same none k size s counts zs ms = refl
  form_same (some nothing) k size s counts zs ms = refl
  form_same (some one_point) k size s counts zs ms = refl
  form_same (some many_points) k size s counts zs ms = several_same k size s counts zs ms
  form_same (some Lengths.parts) k size s counts zs ms = several_same k size s counts zs ms

  record_same : (wanted : Std.Option ℤ) (size : Bytes) (s : List ℕ) (counts zs ms : ℕ) → Old.record_of wanted size s counts xy zs ms ≡ record_of wanted size s counts x y zs ms
  record_same wanted size s counts zs ms =
      ap (first (front_tests wanted size s)) (form_same (form_at (code_in s)) (kind_in s) size s counts zs ms) ∙ sym (record_is wanted size s counts x y zs ms)

-- ---- what is stored

module _ (parts : Bool) (s : List ℕ) (xy : List Float) where
  x-stored : all_x (sets xy 0 (Old.xy_in parts s)) ≡ sets (all_x xy) 0 (x_in parts s)
  x-stored = (sets_apart 0 xy (Old.xy_in parts s)).0 ∙ ap (sets (all_x xy) 0) ((doubles_apart (points_in parts s) (pairs_at parts s) s).0 ∙ sym (x_is parts s))

  y-stored : all_y (sets xy 0 (Old.xy_in parts s)) ≡ sets (all_y xy) 0 (y_in parts s)
  y-stored = (sets_apart 0 xy (Old.xy_in parts s)).1 ∙ ap (sets (all_y xy) 0) ((doubles_apart (points_in parts s) (pairs_at parts s) s).1 ∙ sym (y_is parts s))

both_stored : (parts : Bool) (s : List ℕ) (xs ys : List Float) → together (sets xs 0 (x_in parts s)) (sets ys 0 (y_in parts s)) ≡ sets (together xs ys) 0 (Old.xy_in parts s)
both_stored parts s xs ys =
    let n = points_in parts s in
    let at = pairs_at parts s in
    ap₂ (λ (us vs : List Float). together (sets xs 0 us) (sets ys 0 vs)) (x_is parts s) (y_is parts s)
    ∙ (sets-together 0 xs ys (doubles_at 16 n at s) (doubles_at 16 n (at + 8) s) (length-doubles_at 16 n at s ∙ sym (length-doubles_at 16 n (at + 8) s))
    ∙ ap (sets (together xs ys) 0) (doubles-together n at s))

-- a record that has not several points leaves what it finds, taken apart or put together
stored_one : (said : Said Shaped) (f : List Float → List Float) (store : List Float) (values values' : Bool → List Float) → ((m : Bool) → f (sets store 0 (values m)) ≡ sets (f store) 0 (values' m)) → f (stored said store values) ≡ stored said (f store) values'
stored_one (gives null_shape) f store values values' e = refl
stored_one (gives (point_shape code p)) f store values values' e = refl
stored_one (gives (multipoint_shape code m body)) f store values values' e = e m
stored_one (gives (parts_shape code m body)) f store values values' e = e m
stored_one (refuses n vs) f store values values' e = refl

stored-two : (said : Said Shaped) (f : List Float → List Float → List Float) (a b : List Float) (us vs ws : Bool → List Float) → ((m : Bool) → f (sets a 0 (us m)) (sets b 0 (vs m)) ≡ sets (f a b) 0 (ws m)) → f (stored said a us) (stored said b vs) ≡ stored said (f a b) ws
stored-two (gives null_shape) f a b us vs ws e = refl
stored-two (gives (point_shape code p)) f a b us vs ws e = refl
stored-two (gives (multipoint_shape code m body)) f a b us vs ws e = e m
stored-two (gives (parts_shape code m body)) f a b us vs ws e = e m
stored-two (refuses n values) f a b us vs ws e = refl

-- ---- the theorems

pub reading : Reading
reading =
    record {
      body_apart =
          λ parts z m s counts xy zs ms r counts' xy' zs' ms' h.
          record {
            says = h.says ∙ body_same _ _ _ (apart_halves xy) parts z m s (length counts) (length zs) (length ms);
            counts_are = h.counts_are;
            x_are = ap all_x h.xy_are ∙ unless_one (said_body r) all_x xy (sets xy 0 (Old.xy_in parts s)) _ (x-stored parts s xy);
            y_are = ap all_y h.xy_are ∙ unless_one (said_body r) all_y xy (sets xy 0 (Old.xy_in parts s)) _ (y-stored parts s xy);
            z_are = h.z_are;
            m_are = h.m_are;
          };
      body_together =
          λ parts z m s counts xs ys zs ms r counts' xs' ys' zs' ms' h.
          record {
            says = h.says ∙ sym (body_same _ _ _ (together_halves xs ys) parts z m s (length counts) (length zs) (length ms));
            counts_are = h.counts_are;
            xy_are = ap₂ together h.x_are h.y_are ∙ unless_two (said_body r) together xs (sets xs 0 (x_in parts s)) ys (sets ys 0 (y_in parts s)) _ (both_stored parts s xs ys);
            z_are = h.z_are;
            m_are = h.m_are;
          };
      record_apart =
          λ wanted size s counts xy zs ms r counts' xy' zs' ms' h.
          record {
            says = h.says ∙ record_same _ _ _ (apart_halves xy) wanted size s (length counts) (length zs) (length ms);
            counts_are = h.counts_are;
            x_are = ap all_x h.xy_are ∙ stored_one (said_record r) all_x xy (λ m. Old.xy_in (kind_in s).parts (drop 4 s)) (λ m. x_in (kind_in s).parts (drop 4 s)) (λ m. x-stored (kind_in s).parts (drop 4 s) xy);
            y_are = ap all_y h.xy_are ∙ stored_one (said_record r) all_y xy (λ m. Old.xy_in (kind_in s).parts (drop 4 s)) (λ m. y_in (kind_in s).parts (drop 4 s)) (λ m. y-stored (kind_in s).parts (drop 4 s) xy);
            z_are = h.z_are;
            m_are = h.m_are;
          };
      record_together =
          λ wanted size s counts xs ys zs ms r counts' xs' ys' zs' ms' h.
          record {
            says = h.says ∙ sym (record_same _ _ _ (together_halves xs ys) wanted size s (length counts) (length zs) (length ms));
            counts_are = h.counts_are;
            xy_are = ap₂ together h.x_are h.y_are ∙ stored-two (said_record r) together xs ys (λ m. x_in (kind_in s).parts (drop 4 s)) (λ m. y_in (kind_in s).parts (drop 4 s)) (λ m. Old.xy_in (kind_in s).parts (drop 4 s)) (λ m. both_stored (kind_in s).parts (drop 4 s) xs ys);
            z_are = h.z_are;
            m_are = h.m_are;
          };
    }
