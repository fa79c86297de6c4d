-- `multipart::store::store_body`: each store gets what the definition has, and all of it fits.
use Rattle.std.proofs.Common.{sym, ap, ◌∙◌, arith}
use lib.Seq.{sets}
use Rattle.multipart.proofs.BodyLaws.{all_inside, starts_inside, box_inside, counts-room, x-room, y-room, z-room, m-room, counts_here, x_here, y_here, z_here, m_here, body_here}
use Rattle.multipart.proofs.CountLaws.{number_small}
use Rattle.multipart.proofs.store.store_body.Goals as goal

pub overflow_add-end : goal.overflow_add-end
overflow_add-end c = omega (arith, all_inside _ _ _ _ _ _ _ _ _ _ _ c.requires, c.pairs_at-at.ensures)

pub store_counts-requires : goal.store_counts-requires
store_counts-requires c =
    (starts_inside _ _ _ _ _ _ _ _ _ _ _ c.requires, number_small _ _ _ c.requires.number_is, counts-room _ _ _ _ _ _ _ _ _ _ _ c.requires)

pub store_pairs-requires : goal.store_pairs-requires
store_pairs-requires c =
    (omega (arith, all_inside _ _ _ _ _ _ _ _ _ _ _ c.requires, c.pairs_at-at.ensures), x-room _ _ _ _ _ _ _ _ _ _ _ c.requires, y-room _ _ _ _ _ _ _ _ _ _ _ c.requires)

pub store_z-requires : goal.store_z-requires
store_z-requires c = (omega (arith, all_inside _ _ _ _ _ _ _ _ _ _ _ c.requires, c.pairs_at-at.ensures), z-room _ _ _ _ _ _ _ _ _ _ _ c.requires)

pub end_after-m_at-requires : goal.end_after-m_at-requires
end_after-m_at-requires c = omega (arith, all_inside _ _ _ _ _ _ _ _ _ _ _ c.requires, c.pairs_at-at.ensures)

pub store_m-requires : goal.store_m-requires
store_m-requires c = (rw (c.end_after-m_at.ensures, c.pairs_at-at.ensures) (all_inside _ _ _ _ _ _ _ _ _ _ _ c.requires), m-room _ _ _ _ _ _ _ _ _ _ _ c.requires)

pub body_at-requires : goal.body_at-requires
body_at-requires c = (box_inside _ _ _ _ _ _ _ _ _ _ _ c.requires, rw c.pairs_at-at.ensures (all_inside _ _ _ _ _ _ _ _ _ _ _ c.requires))

pub returns : goal.returns
returns c =
    let a = c.args in
    let is = c.pairs_at-at.ensures in
    let e = c.requires.parts_are in
    let f = c.requires.points_are in
    record {
      body_is = (rw is at c.body_at.ensures) ∙ body_here _ _ _ _ e f _ _;
      counts_are = c.store_counts.ensures ∙ ap (sets a.counts.now 0) (counts_here _ _ _ _ e (sym c.requires.number_is));
      x_are = (rw is at c.store_pairs.ensures.0) ∙ ap (sets a.xs.now 0) (x_here _ _ _ _ e f);
      y_are = (rw is at c.store_pairs.ensures.1) ∙ ap (sets a.ys.now 0) (y_here _ _ _ _ e f);
      z_are = (rw is at c.store_z.ensures) ∙ ap (sets a.zs.now 0) (z_here _ _ _ _ e f _);
      m_are = (rw (c.end_after-m_at.ensures, is) at c.store_m.ensures) ∙ ap (sets a.ms.now 0) (m_here _ _ _ _ e f _ _);
    }
