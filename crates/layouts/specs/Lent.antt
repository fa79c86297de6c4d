-- The same of tables that are lent together.
use Rattle.std.specs.Prelude.{Bool, List, ℕ, Result}
use Rattle.format.specs.declared.shapes.Layout.{Layout}
use Rattle.format.specs.declared.shapes.Tables.{Tables}
use Rattle.format.specs.Said.{Said}
use Rattle.format.specs.Shapes.{Shape}
use Rattle.header.specs.declared.bbox.BBoxZ.{BBoxZ}
use Rattle.layouts.specs.declared.LayoutError.{LayoutError}
use Rattle.layouts.specs.Answers.{agree, layout_of, WritesBody}
use Rattle.layouts.specs.Tables.{several_of}

abbrev pub lent_agree : Layout → Tables → Bool
lent_agree l t = agree l.parts l.z l.m t.counts.now t.xs.now t.ys.now t.zs.now t.ms.now

abbrev pub layout_of_lent : Layout → Tables → ℕ → Said ℕ
layout_of_lent l t room = layout_of l.parts l.z l.m t.counts.now t.xs.now t.ys.now t.zs.now t.ms.now room

abbrev pub WritesLent : Layout → BBoxZ → Tables → List ℕ → Result ℕ LayoutError → List ℕ → Type 0
WritesLent l b t out answer out' = WritesBody l.parts l.z l.m b t.counts.now t.xs.now t.ys.now t.zs.now t.ms.now out answer out'

abbrev pub lent_shape : Layout → BBoxZ → Tables → Shape
lent_shape l b t = several_of l.parts l.z l.m b t.counts.now t.xs.now t.ys.now t.zs.now t.ms.now
