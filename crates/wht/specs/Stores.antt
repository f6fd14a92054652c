-- Four numbers stored into a list from place i on. Definitions only.
use Rattle.std.specs.Prelude.{List, ℕ, ◌+◌, ℤ, set}
use Rattle.wht.specs.declared.blocks.Quad.{Quad}

abbrev pub put4 : List ℤ → ℕ → Quad → List ℤ
put4 l i q = set (set (set (set l i q.0) (i + 1) q.1) (i + 2) q.2) (i + 3) q.3
