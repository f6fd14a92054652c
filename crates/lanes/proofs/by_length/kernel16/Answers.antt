-- `lanes::by_length::kernel16` meets its contract: in each arm the code is known, and the kernel's promise is its own. Assumes nothing.
use mathlib.Core.Path.{refl, sym, ap, ◌∙◌, subst}
use mathlib.Core.List.{List}
use native.Mathlib.Omega.{arith}
use lib.Dec.{eqb}
use lib.IntN.{ℤ}
use Rattle.whole.specs.Lanes.{col}
use Rattle.tables.specs.Dense.{dense_by, dense_of}
use Rattle.lanes.proofs.Picks.{highest-code, code_gives, Small, dst16, dst16-small}
use Rattle.lanes.proofs.by_length.kernel16.Goals as goal

pub returns-in-0 : goal.returns-in-0
unfolding dense_of
returns-in-0 g c = code_gives (col g.L.Lanes.lane) 16 c.args.xs.now c.g_dct16.new.e c.in-0.is c.g_dct16.ensures

pub returns-in-1 : goal.returns-in-1
unfolding dense_of
returns-in-1 g c = code_gives (col g.L.Lanes.lane) 16 c.args.xs.now c.times.new.e c.in-1.is c.times.ensures

pub g_dst-requires : goal.g_dst-requires
g_dst-requires g c = record {
  mat_len = subst Small (sym c.table16.ensures) (dst16-small c.args.code (omega arith) (highest-code 16 c.args.code c.requires.0 16 5 refl refl));
  ready = (c.requires.1, omega (arith, c.requires.2));
}

pub table16-requires : goal.table16-requires
table16-requires g c = (omega arith, highest-code 16 c.args.code c.requires.0 16 5 refl refl)

pub returns-in_default : goal.returns-in_default
returns-in_default g c k =
    let xs = col g.L.Lanes.lane k c.args.xs.now in
    c.g_dst.ensures k ∙ ap (λ (t : List ℤ). dense_by (eqb c.args.code 5) 16 t xs) c.table16.ensures
    ∙ dst16 c.args.code (omega arith) (highest-code 16 c.args.code c.requires.0 16 5 refl refl) xs
