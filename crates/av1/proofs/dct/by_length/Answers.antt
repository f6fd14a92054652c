-- `av1::dct::by_length` meets its contract: each arm is the run of its length's table. Assumes nothing.
use mathlib.Core.Path.{refl, ◌∙◌}
use lib.Dec.{lit<}
use Rattle.av1.specs.Room.{legal}
use Rattle.av1.specs.Tables.{angles8, angles16, angles32, angles64, from8, from16, from32, from64, ops8, ops16, ops32, ops64}
use Rattle.av1.proofs.Tested.{asks, only-64, by-table}
use Rattle.av1.proofs.dct.by_length.Goals as goal

pub by_table-requires : goal.by_table-requires
unfolding legal
by_table-requires c =
    let a = asks 8 13 angles8 from8 ops8 tt tt tt 8 refl in
    (lit< tt, ((c.requires.n_value.1 ∙ c.in-8.is, a.0, a.1, a.2), c.requires.t_bound))

pub by_table-requires-in-16 : goal.by_table-requires-in-16
unfolding legal
by_table-requires-in-16 c =
    let a = asks 16 37 angles16 from16 ops16 tt tt tt 16 refl in
    (lit< tt, ((c.requires.n_value.1 ∙ c.in-16.is, a.0, a.1, a.2), c.requires.t_bound))

pub by_table-requires-in-32 : goal.by_table-requires-in-32
unfolding legal
by_table-requires-in-32 c =
    let a = asks 32 97 angles32 from32 ops32 tt tt tt 32 refl in
    (lit< tt, ((c.requires.n_value.1 ∙ c.in-32.is, a.0, a.1, a.2), c.requires.t_bound))

pub by_table-requires-in_default : goal.by_table-requires-in_default
unfolding legal
by_table-requires-in_default c =
    let a = asks 64 241 angles64 from64 ops64 tt tt tt 64 refl in
    let o = c.in_default.in_default-own.rest in
    let e = only-64 c.args.n c.requires.n_value.0 o.0.0.0.1 o.0.0.1 o.0.1 o.1 in
    (lit< tt, ((c.requires.n_value.1 ∙ e, a.0, a.1, a.2), c.requires.t_bound))

pub returns-in-16 : goal.returns-in-16
returns-in-16 c =
    by-table _ _ c.args.t.now c.in-16.is c.by_table-in-16.ensures

pub returns-in-32 : goal.returns-in-32
returns-in-32 c =
    by-table _ _ c.args.t.now c.in-32.is c.by_table-in-32.ensures

pub returns-in_default : goal.returns-in_default
returns-in_default c =
    let o = c.in_default.in_default-own.rest in
    let e = only-64 c.args.n c.requires.n_value.0 o.0.0.0.1 o.0.0.1 o.0.1 o.1 in
    by-table _ _ c.args.t.now e c.by_table-in_default.ensures
