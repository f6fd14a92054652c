-- Each export is the function that it wraps: it asks nothing of its caller, and what the caller learns, by the export's contract, is what a caller
-- of the function learns. So an export with a `requires`, without its `ensures` or with another, is refused here. Assumes nothing.
use mathlib.Core.List.{List}
use Prim.Native.Nat.{ℕ}
use contract.Lifetimes.{Lfts}
use denote.Triple.Clauses.{AtExit}
use borrow.Fn.Kinds.{ParamKind, ResultKind, Dens, ended_of, res_t, In, Out}
use Rattle.panel.proofs.bytes.panel_inv_txfm_add_bytes.Kinds as Add
use Rattle.panel.proofs.bytes.panel_lossless_step_bytes.Kinds as Lossless
use Rattle.panel.proofs.bytes.panel_inv_txfm_add_bytes.Reads as inv_txfm_add_bytes
use Rattle.panel.proofs.bytes.panel_inv_txfm_add_bytes_lanes.Reads as inv_txfm_add_bytes_lanes
use Rattle.panel.proofs.bytes.panel_inv_txfm_add_bytes_fast.Reads as inv_txfm_add_bytes_fast
use Rattle.panel.proofs.bytes.panel_inv_txfm_add_rows_bytes.Reads as inv_txfm_add_rows_bytes
use Rattle.panel.proofs.bytes.panel_inv_txfm_add_rows_bytes_lanes.Reads as inv_txfm_add_rows_bytes_lanes
use Rattle.panel.proofs.bytes.panel_inv_txfm_add_rows_bytes_fast.Reads as inv_txfm_add_rows_bytes_fast
use Rattle.panel.proofs.bytes.panel_lossless_step_bytes.Reads as lossless_step_bytes
use Rattle.panel.proofs.bytes.panel_lossless_undo_bytes.Reads as lossless_undo_bytes
use Rattle.panel_c.proofs.bytes.panel_inv_txfm_add_bytes.Reads as panel_inv_txfm_add_bytes
use Rattle.panel_c.proofs.bytes.panel_inv_txfm_add_bytes_lanes.Reads as panel_inv_txfm_add_bytes_lanes
use Rattle.panel_c.proofs.bytes.panel_inv_txfm_add_bytes_fast.Reads as panel_inv_txfm_add_bytes_fast
use Rattle.panel_c.proofs.bytes.panel_inv_txfm_add_rows_bytes.Reads as panel_inv_txfm_add_rows_bytes
use Rattle.panel_c.proofs.bytes.panel_inv_txfm_add_rows_bytes_lanes.Reads as panel_inv_txfm_add_rows_bytes_lanes
use Rattle.panel_c.proofs.bytes.panel_inv_txfm_add_rows_bytes_fast.Reads as panel_inv_txfm_add_rows_bytes_fast
use Rattle.panel_c.proofs.bytes.panel_lossless_step_bytes.Reads as panel_lossless_step_bytes
use Rattle.panel_c.proofs.bytes.panel_lossless_undo_bytes.Reads as panel_lossless_undo_bytes

-- of a function of n lifetimes, parameters ps and result r
abbrev Wraps : (n : ℕ) (ps : List (ParamKind n)) (r : ResultKind n) → In n ps → Out n ps r → Out n ps r → Type 0
Wraps n ps r asked learnt wrapped =
    ((κs : Lfts n) (a : Dens κs ps) → asked κs a)
    × ((κs : Lfts n) (a : Dens κs ps) (x : (res_t r κs).Denot) (left : AtExit (ended_of n ps r) κs) → learnt κs a x left → wrapped κs a x left)

pub inv-txfm-add-bytes-wrapped : Wraps 2 Add.ps Add.r panel_inv_txfm_add_bytes.Asked panel_inv_txfm_add_bytes.Learnt inv_txfm_add_bytes.Learnt
inv-txfm-add-bytes-wrapped = (λ κs a. tt, λ κs a x left p. p)

pub inv-txfm-add-bytes-lanes-wrapped : Wraps 2 Add.ps Add.r panel_inv_txfm_add_bytes_lanes.Asked panel_inv_txfm_add_bytes_lanes.Learnt inv_txfm_add_bytes_lanes.Learnt
inv-txfm-add-bytes-lanes-wrapped = (λ κs a. tt, λ κs a x left p. p)

pub inv-txfm-add-bytes-fast-wrapped : Wraps 2 Add.ps Add.r panel_inv_txfm_add_bytes_fast.Asked panel_inv_txfm_add_bytes_fast.Learnt inv_txfm_add_bytes_fast.Learnt
inv-txfm-add-bytes-fast-wrapped = (λ κs a. tt, λ κs a x left p. p)

pub inv-txfm-add-rows-bytes-wrapped : Wraps 2 Add.ps Add.r panel_inv_txfm_add_rows_bytes.Asked panel_inv_txfm_add_rows_bytes.Learnt inv_txfm_add_rows_bytes.Learnt
inv-txfm-add-rows-bytes-wrapped = (λ κs a. tt, λ κs a x left p. p)

pub inv-txfm-add-rows-bytes-lanes-wrapped : Wraps 2 Add.ps Add.r panel_inv_txfm_add_rows_bytes_lanes.Asked panel_inv_txfm_add_rows_bytes_lanes.Learnt inv_txfm_add_rows_bytes_lanes.Learnt
inv-txfm-add-rows-bytes-lanes-wrapped = (λ κs a. tt, λ κs a x left p. p)

pub inv-txfm-add-rows-bytes-fast-wrapped : Wraps 2 Add.ps Add.r panel_inv_txfm_add_rows_bytes_fast.Asked panel_inv_txfm_add_rows_bytes_fast.Learnt inv_txfm_add_rows_bytes_fast.Learnt
inv-txfm-add-rows-bytes-fast-wrapped = (λ κs a. tt, λ κs a x left p. p)

pub lossless-step-bytes-wrapped : Wraps 2 Lossless.ps Lossless.r panel_lossless_step_bytes.Asked panel_lossless_step_bytes.Learnt lossless_step_bytes.Learnt
lossless-step-bytes-wrapped = (λ κs a. tt, λ κs a x left p. p)

pub lossless-undo-bytes-wrapped : Wraps 2 Lossless.ps Lossless.r panel_lossless_undo_bytes.Asked panel_lossless_undo_bytes.Learnt lossless_undo_bytes.Learnt
lossless-undo-bytes-wrapped = (λ κs a. tt, λ κs a x left p. p)
