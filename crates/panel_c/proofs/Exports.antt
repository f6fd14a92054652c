-- Each export is the function that it wraps: it asks nothing of its caller, and what the caller learns, by the export's contract, is what a caller
-- of the function learns. So an export with a `requires`, without its `ensures` or with another, is refused here. Assumes nothing.
use mathlib.Core.List.{List}
use Prim.Native.Nat.{ℕ}
use contract.Lifetimes.{Lfts}
use denote.Triple.Clauses.{AtExit}
use borrow.Fn.Kinds.{ParamKind, ResultKind, Dens, ended_of, res_t, In, Out}
use Rattle.panel.proofs.panel_inv_txfm_recon_f32.Kinds as Recon
use Rattle.panel.proofs.panel_inv_txfm_add.Kinds as Add
use Rattle.panel.proofs.panel_cctx.Kinds as Cctx
use Rattle.panel.proofs.panel_fwht4x4.Kinds as Wht
use Rattle.panel.proofs.panel_lossless_step.Kinds as Lossless
use Rattle.panel.proofs.panel_history_step.Kinds as HistoryStep
use Rattle.panel.proofs.panel_history_undo.Kinds as HistoryUndo
use Rattle.panel.proofs.panel_history_withdraw.Kinds as HistoryWithdraw
use Rattle.panel.proofs.panel_history_can_withdraw.Kinds as HistoryCan
use Rattle.panel.proofs.panel_history_rebuild.Kinds as HistoryRebuild
use Rattle.panel.proofs.panel_history_fold.Kinds as HistoryFold
use Rattle.panel.proofs.panel_av1_inv_dct.Kinds as Av1Dct
use Rattle.panel.proofs.panel_av1_inv_wht4x4.Kinds as Av1Wht
use Rattle.panel.proofs.panel_inv_txfm_recon_f32.Reads as inv_txfm_recon_f32
use Rattle.panel.proofs.panel_inv_txfm_recon_f32_lanes.Reads as inv_txfm_recon_f32_lanes
use Rattle.panel.proofs.panel_inv_txfm_recon_f32_lanes8.Reads as inv_txfm_recon_f32_lanes8
use Rattle.panel.proofs.panel_inv_txfm_recon_f32_fast.Reads as inv_txfm_recon_f32_fast
use Rattle.panel.proofs.panel_inv_txfm_recon_f32_rows.Reads as inv_txfm_recon_f32_rows
use Rattle.panel.proofs.panel_inv_txfm_recon_f32_rows_lanes.Reads as inv_txfm_recon_f32_rows_lanes
use Rattle.panel.proofs.panel_inv_txfm_recon_f32_rows_lanes8.Reads as inv_txfm_recon_f32_rows_lanes8
use Rattle.panel.proofs.panel_inv_txfm_recon_f32_rows_fast.Reads as inv_txfm_recon_f32_rows_fast
use Rattle.panel.proofs.panel_inv_txfm_recon_f32_clamped.Reads as inv_txfm_recon_f32_clamped
use Rattle.panel.proofs.panel_inv_txfm_recon_f32_clamped_lanes.Reads as inv_txfm_recon_f32_clamped_lanes
use Rattle.panel.proofs.panel_inv_txfm_add.Reads as inv_txfm_add
use Rattle.panel.proofs.panel_inv_txfm_add_lanes.Reads as inv_txfm_add_lanes
use Rattle.panel.proofs.panel_inv_txfm_add_lanes8.Reads as inv_txfm_add_lanes8
use Rattle.panel.proofs.panel_inv_txfm_add_fast.Reads as inv_txfm_add_fast
use Rattle.panel.proofs.panel_inv_txfm_add_rows.Reads as inv_txfm_add_rows
use Rattle.panel.proofs.panel_inv_txfm_add_rows_lanes.Reads as inv_txfm_add_rows_lanes
use Rattle.panel.proofs.panel_inv_txfm_add_rows_lanes8.Reads as inv_txfm_add_rows_lanes8
use Rattle.panel.proofs.panel_inv_txfm_add_rows_fast.Reads as inv_txfm_add_rows_fast
use Rattle.panel.proofs.panel_inv_txfm_add_clamped.Reads as inv_txfm_add_clamped
use Rattle.panel.proofs.panel_inv_txfm_add_clamped_lanes.Reads as inv_txfm_add_clamped_lanes
use Rattle.panel.proofs.panel_cctx.Reads as cctx
use Rattle.panel.proofs.panel_fwht4x4.Reads as fwht4x4
use Rattle.panel.proofs.panel_iwht4x4.Reads as iwht4x4
use Rattle.panel.proofs.panel_lossless_step.Reads as lossless_step
use Rattle.panel.proofs.panel_lossless_undo.Reads as lossless_undo
use Rattle.panel.proofs.panel_history_step.Reads as history_step
use Rattle.panel.proofs.panel_history_undo.Reads as history_undo
use Rattle.panel.proofs.panel_history_withdraw.Reads as history_withdraw
use Rattle.panel.proofs.panel_history_can_withdraw.Reads as history_can_withdraw
use Rattle.panel.proofs.panel_history_rebuild.Reads as history_rebuild
use Rattle.panel.proofs.panel_history_fold.Reads as history_fold
use Rattle.panel.proofs.panel_av1_inv_dct.Reads as av1_inv_dct
use Rattle.panel.proofs.panel_av1_inv_wht4x4.Reads as av1_inv_wht4x4
use Rattle.panel_c.proofs.panel_inv_txfm_recon_f32.Reads as panel_inv_txfm_recon_f32
use Rattle.panel_c.proofs.panel_inv_txfm_recon_f32_lanes.Reads as panel_inv_txfm_recon_f32_lanes
use Rattle.panel_c.proofs.panel_inv_txfm_recon_f32_lanes8.Reads as panel_inv_txfm_recon_f32_lanes8
use Rattle.panel_c.proofs.panel_inv_txfm_recon_f32_fast.Reads as panel_inv_txfm_recon_f32_fast
use Rattle.panel_c.proofs.panel_inv_txfm_recon_f32_rows.Reads as panel_inv_txfm_recon_f32_rows
use Rattle.panel_c.proofs.panel_inv_txfm_recon_f32_rows_lanes.Reads as panel_inv_txfm_recon_f32_rows_lanes
use Rattle.panel_c.proofs.panel_inv_txfm_recon_f32_rows_lanes8.Reads as panel_inv_txfm_recon_f32_rows_lanes8
use Rattle.panel_c.proofs.panel_inv_txfm_recon_f32_rows_fast.Reads as panel_inv_txfm_recon_f32_rows_fast
use Rattle.panel_c.proofs.panel_inv_txfm_recon_f32_clamped.Reads as panel_inv_txfm_recon_f32_clamped
use Rattle.panel_c.proofs.panel_inv_txfm_recon_f32_clamped_lanes.Reads as panel_inv_txfm_recon_f32_clamped_lanes
use Rattle.panel_c.proofs.panel_inv_txfm_add.Reads as panel_inv_txfm_add
use Rattle.panel_c.proofs.panel_inv_txfm_add_lanes.Reads as panel_inv_txfm_add_lanes
use Rattle.panel_c.proofs.panel_inv_txfm_add_lanes8.Reads as panel_inv_txfm_add_lanes8
use Rattle.panel_c.proofs.panel_inv_txfm_add_fast.Reads as panel_inv_txfm_add_fast
use Rattle.panel_c.proofs.panel_inv_txfm_add_rows.Reads as panel_inv_txfm_add_rows
use Rattle.panel_c.proofs.panel_inv_txfm_add_rows_lanes.Reads as panel_inv_txfm_add_rows_lanes
use Rattle.panel_c.proofs.panel_inv_txfm_add_rows_lanes8.Reads as panel_inv_txfm_add_rows_lanes8
use Rattle.panel_c.proofs.panel_inv_txfm_add_rows_fast.Reads as panel_inv_txfm_add_rows_fast
use Rattle.panel_c.proofs.panel_inv_txfm_add_clamped.Reads as panel_inv_txfm_add_clamped
use Rattle.panel_c.proofs.panel_inv_txfm_add_clamped_lanes.Reads as panel_inv_txfm_add_clamped_lanes
use Rattle.panel_c.proofs.panel_cctx.Reads as panel_cctx
use Rattle.panel_c.proofs.panel_fwht4x4.Reads as panel_fwht4x4
use Rattle.panel_c.proofs.panel_iwht4x4.Reads as panel_iwht4x4
use Rattle.panel_c.proofs.panel_lossless_step.Reads as panel_lossless_step
use Rattle.panel_c.proofs.panel_lossless_undo.Reads as panel_lossless_undo
use Rattle.panel_c.proofs.panel_history_step.Reads as panel_history_step
use Rattle.panel_c.proofs.panel_history_undo.Reads as panel_history_undo
use Rattle.panel_c.proofs.panel_history_withdraw.Reads as panel_history_withdraw
use Rattle.panel_c.proofs.panel_history_can_withdraw.Reads as panel_history_can_withdraw
use Rattle.panel_c.proofs.panel_history_rebuild.Reads as panel_history_rebuild
use Rattle.panel_c.proofs.panel_history_fold.Reads as panel_history_fold
use Rattle.panel_c.proofs.panel_av1_inv_dct.Reads as panel_av1_inv_dct
use Rattle.panel_c.proofs.panel_av1_inv_wht4x4.Reads as panel_av1_inv_wht4x4

-- of a function of n lifetimes, parameters ps and result r
abbrev Wraps : (n : ℕ) (ps : List (ParamKind n)) (r : ResultKind n) → In n ps → Out n ps r → Out n ps r → Type 0
Wraps n ps r asked learnt wrapped =
    ((κs : Lfts n) (a : Dens κs ps) → asked κs a)
    × ((κs : Lfts n) (a : Dens κs ps) (x : (res_t r κs).Denot) (left : AtExit (ended_of n ps r) κs) → learnt κs a x left → wrapped κs a x left)

pub inv-txfm-recon-f32-wrapped : Wraps 3 Recon.ps Recon.r panel_inv_txfm_recon_f32.Asked panel_inv_txfm_recon_f32.Learnt inv_txfm_recon_f32.Learnt
inv-txfm-recon-f32-wrapped = (λ κs a. tt, λ κs a x left p. p)

pub inv-txfm-recon-f32-lanes-wrapped : Wraps 3 Recon.ps Recon.r panel_inv_txfm_recon_f32_lanes.Asked panel_inv_txfm_recon_f32_lanes.Learnt inv_txfm_recon_f32_lanes.Learnt
inv-txfm-recon-f32-lanes-wrapped = (λ κs a. tt, λ κs a x left p. p)

pub inv-txfm-recon-f32-lanes8-wrapped : Wraps 3 Recon.ps Recon.r panel_inv_txfm_recon_f32_lanes8.Asked panel_inv_txfm_recon_f32_lanes8.Learnt inv_txfm_recon_f32_lanes8.Learnt
inv-txfm-recon-f32-lanes8-wrapped = (λ κs a. tt, λ κs a x left p. p)

pub inv-txfm-recon-f32-fast-wrapped : Wraps 3 Recon.ps Recon.r panel_inv_txfm_recon_f32_fast.Asked panel_inv_txfm_recon_f32_fast.Learnt inv_txfm_recon_f32_fast.Learnt
inv-txfm-recon-f32-fast-wrapped = (λ κs a. tt, λ κs a x left p. p)

pub inv-txfm-recon-f32-rows-wrapped : Wraps 3 Recon.ps Recon.r panel_inv_txfm_recon_f32_rows.Asked panel_inv_txfm_recon_f32_rows.Learnt inv_txfm_recon_f32_rows.Learnt
inv-txfm-recon-f32-rows-wrapped = (λ κs a. tt, λ κs a x left p. p)

pub inv-txfm-recon-f32-rows-lanes-wrapped : Wraps 3 Recon.ps Recon.r panel_inv_txfm_recon_f32_rows_lanes.Asked panel_inv_txfm_recon_f32_rows_lanes.Learnt inv_txfm_recon_f32_rows_lanes.Learnt
inv-txfm-recon-f32-rows-lanes-wrapped = (λ κs a. tt, λ κs a x left p. p)

pub inv-txfm-recon-f32-rows-lanes8-wrapped : Wraps 3 Recon.ps Recon.r panel_inv_txfm_recon_f32_rows_lanes8.Asked panel_inv_txfm_recon_f32_rows_lanes8.Learnt inv_txfm_recon_f32_rows_lanes8.Learnt
inv-txfm-recon-f32-rows-lanes8-wrapped = (λ κs a. tt, λ κs a x left p. p)

pub inv-txfm-recon-f32-rows-fast-wrapped : Wraps 3 Recon.ps Recon.r panel_inv_txfm_recon_f32_rows_fast.Asked panel_inv_txfm_recon_f32_rows_fast.Learnt inv_txfm_recon_f32_rows_fast.Learnt
inv-txfm-recon-f32-rows-fast-wrapped = (λ κs a. tt, λ κs a x left p. p)

pub inv-txfm-recon-f32-clamped-wrapped : Wraps 3 Recon.ps Recon.r panel_inv_txfm_recon_f32_clamped.Asked panel_inv_txfm_recon_f32_clamped.Learnt inv_txfm_recon_f32_clamped.Learnt
inv-txfm-recon-f32-clamped-wrapped = (λ κs a. tt, λ κs a x left p. p)

pub inv-txfm-recon-f32-clamped-lanes-wrapped : Wraps 3 Recon.ps Recon.r panel_inv_txfm_recon_f32_clamped_lanes.Asked panel_inv_txfm_recon_f32_clamped_lanes.Learnt inv_txfm_recon_f32_clamped_lanes.Learnt
inv-txfm-recon-f32-clamped-lanes-wrapped = (λ κs a. tt, λ κs a x left p. p)

pub inv-txfm-add-wrapped : Wraps 2 Add.ps Add.r panel_inv_txfm_add.Asked panel_inv_txfm_add.Learnt inv_txfm_add.Learnt
inv-txfm-add-wrapped = (λ κs a. tt, λ κs a x left p. p)

pub inv-txfm-add-lanes-wrapped : Wraps 2 Add.ps Add.r panel_inv_txfm_add_lanes.Asked panel_inv_txfm_add_lanes.Learnt inv_txfm_add_lanes.Learnt
inv-txfm-add-lanes-wrapped = (λ κs a. tt, λ κs a x left p. p)

pub inv-txfm-add-lanes8-wrapped : Wraps 2 Add.ps Add.r panel_inv_txfm_add_lanes8.Asked panel_inv_txfm_add_lanes8.Learnt inv_txfm_add_lanes8.Learnt
inv-txfm-add-lanes8-wrapped = (λ κs a. tt, λ κs a x left p. p)

pub inv-txfm-add-fast-wrapped : Wraps 2 Add.ps Add.r panel_inv_txfm_add_fast.Asked panel_inv_txfm_add_fast.Learnt inv_txfm_add_fast.Learnt
inv-txfm-add-fast-wrapped = (λ κs a. tt, λ κs a x left p. p)

pub inv-txfm-add-rows-wrapped : Wraps 2 Add.ps Add.r panel_inv_txfm_add_rows.Asked panel_inv_txfm_add_rows.Learnt inv_txfm_add_rows.Learnt
inv-txfm-add-rows-wrapped = (λ κs a. tt, λ κs a x left p. p)

pub inv-txfm-add-rows-lanes-wrapped : Wraps 2 Add.ps Add.r panel_inv_txfm_add_rows_lanes.Asked panel_inv_txfm_add_rows_lanes.Learnt inv_txfm_add_rows_lanes.Learnt
inv-txfm-add-rows-lanes-wrapped = (λ κs a. tt, λ κs a x left p. p)

pub inv-txfm-add-rows-lanes8-wrapped : Wraps 2 Add.ps Add.r panel_inv_txfm_add_rows_lanes8.Asked panel_inv_txfm_add_rows_lanes8.Learnt inv_txfm_add_rows_lanes8.Learnt
inv-txfm-add-rows-lanes8-wrapped = (λ κs a. tt, λ κs a x left p. p)

pub inv-txfm-add-rows-fast-wrapped : Wraps 2 Add.ps Add.r panel_inv_txfm_add_rows_fast.Asked panel_inv_txfm_add_rows_fast.Learnt inv_txfm_add_rows_fast.Learnt
inv-txfm-add-rows-fast-wrapped = (λ κs a. tt, λ κs a x left p. p)

pub inv-txfm-add-clamped-wrapped : Wraps 2 Add.ps Add.r panel_inv_txfm_add_clamped.Asked panel_inv_txfm_add_clamped.Learnt inv_txfm_add_clamped.Learnt
inv-txfm-add-clamped-wrapped = (λ κs a. tt, λ κs a x left p. p)

pub inv-txfm-add-clamped-lanes-wrapped : Wraps 2 Add.ps Add.r panel_inv_txfm_add_clamped_lanes.Asked panel_inv_txfm_add_clamped_lanes.Learnt inv_txfm_add_clamped_lanes.Learnt
inv-txfm-add-clamped-lanes-wrapped = (λ κs a. tt, λ κs a x left p. p)

pub cctx-wrapped : Wraps 2 Cctx.ps Cctx.r panel_cctx.Asked panel_cctx.Learnt cctx.Learnt
cctx-wrapped = (λ κs a. tt, λ κs a x left p. p)

pub fwht4x4-wrapped : Wraps 2 Wht.ps Wht.r panel_fwht4x4.Asked panel_fwht4x4.Learnt fwht4x4.Learnt
fwht4x4-wrapped = (λ κs a. tt, λ κs a x left p. p)

pub iwht4x4-wrapped : Wraps 2 Wht.ps Wht.r panel_iwht4x4.Asked panel_iwht4x4.Learnt iwht4x4.Learnt
iwht4x4-wrapped = (λ κs a. tt, λ κs a x left p. p)

pub lossless-step-wrapped : Wraps 2 Lossless.ps Lossless.r panel_lossless_step.Asked panel_lossless_step.Learnt lossless_step.Learnt
lossless-step-wrapped = (λ κs a. tt, λ κs a x left p. p)

pub lossless-undo-wrapped : Wraps 2 Lossless.ps Lossless.r panel_lossless_undo.Asked panel_lossless_undo.Learnt lossless_undo.Learnt
lossless-undo-wrapped = (λ κs a. tt, λ κs a x left p. p)

pub history-step-wrapped : Wraps 5 HistoryStep.ps HistoryStep.r panel_history_step.Asked panel_history_step.Learnt history_step.Learnt
history-step-wrapped = (λ κs a. tt, λ κs a x left p. p)

pub history-undo-wrapped : Wraps 4 HistoryUndo.ps HistoryUndo.r panel_history_undo.Asked panel_history_undo.Learnt history_undo.Learnt
history-undo-wrapped = (λ κs a. tt, λ κs a x left p. p)

pub history-withdraw-wrapped : Wraps 4 HistoryWithdraw.ps HistoryWithdraw.r panel_history_withdraw.Asked panel_history_withdraw.Learnt history_withdraw.Learnt
history-withdraw-wrapped = (λ κs a. tt, λ κs a x left p. p)

pub history-can-withdraw-wrapped : Wraps 4 HistoryCan.ps HistoryCan.r panel_history_can_withdraw.Asked panel_history_can_withdraw.Learnt history_can_withdraw.Learnt
history-can-withdraw-wrapped = (λ κs a. tt, λ κs a x left p. p)

pub history-rebuild-wrapped : Wraps 4 HistoryRebuild.ps HistoryRebuild.r panel_history_rebuild.Asked panel_history_rebuild.Learnt history_rebuild.Learnt
history-rebuild-wrapped = (λ κs a. tt, λ κs a x left p. p)

pub history-fold-wrapped : Wraps 4 HistoryFold.ps HistoryFold.r panel_history_fold.Asked panel_history_fold.Learnt history_fold.Learnt
history-fold-wrapped = (λ κs a. tt, λ κs a x left p. p)

pub av1-inv-dct-wrapped : Wraps 1 Av1Dct.ps Av1Dct.r panel_av1_inv_dct.Asked panel_av1_inv_dct.Learnt av1_inv_dct.Learnt
av1-inv-dct-wrapped = (λ κs a. tt, λ κs a x left p. p)

pub av1-inv-wht4x4-wrapped : Wraps 1 Av1Wht.ps Av1Wht.r panel_av1_inv_wht4x4.Asked panel_av1_inv_wht4x4.Learnt av1_inv_wht4x4.Learnt
av1-inv-wht4x4-wrapped = (λ κs a. tt, λ κs a x left p. p)
