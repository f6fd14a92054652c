-- The public functions and their C exports: each asks nothing of its caller, and what the caller learns is one equation with the definition of
-- which the other files speak. A lost or changed `ensures`, or a new `requires`, is refused here. From document 01, "How much each call owes".
-- `a` has the arguments, `x` is the answer, `left` has the parameters at exit; parameter k is at .1 k times and then .0. Assumes nothing.
use mathlib.Core.Path.{◌≡◌}
use mathlib.Core.List.{List}
use Prim.Native.Nat.{ℕ}
use borrow.Fn.Kinds.{Out}
use Rattle.pixels.specs.Calls.{Reading, strict, strict_rows, clamped, add_of, float_of, Exact}
use Rattle.chroma.specs.Chroma.{cctx_of}
use Rattle.wht.specs.Calls.{fwht_of, iwht_of}
use Rattle.answers.specs.declared.Answer.{Answer}
use Rattle.lossless.specs.Step.{Step, attempt, step_of, undo_of}
use Rattle.byteplanes.specs.Bytes.{bytes_of}
use Rattle.bytesteps.specs.Steps.{step_bytes, undo_bytes}
use lib.ListN.{length}
use Rattle.keeping.specs.Range.{area}
use Rattle.history.specs.Calls as Remaining
use Rattle.history.specs.Calls.{lent, withdraw_verdict, withdraw_of, rebuild_of}
use Rattle.folding.specs.Fold.{three_of, fold_of}
use Rattle.av1.specs.Calls.{dct_of}
use Rattle.av1_wht.specs.Wht.{wht_of}
use Rattle.pixels.proofs.inv_txfm_recon_f32.Kinds as Recon
use Rattle.pixels.proofs.inv_txfm_add.Kinds as Add
use Rattle.chroma.proofs.cctx.Kinds as Cctx
use Rattle.wht.proofs.fwht4x4.Kinds as Wht
use Rattle.lossless.proofs.lossless_step.Kinds as Lossless
use Rattle.byteplanes.proofs.inv_txfm_add_bytes.Kinds as AddBytes
use Rattle.bytesteps.proofs.lossless_step_bytes.Kinds as LosslessBytes
use Rattle.history.proofs.history_step.Kinds as HistoryStep
use Rattle.history.proofs.history_undo.Kinds as HistoryUndo
use Rattle.history.proofs.history_withdraw.Kinds as HistoryWithdraw
use Rattle.history.proofs.history_can_withdraw.Kinds as HistoryCan
use Rattle.history.proofs.history_rebuild.Kinds as HistoryRebuild
use Rattle.folding_code.proofs.history_fold.Kinds as HistoryFold
use Rattle.av1.proofs.av1_inv_dct.Kinds as Av1Dct
use Rattle.av1_wht.proofs.av1_inv_wht4x4.Kinds as Av1Wht
use Rattle.pixels.proofs.inv_txfm_recon_f32.Reads as inv_txfm_recon_f32
use Rattle.pixels.proofs.inv_txfm_recon_f32_lanes.Reads as inv_txfm_recon_f32_lanes
use Rattle.pixels.proofs.inv_txfm_recon_f32_lanes8.Reads as inv_txfm_recon_f32_lanes8
use Rattle.quick.proofs.inv_txfm_recon_f32_fast.Reads as inv_txfm_recon_f32_fast
use Rattle.pixels.proofs.inv_txfm_recon_f32_rows.Reads as inv_txfm_recon_f32_rows
use Rattle.pixels.proofs.inv_txfm_recon_f32_rows_lanes.Reads as inv_txfm_recon_f32_rows_lanes
use Rattle.pixels.proofs.inv_txfm_recon_f32_rows_lanes8.Reads as inv_txfm_recon_f32_rows_lanes8
use Rattle.quick.proofs.inv_txfm_recon_f32_rows_fast.Reads as inv_txfm_recon_f32_rows_fast
use Rattle.pixels.proofs.inv_txfm_recon_f32_clamped.Reads as inv_txfm_recon_f32_clamped
use Rattle.pixels.proofs.inv_txfm_recon_f32_clamped_lanes.Reads as inv_txfm_recon_f32_clamped_lanes
use Rattle.pixels.proofs.inv_txfm_add.Reads as inv_txfm_add
use Rattle.pixels.proofs.inv_txfm_add_lanes.Reads as inv_txfm_add_lanes
use Rattle.pixels.proofs.inv_txfm_add_lanes8.Reads as inv_txfm_add_lanes8
use Rattle.quick.proofs.inv_txfm_add_fast.Reads as inv_txfm_add_fast
use Rattle.pixels.proofs.inv_txfm_add_rows.Reads as inv_txfm_add_rows
use Rattle.pixels.proofs.inv_txfm_add_rows_lanes.Reads as inv_txfm_add_rows_lanes
use Rattle.pixels.proofs.inv_txfm_add_rows_lanes8.Reads as inv_txfm_add_rows_lanes8
use Rattle.quick.proofs.inv_txfm_add_rows_fast.Reads as inv_txfm_add_rows_fast
use Rattle.pixels.proofs.inv_txfm_add_clamped.Reads as inv_txfm_add_clamped
use Rattle.pixels.proofs.inv_txfm_add_clamped_lanes.Reads as inv_txfm_add_clamped_lanes
use Rattle.chroma.proofs.cctx.Reads as cctx
use Rattle.wht.proofs.fwht4x4.Reads as fwht4x4
use Rattle.wht.proofs.iwht4x4.Reads as iwht4x4
use Rattle.lossless.proofs.lossless_step.Reads as lossless_step
use Rattle.lossless.proofs.lossless_undo.Reads as lossless_undo
use Rattle.byteplanes.proofs.inv_txfm_add_bytes.Reads as inv_txfm_add_bytes
use Rattle.byteplanes.proofs.inv_txfm_add_bytes_lanes.Reads as inv_txfm_add_bytes_lanes
use Rattle.quick_bytes.proofs.inv_txfm_add_bytes_fast.Reads as inv_txfm_add_bytes_fast
use Rattle.byteplanes.proofs.inv_txfm_add_rows_bytes.Reads as inv_txfm_add_rows_bytes
use Rattle.byteplanes.proofs.inv_txfm_add_rows_bytes_lanes.Reads as inv_txfm_add_rows_bytes_lanes
use Rattle.quick_bytes.proofs.inv_txfm_add_rows_bytes_fast.Reads as inv_txfm_add_rows_bytes_fast
use Rattle.bytesteps.proofs.lossless_step_bytes.Reads as lossless_step_bytes
use Rattle.bytesteps.proofs.lossless_undo_bytes.Reads as lossless_undo_bytes
use Rattle.history.proofs.history_step.Reads as history_step
use Rattle.history.proofs.history_undo.Reads as history_undo
use Rattle.history.proofs.history_withdraw.Reads as history_withdraw
use Rattle.history.proofs.history_can_withdraw.Reads as history_can_withdraw
use Rattle.history.proofs.history_rebuild.Reads as history_rebuild
use Rattle.folding_code.proofs.history_fold.Reads as history_fold
use Rattle.av1.proofs.av1_inv_dct.Reads as av1_inv_dct
use Rattle.av1_wht.proofs.av1_inv_wht4x4.Reads as av1_inv_wht4x4
use Rattle.panel.proofs.panel_inv_txfm_recon_f32.Reads as panel_inv_txfm_recon_f32
use Rattle.panel.proofs.panel_inv_txfm_recon_f32_lanes.Reads as panel_inv_txfm_recon_f32_lanes
use Rattle.panel.proofs.panel_inv_txfm_recon_f32_lanes8.Reads as panel_inv_txfm_recon_f32_lanes8
use Rattle.panel.proofs.panel_inv_txfm_recon_f32_fast.Reads as panel_inv_txfm_recon_f32_fast
use Rattle.panel.proofs.panel_inv_txfm_recon_f32_rows.Reads as panel_inv_txfm_recon_f32_rows
use Rattle.panel.proofs.panel_inv_txfm_recon_f32_rows_lanes.Reads as panel_inv_txfm_recon_f32_rows_lanes
use Rattle.panel.proofs.panel_inv_txfm_recon_f32_rows_lanes8.Reads as panel_inv_txfm_recon_f32_rows_lanes8
use Rattle.panel.proofs.panel_inv_txfm_recon_f32_rows_fast.Reads as panel_inv_txfm_recon_f32_rows_fast
use Rattle.panel.proofs.panel_inv_txfm_recon_f32_clamped.Reads as panel_inv_txfm_recon_f32_clamped
use Rattle.panel.proofs.panel_inv_txfm_recon_f32_clamped_lanes.Reads as panel_inv_txfm_recon_f32_clamped_lanes
use Rattle.panel.proofs.panel_inv_txfm_add.Reads as panel_inv_txfm_add
use Rattle.panel.proofs.panel_inv_txfm_add_lanes.Reads as panel_inv_txfm_add_lanes
use Rattle.panel.proofs.panel_inv_txfm_add_lanes8.Reads as panel_inv_txfm_add_lanes8
use Rattle.panel.proofs.panel_inv_txfm_add_fast.Reads as panel_inv_txfm_add_fast
use Rattle.panel.proofs.panel_inv_txfm_add_rows.Reads as panel_inv_txfm_add_rows
use Rattle.panel.proofs.panel_inv_txfm_add_rows_lanes.Reads as panel_inv_txfm_add_rows_lanes
use Rattle.panel.proofs.panel_inv_txfm_add_rows_lanes8.Reads as panel_inv_txfm_add_rows_lanes8
use Rattle.panel.proofs.panel_inv_txfm_add_rows_fast.Reads as panel_inv_txfm_add_rows_fast
use Rattle.panel.proofs.panel_inv_txfm_add_clamped.Reads as panel_inv_txfm_add_clamped
use Rattle.panel.proofs.panel_inv_txfm_add_clamped_lanes.Reads as panel_inv_txfm_add_clamped_lanes
use Rattle.panel.proofs.panel_cctx.Reads as panel_cctx
use Rattle.panel.proofs.panel_fwht4x4.Reads as panel_fwht4x4
use Rattle.panel.proofs.panel_iwht4x4.Reads as panel_iwht4x4
use Rattle.panel.proofs.panel_lossless_step.Reads as panel_lossless_step
use Rattle.panel.proofs.panel_lossless_undo.Reads as panel_lossless_undo
use Rattle.panel.proofs.bytes.panel_inv_txfm_add_bytes.Reads as panel_inv_txfm_add_bytes
use Rattle.panel_bytes.proofs.panel_inv_txfm_add_bytes.Reads as alone_inv_txfm_add_bytes
use Rattle.panel.proofs.bytes.panel_inv_txfm_add_bytes_lanes.Reads as panel_inv_txfm_add_bytes_lanes
use Rattle.panel.proofs.bytes.panel_inv_txfm_add_bytes_fast.Reads as panel_inv_txfm_add_bytes_fast
use Rattle.panel_bytes.proofs.panel_inv_txfm_add_bytes_lanes.Reads as alone_inv_txfm_add_bytes_lanes
use Rattle.panel_bytes.proofs.panel_inv_txfm_add_bytes_fast.Reads as alone_inv_txfm_add_bytes_fast
use Rattle.panel.proofs.bytes.panel_inv_txfm_add_rows_bytes.Reads as panel_inv_txfm_add_rows_bytes
use Rattle.panel_bytes.proofs.panel_inv_txfm_add_rows_bytes.Reads as alone_inv_txfm_add_rows_bytes
use Rattle.panel.proofs.bytes.panel_inv_txfm_add_rows_bytes_lanes.Reads as panel_inv_txfm_add_rows_bytes_lanes
use Rattle.panel.proofs.bytes.panel_inv_txfm_add_rows_bytes_fast.Reads as panel_inv_txfm_add_rows_bytes_fast
use Rattle.panel_bytes.proofs.panel_inv_txfm_add_rows_bytes_lanes.Reads as alone_inv_txfm_add_rows_bytes_lanes
use Rattle.panel_bytes.proofs.panel_inv_txfm_add_rows_bytes_fast.Reads as alone_inv_txfm_add_rows_bytes_fast
use Rattle.panel.proofs.bytes.panel_lossless_step_bytes.Reads as panel_lossless_step_bytes
use Rattle.panel_bytes.proofs.panel_lossless_step_bytes.Reads as alone_lossless_step_bytes
use Rattle.panel.proofs.bytes.panel_lossless_undo_bytes.Reads as panel_lossless_undo_bytes
use Rattle.panel_bytes.proofs.panel_lossless_undo_bytes.Reads as alone_lossless_undo_bytes
use Rattle.panel.proofs.panel_history_step.Reads as panel_history_step
use Rattle.panel.proofs.panel_history_undo.Reads as panel_history_undo
use Rattle.panel.proofs.panel_history_withdraw.Reads as panel_history_withdraw
use Rattle.panel.proofs.panel_history_can_withdraw.Reads as panel_history_can_withdraw
use Rattle.panel.proofs.panel_history_rebuild.Reads as panel_history_rebuild
use Rattle.panel.proofs.panel_history_fold.Reads as panel_history_fold
use Rattle.panel.proofs.panel_av1_inv_dct.Reads as panel_av1_inv_dct
use Rattle.panel.proofs.panel_av1_inv_wht4x4.Reads as panel_av1_inv_wht4x4
use Rattle.claims.specs.Promises.{Promised}

-- output, coefficients, type, size, depth, prediction
abbrev filling : Reading → Out 3 Recon.ps Recon.r
filling how κs a x left =
    ((x, left.0.now) ≡ float_of how a.0.now a.1.0.now a.1.1.0 a.1.1.1.0 a.1.1.1.1.0 a.1.1.1.1.1.0.now)
    × (x.number ≡ 0 → Exact how left.0.now a.1.0.now a.1.1.0 a.1.1.1.0 a.1.1.1.1.0 a.1.1.1.1.1.0.now)

pub inv-txfm-recon-f32-promised : Promised 3 Recon.ps Recon.r inv_txfm_recon_f32.Asked inv_txfm_recon_f32.Learnt (filling strict)
inv-txfm-recon-f32-promised = (λ κs a. tt, λ κs a x left p. p)

pub panel-inv-txfm-recon-f32-promised : Promised 3 Recon.ps Recon.r panel_inv_txfm_recon_f32.Asked panel_inv_txfm_recon_f32.Learnt (filling strict)
panel-inv-txfm-recon-f32-promised = (λ κs a. tt, λ κs a x left p. p)

pub inv-txfm-recon-f32-lanes-promised : Promised 3 Recon.ps Recon.r inv_txfm_recon_f32_lanes.Asked inv_txfm_recon_f32_lanes.Learnt (filling strict)
inv-txfm-recon-f32-lanes-promised = (λ κs a. tt, λ κs a x left p. p)

pub inv-txfm-recon-f32-lanes8-promised : Promised 3 Recon.ps Recon.r inv_txfm_recon_f32_lanes8.Asked inv_txfm_recon_f32_lanes8.Learnt (filling strict)
inv-txfm-recon-f32-lanes8-promised = (λ κs a. tt, λ κs a x left p. p)

pub inv-txfm-recon-f32-fast-promised : Promised 3 Recon.ps Recon.r inv_txfm_recon_f32_fast.Asked inv_txfm_recon_f32_fast.Learnt (filling strict)
inv-txfm-recon-f32-fast-promised = (λ κs a. tt, λ κs a x left p. p)

pub panel-inv-txfm-recon-f32-lanes-promised : Promised 3 Recon.ps Recon.r panel_inv_txfm_recon_f32_lanes.Asked panel_inv_txfm_recon_f32_lanes.Learnt (filling strict)
panel-inv-txfm-recon-f32-lanes-promised = (λ κs a. tt, λ κs a x left p. p)

pub panel-inv-txfm-recon-f32-lanes8-promised : Promised 3 Recon.ps Recon.r panel_inv_txfm_recon_f32_lanes8.Asked panel_inv_txfm_recon_f32_lanes8.Learnt (filling strict)
panel-inv-txfm-recon-f32-lanes8-promised = (λ κs a. tt, λ κs a x left p. p)

pub panel-inv-txfm-recon-f32-fast-promised : Promised 3 Recon.ps Recon.r panel_inv_txfm_recon_f32_fast.Asked panel_inv_txfm_recon_f32_fast.Learnt (filling strict)
panel-inv-txfm-recon-f32-fast-promised = (λ κs a. tt, λ κs a x left p. p)

pub inv-txfm-recon-f32-rows-promised : Promised 3 Recon.ps Recon.r inv_txfm_recon_f32_rows.Asked inv_txfm_recon_f32_rows.Learnt (filling strict_rows)
inv-txfm-recon-f32-rows-promised = (λ κs a. tt, λ κs a x left p. p)

pub panel-inv-txfm-recon-f32-rows-promised : Promised 3 Recon.ps Recon.r panel_inv_txfm_recon_f32_rows.Asked panel_inv_txfm_recon_f32_rows.Learnt (filling strict_rows)
panel-inv-txfm-recon-f32-rows-promised = (λ κs a. tt, λ κs a x left p. p)

pub inv-txfm-recon-f32-rows-lanes-promised : Promised 3 Recon.ps Recon.r inv_txfm_recon_f32_rows_lanes.Asked inv_txfm_recon_f32_rows_lanes.Learnt (filling strict_rows)
inv-txfm-recon-f32-rows-lanes-promised = (λ κs a. tt, λ κs a x left p. p)

pub inv-txfm-recon-f32-rows-lanes8-promised : Promised 3 Recon.ps Recon.r inv_txfm_recon_f32_rows_lanes8.Asked inv_txfm_recon_f32_rows_lanes8.Learnt (filling strict_rows)
inv-txfm-recon-f32-rows-lanes8-promised = (λ κs a. tt, λ κs a x left p. p)

pub inv-txfm-recon-f32-rows-fast-promised : Promised 3 Recon.ps Recon.r inv_txfm_recon_f32_rows_fast.Asked inv_txfm_recon_f32_rows_fast.Learnt (filling strict_rows)
inv-txfm-recon-f32-rows-fast-promised = (λ κs a. tt, λ κs a x left p. p)

pub panel-inv-txfm-recon-f32-rows-lanes-promised : Promised 3 Recon.ps Recon.r panel_inv_txfm_recon_f32_rows_lanes.Asked panel_inv_txfm_recon_f32_rows_lanes.Learnt (filling strict_rows)
panel-inv-txfm-recon-f32-rows-lanes-promised = (λ κs a. tt, λ κs a x left p. p)

pub panel-inv-txfm-recon-f32-rows-lanes8-promised : Promised 3 Recon.ps Recon.r panel_inv_txfm_recon_f32_rows_lanes8.Asked panel_inv_txfm_recon_f32_rows_lanes8.Learnt (filling strict_rows)
panel-inv-txfm-recon-f32-rows-lanes8-promised = (λ κs a. tt, λ κs a x left p. p)

pub panel-inv-txfm-recon-f32-rows-fast-promised : Promised 3 Recon.ps Recon.r panel_inv_txfm_recon_f32_rows_fast.Asked panel_inv_txfm_recon_f32_rows_fast.Learnt (filling strict_rows)
panel-inv-txfm-recon-f32-rows-fast-promised = (λ κs a. tt, λ κs a x left p. p)

pub inv-txfm-recon-f32-clamped-promised : Promised 3 Recon.ps Recon.r inv_txfm_recon_f32_clamped.Asked inv_txfm_recon_f32_clamped.Learnt (filling clamped)
inv-txfm-recon-f32-clamped-promised = (λ κs a. tt, λ κs a x left p. p)

pub panel-inv-txfm-recon-f32-clamped-promised : Promised 3 Recon.ps Recon.r panel_inv_txfm_recon_f32_clamped.Asked panel_inv_txfm_recon_f32_clamped.Learnt (filling clamped)
panel-inv-txfm-recon-f32-clamped-promised = (λ κs a. tt, λ κs a x left p. p)

pub inv-txfm-recon-f32-clamped-lanes-promised : Promised 3 Recon.ps Recon.r inv_txfm_recon_f32_clamped_lanes.Asked inv_txfm_recon_f32_clamped_lanes.Learnt (filling clamped)
inv-txfm-recon-f32-clamped-lanes-promised = (λ κs a. tt, λ κs a x left p. p)

pub panel-inv-txfm-recon-f32-clamped-lanes-promised : Promised 3 Recon.ps Recon.r panel_inv_txfm_recon_f32_clamped_lanes.Asked panel_inv_txfm_recon_f32_clamped_lanes.Learnt (filling clamped)
panel-inv-txfm-recon-f32-clamped-lanes-promised = (λ κs a. tt, λ κs a x left p. p)

-- ---- pixels: the picture, its stride, coefficients, type, size, depth
abbrev adding : Reading → Out 2 Add.ps Add.r
adding how κs a x left =
    (x, left.0.now) ≡ add_of how a.0.now a.1.0 a.1.1.0.now a.1.1.1.0 a.1.1.1.1.0 a.1.1.1.1.1.0

pub inv-txfm-add-promised : Promised 2 Add.ps Add.r inv_txfm_add.Asked inv_txfm_add.Learnt (adding strict)
inv-txfm-add-promised = (λ κs a. tt, λ κs a x left p. p)

pub panel-inv-txfm-add-promised : Promised 2 Add.ps Add.r panel_inv_txfm_add.Asked panel_inv_txfm_add.Learnt (adding strict)
panel-inv-txfm-add-promised = (λ κs a. tt, λ κs a x left p. p)

pub inv-txfm-add-lanes-promised : Promised 2 Add.ps Add.r inv_txfm_add_lanes.Asked inv_txfm_add_lanes.Learnt (adding strict)
inv-txfm-add-lanes-promised = (λ κs a. tt, λ κs a x left p. p)

pub inv-txfm-add-lanes8-promised : Promised 2 Add.ps Add.r inv_txfm_add_lanes8.Asked inv_txfm_add_lanes8.Learnt (adding strict)
inv-txfm-add-lanes8-promised = (λ κs a. tt, λ κs a x left p. p)

pub inv-txfm-add-fast-promised : Promised 2 Add.ps Add.r inv_txfm_add_fast.Asked inv_txfm_add_fast.Learnt (adding strict)
inv-txfm-add-fast-promised = (λ κs a. tt, λ κs a x left p. p)

pub panel-inv-txfm-add-lanes-promised : Promised 2 Add.ps Add.r panel_inv_txfm_add_lanes.Asked panel_inv_txfm_add_lanes.Learnt (adding strict)
panel-inv-txfm-add-lanes-promised = (λ κs a. tt, λ κs a x left p. p)

pub panel-inv-txfm-add-lanes8-promised : Promised 2 Add.ps Add.r panel_inv_txfm_add_lanes8.Asked panel_inv_txfm_add_lanes8.Learnt (adding strict)
panel-inv-txfm-add-lanes8-promised = (λ κs a. tt, λ κs a x left p. p)

pub panel-inv-txfm-add-fast-promised : Promised 2 Add.ps Add.r panel_inv_txfm_add_fast.Asked panel_inv_txfm_add_fast.Learnt (adding strict)
panel-inv-txfm-add-fast-promised = (λ κs a. tt, λ κs a x left p. p)

pub inv-txfm-add-rows-promised : Promised 2 Add.ps Add.r inv_txfm_add_rows.Asked inv_txfm_add_rows.Learnt (adding strict_rows)
inv-txfm-add-rows-promised = (λ κs a. tt, λ κs a x left p. p)

pub panel-inv-txfm-add-rows-promised : Promised 2 Add.ps Add.r panel_inv_txfm_add_rows.Asked panel_inv_txfm_add_rows.Learnt (adding strict_rows)
panel-inv-txfm-add-rows-promised = (λ κs a. tt, λ κs a x left p. p)

pub inv-txfm-add-rows-lanes-promised : Promised 2 Add.ps Add.r inv_txfm_add_rows_lanes.Asked inv_txfm_add_rows_lanes.Learnt (adding strict_rows)
inv-txfm-add-rows-lanes-promised = (λ κs a. tt, λ κs a x left p. p)

pub inv-txfm-add-rows-lanes8-promised : Promised 2 Add.ps Add.r inv_txfm_add_rows_lanes8.Asked inv_txfm_add_rows_lanes8.Learnt (adding strict_rows)
inv-txfm-add-rows-lanes8-promised = (λ κs a. tt, λ κs a x left p. p)

pub inv-txfm-add-rows-fast-promised : Promised 2 Add.ps Add.r inv_txfm_add_rows_fast.Asked inv_txfm_add_rows_fast.Learnt (adding strict_rows)
inv-txfm-add-rows-fast-promised = (λ κs a. tt, λ κs a x left p. p)

pub panel-inv-txfm-add-rows-lanes-promised : Promised 2 Add.ps Add.r panel_inv_txfm_add_rows_lanes.Asked panel_inv_txfm_add_rows_lanes.Learnt (adding strict_rows)
panel-inv-txfm-add-rows-lanes-promised = (λ κs a. tt, λ κs a x left p. p)

pub panel-inv-txfm-add-rows-lanes8-promised : Promised 2 Add.ps Add.r panel_inv_txfm_add_rows_lanes8.Asked panel_inv_txfm_add_rows_lanes8.Learnt (adding strict_rows)
panel-inv-txfm-add-rows-lanes8-promised = (λ κs a. tt, λ κs a x left p. p)

pub panel-inv-txfm-add-rows-fast-promised : Promised 2 Add.ps Add.r panel_inv_txfm_add_rows_fast.Asked panel_inv_txfm_add_rows_fast.Learnt (adding strict_rows)
panel-inv-txfm-add-rows-fast-promised = (λ κs a. tt, λ κs a x left p. p)

pub inv-txfm-add-clamped-promised : Promised 2 Add.ps Add.r inv_txfm_add_clamped.Asked inv_txfm_add_clamped.Learnt (adding clamped)
inv-txfm-add-clamped-promised = (λ κs a. tt, λ κs a x left p. p)

pub panel-inv-txfm-add-clamped-promised : Promised 2 Add.ps Add.r panel_inv_txfm_add_clamped.Asked panel_inv_txfm_add_clamped.Learnt (adding clamped)
panel-inv-txfm-add-clamped-promised = (λ κs a. tt, λ κs a x left p. p)

pub inv-txfm-add-clamped-lanes-promised : Promised 2 Add.ps Add.r inv_txfm_add_clamped_lanes.Asked inv_txfm_add_clamped_lanes.Learnt (adding clamped)
inv-txfm-add-clamped-lanes-promised = (λ κs a. tt, λ κs a x left p. p)

pub panel-inv-txfm-add-clamped-lanes-promised : Promised 2 Add.ps Add.r panel_inv_txfm_add_clamped_lanes.Asked panel_inv_txfm_add_clamped_lanes.Learnt (adding clamped)
panel-inv-txfm-add-clamped-lanes-promised = (λ κs a. tt, λ κs a x left p. p)

-- ---- chroma pairs: the lists u and v, sine, cosine, depth
abbrev turning : Out 2 Cctx.ps Cctx.r
turning κs a x left =
    (x, (left.0.now, left.1.0.now)) ≡ cctx_of a.0.now a.1.0.now a.1.1.0 a.1.1.1.0 a.1.1.1.1.0

pub cctx-promised : Promised 2 Cctx.ps Cctx.r cctx.Asked cctx.Learnt turning
cctx-promised = (λ κs a. tt, λ κs a x left p. p)

pub panel-cctx-promised : Promised 2 Cctx.ps Cctx.r panel_cctx.Asked panel_cctx.Learnt turning
panel-cctx-promised = (λ κs a. tt, λ κs a x left p. p)

-- ---- the WHT: the list that is read, the list that is written
abbrev forward : Out 2 Wht.ps Wht.r
forward κs a x left = (x, left.1.0.now) ≡ fwht_of a.0.now a.1.0.now

pub fwht4x4-promised : Promised 2 Wht.ps Wht.r fwht4x4.Asked fwht4x4.Learnt forward
fwht4x4-promised = (λ κs a. tt, λ κs a x left p. p)

pub panel-fwht4x4-promised : Promised 2 Wht.ps Wht.r panel_fwht4x4.Asked panel_fwht4x4.Learnt forward
panel-fwht4x4-promised = (λ κs a. tt, λ κs a x left p. p)

abbrev inverse : Out 2 Wht.ps Wht.r
inverse κs a x left = (x, left.1.0.now) ≡ iwht_of a.0.now a.1.0.now

pub iwht4x4-promised : Promised 2 Wht.ps Wht.r iwht4x4.Asked iwht4x4.Learnt inverse
iwht4x4-promised = (λ κs a. tt, λ κs a x left p. p)

pub panel-iwht4x4-promised : Promised 2 Wht.ps Wht.r panel_iwht4x4.Asked panel_iwht4x4.Learnt inverse
panel-iwht4x4-promised = (λ κs a. tt, λ κs a x left p. p)

-- ---- lossless steps: depth, plane, stride, width, row, column, levels
abbrev stepping : Out 2 Lossless.ps Lossless.r
stepping κs a x left =
    (x, left.1.0.now) ≡ step_of a.1.0.now (attempt a.0 a.1.1.0 a.1.1.1.0 a.1.1.1.1.0 a.1.1.1.1.1.0 a.1.1.1.1.1.1.0.now)

pub lossless-step-promised : Promised 2 Lossless.ps Lossless.r lossless_step.Asked lossless_step.Learnt stepping
lossless-step-promised = (λ κs a. tt, λ κs a x left p. p)

pub panel-lossless-step-promised : Promised 2 Lossless.ps Lossless.r panel_lossless_step.Asked panel_lossless_step.Learnt stepping
panel-lossless-step-promised = (λ κs a. tt, λ κs a x left p. p)

abbrev undoing : Out 2 Lossless.ps Lossless.r
undoing κs a x left =
    (x, left.1.0.now) ≡ undo_of a.1.0.now (attempt a.0 a.1.1.0 a.1.1.1.0 a.1.1.1.1.0 a.1.1.1.1.1.0 a.1.1.1.1.1.1.0.now)

pub lossless-undo-promised : Promised 2 Lossless.ps Lossless.r lossless_undo.Asked lossless_undo.Learnt undoing
lossless-undo-promised = (λ κs a. tt, λ κs a x left p. p)

pub panel-lossless-undo-promised : Promised 2 Lossless.ps Lossless.r panel_lossless_undo.Asked panel_lossless_undo.Learnt undoing
panel-lossless-undo-promised = (λ κs a. tt, λ κs a x left p. p)

-- ---- planes of bytes: the picture, its stride, coefficients, type, size, depth
abbrev adding_bytes : Reading → Out 2 AddBytes.ps AddBytes.r
adding_bytes how κs a x left =
    (x, left.0.now) ≡ bytes_of how a.0.now a.1.0 a.1.1.0.now a.1.1.1.0 a.1.1.1.1.0 a.1.1.1.1.1.0

pub inv-txfm-add-bytes-promised : Promised 2 AddBytes.ps AddBytes.r inv_txfm_add_bytes.Asked inv_txfm_add_bytes.Learnt (adding_bytes strict)
inv-txfm-add-bytes-promised = (λ κs a. tt, λ κs a x left p. p)

pub panel-inv-txfm-add-bytes-promised : Promised 2 AddBytes.ps AddBytes.r panel_inv_txfm_add_bytes.Asked panel_inv_txfm_add_bytes.Learnt (adding_bytes strict)
panel-inv-txfm-add-bytes-promised = (λ κs a. tt, λ κs a x left p. p)

pub alone-inv-txfm-add-bytes-promised : Promised 2 AddBytes.ps AddBytes.r alone_inv_txfm_add_bytes.Asked alone_inv_txfm_add_bytes.Learnt (adding_bytes strict)
alone-inv-txfm-add-bytes-promised = (λ κs a. tt, λ κs a x left p. p)

pub inv-txfm-add-bytes-lanes-promised : Promised 2 AddBytes.ps AddBytes.r inv_txfm_add_bytes_lanes.Asked inv_txfm_add_bytes_lanes.Learnt (adding_bytes strict)
inv-txfm-add-bytes-lanes-promised = (λ κs a. tt, λ κs a x left p. p)

pub inv-txfm-add-bytes-fast-promised : Promised 2 AddBytes.ps AddBytes.r inv_txfm_add_bytes_fast.Asked inv_txfm_add_bytes_fast.Learnt (adding_bytes strict)
inv-txfm-add-bytes-fast-promised = (λ κs a. tt, λ κs a x left p. p)

pub panel-inv-txfm-add-bytes-lanes-promised : Promised 2 AddBytes.ps AddBytes.r panel_inv_txfm_add_bytes_lanes.Asked panel_inv_txfm_add_bytes_lanes.Learnt (adding_bytes strict)
panel-inv-txfm-add-bytes-lanes-promised = (λ κs a. tt, λ κs a x left p. p)

pub panel-inv-txfm-add-bytes-fast-promised : Promised 2 AddBytes.ps AddBytes.r panel_inv_txfm_add_bytes_fast.Asked panel_inv_txfm_add_bytes_fast.Learnt (adding_bytes strict)
panel-inv-txfm-add-bytes-fast-promised = (λ κs a. tt, λ κs a x left p. p)

pub alone-inv-txfm-add-bytes-lanes-promised : Promised 2 AddBytes.ps AddBytes.r alone_inv_txfm_add_bytes_lanes.Asked alone_inv_txfm_add_bytes_lanes.Learnt (adding_bytes strict)
alone-inv-txfm-add-bytes-lanes-promised = (λ κs a. tt, λ κs a x left p. p)

pub alone-inv-txfm-add-bytes-fast-promised : Promised 2 AddBytes.ps AddBytes.r alone_inv_txfm_add_bytes_fast.Asked alone_inv_txfm_add_bytes_fast.Learnt (adding_bytes strict)
alone-inv-txfm-add-bytes-fast-promised = (λ κs a. tt, λ κs a x left p. p)

pub inv-txfm-add-rows-bytes-promised : Promised 2 AddBytes.ps AddBytes.r inv_txfm_add_rows_bytes.Asked inv_txfm_add_rows_bytes.Learnt (adding_bytes strict_rows)
inv-txfm-add-rows-bytes-promised = (λ κs a. tt, λ κs a x left p. p)

pub panel-inv-txfm-add-rows-bytes-promised : Promised 2 AddBytes.ps AddBytes.r panel_inv_txfm_add_rows_bytes.Asked panel_inv_txfm_add_rows_bytes.Learnt (adding_bytes strict_rows)
panel-inv-txfm-add-rows-bytes-promised = (λ κs a. tt, λ κs a x left p. p)

pub alone-inv-txfm-add-rows-bytes-promised : Promised 2 AddBytes.ps AddBytes.r alone_inv_txfm_add_rows_bytes.Asked alone_inv_txfm_add_rows_bytes.Learnt (adding_bytes strict_rows)
alone-inv-txfm-add-rows-bytes-promised = (λ κs a. tt, λ κs a x left p. p)

pub inv-txfm-add-rows-bytes-lanes-promised : Promised 2 AddBytes.ps AddBytes.r inv_txfm_add_rows_bytes_lanes.Asked inv_txfm_add_rows_bytes_lanes.Learnt (adding_bytes strict_rows)
inv-txfm-add-rows-bytes-lanes-promised = (λ κs a. tt, λ κs a x left p. p)

pub inv-txfm-add-rows-bytes-fast-promised : Promised 2 AddBytes.ps AddBytes.r inv_txfm_add_rows_bytes_fast.Asked inv_txfm_add_rows_bytes_fast.Learnt (adding_bytes strict_rows)
inv-txfm-add-rows-bytes-fast-promised = (λ κs a. tt, λ κs a x left p. p)

pub panel-inv-txfm-add-rows-bytes-lanes-promised : Promised 2 AddBytes.ps AddBytes.r panel_inv_txfm_add_rows_bytes_lanes.Asked panel_inv_txfm_add_rows_bytes_lanes.Learnt (adding_bytes strict_rows)
panel-inv-txfm-add-rows-bytes-lanes-promised = (λ κs a. tt, λ κs a x left p. p)

pub panel-inv-txfm-add-rows-bytes-fast-promised : Promised 2 AddBytes.ps AddBytes.r panel_inv_txfm_add_rows_bytes_fast.Asked panel_inv_txfm_add_rows_bytes_fast.Learnt (adding_bytes strict_rows)
panel-inv-txfm-add-rows-bytes-fast-promised = (λ κs a. tt, λ κs a x left p. p)

pub alone-inv-txfm-add-rows-bytes-lanes-promised : Promised 2 AddBytes.ps AddBytes.r alone_inv_txfm_add_rows_bytes_lanes.Asked alone_inv_txfm_add_rows_bytes_lanes.Learnt (adding_bytes strict_rows)
alone-inv-txfm-add-rows-bytes-lanes-promised = (λ κs a. tt, λ κs a x left p. p)

pub alone-inv-txfm-add-rows-bytes-fast-promised : Promised 2 AddBytes.ps AddBytes.r alone_inv_txfm_add_rows_bytes_fast.Asked alone_inv_txfm_add_rows_bytes_fast.Learnt (adding_bytes strict_rows)
alone-inv-txfm-add-rows-bytes-fast-promised = (λ κs a. tt, λ κs a x left p. p)

-- ---- planes of bytes, lossless steps: depth, plane, stride, width, row, column, levels
abbrev stepping_bytes : (List ℕ → Step → Answer × List ℕ) → Out 2 LosslessBytes.ps LosslessBytes.r
stepping_bytes call κs a x left =
    (x, left.1.0.now) ≡ call a.1.0.now (attempt a.0 a.1.1.0 a.1.1.1.0 a.1.1.1.1.0 a.1.1.1.1.1.0 a.1.1.1.1.1.1.0.now)

pub lossless-step-bytes-promised : Promised 2 LosslessBytes.ps LosslessBytes.r lossless_step_bytes.Asked lossless_step_bytes.Learnt (stepping_bytes step_bytes)
lossless-step-bytes-promised = (λ κs a. tt, λ κs a x left p. p)

pub panel-lossless-step-bytes-promised : Promised 2 LosslessBytes.ps LosslessBytes.r panel_lossless_step_bytes.Asked panel_lossless_step_bytes.Learnt (stepping_bytes step_bytes)
panel-lossless-step-bytes-promised = (λ κs a. tt, λ κs a x left p. p)

pub alone-lossless-step-bytes-promised : Promised 2 LosslessBytes.ps LosslessBytes.r alone_lossless_step_bytes.Asked alone_lossless_step_bytes.Learnt (stepping_bytes step_bytes)
alone-lossless-step-bytes-promised = (λ κs a. tt, λ κs a x left p. p)

pub lossless-undo-bytes-promised : Promised 2 LosslessBytes.ps LosslessBytes.r lossless_undo_bytes.Asked lossless_undo_bytes.Learnt (stepping_bytes undo_bytes)
lossless-undo-bytes-promised = (λ κs a. tt, λ κs a x left p. p)

pub panel-lossless-undo-bytes-promised : Promised 2 LosslessBytes.ps LosslessBytes.r panel_lossless_undo_bytes.Asked panel_lossless_undo_bytes.Learnt (stepping_bytes undo_bytes)
panel-lossless-undo-bytes-promised = (λ κs a. tt, λ κs a x left p. p)

pub alone-lossless-undo-bytes-promised : Promised 2 LosslessBytes.ps LosslessBytes.r alone_lossless_undo_bytes.Asked alone_lossless_undo_bytes.Learnt (stepping_bytes undo_bytes)
alone-lossless-undo-bytes-promised = (λ κs a. tt, λ κs a x left p. p)

-- ---- histories: plane, stride, width, rows, and the lent memory: steps, levels, index
abbrev remembering : Out 5 HistoryStep.ps HistoryStep.r
remembering κs a x left =
    (x, lent left.1.0.now left.1.1.1.1.1.1.1.1.0.now left.1.1.1.1.1.1.1.1.1.0.now left.1.1.1.1.1.1.1.1.1.1.0.now)
    ≡ Remaining.step_of (area (length a.1.0.now) a.1.1.0 a.1.1.1.0 a.1.1.1.1.0) a.0 a.1.1.1.1.1.0 a.1.1.1.1.1.1.0 a.1.1.1.1.1.1.1.0.now (lent a.1.0.now a.1.1.1.1.1.1.1.1.0.now a.1.1.1.1.1.1.1.1.1.0.now a.1.1.1.1.1.1.1.1.1.1.0.now)

pub history-step-promised : Promised 5 HistoryStep.ps HistoryStep.r history_step.Asked history_step.Learnt remembering
history-step-promised = (λ κs a. tt, λ κs a x left p. p)

pub panel-history-step-promised : Promised 5 HistoryStep.ps HistoryStep.r panel_history_step.Asked panel_history_step.Learnt remembering
panel-history-step-promised = (λ κs a. tt, λ κs a x left p. p)

abbrev undoing_newest : Out 4 HistoryUndo.ps HistoryUndo.r
undoing_newest κs a x left = (x, lent left.0.now left.1.1.1.1.0.now left.1.1.1.1.1.0.now left.1.1.1.1.1.1.0.now) ≡ Remaining.undo_of (area (length a.0.now) a.1.0 a.1.1.0 a.1.1.1.0) (lent a.0.now a.1.1.1.1.0.now a.1.1.1.1.1.0.now a.1.1.1.1.1.1.0.now)

pub history-undo-promised : Promised 4 HistoryUndo.ps HistoryUndo.r history_undo.Asked history_undo.Learnt undoing_newest
history-undo-promised = (λ κs a. tt, λ κs a x left p. p)

pub panel-history-undo-promised : Promised 4 HistoryUndo.ps HistoryUndo.r panel_history_undo.Asked panel_history_undo.Learnt undoing_newest
panel-history-undo-promised = (λ κs a. tt, λ κs a x left p. p)

abbrev withdrawing : Out 4 HistoryWithdraw.ps HistoryWithdraw.r
withdrawing κs a x left = (x, lent left.0.now left.1.1.1.1.1.0.now left.1.1.1.1.1.1.0.now left.1.1.1.1.1.1.1.0.now) ≡ withdraw_of (area (length a.0.now) a.1.0 a.1.1.0 a.1.1.1.0) a.1.1.1.1.0 (lent a.0.now a.1.1.1.1.1.0.now a.1.1.1.1.1.1.0.now a.1.1.1.1.1.1.1.0.now)

pub history-withdraw-promised : Promised 4 HistoryWithdraw.ps HistoryWithdraw.r history_withdraw.Asked history_withdraw.Learnt withdrawing
history-withdraw-promised = (λ κs a. tt, λ κs a x left p. p)

pub panel-history-withdraw-promised : Promised 4 HistoryWithdraw.ps HistoryWithdraw.r panel_history_withdraw.Asked panel_history_withdraw.Learnt withdrawing
panel-history-withdraw-promised = (λ κs a. tt, λ κs a x left p. p)

abbrev asking : Out 4 HistoryCan.ps HistoryCan.r
asking κs a x left = x ≡ withdraw_verdict (area (length a.0.now) a.1.0 a.1.1.0 a.1.1.1.0) a.1.1.1.1.0 (lent a.0.now a.1.1.1.1.1.0.now a.1.1.1.1.1.1.0.now a.1.1.1.1.1.1.1.0.now)

pub history-can-withdraw-promised : Promised 4 HistoryCan.ps HistoryCan.r history_can_withdraw.Asked history_can_withdraw.Learnt asking
history-can-withdraw-promised = (λ κs a. tt, λ κs a x left p. p)

pub panel-history-can-withdraw-promised : Promised 4 HistoryCan.ps HistoryCan.r panel_history_can_withdraw.Asked panel_history_can_withdraw.Learnt asking
panel-history-can-withdraw-promised = (λ κs a. tt, λ κs a x left p. p)

abbrev rebuilding : Out 4 HistoryRebuild.ps HistoryRebuild.r
rebuilding κs a x left = (x, left.1.1.1.1.1.1.0.now) ≡ rebuild_of (area (length a.0.now) a.1.0 a.1.1.0 a.1.1.1.0) a.1.1.1.1.0.now a.1.1.1.1.1.0.now a.1.1.1.1.1.1.0.now

pub history-rebuild-promised : Promised 4 HistoryRebuild.ps HistoryRebuild.r history_rebuild.Asked history_rebuild.Learnt rebuilding
history-rebuild-promised = (λ κs a. tt, λ κs a x left p. p)

pub panel-history-rebuild-promised : Promised 4 HistoryRebuild.ps HistoryRebuild.r panel_history_rebuild.Asked panel_history_rebuild.Learnt rebuilding
panel-history-rebuild-promised = (λ κs a. tt, λ κs a x left p. p)

abbrev folding_steps : Out 4 HistoryFold.ps HistoryFold.r
folding_steps κs a x left = (x, three_of left.1.1.1.1.0.now left.1.1.1.1.1.0.now left.1.1.1.1.1.1.0.now) ≡ fold_of (area (length a.0.now) a.1.0 a.1.1.0 a.1.1.1.0) a.1.1.1.1.0.now a.1.1.1.1.1.0.now a.1.1.1.1.1.1.0.now

pub history-fold-promised : Promised 4 HistoryFold.ps HistoryFold.r history_fold.Asked history_fold.Learnt folding_steps
history-fold-promised = (λ κs a. tt, λ κs a x left p. p)

pub panel-history-fold-promised : Promised 4 HistoryFold.ps HistoryFold.r panel_history_fold.Asked panel_history_fold.Learnt folding_steps
panel-history-fold-promised = (λ κs a. tt, λ κs a x left p. p)

-- ---- AV1: length, bits, list; bits, list
abbrev dct : Out 1 Av1Dct.ps Av1Dct.r
dct κs a x left = (x, left.1.1.0.now) ≡ dct_of a.0 a.1.0 a.1.1.0.now

pub av1-inv-dct-promised : Promised 1 Av1Dct.ps Av1Dct.r av1_inv_dct.Asked av1_inv_dct.Learnt dct
av1-inv-dct-promised = (λ κs a. tt, λ κs a x left p. p)

pub panel-av1-inv-dct-promised : Promised 1 Av1Dct.ps Av1Dct.r panel_av1_inv_dct.Asked panel_av1_inv_dct.Learnt dct
panel-av1-inv-dct-promised = (λ κs a. tt, λ κs a x left p. p)

abbrev wht : Out 1 Av1Wht.ps Av1Wht.r
wht κs a x left = (x, left.1.0.now) ≡ wht_of a.0 a.1.0.now

pub av1-inv-wht4x4-promised : Promised 1 Av1Wht.ps Av1Wht.r av1_inv_wht4x4.Asked av1_inv_wht4x4.Learnt wht
av1-inv-wht4x4-promised = (λ κs a. tt, λ κs a x left p. p)

pub panel-av1-inv-wht4x4-promised : Promised 1 Av1Wht.ps Av1Wht.r panel_av1_inv_wht4x4.Asked panel_av1_inv_wht4x4.Learnt wht
panel-av1-inv-wht4x4-promised = (λ κs a. tt, λ κs a x left p. p)
