-- Blocks without a side of 64, at depth 8. Assumes nothing.
--     cut-whole           such a side is transformed whole
--     residual-once       and each residual serves one sample
--     bytes-added         the wide call's pixels, read back: each byte of the block with its residual, every other as it was
use mathlib.Core.Path.{◌≡◌, ap, ◌∙◌}
use mathlib.Core.Bool.{Bool, true, false, cond}
use mathlib.Core.List.{List, map}
use Prim.Native.Nat.{ℕ, ◌/◌, ◌%◌, ◌^◌, ◌≤◌}
use native.Mathlib.Nat as N
use borrow.Author.Tests.{le-leb}
use lib.IntN.{ℤ, pos, nat_abs}
use lib.ListN.{length, get_or, length-map, get_or-map}
use Rattle.whole.specs.Sums.{tab}
use Rattle.whole.specs.Grid.{in_block}
use Rattle.whole.proofs.Fill.{tab-same}
use Rattle.octets.proofs.Lists.{map-tab}
use Rattle.tables.specs.Sizes.{cut}
use Rattle.pixels.specs.Pixels.{repeats, residual_of, residual_at, pixel_of}
use Rattle.verdicts.specs.Verdicts.{w_of, h_of}
use Rattle.pixels.specs.Calls.{added}
use Rattle.byteplanes.specs.Bytes.{byte_of}

pub cut-whole : (n : ℕ) → n ≤ 32 → cut n ≡ n
cut-whole n h = rw (le-leb n 32 h)

repeat-once : (n x : ℕ) → n ≤ 32 → x / 2 ^ repeats n ≡ x
repeat-once n x h = ap (λ b. x / 2 ^ cond b 0 1) (le-leb n 32 h) ∙ N.div-one x

pub residual-once : (rowwise : Bool) (tx txtp depth : ℕ) (cs : List ℤ) → w_of tx ≤ 32 → h_of tx ≤ 32 → (y x : ℕ) → residual_at rowwise tx txtp depth cs y x ≡ residual_of rowwise tx txtp depth cs y x
residual-once rowwise tx txtp depth cs p q y x =
    ap (λ r. residual_of rowwise tx txtp depth cs r (x / 2 ^ repeats (w_of tx))) (repeat-once (h_of tx) y q)
    ∙ ap (residual_of rowwise tx txtp depth cs y) (repeat-once (w_of tx) x p)

pub bytes-added : (rowwise : Bool) (dst : List ℕ) (stride : ℕ) (cs : List ℤ) (txtp tx depth : ℕ) → depth ≡ 8
    → map nat_abs (added rowwise (map pos dst) stride cs txtp tx depth)
    ≡ tab (length dst) (λ i. cond (in_block stride (w_of tx) (h_of tx) i) (byte_of (get_or dst i 0) (residual_at rowwise tx txtp depth cs (i / stride) (i % stride))) (get_or dst i 0))
bytes-added rowwise dst stride cs txtp tx depth eight =
    map-tab nat_abs (length (map pos dst)) _
    ∙ ap (λ n. tab n (λ i. nat_abs (cond (in_block stride (w_of tx) (h_of tx) i) (pixel_of depth (get_or (map pos dst) i (pos 0)) (R i)) (get_or (map pos dst) i (pos 0))))) (length-map dst pos)
    ∙ tab-same (length dst) _ _ (λ i h. by_place i (in_block stride (w_of tx) (h_of tx) i))
  where
    R : ℕ → ℤ
    R i = residual_at rowwise tx txtp depth cs (i / stride) (i % stride)

    by_place : (i : ℕ) (t : Bool) → nat_abs (cond t (pixel_of depth (get_or (map pos dst) i (pos 0)) (R i)) (get_or (map pos dst) i (pos 0))) ≡ cond t (byte_of (get_or dst i 0) (R i)) (get_or dst i 0)
    by_place i true = ap (λ z. nat_abs (pixel_of depth z (R i))) (get_or-map pos dst i 0) ∙ ap (λ d. nat_abs (pixel_of d (pos (get_or dst i 0)) (R i))) eight
    by_place i false = ap nat_abs (get_or-map pos dst i 0)
