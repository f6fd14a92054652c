-- The call on bytes and the wide call on a plane of the same values, from document 02, section 4. Assumes nothing.
--     bytes-wide          at depth 8 and without a side of 64 the wide call gives the same answer and leaves the same values, taken or refused
--     accepted-wide       so for every accepted call on bytes
--     eight-never         refusal 8 never comes from a call on bytes; wide-eight-never: nor from the wide call on a plane of bytes
use mathlib.Core.Path.{◌≡◌, refl, sym, ap, ◌∙◌, subst}
use mathlib.Core.Bool.{Bool, true, false, ◌&&◌, cond}
use mathlib.Core.List.{List, map}
use Prim.Native.Nat.{ℕ, ◌+◌, ◌*◌, ◌-◌, ◌/◌, ◌%◌, ◌≤◌, ◌<◌}
use native.Mathlib.Omega.{arith}
use borrow.Author.Tests.{le-leb}
use lib.Dec.{T, eqb, leb}
use lib.IntN.{ℤ, pos, nat_abs}
use lib.Signed.{non_neg}
use lib.ListN.{length, get_or, length-map, get_or-map}
use Rattle.whole.specs.Numbers.{highest}
use Rattle.whole.specs.Search.{seek, cell_at}
use Rattle.whole.specs.Grid.{in_block}
use Rattle.whole.proofs.Fill.{length-tab, tab-at}
use Rattle.whole.proofs.Range.{clamp-in-range}
use Rattle.whole.proofs.Search.{seek-all}
use Rattle.octets.specs.Octets.{Bytes}
use Rattle.octets.proofs.Lists.{byte-plain, byte-is, bytes-all, bytes_back}
use Rattle.answers.specs.declared.Answer.{Answer}
use Rattle.answers.specs.Answers.{done, refused, unless, ends}
use Rattle.answers.proofs.Verdicts.{search-opens, either, search-either}
use Rattle.ranges.specs.Cells.{cell_ok}
use Rattle.tables.specs.Sizes.{cut, scaled}
use Rattle.tables.specs.Kinds.{hor_of, ver_of, has_kind}
use Rattle.pixels.specs.Pixels.{residual_at, pixel_of}
use Rattle.verdicts.specs.Verdicts.{w_of, h_of, kinds, on_plane, coeff_ok, coefficients, samples, add_verdict}
use Rattle.pixels.specs.Calls.{Reading, added, add_of}
use Rattle.byteplanes.specs.Bytes.{narrow, bytes_verdict, bytes_of}
use Rattle.byteplanes.proofs.Accepting.{onward, bytes-passed}

-- ---- no byte is out of range
pub no-eight : (w h stride : ℕ) (dst : List ℕ) → Bytes dst → samples w h 8 (map pos dst) stride ≡ done
no-eight w h stride dst b =
    search-opens 8 2 (h * w) (cell_at 0 stride w) (seek cell 0 (h * w)) done (omega (arith, seek-all cell 0 (h * w) all))
  where
    cell : ℕ → Bool
    cell = cell_ok (pos 0) (highest 8) (map pos dst) 0 stride w

    all : (k : ℕ) → k < 0 + h * w → cell k ≡ true
    all k l = rw (get_or-map pos dst (cell_at 0 stride w k) 0) (byte-is _ (bytes-all dst b (cell_at 0 stride w k)))

-- ---- the verdict
twice : (b : Bool) (a rest : Answer) → unless b a (unless b a rest) ≡ unless b a rest
twice true a rest = refl
twice false a rest = refl

-- 1, 2 and 11 add nothing to the wide call's tests
narrow-absorbed : (tx txtp : ℕ) (rest : Answer) → w_of tx ≤ 32 → h_of tx ≤ 32 → narrow tx 8 (kinds tx txtp 8 rest) ≡ kinds tx txtp 8 rest
narrow-absorbed tx txtp rest p q = rw (le-leb (w_of tx) 32 p, le-leb (h_of tx) 32 q) (twice (leb tx 24) (refused 2 0 0) _)

module _ (how : Reading) (dst : List ℕ) (stride : ℕ) (cs : List ℤ) (txtp tx : ℕ) (b : Bytes dst) where
  wide-verdict : add_verdict how.refuses (map pos dst) stride cs txtp tx 8 ≡ kinds tx txtp 8 (onward how.refuses (length dst) stride cs txtp tx 8)
  unfolding add_verdict
  wide-verdict =
      ap (λ a. kinds tx txtp 8 (on_plane (w_of tx) (h_of tx) (length (map pos dst)) stride (length cs) (coefficients how.refuses (w_of tx) (h_of tx) 8 cs a))) (no-eight (w_of tx) (h_of tx) stride dst b)
      ∙ ap (λ n. kinds tx txtp 8 (onward how.refuses n stride cs txtp tx 8)) (length-map dst pos)

-- ---- the pixels
module _ (rowwise : Bool) (dst : List ℕ) (stride : ℕ) (cs : List ℤ) (txtp tx : ℕ) where
  abbrev made : List ℤ
  made = added rowwise (map pos dst) stride cs txtp tx 8

  plain : (i : ℕ) → T (non_neg (cond (in_block stride (w_of tx) (h_of tx) i) (pixel_of 8 (get_or (map pos dst) i (pos 0)) (residual_at rowwise tx txtp 8 cs (i / stride) (i % stride))) (get_or (map pos dst) i (pos 0))))
  plain i = by_place (in_block stride (w_of tx) (h_of tx) i)
    where
      by_place : (t : Bool) → T (non_neg (cond t (pixel_of 8 (get_or (map pos dst) i (pos 0)) (residual_at rowwise tx txtp 8 cs (i / stride) (i % stride))) (get_or (map pos dst) i (pos 0))))
      by_place true = (byte-plain (pixel_of 8 (get_or (map pos dst) i (pos 0)) (residual_at rowwise tx txtp 8 cs (i / stride) (i % stride))) (clamp-in-range (pos 0) (pos 255) _ (record { le = tt }))).0
      by_place false = subst (λ (z : ℤ). T (non_neg z)) (sym (get_or-map pos dst i 0)) tt

  pixels-back : map pos (map nat_abs made) ≡ made
  pixels-back =
      bytes_back made (λ i l. subst (λ (z : ℤ). T (non_neg z)) (sym (tab-at (pos 0) (length (map pos dst)) _ i (subst (λ (n : ℕ). i < n) (length-tab (length (map pos dst)) _) l))) (plain i))

pub bytes-wide : (how : Reading) (dst : List ℕ) (stride : ℕ) (cs : List ℤ) (txtp tx : ℕ) → Bytes dst → w_of tx ≤ 32 → h_of tx ≤ 32
    → add_of how (map pos dst) stride cs txtp tx 8 ≡ ((bytes_of how dst stride cs txtp tx 8).0, map pos (bytes_of how dst stride cs txtp tx 8).1)
unfolding add_of bytes_of bytes_verdict
bytes-wide how dst stride cs txtp tx b p q =
    ap (λ a. ends a (map pos dst) (made how.rowwise dst stride cs txtp tx)) (wide-verdict how dst stride cs txtp tx b ∙ sym (narrow-absorbed tx txtp _ p q))
    ∙ ap (λ l. (v, l)) (by_answer (eqb v.number 0))
  where
    v : Answer
    v = bytes_verdict how.refuses (length dst) stride cs txtp tx 8

    by_answer : (t : Bool) → unless t (map pos dst) (made how.rowwise dst stride cs txtp tx) ≡ map pos (unless t dst (map nat_abs (made how.rowwise dst stride cs txtp tx)))
    by_answer true = sym (pixels-back how.rowwise dst stride cs txtp tx)
    by_answer false = refl

pub accepted-wide : (how : Reading) (dst : List ℕ) (stride : ℕ) (cs : List ℤ) (txtp tx depth : ℕ) → Bytes dst → (bytes_of how dst stride cs txtp tx depth).0.number ≡ 0
    → add_of how (map pos dst) stride cs txtp tx depth ≡ ((bytes_of how dst stride cs txtp tx depth).0, map pos (bytes_of how dst stride cs txtp tx depth).1)
unfolding bytes_of
accepted-wide how dst stride cs txtp tx depth b e =
    let n = (bytes-passed how.refuses (length dst) stride cs txtp tx depth e).narrow in
    subst (λ (d : ℕ). add_of how (map pos dst) stride cs txtp tx d ≡ ((bytes_of how dst stride cs txtp tx d).0, map pos (bytes_of how dst stride cs txtp tx d).1)) (sym n.eight) (bytes-wide how dst stride cs txtp tx b n.across n.down)

-- ---- 8 never comes
abbrev NotEight : Answer → Type 0
NotEight a = a.number ≡ 8 → ⊥

not_eight : (n s p : ℕ) → (n ≡ 8 → ⊥) → NotEight (refused n s p)
not_eight n s p h = h

module _ (refuses : Bool) (room stride : ℕ) (cs : List ℤ) (txtp tx depth : ℕ) where
  coefficients-not : NotEight (coefficients refuses (w_of tx) (h_of tx) depth cs done)
  coefficients-not =
      search-either 7 1 (cut (w_of tx) * cut (h_of tx)) (λ k. k) (seek (coeff_ok refuses (scaled (w_of tx) (h_of tx)) depth cs) 0 (cut (w_of tx) * cut (h_of tx))) done NotEight
      (λ l e. omega arith) (λ e. omega arith)

  kinds-not : NotEight (kinds tx txtp depth (onward refuses room stride cs txtp tx depth))
  kinds-not =
      either NotEight (leb 8 depth && leb depth 12) (refused 1 0 0) _ (λ t e. omega arith) (λ t.
      either NotEight (leb tx 24) (refused 2 0 0) _ (λ t e. omega arith) (λ t.
      either NotEight (leb txtp 255) (refused 3 0 0) _ (λ t e. omega arith) (λ t.
      either NotEight (has_kind (w_of tx) (hor_of txtp)) (refused 4 0 0) _ (λ t e. omega arith) (λ t.
      either NotEight (has_kind (h_of tx) (ver_of txtp)) (refused 4 0 1) _ (λ t e. omega arith) (λ t.
      either NotEight (leb (w_of tx) stride && leb stride 65536) (refused 5 0 0) _ (λ t e. omega arith) (λ t.
      either NotEight (leb (cut (w_of tx) * cut (h_of tx)) (length cs)) (refused 6 1 0) _ (λ t e. omega arith) (λ t.
      either NotEight (leb ((h_of tx - 1) * stride + w_of tx) room) (refused 6 2 0) _ (λ t e. omega arith) (λ t. coefficients-not))))))))

  verdict-not : NotEight (bytes_verdict refuses room stride cs txtp tx depth)
  unfolding bytes_verdict
  verdict-not =
      either NotEight (eqb depth 8) (refused 1 0 0) _ (λ t e. omega arith) (λ t.
      either NotEight (leb tx 24) (refused 2 0 0) _ (λ t e. omega arith) (λ t.
      either NotEight (leb (w_of tx) 32 && leb (h_of tx) 32) (refused 11 0 0) _ (λ t e. omega arith) (λ t. kinds-not)))

pub eight-never : (how : Reading) (dst : List ℕ) (stride : ℕ) (cs : List ℤ) (txtp tx depth : ℕ) → (bytes_of how dst stride cs txtp tx depth).0.number ≡ 8 → ⊥
unfolding bytes_of
eight-never how dst stride cs txtp tx depth = verdict-not how.refuses (length dst) stride cs txtp tx depth

pub wide-eight-never : (how : Reading) (dst : List ℕ) (stride : ℕ) (cs : List ℤ) (txtp tx : ℕ) → Bytes dst → (add_of how (map pos dst) stride cs txtp tx 8).0.number ≡ 8 → ⊥
unfolding add_of
wide-eight-never how dst stride cs txtp tx b e =
    kinds-not how.refuses (length dst) stride cs txtp tx 8 (ap (λ (a : Answer). a.number) (sym (wide-verdict how dst stride cs txtp tx b)) ∙ e)
