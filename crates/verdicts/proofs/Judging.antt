-- The verdicts of the pixel calls, taken apart. Assumes nothing.
--     flat-search, coeff-none     the search over sw rows of sh coefficients is the search over all of them; where any number passes, none is found
--     scalable-all                a coefficient that the call accepts may be scaled
--     Kinds, kinds-passed, kinds-opens, kinds-stays, kinds-err     refusals 1 to 4: what an answer of Done tells, when they pass, that they don't depend on what follows
--     Reach, Room, plane-passed, plane-opens, plane-stays, plane-err, buffers-passed, buffers-opens     so of refusals 5 and 6
--     AllFound, coefficients-passed, -opens, -stays, -scalable     so of refusal 7; coefficients that pass may be scaled
--     add-front, float-front      where refusals 1 to 6 pass, the rest is the verdict
--     Plane, Buffers, add-passed, float-passed, add-done, float-done     what a verdict of Done tells of the whole call; ready: an accepted block is ready for the passes
--     sides, last_row             the sides of a size; a plane that reaches the last row reaches every row
use mathlib.Core.Path.{◌≡◌, refl, sym, ap, ◌∙◌, subst}
use mathlib.Core.Bool.{Bool, true, false, ◌&&◌, cond}
use mathlib.Core.List.{List}
use Prim.Native.Nat.{ℕ, ◌+◌, ◌*◌, ◌-◌, ◌^◌, ◌≤◌, ◌<◌, zero-le}
use native.Mathlib.Nat as N
use native.Mathlib.Omega.{arith}
use borrow.Author.Tests.{leb-true, le-leb}
use lib.Dec.{T, leb, leb→le}
use lib.Pow.{pow_mono}
use lib.IntN.{ℤ, pos, negsuc, nat_abs}
use lib.ListN.{length, get_or}
use Rattle.whole.specs.Search.{seek, cell_at}
use Rattle.whole.specs.Numbers.{in_range, lowest, highest}
use Rattle.whole.specs.Grid.{grid_of, Bounded}
use Rattle.whole.proofs.Search.{seek-same, seek-all, seek-passed}
use Rattle.whole.proofs.Range.{in-range-size, lowest-size, highest-size}
use Rattle.whole.proofs.Cells.{cell-place, cell_in}
use Rattle.whole.proofs.Tests.{both, and-true, and_left, and_right, below_at}
use Rattle.answers.specs.declared.Answer.{Answer}
use Rattle.answers.specs.declared.Reason.{Reason}
use Rattle.answers.specs.Answers.{done, refused}
use Rattle.answers.specs.Reasons.{answer_of}
use Rattle.answers.proofs.Verdicts.{passed, search-passed, search-opens, stays, refuses}
use Rattle.ranges.specs.Cells.{cell_ok}
use Rattle.tables.specs.Sizes.{cut, scaled}
use Rattle.tables.specs.Kinds.{hor_of, ver_of, has_kind}
use Rattle.passes.specs.Passes.{scalable, Scalable, Ready}
use Rattle.passes.proofs.Steps.{shifts}
use Rattle.verdicts.specs.Verdicts.{w_of, h_of, Sides, kinds, coeff_ok, coefficients, samples, numbers, on_plane, add_front, add_verdict, on_buffers, float_front, float_verdict}

-- ---- coefficients
flat-cell : (w k : ℕ) → cell_at 0 w w k ≡ k
flat-cell w k = omega (arith, N.div-add-mod' k w)

pub flat-search : (lo hi : ℤ) (cs : List ℤ) (w n : ℕ) → seek (cell_ok lo hi cs 0 w w) 0 n ≡ seek (λ k. in_range lo hi (get_or cs k (pos 0))) 0 n
flat-search lo hi cs w n = seek-same (cell_ok lo hi cs 0 w w) (λ k. in_range lo hi (get_or cs k (pos 0))) 0 n (λ k l. ap (λ j. in_range lo hi (get_or cs j (pos 0))) (flat-cell w k))

pub coeff-none : (depth : ℕ) (cs : List ℤ) (n : ℕ) → n ≡ seek (coeff_ok false false depth cs) 0 n
coeff-none depth cs n = sym (seek-all (coeff_ok false false depth cs) 0 n (λ k l. refl) ∙ omega arith)

-- a number of any depth's range may be scaled
in-range-scalable : (depth : ℕ) → depth ≤ 12 → (v : ℤ) → in_range (lowest (depth + 7)) (highest (depth + 7)) v ≡ true → scalable v ≡ true
in-range-scalable depth deep v e =
    let q : depth + 7 ≤ 19 = omega arith in
    let l : 2 ^ (depth + 7) ≤ 2 ^ 19 = pow_mono q in
    by_size v (in-range-size (2 ^ 19) (lowest (depth + 7)) (highest (depth + 7)) v (omega (arith, lowest-size (depth + 7))) (omega (arith, highest-size (depth + 7))) e)
  where
    by_size : (v : ℤ) → nat_abs v ≤ 2 ^ 19 → scalable v ≡ true
    by_size (pos n) h = le-leb n 11864549 (omega arith)
    by_size (negsuc n) h = and-true (le-leb n 11864549 (omega arith)) refl

pub scalable-all : (refuses scale : Bool) (depth : ℕ) → depth ≤ 12 → (cs : List ℤ) (k : ℕ) → coeff_ok refuses scale depth cs k ≡ true → scale ≡ true → scalable (get_or cs k (pos 0)) ≡ true
scalable-all true scale depth deep cs k e s = in-range-scalable depth deep (get_or cs k (pos 0)) e
scalable-all false scale depth deep cs k e s = subst (λ (t : Bool). cond t (scalable (get_or cs k (pos 0))) true ≡ true) s e

-- ---- refusals 1 to 4
pub record Kinds (tx txtp depth : ℕ) : Type 0 where
  pub from : 8 ≤ depth
  pub to : depth ≤ 12
  pub size : tx < 25
  pub type : txtp ≤ 255
  pub across : has_kind (w_of tx) (hor_of txtp) ≡ true
  pub down : has_kind (h_of tx) (ver_of txtp) ≡ true

module _ (tx txtp depth : ℕ) where
  pub kinds-passed : (rest : Answer) → (kinds tx txtp depth rest).number ≡ 0 → Kinds tx txtp depth × (rest.number ≡ 0)
  kinds-passed rest e =
      let a = passed (leb 8 depth && leb depth 12) 0 0 0 _ e in
      let b = passed (leb tx 24) 1 0 0 _ a.1 in
      let c = passed (leb txtp 255) 2 0 0 _ b.1 in
      let d = passed (has_kind (w_of tx) (hor_of txtp)) 3 0 0 _ c.1 in
      let f = passed (has_kind (h_of tx) (ver_of txtp)) 3 0 1 rest d.1 in
      let g = both (leb 8 depth) (leb depth 12) a.0 in
      let h = leb-true tx 24 b.0 in
      (record { from = leb-true 8 depth g.0; to = leb-true depth 12 g.1; size = omega arith; type = leb-true txtp 255 c.0; across = d.0; down = f.0 }, f.1)

  pub kinds-opens : (rest : Answer) → Kinds tx txtp depth → kinds tx txtp depth rest ≡ rest
  kinds-opens rest k =
      let h : tx ≤ 24 = omega (arith, k.size) in
      rw (le-leb 8 depth k.from, le-leb depth 12 k.to, le-leb tx 24 h, le-leb txtp 255 k.type, k.across, k.down)

  pub kinds-stays : (rest : Answer) → ((kinds tx txtp depth done).number ≡ 0 → ⊥) → kinds tx txtp depth done ≡ kinds tx txtp depth rest
  kinds-stays rest h =
      sym (stays (leb 8 depth && leb depth 12) (refused 1 0 0) _ _ h (λ h.
      stays (leb tx 24) (refused 2 0 0) _ _ h (λ h.
      stays (leb txtp 255) (refused 3 0 0) _ _ h (λ h.
      stays (has_kind (w_of tx) (hor_of txtp)) (refused 4 0 0) _ _ h (λ h.
      stays (has_kind (h_of tx) (ver_of txtp)) (refused 4 0 1) done rest h (λ h. absurd (h refl)))))))

  -- a refusal by name stays what it is
  pub kinds-err : (rest : Answer) (r : Reason) → answer_of r ≡ kinds tx txtp depth done → answer_of r ≡ kinds tx txtp depth rest
  kinds-err rest r e = e ∙ kinds-stays rest (λ q. refuses r (ap (λ (a : Answer). a.number) e ∙ q))

-- ---- sides
side_ok : ℕ → Bool
side_ok n = leb 4 n && leb n 64

side : {n : ℕ} → T (side_ok n) → (4 ≤ n) × (n ≤ 64)
unfolding side_ok
side {n} t = (leb→le 4 n (and_left (leb 4 n) (leb n 64) t), leb→le n 64 (and_right (leb 4 n) (leb n 64) t))

pub sides : (tx : ℕ) → tx < 25 → Sides (w_of tx) (h_of tx)
unfolding side_ok
sides tx h =
    let t = below_at (λ i. side_ok (w_of i) && side_ok (h_of i)) 25 tt tx h in
    let p = side {n = w_of tx} (and_left (side_ok (w_of tx)) (side_ok (h_of tx)) t) in
    let q = side {n = h_of tx} (and_right (side_ok (w_of tx)) (side_ok (h_of tx)) t) in
    record { wide = p.0; narrow = p.1; high = q.0; low = q.1 }

-- ---- rows of a plane
pub last_row : (h stride w n : ℕ) → (h - 1) * stride + w ≤ n → (r : ℕ) → r < h → r * stride + w ≤ n
last_row h stride w n fit r l = let q : r ≤ h - 1 = omega arith in omega (arith, N.mul-le-mul_right stride q)

-- ---- refusals 5 and 6
pub record Reach (w h room stride count : ℕ) : Type 0 where
  pub wide : w ≤ stride
  pub most : stride ≤ 65536
  pub long : cut w * cut h ≤ count
  pub reach : (h - 1) * stride + w ≤ room

pub record Room (w h room count have : ℕ) : Type 0 where
  pub long : cut w * cut h ≤ count
  pub known : h * w ≤ have
  pub space : h * w ≤ room

module _ (w h room : ℕ) where
  pub plane-passed : (stride count : ℕ) (rest : Answer) → (on_plane w h room stride count rest).number ≡ 0 → Reach w h room stride count × (rest.number ≡ 0)
  plane-passed stride count rest e =
      let a = passed (leb w stride && leb stride 65536) 4 0 0 _ e in
      let b = passed (leb (cut w * cut h) count) 5 1 0 _ a.1 in
      let d = passed (leb ((h - 1) * stride + w) room) 5 2 0 rest b.1 in
      let c = both (leb w stride) (leb stride 65536) a.0 in
      (record { wide = leb-true w stride c.0; most = leb-true stride 65536 c.1; long = leb-true (cut w * cut h) count b.0; reach = leb-true ((h - 1) * stride + w) room d.0 }, d.1)

  pub plane-opens : (stride count : ℕ) (rest : Answer) → Reach w h room stride count → on_plane w h room stride count rest ≡ rest
  plane-opens stride count rest r =
      rw (le-leb w stride r.wide, le-leb stride 65536 r.most, le-leb (cut w * cut h) count r.long, le-leb ((h - 1) * stride + w) room r.reach)

  pub plane-stays : (stride count : ℕ) (rest : Answer) → ((on_plane w h room stride count done).number ≡ 0 → ⊥) → on_plane w h room stride count done ≡ on_plane w h room stride count rest
  plane-stays stride count rest q =
      sym (stays (leb w stride && leb stride 65536) (refused 5 0 0) _ _ q (λ r.
      stays (leb (cut w * cut h) count) (refused 6 1 0) _ _ r (λ r.
      stays (leb ((h - 1) * stride + w) room) (refused 6 2 0) done rest r (λ r. absurd (r refl)))))

  pub plane-err : (stride count : ℕ) (rest : Answer) (r : Reason) → answer_of r ≡ on_plane w h room stride count done → answer_of r ≡ on_plane w h room stride count rest
  plane-err stride count rest r e = e ∙ plane-stays stride count rest (λ q. refuses r (ap (λ (a : Answer). a.number) e ∙ q))

  pub buffers-passed : (count known : ℕ) (rest : Answer) → (on_buffers w h room count known rest).number ≡ 0 → Room w h room count known × (rest.number ≡ 0)
  buffers-passed count known rest e =
      let b = passed (leb (cut w * cut h) count) 5 1 0 _ e in
      let c = passed (leb (h * w) known) 5 2 0 _ b.1 in
      let d = passed (leb (h * w) room) 5 3 0 rest c.1 in
      (record { long = leb-true (cut w * cut h) count b.0; known = leb-true (h * w) known c.0; space = leb-true (h * w) room d.0 }, d.1)

  pub buffers-opens : (count known : ℕ) (rest : Answer) → Room w h room count known → on_buffers w h room count known rest ≡ rest
  buffers-opens count known rest r = rw (le-leb (cut w * cut h) count r.long, le-leb (h * w) known r.known, le-leb (h * w) room r.space)

-- ---- refusal 7
module _ (refuses : Bool) (w h depth : ℕ) (cs : List ℤ) where
  abbrev count : ℕ
  count = cut w * cut h

  abbrev found : ℕ
  found = seek (coeff_ok refuses (scaled w h) depth cs) 0 count

  -- the search for one out of range came to the end
  abbrev pub AllFound : Type 0
  AllFound = count ≤ found

  pub coefficients-passed : (rest : Answer) → (coefficients refuses w h depth cs rest).number ≡ 0 → AllFound × (rest.number ≡ 0)
  coefficients-passed rest = search-passed 6 1 count (λ k. k) found rest

  pub coefficients-opens : (rest : Answer) → AllFound → coefficients refuses w h depth cs rest ≡ rest
  coefficients-opens rest = search-opens 7 1 count (λ k. k) found rest

  pub coefficients-stays : (rest : Answer) → ((coefficients refuses w h depth cs done).number ≡ 0 → ⊥) → coefficients refuses w h depth cs done ≡ coefficients refuses w h depth cs rest
  coefficients-stays rest q = sym (stays (leb count found) (refused 7 1 found) done rest q (λ r. absurd (r refl)))

  pub coefficients-scalable : depth ≤ 12 → AllFound → Scalable (scaled w h) count cs
  coefficients-scalable deep all = λ k l s. scalable-all refuses (scaled w h) depth deep cs k (seek-passed (coeff_ok refuses (scaled w h) depth cs) count all k l) s

-- ---- refusals 7 and 8: what an answer of Done tells
pub record Numbers (w h depth : ℕ) (cs p : List ℤ) (stride : ℕ) : Type 0 where
  pub coefficients : Scalable (scaled w h) (cut w * cut h) cs
  pub samples : Bounded 4096 w h (grid_of stride p)

pub record Plane (w h depth : ℕ) (dst : List ℤ) (stride : ℕ) (cs : List ℤ) : Type 0 where
  pub fits : Reach w h (length dst) stride (length cs)
  pub all : Numbers w h depth cs dst stride

pub record Buffers (w h depth : ℕ) (room : ℕ) (cs pred : List ℤ) : Type 0 where
  pub fits : Room w h room (length cs) (length pred)
  pub all : Numbers w h depth cs pred w

module _ (refuses : Bool) (w h depth : ℕ) (deep : depth ≤ 12) where
  numbers-passed : (cs p : List ℤ) (stride : ℕ) → (numbers refuses w h depth cs p stride).number ≡ 0 → Numbers w h depth cs p stride
  numbers-passed cs p stride e =
      let cell = cell_ok (pos 0) (highest depth) p 0 stride w in
      let a = coefficients-passed refuses w h depth cs (samples w h depth p stride) e in
      let b = search-passed 7 2 (h * w) (cell_at 0 stride w) (seek cell 0 (h * w)) done a.1 in
      record {
        coefficients = coefficients-scalable refuses w h depth cs deep a.0;
        samples = λ r x l m. subst (λ (j : ℕ). nat_abs (get_or p j (pos 0)) ≤ 4096) (cell-place r m 0 stride ∙ ap (λ n. n + x) (N.zero-add (r * stride)))
            (in-range-size 4096 (pos 0) (highest depth) (get_or p (cell_at 0 stride w (r * w + x)) (pos 0)) zero-le top (seek-passed cell (h * w) b.0 (r * w + x) (cell_in l m (N.le_refl (h * w)))));
      }
    where
      top : nat_abs (highest depth) ≤ 4096
      top = N.le_trans (highest-size depth) (pow_mono deep)

-- ---- the whole verdicts
pub add-front : (room stride count txtp tx depth : ℕ) → (add_front room stride count txtp tx depth done).number ≡ 0 → (rest : Answer) → add_front room stride count txtp tx depth rest ≡ rest
add-front room stride count txtp tx depth e rest =
    let k = kinds-passed tx txtp depth (on_plane (w_of tx) (h_of tx) room stride count done) e in
    let p = plane-passed (w_of tx) (h_of tx) room stride count done k.1 in
    kinds-opens tx txtp depth _ k.0 ∙ plane-opens (w_of tx) (h_of tx) room stride count rest p.0

pub float-front : (room count txtp tx depth known : ℕ) → (float_front room count txtp tx depth known done).number ≡ 0 → (rest : Answer) → float_front room count txtp tx depth known rest ≡ rest
float-front room count txtp tx depth known e rest =
    let k = kinds-passed tx txtp depth (on_buffers (w_of tx) (h_of tx) room count known done) e in
    let p = buffers-passed (w_of tx) (h_of tx) room count known done k.1 in
    kinds-opens tx txtp depth _ k.0 ∙ buffers-opens (w_of tx) (h_of tx) room count known rest p.0

pub add-passed : (refuses : Bool) (dst : List ℤ) (stride : ℕ) (cs : List ℤ) (txtp tx depth : ℕ) → (add_verdict refuses dst stride cs txtp tx depth).number ≡ 0 → Kinds tx txtp depth × Plane (w_of tx) (h_of tx) depth dst stride cs
unfolding add_verdict
add-passed refuses dst stride cs txtp tx depth e =
    let k = kinds-passed tx txtp depth (on_plane (w_of tx) (h_of tx) (length dst) stride (length cs) (numbers refuses (w_of tx) (h_of tx) depth cs dst stride)) e in
    let p = plane-passed (w_of tx) (h_of tx) (length dst) stride (length cs) (numbers refuses (w_of tx) (h_of tx) depth cs dst stride) k.1 in
    (k.0, record { fits = p.0; all = numbers-passed refuses (w_of tx) (h_of tx) depth k.0.to cs dst stride p.1 })

pub float-passed : (refuses : Bool) (room : ℕ) (cs : List ℤ) (txtp tx depth : ℕ) (pred : List ℤ) → (float_verdict refuses room cs txtp tx depth pred).number ≡ 0 → Kinds tx txtp depth × Buffers (w_of tx) (h_of tx) depth room cs pred
unfolding float_verdict
float-passed refuses room cs txtp tx depth pred e =
    let k = kinds-passed tx txtp depth (on_buffers (w_of tx) (h_of tx) room (length cs) (length pred) (numbers refuses (w_of tx) (h_of tx) depth cs pred (w_of tx))) e in
    let p = buffers-passed (w_of tx) (h_of tx) room (length cs) (length pred) (numbers refuses (w_of tx) (h_of tx) depth cs pred (w_of tx)) k.1 in
    (k.0, record { fits = p.0; all = numbers-passed refuses (w_of tx) (h_of tx) depth k.0.to cs pred (w_of tx) p.1 })

-- the same of a verdict that is Done
pub add-done : (refuses : Bool) (dst : List ℤ) (stride : ℕ) (cs : List ℤ) (txtp tx depth : ℕ) → done ≡ add_verdict refuses dst stride cs txtp tx depth → Kinds tx txtp depth × Plane (w_of tx) (h_of tx) depth dst stride cs
add-done refuses dst stride cs txtp tx depth e = add-passed refuses dst stride cs txtp tx depth (ap (λ (a : Answer). a.number) (sym e))

pub float-done : (refuses : Bool) (room : ℕ) (cs : List ℤ) (txtp tx depth : ℕ) (pred : List ℤ) → done ≡ float_verdict refuses room cs txtp tx depth pred → Kinds tx txtp depth × Buffers (w_of tx) (h_of tx) depth room cs pred
float-done refuses room cs txtp tx depth pred e = float-passed refuses room cs txtp tx depth pred (ap (λ (a : Answer). a.number) (sym e))

-- an accepted block is ready for the passes
pub ready : {tx txtp depth : ℕ} {cs : List ℤ} → Kinds tx txtp depth → cut (w_of tx) * cut (h_of tx) ≤ length cs → Scalable (scaled (w_of tx) (h_of tx)) (cut (w_of tx) * cut (h_of tx)) cs → Ready tx txtp depth cs
ready {tx} k l s = record { across = k.across; down = k.down; shift = (shifts tx k.size).0; deep = k.to; long = l; range = s }
