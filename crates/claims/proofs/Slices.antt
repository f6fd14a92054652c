-- Which slice each refusal names, from document 02, section 6: for every input, the answer's slice is what its number, its place and the lengths say.
--     add-slice, float-slice      the pixel calls: 6 names the lowest slice that is short, 7 the coefficients, 8 the prediction or plane
--     cctx-slice                  6 names the shorter list; 7 the first list where its number of the pair is out of range, else the second
--     fwht-slice, iwht-slice      6 names the lowest list that hasn't sixteen numbers, 7 the list that is read
--     step-slice, undo-slice      6 names the levels where they aren't sixteen, else the plane; 7 the levels; 8 and 10 the plane
-- Any other number, Done among them, names no slice: 0. Assumes nothing.
use mathlib.Core.Path.{◌≡◌, refl}
use mathlib.Core.Bool.{Bool, cond, ◌&&◌}
use mathlib.Core.List.{List}
use Prim.Native.Nat.{ℕ, ◌+◌, ◌*◌, ◌-◌}
use lib.Dec.{eqb, leb}
use lib.Ieee
use lib.Ieee.{Float}
use lib.IntN.{ℤ, pos, neg_ℤ}
use lib.ListN.{length}
use Rattle.whole.specs.Numbers.{highest}
use Rattle.whole.specs.Search.{seek, cell_at}
use Rattle.answers.specs.declared.Answer.{Answer}
use Rattle.answers.specs.Answers.{done}
use Rattle.answers.proofs.Verdicts.{either, search-either}
use Rattle.ranges.specs.Cells.{cell_ok}
use Rattle.tables.specs.Sizes.{cut, scaled}
use Rattle.tables.specs.Kinds.{hor_of, ver_of, has_kind}
use Rattle.verdicts.specs.Verdicts.{w_of, h_of, kinds, coeff_ok, numbers, add_verdict, float_verdict}
use Rattle.pixels.specs.Calls.{Reading, add_of, float_of}
use Rattle.chroma.specs.Chroma.{low, high, bad_of, first_bad, angle_ok, verdict, cctx_of}
use Rattle.wht.specs.Calls.{number_ok, fwht_of, iwht_of}
use Rattle.wht.specs.Calls as wht
use Rattle.lossless.specs.Gains.{present_ok, later_ok, judged, gaining}
use Rattle.lossless.specs.Step.{Step, spot, sample, deep, strides, widths, fits, front, gain_of, step_of, undo_of}
use Rattle.claims.specs.Slices.{by_number, enough, add_slice, float_slice, chroma_slice, wht_slice, step_slice}

-- ---- pixels: six is what 6 names
module _ (six : ℕ) where
  -- an answer names the slice of its number
  abbrev pub Names : Answer → Type 0
  Names a = a.slice ≡ by_number six 1 a.number

  pub kinds-names : (tx txtp depth : ℕ) (rest : Answer) → Names rest → Names (kinds tx txtp depth rest)
  kinds-names tx txtp depth rest h =
      either Names (leb 8 depth && leb depth 12) _ _ (λ e. refl) (λ e.
      either Names (leb tx 24) _ _ (λ e. refl) (λ e.
      either Names (leb txtp 255) _ _ (λ e. refl) (λ e.
      either Names (has_kind (w_of tx) (hor_of txtp)) _ _ (λ e. refl) (λ e.
      either Names (has_kind (h_of tx) (ver_of txtp)) _ _ (λ e. refl) (λ e. h)))))

  numbers-names : (refuses : Bool) (w h depth : ℕ) (cs p : List ℤ) (stride : ℕ) → Names (numbers refuses w h depth cs p stride)
  numbers-names refuses w h depth cs p stride =
      search-either 7 1 (cut w * cut h) (λ k. k) (seek (coeff_ok refuses (scaled w h) depth cs) 0 (cut w * cut h)) _ Names (λ e. refl)
      (search-either 8 2 (h * w) (cell_at 0 stride w) (seek (cell_ok (pos 0) (highest depth) p 0 stride w) 0 (h * w)) done Names (λ e. refl) refl)

module _ (how : Reading) (dst : List ℤ) (stride : ℕ) (cs : List ℤ) (txtp tx depth : ℕ) where
  pub add-slice : let a = (add_of how dst stride cs txtp tx depth).0 in a.slice ≡ add_slice cs tx a.number
  unfolding add_of add_verdict
  add-slice =
      let six : ℕ = cond (enough tx cs) 2 1 in
      kinds-names six tx txtp depth _
      (either (Names six) (leb (w_of tx) stride && leb stride 65536) _ _ (λ e. refl) (λ e.
      either (Names six) (enough tx cs) _ _ (λ e. rw e) (λ e.
      either (Names six) (leb ((h_of tx - 1) * stride + w_of tx) (length dst)) _ _ (λ f. rw e) (λ f.
      numbers-names six how.refuses (w_of tx) (h_of tx) depth cs dst stride))))

module _ (how : Reading) (out : List Float) (cs : List ℤ) (txtp tx depth : ℕ) (pred : List ℤ) where
  pub float-slice : let a = (float_of how out cs txtp tx depth pred).0 in a.slice ≡ float_slice cs pred tx a.number
  unfolding float_of float_verdict
  float-slice =
      let six : ℕ = cond (enough tx cs) (cond (leb (h_of tx * w_of tx) (length pred)) 3 2) 1 in
      kinds-names six tx txtp depth _
      (either (Names six) (enough tx cs) _ _ (λ e. rw e) (λ e.
      either (Names six) (leb (h_of tx * w_of tx) (length pred)) _ _ (λ f. rw (e, f)) (λ f.
      either (Names six) (leb (h_of tx * w_of tx) (length out)) _ _ (λ g. rw (e, f)) (λ g.
      numbers-names six how.refuses (w_of tx) (h_of tx) depth cs pred (w_of tx)))))

-- ---- chroma pairs
module _ (u v : List ℤ) (s c : ℤ) (depth : ℕ) where
  Chroma : Answer → Type 0
  Chroma a = a.slice ≡ chroma_slice u v depth a.place a.number

  pub cctx-slice : let a = (cctx_of u v s c depth).0 in a.slice ≡ chroma_slice u v depth a.place a.number
  unfolding cctx_of verdict Chroma
  cctx-slice =
      either Chroma (leb 8 depth && leb depth 12) _ _ (λ e. refl) (λ e.
      either Chroma (eqb (length u) (length v)) _ _ (λ e. refl) (λ e.
      search-either 7 (bad_of (low depth) (high depth) u (first_bad u v depth)) (length u) (λ k. k) (first_bad u v depth) _ Chroma (λ e. refl)
      (either Chroma (angle_ok s) _ _ (λ e. refl) (λ e.
      either Chroma (angle_ok c) _ _ (λ e. refl) (λ e. refl)))))

-- ---- the WHT: a call that reads l and writes n numbers
module _ (lo hi : ℤ) (l : List ℤ) (n : ℕ) where
  Wht : Answer → Type 0
  Wht a = a.slice ≡ wht_slice l a.number

  wht-names : Wht (wht.verdict lo hi l n)
  unfolding Wht
  wht-names =
      either Wht (eqb (length l) 16) _ _ (λ e. rw e) (λ e.
      either Wht (eqb n 16) _ _ (λ f. rw e) (λ f.
      search-either 7 1 16 (λ k. k) (seek (number_ok lo hi l) 0 16) done Wht (λ g. refl) refl))

module _ (resid level : List ℤ) where
  pub fwht-slice : let a = (fwht_of resid level).0 in a.slice ≡ wht_slice resid a.number
  unfolding fwht_of Wht
  fwht-slice = wht-names (neg_ℤ (pos 65535)) (pos 65535) resid (length level)

  pub iwht-slice : let a = (iwht_of level resid).0 in a.slice ≡ wht_slice level a.number
  unfolding iwht_of Wht
  iwht-slice = wht-names (neg_ℤ (pos 262144)) (pos 262144) level (length resid)

-- ---- lossless steps
module _ (p : List ℤ) (s : Step) where
  Lossless : Answer → Type 0
  Lossless a = a.slice ≡ step_slice s a.number

  front-names : Lossless (front (length p) s)
  unfolding front Lossless
  front-names =
      either Lossless (deep s.at) _ _ (λ e. refl) (λ e.
      either Lossless (strides s.at) _ _ (λ e. refl) (λ e.
      either Lossless (widths s.at) _ _ (λ e. refl) (λ e.
      either Lossless (eqb (length s.levels) 16) _ _ (λ e. rw e) (λ e.
      either Lossless (fits s.at (length p)) _ _ (λ f. rw e) (λ f.
      search-either 7 1 16 (λ k. k) (seek (number_ok (neg_ℤ (pos 262144)) (pos 262144) s.levels) 0 16) done Lossless (λ g. refl) refl)))))

  gain-slice : (g : ℕ → ℤ) → Lossless (gain_of p s g).0
  unfolding gaining judged Lossless
  gain-slice g =
      let ok = sample s.at.depth in
      let at = spot s.at in
      either Lossless (eqb (front (length p) s).number 0) _ _ (λ e. front-names) (λ e.
      search-either 8 2 16 at (seek (present_ok ok at p) 0 16) _ Lossless (λ f. refl)
      (search-either 10 2 16 at (seek (later_ok ok at p g) 0 16) done Lossless (λ f. refl) refl))

  pub step-slice : let a = (step_of p s).0 in a.slice ≡ step_slice s a.number
  unfolding Lossless
  step-slice = gain-slice _

  pub undo-slice : let a = (undo_of p s).0 in a.slice ≡ step_slice s a.number
  unfolding Lossless
  undo-slice = gain-slice _
