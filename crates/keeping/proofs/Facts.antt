-- What the tests of 1, 5, 6, 7 and 12 tell where they pass. Assumes nothing.
--     shape_is, stands-is       as facts on numbers
--     sound-is, sound-make      the test of 12 passes exactly where the history is in range
--     kept-is                   the answer by 5 and 12 alone is Done
--     entry-is, Entered         one step of such a history; lying-is: all of them lie in the visible area
--     front-is, Fronted         the answer by a step's arguments is Done
use mathlib.Core.Path.{◌≡◌}
use mathlib.Core.Bool.{true, ◌&&◌}
use mathlib.Core.List.{List}
use Prim.Native.Nat.{ℕ, ◌+◌, ◌*◌, ◌≤◌, ◌<◌}
use native.Mathlib.Nat as N
use native.Mathlib.Omega.{arith}
use borrow.Author.Tests.{leb-true, eqb-true, ltb-true}
use lib.Dec.{leb, ltb, eqb, lit≤}
use lib.IntN.{ℤ, pos, neg_ℤ}
use lib.ListN.{length}
use Rattle.answers.specs.Answers.{done, refused, unless, searched}
use Rattle.answers.proofs.Verdicts.{passed, search-passed}
use Rattle.whole.specs.Search.{seek}
use Rattle.whole.proofs.Search.{seek-passed}
use Rattle.whole.proofs.Lent.{part_count}
use Rattle.whole.proofs.Tests.{both}
use Rattle.wht.specs.Calls.{Sixteen}
use Rattle.wht.proofs.Lists.{all_small}
use Rattle.lossless.specs.Step.{place, fits}
use Rattle.lossless.proofs.Arguments.{fit_is, column-is}
use Rattle.remain.specs.Remaining.{count, number_at, word, levels_at, number_before}
use Rattle.remain.specs.Touch.{across}
use Rattle.remain.specs.Bounds.{Lying}
use Rattle.keeping.specs.Range.{Area, within, shaped, stands, first_off, mark_ok, entry_ok, sound, kept, front_of}
use Rattle.keeping.specs.Bounds.{Keeping}

pub within-is : (lo hi n : ℕ) → within lo hi n ≡ true → (lo ≤ n) × (n ≤ hi)
within-is lo hi n e = let t = both (leb lo n) (leb n hi) e in (leb-true lo n t.0, leb-true n hi t.1)

pub record Shape (a : Area) : Type 0 where
  pub stride4 : 4 ≤ a.stride
  pub stride_most : a.stride ≤ 65536
  pub width4 : 4 ≤ a.width
  pub width_most : a.width ≤ a.stride
  pub rows4 : 4 ≤ a.rows
  pub rows_most : a.rows ≤ 65536

pub shape_is : (a : Area) → shaped a ≡ true → Shape a
shape_is a e =
    let t = both (within 4 65536 a.stride) (within 4 a.stride a.width && within 4 65536 a.rows) e in
    let u = both (within 4 a.stride a.width) (within 4 65536 a.rows) t.1 in
    let x = within-is 4 65536 a.stride t.0 in
    let y = within-is 4 a.stride a.width u.0 in
    let z = within-is 4 65536 a.rows u.1 in
    record { stride4 = x.0; stride_most = x.1; width4 = y.0; width_most = y.1; rows4 = z.0; rows_most = z.1 }

pub record Standing (a : Area) (r c : ℕ) : Type 0 where
  pub right : c + 4 ≤ a.width
  pub low : r + 4 ≤ a.rows
  pub reach : r * a.stride + c + 3 * a.stride + 4 ≤ a.size

pub stands-is : (a : Area) (r c : ℕ) → stands a r c ≡ true → Standing a r c
stands-is a r c e =
    let w = place 0 a.stride a.width r c in
    let t = both (fits w a.size) (leb (r + 4) a.rows) e in
    record { right = column-is w a.size t.0; low = leb-true (r + 4) a.rows t.1; reach = fit_is w a.size t.0 }

-- where a block starts
pub start_small : {a : Area} {r c : ℕ} → Shape a → Standing a r c → (r * a.stride ≤ 65536 * 65536) × (c ≤ 65536)
start_small {a} {r} {c} h b = let k : r ≤ 65536 = omega (arith, b.low, h.rows_most) in (N.mul-le-mul k h.stride_most, omega (arith, b.right, h.width_most, h.stride_most))

-- ---- a history in range
module _ (a : Area) (s : List ℕ) (l : List ℤ) (k : ℕ) where
  pub sound-is : shaped a ≡ true → sound a s l k ≡ true → Keeping a s l k
  unfolding sound
  sound-is h e =
      let found = seek (entry_ok a s l) 0 (count s) in
      let t = both (eqb (length s) 16385) (eqb (length l) 65536 && (eqb k (across a.rows * across a.width) && (leb (count s) 4096 && leb (count s) found))) e in
      let u = both (eqb (length l) 65536) (eqb k (across a.rows * across a.width) && (leb (count s) 4096 && leb (count s) found)) t.1 in
      let v = both (eqb k (across a.rows * across a.width)) (leb (count s) 4096 && leb (count s) found) u.1 in
      let w = both (leb (count s) 4096) (leb (count s) found) v.1 in
      record {
        shape = h;
        steps = eqb-true (length s) 16385 t.0;
        levels = eqb-true (length l) 65536 u.0;
        cells = eqb-true k (across a.rows * across a.width) v.0;
        most = leb-true (count s) 4096 w.0;
        each = seek-passed (entry_ok a s l) (count s) (leb-true (count s) found w.1);
      }

  pub kept-is : (kept a s l k done).number ≡ 0 → Keeping a s l k
  kept-is e =
      let t = passed (shaped a) 4 0 0 (unless (sound a s l k) (refused 12 0 0) done) e in
      let u = passed (sound a s l k) 11 0 0 done t.1 in
      sound-is t.0 u.0

-- ---- one step of it
pub record Entered (a : Area) (s : List ℕ) (l : List ℤ) (i : ℕ) : Type 0 where
  pub deep : (8 ≤ word s i 1) × (word s i 1 ≤ 12)
  pub stand : Standing a (word s i 2) (word s i 3)
  pub rising : number_before s i < number_at s i
  pub sixteen : Sixteen 262144 (levels_at l i)

sixteen-is : (v : List ℤ) → length v ≡ 16 → 16 ≤ first_off v → Sixteen 262144 v
sixteen-is v n h = all_small 262144 (neg_ℤ (pos 262144)) (pos 262144) (lit≤ tt) (lit≤ tt) v n h

pub entry-is : (a : Area) (s : List ℕ) (l : List ℤ) (i : ℕ) → 16 * i + 16 ≤ length l → entry_ok a s l i ≡ true → Entered a s l i
entry-is a s l i fit e =
    let t = both (mark_ok a s i) (leb 16 (first_off (levels_at l i))) e in
    let u = both (within 8 12 (word s i 1)) (stands a (word s i 2) (word s i 3) && ltb (number_before s i) (number_at s i)) t.0 in
    let v = both (stands a (word s i 2) (word s i 3)) (ltb (number_before s i) (number_at s i)) u.1 in
    record {
      deep = within-is 8 12 (word s i 1) u.0;
      stand = stands-is a (word s i 2) (word s i 3) v.0;
      rising = ltb-true (number_before s i) (number_at s i) v.1;
      sixteen = sixteen-is (levels_at l i) (part_count l (16 * i) 16 fit) (leb-true 16 (first_off (levels_at l i)) t.1);
    }

pub entered : {a : Area} {s : List ℕ} {l : List ℤ} {k : ℕ} → Keeping a s l k → (i : ℕ) → i < count s → Entered a s l i
entered {a} {s} {l} q i h = entry-is a s l i (omega (arith, q.levels, q.most)) (q.each i h)

pub lying-is : {a : Area} {s : List ℕ} {l : List ℤ} {k : ℕ} → Keeping a s l k → Lying s a.width a.rows (count s)
lying-is q = record { right = λ i h. (entered q i h).stand.right; low = λ i h. (entered q i h).stand.low }

-- ---- a step's arguments
pub record Fronted (a : Area) (d r c : ℕ) (v : List ℤ) (s : List ℕ) (l : List ℤ) (k : ℕ) : Type 0 where
  pub deep : (8 ≤ d) × (d ≤ 12)
  pub stand : Standing a r c
  pub keeping : Keeping a s l k
  pub sixteen : Sixteen 262144 v

pub front-is : (a : Area) (d r c : ℕ) (v : List ℤ) (s : List ℕ) (l : List ℤ) (k : ℕ) → (front_of a d r c v s l k).number ≡ 0 → Fronted a d r c v s l k
front-is a d r c v s l k e =
    let last = searched 7 1 16 (λ k. k) (first_off v) done in
    let from12 = unless (sound a s l k) (refused 12 0 0) last in
    let from_fit = unless (stands a r c) (refused 6 2 0) from12 in
    let from6 = unless (eqb (length v) 16) (refused 6 1 0) from_fit in
    let t = passed (within 8 12 d) 0 0 0 (unless (shaped a) (refused 5 0 0) from6) e in
    let u = passed (shaped a) 4 0 0 from6 t.1 in
    let n = passed (eqb (length v) 16) 5 1 0 from_fit u.1 in
    let w = passed (stands a r c) 5 2 0 from12 n.1 in
    let x = passed (sound a s l k) 11 0 0 last w.1 in
    let y = search-passed 6 1 16 (λ k. k) (first_off v) done x.1 in
    record {
      deep = within-is 8 12 d t.0;
      stand = stands-is a r c w.0;
      keeping = sound-is a s l k u.0 x.0;
      sixteen = sixteen-is v (eqb-true (length v) 16 n.0) y.0;
    }
