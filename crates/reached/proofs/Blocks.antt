-- Blocks that share a sample: by their rows and columns, and by the indices of their samples. Assumes nothing.
--     shares-swap       the blocks may change their places
--     blocks-apart      blocks whose rows or columns are four or more apart have no index in common
--     blocks-meet       and those that are nearer have one
use mathlib.Core.Path.{◌≡◌, refl, sym, ◌∙◌, subst}
use mathlib.Core.Bool.{Bool, true, false, ◌&&◌}
use mathlib.Core.Logic.{◌⊎◌, inl, inr}
use Prim.Native.Nat.{ℕ, ◌+◌, ◌*◌, ◌-◌, ◌/◌, ◌%◌, ◌≤◌, ◌<◌}
use native.Mathlib.Nat as N
use native.Mathlib.Omega.{arith}
use borrow.Author.Tests.{lt-ltb, ltb-true}
use lib.Dec.{T, ltb, lit≤}
use Rattle.whole.proofs.Cells.{either, cell-inj, cell_row, cell-column}
use Rattle.whole.proofs.Tests.{both}
use Rattle.lossless.specs.Step.{Where, spot}
use Rattle.lossless.specs.Replay.{Shares, Apart}
use Rattle.remain.specs.Remaining.{Entry}
use Rattle.remain.specs.Touch.{near, shares}
use Rattle.keeping.specs.Range.{Area}
use Rattle.keeping.specs.Steps.{step_in}

and-swap : (a b : Bool) → (a && b) ≡ (b && a)
and-swap true true = refl
and-swap true false = refl
and-swap false true = refl
and-swap false false = refl

pub shares-swap : (r c r' c' : ℕ) → shares r c r' c' ≡ shares r' c' r c
shares-swap r c r' c' = λ i. and-swap (ltb r (r' + 4)) (ltb r' (r + 4)) i && and-swap (ltb c (c' + 4)) (ltb c' (c + 4)) i

-- sample k by its row and column
row_of : (w : Where) (k : ℕ) → spot w k ≡ (w.row + k / 4) * w.stride + (w.column + k % 4)
row_of w k = omega (arith, N.add-mul w.row (k / 4) w.stride)

pub blocks-apart : (a : Area) (e f : Entry) → e.mark.column + 4 ≤ a.stride → f.mark.column + 4 ≤ a.stride
    → shares e.mark.row e.mark.column f.mark.row f.mark.column ≡ false → Apart (step_in a e) (step_in a f)
blocks-apart a e f x y m = record { none = λ s. meet s.mine s.other s.mine-in s.other-in s.same }
  where
    met : (r r' c c' b b' d d' : ℕ) → b < 4 → b' < 4 → d < 4 → d' < 4 → r + b ≡ r' + b' → c + d ≡ c' + d' → shares r c r' c' ≡ false → ⊥
    met r r' c c' b b' d d' h h' i i' p q s =
        let t : shares r c r' c' ≡ true =
        (λ t. (lt-ltb r (r' + 4) (omega arith) t && lt-ltb r' (r + 4) (omega arith) t) && (lt-ltb c (c' + 4) (omega arith) t && lt-ltb c' (c + 4) (omega arith) t)) in
        subst T (sym t ∙ s) tt

    meet : (j k : ℕ) → j < 16 → k < 16 → spot (step_in a e).at j ≡ spot (step_in a f).at k → ⊥
    meet j k h i q =
        let u = N.mod-lt j {m = 4} (lit≤ tt) in
        let v = N.mod-lt k {m = 4} (lit≤ tt) in
        let p = cell-inj (e.mark.row + j / 4) (f.mark.row + k / 4) {x = e.mark.column + j % 4} {y = f.mark.column + k % 4} {w = a.stride}
        (omega (arith, u)) (omega (arith, v)) (sym (row_of (step_in a e).at j) ∙ q ∙ row_of (step_in a f).at k) in
        met e.mark.row f.mark.row e.mark.column f.mark.column (j / 4) (k / 4) (j % 4) (k % 4) (omega arith) (omega arith) u v p.0 p.1 m

-- two stretches of four that are near have a number in common
record Common (a b : ℕ) : Type 0 where
  pub up : ℕ
  pub down : ℕ
  pub up_in : up < 4
  pub down-in : down < 4
  pub same : a + up ≡ b + down

common : (a b : ℕ) → near a b ≡ true → Common a b
common a b e =
    let t = both (ltb a (b + 4)) (ltb b (a + 4)) e in
    go (ltb-true a (b + 4) t.0) (ltb-true b (a + 4) t.1) (either a b)
  where
    go : a < b + 4 → b < a + 4 → ((a ≤ b) ⊎ (b ≤ a)) → Common a b
    go p q (inl h) = record { up = b - a; down = 0; up_in = omega arith; down-in = lit≤ tt; same = omega arith }
    go p q (inr h) = record { up = 0; down = a - b; up_in = lit≤ tt; down-in = omega arith; same = omega arith }

pub blocks-meet : (a : Area) (e f : Entry) → shares e.mark.row e.mark.column f.mark.row f.mark.column ≡ true → Shares (step_in a e).at (step_in a f).at
blocks-meet a e f m =
    let t = both (near e.mark.row f.mark.row) (near e.mark.column f.mark.column) m in
    let y = common e.mark.row f.mark.row t.0 in
    let x = common e.mark.column f.mark.column t.1 in
    let j = y.up * 4 + x.up in
    let k = y.down * 4 + x.down in
    record {
      mine = j;
      other = k;
      mine-in = small y.up_in x.up_in;
      other-in = small y.down-in x.down-in;
      same = row_of (step_in a e).at j ∙ (λ i. (e.mark.row + cell_row y.up x.up_in i) * a.stride + (e.mark.column + cell-column y.up x.up_in i))
          ∙ (λ i. y.same i * a.stride + x.same i)
          ∙ sym (row_of (step_in a f).at k ∙ (λ i. (f.mark.row + cell_row y.down x.down-in i) * a.stride + (f.mark.column + cell-column y.down x.down-in i)));
    }
  where
    small : {y x : ℕ} → y < 4 → x < 4 → y * 4 + x < 16
    small h i = omega arith
