-- Samples, and blocks that stand on a screen. Assumes nothing.
--     natural-read                a number that the machine read, where it is not below 0
--     stands-is, block-fits       a block that stands: its last row and its last column lie on the screen; so does its last sample in the plane
--     possible-is                 what a screen that may be has
--     few-samples, few-fits       the samples of a screen fit their room, and their number fits its type
--     screen-part                 they are as many as the screen has
--     same_bits                   numbers with the same bits are the same
--     Agreed                      the first i numbers of two lists are the same: agreed-none, agreed-more; differing, alike: a loop that stops, and one that doesn't
use mathlib.Core.Path.{◌≡◌, sym, ap, subst, ◌∙◌}
use mathlib.Core.Bool.{true, ◌&&◌}
use mathlib.Core.List.{List}
use Prim.Native.Nat.{ℕ, ◌+◌, ◌*◌, ◌≤◌, ◌<◌}
use native.Mathlib.Nat as N
use native.Mathlib.Nat.{not-suc-le-zero}
use native.Mathlib.Decide.{ℕ_discrete}
use native.Mathlib.Omega.{arith}
use borrow.Author.Tests.{leb-true}
use lib.Dec.{leb}
use lib.IntN.{ℤ, pos}
use lib.ListN.{length, get_or, take}
use lib.Seq.{length-take-le, ext_get_or}
use mir.Syntax.{w32, w64}
use mir.Val.{Fits, SFits, to_z, of_z}
use mir.ValLaws.{to_z-of_z}
use Rattle.whole.proofs.Tests.{both}
use Rattle.screen.specs.Screens.{possible_of}
use Rattle.screen.specs.Planes.{natural, stands_of, Differ}

pub natural-read : (z : ℤ) → SFits w32 z → natural (to_z w32 (of_z w32 z)) ≡ natural z
natural-read z f = ap natural (to_z-of_z w32 z f)

pub stands-is : (width height row column w h : ℕ) → stands_of width height row column w h ≡ true → (column + w ≤ width) × (row + h ≤ height)
stands-is width height row column w h e =
    let p = both (leb (column + w) width) (leb (row + h) height) e in
    (leb-true (column + w) width p.0, leb-true (row + h) height p.1)

-- the last sample of a block of w by h + 1
pub block-fits : (width height row column w h : ℕ) → column + w ≤ width → row + (h + 1) ≤ height → row * width + column + h * width + w ≤ width * height
block-fits width height row column w h c r =
    let p : (row + (h + 1)) * width ≤ height * width = N.mul-le-mul_right width r in
    let q : (row + (h + 1)) * width ≡ row * width + h * width + width = omega arith in
    let t : height * width ≡ width * height = N.mul_comm height width in
    omega arith

pub possible-is : (w h d : ℕ) → possible_of w h d ≡ true → (4 ≤ w) × (w ≤ 256) × (h ≤ 256) × (8 ≤ d) × (d ≤ 12) × (4 ≤ h)
possible-is w h d e =
    let p = both (leb 4 w && leb w 256) ((leb 4 h && leb h 256) && (leb 8 d && leb d 12)) e in
    let q = both (leb 4 h && leb h 256) (leb 8 d && leb d 12) p.1 in
    let r = both (leb 8 d) (leb d 12) q.1 in
    let s = both (leb 4 w) (leb w 256) p.0 in
    (leb-true 4 w s.0, leb-true w 256 s.1, leb-true h 256 (both (leb 4 h) (leb h 256) q.0).1, leb-true 8 d r.0, leb-true d 12 r.1, leb-true 4 h (both (leb 4 h) (leb h 256) q.0).0)

-- the samples of a screen fit their room
pub few-samples : {w h n : ℕ} → w ≤ 320 → h ≤ 256 → 81920 ≤ n → w * h ≤ n
few-samples a b c = N.le_trans (N.mul-le-mul a b) c

-- what is lent of a room: the samples of a screen
pub screen-part : {w h : ℕ} (l : List ℤ) → w ≤ 320 → h ≤ 256 → 81920 ≤ length l → length (take (w * h) l) ≡ w * h
screen-part {w} {h} l a b c = length-take-le (w * h) l (few-samples a b c)

pub few-fits : {w h : ℕ} → w ≤ 320 → h ≤ 256 → Fits w64 (w * h)
few-fits a b = record { fits = omega (arith, N.mul-le-mul a b) }

pub same_bits : {x y : ℤ} → SFits w32 x → SFits w32 y → of_z w32 x ≡ of_z w32 y → x ≡ y
same_bits {x} {y} f g e = sym (to_z-of_z w32 x f) ∙ ap (to_z w32) e ∙ to_z-of_z w32 y g

pub record Agreed (i : ℕ) (a b : List ℤ) : Type 0 where
  pub same : (k : ℕ) → k < i → get_or a k (pos 0) ≡ get_or b k (pos 0)

pub agreed-none : (a b : List ℤ) → Agreed 0 a b
agreed-none a b = record { same = λ k h. absurd (not-suc-le-zero h) }

pub agreed-more : {a b : List ℤ} (i : ℕ) → Agreed i a b → get_or a i (pos 0) ≡ get_or b i (pos 0) → Agreed (i + 1) a b
agreed-more {a} {b} i g e = record { same = λ k h. go k h (ℕ_discrete k i) }
  where
    go : (k : ℕ) → k < i + 1 → Dec (k ≡ i) → get_or a k (pos 0) ≡ get_or b k (pos 0)
    go k h (yes q) = subst (λ (j : ℕ). get_or a j (pos 0) ≡ get_or b j (pos 0)) (sym q) e
    go k h (no q) = g.same k (omega (arith, q))

pub differing : {a b : List ℤ} {i : ℕ} → Agreed i a b → i < length a → (get_or a i (pos 0) ≡ get_or b i (pos 0) → ⊥) → Differ i a b
differing g h ne = record { before = g.same; there = λ _. ne; same = λ e. absurd (omega arith) }

pub alike : {a b : List ℤ} {i : ℕ} → Agreed i a b → length a ≤ i → length a ≡ length b → Differ i a b
alike {a} {b} {i} g h l =
    record {
      before = g.same;
      there = λ q. absurd (omega arith);
      same = λ e. ext_get_or (pos 0) a b l (λ k q. g.same k (omega arith));
    }
