-- `Screen::first_touched` meets its contract: at turn i the first i samples have the marks of the start, those of the pad. Assumes nothing.
use mathlib.Core.Path.{◌≡◌, sym, ap, ◌∙◌}
use mathlib.Core.List.{List}
use Prim.Native.Nat.{ℕ, ◌<◌}
use native.Mathlib.Nat.{le_refl}
use native.Mathlib.Omega.{arith}
use lib.IntN.{ℤ, pos}
use lib.ListN.{length}
use mir.Syntax.{w32}
use mir.Val.{SFits, to_z, of_z}
use mir.ValLaws.{to_z-of_z}
use Rattle.whole.specs.Sums.{item}
use Rattle.whole.proofs.Fill.{length-tab, tab-at}
use Rattle.screen.specs.Planes.{fresh_of, marked}
use Rattle.screen.proofs.Planes.{same_bits, agreed-none, agreed-more, differing, alike}
use Rattle.screen.proofs.Screen.first_touched.Goals as goal

-- what `fresh` gives is the sample of the marked plane
marked-at : (t w : ℕ) (p : List ℤ) (i : ℕ) {z : ℤ} → i < length p → SFits w32 (item p i) → z ≡ fresh_of t w (to_z w32 (of_z w32 (item p i))) i → z ≡ item (marked t w p) i
marked-at t w p i h f e =
    e ∙ ap (λ z. fresh_of t w z i) (to_z-of_z w32 (item p i) f)
    ∙ sym (tab-at (pos 0) (length p) (λ j. fresh_of t w (item p j) j) i h)

pub loop-i-init : goal.loop-i-init
loop-i-init c = agreed-none c.args.list.now (marked c.args.self.stride c.args.self.width c.args.list.now)

pub returns-then-z-fresh : goal.returns-then-z-fresh
returns-then-z-fresh c =
    let q = c.args in (
      c.loop-i-test.true,
      differing c.loop-i.invariant c.loop-i-test.true
          (λ e. c.if-z-fresh.true (ap (of_z w32) (e ∙ sym (marked-at q.self.stride q.self.width q.list.now c.loop-i.i c.loop-i-test.true (record { sfits = c.z-1.given }) c.fresh.ensures)))),
    )

pub loop-i-preserved : goal.loop-i-preserved
loop-i-preserved c =
    let q = c.args in
    agreed-more c.loop-i.i c.loop-i.invariant
    (same_bits (record { sfits = c.z-1.given }) (record { sfits = c.fresh.type_inv }) c.if-z-fresh.false
    ∙ marked-at q.self.stride q.self.width q.list.now c.loop-i.i c.loop-i-test.true (record { sfits = c.z-1.given }) c.fresh.ensures)

pub returns : goal.returns
returns c =
    let q = c.args in
    let p = q.list.now in
    alike (record { same = λ k h. c.loop-i.invariant.same k (omega arith) }) (le_refl (length p)) (sym (length-tab (length p) (λ j. fresh_of q.self.stride q.self.width (item p j) j)))
