-- `rows::few::head` meets its contract: after m turns the first m and the last m places hold the joined sums. Assumes nothing.
use mathlib.Core.Path.{◌≡◌, refl, sym, ap, ◌∙◌, subst}
use mathlib.Core.List.{List}
use Prim.Native.Nat.{ℕ, ◌+◌, ◌-◌, ◌^◌, ◌≤◌}
use native.Mathlib.Omega.{arith}
use lib.Dec.{lit<}
use lib.IntN.{ℤ, pos, ◌+ℤ◌, ◌-ℤ◌, ◌*ℤ◌, nat_abs}
use lib.ListN.{length, get_or, length-set}
use mir.Syntax.{w8, w32}
use mir.Val.{to_z, of_z}
use mir.ValLaws.{to_z-of_z}
use Rattle.whole.specs.Sums.{fold_at}
use Rattle.whole.proofs.Sums.{within_all}
use Rattle.whole.proofs.Num.{Num, plus, minus, ask, read, back}
use Rattle.whole.proofs.Inward.{inward-start, inward-more, inward-done}
use Rattle.whole.proofs.Butterfly.{fold-low, fold-high}
use Rattle.tables.specs.Dense.{first_of}
use Rattle.tables.specs.Head.{even_at, odd_at}
use Rattle.tables.proofs.First.{first-length}
use Rattle.tables.proofs.Heads.{head-sizes, head-left}
use Rattle.rows.proofs.few.head.Goals as goal

module _ (s : goal.Start) where
  abbrev ys : List ℤ
  ys = first_of s.args.live s.args.c.now

  long : length s.args.c.now ≡ s.args.h + s.args.h
  long = sym (first-length s.args.live s.args.c.now) ∙ s.requires.2.1.0

  enough : s.args.live ≤ length s.args.c.now
  enough = omega (arith, long, s.requires.2.0)

  size : (i : ℕ) → nat_abs (get_or ys i (pos 0)) ≤ 2 ^ 19
  size = within_all (2 ^ 19) ys s.requires.2.1.1

  sizes : (length s.args.t.now ≡ s.args.h + s.args.h + s.args.h) × (s.args.h ≤ 16) × (4 ≤ s.args.h)
  sizes = head-sizes s.requires.0

sums : {a b u v x y p q : ℤ} → a ≡ x → u ≡ p → b ≡ y → v ≡ q → a *ℤ u +ℤ b *ℤ v ≡ x *ℤ p +ℤ y *ℤ q
sums e f g h = λ i. e i *ℤ f i +ℤ g i *ℤ h i

module _ (c : goal.After-two-odd) where
  abbrev s : goal.Start
  s = c.before.before.before.before.before.before.before.before.before.before.before

  abbrev h : ℕ
  h = s.args.h

  abbrev t : List ℤ
  t = s.args.t.now

  abbrev m : ℕ
  m = c.loop-m.m

  even_is : c.two-even.result ≡ even_at h t (ys s) m
  even_is = c.two-even.ensures.0 ∙ sums (back c.upto-c0.type_inv ∙ c.upto-c0.ensures) refl (back c.upto-c2.type_inv ∙ c.upto-c2.ensures) (to_z-of_z w8 _ (record { sfits = c.two-arg-1.given }))

  odd_is : c.two-odd.result ≡ odd_at h t (ys s) m
  odd_is = c.two-odd.ensures.0 ∙ sums (back c.upto-c1.type_inv ∙ c.upto-c1.ensures) (to_z-of_z w8 _ (record { sfits = c.two-arg-in-loop-m-1.given })) (back c.upto-c3.type_inv ∙ c.upto-c3.ensures) (to_z-of_z w8 _ (record { sfits = c.two-arg-in-loop-m-2-1.given }))

  even : Num (to_z w32 (of_z w32 c.two-even.result)) (even_at h t (ys s) m) (2 ^ 27)
  even = record { is = back c.two-even.type_inv ∙ even_is; size = subst (λ (z : ℤ). nat_abs z ≤ 2 ^ 27) even_is c.two-even.ensures.1 }

  odd : Num (to_z w32 (of_z w32 c.two-odd.result)) (odd_at h t (ys s) m) (2 ^ 27)
  odd = record { is = back c.two-odd.type_inv ∙ odd_is; size = subst (λ (z : ℤ). nat_abs z ≤ 2 ^ 27) odd_is c.two-odd.ensures.1 }

  -- the mirrored place lies in the second half, and its mirror is m
  far : h ≤ h + h - 1 - m
  far = omega (arith, c.loop-m-test.true)

  mirrored : h + h - 1 - (h + h - 1 - m) ≡ m
  mirrored = omega (arith, c.loop-m-test.true)

  difference : fold_at h (even_at h t (ys s)) (odd_at h t (ys s)) (h + h - 1 - m) ≡ even_at h t (ys s) m -ℤ odd_at h t (ys s) m
  difference = fold-high h (even_at h t (ys s)) (odd_at h t (ys s)) (h + h - 1 - m) far ∙ ap (λ j. even_at h t (ys s) j -ℤ odd_at h t (ys s) j) mirrored

pub upto-c0-requires : goal.upto-c0-requires
upto-c0-requires c = enough c

pub upto-c1-requires : goal.upto-c1-requires
upto-c1-requires c = enough c.before

pub upto-c2-requires : goal.upto-c2-requires
upto-c2-requires c = enough c.before.before

pub upto-c3-requires : goal.upto-c3-requires
upto-c3-requires c = enough c.before.before.before

pub overflow_add-n : goal.overflow_add-n
overflow_add-n c = omega (arith, sizes c.before.before.before.before)

pub loop-m-init : goal.loop-m-init
loop-m-init c = inward-start (long c.before.before.before.before)

pub overflow_add-h : goal.overflow_add-h
overflow_add-h c = omega (arith, sizes c.before.before.before.before.before.before)

pub bounds-t-h : goal.bounds-t-h
bounds-t-h c = omega (arith, sizes c.before.before.before.before.before.before)

pub two-even-requires : goal.two-even-requires
two-even-requires c = (subst (λ (z : ℤ). nat_abs z ≤ 2 ^ 19) (sym (back c.upto-c0.type_inv ∙ c.upto-c0.ensures)) (size c.before.before.before.before.before.before.before 0), subst (λ (z : ℤ). nat_abs z ≤ 2 ^ 19) (sym (back c.upto-c2.type_inv ∙ c.upto-c2.ensures)) (size c.before.before.before.before.before.before.before 2))

pub bounds-t-m : goal.bounds-t-m
bounds-t-m c = omega (arith, sizes c.before.before.before.before.before.before.before.before)

pub overflow_add-n-in-loop-m : goal.overflow_add-n-in-loop-m
overflow_add-n-in-loop-m c = omega (arith, sizes c.before.before.before.before.before.before.before.before.before)

pub bounds-t-n : goal.bounds-t-n
bounds-t-n c = omega (arith, sizes c.before.before.before.before.before.before.before.before.before)

pub two-odd-requires : goal.two-odd-requires
two-odd-requires c = (subst (λ (z : ℤ). nat_abs z ≤ 2 ^ 19) (sym (back c.upto-c1.type_inv ∙ c.upto-c1.ensures)) (size c.before.before.before.before.before.before.before.before.before.before 1), subst (λ (z : ℤ). nat_abs z ≤ 2 ^ 19) (sym (back c.upto-c3.type_inv ∙ c.upto-c3.ensures)) (size c.before.before.before.before.before.before.before.before.before.before 3))

pub overflow_add-c : goal.overflow_add-c
overflow_add-c c = ask (plus (even c) (odd c)) w32 (lit< tt)

pub offset_bounds-c-m : goal.offset_bounds-c-m
offset_bounds-c-m c = omega (arith, sizes (s c))

pub bounds-c-m : goal.bounds-c-m
bounds-c-m c = omega (arith, sizes (s c), c.loop-m.invariant.long, c.loop-m-test.true)

pub overflow_sub-c : goal.overflow_sub-c
overflow_sub-c c = ask (minus (even c) (odd c)) w32 (lit< tt)

pub overflow_sub-n : goal.overflow_sub-n
overflow_sub-n c = omega (arith, sizes (s c))

pub overflow_sub-n-in-loop-m : goal.overflow_sub-n-in-loop-m
overflow_sub-n-in-loop-m c = omega (arith, sizes (s c), c.loop-m-test.true)

pub offset_bounds-c-n : goal.offset_bounds-c-n
offset_bounds-c-n c = omega (arith, sizes (s c))

pub bounds-c-n : goal.bounds-c-n
bounds-c-n c = simp length-set (omega (arith, sizes (s c), c.loop-m.invariant.long, c.loop-m-test.true))

pub loop-m-preserved : goal.loop-m-preserved
loop-m-preserved c =
    inward-more c.loop-m.invariant c.loop-m-test.true
    ((read (plus (even c) (odd c)) w32 (lit< tt)).is ∙ sym (fold-low (h c) (even_at (h c) (t c) (ys (s c))) (odd_at (h c) (t c) (ys (s c))) (m c) c.loop-m-test.true))
    ((read (minus (even c) (odd c)) w32 (lit< tt)).is ∙ sym (difference c))

pub shape_of-c : goal.shape_of-c
shape_of-c c = c.loop-m.invariant.long ∙ sym (long c.before.before.before.before.before.before)

pub returns : goal.returns
returns c = let s = c.before.before.before.before.before.before in inward-done c.loop-m.invariant c.loop-m-test.false ∙ head-left s.requires.0 s.args.live s.args.c.now s.requires.1
