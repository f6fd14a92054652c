-- `rows::butterfly::fold` meets its contract: after k turns the first k and the last k places hold the butterfly. Assumes nothing.
use mathlib.Core.Path.{◌≡◌, sym, ap, ◌∙◌}
use Prim.Native.Nat.{ℕ, ◌+◌, ◌-◌, ◌^◌, ◌≤◌, ◌<◌}
use native.Mathlib.Nat.{le_refl}
use native.Mathlib.Omega.{arith}
use lib.IntN.{ℤ, pos, ◌-ℤ◌, nat_abs}
use lib.ListN.{length, get_or, length-set}
use mir.Syntax.{w32}
use mir.Val.{to_z, of_z}
use mir.ValLaws.{to_z-of_z}
use Rattle.whole.specs.Sums.{fold_at}
use Rattle.whole.proofs.Num.{Num, given, plus, minus, ask, read}
use Rattle.whole.proofs.Inward.{inward-start, inward-more, inward-now, inward-done}
use Rattle.whole.proofs.Butterfly.{fold-low, fold-high}
use Rattle.rows.proofs.butterfly.fold.Goals as goal
use Rattle.rows.proofs.butterfly.fold.Lts as lts
use Rattle.rows.proofs.butterfly.fold.Reads as reads
use Rattle.rows.proofs.butterfly.fold.Tie as tie

abbrev In-loop-k : Type 0
In-loop-k = lts.In-loop reads.Pre reads.Post goal.the-invariant-loop-k goal.the-decreases-loop-k tie.handed_clauses

module _ (c : goal.After-out-1) where
  abbrev turn : In-loop-k
  turn = c.before.before

  abbrev k : ℕ
  k = turn.loop-k.k

  abbrev h : ℕ
  h = length turn.args.odd.now

  abbrev lo : ℕ → ℤ
  lo j = get_or turn.args.out.now j (pos 0)

  abbrev hi : ℕ → ℤ
  hi j = get_or turn.args.odd.now j (pos 0)

  even : Num (to_z w32 (of_z w32 (get_or turn.loop-k.out k (pos 0)))) (lo k) (nat_abs (lo k))
  even =
      record {
        is = to_z-of_z w32 _ (record { sfits = c.even-1.given }) ∙ inward-now turn.loop-k.invariant turn.loop-k-test.true;
        size = le_refl (nat_abs (lo k));
      }

  odd : Num (to_z w32 (of_z w32 (hi k))) (hi k) (nat_abs (hi k))
  odd = given {w = w32} (record { sfits = c.out-1.given }) (le_refl (nat_abs (hi k)))

  room : nat_abs (lo k) + nat_abs (hi k) < 2 ^ 31
  room = turn.requires.join_room k turn.loop-k-test.true

  -- the mirrored place lies in the second half, and its mirror is k
  far : h ≤ h + h - 1 - k
  far = omega (arith, turn.loop-k-test.true)

  back : h + h - 1 - (h + h - 1 - k) ≡ k
  back = omega (arith, turn.loop-k-test.true)

  difference : fold_at h lo hi (h + h - 1 - k) ≡ lo k -ℤ hi k
  difference = fold-high h lo hi (h + h - 1 - k) far ∙ ap (λ j. lo j -ℤ hi j) back

pub loop-k-init : goal.loop-k-init
loop-k-init c = inward-start c.requires.out_len

pub overflow_add-out : goal.overflow_add-out
overflow_add-out c = ask (plus (even c) (odd c)) w32 (room c)

pub overflow_sub-out : goal.overflow_sub-out
overflow_sub-out c = ask (minus (even c.before) (odd c.before)) w32 (room c.before)

pub bounds-out-n : goal.bounds-out-n
bounds-out-n c = simp length-set (omega arith)

pub loop-k-preserved : goal.loop-k-preserved
loop-k-preserved c =
    let b = c.before in
    let l = turn b in
    inward-more l.loop-k.invariant l.loop-k-test.true
    ((read (plus (even b) (odd b)) w32 (room b)).is ∙ sym (fold-low (h b) (lo b) (hi b) (k b) l.loop-k-test.true))
    ((read (minus (even b) (odd b)) w32 (room b)).is ∙ sym (difference b))

pub returns : goal.returns
returns c = inward-done c.loop-k.invariant c.loop-k-test.false
