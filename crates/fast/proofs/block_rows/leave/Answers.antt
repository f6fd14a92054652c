-- `fast::block_rows::leave` meets its contract: one group of rows, or two. Assumes nothing.
use mathlib.Core.Path.{◌≡◌, refl, sym, subst}
use Prim.Native.Nat.{ℕ, ◌+◌, ◌*◌, ◌^◌, ◌≤◌, ◌<◌}
use native.Mathlib.Nat as N
use native.Mathlib.Omega.{arith}
use lib.Dec.{lit<, lit≤}
use lib.IntN.{pos, nat_abs}
use lib.ListN.{length, get_or}
use Rattle.passes.specs.Passes.{settled_to}
use Rattle.wide_rows.specs.Lines.{line, Sized, s4, s8, s16, s32}
use Rattle.fast.specs.Groups.{Grouped}
use Rattle.fast.proofs.Turned.{turned-one, turned_two}
use Rattle.fast.proofs.block_rows.leave.Goals as goal
use Rattle.fast.proofs.block_rows.leave.Lts as lts
use Rattle.fast.proofs.block_rows.leave.Reads as reads
use Rattle.fast.proofs.block_rows.leave.Tie as tie

abbrev Start : Type 0
Start = lts.Start tie.the-claims reads.Pre reads.Post tie.handed_clauses

abbrev Else-sw-le16 : Type 0
Else-sw-le16 = lts.Else1 tie.the-claims reads.Pre reads.Post tie.handed_clauses

-- more than sixteen is thirty-two
wide : {n : ℕ} → Sized n → (n ≤ 16 → ⊥) → n ≡ 32
wide s4 h = absurd (h (lit≤ tt))
wide s8 h = absurd (h (lit≤ tt))
wide s16 h = absurd (h (lit≤ tt))
wide s32 h = refl

some : {n : ℕ} → Sized n → 0 < n
some s4 = lit< tt
some s8 = lit< tt
some s16 = lit< tt
some s32 = lit< tt

module _ (s : Start) where
  one : s.args.sh * 16 ≤ length s.args.work.now
  one = omega (arith, s.requires.5 0 (omega (arith, some s.requires.0)))

  -- what a turn asks of the results, from column b on
  asks : (p b c : ℕ) → p ≡ b * 16 → b + c ≤ s.args.sw → (l m : ℕ) → l < s.args.k → m < c → (p + l + m * 16 < length s.args.out.now) × (nat_abs (get_or s.args.out.now (p + l + m * 16) (pos 0)) ≤ 2 ^ 30)
  asks p b c e fit l m h q =
      let w : b + m < s.args.sw = omega arith in
      (omega (arith, s.requires.1, s.requires.4), subst (λ (z : ℕ). nat_abs (get_or s.args.out.now z (pos 0)) ≤ 2 ^ 30) (place p b m l e) (s.requires.2 l (b + m) (omega (arith, s.requires.4)) w))
    where
      place : (p b m l : ℕ) → p ≡ b * 16 → (b + m) * 16 + l ≡ p + l + m * 16
      place p b m l e = omega arith

two : (c : Else-sw-le16) → c.args.sw ≡ 32
two c = wide c.requires.0 (λ h. N.lt_irrefl 16 (N.lt_of_lt_of_le c.if-sw-le16.false h))

both : (c : Else-sw-le16) → (c.args.sh + c.args.sh) * 16 ≤ length c.args.work.now
both c = omega (arith, c.requires.5 1 (omega (arith, two c)))

pub overflow_mul-a : goal.overflow_mul-a
overflow_mul-a c = omega (arith, one c, c.requires.3)

pub turn-requires : goal.turn-requires
turn-requires c =
    record {
      c_nonzero = (some c.requires.0, c.if-sw-le16.true, omega (arith, one c.before.before, c.requires.3), c.requires.6);
      by_index = asks c.before.before 0 0 c.args.sw refl (omega arith);
    }

pub overflow_add-b : goal.overflow_add-b
overflow_add-b c = omega (arith, both c, c.requires.3)

pub overflow_mul-b : goal.overflow_mul-b
overflow_mul-b c = omega (arith, both c, c.requires.3)

pub turn-requires-else-sw-le16 : goal.turn-requires-else-sw-le16
turn-requires-else-sw-le16 c =
    record {
      c_nonzero = (lit< tt, N.le_refl 16, omega (arith, one c.before.before, c.requires.3), c.requires.6);
      by_index = asks c.before.before 0 0 16 refl (omega (arith, two c.before));
    }

pub turn-requires-else-sw-le16-2 : goal.turn-requires-else-sw-le16-2
turn-requires-else-sw-le16-2 c =
    record {
      c_nonzero = (lit< tt, N.le_refl 16, omega (arith, both c.before.before.before.before, c.requires.3, c.turn-else-sw-le16.auto.work), c.requires.6);
      by_index = asks c.before.before.before.before.before 256 16 16 refl (omega (arith, two c.before.before.before.before));
    }

pub returns-then-sw-le16 : goal.returns-then-sw-le16
returns-then-sw-le16 c =
    turned-one c.args.shift c.args.out.now c.args.work.now c.turn.new.work c.turn.ensures c.if-sw-le16.true c.requires.3

pub returns-else-sw-le16 : goal.returns-else-sw-le16
returns-else-sw-le16 c =
    subst (λ (n : ℕ). Grouped n c.args.sh c.args.r c.args.k (λ l x. settled_to 15 c.args.shift (line c.args.out.now l x)) c.args.work.now c.turn-else-sw-le16-2.new.work) (sym (two c.before.before.before.before.before.before))
    (turned_two c.args.shift c.args.out.now c.args.work.now c.turn-else-sw-le16.new.work c.turn-else-sw-le16-2.new.work c.turn-else-sw-le16.ensures c.turn-else-sw-le16-2.ensures c.requires.3)
