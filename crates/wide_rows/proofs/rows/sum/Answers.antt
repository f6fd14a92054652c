-- `wide_rows::rows::sum` meets its contract: a turn adds one product. Assumes nothing.
use Rattle.std.proofs.Common.{◌+◌, ◌*◌, ◌^◌, ◌≤◌, ◌<◌, pos, nat_abs, ◌+ℤ◌, ◌*ℤ◌, get_or, ℕ, w32, ℤ, to_z, arith, refl, ap, sym, ◌∙◌, subst, lit<, take, List}
use Rattle.std.proofs.Common.{add-one}
use Rattle.whole.specs.Sums.{dot_z}
use Rattle.wide_rows.specs.Lines.{taps}
use Rattle.whole.proofs.Num.{Num, plus, times, read, ask}
use Rattle.whole.proofs.Sums.{within_all, dot-step}
use Rattle.wide_rows.proofs.Shorts.{word, known}
use Rattle.wide_rows.proofs.Taps.{taps-at}
use Rattle.wide_rows.proofs.rows.sum.Given.{Over}
use Rattle.wide_rows.proofs.rows.sum.Goals as goal

module _ (g : Over) (c : goal.After-s-1 g) where
  abbrev j : ℕ
  j = c.loop-j.j

  abbrev xs : List ℤ
  xs = taps g.row.N c.args.i c.args.d c.args.w.now

  so_far : Num (to_z w32 c.loop-j.s-bits) (dot_z (take j c.args.k) xs) (j * 2 ^ 22)
  so_far = record { is = c.loop-j.invariant.is; size = subst (λ (z : ℤ). nat_abs z ≤ j * 2 ^ 22) c.loop-j.invariant.is c.loop-j.invariant.small }

  product : Num (word (get_or c.args.k j (pos 0)) *ℤ word c.at-x.result) (get_or c.args.k j (pos 0) *ℤ get_or xs j (pos 0)) (2 ^ 22)
  product =
      times (known refl (within_all (2 ^ 7) c.args.k c.requires.2 j) (lit< tt))
      (known (c.at-x.ensures.0 ∙ sym (taps-at g.row.N c.args.i c.args.d c.args.w.now j c.loop-j-test.true)) c.at-x.ensures.1 (lit< tt))

  total : Num (to_z w32 c.loop-j.s-bits +ℤ word (word (get_or c.args.k j (pos 0)) *ℤ word c.at-x.result)) (dot_z (take j c.args.k) xs +ℤ get_or c.args.k j (pos 0) *ℤ get_or xs j (pos 0)) (j * 2 ^ 22 + 2 ^ 22)
  total = plus so_far (read product w32 (lit< tt))

  room : j * 2 ^ 22 + 2 ^ 22 < 2 ^ 31
  room = omega (arith, c.requires.1)

pub overflow_mul-s : goal.overflow_mul-s
overflow_mul-s g c = ask (product g c) w32 (lit< tt)

pub overflow_add-s : goal.overflow_add-s
overflow_add-s g c = ask (total g c) w32 (room g c)

pub loop-j-preserved : goal.loop-j-preserved
loop-j-preserved g c =
    let r = read (total g c) w32 (room g c) in
    record {
      is = r.is ∙ sym (dot-step (j g c) c.args.k (xs g c)) ∙ ap (λ n. dot_z (take n c.args.k) (xs g c)) (sym (add-one (j g c)));
      small = subst (λ (z : ℤ). nat_abs z ≤ (j g c + 1) * 2 ^ 22) (sym r.is) (omega (arith, r.size));
    }
