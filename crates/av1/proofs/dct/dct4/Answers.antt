-- `av1::dct::dct4` meets its contract: the run of its table, step by step. Assumes nothing.
use mathlib.Core.Path.{◌≡◌, sym, ap, ◌∙◌}
use mathlib.Core.List.{List, [], ◌∷◌}
use Prim.Native.Nat.{ℕ}
use lib.Dec.{lit<, lit≤}
use lib.IntN.{ℤ, pos, ◌+ℤ◌, ◌-ℤ◌}
use mir.Syntax.{w32}
use mir.Val.{to_z, of_z}
use Rattle.std.proofs.lemmas.Result.{err_from_is_err_and}
use Rattle.answers.specs.declared.Answer.{Answer}
use Rattle.answers.specs.Answers.{done}
use Rattle.answers.proofs.Verdicts.{ends-err, ends-ok}
use Rattle.whole.specs.Sums.{Within, item}
use Rattle.whole.proofs.Num.{Num, made, plus, minus, ask, read, back, size_of}
use Rattle.whole.proofs.Sums.{within_all}
use Rattle.av1.specs.Four.{four_verdict}
use Rattle.av1.proofs.Going.{turn-x-size, turn-y-size}
use Rattle.av1.proofs.ByFour.{A, B, C, D, verdict_of, results_of, four-at}
use Rattle.av1.proofs.dct.dct4.Goals as goal

abbrev M : ℤ → ℤ
M z = to_z w32 (of_z w32 z)

number : (t : List ℤ) → Within 524288 t → (i : ℕ) → Num (M (item t i)) (item t i) 524288
number t h i = made w32 (within_all 524288 t h i) (lit< tt)

module _ (c : goal.After-turn_y-d) where
  abbrev X : ℕ → ℤ
  X i = item c.args.t.now i

  n : (i : ℕ) → Num (M (X i)) (X i) 524288
  n i = number c.args.t.now c.requires.t_bound i

  -- what the two turns leave
  a : Num (M c.turn_y-a.result) (A (X 0) (X 2)) 2097152
  a = record { is = back c.turn_y-a.type_inv ∙ (rw ((n 0).is, (n 2).is) at c.turn_y-a.ensures); size = turn-y-size (pos 2896) (pos 2896) (X 0) (X 2) (lit≤ tt) (lit≤ tt) (n 0).size (n 2).size }

  b : Num (M c.turn_x-b.result) (B (X 0) (X 2)) 2097152
  b = record { is = back c.turn_x-b.type_inv ∙ (rw ((n 0).is, (n 2).is) at c.turn_x-b.ensures); size = turn-x-size (pos 2896) (pos 2896) (X 0) (X 2) (lit≤ tt) (lit≤ tt) (n 0).size (n 2).size }

  e : Num (M c.turn_x-c.result) (C (X 1) (X 3)) 2097152
  e = record { is = back c.turn_x-c.type_inv ∙ (rw ((n 1).is, (n 3).is) at c.turn_x-c.ensures); size = turn-x-size (pos 1567) (pos 3784) (X 1) (X 3) (lit≤ tt) (lit≤ tt) (n 1).size (n 3).size }

  d : Num (M c.turn_y-d.result) (D (X 1) (X 3)) 2097152
  d = record { is = back c.turn_y-d.type_inv ∙ (rw ((n 1).is, (n 3).is) at c.turn_y-d.ensures); size = turn-y-size (pos 1567) (pos 3784) (X 1) (X 3) (lit≤ tt) (lit≤ tt) (n 1).size (n 3).size }

-- the sums and the differences, and what the machine has of them
module _ (c : goal.After-turn_y-d) where
  p : Num (M c.turn_y-a.result +ℤ M c.turn_y-d.result) (A (X c 0) (X c 2) +ℤ D (X c 1) (X c 3)) 4194304
  p = plus (a c) (d c)

  q : Num (M c.turn_y-a.result -ℤ M c.turn_y-d.result) (A (X c 0) (X c 2) -ℤ D (X c 1) (X c 3)) 4194304
  q = minus (a c) (d c)

  r : Num (M c.turn_x-b.result +ℤ M c.turn_x-c.result) (B (X c 0) (X c 2) +ℤ C (X c 1) (X c 3)) 4194304
  r = plus (b c) (e c)

  u : Num (M c.turn_x-b.result -ℤ M c.turn_x-c.result) (B (X c 0) (X c 2) -ℤ C (X c 1) (X c 3)) 4194304
  u = minus (b c) (e c)

-- the verdict on them, and the work
module _ (c : goal.After-turn_y-d) where
  abbrev Results : List ℤ
  Results = results_of (X c 0) (X c 1) (X c 2) (X c 3)

  told : {v : Answer}
      → v ≡ four_verdict c.args.ends.lo c.args.ends.hi (M (M c.turn_y-a.result +ℤ M c.turn_y-d.result)) (M (M c.turn_y-a.result -ℤ M c.turn_y-d.result)) (M (M c.turn_x-b.result +ℤ M c.turn_x-c.result)) (M (M c.turn_x-b.result -ℤ M c.turn_x-c.result))
      → v ≡ verdict_of c.args.ends.lo c.args.ends.hi (X c 0) (X c 1) (X c 2) (X c 3)
  told {v} h =
      rw ((read (p c) w32 (lit< tt)).is, (read (q c) w32 (lit< tt)).is, (read (r c) w32 (lit< tt)).is, (read (u c) w32 (lit< tt)).is) at h

pub turn_y-a-requires : goal.turn_y-a-requires
turn_y-a-requires c = let n = number c.args.t.now c.requires.t_bound in (size_of (n 0) (lit≤ tt), size_of (n 2) (lit≤ tt), lit≤ tt, lit≤ tt)

pub turn_x-b-requires : goal.turn_x-b-requires
turn_x-b-requires c = let n = number c.args.t.now c.requires.t_bound in (size_of (n 0) (lit≤ tt), size_of (n 2) (lit≤ tt), lit≤ tt, lit≤ tt)

pub turn_x-c-requires : goal.turn_x-c-requires
turn_x-c-requires c = let n = number c.args.t.now c.requires.t_bound in (size_of (n 1) (lit≤ tt), size_of (n 3) (lit≤ tt), lit≤ tt, lit≤ tt)

pub turn_y-d-requires : goal.turn_y-d-requires
turn_y-d-requires c = let n = number c.args.t.now c.requires.t_bound in (size_of (n 1) (lit≤ tt), size_of (n 3) (lit≤ tt), lit≤ tt, lit≤ tt)

pub overflow_add-p : goal.overflow_add-p
overflow_add-p c = ask (p c) w32 (lit< tt)

pub overflow_sub-q : goal.overflow_sub-q
overflow_sub-q c = ask (q c) w32 (lit< tt)

pub overflow_add-r : goal.overflow_add-r
overflow_add-r c = ask (r c) w32 (lit< tt)

pub overflow_sub-s : goal.overflow_sub-s
overflow_sub-s c = ask (u c) w32 (lit< tt)

pub returns-in_err-judged4 : goal.returns-in_err-judged4
returns-in_err-judged4 c =
    let z = err_from_is_err_and c.from_residual.result c.from_residual.ensures.1 in
    let s = c.before.before.before.before in
    rw (z.1, z.2) (ends-err c.args.t.now (Results s) c.in_err-judged4.field-0.0 (told s c.in_err-judged4.ensures) ∙ sym (four-at c.args.ends.lo c.args.ends.hi c.args.t.now c.requires.t_len))

pub returns : goal.returns
returns c =
    let s = c.before.before.before.before.before.before.before in
    let rp = (read (p s) w32 (lit< tt)).is in
    let rq = (read (q s) w32 (lit< tt)).is in
    let rr = (read (r s) w32 (lit< tt)).is in
    let ru = (read (u s) w32 (lit< tt)).is in
    ap (λ (l : List ℤ). (done, l)) (c.copy_from_slice.ensures.after ∙ (λ i. rp i ∷ rr i ∷ ru i ∷ rq i ∷ []))
    ∙ ends-ok c.args.t.now (Results s) (told s c.in_ok-judged4.ensures)
    ∙ sym (four-at c.args.ends.lo c.args.ends.hi c.args.t.now c.requires.t_len)
