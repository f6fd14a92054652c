-- What commands keep of a screen's memory, taken or refused. Assumes nothing.
--     past-good       a memory that calls have led to is good: its steps, taken from the still, leave its plane, and its index is what they say
--     count_none, none-index     an empty list, and its index
--     past-begun, held_new     an empty history, and that of a new screen
--     few-cells, cells-part, shape_of      the cells of a screen fit their room; its sides are in range
--     past-redrawn, past-changed, past-withdrawn, past-folded, past-obey     each command
--     past-undone, undo-done, count-undone     the newest step taken back: it is accepted, and one step less remains
--     past_after                 the memory after any command
--     obey-number, after-number, fits-number     a call and a command by its number: what it does; that a change alone asks for something
--     call-number                the call of a call's own number is that call
--     Undoing, undoing-more     a loop that takes back the newest steps
--     redrawn-kept, redrawn-new      a block that is refused, and one that is drawn
--     change-is, fold_is         the calls behind a change and a fold
use mathlib.Core.Path.{◌≡◌, refl, sym, ap, ◌∙◌, subst}
use mathlib.Core.Bool.{Bool, true, false, cond}
use Rattle.std.specs.Prelude.{Some}
use mathlib.Core.List.{List, [], ◌++◌}
use Prim.Native.Nat.{ℕ, zero, suc, ◌+◌, ◌*◌, ◌-◌, ◌≤◌, ◌<◌}
use native.Mathlib.Nat as N
use native.Mathlib.Numerals.{add-one}
use native.Mathlib.Omega.{arith}
use borrow.Author.Tests.{le-leb, eqb-true}
use lib.Dec.{eqb}
use lib.IntN.{ℤ, pos}
use lib.ListN.{length, set, take, drop, length-set, take-append-drop}
use lib.Seq.{get_or-set_same, length-take-le}
use Rattle.answers.specs.declared.Answer.{Answer}
use Rattle.answers.specs.Answers.{done}
use Rattle.answers.proofs.Verdicts.{left}
use Rattle.answers.proofs.Endings.{ends-refused, ends-done}
use Rattle.whole.specs.Sums.{tab}
use Rattle.lossless.specs.Wanted.{Samples}
use Rattle.whole.proofs.Tests.{and-true}
use Rattle.verdicts.specs.Verdicts.{add_verdict}
use Rattle.pixels.specs.Calls.{strict, add_of, added}
use Rattle.remain.specs.Remaining.{count, marks}
use Rattle.remain.specs.Touch.{across, index_of, last_touch}
use Rattle.keeping.specs.Range.{Area, area, shaped}
use Rattle.history.specs.Calls.{Lent, lent, taken_out, step_of, undo_of, withdraw_of}
use Rattle.history.proofs.Kept.{count-taken-out}
use Rattle.reached.specs.Holds.{Good}
use Rattle.reached.proofs.Calls.{undo-accepts}
use Rattle.reached.proofs.Always.{by_answer}
use Rattle.folding.specs.Fold.{Folded, three_of, fold_of}
use Rattle.folding.specs.Led as D
use Rattle.folding.specs.Led.{with_folded}
use Rattle.folding.proofs.Led.{led-good}
use Rattle.screen.specs.declared.Screen.{Screen}
use Rattle.screen.specs.Planes.{argument, block_stands, block_of, from_on, drawn_of}
use Rattle.screen.specs.declared.command.Call.{Call}
use Rattle.screen.specs.declared.command.Call.TheVariants.{Block, Change, Withdraw, Fold}
use Rattle.screen.specs.declared.command.Act.{Act}
use Rattle.screen.specs.declared.command.Act.TheVariants.{One, Undo}
use Rattle.screen.specs.Screens.{Sound}
use Rattle.screen.specs.Commands.{call_of, number_of, CallFits}
use Rattle.screen.specs.Steps.{wanted, levels_to}
use Rattle.screen.proofs.Planes.{screen-part}
use Rattle.past.specs.Commands.{emptied, redrawn_of, changed_of, folded_of, obey_of, undone, act_of, after_of, cells, Past, Held}

pub past-good : (a : Area) (m : Lent) (p : Past a m) → Good a p.still m
past-good a m p = led-good a p.still m p.led

-- ---- an empty history
pub count_none : (s : List ℕ) → 0 < length s → count (set s 0 0) ≡ 0
count_none s h = get_or-set_same s 0 0 0 h

pub none-index : (width rows : ℕ) (s : List ℕ) → 0 < length s → index_of width rows (marks (set s 0 0) (count (set s 0 0))) ≡ tab (across rows * across width) (λ _. 0)
unfolding last_touch
none-index width rows s h = ap (λ k. index_of width rows (marks (set s 0 0) k)) (count_none s h)

pub past-begun : (a : Area) (m : Lent) (p : List ℤ) → shaped a ≡ true → a.size ≡ length p → length m.steps ≡ 16385 → length m.levels ≡ 65536 → Past a (emptied a p m)
past-begun a m p h z s l =
    record {
      still = p;
      led = D.begun
          (record {
            size = z;
            shape = h;
            steps = length-set m.steps 0 0 ∙ s;
            levels = l;
            empty = count_none m.steps (omega (arith, s));
            index = refl;
          })
          refl;
    }

-- ---- each command
module _ (a : Area) (m : Lent) (p : Past a m) where
  good : Good a p.still m
  good = past-good a m p

  pub past-redrawn : (depth : ℕ) (list : List ℤ) → length (redrawn_of a depth list m).1.plane ≡ a.size → Past a (redrawn_of a depth list m).1
  unfolding redrawn_of
  past-redrawn depth list =
      by_answer (λ (x : Lent). length x.plane ≡ a.size → Past a x) drawn.0 m (emptied a drawn.1 m) (λ _. p)
      (λ _ e. past-begun a m drawn.1 good.keeping.shape (sym e) good.keeping.steps good.keeping.levels)
    where
      drawn : Answer × List ℤ
      drawn = drawn_of a.stride a.width a.rows depth list m.plane

  pub past-changed : (depth : ℕ) (list : List ℤ) → Past a (changed_of a depth list m).1
  unfolding changed_of
  past-changed depth list = record { still = p.still; led = D.stepped depth (argument list 0) (argument list 1) _ p.led }

  pub past-withdrawn : (q : ℕ) → Past a (withdraw_of a q m).1
  past-withdrawn q = record { still = p.still; led = D.withdrawn q p.led }

  pub past-folded : Past a (folded_of a m).1
  unfolding folded_of
  past-folded = record { still = p.still; led = D.folded p.led }

  pub past-obey : (call : Call) (depth : ℕ) (list : List ℤ) → length (obey_of a call depth list m).1.plane ≡ a.size → Past a (obey_of a call depth list m).1
  past-obey Block depth list e = past-redrawn depth list e
  past-obey Change depth list e = past-changed depth list
  past-obey Withdraw depth list e = past-withdrawn (argument list 0)
  past-obey Fold depth list e = past-folded

  -- ---- the newest step taken back
  pub past-undone : Past a (undo_of a m).1
  past-undone = record { still = p.still; led = D.undone p.led }

  module _ (some : 0 < count m.steps) where
    accepts : undo_of a m ≡ (done, taken_out a (count m.steps - 1) m)
    accepts = undo-accepts a p.still m good.size good.holds good.keeping some

    pub undo-done : {x : Answer} {n : Lent} → (x, n) ≡ undo_of a m → x ≡ done
    undo-done e = ap (λ (y : Answer × Lent). y.0) (e ∙ accepts)

    pub count-undone : count (undo_of a m).1.steps ≡ count m.steps - 1
    count-undone =
        ap (λ (y : Answer × Lent). count y.1.steps) accepts ∙ count-taken-out (count m.steps - 1) m.steps (omega (arith, good.keeping.steps))

-- ---- any command
pub past-undos : (a : Area) (m : Lent) → Past a m → (k : ℕ) → Past a (undone a k m)
past-undos a m p zero = p
past-undos a m p (suc k) = past-undone a (undone a k m) (past-undos a m p k)

pub past_after : (a : Area) (m : Lent) → Past a m → (act : Act) (depth : ℕ) (list : List ℤ) → length (after_of a act depth list m).plane ≡ a.size → Past a (after_of a act depth list m)
past_after a m p (One c) depth list e = past-obey a m p c depth list e
past_after a m p Undo depth list e = past-undos a m p (argument list 0)

-- after i turns: what is left, that it can go on, and how many steps remain
pub record Undoing (a : Area) (m : Lent) (i : ℕ) (n : Lent) : Type 0 where
  pub is : n ≡ undone a i m
  pub past : Past a n
  pub left : count n.steps + i ≡ count m.steps

pub undoing-more : (a : Area) (m n n' : Lent) (i : ℕ) → Undoing a m i n → 0 < count n.steps → (done, n') ≡ undo_of a n → Undoing a m (i + 1) n'
undoing-more a m n n' i u some e =
    let q : n' ≡ (undo_of a n).1 = ap (λ (x : Answer × Lent). x.1) e in
    record {
      is = q ∙ ap (λ (x : Lent). (undo_of a x).1) u.is ∙ ap (λ k. undone a k m) (sym (add-one i));
      past = subst (Past a) (sym q) (past-undone a n u.past);
      left = omega (arith, ap (λ (x : Lent). count x.steps) q, count-undone a n u.past some, u.left, some);
    }

-- ---- a call by a command's number
pub obey-number : (a : Area) (n depth : ℕ) (list : List ℤ) (m : Lent) → obey_of a (call_of n) depth list m
    ≡ cond (eqb n 2) (redrawn_of a depth list m) (cond (eqb n 3) (changed_of a depth list m) (cond (eqb n 4) (withdraw_of a (argument list 0) m) (folded_of a m)))
obey-number a n depth list m = go (eqb n 2) (eqb n 3) (eqb n 4)
  where
    go : (x y z : Bool) → obey_of a (cond x Block (cond y Change (cond z Withdraw Fold))) depth list m
        ≡ cond x (redrawn_of a depth list m) (cond y (changed_of a depth list m) (cond z (withdraw_of a (argument list 0) m) (folded_of a m)))
    go true y z = refl
    go false true z = refl
    go false false true = refl
    go false false false = refl

pub after-number : (a : Area) (n depth : ℕ) (list : List ℤ) (m : Lent) → after_of a (act_of n) depth list m
    ≡ cond (eqb n 6) (undone a (argument list 0) m)
    (cond (eqb n 2) (redrawn_of a depth list m) (cond (eqb n 3) (changed_of a depth list m) (cond (eqb n 4) (withdraw_of a (argument list 0) m) (folded_of a m)))).1
after-number a n depth list m = go (eqb n 6) ∙ ap (λ (x : Answer × Lent). cond (eqb n 6) (undone a (argument list 0) m) x.1) (obey-number a n depth list m)
  where
    go : (x : Bool) → after_of a (cond x Undo (One (call_of n))) depth list m ≡ cond x (undone a (argument list 0) m) (obey_of a (call_of n) depth list m).1
    go true = refl
    go false = refl

pub fits-number : (n : ℕ) (s : Screen) (list : List ℤ) → (n ≡ 3 → Samples s.depth (wanted list)) → CallFits (call_of n) s list
fits-number n s list f = go (eqb n 2) (eqb n 3) refl (eqb n 4)
  where
    go : (x y : Bool) → eqb n 3 ≡ y → (z : Bool) → CallFits (cond x Block (cond y Change (cond z Withdraw Fold))) s list
    go true y e z = tt
    go false true e z = f (eqb-true n 3 e)
    go false false e true = tt
    go false false e false = tt

pub call-number : (c : Call) → call_of (number_of c) ≡ c
call-number Block = refl
call-number Change = refl
call-number Withdraw = refl
call-number Fold = refl

-- ---- a new screen
pub few-cells : (w h : ℕ) → w ≤ 256 → h ≤ 256 → across h * across w ≤ 4096
few-cells w h a b =
    let x : across h ≤ 64 = omega arith in
    let y : across w ≤ 64 = omega arith in
    N.mul-le-mul x y

pub cells-part : (w h : ℕ) (x : List ℕ) → w ≤ 256 → h ≤ 256 → 4096 ≤ length x → length (take (across h * across w) x) ≡ across h * across w
cells-part w h x a b c = length-take-le (across h * across w) x (N.le_trans (few-cells w h a b) c)

pub shape_of : (s : Screen) (n : ℕ) → Sound s → 4 ≤ s.width → 4 ≤ s.height → shaped (area n s.stride s.width s.height) ≡ true
shape_of s n z w h =
    and-true (and-true (le-leb 4 s.stride (N.le_trans w z.wide)) (le-leb s.stride 65536 (omega (arith, z.long))))
    (and-true (and-true (le-leb 4 s.width w) (le-leb s.width s.stride z.wide)) (and-true (le-leb 4 s.height h) (le-leb s.height 65536 (omega (arith, z.high)))))

pub held_new : (s : Screen) (room levels : List ℤ) (steps steps' index' : List ℕ) → Sound s → 4 ≤ s.width → 4 ≤ s.height → 81920 ≤ length room → length steps ≡ 16385
    → length levels ≡ 65536 → steps' ≡ set steps 0 0 → take (cells s) index' ≡ tab (cells s) (λ _. 0) → Held (Some s) room steps' levels index'
held_new s room levels steps steps' index' z w h r t l e f =
    let n = s.stride * s.height in
    let a = area n s.stride s.width s.height in
    let p = take n room in (
      (z, omega (arith, w, z.wide)),
      subst (λ (x : List ℕ). Past a (lent p steps' levels x)) (sym f)
          (subst (λ (y : List ℕ). Past a (lent p y levels (tab (cells s) (λ _. 0)))) (sym e)
          (past-begun a (lent p steps levels []) p (shape_of s n z w h) (sym (screen-part room z.long z.high r)) t l)),
    )

-- ---- a block, as the code has it
block_refused : (p : List ℤ) (t w h r c : ℕ) (cs : List ℤ) (y x d : ℕ) → ((block_of p t w h r c cs y x d).0.number ≡ 0 → ⊥) → (block_of p t w h r c cs y x d).1 ≡ p
unfolding block_of add_of
block_refused p t w h r c cs y x d = go (block_stands w h r c x)
  where
    go : (b : Bool)
        → ((cond b (from_on (r * t + c) p (add_of strict (drop (r * t + c) p) t cs y x d)) ((add_of strict [] t cs y x d).0, p)).0.number ≡ 0 → ⊥)
        → (cond b (from_on (r * t + c) p (add_of strict (drop (r * t + c) p) t cs y x d)) ((add_of strict [] t cs y x d).0, p)).1 ≡ p
    go true ne =
        ap (λ l. take (r * t + c) p ++ l)
        (left (add_verdict true (drop (r * t + c) p) t cs y x d) (drop (r * t + c) p) (added false (drop (r * t + c) p) t cs y x d) ne)
        ∙ take-append-drop (r * t + c) p
    go false ne = refl

module _ (a : Area) (depth : ℕ) (list : List ℤ) (m : Lent) {r : Answer} {q : List ℤ} (e : (r, q) ≡ drawn_of a.stride a.width a.rows depth list m.plane) where
  abbrev drawing : Answer × List ℤ
  drawing = drawn_of a.stride a.width a.rows depth list m.plane

  answer : r ≡ drawing.0
  answer = ap (λ (x : Answer × List ℤ). x.0) e

  plane : q ≡ drawing.1
  plane = ap (λ (x : Answer × List ℤ). x.1) e

  pub redrawn-kept : (r.number ≡ 0 → ⊥) → (r, lent q m.steps m.levels m.index) ≡ redrawn_of a depth list m
  unfolding redrawn_of
  redrawn-kept ne =
      ap (λ (p : List ℤ). (r, lent p m.steps m.levels m.index))
      (plane ∙ block_refused m.plane a.stride a.width a.rows _ _ (drop 4 list) _ _ depth (λ z. ne (ap (λ (x : Answer). x.number) answer ∙ z)))
      ∙ ends-refused answer m (emptied a drawing.1 m) ne

  pub redrawn-new : r.number ≡ 0 → {s x : List ℕ} → s ≡ set m.steps 0 0 → x ≡ tab (across a.rows * across a.width) (λ _. 0)
      → (r, lent q s m.levels x) ≡ redrawn_of a depth list m
  unfolding redrawn_of
  redrawn-new z f g = ends-done answer m z (λ i. lent (plane i) (f i) m.levels (g i))

pub change-is : (a : Area) (depth : ℕ) (list : List ℤ) (m : Lent) {r c : ℕ} {v : List ℤ} {x : Answer × Lent} → r ≡ argument list 0 → c ≡ argument list 1
    → v ≡ levels_to depth a.stride a.width a.rows r c m.plane (wanted list) (tab 16 (λ _. pos 0)) → x ≡ step_of a depth r c v m → x ≡ changed_of a depth list m
unfolding changed_of
change-is a depth list m {r} {c} {v} e f g q =
    q ∙ ap (λ v. step_of a depth r c v m) g
    ∙ (λ i. step_of a depth (e i) (f i) (levels_to depth a.stride a.width a.rows (e i) (f i) m.plane (wanted list) (tab 16 (λ _. pos 0))) m)

pub fold_is : (a : Area) (m : Lent) {r : Answer} {s : List ℕ} {l : List ℤ} {x : List ℕ} → (r, three_of s l x) ≡ fold_of a m.steps m.levels m.index
    → (r, lent m.plane s l x) ≡ folded_of a m
unfolding folded_of
fold_is a m e = ap (λ (y : Answer × Folded). (y.0, with_folded m y.1)) e
