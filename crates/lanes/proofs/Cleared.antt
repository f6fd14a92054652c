-- Records of which those from live on were cleared, and the kernel of their length. For any record: `at r k` is number k of r. Assumes nothing.
--     ready, gives             the n records are ready for the kernel, and what it leaves is the kernel of the live ones
--     head-ready, head-gives   the same of the head of a table, where at most four are live
use mathlib.Core.Path.{◌≡◌, sym, ap, ◌∙◌, subst}
use mathlib.Core.Bool.{true}
use mathlib.Core.List.{List}
use Prim.Native.Nat.{ℕ, ◌^◌, ◌≤◌}
use native.Mathlib.Nat as N
use lib.IntN.{ℤ}
use lib.ListN.{length, take, length-take}
use Rattle.whole.specs.Sums.{dense_c, Within}
use Rattle.whole.specs.Lanes.{col}
use Rattle.whole.proofs.Lanes.{col-length}
use Rattle.tables.specs.Sizes.{cut}
use Rattle.tables.specs.Kinds.{has_kind}
use Rattle.tables.specs.Dense.{first_of, dct_table, dense_of}
use Rattle.tables.proofs.First.{first-front}
use Rattle.tables.proofs.Heads.{head-four}
use Rattle.lanes.specs.View.{Live, Ready, Across}
use Rattle.lanes.proofs.Columns.{col-take}
use Rattle.lanes.proofs.Headed.{within-front}
use Rattle.lanes.proofs.Picks.{cut-kind, cut_dense, cut-table}

module _ {R : Type 0} (at : R → ℕ → ℤ) (n code live : ℕ) (h : has_kind n code ≡ true) (cs new : List R) (w : Live at (cut n) live cs) {m : ℕ} (e : m ≡ cut n) where
  abbrev kept : ℕ → List ℤ
  kept k = first_of live (take (cut n) (col at k cs))

  kept-within : (k : ℕ) → Within (2 ^ 19) (kept k)
  kept-within = w.1

  -- up to its length
  module _ (q : m ≤ length new) (f : (k : ℕ) → take m (col at k new) ≡ first_of live (take m (col at k cs))) where
    are : (k : ℕ) → col at k (take m new) ≡ kept k
    are k = col-take at m k new ∙ f k ∙ ap (λ j. first_of live (take j (col at k cs))) e

    pub ready : {d : ℕ} → m ≡ d → (has_kind d code ≡ true) × Ready at d (take m new)
    ready {d} i = (
      subst (λ (j : ℕ). has_kind j code ≡ true) (sym e ∙ i) (cut-kind n code h),
      (length-take m new ∙ N.min-eq_left q ∙ i, λ k. subst (Within (2 ^ 19)) (sym (are k)) (kept-within k)),
    )

    pub gives : (out : List R) {d : ℕ} → m ≡ d → Across at d (dense_of d code) (take m new) out → (k : ℕ) → take (cut n) (col at k out) ≡ dense_of n code (kept k)
    gives out {d} i r k =
        subst (λ (j : ℕ). take j (col at k out) ≡ dense_of j code (col at k (take m new))) (sym i ∙ e) (r k) ∙ ap (dense_of (cut n) code) (are k) ∙ cut_dense n code h (kept k)

  -- up to four
  module _ (l : live ≤ 4) (b : 4 ≤ cut n) (p : cut n ≤ length cs) (q : 4 ≤ length new) (f : (k : ℕ) → take 4 (col at k new) ≡ first_of live (take 4 (col at k cs))) where
    four : (k : ℕ) → col at k (take 4 new) ≡ take 4 (kept k)
    four k = col-take at 4 k new ∙ f k ∙ first-front live 4 (cut n) (col at k cs) l b (subst (λ (j : ℕ). cut n ≤ j) (sym (col-length at k cs)) p)

    pub head-ready : Ready at 4 (take 4 new)
    head-ready = (length-take 4 new ∙ N.min-eq_left q, λ k. subst (Within (2 ^ 19)) (sym (four k)) (within-front 4 (2 ^ 19) (kept k) (kept-within k)))

    pub head-gives : (out : List R) → code ≡ 0 → Across at m (dense_c m (dct_table m)) (take 4 new) out → (k : ℕ) → take (cut n) (col at k out) ≡ dense_of n code (kept k)
    unfolding dense_of
    head-gives out z r k =
        subst (λ (j : ℕ). take j (col at k out) ≡ dense_c j (dct_table j) (col at k (take 4 new))) e (r k)
        ∙ head-four (cut n) live (dct_table (cut n)) (take (cut n) (col at k cs)) (col at k (take 4 new)) l (four k) ∙ ap (λ t. dense_c (cut n) t (kept k)) (cut-table n code h)
        ∙ ap (λ c. dense_of n c (kept k)) (sym z)
