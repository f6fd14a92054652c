-- Lines of a work area by their places: line k has its number x at place k * s + x * p, which is `cell k x`. Assumes nothing.
--     row-places, column-places     the rows and the columns of an area lie in it, apart from each other
--     lines-places, lines-bound     the same of lines given by s and p, and a bound on their numbers
--     lines-gained                  what a pass over such lines leaves, by `cell`
--     fours                         a side of a block is made of fours
use mathlib.Core.Path.{◌≡◌, refl, sym, ap, ◌∙◌, subst}
use mathlib.Core.Bool.{true}
use mathlib.Core.List.{List}
use Prim.Native.Nat.{ℕ, ◌+◌, ◌*◌, ◌%◌, ◌≤◌, ◌<◌}
use lib.IntN.{ℤ, pos, nat_abs}
use lib.ListN.{get_or}
use Rattle.whole.specs.Lanes.{Places}
use Rattle.whole.specs.Grid.{rows_by}
use Rattle.whole.proofs.Cells.{cell_in, cell-inj}
use Rattle.whole.proofs.Fill.{tab-same}
use Rattle.tables.specs.Sizes.{cut}
use Rattle.tables.specs.Kinds.{has_kind}
use Rattle.tables.proofs.Kernels.{Length, n4, n8, n16, n32, n64, lengths}

pub row-places : (w h n : ℕ) → h * w ≤ n → Places h w (λ k x. k * w + x) n
row-places w h n fit = record { inside = λ k x a b. cell_in a b fit; apart = λ k x l y a b c d e. cell-inj k l b d e }

pub column-places : (w h n : ℕ) → h * w ≤ n → Places w h (λ k x. x * w + k) n
column-places w h n fit = record { inside = λ k x a b. cell_in b a fit; apart = λ k x l y a b c d e. let q = cell-inj x y a c e in (q.1, q.0) }

module _ (s p : ℕ) (cell : ℕ → ℕ → ℕ) (is : (k x : ℕ) → k * s + x * p ≡ cell k x) where
  pub lines-places : {count m n : ℕ} → Places count m cell n → Places count m (λ k x. k * s + x * p) n
  lines-places {n} q = record {
    inside = λ k x a b. subst (λ (z : ℕ). z < n) (sym (is k x)) (q.inside k x a b);
    apart = λ k x l y a b c d e. q.apart k x l y a b c d (sym (is k x) ∙ e ∙ is l y);
  }

  pub lines-bound : (b : ℕ) (t : List ℤ) {count m : ℕ} → ((k x : ℕ) → k < count → x < m → nat_abs (get_or t (cell k x) (pos 0)) ≤ b) → (k x : ℕ) → k < count → x < m → nat_abs (get_or t (k * s + x * p) (pos 0)) ≤ b
  lines-bound b t h k x a c = subst (λ (z : ℕ). nat_abs (get_or t z (pos 0)) ≤ b) (sym (is k x)) (h k x a c)

  pub lines-gained : (K : List ℤ → List ℤ) (m : ℕ) (t u : List ℤ) (k x : ℕ) → get_or u (k * s + x * p) (pos 0) ≡ rows_by K m (λ k x. get_or t (k * s + x * p) (pos 0)) k x → get_or u (cell k x) (pos 0) ≡ rows_by K m (λ k x. get_or t (cell k x) (pos 0)) k x
  lines-gained K m t u k x e =
      ap (λ z. get_or u z (pos 0)) (sym (is k x)) ∙ e
      ∙ ap (λ l. get_or (K l) x (pos 0)) (tab-same m (λ x. get_or t (k * s + x * p) (pos 0)) (λ x. get_or t (cell k x) (pos 0)) (λ y q. ap (λ z. get_or t z (pos 0)) (is k y)))

pub fours : (n code : ℕ) → has_kind n code ≡ true → cut n % 4 ≡ 0
fours n code h = by_length (lengths n code h).0
  where
    by_length : {m : ℕ} → Length m → cut m % 4 ≡ 0
    by_length n4 = refl
    by_length n8 = refl
    by_length n16 = refl
    by_length n32 = refl
    by_length n64 = refl
