-- Rows that are loaded side by side, and turned into groups. Assumes nothing.
--     loaded-done          a loop over the numbers of the lines has come to its end
--     in_rows, in-columns  the number of row r + l, column x by the strides of its order
--     turned-one           one group: the rows of a block of at most sixteen columns
--     turned_two           two groups
--     side_by_side         what the DCT of sixteen lines leaves, in the words of the passes
--     group-none, group-then     no row yet; some rows more
--     entered-line, group-same   what a line holds once it is loaded; equal rules, equal groups
use mathlib.Core.Path.{◌≡◌, refl, sym, ap, ◌∙◌, subst}
use mathlib.Core.Logic.{◌⊎◌, inl, inr}
use mathlib.Core.List.{List}
use Prim.Native.Nat.{ℕ, zero, suc, ◌+◌, ◌*◌, ◌-◌, ◌≤◌, ◌<◌}
use native.Mathlib.Nat as N
use native.Mathlib.Omega.{arith}
use lib.IntN.{ℤ, pos}
use lib.ListN.{get_or}
use Rattle.whole.specs.Sums.{tab, dense_c}
use Rattle.whole.proofs.Cells.{under}
use Rattle.whole.proofs.Fill.{tab-at, tab-same}
use Rattle.whole.proofs.Lent.{Rewriting}
use Rattle.tables.specs.Dense.{dct_table}
use Rattle.passes.specs.Passes.{settled_to}
use Rattle.wide_rows.specs.Lines.{line, Silent, Transformed}
use Rattle.wide_rows.proofs.Taps.{taps-tab}
use Rattle.narrow.specs.Painted.{Painted}
use Rattle.narrow.proofs.Paints.{paint-in, paint-out}
use Rattle.fast.specs.Groups.{Loaded, cell_of, Grouped, dct_of, Dry}

pub loaded-done : {live k : ℕ} {f : ℕ → ℕ → ℤ} {old t : List ℤ} → Rewriting (pos 0) 16 k (λ x l. f l x) old t live → k ≤ 16 → Loaded live k f old t
loaded-done {live} {k} p few = record {
  long = p.long;
  holds = λ l x a b. p.holds x l b a;
  rest = λ l x a b. p.others (x * 16 + l) (λ r y c d e. apart l x r y a b c d e);
}
  where
    apart : (l x r y : ℕ) → l < 16 → live ≤ x → r < live → y < k → x * 16 + l ≡ r * 16 + y → ⊥
    apart l x r y a b c d e = omega arith

pub in_rows : (sw r l x : ℕ) → r * sw + x * 1 + l * sw ≡ (r + l) * sw + x
in_rows sw r l x = omega (arith, N.add-mul r l sw)

pub in-columns : (sh r l x : ℕ) → r * 1 + x * sh + l * 1 ≡ r + l + x * sh
in-columns sh r l x = omega arith

-- ---- results that are turned
pub turned-one : {sw sh r k : ℕ} (shift : ℕ) (out old new : List ℤ) → Painted (pos 0) (r * 16) 16 sw k (λ l m. settled_to 15 shift (get_or out (0 + l + m * 16) (pos 0))) old new → sw ≤ 16 → r + k ≤ sh → Grouped sw sh r k (λ l x. settled_to 15 shift (line out l x)) old new
turned-one {sw} {sh} {r} {k} shift out old new p few fit = record {
  long = p.long;
  holds = λ q l m a b c. ap (λ i. get_or new i (pos 0)) (first q l m b) ∙ paint-in r p l m c (omega arith) ∙ ap (λ i. settled_to 15 shift (get_or out i (pos 0))) (place q l m b);
  others = λ q x m a b c d. paint-out r p (q * sh + x) m few a (away q x b c d);
}
  where
    none : (q m : ℕ) → 16 * q + m < sw → q ≡ 0
    none q m h = omega arith

    first : (q l m : ℕ) → 16 * q + m < sw → (q * sh + (r + l)) * 16 + m ≡ (r + l) * 16 + m
    first q l m h = ap (λ z. (z * sh + (r + l)) * 16 + m) (none q m h) ∙ omega arith

    place : (q l m : ℕ) → 16 * q + m < sw → 0 + l + m * 16 ≡ (16 * q + m) * 16 + l
    place q l m h = omega (arith, none q m h)

    away : (q x : ℕ) → 16 * q < sw → x < sh → ((x < r) ⊎ (r + k ≤ x)) → ((q * sh + x < r) ⊎ (r + k ≤ q * sh + x))
    away q x h c (inl d) = inl (subst (λ (z : ℕ). z * sh + x < r) (sym (none q 0 (omega arith))) (omega arith))
    away q x h c (inr d) = inr (omega arith)

pub turned_two : {sh r k : ℕ} (shift : ℕ) (out old mid new : List ℤ) → Painted (pos 0) (r * 16) 16 16 k (λ l m. settled_to 15 shift (get_or out (0 + l + m * 16) (pos 0))) old mid
    → Painted (pos 0) ((sh + r) * 16) 16 16 k (λ l m. settled_to 15 shift (get_or out (256 + l + m * 16) (pos 0))) mid new → r + k ≤ sh → Grouped 32 sh r k (λ l x. settled_to 15 shift (line out l x)) old new
turned_two {sh} {r} {k} shift out old mid new p s fit = record {
  long = s.long ∙ p.long;
  holds = λ q l m a b c. here q l m a b c (less q m b);
  others = λ q x m a b c d. there q x m a c d (less q 0 (omega arith));
}
  where
    less : (q m : ℕ) → 16 * q + m < 32 → (q ≡ 0) ⊎ (q ≡ 1)
    less q m h = go q (omega arith)
      where
        go : (q : ℕ) → q < 2 → (q ≡ 0) ⊎ (q ≡ 1)
        go zero h = inl refl
        go (suc zero) h = inr refl
        go (suc (suc q)) h = absurd (omega arith)

    here : (q l m : ℕ) → m < 16 → 16 * q + m < 32 → l < k → ((q ≡ 0) ⊎ (q ≡ 1)) → cell_of sh new q (r + l) m ≡ settled_to 15 shift (line out l (16 * q + m))
    here q l m a b c (inl e) =
        ap (λ z. cell_of sh new z (r + l) m) e ∙ ap (λ i. get_or new i (pos 0)) (flat l m) ∙ paint-out (sh + r) s (r + l) m (N.le_refl 16) a (inl (omega arith)) ∙ paint-in r p l m c a
        ∙ ap (λ i. settled_to 15 shift (get_or out i (pos 0))) (place q l m e)
      where
        flat : (l m : ℕ) → (0 * sh + (r + l)) * 16 + m ≡ (r + l) * 16 + m
        flat l m = omega arith

        place : (q l m : ℕ) → q ≡ 0 → 0 + l + m * 16 ≡ (16 * q + m) * 16 + l
        place q l m e = omega arith
    here q l m a b c (inr e) =
        ap (λ z. cell_of sh new z (r + l) m) e ∙ ap (λ i. get_or new i (pos 0)) (flat l m) ∙ paint-in (sh + r) s l m c a ∙ ap (λ i. settled_to 15 shift (get_or out i (pos 0))) (place q l m e)
      where
        flat : (l m : ℕ) → (1 * sh + (r + l)) * 16 + m ≡ (sh + r + l) * 16 + m
        flat l m = omega arith

        place : (q l m : ℕ) → q ≡ 1 → 256 + l + m * 16 ≡ (16 * q + m) * 16 + l
        place q l m e = omega arith

    there : (q x m : ℕ) → m < 16 → x < sh → ((x < r) ⊎ (r + k ≤ x)) → ((q ≡ 0) ⊎ (q ≡ 1)) → cell_of sh new q x m ≡ cell_of sh old q x m
    there q x m a c d e = paint-out (sh + r) s (q * sh + x) m (N.le_refl 16) a (second d e) ∙ paint-out r p (q * sh + x) m (N.le_refl 16) a (first d e)
      where
        none : (z : ℕ) → z ≡ 0 → z * sh + x ≡ x
        none z h = ap (λ v. v * sh + x) h ∙ omega arith

        one : (z : ℕ) → z ≡ 1 → z * sh + x ≡ sh + x
        one z h = ap (λ v. v * sh + x) h ∙ omega arith

        first : ((x < r) ⊎ (r + k ≤ x)) → ((q ≡ 0) ⊎ (q ≡ 1)) → ((q * sh + x < r) ⊎ (r + k ≤ q * sh + x))
        first (inl d) (inl e) = inl (omega (arith, none q e))
        first (inr d) (inl e) = inr (omega (arith, none q e))
        first d (inr e) = inr (omega (arith, one q e))

        second : ((x < r) ⊎ (r + k ≤ x)) → ((q ≡ 0) ⊎ (q ≡ 1)) → ((q * sh + x < sh + r) ⊎ (sh + r + k ≤ q * sh + x))
        second d (inl e) = inl (omega (arith, none q e))
        second (inl d) (inr e) = inl (omega (arith, one q e))
        second (inr d) (inr e) = inr (omega (arith, one q e))

-- ---- the DCT of sixteen lines
pub side_by_side : (n l : ℕ) (g : ℕ → ℤ) (w out : List ℤ) → Transformed n (dct_table n) 16 w out → l < 16 → ((x : ℕ) → x < n → line w l x ≡ g x) → (x : ℕ) → x < n → line out l x ≡ get_or (dct_of n (tab n g)) x (pos 0)
side_by_side n l g w out t h same x b =
    sym (tab-at (pos 0) n (line out l) x b) ∙ ap (λ z. get_or z x (pos 0)) (t l h)
    ∙ ap (λ z. get_or (dense_c n (dct_table n) z) x (pos 0)) (taps-tab n l 16 w ∙ tab-same n (λ i. get_or w (l + i * 16) (pos 0)) g (λ i q. ap (λ j. get_or w j (pos 0)) (N.add_comm l (i * 16)) ∙ same i q))

-- ---- rows one after the other
pub group-none : (sw sh : ℕ) (f : ℕ → ℕ → ℤ) (old : List ℤ) → Grouped sw sh 0 0 f old old
group-none sw sh f old = record { long = refl; holds = λ q l m a b c. absurd (N.not-suc-le-zero c); others = λ q r m a b c d. refl }

pub group-then : {sw sh r k : ℕ} {f : ℕ → ℕ → ℤ} {old mid new : List ℤ} → Grouped sw sh 0 r f old mid → Grouped sw sh r k (λ l x. f (r + l) x) mid new → r + k ≤ sh → Grouped sw sh 0 (r + k) f old new
group-then {sw} {sh} {r} {k} {f} {old} {mid} {new} p s fit = record {
  long = s.long ∙ p.long;
  holds = λ q l m a b c. here q l m a b c (under r l);
  others = λ q x m a b c d. s.others q x m a b c (out d) ∙ p.others q x m a b c (low d);
}
  where
    flat : (q l m : ℕ) → (q * sh + (0 + l)) * 16 + m ≡ (q * sh + l) * 16 + m
    flat q l m = omega arith

    out : {x : ℕ} → ((x < 0) ⊎ (0 + (r + k) ≤ x)) → ((x < r) ⊎ (r + k ≤ x))
    out (inl d) = absurd (omega arith)
    out (inr d) = inr (omega arith)

    low : {x : ℕ} → ((x < 0) ⊎ (0 + (r + k) ≤ x)) → ((x < 0) ⊎ (0 + r ≤ x))
    low (inl d) = inl d
    low (inr d) = inr (omega arith)

    here : (q l m : ℕ) → m < 16 → 16 * q + m < sw → l < r + k → ((r ≤ l) ⊎ (l < r)) → cell_of sh new q (0 + l) m ≡ f l (16 * q + m)
    here q l m a b c (inl d) =
        ap (λ i. get_or new i (pos 0)) (place q l m d) ∙ s.holds q (l - r) m a b (omega arith) ∙ ap (λ z. f z (16 * q + m)) (whole l d)
      where
        whole : (l : ℕ) → r ≤ l → r + (l - r) ≡ l
        whole l d = omega arith

        place : (q l m : ℕ) → r ≤ l → (q * sh + (0 + l)) * 16 + m ≡ (q * sh + (r + (l - r))) * 16 + m
        place q l m d = omega arith
    here q l m a b c (inr d) =
        ap (λ i. get_or new i (pos 0)) (flat q l m) ∙ s.others q l m a (omega arith) (omega arith) (inl d) ∙ ap (λ i. get_or mid i (pos 0)) (sym (flat q l m)) ∙ p.holds q l m a b d

-- ---- one group of rows
pub entered-line : (sw sh live r : ℕ) {k : ℕ} (g : ℕ → ℕ → ℤ) (old new : List ℤ) → Loaded live k (λ l x. g (r + l) x) old new → Silent sw live old → Dry sw sh live g → r + k ≤ sh → k ≤ 16 → (l x : ℕ) → l < k → x < sw → line new l x ≡ g (r + l) x
entered-line sw sh live r {k} g old new p silent dry fit few l x a b = go (under live x)
  where
    go : ((live ≤ x) ⊎ (x < live)) → line new l x ≡ g (r + l) x
    go (inl c) = p.rest l x (omega arith) c ∙ silent l x (omega arith) c b ∙ sym (dry (r + l) x (omega arith) c b)
    go (inr c) = p.holds l x a c

pub group-same : {sw sh a k : ℕ} {f g : ℕ → ℕ → ℤ} {old new : List ℤ} → ((l x : ℕ) → l < k → x < sw → f l x ≡ g l x) → Grouped sw sh a k f old new → Grouped sw sh a k g old new
group-same same p = record { long = p.long; holds = λ q l m a b c. p.holds q l m a b c ∙ same l (16 * q + m) c b; others = p.others }
