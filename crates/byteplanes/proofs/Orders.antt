-- The calls on bytes in the two orders of the coefficients, and their refusal 7: the wide theorems, read back. Assumes nothing.
--     bytes-turned     a list in column order and its turned copy in row order: the same number, and where it is 0 the same answer and the same bytes
--     bytes-seven      where refusals 1 to 6 and 11 pass, the first coefficient out of range is refused with 7, at its place
use mathlib.Core.Path.{◌≡◌, refl, sym, ap, ◌∙◌, subst}
use mathlib.Core.Bool.{Bool, true, false, ◌&&◌}
use mathlib.Core.List.{List, map}
use Prim.Native.Nat.{ℕ, ◌*◌, ◌≤◌}
use borrow.Author.Tests.{eqb-true, leb-true}
use lib.Dec.{eqb, leb}
use lib.IntN.{ℤ, pos, nat_abs}
use lib.ListN.{length, length-map}
use Rattle.whole.proofs.Tests.{both}
use Rattle.answers.specs.declared.Answer.{Answer}
use Rattle.answers.specs.Answers.{done, refused}
use Rattle.octets.specs.Octets.{Bytes}
use Rattle.octets.proofs.Lists.{numbers-back}
use Rattle.tables.specs.Sizes.{cut}
use Rattle.passes.specs.Passes.{sw_of, sh_of}
use Rattle.verdicts.specs.Verdicts.{w_of, h_of, FirstOutside, add_front}
use Rattle.pixels.specs.Calls.{strict, strict_rows, Turned}
use Rattle.pixels.proofs.Turned.{add_turned}
use Rattle.pixels.proofs.Strict.{add_seven}
use Rattle.byteplanes.specs.Bytes.{bytes_verdict, bytes_of}
use Rattle.byteplanes.proofs.Accepting.{bytes-passed}
use Rattle.byteplanes.proofs.Widened.{bytes-wide}

module _ (tx txtp : ℕ) (cs ds : List ℤ) (t : Turned (sw_of tx) (sh_of tx) cs ds) (dst : List ℕ) (b : Bytes dst) (stride : ℕ) where
  abbrev columns : ℕ → Answer × List ℕ
  columns depth = bytes_of strict dst stride cs txtp tx depth

  abbrev rows : ℕ → Answer × List ℕ
  rows depth = bytes_of strict_rows dst stride ds txtp tx depth

  abbrev Alike : ℕ → Type 0
  Alike depth = ((columns depth).0.number ≡ (rows depth).0.number) × ((columns depth).0.number ≡ 0 → columns depth ≡ rows depth)

  -- at depth 8, without a side of 64
  wide-alike : w_of tx ≤ 32 → h_of tx ≤ 32 → Alike 8
  wide-alike p q =
      let c = bytes-wide strict dst stride cs txtp tx b p q in
      let r = bytes-wide strict_rows dst stride ds txtp tx b p q in
      let a = add_turned tx txtp 8 cs ds t (map pos dst) stride in (
        ap (λ (x : Answer × List ℤ). x.0.number) (sym c) ∙ a.0 ∙ ap (λ (x : Answer × List ℤ). x.0.number) r,
        λ z. ap (λ (l : List ℕ). ((columns 8).0, l)) (sym (numbers-back (columns 8).1))
            ∙ ap (λ (x : Answer × List ℤ). (x.0, map nat_abs x.1)) (sym c ∙ a.1 (ap (λ (x : Answer × List ℤ). x.0.number) c ∙ z) ∙ r)
            ∙ ap (λ (l : List ℕ). ((rows 8).0, l)) (numbers-back (rows 8).1),
      )

  pub bytes-turned : (depth : ℕ) → Alike depth
  unfolding bytes_of bytes_verdict
  bytes-turned depth = (by_tests (eqb depth 8) (leb (w_of tx) 32 && leb (h_of tx) 32) refl refl, taken)
    where
      alike : depth ≡ 8 → w_of tx ≤ 32 → h_of tx ≤ 32 → Alike depth
      alike e p q = subst Alike (sym e) (wide-alike p q)

      taken : (columns depth).0.number ≡ 0 → columns depth ≡ rows depth
      taken z = let n = (bytes-passed true (length dst) stride cs txtp tx depth z).narrow in (alike n.eight n.across n.down).1 z

      by_tests : (e s : Bool) → eqb depth 8 ≡ e → (leb (w_of tx) 32 && leb (h_of tx) 32) ≡ s → (columns depth).0.number ≡ (rows depth).0.number
      by_tests false s p q = rw p
      by_tests true false p q = rw (p, q)
      by_tests true true p q =
          let r = both (leb (w_of tx) 32) (leb (h_of tx) 32) q in
          (alike (eqb-true depth 8 p) (leb-true (w_of tx) 32 r.0) (leb-true (h_of tx) 32 r.1)).0

-- refusals 1 to 6 of the wide call pass
pub bytes-seven : (dst : List ℕ) (stride : ℕ) (cs : List ℤ) (txtp tx : ℕ) → Bytes dst → w_of tx ≤ 32 → h_of tx ≤ 32 → (add_front (length dst) stride (length cs) txtp tx 8 done).number ≡ 0
    → (k : ℕ) → FirstOutside 8 (cut (w_of tx) * cut (h_of tx)) cs k → (bytes_of strict dst stride cs txtp tx 8).0 ≡ refused 7 1 k
bytes-seven dst stride cs txtp tx b p q fits k f =
    ap (λ (x : Answer × List ℤ). x.0) (sym (bytes-wide strict dst stride cs txtp tx b p q))
    ∙ add_seven (map pos dst) stride cs txtp tx 8 (subst (λ (n : ℕ). (add_front n stride (length cs) txtp tx 8 done).number ≡ 0) (sym (length-map dst pos)) fits) k f
