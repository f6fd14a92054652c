-- From a present block of bytes to a wanted one leads exactly one list of levels: the wide theorem, read back. Assumes nothing.
--     bytes-exists      it is a taken step, and the plane then shows the wanted bytes
--     bytes-unique      no other list of levels is one
use mathlib.Core.Path.{◌≡◌, sym, ap, ◌∙◌}
use mathlib.Core.Bool.{true, ◌&&◌}
use mathlib.Core.List.{List, map}
use Prim.Native.Nat.{ℕ}
use lib.Dec.{leb}
use lib.IntN.{ℤ, pos, nat_abs}
use lib.ListN.{get_or, length-map, get_or-map}
use Rattle.whole.specs.Sums.{item}
use Rattle.answers.specs.declared.Answer.{Answer}
use Rattle.answers.specs.Answers.{done}
use Rattle.octets.specs.Octets.{Bytes}
use Rattle.octets.proofs.Lists.{byte-is, bytes-all}
use Rattle.wht.specs.Wht.{fwht}
use Rattle.lossless.specs.Step.{Where, spot, sample, fits, step_of}
use Rattle.lossless.specs.Wanted.{Ready, Samples, difference, step_with}
use Rattle.lossless.proofs.Wanted.{exists, unique}
use Rattle.bytesteps.specs.Steps.{step_bytes}
use Rattle.bytesteps.specs.Wanted.{ReadyBytes, SixteenBytes, ShowsBytes, step_to_bytes}
use Rattle.bytesteps.proofs.Widened.{at-eight, step_back}

in-range : (depth : ℕ) → depth ≡ 8 → (b : List ℕ) → Bytes b → (i : ℕ) → sample depth (item (map pos b) i) ≡ true
in-range depth e b h i = ap (λ (d : ℕ). sample d (item (map pos b) i)) e ∙ ap (sample 8) (get_or-map pos b i 0) ∙ byte-is (get_or b i 0) (bytes-all b h i)

module _ (b : List ℕ) (w : Where) (c : List ℕ) (r : ReadyBytes b w) (wanted : SixteenBytes c) where
  ready : Ready (map pos b) w
  ready = record {
    depths = ap (λ (d : ℕ). leb 8 d && leb d 12) r.eight;
    wide = r.wide;
    visible = r.visible;
    fit = ap (fits w) (length-map b pos) ∙ r.fit;
    present = λ k h. in-range w.depth r.eight b r.bytes (spot w k);
  }

  sixteen : Samples w.depth (map pos c)
  sixteen = record { count = length-map c pos ∙ wanted.count; good = λ k h. in-range w.depth r.eight c wanted.bytes k }

  pub bytes-exists : ((step_bytes b (step_to_bytes b w c)).0 ≡ done) × ShowsBytes (step_bytes b (step_to_bytes b w c)).1 w c
  bytes-exists =
      let s = step_to_bytes b w c in
      let is = at-eight step_of b s r.eight in
      let x = exists (map pos b) w (map pos c) ready sixteen in (
        ap (λ (y : Answer × List ℕ). y.0) is ∙ x.0,
        record {
          shown = λ k h. ap (λ (y : Answer × List ℕ). get_or y.1 (spot w k) 0) is ∙ get_or-map nat_abs (step_of (map pos b) s).1 (spot w k) (pos 0) ∙ ap nat_abs (x.1.shown k h ∙ get_or-map pos c k 0);
        },
      )

  pub bytes-unique : (l : List ℤ) → (step_bytes b (step_with w l)).0.number ≡ 0 → ShowsBytes (step_bytes b (step_with w l)).1 w c → l ≡ fwht (difference (map pos b) w (map pos c))
  bytes-unique l e sh =
      let s = step_with w l in
      let is = at-eight step_of b s r.eight in
      let left = (step_of (map pos b) s).1 in
      unique (map pos b) w (map pos c) ready sixteen l (ap (λ (y : Answer × List ℕ). y.0.number) (sym is) ∙ e) (record {
        shown = λ k h. ap (λ (p : List ℤ). item p (spot w k)) (sym (step_back b s)) ∙ get_or-map pos (map nat_abs left) (spot w k) 0
            ∙ ap pos (ap (λ (y : Answer × List ℕ). get_or y.1 (spot w k) 0) (sym is) ∙ sh.shown k h) ∙ sym (get_or-map pos c k 0);
      })
