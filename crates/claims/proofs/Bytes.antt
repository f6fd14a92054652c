-- Planes of bytes, from document 02, section 4, and the mission's third demand read over them. `map pos` is the plane of the same values. Assumes nothing.
--     bytes-keep, bytes_one             a refused add call on bytes leaves them as they were; two outcomes that its promise allows are the same
--     bytes-as-wide, bytes-accepted     at depth 8 and without a side of 64 the wide call on a plane of the same values has the same answer, refused or not, and
--                                       leaves the same values; so it is for every accepted call
--     bytes-never-8                     refusal 8 never comes
--     bytes-slice                       which slice each refusal names
--     bytes-orders, bytes-refused       both orders of the coefficients; refusal 7 at the first coefficient out of range, once the tests before it pass
--     step-bytes-.., undo-bytes-..      the same of the lossless step and its undo
--     bytes-undone, all-bytes-undone    a taken step is undone exactly; undoing the k newest taken steps of any history, newest first, is never refused
--     bytes-wanted, bytes-only          exactly one list of sixteen levels leads from a block of bytes to a wanted one
--     bytes-pad-kept                    a byte at or past the visible width is the same after any row of steps and undos
use mathlib.Core.Path.{◌≡◌, refl}
use mathlib.Core.Bool.{Bool, true, false, cond, ◌&&◌}
use mathlib.Core.List.{List, map}
use Prim.Native.Nat.{ℕ, ◌+◌, ◌*◌, ◌-◌, ◌≤◌}
use lib.Dec.{eqb, leb}
use lib.IntN.{ℤ, pos}
use lib.ListN.{length, get_or}
use Rattle.whole.specs.Search.{seek}
use Rattle.answers.specs.declared.Answer.{Answer}
use Rattle.answers.specs.Answers.{done, refused, unless}
use Rattle.answers.proofs.Verdicts.{either, search-either}
use Rattle.octets.specs.Octets.{Bytes}
use Rattle.tables.specs.Sizes.{cut, scaled}
use Rattle.verdicts.specs.Verdicts.{w_of, h_of, coeff_ok, FirstOutside, add_front}
use Rattle.pixels.specs.Calls.{Reading, strict, strict_rows, Turned, add_of}
use Rattle.wht.specs.Wht.{fwht}
use Rattle.lossless.specs.Step.{Where, Step, step_of, undo_of}
use Rattle.lossless.specs.History.{after, trail, newest, found, Undoes}
use Rattle.lossless.specs.Pad.{Call, InPads}
use Rattle.lossless.specs.Wanted.{difference, step_with}
use Rattle.byteplanes.specs.Bytes.{bytes_verdict, bytes_of}
use Rattle.byteplanes.proofs.Outcomes.{bytes_left, bytes-outcome}
use Rattle.byteplanes.proofs.Widened.{bytes-wide, accepted-wide, eight-never}
use Rattle.byteplanes.proofs.Orders.{bytes-turned, bytes-seven}
use Rattle.bytesteps.specs.Steps.{read_back, step_bytes, undo_bytes, call_bytes}
use Rattle.bytesteps.specs.Wanted.{ReadyBytes, SixteenBytes, ShowsBytes, step_to_bytes}
use Rattle.bytesteps.proofs.Outcomes.{step-outcome, undo-outcome}
use Rattle.bytesteps.proofs.Widened.{step-wide, undo-wide, step-accepted, undo-accepted, step-eight-never, undo-eight-never}
use Rattle.bytesteps.proofs.Undone.{step-undone, step_left, undo-left, bytes-history, pad-bytes}
use Rattle.bytesteps.proofs.Arriving.{bytes-exists, bytes-unique}
use Rattle.claims.specs.Outcomes.{Keeps, One}
use Rattle.claims.specs.Slices.{enough, add_slice, step_slice}
use Rattle.claims.proofs.Slices.{Names, kinds-names, step-slice, undo-slice}

-- ---- the add call
module _ (how : Reading) (dst : List ℕ) (stride : ℕ) (cs : List ℤ) (txtp tx depth : ℕ) where
  pub bytes-keep : Keeps (bytes_of how dst stride cs txtp tx depth) dst
  bytes-keep = bytes_left how dst stride cs txtp tx depth

  pub bytes_one : One (bytes_of how dst stride cs txtp tx depth)
  bytes_one = bytes-outcome how dst stride cs txtp tx depth

  pub bytes-accepted : Bytes dst → (bytes_of how dst stride cs txtp tx depth).0.number ≡ 0
      → add_of how (map pos dst) stride cs txtp tx depth ≡ ((bytes_of how dst stride cs txtp tx depth).0, map pos (bytes_of how dst stride cs txtp tx depth).1)
  bytes-accepted = accepted-wide how dst stride cs txtp tx depth

  pub bytes-never-8 : (bytes_of how dst stride cs txtp tx depth).0.number ≡ 8 → ⊥
  bytes-never-8 = eight-never how dst stride cs txtp tx depth

  pub bytes-slice : let a = (bytes_of how dst stride cs txtp tx depth).0 in a.slice ≡ add_slice cs tx a.number
  unfolding bytes_of bytes_verdict
  bytes-slice =
      let six : ℕ = cond (enough tx cs) 2 1 in
      let count = cut (w_of tx) * cut (h_of tx) in
      either (Names six) (eqb depth 8) _ _ (λ e. refl) (λ e.
      either (Names six) (leb tx 24) _ _ (λ e. refl) (λ e.
      either (Names six) (leb (w_of tx) 32 && leb (h_of tx) 32) _ _ (λ e. refl) (λ e.
      kinds-names six tx txtp depth _
      (either (Names six) (leb (w_of tx) stride && leb stride 65536) _ _ (λ e. refl) (λ e.
      either (Names six) (enough tx cs) _ _ (λ e. rw e) (λ e.
      either (Names six) (leb ((h_of tx - 1) * stride + w_of tx) (length dst)) _ _ (λ f. rw e) (λ f.
      search-either 7 1 count (λ k. k) (seek (coeff_ok how.refuses (scaled (w_of tx) (h_of tx)) depth cs) 0 count) done (Names six) (λ g. refl) refl)))))))

pub bytes-as-wide : (how : Reading) (dst : List ℕ) (stride : ℕ) (cs : List ℤ) (txtp tx : ℕ) → Bytes dst → w_of tx ≤ 32 → h_of tx ≤ 32
    → add_of how (map pos dst) stride cs txtp tx 8 ≡ ((bytes_of how dst stride cs txtp tx 8).0, map pos (bytes_of how dst stride cs txtp tx 8).1)
bytes-as-wide = bytes-wide

module _ (tx txtp : ℕ) (cs ds : List ℤ) (turned : Turned (cut (w_of tx)) (cut (h_of tx)) cs ds) (dst : List ℕ) (bytes : Bytes dst) (stride : ℕ) where
  pub bytes-orders : (depth : ℕ)
      → ((bytes_of strict dst stride cs txtp tx depth).0.number ≡ (bytes_of strict_rows dst stride ds txtp tx depth).0.number)
      × ((bytes_of strict dst stride cs txtp tx depth).0.number ≡ 0 → bytes_of strict dst stride cs txtp tx depth ≡ bytes_of strict_rows dst stride ds txtp tx depth)
  bytes-orders = bytes-turned tx txtp cs ds turned dst bytes stride

pub bytes-refused : (dst : List ℕ) (stride : ℕ) (cs : List ℤ) (txtp tx : ℕ) → Bytes dst → w_of tx ≤ 32 → h_of tx ≤ 32
    → (add_front (length dst) stride (length cs) txtp tx 8 done).number ≡ 0
    → (k : ℕ) → FirstOutside 8 (cut (w_of tx) * cut (h_of tx)) cs k → (bytes_of strict dst stride cs txtp tx 8).0 ≡ refused 7 1 k
bytes-refused = bytes-seven

-- ---- the lossless step and its undo
module _ (b : List ℕ) (s : Step) where
  pub step-bytes-keep : Keeps (step_bytes b s) b
  step-bytes-keep = step_left b s

  pub undo-bytes-keep : Keeps (undo_bytes b s) b
  undo-bytes-keep = undo-left b s

  pub step-bytes-one : One (step_bytes b s)
  step-bytes-one x y = step-outcome b s

  pub undo-bytes-one : One (undo_bytes b s)
  undo-bytes-one x y = undo-outcome b s

  pub bytes-undone : (step_bytes b s).0.number ≡ 0 → undo_bytes (step_bytes b s).1 s ≡ (done, b)
  bytes-undone = step-undone b s

  pub step-bytes-as-wide : s.at.depth ≡ 8 → step_of (map pos b) s ≡ ((step_bytes b s).0, map pos (step_bytes b s).1)
  step-bytes-as-wide = step-wide b s

  pub undo-bytes-as-wide : s.at.depth ≡ 8 → undo_of (map pos b) s ≡ ((undo_bytes b s).0, map pos (undo_bytes b s).1)
  undo-bytes-as-wide = undo-wide b s

  pub step-bytes-accepted : (step_bytes b s).0.number ≡ 0 → step_of (map pos b) s ≡ ((step_bytes b s).0, map pos (step_bytes b s).1)
  step-bytes-accepted = step-accepted b s

  pub undo-bytes-accepted : (undo_bytes b s).0.number ≡ 0 → undo_of (map pos b) s ≡ ((undo_bytes b s).0, map pos (undo_bytes b s).1)
  undo-bytes-accepted = undo-accepted b s

  named : (wide : Answer × List ℤ) → (let a = wide.0 in a.slice ≡ step_slice s a.number) → (eight : Bool)
      → let a = (unless eight (refused 1 0 0, b) (read_back wide)).0 in a.slice ≡ step_slice s a.number
  named wide h true = h
  named wide h false = refl

  pub step-bytes-slice : let a = (step_bytes b s).0 in a.slice ≡ step_slice s a.number
  step-bytes-slice = named (step_of (map pos b) s) (step-slice (map pos b) s) (eqb s.at.depth 8)

  pub undo-bytes-slice : let a = (undo_bytes b s).0 in a.slice ≡ step_slice s a.number
  undo-bytes-slice = named (undo_of (map pos b) s) (undo-slice (map pos b) s) (eqb s.at.depth 8)

module _ (b : List ℕ) (bytes : Bytes b) (s : Step) where
  pub step-bytes-never-8 : (step_bytes b s).0.number ≡ 8 → ⊥
  step-bytes-never-8 = step-eight-never b bytes s

  pub undo-bytes-never-8 : (undo_bytes b s).0.number ≡ 8 → ⊥
  undo-bytes-never-8 = undo-eight-never b bytes s

pub all-bytes-undone : (b : List ℕ) (ts : List Step) (k : ℕ) → k ≤ length (trail step_bytes b ts)
    → Undoes undo_bytes (after step_bytes b ts) (newest k (trail step_bytes b ts)) (found (after step_bytes b ts) (trail step_bytes b ts) k)
all-bytes-undone = bytes-history

module _ (b : List ℕ) (w : Where) (c : List ℕ) (present : ReadyBytes b w) (wanted : SixteenBytes c) where
  pub bytes-wanted : ((step_bytes b (step_to_bytes b w c)).0 ≡ done) × ShowsBytes (step_bytes b (step_to_bytes b w c)).1 w c
  bytes-wanted = bytes-exists b w c present wanted

  pub bytes-only : (l : List ℤ) → (step_bytes b (step_with w l)).0.number ≡ 0 → ShowsBytes (step_bytes b (step_with w l)).1 w c → l ≡ fwht (difference (map pos b) w (map pos c))
  bytes-only = bytes-unique b w c present wanted

pub bytes-pad-kept : (b : List ℕ) (cs : List Call) (i : ℕ) → InPads i cs → get_or (after call_bytes b cs) i 0 ≡ get_or b i 0
bytes-pad-kept = pad-bytes
