-- Taking one lossless step back out of the middle, and exchanging neighbours: document 02, section 8. Assumes nothing.
--     apart-back                the steps may change their places
--     was, left                 an accepted call: its tests passed, and what it left
--     after-other               a call accepted on a plane is accepted after another that shares no sample with it
--     steps-exchange, steps-withdraw, steps-remain      the three statements, of the lossless steps
use mathlib.Core.Path.{◌≡◌, sym, ap, ◌∙◌}
use mathlib.Core.List.{List, ◌∷◌, ◌++◌, map}
use Prim.Native.Nat.{ℕ, ◌<◌}
use lib.IntN.{ℤ, neg_ℤ, ◌+ℤ◌}
use lib.ListN.{length}
use Rattle.whole.specs.Sums.{item}
use Rattle.answers.specs.declared.Answer.{Answer}
use Rattle.answers.specs.Answers.{done}
use Rattle.wht.specs.Wht.{iwht}
use Rattle.lossless.specs.Gains.{gain, gained}
use Rattle.lossless.specs.Step.{Step, spot, sample, front, gain_of, step_of, undo_of}
use Rattle.lossless.specs.Replay.{Apart, Replay, Clear, Came}
use Rattle.lossless.proofs.Gains.{length-add_on, add_on-swap}
use Rattle.lossless.proofs.Blocks.{Passes, elsewhere}
use Rattle.lossless.proofs.Calls.{accepted, taking, taken, refused-is}
use Rattle.lossless.proofs.Undo.{undo-exact, redo-exact}
use Rattle.lossless.proofs.Middle.{exchange, withdraw, remains}

pub apart-back : {s t : Step} → Apart s t → Apart t s
apart-back n = record { none = λ x. n.none (record { mine = x.other; other = x.mine; mine-in = x.other-in; other-in = x.mine-in; same = sym x.same }) }

-- t has gained h: the samples of s are as they were, and so are its tests
module _ (p : List ℤ) (s t : Step) (g h : ℕ → ℤ) (n : Apart s t) where
  still : (k : ℕ) → k < 16 → item (gained (spot t.at) h p) (spot s.at k) ≡ item p (spot s.at k)
  still k l = elsewhere (spot t.at) h p (spot s.at k) (λ j m e. n.none (record { mine = k; other = j; mine-in = l; other-in = m; same = sym e }))

  still-passes : Passes (sample s.at.depth) (spot s.at) p g → Passes (sample s.at.depth) (spot s.at) (gained (spot t.at) h p) g
  still-passes a =
      record {
        present = λ k l. ap (sample s.at.depth) (still k l) ∙ a.present k l;
        later = λ k l. ap (λ z. sample s.at.depth (z +ℤ g k)) (still k l) ∙ a.later k l;
      }

module _ (p q : List ℤ) (s : Step) (g : ℕ → ℤ) (e : gain_of p s g ≡ (done, q)) where
  pub was : ((front (length p) s).number ≡ 0) × Passes (sample s.at.depth) (spot s.at) p g
  was = accepted (front (length p) s) (sample s.at.depth) (spot s.at) p g (ap (λ (x : Answer × List ℤ). x.0.number) e)

  pub left : gained (spot s.at) g p ≡ q
  left = ap (λ (x : Answer × List ℤ). x.1) (sym (taking (front (length p) s) (sample s.at.depth) (spot s.at) p g was.0 was.1) ∙ e)

pub after-other : (p q : List ℤ) (s t : Step) (g h : ℕ → ℤ) → Apart s t → gain_of p s g ≡ (done, q)
    → gain_of (gained (spot t.at) h p) s g ≡ (done, gained (spot s.at) g (gained (spot t.at) h p))
after-other p q s t g h n e =
    let a = was p q s g e in
    taking (front (length (gained (spot t.at) h p)) s) (sample s.at.depth) (spot s.at) (gained (spot t.at) h p) g
    (ap (λ (m : ℕ). (front m s).number) (length-add_on (gain (spot t.at) h 16) p) ∙ a.0) (still-passes p s t g h n a.1)

-- two calls that are accepted on one plane and share no sample
both_ways : (p q r : List ℤ) (s t : Step) (g h : ℕ → ℤ) → Apart t s → gain_of p s g ≡ (done, q) → gain_of p t h ≡ (done, r)
    → (x : List ℤ) × (gain_of r s g ≡ (done, x)) × (gain_of q t h ≡ (done, x))
both_ways p q r s t g h n e f = (
  gained (spot s.at) g (gained (spot t.at) h p),
  ap (λ y. gain_of y s g) (sym (left p r t h f)) ∙ after-other p q s t g h (apart-back n) e,
  ap (λ y. gain_of y t h) (sym (left p q s g e)) ∙ after-other p r t s h g n f
      ∙ ap (λ (y : List ℤ). (done, y)) (add_on-swap (gain (spot t.at) h 16) (gain (spot s.at) g 16) p),
)

-- ---- what Middle asks of the lossless steps
step_kept : (p : List ℤ) (s : Step) → ((step_of p s).0.number ≡ 0 → ⊥) → (step_of p s).1 ≡ p
step_kept p s = refused-is (front (length p) s) (sample s.at.depth) (spot s.at) p (item (iwht s.levels))

step-done : (p : List ℤ) (s : Step) → (step_of p s).0.number ≡ 0 → (step_of p s).0 ≡ done
step-done p s e = ap (λ (x : Answer × List ℤ). x.0) (taken (front (length p) s) (sample s.at.depth) (spot s.at) p (item (iwht s.levels)) e)

step-undone : (p q : List ℤ) (s : Step) → step_of p s ≡ (done, q) → undo_of q s ≡ (done, p)
step-undone p q s e = ap (λ (x : Answer × List ℤ). undo_of x.1 s) (sym e) ∙ undo-exact p s (ap (λ (x : Answer × List ℤ). x.0.number) e)

undo-redone : (p q : List ℤ) (s : Step) → undo_of p s ≡ (done, q) → step_of q s ≡ (done, p)
undo-redone p q s e = ap (λ (x : Answer × List ℤ). step_of x.1 s) (sym e) ∙ redo-exact p s (ap (λ (x : Answer × List ℤ). x.0.number) e)

crossing : (p q r : List ℤ) (s t : Step) → Apart t s → undo_of p s ≡ (done, q) → step_of p t ≡ (done, r) → (x : List ℤ) × (undo_of r s ≡ (done, x)) × (step_of q t ≡ (done, x))
crossing p q r s t = both_ways p q r s t (item (map neg_ℤ (iwht s.levels))) (item (iwht t.levels))

-- ---- the statements
pub steps-remain : (p r : List ℤ) (ts : List Step) → Came step_of undo_of Apart p ts r → Replay step_of p ts r
steps-remain = remains step_of undo_of Apart step_kept step-done step-undone undo-redone crossing

pub steps-withdraw : (p r : List ℤ) (us ts : List Step) (s : Step) → Clear Apart s us → Replay step_of p (us ++ s ∷ ts) r
    → (x : List ℤ) × (undo_of r s ≡ (done, x)) × Replay step_of p (us ++ ts) x
steps-withdraw = withdraw step_of undo_of Apart step_kept step-done step-undone undo-redone crossing

pub steps-exchange : (p r : List ℤ) (us ts : List Step) (s t : Step) → Apart t s → Replay step_of p (us ++ t ∷ s ∷ ts) r → Replay step_of p (us ++ s ∷ t ∷ ts) r
steps-exchange = exchange step_of undo_of Apart step_kept step-done step-undone undo-redone crossing
